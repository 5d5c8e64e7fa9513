use Rattle.std.proofs.Common.{◌≡◌, ℕ, List, false, ◌&&◌, refl, sym, ap, ◌∙◌, subst}
use Rattle.std.proofs.lemmas.Result.{IfOk-weaker}
use Rattle.std.specs.Prelude.{IfOk}
use Rattle.cli_scripts.specs.TypedTexts.{is_text, TypesFree}
use Rattle.cli_scripts.proofs.TextLaws.{text_goes}
use Rattle.cli_scripts.proofs.typing.type_text.Goals.{else-is_in_error-via-then-is_in_error+else-is_text, else-is_in_error-via-else-is_in_error}
use Rattle.cli_scripts.proofs.typing.type_text.Goals as goal

pub returns-clause-typed : goal.returns-clause-typed
returns-clause-typed c =
    let test : (c.is_in_error.result && is_text c.args.typing.text.items) ≡ false = elim c.else-is_in_error.branch [
      | else-is_in_error-via-then-is_in_error+else-is_text w ↦
          ap (λ b. b && is_text c.args.typing.text.items) w.if-is_in_error.true ∙ ap is_text (sym w.deref.ensures.value) ∙ sym w.is_text.ensures ∙ w.if-is_text.false
      | else-is_in_error-via-else-is_in_error w ↦ ap (λ b. b && is_text c.args.typing.text.items) w.if-is_in_error.false
    ] in
    IfOk-weaker c.type_free.result _ _
    (λ step typed. text_goes c.args.desk.now.host c.waits.result c.is_in_error.result false c.args.code_page c.args.fills c.args.typing step c.args.desk.now c.type_free.new.desk
    c.args.saying.now c.type_free.new.saying refl (sym c.is_connected.ensures ∙ c.if-not-is_connected.false) c.waits.ensures c.if-waits.false c.is_in_error.ensures test typed)
    (subst (λ (text : List ℕ). IfOk c.type_free.result (λ step. TypesFree c.args.code_page c.args.fills step text c.args.desk.now c.type_free.new.desk c.args.saying.now c.type_free.new.saying))
    c.deref-2.ensures.value c.type_free.ensures.typed)
