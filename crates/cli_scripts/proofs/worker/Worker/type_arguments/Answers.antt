use Rattle.std.proofs.Common.{◌≡◌, ◌++◌, ◌∙◌, ℕ, Bool, false, List, Ok, Err, length, ◌≤◌, Vec, Global, drop, map, refl, sym, ap}
use Rattle.std.specs.List.{concat}
use Rattle.std.specs.Prelude.{Result, IfOk}
use Rattle.std.specs.declared.alloc.AllocError.{AllocError}
use Rattle.std.proofs.lemmas.List.{append-nil, drop_all}
use Rattle.script_screens.specs.declared.code_page.CodePage.{CodePage}
use Rattle.cli_scripts.specs.declared.doing.Step.{Step}
use Rattle.cli_scripts.specs.declared.doing.Typing.{Typing}
use Rattle.cli_scripts.specs.Desks.{Worked}
use Rattle.cli_scripts.specs.TypedTexts.{TypesArguments, TypesText}
use Rattle.cli_scripts.proofs.worker.Worker.type_arguments.Goals as goal

typed_so : (r : Result Step AllocError) (typing : Typing) (page : CodePage) (fills : Bool) (arguments : List (List ℕ)) (old new : Worked) (before after : List ℕ)
    → typing.text.items ≡ concat arguments → typing.after_send ≡ false → IfOk r (λ step. TypesText page fills typing step old new before after)
    → IfOk r (λ step. TypesArguments page fills arguments step old new before after)
typed_so (Ok step) typing page fills arguments old new before after is first typed = (typing, is, first, typed)
typed_so (Err why) typing page fills arguments old new before after is first typed = tt

all_of : (text : List ℕ) (arguments : List (Vec ℕ Global)) (index : ℕ) → length arguments ≤ index
    → text ++ concat (map (λ argument. argument.items) (drop index arguments)) ≡ concat (map (λ argument. argument.items) arguments)
    → text ≡ concat (map (λ argument. argument.items) arguments)
all_of text arguments index past is =
    sym (append-nil text) ∙ sym (ap (λ (z : List (Vec ℕ Global)). text ++ concat (map (λ argument. argument.items) z)) (drop_all index arguments past)) ∙ is

pub returns-clause-typed : goal.returns-clause-typed
returns-clause-typed c =
    typed_so c.type_on.result (record { text = c.arguments.text; after_send = false }) c.args.self.now.code_page c.args.self.now.settings.blank_fill
    (map (λ argument. argument.items) c.args.arguments.now) c.args.self.now.desk c.type_on.new.self.desk c.args.self.now.saying c.type_on.new.self.saying
    (all_of c.arguments.text.items c.args.arguments.now c.arguments.argument-index c.arguments-test.false c.arguments.invariant) refl c.type_on.ensures.typed
