-- The parts of an answer are slices of its bytes.
use Rattle.std.proofs.Common.{◌≡◌, ℕ, List, [], ◌∷◌, ◌++◌, length, take, drop, Option, Some, None, Result, Ok, Err, refl, sym, ap, subst, ◌∙◌}
use Rattle.std.specs.Prelude.{IfOk}
use Rattle.std.proofs.lemmas.List.{take_at, drop_at}
use Rattle.ds_codec.specs.declared.size.Mode.{Mode}
use Rattle.ds_codec.specs.Character.{Glyph}
use Rattle.ds_inbound.specs.declared.refused.Refused.{Refused}
use Rattle.ds_inbound.specs.Answer.{Sent, Answer, written_characters}
use Rattle.ds_inbound.specs.Inbound.{AreFieldsThen, SpellsAfter, SpellsInbound, LieFrom, IsLaidOut}
use Rattle.ds_inbound.proofs.Glyphs.{written_then}

fields_lie : (mode : Mode) (cells : ℕ) (fields : List Sent) (bytes : List ℕ) → AreFieldsThen mode cells fields bytes [] → LieFrom bytes fields
fields_lie mode cells [] bytes is = is
fields_lie mode cells (field ∷ fields) bytes (more, (marked, raw, mark, (first, second, is, spelled, near), characters), later) =
    let w : List ℕ = written_characters field.characters in
    let behind : drop 3 bytes ≡ w ++ more = ap (drop 3) (mark ∙ ap (λ b. 17 ∷ b) is) ∙ written_then field.characters raw more characters in (
      ap (take (length w)) behind ∙ take_at w more (length w) refl,
      subst (λ b. LieFrom b fields) (sym (ap (drop (length w)) behind ∙ drop_at w more (length w) refl)) (fields_lie mode cells fields more later),
    )

after_laid : (mode : Mode) (cells aid : ℕ) (cursor : Option ℕ) (lead : List Glyph) (fields : List Sent) (rest : List ℕ) → SpellsAfter mode cells aid cursor lead fields rest
    → IsLaidOut (aid ∷ rest) (record { aid = aid; cursor = cursor; lead = lead; fields = fields })
after_laid mode cells aid None lead fields rest (short, no-lead, no-fields, is) = rw (is, no-lead, no-fields) (refl, refl)
after_laid mode cells aid (Some cursor) lead fields rest (body, (first, second, is, spelled, near), (more, characters, later)) =
    let w : List ℕ = written_characters lead in
    let behind : drop 3 (aid ∷ rest) ≡ w ++ more = ap (λ b. drop 3 (aid ∷ b)) is ∙ written_then lead body more characters in (
      ap (take (length w)) behind ∙ take_at w more (length w) refl,
      subst (λ b. LieFrom b fields) (sym (ap (drop (length w)) behind ∙ drop_at w more (length w) refl)) (fields_lie mode cells fields more later),
    )

pub spelled_laid : (mode : Mode) (cells : ℕ) (bytes : List ℕ) (answer : Answer) → SpellsInbound mode cells answer bytes → IsLaidOut bytes answer
spelled_laid mode cells bytes answer (rest, is, known, after) =
    subst (λ b. IsLaidOut b answer) (sym is) (after_laid mode cells answer.aid answer.cursor answer.lead answer.fields rest after)

pub read_laid : (mode : Mode) (cells : ℕ) (bytes : List ℕ) (r : Result Answer Refused) → IfOk r (λ answer. SpellsInbound mode cells answer bytes) → IfOk r (λ answer. IsLaidOut bytes answer)
read_laid mode cells bytes (Ok answer) says = spelled_laid mode cells bytes answer says
read_laid mode cells bytes (Err e) says = tt
