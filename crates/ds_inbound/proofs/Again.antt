-- What is written is read again.
use Rattle.std.proofs.Common.{◌≡◌, ℕ, ◌/◌, ◌%◌, ◌<◌, ◌≤◌, Bool, true, false, cond, not, leb, ◌&&◌, List, [], ◌∷◌, ◌++◌, length, Option, Some, None, refl, sym, ap, subst, ◌∙◌, arith, append_assoc, inl, inr}
use Rattle.std.specs.List.{list_all}
use Rattle.std.proofs.lemmas.Bool.{leb-true, ltb-true, cond-true, cond-false}
use Rattle.std.proofs.lemmas.List.Concat.{flat_map-cons}
use Rattle.ds_codec.specs.declared.size.Mode.{Mode}
use Rattle.ds_codec.specs.declared.size.Mode.TheVariants.{Bits14}
use Rattle.ds_codec.specs.Address.{SpellsAddress, written_address, six_bit_code}
use Rattle.ds_codec.specs.Aid.{is_short_aid}
use Rattle.ds_codec.specs.Geometry.{limit_of, cells_of}
use Rattle.ds_codec.proofs.Below.{both_true}
use Rattle.ds_codec.proofs.Written.{written_spells}
use Rattle.ds_screen.specs.Picture.{Picture, IsSound}
use Rattle.ds_screen.specs.Fields.{attributes_from}
use Rattle.ds_inbound.specs.Answer.{Sent, Answer, lead_sent, fields_sent, short_answer, long_answer, answer_of, written_characters, written_field, written_fields, written_after, written_answer, bytes_sent}
use Rattle.ds_inbound.specs.Inbound.{is_sendable, IsAddressThen, IsFieldThen, AreFieldsThen, SpellsAfter, SpellsInbound}
use Rattle.ds_inbound.specs.Sending.{is_field_sendable, HasGoodCursor, IsSendable}
use Rattle.ds_inbound.proofs.Glyphs.{then_written}

-- ---- what can be sent is spelled as it is written

address_then : (mode : Mode) (cells address : ℕ) (rest : List ℕ) → cells ≤ limit_of mode → address < cells → IsAddressThen mode cells address (written_address mode cells address ++ rest) rest
address_then mode cells address rest few inside =
    let a = written_spells mode cells address few inside in
    (a.0, a.1, ap (λ b. b ++ rest) a.2, a.3, inside)

field_then : (mode : Mode) (cells : ℕ) (field : Sent) (rest : List ℕ) → cells ≤ limit_of mode → is_field_sendable cells field ≡ true
    → IsFieldThen mode cells field (written_field mode cells field ++ rest) rest
field_then mode cells field rest few good =
    let parts = both_true _ _ good in
    let place : field.place < cells = ltb-true field.place cells parts.0 in (
      (written_address mode cells field.place ++ written_characters field.characters) ++ rest,
      written_characters field.characters ++ rest,
      refl,
      rw (append_assoc (written_address mode cells field.place) (written_characters field.characters) rest) (address_then mode cells field.place (written_characters field.characters ++ rest) few place),
      then_written field.characters rest parts.1,
    )

fields_then : (mode : Mode) (cells : ℕ) (fields : List Sent) → cells ≤ limit_of mode → list_all (is_field_sendable cells) fields ≡ true
    → AreFieldsThen mode cells fields (written_fields mode cells fields) []
fields_then mode cells [] few good = refl
fields_then mode cells (field ∷ fields) few good =
    let parts = both_true _ _ good in
    let P : List ℕ → Type 0 = λ b. IsFieldThen mode cells field b (written_fields mode cells fields) in (
      written_fields mode cells fields,
      subst P (sym (flat_map-cons (written_field mode cells) field fields)) (field_then mode cells field (written_fields mode cells fields) few parts.0),
      fields_then mode cells fields few parts.1,
    )

after_spelled : (mode : Mode) (cells : ℕ) (answer : Answer) (cursor : Option ℕ) → IsSendable mode cells answer → HasGoodCursor cells answer cursor
    → SpellsAfter mode cells answer.aid cursor answer.lead answer.fields (written_after mode cells cursor answer.lead answer.fields)
after_spelled mode cells answer None good (short, lead, fields) = (short, lead, fields, refl)
after_spelled mode cells answer (Some cursor) good inside = (
  written_characters answer.lead ++ written_fields mode cells answer.fields,
  address_then mode cells cursor (written_characters answer.lead ++ written_fields mode cells answer.fields) good.few inside,
  (
    written_fields mode cells answer.fields,
    then_written answer.lead (written_fields mode cells answer.fields) good.lead,
    fields_then mode cells answer.fields good.few good.fields,
  ),
)

pub sendable_spelled : (mode : Mode) (cells : ℕ) (answer : Answer) → IsSendable mode cells answer → SpellsInbound mode cells answer (written_answer mode cells answer)
sendable_spelled mode cells answer good =
    (written_after mode cells answer.cursor answer.lead answer.fields, refl, good.aid, after_spelled mode cells answer answer.cursor good good.cursor)

-- ---- the answer of a picture

pub answer_short : (v : Picture) (all : Bool) → (is_short_aid v.aid && not all) ≡ true → answer_of v all ≡ short_answer v.aid
unfolding answer_of
answer_short v all alone = cond-true (is_short_aid v.aid && not all) _ _ alone

pub answer_long : (v : Picture) (all : Bool) → (is_short_aid v.aid && not all) ≡ false → answer_of v all ≡ long_answer v
unfolding answer_of
answer_long v all long = cond-false (is_short_aid v.aid && not all) _ _ long

pub sound_few : (v : Picture) → IsSound v → length v.cells ≤ limit_of v.geometry.mode
sound_few v sound =
    elim sound.one_of_two [
      | inl same ↦ omega (arith, sound.whole, ap cells_of same, sound.default_good.few_cells)
      | inr same ↦ omega (arith, sound.whole, ap cells_of same, sound.alternate_good.few_cells)
    ]

pub sound_cursor : (v : Picture) → IsSound v → v.cursor < length v.cells
sound_cursor v sound = omega (arith, sound.whole, sound.cursor_inside)

and_left : (a b : Bool) → (a && b) ≡ true → a ≡ true
and_left a b e = (both_true a b e).0

pub short_sendable : (v : Picture) (all : Bool) → IsSound v → (is_short_aid v.aid && not all) ≡ true
    → IsSendable v.geometry.mode (length v.cells) (answer_of v all)
short_sendable v all sound alone =
    rw (answer_short v all alone) (record { few = sound_few v sound; aid = sound.attention; cursor = (and_left (is_short_aid v.aid) (not all) alone, refl, refl); lead = refl; fields = refl })

pub long_sendable : (v : Picture) (all : Bool) → IsSound v → (is_short_aid v.aid && not all) ≡ false
    → list_all is_sendable (lead_sent v.cells (attributes_from v.cells 0)) ≡ true
    → list_all (is_field_sendable (length v.cells)) (fields_sent v.cells (attributes_from v.cells 0)) ≡ true
    → IsSendable v.geometry.mode (length v.cells) (answer_of v all)
long_sendable v all sound long lead fields =
    rw (answer_long v all long) (record { few = sound_few v sound; aid = sound.attention; cursor = sound_cursor v sound; lead = lead; fields = fields })

pub short_bytes : (v : Picture) (all : Bool) (empty out : List ℕ) → (is_short_aid v.aid && not all) ≡ true → empty ≡ [] → out ≡ empty ++ v.aid ∷ [] → out ≡ bytes_sent v all
short_bytes v all empty out alone none next = rw (next, none, answer_short v all alone) refl

pub long_bytes : (v : Picture) (all : Bool) (empty one addressed led out : List ℕ) → (is_short_aid v.aid && not all) ≡ false → empty ≡ [] → one ≡ empty ++ v.aid ∷ []
    → addressed ≡ one ++ written_address v.geometry.mode (length v.cells) v.cursor
    → led ≡ addressed ++ written_characters (lead_sent v.cells (attributes_from v.cells 0))
    → out ≡ led ++ written_fields v.geometry.mode (length v.cells) (fields_sent v.cells (attributes_from v.cells 0)) → out ≡ bytes_sent v all
long_bytes v all empty one addressed led out long none first second third last =
    let a : List ℕ = written_address v.geometry.mode (length v.cells) v.cursor in
    let l : List ℕ = written_characters (lead_sent v.cells (attributes_from v.cells 0)) in
    let f : List ℕ = written_fields v.geometry.mode (length v.cells) (fields_sent v.cells (attributes_from v.cells 0)) in
    let start : one ≡ v.aid ∷ [] = first ∙ ap (λ b. b ++ v.aid ∷ []) none in
    last ∙ ap (λ b. b ++ f) (third ∙ ap (λ b. b ++ l) (second ∙ ap (λ b. b ++ a) start)) ∙ append_assoc (v.aid ∷ a) l f
    ∙ ap (λ b. v.aid ∷ b) (refl) ∙ sym (ap (written_answer v.geometry.mode (length v.cells)) (answer_long v all long))
