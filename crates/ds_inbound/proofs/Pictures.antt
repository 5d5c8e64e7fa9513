-- A picture whose characters exist can send its answer.
use Rattle.std.proofs.Common.{◌≡◌, ℕ, zero, suc, ◌+◌, ◌-◌, ◌<◌, ◌≤◌, Bool, true, false, cond, not, ◌&&◌, List, [], ◌∷◌, length, map, Result, Ok, Err, refl, arith, inl, inr}
use Rattle.std.specs.Prelude.{IfOk}
use Rattle.std.specs.Global.{Vec}
use Rattle.std.specs.List.{range_with_len, filter, list_all}
use Rattle.std.proofs.lemmas.Bool.{lt-ltb, cases_Bool}
use Rattle.ds_codec.specs.declared.cell.Cell.{Cell}
use Rattle.ds_codec.specs.declared.cell.Cell.TheVariants.{Field, Char}
use Rattle.ds_codec.specs.Character.{Glyph, is_glyph, is_text}
use Rattle.ds_codec.proofs.Below.{both_true}
use Rattle.ds_screen.specs.Ring.{ring_on}
use Rattle.ds_screen.specs.Picture.{Picture, cell_at, blank, is_real, IsSound}
use Rattle.ds_screen.specs.Fields.{is_attribute, span_of, attributes_from}
use Rattle.ds_screen.proofs.RingLaws.{on_lt}
use Rattle.ds_inbound.specs.Answer.{is_null, character_of, characters_at, is_modified_at, field_sent, fields_sent, lead_sent, answer_of, bytes_sent}
use Rattle.ds_codec.specs.Aid.{is_short_aid}
use Rattle.ds_inbound.specs.Inbound.{is_sendable, SaysOnly}
use Rattle.ds_inbound.specs.Reading.{read_of}
use Rattle.ds_inbound.specs.Sending.{is_field_sendable, IsSendable}
use Rattle.ds_inbound.specs.Laws.{AnswersSayThemselves, AnswersAreReadAgain}
use Rattle.ds_inbound.proofs.Answers.{read_again, says_only}
use Rattle.ds_inbound.proofs.Again.{sendable_spelled, short_sendable, long_sendable}

-- ---- characters that exist

blank_real : is_real blank ≡ true
unfolding is_text
blank_real = refl

-- every cell holds a character that exists, or an attribute; past the last one is a null
cell_real : (cells : List Cell) (p : ℕ) → list_all is_real cells ≡ true → is_real (cell_at cells p) ≡ true
cell_real [] p all = blank_real
cell_real (cell ∷ cells) zero all = (both_true _ _ all).0
cell_real (cell ∷ cells) (suc p) all = cell_real cells p (both_true _ _ all).1

null_real : is_glyph (character_of (Field 0)) ≡ true
unfolding is_text
null_real = refl

character_real : (cell : Cell) → is_real cell ≡ true → is_glyph (character_of cell) ≡ true
character_real (Field bits) real = null_real
character_real (Char character) real = real

one_sendable : (character : Glyph) (characters : List Glyph) → is_glyph character ≡ true → list_all is_sendable characters ≡ true
    → list_all is_sendable (cond (not (is_null character)) (character ∷ characters) characters) ≡ true
one_sendable character characters real later =
    elim (is_null character) as (λ b. is_null character ≡ b → list_all is_sendable (cond (not b) (character ∷ characters) characters) ≡ true) [
      | true ↦ λ none. later
      | false ↦ λ some. rw (real, some, later) refl
    ] refl

pub characters_sendable : (cells : List Cell) (places : List ℕ) → list_all is_real cells ≡ true → list_all is_sendable (characters_at cells places) ≡ true
unfolding characters_at
characters_sendable cells [] all = refl
characters_sendable cells (p ∷ places) all =
    one_sendable (character_of (cell_at cells p)) _ (character_real (cell_at cells p) (cell_real cells p all)) (characters_sendable cells places all)

lead_sendable : (cells : List Cell) (places : List ℕ) → list_all is_real cells ≡ true → list_all is_sendable (lead_sent cells places) ≡ true
lead_sendable cells [] all = characters_sendable cells (range_with_len 0 (length cells)) all
lead_sendable cells (q ∷ places) all = refl

-- ---- fields

abbrev pub AreBelow : ℕ → List ℕ → Type 0
AreBelow n [] = Unit {0}
AreBelow n (q ∷ places) = (q < n) × AreBelow n places

range_below : (n k p : ℕ) (test : ℕ → Bool) → p + k ≤ n → AreBelow n (filter test (range_with_len p k))
range_below n zero p test few = tt
range_below n (suc k) p test few =
    elim (test p) as (λ b. AreBelow n (cond b (p ∷ filter test (range_with_len (p + 1) k)) (filter test (range_with_len (p + 1) k)))) [
      | true ↦ (omega arith, range_below n k (p + 1) test (omega arith))
      | false ↦ range_below n k (p + 1) test (omega arith)
    ]

pub attributes_below : (cells : List Cell) → AreBelow (length cells) (attributes_from cells 0)
attributes_below cells = range_below (length cells) (length cells - 0) 0 (λ q. is_attribute (cell_at cells q)) (omega arith)

field_good : (cells : List Cell) (q : ℕ) → list_all is_real cells ≡ true → q < length cells → is_field_sendable (length cells) (field_sent cells q) ≡ true
unfolding field_sent
field_good cells q all inside =
    let place : ring_on (length cells) q 1 < length cells = on_lt (length cells) q 1 inside (omega arith) in
    rw (lt-ltb (ring_on (length cells) q 1) (length cells) place, characters_sendable cells (span_of cells q) all) refl

pub fields_sendable : (cells : List Cell) (places : List ℕ) → list_all is_real cells ≡ true → AreBelow (length cells) places
    → list_all (is_field_sendable (length cells)) (fields_sent cells places) ≡ true
unfolding fields_sent
fields_sendable cells [] all below = refl
fields_sendable cells (q ∷ places) all below =
    elim (is_modified_at cells q) as (λ b. list_all (is_field_sendable (length cells)) (map (field_sent cells) (cond b (q ∷ filter (is_modified_at cells) places) (filter (is_modified_at cells) places))) ≡ true) [
      | true ↦ rw (field_good cells q all below.0) (fields_sendable cells places all below.1)
      | false ↦ fields_sendable cells places all below.1
    ]

-- ---- pictures

pub picture_sendable : (v : Picture) (all : Bool) → IsSound v → IsSendable v.geometry.mode (length v.cells) (answer_of v all)
picture_sendable v all sound =
    elim (cases_Bool (is_short_aid v.aid && not all)) [
      | inl alone ↦ short_sendable v all sound alone
      | inr long ↦ long_sendable v all sound long (lead_sendable v.cells (attributes_from v.cells 0) sound.characters) (fields_sendable v.cells (attributes_from v.cells 0) sound.characters (attributes_below v.cells))
    ]

pub answers_say : AnswersSayThemselves
answers_say v all sound =
    says_only v.geometry.mode (length v.cells) (bytes_sent v all) (answer_of v all) (sendable_spelled v.geometry.mode (length v.cells) (answer_of v all) (picture_sendable v all sound))

pub answers_read : AnswersAreReadAgain
answers_read v all sound =
    read_again v.geometry.mode (length v.cells) (bytes_sent v all) (answer_of v all) (sendable_spelled v.geometry.mode (length v.cells) (answer_of v all) (picture_sendable v all sound))

-- ---- the contract of writing

pub reads_again : {E : Type 0} (v : Picture) (all : Bool) (r : Result (Vec ℕ) E) → IfOk r (λ bytes. bytes.items ≡ bytes_sent v all) → IsSound v
    → IfOk r (λ bytes. read_of v.geometry.mode (length v.cells) bytes.items ≡ Ok (answer_of v all))
reads_again v all (Ok bytes) is sound = rw is (answers_read v all sound)
reads_again v all (Err e) is sound = tt

pub says_again : {E : Type 0} (v : Picture) (all : Bool) (r : Result (Vec ℕ) E) → IfOk r (λ bytes. bytes.items ≡ bytes_sent v all) → IsSound v
    → IfOk r (λ bytes. SaysOnly v.geometry.mode (length v.cells) (answer_of v all) bytes.items)
says_again v all (Ok bytes) is sound = rw is (answers_say v all sound)
says_again v all (Err e) is sound = tt
