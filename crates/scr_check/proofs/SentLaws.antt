-- What Enter or a PF key sends from a screen with fields.
use Rattle.std.proofs.Common.{◌≡◌, ℕ, ◌-◌, ◌&&◌, Bool, true, false, not, cond, eqb, List, [], ◌∷◌, length, map, Some, refl, sym, ◌∙◌, ap, subst, arith}
use Rattle.std.specs.List.{range_with_len, filter}
use Rattle.std.specs.List.Sorted.{IsStrictlyIncreasing}
use Rattle.std.proofs.lemmas.Bool.{cond-false, and_parts, not-true}
use Rattle.std.proofs.lemmas.List.Kept.{IsStrictlyIncreasing-filter}
use Rattle.ds_codec.specs.declared.cell.Cell.{Cell}
use Rattle.ds_codec.specs.Aid.{long_aids, is_long_aid, is_aid, is_short_aid}
use Rattle.ds_screen.specs.declared.lock.Lock.{Lock}
use Rattle.ds_screen.specs.declared.lock.Lock.TheVariants.{Free, Waiting}
use Rattle.ds_screen.specs.Picture.{Picture, IsSound, cell_at}
use Rattle.ds_screen.specs.Fields.{is_attribute, attributes_from}
use Rattle.ds_keys.specs.declared.key.Key.TheVariants.{Attention}
use Rattle.ds_keys.specs.declared.pressed.Pressed.TheVariants.{Sent}
use Rattle.ds_keys.specs.KeyStep.{sent, is_sending, attention_step, free_step, step_under, step_of}
use Rattle.ds_keys.specs.KeyRuns as keyed
use Rattle.ds_inbound.specs.Answer.{Answer, is_modified_at, fields_sent, field_sent, lead_sent, short_answer, long_answer, answer_of, bytes_sent}
use Rattle.ds_inbound.specs.Inbound.{SaysOnly}
use Rattle.ds_inbound.proofs.Pictures.{answers_say}
use Rattle.scr_check.specs.Promise.{is_among, due_answer}
use Rattle.scr_check.proofs.Among.{each_of_all, among_filter, among_range, range_rises}
use Rattle.scr_check.proofs.KeptLaws.{attribute_inside}

-- ---- keys that send

-- neither none nor Clear, not sent alone, and an attention identifier
abbrev sends_fields : ℕ → Bool
sends_fields aid = not (not (is_sending aid)) && (not (eqb aid 0x6D) && (not (is_short_aid aid) && is_aid aid))

long_sends : (aid : ℕ) → is_long_aid aid ≡ true → sends_fields aid ≡ true
unfolding is_long_aid is_short_aid is_aid
long_sends aid long = each_of_all sends_fields long_aids aid refl long

record IsLong (aid : ℕ) : Type 0 where
  some : not (is_sending aid) ≡ false
  plain : eqb aid 0x6D ≡ false
  long : is_short_aid aid ≡ false
  known : is_aid aid ≡ true

long_parts : (aid : ℕ) → is_long_aid aid ≡ true → IsLong aid
long_parts aid long =
    let a = and_parts (not (not (is_sending aid))) (not (eqb aid 0x6D) && (not (is_short_aid aid) && is_aid aid)) (long_sends aid long) in
    let b = and_parts (not (eqb aid 0x6D)) (not (is_short_aid aid) && is_aid aid) a.1 in
    let c = and_parts (not (is_short_aid aid)) (is_aid aid) b.1 in
    record { some = not-true _ a.0; plain = not-true _ b.0; long = not-true _ c.0; known = c.1 }

attends : (v : Picture) (aid : ℕ) → IsLong aid → attention_step v aid ≡ sent v aid
unfolding attention_step
attends v aid long = cond-false (not (is_sending aid)) _ _ long.some ∙ cond-false (eqb aid 0x6D) _ _ long.plain

step_sends : (v : Picture) (aid : ℕ) → v.lock ≡ Free → IsLong aid → step_of v (Attention aid) ≡ sent v aid
unfolding step_of free_step
step_sends v aid free long = ap (λ l. step_under l v (Attention aid)) free ∙ attends v aid long

pub key_sends : (v : Picture) (aid : ℕ) → v.lock ≡ Free → is_long_aid aid ≡ true → keyed.answer_of v (Attention aid) ≡ Sent aid
key_sends v aid free long = ap (λ s. s.pressed) (step_sends v aid free (long_parts aid long))

-- the picture that has sent
abbrev pub sending : Picture → ℕ → Picture
sending v aid = record v { lock = Waiting; aid = aid }

pub key_leaves : (v : Picture) (aid : ℕ) → v.lock ≡ Free → is_long_aid aid ≡ true → keyed.after_key v (Attention aid) ≡ sending v aid
key_leaves v aid free long = ap (λ s. s.after) (step_sends v aid free (long_parts aid long))

-- ---- what is sent

-- the modified attributes, in rising position
abbrev pub sent_places : List Cell → List ℕ
sent_places cells = filter (is_modified_at cells) (attributes_from cells 0)

lead_none : (cells : List Cell) (places : List ℕ) → (places ≡ [] → ⊥) → lead_sent cells places ≡ []
lead_none cells [] some = absurd (some refl)
lead_none cells (q ∷ places) some = refl

fields_are : (cells : List Cell) (places : List ℕ) → fields_sent cells places ≡ map (field_sent cells) (filter (is_modified_at cells) places)
unfolding fields_sent
fields_are cells places = refl

due_record : (v : Picture) → lead_sent v.cells (attributes_from v.cells 0) ≡ [] → long_answer v ≡ due_answer v.aid v (sent_places v.cells)
due_record v none =
    ap (λ l. record { aid = v.aid; cursor = Some v.cursor; lead = l; fields = fields_sent v.cells (attributes_from v.cells 0) }) none
    ∙ ap (λ f. record { aid = v.aid; cursor = Some v.cursor; lead = []; fields = f }) (fields_are v.cells (attributes_from v.cells 0))

-- what a picture with fields answers to Enter or a PF key
pub long_due : (v : Picture) → is_long_aid v.aid ≡ true → (attributes_from v.cells 0 ≡ [] → ⊥) → answer_of v false ≡ due_answer v.aid v (sent_places v.cells)
unfolding answer_of
long_due v long some =
    ap (λ t. cond (t && true) (short_answer v.aid) (long_answer v)) (long_parts v.aid long).long
    ∙ due_record v (lead_none v.cells (attributes_from v.cells 0) some)

pub long_said : (v : Picture) → IsSound v → is_long_aid v.aid ≡ true → (attributes_from v.cells 0 ≡ [] → ⊥)
    → SaysOnly v.geometry.mode (length v.cells) (due_answer v.aid v (sent_places v.cells)) (bytes_sent v false)
long_said v sound long some =
    let P : Answer → Type 0 = λ a. SaysOnly v.geometry.mode (length v.cells) a (bytes_sent v false) in
    subst P (long_due v long some) (answers_say v false sound)

-- whatever the lock and the attention identifier
pub keyboard_sound : (v : Picture) (lock : Lock) (aid : ℕ) → is_aid aid ≡ true → IsSound v → IsSound (record v { lock = lock; aid = aid })
keyboard_sound v lock aid known sound =
    record {
      default_good = sound.default_good;
      alternate_good = sound.alternate_good;
      one_of_two = sound.one_of_two;
      whole = sound.whole;
      cursor_inside = sound.cursor_inside;
      characters = sound.characters;
      attention = known;
    }

pub long_known : (aid : ℕ) → is_long_aid aid ≡ true → is_aid aid ≡ true
long_known aid long = (long_parts aid long).known

-- ---- which fields are sent

pub places_rise : (cells : List Cell) → IsStrictlyIncreasing (sent_places cells)
places_rise cells =
    IsStrictlyIncreasing-filter (is_modified_at cells) (attributes_from cells 0)
    (IsStrictlyIncreasing-filter (λ q. is_attribute (cell_at cells q)) (range_with_len 0 (length cells - 0)) (range_rises 0 (length cells - 0)))

among_sent : (cells : List Cell) (q : ℕ) → is_among (sent_places cells) q ≡ (is_modified_at cells q && (is_attribute (cell_at cells q) && is_among (range_with_len 0 (length cells - 0)) q))
among_sent cells q =
    among_filter (is_modified_at cells) (attributes_from cells 0) q
    ∙ ap (λ t. is_modified_at cells q && t) (among_filter (λ p. is_attribute (cell_at cells p)) (range_with_len 0 (length cells - 0)) q)

pub among_parts : (cells : List Cell) (q : ℕ) → is_among (sent_places cells) q ≡ true → (is_modified_at cells q ≡ true) × (is_attribute (cell_at cells q) ≡ true)
among_parts cells q among =
    let a = and_parts (is_modified_at cells q) (is_attribute (cell_at cells q) && is_among (range_with_len 0 (length cells - 0)) q) (sym (among_sent cells q) ∙ among) in
    (a.0, (and_parts (is_attribute (cell_at cells q)) (is_among (range_with_len 0 (length cells - 0)) q) a.1).0)

pub among_from : (cells : List Cell) (q : ℕ) → is_modified_at cells q ≡ true → is_attribute (cell_at cells q) ≡ true → is_among (sent_places cells) q ≡ true
among_from cells q modified there =
    let lt = attribute_inside cells q there in
    among_sent cells q ∙ ap (λ t. t && (is_attribute (cell_at cells q) && is_among (range_with_len 0 (length cells - 0)) q)) modified
    ∙ ap (λ t. t && is_among (range_with_len 0 (length cells - 0)) q) there ∙ among_range 0 (length cells - 0) q (omega arith) (omega arith)
