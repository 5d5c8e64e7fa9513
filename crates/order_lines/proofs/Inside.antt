-- Only records whose addresses are inside are written.
use Rattle.std.proofs.Common.{◌≡◌, ◌<◌, ℕ, zero, suc, Bool, true, false, cond, ltb, List, [], ◌∷◌, length, map, Option, Some, None, Ok, refl, arith, inl, inr}
use Rattle.std.proofs.lemmas.Bool.{cases_lt, ltb-true}
use Rattle.ds_codec.specs.declared.write.Unwritable.{Unwritable}
use Rattle.ds_codec.specs.declared.write.Unwritable.TheVariants.{AddressOutside, NotAllowed}
use Rattle.ds_codec.specs.Order.{Item, text, start_field, start_field_extended, set_buffer_address, set_attribute, modify_field, insert_cursor, program_tab, repeat_to_address, erase_unprotected_to_address, graphic_escape, Site}
use Rattle.ds_codec.specs.Writing.{flaw_unless, flaw_of, item_at, follows_text, flaw_at, orders_in, are_not_allowed, written_record}
use Rattle.order_lines.specs.Draft.{flaw_or, first_flaw, bytes_or}
use Rattle.order_lines.specs.Laws.{IsInside, AreInside, OnlyInsideIsWritten}

neither : (a b : Option Unwritable) → flaw_or a b ≡ None → (a ≡ None) × (b ≡ None)
neither None b e = (refl, e)
neither (Some flaw) b e = absurd cc

-- where no first flaw is found there is none
none_found : (cells : ℕ) (orders : List Item) (n : ℕ) → first_flaw cells orders n ≡ None → (k : ℕ) → k < n → flaw_at cells orders k ≡ None
none_found cells orders zero none k lt = absurd (omega arith)
none_found cells orders (suc n) none k lt =
    let both = neither (first_flaw cells orders n) (flaw_at cells orders n) none in
    elim (cases_lt k n) [
      | inl below ↦ none_found cells orders n both.0 k below
      | inr last ↦ let same : k ≡ n = omega arith in rw same both.1
    ]

good_if_none : (good : Bool) (flaw : Unwritable) → flaw_unless good flaw ≡ None → good ≡ true
good_if_none true flaw e = refl
good_if_none false flaw e = absurd cc

one_inside : (cells : ℕ) (after_text : Bool) (item : Item) (k : ℕ) → flaw_of cells after_text item k ≡ None → IsInside cells item
one_inside cells after_text (text run) k e = tt
one_inside cells after_text (start_field attribute) k e = tt
one_inside cells after_text (start_field_extended pairs) k e = tt
one_inside cells after_text (set_buffer_address address) k e = ltb-true _ _ (good_if_none (ltb address cells) (AddressOutside k) e)
one_inside cells after_text (set_attribute kind value) k e = tt
one_inside cells after_text (modify_field pairs) k e = tt
one_inside cells after_text insert_cursor k e = tt
one_inside cells after_text program_tab k e = tt
one_inside cells after_text (repeat_to_address address character) k e = ltb-true _ _ (good_if_none (ltb address cells) (AddressOutside k) e)
one_inside cells after_text (erase_unprotected_to_address address) k e = ltb-true _ _ (good_if_none (ltb address cells) (AddressOutside k) e)
one_inside cells after_text (graphic_escape code) k e = tt

all_inside : (cells : ℕ) (sites : List Site) → ((k : ℕ) → k < length (map (λ site. site.order) sites) → IsInside cells (item_at (map (λ site. site.order) sites) k)) → AreInside cells sites
all_inside cells [] each = tt
all_inside cells (site ∷ sites) each = (each 0 (omega arith), all_inside cells sites (λ k lt. each (suc k) (omega arith)))

none_of : (refused : Bool) (found : Option Unwritable) (bytes written : List ℕ) → bytes_or (cond refused (Some NotAllowed) found) written ≡ Ok bytes → found ≡ None
none_of true found bytes written e = absurd cc
none_of false None bytes written e = refl
none_of false (Some flaw) bytes written e = absurd cc

pub only_inside : OnlyInsideIsWritten
only_inside mode cells message bytes written =
    let orders = orders_in message in
    let none = none_of (are_not_allowed message.command orders) (first_flaw cells orders (length orders)) bytes (written_record mode cells message.command orders) written in
    all_inside cells message.orders (λ k lt. one_inside cells (follows_text orders k) (item_at orders k) k (none_found cells orders (length orders) none k lt))
