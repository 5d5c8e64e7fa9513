-- What is spelled at the front is read there.
use Rattle.std.proofs.Common.{◌≡◌, ℕ, suc, ◌+◌, ◌*◌, ◌<◌, Bool, true, false, eqb, ltb, List, [], ◌∷◌, ◌++◌, length, take, Ok, refl, subst, arith, length-append}
use Rattle.std.specs.List.{list_all, prefix_len}
use Rattle.std.proofs.lemmas.Bool.{eqb-true, le-ltb}
use Rattle.std.proofs.lemmas.List.{take_at}
use Rattle.ds_codec.specs.declared.size.Mode.{Mode}
use Rattle.ds_codec.specs.Address.{SpellsAddress}
use Rattle.ds_codec.specs.Character.{glyph, is_text}
use Rattle.ds_codec.specs.Order.{Item, text, start_field, start_field_extended, set_buffer_address, set_attribute, modify_field, insert_cursor, program_tab, repeat_to_address, erase_unprotected_to_address, graphic_escape, order_code_at, SpellsPairs, SpellsCharacter, SpellsOrder}
use Rattle.ds_codec.specs.Record.{is_text_order}
use Rattle.ds_codec.specs.Reading.{start_field_at, pairs_at, address_order_at, set_attribute_at, repeat_at, graphic_escape_at, text_at, front}
use Rattle.ds_codec.proofs.Below.{both_true}
use Rattle.ds_codec.proofs.TextRuns.{begins, prefix-append}
use Rattle.ds_codec.proofs.Addresses.{address_again}

-- at the front of such bytes stands the order
abbrev IsReadFrom : Mode → Item → List ℕ → List ℕ → Type 0
IsReadFrom mode order part rest = front mode (part ++ rest) ≡ Ok (order, length part)

pairs_again : (make : List ℕ → Item) (pairs part rest : List ℕ) → SpellsPairs pairs part → pairs_at make (part ++ rest) ≡ Ok (make pairs, suc (length part))
unfolding pairs_at
pairs_again make pairs part rest (count, part-is, len, good) =
    let long : ltb (length (pairs ++ rest)) (2 * count) ≡ false = le-ltb _ _ (omega (arith, length-append pairs rest)) in
    let front_is : take (2 * count) (pairs ++ rest) ≡ pairs = take_at pairs rest (2 * count) len in
    let taken : 2 + 2 * count ≡ suc (suc (length pairs)) = omega arith in
    rw (part-is, long, front_is, good, taken) refl

address_order_again : (mode : Mode) (make : ℕ → Item) (address first second : ℕ) (rest : List ℕ) → SpellsAddress mode address first second
    → address_order_at mode make (first ∷ second ∷ rest) ≡ Ok (make address, 3)
unfolding address_order_at
address_order_again mode make address first second rest spelled = rw (address_again mode address first second spelled) refl

text_is_no_escape : (code : ℕ) → is_text code ≡ true → eqb code 0x08 ≡ false
unfolding is_text
text_is_no_escape code passes =
    elim (eqb code 0x08) as (λ b. eqb code 0x08 ≡ b → b ≡ false) [
      | true ↦ λ same. let is : code ≡ 8 = eqb-true _ _ same in let bad : is_text 8 ≡ true = subst (λ k. is_text k ≡ true) is passes in absurd cc
      | false ↦ λ differs. refl
    ] refl

repeat_again : (mode : Mode) (address first second code : ℕ) (alt : Bool) (part rest : List ℕ) → SpellsAddress mode address first second → SpellsCharacter (glyph code alt) part
    → repeat_at mode (first ∷ second ∷ (part ++ rest)) ≡ Ok (repeat_to_address address (glyph code alt), suc (suc (suc (length part))))
unfolding repeat_at
repeat_again mode address first second code true part rest spelled (good, is) =
    rw (is, address_again mode address first second spelled, good) refl
repeat_again mode address first second code false part rest spelled (good, is) =
    rw (is, text_is_no_escape code good, address_again mode address first second spelled, good) refl

text_again : (mode : Mode) (run rest : List ℕ) → 0 < length run → list_all is_text run ≡ true → begins is_text rest ≡ false → IsReadFrom mode (text run) run rest
unfolding front
text_again mode [] rest some all ends = absurd (omega arith)
text_again mode (byte ∷ more) rest some all ends =
    let n : prefix_len is_text ((byte ∷ more) ++ rest) ≡ length (byte ∷ more) = prefix-append is_text (byte ∷ more) rest all ends in
    let first : is_text byte ≡ true = (both_true _ _ all).0 in
    let read : text_at ((byte ∷ more) ++ rest) ≡ Ok (text (byte ∷ more), length (byte ∷ more)) = rw (n, take_at (byte ∷ more) rest (length (byte ∷ more)) refl) refl in
    rw first (rw first at read)

-- what an order spells is read at the front, whatever follows it; after a run of text no text
pub front_again : (mode : Mode) (order : Item) (part rest : List ℕ) → SpellsOrder mode order part → (is_text_order order ≡ true → begins is_text rest ≡ false) → IsReadFrom mode order part rest
unfolding front is_text order_code_at start_field_at set_attribute_at graphic_escape_at
front_again mode (text run) part rest (is, some, all) ends = rw is (text_again mode run rest some all (ends refl))
front_again mode (start_field attribute) part rest (byte, is, six) ends = rw (is, six) refl
front_again mode (start_field_extended pairs) part rest (more, is, spelled) ends = rw is (pairs_again start_field_extended pairs more rest spelled)
front_again mode (set_buffer_address address) part rest (first, second, is, spelled) ends = rw is (address_order_again mode set_buffer_address address first second rest spelled)
front_again mode (set_attribute kind value) part rest (is, good) ends = rw (is, good) refl
front_again mode (modify_field pairs) part rest (more, is, spelled) ends = rw is (pairs_again modify_field pairs more rest spelled)
front_again mode insert_cursor part rest is ends = rw is refl
front_again mode program_tab part rest is ends = rw is refl
front_again mode (repeat_to_address address character) part rest (first, second, more, is, spelled, told) ends =
    rw is (repeat_again mode address first second character.code character.alt more rest spelled told)
front_again mode (erase_unprotected_to_address address) part rest (first, second, is, spelled) ends =
    rw is (address_order_again mode erase_unprotected_to_address address first second rest spelled)
front_again mode (graphic_escape code) part rest (is, good) ends = rw (is, good) refl
