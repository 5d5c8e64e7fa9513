-- What is read at the front is spelled there.
use Rattle.std.proofs.Common.{◌≡◌, ℕ, suc, ◌+◌, ◌*◌, ◌<◌, ◌≤◌, Bool, true, false, cond, eqb, ltb, List, [], ◌∷◌, length, take, Option, Some, None, Result, Ok, Err, refl, subst, arith, length-take, inl, inr}
use Rattle.std.specs.List.{find, prefix_len}
use Rattle.std.proofs.lemmas.Bool.{eqb-true, ltb-false}
use Rattle.std.proofs.lemmas.List.Sums.{prefix_len-le-length}
use Rattle.ds_codec.specs.declared.size.Mode.{Mode}
use Rattle.ds_codec.specs.declared.order.OrderCode.{OrderCode}
use Rattle.ds_codec.specs.declared.order.OrderCode.TheVariants.{Sf, Sfe, Sba, Sa, Mf, Ic, Pt, Ra, Eua, Ge}
use Rattle.ds_codec.specs.declared.refused.Why.{Why}
use Rattle.ds_codec.specs.declared.refused.Why.TheVariants.{BadCharacter}
use Rattle.ds_codec.specs.Address.{SpellsAddress, address_at}
use Rattle.ds_codec.specs.Character.{Glyph, glyph, is_text, is_graphic, is_glyph}
use Rattle.ds_codec.specs.Order.{Item, start_field_extended, set_buffer_address, modify_field, repeat_to_address, erase_unprotected_to_address, code_of, all_order_codes, order_code_at, is_set_type, have_types, SpellsPairs, SpellsOrder}
use Rattle.ds_codec.specs.declared.order.Order.{Order}
use Rattle.std.specs.Prelude.{IfOk}
use Rattle.ds_codec.specs.Reading.{Front, Reads, with_address, start_field_at, pairs_at, address_order_at, set_attribute_at, repeat_of, repeat_escaped, repeat_at, graphic_escape_at, order_after, text_at, front}
use Rattle.ds_codec.proofs.Steps.{chosen, ok_is}
use Rattle.ds_codec.proofs.TextRuns.{prefix-passes, prefix-some}
use Rattle.ds_codec.proofs.Addresses.{address_spelled}

-- what a reader of an order took from the front
pub record Takes (mode : Mode) (bytes : List ℕ) (found : Item × ℕ) : Type 0 where
  pub some : 0 < found.1
  pub inside : found.1 ≤ length bytes
  pub spelled : SpellsOrder mode found.0 (take found.1 bytes)

-- one step of a Takes along an equation of what was found
takes_along : (mode : Mode) (bytes : List ℕ) (x y : Item × ℕ) → x ≡ y → Takes mode bytes x → Takes mode bytes y
takes_along mode bytes x y e t = subst (λ f. Takes mode bytes f) e t

with_address_ok : (o : Option ℕ) (make : ℕ → Front) (found : Item × ℕ) → with_address o make ≡ Ok found → (a : ℕ) × (o ≡ Some a) × (make a ≡ Ok found)
with_address_ok None make found e = absurd cc
with_address_ok (Some a) make found e = (a, refl, e)

start_field_takes : (mode : Mode) (more : List ℕ) (found : Item × ℕ) → start_field_at more ≡ Ok found → Takes mode (code_of Sf ∷ more) found
unfolding start_field_at
start_field_takes mode [] found e = absurd cc
start_field_takes mode (byte ∷ rest) found e =
    takes_along mode _ _ _ (ok_is Why _ _ e) (record { some = omega arith; inside = omega arith; spelled = (byte, refl, refl) })

pub two_more : (n : ℕ) → 2 + n ≡ suc (suc n)
two_more n = omega arith

pub take-two : (n a b : ℕ) (rest : List ℕ) → take (2 + n) (a ∷ b ∷ rest) ≡ a ∷ b ∷ take n rest
take-two n a b rest = rw (two_more n) refl

pairs_take : (mode : Mode) (make : List ℕ → Item) (code : ℕ) (spells : (pairs rest : List ℕ) → SpellsPairs pairs rest → SpellsOrder mode (make pairs) (code ∷ rest))
    (more : List ℕ) (found : Item × ℕ) → pairs_at make more ≡ Ok found → Takes mode (code ∷ more) found
unfolding pairs_at
pairs_take mode make code spells [] found e = absurd cc
pairs_take mode make code spells (count ∷ rest) found e =
    elim (chosen (ltb (length rest) (2 * count)) _ _ _ e) [
      | inl (short, is) ↦ absurd cc
      | inr (long, is) ↦ elim (chosen (have_types (take (2 * count) rest)) _ _ _ is) [
        | inr (bad, err) ↦ absurd cc
        | inl (good, found-is) ↦
            let enough : 2 * count ≤ length rest = ltb-false _ _ long in
            let len : length (take (2 * count) rest) ≡ 2 * count = omega (arith, length-take (2 * count) rest) in
            takes_along mode _ _ _ (ok_is Why _ _ found-is) (record {
              some = omega arith;
              inside = omega arith;
              spelled = rw (take-two (2 * count) code count rest) (spells (take (2 * count) rest) (count ∷ take (2 * count) rest) (count, refl, len, good));
            })
      ]
    ]

address_takes : (mode : Mode) (make : ℕ → Item) (code : ℕ) (spells : (address first second : ℕ) → SpellsAddress mode address first second → SpellsOrder mode (make address) (code ∷ first ∷ second ∷ []))
    (more : List ℕ) (found : Item × ℕ) → address_order_at mode make more ≡ Ok found → Takes mode (code ∷ more) found
unfolding address_order_at
address_takes mode make code spells [] found e = absurd cc
address_takes mode make code spells (first ∷ []) found e = absurd cc
address_takes mode make code spells (first ∷ second ∷ rest) found e =
    let a = with_address_ok (address_at mode first second) (λ address. Ok (make address, 3)) found e in
    takes_along mode _ _ _ (ok_is Why _ _ a.2) (record {
      some = omega arith;
      inside = omega arith;
      spelled = spells a.0 first second (address_spelled mode first second a.0 a.1);
    })

set_attribute_takes : (mode : Mode) (more : List ℕ) (found : Item × ℕ) → set_attribute_at more ≡ Ok found → Takes mode (code_of Sa ∷ more) found
unfolding set_attribute_at
set_attribute_takes mode [] found e = absurd cc
set_attribute_takes mode (kind ∷ []) found e = absurd cc
set_attribute_takes mode (kind ∷ value ∷ rest) found e =
    elim (chosen (is_set_type kind) _ _ _ e) [
      | inl (good, is) ↦ takes_along mode _ _ _ (ok_is Why _ _ is) (record { some = omega arith; inside = omega arith; spelled = (refl, good) })
      | inr (bad, is) ↦ absurd cc
    ]

repeat_ok : (o : Option ℕ) (g : Glyph) (taken : ℕ) (found : Item × ℕ) → repeat_of o g taken ≡ Ok found → (stop : ℕ) × (o ≡ Some stop) × (is_glyph g ≡ true) × ((repeat_to_address stop g, taken) ≡ found)
repeat_ok o g taken found e =
    let a = with_address_ok o (λ stop. cond (is_glyph g) (Ok (repeat_to_address stop g, taken)) (Err BadCharacter)) found e in
    elim (chosen (is_glyph g) _ _ _ a.2) [
      | inl (good, is) ↦ (a.0, a.1, good, ok_is Why _ _ is)
      | inr (bad, is) ↦ absurd cc
    ]

escaped_takes : (mode : Mode) (first second byte : ℕ) (rest : List ℕ) (found : Item × ℕ) → byte ≡ code_of Ge → repeat_escaped (address_at mode first second) rest ≡ Ok found
    → Takes mode (code_of Ra ∷ first ∷ second ∷ byte ∷ rest) found
escaped_takes mode first second byte [] found is e = absurd cc
escaped_takes mode first second byte (code ∷ rest) found is e =
    let r = repeat_ok (address_at mode first second) (glyph code true) 5 found e in
    takes_along mode _ _ _ r.3 (record {
      some = omega arith;
      inside = omega arith;
      spelled = (first, second, byte ∷ code ∷ [], refl, address_spelled mode first second r.0 r.1, (r.2, rw is refl));
    })

repeat_takes : (mode : Mode) (more : List ℕ) (found : Item × ℕ) → repeat_at mode more ≡ Ok found → Takes mode (code_of Ra ∷ more) found
unfolding repeat_at
repeat_takes mode [] found e = absurd cc
repeat_takes mode (first ∷ []) found e = absurd cc
repeat_takes mode (first ∷ second ∷ []) found e = absurd cc
repeat_takes mode (first ∷ second ∷ byte ∷ rest) found e =
    elim (chosen (eqb byte (code_of Ge)) _ _ _ e) [
      | inl (escaped, is) ↦ escaped_takes mode first second byte rest found (eqb-true _ _ escaped) is
      | inr (plain, is) ↦
          let r = repeat_ok (address_at mode first second) (glyph byte false) 4 found is in
          takes_along mode _ _ _ r.3 (record {
            some = omega arith;
            inside = omega arith;
            spelled = (first, second, byte ∷ [], refl, address_spelled mode first second r.0 r.1, (r.2, refl));
          })
    ]

graphic_escape_takes : (mode : Mode) (more : List ℕ) (found : Item × ℕ) → graphic_escape_at more ≡ Ok found → Takes mode (code_of Ge ∷ more) found
unfolding graphic_escape_at
graphic_escape_takes mode [] found e = absurd cc
graphic_escape_takes mode (code ∷ rest) found e =
    elim (chosen (is_graphic code) _ _ _ e) [
      | inl (good, is) ↦ takes_along mode _ _ _ (ok_is Why _ _ is) (record { some = omega arith; inside = omega arith; spelled = (refl, good) })
      | inr (bad, is) ↦ absurd cc
    ]

pub order_takes : (mode : Mode) (code : OrderCode) (more : List ℕ) (found : Item × ℕ) → order_after mode (Some code) more ≡ Ok found → Takes mode (code_of code ∷ more) found
order_takes mode Sf more found e = start_field_takes mode more found e
order_takes mode Sfe more found e = pairs_take mode start_field_extended (code_of Sfe) (λ pairs rest s. (rest, refl, s)) more found e
order_takes mode Sba more found e = address_takes mode set_buffer_address (code_of Sba) (λ address first second s. (first, second, refl, s)) more found e
order_takes mode Sa more found e = set_attribute_takes mode more found e
order_takes mode Mf more found e = pairs_take mode modify_field (code_of Mf) (λ pairs rest s. (rest, refl, s)) more found e
order_takes mode Ic more found e = takes_along mode _ _ _ (ok_is Why _ _ e) (record { some = omega arith; inside = omega arith; spelled = refl })
order_takes mode Pt more found e = takes_along mode _ _ _ (ok_is Why _ _ e) (record { some = omega arith; inside = omega arith; spelled = refl })
order_takes mode Ra more found e = repeat_takes mode more found e
order_takes mode Eua more found e = address_takes mode erase_unprotected_to_address (code_of Eua) (λ address first second s. (first, second, refl, s)) more found e
order_takes mode Ge more found e = graphic_escape_takes mode more found e

pub find_passes : {A : Type 0} (test : A → Bool) (xs : List A) (x : A) → find test xs ≡ Some x → test x ≡ true
find_passes test [] x e = absurd cc
find_passes test (y ∷ ys) x e =
    elim (chosen (test y) _ _ _ e) [
      | inl (passes, is) ↦ let same : y ≡ x = cc in rw (← same) passes
      | inr (fails, later) ↦ find_passes test ys x later
    ]

-- the byte is the code of the order that it begins
pub code_is : (byte : ℕ) (code : OrderCode) → order_code_at byte ≡ Some code → code_of code ≡ byte
unfolding order_code_at
code_is byte code e = eqb-true _ _ (find_passes (λ c. eqb (code_of c) byte) all_order_codes code e)

text_takes : (mode : Mode) (byte : ℕ) (more : List ℕ) (found : Item × ℕ) → is_text byte ≡ true → text_at (byte ∷ more) ≡ Ok found → Takes mode (byte ∷ more) found
text_takes mode byte more found passes e =
    let n = prefix_len is_text (byte ∷ more) in
    let some : 0 < n = prefix-some is_text byte more passes in
    let inside : n ≤ length (byte ∷ more) = prefix_len-le-length is_text (byte ∷ more) in
    takes_along mode _ _ _ (ok_is Why _ _ e) (record {
      some = some;
      inside = inside;
      spelled = (refl, omega (arith, length-take n (byte ∷ more)), prefix-passes is_text (byte ∷ more));
    })

coded_takes : (mode : Mode) (byte : ℕ) (more : List ℕ) (found : Item × ℕ) (code : Option OrderCode) → order_code_at byte ≡ code → order_after mode code more ≡ Ok found → Takes mode (byte ∷ more) found
coded_takes mode byte more found None is e = absurd cc
coded_takes mode byte more found (Some code) is e = subst (λ b. Takes mode (b ∷ more) found) (code_is byte code is) (order_takes mode code more found e)

pub front_takes : (mode : Mode) (bytes : List ℕ) (found : Item × ℕ) → front mode bytes ≡ Ok found → Takes mode bytes found
unfolding front
front_takes mode [] found e = absurd cc
front_takes mode (byte ∷ more) found e =
    elim (chosen (is_text byte) _ _ _ e) [
      | inl (passes, is) ↦ text_takes mode byte more found passes is
      | inr (fails, is) ↦ coded_takes mode byte more found (order_code_at byte) refl is
    ]

pub order_some : (mode : Mode) (code : OrderCode) (more : List ℕ) (result : Result (Order × ℕ) Why) → Reads result (order_after mode (Some code) more) → IfOk result (λ found. 0 < found.1)
order_some mode code more (Ok found) read = (order_takes mode code more _ read).some
order_some mode code more (Err why) read = tt

pub order_inside : (mode : Mode) (code : OrderCode) (more : List ℕ) (n : ℕ) (result : Result (Order × ℕ) Why) → length more < n → Reads result (order_after mode (Some code) more) → IfOk result (λ found. found.1 ≤ n)
order_inside mode code more n (Ok found) short read = omega (arith, (order_takes mode code more _ read).inside)
order_inside mode code more n (Err why) short read = tt
