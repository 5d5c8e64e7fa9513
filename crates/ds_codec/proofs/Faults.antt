-- What is refused at the front is at fault there, and the other way round.
use Rattle.std.proofs.Common.{◌≡◌, ℕ, ◌*◌, ◌<◌, ◌≤◌, true, false, cond, eqb, ltb, List, [], ◌∷◌, length, take, Option, Some, None, Ok, Err, refl, subst, arith, ◌⊎◌, inl, inr}
use Rattle.std.specs.Prelude.{slice_index}
use Rattle.std.proofs.lemmas.Bool.{ltb-false, ltb-true, le-ltb, lt-ltb}
use Rattle.ds_codec.specs.declared.size.Mode.{Mode}
use Rattle.ds_codec.specs.declared.order.OrderCode.{OrderCode}
use Rattle.ds_codec.specs.declared.order.OrderCode.TheVariants.{Sf, Sfe, Sba, Sa, Mf, Ic, Pt, Ra, Eua, Ge}
use Rattle.ds_codec.specs.declared.refused.Why.{Why}
use Rattle.ds_codec.specs.declared.refused.Why.TheVariants.{Empty, UnknownCommand, StructuredField, NoWcc, UnknownOrder, Truncated, ReservedAddress, BadType, BadCharacter, Trailing}
use Rattle.ds_codec.specs.Address.{IsReserved, address_at}
use Rattle.ds_codec.specs.Character.{Glyph, glyph, is_text, is_graphic, is_glyph}
use Rattle.ds_codec.specs.Order.{Item, start_field_extended, modify_field, set_buffer_address, erase_unprotected_to_address, repeat_to_address, code_of, order_code_at, is_set_type, have_types, bytes_after, IsWhole, has_address, HasBadType, HasBadCharacter, HasBadAddress, character_at, FaultsAfter, HasFault}
use Rattle.ds_codec.specs.Reading.{Front, with_address, start_field_at, pairs_at, address_order_at, set_attribute_at, repeat_of, repeat_escaped, repeat_at, graphic_escape_at, order_after, front}
use Rattle.ds_codec.proofs.Steps.{chosen, err_is}
use Rattle.ds_codec.proofs.Addresses.{reserved_again, is_reserved}

-- ---- what is refused is at fault

faults_along : (mode : Mode) (code : OrderCode) (more : List ℕ) (x y : Why) → x ≡ y → FaultsAfter mode x (Some code) more → FaultsAfter mode y (Some code) more
faults_along mode code more x y e f = subst (λ w. FaultsAfter mode w (Some code) more) e f

with_address_err : (o : Option ℕ) (make : ℕ → Front) (why : Why) → with_address o make ≡ Err why → ((o ≡ None) × (ReservedAddress ≡ why)) ⊎ ((a : ℕ) × (o ≡ Some a) × (make a ≡ Err why))
with_address_err None make why e = inl (refl, err_is (Item × ℕ) _ _ e)
with_address_err (Some a) make why e = inr (a, refl, e)

start_field_fails : (mode : Mode) (more : List ℕ) (why : Why) → start_field_at more ≡ Err why → FaultsAfter mode why (Some Sf) more
unfolding start_field_at
start_field_fails mode [] why e = faults_along mode Sf _ _ _ (err_is (Item × ℕ) _ _ e) (omega arith)
start_field_fails mode (byte ∷ rest) why e = absurd cc

-- SFE and MF alike
pairs_fail : (mode : Mode) (make : List ℕ → Item) (more : List ℕ) (why : Why) → pairs_at make more ≡ Err why
    → ((Truncated ≡ why) × (length more < bytes_after Sfe more)) ⊎ ((BadType ≡ why) × IsWhole Sfe more × HasBadType Sfe more)
unfolding pairs_at
pairs_fail mode make [] why e = inl (err_is (Item × ℕ) _ _ e, omega arith)
pairs_fail mode make (count ∷ rest) why e =
    elim (chosen (ltb (length rest) (2 * count)) _ _ _ e) [
      | inl (short, is) ↦ let lt : length rest < 2 * count = ltb-true _ _ short in inl (err_is (Item × ℕ) _ _ is, omega arith)
      | inr (long, is) ↦ elim (chosen (have_types (take (2 * count) rest)) _ _ _ is) [
        | inl (good, found) ↦ absurd cc
        | inr (bad, err) ↦ let le : 2 * count ≤ length rest = ltb-false _ _ long in inr (err_is (Item × ℕ) _ _ err, omega arith, bad)
      ]
    ]

pairs_fail_as : (mode : Mode) (make : List ℕ → Item) (code : OrderCode) (more : List ℕ) (why : Why)
    → (length more < bytes_after Sfe more → FaultsAfter mode Truncated (Some code) more) → (IsWhole Sfe more × HasBadType Sfe more → FaultsAfter mode BadType (Some code) more)
    → pairs_at make more ≡ Err why → FaultsAfter mode why (Some code) more
pairs_fail_as mode make code more why short bad e =
    elim (pairs_fail mode make more why e) [
      | inl (is, lt) ↦ faults_along mode code more _ _ is (short lt)
      | inr (is, whole, wrong) ↦ faults_along mode code more _ _ is (bad (whole, wrong))
    ]

-- SBA and EUA alike
address_fails : (mode : Mode) (make : ℕ → Item) (more : List ℕ) (why : Why) → address_order_at mode make more ≡ Err why
    → ((Truncated ≡ why) × (length more < 2)) ⊎ ((ReservedAddress ≡ why) × (2 ≤ length more) × HasBadAddress mode Sba more)
unfolding address_order_at
address_fails mode make [] why e = inl (err_is (Item × ℕ) _ _ e, omega arith)
address_fails mode make (first ∷ []) why e = inl (err_is (Item × ℕ) _ _ e, omega arith)
address_fails mode make (first ∷ second ∷ rest) why e =
    elim (with_address_err (address_at mode first second) (λ address. Ok (make address, 3)) why e) [
      | inl (none, is) ↦ inr (is, omega arith, (refl, is_reserved mode first second none))
      | inr (a, some, found) ↦ absurd cc
    ]

address_fails_as : (mode : Mode) (make : ℕ → Item) (code : OrderCode) (more : List ℕ) (why : Why)
    → (length more < 2 → FaultsAfter mode Truncated (Some code) more) → ((2 ≤ length more) × HasBadAddress mode Sba more → FaultsAfter mode ReservedAddress (Some code) more)
    → address_order_at mode make more ≡ Err why → FaultsAfter mode why (Some code) more
address_fails_as mode make code more why short bad e =
    elim (address_fails mode make more why e) [
      | inl (is, lt) ↦ faults_along mode code more _ _ is (short lt)
      | inr (is, whole, wrong) ↦ faults_along mode code more _ _ is (bad (whole, wrong))
    ]

set_attribute_fails : (mode : Mode) (more : List ℕ) (why : Why) → set_attribute_at more ≡ Err why → FaultsAfter mode why (Some Sa) more
unfolding set_attribute_at
set_attribute_fails mode [] why e = faults_along mode Sa _ _ _ (err_is (Item × ℕ) _ _ e) (omega arith)
set_attribute_fails mode (kind ∷ []) why e = faults_along mode Sa _ _ _ (err_is (Item × ℕ) _ _ e) (omega arith)
set_attribute_fails mode (kind ∷ value ∷ rest) why e =
    elim (chosen (is_set_type kind) _ _ _ e) [
      | inl (good, found) ↦ absurd cc
      | inr (bad, is) ↦ faults_along mode Sa _ _ _ (err_is (Item × ℕ) _ _ is) (omega arith, bad)
    ]

-- Repeat to Address, all bytes of it being there
repeat_of_fails : (mode : Mode) (first second byte : ℕ) (rest : List ℕ) (g : Glyph) (taken : ℕ) (why : Why) → g ≡ character_at (byte ∷ rest) → IsWhole Ra (first ∷ second ∷ byte ∷ rest)
    → repeat_of (address_at mode first second) g taken ≡ Err why → FaultsAfter mode why (Some Ra) (first ∷ second ∷ byte ∷ rest)
repeat_of_fails mode first second byte rest g taken why told whole e =
    elim (with_address_err (address_at mode first second) (λ stop. cond (is_glyph g) (Ok (repeat_to_address stop g, taken)) (Err BadCharacter)) why e) [
      | inl (none, is) ↦ faults_along mode Ra _ _ _ is (whole, (refl, is_reserved mode first second none))
      | inr (stop, some, err) ↦ elim (chosen (is_glyph g) _ _ _ err) [
        | inl (good, found) ↦ absurd cc
        | inr (bad, is) ↦ faults_along mode Ra _ _ _ (err_is (Item × ℕ) _ _ is)
            (whole, (λ wrong. let none : address_at mode first second ≡ None = reserved_again mode first second wrong.1 in absurd cc), rw (← told) bad)
      ]
    ]

escaped_fails : (mode : Mode) (first second byte : ℕ) (rest : List ℕ) (why : Why) → eqb byte (code_of Ge) ≡ true → repeat_escaped (address_at mode first second) rest ≡ Err why
    → FaultsAfter mode why (Some Ra) (first ∷ second ∷ byte ∷ rest)
escaped_fails mode first second byte [] why escaped e = faults_along mode Ra _ _ _ (err_is (Item × ℕ) _ _ e) (rw escaped (omega arith))
escaped_fails mode first second byte (code ∷ rest) why escaped e =
    repeat_of_fails mode first second byte (code ∷ rest) (glyph code true) 5 why (rw escaped refl) (rw escaped (omega arith)) e

repeat_fails : (mode : Mode) (more : List ℕ) (why : Why) → repeat_at mode more ≡ Err why → FaultsAfter mode why (Some Ra) more
unfolding repeat_at
repeat_fails mode [] why e = faults_along mode Ra _ _ _ (err_is (Item × ℕ) _ _ e) (omega arith)
repeat_fails mode (first ∷ []) why e = faults_along mode Ra _ _ _ (err_is (Item × ℕ) _ _ e) (omega arith)
repeat_fails mode (first ∷ second ∷ []) why e = faults_along mode Ra _ _ _ (err_is (Item × ℕ) _ _ e) (omega arith)
repeat_fails mode (first ∷ second ∷ byte ∷ rest) why e =
    elim (chosen (eqb byte (code_of Ge)) _ _ _ e) [
      | inl (escaped, is) ↦ escaped_fails mode first second byte rest why escaped is
      | inr (plain, is) ↦ repeat_of_fails mode first second byte rest (glyph byte false) 4 why (rw plain refl) (rw plain (omega arith)) is
    ]

graphic_escape_fails : (mode : Mode) (more : List ℕ) (why : Why) → graphic_escape_at more ≡ Err why → FaultsAfter mode why (Some Ge) more
unfolding graphic_escape_at
graphic_escape_fails mode [] why e = faults_along mode Ge _ _ _ (err_is (Item × ℕ) _ _ e) (omega arith)
graphic_escape_fails mode (code ∷ rest) why e =
    elim (chosen (is_graphic code) _ _ _ e) [
      | inl (good, found) ↦ absurd cc
      | inr (bad, is) ↦ faults_along mode Ge _ _ _ (err_is (Item × ℕ) _ _ is) (omega arith, (λ wrong. absurd cc), bad)
    ]

bad_pairs_modify : (more : List ℕ) → HasBadType Sfe more → HasBadType Mf more
bad_pairs_modify [] bad = bad
bad_pairs_modify (count ∷ rest) bad = bad

order_fails : (mode : Mode) (code : Option OrderCode) (more : List ℕ) (why : Why) → order_after mode code more ≡ Err why → FaultsAfter mode why code more
order_fails mode None more why e = subst (λ w. FaultsAfter mode w None more) (err_is (Item × ℕ) _ _ e) tt
order_fails mode (Some Sf) more why e = start_field_fails mode more why e
order_fails mode (Some Sfe) more why e = pairs_fail_as mode start_field_extended Sfe more why (λ short. short) (λ bad. bad) e
order_fails mode (Some Sba) more why e = address_fails_as mode set_buffer_address Sba more why (λ short. short) (λ bad. bad) e
order_fails mode (Some Sa) more why e = set_attribute_fails mode more why e
order_fails mode (Some Mf) more why e = pairs_fail_as mode modify_field Mf more why (λ short. short) (λ bad. (bad.0, bad_pairs_modify more bad.1)) e
order_fails mode (Some Ic) more why e = absurd cc
order_fails mode (Some Pt) more why e = absurd cc
order_fails mode (Some Ra) more why e = repeat_fails mode more why e
order_fails mode (Some Eua) more why e = address_fails_as mode erase_unprotected_to_address Eua more why (λ short. short) (λ bad. (bad.0, (refl, bad.1.1))) e
order_fails mode (Some Ge) more why e = graphic_escape_fails mode more why e

pub front_fails : (mode : Mode) (byte : ℕ) (more : List ℕ) (why : Why) → front mode (byte ∷ more) ≡ Err why → HasFault mode why (byte ∷ more)
unfolding front
front_fails mode byte more why e =
    elim (chosen (is_text byte) _ _ _ e) [
      | inl (passes, found) ↦ absurd cc
      | inr (fails, is) ↦ (fails, order_fails mode (order_code_at byte) more why is)
    ]

-- ---- what is at fault is refused

-- the four ways in which an order of a known code can be at fault
fault_kind : (mode : Mode) (why : Why) (code : OrderCode) (more : List ℕ) → FaultsAfter mode why (Some code) more
    → ((why ≡ Truncated) × (length more < bytes_after code more))
    ⊎ (((why ≡ ReservedAddress) × IsWhole code more × HasBadAddress mode code more)
    ⊎ (((why ≡ BadType) × IsWhole code more × HasBadType code more)
    ⊎ ((why ≡ BadCharacter) × IsWhole code more × (HasBadAddress mode code more → ⊥) × HasBadCharacter code more)))
fault_kind mode Truncated code more f = inl (refl, f)
fault_kind mode ReservedAddress code more f = inr (inl (refl, f.0, f.1))
fault_kind mode BadType code more f = inr (inr (inl (refl, f.0, f.1)))
fault_kind mode BadCharacter code more f = inr (inr (inr (refl, f.0, f.1, f.2)))
fault_kind mode Empty code more f = absurd f
fault_kind mode UnknownCommand code more f = absurd f
fault_kind mode StructuredField code more f = absurd f
fault_kind mode NoWcc code more f = absurd f
fault_kind mode UnknownOrder code more f = absurd f
fault_kind mode Trailing code more f = absurd f

no_address : (mode : Mode) (code : OrderCode) (more : List ℕ) → has_address code ≡ false → HasBadAddress mode code more → ⊥
no_address mode code more has bad = absurd cc

start_field_refused : (mode : Mode) (why : Why) (more : List ℕ) → FaultsAfter mode why (Some Sf) more → start_field_at more ≡ Err why
unfolding start_field_at
start_field_refused mode why [] f =
    elim (fault_kind mode why Sf [] f) [
      | inl (is, short) ↦ rw is refl
      | inr (inl (is, whole, bad)) ↦ absurd (omega arith)
      | inr (inr (inl (is, whole, bad))) ↦ absurd bad
      | inr (inr (inr (is, whole, good, bad))) ↦ absurd bad
    ]
start_field_refused mode why (byte ∷ rest) f =
    elim (fault_kind mode why Sf (byte ∷ rest) f) [
      | inl (is, short) ↦ absurd (omega arith)
      | inr (inl (is, whole, bad)) ↦ absurd (no_address mode Sf (byte ∷ rest) refl bad)
      | inr (inr (inl (is, whole, bad))) ↦ absurd bad
      | inr (inr (inr (is, whole, good, bad))) ↦ absurd bad
    ]

-- SFE and MF alike, each of which has these faults and no other
pairs_refused : (make : List ℕ → Item) (why : Why) (more : List ℕ)
    → (((why ≡ Truncated) × (length more < bytes_after Sfe more)) ⊎ ((why ≡ BadType) × IsWhole Sfe more × HasBadType Sfe more)) → pairs_at make more ≡ Err why
unfolding pairs_at
pairs_refused make why [] (inl (is, short)) = rw is refl
pairs_refused make why [] (inr (is, whole, bad)) = absurd bad
pairs_refused make why (count ∷ rest) (inl (is, short)) = rw (is, lt-ltb (length rest) (2 * count) (omega arith)) refl
pairs_refused make why (count ∷ rest) (inr (is, whole, bad)) = rw (is, le-ltb (length rest) (2 * count) (omega arith), bad) refl

extended_refused : (mode : Mode) (why : Why) (more : List ℕ) → FaultsAfter mode why (Some Sfe) more → pairs_at start_field_extended more ≡ Err why
extended_refused mode why more f =
    elim (fault_kind mode why Sfe more f) [
      | inl (is, short) ↦ pairs_refused start_field_extended why more (inl (is, short))
      | inr (inl (is, whole, bad)) ↦ absurd (no_address mode Sfe more refl bad)
      | inr (inr (inl (is, whole, bad))) ↦ pairs_refused start_field_extended why more (inr (is, whole, bad))
      | inr (inr (inr (is, whole, good, bad))) ↦ absurd bad
    ]

bad_pairs_extended : (more : List ℕ) → HasBadType Mf more → HasBadType Sfe more
bad_pairs_extended [] bad = bad
bad_pairs_extended (count ∷ rest) bad = bad

modify_refused : (mode : Mode) (why : Why) (more : List ℕ) → FaultsAfter mode why (Some Mf) more → pairs_at modify_field more ≡ Err why
modify_refused mode why more f =
    elim (fault_kind mode why Mf more f) [
      | inl (is, short) ↦ pairs_refused modify_field why more (inl (is, short))
      | inr (inl (is, whole, bad)) ↦ absurd (no_address mode Mf more refl bad)
      | inr (inr (inl (is, whole, bad))) ↦ pairs_refused modify_field why more (inr (is, whole, bad_pairs_extended more bad))
      | inr (inr (inr (is, whole, good, bad))) ↦ absurd bad
    ]

-- SBA and EUA alike
address_refused : (mode : Mode) (make : ℕ → Item) (why : Why) (more : List ℕ)
    → (((why ≡ Truncated) × (length more < 2)) ⊎ ((why ≡ ReservedAddress) × (2 ≤ length more) × IsReserved mode (slice_index more 0))) → address_order_at mode make more ≡ Err why
unfolding address_order_at
address_refused mode make why [] (inl (is, short)) = rw is refl
address_refused mode make why (first ∷ []) (inl (is, short)) = rw is refl
address_refused mode make why (first ∷ second ∷ rest) (inl (is, short)) = absurd (omega arith)
address_refused mode make why [] (inr (is, whole, bad)) = absurd (omega arith)
address_refused mode make why (first ∷ []) (inr (is, whole, bad)) = absurd (omega arith)
address_refused mode make why (first ∷ second ∷ rest) (inr (is, whole, bad)) = rw (is, reserved_again mode first second bad) refl

set_address_refused : (mode : Mode) (why : Why) (more : List ℕ) → FaultsAfter mode why (Some Sba) more → address_order_at mode set_buffer_address more ≡ Err why
set_address_refused mode why more f =
    elim (fault_kind mode why Sba more f) [
      | inl (is, short) ↦ address_refused mode set_buffer_address why more (inl (is, short))
      | inr (inl (is, whole, bad)) ↦ address_refused mode set_buffer_address why more (inr (is, whole, bad.1))
      | inr (inr (inl (is, whole, bad))) ↦ absurd bad
      | inr (inr (inr (is, whole, good, bad))) ↦ absurd bad
    ]

erase_refused : (mode : Mode) (why : Why) (more : List ℕ) → FaultsAfter mode why (Some Eua) more → address_order_at mode erase_unprotected_to_address more ≡ Err why
erase_refused mode why more f =
    elim (fault_kind mode why Eua more f) [
      | inl (is, short) ↦ address_refused mode erase_unprotected_to_address why more (inl (is, short))
      | inr (inl (is, whole, bad)) ↦ address_refused mode erase_unprotected_to_address why more (inr (is, whole, bad.1))
      | inr (inr (inl (is, whole, bad))) ↦ absurd bad
      | inr (inr (inr (is, whole, good, bad))) ↦ absurd bad
    ]

set_attribute_cases : (why : Why) (more : List ℕ)
    → (((why ≡ Truncated) × (length more < 2)) ⊎ ((why ≡ BadType) × (2 ≤ length more) × HasBadType Sa more)) → set_attribute_at more ≡ Err why
unfolding set_attribute_at
set_attribute_cases why [] (inl (is, short)) = rw is refl
set_attribute_cases why (kind ∷ []) (inl (is, short)) = rw is refl
set_attribute_cases why (kind ∷ value ∷ rest) (inl (is, short)) = absurd (omega arith)
set_attribute_cases why [] (inr (is, whole, bad)) = absurd bad
set_attribute_cases why (kind ∷ []) (inr (is, whole, bad)) = absurd (omega arith)
set_attribute_cases why (kind ∷ value ∷ rest) (inr (is, whole, bad)) = rw (is, bad) refl

set_attribute_refused : (mode : Mode) (why : Why) (more : List ℕ) → FaultsAfter mode why (Some Sa) more → set_attribute_at more ≡ Err why
set_attribute_refused mode why more f =
    elim (fault_kind mode why Sa more f) [
      | inl (is, short) ↦ set_attribute_cases why more (inl (is, short))
      | inr (inl (is, whole, bad)) ↦ absurd (no_address mode Sa more refl bad)
      | inr (inr (inl (is, whole, bad))) ↦ set_attribute_cases why more (inr (is, whole, bad))
      | inr (inr (inr (is, whole, good, bad))) ↦ absurd bad
    ]

bare_refused : (mode : Mode) (why : Why) (code : OrderCode) (more : List ℕ) (front : Front) → bytes_after code more ≡ 0 → has_address code ≡ false → (HasBadType code more → ⊥) → (HasBadCharacter code more → ⊥)
    → FaultsAfter mode why (Some code) more → front ≡ Err why
bare_refused mode why code more front none has typed character f =
    elim (fault_kind mode why code more f) [
      | inl (is, short) ↦ absurd (omega arith)
      | inr (inl (is, whole, bad)) ↦ absurd (no_address mode code more has bad)
      | inr (inr (inl (is, whole, bad))) ↦ absurd (typed bad)
      | inr (inr (inr (is, whole, good, bad))) ↦ absurd (character bad)
    ]

graphic_escape_refused : (mode : Mode) (why : Why) (more : List ℕ) → FaultsAfter mode why (Some Ge) more → graphic_escape_at more ≡ Err why
unfolding graphic_escape_at
graphic_escape_refused mode why [] f =
    elim (fault_kind mode why Ge [] f) [
      | inl (is, short) ↦ rw is refl
      | inr (inl (is, whole, bad)) ↦ absurd (omega arith)
      | inr (inr (inl (is, whole, bad))) ↦ absurd bad
      | inr (inr (inr (is, whole, good, bad))) ↦ absurd bad
    ]
graphic_escape_refused mode why (code ∷ rest) f =
    elim (fault_kind mode why Ge (code ∷ rest) f) [
      | inl (is, short) ↦ absurd (omega arith)
      | inr (inl (is, whole, bad)) ↦ absurd (no_address mode Ge (code ∷ rest) refl bad)
      | inr (inr (inl (is, whole, bad))) ↦ absurd bad
      | inr (inr (inr (is, whole, good, bad))) ↦ rw (is, bad) refl
    ]

-- Repeat to Address with its address and the first byte of its character
address_or_not : (mode : Mode) (first second : ℕ) → IsReserved mode first ⊎ ((stop : ℕ) × (address_at mode first second ≡ Some stop))
address_or_not mode first second =
    elim (address_at mode first second) as (λ o. address_at mode first second ≡ o → IsReserved mode first ⊎ ((stop : ℕ) × (address_at mode first second ≡ Some stop))) [
      | None ↦ λ none. inl (is_reserved mode first second none)
      | Some stop ↦ λ some. inr (stop, some)
    ] refl

repeat_of_refused : (mode : Mode) (why : Why) (first second : ℕ) (g : Glyph) (taken : ℕ)
    → (((why ≡ ReservedAddress) × IsReserved mode first) ⊎ ((why ≡ BadCharacter) × (IsReserved mode first → ⊥) × (is_glyph g ≡ false)))
    → repeat_of (address_at mode first second) g taken ≡ Err why
repeat_of_refused mode why first second g taken (inl (is, bad)) = rw (is, reserved_again mode first second bad) refl
repeat_of_refused mode why first second g taken (inr (is, good, bad)) =
    elim (address_or_not mode first second) [
      | inl reserved ↦ absurd (good reserved)
      | inr (stop, some) ↦ rw (is, some, bad) refl
    ]

-- the faults of a whole Repeat to Address, told of the character that it has
whole_repeat : (mode : Mode) (why : Why) (first second byte : ℕ) (rest : List ℕ) (g : Glyph) (taken : ℕ) → g ≡ character_at (byte ∷ rest) → bytes_after Ra (first ∷ second ∷ byte ∷ rest) ≤ length (first ∷ second ∷ byte ∷ rest)
    → FaultsAfter mode why (Some Ra) (first ∷ second ∷ byte ∷ rest) → repeat_of (address_at mode first second) g taken ≡ Err why
whole_repeat mode why first second byte rest g taken told enough f =
    elim (fault_kind mode why Ra (first ∷ second ∷ byte ∷ rest) f) [
      | inl (is, short) ↦ absurd (omega arith)
      | inr (inl (is, whole, bad)) ↦ repeat_of_refused mode why first second g taken (inl (is, bad.1))
      | inr (inr (inl (is, whole, bad))) ↦ absurd bad
      | inr (inr (inr (is, whole, good, bad))) ↦ repeat_of_refused mode why first second g taken (inr (is, (λ reserved. good (refl, reserved)), rw told bad))
    ]

-- a Repeat to Address of which a byte is missing
short_repeat : (mode : Mode) (why : Why) (more : List ℕ) → length more < bytes_after Ra more → FaultsAfter mode why (Some Ra) more → why ≡ Truncated
short_repeat mode why more short f =
    elim (fault_kind mode why Ra more f) [
      | inl (is, lt) ↦ is
      | inr (inl (is, whole, bad)) ↦ absurd (omega arith)
      | inr (inr (inl (is, whole, bad))) ↦ absurd (omega arith)
      | inr (inr (inr (is, whole, good, bad))) ↦ absurd (omega arith)
    ]

escaped_refused : (mode : Mode) (why : Why) (first second byte : ℕ) (rest : List ℕ) → eqb byte (code_of Ge) ≡ true → FaultsAfter mode why (Some Ra) (first ∷ second ∷ byte ∷ rest)
    → repeat_escaped (address_at mode first second) rest ≡ Err why
escaped_refused mode why first second byte [] escaped f = rw (short_repeat mode why (first ∷ second ∷ byte ∷ []) (rw escaped (omega arith)) f) refl
escaped_refused mode why first second byte (code ∷ rest) escaped f = whole_repeat mode why first second byte (code ∷ rest) (glyph code true) 5 (rw escaped refl) (rw escaped (omega arith)) f

repeat_refused : (mode : Mode) (why : Why) (more : List ℕ) → FaultsAfter mode why (Some Ra) more → repeat_at mode more ≡ Err why
unfolding repeat_at
repeat_refused mode why [] f = rw (short_repeat mode why [] (omega arith) f) refl
repeat_refused mode why (first ∷ []) f = rw (short_repeat mode why (first ∷ []) (omega arith) f) refl
repeat_refused mode why (first ∷ second ∷ []) f = rw (short_repeat mode why (first ∷ second ∷ []) (omega arith) f) refl
repeat_refused mode why (first ∷ second ∷ byte ∷ rest) f =
    elim (eqb byte (code_of Ge)) as (λ b. eqb byte (code_of Ge) ≡ b → cond b (repeat_escaped (address_at mode first second) rest) (repeat_of (address_at mode first second) (glyph byte false) 4) ≡ Err why) [
      | true ↦ λ escaped. escaped_refused mode why first second byte rest escaped f
      | false ↦ λ plain. whole_repeat mode why first second byte rest (glyph byte false) 4 (rw plain refl) (rw plain (omega arith)) f
    ] refl

order_refused : (mode : Mode) (why : Why) (code : OrderCode) (more : List ℕ) → FaultsAfter mode why (Some code) more → order_after mode (Some code) more ≡ Err why
order_refused mode why Sf more f = start_field_refused mode why more f
order_refused mode why Sfe more f = extended_refused mode why more f
order_refused mode why Sba more f = set_address_refused mode why more f
order_refused mode why Sa more f = set_attribute_refused mode why more f
order_refused mode why Mf more f = modify_refused mode why more f
order_refused mode why Ic more f = bare_refused mode why Ic more _ refl refl (λ b. b) (λ b. b) f
order_refused mode why Pt more f = bare_refused mode why Pt more _ refl refl (λ b. b) (λ b. b) f
order_refused mode why Ra more f = repeat_refused mode why more f
order_refused mode why Eua more f = erase_refused mode why more f
order_refused mode why Ge more f = graphic_escape_refused mode why more f

-- a byte that begins no order
unknown_is : (mode : Mode) (why : Why) (more : List ℕ) → FaultsAfter mode why None more → why ≡ UnknownOrder
unknown_is mode UnknownOrder more f = refl
unknown_is mode Empty more f = absurd f
unknown_is mode UnknownCommand more f = absurd f
unknown_is mode StructuredField more f = absurd f
unknown_is mode NoWcc more f = absurd f
unknown_is mode Truncated more f = absurd f
unknown_is mode ReservedAddress more f = absurd f
unknown_is mode BadType more f = absurd f
unknown_is mode BadCharacter more f = absurd f
unknown_is mode Trailing more f = absurd f

code_refused : (mode : Mode) (why : Why) (code : Option OrderCode) (more : List ℕ) → FaultsAfter mode why code more → order_after mode code more ≡ Err why
code_refused mode why None more f = rw (unknown_is mode why more f) refl
code_refused mode why (Some code) more f = order_refused mode why code more f

pub front_refused : (mode : Mode) (why : Why) (bytes : List ℕ) → HasFault mode why bytes → front mode bytes ≡ Err why
unfolding front
front_refused mode why [] f = absurd f
front_refused mode why (byte ∷ more) f = rw f.0 (code_refused mode why (order_code_at byte) more f.1)
