-- The item at the front of an answer's bytes: a character, or the beginning of a field.
use Rattle.std.proofs.Common.{◌≡◌, ◌≢◌, ℕ, ◌<◌, ◌≤◌, true, false, cond, eqb, ltb, List, [], ◌∷◌, length, drop, Some, None, Result, Ok, Err, refl, sym, ap, subst, ◌∙◌, arith, inl, inr}
use Rattle.std.specs.Prelude.{IfOk}
use Rattle.std.proofs.lemmas.Bool.{eqb-true, eqb-false, ltb-true, ltb-false, lt-ltb, le-ltb}
use Rattle.ds_codec.specs.declared.size.Mode.{Mode}
use Rattle.ds_codec.specs.Address.{SpellsAddress, address_at}
use Rattle.ds_codec.specs.Character.{Glyph, is_text, is_graphic}
use Rattle.ds_codec.specs.Reading.{◌>>=◌}
use Rattle.ds_codec.proofs.Steps.{chosen, err_is}
use Rattle.ds_codec.proofs.Addresses.{address_again, reserved_again, is_reserved, address_spelled}
use Rattle.ds_inbound.specs.declared.refused.Why.{Why}
use Rattle.ds_inbound.specs.declared.refused.Why.TheVariants.{Empty, UnknownAid, Truncated, BadAddress, BadCharacter, Null}
use Rattle.ds_inbound.specs.declared.item.Item.{Item}
use Rattle.ds_inbound.specs.declared.item.Item.TheVariants as items
use Rattle.ds_inbound.specs.Inbound.{IsGlyphThen, IsAddressThen, IsBadAddress, HasFault}
use Rattle.ds_inbound.specs.Characters.{pair_at, plain_at, front_character}
use Rattle.ds_inbound.specs.Reading.{inside, as_item, place_at, front}
use Rattle.ds_inbound.proofs.Glyphs.{size_of, glyph_again, TakesGlyph, glyph_taken}

-- ---- addresses of the buffer

-- what a search for a position comes to
abbrev pub AddressSays : Mode → ℕ → ℕ → ℕ → Result ℕ Why → Type 0
AddressSays mode cells first second (Ok address) = SpellsAddress mode address first second × (address < cells)
AddressSays mode cells first second (Err why) = (why ≡ BadAddress) × IsBadAddress mode cells first second

found_says : (mode : Mode) (cells first second address : ℕ) → address_at mode first second ≡ Some address
    → AddressSays mode cells first second (inside cells (Some address))
found_says mode cells first second address e =
    let spelled : SpellsAddress mode address first second = address_spelled mode first second address e in
    elim (ltb address cells) as (λ b. ltb address cells ≡ b → AddressSays mode cells first second (cond b (Ok address) (Err BadAddress))) [
      | true ↦ λ near. (spelled, ltb-true address cells near)
      | false ↦ λ far. (refl, inr (address, spelled, ltb-false address cells far))
    ] refl

pub address_says : (mode : Mode) (cells first second : ℕ) → AddressSays mode cells first second (inside cells (address_at mode first second))
address_says mode cells first second =
    elim (address_at mode first second) as (λ o. address_at mode first second ≡ o → AddressSays mode cells first second (inside cells o)) [
      | None ↦ λ e. (refl, inl (is_reserved mode first second e))
      | Some address ↦ λ e. found_says mode cells first second address e
    ] refl

pub inside_again : (mode : Mode) (cells address first second : ℕ) → SpellsAddress mode address first second → address < cells
    → inside cells (address_at mode first second) ≡ Ok address
inside_again mode cells address first second spelled near = rw (address_again mode address first second spelled, lt-ltb address cells near) refl

pub outside_again : (mode : Mode) (cells first second : ℕ) → IsBadAddress mode cells first second → inside cells (address_at mode first second) ≡ Err BadAddress
outside_again mode cells first second (inl reserved) = rw (reserved_again mode first second reserved) refl
outside_again mode cells first second (inr (address, spelled, far)) = rw (address_again mode address first second spelled, le-ltb address cells far) refl

-- ---- what is read at the front

-- the beginning of a field, and what stands behind it
pub record TakesPlace (mode : Mode) (cells place taken : ℕ) (bytes : List ℕ) : Type 0 where
  pub three : taken ≡ 3
  pub inside : taken ≤ length bytes
  pub marked : List ℕ
  pub mark : bytes ≡ 0x11 ∷ marked
  pub then : IsAddressThen mode cells place marked (drop taken bytes)

abbrev pub FrontSays : Mode → ℕ → List ℕ → Result (Item × ℕ) Why → Type 0
FrontSays mode cells bytes (Ok (items.Char character, taken)) = (front_character bytes ≡ Ok (character, taken)) × TakesGlyph character taken bytes
FrontSays mode cells bytes (Ok (items.Field place, taken)) = TakesPlace mode cells place taken bytes
FrontSays mode cells bytes (Err why) = HasFault mode cells why bytes

located : (mode : Mode) (cells first second : ℕ) (rest : List ℕ) (r : Result ℕ Why) → AddressSays mode cells first second r
    → FrontSays mode cells (0x11 ∷ first ∷ second ∷ rest) (r >>= λ place. Ok (items.Field place, 3))
located mode cells first second rest (Ok place) says =
    record { three = refl; inside = omega arith; marked = first ∷ second ∷ rest; mark = refl; then = (first, second, refl, says.0, says.1) }
located mode cells first second rest (Err why) says =
    subst (λ w. FrontSays mode cells (0x11 ∷ first ∷ second ∷ rest) (Err w)) (sym says.0) (first, second, rest, refl, says.1)

place_says : (mode : Mode) (cells : ℕ) (more : List ℕ) → FrontSays mode cells (0x11 ∷ more) (place_at mode cells more)
unfolding place_at
place_says mode cells [] = inl refl
place_says mode cells (first ∷ []) = inr (inl (first, refl))
place_says mode cells (first ∷ second ∷ rest) = located mode cells first second rest _ (address_says mode cells first second)

pair_fault : (mode : Mode) (cells : ℕ) (more : List ℕ) (why : Why) → pair_at more ≡ Err why → HasFault mode cells why (8 ∷ more)
unfolding pair_at
pair_fault mode cells [] why e = let is : Truncated ≡ why = err_is (Glyph × ℕ) Truncated why e in subst (λ w. HasFault mode cells w (8 ∷ [])) is (inr (inr refl))
pair_fault mode cells (code ∷ rest) why e =
    elim (chosen (is_graphic code) _ _ _ e) [
      | inl (passes, read) ↦ absurd cc
      | inr (fails, read) ↦
          let is : BadCharacter ≡ why = err_is (Glyph × ℕ) BadCharacter why read in
          subst (λ w. HasFault mode cells w (8 ∷ code ∷ rest)) is (inl (code, rest, refl, fails))
    ]

plain_fault : (mode : Mode) (cells byte : ℕ) (more : List ℕ) (why : Why) → byte ≢ 0x11 → byte ≢ 8 → plain_at byte ≡ Err why → HasFault mode cells why (byte ∷ more)
plain_fault mode cells byte more why no-mark no-pair e =
    elim (chosen (eqb byte 0) _ _ _ e) [
      | inl (none, read) ↦
          let is : Null ≡ why = err_is (Glyph × ℕ) Null why read in
          subst (λ w. HasFault mode cells w (byte ∷ more)) is (more, ap (λ b. b ∷ more) (eqb-true byte 0 none))
      | inr (some, read) ↦ elim (chosen (is_text byte) _ _ _ read) [
        | inl (passes, told) ↦ absurd cc
        | inr (fails, told) ↦
            let is : BadCharacter ≡ why = err_is (Glyph × ℕ) BadCharacter why told in
            subst (λ w. HasFault mode cells w (byte ∷ more)) is (inr (byte, more, refl, fails, no-mark, no-pair))
      ]
    ]

character_fault : (mode : Mode) (cells byte : ℕ) (more : List ℕ) (why : Why) → byte ≢ 0x11 → front_character (byte ∷ more) ≡ Err why → HasFault mode cells why (byte ∷ more)
unfolding front_character
character_fault mode cells byte more why no-mark e =
    elim (chosen (eqb byte 8) _ _ _ e) [
      | inl (same, read) ↦ subst (λ b. HasFault mode cells why (b ∷ more)) (sym (eqb-true byte 8 same)) (pair_fault mode cells more why read)
      | inr (other, read) ↦ plain_fault mode cells byte more why no-mark (eqb-false byte 8 other) read
    ]

character_says : (mode : Mode) (cells byte : ℕ) (more : List ℕ) (r : Result (Glyph × ℕ) Why) → byte ≢ 0x11 → front_character (byte ∷ more) ≡ r
    → FrontSays mode cells (byte ∷ more) (as_item r)
character_says mode cells byte more (Ok found) no-mark read = (read, glyph_taken (byte ∷ more) found read)
character_says mode cells byte more (Err why) no-mark read = character_fault mode cells byte more why no-mark read

-- what reading finds at the front is there
pub front_says : (mode : Mode) (cells byte : ℕ) (more : List ℕ) → FrontSays mode cells (byte ∷ more) (front mode cells (byte ∷ more))
unfolding front
front_says mode cells byte more =
    elim (eqb byte 0x11) as (λ b. eqb byte 0x11 ≡ b → FrontSays mode cells (byte ∷ more) (cond b (place_at mode cells more) (as_item (front_character (byte ∷ more))))) [
      | true ↦ λ same. subst (λ b. FrontSays mode cells (b ∷ more) (place_at mode cells more)) (sym (eqb-true byte 0x11 same)) (place_says mode cells more)
      | false ↦ λ other. character_says mode cells byte more _ (eqb-false byte 0x11 other) refl
    ] refl

-- ---- what is there is read

mark_or_none : (byte : ℕ) (more : List ℕ) (found : Glyph × ℕ) → front_character (byte ∷ more) ≡ Ok found → eqb byte 0x11 ≡ false
unfolding front_character is_text
mark_or_none byte more found e =
    elim (eqb byte 0x11) as (λ b. eqb byte 0x11 ≡ b → b ≡ false) [
      | true ↦ λ same.
          let bad : front_character (0x11 ∷ more) ≡ Ok found = subst (λ k. front_character (k ∷ more) ≡ Ok found) (eqb-true byte 0x11 same) e in
          absurd cc
      | false ↦ λ other. refl
    ] refl

pub front_of_character : (mode : Mode) (cells : ℕ) (bytes : List ℕ) (found : Glyph × ℕ) → front_character bytes ≡ Ok found → front mode cells bytes ≡ Ok (items.Char found.0, found.1)
unfolding front front_character
front_of_character mode cells [] found e = absurd cc
front_of_character mode cells (byte ∷ more) found e = rw (mark_or_none byte more found e) (ap as_item e)

pub front_of_glyph : (mode : Mode) (cells : ℕ) (character : Glyph) (bytes rest : List ℕ) → IsGlyphThen character bytes rest
    → (front mode cells bytes ≡ Ok (items.Char character, size_of character.alt)) × (drop (size_of character.alt) bytes ≡ rest)
front_of_glyph mode cells character bytes rest here =
    let again = glyph_again character.code character.alt bytes rest here in
    (front_of_character mode cells bytes (character, size_of character.alt) again.0, again.1)

pub front_of_place : (mode : Mode) (cells place : ℕ) (bytes marked raw : List ℕ) → bytes ≡ 0x11 ∷ marked → IsAddressThen mode cells place marked raw
    → (front mode cells bytes ≡ Ok (items.Field place, 3)) × (drop 3 bytes ≡ raw)
unfolding front place_at
front_of_place mode cells place bytes marked raw mark (first, second, is, spelled, near) =
    (rw (mark, is, inside_again mode cells place first second spelled near) refl, rw (mark, is) refl)

no_text_other : (byte other : ℕ) → (byte ≡ other → ⊥) → eqb byte other ≡ false
no_text_other byte other differs =
    elim (eqb byte other) as (λ b. eqb byte other ≡ b → b ≡ false) [
      | true ↦ λ same. absurd (differs (eqb-true byte other same))
      | false ↦ λ e. refl
    ] refl

zero_is_text : is_text 0 ≡ true
unfolding is_text
zero_is_text = refl

no_text_some : (byte : ℕ) → is_text byte ≡ false → eqb byte 0 ≡ false
no_text_some byte fails = no_text_other byte 0 (λ same. let passes : is_text byte ≡ true = ap is_text same ∙ zero_is_text in absurd cc)

-- a fault at the front is told
pub front_refused : (mode : Mode) (cells : ℕ) (why : Why) (bytes : List ℕ) → HasFault mode cells why bytes → front mode cells bytes ≡ Err why
unfolding front place_at front_character pair_at
front_refused mode cells Truncated bytes (inl is) = rw is refl
front_refused mode cells Truncated bytes (inr (inl (first, is))) = rw is refl
front_refused mode cells Truncated bytes (inr (inr is)) = rw is refl
front_refused mode cells BadAddress bytes (first, second, rest, is, bad) = rw (is, outside_again mode cells first second bad) refl
front_refused mode cells BadCharacter bytes (inl (code, rest, is, bad)) = rw (is, bad) refl
front_refused mode cells BadCharacter bytes (inr (byte, rest, is, bad, no-mark, no-pair)) =
    rw (is, no_text_other byte 0x11 no-mark, no_text_other byte 8 no-pair, no_text_some byte bad, bad) refl
front_refused mode cells Null bytes (rest, is) = rw is refl
front_refused mode cells Empty bytes fault = absurd fault
front_refused mode cells UnknownAid bytes fault = absurd fault

pub fault_some : (mode : Mode) (cells : ℕ) (why : Why) → HasFault mode cells why [] → ⊥
fault_some mode cells Truncated (inl is) = absurd cc
fault_some mode cells Truncated (inr (inl (first, is))) = absurd cc
fault_some mode cells Truncated (inr (inr is)) = absurd cc
fault_some mode cells BadAddress (first, second, rest, is, bad) = absurd cc
fault_some mode cells BadCharacter (inl (code, rest, is, bad)) = absurd cc
fault_some mode cells BadCharacter (inr (byte, rest, is, bad, no-mark, no-pair)) = absurd cc
fault_some mode cells Null (rest, is) = absurd cc
fault_some mode cells Empty fault = fault
fault_some mode cells UnknownAid fault = fault

-- ---- how much is taken

taken_some : (bytes : List ℕ) (r : Result (Glyph × ℕ) Why) → front_character bytes ≡ r → IfOk r (λ found. 0 < found.1)
taken_some bytes (Ok found) e = (glyph_taken bytes found e).some
taken_some bytes (Err why) e = tt

taken_within : (bytes : List ℕ) (r : Result (Glyph × ℕ) Why) → front_character bytes ≡ r → IfOk r (λ found. found.1 ≤ length bytes)
taken_within bytes (Ok found) e = (glyph_taken bytes found e).inside
taken_within bytes (Err why) e = tt

pub character_some : (bytes : List ℕ) (r : Result (Glyph × ℕ) Why) → r ≡ front_character bytes → IfOk r (λ found. 0 < found.1)
character_some bytes r e = taken_some bytes r (sym e)

pub character_within : (bytes : List ℕ) (r : Result (Glyph × ℕ) Why) → r ≡ front_character bytes → IfOk r (λ found. found.1 ≤ length bytes)
character_within bytes r e = taken_within bytes r (sym e)

says_some : (mode : Mode) (cells : ℕ) (bytes : List ℕ) (r : Result (Item × ℕ) Why) → FrontSays mode cells bytes r → IfOk r (λ found. (0 < found.1) × (found.1 ≤ length bytes))
says_some mode cells bytes (Ok (items.Char character, taken)) says = (says.1.some, says.1.inside)
says_some mode cells bytes (Ok (items.Field place, taken)) says = (omega (arith, says.three), says.inside)
says_some mode cells bytes (Err why) says = tt

both_some : (bytes : List ℕ) (r : Result (Item × ℕ) Why) → IfOk r (λ found. (0 < found.1) × (found.1 ≤ length bytes)) → IfOk r (λ found. 0 < found.1)
both_some bytes (Ok found) both = both.0
both_some bytes (Err why) both = tt

both_within : (bytes : List ℕ) (r : Result (Item × ℕ) Why) → IfOk r (λ found. (0 < found.1) × (found.1 ≤ length bytes)) → IfOk r (λ found. found.1 ≤ length bytes)
both_within bytes (Ok found) both = both.1
both_within bytes (Err why) both = tt

front_both : (mode : Mode) (cells : ℕ) (bytes : List ℕ) → IfOk (front mode cells bytes) (λ found. (0 < found.1) × (found.1 ≤ length bytes))
unfolding front
front_both mode cells [] = tt
front_both mode cells (byte ∷ more) = says_some mode cells (byte ∷ more) (front mode cells (byte ∷ more)) (front_says mode cells byte more)

pub front_some : (mode : Mode) (cells : ℕ) (bytes : List ℕ) (r : Result (Item × ℕ) Why) → r ≡ front mode cells bytes → IfOk r (λ found. 0 < found.1)
front_some mode cells bytes r e = rw e (both_some bytes (front mode cells bytes) (front_both mode cells bytes))

pub front_within : (mode : Mode) (cells : ℕ) (bytes : List ℕ) (r : Result (Item × ℕ) Why) → r ≡ front mode cells bytes → IfOk r (λ found. found.1 ≤ length bytes)
front_within mode cells bytes r e = rw e (both_within bytes (front mode cells bytes) (front_both mode cells bytes))
