-- The parts of a state are those of its picture, and how long it is.
use Rattle.std.proofs.Common.{◌≡◌, ℕ, ◌+◌, ◌-◌, ◌*◌, ◌/◌, ◌%◌, ◌^◌, ◌<◌, ◌≤◌, ◌⊎◌, inl, inr, max, Bool, true, List, [], ◌∷◌, ◌++◌, length, take, Some, refl, sym, ap, ◌∙◌, subst, arith, append_assoc, length-append}
use Rattle.std.specs.Prelude.{replicate}
use Rattle.std.proofs.lemmas.Bool.{le-leb}
use Rattle.std.proofs.lemmas.List.{append-nil, take_all, take-append-le, length-replicate}
use Rattle.ds_codec.specs.declared.size.Mode.{Mode}
use Rattle.ds_codec.specs.declared.size.Mode.TheVariants.{Bits14, Bits16}
use Rattle.ds_codec.specs.declared.size.Size.{Size}
use Rattle.ds_codec.specs.Address.{written_address}
use Rattle.ds_codec.specs.Aid.{is_aid}
use Rattle.ds_codec.specs.Geometry.{Sizes, IsGood, cells_of, is_good, geometry_of, limit_of}
use Rattle.ds_screen.specs.declared.lock.Lock.{Lock}
use Rattle.ds_screen.specs.declared.lock.Lock.TheVariants.{Free, Waiting, Error}
use Rattle.ds_screen.specs.Picture.{Picture, IsSound}
use Rattle.ds_state.specs.State.{IsWhole, cells_bytes, cursor_bytes, drawn, erase_code, header_of, lock_byte, mode_byte, most_bytes, record_of, state_of}
use Rattle.ds_state.specs.Header.{Part, geometry_at, geometry_in, length_at, lock_at, mode_at, part_from, part_of, size}
use Rattle.ds_state.proofs.Cells.{address_length, cells_few}
use Rattle.ds_state.proofs.Draws.{good_size}

-- ---- how long

record_length : (v : Picture) → length (record_of v) ≡ 6 + length (cells_bytes v.cells)
unfolding record_of
record_length v =
    let two = address_length v.geometry.mode (cells_of v.size) v.cursor in
    let ends : length (cursor_bytes v) ≡ 4 = omega (arith, length-append {A = ℕ} (written_address v.geometry.mode (cells_of v.size) v.cursor) (0x13 ∷ []), two) in
    omega (arith, length-append (cells_bytes v.cells) (cursor_bytes v), ends)

pub record_few : (v : Picture) → IsSound v → length (record_of v) ≤ 6 + 2 * cells_of v.size
record_few v sound = omega (arith, record_length v, cells_few v.cells, sound.whole)

limit_few : (mode : Mode) → limit_of mode ≤ 65025
limit_few Bits14 = omega arith
limit_few Bits16 = omega arith

pub record_small : (v : Picture) → IsSound v → length (record_of v) < 2 ^ 24
record_small v sound =
    omega (arith, record_few v sound, (good_size v sound).few_cells, limit_few v.geometry.mode)

most_of : (sizes : Sizes) (n : ℕ) → (n ≤ cells_of sizes.default) ⊎ (n ≤ cells_of sizes.alternate) → n ≤ max (cells_of sizes.default) (cells_of sizes.alternate)
most_of sizes n (inl few) = omega (arith, few)
most_of sizes n (inr few) = omega (arith, few)

one_few : (v : Picture) → (v.size ≡ v.geometry.default) ⊎ (v.size ≡ v.geometry.alternate) → (cells_of v.size ≤ cells_of v.geometry.default) ⊎ (cells_of v.size ≤ cells_of v.geometry.alternate)
one_few v (inl is) = inl (omega (arith, ap cells_of is))
one_few v (inr is) = inr (omega (arith, ap cells_of is))

pub record_fits : (v : Picture) → IsSound v → 11 + length (record_of v) ≤ most_bytes v.geometry
record_fits v sound =
    omega (arith, record_few v sound, most_of v.geometry (cells_of v.size) (one_few v sound.one_of_two))

pub state_length : (v : Picture) → IsSound v → length (state_of v) ≡ most_bytes v.geometry
unfolding state_of
state_length v sound =
    let r : List ℕ = record_of v in
    let zeros : List ℕ = replicate (most_bytes v.geometry - (11 + length r)) 0 in
    let head : List ℕ = header_of v (length r) in
    omega (arith, length-append head (r ++ zeros), length-append r zeros, length-replicate {A = ℕ} (most_bytes v.geometry - (11 + length r)) 0, record_fits v sound)

-- ---- put together

pub record_made : (v : Picture) (code : ℕ) (o a b d e : List ℕ) → o ≡ [] → a ≡ o ++ code ∷ [] → code ≡ erase_code v → b ≡ a ++ 0xC2 ∷ [] → d ≡ b ++ cells_bytes v.cells
    → e ≡ d ++ cursor_bytes v → e ≡ record_of v
unfolding record_of
record_made v code o a b d e none first is second third fourth =
    fourth ∙ ap (λ z. z ++ cursor_bytes v) (third ∙ ap (λ z. z ++ cells_bytes v.cells) (second ∙ ap (λ z. z ++ 0xC2 ∷ []) (first ∙ ap (λ z. z ++ code ∷ []) none ∙ ap (λ z. z ∷ []) is)))

pub state_made : (v : Picture) → IsSound v → (n k count : ℕ) (head r o a b e : List ℕ) → o ≡ [] → a ≡ o ++ head → b ≡ a ++ r → e ≡ take n b ++ replicate (n - k) 0
    → head ≡ header_of v count → count ≡ length r → r ≡ record_of v → n ≡ most_bytes v.geometry → k ≡ 11 + length r → e ≡ state_of v
unfolding state_of
state_made v sound n k count head r o a b e none first second third head_is count_is r_is n_is k_is =
    let h : List ℕ = header_of v (length (record_of v)) in
    let b_is : b ≡ h ++ record_of v =
    second ∙ ap (λ z. z ++ r) (first ∙ ap (λ z. z ++ head) none ∙ head_is ∙ ap (header_of v) (count_is ∙ ap length r_is)) ∙ ap (λ z. h ++ z) r_is in
    let len : length b ≡ 11 + length (record_of v) = ap length b_is ∙ length-append h (record_of v) in
    let rest : n - k ≡ most_bytes v.geometry - (11 + length (record_of v)) = omega (arith, n_is, k_is, ap length r_is) in
    third ∙ ap (λ z. z ++ replicate (n - k) 0) (take_all n b (omega (arith, len, record_fits v sound, n_is)) ∙ b_is)
    ∙ append_assoc h (record_of v) (replicate (n - k) 0)
    ∙ ap (λ z. h ++ (record_of v ++ replicate z 0)) rest

-- ---- its parts

good_is : (mode : Mode) (s : Size) → IsGood mode s → is_good mode s ≡ true
good_is mode s good =
    rw (le-leb 1 s.rows good.some_rows, le-leb s.rows 255 good.few_rows, le-leb 2 s.cols good.two_cols, le-leb s.cols 255 good.few_cols, le-leb (cells_of s) (limit_of mode) good.few_cells) refl

mode_is : (mode : Mode) → mode_at (mode_byte mode) ≡ Some mode
mode_is Bits14 = refl
mode_is Bits16 = refl

lock_is : (lock : Lock) → lock_at (lock_byte lock) ≡ Some lock
lock_is Free = refl
lock_is Waiting = refl
lock_is Error = refl

geometry_is : (sizes : Sizes) → IsGood sizes.mode sizes.default → IsGood sizes.mode sizes.alternate
    → geometry_at (mode_byte sizes.mode) sizes.default sizes.alternate ≡ Some sizes
geometry_is sizes one other =
    ap (geometry_in sizes.default sizes.alternate) (mode_is sizes.mode)
    ∙ rw (good_is sizes.mode sizes.default one, good_is sizes.mode sizes.alternate other) refl

length_is : (count : ℕ) → length_at (count / 256 / 256) (count / 256 % 256) (count % 256) ≡ count
length_is count = omega arith

front_is : (r zeros : List ℕ) (count : ℕ) → count ≡ length r → take count (r ++ zeros) ≡ r
front_is r zeros count is =
    ap (λ z. take z (r ++ zeros)) is ∙ take-append-le (length r) r zeros (omega arith) ∙ take_all (length r) r (omega arith)

pub parts_are : (v : Picture) → IsWhole v
    → part_of (state_of v) ≡ Some (record { geometry = v.geometry; lock = v.lock; aid = v.aid; drawing = record_of v })
unfolding state_of
parts_are v whole =
    let sound : IsSound v = whole.sound in
    let r : List ℕ = record_of v in
    let zeros : List ℕ = replicate (most_bytes v.geometry - (11 + length r)) 0 in
    rw (geometry_is v.geometry sound.default_good sound.alternate_good, lock_is v.lock, sound.attention, front_is r zeros _ (length_is (length r))) refl

-- ---- for the code

some_is : {A : Type 0} (x y : A) → Some x ≡ Some y → x ≡ y
some_is x y is = cc

pub told_by : (v : Picture) → IsWhole v → (state : List ℕ) (p : Part) → Some p ≡ part_of state → state ≡ state_of v
    → p ≡ record { geometry = v.geometry; lock = v.lock; aid = v.aid; drawing = record_of v }
told_by v whole state p told is = some_is p _ (told ∙ ap part_of is ∙ parts_are v whole)

-- with its lock and its attention identifier a drawn picture is the picture
pub revived : (v screen locked known : Picture) (lock : Lock) (aid : ℕ) → screen ≡ drawn v → locked ≡ record screen { lock = lock }
    → known ≡ record locked { aid = aid } → lock ≡ v.lock → aid ≡ v.aid → known ≡ v
revived v screen locked known lock aid is lock_set aid_set lock_is' aid_is =
    aid_set ∙ ap (λ (z : Picture). let w : Picture = record z { aid = aid } in w) (lock_set ∙ ap (λ (z : Picture). let w : Picture = record z { lock = lock } in w) is)
    ∙ ap (λ (l : Lock). let w : Picture = record v { lock = l; aid = aid } in w) lock_is' ∙ ap (λ (a : ℕ). let w : Picture = record v { aid = a } in w) aid_is
