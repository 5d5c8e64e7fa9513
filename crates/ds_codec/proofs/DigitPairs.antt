-- Bytes of digits, place by place.
use Rattle.std.proofs.Common.{◌≡◌, ℕ, suc, ◌+◌, ◌-◌, ◌*◌, ◌<◌, ◌≤◌, List, [], ◌∷◌, ◌++◌, true, length, length-take, length-drop, replicate, take, drop, slice_index, slice_set, refl, sym, ap, ◌∙◌, arith, ◌⊎◌, inl, inr}
use Rattle.std.proofs.lemmas.Bool.{cases_eq, cases_lt}
use Rattle.std.proofs.lemmas.List.{get_or-set_same, get_or-set_other, get_or-take, get_or-drop, get_or-append_right, get_or_append_left, get_or-replicate, length-append, length-replicate, length-take-le}
use Rattle.std.specs.Prelude.{Option, Some, None, is_some, Result, Ok, Err}
use Rattle.hex.specs.declared.error.FromHexError.{FromHexError}
use Rattle.hex.specs.Hex.{hex_digit_value, decode_pairs, digit_or_error, ◌>>=◌}
use Rattle.hex.proofs.Pairs.{decode_pairs-ok_pair}
use Rattle.hex.proofs.HexLemmas.{decode_pairs-ok}
use Rattle.ds_codec.specs.Digits.{byte_from, bytes_from, AreValues, AreJoined, AreSpelled, HasOther}
use borrow.Rule.Slice.PartMut.{put_mid}

-- ---- the byte of two digits

pub of_digits : (high low : Option ℕ) (h l : ℕ) → high ≡ Some h → low ≡ Some l → byte_from high low ≡ Some (16 * h + l)
of_digits high low h l first second = rw (first, second) refl

pub of_others : (high low : Option ℕ) → (high ≡ None) ⊎ (low ≡ None) → None ≡ byte_from high low
of_others None low others = refl
of_others (Some a) None others = refl
of_others (Some a) (Some b) (inl bad) = absurd cc
of_others (Some a) (Some b) (inr bad) = absurd cc

-- ---- the places of a list

-- one more is stored
pub stored : (Holds : ℕ → ℕ → Type 0) (xs : List ℕ) (i y : ℕ) → i < length xs
    → ((k : ℕ) → k < i → Holds k (slice_index xs k)) → Holds i y
    → (k : ℕ) → k < i + 1 → Holds k (slice_index (slice_set xs i y) k)
stored Holds xs i y room before here k below = elim (cases_eq k i) [
  | inl same ↦ rw (same, get_or-set_same xs i y 0 room) here
  | inr apart ↦ rw (get_or-set_other xs i k y 0 apart) (before k (omega (arith, below, apart)))
]

-- ---- all bytes of a text

abbrev pair_by : Option ℕ → Option ℕ → ℕ → ℕ → ℕ → Result ℕ FromHexError
pair_by high low a b i = digit_or_error a i high >>= λ h. (digit_or_error b (i + 1) low >>= λ l. Ok (h * 16 + l))

pair_is : (high low : Option ℕ) (a b i byte : ℕ) → byte_from high low ≡ Some byte → pair_by high low a b i ≡ Ok byte
pair_is (Some h) (Some l) a b i byte same =
    let here : 16 * h + l ≡ byte = cc in
    ap (λ n. Ok n) (omega (arith, here))
pair_is None low a b i byte same = absurd cc
pair_is (Some h) None a b i byte same = absurd cc

-- the digits after the first pair
behind : (a b k : ℕ) (rest : List ℕ) → slice_index (a ∷ b ∷ rest) (2 * (suc k)) ≡ slice_index rest (2 * k)
behind a b k rest =
    let two : 2 * suc k ≡ suc (suc (2 * k)) = omega arith in
    rw two refl

behind_next : (a b k : ℕ) (rest : List ℕ) → slice_index (a ∷ b ∷ rest) (2 * (suc k) + 1) ≡ slice_index rest (2 * k + 1)
behind_next a b k rest =
    let two : 2 * suc k + 1 ≡ suc (suc (2 * k + 1)) = omega arith in
    rw two refl

-- bytes that are spelled at each place are what the text decodes to
decodes : (i : ℕ) (digits bytes : List ℕ) → length digits ≡ 2 * length bytes → AreSpelled digits bytes (length bytes) → decode_pairs i digits ≡ Ok bytes
unfolding decode_pairs
decodes i [] [] long spelled = refl
decodes i [] (x ∷ bytes) long spelled = absurd (omega (arith, long))
decodes i (a ∷ []) [] long spelled = absurd (omega (arith, long))
decodes i (a ∷ []) (x ∷ bytes) long spelled = absurd (omega (arith, long))
decodes i (a ∷ b ∷ digits) [] long spelled = absurd (omega (arith, long))
decodes i (a ∷ b ∷ digits) (x ∷ bytes) long spelled =
    let others : AreSpelled digits bytes (length bytes) = λ k below.
    let here = spelled (suc k) (omega (arith, below)) in
    rw (behind a b k digits, behind_next a b k digits) at here in
    let later = decodes (i + 2) digits bytes (omega (arith, long)) others in
    decode_pairs-ok_pair i a b x digits (pair_is (hex_digit_value a) (hex_digit_value b) a b i x (spelled 0 (omega arith)))
    ∙ ap (λ (told : Result (List ℕ) FromHexError). told >>= (λ rest. Ok (x ∷ rest))) later

none_from : (told : Result (List ℕ) FromHexError) → ((bytes : List ℕ) → told ≡ Ok bytes → bytes_from told ≡ None) → bytes_from told ≡ None
none_from (Ok bytes) never = never bytes refl
none_from (Err e) never = refl

-- a text with another byte in it does not decode
pub refuses : (i : ℕ) (digits : List ℕ) → HasOther digits → bytes_from (decode_pairs i digits) ≡ None
refuses i digits (k, inside, other) = none_from (decode_pairs i digits) (λ bytes told.
    let digit : is_some (hex_digit_value (slice_index digits k)) ≡ true = (decode_pairs-ok i digits bytes told).0 k 0 inside in
    absurd cc)

-- ---- parts of a text

-- bytes that are joined of the digits' values
pub spelled : (digits values bytes : List ℕ) (n : ℕ) → AreValues digits values (2 * n) → AreJoined values bytes n → AreSpelled digits bytes n
spelled digits values bytes n values_are joined k below =
    of_digits _ _ _ _ (values_are (2 * k) (omega (arith, below))) (values_are (2 * k + 1) (omega (arith, below)))
    ∙ ap (λ byte. Some byte) (sym (joined k below))

-- the same digits and bytes, as far as they go
spelled_front : (digits padded bytes joined : List ℕ) (n : ℕ)
    → ((k : ℕ) → k < 2 * n → slice_index padded k ≡ slice_index digits k) → ((k : ℕ) → k < n → slice_index bytes k ≡ slice_index joined k)
    → AreSpelled padded joined n → AreSpelled digits bytes n
spelled_front digits padded bytes joined n same_digits same_bytes are k below =
    let here = are k below in
    rw (same_bytes k below) (rw (same_digits (2 * k) (omega (arith, below)), same_digits (2 * k + 1) (omega (arith, below))) at here)

before_or_in : (k at n end : ℕ) → k < end → end ≤ at + n → (k < at) ⊎ ((at ≤ k) × (k - at < n))
before_or_in k at n end below within = grind arith

-- a digit of a part
digit_behind : (digits : List ℕ) (m start j k : ℕ) → j < m → start + j ≡ k → slice_index (take m (drop start digits)) j ≡ slice_index digits k
digit_behind digits m start j k inside same =
    get_or-take m (drop start digits) j 0 inside ∙ get_or-drop start digits j 0 ∙ ap (slice_index digits) same

-- the bytes before a part that was written, and those in it
written_before : (bytes part : List ℕ) (at gone k : ℕ) → at ≤ length bytes → k < at → slice_index (put_mid at gone bytes part) k ≡ slice_index bytes k
written_before bytes part at gone k room below =
    let long = length-take-le at bytes room in
    get_or_append_left (take at bytes) _ 0 k (omega (arith, long, below)) ∙ get_or-take at bytes k 0 below

written_in : (bytes part : List ℕ) (at gone k : ℕ) → at ≤ length bytes → at ≤ k → k - at < length part → slice_index (put_mid at gone bytes part) k ≡ slice_index part (k - at)
written_in bytes part at gone k room above below =
    get_or-append_right (take at bytes) _ at k 0 (length-take-le at bytes room) above ∙ get_or_append_left part _ 0 (k - at) below

-- one part more
pub one_part : (digits bytes part : List ℕ) (at gone m end : ℕ) → at ≤ length bytes → end ≤ at + length part → 2 * length part ≤ m
    → AreSpelled digits bytes at → AreSpelled (take m (drop (2 * at) digits)) part (length part)
    → AreSpelled digits (put_mid at gone bytes part) end
one_part digits bytes part at gone m end room within long before here k below = elim (before_or_in k at (length part) end below within) [
  | inl early ↦ rw (written_before bytes part at gone k room early) (before k early)
  | inr late ↦
      let told = here (k - at) late.1 in
      let high = digit_behind digits m (2 * at) (2 * (k - at)) (2 * k) (omega (arith, late.1, long)) (omega (arith, late.0)) in
      let low = digit_behind digits m (2 * at) (2 * (k - at) + 1) (2 * k + 1) (omega (arith, late.1, long)) (omega (arith, late.0)) in
      rw (written_in bytes part at gone k room late.0 late.1) (rw (high, low) at told)
]

-- what is no digit in a part is none in the whole
pub other_in : (digits : List ℕ) (m start : ℕ) → HasOther (take m (drop start digits)) → HasOther digits
other_in digits m start (k, inside, other) =
    let short = length-take m (drop start digits) in
    let rest = length-drop start digits in
    let here : k < m = grind (arith, inside, short) in
    (start + k, grind (arith, inside, short, rest), rw (digit_behind digits m start k (start + k) here refl) at other)

-- ---- digits with zeros after them

abbrev pub zeros_behind : ℕ → List ℕ → List ℕ
zeros_behind gone digits = put_mid 0 gone (replicate 32 48) digits

padded_front : (digits : List ℕ) (gone k : ℕ) → k < length digits → slice_index (zeros_behind gone digits) k ≡ slice_index digits k
padded_front digits gone k inside = get_or_append_left digits _ 0 k inside

padded_behind : (digits : List ℕ) (k : ℕ) → length digits ≤ k → k < 32 → slice_index (zeros_behind (length digits) digits) k ≡ 48
padded_behind digits k behind inside =
    let here : length digits + (k - length digits) ≡ k = omega (arith, behind) in
    get_or-append_right digits (drop (length digits) (replicate 32 48)) (length digits) k 0 refl behind
    ∙ get_or-drop (length digits) (replicate 32 48) (k - length digits) 0
    ∙ ap (slice_index (replicate 32 48)) here ∙ get_or-replicate 32 k 48 0 inside

length-padded : (digits : List ℕ) → length digits ≤ 32 → length (zeros_behind (length digits) digits) ≡ 32
length-padded digits few =
    let all = length-append {A = ℕ} digits (drop (length digits) (replicate 32 48)) in
    let rest = length-drop {A = ℕ} (length digits) (replicate 32 48) in
    let zeros = length-replicate {A = ℕ} 32 48 in
    omega (arith, all, rest, zeros, few)

other_padded : (digits : List ℕ) → length digits ≤ 32 → HasOther (zeros_behind (length digits) digits) → HasOther digits
other_padded digits few (k, inside, other) = elim (cases_lt k (length digits)) [
  | inl early ↦ (k, early, rw (padded_front digits (length digits) k early) at other)
  | inr late ↦
      let zero_digit : hex_digit_value (slice_index (zeros_behind (length digits) digits) k) ≡ Some 0 =
      ap hex_digit_value (padded_behind digits k late (omega (arith, inside, length-padded digits few))) in
      absurd cc
]

-- what is no digit is not among the zeros
pub other_in_front : (digits front : List ℕ) (gone : ℕ) → front ≡ digits → gone ≡ length digits → length digits ≤ 32 → HasOther (zeros_behind gone front) → HasOther digits
other_in_front digits front gone same long few others = other_padded digits few (rw (same, long) at others)

-- the front of the joined bytes is what the digits spell
pub part_spelled : (digits front values joined bytes : List ℕ) (gone n : ℕ) → front ≡ digits → gone ≡ length digits → length digits ≡ 2 * n → n ≤ 16
    → AreValues (zeros_behind gone front) values (length (zeros_behind gone front)) → AreJoined values joined 16 → bytes ≡ take n joined → AreSpelled digits bytes n
part_spelled digits front values joined bytes gone n same long two few values_are joined_are cut =
    let known : AreValues (zeros_behind (length digits) digits) values (length (zeros_behind (length digits) digits)) = rw (same, long) at values_are in
    let all = length-padded digits (omega (arith, two, few)) in
    spelled_front digits (zeros_behind (length digits) digits) bytes joined n
    (λ k below. padded_front digits (length digits) k (omega (arith, below, two)))
    (λ k below. ap (λ (xs : List ℕ). slice_index xs k) cut ∙ get_or-take n joined k 0 below)
    (spelled (zeros_behind (length digits) digits) values joined n
    (λ k below. known k (omega (arith, below, all, few))) (λ k below. joined_are k (omega (arith, below, few))))

-- the last part
pub last_part : (digits bytes part : List ℕ) (at gone m : ℕ) → at ≤ length bytes → length part ≡ length bytes - at → gone ≡ length bytes - at
    → length digits ≡ 2 * length bytes → 2 * length part ≤ m → AreSpelled digits bytes at → AreSpelled (take m (drop (2 * at) digits)) part (length part)
    → decode_pairs 0 digits ≡ Ok (put_mid at gone bytes part)
last_part digits bytes part at gone m room long left two inside before here =
    let all = length-append {A = ℕ} (take at bytes) (part ++ drop gone (drop at bytes)) in
    let both = length-append {A = ℕ} part (drop gone (drop at bytes)) in
    let front = length-take-le at bytes room in
    let rest = length-drop {A = ℕ} gone (drop at bytes) in
    let behind_front = length-drop {A = ℕ} at bytes in
    let whole : length (put_mid at gone bytes part) ≡ length bytes = omega (arith, all, both, front, rest, behind_front, long, left, room) in
    decodes 0 digits (put_mid at gone bytes part) (omega (arith, whole, two))
    (one_part digits bytes part at gone m (length (put_mid at gone bytes part)) room (omega (arith, whole, long)) inside before here)
