-- Blocks that are gone over one after the other, as their numbers are listed.
use Rattle.std.proofs.Common.{◌≡◌, ◌≢◌, ℕ, zero, suc, ◌+◌, ◌-◌, ◌<◌, ◌≤◌, cond, eqb, List, [], ◌∷◌, length, get_or, set, map, Some, None, refl, sym, ◌∙◌, ap, subst, arith, inl, inr, vec_capacity, get_or-set_same, get_or-set_other}
use Rattle.std.specs.Global as heap
use Rattle.std.proofs.lemmas.Bool.{cond-false, cases_lt, cases_eq, ne_eqb}
use Rattle.std.proofs.lemmas.List.{map-set, length-map, get_or-map, get_or_default}
use Rattle.std.proofs.Math.Seq.{map-set_same}
use Rattle.ds_places.specs.Places.{at_place, IsRising}
use Rattle.ds_places.specs.Pages.{lists_of, rooms_of, list_at, listed_if, itself, Alters, IsBlock, AreBlocks}
use Rattle.ds_places.proofs.ListLaws.{rises_order, at_none, at_held}

-- ---- one block
module _ {T : Type 0} where
  pub other_blocks : (blocks : List (heap.Vec T)) (k : ℕ) (v : heap.Vec T) (j : ℕ) → j ≢ k → list_at (lists_of (set blocks k v)) j ≡ list_at (lists_of blocks) j
  other_blocks blocks k v j apart =
      let items = λ (x : heap.Vec T). x.items in
      ap (λ (xs : List (List T)). get_or xs j []) (map-set items blocks k v) ∙ get_or-set_other (map items blocks) k j v.items [] apart

  pub block_here : (blocks : List (heap.Vec T)) (k : ℕ) (v : heap.Vec T) → k < length blocks → list_at (lists_of (set blocks k v)) k ≡ v.items
  block_here blocks k v lt =
      let items = λ (x : heap.Vec T). x.items in
      ap (λ (xs : List (List T)). get_or xs k []) (map-set items blocks k v) ∙ get_or-set_same (map items blocks) k v.items [] (omega (arith, length-map blocks items))

  pub block_read : (blocks : List (heap.Vec T)) (k : ℕ) (v : heap.Vec T) → k < length blocks → v ≡ get_or blocks k v → v.items ≡ list_at (lists_of blocks) k
  block_read blocks k v lt is =
      let items = λ (x : heap.Vec T). x.items in
      ap items is ∙ sym (get_or-map items blocks k v [] lt)

  pub room_read : (blocks : List (heap.Vec T)) (k : ℕ) (v : heap.Vec T) → k < length blocks → v ≡ get_or blocks k v → vec_capacity v ≡ get_or (rooms_of blocks) k 0
  room_read blocks k v lt is =
      let capacity = λ (x : heap.Vec T). vec_capacity x in
      ap capacity is ∙ sym (get_or-map capacity blocks k v 0 lt)

  pub rooms_stay : (blocks : List (heap.Vec T)) (k : ℕ) (v was : heap.Vec T) → was ≡ get_or blocks k was → vec_capacity v ≡ vec_capacity was → rooms_of (set blocks k v) ≡ rooms_of blocks
  rooms_stay blocks k v was is same =
      let capacity = λ (x : heap.Vec T). vec_capacity x in
      map-set_same capacity blocks k v was (same ∙ ap capacity is)

  pub room_more : (blocks : List (heap.Vec T)) (k : ℕ) (v : heap.Vec T) (j : ℕ) → k < length blocks → 512 ≤ vec_capacity v → 512 ≤ get_or (rooms_of blocks) j 0 → 512 ≤ get_or (rooms_of (set blocks k v)) j 0
  room_more blocks k v j lt more had =
      let capacity = λ (x : heap.Vec T). vec_capacity x in
      elim (cases_eq j k) [
        | inl same ↦
            let e : get_or (rooms_of (set blocks k v)) j 0 ≡ vec_capacity v =
            ap (λ (xs : List ℕ). get_or xs j 0) (map-set capacity blocks k v) ∙ ap (get_or_at (set (map capacity blocks) k (vec_capacity v))) same
            ∙ get_or-set_same (map capacity blocks) k (vec_capacity v) 0 (omega (arith, lt, length-map blocks capacity)) in
            omega (arith, e, more)
        | inr apart ↦
            let e : get_or (rooms_of (set blocks k v)) j 0 ≡ get_or (rooms_of blocks) j 0 =
            ap (λ (xs : List ℕ). get_or xs j 0) (map-set capacity blocks k v) ∙ get_or-set_other (map capacity blocks) k j (vec_capacity v) 0 apart in
            omega (arith, e, had)
      ]
    where
      get_or_at : List ℕ → ℕ → ℕ
      get_or_at xs i = get_or xs i 0

  pub altered : (blocks : List (heap.Vec T)) (k : ℕ) (v was : heap.Vec T) → was ≡ get_or blocks k was → vec_capacity v ≡ vec_capacity was → Alters blocks (set blocks k v) k
  altered blocks k v was is same = record { others = λ j apart. other_blocks blocks k v j apart; rooms = rooms_stay blocks k v was is same }

  pub count_lists : (blocks : List (heap.Vec T)) → length (lists_of blocks) ≡ length blocks
  count_lists blocks = length-map blocks (λ (x : heap.Vec T). x.items)

  pub count_rooms : (blocks : List (heap.Vec T)) → length (rooms_of blocks) ≡ length blocks
  count_rooms blocks = length-map blocks (λ (x : heap.Vec T). vec_capacity x)

  -- as many rooms, as many blocks
  pub same_count : (old new : List (heap.Vec T)) → rooms_of new ≡ rooms_of old → length new ≡ length old
  same_count old new same = sym (count_rooms new) ∙ ap length same ∙ count_rooms old

  pub same_lists : (old new : List (heap.Vec T)) → rooms_of new ≡ rooms_of old → length (lists_of new) ≡ length (lists_of old)
  same_lists old new same = count_lists new ∙ same_count old new same ∙ sym (count_lists old)

  -- blocks with the room that they had, and numbers that list them
  pub kept_blocks : (place : T → ℕ) (room : ℕ) (old new : List (heap.Vec T)) (used after : List ℕ) → AreBlocks place room (lists_of old) (rooms_of old) used → rooms_of new ≡ rooms_of old
      → ((k : ℕ) → IsBlock place k (list_at (lists_of new) k)) → IsRising itself after → ((k : ℕ) → at_place itself after k ≡ listed_if k (list_at (lists_of new) k))
      → AreBlocks place room (lists_of new) (rooms_of new) after
  kept_blocks place room old new used after are same each rising listed =
      record {
        each = each;
        enough = same_lists old new same ∙ are.enough;
        roomy = λ k lt. subst (λ (r : List ℕ). 512 ≤ get_or r k 0) (sym same) (are.roomy k (omega (arith, lt, same_lists old new same)));
        rising = rising;
        listed = listed;
      }

-- ---- which blocks are listed
module _ {T : Type 0} where
  pub unlisted : (k : ℕ) (xs : List T) → listed_if k xs ≡ None → xs ≡ []
  unlisted k [] e = refl
  unlisted k (x ∷ xs) e = absurd (let same = e in cc)

  pub none_changed : (f : T → T) (xs : List T) → xs ≡ [] → xs ≡ map f xs
  none_changed f xs none = none ∙ sym (ap (map f) none)

  pub listed_some : (k j : ℕ) (xs : List T) → listed_if k xs ≡ Some j → 0 < length xs
  listed_some k j [] e = absurd (let same = e in cc)
  listed_some k j (x ∷ xs) e = omega arith

  pub listed_alike : (k : ℕ) (xs ys : List T) → (xs ≡ [] → ys ≡ []) → (ys ≡ [] → xs ≡ []) → listed_if k xs ≡ listed_if k ys
  listed_alike k [] [] a b = refl
  listed_alike k [] (y ∷ ys) a b = let e = a refl in absurd cc
  listed_alike k (x ∷ xs) [] a b = let e = b refl in absurd cc
  listed_alike k (x ∷ xs) (y ∷ ys) a b = refl

  -- there is a block that holds something
  pub some_inside : (lists : List (List T)) (k : ℕ) → 0 < length (list_at lists k) → k < length lists
  some_inside [] k some = absurd (omega arith)
  some_inside (xs ∷ lists) zero some = omega arith
  some_inside (xs ∷ lists) (suc k) some = let more = some_inside lists k some in omega (arith, more)

  pub listed_inside : (lists : List (List T)) (used : List ℕ) (i : ℕ) → IsRising itself used → ((k : ℕ) → at_place itself used k ≡ listed_if k (list_at lists k)) → i < length used
      → (0 < length (list_at lists (get_or used i 0))) × (get_or used i 0 < length lists)
  listed_inside lists used i rising listed lt =
      let x : ℕ = get_or used i 0 in
      let some : 0 < length (list_at lists x) = listed_some x x (list_at lists x) (sym (listed x) ∙ at_held itself 0 used rising i 0 lt) in
      (some, some_inside lists x some)

-- ---- going over the blocks whose numbers are listed
-- the number after the first i
abbrev pub bound : List ℕ → ℕ → ℕ
bound used i = cond (eqb i 0) 0 (get_or used (i - 1) 0 + 1)

-- the blocks of the numbers below a bound are done, the others are as they were
pub record Walked {T : Type 0} (Done : ℕ → List T → Type 0) (old now : List (List T)) (low : ℕ) : Type 0 where
  pub done : (k : ℕ) → k < low → Done k (list_at now k)
  pub left : (k : ℕ) → low ≤ k → list_at now k ≡ list_at old k

pub bound_next : (used : List ℕ) (i : ℕ) → bound used (i + 1) ≡ get_or used i 0 + 1
bound_next used i =
    let back : i + 1 - 1 ≡ i = omega arith in
    cond-false (eqb (i + 1) 0) 0 (get_or used (i + 1 - 1) 0 + 1) (ne_eqb (i + 1) 0 (λ same. omega (arith, same))) ∙ ap (λ k. get_or used k 0 + 1) back

pub bound_low : (used : List ℕ) (i : ℕ) → IsRising itself used → i < length used → bound used i ≤ get_or used i 0
bound_low used zero rising lt = omega arith
bound_low used (suc i) rising lt =
    let next : bound used (i + 1) ≡ get_or used i 0 + 1 = bound_next used i in
    let one : suc i ≡ i + 1 = omega arith in
    let rise = rises_order itself 0 used rising i (suc i) 0 (omega arith) lt in
    omega (arith, next, rise, ap (bound used) one)

-- no number is listed between two neighbours
pub quiet : (used : List ℕ) (i k : ℕ) → IsRising itself used → i ≤ length used → bound used i ≤ k → ((j : ℕ) → i ≤ j → j < length used → k < get_or used j 0) → at_place itself used k ≡ None
quiet used i k rising within low high =
    at_none itself used k (λ j d lt same. elim (cases_lt j i) [
      | inl early ↦
          let last : bound used i ≡ get_or used (i - 1) 0 + 1 = cond-false (eqb i 0) 0 (get_or used (i - 1) 0 + 1) (ne_eqb i 0 (λ none. omega (arith, none, early))) in
          let is : get_or used j 0 ≡ k = get_or_default used j 0 d lt ∙ same in
          elim (cases_eq j (i - 1)) [
            | inl one ↦ omega (arith, last, low, is, ap (λ z. get_or used z 0) one)
            | inr less ↦ let rise = rises_order itself 0 used rising j (i - 1) 0 (omega arith) (omega arith) in omega (arith, last, low, is, rise)
          ]
      | inr late ↦
          let is : get_or used j 0 ≡ k = get_or_default used j 0 d lt ∙ same in
          let up = high j late lt in omega (arith, is, up)
    ])

-- the numbers from an index on are above those before the next
pub ahead : (used : List ℕ) (i k : ℕ) → IsRising itself used → i < length used → k < get_or used i 0 → (j : ℕ) → i ≤ j → j < length used → k < get_or used j 0
ahead used i k rising lt less j from within =
    elim (cases_eq i j) [
      | inl same ↦ omega (arith, less, ap (λ z. get_or used z 0) same)
      | inr more ↦ let rise = rises_order itself 0 used rising i j 0 (omega arith) within in omega (arith, less, rise)
    ]

module _ {T : Type 0} (Done : ℕ → List T → Type 0) (old : List (List T)) (used : List ℕ) (rising : IsRising itself used)
    (none : (k : ℕ) → at_place itself used k ≡ None → Done k (list_at old k)) where
  pub walk_init : (low : ℕ) → ((k : ℕ) → k < low → Done k (list_at old k)) → Walked Done old old low
  walk_init low early = record { done = early; left = λ k from. refl }

  pub walk_step : (now next : List (List T)) (i : ℕ) → i < length used → Walked Done old now (bound used i) → ((j : ℕ) → j ≢ get_or used i 0 → list_at next j ≡ list_at now j)
      → Done (get_or used i 0) (list_at next (get_or used i 0)) → Walked Done old next (bound used (i + 1))
  walk_step now next i lt walked others here =
      let x : ℕ = get_or used i 0 in
      let after : bound used (i + 1) ≡ x + 1 = bound_next used i in
      let low = bound_low used i rising lt in
      record {
        done = λ k below. elim (cases_eq k x) [
          | inl same ↦ subst (λ j. Done j (list_at next j)) (sym same) here
          | inr apart ↦ elim (cases_lt k (bound used i)) [
            | inl early ↦ subst (Done k) (sym (others k apart)) (walked.done k early)
            | inr late ↦
                subst (Done k) (sym (others k apart ∙ walked.left k late))
                (none k (quiet used i k rising (omega arith) late (ahead used i k rising lt (omega (arith, below, after, apart)))))
          ]
        ];
        left = λ k from. others k (λ same. omega (arith, same, from, after)) ∙ walked.left k (omega (arith, from, after, low));
      }

  pub walk_end : (now : List (List T)) (low : ℕ) → Walked Done old now low → ((k : ℕ) → low ≤ k → Done k (list_at old k)) → (k : ℕ) → Done k (list_at now k)
  walk_end now low walked late k = elim (cases_lt k low) [
    | inl early ↦ walked.done k early
    | inr from ↦ subst (Done k) (sym (walked.left k from)) (late k from)
  ]

  -- nothing is listed after the last
  pub walk_all : (now : List (List T)) → Walked Done old now (bound used (length used)) → (k : ℕ) → Done k (list_at now k)
  walk_all now walked = walk_end now (bound used (length used)) walked (λ k from. none k (quiet used (length used) k rising (omega arith) from (λ j far lt. absurd (omega arith))))
