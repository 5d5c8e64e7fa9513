-- Going over the orders of a record.
use Rattle.std.proofs.Common.{◌≡◌, ℕ, zero, suc, ◌+◌, ◌-◌, ◌<◌, ◌≤◌, Bool, true, false, eqb, ◌&&◌, List, [], ◌∷◌, ◌++◌, length, take, drop, Option, Some, Result, Ok, Err, refl, sym, ap, subst, ◌∙◌, arith, append_assoc, length-append, length-take, length-drop, inl, inr}
use Rattle.std.specs.List.{list_all, prefix_len}
use Rattle.std.proofs.lemmas.List.{drop_at, take-append-drop, append-nil}
use Rattle.ds_codec.specs.declared.size.Mode.{Mode}
use Rattle.ds_codec.specs.declared.refused.Refused.{Refused}
use Rattle.ds_codec.specs.declared.refused.Why.{Why}
use Rattle.ds_codec.specs.Character.{is_text}
use Rattle.ds_codec.specs.Order.{Item, text, start_field, start_field_extended, set_buffer_address, set_attribute, modify_field, insert_cursor, program_tab, repeat_to_address, erase_unprotected_to_address, graphic_escape, Site, SpellsOrder, HasFault}
use Rattle.ds_codec.specs.Record.{is_text_order, MayFollow, AreSpelled, HaveSpelling}
use Rattle.ds_codec.specs.Reading.{◌>>=◌, front, orders_from, sites_in, refusal_in}
use Rattle.ds_codec.proofs.Below.{both_true}
use Rattle.std.specs.Prelude.{IsOk}
use Rattle.ds_codec.proofs.Steps.{chosen, ok_is, failed}
use Rattle.ds_codec.proofs.TextRuns.{begins, begins-drop-prefix}
use Rattle.ds_codec.proofs.Fronts.{front_takes}
use Rattle.ds_codec.proofs.Again.{front_again}
use Rattle.ds_codec.proofs.Faults.{front_fails, front_refused}

-- to skip bytes is to begin behind them
skips : (mode : Mode) (skip at : ℕ) (bytes : List ℕ) → orders_from mode skip at bytes ≡ orders_from mode 0 (at + skip) (drop skip bytes)
skips mode zero at bytes = let same : at + 0 ≡ at = omega arith in rw same refl
skips mode (suc skip) at [] = refl
skips mode (suc skip) at (byte ∷ rest) =
    let same : (at + 1) + skip ≡ at + suc skip = omega arith in
    skips mode skip (at + 1) rest ∙ ap (λ k. orders_from mode 0 k (drop skip rest)) same

-- the orders after one that was read
abbrev pub then_orders : ℕ → Item → Result (List Site) Refused → Result (List Site) Refused
then_orders at order others = others >>= λ sites. Ok (record { at = at; order = order } ∷ sites)

step_by : (mode : Mode) (at byte : ℕ) (rest : List ℕ) (order : Item) (n : ℕ) → front mode (byte ∷ rest) ≡ Ok (order, n) → 0 < n
    → orders_from mode 0 at (byte ∷ rest) ≡ then_orders at order (orders_from mode 0 (at + n) (drop n (byte ∷ rest)))
step_by mode at byte rest order zero e some = absurd (omega arith)
step_by mode at byte rest order (suc n) e some =
    let back : suc n - 1 ≡ n = omega arith in
    let same : (at + 1) + n ≡ at + suc n = omega arith in
    rw (e, back, skips mode n (at + 1) rest, same) refl

-- an order, and then the others
pub step : (mode : Mode) (at : ℕ) (bytes : List ℕ) (found : Item × ℕ) → front mode bytes ≡ Ok found → 0 < found.1
    → orders_from mode 0 at bytes ≡ then_orders at found.0 (orders_from mode 0 (at + found.1) (drop found.1 bytes))
unfolding front
step mode at [] found e some = absurd cc
step mode at (byte ∷ rest) found e some = step_by mode at byte rest found.0 found.1 e some

-- a fault ends the walk
pub stop : (mode : Mode) (at byte : ℕ) (rest : List ℕ) (why : Why) → front mode (byte ∷ rest) ≡ Err why → orders_from mode 0 at (byte ∷ rest) ≡ Err (record { at = at; why = why })
stop mode at byte rest why e = rw e refl

-- ---- where text can follow

text_begins : (run rest : List ℕ) → 0 < length run → list_all is_text run ≡ true → begins is_text (run ++ rest) ≡ true
text_begins [] rest some all = absurd (omega arith)
text_begins (byte ∷ run) rest some all = (both_true _ _ all).0

-- a run of text begins with text
spelled_text : (mode : Mode) (order : Item) (part rest : List ℕ) → SpellsOrder mode order part → is_text_order order ≡ true → begins is_text (part ++ rest) ≡ true
spelled_text mode (text run) part rest (is, some, all) is-text = rw is (text_begins run rest some all)
spelled_text mode (start_field attribute) part rest s is-text = absurd cc
spelled_text mode (start_field_extended pairs) part rest s is-text = absurd cc
spelled_text mode (set_buffer_address address) part rest s is-text = absurd cc
spelled_text mode (set_attribute kind value) part rest s is-text = absurd cc
spelled_text mode (modify_field pairs) part rest s is-text = absurd cc
spelled_text mode insert_cursor part rest s is-text = absurd cc
spelled_text mode program_tab part rest s is-text = absurd cc
spelled_text mode (repeat_to_address address character) part rest s is-text = absurd cc
spelled_text mode (erase_unprotected_to_address address) part rest s is-text = absurd cc
spelled_text mode (graphic_escape code) part rest s is-text = absurd cc

-- another order doesn't
spelled_other : (mode : Mode) (order : Item) (part rest : List ℕ) → SpellsOrder mode order part → is_text_order order ≡ false → begins is_text (part ++ rest) ≡ false
unfolding is_text
spelled_other mode (text run) part rest s no-text = absurd cc
spelled_other mode (start_field attribute) part rest (byte, is, six) no-text = rw is refl
spelled_other mode (start_field_extended pairs) part rest (more, is, s) no-text = rw is refl
spelled_other mode (set_buffer_address address) part rest (first, second, is, s) no-text = rw is refl
spelled_other mode (set_attribute kind value) part rest (is, good) no-text = rw is refl
spelled_other mode (modify_field pairs) part rest (more, is, s) no-text = rw is refl
spelled_other mode insert_cursor part rest is no-text = rw is refl
spelled_other mode program_tab part rest is no-text = rw is refl
spelled_other mode (repeat_to_address address character) part rest (first, second, more, is, s, told) no-text = rw is refl
spelled_other mode (erase_unprotected_to_address address) part rest (first, second, is, s) no-text = rw is refl
spelled_other mode (graphic_escape code) part rest (is, good) no-text = rw is refl

spelled_some : (mode : Mode) (order : Item) (part : List ℕ) → SpellsOrder mode order part → 0 < length part
spelled_some mode (text run) part (is, some, all) = rw is some
spelled_some mode (start_field attribute) part (byte, is, six) = rw is (omega arith)
spelled_some mode (start_field_extended pairs) part (more, is, s) = rw is (omega arith)
spelled_some mode (set_buffer_address address) part (first, second, is, s) = rw is (omega arith)
spelled_some mode (set_attribute kind value) part (is, good) = rw is (omega arith)
spelled_some mode (modify_field pairs) part (more, is, s) = rw is (omega arith)
spelled_some mode insert_cursor part is = rw is (omega arith)
spelled_some mode program_tab part is = rw is (omega arith)
spelled_some mode (repeat_to_address address character) part (first, second, more, is, s, told) = rw is (omega arith)
spelled_some mode (erase_unprotected_to_address address) part (first, second, is, s) = rw is (omega arith)
spelled_some mode (graphic_escape code) part (is, good) = rw is (omega arith)

-- what may follow text doesn't begin with text
after_text : (mode : Mode) (at : ℕ) (order : Item) (sites : List Site) (bytes rest : List ℕ) → MayFollow order sites → is_text_order order ≡ true → AreSpelled mode at sites bytes
    → begins is_text rest ≡ false → begins is_text (bytes ++ rest) ≡ false
after_text mode at order [] bytes rest follows is-text is ends = rw is ends
after_text mode at order (site ∷ sites) bytes rest follows is-text (part, more, is, at-is, spelled, then, others) ends =
    let other : is_text_order site.order ≡ false = rw is-text at follows in
    rw (is, append_assoc part more rest) (spelled_other mode site.order part (more ++ rest) spelled other)

-- text is read up to what is no text
front_text : (byte : ℕ) (rest : List ℕ) (n : ℕ) → 0 < n → begins is_text (take n (byte ∷ rest) ++ []) ≡ is_text byte
front_text byte rest zero some = absurd (omega arith)
front_text byte rest (suc n) some = refl

text_ends : (mode : Mode) (bytes : List ℕ) (found : Item × ℕ) → front mode bytes ≡ Ok found → is_text_order found.0 ≡ true → begins is_text (drop found.1 bytes) ≡ false
unfolding front
text_ends mode [] found e is-text = absurd cc
text_ends mode (byte ∷ rest) found e is-text =
    elim (chosen (is_text byte) _ _ _ e) [
      | inl (passes, read) ↦
          subst (λ f. begins is_text (drop f.1 (byte ∷ rest)) ≡ false) (ok_is Why (text (take (prefix_len is_text (byte ∷ rest)) (byte ∷ rest)), prefix_len is_text (byte ∷ rest)) found read)
          (begins-drop-prefix is_text (byte ∷ rest))
      | inr (fails, read) ↦
          let taken = front_takes mode (byte ∷ rest) found e in
          let passes : is_text byte ≡ true = sym (front_text byte rest found.1 taken.some) ∙ spelled_text mode found.0 (take found.1 (byte ∷ rest)) [] taken.spelled is-text in
          absurd cc
    ]

-- ---- what is spelled is read

bind_again : (r : Result (List Site) Refused) → (r >>= λ others. Ok others) ≡ r
bind_again (Ok sites) = refl
bind_again (Err e) = refl

then_append : (site : Site) (sites : List Site) (r : Result (List Site) Refused)
    → then_orders site.at site.order (r >>= λ others. Ok (sites ++ others)) ≡ (r >>= λ others. Ok (site ∷ (sites ++ others)))
then_append site sites (Ok others) = refl
then_append site sites (Err e) = refl

pub walk_again : (mode : Mode) (at : ℕ) (sites : List Site) (bytes rest : List ℕ) → AreSpelled mode at sites bytes → begins is_text rest ≡ false
    → orders_from mode 0 at (bytes ++ rest) ≡ (orders_from mode 0 (at + length bytes) rest >>= λ others. Ok (sites ++ others))
walk_again mode at [] bytes rest is ends =
    let same : at + 0 ≡ at = omega arith in
    rw (is, same) (sym (bind_again (orders_from mode 0 at rest)))
walk_again mode at (site ∷ sites) bytes rest (part, more, is, at-is, spelled, follows, others) ends =
    let read : front mode (part ++ (more ++ rest)) ≡ Ok (site.order, length part) = front_again mode site.order part (more ++ rest) spelled (λ is-text. after_text mode (at + length part) site.order sites more rest follows is-text others ends) in
    let behind : drop (length part) (part ++ (more ++ rest)) ≡ more ++ rest = drop_at part (more ++ rest) (length part) refl in
    let there : (at + length part) + length more ≡ at + length (part ++ more) = omega (arith, length-append part more) in
    let first : orders_from mode 0 at (part ++ (more ++ rest)) ≡ then_orders at site.order (orders_from mode 0 (at + length part) (more ++ rest)) = rw behind at (step mode at (part ++ (more ++ rest)) (site.order, length part) read (spelled_some mode site.order part spelled)) in
    rw (is, append_assoc part more rest, first, walk_again mode (at + length part) sites more rest others ends, there, ← at-is) (then_append site sites (orders_from mode 0 (site.at + length (part ++ more)) rest))

-- ---- what is read is spelled, and what is refused is at fault

-- whole orders, and then the fault
abbrev pub FaultsFrom : Mode → ℕ → List ℕ → Refused → Type 0
FaultsFrom mode at bytes e =
    (early : List Site) × (part : List ℕ) × (rest : List ℕ) × (bytes ≡ part ++ rest) × AreSpelled mode at early part × (e.at ≡ at + length part) × HasFault mode e.why rest

abbrev pub WalkSays : Mode → ℕ → List ℕ → Result (List Site) Refused → Type 0
WalkSays mode at bytes (Ok sites) = AreSpelled mode at sites bytes
WalkSays mode at bytes (Err e) = FaultsFrom mode at bytes e

no_text_twice : (first next : Bool) → (first ≡ true → next ≡ true → ⊥) → (first && next) ≡ false
no_text_twice true true h = absurd (h refl refl)
no_text_twice true false h = refl
no_text_twice false next h = refl

may_follow : (mode : Mode) (at : ℕ) (bytes : List ℕ) (found : Item × ℕ) (sites : List Site) (part rest : List ℕ) → front mode bytes ≡ Ok found → drop found.1 bytes ≡ part ++ rest → AreSpelled mode at sites part
    → MayFollow found.0 sites
may_follow mode at bytes found [] part rest read behind spelled = tt
may_follow mode at bytes found (site ∷ sites) part rest read behind (one, more, is, at-is, spelled, follows, others) =
    no_text_twice (is_text_order found.0) (is_text_order site.order) (λ is-text next-text.
    let ends : begins is_text (part ++ rest) ≡ false = rw behind at (text_ends mode bytes found read is-text) in
    let starts : begins is_text (one ++ (more ++ rest)) ≡ true = spelled_text mode site.order one (more ++ rest) spelled next-text in
    let same : part ++ rest ≡ one ++ (more ++ rest) = rw is (append_assoc one more rest) in
    let both : begins is_text (part ++ rest) ≡ true = ap (begins is_text) same ∙ starts in
    absurd cc)

-- an order before what the walk says of the rest
extend : (mode : Mode) (at : ℕ) (bytes : List ℕ) (found : Item × ℕ) (sites : List Site) (part rest : List ℕ) → front mode bytes ≡ Ok found → drop found.1 bytes ≡ part ++ rest → AreSpelled mode (at + found.1) sites part
    → AreSpelled mode at (record { at = at; order = found.0 } ∷ sites) (take found.1 bytes ++ part)
extend mode at bytes found sites part rest read behind spelled =
    let taken = front_takes mode bytes found read in
    let inside : found.1 ≤ length bytes = taken.inside in
    let n : length (take found.1 bytes) ≡ found.1 = omega (arith, length-take found.1 bytes) in
    (take found.1 bytes, part, refl, refl, taken.spelled, may_follow mode (at + found.1) bytes found sites part rest read behind spelled, rw n spelled)

rejoined : (n : ℕ) (bytes part rest : List ℕ) → drop n bytes ≡ part ++ rest → bytes ≡ (take n bytes ++ part) ++ rest
rejoined n bytes part rest e = sym (take-append-drop n bytes) ∙ rw (e) (sym (append_assoc (take n bytes) part rest))

walk_on : (mode : Mode) (at : ℕ) (bytes : List ℕ) (found : Item × ℕ) (r : Result (List Site) Refused) → front mode bytes ≡ Ok found → WalkSays mode (at + found.1) (drop found.1 bytes) r
    → WalkSays mode at bytes (then_orders at found.0 r)
walk_on mode at bytes found (Ok sites) read says =
    let all : drop found.1 bytes ≡ drop found.1 bytes ++ [] = sym (append-nil (drop found.1 bytes)) in
    subst (λ b. AreSpelled mode at (record { at = at; order = found.0 } ∷ sites) b) (take-append-drop found.1 bytes) (extend mode at bytes found sites (drop found.1 bytes) [] read all says)
walk_on mode at bytes found (Err e) read (early, part, rest, is, spelled, at-is, fault) =
    let inside : found.1 ≤ length bytes = (front_takes mode bytes found read).inside in
    let there : e.at ≡ at + length (take found.1 bytes ++ part) = omega (arith, length-append (take found.1 bytes) part, length-take found.1 bytes) in
    (record { at = at; order = found.0 } ∷ early, take found.1 bytes ++ part, rest, rejoined found.1 bytes part rest is, extend mode at bytes found early part rest read is spelled, there, fault)

walk_within : (n : ℕ) (mode : Mode) (at : ℕ) (bytes : List ℕ) → length bytes ≤ n → WalkSays mode at bytes (orders_from mode 0 at bytes)
walk_within n mode at [] short = refl
walk_within zero mode at (byte ∷ rest) short = absurd (omega arith)
walk_within (suc n) mode at (byte ∷ rest) short =
    elim (front mode (byte ∷ rest)) as (λ r. front mode (byte ∷ rest) ≡ r → WalkSays mode at (byte ∷ rest) (orders_from mode 0 at (byte ∷ rest))) [
      | Err why ↦ λ read. rw (stop mode at byte rest why read) ([], [], byte ∷ rest, refl, refl, omega arith, front_fails mode byte rest why read)
      | Ok found ↦ λ read.
          let taken = front_takes mode (byte ∷ rest) found read in
          let some : 0 < found.1 = taken.some in
          let shorter : length (drop found.1 (byte ∷ rest)) ≤ n = omega (arith, length-drop found.1 (byte ∷ rest)) in
          rw (step mode at (byte ∷ rest) found read some) (walk_on mode at (byte ∷ rest) found _ read (walk_within n mode (at + found.1) (drop found.1 (byte ∷ rest)) shorter))
    ] refl

pub walk : (mode : Mode) (at : ℕ) (bytes : List ℕ) → WalkSays mode at bytes (orders_from mode 0 at bytes)
walk mode at bytes = walk_within (length bytes) mode at bytes (omega arith)

-- a fault after whole orders ends the walk there
pub walk_refused : (mode : Mode) (at : ℕ) (early : List Site) (part rest : List ℕ) (why : Why) → AreSpelled mode at early part → HasFault mode why rest
    → orders_from mode 0 at (part ++ rest) ≡ Err (record { at = at + length part; why = why })
walk_refused mode at early part [] why spelled fault = absurd fault
walk_refused mode at early part (byte ∷ rest) why spelled fault =
    walk_again mode at early part (byte ∷ rest) spelled fault.0 ∙ rw (stop mode (at + length part) byte rest why (front_refused mode why (byte ∷ rest) fault)) refl

-- ---- one step of a loop over the orders

refusal_after : (at : ℕ) (order : Item) (r : Result (List Site) Refused) → refusal_in (then_orders at order r) ≡ refusal_in r
refusal_after at order (Ok sites) = refl
refusal_after at order (Err e) = refl

pub goes_on : (mode : Mode) (at : ℕ) (rest : List ℕ) (order : Item) (n : ℕ) (total : Option Refused) → front mode rest ≡ Ok (order, n) → 0 < n → refusal_in (orders_from mode 0 at rest) ≡ total
    → refusal_in (orders_from mode 0 (at + n) (drop n rest)) ≡ total
goes_on mode at rest order n total read some so_far =
    sym (ap refusal_in (step mode at rest (order, n) read some) ∙ refusal_after at order (orders_from mode 0 (at + n) (drop n rest))) ∙ so_far

pub ends : (mode : Mode) (at : ℕ) (rest : List ℕ) (why : Why) (total : Option Refused) → 0 < length rest → front mode rest ≡ Err why → refusal_in (orders_from mode 0 at rest) ≡ total
    → Some (record { at = at; why = why }) ≡ total
ends mode at [] why total some read so_far = absurd (omega arith)
ends mode at (byte ∷ rest) why total some read so_far = sym (ap refusal_in (stop mode at byte rest why read)) ∙ so_far

pub some_left : (n : ℕ) → eqb n 0 ≡ false → 0 < n
some_left zero e = absurd cc
some_left (suc n) e = omega arith

then_ok : (at : ℕ) (order : Item) (r : Result (List Site) Refused) → IsOk (then_orders at order r) → IsOk r
then_ok at order (Ok sites) ok = refl
then_ok at order (Err e) ok = absurd cc

then_sites : (at : ℕ) (order : Item) (r : Result (List Site) Refused) → IsOk r → sites_in (then_orders at order r) ≡ record { at = at; order = order } ∷ sites_in r
then_sites at order (Ok sites) ok = refl
then_sites at order (Err e) ok = absurd cc

-- where the walk ends well, so does the rest of it
pub ok_after : (mode : Mode) (at : ℕ) (rest : List ℕ) (order : Item) (n : ℕ) → front mode rest ≡ Ok (order, n) → 0 < n → IsOk (orders_from mode 0 at rest) → IsOk (orders_from mode 0 (at + n) (drop n rest))
ok_after mode at rest order n read some ok = then_ok at order _ (rw (step mode at rest (order, n) read some) at ok)

-- and the order at the front is the first
pub first_is : (mode : Mode) (at : ℕ) (rest : List ℕ) (order : Item) (n : ℕ) → front mode rest ≡ Ok (order, n) → 0 < n → IsOk (orders_from mode 0 at rest)
    → sites_in (orders_from mode 0 at rest) ≡ record { at = at; order = order } ∷ sites_in (orders_from mode 0 (at + n) (drop n rest))
first_is mode at rest order n read some ok =
    ap sites_in (step mode at rest (order, n) read some) ∙ then_sites at order (orders_from mode 0 (at + n) (drop n rest)) (ok_after mode at rest order n read some ok)

fails_is_ok : (e : Refused) → IsOk (failed {A = List Site} e) → ⊥
fails_is_ok e ok = absurd cc

pub no_stop : (mode : Mode) (at : ℕ) (rest : List ℕ) (why : Why) → 0 < length rest → front mode rest ≡ Err why → IsOk (orders_from mode 0 at rest) → ⊥
no_stop mode at [] why some read ok = absurd (omega arith)
no_stop mode at (byte ∷ rest) why some read ok = let stops = stop mode at byte rest why read in fails_is_ok (record { at = at; why = why }) (rw stops at ok)

-- what a walk without a fault finds is spelled
walk_spelled : (mode : Mode) (at : ℕ) (bytes : List ℕ) (r : Result (List Site) Refused) → WalkSays mode at bytes r → IsOk r → AreSpelled mode at (sites_in r) bytes
walk_spelled mode at bytes (Ok sites) says good = says
walk_spelled mode at bytes (Err e) says good = absurd cc

pub all_spelled : (mode : Mode) (bytes : List ℕ) → IsOk (orders_from mode 0 2 bytes) → HaveSpelling (sites_in (orders_from mode 0 2 bytes))
all_spelled mode bytes good = (mode, bytes, walk_spelled mode 2 bytes (orders_from mode 0 2 bytes) (walk mode 2 bytes) good)
