-- Records in turn under the rule of their turn: one record further, and that the rules are those of the openings.
use Rattle.std.proofs.Common.{◌≡◌, ℕ, suc, ◌+◌, ◌<◌, ◌≤◌, List, [], ◌∷◌, map, length, get_or, drop, Result, Ok, Err, refl, sym, ◌∙◌, ap, arith}
use Rattle.std.proofs.Math.Seq.{drop-cons}
use Rattle.std.proofs.lemmas.List.{drop_all}
use Rattle.ds_codec.specs.declared.refused.Refused as read
use Rattle.ds_codec.specs.Record.{Message}
use Rattle.ds_codec.specs.Reading.{◌>>=◌, read_of}
use Rattle.ds_screen.specs.Picture.{Picture}
use Rattle.scr_check.specs.declared.finding.Finding.{Finding}
use Rattle.scr_check.specs.Opening.{command_fault, taken}
use Rattle.scr_check.specs.Walk.{later_fault, taken_later, later_from}
use Rattle.scr_check.specs.Taking.{Fault, taken_by, all_taken_by}

pub one_more : {A : Type 0} (fault : Fault) (f : A → List ℕ) (records : List A) (index : ℕ) (d : A) (w next : Picture) → index < length records
    → taken_by fault index w (read_of w.geometry.mode (f (get_or records index d))) ≡ Ok next
    → all_taken_by fault (index + 1) next (map f (drop (index + 1) records)) ≡ all_taken_by fault index w (map f (drop index records))
one_more fault f records index d w next lt takes =
    ap (λ k. all_taken_by fault (index + 1) next (map f (drop k records))) (let e : index + 1 ≡ suc index = omega arith in e)
    ∙ sym (ap (λ l. all_taken_by fault index w (map f l)) (drop-cons records index d lt)
    ∙ ap (λ r. r >>= λ later. all_taken_by fault (index + 1) later (map f (drop (suc index) records))) takes)

pub one_stops : {A : Type 0} (fault : Fault) (f : A → List ℕ) (records : List A) (index : ℕ) (d : A) (w : Picture) (finding : Finding) → index < length records
    → taken_by fault index w (read_of w.geometry.mode (f (get_or records index d))) ≡ Err finding
    → all_taken_by fault index w (map f (drop index records)) ≡ Err finding
one_stops fault f records index d w finding lt stops =
    ap (λ l. all_taken_by fault index w (map f l)) (drop-cons records index d lt)
    ∙ ap (λ r. r >>= λ later. all_taken_by fault (index + 1) later (map f (drop (suc index) records))) stops

pub all_end : {A : Type 0} (fault : Fault) (f : A → List ℕ) (records : List A) (index : ℕ) (w : Picture) → length records ≤ index
    → all_taken_by fault index w (map f (drop index records)) ≡ Ok w
all_end fault f records index w le = ap (λ l. all_taken_by fault index w (map f l)) (drop_all index records le)

-- ---- the rule of the first turn
pub first_one : (index : ℕ) (v : Picture) (r : Result Message read.Refused) → taken_by (λ i command orders. command_fault i command) index v r ≡ taken index v r
first_one index v (Ok message) = refl
first_one index v (Err refused) = refl

-- ---- the rule of a later turn
later_one : (index : ℕ) (v : Picture) (r : Result Message read.Refused) → taken_by later_fault index v r ≡ taken_later index v r
later_one index v (Ok message) = refl
later_one index v (Err refused) = refl

same_after : (r : Result Picture Finding) (one other : Picture → Result Picture Finding) → ((w : Picture) → one w ≡ other w) → (r >>= one) ≡ (r >>= other)
same_after (Ok w) one other same = same w
same_after (Err finding) one other same = refl

pub is_later : (index : ℕ) (v : Picture) (records : List (List ℕ)) → all_taken_by later_fault index v records ≡ later_from index v records
is_later index v [] = refl
is_later index v (bytes ∷ others) =
    ap (λ r. r >>= λ next. all_taken_by later_fault (index + 1) next others) (later_one index v (read_of v.geometry.mode bytes))
    ∙ same_after (taken_later index v (read_of v.geometry.mode bytes)) _ (λ next. later_from (index + 1) next others) (λ next. is_later (index + 1) next others)
