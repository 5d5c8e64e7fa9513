-- Statements that are judged one after the other.
use Rattle.std.proofs.Common.{◌≡◌, ◌≤◌, ◌<◌, ◌+◌, ◌-◌, ℕ, zero, suc, List, [], ◌∷◌, length, drop, Option, Some, None, Result, Ok, Err, refl, ap, sym, ◌∙◌, arith}
use Rattle.bms_source.specs.declared.letter.Place.{Place}
use Rattle.bms_source.specs.Statement.{Found, passed, ended, said, statement_in}
use Rattle.bms_source.specs.declared.refusal.SourceError.{SourceError}
use Rattle.bms_source.specs.declared.refusal.SourceError.TheVariants.{OutOfMemory, Refused}
use Rattle.bms_source.specs.Results.{Fails}
use Rattle.bms_source.specs.Told.{Told, place_at, ◌>>=◌}
use Rattle.bms_map.specs.Maps.{Sheet}
use Rattle.bms_map.specs.Source.{Source, source_by, source_from}
use Rattle.std.specs.Prelude.{IfOk}
use Rattle.bms_map.specs.Mapset.{Progress, with_found, whole, told_by, progress_of, with_macro as told_with}

source_behind : (skip number : ℕ) (lines : List (List ℕ)) → skip ≤ length lines → source_from skip number lines ≡ source_from 0 (number + skip) (drop skip lines)
source_behind zero number [] few = ap (λ (n : ℕ). source_from 0 n []) (omega arith)
source_behind zero number (line ∷ lines) few = ap (λ (n : ℕ). source_from 0 n (line ∷ lines)) (omega arith)
source_behind (suc skip) number [] few = absurd (omega (arith, few))
source_behind (suc skip) number (line ∷ lines) few =
    source_behind skip (number + 1) lines (omega (arith, few)) ∙ ap (λ (n : ℕ). source_from 0 n (drop skip lines)) (omega arith)

-- what is due behind a statement
abbrev pub due_behind : ℕ → List (List ℕ) → ℕ → Progress × Option Place → Result (List Sheet) Told
due_behind number lines count (progress, None) = told_by progress (source_from 0 (number + count) (drop count lines))
due_behind number lines count (progress, Some place) = whole progress place

abbrev pub due_by : Progress → ℕ → List (List ℕ) → Result (Found × ℕ) Told → Result (List Sheet) Told
due_by progress number lines (Err e) = Err e
due_by progress number lines (Ok found) = with_found progress found.0 >>= due_behind number lines found.1

said_by : (number count : ℕ) (lines : List (List ℕ)) (source : Source) (more : Result Progress Told) → source ≡ source_from 0 (number + count) (drop count lines)
    → ((more >>= λ p. progress_of p source.macros) >>= λ p. source.end >>= whole p) ≡ ((more >>= λ p. Ok (p, None)) >>= due_behind number lines count)
said_by number count lines source (Err e) is = refl
said_by number count lines source (Ok progress) is = ap (told_by progress) is

one_less : (k : ℕ) → suc k - 1 ≡ k
one_less k = omega arith

next_source : (number k : ℕ) (line : List ℕ) (lines : List (List ℕ)) → suc k ≤ length (line ∷ lines)
    → source_from (suc k - 1) (number + 1) lines ≡ source_from 0 (number + suc k) (drop (suc k) (line ∷ lines))
next_source number k line lines few =
    ap (λ (n : ℕ). source_from n (number + 1) lines) (one_less k) ∙ source_behind k (number + 1) lines (omega (arith, few))
    ∙ ap (λ (n : ℕ). source_from 0 n (drop k lines)) (omega arith)

by_found : (progress : Progress) (number : ℕ) (line : List ℕ) (lines : List (List ℕ)) (r : Result (Found × ℕ) Told)
    → IfOk r (λ f. (0 < f.1) × (f.1 ≤ length (line ∷ lines)))
    → told_by progress (source_by (λ skip. source_from skip (number + 1) lines) r) ≡ due_by progress number (line ∷ lines) r
by_found progress number line lines (Err e) bounds = refl
by_found progress number line lines (Ok (ended place, n)) bounds = refl
by_found progress number line lines (Ok (passed, zero)) bounds = absurd (omega (arith, bounds.0))
by_found progress number line lines (Ok (passed, suc k)) bounds = ap (told_by progress) (next_source number k line lines bounds.1)
by_found progress number line lines (Ok (said macro, zero)) bounds = absurd (omega (arith, bounds.0))
by_found progress number line lines (Ok (said macro, suc k)) bounds =
    said_by number (suc k) (line ∷ lines) (source_from (suc k - 1) (number + 1) lines) (told_with progress macro) (next_source number k line lines bounds.1)

-- what is due of lines, by the statement at their front
pub next_due : (progress : Progress) (number : ℕ) (lines : List (List ℕ)) (r : Result (Found × ℕ) Told) → 1 ≤ length lines → statement_in number lines ≡ r
    → IfOk r (λ f. (0 < f.1) × (f.1 ≤ length lines)) → told_by progress (source_from 0 number lines) ≡ due_by progress number lines r
next_due progress number [] r some is bounds = absurd (omega (arith, some))
next_due progress number (line ∷ lines) r some is bounds =
    ap (λ q. told_by progress (source_by (λ skip. source_from skip (number + 1) lines) q)) is ∙ by_found progress number line lines r bounds

pub failed_read : (progress : Progress) (number : ℕ) (lines : List (List ℕ)) (due : Result (List Sheet) Told) (e : SourceError) → 1 ≤ length lines
    → told_by progress (source_from 0 number lines) ≡ due → Fails e (statement_in number lines) → Fails e due
failed_read progress number lines due OutOfMemory some same fails = tt
failed_read progress number lines due (Refused r) some same fails = sym same ∙ next_due progress number lines (Err r) some fails tt

-- what is due by what was found
pub found_due : (progress : Progress) (number count : ℕ) (lines : List (List ℕ)) (found : Found) (due : Result (List Sheet) Told) → 1 ≤ length lines
    → told_by progress (source_from 0 number lines) ≡ due → statement_in number lines ≡ Ok (found, count) → 0 < count → count ≤ length lines
    → (with_found progress found >>= due_behind number lines count) ≡ due
found_due progress number count lines found due some same is more few = sym (next_due progress number lines (Ok (found, count)) some is (more, few)) ∙ same

pub failed_found : (progress : Progress) (number count : ℕ) (lines : List (List ℕ)) (found : Found) (due : Result (List Sheet) Told) (e : SourceError)
    → (with_found progress found >>= due_behind number lines count) ≡ due → Fails e (with_found progress found) → Fails e due
failed_found progress number count lines found due OutOfMemory same fails = tt
failed_found progress number count lines found due (Refused r) same fails = sym same ∙ ap (λ w. w >>= due_behind number lines count) fails

pub ended_found : (progress more : Progress) (number count : ℕ) (lines : List (List ℕ)) (found : Found) (due : Result (List Sheet) Told) (end : Option Place) (place : Place)
    → (with_found progress found >>= due_behind number lines count) ≡ due → with_found progress found ≡ Ok (more, end) → end ≡ Some place → whole more place ≡ due
ended_found progress more number count lines found due end place same is ended_ =
    sym (ap (λ e. due_behind number lines count (more, e)) ended_) ∙ sym (ap (λ w. w >>= due_behind number lines count) is) ∙ same

pub passed_found : (progress more : Progress) (number count : ℕ) (lines : List (List ℕ)) (found : Found) (due : Result (List Sheet) Told) (end : Option Place)
    → (with_found progress found >>= due_behind number lines count) ≡ due → with_found progress found ≡ Ok (more, end) → end ≡ None
    → told_by more (source_from 0 (number + count) (drop count lines)) ≡ due
passed_found progress more number count lines found due end same is none =
    sym (ap (λ e. due_behind number lines count (more, e)) none) ∙ sym (ap (λ w. w >>= due_behind number lines count) is) ∙ same

pub last_due : (progress : Progress) (number : ℕ) (lines : List (List ℕ)) (due : Result (List Sheet) Told) → length lines ≡ 0
    → told_by progress (source_from 0 number lines) ≡ due → whole progress (place_at number 1) ≡ due
last_due progress number [] due none same = same
last_due progress number (line ∷ lines) due none same = absurd (omega (arith, none))
