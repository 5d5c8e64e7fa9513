-- Laws of a walk over lines.
use Rattle.std.proofs.Common.{◌≡◌, ◌≢◌, ◌⊎◌, ◌<◌, ◌≤◌, ℕ, zero, suc, ◌+◌, ◌-◌, Bool, true, false, List, [], ◌∷◌, ◌++◌, length, take, get_or, refl, ap, sym, ◌∙◌, subst, arith, inl, inr, length-append}
use Rattle.std.specs.Prelude.{is_some, not, ◌&&◌, ◌||◌, ◌==◌, nat_lt}
use Rattle.std.proofs.lemmas.List.{length-take-le}
use Rattle.std.proofs.lemmas.Bool.{lt-ltb}
use Rattle.std.proofs.lemmas.Bool.Decides.{nat_tests}
use Rattle.ds_codec.proofs.Below.{both_true}
use Rattle.bstr.specs.Text.{no_cr, without_terminator}
use Rattle.cli_reasons.specs.declared.judged.Judged.TheVariants.{Nothing}
use Rattle.cli_reasons.specs.declared.record_line.SizesBy.{SizesBy}
use Rattle.cli_reasons.specs.declared.walk.Lines.{Lines}
use Rattle.cli_reasons.specs.declared.walk.Lines.TheVariants as lines
use Rattle.cli_reasons.specs.Judged.{is_session, judged_trace}
use Rattle.cli_reasons.specs.Walked.{Walked, after_judged, after_line, begins, heard, hears, is_done, is_too_long, is_trace, judged_line}
use Rattle.cli_reasons.specs.Hearing.{is_enough, is_whole}

pub by_bool : {P : Type 0} (b : Bool) → (b ≡ true → P) → (b ≡ false → P) → P
by_bool true is other = is refl
by_bool false is other = other refl

-- ---- lines one after the other

pub heard_app : (walked : Walked) (some more : List (List ℕ)) → heard walked (some ++ more) ≡ heard (heard walked some) more
heard_app walked [] more = refl
heard_app walked (raw ∷ some) more = heard_app (hears walked raw) some more

pub hears_done : (walked : Walked) (raw : List ℕ) → is_done walked ≡ true → hears walked raw ≡ walked
hears_done walked raw done = rw done refl

pub heard_done : (walked : Walked) (raws : List (List ℕ)) → is_done walked ≡ true → heard walked raws ≡ walked
heard_done walked [] done = refl
heard_done walked (raw ∷ raws) done = rw (hears_done walked raw done) (heard_done walked raws done)

-- what the lines are stays
pub hears_lines : (walked : Walked) (raw : List ℕ) → (hears walked raw).lines ≡ walked.lines
hears_lines walked raw =
    by_bool (is_done walked) (λ done. rw done refl)
    (λ goes. rw goes (by_bool (is_too_long walked.lines raw) (λ long. rw long refl) (λ short. rw short refl)))

-- ---- the front of a line tells whether it has bytes of a side

pub session_more : (kept more : List ℕ) → 4 ≤ length kept → is_session (kept ++ more) ≡ is_session kept
session_more [] more few = absurd (omega arith)
session_more (a ∷ []) more few = absurd (omega arith)
session_more (a ∷ b ∷ []) more few = absurd (omega arith)
session_more (a ∷ b ∷ c ∷ []) more few = absurd (omega arith)
session_more (a ∷ b ∷ c ∷ d ∷ kept) more few = refl

session_front : (raw : List ℕ) (count : ℕ) → 4 ≤ count → is_session (take count raw) ≡ is_session raw
session_front raw zero few = absurd (omega arith)
session_front raw (suc zero) few = absurd (omega arith)
session_front raw (suc (suc zero)) few = absurd (omega arith)
session_front raw (suc (suc (suc zero))) few = absurd (omega arith)
session_front [] (suc (suc (suc (suc count)))) few = refl
session_front (a ∷ []) (suc (suc (suc (suc count)))) few = refl
session_front (a ∷ b ∷ []) (suc (suc (suc (suc count)))) few = refl
session_front (a ∷ b ∷ c ∷ []) (suc (suc (suc (suc count)))) few = refl
session_front (a ∷ b ∷ c ∷ d ∷ raw) (suc (suc (suc (suc count)))) few = refl

session_no_cr : (raw : List ℕ) → 5 ≤ length raw → is_session (no_cr raw) ≡ is_session raw
session_no_cr raw long =
    by_bool (nat_lt 0 (length raw) && get_or raw (length raw - 1) 0 == 13)
    (λ ends. rw ends (session_front raw (length raw - 1) (omega arith))) (λ other. rw other refl)

session_line : (raw : List ℕ) → 6 ≤ length raw → is_session (without_terminator raw) ≡ is_session raw
session_line raw long =
    by_bool (nat_lt 0 (length raw) && get_or raw (length raw - 1) 0 == 10)
    (λ ends.
    let short : length (take (length raw - 1) raw) ≡ length raw - 1 = length-take-le (length raw - 1) raw (omega arith) in
    rw ends (session_no_cr (take (length raw - 1) raw) (omega arith) ∙ session_front raw (length raw - 1) (omega arith)))
    (λ other. rw other refl)

-- ---- enough of a line

-- a line of a trace without bytes of a side
is_passed : Lines → List ℕ → Bool
is_passed which raw = is_trace which && not (is_session raw)

trace_judged : (which : Lines) (sizes : SizesBy) (line : List ℕ) → is_trace which ≡ true → is_session line ≡ false → judged_line which sizes line ≡ Nothing
trace_judged lines.Trace sizes line is none = rw none refl
trace_judged lines.Records sizes line is none = absurd (let wrong : false ≡ true = is in cc)
trace_judged lines.ReadRecords sizes line is none = absurd (let wrong : false ≡ true = is in cc)
trace_judged lines.SizedRecords sizes line is none = absurd (let wrong : false ≡ true = is in cc)
trace_judged lines.Turns sizes line is none = absurd (let wrong : false ≡ true = is in cc)
trace_judged lines.SizedTurns sizes line is none = absurd (let wrong : false ≡ true = is in cc)
trace_judged lines.Answers sizes line is none = absurd (let wrong : false ≡ true = is in cc)
trace_judged lines.AnswersOfTurns sizes line is none = absurd (let wrong : false ≡ true = is in cc)
trace_judged (lines.Names names) sizes line is none = absurd (let wrong : false ≡ true = is in cc)
trace_judged lines.Orders sizes line is none = absurd (let wrong : false ≡ true = is in cc)
trace_judged lines.Characters sizes line is none = absurd (let wrong : false ≡ true = is in cc)
trace_judged lines.Layout sizes line is none = absurd (let wrong : false ≡ true = is in cc)
trace_judged (lines.Buffer size) sizes line is none = absurd (let wrong : false ≡ true = is in cc)
trace_judged lines.Stream sizes line is none = absurd (let wrong : false ≡ true = is in cc)

-- such a line leads to the same, whatever stands in it
passed_line : (walked : Walked) (raw : List ℕ) → is_trace walked.lines ≡ true → is_session raw ≡ false → 6 ≤ length raw
    → after_line walked (without_terminator raw) ≡ after_judged walked [] Nothing
passed_line walked raw is none long =
    rw (trace_judged walked.lines walked.sizes (without_terminator raw) is (session_line raw long ∙ none)) refl

pub over_lt : (a b : ℕ) → nat_lt a b ≡ true → a < b
over_lt a b is = grind (arith, nat_tests)

not_true : (b : Bool) → not b ≡ true → b ≡ false
not_true false is = refl
not_true true is = absurd (let wrong : false ≡ true = is in cc)

either_true : (a b : Bool) → (a || b) ≡ true → (a ≡ true) ⊎ (b ≡ true)
either_true true b is = inl refl
either_true false b is = inr is

enough_long : (which : Lines) (kept : List ℕ) → is_enough which kept ≡ true → 6 ≤ length kept
enough_long which kept enough =
    elim (either_true (nat_lt 16777219 (length kept)) (is_trace which && (nat_lt 64 (length kept) && not (is_session kept))) enough) [
      | inl over ↦ let far : 16777219 < length kept = over_lt 16777219 (length kept) over in omega arith
      | inr front ↦
          let parts = both_true (is_trace which) (nat_lt 64 (length kept) && not (is_session kept)) front in
          let some : 64 < length kept = over_lt 64 (length kept) (both_true (nat_lt 64 (length kept)) (not (is_session kept)) parts.1).0 in
          omega arith
    ]

pub enough_over : (which : Lines) (kept : List ℕ) → (is_trace which && not (is_session kept)) ≡ false → is_enough which kept ≡ true → 16777219 < length kept
enough_over which kept tells enough =
    elim (either_true (nat_lt 16777219 (length kept)) (is_trace which && (nat_lt 64 (length kept) && not (is_session kept))) enough) [
      | inl over ↦ over_lt 16777219 (length kept) over
      | inr front ↦
          let parts = both_true (is_trace which) (nat_lt 64 (length kept) && not (is_session kept)) front in
          let none = both_true (nat_lt 64 (length kept)) (not (is_session kept)) parts.1 in
          absurd (let wrong : false ≡ true = sym tells ∙ rw (parts.0, none.1) refl in cc)
    ]

never_long : (b : Bool) → (b && false) ≡ false
never_long true = refl
never_long false = refl

hears_passed : (walked : Walked) (raw : List ℕ) → is_done walked ≡ false → is_trace walked.lines ≡ true → is_session raw ≡ false → 6 ≤ length raw
    → hears walked raw ≡ after_judged walked [] Nothing
hears_passed walked raw goes is none long =
    rw (goes, is, none, never_long (nat_lt 16777219 (length raw))) (passed_line walked raw is none long)

-- of a line that is too long no more than that counts
hears_long : (walked : Walked) (raw : List ℕ) → is_done walked ≡ false → (is_trace walked.lines && not (is_session raw)) ≡ false
    → 16777219 < length raw → hears walked raw ≡ record walked { over = true }
hears_long walked raw goes tells long =
    rw (goes, lt-ltb 16777219 (length raw) long, tells) refl

-- what is kept of a line leads to the same as the line
enough_goes : (walked : Walked) (kept more : List ℕ) → is_done walked ≡ false → is_enough walked.lines kept ≡ true
    → hears walked (kept ++ more) ≡ hears walked kept
enough_goes walked kept more goes enough =
    by_bool (is_trace walked.lines && not (is_session kept))
    (λ passed.
    let parts = both_true (is_trace walked.lines) (not (is_session kept)) passed in
    let none : is_session kept ≡ false = not_true (is_session kept) parts.1 in
    let long : 6 ≤ length kept = enough_long walked.lines kept enough in
    hears_passed walked (kept ++ more) goes parts.0 (session_more kept more (omega arith) ∙ none) (omega (arith, length-append kept more))
    ∙ sym (hears_passed walked kept goes parts.0 none long))
    (λ tells.
    let over : 16777219 < length kept = enough_over walked.lines kept tells enough in
    let more_tells : (is_trace walked.lines && not (is_session (kept ++ more))) ≡ false =
    rw (session_more kept more (omega arith)) tells in
    hears_long walked (kept ++ more) goes more_tells (omega (arith, length-append kept more))
    ∙ sym (hears_long walked kept goes tells over))

pub enough_same : (walked : Walked) (kept more : List ℕ) → is_enough walked.lines kept ≡ true → hears walked (kept ++ more) ≡ hears walked kept
enough_same walked kept more enough =
    by_bool (is_done walked) (λ done. hears_done walked (kept ++ more) done ∙ sym (hears_done walked kept done))
    (λ goes. enough_goes walked kept more goes enough)

-- nothing is not enough
pub none_enough : (which : Lines) → is_enough which [] ≡ false
none_enough which = never_long (is_trace which)
