-- What the bytes of a piece add, as they are taken one by one.
use Rattle.std.proofs.Common.{◌≡◌, ℕ, Bool, true, false, cond, length, arith, List, [], ◌∷◌, ◌++◌, Ok, Err, refl, sym, ◌∙◌, ap, subst, inl, inr, append_assoc, append-nil}
use Rattle.std.specs.Prelude.{Result, IfOk}
use Rattle.std.specs.declared.alloc.AllocError.{AllocError}
use Rattle.tn_traces.specs.declared.line.Side.{Side}
use Rattle.tn_traces.specs.declared.line.Side.TheVariants.{Host, Terminal}
use Rattle.cli_traces.specs.declared.asked.Asked.{Asked}
use Rattle.cli_traces.specs.declared.follower.Follower.{Follower}
use Rattle.cli_traces.specs.declared.line.Next.{Next}
use Rattle.cli_traces.specs.Following.{Following, Course, goes, stops, AddsByte, AddsBytes, AddsEither, AddsPiece, end_of_text, with_seen}
use Rattle.cli_traces.specs.Held.{IsReady, course_seen, following_seen}
use Rattle.cli_traces.specs.Reading.{ends_text}
use Rattle.cli_traces.specs.Start.{may_cut, record_end}
use Rattle.cli_traces.proofs.Cuts.{IsOpenAt, no_piece}

-- the text that was added to one before
abbrev pub Adds : (List ℕ → Type 0) → List ℕ → List ℕ → Type 0
Adds these old new = (text : List ℕ) × (new ≡ old ++ text) × these text

pub no_bytes : (bytes : List ℕ) → length bytes ≡ 0 → bytes ≡ []
no_bytes [] none = refl
no_bytes (byte ∷ bytes) none = absurd (omega arith)

-- ---- the end of text

pub open_at : (side : Side) (follower : Follower) → IsReady follower → IsOpenAt side (following_seen follower)
open_at Host follower ready = ready.0.1
open_at Terminal follower ready = ready.1.1

module _ (asked : Asked) (number : ℕ) (side : Side) where
  pub text_ends : (f : Following) (text : List ℕ) (course : Course) → ends_text side f.reading ≡ true → AddsPiece asked number side f record_end text course
      → AddsPiece asked number side f (end_of_text side f.reading) text course
  text_ends f text course is adds = subst (λ z. AddsPiece asked number side f z text course) (sym (ap (λ b. cond b record_end []) is)) adds

  pub text_ends_in : (f : Following) (old new : List ℕ) (later : Following) (result : Result Next AllocError) → ends_text side f.reading ≡ true
      → IfOk result (λ next. Adds (λ text. AddsPiece asked number side f record_end text (course_seen next later)) old new)
      → IfOk result (λ next. Adds (λ text. AddsPiece asked number side f (end_of_text side f.reading) text (course_seen next later)) old new)
  text_ends_in f old new later (Ok next) is adds = (adds.0, adds.1, text_ends f adds.0 (course_seen next later) is adds.2)
  text_ends_in f old new later (Err e) is adds = tt

  pub text_stays : (f : Following) (old : List ℕ) → ends_text side f.reading ≡ false → IsOpenAt side f
      → Adds (λ text. AddsPiece asked number side f (end_of_text side f.reading) text (goes f)) old old
  text_stays f old is open_now =
      ([], sym (append-nil old), subst (λ z. AddsPiece asked number side f z [] (goes f)) (sym (ap (λ b. cond b record_end []) is)) (no_piece asked number side f open_now))

  -- ---- a byte

  pub byte_goes : (f mid : Following) (byte : ℕ) (old between new : List ℕ) (later : Following) (result : Result Next AllocError)
      → Adds (λ text. AddsPiece asked number side (with_seen byte f) (byte ∷ []) text (goes mid)) old between
      → IfOk result (λ next. Adds (λ text. AddsPiece asked number side mid (end_of_text side mid.reading) text (course_seen next later)) between new)
      → IfOk result (λ next. Adds (λ text. AddsByte asked number side f byte text (course_seen next later)) old new)
  byte_goes f mid byte old between new later (Ok next) first second =
      (first.0 ++ second.0, second.1 ∙ ap (λ z. z ++ second.0) first.1 ∙ append_assoc old first.0 second.0, inr (first.0, second.0, mid, first.2, refl, second.2))
  byte_goes f mid byte old between new later (Err e) first second = tt

  pub byte_stops : (f : Following) (byte : ℕ) (old new : List ℕ) → Adds (λ text. AddsPiece asked number side (with_seen byte f) (byte ∷ []) text stops) old new
      → Adds (λ text. AddsByte asked number side f byte text stops) old new
  byte_stops f byte old new first = (first.0, first.1, inl (first.2, refl))

  -- ---- bytes

  -- a front of the bytes was taken; what is added from here on is added after it
  pub record BytesSoFar (f : Following) (piece old : List ℕ) (now : Following) (rest new : List ℕ) : Type 0 where
    pub added : List ℕ
    pub went : new ≡ old ++ added
    pub on : (more : List ℕ) (course : Course) → AddsBytes asked number side now rest more course → AddsBytes asked number side f piece (added ++ more) course

  pub bytes_begin : (f : Following) (piece old : List ℕ) → BytesSoFar f piece old f piece old
  bytes_begin f piece old = record { added = []; went = sym (append-nil old); on = λ more course adds. adds }

  one_by_one : (test : Bool) (one other : Type 0) → test ≡ true → one → AddsEither test one other
  one_by_one true one other is this = this
  one_by_one false one other is this = absurd cc

  all_others : (test : Bool) (one other : Type 0) → test ≡ false → other → AddsEither test one other
  all_others true one other is this = absurd cc
  all_others false one other is this = this

  module _ (f : Following) (piece old : List ℕ) (now : Following) (rest new : List ℕ) (so : BytesSoFar f piece old now rest new) where
    joined : (after text : List ℕ) → after ≡ new ++ text → after ≡ old ++ (so.added ++ text)
    joined after text is = is ∙ ap (λ z. z ++ text) so.went ∙ append_assoc old so.added text

    pub bytes_end : rest ≡ [] → Adds (λ text. AddsBytes asked number side f piece text (goes now)) old new
    bytes_end none =
        let last : AddsBytes asked number side now rest [] (goes now) = subst (λ z. AddsBytes asked number side now z [] (goes now)) (sym none) (refl, refl) in
        (so.added, so.went, subst (λ z. AddsBytes asked number side f piece z (goes now)) (append-nil so.added) (so.on [] (goes now) last))

    module _ (byte : ℕ) (others : List ℕ) (is : rest ≡ byte ∷ others) (after : List ℕ) where
      goes_to : (text : List ℕ) (course : Course) → after ≡ new ++ text → AddsBytes asked number side now (byte ∷ others) text course
          → Adds (λ text'. AddsBytes asked number side f piece text' course) old after
      goes_to text course went adds = (so.added ++ text, joined after text went, so.on text course (subst (λ z. AddsBytes asked number side now z text course) (sym is) adds))

      pub bytes_whole : (later : Following) (result : Result Next AllocError) → may_cut side now.reading.start ≡ false
          → IfOk result (λ next. Adds (λ text. AddsPiece asked number side now rest text (course_seen next later)) new after)
          → IfOk result (λ next. Adds (λ text. AddsBytes asked number side f piece text (course_seen next later)) old after)
      bytes_whole later (Ok next) shut adds =
          goes_to adds.0 (course_seen next later) adds.1
          (all_others (may_cut side now.reading.start) _ _ shut (subst (λ z. AddsPiece asked number side now z adds.0 (course_seen next later)) is adds.2))
      bytes_whole later (Err e) shut adds = tt

      pub bytes_stop : may_cut side now.reading.start ≡ true → Adds (λ text. AddsByte asked number side now byte text stops) new after
          → Adds (λ text. AddsBytes asked number side f piece text stops) old after
      bytes_stop may adds = goes_to adds.0 stops adds.1 (one_by_one (may_cut side now.reading.start) _ _ may (inl (adds.2, refl)))

      pub bytes_more : (next : Following) → may_cut side now.reading.start ≡ true → Adds (λ text. AddsByte asked number side now byte text (goes next)) new after
          → BytesSoFar f piece old next others after
      bytes_more next may adds = record {
        added = so.added ++ adds.0;
        went = joined after adds.0 adds.1;
        on = λ more course later.
            let here : AddsBytes asked number side now (byte ∷ others) (adds.0 ++ more) course =
            one_by_one (may_cut side now.reading.start) _ _ may (inr (adds.0, more, next, adds.2, refl, later)) in
            subst (λ z. AddsBytes asked number side f piece z course) (sym (append_assoc so.added adds.0 more))
            (so.on (adds.0 ++ more) course (subst (λ z. AddsBytes asked number side now z (adds.0 ++ more) course) (sym is) here));
      }
