-- What each step over a piece does to what holds between the steps.
use Rattle.std.proofs.Common.{◌≡◌, ℕ, ◌+◌, ◌<◌, List, [], ◌∷◌, ◌++◌, length, None, Ok, Err, refl, sym, ◌∙◌, ap, subst, ⊎_elim, arith, append_assoc}
use Rattle.std.proofs.lemmas.List.{append-nil, length-append}
use Rattle.tn_wire.specs.declared.event.WireFault.{WireFault}
use Rattle.tn_wire.specs.Calls.{Answers, IsQuiet}
use Rattle.tn_wire.specs.Deframer.{Held, Moves}
use Rattle.tn_wire.specs.Stream.{Told, Tells}
use Rattle.tn_wire.proofs.Reading.{append_split}
use Rattle.tn_session.specs.declared.fault.RunFault.{RunFault}
use Rattle.tn_session.specs.Runs.{finishes, fails, Log, going, finished, GoesOn, EndsBy, EndsAtFault}
use Rattle.tn_session.specs.Ran.{Cause, LacksMemory, of_stream, of_memory, of_line, of_reads, of_end, of_events}
use Rattle.tn_session.specs.Talk.{Adds, EventFails, IsDueBefore, EndsWith, PieceFails}
use Rattle.tn_session.proofs.RunLaws.{open_tells, goes-goes, goes-ends, goes-fault, goes-lacks, quiet, nothing_yet, one_goes, one_finishes, one_fails, one_lacks, one_fault}
use Rattle.tn_session.proofs.RunStates.{PieceSoFar}

-- the bytes that a call of the deframer took, and what they tell
took : (old new : Held) (before after : List ℕ) (told : List Told) → old.fault ≡ None → Moves old before (Ok told) new after
    → (taken : List ℕ) × (before ≡ taken ++ after) × Answers old.content taken (Ok told) new.content
took old new before after told fresh m = m.fresh fresh

-- what is added after what was added
more_added : (old mid new given part : List ℕ) → mid ≡ old ++ given → new ≡ mid ++ part → new ≡ old ++ (given ++ part)
more_added old mid new given part first then_added = then_added ∙ ap (λ z. z ++ part) first ∙ append_assoc old given part

nothing_added : (old mid new given part : List ℕ) → mid ≡ old ++ given → new ≡ mid ++ part → part ≡ [] → new ≡ old ++ given
nothing_added old mid new given part first then_added none = then_added ∙ ap (λ z. mid ++ z) none ∙ append-nil mid ∙ first

module _ {State : Type 0} (act : State → Told → Log State) where
  pub piece_begins : (held : Held) (first : State) (piece due : List ℕ) → held.fault ≡ None
      → Tells held.content [] held.content → PieceSoFar act held.content first due piece held first piece due
  piece_begins held first piece due fresh opens = record {
    taken = [];
    given = [];
    front = refl;
    log = nothing_yet act held.content first opens;
    adds = sym (append-nil due);
    fresh = fresh;
  }

  module _ (before : List ℕ) (first : State) (old piece : List ℕ) (held : Held) (now : State) (rest due : List ℕ)
      (so : PieceSoFar act before first old piece held now rest due) (new : Held) (after : List ℕ) where
    -- the piece, once more of it was taken
    whole : (x : List ℕ) → rest ≡ x ++ after → piece ≡ so.taken ++ (x ++ after)
    whole x is = so.front ∙ ap (λ z. so.taken ++ z) is

    -- what was due before
    due_before : IsDueBefore act before first piece so.given
    due_before = record { front = so.taken; more = rest; next = now; left = held.content; cut = so.front; log = so.log }

    pub piece_quiet : Moves held rest (Ok []) new after → Adds old due (λ given. GoesOn act before first piece given now new.content)
    piece_quiet m =
        let p = took held new rest after [] so.fresh m in
        let all : so.taken ++ p.0 ≡ piece =
        ap (λ z. so.taken ++ z) (sym (append-nil p.0) ∙ ap (λ z. p.0 ++ z) (sym (m.used_up refl)) ∙ sym p.1) ∙ sym so.front in
        let log : GoesOn act before first (so.taken ++ p.0) (so.given ++ []) now new.content =
        goes-goes act before so.taken p.0 so.given [] held.content new.content first now now so.log (quiet act held.content p.0 new.content now p.2.answer) in
        let exact : GoesOn act before first (so.taken ++ p.0) so.given now new.content =
        subst (λ z. GoesOn act before first (so.taken ++ p.0) z now new.content) (append-nil so.given) log in
        (so.given, so.adds, subst (λ z. GoesOn act before first z so.given now new.content) all exact)

    pub piece_at_fault : (fault : WireFault) → Moves held rest (Err fault) new after
        → Adds old due (λ given. EndsAtFault act before first piece given fault now × IsDueBefore act before first piece given)
    piece_at_fault fault m =
        let p = m.fresh so.fresh in
        let end : EndsAtFault act before first (so.taken ++ (p.0 ++ after)) (so.given ++ []) fault now =
        goes-fault act before so.taken (p.0 ++ after) so.given [] held.content first now now fault so.log
        (one_fault act held.content p.0 after now fault p.2.answer) in
        let exact : EndsAtFault act before first (so.taken ++ (p.0 ++ after)) so.given fault now =
        subst (λ z. EndsAtFault act before first (so.taken ++ (p.0 ++ after)) z fault now) (append-nil so.given) end in
        (so.given, so.adds, (subst (λ z. EndsAtFault act before first z so.given fault now) (sym (whole p.0 p.1)) exact, due_before))

    module _ (event : Told) (next : State) (then_due part : List ℕ) (added : then_due ≡ due ++ part) (m : Moves held rest (Ok (event ∷ [])) new after) where
      pub piece_goes : act now event ≡ going part next → PieceSoFar act before first old piece new next after then_due
      piece_goes is =
          let p = took held new rest after (event ∷ []) so.fresh m in
          record {
            taken = so.taken ++ p.0;
            given = so.given ++ part;
            front = whole p.0 p.1 ∙ sym (append_assoc so.taken p.0 after);
            log = goes-goes act before so.taken p.0 so.given part held.content new.content first now next so.log
                (one_goes act held.content p.0 new.content part now next event p.2.answer is);
            adds = more_added old due then_due so.given part so.adds added;
            fresh = m.kept;
          }

      -- without its last byte the event would not be told
      goes_before : (x : List ℕ) → rest ≡ x ++ after → Answers held.content x (Ok (event ∷ [])) new.content → (front : List ℕ) (b : ℕ)
          → so.taken ++ x ≡ front ++ b ∷ [] → (d : List ℕ) × (n : State) × (left : List ℕ) × GoesOn act before first front d n left
      goes_before x is answers front b cut =
          let less : length after < length rest = m.shorter (λ none. cc) in
          let long : length rest ≡ length x + length after = ap length is ∙ length-append x after in
          ⊎_elim
          (λ (r : (k : List ℕ) × (front ≡ so.taken ++ k) × (x ≡ k ++ b ∷ [])).
          let open_so : IsQuiet (held.content ++ r.0) = answers.needed r.0 (b ∷ []) r.2 (omega arith) in
          let log : GoesOn act before first (so.taken ++ r.0) (so.given ++ []) now open_so.0 =
          goes-goes act before so.taken r.0 so.given [] held.content open_so.0 first now now so.log
          (quiet act held.content r.0 open_so.0 now open_so.1) in
          (so.given ++ [], now, open_so.0, subst (λ z. GoesOn act before first z (so.given ++ []) now open_so.0) (sym r.1) log))
          (λ (r : (k : List ℕ) × (0 < length k) × (so.taken ≡ front ++ k) × (b ∷ [] ≡ k ++ x)).
          let one : length (b ∷ []) ≡ length r.0 + length x = ap length r.3 ∙ length-append r.0 x in
          let some : 0 < length r.0 = r.1 in
          absurd (too_long (length r.0) (length x) (length after) (length rest) one some long less))
          (append_split so.taken x front (b ∷ []) cut)
        where
          too_long : (k x a r : ℕ) → 1 ≡ k + x → 0 < k → r ≡ x + a → a < r → ⊥
          too_long k x a r one some long less = omega (arith, one, some, long, less)

      pub piece_finishes : act now event ≡ finished part next
          → Adds old then_due (λ given. (used : List ℕ) × (piece ≡ used ++ after) × EndsWith act before first used given next)
      piece_finishes is =
          let p = took held new rest after (event ∷ []) so.fresh m in
          let end : EndsBy act before first (so.taken ++ (p.0 ++ [])) (so.given ++ part) (finishes next) =
          goes-ends act before so.taken (p.0 ++ []) so.given part held.content first now (finishes next) so.log
          (one_finishes act held.content p.0 [] new.content part now next event p.2.answer is) in (
            so.given ++ part,
            more_added old due then_due so.given part so.adds added,
            (
              so.taken ++ p.0,
              whole p.0 p.1 ∙ sym (append_assoc so.taken p.0 after),
              record {
                ends = subst (λ z. EndsBy act before first (so.taken ++ z) (so.given ++ part) (finishes next)) (append-nil p.0) end;
                last = goes_before p.0 p.1 p.2;
              },
            ),
          )

      pub piece_fails : (why : RunFault) (cause : Cause) → EventFails (act now event) why part next cause
          → Adds old then_due (λ given. PieceFails act before first piece why given next cause)
      piece_fails why of_memory went =
          let p = took held new rest after (event ∷ []) so.fresh m in
          let opens : Tells held.content [] held.content = open_tells (before ++ so.taken) held.content so.log.events so.log.tells in
          let lacks : LacksMemory act before first (so.taken ++ (p.0 ++ after)) (so.given ++ []) =
          goes-lacks act before so.taken (p.0 ++ after) so.given [] held.content first now so.log
          (one_lacks act held.content p.0 after new.content now event opens p.2.answer went.0) in
          let exact : LacksMemory act before first (so.taken ++ (p.0 ++ after)) so.given =
          subst (λ z. LacksMemory act before first (so.taken ++ (p.0 ++ after)) z) (append-nil so.given) lacks in
          (so.given, nothing_added old due then_due so.given part so.adds added went.1, subst (λ z. LacksMemory act before first z so.given) (sym (whole p.0 p.1)) exact)
      piece_fails why of_events went =
          let p = took held new rest after (event ∷ []) so.fresh m in
          let end : EndsBy act before first (so.taken ++ (p.0 ++ after)) (so.given ++ []) (fails why next) =
          goes-ends act before so.taken (p.0 ++ after) so.given [] held.content first now (fails why next) so.log
          (one_fails act held.content p.0 after new.content now next why event p.2.answer went.0) in
          let exact : EndsBy act before first (so.taken ++ (p.0 ++ after)) so.given (fails why next) =
          subst (λ z. EndsBy act before first (so.taken ++ (p.0 ++ after)) z (fails why next)) (append-nil so.given) end in
          (so.given, nothing_added old due then_due so.given part so.adds added went.1, (subst (λ z. EndsBy act before first z so.given (fails why next)) (sym (whole p.0 p.1)) exact, due_before))
      piece_fails why of_line went = absurd went
      piece_fails why (of_stream fault) went = absurd went
      piece_fails why of_reads went = absurd went
      piece_fails why of_end went = absurd went

  -- what is open after a piece tells no event
  pub still_listens : (held : Held) {before piece given : List ℕ} {first next : State} → held.fault ≡ None → GoesOn act before first piece given next held.content
      → (held.fault ≡ None) × Tells held.content [] held.content
  still_listens held {before = before} {piece = piece} fresh log = (fresh, open_tells (before ++ piece) held.content log.events log.tells)
