-- What each step over a piece does to what holds between the steps.
use Rattle.std.proofs.Common.{◌≡◌, ℕ, ◌+◌, ◌<◌, ◌≤◌, List, [], ◌∷◌, ◌++◌, length, None, Ok, Err, refl, sym, ◌∙◌, ap, subst, arith, append_assoc, length-append, append-nil}
use Rattle.tn_wire.specs.declared.event.WireFault.{WireFault}
use Rattle.tn_wire.specs.Deframer.{Held, Moves}
use Rattle.tn_wire.specs.Stream.{Told, Tells}
use Rattle.tn_wire.proofs.Streams.{tells_nothing}
use Rattle.tn_session.specs.declared.fault.RunFault.{RunFault}
use Rattle.tn_session.specs.declared.fault.RunFault.TheVariants.{Wire, Header, Session, Inbound, Bind, OutOfMemory}
use Rattle.tn_session.specs.Runs.{Log, fails, GoesOn, EndsBy, EndsAtFault}
use Rattle.tn_session.proofs.RunLaws.{open_tells, goes-goes, goes-ends, goes-fault, quiet, nothing_yet, one_goes, one_fails, one_fault}
use Rattle.cli_traces.specs.declared.reading.Reading.{Reading}
use Rattle.cli_traces.specs.Held.{IsOpen}
use Rattle.cli_traces.specs.Open.{cost_of, cost_in}
use Rattle.cli_traces.specs.Taking.{TakesEvent, TakesPiece}
use Rattle.cli_traces.proofs.Costs.{few_open, tells_cost}

pub opens_nothing : (content : List ℕ) → content ≡ [] → Tells content [] content
opens_nothing content is = subst (λ z. Tells z [] z) (sym is) tells_nothing

-- a front of the piece was taken, and its text added
pub record PieceSoFar (act : Reading → Told → Log Reading) (before : List ℕ) (first : Reading) (piece old : List ℕ) (held : Held) (count : ℕ) (now : Reading) (new rest : List ℕ) : Type 0 where
  pub taken : List ℕ
  pub due : List ℕ
  pub front : piece ≡ taken ++ rest
  pub log : GoesOn act before first taken due now held.content
  pub went : new ≡ old ++ due
  pub fresh : held.fault ≡ None
  pub counted : count ≡ length held.content

module _ (act : Reading → Told → Log Reading) where
  pub piece_begins : (held : Held) (count : ℕ) (first : Reading) (piece old : List ℕ) → IsOpen held count
      → PieceSoFar act held.content first piece old held count first old piece
  piece_begins held count first piece old (fresh, opens, counted) = record {
    taken = [];
    due = [];
    front = refl;
    log = nothing_yet act held.content first opens;
    went = sym (append-nil old);
    fresh = fresh;
    counted = counted;
  }

  module _ (before : List ℕ) (first : Reading) (piece old : List ℕ) (held : Held) (count : ℕ) (now : Reading) (text rest : List ℕ)
      (so : PieceSoFar act before first piece old held count now text rest) (new : Held) (after : List ℕ) where
    -- the piece, once more of it was taken
    whole : (x : List ℕ) → rest ≡ x ++ after → piece ≡ so.taken ++ (x ++ after)
    whole x is = so.front ∙ ap (λ z. so.taken ++ z) is

    -- what is open is little, and tells nothing by itself
    pub opens_now : Tells held.content [] held.content
    opens_now = open_tells (before ++ so.taken) held.content so.log.events so.log.tells

    pub few_now : count ≤ 66054
    few_now = let few = few_open held.content held.content [] opens_now in let same : count ≡ length held.content = so.counted in omega (arith, few)

    -- the bytes of a call: those that its events took, and those that are open after it
    costs : (events : List Told) (taken : List ℕ) → rest ≡ taken ++ after → Tells (held.content ++ taken) events new.content
        → count + length rest ≡ (length new.content + cost_in events) + length after
    costs events taken is tells =
        let whole_rest : length rest ≡ length (taken ++ after) = ap length is in
        let same : count ≡ length held.content = so.counted in
        omega (arith, whole_rest, length-append taken after, length-append held.content taken, tells_cost (held.content ++ taken) new.content events tells)

    pub count_quiet : Moves held rest (Ok []) new after → count + length rest ≡ length new.content
    count_quiet m =
        let p = m.fresh so.fresh in
        let none : length after ≡ 0 = ap length (m.used_up refl) in
        omega (arith, costs [] p.0 p.1 p.2.answer)

    pub event_shorter : (event : Told) → Moves held rest (Ok (event ∷ [])) new after → length after < length rest
    event_shorter event m = m.shorter (λ none. cc)

    pub count_event : (event : Told) → Moves held rest (Ok (event ∷ [])) new after → count + length rest ≡ (length new.content + cost_of event) + length after
    count_event event m = let p = m.fresh so.fresh in omega (arith, costs (event ∷ []) p.0 p.1 p.2.answer)

    pub piece_quiet : Moves held rest (Ok []) new after → TakesPiece act before first piece old (Ok tt) new.content now text
    piece_quiet m =
        let p = m.fresh so.fresh in
        let all : so.taken ++ p.0 ≡ piece =
        ap (λ z. so.taken ++ z) (sym (append-nil p.0) ∙ ap (λ z. p.0 ++ z) (sym (m.used_up refl)) ∙ sym p.1) ∙ sym so.front in
        let log : GoesOn act before first (so.taken ++ p.0) (so.due ++ []) now new.content =
        goes-goes act before so.taken p.0 so.due [] held.content new.content first now now so.log (quiet act held.content p.0 new.content now p.2.answer) in
        let exact : GoesOn act before first (so.taken ++ p.0) so.due now new.content =
        subst (λ z. GoesOn act before first (so.taken ++ p.0) z now new.content) (append-nil so.due) log in
        (so.due, subst (λ z. GoesOn act before first z so.due now new.content) all exact, so.went)

    pub piece_at_fault : (fault : WireFault) → Moves held rest (Err fault) new after → TakesPiece act before first piece old (Err (Wire fault)) new.content now text
    piece_at_fault fault m =
        let p = m.fresh so.fresh in
        let end : EndsAtFault act before first (so.taken ++ (p.0 ++ after)) (so.due ++ []) fault now =
        goes-fault act before so.taken (p.0 ++ after) so.due [] held.content first now now fault so.log
        (one_fault act held.content p.0 after now fault p.2.answer) in
        let exact : EndsAtFault act before first (so.taken ++ (p.0 ++ after)) so.due fault now =
        subst (λ z. EndsAtFault act before first (so.taken ++ (p.0 ++ after)) z fault now) (append-nil so.due) end in
        (so.due, subst (λ z. EndsAtFault act before first z so.due fault now) (sym (whole p.0 p.1)) exact, so.went)

    module _ (event : Told) (next : Reading) (added : List ℕ) (m : Moves held rest (Ok (event ∷ [])) new after) where
      pub piece_goes : (later : ℕ) → later ≡ length new.content → TakesEvent (act now event) text (Ok tt) next added
          → PieceSoFar act before first piece old new later next added after
      piece_goes later counted went =
          let p = m.fresh so.fresh in
          record {
            taken = so.taken ++ p.0;
            due = so.due ++ went.0;
            front = whole p.0 p.1 ∙ sym (append_assoc so.taken p.0 after);
            log = goes-goes act before so.taken p.0 so.due went.0 held.content new.content first now next so.log
                (one_goes act held.content p.0 new.content went.0 now next event p.2.answer went.1);
            went = went.2 ∙ ap (λ z. z ++ went.0) so.went ∙ append_assoc old so.due went.0;
            fresh = m.kept;
            counted = counted;
          }

      pub piece_fails : (why : RunFault) → TakesEvent (act now event) text (Err why) next added → TakesPiece act before first piece old (Err why) new.content next added
      piece_fails (Header fault) went =
          let p = m.fresh so.fresh in
          let end : EndsBy act before first (so.taken ++ (p.0 ++ after)) (so.due ++ []) (fails (Header fault) next) =
          goes-ends act before so.taken (p.0 ++ after) so.due [] held.content first now (fails (Header fault) next) so.log
          (one_fails act held.content p.0 after new.content now next (Header fault) event p.2.answer went.0) in
          let exact : EndsBy act before first (so.taken ++ (p.0 ++ after)) so.due (fails (Header fault) next) =
          subst (λ z. EndsBy act before first (so.taken ++ (p.0 ++ after)) z (fails (Header fault) next)) (append-nil so.due) end in
          (so.due, subst (λ z. EndsBy act before first z so.due (fails (Header fault) next)) (sym (whole p.0 p.1)) exact, went.1 ∙ so.went)
      piece_fails (Session fault) went =
          let p = m.fresh so.fresh in
          let end : EndsBy act before first (so.taken ++ (p.0 ++ after)) (so.due ++ []) (fails (Session fault) next) =
          goes-ends act before so.taken (p.0 ++ after) so.due [] held.content first now (fails (Session fault) next) so.log
          (one_fails act held.content p.0 after new.content now next (Session fault) event p.2.answer went.0) in
          let exact : EndsBy act before first (so.taken ++ (p.0 ++ after)) so.due (fails (Session fault) next) =
          subst (λ z. EndsBy act before first (so.taken ++ (p.0 ++ after)) z (fails (Session fault) next)) (append-nil so.due) end in
          (so.due, subst (λ z. EndsBy act before first z so.due (fails (Session fault) next)) (sym (whole p.0 p.1)) exact, went.1 ∙ so.went)
      piece_fails OutOfMemory went = tt
      piece_fails (Wire fault) went = absurd went
      piece_fails (Inbound fault) went = absurd went
      piece_fails (Bind fault) went = absurd went

-- a piece that was taken leaves something that tells nothing by itself
pub goes_open : (act : Reading → Told → Log Reading) (before : List ℕ) (first : Reading) (piece old left : List ℕ) (next : Reading) (new : List ℕ)
    → TakesPiece act before first piece old (Ok tt) left next new → Tells left [] left
goes_open act before first piece old left next new went = open_tells (before ++ piece) left went.1.events went.1.tells
