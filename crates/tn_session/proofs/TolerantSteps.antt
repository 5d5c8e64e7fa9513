-- What each step of a tolerant terminal's run does to what holds between the steps.
use Rattle.std.proofs.Common.{◌≡◌, ℕ, ◌+◌, ◌*◌, ◌<◌, ◌≤◌, Bool, true, false, List, [], ◌∷◌, ◌++◌, length, replicate, None, Some, Ok, Err, refl, sym, ◌∙◌, ap, subst, inl, inr, ⊎_elim, arith, append_assoc}
use Rattle.std.specs.Prelude.{Option, Result}
use Rattle.std.specs.Io.KnownBytes.{Keeps, IsAtEnd}
use Rattle.std.proofs.lemmas.List.{append-nil, length-append, replicate_more}
use Rattle.tn_cores.specs.declared.device.Device.{Device}
use Rattle.tn_cores.specs.declared.session.SessionFault.TheVariants as session
use Rattle.tn_session.specs.declared.arrived.Arrived.{Arrived}
use Rattle.tn_session.specs.declared.fault.RunFault.{RunFault}
use Rattle.tn_session.specs.declared.fault.RunFault.TheVariants as faults
use Rattle.tn_session.specs.declared.progress.Progress.{Progress}
use Rattle.tn_session.specs.declared.report.RunEnd.{RunEnd}
use Rattle.tn_session.specs.declared.report.RunEnd.TheVariants as ends
use Rattle.tn_session.specs.declared.report.TolerantReport.{TolerantReport}
use Rattle.tn_session.specs.declared.stop.Stop.{Stop}
use Rattle.tn_session.specs.declared.stop.Stop.TheVariants.{Ended, ReadFailed, WriteFailed}
use Rattle.tn_session.specs.declared.terminal_state.TerminalState.{TerminalState}
use Rattle.tn_session.specs.Ran.{ReadsInPieces, SentOn, SentPart, Sends, PassedOver}
use Rattle.tn_session.specs.Strikes.{Strike}
use Rattle.tn_session.specs.Talk.{Talk, Adds}
use Rattle.tn_session.specs.TerminalTalk.{TerminalTakes, no_arrival}
use Rattle.tn_session.specs.TolerantRuns.{Working, PressesAll, TakesTurn, TakesTurns, is_over_with, begun_work, joined, WorkedOver, WorkedPart, Counts, StopsSo, EndsBy, FailsByLine, TolerantRan}
use Rattle.tn_session.specs.Wire.{WireState, Gave, IsRead}
use Rattle.tn_session.proofs.RunSteps.{pieces_none, pieces_sent}

-- ---- a turn

pub take_fails : (old : Working) (mid : Talk TerminalState) (piece due mid_due : List ℕ) (why : RunFault)
    → Adds due mid_due (λ given. TerminalTakes old.talk piece (Err why) given mid)
    → Adds due mid_due (λ given. TakesTurn old piece given (record old { talk = mid }) (Err why))
take_fails old mid piece due mid_due why (given, adds, takes) = (given, adds, (Err why, given, mid, takes, (refl, refl, refl)))

pub turn_fails : (old new : Working) (mid : Talk TerminalState) (piece due mid_due new_due : List ℕ) (told : Progress) (why : RunFault)
    → Adds due mid_due (λ given. TerminalTakes old.talk piece (Ok told) given mid)
    → Adds mid_due new_due (λ given. PressesAll old.keys mid old.inhibited given new (Err why))
    → Adds due new_due (λ given. TakesTurn old piece given new (Err why))
turn_fails old new mid piece due mid_due new_due told why (given, adds, takes) (more, adds_more, presses) = (
  given ++ more,
  adds_more ∙ ap (λ z. z ++ more) adds ∙ append_assoc due given more,
  (Ok told, given, mid, takes, (more, (Err why, new, presses, (refl, refl)), refl)),
)

pub turn_goes : (old new : Working) (mid : Talk TerminalState) (piece due mid_due new_due : List ℕ) (told : Progress)
    → Adds due mid_due (λ given. TerminalTakes old.talk piece (Ok told) given mid)
    → Adds mid_due new_due (λ given. PressesAll old.keys mid old.inhibited given new (Ok tt))
    → Adds due new_due (λ given. TakesTurn old piece given new (Ok (is_over_with mid new)))
turn_goes old new mid piece due mid_due new_due told (given, adds, takes) (more, adds_more, presses) = (
  given ++ more,
  adds_more ∙ ap (λ z. z ++ more) adds ∙ append_assoc due given more,
  (Ok told, given, mid, takes, (more, (Ok tt, new, presses, (refl, refl)), refl)),
)

-- ---- between the turns

joined-one : (pieces : List (List ℕ)) (piece : List ℕ) → joined (pieces ++ piece ∷ []) ≡ joined pieces ++ piece
joined-one [] piece = append-nil piece
joined-one (first ∷ pieces) piece = ap (λ z. first ++ z) (joined-one pieces piece) ∙ sym (append_assoc first (joined pieces) piece)

one_turn : (now new : Working) (piece given : List ℕ) (told : Result Bool RunFault) → TakesTurn now piece given new told → TakesTurns (piece ∷ []) now given new told
one_turn now new piece given (Ok false) turn = (Ok false, given, new, turn, ([], (refl, refl, refl), sym (append-nil given)))
one_turn now new piece given (Ok true) turn = (Ok true, given, new, turn, (refl, refl, refl, refl))
one_turn now new piece given (Err why) turn = (Err why, given, new, turn, (refl, refl, refl, refl))

-- so much was read in so many reads, and what was given was sent
pub record TurnsSoFar (device : Device) (keys : List Strike) (old : WireState) (now : Working) (told : Arrived) (wire : WireState) (reads : ℕ) : Type 0 where
  pub pieces : List (List ℕ)
  pub given : List ℕ
  pub leads : (later : List (List ℕ)) (more : List ℕ) (new : Working) (result : Result Bool RunFault) → TakesTurns later now more new result
      → TakesTurns (pieces ++ later) (begun_work device keys) (given ++ more) new result
  pub fresh : told ≡ no_arrival
  pub received : wire.received ≡ old.received ++ joined pieces
  pub sent : wire.sent ≡ old.sent ++ given
  pub goes : wire.stop ≡ None
  pub counted : wire.reads ≡ old.reads + reads
  pub rooms : wire.rooms ≡ old.rooms ++ replicate reads 4096
  pub short : length wire.received ≤ length old.received + 4096 * reads
  pub line : wire.line ≡ old.line
  pub flushes : wire.flushes ≡ old.flushes

pub no_turn : (device : Device) (keys : List Strike) (wire : WireState) (now : Working) (told : Arrived) → now ≡ begun_work device keys → told ≡ no_arrival → wire.stop ≡ None
    → TurnsSoFar device keys wire now told wire 0
no_turn device keys wire now told is fresh goes = record {
  pieces = [];
  given = [];
  leads = λ later more new result turns. subst (λ w. TakesTurns later w more new result) is turns;
  fresh = fresh;
  received = sym (append-nil wire.received);
  sent = sym (append-nil wire.sent);
  goes = goes;
  counted = omega arith;
  rooms = sym (append-nil wire.rooms);
  short = omega arith;
  line = refl;
  flushes = refl;
}

module _ (device : Device) (keys : List Strike) (old : WireState) (now : Working) (told : Arrived) (wire : WireState) (reads : ℕ)
    (so : TurnsSoFar device keys old now told wire reads) where
  pieces_now : reads ≤ 1000000 → ReadsInPieces old wire
  pieces_now few =
      record { count = reads; few = few; reads = so.counted; rooms = so.rooms; bytes = so.short; line = so.line; flushes = so.flushes }

  -- after one more read
  pieces_read : (read_to : WireState) → reads < 1000000 → IsRead 4096 wire read_to → length read_to.received ≤ length wire.received + 4096 → ReadsInPieces old read_to
  pieces_read read_to less read short =
      let was : wire.reads ≡ old.reads + reads = so.counted in
      let one : read_to.reads ≡ wire.reads + 1 = read.reads in
      let most : length wire.received ≤ length old.received + 4096 * reads = so.short in
      record {
        count = reads + 1;
        few = omega arith;
        reads = omega arith;
        rooms = read.rooms ∙ ap (λ z. z ++ 4096 ∷ []) so.rooms ∙ append_assoc old.rooms (replicate reads 4096) (4096 ∷ [])
            ∙ ap (λ z. old.rooms ++ z) (replicate_more reads 4096);
        bytes = omega arith;
        line = read.line ∙ so.line;
        flushes = read.flushes ∙ so.flushes;
      }

  turns_now : TakesTurns so.pieces (begun_work device keys) so.given now (Ok false)
  turns_now =
      subst (λ z. TakesTurns z (begun_work device keys) so.given now (Ok false)) (append-nil so.pieces)
      (subst (λ z. TakesTurns (so.pieces ++ []) (begun_work device keys) z now (Ok false)) (append-nil so.given) (so.leads [] [] now (Ok false) (refl, refl, refl)))

  over_now : (stop : Option Stop) (new : WireState) → new.received ≡ wire.received → new.sent ≡ wire.sent → ReadsInPieces old new → new.stop ≡ stop
      → WorkedOver device keys old new stop (Ok false) now
  over_now stop new received sent pieces is = record {
    pieces = so.pieces;
    given = so.given;
    turns = turns_now;
    passed = record { received = received ∙ so.received; sent_is = sent ∙ so.sent; pieces = pieces; stop_is = is };
  }

  pub turns_too_many : reads ≡ 1000000 → TolerantRan device keys old (Err (faults.Session session.TooManyReads)) wire
  turns_too_many full =
      let counted : wire.reads ≡ old.reads + 1000000 = so.counted ∙ ap (λ z. old.reads + z) full in
      inr (now, over_now None wire refl refl (pieces_now (omega arith)) so.goes, counted)

  ended_by : (end : RunEnd) (new : WireState) → end ≡ ends.Closed → WorkedOver device keys old new (Some Ended) (Ok false) now → EndsBy end device keys old new now
  ended_by ends.Closed new is over = over
  ended_by ends.KeysUsed new is over = absurd cc

  closed_at : (new : WireState) (result : Result TolerantReport RunFault) → StopsSo (Some Ended) now.talk now.inhibited result
      → WorkedOver device keys old new (Some Ended) (Ok false) now → TolerantRan device keys old result new
  closed_at new (Ok report) (is, counts) over = (now, ended_by report.end new is over, counts now.keys)
  closed_at new (Err why) stops over = absurd stops

  -- the line gave nothing
  pub turns_stopped : (buffer : List ℕ) (new : WireState) (result : Result TolerantReport RunFault) → reads < 1000000 → Gave wire buffer None new → IsRead 4096 wire new
      → StopsSo new.stop now.talk now.inhibited result → TolerantRan device keys old result new
  turns_stopped buffer new result less gave read stops =
      let same : length new.received ≡ length wire.received = ap length gave.0 in
      let pieces : ReadsInPieces old new = pieces_read new less read (omega arith) in
      ⊎_elim
      (λ (end : (new.stop ≡ Some Ended) × IsAtEnd new.left).
      closed_at new result (subst (λ z. StopsSo z now.talk now.inhibited result) end.0 stops)
      (over_now (Some Ended) new gave.0 read.sent pieces end.0))
      (λ (failed : (new.stop ≡ Some ReadFailed) × Keeps wire.left new.left).
      let is : result ≡ Err (faults.Session session.LineFault) = subst (λ z. StopsSo z now.talk now.inhibited result) failed.0 stops in
      subst (λ z. TolerantRan device keys old z new) (sym is)
      (inr (inl (now, over_now (Some ReadFailed) new gave.0 read.sent pieces failed.0))))
      gave.1

  -- a piece was read and taken, and then so much was sent
  module _ (piece : List ℕ) (read_to : WireState) (less : reads < 1000000) (received : read_to.received ≡ wire.received ++ piece) (read : IsRead 4096 wire read_to)
      (short : length piece ≤ 4096) (turned : Result Bool RunFault) (given : List ℕ) (after : Working) (turn : TakesTurn now piece given after turned) (new : WireState) where
    longer : length read_to.received ≤ length wire.received + 4096
    longer = let all : length read_to.received ≡ length wire.received + length piece = ap length received ∙ length-append wire.received piece in omega arith

    passed_then : (sent : List ℕ) (stop : Option Stop) → SentOn read_to new sent stop → PassedOver old new (joined (so.pieces ++ piece ∷ [])) (so.given ++ sent) stop
    passed_then sent stop went = record {
      received = went.rest.received ∙ received ∙ ap (λ z. z ++ piece) so.received ∙ append_assoc old.received (joined so.pieces) piece
          ∙ ap (λ z. old.received ++ z) (sym (joined-one so.pieces piece));
      sent_is = went.sent ∙ ap (λ z. z ++ sent) (read.sent ∙ so.sent) ∙ append_assoc old.sent so.given sent;
      pieces = pieces_sent old read_to new (pieces_read read_to less read longer) went.rest;
      stop_is = went.stop_is;
    }

    turns_then : TakesTurns (so.pieces ++ piece ∷ []) (begun_work device keys) (so.given ++ given) after turned
    turns_then = so.leads (piece ∷ []) given after turned (one_turn now after piece given turned turn)

    over_then : SentOn read_to new given None → WorkedOver device keys old new None turned after
    over_then went =
        record { pieces = so.pieces ++ piece ∷ []; given = so.given ++ given; turns = turns_then; passed = passed_then given None went }

    pub turn_cut : (why : RunFault) (result : Result TolerantReport RunFault) → result ≡ Err why → Sends read_to given (Err why) new → TolerantRan device keys old result new
    turn_cut why result is sends =
        let went : SentPart read_to new given = sends.1 in
        let cut : WorkedPart device keys old new = record {
          pieces = so.pieces ++ piece ∷ [];
          given = so.given ++ given;
          part = so.given ++ went.part;
          lost = went.lost;
          result = turned;
          end = after;
          turns = turns_then;
          cut = ap (λ z. so.given ++ z) went.whole ∙ sym (append_assoc so.given went.part went.lost);
          passed = passed_then went.part (Some WriteFailed) went.went;
        } in
        subst (λ z. TolerantRan device keys old z new) (sym (is ∙ ap Err sends.0)) (inr (inr cut))

    pub turn_over : (report : TolerantReport) → turned ≡ Ok true → report.end ≡ ends.KeysUsed → Counts report after → SentOn read_to new given None
        → TolerantRan device keys old (Ok report) new
    turn_over report is end counts went =
        (after, ends_so report.end end (subst (λ z. WorkedOver device keys old new None z after) is (over_then went)), counts)
      where
        ends_so : (how : RunEnd) → how ≡ ends.KeysUsed → WorkedOver device keys old new None (Ok true) after → EndsBy how device keys old new after
        ends_so ends.KeysUsed same over = over
        ends_so ends.Closed same over = absurd cc

    pub turn_failed : (why : RunFault) (result : Result TolerantReport RunFault) → turned ≡ Err why → result ≡ Err why → SentOn read_to new given None
        → TolerantRan device keys old result new
    turn_failed why result is result_is went =
        subst (λ z. TolerantRan device keys old z new) (sym result_is) (inl (after, subst (λ z. WorkedOver device keys old new None z after) is (over_then went)))

    pub turn_more : (told_after : Arrived) → turned ≡ Ok false → told_after ≡ told → SentOn read_to new given None
        → TurnsSoFar device keys old after told_after new (reads + 1)
    unfolding pieces_sent pieces_read
    turn_more told_after is same went =
        let passed : PassedOver old new (joined (so.pieces ++ piece ∷ [])) (so.given ++ given) None = passed_then given None went in
        let pieces : ReadsInPieces old new = pieces_sent old read_to new (pieces_read read_to less read longer) went.rest in
        let goes_so : TakesTurn now piece given after (Ok false) = subst (λ z. TakesTurn now piece given after z) is turn in
        record {
          pieces = so.pieces ++ piece ∷ [];
          given = so.given ++ given;
          leads = λ later more last result turns.
              subst (λ z. TakesTurns z (begun_work device keys) ((so.given ++ given) ++ more) last result) (sym (append_assoc so.pieces (piece ∷ []) later))
              (subst (λ z. TakesTurns (so.pieces ++ piece ∷ later) (begun_work device keys) z last result) (sym (append_assoc so.given given more))
              (so.leads (piece ∷ later) (given ++ more) last result (Ok false, given, after, goes_so, (more, turns, refl))));
          fresh = same ∙ so.fresh;
          received = passed.received;
          sent = passed.sent_is;
          goes = passed.stop_is;
          counted = pieces.reads;
          rooms = pieces.rooms;
          short = pieces.bytes;
          line = pieces.line;
          flushes = pieces.flushes;
        }

-- ---- how the line then stands

module _ (device : Device) (keys : List Strike) (old new : WireState) where
  end_pieces : (end : RunEnd) (work : Working) → EndsBy end device keys old new work → ReadsInPieces old new
  end_pieces ends.KeysUsed work over = over.passed.pieces
  end_pieces ends.Closed work over = over.passed.pieces

  line_pieces : (why : RunFault) → FailsByLine why device keys old new → ReadsInPieces old new
  line_pieces (faults.Session session.LineFault) (inl (work, over)) = over.passed.pieces
  line_pieces (faults.Session session.LineFault) (inr part) = part.passed.pieces
  line_pieces (faults.Session session.TooManyReads) (work, over, counted) = over.passed.pieces
  line_pieces faults.OutOfMemory same = subst (λ z. ReadsInPieces old z) (sym same) (pieces_none old)
  line_pieces (faults.Session (session.Rejected reason)) fails = absurd fails
  line_pieces (faults.Session session.WrongList) fails = absurd fails
  line_pieces (faults.Session session.BadSubnegotiation) fails = absurd fails
  line_pieces (faults.Session (session.OptionRefused option)) fails = absurd fails
  line_pieces (faults.Session session.NotReady) fails = absurd fails
  line_pieces (faults.Session session.BadResponse) fails = absurd fails
  line_pieces (faults.Session session.NoDevice) fails = absurd fails
  line_pieces (faults.Session session.Closed) fails = absurd fails
  line_pieces (faults.Session (session.TerminalRefused reason)) fails = absurd fails
  line_pieces (faults.Wire fault) fails = absurd fails
  line_pieces (faults.Header fault) fails = absurd fails
  line_pieces (faults.Inbound fault) fails = absurd fails
  line_pieces (faults.Bind fault) fails = absurd fails

  pub tolerant_pieces : (result : Result TolerantReport RunFault) → TolerantRan device keys old result new → ReadsInPieces old new
  tolerant_pieces (Ok report) (work, end, counts) = end_pieces report.end work end
  tolerant_pieces (Err why) (inl (work, over)) = over.passed.pieces
  tolerant_pieces (Err why) (inr fails) = line_pieces why fails
