-- What each step of a run does to what holds between the steps.
use Rattle.std.proofs.Common.{◌≡◌, ℕ, ◌+◌, ◌*◌, ◌<◌, ◌≤◌, List, [], ◌∷◌, ◌++◌, length, take, drop, replicate, None, Some, Ok, Err, refl, sym, ◌∙◌, ap, subst, inl, inr, ⊎_elim, arith, append_assoc}
use Rattle.std.specs.Prelude.{Option, Result}
use Rattle.std.specs.Io.KnownBytes.{Keeps, IsAtEnd}
use Rattle.std.proofs.lemmas.List.{append-nil, length-append, replicate_more, take-append-drop}
use Rattle.tn_wire.specs.Stream.{Told}
use Rattle.tn_wire.proofs.Streams.{tells_nothing}
use Rattle.tn_cores.specs.declared.session.SessionFault.TheVariants as session
use Rattle.tn_session.specs.declared.stop.Stop.{Stop}
use Rattle.tn_session.specs.declared.stop.Stop.TheVariants.{Ended, ReadFailed, WriteFailed}
use Rattle.tn_session.specs.declared.fault.RunFault.{RunFault}
use Rattle.tn_session.specs.declared.fault.RunFault.TheVariants as faults
use Rattle.tn_session.specs.declared.progress.Progress.{Progress}
use Rattle.tn_session.specs.declared.progress.Progress.TheVariants.{More, Done}
use Rattle.tn_session.specs.declared.turn.Finish.{Finish}
use Rattle.tn_session.specs.declared.turn.Finish.TheVariants as finish
use Rattle.tn_session.specs.Wire.{WireState, Gave, IsRead, IsWrite}
use Rattle.tn_session.specs.Runs.{finishes, fails, Log, GoesOn, EndsBy, IsPartDue}
use Rattle.tn_session.specs.Ran.{Cause, ReadsInPieces, of_stream, of_memory, of_line, of_reads, of_end, of_events, cause_of, SentOn, SentPart, Sends, PassedOver, IsOpen, IsCutShort, RunFails, stopped_by}
use Rattle.tn_session.specs.RanSession.{IsFresh, RanSession}
use Rattle.tn_session.specs.Talk.{Talk, IsDueBefore, EndsWith, PieceFails, Hears, Takes}
use Rattle.tn_session.proofs.OneLog.{still_ends}
use Rattle.tn_session.proofs.RunLaws.{goes-goes, goes-ends, goes-fault, goes-part, goes-lacks, nothing_yet}
use Rattle.tn_session.proofs.RunStates.{RunSoFar}

-- ---- what is sent in turn

pub sent_nothing : (wire : WireState) → wire.stop ≡ None → SentOn wire wire [] None
sent_nothing wire open_line = record {
  sent = sym (append-nil wire.sent);
  rest = record { line = refl; received = refl; reads = refl; rooms = refl; flushes = refl };
  stop_is = open_line;
}

write_then : (a b c : WireState) → IsWrite a b → IsWrite b c → IsWrite a c
write_then a b c p q = record {
  line = q.line ∙ p.line;
  received = q.received ∙ p.received;
  reads = q.reads ∙ p.reads;
  rooms = q.rooms ∙ p.rooms;
  flushes = q.flushes ∙ p.flushes;
}

pub sent_then : (a b c : WireState) (x y : List ℕ) (stop : Option Stop) → SentOn a b x None → SentOn b c y stop → SentOn a c (x ++ y) stop
sent_then a b c x y stop p q = record {
  sent = q.sent ∙ ap (λ z. z ++ y) p.sent ∙ append_assoc a.sent x y;
  rest = write_then a b c p.rest q.rest;
  stop_is = q.stop_is;
}

-- ---- pieces that are read

pub pieces_none : (wire : WireState) → ReadsInPieces wire wire
pieces_none wire = record {
  count = 0;
  few = omega arith;
  reads = omega arith;
  rooms = sym (append-nil wire.rooms);
  bytes = omega arith;
  line = refl;
  flushes = refl;
}

unfoldable pub pieces_sent : (old mid new : WireState) → ReadsInPieces old mid → IsWrite mid new → ReadsInPieces old new
pieces_sent old mid new p w = record {
  count = p.count;
  few = p.few;
  reads = w.reads ∙ p.reads;
  rooms = w.rooms ∙ p.rooms;
  bytes = let same : length new.received ≡ length mid.received = ap length w.received in omega (arith, p.bytes);
  line = w.line ∙ p.line;
  flushes = w.flushes ∙ p.flushes;
}

module _ {State : Type 0} (act : State → Told → Log State) where
  -- ---- what was given is due at a front of the piece
  part_of_log : (before : List ℕ) (state next : State) (front more given part lost left : List ℕ) → GoesOn act before state front given next left
      → given ≡ part ++ lost → IsPartDue act [] before state (front ++ more) part
  part_of_log before state next front more given part lost left log cut = record {
    used = front;
    more = more;
    events = log.events;
    left = left;
    lost = lost;
    front = refl;
    tells = log.tells;
    part = ap (λ (l : Log State). l.due) log.log ∙ cut;
  }

  part_before : (before : List ℕ) (state : State) (piece given part lost : List ℕ) → IsDueBefore act before state piece given
      → given ≡ part ++ lost → IsPartDue act [] before state piece part
  part_before before state piece given part lost so cut =
      subst (λ z. IsPartDue act [] before state z part) (sym so.cut) (part_of_log before state so.next so.front so.more given part lost so.left so.log cut)

  part_failed : (before : List ℕ) (state : State) (piece given part lost : List ℕ) (why : RunFault) (end : State) (cause : Cause)
      → PieceFails act before state piece why given end cause → given ≡ part ++ lost → IsPartDue act [] before state piece part
  part_failed before state piece given part lost why end (of_stream fault) went cut = part_before before state piece given part lost went.1 cut
  part_failed before state piece given part lost why end of_memory went cut =
      subst (λ z. IsPartDue act [] before state z part) (sym went.front)
      (part_of_log before state went.next went.used (went.taken ++ went.more) given part lost went.left went.log cut)
  part_failed before state piece given part lost why end of_events went cut = part_before before state piece given part lost went.1 cut
  part_failed before state piece given part lost why end of_line went cut = absurd went
  part_failed before state piece given part lost why end of_reads went cut = absurd went
  part_failed before state piece given part lost why end of_end went cut = absurd went

  -- bytes that end a session end whatever begins with them
  pub ends_piece : (before : List ℕ) (state end : State) (piece given : List ℕ) (taken : ℕ) → EndsWith act before state (take taken piece) given end
      → EndsBy act before state piece given (finishes end)
  ends_piece before state end piece given taken e =
      subst (λ z. EndsBy act before state z given (finishes end)) (take-append-drop taken piece)
      (still_ends act before (take taken piece) (drop taken piece) given state (finishes end) e.ends)

  part_ended : (before : List ℕ) (state end : State) (piece given part lost : List ℕ) → EndsBy act before state piece given (finishes end)
      → given ≡ part ++ lost → IsPartDue act [] before state piece part
  part_ended before state end piece given part lost e cut = record {
    used = e.used;
    more = e.more;
    events = e.events;
    left = e.left;
    lost = lost;
    front = e.front;
    tells = e.tells;
    part = ap (λ (l : Log State). l.due) e.log ∙ cut;
  }

  part_of : (before : List ℕ) (state : State) (piece given part lost : List ℕ) (told : Result Progress RunFault) (talk : Talk State)
      → Hears act before state piece told given talk → given ≡ part ++ lost → IsPartDue act [] before state piece part
  part_of before state piece given part lost (Ok More) talk (next, left, log, is) cut =
      subst (λ z. IsPartDue act [] before state z part) (append-nil piece) (part_of_log before state next piece [] given part lost left log cut)
  part_of before state piece given part lost (Ok (Done taken)) talk (end, few, e, is) cut =
      part_ended before state end piece given part lost (ends_piece before state end piece given taken e) cut
  part_of before state piece given part lost (Err why) talk (end, went, is) cut = part_failed before state piece given part lost why end (cause_of why) went cut

  -- ---- a run

  pub run_begins : (opening : List ℕ) (begun : Talk State) (old wire : WireState) → IsFresh begun → SentOn old wire opening None
      → RunSoFar act opening begun old begun wire 0
  run_begins opening begun old wire (first, is) went = record {
    first = first;
    begins = is;
    stream = [];
    due = [];
    now = first;
    left = [];
    stands_so = is;
    log = nothing_yet act [] first tells_nothing;
    received = went.rest.received ∙ sym (append-nil old.received);
    sent = went.sent ∙ ap (λ z. old.sent ++ z) (sym (append-nil opening));
    goes = went.stop_is;
    counted = went.rest.reads ∙ omega arith;
    rooms = went.rest.rooms ∙ sym (append-nil old.rooms);
    short = let same : length wire.received ≡ length old.received = ap length went.rest.received in omega arith;
    line = went.rest.line;
    flushes = went.rest.flushes;
  }

  pub opening_failed : (opening : List ℕ) (begun talk : Talk State) (old wire : WireState) (why : RunFault) (result : Result Finish RunFault)
      → IsFresh begun → result ≡ Err why → Sends old opening (Err why) wire → RanSession act opening begun old result talk wire
  opening_failed opening begun talk old wire why result (first, begins) is sends =
      let went : SentPart old wire opening = sends.1 in
      let cut : IsCutShort act opening first old wire = record {
        stream = [];
        sent = went.part;
        part = record {
          used = [];
          more = [];
          events = [];
          left = [];
          lost = went.lost;
          front = refl;
          tells = tells_nothing;
          part = append-nil opening ∙ went.whole;
        };
        passed = record {
          received = went.went.rest.received ∙ sym (append-nil old.received);
          sent_is = went.went.sent;
          pieces = pieces_sent old old wire (pieces_none old) went.went.rest;
          stop_is = went.went.stop_is;
        };
      } in
      subst (λ z. RanSession act opening begun old z talk wire) (sym (is ∙ ap Err sends.0)) (first, begins, first, tt, inr cut)

  module _ (opening : List ℕ) (begun : Talk State) (old : WireState) (talk : Talk State) (wire : WireState) (reads : ℕ)
      (so : RunSoFar act opening begun old talk wire reads) where
    pieces_now : reads ≤ 1000000 → ReadsInPieces old wire
    pieces_now few = record {
      count = reads;
      few = few;
      reads = so.counted;
      rooms = so.rooms;
      bytes = so.short;
      line = so.line;
      flushes = so.flushes;
    }

    -- after one more read
    pieces_read : (given : WireState) → reads < 1000000 → IsRead 4096 wire given → length given.received ≤ length wire.received + 4096 → ReadsInPieces old given
    pieces_read given less read short =
        let was : wire.reads ≡ old.reads + reads = so.counted in
        let one : given.reads ≡ wire.reads + 1 = read.reads in
        let most : length wire.received ≤ length old.received + 4096 * reads = so.short in
        record {
          count = reads + 1;
          few = omega arith;
          reads = omega arith;
          rooms = read.rooms ∙ ap (λ z. z ++ 4096 ∷ []) so.rooms ∙ append_assoc old.rooms (replicate reads 4096) (4096 ∷ [])
              ∙ ap (λ z. old.rooms ++ z) (replicate_more reads 4096);
          bytes = omega arith;
          line = read.line ∙ so.line;
          flushes = read.flushes ∙ so.flushes;
        }

    run_is_open : (stop : Option Stop) (new : WireState) → new.received ≡ wire.received → new.sent ≡ wire.sent → ReadsInPieces old new
        → new.stop ≡ stop → IsOpen act opening so.first old so.now new stop
    run_is_open stop new received sent pieces is = record {
      stream = so.stream;
      due = so.due;
      left = so.left;
      log = so.log;
      passed = record { received = received ∙ so.received; sent_is = sent ∙ so.sent; pieces = pieces; stop_is = is };
    }

    pub too_many : reads ≡ 1000000 → RanSession act opening begun old (Err (faults.Session session.TooManyReads)) talk wire
    too_many full =
        let counted : wire.reads ≡ old.reads + 1000000 = so.counted ∙ ap (λ z. old.reads + z) full in
        (so.first, so.begins, so.now, tt, (so.now, run_is_open None wire refl refl (pieces_now (omega arith)) so.goes, counted))

    -- the line gave nothing
    pub run_stopped : (buffer : List ℕ) (new : WireState) (result : Result Finish RunFault) → reads < 1000000 → Gave wire buffer None new → IsRead 4096 wire new
        → result ≡ stopped_by new.stop → RanSession act opening begun old result talk new
    run_stopped buffer new result less gave read is =
        let same : length new.received ≡ length wire.received = ap length gave.0 in
        let pieces : ReadsInPieces old new = pieces_read new less read (omega arith) in
        ⊎_elim
        (λ (end : (new.stop ≡ Some Ended) × IsAtEnd new.left).
        subst (λ z. RanSession act opening begun old z talk new) (sym (is ∙ ap stopped_by end.0))
        (so.first, so.begins, so.now, (so.left, so.stands_so), run_is_open (Some Ended) new gave.0 read.sent pieces end.0))
        (λ (failed : (new.stop ≡ Some ReadFailed) × Keeps wire.left new.left).
        subst (λ z. RanSession act opening begun old z talk new) (sym (is ∙ ap stopped_by failed.0))
        (so.first, so.begins, so.now, tt, inl (so.now, run_is_open (Some ReadFailed) new gave.0 read.sent pieces failed.0)))
        gave.1

    -- a piece was read and taken, and then so much was sent
    module _ (piece : List ℕ) (read_to : WireState) (less : reads < 1000000) (received : read_to.received ≡ wire.received ++ piece) (read : IsRead 4096 wire read_to)
        (short : length piece ≤ 4096) (told : Result Progress RunFault) (given : List ℕ) (later : Talk State) (takes : Takes act talk piece told given later)
        (new : WireState) where
      longer : length read_to.received ≤ length wire.received + 4096
      longer = let all : length read_to.received ≡ length wire.received + length piece = ap length received ∙ length-append wire.received piece in omega arith

      hears : Hears act so.left so.now piece told given later
      hears = subst (λ z. Takes act z piece told given later) so.stands_so takes

      passed_then : (sent : List ℕ) (stop : Option Stop) → SentOn read_to new sent stop
          → PassedOver old new (so.stream ++ piece) ((opening ++ so.due) ++ sent) stop
      passed_then sent stop went = record {
        received = went.rest.received ∙ received ∙ ap (λ z. z ++ piece) so.received ∙ append_assoc old.received so.stream piece;
        sent_is = went.sent ∙ ap (λ z. z ++ sent) (read.sent ∙ so.sent) ∙ append_assoc old.sent (opening ++ so.due) sent;
        pieces = pieces_sent old read_to new (pieces_read read_to less read longer) went.rest;
        stop_is = went.stop_is;
      }

      -- with all that is due
      passed_due : SentOn read_to new given None → PassedOver old new (so.stream ++ piece) (opening ++ (so.due ++ given)) None
      passed_due went =
          subst (λ z. PassedOver old new (so.stream ++ piece) z None) (append_assoc opening so.due given) (passed_then given None went)

      pub run_cut : (why : RunFault) (result : Result Finish RunFault) → result ≡ Err why → Sends read_to given (Err why) new
          → RanSession act opening begun old result later new
      run_cut why result is sends =
          let went : SentPart read_to new given = sends.1 in
          let part : IsPartDue act [] so.left so.now piece went.part = part_of so.left so.now piece given went.part went.lost told later hears went.whole in
          let cut : IsCutShort act opening so.first old new = record {
            stream = so.stream ++ piece;
            sent = (opening ++ so.due) ++ went.part;
            part = goes-part act opening [] so.stream piece so.due went.part so.left so.first so.now so.log part;
            passed = passed_then went.part (Some WriteFailed) went.went;
          } in
          subst (λ z. RanSession act opening begun old z later new) (sym (is ∙ ap Err sends.0)) (so.first, so.begins, so.first, tt, inr cut)

      pub run_goes : told ≡ Ok More → SentOn read_to new given None → RunSoFar act opening begun old later new (reads + 1)
      unfolding pieces_sent pieces_read
      run_goes is went =
          let log : Hears act so.left so.now piece (Ok More) given later = subst (λ z. Hears act so.left so.now piece z given later) is hears in
          let passed : PassedOver old new (so.stream ++ piece) (opening ++ (so.due ++ given)) None = passed_due went in
          let pieces : ReadsInPieces old new = pieces_sent old read_to new (pieces_read read_to less read longer) went.rest in
          record {
            first = so.first;
            begins = so.begins;
            stream = so.stream ++ piece;
            due = so.due ++ given;
            now = log.0;
            left = log.1;
            stands_so = log.3;
            log = goes-goes act [] so.stream piece so.due given so.left log.1 so.first so.now log.0 so.log log.2;
            received = passed.received;
            sent = passed.sent_is;
            goes = passed.stop_is;
            counted = pieces.reads;
            rooms = pieces.rooms;
            short = pieces.bytes;
            line = pieces.line;
            flushes = pieces.flushes;
          }

      pub run_finishes : (taken : ℕ) → told ≡ Ok (Done taken) → SentOn read_to new given None → RanSession act opening begun old (Ok finish.Finished) later new
      run_finishes taken is went =
          let log : Hears act so.left so.now piece (Ok (Done taken)) given later = subst (λ z. Hears act so.left so.now piece z given later) is hears in
          let ends : EndsBy act so.left so.now piece given (finishes log.0) = ends_piece so.left so.now log.0 piece given taken log.2 in (
            so.first,
            so.begins,
            log.0,
            log.3,
            (so.stream ++ piece, so.due ++ given, goes-ends act [] so.stream piece so.due given so.left so.first so.now (finishes log.0) so.log ends, passed_due went),
          )

      fails_so : (why : RunFault) (end : State) (cause : Cause) → PieceFails act so.left so.now piece why given end cause → SentOn read_to new given None
          → RunFails act opening so.first old why new cause
      fails_so why end (of_stream fault) (ends, before) went =
          (so.stream ++ piece, so.due ++ given, end, goes-fault act [] so.stream piece so.due given so.left so.first so.now end fault so.log ends, passed_due went)
      fails_so why end of_memory lacks went =
          inr (so.stream ++ piece, so.due ++ given, goes-lacks act [] so.stream piece so.due given so.left so.first so.now so.log lacks, passed_due went)
      fails_so why end of_events (ends, before) went =
          (so.stream ++ piece, so.due ++ given, end, goes-ends act [] so.stream piece so.due given so.left so.first so.now (fails why end) so.log ends, passed_due went)
      fails_so why end of_line failed went = absurd failed
      fails_so why end of_reads failed went = absurd failed
      fails_so why end of_end failed went = absurd failed

      pub run_fails : (why : RunFault) (result : Result Finish RunFault) → told ≡ Err why → result ≡ Err why → SentOn read_to new given None
          → RanSession act opening begun old result later new
      run_fails why result is result_is went =
          let log : Hears act so.left so.now piece (Err why) given later = subst (λ z. Hears act so.left so.now piece z given later) is hears in
          subst (λ z. RanSession act opening begun old z later new) (sym result_is) (so.first, so.begins, so.first, tt, fails_so why log.0 (cause_of why) log.1 went)
