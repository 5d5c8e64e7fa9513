-- Once a record of the host came, no text can come in this connection.
use Rattle.std.proofs.Common.{◌≡◌, ℕ, Bool, true, false, cond, ◌&&◌, List, [], ◌∷◌, ◌++◌, refl, sym, ◌∙◌, ap}
use Rattle.std.specs.Prelude.{Result, Ok, Err}
use Rattle.tn_wire.specs.declared.header.HeaderFault.{HeaderFault}
use Rattle.tn_wire.specs.Stream.{Told, told_record, told_verb, told_sub, told_passed}
use Rattle.tn_session.specs.declared.fault.RunFault.{RunFault}
use Rattle.tn_session.specs.declared.fault.RunFault.TheVariants.{Header as HeaderFails}
use Rattle.tn_session.specs.Runs.{Course as Ends, Log, goes as runs, finishes, fails, failed, going, log_on, log_of}
use Rattle.tn_traces.specs.declared.line.Side.{Side}
use Rattle.tn_traces.specs.declared.line.Side.TheVariants.{Host, Terminal}
use Rattle.tn_traces.specs.declared.negotiated.Sender.{Sender}
use Rattle.tn_traces.specs.Negotiated.{negotiated_after}
use Rattle.tn_traces.specs.Record.{Kept, kept_of}
use Rattle.cli_traces.specs.declared.asked.Asked.{Asked}
use Rattle.cli_traces.specs.declared.reading.Reading.{Reading}
use Rattle.cli_traces.specs.declared.start.Start.{Start}
use Rattle.cli_traces.specs.declared.start.Start.TheVariants.{Agreeing, Cutting, Begun}
use Rattle.cli_traces.specs.declared.text.Shape.{Shape}
use Rattle.cli_traces.specs.declared.text.Shape.TheVariants.{Comment, Line, Fields}
use Rattle.cli_traces.specs.Device.{device_named}
use Rattle.cli_traces.specs.Following.{Following, goes, AddsPiece}
use Rattle.cli_traces.specs.Reading.{body_after, body_text, bodies_after, bodies_text, head_text, counted, drawn_by, ends_size, event_log, head_after, if_sized, in_turn, is_printed, kept_log, line_after, named_after, record_log, same_side, sender_of, shaped_log, some_after, text_log, with_record}
use Rattle.cli_traces.specs.Start.{is_cutting, may_cut, start_after}
use Rattle.cli_traces.specs.Text.{shape_of}
use Rattle.cli_traces.proofs.Cuts.{waits_in}

only_begun : (start : Start) → may_cut Host start ≡ false → start ≡ Begun
only_begun Agreeing is = absurd cc
only_begun Cutting is = absurd cc
only_begun Begun is = refl

either_start : (test : Bool) (one other : Reading) (start : Start) → one.start ≡ start → other.start ≡ start → (cond test one other).start ≡ start
either_start true one other start a b = a
either_start false one other start a b = b

module _ (asked : Asked) (side : Side) where
  line_start : (r : Reading) → (line_after asked side r).start ≡ r.start
  unfolding line_after
  line_start r = either_start (is_printed asked side r.turn) (counted asked r) r r.start refl refl

  body_start : (r : Reading) (body : List ℕ) → (body_after asked side r body).start ≡ r.start
  unfolding body_after
  body_start r body = line_start (in_turn side r body)

  some_start : (r : Reading) (body : List ℕ) → (some_after asked side r body).start ≡ r.start
  unfolding some_after
  some_start r [] = refl
  some_start r (byte ∷ bytes) = body_start r (byte ∷ bytes)

  bodies_start : (r : Reading) (bodies : List (List ℕ)) → (bodies_after asked side r bodies).start ≡ r.start
  bodies_start r [] = refl
  bodies_start r (body ∷ bodies) = bodies_start (some_after asked side r body) bodies ∙ some_start r body

  head_start : (r : Reading) → (head_after asked side r).start ≡ r.start
  unfolding head_after
  head_start r = either_start (is_printed asked side r.turn) _ r r.start refl refl

  -- where a log goes on, its state has this start
  abbrev GoesWith : Start → Log Reading → Type 0
  GoesWith start log = (next : Reading) → log.course ≡ runs next → next.start ≡ start

  goes_with : (r : Reading) (start : Start) → r.start ≡ start → (next : Reading) → runs r ≡ runs next → next.start ≡ start
  goes_with r start is next same = ap (λ (z : Reading). z.start) (sym (next_is same)) ∙ is
    where
      next_is : runs r ≡ runs next → r ≡ next
      next_is e = cc

  sized_start : (test : Bool) (r : Reading) (log : Log Reading) (start : Start) → GoesWith start log → GoesWith start (if_sized test r log)
  sized_start true r log start on next same = absurd cc
  sized_start false r log start on next same = on next same

  shaped_start : (line : ℕ) (r : Reading) (kept : Kept) (shape : Shape) → GoesWith r.start (shaped_log asked side line r kept shape)
  shaped_start line r kept Comment = goes_with r r.start refl
  shaped_start line r kept Line = sized_start (ends_size asked side r) r (going (body_text asked side line kept.header r kept.body) (body_after asked side r kept.body)) r.start (goes_with (body_after asked side r kept.body) r.start (body_start r kept.body))
  shaped_start line r kept Fields =
      sized_start (ends_size asked side r) r
      (going (head_text asked side line r kept ++ bodies_text asked side line kept.header (head_after asked side r) (drawn_by side kept.body))
      (bodies_after asked side (head_after asked side r) (drawn_by side kept.body))) r.start
      (goes_with (bodies_after asked side (head_after asked side r) (drawn_by side kept.body)) r.start
      (bodies_start (head_after asked side r) (drawn_by side kept.body) ∙ head_start r))

  failed_start : (test : Bool) (why : RunFault) (r : Reading) → GoesWith r.start (cond test (failed why r) (going [] r))
  failed_start true why r next same = absurd cc
  failed_start false why r next same = goes_with r r.start refl next same

  kept_start : (line : ℕ) (r : Reading) (kept : Result Kept HeaderFault) → GoesWith r.start (kept_log asked side line r kept)
  kept_start line r (Ok kept) = shaped_start line r kept (shape_of asked.all side kept)
  kept_start line r (Err fault) = failed_start (same_side side asked.side) (HeaderFails fault) r

module _ (asked : Asked) (line : ℕ) where
  record_start : (r : Reading) (bytes : List ℕ) → r.start ≡ Begun → GoesWith asked Host Begun (record_log asked Host line r bytes)
  record_start r bytes is next same =
      let at : record_log asked Host line r bytes ≡ kept_log asked Host line (with_record Host r) (kept_of r.now bytes) =
      ap (λ (s : Start). cond (is_cutting Host s && r.plain) (text_log asked Host line r bytes) (kept_log asked Host line (with_record Host r) (kept_of r.now bytes))) is in
      kept_start asked Host line (with_record Host r) (kept_of r.now bytes) next (ap (λ (l : Log Reading). l.course) (sym at) ∙ same)

  abbrev negotiated : Reading → Told → Reading
  negotiated r event =
      let sender : Sender = sender_of asked.source Host in
      record r {
        start = start_after Host r.start event;
        now = negotiated_after sender r.now event;
        named = named_after r.named (device_named sender event);
      }

  event_start : (r : Reading) (event : Told) → r.start ≡ Begun → GoesWith asked Host Begun (event_log asked Host line r event)
  event_start r (told_record bytes) is = record_start r bytes is
  event_start r (told_verb verb option) is = goes_with asked Host (negotiated r (told_verb verb option)) Begun (ap (λ (s : Start). start_after Host s (told_verb verb option)) is)
  event_start r (told_sub option parameters) is = goes_with asked Host (negotiated r (told_sub option parameters)) Begun (ap (λ (s : Start). start_after Host s (told_sub option parameters)) is)
  event_start r (told_passed byte) is = goes_with asked Host (negotiated r (told_passed byte)) Begun (ap (λ (s : Start). start_after Host s (told_passed byte)) is)

  course_start : (course : Ends Reading) (d : List ℕ) (es : List Told) (due : List ℕ) (next : Reading) → ((m : Reading) → course ≡ runs m → m.start ≡ Begun)
      → ((m : Reading) (before : List ℕ) → m.start ≡ Begun → log_of (event_log asked Host line) m es ≡ going before next → next.start ≡ Begun)
      → log_on d course (λ n. log_of (event_log asked Host line) n es) ≡ going due next → next.start ≡ Begun
  course_start (runs m) d es due next here later is =
      let inner : Log Reading = log_of (event_log asked Host line) m es in
      let at : log_of (event_log asked Host line) m es ≡ going inner.due next =
      ap (λ (c : Ends Reading). record { due = inner.due; course = c }) (ap (λ (l : Log Reading). l.course) is) in
      later m inner.due (here m refl) at
  course_start (finishes m) d es due next here later is = let clash : finishes m ≡ runs next = ap (λ (l : Log Reading). l.course) is in absurd cc
  course_start (fails why last) d es due next here later is = let clash : fails why last ≡ runs next = ap (λ (l : Log Reading). l.course) is in absurd cc

  log_start : (es : List Told) (r : Reading) (due : List ℕ) (next : Reading) → r.start ≡ Begun → log_of (event_log asked Host line) r es ≡ going due next → next.start ≡ Begun
  log_start [] r due next begun is = goes_with asked Host r Begun begun next (ap (λ (l : Log Reading). l.course) is)
  log_start (e ∷ es) r due next begun is =
      course_start (event_log asked Host line r e).course (event_log asked Host line r e).due es due next (λ m same. event_start r e begun m same)
      (λ m before starts at. log_start es m before next starts at) is

-- after a piece that no text can come in, none can
pub stays : (asked : Asked) (number : ℕ) (side : Side) (f : Following) (x text : List ℕ) (mid : Following) → AddsPiece asked number side f x text (goes mid)
    → may_cut side f.reading.start ≡ false → may_cut side mid.reading.start ≡ false
stays asked number Terminal f x text mid a is = refl
stays asked number Host f x text mid a is =
    let w = waits_in asked number Host f x text mid a in
    let begun : w.reading.start ≡ Begun = log_start asked number w.log.events f.reading text w.reading (only_begun f.reading.start is) w.log.log in
    ap (λ (g : Following). may_cut Host g.reading.start) w.same ∙ ap (may_cut Host) begun
