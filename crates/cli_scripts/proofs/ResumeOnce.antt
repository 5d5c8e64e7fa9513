-- What becomes of what is under way is determined by what came.
use Rattle.std.proofs.Common.{◌≡◌, ℕ, Bool, true, false, List, Vec, Global, ◌++◌, codes, Option, refl, sym, ap, ◌∙◌, subst}
use Rattle.std.specs.Prelude.{Result, is_some}
use Rattle.script_screens.specs.declared.lines.Outcome.{Outcome}
use Rattle.script_screens.specs.declared.lines.Outcome.TheVariants as outcomes
use Rattle.script_screens.specs.Lines.{Said, data_lines, failed}
use Rattle.script_checks.specs.Said.{said_of_check}
use Rattle.tn_cores.specs.Devices.{sizes_of}
use Rattle.tn_session.specs.declared.terminal_state.TerminalState.{TerminalState}
use Rattle.tn_session.specs.Kept.{Kept as KeptRecord}
use Rattle.tn_session.specs.TerminalTalk.{records_kept}
use Rattle.cli_scripts.specs.Answers.{printed_text}
use Rattle.cli_scripts.specs.declared.came.Came.{Came}
use Rattle.cli_scripts.specs.declared.came.Came.TheVariants as came
use Rattle.cli_scripts.specs.declared.came.Need.TheVariants.{Arrived, Bytes, Connection, Layout, Page}
use Rattle.cli_scripts.specs.declared.doing.Doing.{Doing}
use Rattle.cli_scripts.specs.declared.doing.Doing.TheVariants.{Arriving, Calling, Opening, Sent, Pressing, TypingCode, Typing, Waiting, Writing, Checking}
use Rattle.cli_scripts.specs.declared.doing.Step.{Step}
use Rattle.cli_scripts.specs.declared.doing.Step.TheVariants.{Ended, Waits}
use Rattle.cli_scripts.specs.declared.doing.Typing.{Typing as Text}
use Rattle.cli_scripts.specs.declared.worker.Worker.{Worker}
use Rattle.cli_scripts.specs.Desks.{Worked, device_in, is_waiting, opened}
use Rattle.cli_scripts.specs.Keying.{code_deeds}
use Rattle.cli_scripts.specs.RunLaws.{IsSound}
use Rattle.cli_scripts.specs.Runs.{Event, a_line, a_long_line, some_bytes, nothing_yet, not_in_time, the_end, a_host, no_host, a_page, no_page, a_layout, event_of}
use Rattle.cli_scripts.specs.Says.{Checks, EndsSaying, IsOpening, unconnected_said}
use Rattle.cli_scripts.specs.Waits.{Tells, closed, late}
use Rattle.cli_scripts.specs.Workers.{ArrivesOn, ClosedOn, GoesOn, HeardAt, HeardOn, HearsBytes, HearsOn, IsOver, OpensBy, Rests, ToldOn, TypesOn, WaitsStill, hung_up}
use Rattle.cli_scripts.proofs.ActOnce.{GoesWell, at_state, code_once, desk_once, ending_once, heard_once, keys_once, tells_once, well_keys, well_pressed, well_same}
use Rattle.cli_scripts.proofs.HearOnce.{hears_on, hears_once}
use Rattle.cli_scripts.proofs.SameSteps.{SameDoing, SameStep, doing_alike, steps_alike}
use Rattle.cli_scripts.proofs.Sound.{IsListening, listening, part_of, where_connected, without_host}
use Rattle.cli_scripts.proofs.TextOnce.{text_once}
use Rattle.cli_scripts.proofs.Typed.{pressed_once}

-- ---- by what came

abbrev pub ToldBy : Doing → Event → Worker → Step → Worker → Type 0
ToldBy (Calling host) a_host old step new = IsOpening step × (new.desk ≡ opened old.desk host) × (new.saying ≡ old.saying)
ToldBy (Calling host) (no_host why) old step new = EndsSaying (unconnected_said host why) step old.saying new.saying × (new.desk ≡ old.desk)
ToldBy (Waiting wait) not_in_time old step new = Tells wait (late wait.what) step old.saying new.saying × (new.desk ≡ old.desk)
ToldBy (Writing path) (no_page why) old step new =
    EndsSaying (failed (printed_text (codes "PrintText(): " ++ (path.items ++ (codes ": " ++ why))))) step old.saying new.saying × (new.desk ≡ old.desk)
ToldBy (Checking path) (a_layout read) old step new =
    (outcome : Outcome) × (step ≡ Ended outcome) × Checks old.desk path.items read old.saying new.saying outcome × (new.desk ≡ old.desk)
ToldBy doing event old step new = IsOver old step new

abbrev pub GoesBy : Doing → Event → Worker → Step → Worker → Type 0
GoesBy doing (some_bytes bytes) old step new = (mid : Worker) × (shown : Bool) × HearsBytes bytes old shown mid × HearsOn doing shown mid step new
GoesBy doing the_end old step new = ClosedOn doing (hung_up old) step new
GoesBy doing event old step new = ToldBy doing event old step new

told_by : (doing : Doing) (it : Came) (old : Worker) (step : Step) (new : Worker) → ToldOn doing it old step new → ToldBy doing (event_of it) old step new
told_by (Calling host) came.Connected old step new told = told
told_by (Calling host) (came.Unconnected why) old step new told = told
told_by (Waiting wait) came.Late old step new told = told
told_by (Writing path) (came.Unwritten why) old step new told = told
told_by (Checking path) (came.Layout text) old step new told = told
told_by doing it old step new told = told

pub goes_by : (doing : Doing) (it : Came) (old : Worker) (step : Step) (new : Worker) → GoesOn doing it old step new → GoesBy doing (event_of it) old step new
goes_by doing (came.Bytes bytes) old step new goes = goes
goes_by doing came.Closed old step new goes = goes
goes_by doing (came.Line line) old step new goes = told_by doing (came.Line line) old step new goes
goes_by doing came.LongLine old step new goes = told_by doing came.LongLine old step new goes
goes_by doing came.Nothing old step new goes = told_by doing came.Nothing old step new goes
goes_by doing came.Late old step new goes = told_by doing came.Late old step new goes
goes_by doing came.Connected old step new goes = told_by doing came.Connected old step new goes
goes_by doing (came.Unconnected why) old step new goes = told_by doing (came.Unconnected why) old step new goes
goes_by doing came.Written old step new goes = told_by doing came.Written old step new goes
goes_by doing (came.Unwritten why) old step new goes = told_by doing (came.Unwritten why) old step new goes
goes_by doing (came.Layout text) old step new goes = told_by doing (came.Layout text) old step new goes

-- ---- how it goes on

abbrev pub SameOn : Step → Step → Worker → Worker → Type 0
SameOn step another new also = SameStep step another × (new.desk ≡ also.desk) × (new.saying ≡ also.saying)

rests_once : (to : Step) (old new also : Worker) (step another : Step) → step ≡ to → another ≡ to → Rests old new → Rests old also → SameOn step another new also
rests_once to old new also step another is so (desk, said) (left, told) = (steps_alike step another to is so, desk ∙ sym left, said ∙ sym told)

over_both : (old new also : Worker) (step another : Step) → IsOver old step new → IsOver old another also → SameOn step another new also
over_both old new also step another (is, rests) (so, rested) = rests_once (Ended outcomes.Done) old new also step another is so rests rested

says_both : (said : Said) (old new also : Worker) (step another : Step) → EndsSaying said step old.saying new.saying × (new.desk ≡ old.desk)
    → EndsSaying said another old.saying also.saying × (also.desk ≡ old.desk) → SameOn step another new also
says_both said old new also step another (ends, desk) (ended, left) =
    let same = ending_once said step another old.saying new.saying also.saying ends ended in (same.0, desk ∙ sym left, same.1)

types_both : (one two : Text) (old new also : Worker) (step another : Step) → IsSound old.desk → one.text.items ≡ two.text.items
    → one.after_send ≡ two.after_send → TypesOn (Typing one) old step new → TypesOn (Typing two) old another also → SameOn step another new also
types_both one two old new also step another sound text sends (types, only) (typed, alone) =
    text_once old.code_page old.settings.blank_fill one two step another old.desk new.desk also.desk old.saying new.saying also.saying text sends sound
    only alone types typed

arrives_both : (b : Bool) (old new also : Worker) (step another : Step) → ArrivesOn b step → ArrivesOn b another → Rests old new → Rests old also
    → SameOn step another new also
arrives_both true old new also step another is so rests rested = rests_once (Waits Arriving Arrived) old new also step another is so rests rested
arrives_both false old new also step another is so rests rested = rests_once (Ended outcomes.Done) old new also step another is so rests rested

opens_both : (b : Bool) (old new also : Worker) (step another : Step) → OpensBy b step → OpensBy b another → Rests old new → Rests old also
    → SameOn step another new also
opens_both true old new also step another is so rests rested = rests_once (Ended outcomes.Done) old new also step another is so rests rested
opens_both false old new also step another is so rests rested = rests_once (Waits Opening Bytes) old new also step another is so rests rested

still_both : (b : Bool) (old new also : Worker) (step another : Step) → WaitsStill b step → WaitsStill b another → Rests old new → Rests old also
    → SameOn step another new also
still_both true old new also step another is so rests rested = rests_once (Waits Sent Bytes) old new also step another is so rests rested
still_both false old new also step another is so rests rested = rests_once (Ended outcomes.Done) old new also step another is so rests rested

heard_one : (doing : Doing) (shown : Bool) (old new also : Worker) (step another : Step) → IsListening old.desk.talk → IsSound old.desk
    → HeardOn doing shown old step new → HeardOn doing shown old another also → SameOn step another new also
heard_one Opening shown old new also step another listens sound (is, rests) (so, rested) = opens_both shown old new also step another is so rests rested
heard_one Sent shown old new also step another listens sound (is, rests) (so, rested) =
    let (state, left, here) = listening old.desk.talk listens in
    still_both (is_waiting state.terminal.lock) old new also step another
    (at_state old.desk.talk state left (λ s. WaitsStill (is_waiting s.terminal.lock) step) here is)
    (at_state old.desk.talk state left (λ s. WaitsStill (is_waiting s.terminal.lock) another) here so) rests rested
heard_one (Pressing it) shown old new also step another listens sound (did, said, works) (does, told, worked) =
    let same = keys_once it old.desk.host old.desk.talk step another old.saying new.saying also.saying sound said told in
    (same.0, desk_once it old.desk new.desk also.desk sound did does works worked, same.1)
heard_one (TypingCode code) shown old new also step another listens sound (did, said, only) (does, told, alone) =
    let same = code_once old.settings.blank_fill code old.desk.host old.desk.talk step another old.saying new.saying also.saying sound said told in (
      same.0,
      pressed_once old.desk new.desk also.desk only alone
          (part_of (λ (state : TerminalState). old.desk.deeds ++ code_deeds old.settings.blank_fill code old.desk.host state) old.desk new.desk.deeds
          also.desk.deeds sound did does),
      same.1,
    )
heard_one (Typing typing) shown old new also step another listens sound p q = types_both typing typing old new also step another sound refl refl p q
heard_one (Calling host) shown old new also step another listens sound (is, rests) (so, rested) =
    rests_once (Waits (Calling host) Connection) old new also step another is so rests rested
heard_one (Writing path) shown old new also step another listens sound (is, rests) (so, rested) =
    rests_once (Waits (Writing path) Page) old new also step another is so rests rested
heard_one (Checking path) shown old new also step another listens sound (is, rests) (so, rested) =
    rests_once (Waits (Checking path) Layout) old new also step another is so rests rested
heard_one Arriving shown old new also step another listens sound p q = over_both old new also step another p q
heard_one (Waiting wait) shown old new also step another listens sound p q = over_both old new also step another p q

closed_one : (doing : Doing) (old new also : Worker) (step another : Step) → IsSound old.desk → ClosedOn doing old step new
    → ClosedOn doing old another also → SameOn step another new also
closed_one Opening old new also step another sound p q = says_both (failed (printed_text (codes "Host disconnected"))) old new also step another p q
closed_one (Calling host) old new also step another sound p q = says_both (failed (printed_text (codes "Host disconnected"))) old new also step another p q
closed_one (Typing typing) old new also step another sound p q = types_both typing typing old new also step another sound refl refl p q
closed_one (Waiting wait) old new also step another sound (tells, desk) (told, left) =
    let same = tells_once wait (closed wait.what) step another old.saying new.saying also.saying tells told in (same.0, desk ∙ sym left, same.1)
closed_one Arriving old new also step another sound p q = over_both old new also step another p q
closed_one Sent old new also step another sound p q = over_both old new also step another p q
closed_one (Pressing it) old new also step another sound p q = over_both old new also step another p q
closed_one (TypingCode code) old new also step another sound p q = over_both old new also step another p q
closed_one (Writing path) old new also step another sound p q = over_both old new also step another p q
closed_one (Checking path) old new also step another sound p q = over_both old new also step another p q

-- the same, where texts lie elsewhere
heard_two : (doing other : Doing) (shown : Bool) (old new also : Worker) (step another : Step) → SameDoing doing other → IsListening old.desk.talk
    → IsSound old.desk → HeardOn doing shown old step new → HeardOn other shown old another also → SameOn step another new also
heard_two (Typing one) (Typing two) shown old new also step another (text, sends) listens sound p q = types_both one two old new also step another sound text sends p q
heard_two (Writing one) (Writing two) shown old new also step another same listens sound (is, rests) (so, rested) = (
  subst (λ (x : Step). SameStep x another) (sym is) (subst (λ (y : Step). SameStep (Waits (Writing one) Page) y) (sym so) (same, refl)),
  rests.0 ∙ sym rested.0,
  rests.1 ∙ sym rested.1,
)
heard_two (Checking one) (Checking two) shown old new also step another same listens sound (is, rests) (so, rested) = (
  subst (λ (x : Step). SameStep x another) (sym is) (subst (λ (y : Step). SameStep (Waits (Checking one) Layout) y) (sym so) (same, refl)),
  rests.0 ∙ sym rested.0,
  rests.1 ∙ sym rested.1,
)
heard_two (Typing one) other shown old new also step another same listens sound p q = absurd cc
heard_two (Writing one) other shown old new also step another same listens sound p q = absurd cc
heard_two (Checking one) other shown old new also step another same listens sound p q = absurd cc
heard_two doing other shown old new also step another same listens sound p q =
    heard_one doing shown old new also step another listens sound p (subst (λ (d : Doing). HeardOn d shown old another also) (sym same) q)

closed_two : (doing other : Doing) (old new also : Worker) (step another : Step) → SameDoing doing other → IsSound old.desk
    → ClosedOn doing old step new → ClosedOn other old another also → SameOn step another new also
closed_two (Typing one) (Typing two) old new also step another (text, sends) sound p q = types_both one two old new also step another sound text sends p q
closed_two (Writing one) (Writing two) old new also step another same sound p q = over_both old new also step another p q
closed_two (Checking one) (Checking two) old new also step another same sound p q = over_both old new also step another p q
closed_two (Typing one) other old new also step another same sound p q = absurd cc
closed_two (Writing one) other old new also step another same sound p q = absurd cc
closed_two (Checking one) other old new also step another same sound p q = absurd cc
closed_two doing other old new also step another same sound p q =
    closed_one doing old new also step another sound p (subst (λ (d : Doing). ClosedOn d old another also) (sym same) q)

heard_at_two : (b : Bool) (doing other : Doing) (shown : Bool) (old new also : Worker) (step another : Step) → SameDoing doing other
    → (b ≡ true → IsListening old.desk.talk) → IsSound old.desk → HeardAt b doing shown old step new → HeardAt b other shown old another also
    → SameOn step another new also
heard_at_two true doing other shown old new also step another same listens sound p q =
    heard_two doing other shown old new also step another same (listens refl) sound p q
heard_at_two false doing other shown old new also step another same listens sound p q = closed_two doing other old new also step another same sound p q

hears_one : (doing : Doing) (shown : Bool) (old new also : Worker) (step another : Step) → IsSound old.desk → HearsOn doing shown old step new
    → HearsOn doing shown old another also → SameOn step another new also
hears_one Arriving shown old new also step another sound (is, rests) (so, rested) =
    arrives_both (is_some old.desk.host) old new also step another is so rests rested
hears_one (Waiting wait) shown old new also step another sound (tells, desk) (told, left) =
    let same = heard_once old.desk wait step another old.saying new.saying also.saying sound tells told in (same.0, desk ∙ sym left, same.1)
hears_one doing shown old new also step another sound p q =
    heard_at_two (is_some old.desk.host) doing doing shown old new also step another (doing_alike doing)
    (where_connected old.desk.host old.desk.talk sound) sound p q

hears_two : (doing other : Doing) (shown : Bool) (old new also : Worker) (step another : Step) → SameDoing doing other → IsSound old.desk
    → HearsOn doing shown old step new → HearsOn other shown old another also → SameOn step another new also
hears_two (Typing one) (Typing two) shown old new also step another same sound p q =
    heard_at_two (is_some old.desk.host) (Typing one) (Typing two) shown old new also step another same
    (where_connected old.desk.host old.desk.talk sound) sound p q
hears_two (Writing one) (Writing two) shown old new also step another same sound p q =
    heard_at_two (is_some old.desk.host) (Writing one) (Writing two) shown old new also step another same
    (where_connected old.desk.host old.desk.talk sound) sound p q
hears_two (Checking one) (Checking two) shown old new also step another same sound p q =
    heard_at_two (is_some old.desk.host) (Checking one) (Checking two) shown old new also step another same
    (where_connected old.desk.host old.desk.talk sound) sound p q
hears_two (Typing one) other shown old new also step another same sound p q = absurd cc
hears_two (Writing one) other shown old new also step another same sound p q = absurd cc
hears_two (Checking one) other shown old new also step another same sound p q = absurd cc
hears_two doing other shown old new also step another same sound p q =
    hears_one doing shown old new also step another sound p (subst (λ (d : Doing). HearsOn d shown old another also) (sym same) q)

-- ---- something else than bytes

checks_both : (path : List ℕ) (read : Result (List ℕ) (List ℕ)) (old new also : Worker) (step another : Step) (outcome ended : Outcome) → IsSound old.desk
    → step ≡ Ended outcome → another ≡ Ended ended → Checks old.desk path read old.saying new.saying outcome
    → Checks old.desk path read old.saying also.saying ended → new.desk ≡ old.desk → also.desk ≡ old.desk → SameOn step another new also
checks_both path read old new also step another outcome ended sound is so (turns, here, (said, ends)) (others, there, (told, stops)) desk left =
    let same : turns ≡ others = part_of (λ (state : TerminalState). records_kept state.kept) old.desk turns others sound here there in
    let due : said_of_check turns (sizes_of (device_in old.desk).model) path read ≡ said_of_check others (sizes_of (device_in old.desk).model) path read =
    ap (λ (t : Option (List KeptRecord)). said_of_check t (sizes_of (device_in old.desk).model) path read) same in (
      steps_alike step another (Ended outcome) is (so ∙ ap Ended (stops ∙ ap (λ (s : Said). s.outcome) (sym due) ∙ sym ends)),
      desk ∙ sym left,
      said ∙ ap (λ (s : Said). old.saying ++ data_lines s.texts) due ∙ sym told,
    )

told_one : (doing : Doing) (event : Event) (old new also : Worker) (step another : Step) → IsSound old.desk → ToldBy doing event old step new
    → ToldBy doing event old another also → SameOn step another new also
told_one (Calling host) a_host old new also step another sound (is, desk, said) (so, left, told) =
    (steps_alike step another (Waits Opening Bytes) is so, desk ∙ sym left, said ∙ sym told)
told_one (Calling host) (no_host why) old new also step another sound p q = says_both (unconnected_said host why) old new also step another p q
told_one (Waiting wait) not_in_time old new also step another sound (tells, desk) (told, left) =
    let same = tells_once wait (late wait.what) step another old.saying new.saying also.saying tells told in (same.0, desk ∙ sym left, same.1)
told_one (Writing path) (no_page why) old new also step another sound p q =
    says_both (failed (printed_text (codes "PrintText(): " ++ (path.items ++ (codes ": " ++ why))))) old new also step another p q
told_one (Checking path) (a_layout read) old new also step another sound (outcome, is, checks, desk) (ended, so, checked, left) =
    checks_both path.items read old new also step another outcome ended sound is so checks checked desk left
told_one doing event old new also step another sound p q = over_both old new also step another p q

-- of a page, and of a layout, by the path alone
abbrev PageBy : List ℕ → Event → Worker → Step → Worker → Type 0
PageBy path (no_page why) old step new =
    EndsSaying (failed (printed_text (codes "PrintText(): " ++ (path ++ (codes ": " ++ why))))) step old.saying new.saying × (new.desk ≡ old.desk)
PageBy path event old step new = IsOver old step new

abbrev LayoutBy : List ℕ → Event → Worker → Step → Worker → Type 0
LayoutBy path (a_layout read) old step new =
    (outcome : Outcome) × (step ≡ Ended outcome) × Checks old.desk path read old.saying new.saying outcome × (new.desk ≡ old.desk)
LayoutBy path event old step new = IsOver old step new

as_page : (path : Vec ℕ Global) (event : Event) (old : Worker) (step : Step) (new : Worker) → ToldBy (Writing path) event old step new
    → PageBy path.items event old step new
as_page path (no_page why) old step new told = told
as_page path event old step new told = told

as_layout : (path : Vec ℕ Global) (event : Event) (old : Worker) (step : Step) (new : Worker) → ToldBy (Checking path) event old step new
    → LayoutBy path.items event old step new
as_layout path (a_layout read) old step new told = told
as_layout path event old step new told = told

told_page : (one two : List ℕ) (event : Event) (old new also : Worker) (step another : Step) → one ≡ two → IsSound old.desk
    → PageBy one event old step new → PageBy two event old another also → SameOn step another new also
told_page one two (no_page why) old new also step another same sound p q =
    says_both (failed (printed_text (codes "PrintText(): " ++ (one ++ (codes ": " ++ why))))) old new also step another p
    (subst (λ (z : List ℕ). PageBy z (no_page why) old another also) (sym same) q)
told_page one two event old new also step another same sound p q = over_both old new also step another p q

told_layout : (one two : List ℕ) (event : Event) (old new also : Worker) (step another : Step) → one ≡ two → IsSound old.desk
    → LayoutBy one event old step new → LayoutBy two event old another also → SameOn step another new also
told_layout one two (a_layout read) old new also step another same sound (outcome, is, checks, desk) (ended, so, checked, left) =
    checks_both one read old new also step another outcome ended sound is so checks
    (subst (λ (z : List ℕ). Checks old.desk z read old.saying also.saying ended) (sym same) checked) desk left
told_layout one two event old new also step another same sound p q = over_both old new also step another p q

told_two : (doing other : Doing) (event : Event) (old new also : Worker) (step another : Step) → SameDoing doing other → IsSound old.desk
    → ToldBy doing event old step new → ToldBy other event old another also → SameOn step another new also
told_two (Typing one) (Typing two) event old new also step another same sound p q = over_both old new also step another p q
told_two (Writing one) (Writing two) event old new also step another same sound p q =
    told_page one.items two.items event old new also step another same sound (as_page one event old step new p) (as_page two event old another also q)
told_two (Checking one) (Checking two) event old new also step another same sound p q =
    told_layout one.items two.items event old new also step another same sound (as_layout one event old step new p) (as_layout two event old another also q)
told_two (Typing one) other event old new also step another same sound p q = absurd cc
told_two (Writing one) other event old new also step another same sound p q = absurd cc
told_two (Checking one) other event old new also step another same sound p q = absurd cc
told_two doing other event old new also step another same sound p q =
    told_one doing event old new also step another sound p (subst (λ (d : Doing). ToldBy d event old another also) (sym same) q)

-- ---- all of it

well_rests : (old new : Worker) → Rests old new → GoesWell old.desk new.desk
well_rests old new rests = well_same old.desk new.desk rests.0

well_heard : (doing : Doing) (shown : Bool) (old : Worker) (step : Step) (new : Worker) → HeardOn doing shown old step new → GoesWell old.desk new.desk
well_heard (Pressing it) shown old step new (did, said, works) = well_keys old.desk.host it old.desk new.desk works
well_heard (TypingCode code) shown old step new (did, said, only) = well_pressed old.desk new.desk only
well_heard (Typing typing) shown old step new (types, only) = well_pressed old.desk new.desk only
well_heard Opening shown old step new (is, rests) = well_rests old new rests
well_heard Sent shown old step new (is, rests) = well_rests old new rests
well_heard (Calling host) shown old step new (is, rests) = well_rests old new rests
well_heard (Writing path) shown old step new (is, rests) = well_rests old new rests
well_heard (Checking path) shown old step new (is, rests) = well_rests old new rests
well_heard Arriving shown old step new (is, rests) = well_rests old new rests
well_heard (Waiting wait) shown old step new (is, rests) = well_rests old new rests

well_ended : (doing : Doing) (old : Worker) (step : Step) (new : Worker) → ClosedOn doing old step new → GoesWell old.desk new.desk
well_ended Opening old step new (says, desk) = well_same old.desk new.desk desk
well_ended (Calling host) old step new (says, desk) = well_same old.desk new.desk desk
well_ended (Typing typing) old step new (types, only) = well_pressed old.desk new.desk only
well_ended (Waiting wait) old step new (tells, desk) = well_same old.desk new.desk desk
well_ended Arriving old step new (is, rests) = well_rests old new rests
well_ended Sent old step new (is, rests) = well_rests old new rests
well_ended (Pressing it) old step new (is, rests) = well_rests old new rests
well_ended (TypingCode code) old step new (is, rests) = well_rests old new rests
well_ended (Writing path) old step new (is, rests) = well_rests old new rests
well_ended (Checking path) old step new (is, rests) = well_rests old new rests

well_heard_at : (b : Bool) (doing : Doing) (shown : Bool) (old : Worker) (step : Step) (new : Worker) → HeardAt b doing shown old step new
    → GoesWell old.desk new.desk
well_heard_at true doing shown old step new heard = well_heard doing shown old step new heard
well_heard_at false doing shown old step new heard = well_ended doing old step new heard

well_hears : (doing : Doing) (shown : Bool) (old : Worker) (step : Step) (new : Worker) → HearsOn doing shown old step new → GoesWell old.desk new.desk
well_hears Arriving shown old step new (is, rests) = well_rests old new rests
well_hears (Waiting wait) shown old step new (tells, desk) = well_same old.desk new.desk desk
well_hears doing shown old step new heard = well_heard_at (is_some old.desk.host) doing shown old step new heard

over_sound : (old : Worker) (step : Step) (new : Worker) → IsSound old.desk → IsOver old step new → IsSound new.desk
over_sound old step new sound (is, (desk, said)) = subst IsSound (sym desk) sound

told_sound : (doing : Doing) (event : Event) (old : Worker) (step : Step) (new : Worker) → IsSound old.desk → ToldBy doing event old step new
    → IsSound new.desk
told_sound (Calling host) a_host old step new sound (is, desk, said) = subst IsSound (sym desk) tt
told_sound (Calling host) (no_host why) old step new sound (says, desk) = subst IsSound (sym desk) sound
told_sound (Waiting wait) not_in_time old step new sound (tells, desk) = subst IsSound (sym desk) sound
told_sound (Writing path) (no_page why) old step new sound (says, desk) = subst IsSound (sym desk) sound
told_sound (Checking path) (a_layout read) old step new sound (outcome, is, checks, desk) = subst IsSound (sym desk) sound
told_sound doing event old step new sound over = over_sound old step new sound over

-- how what is under way goes on
abbrev pub GoesSo : Step → Step → Worker → Worker → Type 0
GoesSo step another new also = SameOn step another new also × IsSound new.desk

told_so : (doing other : Doing) (event : Event) (old new also : Worker) (step another : Step) → SameDoing doing other → IsSound old.desk
    → ToldBy doing event old step new → ToldBy other event old another also → GoesSo step another new also
told_so doing other event old new also step another same sound p q =
    (told_two doing other event old new also step another same sound p q, told_sound doing event old step new sound p)

pub by_once : (event : Event) (doing other : Doing) (old new also : Worker) (step another : Step) → SameDoing doing other → IsSound old.desk
    → GoesBy doing event old step new → GoesBy other event old another also → GoesSo step another new also
by_once (some_bytes bytes) doing other old new also step another same sound (mid, shown, (here, deeds, heard, once), on) (between, seen, (there, did, hears, again), off) =
    let told = hears_once old.desk mid.desk between.desk bytes shown seen sound deeds did heard hears once again in
    let alike : between ≡ mid = there ∙ ap (λ (d : Worked). record old { desk = d }) (sym told.0) ∙ sym here in
    let now : IsSound mid.desk = hears_on old.desk mid.desk bytes shown sound once in
    let moved = subst (λ (w : Worker). HearsOn other seen w another also) alike off in (
      hears_two doing other shown mid new also step another same now on (subst (λ (b : Bool). HearsOn other b mid another also) (sym told.1) moved),
      well_hears doing shown mid step new on now,
    )
by_once the_end doing other old new also step another same sound p q =
    let left : IsSound (hung_up old).desk = without_host old.desk.host old.desk.talk sound in
    (closed_two doing other (hung_up old) new also step another same left p q, well_ended doing (hung_up old) step new p left)
by_once (a_line line) doing other old new also step another same sound p q = told_so doing other (a_line line) old new also step another same sound p q
by_once a_long_line doing other old new also step another same sound p q = told_so doing other a_long_line old new also step another same sound p q
by_once nothing_yet doing other old new also step another same sound p q = told_so doing other nothing_yet old new also step another same sound p q
by_once not_in_time doing other old new also step another same sound p q = told_so doing other not_in_time old new also step another same sound p q
by_once a_host doing other old new also step another same sound p q = told_so doing other a_host old new also step another same sound p q
by_once (no_host why) doing other old new also step another same sound p q = told_so doing other (no_host why) old new also step another same sound p q
by_once a_page doing other old new also step another same sound p q = told_so doing other a_page old new also step another same sound p q
by_once (no_page why) doing other old new also step another same sound p q = told_so doing other (no_page why) old new also step another same sound p q
by_once (a_layout read) doing other old new also step another same sound p q = told_so doing other (a_layout read) old new also step another same sound p q
