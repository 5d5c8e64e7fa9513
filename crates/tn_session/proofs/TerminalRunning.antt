-- A terminal's run, from that of its machine.
use Rattle.std.proofs.Common.{◌≡◌, ℕ, Bool, false, List, [], None, Ok, Err, refl, sym, ◌∙◌, ap, subst, inl}
use Rattle.std.specs.Prelude.{Result}
use Rattle.ds_codec.specs.Geometry.{Sizes}
use Rattle.ds_screen.specs.Picture.{Picture}
use Rattle.ds_screen.specs.Records.{new_picture}
use Rattle.tn_cores.specs.declared.device.Device.{Device}
use Rattle.tn_cores.specs.Devices.{sizes_of}
use Rattle.tn_session.specs.declared.end_core.EndCore.{EndCore}
use Rattle.tn_session.specs.Noted.{Noted, nothing_noted}
use Rattle.tn_session.specs.declared.fault.RunFault.{RunFault}
use Rattle.tn_session.specs.declared.terminal_state.TerminalState.{TerminalState}
use Rattle.tn_session.specs.declared.fault.RunFault.TheVariants as faults
use Rattle.tn_session.specs.declared.turn.Finish.{Finish}
use Rattle.tn_session.specs.declared.turn.Finish.TheVariants as finish
use Rattle.tn_session.specs.declared.report.Report.{Report}
use Rattle.tn_session.specs.Wire.{WireState}
use Rattle.tn_session.specs.Ran.{Ran, RunFails, cause_of}
use Rattle.tn_session.specs.OneLog.{waits}
use Rattle.tn_session.specs.RanSession.{EndsAs, RanSession}
use Rattle.tn_session.specs.Strikes.{Strike}
use Rattle.tn_session.specs.Talk.{Talk, stands, IsMachineOf}
use Rattle.tn_session.specs.TerminalLog.{TerminalRunning, begun_state, new_terminal_state, terminal_start, terminal_act}
use Rattle.tn_session.specs.TerminalRuns.{TerminalRan, finish_of, end_of, report_of}

abbrev state_with : EndCore → Picture → List ℕ → Noted → TerminalState
state_with core picture name noted = record {
  core = core;
  terminal = picture;
  inserts = false;
  sequence = 0;
  was_free = false;
  answers = 0;
  taken = 0;
  passed = 0;
  refused = 0;
  ignored = 0;
  drops = false;
  lu_name = name;
  noted = noted;
  kept = None;
}

pub begun_so : (core : EndCore) (device : Device) (picture : Picture) (geometry : Sizes) (name : List ℕ) (noted : Noted) → picture ≡ new_picture geometry
    → geometry ≡ sizes_of device.model → name ≡ [] → noted ≡ nothing_noted → state_with core picture name noted ≡ begun_state core device
begun_so core device picture geometry name noted shown sized unnamed empty =
    ap (λ (v : Picture). state_with core v name noted) (shown ∙ ap new_picture sized)
    ∙ ap (λ (n : List ℕ). state_with core (new_picture (sizes_of device.model)) n noted) unnamed
    ∙ ap (λ (n : Noted). state_with core (new_picture (sizes_of device.model)) [] n) empty

finish_again : (how : Finish) → finish_of (end_of how) ≡ how
finish_again finish.Finished = refl
finish_again finish.Closed = refl

module _ (device : Device) (enhanced responses : Bool) (keys : List Strike) (old new : WireState) (state_of : TerminalState)
    (made_so : state_of ≡ new_terminal_state device enhanced responses) where
  abbrev begun_of : TerminalRunning
  begun_of = record { state = state_of; keys = keys }

  started : (talk : Talk TerminalRunning) (state : TerminalRunning) → talk ≡ stands (waits begun_of []) → talk ≡ stands (waits state [])
      → state ≡ terminal_start device enhanced responses keys
  started talk state made is =
      let same : ◌≡◌ {A = Talk TerminalRunning} (stands (waits state [])) (stands (waits begun_of [])) = sym is ∙ made in
      let state_is : state ≡ begun_of = cc in state_is ∙ ap (λ (s : TerminalState). record { state = s; keys = keys }) made_so

  pub ran_so : (how : Finish) (talk last : Talk TerminalRunning) (machine : TerminalRunning) (report : Report) → talk ≡ stands (waits begun_of [])
      → RanSession terminal_act [] talk old (Ok how) last new → IsMachineOf last machine → report ≡ report_of machine (end_of how)
      → TerminalRan device enhanced responses keys old (Ok report) new
  ran_so how talk last machine report made (state, begins, end, ends, ran) of_last is =
      let ended : report.end ≡ end_of how = ap (λ (r : Report). r.end) is in
      let same : how ≡ finish_of report.end = sym (ap finish_of ended ∙ finish_again how) in
      let whole : Ran terminal_act [] (terminal_start device enhanced responses keys) old (Ok how) end new =
      subst (λ z. Ran terminal_act [] z old (Ok how) end new) (started talk state made begins) ran in
      let last_is : machine ≡ end = machine_at how last machine end ends of_last in (
        end,
        is ∙ ap (λ (m : TerminalRunning). report_of m (end_of how)) last_is ∙ ap (report_of end) (sym ended),
        subst (λ z. Ran terminal_act [] (terminal_start device enhanced responses keys) old (Ok z) end new) same whole,
      )
    where
      machine_at : (h : Finish) (l : Talk TerminalRunning) (m e : TerminalRunning) → EndsAs (Ok h) e l → IsMachineOf l m → m ≡ e
      machine_at finish.Finished l m e at of = subst (λ t. IsMachineOf t m) at of
      machine_at finish.Closed l m e (left, at) of = subst (λ t. IsMachineOf t m) at of

  pub failed_so : (why : RunFault) (talk last : Talk TerminalRunning) (result : Result Report RunFault) → talk ≡ stands (waits begun_of [])
      → result ≡ Err why → RanSession terminal_act [] talk old (Err why) last new → TerminalRan device enhanced responses keys old result new
  failed_so why talk last result made is (state, begins, end, ends, ran) =
      let whole : RunFails terminal_act [] (terminal_start device enhanced responses keys) old why new (cause_of why) =
      subst (λ z. RunFails terminal_act [] z old why new (cause_of why)) (started talk state made begins) ran in
      subst (λ z. TerminalRan device enhanced responses keys old z new) (sym is) whole

pub no_screen : (device : Device) (enhanced responses : Bool) (keys : List Strike) (old : WireState) (result : Result Report RunFault)
    → result ≡ Err faults.OutOfMemory → TerminalRan device enhanced responses keys old result old
no_screen device enhanced responses keys old result is = subst (λ z. TerminalRan device enhanced responses keys old z old) (sym is) (inl refl)
