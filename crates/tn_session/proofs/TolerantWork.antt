-- A tolerant terminal that takes bytes, and whose operator presses keys.
use Rattle.std.proofs.Common.{◌≡◌, ℕ, Bool, true, false, List, [], ◌∷◌, ◌++◌, length, Ok, Err, refl, sym, ◌∙◌, ap, subst, if◌then◌else◌, append_assoc}
use Rattle.std.specs.Prelude.{Option, Result, OnOk}
use Rattle.std.proofs.lemmas.List.{append-nil}
use Rattle.ds_codec.specs.Geometry.{Sizes}
use Rattle.ds_screen.specs.Picture.{Picture}
use Rattle.ds_screen.specs.Records.{new_picture}
use Rattle.tn_cores.specs.declared.device.Device.{Device}
use Rattle.ds_codec.specs.Same.{same_size}
use Rattle.tn_cores.specs.Devices.{sizes_of, alternate_of}
use Rattle.tn_session.specs.Kept.{Keeping}
use Rattle.tn_cores.specs.declared.session.Told.{Told as Meant}
use Rattle.tn_cores.specs.declared.tolerant.TolerantCore.{TolerantCore}
use Rattle.tn_session.specs.declared.arrived.Arrived.{Arrived}
use Rattle.tn_session.specs.declared.end_core.EndCore.{EndCore}
use Rattle.tn_session.specs.declared.end_core.EndCore.TheVariants.{Tolerant}
use Rattle.tn_session.specs.declared.fault.RunFault.{RunFault}
use Rattle.tn_session.specs.declared.pressed.Pressed.{Pressed}
use Rattle.tn_session.specs.declared.progress.Progress.{Progress}
use Rattle.tn_session.specs.declared.progress.Progress.TheVariants.{More}
use Rattle.tn_session.specs.declared.terminal_state.TerminalState.{TerminalState}
use Rattle.tn_session.specs.Strikes.{Strike}
use Rattle.tn_session.specs.Talk.{Talk, Adds, Takes}
use Rattle.tn_session.specs.TerminalLog.{kept_anew, renewed, fitted, dropping, heeding}
use Rattle.tn_session.specs.TerminalTalk.{IsNotOver, heard_act, Presses, TerminalTakes, TakesAs, TakesByte, Tolerates, Ends, begins_between, tolerates, takes_input_in}
use Rattle.tn_session.specs.TolerantRuns.{Working, counted, PressesAll, PressesOn}
use Rattle.tn_session.proofs.Heard.{GoesOnSo, takes_on}

-- ---- what an event leaves at a tolerant terminal

pub heed_so : {E : Type 0} (core : EndCore) (t : TolerantCore) (device : Device) (told : Meant) (state mid new : TerminalState) (r : Result (Unit {0}) E)
    → core ≡ Tolerant t → device ≡ t.core.device → mid ≡ dropping told state → OnOk r (new ≡ fitted device mid) → OnOk r (new ≡ heeding core told state)
heed_so core t device told state mid new r is of_core dropped fits =
    subst (λ (s : TerminalState). OnOk r (new ≡ s))
    (ap (λ (d : Device). fitted d mid) of_core ∙ ap (fitted t.core.device) dropped ∙ sym (ap (λ (c : EndCore). heeding c told state) is))
    fits

pub renewed_so : (device : Device) (state : TerminalState) (picture : Picture) (geometry : Sizes) (kept : Option Keeping) → picture ≡ new_picture geometry
    → geometry ≡ sizes_of device.model → kept ≡ kept_anew state.kept → record state { terminal = picture; kept = kept } ≡ renewed device state
renewed_so device state picture geometry kept shown sized anew =
    ap (λ (v : Picture). record state { terminal = v; kept = kept }) (shown ∙ ap new_picture sized)
    ∙ ap (λ (k : Option Keeping). record state { terminal = new_picture (sizes_of device.model); kept = k }) anew

pub fit_so : {E : Type 0} (device : Device) (state new : TerminalState) (r : Result (Unit {0}) E)
    → same_size state.terminal.geometry.alternate (alternate_of device.model) ≡ false → OnOk r (new ≡ renewed device state) → OnOk r (new ≡ fitted device state)
fit_so device state new r other renews =
    subst (λ z. OnOk r (new ≡ (if z then state else renewed device state))) (sym other) renews

-- a list of no length
pub is_empty : {A : Type 0} (xs : List A) → length xs ≡ 0 → xs ≡ []
is_empty [] e = refl
is_empty (x ∷ xs) e = absurd cc

-- ---- bytes, each in turn

pub quiet_byte : (old mid : Talk TerminalState) (byte : ℕ) (told : Result Progress RunFault) (due mid_due : List ℕ) → begins_between old mid ≡ false
    → Adds due mid_due (λ given. Takes heard_act old (byte ∷ []) told given mid) → Adds due mid_due (λ given. TakesByte old byte told given mid)
quiet_byte old mid byte told due mid_due is (given, adds, takes) =
    (given, adds, (told, given, mid, takes, subst (λ b. Ends b told given mid told given mid) (sym is) (refl, refl, refl)))

pub ending_byte : (old mid new : Talk TerminalState) (byte : ℕ) (told result : Result Progress RunFault) (due mid_due new_due : List ℕ) → begins_between old mid ≡ true
    → Adds due mid_due (λ given. Takes heard_act old (byte ∷ []) told given mid)
    → Adds mid_due new_due (λ given. Takes heard_act mid (255 ∷ 239 ∷ []) result given new)
    → Adds due new_due (λ given. TakesByte old byte result given new)
ending_byte old mid new byte told result due mid_due new_due is (given, adds, takes) (more, adds_more, ends) = (
  given ++ more,
  adds_more ∙ ap (λ z. z ++ more) adds ∙ append_assoc due given more,
  (told, given, mid, takes, subst (λ b. Ends b told given mid result (given ++ more) new) (sym is) (more, ends, refl)),
)

-- a front of the bytes was taken
pub record TakenSoFar (first : Talk TerminalState) (bytes due : List ℕ) (now : Talk TerminalState) (rest now_due : List ℕ) : Type 0 where
  pub so_far : List ℕ
  pub adds : now_due ≡ due ++ so_far
  pub leads : (result : Result Progress RunFault) (more : List ℕ) (new : Talk TerminalState) → Tolerates rest now result more new → Tolerates bytes first result (so_far ++ more) new

pub none_taken : (first : Talk TerminalState) (bytes due : List ℕ) → TakenSoFar first bytes due first bytes due
none_taken first bytes due = record { so_far = []; adds = sym (append-nil due); leads = λ result more new later. later }

pub one_taken : (first now mid : Talk TerminalState) (bytes due now_due mid_due rest : List ℕ) (byte : ℕ) (told : Progress)
    → TakenSoFar first bytes due now (byte ∷ rest) now_due → Adds now_due mid_due (λ given. TakesByte now byte (Ok told) given mid)
    → TakenSoFar first bytes due mid rest mid_due
one_taken first now mid bytes due now_due mid_due rest byte told so (given, adds, took) = record {
  so_far = so.so_far ++ given;
  adds = adds ∙ ap (λ z. z ++ given) so.adds ∙ append_assoc due so.so_far given;
  leads = λ result more new later.
      subst (λ z. Tolerates bytes first result z new) (sym (append_assoc so.so_far given more))
      (so.leads result (given ++ more) new (Ok told, given, mid, took, (more, later, refl)));
}

pub all_taken : (first now : Talk TerminalState) (bytes due now_due : List ℕ) → TakenSoFar first bytes due now [] now_due
    → Adds due now_due (λ given. Tolerates bytes first (Ok More) given now)
all_taken first now bytes due now_due so =
    (so.so_far, so.adds, subst (λ z. Tolerates bytes first (Ok More) z now) (append-nil so.so_far) (so.leads (Ok More) [] now (refl, refl, refl)))

pub taken_fails : (first now mid : Talk TerminalState) (bytes due now_due mid_due rest : List ℕ) (byte : ℕ) (why : RunFault)
    → TakenSoFar first bytes due now (byte ∷ rest) now_due → Adds now_due mid_due (λ given. TakesByte now byte (Err why) given mid)
    → Adds due mid_due (λ given. Tolerates bytes first (Err why) given mid)
taken_fails first now mid bytes due now_due mid_due rest byte why so (given, adds, took) = (
  so.so_far ++ given,
  adds ∙ ap (λ z. z ++ given) so.adds ∙ append_assoc due so.so_far given,
  so.leads (Err why) given mid (Err why, given, mid, took, (refl, refl, refl)),
)

-- ---- no session of a terminal is over

ends_only : (b : Bool) (first result : Result Progress RunFault) (due given : List ℕ) (mid new : Talk TerminalState) → GoesOnSo first mid
    → Ends b first due mid result given new → GoesOnSo result new
ends_only false first result due given mid new only (is, gave, after) =
    subst (λ r. GoesOnSo r new) (sym is) (subst (λ t. GoesOnSo first t) (sym after) only)
ends_only true first result due given mid new only (more, takes, gave) = takes_on mid (255 ∷ 239 ∷ []) result more new only.0 takes

byte_only : (old new : Talk TerminalState) (byte : ℕ) (result : Result Progress RunFault) (given : List ℕ) → IsNotOver old → TakesByte old byte result given new
    → GoesOnSo result new
byte_only old new byte result given live (first, due, mid, takes, ends) =
    ends_only (begins_between old mid) first result due given mid new (takes_on old (byte ∷ []) first due mid live takes) ends

pub tolerates_on : (bytes : List ℕ) (old new : Talk TerminalState) (result : Result Progress RunFault) (given : List ℕ) → IsNotOver old
    → Tolerates bytes old result given new → GoesOnSo result new
tolerates_on [] old new result given live (is, gave, after) =
    subst (λ r. GoesOnSo r new) (sym is) (subst (λ t. GoesOnSo (Ok More) t) (sym after) (live, refl))
tolerates_on (byte ∷ bytes) old new result given live (Ok told, due, mid, took, (more, later, gave)) =
    tolerates_on bytes mid new result more (byte_only old mid byte (Ok told) due live took).0 later
tolerates_on (byte ∷ bytes) old new result given live (Err why, due, mid, took, (is, gave, after)) =
    subst (λ r. GoesOnSo r new) (sym is) (subst (λ t. GoesOnSo (Err why) t) (sym after) (byte_only old mid byte (Err why) due live took))

takes_as : (b : Bool) (old new : Talk TerminalState) (bytes due new_due : List ℕ) (result : Result Progress RunFault) → tolerates old ≡ b
    → Adds due new_due (λ given. TakesAs b old bytes result given new) → Adds due new_due (λ given. TerminalTakes old bytes result given new)
takes_as b old new bytes due new_due result is (given, adds, takes) =
    (given, adds, subst (λ z. TakesAs z old bytes result given new) (sym is) takes)

pub takes_tolerantly : (old new : Talk TerminalState) (bytes due new_due : List ℕ) (result : Result Progress RunFault) → tolerates old ≡ true
    → Adds due new_due (λ given. Tolerates bytes old result given new) → Adds due new_due (λ given. TerminalTakes old bytes result given new)
takes_tolerantly old new bytes due new_due result is takes = takes_as true old new bytes due new_due result is takes

pub takes_strictly : (old new : Talk TerminalState) (bytes due new_due : List ℕ) (result : Result Progress RunFault) → tolerates old ≡ false
    → Adds due new_due (λ given. Takes heard_act old bytes result given new) → Adds due new_due (λ given. TerminalTakes old bytes result given new)
takes_strictly old new bytes due new_due result is takes = takes_as false old new bytes due new_due result is takes

by_manner : (b : Bool) (old new : Talk TerminalState) (bytes : List ℕ) (result : Result Progress RunFault) (given : List ℕ) → IsNotOver old
    → TakesAs b old bytes result given new → GoesOnSo result new
by_manner true old new bytes result given live takes = tolerates_on bytes old new result given live takes
by_manner false old new bytes result given live takes = takes_on old bytes result given new live takes

pub terminal_takes_on : (old : Talk TerminalState) (bytes : List ℕ) (result : Result Progress RunFault) (given : List ℕ) (new : Talk TerminalState)
    → IsNotOver old → TerminalTakes old bytes result given new → GoesOnSo result new
terminal_takes_on old bytes result given new live takes = by_manner (tolerates old) old new bytes result given live takes

-- ---- keys

pub record PressedSoFar (first : Working) (told : Arrived) (due : List ℕ) (now : Working) (now_told : Arrived) (now_due : List ℕ) : Type 0 where
  pub so_far : List ℕ
  pub adds : now_due ≡ due ++ so_far
  pub same : now_told ≡ told
  pub leads : (more : List ℕ) (new : Working) (result : Result (Unit {0}) RunFault) → PressesAll now.keys now.talk now.inhibited more new result
      → PressesAll first.keys first.talk first.inhibited (so_far ++ more) new result

pub none_pressed : (first : Working) (told : Arrived) (due : List ℕ) → PressedSoFar first told due first told due
none_pressed first told due = record { so_far = []; adds = sym (append-nil due); same = refl; leads = λ more new result later. later }

-- the work after a key
abbrev pub after_one : Talk TerminalState → List Strike → ℕ → Result Pressed RunFault → Working
after_one talk keys inhibited pressed = record { talk = talk; keys = keys; inhibited = counted inhibited pressed }

presses_so : (talk mid : Talk TerminalState) (key : Strike) (keys : List Strike) (inhibited : ℕ) (answer : Pressed) (given more : List ℕ) (new : Working)
    (result : Result (Unit {0}) RunFault) → takes_input_in talk ≡ true → Presses talk key (Ok answer) given mid
    → PressesAll keys mid (counted inhibited (Ok answer)) more new result → PressesAll (key ∷ keys) talk inhibited (given ++ more) new result
presses_so talk mid key keys inhibited answer given more new result opened pressed later =
    subst (λ b. PressesOn b (λ w. PressesAll keys w.talk w.inhibited) talk key keys inhibited (given ++ more) new result) (sym opened)
    (Ok answer, given, mid, pressed, (more, later, refl))

pub one_pressed : (first now : Working) (told now_told mid_told : Arrived) (due now_due mid_due : List ℕ) (mid : Talk TerminalState) (key : Strike) (keys : List Strike)
    (answer : Pressed) → PressedSoFar first told due now now_told now_due → now.keys ≡ key ∷ keys → takes_input_in now.talk ≡ true
    → Adds now_due mid_due (λ given. Presses now.talk key (Ok answer) given mid) → mid_told ≡ now_told
    → PressedSoFar first told due (after_one mid keys now.inhibited (Ok answer)) mid_told mid_due
one_pressed first now told now_told mid_told due now_due mid_due mid key keys answer so is opened (given, adds, pressed) same = record {
  so_far = so.so_far ++ given;
  adds = adds ∙ ap (λ z. z ++ given) so.adds ∙ append_assoc due so.so_far given;
  same = same ∙ so.same;
  leads = λ more new result later.
      subst (λ z. PressesAll first.keys first.talk first.inhibited z new result) (sym (append_assoc so.so_far given more))
      (so.leads (given ++ more) new result (subst (λ (z : List Strike). PressesAll z now.talk now.inhibited (given ++ more) new result) (sym is)
      (presses_so now.talk mid key keys now.inhibited answer given more new result opened pressed later)));
}

pub press_fails : (first now : Working) (told now_told : Arrived) (due now_due mid_due : List ℕ) (mid : Talk TerminalState) (key : Strike) (keys : List Strike)
    (why : RunFault) → PressedSoFar first told due now now_told now_due → now.keys ≡ key ∷ keys → takes_input_in now.talk ≡ true
    → Adds now_due mid_due (λ given. Presses now.talk key (Err why) given mid)
    → Adds due mid_due (λ given. PressesAll first.keys first.talk first.inhibited given (record { talk = mid; keys = keys; inhibited = now.inhibited }) (Err why))
press_fails first now told now_told due now_due mid_due mid key keys why so is opened (given, adds, pressed) = (
  so.so_far ++ given,
  adds ∙ ap (λ z. z ++ given) so.adds ∙ append_assoc due so.so_far given,
  so.leads given (record { talk = mid; keys = keys; inhibited = now.inhibited }) (Err why)
      (subst (λ (z : List Strike). PressesAll z now.talk now.inhibited given (record { talk = mid; keys = keys; inhibited = now.inhibited }) (Err why)) (sym is)
      (subst (λ b. PressesOn b (λ w. PressesAll keys w.talk w.inhibited) now.talk key keys now.inhibited given
      (record { talk = mid; keys = keys; inhibited = now.inhibited }) (Err why)) (sym opened)
      (Err why, given, mid, pressed, (refl, refl, refl)))),
)

rests : (first now : Working) (told now_told : Arrived) (due now_due : List ℕ) → PressedSoFar first told due now now_told now_due
    → PressesAll now.keys now.talk now.inhibited [] now (Ok tt)
    → Adds due now_due (λ given. PressesAll first.keys first.talk first.inhibited given now (Ok tt))
rests first now told now_told due now_due so here =
    (so.so_far, so.adds, subst (λ z. PressesAll first.keys first.talk first.inhibited z now (Ok tt)) (append-nil so.so_far) (so.leads [] now (Ok tt) here))

-- the screen takes no input
pub press_waits : (first now : Working) (told now_told : Arrived) (due now_due : List ℕ) (key : Strike) (keys : List Strike) → PressedSoFar first told due now now_told now_due
    → now.keys ≡ key ∷ keys → takes_input_in now.talk ≡ false
    → Adds due now_due (λ given. PressesAll first.keys first.talk first.inhibited given now (Ok tt))
press_waits first now told now_told due now_due key keys so is shut =
    rests first now told now_told due now_due so
    (subst (λ (z : List Strike). PressesAll z now.talk now.inhibited [] (record { talk = now.talk; keys = z; inhibited = now.inhibited }) (Ok tt)) (sym is)
    (subst (λ b. PressesOn b (λ w. PressesAll keys w.talk w.inhibited) now.talk key keys now.inhibited []
    (record { talk = now.talk; keys = key ∷ keys; inhibited = now.inhibited }) (Ok tt)) (sym shut) (refl, refl, refl)))

-- no key is left
pub press_ends : (first now : Working) (told now_told : Arrived) (due now_due : List ℕ) → PressedSoFar first told due now now_told now_due → now.keys ≡ []
    → Adds due now_due (λ given. PressesAll first.keys first.talk first.inhibited given now (Ok tt))
press_ends first now told now_told due now_due so is =
    rests first now told now_told due now_due so
    (subst (λ (z : List Strike). PressesAll z now.talk now.inhibited [] (record { talk = now.talk; keys = z; inhibited = now.inhibited }) (Ok tt)) (sym is) (refl, refl, refl))
