-- What a trace says of a session is what each of its ends holds.
use Rattle.std.proofs.Common.{◌≡◌, ℕ, ◌==◌, Bool, true, false, cond, List, [], ◌∷◌, ◌++◌, length, Option, Some, None, Result, Ok, Err, refl, sym, ◌∙◌, ap, subst}
use Rattle.std.specs.Prelude.{bytes_eq, nat_le}
use Rattle.std.specs.Str.{str_eq_ignore_ascii_case}
use Rattle.std.proofs.lemmas.Bool.{and_left, and_right, cond-false, cond_both}
use Rattle.ds_codec.specs.Geometry.{Sizes}
use Rattle.arrayvec.specs.ArrayVec.{ArrayVec}
use Rattle.tn_wire.specs.declared.codes.Verb.TheVariants.{Will, Wont, Do, Dont}
use Rattle.tn_wire.specs.Telnet.{Token, command}
use Rattle.tn_wire.specs.Stream.{Told as Event, told_verb, events_of}
use Rattle.tn_cores.specs.declared.option.TelnetOption.{TelnetOption}
use Rattle.tn_cores.specs.declared.option.TelnetOption.TheVariants.{Binary, TerminalType, EndOfRecord, Tn3270e, Other}
use Rattle.tn_cores.specs.declared.option.Sides.{Sides}
use Rattle.tn_cores.specs.declared.heard.FunctionList.{FunctionList}
use Rattle.tn_cores.specs.declared.device.Device.{Device as DeviceValue}
use Rattle.tn_cores.specs.declared.session.Agreed.{Agreed}
use Rattle.tn_cores.specs.declared.session.SessionFault.{SessionFault}
use Rattle.tn_cores.specs.declared.terminal.TermCore.{TermCore}
use Rattle.tn_cores.specs.declared.terminal.TypeState.{TypeState}
use Rattle.tn_cores.specs.declared.terminal.TypeState.TheVariants.{Off, On, Named}
use Rattle.tn_cores.specs.declared.terminal.TerminalPhase.{TerminalPhase}
use Rattle.tn_cores.specs.declared.terminal.TerminalPhase.TheVariants.{Classic, Opening, Enhanced, Device as Asked, Functions as Asking, Ready as Holding}
use Rattle.tn_cores.specs.declared.host.HostCore.{HostCore}
use Rattle.tn_cores.specs.declared.host.HostPhase.{HostPhase}
use Rattle.tn_cores.specs.declared.host.HostPhase.TheVariants.{AskedEnhanced, Device, Functions, Ready, AskedType, AskedName, Options}
use Rattle.tn_cores.specs.Devices.{name_of, fitting}
use Rattle.tn_cores.specs.Heard.{Heard, Joined, alone, associate, connect, heard, hears_record, hears_verb, hears_send_type, hears_type, hears_send_device, hears_device_request, hears_device, hears_device_reject, hears_functions_request, hears_functions, hears_bad, hears_nothing}
use Rattle.tn_cores.specs.Replies.{unless, do_, will, offers, resource_name}
use Rattle.tn_cores.specs.Rows.{Row, says, once, unless_on, is_set, is_within}
use Rattle.tn_cores.specs.Terminal.{new_terminal, terminal_row, terminal_agreed, agreed_in, is_classic, terminal_do, do_type, do_enhanced, terminal_will, terminal_dont, dont_enhanced, is_type_on, terminal_wont, terminal_send_type, terminal_send_device, named_device, joined_device, terminal_device, terminal_reject, terminal_functions, terminal_functions_request}
use Rattle.tn_cores.specs.Host.{new_host, host_row, host_agreed, host_agreed_in, opening_in, is_offered, is_needed, host_will, will_enhanced, will_type, host_do, host_wont, wont_enhanced, wont_type, host_dont, request_joined, request_fitting, host_device_request, host_functions_request, asked_functions, host_functions, is_last, type_fitting, host_type}
use Rattle.tn_cores.specs.Steps.{Stepped, record_step, row_step, heard_step, terminal_step, host_step}
use Rattle.tn_traces.specs.declared.negotiated.Negotiated.{Negotiated}
use Rattle.tn_traces.specs.declared.negotiated.Negotiated.TheVariants as told
use Rattle.tn_traces.specs.declared.negotiated.Sender.{Sender}
use Rattle.tn_traces.specs.declared.negotiated.Sender.TheVariants as sends
use Rattle.tn_traces.specs.Negotiated.{agreed, turns_off, off_verb, negotiated_after, negotiated_from}
use Rattle.tn_cores.specs.Traced.{is_enhanced, TerminalTakes, HostTakes, TerminalsAreTold, HostsAreTold}
use Rattle.tn_cores.proofs.TraceHeard.{heard_by, off_by, NamesOther, IsOther, host_said, terminal_said, heard_other}

-- a verb that isn't its sender's changes nothing
quiet_verb : (sender : Sender) (now : Negotiated) (verb option : ℕ) → (verb == off_verb sender) ≡ false → negotiated_after sender now (told_verb verb option) ≡ now
quiet_verb sender now verb option other = cond-false (turns_off sender verb option) _ _ (and_right (option == 40) (verb == off_verb sender) other)

quiet_option : (sender : Sender) (now : Negotiated) (verb option : ℕ) → (option == 40) ≡ false → negotiated_after sender now (told_verb verb option) ≡ now
quiet_option sender now verb option other = cond-false (turns_off sender verb option) _ _ (and_left (option == 40) (verb == off_verb sender) other)

-- ---- a terminal
abbrev TermHolds : TerminalPhase → Negotiated → Type 0
TermHolds Classic now = now ≡ told.Classic
TermHolds Opening now = now ≡ told.Classic
TermHolds Enhanced now = now ≡ told.Classic
TermHolds Asked now = now ≡ told.Classic
TermHolds (Asking responses) now = now ≡ told.Named
TermHolds (Holding responses) now = now ≡ told.Enhanced

abbrev TermRow : Negotiated → Row TermCore → Type 0
TermRow now (Err why) = Unit {0}
TermRow now (Ok row) = TermHolds row.1.phase (negotiated_from sends.Terminal now (events_of row.0))

t_once : (b : Bool) (verb option : ℕ) (now : Negotiated) (t next : TermCore) → next.phase ≡ t.phase → negotiated_after sends.Terminal now (told_verb verb option) ≡ now
    → TermHolds t.phase now → TermRow now (once b (command verb option ∷ []) t next)
t_once true verb option now t next same quiet holds = holds
t_once false verb option now t next same quiet holds = subst (TermHolds next.phase) (sym quiet) (subst (λ p. TermHolds p now) (sym same) holds)

t_says : (verb option : ℕ) (now : Negotiated) (t : TermCore) → negotiated_after sends.Terminal now (told_verb verb option) ≡ now → TermHolds t.phase now
    → TermRow now (says (command verb option ∷ []) t)
t_says verb option now t quiet holds = subst (TermHolds t.phase) (sym quiet) holds

t_unless : (b : Bool) (option : TelnetOption) (now : Negotiated) (t : TermCore) → TermHolds t.phase now → TermRow now (unless_on b option t)
t_unless true option now t holds = tt
t_unless false option now t holds = holds

t_type : (now : Negotiated) (t : TermCore) (s : TypeState) → TermHolds t.phase now → TermRow now (do_type t s)
t_type now t Off holds = holds
t_type now t On holds = holds
t_type now t Named holds = holds

-- where the phase is known
at_phase : (now : Negotiated) (t : TermCore) (p : TerminalPhase) → t.phase ≡ p → TermHolds p now → TermHolds t.phase now
at_phase now t p is holds = subst (λ q. TermHolds q now) (sym is) holds

t_do_enhanced : (now : Negotiated) (t : TermCore) (p : TerminalPhase) → t.phase ≡ p → TermHolds p now → TermRow now (do_enhanced t p)
t_do_enhanced now t Classic is holds = at_phase told.Classic t Classic is refl
t_do_enhanced now t Opening is holds =
    cond_both (is_classic t) _ _ (TermRow now) (λ yes_. at_phase told.Classic t Opening is refl) (λ no_. holds)
t_do_enhanced now t Enhanced is holds = at_phase now t Enhanced is holds
t_do_enhanced now t Asked is holds = at_phase now t Asked is holds
t_do_enhanced now t (Asking r) is holds = at_phase now t (Asking r) is holds
t_do_enhanced now t (Holding r) is holds = at_phase now t (Holding r) is holds

t_do : (now : Negotiated) (t : TermCore) (o : TelnetOption) → IsOther o → TermHolds t.phase now → TermRow now (terminal_do t o)
t_do now t Binary other holds = t_once t.binary.ours 251 0 now t _ refl refl holds
t_do now t TerminalType other holds = t_type now t t.terminal_type holds
t_do now t EndOfRecord other holds = t_once t.end_of_record.ours 251 25 now t _ refl refl holds
t_do now t Tn3270e other holds = t_do_enhanced now t t.phase refl holds
t_do now t (Other code) other holds = t_says 252 code now t (quiet_option sends.Terminal now 252 code other) holds

t_will : (now : Negotiated) (t : TermCore) (o : TelnetOption) → TermHolds t.phase now → TermRow now (terminal_will t o)
t_will now t Binary holds = t_once t.binary.theirs 253 0 now t _ refl refl holds
t_will now t TerminalType holds = t_says 254 24 now t refl holds
t_will now t EndOfRecord holds = t_once t.end_of_record.theirs 253 25 now t _ refl refl holds
t_will now t Tn3270e holds = t_says 254 40 now t refl holds
t_will now t (Other code) holds = t_says 254 code now t (quiet_verb sends.Terminal now 254 code refl) holds

t_dont_enhanced : (t : TermCore) (p : TerminalPhase) → t.phase ≡ p → TermRow told.Classic (dont_enhanced t p)
t_dont_enhanced t Classic is = at_phase told.Classic t Classic is refl
t_dont_enhanced t Opening is = at_phase told.Classic t Opening is refl
t_dont_enhanced t Enhanced is = refl
t_dont_enhanced t Asked is = refl
t_dont_enhanced t (Asking r) is = refl
t_dont_enhanced t (Holding r) is = tt

t_dont : (now : Negotiated) (t : TermCore) (o : TelnetOption) → TermHolds t.phase now → TermRow (off_by now o) (terminal_dont t o)
t_dont now t Binary holds = t_unless t.binary.ours Binary now t holds
t_dont now t TerminalType holds = t_unless (is_type_on t.terminal_type) TerminalType now t holds
t_dont now t EndOfRecord holds = t_unless t.end_of_record.ours EndOfRecord now t holds
t_dont now t Tn3270e holds = t_dont_enhanced t t.phase refl
t_dont now t (Other code) holds = holds

t_wont : (now : Negotiated) (t : TermCore) (o : TelnetOption) → TermHolds t.phase now → TermRow now (terminal_wont t o)
t_wont now t Binary holds = t_unless t.binary.theirs Binary now t holds
t_wont now t TerminalType holds = holds
t_wont now t EndOfRecord holds = t_unless t.end_of_record.theirs EndOfRecord now t holds
t_wont now t Tn3270e holds = holds
t_wont now t (Other code) holds = holds

t_send_type : (now : Negotiated) (t : TermCore) (s : TypeState) → TermHolds t.phase now → TermRow now (terminal_send_type t s)
t_send_type now t Off holds = tt
t_send_type now t On holds = holds
t_send_type now t Named holds = holds

t_send_device : (now : Negotiated) (t : TermCore) (p : TerminalPhase) → TermHolds p now → TermRow now (terminal_send_device t p)
t_send_device now t Classic holds = tt
t_send_device now t Opening holds = tt
t_send_device now t Enhanced holds = holds
t_send_device now t Asked holds = holds
t_send_device now t (Asking r) holds = tt
t_send_device now t (Holding r) holds = tt

t_named : (t : TermCore) (name : List ℕ) → TermRow told.Named (named_device t name)
t_named t name = cond_both (str_eq_ignore_ascii_case name (name_of t.device)) _ _ (TermRow told.Named) (λ is. refl) (λ other. tt)

t_joined : (t : TermCore) (name : List ℕ) (joined : Joined) → TermRow told.Named (joined_device t name joined)
t_joined t name alone = t_named t name
t_joined t name associate = tt
t_joined t name (connect resource) = t_named t name

t_device : (t : TermCore) (name : List ℕ) (joined : Joined) (p : TerminalPhase) → TermRow told.Named (terminal_device t name joined p)
t_device t name joined Classic = tt
t_device t name joined Opening = tt
t_device t name joined Enhanced = tt
t_device t name joined Asked = t_joined t name joined
t_device t name joined (Asking r) = tt
t_device t name joined (Holding r) = tt

t_reject : (now : Negotiated) (reason : ℕ) (p : TerminalPhase) → TermRow now (terminal_reject reason p)
t_reject now reason Classic = tt
t_reject now reason Opening = tt
t_reject now reason Enhanced = tt
t_reject now reason Asked = tt
t_reject now reason (Asking r) = tt
t_reject now reason (Holding r) = tt

t_functions : (now : Negotiated) (t : TermCore) (list : FunctionList) (p : TerminalPhase) → TermHolds p now → TermRow (agreed now) (terminal_functions t list p)
t_functions now t list Classic holds = tt
t_functions now t list Opening holds = tt
t_functions now t list Enhanced holds = tt
t_functions now t list Asked holds = tt
t_functions now t list (Asking r) holds = cond_both (is_set list r) _ _ (TermRow (agreed now)) (λ is. ap agreed holds) (λ other. tt)
t_functions now t list (Holding r) holds = tt

t_request : (now : Negotiated) (t : TermCore) (list : FunctionList) (p : TerminalPhase) → TermHolds p now → TermRow now (terminal_functions_request t list p)
t_request now t list Classic holds = tt
t_request now t list Opening holds = tt
t_request now t list Enhanced holds = tt
t_request now t list Asked holds = tt
t_request now t list (Asking r) holds = cond_both (is_within list t.responses) _ _ (TermRow now) (λ is. ap agreed holds) (λ other. holds)
t_request now t list (Holding r) holds = tt

t_row : (now : Negotiated) (t : TermCore) (h : Heard) → NamesOther h → TermHolds t.phase now → TermRow (heard_by sends.Host now h) (terminal_row t h)
t_row now t hears_record other holds = holds
t_row now t (hears_verb Do o) other holds = t_do now t o other holds
t_row now t (hears_verb Will o) other holds = t_will now t o holds
t_row now t (hears_verb Dont o) other holds = t_dont now t o holds
t_row now t (hears_verb Wont o) other holds = t_wont now t o holds
t_row now t hears_send_type other holds = t_send_type now t t.terminal_type holds
t_row now t hears_send_device other holds = t_send_device now t t.phase holds
t_row now t (hears_device n) other holds = t_device t n.name n.joined t.phase
t_row now t (hears_device_reject reason) other holds = t_reject now reason t.phase
t_row now t (hears_functions list) other holds = t_functions now t list t.phase holds
t_row now t (hears_functions_request list) other holds = t_request now t list t.phase holds
t_row now t (hears_type name) other holds = tt
t_row now t (hears_device_request n) other holds = tt
t_row now t hears_bad other holds = tt
t_row now t hears_nothing other holds = holds

-- ---- a step of an end
abbrev StepHolds : {Core : Type 0} → Sender → (Core → Negotiated → Type 0) → Negotiated → Result (Stepped Core) SessionFault → Type 0
StepHolds sender holds now (Err why) = Unit {0}
StepHolds sender holds now (Ok step) = holds step.core (negotiated_from sender now (events_of step.reply))

abbrev RowHolds : {Core : Type 0} → Sender → (Core → Negotiated → Type 0) → Negotiated → Row Core → Type 0
RowHolds sender holds now (Err why) = Unit {0}
RowHolds sender holds now (Ok row) = holds row.1 (negotiated_from sender now (events_of row.0))

by_row : {Core : Type 0} (sender : Sender) (holds : Core → Negotiated → Type 0) (now : Negotiated) (ready : Core → Option Agreed) (core : Core) (row : Row Core)
    → RowHolds sender holds now row → StepHolds sender holds now (row_step ready core row)
by_row sender holds now ready core (Err why) r = tt
by_row sender holds now ready core (Ok row) r = r

by_record : {Core : Type 0} (sender : Sender) (holds : Core → Negotiated → Type 0) (now : Negotiated) (core : Core) (o : Option Agreed) → holds core now
    → StepHolds sender holds now (record_step core o)
by_record sender holds now core None r = tt
by_record sender holds now core (Some a) r = r

by_heard : {Core : Type 0} (sender : Sender) (holds : Core → Negotiated → Type 0) (now mid : Negotiated) (ready : Core → Option Agreed) (rows : Core → Heard → Row Core) (core : Core) (h : Heard)
    → (h ≡ hears_record → holds core mid) → RowHolds sender holds mid (rows core h) → StepHolds sender holds mid (heard_step ready rows core h)
by_heard sender holds now mid ready rows core hears_record at r = by_record sender holds mid core (ready core) (at refl)
by_heard sender holds now mid ready rows core (hears_verb v o) at r = by_row sender holds mid ready core _ r
by_heard sender holds now mid ready rows core hears_send_type at r = by_row sender holds mid ready core _ r
by_heard sender holds now mid ready rows core (hears_type name) at r = by_row sender holds mid ready core _ r
by_heard sender holds now mid ready rows core hears_send_device at r = by_row sender holds mid ready core _ r
by_heard sender holds now mid ready rows core (hears_device_request n) at r = by_row sender holds mid ready core _ r
by_heard sender holds now mid ready rows core (hears_device n) at r = by_row sender holds mid ready core _ r
by_heard sender holds now mid ready rows core (hears_device_reject reason) at r = by_row sender holds mid ready core _ r
by_heard sender holds now mid ready rows core (hears_functions_request list) at r = by_row sender holds mid ready core _ r
by_heard sender holds now mid ready rows core (hears_functions list) at r = by_row sender holds mid ready core _ r
by_heard sender holds now mid ready rows core hears_bad at r = by_row sender holds mid ready core _ r
by_heard sender holds now mid ready rows core hears_nothing at r = by_row sender holds mid ready core _ r

-- ---- a terminal's run
abbrev TermStep : Negotiated → Result (Stepped TermCore) SessionFault → Type 0
TermStep = StepHolds sends.Terminal (λ (t : TermCore) (n : Negotiated). TermHolds t.phase n)

t_step : (now : Negotiated) (t : TermCore) (event : Event) → TermHolds t.phase now → TermStep (negotiated_after sends.Host now event) (terminal_step t event)
t_step now t event holds =
    subst (λ (n : Negotiated). TermStep n (terminal_step t event)) (sym (host_said now event))
    (by_heard sends.Terminal (λ (c : TermCore) (n : Negotiated). TermHolds c.phase n) now (heard_by sends.Host now (heard event)) terminal_agreed terminal_row t (heard event)
    (λ is. subst (λ h. TermHolds t.phase (heard_by sends.Host now h)) (sym is) holds) (t_row now t (heard event) (heard_other event) holds))

t_run : (events : List Event) (t last : TermCore) (now after : Negotiated) → TermHolds t.phase now → TerminalTakes t now events last after → TermHolds last.phase after
t_run [] t last now after holds (is, same) = subst (λ (c : TermCore). TermHolds c.phase after) (sym is) (subst (TermHolds t.phase) (sym same) holds)
t_run (event ∷ events) t last now after holds (step, is, rest) =
    t_run events step.core last _ after (subst (TermStep (negotiated_after sends.Host now event)) is (t_step now t event holds)) rest

classic_told : (b : Bool) (x a : Agreed) → cond b (Some x) None ≡ Some a → x.enhanced ≡ false → a.enhanced ≡ false
classic_told true x a is plain = ap (λ (y : Agreed). y.enhanced) (sym (some_agreed x a is)) ∙ plain
  where
    some_agreed : (x a : Agreed) → Some x ≡ Some a → x ≡ a
    some_agreed x a is = cc
classic_told false x a is plain = absurd cc

t_told : (t : TermCore) (p : TerminalPhase) (now : Negotiated) (a : Agreed) → TermHolds p now → agreed_in t p ≡ Some a → is_enhanced now ≡ a.enhanced
t_told t Classic now a holds is = ap is_enhanced holds ∙ sym (classic_told (is_classic t) _ a is refl)
t_told t Opening now a holds is = ap is_enhanced holds ∙ sym (classic_told (is_classic t) _ a is refl)
t_told t Enhanced now a holds is = absurd cc
t_told t Asked now a holds is = absurd cc
t_told t (Asking r) now a holds is = absurd cc
t_told t (Holding r) now a holds is = ap is_enhanced holds ∙ enhanced_is a is
  where
    enhanced_is : (a : Agreed) → agreed_in t (Holding r) ≡ Some a → true ≡ a.enhanced
    enhanced_is a is = cc

t_begins : (enhanced : Bool) → TermHolds (cond enhanced Opening Classic) told.Classic
t_begins true = refl
t_begins false = refl

pub terminals_told : TerminalsAreTold
terminals_told device enhanced responses events t now a takes is =
    t_told t t.phase now a (t_run events (new_terminal device enhanced responses) t told.Classic now (t_begins enhanced) takes) is

-- ---- a host
abbrev HostHolds : HostPhase → Negotiated → Type 0
HostHolds AskedEnhanced now = now ≡ told.Classic
HostHolds Device now = now ≡ told.Classic
HostHolds (Functions device set) now = now ≡ told.Named
HostHolds (Ready device responses) now = now ≡ told.Enhanced
HostHolds AskedType now = now ≡ told.Classic
HostHolds (AskedName last) now = now ≡ told.Classic
HostHolds (Options device) now = now ≡ told.Classic

abbrev HostRow : Negotiated → Row HostCore → Type 0
HostRow now (Err why) = Unit {0}
HostRow now (Ok row) = HostHolds row.1.phase (negotiated_from sends.Host now (events_of row.0))

h_once : (b offered : Bool) (verb option : ℕ) (now : Negotiated) (h next : HostCore) → next.phase ≡ h.phase → negotiated_after sends.Host now (told_verb verb option) ≡ now
    → HostHolds h.phase now → HostRow now (once b (cond offered [] (command verb option ∷ [])) h next)
h_once true offered verb option now h next same quiet holds = holds
h_once false true verb option now h next same quiet holds = subst (λ p. HostHolds p now) (sym same) holds
h_once false false verb option now h next same quiet holds = subst (HostHolds next.phase) (sym quiet) (subst (λ p. HostHolds p now) (sym same) holds)

h_says : (verb option : ℕ) (now : Negotiated) (h : HostCore) → negotiated_after sends.Host now (told_verb verb option) ≡ now → HostHolds h.phase now
    → HostRow now (says (command verb option ∷ []) h)
h_says verb option now h quiet holds = subst (HostHolds h.phase) (sym quiet) holds

h_unless : (b : Bool) (option : TelnetOption) (now : Negotiated) (h : HostCore) → HostHolds h.phase now → HostRow now (unless_on b option h)
h_unless true option now h holds = tt
h_unless false option now h holds = holds

in_phase : (now : Negotiated) (h : HostCore) (p : HostPhase) → h.phase ≡ p → HostHolds p now → HostHolds h.phase now
in_phase now h p is holds = subst (λ q. HostHolds q now) (sym is) holds

h_will_enhanced : (now : Negotiated) (h : HostCore) (p : HostPhase) → h.phase ≡ p → HostHolds p now → HostRow now (will_enhanced h p)
h_will_enhanced now h AskedEnhanced is holds = holds
h_will_enhanced now h Device is holds = in_phase now h Device is holds
h_will_enhanced now h (Functions d s) is holds = in_phase now h (Functions d s) is holds
h_will_enhanced now h (Ready d r) is holds = in_phase now h (Ready d r) is holds
h_will_enhanced now h AskedType is holds = in_phase told.Classic h AskedType is refl
h_will_enhanced now h (AskedName l) is holds = in_phase told.Classic h (AskedName l) is refl
h_will_enhanced now h (Options d) is holds = in_phase told.Classic h (Options d) is refl

h_will_type : (now : Negotiated) (h : HostCore) (p : HostPhase) → h.phase ≡ p → HostHolds p now → HostRow now (will_type h p)
h_will_type now h AskedEnhanced is holds = in_phase now h AskedEnhanced is holds
h_will_type now h Device is holds = in_phase now h Device is holds
h_will_type now h (Functions d s) is holds = in_phase now h (Functions d s) is holds
h_will_type now h (Ready d r) is holds = in_phase now h (Ready d r) is holds
h_will_type now h AskedType is holds = holds
h_will_type now h (AskedName l) is holds = in_phase now h (AskedName l) is holds
h_will_type now h (Options d) is holds = in_phase now h (Options d) is holds

h_will : (now : Negotiated) (h : HostCore) (o : TelnetOption) → IsOther o → HostHolds h.phase now → HostRow now (host_will h o)
h_will now h Binary other holds = h_once h.binary.theirs (is_offered h.phase) 253 0 now h _ refl refl holds
h_will now h TerminalType other holds = h_will_type now h h.phase refl holds
h_will now h EndOfRecord other holds = h_once h.end_of_record.theirs (is_offered h.phase) 253 25 now h _ refl refl holds
h_will now h Tn3270e other holds = h_will_enhanced now h h.phase refl holds
h_will now h (Other code) other holds = h_says 254 code now h (quiet_option sends.Host now 254 code other) holds

h_do : (now : Negotiated) (h : HostCore) (o : TelnetOption) → HostHolds h.phase now → HostRow now (host_do h o)
h_do now h Binary holds = h_once h.binary.ours (is_offered h.phase) 251 0 now h _ refl refl holds
h_do now h TerminalType holds = h_says 252 24 now h refl holds
h_do now h EndOfRecord holds = h_once h.end_of_record.ours (is_offered h.phase) 251 25 now h _ refl refl holds
h_do now h Tn3270e holds = h_says 252 40 now h refl holds
h_do now h (Other code) holds = h_says 252 code now h (quiet_verb sends.Host now 252 code refl) holds

h_wont_type : (now : Negotiated) (h : HostCore) (p : HostPhase) → h.phase ≡ p → HostHolds p now → HostRow now (wont_type h p)
h_wont_type now h AskedEnhanced is holds = in_phase now h AskedEnhanced is holds
h_wont_type now h Device is holds = in_phase now h Device is holds
h_wont_type now h (Functions d s) is holds = in_phase now h (Functions d s) is holds
h_wont_type now h (Ready d r) is holds = in_phase now h (Ready d r) is holds
h_wont_type now h AskedType is holds = tt
h_wont_type now h (AskedName l) is holds = in_phase now h (AskedName l) is holds
h_wont_type now h (Options d) is holds = in_phase now h (Options d) is holds

h_wont_enhanced : (h : HostCore) (p : HostPhase) → h.phase ≡ p → HostRow told.Classic (wont_enhanced h p)
h_wont_enhanced h AskedEnhanced is = refl
h_wont_enhanced h Device is = tt
h_wont_enhanced h (Functions d s) is = tt
h_wont_enhanced h (Ready d r) is = tt
h_wont_enhanced h AskedType is = in_phase told.Classic h AskedType is refl
h_wont_enhanced h (AskedName l) is = in_phase told.Classic h (AskedName l) is refl
h_wont_enhanced h (Options d) is = in_phase told.Classic h (Options d) is refl

h_wont : (now : Negotiated) (h : HostCore) (o : TelnetOption) → HostHolds h.phase now → HostRow (off_by now o) (host_wont h o)
h_wont now h Binary holds = h_unless (is_needed h.phase h.binary.theirs) Binary now h holds
h_wont now h TerminalType holds = h_wont_type now h h.phase refl holds
h_wont now h EndOfRecord holds = h_unless (is_needed h.phase h.end_of_record.theirs) EndOfRecord now h holds
h_wont now h Tn3270e holds = h_wont_enhanced h h.phase refl
h_wont now h (Other code) holds = holds

h_dont : (now : Negotiated) (h : HostCore) (o : TelnetOption) → HostHolds h.phase now → HostRow now (host_dont h o)
h_dont now h Binary holds = h_unless (is_needed h.phase h.binary.ours) Binary now h holds
h_dont now h TerminalType holds = holds
h_dont now h EndOfRecord holds = h_unless (is_needed h.phase h.end_of_record.ours) EndOfRecord now h holds
h_dont now h Tn3270e holds = holds
h_dont now h (Other code) holds = holds

h_joined : (now : Negotiated) (h : HostCore) (name : List ℕ) (d : DeviceValue) (joined : Joined) → HostHolds h.phase now → HostRow now (request_joined h name d joined)
h_joined now h name d alone holds = refl
h_joined now h name d associate holds = holds
h_joined now h name d (connect resource) holds = cond_both (bytes_eq resource resource_name) _ _ (HostRow now) (λ is. refl) (λ other. holds)

h_fitting : (now : Negotiated) (h : HostCore) (name : List ℕ) (joined : Joined) (o : Option DeviceValue) → HostHolds h.phase now → HostRow now (request_fitting h name joined o)
h_fitting now h name joined None holds = holds
h_fitting now h name joined (Some d) holds = h_joined now h name d joined holds

h_device : (now : Negotiated) (h : HostCore) (name : List ℕ) (joined : Joined) (p : HostPhase) → HostHolds h.phase now → HostRow now (host_device_request h name joined p)
h_device now h name joined AskedEnhanced holds = tt
h_device now h name joined Device holds = h_fitting now h name joined (fitting h.geometry name) holds
h_device now h name joined (Functions d s) holds = tt
h_device now h name joined (Ready d r) holds = tt
h_device now h name joined AskedType holds = tt
h_device now h name joined (AskedName l) holds = tt
h_device now h name joined (Options d) holds = tt

h_request : (now : Negotiated) (h : HostCore) (list : FunctionList) (p : HostPhase) → HostHolds p now → HostRow now (host_functions_request h list p)
h_request now h list AskedEnhanced holds = tt
h_request now h list Device holds = tt
h_request now h list (Functions d s) holds = cond_both (is_within list h.responses) _ _ (HostRow now) (λ is. ap agreed holds) (λ other. holds)
h_request now h list (Ready d r) holds = tt
h_request now h list AskedType holds = tt
h_request now h list (AskedName l) holds = tt
h_request now h list (Options d) holds = tt

h_asked : (now : Negotiated) (h : HostCore) (list : FunctionList) (d : DeviceValue) (set : Option Bool) → now ≡ told.Named → HostRow (agreed now) (asked_functions h list d set)
h_asked now h list d None holds = tt
h_asked now h list d (Some set) holds = cond_both (is_set list set) _ _ (HostRow (agreed now)) (λ is. ap agreed holds) (λ other. tt)

h_functions : (now : Negotiated) (h : HostCore) (list : FunctionList) (p : HostPhase) → HostHolds p now → HostRow (agreed now) (host_functions h list p)
h_functions now h list AskedEnhanced holds = tt
h_functions now h list Device holds = tt
h_functions now h list (Functions d s) holds = h_asked now h list d s holds
h_functions now h list (Ready d r) holds = tt
h_functions now h list AskedType holds = tt
h_functions now h list (AskedName l) holds = tt
h_functions now h list (Options d) holds = tt

-- what is offered turns nothing off
quiet_unless : (now : Negotiated) (b : Bool) (verb option : ℕ) (rest : List Token) → negotiated_after sends.Host now (told_verb verb option) ≡ now
    → negotiated_from sends.Host now (events_of (unless b (command verb option ∷ []) ++ rest)) ≡ negotiated_from sends.Host now (events_of rest)
quiet_unless now true verb option rest quiet = refl
quiet_unless now false verb option rest quiet = ap (λ (n : Negotiated). negotiated_from sends.Host n (events_of rest)) quiet

quiet_last : (now : Negotiated) (b : Bool) (verb option : ℕ) → negotiated_after sends.Host now (told_verb verb option) ≡ now
    → negotiated_from sends.Host now (events_of (unless b (command verb option ∷ []))) ≡ now
quiet_last now true verb option quiet = refl
quiet_last now false verb option quiet = quiet

quiet_offers : (now : Negotiated) (r b : Sides) → negotiated_from sends.Host now (events_of (offers r b)) ≡ now
quiet_offers now r b =
    quiet_unless now r.theirs 253 25 (unless r.ours (will EndOfRecord) ++ (unless b.theirs (do_ Binary) ++ unless b.ours (will Binary))) refl
    ∙ quiet_unless now r.ours 251 25 (unless b.theirs (do_ Binary) ++ unless b.ours (will Binary)) refl
    ∙ quiet_unless now b.theirs 253 0 (unless b.ours (will Binary)) refl ∙ quiet_last now b.ours 251 0 refl

h_type_fitting : (now : Negotiated) (h : HostCore) (name : List ℕ) (last : Option (ArrayVec ℕ)) (o : Option DeviceValue) → now ≡ told.Classic
    → HostRow now (type_fitting h name last o)
h_type_fitting now h name last (Some d) holds = quiet_offers now h.end_of_record h.binary ∙ holds
h_type_fitting now h name last None holds = cond_both (is_last last name) _ _ (HostRow now) (λ is. tt) (λ other. holds)

h_type : (now : Negotiated) (h : HostCore) (name : List ℕ) (p : HostPhase) → HostHolds p now → HostRow now (host_type h name p)
h_type now h name AskedEnhanced holds = tt
h_type now h name Device holds = tt
h_type now h name (Functions d s) holds = tt
h_type now h name (Ready d r) holds = tt
h_type now h name AskedType holds = tt
h_type now h name (AskedName l) holds =
    cond_both (nat_le (length name) 40) _ _ (HostRow now) (λ is. h_type_fitting now h name l (fitting h.geometry name) holds) (λ other. tt)
h_type now h name (Options d) holds = tt

h_row : (now : Negotiated) (h : HostCore) (x : Heard) → NamesOther x → HostHolds h.phase now → HostRow (heard_by sends.Terminal now x) (host_row h x)
h_row now h hears_record other holds = holds
h_row now h (hears_verb Will o) other holds = h_will now h o other holds
h_row now h (hears_verb Wont o) other holds = h_wont now h o holds
h_row now h (hears_verb Do o) other holds = h_do now h o holds
h_row now h (hears_verb Dont o) other holds = h_dont now h o holds
h_row now h (hears_device_request n) other holds = h_device now h n.name n.joined h.phase holds
h_row now h (hears_functions_request list) other holds = h_request now h list h.phase holds
h_row now h (hears_functions list) other holds = h_functions now h list h.phase holds
h_row now h (hears_type name) other holds = h_type now h name h.phase holds
h_row now h hears_send_type other holds = tt
h_row now h hears_send_device other holds = tt
h_row now h (hears_device n) other holds = tt
h_row now h (hears_device_reject reason) other holds = tt
h_row now h hears_bad other holds = tt
h_row now h hears_nothing other holds = holds

abbrev HostStep : Negotiated → Result (Stepped HostCore) SessionFault → Type 0
HostStep = StepHolds sends.Host (λ (h : HostCore) (n : Negotiated). HostHolds h.phase n)

h_step : (now : Negotiated) (h : HostCore) (event : Event) → HostHolds h.phase now → HostStep (negotiated_after sends.Terminal now event) (host_step h event)
h_step now h event holds =
    subst (λ (n : Negotiated). HostStep n (host_step h event)) (sym (terminal_said now event))
    (by_heard sends.Host (λ (c : HostCore) (n : Negotiated). HostHolds c.phase n) now (heard_by sends.Terminal now (heard event)) host_agreed host_row h (heard event)
    (λ is. subst (λ x. HostHolds h.phase (heard_by sends.Terminal now x)) (sym is) holds) (h_row now h (heard event) (heard_other event) holds))

h_run : (events : List Event) (h last : HostCore) (now after : Negotiated) → HostHolds h.phase now → HostTakes h now events last after → HostHolds last.phase after
h_run [] h last now after holds (is, same) = subst (λ (c : HostCore). HostHolds c.phase after) (sym is) (subst (HostHolds h.phase) (sym same) holds)
h_run (event ∷ events) h last now after holds (step, is, rest) =
    h_run events step.core last _ after (subst (HostStep (negotiated_after sends.Terminal now event)) is (h_step now h event holds)) rest

h_told : (h : HostCore) (p : HostPhase) (now : Negotiated) (a : Agreed) → HostHolds p now → host_agreed_in h p ≡ Some a → is_enhanced now ≡ a.enhanced
h_told h AskedEnhanced now a holds is = absurd cc
h_told h Device now a holds is = absurd cc
h_told h (Functions d s) now a holds is = absurd cc
h_told h (Ready d r) now a holds is = ap is_enhanced holds ∙ enhanced_is a is
  where
    enhanced_is : (a : Agreed) → host_agreed_in h (Ready d r) ≡ Some a → true ≡ a.enhanced
    enhanced_is a is = cc
h_told h AskedType now a holds is = absurd cc
h_told h (AskedName l) now a holds is = absurd cc
h_told h (Options d) now a holds is = ap is_enhanced holds ∙ sym (classic_told _ _ a is refl)

h_begins : (sizes : Sizes) (enhanced responses : Bool) → HostHolds (cond enhanced AskedEnhanced AskedType)
    (negotiated_from sends.Host told.Classic (events_of (opening_in (cond enhanced AskedEnhanced AskedType))))
h_begins sizes true responses = refl
h_begins sizes false responses = refl

pub hosts_told : HostsAreTold
hosts_told sizes enhanced responses events h now a takes is =
    h_told h h.phase now a (h_run events (new_host sizes enhanced responses) h _ now (h_begins sizes enhanced responses) takes) is
