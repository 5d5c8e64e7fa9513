-- What a tolerant terminal says is heard as it was said, and is short, whatever comes.
use Rattle.std.proofs.Common.{ℕ, ◌≡◌, ◌≤◌, ◌+◌, ◌*◌, ◌==◌, ◌++◌, Bool, true, false, ◌&&◌, List, [], ◌∷◌, length, Option, Some, None, Ok, Err, arith, lit≤, refl, sym, ◌∙◌, ap, subst, if◌then◌else◌, length-append}
use Rattle.tn_wire.specs.declared.codes.Verb.TheVariants.{Will, Wont, Do, Dont}
use Rattle.tn_wire.specs.Telnet.{Token}
use Rattle.tn_wire.specs.Stream.{Told as Event}
use Rattle.tn_cores.specs.declared.option.TelnetOption.{TelnetOption}
use Rattle.tn_cores.specs.declared.option.TelnetOption.TheVariants.{Binary, TerminalType, EndOfRecord, Tn3270e, Other}
use Rattle.tn_cores.specs.declared.heard.FunctionList.{FunctionList}
use Rattle.tn_cores.specs.declared.terminal.TermCore.{TermCore}
use Rattle.tn_cores.specs.declared.terminal.TerminalPhase.{TerminalPhase}
use Rattle.tn_cores.specs.declared.terminal.TerminalPhase.TheVariants.{Classic, Opening, Enhanced, Device as Asked, Functions as Asking, Ready as Holding}
use Rattle.tn_cores.specs.declared.tolerant.TolerantCore.{TolerantCore}
use Rattle.tn_cores.specs.declared.heard.Heard.{Heard as Lent}
use Rattle.tn_cores.specs.declared.heard.Heard.TheVariants as lent
use Rattle.tn_cores.specs.declared.session.Told.{Told}
use Rattle.tn_cores.specs.Devices.{name_of}
use Rattle.tn_cores.specs.HeardView.{heard_view}
use Rattle.tn_cores.specs.Steps.{Stepped, Takes}
use Rattle.tn_cores.specs.Heard.{Heard, heard, hears_record, hears_verb, hears_send_type, hears_type, hears_send_device, hears_device_request, hears_device, hears_device_reject, hears_functions_request, hears_functions, hears_bad, hears_nothing}
use Rattle.tn_cores.specs.Pair.{TolerantIsHeard, StormsAreBounded, fewest_in, answered_to}
use Rattle.tn_cores.specs.Replies.{bytes_of, request_device}
use Rattle.tn_cores.specs.Rows.{Row, is_within}
use Rattle.tn_cores.specs.Terminal.{is_type_on}
use Rattle.tn_cores.specs.Tolerant.{Answer, or_ignores, ends_option, do_other, tolerant_do, tolerant_dont_enhanced, tolerant_dont, tolerant_wont, tolerant_send_device, tolerant_device, tolerant_reject, tolerant_functions, tolerant_functions_request, tolerant_row, tolerant_hears, tolerant_step, answered_by}
use Rattle.tn_cores.proofs.ReplyLaws.{Lawful, RowLawful, silent, spoken, sub, name-short, is_heard, asks-for, are-functions, t_do, t_do_enhanced, t_will, t_send_type, t_request}

abbrev Says : Answer → Type 0
Says answer = Lawful answer.0

by_row : (t : TermCore) (row : Row TermCore) → RowLawful row → Says (or_ignores t row)
by_row t (Ok row) h = h
by_row t (Err why) h = silent

by_if : (b : Bool) (x y : Answer) → Says x → Says y → Says (if b then x else y)
by_if true x y p q = p
by_if false x y p q = q

by_end : (b : Bool) (reply : List Token) (next t : TermCore) → Lawful reply → Says (ends_option b reply next t)
by_end true reply next t h = h
by_end false reply next t h = silent

s_do : (settled : Bool) (t : TermCore) (o : TelnetOption) → Says (tolerant_do settled t o)
s_do settled t Binary = by_row t _ (t_do t Binary)
s_do settled t TerminalType = by_row t _ (t_do t TerminalType)
s_do settled t EndOfRecord = by_row t _ (t_do t EndOfRecord)
s_do true t Tn3270e = spoken 252 40 refl
s_do false t Tn3270e = by_row t _ (t_do_enhanced t t.phase)
s_do settled t (Other code) = by_if (code == 6) _ _ (spoken 251 6 refl) (spoken 252 code refl)

s_dont_enhanced : (t : TermCore) (p : TerminalPhase) → Says (tolerant_dont_enhanced t p)
s_dont_enhanced t Classic = silent
s_dont_enhanced t Opening = silent
s_dont_enhanced t Enhanced = spoken 252 40 refl
s_dont_enhanced t Asked = spoken 252 40 refl
s_dont_enhanced t (Asking r) = spoken 252 40 refl
s_dont_enhanced t (Holding r) = spoken 252 40 refl

s_dont : (t : TermCore) (o : TelnetOption) → Says (tolerant_dont t o)
s_dont t Binary = by_end t.binary.ours _ _ t (spoken 252 0 refl)
s_dont t TerminalType = by_end (is_type_on t.terminal_type) _ _ t (spoken 252 24 refl)
s_dont t EndOfRecord = by_end t.end_of_record.ours _ _ t (spoken 252 25 refl)
s_dont t Tn3270e = s_dont_enhanced t t.phase
s_dont t (Other code) = silent

s_wont : (t : TermCore) (o : TelnetOption) → Says (tolerant_wont t o)
s_wont t Binary = by_end t.binary.theirs _ _ t (spoken 254 0 refl)
s_wont t TerminalType = silent
s_wont t EndOfRecord = by_end t.end_of_record.theirs _ _ t (spoken 254 25 refl)
s_wont t Tn3270e = silent
s_wont t (Other code) = silent

s_asks : (t : TermCore) → Lawful (request_device (name_of t.device))
s_asks t = sub 40 (2 ∷ 7 ∷ name_of t.device) (omega (arith, name-short t.device))

s_send_device : (t : TermCore) (p : TerminalPhase) → Says (tolerant_send_device t p)
s_send_device t Classic = silent
s_send_device t Opening = silent
s_send_device t Enhanced = s_asks t
s_send_device t Asked = s_asks t
s_send_device t (Asking r) = s_asks t
s_send_device t (Holding r) = s_asks t

s_device : (t : TermCore) (name : List ℕ) (p : TerminalPhase) → Says (tolerant_device t name p)
s_device t name Classic = silent
s_device t name Opening = silent
s_device t name Enhanced = silent
s_device t name Asked = asks-for t.responses
s_device t name (Asking r) = silent
s_device t name (Holding r) = silent

s_reject : (t : TermCore) (p : TerminalPhase) → Says (tolerant_reject t p)
s_reject t Classic = silent
s_reject t Opening = silent
s_reject t Enhanced = silent
s_reject t Asked = spoken 252 40 refl
s_reject t (Asking r) = silent
s_reject t (Holding r) = silent

s_functions : (t : TermCore) (list : FunctionList) (p : TerminalPhase) → Says (tolerant_functions t list p)
s_functions t list Classic = silent
s_functions t list Opening = silent
s_functions t list Enhanced = silent
s_functions t list Asked = silent
s_functions t list (Asking r) = by_if (is_within list r) _ _ silent (spoken 252 40 refl)
s_functions t list (Holding r) = silent

s_request : (t : TermCore) (list : FunctionList) (p : TerminalPhase) → Says (tolerant_functions_request t list p)
s_request t list Classic = silent
s_request t list Opening = silent
s_request t list Enhanced = silent
s_request t list Asked = silent
s_request t list (Asking r) = by_row t _ (t_request t list (Asking r))
s_request t list (Holding r) = by_row t _ (t_request t list (Asking r))

s_row : (settled : Bool) (t : TermCore) (h : Heard) → Says (tolerant_row settled t h)
s_row settled t hears_record = silent
s_row settled t (hears_verb Do o) = s_do settled t o
s_row settled t (hears_verb Will o) = by_row t _ (t_will t o)
s_row settled t (hears_verb Dont o) = s_dont t o
s_row settled t (hears_verb Wont o) = s_wont t o
s_row settled t hears_send_type = by_row t _ (t_send_type t t.terminal_type)
s_row settled t hears_send_device = s_send_device t t.phase
s_row settled t (hears_device n) = s_device t n.name t.phase
s_row settled t (hears_device_reject reason) = s_reject t t.phase
s_row settled t (hears_functions list) = s_functions t list t.phase
s_row settled t (hears_functions_request list) = s_request t list t.phase
s_row settled t (hears_type name) = silent
s_row settled t (hears_device_request n) = silent
s_row settled t hears_bad = silent
s_row settled t hears_nothing = silent

s_hears : (t : TolerantCore) (h : Heard) → Lawful (tolerant_hears t h).reply
s_hears t hears_record = silent
s_hears t (hears_verb v o) = s_row t.settled t.core (hears_verb v o)
s_hears t hears_send_type = s_row t.settled t.core hears_send_type
s_hears t (hears_type name) = silent
s_hears t hears_send_device = s_row t.settled t.core hears_send_device
s_hears t (hears_device_request n) = silent
s_hears t (hears_device n) = s_row t.settled t.core (hears_device n)
s_hears t (hears_device_reject reason) = s_row t.settled t.core (hears_device_reject reason)
s_hears t (hears_functions_request list) = s_row t.settled t.core (hears_functions_request list)
s_hears t (hears_functions list) = s_row t.settled t.core (hears_functions list)
s_hears t hears_bad = silent
s_hears t hears_nothing = silent

pub tolerant_heard : TolerantIsHeard
tolerant_heard t event = is_heard (tolerant_step t event).reply (s_hears t (heard event))

pub storms_bounded : StormsAreBounded
storms_bounded t [] = lit≤ tt
storms_bounded t (event ∷ events) =
    let next : TolerantCore = (tolerant_step t event).core in
    omega (
      arith,
      length-append (bytes_of (tolerant_step t event).reply) (answered_to next events),
      (s_hears t (heard event)).2,
      storms_bounded next events,
    )

-- ---- what code did

hears_other : (t : TolerantCore) (h : Lent) → (h ≡ lent.Record → ⊥)
    → answered_by t (tolerant_row t.settled t.core (heard_view h)) ≡ tolerant_hears t (heard_view h)
hears_other t lent.Record other = absurd (other refl)
hears_other t (lent.Verb verb option) other = refl
hears_other t lent.SendType other = refl
hears_other t (lent.TypeIs name) other = refl
hears_other t lent.SendDevice other = refl
hears_other t (lent.DeviceRequest name joined) other = refl
hears_other t (lent.DeviceIs name joined) other = refl
hears_other t (lent.DeviceReject reason) other = refl
hears_other t (lent.FunctionsRequest list) other = refl
hears_other t (lent.FunctionsAre list) other = refl
hears_other t lent.Bad other = refl
hears_other t lent.Nothing other = refl

pub took_step : (t new : TolerantCore) (h : Lent) (event : Event) (told : Told) (out : List ℕ) → (h ≡ lent.Record → ⊥) → heard_view h ≡ heard event
    → Takes (Ok (answered_by t (tolerant_row t.settled t.core (heard_view h)))) t (Ok told) new out
    → Takes (Ok (tolerant_step t event)) t (Ok told) new out
took_step t new h event told out other is takes =
    subst (λ (s : Stepped TolerantCore). Takes (Ok s) t (Ok told) new out) (hears_other t h other ∙ ap (tolerant_hears t) is) takes

pub step_short : (t new : TolerantCore) (event : Event) (told : Told) (out : List ℕ) → Takes (Ok (tolerant_step t event)) t (Ok told) new out → length out ≤ 64
step_short t new event told out takes = subst (λ (o : List ℕ). length o ≤ 64) (sym takes.2) (s_hears t (heard event)).2
