-- Every reply is spelled in tokens that a stream may have, and is heard as it was said.
use Rattle.std.proofs.Common.{ℕ, ◌≡◌, ◌≤◌, ◌+◌, ◌==◌, ◌++◌, Bool, true, false, ◌&&◌, List, [], ◌∷◌, length, Result, Ok, Err, Option, Some, None, IfSome, refl, sym, subst, arith, lit<, lit≤, inl, if◌then◌else◌, length-append}
use Rattle.std.proofs.lemmas.List.{append-nil}
use Rattle.std.specs.Prelude.{bytes_eq, nat_le}
use Rattle.std.specs.Str.{str_eq_ignore_ascii_case}
use Rattle.ds_codec.specs.Geometry.{Sizes}
use Rattle.arrayvec.specs.ArrayVec.{ArrayVec}
use Rattle.tn_wire.specs.declared.codes.Verb.TheVariants.{Will, Wont, Do, Dont}
use Rattle.tn_wire.specs.Verbs.{is_verb}
use Rattle.tn_wire.specs.Codes.{iac, sub_end}
use Rattle.tn_wire.specs.Telnet.{Token, record_end, command, subnegotiation, spelling, quoted, quoted_byte, pending_after, AreTokens, IsPartial}
use Rattle.tn_cores.specs.declared.option.TelnetOption.{TelnetOption}
use Rattle.tn_cores.specs.declared.option.TelnetOption.TheVariants.{Binary, TerminalType, EndOfRecord, Tn3270e, Other}
use Rattle.tn_cores.specs.declared.heard.FunctionList.{FunctionList}
use Rattle.tn_cores.specs.declared.device.Device.{Device as DeviceValue}
use Rattle.tn_cores.specs.declared.session.Agreed.{Agreed}
use Rattle.tn_cores.specs.declared.session.SessionFault.{SessionFault}
use Rattle.tn_cores.specs.declared.session.SessionFault.TheVariants.{LineFault, TooManyReads, Closed}
use Rattle.tn_cores.specs.declared.terminal.TermCore.{TermCore}
use Rattle.tn_cores.specs.declared.terminal.TypeState.{TypeState}
use Rattle.tn_cores.specs.declared.terminal.TypeState.TheVariants.{Off, On, Named}
use Rattle.tn_cores.specs.declared.terminal.TerminalPhase.{TerminalPhase}
use Rattle.tn_cores.specs.declared.terminal.TerminalPhase.TheVariants.{Classic, Opening, Enhanced, Device as Asked, Functions as Asking, Ready as Holding}
use Rattle.tn_cores.specs.declared.host.HostCore.{HostCore}
use Rattle.tn_cores.specs.declared.host.HostPhase.{HostPhase}
use Rattle.tn_cores.specs.declared.host.HostPhase.TheVariants.{AskedEnhanced, Device, Functions, Ready, AskedType, AskedName, Options}
use Rattle.tn_cores.specs.Devices.{name_of, device_of, fits, fitting, if_fits, IsDeviceName}
use Rattle.tn_cores.specs.Heard.{Heard, Joined, alone, associate, connect, heard, hears_record, hears_verb, hears_send_type, hears_type, hears_send_device, hears_device_request, hears_device, hears_device_reject, hears_functions_request, hears_functions, hears_bad, hears_nothing}
use Rattle.tn_cores.specs.Replies.{bytes_of, resource_name, function_list, offers}
use Rattle.tn_cores.specs.Rows.{Row, once, unless_on, is_set, is_within}
use Rattle.tn_cores.specs.Terminal.{terminal_row, terminal_agreed, is_classic, terminal_do, do_type, do_enhanced, terminal_will, terminal_dont, dont_enhanced, is_type_on, terminal_wont, terminal_send_type, terminal_send_device, named_device, joined_device, terminal_device, terminal_reject, terminal_functions, terminal_functions_request}
use Rattle.tn_cores.specs.Host.{host_row, host_agreed, opening, opening_in, is_offered, unless_offered, is_needed, host_will, will_enhanced, will_type, host_do, host_wont, wont_enhanced, wont_type, host_dont, request_joined, request_fitting, host_device_request, host_functions_request, asked_functions, host_functions, is_last, type_fitting, host_type}
use Rattle.tn_wire.specs.Stream.{Told as Event}
use Rattle.tn_cores.specs.Steps.{Stepped, record_step, row_step, heard_step, terminal_step, host_step}
use Rattle.tn_cores.specs.Pair.{IsHeard, TerminalIsHeard, HostIsHeard, OpeningIsHeard}
use Rattle.tn_cores.proofs.Names.{device_name-short, IfSome-device_of}

-- tokens that may come, with no data of a record among them, in at most 64 bytes
abbrev pub Lawful : List Token → Type 0
Lawful reply = AreTokens [] reply × (pending_after [] reply ≡ []) × (length (bytes_of reply) ≤ 64)

pub silent : Lawful []
silent = (tt, refl, lit≤ tt)

partial : (pending : List ℕ) → IsPartial pending []
partial pending = record { token = record_end; more = 255 ∷ 239 ∷ []; comes = tt; longer = lit< tt; spelled = refl }

pub is_heard : (reply : List Token) → Lawful reply → IsHeard reply
is_heard reply (each, closed, short) = record {
  tokens = reply;
  rest = [];
  spelled = record { whole = sym (append-nil (bytes_of reply)); each = each; partial = partial (pending_after [] reply) };
  told = refl;
  leaves = rw closed refl;
}

pub spoken : (code option : ℕ) → is_verb code ≡ true → Lawful (command code option ∷ [])
spoken code option known = ((known, tt), refl, lit≤ tt)

byte-short : (b : ℕ) → length (quoted_byte b) ≤ 2
byte-short b = elim (b == iac) as (λ z. length (if z then iac ∷ iac ∷ [] else b ∷ []) ≤ 2) [ true ↦ lit≤ tt | false ↦ lit≤ tt ]

quoted-short : (words : List ℕ) → length (quoted words) ≤ length words + length words
quoted-short [] = lit≤ tt
quoted-short (w ∷ ws) = omega (arith, length-append (quoted_byte w) (quoted ws), byte-short w, quoted-short ws)

sub-short : (option : ℕ) (words : List ℕ) → length words ≤ 28 → length (bytes_of (subnegotiation option words ∷ [])) ≤ 64
sub-short option words short = omega (
  arith,
  short,
  quoted-short (option ∷ words),
  length-append (quoted (option ∷ words) ++ iac ∷ sub_end ∷ []) [],
  length-append (quoted (option ∷ words)) (iac ∷ sub_end ∷ []),
)

pub sub : (option : ℕ) (words : List ℕ) → length words ≤ 28 → Lawful (subnegotiation option words ∷ [])
sub option words short = ((omega (arith, short), tt), refl, sub-short option words short)

pub name-short : (d : DeviceValue) → length (name_of d) ≤ 12
unfolding name_of
name-short d = device_name-short (name_of d) d (inl refl)

-- what a core refuses for: no read or write, nor their number, nor the line's end
abbrev pub IsOfEvent : SessionFault → Type 0
IsOfEvent LineFault = ⊥
IsOfEvent TooManyReads = ⊥
IsOfEvent Closed = ⊥
IsOfEvent _ = Unit {0}

-- a row says such tokens, or refuses the event
abbrev pub RowLawful : {Core : Type 0} → Row Core → Type 0
RowLawful (Ok row) = Lawful row.0
RowLawful (Err why) = IsOfEvent why

by_if : {Core : Type 0} (b : Bool) (x y : Row Core) → RowLawful x → RowLawful y → RowLawful (if b then x else y)
by_if true x y p q = p
by_if false x y p q = q

by_once : {Core : Type 0} (b : Bool) (reply : List Token) (core next : Core) → Lawful reply → RowLawful (once b reply core next)
by_once true reply core next h = silent
by_once false reply core next h = h

by_unless : {Core : Type 0} (b : Bool) (option : TelnetOption) (core : Core) → RowLawful (unless_on b option core)
by_unless true option core = tt
by_unless false option core = silent

functions-short : (word : ℕ) (responses : Bool) → length (3 ∷ word ∷ function_list responses) ≤ 28
functions-short word true = lit≤ tt
functions-short word false = lit≤ tt

pub asks-for : (responses : Bool) → Lawful (subnegotiation 40 (3 ∷ 7 ∷ function_list responses) ∷ [])
asks-for responses = sub 40 (3 ∷ 7 ∷ function_list responses) (functions-short 7 responses)

pub are-functions : (responses : Bool) → Lawful (subnegotiation 40 (3 ∷ 4 ∷ function_list responses) ∷ [])
are-functions responses = sub 40 (3 ∷ 4 ∷ function_list responses) (functions-short 4 responses)

rejected : (reason : ℕ) → Lawful (subnegotiation 40 (2 ∷ 6 ∷ 5 ∷ reason ∷ []) ∷ [])
rejected reason = sub 40 (2 ∷ 6 ∷ 5 ∷ reason ∷ []) (lit≤ tt)

t_do_type : (t : TermCore) (s : TypeState) → RowLawful (do_type t s)
t_do_type t Off = spoken 251 24 refl
t_do_type t On = silent
t_do_type t Named = silent

pub t_do_enhanced : (t : TermCore) (p : TerminalPhase) → RowLawful (do_enhanced t p)
t_do_enhanced t Classic = spoken 252 40 refl
t_do_enhanced t Opening = by_if (is_classic t) _ _ (spoken 252 40 refl) (spoken 251 40 refl)
t_do_enhanced t Enhanced = silent
t_do_enhanced t Asked = silent
t_do_enhanced t (Asking r) = silent
t_do_enhanced t (Holding r) = silent

pub t_do : (t : TermCore) (o : TelnetOption) → RowLawful (terminal_do t o)
t_do t Binary = by_once t.binary.ours _ _ _ (spoken 251 0 refl)
t_do t TerminalType = t_do_type t t.terminal_type
t_do t EndOfRecord = by_once t.end_of_record.ours _ _ _ (spoken 251 25 refl)
t_do t Tn3270e = t_do_enhanced t t.phase
t_do t (Other code) = spoken 252 code refl

pub t_will : (t : TermCore) (o : TelnetOption) → RowLawful (terminal_will t o)
t_will t Binary = by_once t.binary.theirs _ _ _ (spoken 253 0 refl)
t_will t TerminalType = spoken 254 24 refl
t_will t EndOfRecord = by_once t.end_of_record.theirs _ _ _ (spoken 253 25 refl)
t_will t Tn3270e = spoken 254 40 refl
t_will t (Other code) = spoken 254 code refl

t_dont_enhanced : (t : TermCore) (p : TerminalPhase) → RowLawful (dont_enhanced t p)
t_dont_enhanced t Classic = silent
t_dont_enhanced t Opening = silent
t_dont_enhanced t Enhanced = spoken 252 40 refl
t_dont_enhanced t Asked = spoken 252 40 refl
t_dont_enhanced t (Asking r) = spoken 252 40 refl
t_dont_enhanced t (Holding r) = tt

t_dont : (t : TermCore) (o : TelnetOption) → RowLawful (terminal_dont t o)
t_dont t Binary = by_unless t.binary.ours Binary t
t_dont t TerminalType = by_unless (is_type_on t.terminal_type) TerminalType t
t_dont t EndOfRecord = by_unless t.end_of_record.ours EndOfRecord t
t_dont t Tn3270e = t_dont_enhanced t t.phase
t_dont t (Other code) = silent

t_wont : (t : TermCore) (o : TelnetOption) → RowLawful (terminal_wont t o)
t_wont t Binary = by_unless t.binary.theirs Binary t
t_wont t TerminalType = silent
t_wont t EndOfRecord = by_unless t.end_of_record.theirs EndOfRecord t
t_wont t Tn3270e = silent
t_wont t (Other code) = silent

pub t_send_type : (t : TermCore) (s : TypeState) → RowLawful (terminal_send_type t s)
t_send_type t Off = tt
t_send_type t On = sub 24 (0 ∷ name_of t.device) (omega (arith, name-short t.device))
t_send_type t Named = sub 24 (0 ∷ name_of t.device) (omega (arith, name-short t.device))

t_send_device : (t : TermCore) (p : TerminalPhase) → RowLawful (terminal_send_device t p)
t_send_device t Classic = tt
t_send_device t Opening = tt
t_send_device t Enhanced = sub 40 (2 ∷ 7 ∷ name_of t.device) (omega (arith, name-short t.device))
t_send_device t Asked = sub 40 (2 ∷ 7 ∷ name_of t.device) (omega (arith, name-short t.device))
t_send_device t (Asking r) = tt
t_send_device t (Holding r) = tt

t_named : (t : TermCore) (name : List ℕ) → RowLawful (named_device t name)
t_named t name = by_if (str_eq_ignore_ascii_case name (name_of t.device)) _ _ (asks-for t.responses) tt

t_joined : (t : TermCore) (name : List ℕ) (joined : Joined) → RowLawful (joined_device t name joined)
t_joined t name alone = t_named t name
t_joined t name associate = tt
t_joined t name (connect resource) = t_named t name

t_device : (t : TermCore) (name : List ℕ) (joined : Joined) (p : TerminalPhase) → RowLawful (terminal_device t name joined p)
t_device t name joined Classic = tt
t_device t name joined Opening = tt
t_device t name joined Enhanced = tt
t_device t name joined Asked = t_joined t name joined
t_device t name joined (Asking r) = tt
t_device t name joined (Holding r) = tt

t_reject : (reason : ℕ) (p : TerminalPhase) → RowLawful (terminal_reject reason p)
t_reject reason Classic = tt
t_reject reason Opening = tt
t_reject reason Enhanced = tt
t_reject reason Asked = tt
t_reject reason (Asking r) = tt
t_reject reason (Holding r) = tt

t_functions : (t : TermCore) (list : FunctionList) (p : TerminalPhase) → RowLawful (terminal_functions t list p)
t_functions t list Classic = tt
t_functions t list Opening = tt
t_functions t list Enhanced = tt
t_functions t list Asked = tt
t_functions t list (Asking r) = by_if (is_set list r) _ _ silent tt
t_functions t list (Holding r) = tt

pub t_request : (t : TermCore) (list : FunctionList) (p : TerminalPhase) → RowLawful (terminal_functions_request t list p)
t_request t list Classic = tt
t_request t list Opening = tt
t_request t list Enhanced = tt
t_request t list Asked = tt
t_request t list (Asking r) = by_if (is_within list t.responses) _ _ (are-functions list.responses) (asks-for (list.responses && t.responses))
t_request t list (Holding r) = tt

t_row : (t : TermCore) (h : Heard) → RowLawful (terminal_row t h)
t_row t hears_record = silent
t_row t (hears_verb Do o) = t_do t o
t_row t (hears_verb Will o) = t_will t o
t_row t (hears_verb Dont o) = t_dont t o
t_row t (hears_verb Wont o) = t_wont t o
t_row t hears_send_type = t_send_type t t.terminal_type
t_row t hears_send_device = t_send_device t t.phase
t_row t (hears_device n) = t_device t n.name n.joined t.phase
t_row t (hears_device_reject reason) = t_reject reason t.phase
t_row t (hears_functions list) = t_functions t list t.phase
t_row t (hears_functions_request list) = t_request t list t.phase
t_row t (hears_type name) = tt
t_row t (hears_device_request n) = tt
t_row t hears_bad = tt
t_row t hears_nothing = silent

by_offered : (b : Bool) (reply : List Token) → Lawful reply → Lawful (if b then [] else reply)
by_offered true reply l = silent
by_offered false reply l = l

unless-lawful : (p : HostPhase) (reply : List Token) → Lawful reply → Lawful (unless_offered p reply)
unless-lawful p reply l = by_offered (is_offered p) reply l

h_will_enhanced : (h : HostCore) (p : HostPhase) → RowLawful (will_enhanced h p)
h_will_enhanced h AskedEnhanced = sub 40 (8 ∷ 2 ∷ []) (lit≤ tt)
h_will_enhanced h Device = silent
h_will_enhanced h (Functions d s) = silent
h_will_enhanced h (Ready d r) = silent
h_will_enhanced h AskedType = spoken 254 40 refl
h_will_enhanced h (AskedName last) = spoken 254 40 refl
h_will_enhanced h (Options d) = spoken 254 40 refl

h_will_type : (h : HostCore) (p : HostPhase) → RowLawful (will_type h p)
h_will_type h AskedEnhanced = spoken 254 24 refl
h_will_type h Device = spoken 254 24 refl
h_will_type h (Functions d s) = spoken 254 24 refl
h_will_type h (Ready d r) = spoken 254 24 refl
h_will_type h AskedType = sub 24 (1 ∷ []) (lit≤ tt)
h_will_type h (AskedName last) = silent
h_will_type h (Options d) = silent

h_will : (h : HostCore) (o : TelnetOption) → RowLawful (host_will h o)
h_will h Binary = by_once h.binary.theirs _ _ _ (unless-lawful h.phase _ (spoken 253 0 refl))
h_will h TerminalType = h_will_type h h.phase
h_will h EndOfRecord = by_once h.end_of_record.theirs _ _ _ (unless-lawful h.phase _ (spoken 253 25 refl))
h_will h Tn3270e = h_will_enhanced h h.phase
h_will h (Other code) = spoken 254 code refl

h_do : (h : HostCore) (o : TelnetOption) → RowLawful (host_do h o)
h_do h Binary = by_once h.binary.ours _ _ _ (unless-lawful h.phase _ (spoken 251 0 refl))
h_do h TerminalType = spoken 252 24 refl
h_do h EndOfRecord = by_once h.end_of_record.ours _ _ _ (unless-lawful h.phase _ (spoken 251 25 refl))
h_do h Tn3270e = spoken 252 40 refl
h_do h (Other code) = spoken 252 code refl

h_wont_enhanced : (h : HostCore) (p : HostPhase) → RowLawful (wont_enhanced h p)
h_wont_enhanced h AskedEnhanced = spoken 253 24 refl
h_wont_enhanced h Device = tt
h_wont_enhanced h (Functions d s) = tt
h_wont_enhanced h (Ready d r) = tt
h_wont_enhanced h AskedType = silent
h_wont_enhanced h (AskedName last) = silent
h_wont_enhanced h (Options d) = silent

h_wont_type : (h : HostCore) (p : HostPhase) → RowLawful (wont_type h p)
h_wont_type h AskedEnhanced = silent
h_wont_type h Device = silent
h_wont_type h (Functions d s) = silent
h_wont_type h (Ready d r) = silent
h_wont_type h AskedType = tt
h_wont_type h (AskedName last) = silent
h_wont_type h (Options d) = silent

h_wont : (h : HostCore) (o : TelnetOption) → RowLawful (host_wont h o)
h_wont h Binary = by_unless (is_needed h.phase h.binary.theirs) Binary h
h_wont h TerminalType = h_wont_type h h.phase
h_wont h EndOfRecord = by_unless (is_needed h.phase h.end_of_record.theirs) EndOfRecord h
h_wont h Tn3270e = h_wont_enhanced h h.phase
h_wont h (Other code) = silent

h_dont : (h : HostCore) (o : TelnetOption) → RowLawful (host_dont h o)
h_dont h Binary = by_unless (is_needed h.phase h.binary.ours) Binary h
h_dont h TerminalType = silent
h_dont h EndOfRecord = by_unless (is_needed h.phase h.end_of_record.ours) EndOfRecord h
h_dont h Tn3270e = silent
h_dont h (Other code) = silent

-- a name that fits is short
if_fits-short : (g : Sizes) (name : List ℕ) (o : Option DeviceValue) → IfSome o (IsDeviceName name) → IfSome (if_fits g o) (λ d. length name ≤ 12)
if_fits-short g name None h = tt
if_fits-short g name (Some d) h =
    elim (fits g d.model) as (λ b. IfSome (if b then Some d else None) (λ d. length name ≤ 12)) [ true ↦ device_name-short name d h | false ↦ tt ]

fitting-short : (g : Sizes) (name : List ℕ) → IfSome (fitting g name) (λ d. length name ≤ 12)
unfolding fitting
fitting-short g name = if_fits-short g name (device_of name) (IfSome-device_of name)

granted-short : (name : List ℕ) → length name ≤ 12 → length (2 ∷ 4 ∷ (name ++ 1 ∷ resource_name)) ≤ 28
granted-short name short = omega (arith, length-append name (1 ∷ resource_name))

granted : (name : List ℕ) → length name ≤ 12 → Lawful (subnegotiation 40 (2 ∷ 4 ∷ (name ++ 1 ∷ resource_name)) ∷ [])
granted name short = sub 40 (2 ∷ 4 ∷ (name ++ 1 ∷ resource_name)) (granted-short name short)

h_joined : (h : HostCore) (name : List ℕ) (d : DeviceValue) (joined : Joined) → length name ≤ 12 → RowLawful (request_joined h name d joined)
h_joined h name d alone short = granted name short
h_joined h name d associate short = rejected 7
h_joined h name d (connect resource) short = by_if (bytes_eq resource resource_name) _ _ (granted name short) (rejected 3)

h_fitting : (h : HostCore) (name : List ℕ) (joined : Joined) (o : Option DeviceValue) → IfSome o (λ d. length name ≤ 12) → RowLawful (request_fitting h name joined o)
h_fitting h name joined None short = rejected 4
h_fitting h name joined (Some d) short = h_joined h name d joined short

h_device : (h : HostCore) (name : List ℕ) (joined : Joined) (p : HostPhase) → RowLawful (host_device_request h name joined p)
h_device h name joined AskedEnhanced = tt
h_device h name joined Device = h_fitting h name joined (fitting h.geometry name) (fitting-short h.geometry name)
h_device h name joined (Functions d s) = tt
h_device h name joined (Ready d r) = tt
h_device h name joined AskedType = tt
h_device h name joined (AskedName last) = tt
h_device h name joined (Options d) = tt

h_request : (h : HostCore) (list : FunctionList) (p : HostPhase) → RowLawful (host_functions_request h list p)
h_request h list AskedEnhanced = tt
h_request h list Device = tt
h_request h list (Functions d s) = by_if (is_within list h.responses) _ _ (are-functions list.responses) (asks-for (list.responses && h.responses))
h_request h list (Ready d r) = tt
h_request h list AskedType = tt
h_request h list (AskedName last) = tt
h_request h list (Options d) = tt

h_asked : (h : HostCore) (list : FunctionList) (d : DeviceValue) (s : Option Bool) → RowLawful (asked_functions h list d s)
h_asked h list d None = tt
h_asked h list d (Some r) = by_if (is_set list r) _ _ silent tt

h_functions : (h : HostCore) (list : FunctionList) (p : HostPhase) → RowLawful (host_functions h list p)
h_functions h list AskedEnhanced = tt
h_functions h list Device = tt
h_functions h list (Functions d s) = h_asked h list d s
h_functions h list (Ready d r) = tt
h_functions h list AskedType = tt
h_functions h list (AskedName last) = tt
h_functions h list (Options d) = tt

offers-lawful : (a b c d : Bool) → Lawful (offers (record { ours = a; theirs = b }) (record { ours = c; theirs = d }))
offers-lawful true true true true = silent
offers-lawful true true true false = ((refl, tt), refl, lit≤ tt)
offers-lawful true true false true = ((refl, tt), refl, lit≤ tt)
offers-lawful true true false false = ((refl, (refl, tt)), refl, lit≤ tt)
offers-lawful true false true true = ((refl, tt), refl, lit≤ tt)
offers-lawful true false true false = ((refl, (refl, tt)), refl, lit≤ tt)
offers-lawful true false false true = ((refl, (refl, tt)), refl, lit≤ tt)
offers-lawful true false false false = ((refl, (refl, (refl, tt))), refl, lit≤ tt)
offers-lawful false true true true = ((refl, tt), refl, lit≤ tt)
offers-lawful false true true false = ((refl, (refl, tt)), refl, lit≤ tt)
offers-lawful false true false true = ((refl, (refl, tt)), refl, lit≤ tt)
offers-lawful false true false false = ((refl, (refl, (refl, tt))), refl, lit≤ tt)
offers-lawful false false true true = ((refl, (refl, tt)), refl, lit≤ tt)
offers-lawful false false true false = ((refl, (refl, (refl, tt))), refl, lit≤ tt)
offers-lawful false false false true = ((refl, (refl, (refl, tt))), refl, lit≤ tt)
offers-lawful false false false false = ((refl, (refl, (refl, (refl, tt)))), refl, lit≤ tt)

h_type_fitting : (h : HostCore) (name : List ℕ) (last : Option (ArrayVec ℕ)) (o : Option DeviceValue) → RowLawful (type_fitting h name last o)
h_type_fitting h name last (Some d) = offers-lawful h.end_of_record.ours h.end_of_record.theirs h.binary.ours h.binary.theirs
h_type_fitting h name last None = by_if (is_last last name) _ _ tt (sub 24 (1 ∷ []) (lit≤ tt))

h_type : (h : HostCore) (name : List ℕ) (p : HostPhase) → RowLawful (host_type h name p)
h_type h name AskedEnhanced = tt
h_type h name Device = tt
h_type h name (Functions d s) = tt
h_type h name (Ready d r) = tt
h_type h name AskedType = tt
h_type h name (AskedName last) = by_if (nat_le (length name) 40) _ _ (h_type_fitting h name last (fitting h.geometry name)) tt
h_type h name (Options d) = tt

h_row : (h : HostCore) (e : Heard) → RowLawful (host_row h e)
h_row h hears_record = silent
h_row h (hears_verb Will o) = h_will h o
h_row h (hears_verb Wont o) = h_wont h o
h_row h (hears_verb Do o) = h_do h o
h_row h (hears_verb Dont o) = h_dont h o
h_row h (hears_device_request n) = h_device h n.name n.joined h.phase
h_row h (hears_functions_request list) = h_request h list h.phase
h_row h (hears_functions list) = h_functions h list h.phase
h_row h (hears_type name) = h_type h name h.phase
h_row h hears_send_type = tt
h_row h hears_send_device = tt
h_row h (hears_device n) = tt
h_row h (hears_device_reject reason) = tt
h_row h hears_bad = tt
h_row h hears_nothing = silent

abbrev StepLawful : {Core : Type 0} → Result (Stepped Core) SessionFault → Type 0
StepLawful (Ok step) = Lawful step.reply
StepLawful (Err why) = IsOfEvent why

by_record : {Core : Type 0} (core : Core) (agreed : Option Agreed) → StepLawful (record_step core agreed)
by_record core None = tt
by_record core (Some agreed) = silent

by_row : {Core : Type 0} (agreed : Core → Option Agreed) (core : Core) (row : Row Core) → RowLawful row → StepLawful (row_step agreed core row)
by_row agreed core (Ok row) h = h
by_row agreed core (Err why) h = h

by_heard : {Core : Type 0} (agreed : Core → Option Agreed) (rows : Core → Heard → Row Core) (core : Core) (h : Heard)
    → RowLawful (rows core h) → StepLawful (heard_step agreed rows core h)
by_heard agreed rows core hears_record r = by_record core (agreed core)
by_heard agreed rows core (hears_verb v o) r = by_row agreed core _ r
by_heard agreed rows core hears_send_type r = by_row agreed core _ r
by_heard agreed rows core (hears_type name) r = by_row agreed core _ r
by_heard agreed rows core hears_send_device r = by_row agreed core _ r
by_heard agreed rows core (hears_device_request n) r = by_row agreed core _ r
by_heard agreed rows core (hears_device n) r = by_row agreed core _ r
by_heard agreed rows core (hears_device_reject reason) r = by_row agreed core _ r
by_heard agreed rows core (hears_functions_request list) r = by_row agreed core _ r
by_heard agreed rows core (hears_functions list) r = by_row agreed core _ r
by_heard agreed rows core hears_bad r = by_row agreed core _ r
by_heard agreed rows core hears_nothing r = by_row agreed core _ r

pub terminal_heard : TerminalIsHeard
terminal_heard t event s e =
    is_heard s.reply (subst StepLawful e (by_heard terminal_agreed terminal_row t (heard event) (t_row t (heard event))))

-- a core refuses only for what the event says
pub terminal_refuses : (t : TermCore) (event : Event) (why : SessionFault) → terminal_step t event ≡ Err why → IsOfEvent why
terminal_refuses t event why e = subst StepLawful e (by_heard terminal_agreed terminal_row t (heard event) (t_row t (heard event)))

pub host_refuses : (h : HostCore) (event : Event) (why : SessionFault) → host_step h event ≡ Err why → IsOfEvent why
host_refuses h event why e = subst StepLawful e (by_heard host_agreed host_row h (heard event) (h_row h (heard event)))

pub host_heard : HostIsHeard
host_heard h event s e = is_heard s.reply (subst StepLawful e (by_heard host_agreed host_row h (heard event) (h_row h (heard event))))

opening-lawful : (p : HostPhase) → Lawful (opening_in p)
opening-lawful AskedEnhanced = spoken 253 40 refl
opening-lawful Device = silent
opening-lawful (Functions d s) = silent
opening-lawful (Ready d r) = silent
opening-lawful AskedType = spoken 253 24 refl
opening-lawful (AskedName last) = silent
opening-lawful (Options d) = silent

pub opening_heard : OpeningIsHeard
opening_heard h = is_heard (opening h) (opening-lawful h.phase)
