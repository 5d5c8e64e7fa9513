-- What an event of the stream says to a session.
use Rattle.std.specs.Prelude.{ℕ, ◌==◌, ◌+◌, Bool, ◌&&◌, not, nat_le, if◌then◌else◌, List, [], ◌∷◌, length, take, drop, slice_index, position, Option, Some, None}
use Rattle.std.specs.List.{list_any}
use Rattle.tn_wire.specs.declared.codes.Verb.{Verb}
use Rattle.tn_wire.specs.declared.codes.Verb.TheVariants.{Will, Wont, Do, Dont}
use Rattle.tn_wire.specs.Stream.{Told, told_record, told_verb, told_sub, told_passed}
use Rattle.tn_cores.specs.declared.option.TelnetOption.{TelnetOption}
use Rattle.tn_cores.specs.declared.option.TelnetOption.TheVariants.{Binary, TerminalType, EndOfRecord, Tn3270e, Other}
use Rattle.tn_cores.specs.declared.heard.FunctionList.{FunctionList}
use Rattle.tn_cores.specs.Options.{option_of}

-- what follows a device's name: nothing, ASSOCIATE, or CONNECT and a name
pub data Joined : Type 0 where
  alone : Joined
  associate : Joined
  connect : (resource : List ℕ) → Joined

-- a device's name, and what follows it
pub record Naming : Type 0 where
  pub name : List ℕ
  pub joined : Joined

-- A record; a verb; a subnegotiation of TERMINAL-TYPE or TN3270E; another subnegotiation of these two; anything else.
pub data Heard : Type 0 where
  hears_record : Heard
  hears_verb : Verb → TelnetOption → Heard
  -- TERMINAL-TYPE SEND, and TERMINAL-TYPE IS name (RFC 1091)
  hears_send_type : Heard
  hears_type : (name : List ℕ) → Heard
  -- SEND DEVICE-TYPE; DEVICE-TYPE REQUEST, IS and REJECT REASON (RFC 2355, section 7.1)
  hears_send_device : Heard
  hears_device_request : Naming → Heard
  hears_device : Naming → Heard
  hears_device_reject : (reason : ℕ) → Heard
  -- FUNCTIONS REQUEST and IS (RFC 2355, section 7.2)
  hears_functions_request : FunctionList → Heard
  hears_functions : FunctionList → Heard
  hears_bad : Heard
  hears_nothing : Heard

-- 00 is ASSOCIATE, 01 CONNECT
abbrev pub joined_of : ℕ → List ℕ → Joined
joined_of code resource = if code == 0 then associate else connect resource

-- a name ends before the first 00 or 01, and the name after that byte is all that follows
abbrev pub is_join : ℕ → Bool
is_join byte = nat_le byte 1

abbrev pub naming_at : List ℕ → Option ℕ → Naming
naming_at bytes None = record { name = bytes; joined = alone }
naming_at bytes (Some end) = record { name = take end bytes; joined = joined_of (slice_index bytes end) (drop (end + 1) bytes) }

unfoldable pub naming : List ℕ → Naming
naming bytes = naming_at bytes (position is_join bytes)

-- a list of functions as a set: whether RESPONSES (02) is in it, and whether any other is
abbrev pub functions_in : List ℕ → FunctionList
functions_in list = record { responses = list_any (λ code. code == 2) list; others = list_any (λ code. not (code == 2)) list }

-- with nothing after it
abbrev pub if_bare : Heard → List ℕ → Heard
if_bare hears rest = if length rest == 0 then hears else hears_bad

-- TERMINAL-TYPE: IS is 00 and a name, SEND is 01
unfoldable pub type_heard : List ℕ → Heard
type_heard [] = hears_bad
type_heard (word ∷ rest) = if word == 0 then hears_type rest else (if word == 1 then if_bare hears_send_type rest else hears_bad)

-- REASON is 05, with one byte
abbrev pub reject_heard : List ℕ → Heard
reject_heard words =
    if length words == 2 && slice_index words 0 == 5 then hears_device_reject (slice_index words 1) else hears_bad

-- TN3270E: 08 02 is SEND DEVICE-TYPE; 02 is DEVICE-TYPE, 03 FUNCTIONS, followed by REQUEST 07, IS 04 or REJECT 06
unfoldable pub enhanced_heard : List ℕ → Heard
enhanced_heard [] = hears_bad
enhanced_heard (first ∷ []) = hears_bad
enhanced_heard (first ∷ second ∷ rest) =
    if first == 8 && second == 2 then if_bare hears_send_device rest
    else (if first == 2 && second == 7 then hears_device_request (naming rest)
    else (if first == 2 && second == 4 then hears_device (naming rest)
    else (if first == 2 && second == 6 then reject_heard rest
    else (if first == 3 && second == 7 then hears_functions_request (functions_in rest)
    else (if first == 3 && second == 4 then hears_functions (functions_in rest)
    else hears_bad)))))

-- the verb of a command code, where it has an option
abbrev pub verb_heard : ℕ → TelnetOption → Heard
verb_heard code option =
    if code == 251 then hears_verb Will option
    else (if code == 252 then hears_verb Wont option
    else (if code == 253 then hears_verb Do option
    else (if code == 254 then hears_verb Dont option else hears_nothing)))

abbrev pub sub_heard : TelnetOption → List ℕ → Heard
sub_heard Binary parameters = hears_nothing
sub_heard TerminalType parameters = type_heard parameters
sub_heard EndOfRecord parameters = hears_nothing
sub_heard Tn3270e parameters = enhanced_heard parameters
sub_heard (Other code) parameters = hears_nothing

abbrev pub heard : Told → Heard
heard (told_record bytes) = hears_record
heard (told_verb code option) = verb_heard code (option_of option)
heard (told_sub option parameters) = sub_heard (option_of option) parameters
heard (told_passed byte) = hears_nothing
