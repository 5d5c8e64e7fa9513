-- Whether a session is enhanced, by the events of its stream so far (RFC 2355, section 7).
use Rattle.std.specs.Prelude.{ℕ, Bool, ◌&&◌, ◌||◌, ◌==◌, false, if◌then◌else◌, List, [], ◌∷◌}
use Rattle.tn_wire.specs.Stream.{Told, told_record, told_verb, told_sub, told_passed}
use Rattle.tn_traces.specs.declared.negotiated.Negotiated.{Negotiated}
use Rattle.tn_traces.specs.declared.negotiated.Negotiated.TheVariants.{Classic, Named, Enhanced}
use Rattle.tn_traces.specs.declared.negotiated.Sender.{Sender}
use Rattle.tn_traces.specs.declared.negotiated.Sender.TheVariants.{Host, Terminal, OnlyHost, OnlyTerminal}

-- DEVICE-TYPE IS of the host; where the terminal alone is seen, the host's IS has come before it goes on after its REQUEST
abbrev pub names_device : Sender → ℕ → ℕ → Bool
names_device Host first second = first == 2 && second == 4
names_device Terminal first second = false
names_device OnlyHost first second = first == 2 && second == 4
names_device OnlyTerminal first second = first == 2 && second == 7

-- FUNCTIONS IS of either; where one side alone is seen, a REQUEST that it sends no more after was agreed
abbrev pub agrees_functions : Sender → ℕ → ℕ → Bool
agrees_functions Host first second = first == 3 && second == 4
agrees_functions Terminal first second = first == 3 && second == 4
agrees_functions OnlyHost first second = first == 3 && (second == 4 || second == 7)
agrees_functions OnlyTerminal first second = first == 3 && (second == 4 || second == 7)

-- functions are agreed for a device
abbrev pub agreed : Negotiated → Negotiated
agreed Classic = Classic
agreed Named = Enhanced
agreed Enhanced = Enhanced

-- a subnegotiation of TN3270E
abbrev pub after_words : Sender → Negotiated → List ℕ → Negotiated
after_words sender now [] = now
after_words sender now (first ∷ []) = now
after_words sender now (first ∷ second ∷ rest) =
    if names_device sender first second then Named else (if agrees_functions sender first second then agreed now else now)

-- TN3270E is the terminal's option: the host's DONT of it, and the terminal's WONT
abbrev pub off_verb : Sender → ℕ
off_verb Host = 254
off_verb Terminal = 252
off_verb OnlyHost = 254
off_verb OnlyTerminal = 252

abbrev pub turns_off : Sender → ℕ → ℕ → Bool
turns_off sender verb option = option == 40 && verb == off_verb sender

-- one event
abbrev pub negotiated_after : Sender → Negotiated → Told → Negotiated
negotiated_after sender now (told_record bytes) = now
negotiated_after sender now (told_verb verb option) = if turns_off sender verb option then Classic else now
negotiated_after sender now (told_sub option parameters) = if option == 40 then after_words sender now parameters else now
negotiated_after sender now (told_passed byte) = now

-- events of one sender in turn
abbrev pub negotiated_from : Sender → Negotiated → List Told → Negotiated
negotiated_from sender now [] = now
negotiated_from sender now (event ∷ events) = negotiated_from sender (negotiated_after sender now event) events
