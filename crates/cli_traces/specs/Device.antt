-- The device that a session names, and its sizes.
use Rattle.std.specs.Prelude.{ℕ, ◌==◌, nat_le, ◌&&◌, if◌then◌else◌, List, [], ◌∷◌, ◌++◌, codes, map, take, position, Option, Some, None}
use Rattle.tn_wire.specs.Stream.{Told, told_record, told_verb, told_sub, told_passed}
use Rattle.tn_cores.specs.declared.device.Device.{Device}
use Rattle.tn_cores.specs.declared.device.ScreenModel.{ScreenModel}
use Rattle.tn_cores.specs.declared.device.ScreenModel.TheVariants.{Two, Three, Four, Five}
use Rattle.tn_cores.specs.Devices.{device_of}
use Rattle.tn_traces.specs.declared.negotiated.Sender.{Sender}
use Rattle.tn_traces.specs.declared.negotiated.Sender.TheVariants.{Host, Terminal, OnlyHost, OnlyTerminal}

-- ---- the name

-- a name ends before the first 00 or 01, which joins a resource to it (RFC 2355, section 7.1)
abbrev pub front_at : List ℕ → Option ℕ → List ℕ
front_at bytes None = bytes
front_at bytes (Some end) = take end bytes

abbrev pub name_before : List ℕ → List ℕ
name_before bytes = front_at bytes (position (λ b. nat_le b 1) bytes)

-- TERMINAL-TYPE IS is 00, and a name (RFC 1091)
abbrev pub type_named : List ℕ → Option (List ℕ)
type_named [] = None
type_named (word ∷ name) = if word == 0 then Some name else None

-- DEVICE-TYPE is 02, and IS 04 or REQUEST 07
abbrev pub enhanced_named : ℕ → List ℕ → Option (List ℕ)
enhanced_named code (first ∷ second ∷ rest) = if first == 2 && second == code then Some (name_before rest) else None
enhanced_named code words = None

-- The host's DEVICE-TYPE IS names it, or the terminal's TERMINAL-TYPE IS. Where the terminal alone is seen, its DEVICE-TYPE
-- REQUEST does too.
abbrev pub named_in : Sender → ℕ → List ℕ → Option (List ℕ)
named_in Host option parameters = if option == 40 then enhanced_named 4 parameters else None
named_in OnlyHost option parameters = if option == 40 then enhanced_named 4 parameters else None
named_in Terminal option parameters = if option == 24 then type_named parameters else None
named_in OnlyTerminal option parameters =
    if option == 40 then enhanced_named 7 parameters else (if option == 24 then type_named parameters else None)

abbrev pub device_named : Sender → Told → Option (List ℕ)
device_named sender (told_record bytes) = None
device_named sender (told_verb verb option) = None
device_named sender (told_sub option parameters) = named_in sender option parameters
device_named sender (told_passed byte) = None

-- ---- the sizes

-- the model of the device that a name tells
abbrev pub model_in : Option Device → Option ScreenModel
model_in None = None
model_in (Some device) = Some device.model

abbrev pub model_of : List ℕ → Option ScreenModel
model_of name = model_in (device_of name)

-- the default and the alternate size of a model, as a line of sizes has them
abbrev pub size_words : ScreenModel → List ℕ
size_words Two = codes "24x80 24x80"
size_words Three = codes "24x80 32x80"
size_words Four = codes "24x80 43x80"
size_words Five = codes "24x80 27x132"

abbrev pub size_text : ScreenModel → List ℕ
size_text model = codes "size " ++ (size_words model ++ codes "\n")

-- ---- what is told of it

-- a byte that ASCII prints, and ? in place of another
abbrev pub shown : ℕ → ℕ
shown byte = if nat_le 0x21 byte && nat_le byte 0x7E then byte else 0x3F

abbrev pub model_words : Option ScreenModel → List ℕ
model_words None = []
model_words (Some model) = codes ", size " ++ size_words model

abbrev pub device_text : List ℕ → List ℕ
device_text name = codes "# device " ++ (map shown name ++ (model_words (model_of name) ++ codes "\n"))
