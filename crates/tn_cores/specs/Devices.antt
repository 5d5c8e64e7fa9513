-- Devices: their names, their sizes, and which fit a layout.
use Rattle.std.specs.Prelude.{ℕ, ◌≡◌, ◌⊎◌, Bool, true, false, ◌&&◌, ◌||◌, ◌==◌, if◌then◌else◌, List, [], ◌∷◌, ◌++◌, codes, find, Option, Some, None}
use Rattle.std.specs.Str.{str_to_ascii_lowercase, str_eq_ignore_ascii_case}
use Rattle.ds_codec.specs.declared.size.Size.{Size}
use Rattle.ds_codec.specs.declared.size.Mode.{Mode}
use Rattle.ds_codec.specs.declared.size.Mode.TheVariants.{Bits14, Bits16}
use Rattle.ds_codec.specs.Geometry.{Sizes}
use Rattle.ds_codec.specs.Same.{same_size}
use Rattle.tn_cores.specs.declared.device.ScreenModel.{ScreenModel}
use Rattle.tn_cores.specs.declared.device.ScreenModel.TheVariants.{Two, Three, Four, Five}
use Rattle.tn_cores.specs.declared.device.Device.{Device}

-- the digit in ASCII
abbrev pub model_digit : ScreenModel → ℕ
model_digit Two = 50
model_digit Three = 51
model_digit Four = 52
model_digit Five = 53

abbrev pub suffix_of : Bool → List ℕ
suffix_of true = codes "-E"
suffix_of false = []

-- the name in a series: IBM-3278- or IBM-3279-, the model, and -E for the extended data stream
unfoldable pub name_in : List ℕ → Device → List ℕ
name_in series device = series ++ model_digit device.model ∷ suffix_of device.extended

-- the name that is written
unfoldable pub name_of : Device → List ℕ
name_of device = name_in (codes "IBM-3278-") device

-- the bytes are a name of the device, in either series, letters of either case
abbrev pub is_name : List ℕ → Device → Bool
is_name bytes device =
    str_eq_ignore_ascii_case bytes (name_in (codes "IBM-3278-") device)
    || str_eq_ignore_ascii_case bytes (name_in (codes "IBM-3279-") device)

-- the same as a fact
abbrev pub IsDeviceName : List ℕ → Device → Type 0
IsDeviceName bytes device =
    (str_to_ascii_lowercase bytes ≡ str_to_ascii_lowercase (name_in (codes "IBM-3278-") device))
    ⊎ (str_to_ascii_lowercase bytes ≡ str_to_ascii_lowercase (name_in (codes "IBM-3279-") device))

abbrev pub device : ScreenModel → Bool → Device
device model extended = record { model = model; extended = extended }

abbrev pub all_devices : List Device
all_devices =
    device Two false ∷ device Three false ∷ device Four false ∷ device Five false
    ∷ device Two true ∷ device Three true ∷ device Four true ∷ device Five true ∷ []

-- the device that these bytes name
unfoldable pub device_of : List ℕ → Option Device
device_of bytes = find (is_name bytes) all_devices

abbrev pub size : ℕ → ℕ → Size
size rows cols = record { rows = rows; cols = cols }

abbrev pub alternate_of : ScreenModel → Size
alternate_of Two = size 24 80
alternate_of Three = size 32 80
alternate_of Four = size 43 80
alternate_of Five = size 27 132

-- the default size is 24 by 80 at every model
abbrev pub sizes_of : ScreenModel → Sizes
sizes_of model = record { default = size 24 80; alternate = alternate_of model; mode = Bits14 }

-- a device's addresses have 12 or 14 bits
abbrev pub is_device_mode : Mode → Bool
is_device_mode Bits14 = true
is_device_mode Bits16 = false

-- the addresses are a device's, and both sizes those of the terminal that a layout is for
unfoldable pub fits : Sizes → ScreenModel → Bool
fits sizes model = is_device_mode sizes.mode && (same_size sizes.default (size 24 80) && same_size sizes.alternate (alternate_of model))

abbrev pub if_fits : Sizes → Option Device → Option Device
if_fits sizes None = None
if_fits sizes (Some found) = if fits sizes found.model then Some found else None

-- the device that these bytes name, where it fits
unfoldable pub fitting : Sizes → List ℕ → Option Device
fitting sizes name = if_fits sizes (device_of name)
