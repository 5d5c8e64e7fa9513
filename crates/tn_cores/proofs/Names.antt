-- Names of devices.
use Rattle.std.proofs.Common.{ℕ, ◌≡◌, ◌≤◌, Bool, true, false, ◌||◌, List, [], ◌∷◌, length, refl, ap, ◌∙◌, inl, inr, Option, Some, IfSome, arith, codes, lit≤, cond}
use Rattle.std.specs.Bool.{Decides}
use Rattle.std.proofs.lemmas.Bool.Decides.{Decides-or}
use Rattle.std.proofs.lemmas.Slice.Eq.{bytes_eq-Decides}
use Rattle.std.proofs.lemmas.Option.{IfSome_then}
use Rattle.std.proofs.lemmas.List.{length-map}
use Rattle.std.specs.Prelude.{find, bytes_eq}
use Rattle.std.specs.Str.{str_to_ascii_lowercase}
use Rattle.std.specs.Char.{to_ascii_lowercase}
use Rattle.tn_cores.specs.declared.device.ScreenModel.{ScreenModel}
use Rattle.tn_cores.specs.declared.device.ScreenModel.TheVariants.{Two, Three, Four, Five}
use Rattle.tn_cores.specs.declared.device.Device.{Device}
use Rattle.tn_cores.specs.Devices.{device, name_in, name_of, is_name, IsDeviceName, all_devices, device_of}

-- the device that a text in lower case names
abbrev pub lower_in : List ℕ → Device → Bool
lower_in low d =
    bytes_eq low (str_to_ascii_lowercase (name_in (codes "IBM-3278-") d))
    || bytes_eq low (str_to_ascii_lowercase (name_in (codes "IBM-3279-") d))

unfoldable pub lower_device : List ℕ → Option Device
lower_device low = find (lower_in low) all_devices

pub device_of-lower : (bytes : List ℕ) → device_of bytes ≡ lower_device (str_to_ascii_lowercase bytes)
unfolding device_of lower_device
device_of-lower bytes = refl

-- a name in either series names its device
pub lower_device-3278 : (m : ScreenModel) (e : Bool) → lower_device (str_to_ascii_lowercase (name_in (codes "IBM-3278-") (device m e))) ≡ Some (device m e)
unfolding lower_device name_in
lower_device-3278 Two false = refl
lower_device-3278 Two true = refl
lower_device-3278 Three false = refl
lower_device-3278 Three true = refl
lower_device-3278 Four false = refl
lower_device-3278 Four true = refl
lower_device-3278 Five false = refl
lower_device-3278 Five true = refl

pub lower_device-3279 : (m : ScreenModel) (e : Bool) → lower_device (str_to_ascii_lowercase (name_in (codes "IBM-3279-") (device m e))) ≡ Some (device m e)
unfolding lower_device name_in
lower_device-3279 Two false = refl
lower_device-3279 Two true = refl
lower_device-3279 Three false = refl
lower_device-3279 Three true = refl
lower_device-3279 Four false = refl
lower_device-3279 Four true = refl
lower_device-3279 Five false = refl
lower_device-3279 Five true = refl

pub device_of-name : (bytes : List ℕ) (d : Device) → IsDeviceName bytes d → device_of bytes ≡ Some d
device_of-name bytes d (inl e) = device_of-lower bytes ∙ ap lower_device e ∙ lower_device-3278 d.model d.extended
device_of-name bytes d (inr e) = device_of-lower bytes ∙ ap lower_device e ∙ lower_device-3279 d.model d.extended

-- what is written is read again
pub device_of-name_of : (d : Device) → device_of (name_of d) ≡ Some d
unfolding name_of
device_of-name_of d = device_of-name (name_of d) d (inl refl)

lower-short : (m : ScreenModel) (e : Bool) → (length (str_to_ascii_lowercase (name_in (codes "IBM-3278-") (device m e))) ≤ 12)
    × (length (str_to_ascii_lowercase (name_in (codes "IBM-3279-") (device m e))) ≤ 12)
unfolding name_in
lower-short Two false = (lit≤ tt, lit≤ tt)
lower-short Two true = (lit≤ tt, lit≤ tt)
lower-short Three false = (lit≤ tt, lit≤ tt)
lower-short Three true = (lit≤ tt, lit≤ tt)
lower-short Four false = (lit≤ tt, lit≤ tt)
lower-short Four true = (lit≤ tt, lit≤ tt)
lower-short Five false = (lit≤ tt, lit≤ tt)
lower-short Five true = (lit≤ tt, lit≤ tt)

-- a device's name has at most 12 bytes
pub device_name-short : (bytes : List ℕ) (d : Device) → IsDeviceName bytes d → length bytes ≤ 12
device_name-short bytes d (inl e) = omega (arith, length-map bytes to_ascii_lowercase, ap length e, (lower-short d.model d.extended).0)
device_name-short bytes d (inr e) = omega (arith, length-map bytes to_ascii_lowercase, ap length e, (lower-short d.model d.extended).1)

-- what is found passes the test
find-passes : {X : Type 0} (test : X → Bool) (xs : List X) → IfSome (find test xs) (λ x. test x ≡ true)
find-passes test [] = tt
find-passes test (x ∷ xs) =
    elim (test x) as (λ b. test x ≡ b → IfSome (cond b (Some x) (find test xs)) (λ y. test y ≡ true))
    [ true ↦ λ passes. passes | false ↦ λ fails. find-passes test xs ] refl

is_name-Decides : (bytes : List ℕ) (d : Device) → Decides (is_name bytes d) (IsDeviceName bytes d)
is_name-Decides bytes d = Decides-or _ _ (bytes_eq-Decides _ _) (bytes_eq-Decides _ _)

-- the device found has the name
pub IfSome-device_of : (bytes : List ℕ) → IfSome (device_of bytes) (IsDeviceName bytes)
unfolding device_of
IfSome-device_of bytes = IfSome_then _ (find-passes (is_name bytes) all_devices) (λ d passes. (is_name-Decides bytes d).0 passes)
