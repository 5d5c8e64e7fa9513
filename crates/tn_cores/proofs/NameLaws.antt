-- A device's name, as the other end reads it.
use Rattle.std.proofs.Common.{ℕ, ◌≡◌, ◌++◌, Bool, true, false, List, ◌∷◌, length, refl, Some, None, if◌then◌else◌}
use Rattle.std.specs.Prelude.{nat_le, bytes_eq}
use Rattle.std.specs.Str.{str_eq_ignore_ascii_case}
use Rattle.ds_codec.specs.Geometry.{Sizes}
use Rattle.tn_cores.specs.declared.device.ScreenModel.{ScreenModel}
use Rattle.tn_cores.specs.declared.device.ScreenModel.TheVariants.{Two, Three, Four, Five}
use Rattle.tn_cores.specs.declared.device.Device.{Device}
use Rattle.tn_cores.specs.Devices.{device, name_in, name_of, fits, fitting}
use Rattle.tn_cores.specs.Heard.{Naming, Joined, alone, connect, naming}
use Rattle.tn_cores.specs.Replies.{resource_name}
use Rattle.tn_cores.proofs.Names.{device_of-name_of}

abbrev named : List ℕ → Joined → Naming
named name joined = record { name = name; joined = joined }

-- what is computed at each of the eight devices
each_of : (P : Device → Type 0) → P (device Two false) → P (device Two true) → P (device Three false) → P (device Three true)
    → P (device Four false) → P (device Four true) → P (device Five false) → P (device Five true)
    → (m : ScreenModel) (w : Bool) → P (device m w)
each_of P a b c d e f g h Two false = a
each_of P a b c d e f g h Two true = b
each_of P a b c d e f g h Three false = c
each_of P a b c d e f g h Three true = d
each_of P a b c d e f g h Four false = e
each_of P a b c d e f g h Four true = f
each_of P a b c d e f g h Five false = g
each_of P a b c d e f g h Five true = h

each : (P : Device → Type 0) → P (device Two false) → P (device Two true) → P (device Three false) → P (device Three true)
    → P (device Four false) → P (device Four true) → P (device Five false) → P (device Five true) → (x : Device) → P x
each P a b c d e f g h x = each_of P a b c d e f g h x.model x.extended

pub naming-name_of : (d : Device) → naming (name_of d) ≡ named (name_of d) alone
unfolding naming name_of name_in
naming-name_of = each (λ d. naming (name_of d) ≡ named (name_of d) alone) refl refl refl refl refl refl refl refl

pub naming-granted : (d : Device) → naming (name_of d ++ 1 ∷ resource_name) ≡ named (name_of d) (connect resource_name)
unfolding naming name_of name_in
naming-granted = each (λ d. naming (name_of d ++ 1 ∷ resource_name) ≡ named (name_of d) (connect resource_name)) refl refl refl refl refl refl refl refl

pub is_same_name : (d : Device) → str_eq_ignore_ascii_case (name_of d) (name_of d) ≡ true
unfolding name_of name_in
is_same_name = each (λ d. str_eq_ignore_ascii_case (name_of d) (name_of d) ≡ true) refl refl refl refl refl refl refl refl

pub is_equal_name : (d : Device) → bytes_eq (name_of d) (name_of d) ≡ true
unfolding name_of name_in
is_equal_name = each (λ d. bytes_eq (name_of d) (name_of d) ≡ true) refl refl refl refl refl refl refl refl

pub is_short_name : (d : Device) → nat_le (length (name_of d)) 40 ≡ true
unfolding name_of name_in
is_short_name = each (λ d. nat_le (length (name_of d)) 40 ≡ true) refl refl refl refl refl refl refl refl

pub fitting-name_of : (g : Sizes) (d : Device) → fitting g (name_of d) ≡ (if fits g d.model then Some d else None)
unfolding fitting
fitting-name_of g d = rw (device_of-name_of d) refl
