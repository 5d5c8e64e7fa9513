-- What a line that is told of a session says of its screens.
use Rattle.std.specs.Prelude.{ℕ, nat_eq, List, codes, drop, take, position, Option, Some, None, if◌then◌else◌}
use Rattle.std.specs.List.{starts_with}
use Rattle.hex.specs.Hex.{decode_of}
use Rattle.ds_codec.specs.Digits.{bytes_from}
use Rattle.ds_codec.specs.Geometry.{Sizes}
use Rattle.tn_cores.specs.declared.device.Device.{Device}
use Rattle.tn_cores.specs.Devices.{device_of, sizes_of}

-- the host sent a record, or the terminal did; the device has these sizes; or nothing of these
pub data Line : Type 0 where
  shows : List ℕ → Line
  answers : List ℕ → Line
  sizes : Sizes → Line
  nothing : Line

abbrev pub shown_in : Option (List ℕ) → Line
shown_in None = nothing
shown_in (Some bytes) = shows bytes

abbrev pub answered_in : Option (List ℕ) → Line
answered_in None = nothing
answered_in (Some bytes) = answers bytes

abbrev pub sizes_in : Option Device → Line
sizes_in None = nothing
sizes_in (Some device) = sizes (sizes_of device.model)

abbrev pub front_at : List ℕ → Option ℕ → List ℕ
front_at text None = text
front_at text (Some end) = take end text

-- the device's name ends before a comma
abbrev pub name_in : List ℕ → List ℕ
name_in words = front_at words (position (λ b. nat_eq b 0x2C) words)

-- A record stands in hexadecimal, the terminal's after the words `# answer`, and the device's name after `# device`.
abbrev pub other_told : List ℕ → Line
other_told line =
    if starts_with nat_eq line (codes "# device ") then sizes_in (device_of (name_in (drop 9 line))) else shown_in (bytes_from (decode_of line))

abbrev pub line_told : List ℕ → Line
line_told line =
    if starts_with nat_eq line (codes "# answer ") then answered_in (bytes_from (decode_of (drop 9 line))) else other_told line
