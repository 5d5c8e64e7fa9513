-- Where what stands on a screen comes from: the order that wrote last at each position.
use Rattle.std.specs.Prelude.{◌≡◌, ℕ, ◌+◌, Bool, ◌&&◌, nat_le, nat_lt, List, [], ◌∷◌, ◌++◌, map, slice_index_or, Option, Some, None, Result, Ok, Err, if◌then◌else◌}
use Rattle.ds_codec.specs.declared.refused.Refused as read
use Rattle.ds_codec.specs.Record.{Message}
use Rattle.ds_codec.specs.Reading.{read_of}
use Rattle.ds_screen.specs.declared.writes.Write.{Write}
use Rattle.ds_screen.specs.Picture.{Picture}
use Rattle.ds_screen.specs.Records.{new_picture}
use Rattle.ds_screen.specs.Writes.{record_writes}
use Rattle.scr_layout.specs.Layout.{Declaration}
use Rattle.scr_check.specs.declared.finding.Finding.{Finding}
use Rattle.scr_check.specs.declared.origins.Origin.{Origin}
use Rattle.scr_check.specs.Opening.{taken}

-- positions in a row, and the order that stored into them
pub record Noted : Type 0 where
  pub place : ℕ
  pub count : ℕ
  pub origin : Origin

-- what the record of this number wrote
abbrev pub noted : ℕ → Write → Noted
noted index write = record { place = write.place; count = write.count; origin = record { index = index; at = write.at } }

-- whether a position is one of them
abbrev pub covers : Noted → ℕ → Bool
covers note p = nat_le note.place p && nat_lt p (note.place + note.count)

-- what a record writes on a picture, if it can be read
abbrev pub read_writes : Picture → Result Message read.Refused → List Write
read_writes v (Err refused) = []
read_writes v (Ok message) = record_writes v message.command message.orders

-- what a record writes, and then what the records after it write on the picture that it leaves; nothing from the first
-- one on against which something stands
abbrev pub and_later : Result Picture Finding → List Noted → (Picture → List Noted) → List Noted
and_later (Err finding) notes others = []
and_later (Ok next) notes others = notes ++ others next

-- what the records write in turn, the first of them with this number
abbrev pub notes_from : ℕ → Picture → List (List ℕ) → List Noted
notes_from index v [] = []
notes_from index v (bytes ∷ others) =
    and_later (taken index v (read_of v.geometry.mode bytes)) (map (noted index) (read_writes v (read_of v.geometry.mode bytes)))
    (λ next. notes_from (index + 1) next others)

-- the later one of two, if there is one
abbrev pub later_or : Option Origin → Option Origin → Option Origin
later_or None earlier = earlier
later_or (Some later) earlier = Some later

-- the order that wrote last at a position
abbrev pub last_at : ℕ → List Noted → Option Origin
last_at p [] = None
last_at p (note ∷ notes) = later_or (last_at p notes) (if covers note p then Some note.origin else None)

-- the order that wrote last at a position, a character or an attribute, of all records on a new terminal of the layout's geometry
abbrev pub origin_of : Declaration → List (List ℕ) → ℕ → Option Origin
origin_of layout records p = last_at p (notes_from 0 (new_picture layout.geometry) records)

-- what is kept for a position; nothing past the last one
abbrev pub kept_at : List (Option Origin) → ℕ → Option Origin
kept_at slots p = slice_index_or slots p None

-- what is kept for each position is the order that wrote there last
abbrev pub AreOrigins : Declaration → List (List ℕ) → List (Option Origin) → Type 0
AreOrigins layout records slots = (p : ℕ) → kept_at slots p ≡ origin_of layout records p
