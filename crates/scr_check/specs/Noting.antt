-- For the code's own proofs: no public contract rests on this file.
-- Notes on what the orders write, kept as the records are taken.
use Rattle.std.specs.Prelude.{◌≡◌, ℕ, ◌≤◌, true, false, Bool, List, map, length, Option}
use Rattle.ds_codec.specs.Reading.{read_of}
use Rattle.ds_screen.specs.Picture.{Picture}
use Rattle.ds_screen.specs.Outline.{Outlined, IsOutlineOf}
use Rattle.ds_screen.specs.Writes.{most_positions}
use Rattle.scr_check.specs.declared.finding.Finding.{Finding}
use Rattle.scr_check.specs.declared.origins.Origin.{Origin}
use Rattle.scr_check.specs.Opening.{taken}
use Rattle.scr_check.specs.Origins.{Noted, noted, read_writes, later_or, last_at, kept_at}
use Rattle.std.specs.Prelude.{Ok, Err}

-- it outlines a picture, and there is a slot for each position of the larger size
abbrev pub HasSlots : Outlined → List (Option Origin) → Type 0
HasSlots o slots = (v : Picture) × IsOutlineOf o v × (most_positions v.geometry ≤ length slots)

-- of each position the slots now hold the last of these notes, or else what they held
abbrev pub Keeps : List Noted → List (Option Origin) → List (Option Origin) → Type 0
Keeps notes before after = (p : ℕ) → kept_at after p ≡ later_or (last_at p notes) (kept_at before p)

-- whatever picture it outlined, the record was taken and what it wrote was noted, or something stands against it and
-- nothing was noted
abbrev pub NotesOn : Outlined → Outlined → ℕ → List ℕ → Bool → List (Option Origin) → List (Option Origin) → Type 0
NotesOn old new index bytes true before after =
    (v : Picture) → IsOutlineOf old v
    → (w : Picture) × (taken index v (read_of v.geometry.mode bytes) ≡ Ok w) × IsOutlineOf new w
    × Keeps (map (noted index) (read_writes v (read_of v.geometry.mode bytes))) before after
NotesOn old new index bytes false before after =
    (v : Picture) → IsOutlineOf old v
    → ((finding : Finding) × (taken index v (read_of v.geometry.mode bytes) ≡ Err finding)) × (after ≡ before)
