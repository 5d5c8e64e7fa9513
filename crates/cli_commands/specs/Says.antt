-- What the lines of an input tell, beside the taking of them in turn: which lines are ignored, which tell a record
-- or a key, and which is the first at fault.
use Rattle.std.specs.Prelude.{◌≡◌, ◌⊎◌, ℕ, ◌+◌, ◌≤◌, Bool, true, false, not, ◌&&◌, List, [], ◌∷◌, ◌++◌, length, Some, None, Result, Ok, Err}
use Rattle.std.specs.List.{filter, flat_map, list_all}
use Rattle.std.specs.Str.{is_utf8}
use Rattle.hex.specs.Hex.{decode_of}
use Rattle.ds_codec.specs.Geometry.{Sizes}
use Rattle.ds_keys.specs.declared.key.Key.{Key}
use Rattle.cli_commands.specs.declared.fault.Fault.{Fault}
use Rattle.cli_commands.specs.declared.input.sizes.SizeLine.{SizeLine}
use Rattle.cli_commands.specs.Drafts.{no_drafts, take_order_line}
use Rattle.cli_commands.specs.Keys.{KeyLine, named, bad, key_told, take_key}
use Rattle.cli_commands.specs.Keys as keys
use Rattle.cli_commands.specs.Lines.{is_ignored}
use Rattle.cli_commands.specs.Records.{Records, without_spaces, no_records, take_record}
use Rattle.cli_commands.specs.Sizes.{usual_sizes, sizes_told}
use Rattle.cli_commands.specs.Taking.{taken}

-- ---- the first fault

-- The lines before this one tell something, and after them it is at fault; lines are counted from 1.
abbrev pub IsFirstFault : {A : Type 0} → (ℕ → A → List ℕ → Result A Fault) → A → List (List ℕ) → Fault → Type 0
IsFirstFault take none lines fault =
    (early : List (List ℕ)) × (line : List ℕ) × (late : List (List ℕ)) × (told : _) × (lines ≡ early ++ line ∷ late)
    × (taken take 1 none early ≡ Ok told) × (take (1 + length early) told line ≡ Err fault)

-- a fault is told exactly where it is the first
abbrev pub TellsFirstFault : {A : Type 0} → (ℕ → A → List ℕ → Result A Fault) → A → Type 0
TellsFirstFault take none =
    (lines : List (List ℕ)) (fault : Fault)
    → (taken take 1 none lines ≡ Err fault → IsFirstFault take none lines fault) × (IsFirstFault take none lines fault → taken take 1 none lines ≡ Err fault)

-- ---- keys

-- a line that names a key, or is ignored
abbrev pub is_no_fault : KeyLine → Bool
is_no_fault keys.bad = false
is_no_fault (keys.named key) = true
is_no_fault keys.ignored = true

abbrev pub key_of_line : KeyLine → List Key
key_of_line keys.bad = []
key_of_line (keys.named key) = key ∷ []
key_of_line keys.ignored = []

-- No line is bad, and the keys are those that lines name, in the order of the lines: at most 100,000.
pub record NameKeys (lines : List (List ℕ)) (told : List Key) : Type 0 where
  pub good : list_all (λ line. is_no_fault (key_told line)) lines ≡ true
  pub keys : told ≡ flat_map (λ line. key_of_line (key_told line)) lines
  pub few : length told ≤ 100000

-- ---- records

-- empty but for spaces, or a comment
abbrev pub is_silent : List ℕ → Bool
is_silent line = is_utf8 line && is_ignored (without_spaces line)

-- the lines that are not ignored
abbrev pub telling : List (List ℕ) → List (List ℕ)
telling lines = filter (λ line. not (is_silent line)) lines

-- a record of at most 32,768 bytes in hexadecimal; spaces do not count
pub record SpellsRecord (line bytes : List ℕ) : Type 0 where
  pub is_text : is_utf8 line ≡ true
  pub digits : decode_of (without_spaces line) ≡ Ok bytes
  pub short : length bytes ≤ 32768

-- each line spells the record that stands at its place
abbrev pub SpellRecords : List (List ℕ) → List (List ℕ) → Type 0
SpellRecords [] [] = Unit {0}
SpellRecords [] (bytes ∷ records) = ⊥
SpellRecords (line ∷ lines) [] = ⊥
SpellRecords (line ∷ lines) (bytes ∷ records) = SpellsRecord line bytes × SpellRecords lines records

-- the first line tells no sizes, where one may
abbrev pub NoSizes : SizeLine → List (List ℕ) → Type 0
NoSizes size_line [] = Unit {0}
NoSizes size_line (line ∷ lines) = sizes_told size_line line ≡ None

-- the first line tells the sizes, and the others spell the records; or all spell records, and the sizes are the usual
abbrev pub SizesAndRecords : SizeLine → List (List ℕ) → Sizes → List (List ℕ) → Type 0
SizesAndRecords size_line lines geometry records =
    ((line : List ℕ) × (others : List (List ℕ)) × (lines ≡ line ∷ others) × (is_utf8 line ≡ true) × (sizes_told size_line line ≡ Some geometry) × SpellRecords others records)
    ⊎ (NoSizes size_line lines × (geometry ≡ usual_sizes) × SpellRecords lines records)

-- Of the lines that are not ignored the first may tell the sizes, and the others spell the records: at most 1,000.
pub record TellRecords (size_line : SizeLine) (lines : List (List ℕ)) (told : Records) : Type 0 where
  pub lines_tell : SizesAndRecords size_line (telling lines) told.geometry told.records
  pub few : length told.records ≤ 1000

-- ---- the laws

-- records, keys and order lines: a fault is told exactly where it is the first
pub record TellFirstFaults : Type 0 where
  pub records : (size_line : SizeLine) → TellsFirstFault take_record (no_records size_line)
  pub keys : TellsFirstFault take_key []
  pub drafts : TellsFirstFault take_order_line no_drafts

-- lines tell keys exactly where they name them
abbrev pub KeysAreNamed : Type 0
KeysAreNamed = (lines : List (List ℕ)) (told : List Key) → (taken take_key 1 [] lines ≡ Ok told → NameKeys lines told) × (NameKeys lines told → taken take_key 1 [] lines ≡ Ok told)

-- the sizes and the records alone
abbrev pub IsTold : SizeLine → List (List ℕ) → Records → Type 0
IsTold size_line lines told =
    (later : SizeLine) × (taken take_record 1 (no_records size_line) lines ≡ Ok (record told { size_line = later }))

-- lines tell sizes and records exactly where they spell them
abbrev pub RecordsAreTold : Type 0
RecordsAreTold =
    (size_line : SizeLine) (lines : List (List ℕ)) (told : Records)
    → (IsTold size_line lines told → TellRecords size_line lines told) × (TellRecords size_line lines told → IsTold size_line lines told)
