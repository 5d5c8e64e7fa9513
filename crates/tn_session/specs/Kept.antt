-- The records that made the screen which is shown, from the last erase on, parted where the operator sent.
use Rattle.std.specs.Prelude.{ℕ, ◌+◌, ◌-◌, ◌==◌, Bool, true, false, ◌||◌, nat_le, nat_lt, List, [], ◌∷◌, ◌++◌, length, Option, Some, None, if◌then◌else◌}
use Rattle.ds_terminal.specs.Terminal.{Reply, shown, answered, nothing, refused, KeyReply, sent}

-- a record's bytes, and whether the operator sent since the one before it, so that a turn begins with it
pub record Kept : Type 0 where
  pub begins_turn : Bool
  pub bytes : List ℕ

-- the records, their bytes in all, whether the operator sent since the last, and whether there were too many
pub record Keeping : Type 0 where
  pub records : List Kept
  pub size : ℕ
  pub sent_since : Bool
  pub is_past_limit : Bool

abbrev pub nothing_kept : Keeping
nothing_kept = record { records = []; size = 0; sent_since = false; is_past_limit = false }

-- past 1,000 records or 8,388,608 bytes none is kept, until the next erase
abbrev pub past_limit : Keeping
past_limit = record { records = []; size = 0; sent_since = false; is_past_limit = true }

abbrev pub has_room : Keeping → List ℕ → Bool
has_room keeping bytes = if nat_lt (length keeping.records) 1000 then nat_le (length bytes) (8388608 - keeping.size) else false

abbrev pub one_kept : Keeping → List ℕ → Keeping
one_kept keeping bytes = record {
  records = keeping.records ++ record { begins_turn = keeping.sent_since; bytes = bytes } ∷ [];
  size = keeping.size + length bytes;
  sent_since = false;
  is_past_limit = false;
}

abbrev pub with_record : Keeping → List ℕ → Keeping
with_record keeping bytes =
    if keeping.is_past_limit then keeping else (if has_room keeping bytes then one_kept keeping bytes else past_limit)

-- ---- records

-- the commands that erase first: Erase/Write and Erase/Write Alternate
abbrev pub is_erase_code : ℕ → Bool
is_erase_code code = ((code == 0x05) || (code == 0xF5)) || ((code == 0x0D) || (code == 0x7E))

-- Read Buffer, Read Modified and Read Modified All
abbrev pub is_read_code : ℕ → Bool
is_read_code code = ((code == 0x02) || (code == 0xF2)) || (((code == 0x06) || (code == 0xF6)) || ((code == 0x0E) || (code == 0x6E)))

abbrev pub begins_with : (ℕ → Bool) → List ℕ → Bool
begins_with is_code [] = false
begins_with is_code (code ∷ bytes) = is_code code

-- A write is kept, alone where it erases; so is a record that is refused, if it is no read.
abbrev pub kept_record : Keeping → List ℕ → Reply → Keeping
kept_record keeping bytes (shown effect) =
    if begins_with is_erase_code bytes then with_record nothing_kept bytes else with_record keeping bytes
kept_record keeping bytes (answered answer) = keeping
kept_record keeping bytes nothing = keeping
kept_record keeping bytes (refused why) = if begins_with is_read_code bytes then keeping else with_record keeping bytes

-- the same of a record of which its bytes alone are known
abbrev pub kept_bytes : Keeping → List ℕ → Keeping
kept_bytes keeping bytes =
    if begins_with is_read_code bytes then keeping
    else (if begins_with is_erase_code bytes then with_record nothing_kept bytes else with_record keeping bytes)

-- ---- keys

-- A key that sends ends a turn. Clear leaves what an Erase/Write of nothing does.
abbrev pub kept_attention : Keeping → Option ℕ → Keeping
kept_attention keeping (Some aid) =
    if aid == 0x6D then with_record nothing_kept (0xF5 ∷ 0x40 ∷ []) else record keeping { sent_since = true }
kept_attention keeping None = keeping

abbrev pub kept_key : Keeping → Option ℕ → KeyReply → Keeping
kept_key keeping aid (sent bytes) = kept_attention keeping aid
kept_key keeping aid reply = keeping

-- ---- a terminal that keeps them, or doesn't
abbrev pub keep_record : Option Keeping → List ℕ → Reply → Option Keeping
keep_record None bytes reply = None
keep_record (Some keeping) bytes reply = Some (kept_record keeping bytes reply)

abbrev pub keep_key : Option Keeping → Option ℕ → KeyReply → Option Keeping
keep_key None aid reply = None
keep_key (Some keeping) aid reply = Some (kept_key keeping aid reply)
