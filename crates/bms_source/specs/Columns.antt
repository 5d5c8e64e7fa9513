-- The columns of a line, and what is wrong with them. Indices count from 0.
use Rattle.std.specs.Prelude.{ℕ, ◌+◌, ◌/◌, Bool, false, not, ◌&&◌, ◌==◌, nat_le, List, [], ◌∷◌, take, drop, position, Option, Some, None, is_none, Result, Ok, Err, if◌then◌else◌}
use Rattle.std.specs.List.{filter}
use Rattle.std.specs.Str.{is_utf8}
use Rattle.bms_source.specs.declared.columns.Part.{Part}
use Rattle.bms_source.specs.declared.columns.Part.TheVariants.{First, Later}
use Rattle.bms_source.specs.declared.refusal.Why.{Why}
use Rattle.bms_source.specs.declared.refusal.Why.TheVariants.{NotText, Tab, LineTooLong, BadContinuation, BadMark}
use Rattle.bms_source.specs.Told.{Told, told_at, place_at}

-- of a character that takes several bytes the first stands for it
abbrev pub columns_of : List ℕ → List ℕ
columns_of line = filter (λ byte. not (byte / 64 == 2)) line

-- columns 1 to 71
abbrev pub text_of : List ℕ → List ℕ
text_of columns = take 71 columns

abbrev pub first_other : List ℕ → Option ℕ
first_other columns = position (λ code. not (code == 32)) columns

abbrev pub first_tab : List ℕ → Option ℕ
first_tab columns = position (λ code. code == 9) columns

abbrev pub marks : List ℕ → Bool
marks [] = false
marks (mark ∷ others) = not (mark == 32)

-- column 72 is not blank
abbrev pub is_marked : List ℕ → Bool
is_marked columns = marks (drop 71 columns)

abbrev pub bad_of : Option ℕ → Option ℕ → Option (Why × ℕ)
bad_of None None = None
bad_of (Some tab) None = Some (Tab, tab)
bad_of None (Some long) = Some (LineTooLong, long + 80)
bad_of (Some tab) (Some long) = if nat_le tab (long + 80) then Some (Tab, tab) else Some (LineTooLong, long + 80)

-- the first tab, or the first character after column 80
unfoldable pub first_bad : List ℕ → Option (Why × ℕ)
first_bad columns = bad_of (first_tab columns) (first_other (drop 80 columns))

abbrev pub first_early : Part → List ℕ → Option ℕ
first_early First columns = None
first_early Later columns = first_other (take 15 columns)

abbrev pub is_blank : List ℕ → Bool
is_blank columns = is_none (first_other (text_of columns))

abbrev pub or_else : Option (Why × ℕ) → Option (Why × ℕ) → Option (Why × ℕ)
or_else None other = other
or_else (Some fault) other = Some fault

abbrev pub where_is : Why → Option ℕ → Option (Why × ℕ)
where_is why None = None
where_is why (Some at) = Some (why, at)

abbrev pub mark_if : Bool → Option (Why × ℕ)
mark_if bad = if bad then Some (BadMark, 71) else None

-- what is wrong with a line that begins a statement or goes on with one, and is the last one or not
unfoldable pub fault_of : Part → Bool → List ℕ → Option (Why × ℕ)
fault_of part is_last columns =
    or_else (first_bad columns)
    (or_else (mark_if (is_marked columns && is_blank columns))
    (or_else (where_is BadContinuation (first_early part columns))
    (mark_if (is_marked columns && is_last))))

abbrev pub unless : {A : Type 0} → ℕ → A → Option (Why × ℕ) → Result A Told
unless number value None = Ok value
unless number value (Some fault) = Err (told_at fault.0 (place_at number (fault.1 + 1)))

-- the columns of the line of a number, or what is wrong with it
unfoldable pub good_columns : ℕ → Part → Bool → List ℕ → Result (List ℕ) Told
good_columns number part is_last line =
    if is_utf8 line then unless number (columns_of line) (fault_of part is_last (columns_of line))
    else Err (told_at NotText (place_at number 1))
