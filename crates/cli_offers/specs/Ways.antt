-- The ways through an application that are judged.
use Rattle.std.specs.Prelude.{ℕ, zero, suc, ◌==◌, Bool, true, false, not, ◌&&◌, ◌||◌, List, [], ◌∷◌, ◌++◌, length, map, Option, Some, None, slice_get, if◌then◌else◌}
use Rattle.std.specs.List.{flat_map, list_any, range_with_len}
use Rattle.ds_codec.specs.declared.command.CommandCode.{CommandCode}
use Rattle.ds_codec.specs.declared.command.CommandCode.TheVariants.{EraseWrite, EraseWriteAlternate}
use Rattle.ds_codec.specs.Command.{command_code_at}
use Rattle.cli_applications.specs.Manifest.{Planned, leads_to}

-- ---- which screens begin with an erase

abbrev pub erases_by : Option CommandCode → Bool
erases_by (Some EraseWrite) = true
erases_by (Some EraseWriteAlternate) = true
erases_by code = false

abbrev pub erases_at : Option ℕ → Bool
erases_at None = false
erases_at (Some byte) = erases_by (command_code_at byte)

abbrev pub first_erases : Option (List ℕ) → Bool
first_erases None = false
first_erases (Some bytes) = erases_at (slice_get bytes 0)

-- its first record is an Erase/Write, or an Erase/Write Alternate
abbrev pub erases : List (List ℕ) → Bool
erases records = first_erases (slice_get records 0)

-- ---- one screen after another

abbrev pub is_true : Option Bool → Bool
is_true None = false
is_true (Some b) = b

abbrev pub leads_on : Option Planned → ℕ → Bool
leads_on None n = false
leads_on (Some plan) n = leads_to plan.leads n

-- the screens, and of each whether it begins with an erase
pub record Shown : Type 0 where
  pub first : ℕ
  pub plans : List Planned
  pub erased : List Bool

abbrev pub is_erased : Shown → ℕ → Bool
is_erased shown n = is_true (slice_get shown.erased n)

-- the n-th is written over what the s-th left: a key leads there, or none does and the s-th is shown again
abbrev pub is_over : Shown → ℕ → ℕ → Bool
is_over shown s n = not (is_erased shown n) && ((s == n) || leads_on (slice_get shown.plans s) n)

abbrev pub all_of : Shown → List ℕ
all_of shown = range_with_len 0 (length shown.plans)

-- ---- a way

-- screens that come one after the other, by their numbers: the first, the others in turn, and the last of all
pub record Way : Type 0 where
  pub first : ℕ
  pub others : List ℕ
  pub last : ℕ

abbrev pub alone : ℕ → Way
alone n = record { first = n; others = []; last = n }

abbrev pub with_screen : Way → ℕ → Way
with_screen way n = record { first = way.first; others = way.others ++ n ∷ []; last = n }

-- ---- screens by themselves

abbrev pub is_alone : Shown → ℕ → Bool
is_alone shown n = (n == shown.first) || is_erased shown n

-- each screen that begins with an erase by itself, and the first in any case
abbrev pub alone_at : Shown → ℕ → List Way
alone_at shown n = if is_alone shown n then alone n ∷ [] else []

-- ---- screens that don't erase, over one that does

abbrev pub on_at : Shown → Way → ℕ → List Way
on_at shown way n = if is_over shown way.last n then with_screen way n ∷ [] else []

-- the ways of one screen more
abbrev pub ways_on : Shown → Way → List Way
ways_on shown way = flat_map (on_at shown way) (all_of shown)

abbrev pub all_on : Shown → List Way → List Way
all_on shown ways = flat_map (ways_on shown) ways

-- all ways from the p-th screen with so many screens after it, in the order of the manifest
abbrev pub ways_of : Shown → ℕ → ℕ → List Way
ways_of shown p zero = alone p ∷ []
ways_of shown p (suc count) = all_on shown (ways_of shown p count)

-- those with one screen after it, those with two, and so on
abbrev pub ways_up_to : Shown → ℕ → ℕ → List Way
ways_up_to shown p count = flat_map (ways_of shown p) (range_with_len 1 count)

abbrev pub ends_of : List Way → List ℕ
ends_of ways = map (λ way. way.last) ways

abbrev pub is_known : List ℕ → ℕ → Bool
is_known known n = list_any (λ m. n == m) known

-- those of the ways that come to a screen that isn't known, nor came before
abbrev pub fresh : List ℕ → List Way → List Way
fresh known [] = []
fresh known (way ∷ ways) = if is_known known way.last then fresh known ways else way ∷ fresh (known ++ way.last ∷ []) ways

-- Of all ways over the p-th screen those that come first to their last one; each of them with each screen over that.
abbrev pub ways_over : Shown → ℕ → List Way
ways_over shown p = all_on shown (fresh [] (ways_up_to shown p (length shown.plans)))

abbrev pub over_at : Shown → ℕ → List Way
over_at shown p = if is_erased shown p then ways_over shown p else []

abbrev pub ways : Shown → List Way
ways shown = flat_map (alone_at shown) (all_of shown) ++ flat_map (over_at shown) (all_of shown)
