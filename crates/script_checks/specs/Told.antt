-- What is told of a screen.
use Rattle.std.specs.Prelude.{ℕ, Bool, List, [], length, Option, Some, None}
use Rattle.ds_screen.specs.Picture.{Picture}
use Rattle.scr_check.specs.Walk.{Stop}
use Rattle.tn_session.specs.Kept.{Kept}
use Rattle.script_checks.specs.declared.told.Verdict.{Verdict}
use Rattle.script_checks.specs.declared.told.Verdict.TheVariants.{NoLayout, NotKept, Yes, No}
use Rattle.script_checks.specs.Named.{Named, Listed, chosen}
use Rattle.script_checks.specs.Said.{stop_texts}
use Rattle.script_checks.specs.Turns.{are_several, stop_of}

-- the layout's name, the verdict, how many findings there are, and their lines
pub record Told : Type 0 where
  pub name : List ℕ
  pub verdict : Verdict
  pub findings : ℕ
  pub lines : List (List ℕ)

abbrev pub no_lines : List ℕ → Verdict → Told
no_lines name verdict = record { name = name; verdict = verdict; findings = 0; lines = [] }

abbrev pub stop_told : Named → Bool → Option Stop → Told
stop_told one several None = no_lines one.name Yes
stop_told one several (Some stop) =
    record { name = one.name; verdict = No; findings = length stop.findings; lines = stop_texts one.layout.entries several stop }

-- its turns are judged as Check does; of records that aren't kept nothing is known
abbrev pub kept_told : Named → Option (List Kept) → Told
kept_told one None = no_lines one.name NotKept
kept_told one (Some kept) = stop_told one (are_several kept) (stop_of one.layout kept)

abbrev pub chosen_told : Option Named → Option (List Kept) → Told
chosen_told None turns = no_lines [] NoLayout
chosen_told (Some one) turns = kept_told one turns

-- by the layout that it is taken for
abbrev pub told_of : Listed → Picture → Option (List Kept) → Told
told_of layouts v turns = chosen_told (chosen v layouts.all) turns
