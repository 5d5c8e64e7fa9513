-- What the words of `serve` ask for many terminals.
use Rattle.std.specs.Prelude.{◌≡◌, Bool, ◌||◌, List, is_some, codes}
use Rattle.clap.specs.Words.{Row, first_of}
use Rattle.cli_words.specs.declared.many.Many.{Many}
use Rattle.cli_words.specs.Values.{IsNumber}

abbrev pub AreMany : List Row → Many → Type 0
AreMany rows many = IsNumber (codes "count") rows many.count × IsNumber (codes "at-once") rows many.at_once
    × IsNumber (codes "answers") rows many.answers × IsNumber (codes "idle") rows many.idle
    × IsNumber (codes "per-second") rows many.per_second

-- one of the options is there that ask for more than terminals in turn
abbrev pub HasManyWords : List Row → Bool → Type 0
HasManyWords rows has = has ≡ (is_some (first_of (codes "at-once") rows) || (is_some (first_of (codes "answers") rows)
    || (is_some (first_of (codes "idle") rows) || is_some (first_of (codes "per-second") rows))))
