-- Named layouts as the program holds them.
use Rattle.std.specs.Prelude.{Option, option_map}
use Rattle.std.specs.Borrow.{Bor}
use Rattle.script_checks.specs.declared.layouts.Named as held
use Rattle.script_checks.specs.Named.{Named}

abbrev pub named_view : held.Named → Named
named_view one = record { name = one.name.items; layout = one.layout }

abbrev pub one_seen : Option (Bor held.Named) → Option Named
one_seen one = option_map (λ n. named_view n.now) one
