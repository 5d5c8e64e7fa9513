use Rattle.std.proofs.Common.{◌≡◌, length}
use Rattle.bms_source.specs.Scan.{quote_end}
use Rattle.bms_source.specs.declared.scan.Quote.TheVariants.{Outside}
use Rattle.bms_source.proofs.scan.open_string.Given as goal

abbrev pub invariant-loop-rest : goal.invariant-loop-rest
invariant-loop-rest l = quote_end l.quote l.rest ≡ quote_end Outside l.letters

abbrev pub decreases-loop-rest : goal.decreases-loop-rest
decreases-loop-rest l = length l.rest
