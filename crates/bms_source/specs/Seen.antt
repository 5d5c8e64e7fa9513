-- What is read, as the program holds it.
use Rattle.bms_source.specs.declared.statement.Read.{Read}
use Rattle.bms_source.specs.declared.statement.Read.TheVariants.{Passed, End, Macro}
use Rattle.bms_source.specs.Statement.{Found, passed, ended, said}

abbrev pub seen : Read → Found
seen Passed = passed
seen (End place) = ended place
seen (Macro statement) = said statement
