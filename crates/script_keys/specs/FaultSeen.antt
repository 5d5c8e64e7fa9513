-- What is wrong, as the program holds it.
use Rattle.script_keys.specs.declared.fault.Fault as found
use Rattle.script_keys.specs.declared.fault.Fault.TheVariants as variants
use Rattle.script_keys.specs.Faults.{Fault, unknown, miscounted, invalid}

abbrev pub fault_seen : found.Fault → Fault
fault_seen (variants.Unknown name) = unknown name.now
fault_seen (variants.Arguments name) = miscounted name
fault_seen (variants.Invalid name argument) = invalid name argument.now
