-- What PrintText is asked for, as the program holds it.
use Rattle.cli_scripts.specs.declared.files.Printing.{Printing}
use Rattle.cli_scripts.specs.declared.files.Printing.TheVariants as asked
use Rattle.cli_scripts.specs.Says.{Printed, as_lines, as_page, as_fault}

abbrev pub printing_seen : Printing → Printed
printing_seen asked.Lines = as_lines
printing_seen (asked.Page path) = as_page path.now
printing_seen (asked.Fault words) = as_fault words.now
