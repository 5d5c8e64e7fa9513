-- The line of each fault, and what a result has to say of one.
use Rattle.std.specs.Prelude.{◌≡◌, ℕ, List, ◌++◌, codes, Result, Ok, Err}
use Rattle.std.specs.Fmt.{decimal}
use Rattle.std.specs.declared.io.ErrorKind.{ErrorKind}
use Rattle.std.specs.declared.io.ErrorKind.TheVariants.{OutOfMemory as MemoryKind}
use Rattle.ds_codec.specs.Writing.{flaw_words}
use Rattle.scr_layout.specs.declared.fault.LayoutError.{LayoutError}
use Rattle.scr_layout.specs.declared.fault.LayoutError.TheVariants.{Refused, OutOfMemory as LayoutMemory}
use Rattle.scr_layout.specs.Fault as layout
use Rattle.ds_terminal.specs.Refused.{refused_text}
use Rattle.cli_commands.specs.declared.fault.Fault.{Fault}
use Rattle.cli_commands.specs.declared.fault.Fault.TheVariants.{BadLine, BadKeyLine, TooLong, LayoutRefused, RecordRefused, Unwritable, TurnLayoutRefused, OtherGeometry, OtherCount}
use Rattle.cli_commands.specs.declared.fault.CommandError.{CommandError}
use Rattle.cli_commands.specs.declared.fault.CommandError.TheVariants.{Fault as Told, ReadFailed, OutOfMemory}

abbrev pub fault_text : Fault → List ℕ
fault_text (BadLine number) = codes "line " ++ (decimal number ++ codes " refused")
fault_text (BadKeyLine number) = codes "keys line " ++ (decimal number ++ codes " refused")
fault_text TooLong = codes "input too long"
fault_text (LayoutRefused fault) = codes "layout refused: " ++ layout.fault_text fault
fault_text (RecordRefused index refused) = codes "record " ++ (decimal index ++ (codes " " ++ refused_text refused))
fault_text (Unwritable index flaw) = codes "record " ++ (decimal index ++ (codes " unwritable: " ++ flaw_words flaw))
fault_text (TurnLayoutRefused turn fault) = codes "layout " ++ (decimal turn ++ (codes " refused: " ++ layout.fault_text fault))
fault_text (OtherGeometry turn) = codes "layout " ++ (decimal turn ++ codes " has another geometry")
fault_text (OtherCount turns layouts) = decimal turns ++ (codes " turns, " ++ (decimal layouts ++ codes " layouts"))

abbrev pub fault_line : Fault → List ℕ
fault_line fault = fault_text fault ++ codes "\n"

-- What was returned, seen by view, is what is due, unless memory was refused: nothing is read.
abbrev pub Gives : {A B : Type 0} → (A → B) → Result A CommandError → Result B Fault → Type 0
Gives view (Ok found) due = due ≡ Ok (view found)
Gives view (Err (Told fault)) due = due ≡ Err fault
Gives view (Err ReadFailed) due = ⊥
Gives view (Err OutOfMemory) due = Unit {0}

-- the same of what asks for no memory before it finds a fault: where one is due it is told, and nothing in its place
abbrev pub Finds : {A B : Type 0} → (A → B) → Result A CommandError → Result B Fault → Type 0
Finds view result (Ok found) = Gives view result (Ok found)
Finds view result (Err fault) = result ≡ Err (Told fault)

-- what reads gives the same: a read may fail too
abbrev pub GivesOrFails : {A B : Type 0} → (A → B) → Result A CommandError → Result B Fault → Type 0
GivesOrFails view (Err ReadFailed) due = Unit {0}
GivesOrFails view result due = Gives view result due

-- a read failed, or memory was refused
abbrev pub IsNoFault : CommandError → Type 0
IsNoFault (Told fault) = ⊥
IsNoFault ReadFailed = Unit {0}
IsNoFault OutOfMemory = Unit {0}

-- ---- errors of other libraries

abbrev pub layout_error : LayoutError → CommandError
layout_error (Refused fault) = Told (LayoutRefused fault)
layout_error LayoutMemory = OutOfMemory

abbrev pub read_error : ErrorKind → CommandError
read_error MemoryKind = OutOfMemory
read_error kind = ReadFailed
