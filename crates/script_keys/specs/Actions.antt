-- What an action asks for, by its name and its arguments.
use Rattle.std.specs.Prelude.{ℕ, nat_le, ◌&&◌, List, [], ◌∷◌, length, Option, Some, None, Result, Ok, Err, if◌then◌else◌}
use Rattle.ds_codec.specs.Aid.{access_aid, function_aid}
use Rattle.ds_keys.specs.declared.key.Key.{Key}
use Rattle.ds_keys.specs.declared.key.Key.TheVariants as pressed
use Rattle.script_keys.specs.declared.keys.Keys.{Keys}
use Rattle.script_keys.specs.declared.keys.Keys.TheVariants.{Plain, Freeing, Erase, FieldEnd, DeleteField, MoveTo}
use Rattle.script_keys.specs.declared.name.Name.{Name}
use Rattle.script_keys.specs.declared.name.Name.TheVariants as names
use Rattle.script_keys.specs.declared.number.Number.{Number}
use Rattle.script_keys.specs.declared.target.Target.{Target}
use Rattle.script_keys.specs.declared.target.Target.TheVariants.{Cell, Position}
use Rattle.script_keys.specs.Arities.{arity_of, takes}
use Rattle.script_keys.specs.Faults.{Fault, unknown, miscounted, invalid}
use Rattle.script_keys.specs.Names.{name_of}
use Rattle.script_keys.specs.Numbers.{number_of}
use Rattle.script_keys.specs.Targets.{natural, counted}

-- keys, a host to connect to, the end of the session or of the script, or what else it is called
pub data Action : Type 0 where
  keys : (pressed : Keys) → Action
  connect : (host : List ℕ) → Action
  disconnect : Action
  quit : Action
  other : (name : Name) → (arguments : List (List ℕ)) → Action

-- PF1 to PF24
abbrev pub pf_key : Number → Option Key
pf_key number =
    if nat_le 1 (natural number) && nat_le (natural number) 24 then Some (pressed.Attention (function_aid (natural number))) else None

-- PA1 to PA3
abbrev pub pa_key : Number → Option Key
pa_key number =
    if nat_le 1 (natural number) && nat_le (natural number) 3 then Some (pressed.Attention (access_aid (natural number))) else None

-- what a name presses that has no arguments; after an operator's error some free the keyboard first
abbrev pub keys_named : Name → Option Keys
keys_named names.Enter = Some (Plain (pressed.Attention 0x7D))
keys_named names.Clear = Some (Plain (pressed.Attention 0x6D))
keys_named names.Tab = Some (Freeing pressed.Tab)
keys_named names.BackTab = Some (Freeing pressed.BackTab)
keys_named names.Home = Some (Freeing pressed.Home)
keys_named names.Newline = Some (Plain pressed.NewLine)
keys_named names.Up = Some (Freeing pressed.Up)
keys_named names.Down = Some (Freeing pressed.Down)
keys_named names.Left = Some (Freeing pressed.Left)
keys_named names.Right = Some (Freeing pressed.Right)
keys_named names.BackSpace = Some (Plain pressed.Left)
keys_named names.Erase = Some Erase
keys_named names.Delete = Some (Plain pressed.Delete)
keys_named names.DeleteField = Some DeleteField
keys_named names.EraseEof = Some (Freeing pressed.EraseEof)
keys_named names.EraseInput = Some (Freeing pressed.EraseInput)
keys_named names.FieldEnd = Some FieldEnd
keys_named names.Reset = Some (Plain pressed.Reset)
keys_named name = None

abbrev pub first_of : List (List ℕ) → List ℕ
first_of [] = []
first_of (first ∷ others) = first

-- a key that sends, of a number that names one
abbrev pub sending : Name → List ℕ → Option Key → Result Action Fault
sending name argument (Some key) = Ok (keys (Plain key))
sending name argument None = Err (invalid name argument)

abbrev pub position_of : List (List ℕ) → Target
position_of arguments = Position (natural (number_of (first_of arguments)))

-- a row and a column, or a position, all from 0
abbrev pub target_from_0 : List (List ℕ) → Target
target_from_0 (row ∷ column ∷ []) = Cell (natural (number_of row)) (natural (number_of column))
target_from_0 arguments = position_of arguments

-- a row and a column from 1, or a position, which is from 0 here too
abbrev pub target_from_1 : List (List ℕ) → Target
target_from_1 (row ∷ column ∷ []) = Cell (counted (number_of row)) (counted (number_of column))
target_from_1 arguments = position_of arguments

abbrev pub keyed_or_other : Name → List (List ℕ) → Option Keys → Action
keyed_or_other name arguments (Some it) = keys it
keyed_or_other name arguments None = other name arguments

-- Open, Close and Exit are other names of Connect, Disconnect and Quit
abbrev pub simply_named : Name → List (List ℕ) → Action
simply_named names.Connect arguments = connect (first_of arguments)
simply_named names.Open arguments = connect (first_of arguments)
simply_named names.Disconnect arguments = disconnect
simply_named names.Close arguments = disconnect
simply_named names.Quit arguments = quit
simply_named names.Exit arguments = quit
simply_named name arguments = keyed_or_other name arguments (keys_named name)

-- of as many arguments as it may have
abbrev pub counted_action : Name → List (List ℕ) → Result Action Fault
counted_action names.Pf arguments = sending names.Pf (first_of arguments) (pf_key (number_of (first_of arguments)))
counted_action names.Pa arguments = sending names.Pa (first_of arguments) (pa_key (number_of (first_of arguments)))
counted_action names.MoveCursor arguments = Ok (keys (MoveTo (target_from_0 arguments)))
counted_action names.MoveCursor1 arguments = Ok (keys (MoveTo (target_from_1 arguments)))
counted_action name arguments = Ok (simply_named name arguments)

abbrev pub named_action : Option Name → List ℕ → List (List ℕ) → Result Action Fault
named_action None text arguments = Err (unknown text)
named_action (Some name) text arguments =
    if takes (arity_of name) (length arguments) then counted_action name arguments else Err (miscounted name)

abbrev pub read_action : List ℕ → List (List ℕ) → Result Action Fault
read_action text arguments = named_action (name_of text) text arguments
