-- What is wrong with an action, and what s3270 says of it.
use Rattle.std.specs.Prelude.{ℕ, List, ◌++◌, codes}
use Rattle.script_keys.specs.declared.name.Name.{Name}
use Rattle.script_keys.specs.declared.name.Name.TheVariants as names
use Rattle.script_keys.specs.Names.{name_text}
use Rattle.script_keys.specs.Arities.{arity_of, arity_words}

-- no action is called so; it has another number of arguments; an argument is none of the key's numbers
pub data Fault : Type 0 where
  unknown : (name : List ℕ) → Fault
  miscounted : (name : Name) → Fault
  invalid : (name : Name) → (argument : List ℕ) → Fault

-- the name by which faults call an action
abbrev pub told_name : Name → Name
told_name names.Open = names.Connect
told_name names.Close = names.Disconnect
told_name name = name

abbrev pub fault_text : Fault → List ℕ
fault_text (unknown name) = codes "Unknown action: " ++ name
fault_text (miscounted name) = name_text (told_name name) ++ (codes "() requires " ++ arity_words (arity_of name))
fault_text (invalid name argument) = name_text name ++ (codes "(): Invalid argument '" ++ (argument ++ codes "'"))
