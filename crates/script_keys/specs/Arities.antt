-- How many arguments an action has.
use Rattle.std.specs.Prelude.{ℕ, ◌==◌, nat_le, Bool, true, ◌&&◌, List, codes}
use Rattle.script_keys.specs.declared.arity.Arity.{Arity}
use Rattle.script_keys.specs.declared.arity.Arity.TheVariants as arities
use Rattle.script_keys.specs.declared.name.Name.{Name}
use Rattle.script_keys.specs.declared.name.Name.TheVariants as names

abbrev pub takes : Arity → ℕ → Bool
takes arities.None count = count == 0
takes arities.One count = count == 1
takes arities.NoneOrOne count = nat_le count 1
takes arities.OneOrTwo count = nat_le 1 count && nat_le count 2
takes arities.Any count = true

abbrev pub arity_words : Arity → List ℕ
arity_words arities.None = codes "0 arguments"
arity_words arities.One = codes "1 argument"
arity_words arities.NoneOrOne = codes "0 or 1 arguments"
arity_words arities.OneOrTwo = codes "1 or 2 arguments"
arity_words arities.Any = codes "any arguments"

-- what s3270 4.1 takes
abbrev pub arity_of : Name → Arity
arity_of names.Connect = arities.One
arity_of names.Open = arities.One
arity_of names.Pf = arities.One
arity_of names.Pa = arities.One
arity_of names.Info = arities.One
arity_of names.Check = arities.One
arity_of names.MoveCursor = arities.OneOrTwo
arity_of names.MoveCursor1 = arities.OneOrTwo
arity_of names.Expect = arities.OneOrTwo
arity_of names.Query = arities.NoneOrOne
arity_of names.Show = arities.NoneOrOne
arity_of names.Quit = arities.Any
arity_of names.Exit = arities.Any
arity_of names.Key = arities.Any
arity_of names.String = arities.Any
arity_of names.Ascii = arities.Any
arity_of names.Ascii1 = arities.Any
arity_of names.Ebcdic = arities.Any
arity_of names.Ebcdic1 = arities.Any
arity_of names.ReadBuffer = arities.Any
arity_of names.Snap = arities.Any
arity_of names.PrintText = arities.Any
arity_of names.Wait = arities.Any
arity_of names.Set = arities.Any
arity_of names.Toggle = arities.Any
arity_of names.Ignore = arities.Any
arity_of name = arities.None
