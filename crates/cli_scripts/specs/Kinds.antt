-- Actions that press no key of their names, by what they do.
use Rattle.script_keys.specs.declared.name.Name.{Name}
use Rattle.script_keys.specs.declared.name.Name.TheVariants as names
use Rattle.script_screens.specs.declared.query.Query.TheVariants as asked
use Rattle.script_screens.specs.declared.reading.Reading.TheVariants as readings
use Rattle.cli_scripts.specs.declared.kind.Kind.{Kind}
use Rattle.cli_scripts.specs.declared.kind.Kind.TheVariants.{Types, TypesKey, Waits, Prints, Checks, Reads, Snaps, Tells, Sets, Expects, Rings, Rests}
use Rattle.cli_scripts.specs.declared.settings.Verb.TheVariants as verbs

-- Info and Ignore do nothing; the others that are left are no actions of this kind
abbrev pub kind_of : Name → Kind
kind_of names.String = Types
kind_of names.Key = TypesKey
kind_of names.Wait = Waits
kind_of names.PrintText = Prints
kind_of names.Check = Checks
kind_of names.Ascii = Reads readings.Ascii
kind_of names.Ascii1 = Reads readings.Ascii1
kind_of names.AsciiField = Reads readings.AsciiField
kind_of names.Ebcdic = Reads readings.Ebcdic
kind_of names.Ebcdic1 = Reads readings.Ebcdic1
kind_of names.EbcdicField = Reads readings.EbcdicField
kind_of names.ReadBuffer = Reads readings.ReadBuffer
kind_of names.Snap = Snaps
kind_of names.Query = Tells asked.Query
kind_of names.Show = Tells asked.Show
kind_of names.Set = Sets verbs.Set
kind_of names.Toggle = Sets verbs.Toggle
kind_of names.Expect = Expects
kind_of names.Bell = Rings
kind_of name = Rests
