-- The names of actions.
use Rattle.std.specs.Prelude.{ℕ, Bool, List, [], ◌∷◌, codes, Option}
use Rattle.std.specs.List.{find}
use Rattle.std.specs.Str.{str_eq_ignore_ascii_case}
use Rattle.script_keys.specs.declared.name.Name.{Name}
use Rattle.script_keys.specs.declared.name.Name.TheVariants as names

-- as s3270 writes it
abbrev pub name_text : Name → List ℕ
name_text names.Connect = codes "Connect"
name_text names.Open = codes "Open"
name_text names.Disconnect = codes "Disconnect"
name_text names.Close = codes "Close"
name_text names.Quit = codes "Quit"
name_text names.Exit = codes "Exit"
name_text names.Enter = codes "Enter"
name_text names.Pf = codes "PF"
name_text names.Pa = codes "PA"
name_text names.Clear = codes "Clear"
name_text names.Tab = codes "Tab"
name_text names.BackTab = codes "BackTab"
name_text names.Home = codes "Home"
name_text names.Newline = codes "Newline"
name_text names.Up = codes "Up"
name_text names.Down = codes "Down"
name_text names.Left = codes "Left"
name_text names.Right = codes "Right"
name_text names.BackSpace = codes "BackSpace"
name_text names.Erase = codes "Erase"
name_text names.Delete = codes "Delete"
name_text names.DeleteField = codes "DeleteField"
name_text names.EraseEof = codes "EraseEOF"
name_text names.EraseInput = codes "EraseInput"
name_text names.FieldEnd = codes "FieldEnd"
name_text names.Reset = codes "Reset"
name_text names.MoveCursor = codes "MoveCursor"
name_text names.MoveCursor1 = codes "MoveCursor1"
name_text names.Key = codes "Key"
name_text names.String = codes "String"
name_text names.Ascii = codes "Ascii"
name_text names.Ascii1 = codes "Ascii1"
name_text names.AsciiField = codes "AsciiField"
name_text names.Ebcdic = codes "Ebcdic"
name_text names.Ebcdic1 = codes "Ebcdic1"
name_text names.EbcdicField = codes "EbcdicField"
name_text names.ReadBuffer = codes "ReadBuffer"
name_text names.Snap = codes "Snap"
name_text names.PrintText = codes "PrintText"
name_text names.Query = codes "Query"
name_text names.Show = codes "Show"
name_text names.Wait = codes "Wait"
name_text names.Set = codes "Set"
name_text names.Toggle = codes "Toggle"
name_text names.Info = codes "Info"
name_text names.Ignore = codes "ignore"
name_text names.Bell = codes "Bell"
name_text names.Expect = codes "Expect"
name_text names.Check = codes "Check"

-- all of them, each once
abbrev pub all_names : List Name
all_names =
    names.Ascii ∷ names.String ∷ names.MoveCursor ∷ names.Query ∷ names.Wait ∷ names.Enter ∷ names.Pf ∷ names.Connect ∷
    names.Disconnect ∷ names.Quit ∷ names.Tab ∷ names.BackTab ∷ names.Home ∷ names.Newline ∷ names.Up ∷ names.Down ∷
    names.Left ∷ names.Right ∷ names.Pa ∷ names.Clear ∷ names.BackSpace ∷ names.Erase ∷ names.Delete ∷ names.DeleteField ∷
    names.EraseEof ∷ names.EraseInput ∷ names.FieldEnd ∷ names.Reset ∷ names.MoveCursor1 ∷ names.Key ∷ names.Open ∷
    names.Close ∷ names.Exit ∷ names.Ascii1 ∷ names.AsciiField ∷ names.Ebcdic ∷ names.Ebcdic1 ∷ names.EbcdicField ∷
    names.ReadBuffer ∷ names.Snap ∷ names.PrintText ∷ names.Show ∷ names.Set ∷ names.Toggle ∷ names.Info ∷ names.Ignore ∷
    names.Bell ∷ names.Expect ∷ names.Check ∷ []

abbrev pub is_named : List ℕ → Name → Bool
is_named text name = str_eq_ignore_ascii_case text (name_text name)

-- the name that a text is, whole and in either case
unfoldable pub name_of : List ℕ → Option Name
name_of text = find (is_named text) all_names
