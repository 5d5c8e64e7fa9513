-- The texts of faults and of findings have no line's end.
use Rattle.std.proofs.Common.{◌≡◌, ℕ, zero, suc, Bool, true, false, List, [], ◌∷◌, codes, length, Option, Some, None, refl, sym, arith, true≢false}
use Rattle.std.specs.Prelude.{◌&&◌, not, ◌==◌, nat_le, IsTrue, All}
use Rattle.std.proofs.lemmas.Bool.Decides.{nat_tests}
use Rattle.std.specs.List.{list_all}
use Rattle.ds_codec.specs.declared.refused.Why as read_why
use Rattle.ds_codec.specs.declared.refused.Why.TheVariants as reads
use Rattle.ds_codec.specs.Refused.{why_words as read_words}
use Rattle.ds_screen.specs.declared.refused.Why as apply_why
use Rattle.ds_screen.specs.declared.refused.Why.TheVariants as applies
use Rattle.ds_screen.specs.Refused.{why_words as apply_words}
use Rattle.ds_codec.specs.declared.write.Unwritable.{Unwritable}
use Rattle.ds_codec.specs.declared.write.Unwritable.TheVariants as flaws
use Rattle.ds_codec.specs.Writing.{flaw_words}
use Rattle.ds_terminal.specs.declared.refused.Refused.{Refused}
use Rattle.ds_terminal.specs.declared.refused.Refused.TheVariants.{Read, Apply}
use Rattle.ds_terminal.specs.Refused.{refused_text}
use Rattle.scr_layout.specs.declared.fault.Why as layout_why
use Rattle.scr_layout.specs.declared.fault.Why.TheVariants as layout_whys
use Rattle.scr_layout.specs.declared.fault.LayoutKey.{LayoutKey}
use Rattle.scr_layout.specs.declared.fault.LayoutKey.TheVariants as keys
use Rattle.scr_layout.specs.declared.fault.LayoutFault.{LayoutFault}
use Rattle.scr_layout.specs.Entry.{Declared, is_name, is_name_byte}
use Rattle.scr_layout.specs.Fault as layout_faults
use Rattle.scr_layout.specs.Layout.{Declaration, IsLayout}
use Rattle.scr_check.specs.declared.finding.Demo.{Demo}
use Rattle.scr_check.specs.declared.finding.Overlong.{Overlong}
use Rattle.scr_check.specs.declared.finding.Finding.{Finding}
use Rattle.scr_check.specs.declared.finding.Finding.TheVariants as findings
use Rattle.scr_check.specs.FindingText.{named, name_at, keys_end, overlong_text, finding_text}
use Rattle.cli_commands.specs.declared.fault.Fault.{Fault}
use Rattle.cli_commands.specs.declared.fault.Fault.TheVariants as faults
use Rattle.cli_commands.specs.Fault.{fault_text}
use Rattle.script_screens.specs.Laws.{is_whole}
use Rattle.script_checks.specs.declared.read.LayoutRefusal.{LayoutRefusal}
use Rattle.script_checks.specs.declared.read.LayoutRefusal.TheVariants.{Refused as Faulty, OtherSizes}
use Rattle.script_checks.specs.Read.{refusal_text}
use Rattle.script_checks.proofs.Whole.{Whole, and_true, lit, num, plus}

-- ---- words

read_whole : (x : read_why.Why) → is_whole (read_words x) ≡ true
read_whole reads.Empty = refl
read_whole reads.UnknownCommand = refl
read_whole reads.StructuredField = refl
read_whole reads.NoWcc = refl
read_whole reads.UnknownOrder = refl
read_whole reads.Truncated = refl
read_whole reads.ReservedAddress = refl
read_whole reads.BadType = refl
read_whole reads.BadCharacter = refl
read_whole reads.Trailing = refl

apply_whole : (x : apply_why.Why) → is_whole (apply_words x) ≡ true
apply_whole applies.AddressOutside = refl
apply_whole applies.NoFieldHere = refl
apply_whole applies.NotAWrite = refl

flaw_whole : (x : Unwritable) → is_whole (flaw_words x) ≡ true
flaw_whole (flaws.AddressOutside k) = refl
flaw_whole (flaws.BadText k) = refl
flaw_whole (flaws.BadPairs k) = refl
flaw_whole (flaws.BadCode k) = refl
flaw_whole flaws.NotAllowed = refl
flaw_whole flaws.OutOfMemory = refl

layout_why_whole : (x : layout_why.Why) → is_whole (layout_faults.refusal_text x) ≡ true
layout_why_whole layout_whys.NotToml = refl
layout_why_whole layout_whys.MissingKey = refl
layout_why_whole layout_whys.WrongKind = refl
layout_why_whole layout_whys.UnknownKey = refl
layout_why_whole layout_whys.BadSize = refl
layout_why_whole layout_whys.BadName = refl
layout_why_whole layout_whys.NameTwice = refl
layout_why_whole layout_whys.PlaceOutside = refl
layout_why_whole layout_whys.PlaceTwice = refl
layout_why_whole layout_whys.BadLength = refl
layout_why_whole layout_whys.TooManyFields = refl
layout_why_whole layout_whys.BadCount = refl

key_whole : (x : LayoutKey) → is_whole (layout_faults.key_text x) ≡ true
key_whole keys.Unknown = refl
key_whole keys.Version = refl
key_whole keys.Addresses = refl
key_whole keys.Default = refl
key_whole keys.Alternate = refl
key_whole keys.Screen = refl
key_whole keys.Field = refl
key_whole keys.Name = refl
key_whole keys.Row = refl
key_whole keys.Col = refl
key_whole keys.Length = refl
key_whole keys.Kind = refl
key_whole keys.Count = refl
key_whole keys.Down = refl

-- ---- faults

refused_line : (refused : Refused) → Whole (refused_text refused)
refused_line (Read refused) = plus (lit (codes "refused at ") refl) (plus (num refused.at) (plus (lit (codes ": ") refl) (lit (read_words refused.why) (read_whole refused.why))))
refused_line (Apply refused) = plus (lit (codes "refused at ") refl) (plus (num refused.at) (plus (lit (codes ": ") refl) (lit (apply_words refused.why) (apply_whole refused.why))))

which_line : (which : Option LayoutKey) → Whole (layout_faults.which_text which)
which_line None = lit [] refl
which_line (Some key) = plus (lit (codes " ") refl) (lit (layout_faults.key_text key) (key_whole key))

field_line : (field : Option ℕ) → Whole (layout_faults.field_text field)
field_line None = lit [] refl
field_line (Some n) = plus (lit (codes " in field ") refl) (num n)

layout_fault_line : (fault : LayoutFault) → Whole (layout_faults.fault_text fault)
layout_fault_line fault = plus (lit (layout_faults.refusal_text fault.why) (layout_why_whole fault.why)) (plus (which_line fault.which) (field_line fault.field))

fault_line : (fault : Fault) → Whole (fault_text fault)
fault_line (faults.BadLine number) = plus (lit (codes "line ") refl) (plus (num number) (lit (codes " refused") refl))
fault_line (faults.BadKeyLine number) = plus (lit (codes "keys line ") refl) (plus (num number) (lit (codes " refused") refl))
fault_line faults.TooLong = lit (codes "input too long") refl
fault_line (faults.LayoutRefused fault) = plus (lit (codes "layout refused: ") refl) (layout_fault_line fault)
fault_line (faults.RecordRefused index refused) = plus (lit (codes "record ") refl) (plus (num index) (plus (lit (codes " ") refl) (refused_line refused)))
fault_line (faults.Unwritable index flaw) =
    plus (lit (codes "record ") refl) (plus (num index) (plus (lit (codes " unwritable: ") refl) (lit (flaw_words flaw) (flaw_whole flaw))))
fault_line (faults.TurnLayoutRefused turn fault) = plus (lit (codes "layout ") refl) (plus (num turn) (plus (lit (codes " refused: ") refl) (layout_fault_line fault)))
fault_line (faults.OtherGeometry turn) = plus (lit (codes "layout ") refl) (plus (num turn) (lit (codes " has another geometry") refl))
fault_line (faults.OtherCount turns layouts) = plus (num turns) (plus (lit (codes " turns, ") refl) (plus (num layouts) (lit (codes " layouts") refl)))

pub refusal_line : (refusal : LayoutRefusal) → Whole (refusal_text refusal)
refusal_line (Faulty fault) = fault_line fault
refusal_line OtherSizes = lit (codes "no device of these sizes") refl

-- ---- findings

-- the names of entries are whole
abbrev pub NamesAreWhole : List Declared → Type 0
NamesAreWhole [] = Unit {0}
NamesAreWhole (entry ∷ entries) = Whole entry.name × NamesAreWhole entries

name_line : (entries : List Declared) (index : ℕ) → NamesAreWhole entries → Whole (name_at entries index)
name_line [] index names = lit [] refl
name_line (entry ∷ entries) zero names = names.0
name_line (entry ∷ entries) (suc index) names = name_line entries index names.1

keys_line : (demo : Option Demo) → Whole (keys_end demo)
keys_line None = lit [] refl
keys_line (Some demo) =
    plus (lit (codes ", keys: ") refl) (plus (lit (codes "right ") refl) (plus (num demo.rights) (plus (lit (codes ", type ") refl) (num demo.types))))

overlong_line : (name : List ℕ) (found : Overlong) → Whole name → Whole (overlong_text name found)
overlong_line name found whole =
    plus (lit (codes "F11 ") refl)
    (plus whole (plus (lit (codes " length ") refl) (plus (num found.length) (plus (lit (codes ", declared ") refl) (plus (num found.declared) (keys_line found.demo))))))

pub finding_line : (entries : List Declared) (finding : Finding) → NamesAreWhole entries → Whole (finding_text entries finding)
finding_line entries (findings.RecordRefused index refused) names = plus (lit (codes "F1 record ") refl) (plus (num index) (plus (lit (codes " ") refl) (refused_line refused)))
finding_line entries findings.NoRecord names = lit (codes "F2 no record") refl
finding_line entries findings.FirstNotErase names = lit (codes "F3 first record does not erase") refl
finding_line entries (findings.NotAWrite index) names = plus (lit (codes "F4 record ") refl) (plus (num index) (lit (codes " is no write") refl))
finding_line entries findings.KeyboardLocked names = lit (codes "F5 keyboard stays locked") refl
finding_line entries (findings.OtherSize shown declared) names =
    plus (lit (codes "F6 size ") refl)
    (plus (num shown.rows) (plus (lit (codes "x") refl) (plus (num shown.cols) (plus (lit (codes ", layout ") refl)
    (plus (num declared.rows) (plus (lit (codes "x") refl) (num declared.cols)))))))
finding_line entries findings.Unformatted names = lit (codes "F7 no field") refl
finding_line entries (findings.Undeclared place demo) names = plus (lit (codes "F8 undeclared input at ") refl) (plus (num place) (keys_line (Some demo)))
finding_line entries (findings.UndeclaredFixed place demo) names = plus (lit (codes "F9 undeclared fixed at ") refl) (plus (num place) (keys_line (Some demo)))
finding_line entries (findings.Missing index) names = plus (lit (codes "F10 missing ") refl) (name_line entries index names)
finding_line entries (findings.TooLong found) names = overlong_line (name_at entries found.entry) found (name_line entries found.entry names)
finding_line entries (findings.OtherKind index) names = plus (lit (codes "F12 ") refl) (plus (name_line entries index names) (lit (codes " is of the other kind") refl))
finding_line entries (findings.EmptyModified place) names = plus (lit (codes "F13 empty modified field at ") refl) (num place)
finding_line entries (findings.CursorDependent index) names = plus (lit (codes "F14 record ") refl) (plus (num index) (lit (codes " depends on the cursor") refl))
finding_line entries (findings.Selectable place) names = plus (lit (codes "F15 selectable at ") refl) (num place)

-- ---- layouts

both : (a b : Bool) → (a && b) ≡ true → (a ≡ true) × (b ≡ true)
both true b is = (refl, is)
both false b is = absurd (true≢false (sym is))

name_byte_whole : (byte : ℕ) → is_name_byte byte ≡ true → not (byte == 10) ≡ true
name_byte_whole byte named = grind (arith, nat_tests)

name_bytes_whole : (name : List ℕ) → list_all is_name_byte name ≡ true → is_whole name ≡ true
name_bytes_whole [] named = refl
name_bytes_whole (byte ∷ bytes) named =
    let parts = both (is_name_byte byte) (list_all is_name_byte bytes) named in
    and_true (not (byte == 10)) (is_whole bytes) (name_byte_whole byte parts.0) (name_bytes_whole bytes parts.1)

named_line : (name : List ℕ) → is_name name ≡ true → Whole name
named_line name is = lit name (name_bytes_whole name (both (nat_le 1 (length name) && nat_le (length name) 32) (list_all is_name_byte name) is).1)

all_named : (entries : List Declared) → All (λ (entry : Declared). IsTrue (is_name entry.name)) entries → NamesAreWhole entries
all_named [] names = tt
all_named (entry ∷ entries) names = (
  named_line entry.name (names 0 entry (omega arith)),
  all_named entries (λ k d few. names (suc k) d (omega (arith, few))),
)

pub names_of_layout : (layout : Declaration) → IsLayout layout → NamesAreWhole layout.entries
names_of_layout layout law = all_named layout.entries law.named
