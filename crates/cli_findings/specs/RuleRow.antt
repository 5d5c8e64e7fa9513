-- What is told of each rule: one row each.
use Rattle.std.specs.Prelude.{◌≡◌, ℕ, List, codes, Option, None, Some, option_map}
use Rattle.cli_findings.specs.declared.rule.Rule.{Rule}
use Rattle.cli_findings.specs.declared.rule.Rule.TheVariants.{RecordRefused, NoRecord, FirstNotErase, NotAWrite, KeyboardLocked, OtherSize, Unformatted, Undeclared, UndeclaredFixed, Missing, TooLong, OtherKind, EmptyModified, CursorDependent, InputRefused, Selectable}
use Rattle.cli_findings.specs.declared.rule_row.RuleRow.{RuleRow}

-- where a rule stands among all rules, counted from 0; the number of its findings, behind an F; its name, in kebab case; what it is about;
-- what it means, and how it is mended; the change that ends each of its findings, where that names nothing of the finding; and what is printed
-- after the number, with words in capitals for what differs
pub record Row : Type 0 where
  pub index : ℕ
  pub id : List ℕ
  pub name : List ℕ
  pub brief : List ℕ
  pub meaning : List ℕ
  pub mend : List ℕ
  pub change : Option (List ℕ)
  pub form : List ℕ

-- the row of the code that says the same
pub record IsRow (told : RuleRow) (row : Row) : Type 0 where
  pub index : told.index ≡ row.index
  pub id : told.id.now ≡ row.id
  pub name : told.name.now ≡ row.name
  pub brief : told.brief.now ≡ row.brief
  pub meaning : told.meaning.now ≡ row.meaning
  pub mend : told.mend.now ≡ row.mend
  pub change : option_map (λ words. words.now) told.change ≡ row.change
  pub form : told.form.now ≡ row.form

abbrev pub row_of : Rule → Row
row_of RecordRefused = record {
  index = 0;
  id = codes "F1";
  name = codes "record-refused";
  brief = codes "A record is refused";
  meaning = codes "A record can't be read, or a terminal can't do what it says.";
  mend = codes "Correct the record at the byte that is told.";
  change = None;
  form = codes "record I refused at A: WHY";
}
row_of NoRecord = record {
  index = 1;
  id = codes "F2";
  name = codes "no-record";
  brief = codes "There is no record";
  meaning = codes "There is no record to look at.";
  mend = codes "Give the records that write the screen.";
  change = Some (codes "give the records that write the screen");
  form = codes "no record";
}
row_of FirstNotErase = record {
  index = 2;
  id = codes "F3";
  name = codes "first-does-not-erase";
  brief = codes "The first record does not erase";
  meaning = codes "The first record keeps what stood on the screen before, which no one knows.";
  mend = codes "Begin with Erase/Write or Erase/Write Alternate.";
  change = Some (codes "begin record 0 with Erase/Write, F5, or Erase/Write Alternate, 7E");
  form = codes "first record does not erase";
}
row_of NotAWrite = record {
  index = 3;
  id = codes "F4";
  name = codes "no-write";
  brief = codes "A record is no write";
  meaning = codes "A record is a read or No-operation.";
  mend = codes "Leave it out.";
  change = None;
  form = codes "record I is no write";
}
row_of KeyboardLocked = record {
  index = 4;
  id = codes "F5";
  name = codes "keyboard-locked";
  brief = codes "The keyboard stays locked";
  meaning = codes "After the last record the operator can't type.";
  mend = codes "Set the bit that restores the keyboard in the last write control character.";
  change = Some (codes "set bit 02, which restores the keyboard, of the last write control character");
  form = codes "keyboard stays locked";
}
row_of OtherSize = record {
  index = 5;
  id = codes "F6";
  name = codes "other-size";
  brief = codes "The screen has another size";
  meaning = codes "The screen has another size than the one that the layout names.";
  mend = codes "Erase/Write for the default size, Erase/Write Alternate for the alternate; or change the layout's screen.";
  change = Some (codes "erase by Erase/Write, F5, for the default size and by Erase/Write Alternate, 7E, for the alternate, or change the layout's screen");
  form = codes "size RxC, layout RxC";
}
row_of Unformatted = record {
  index = 6;
  id = codes "F7";
  name = codes "no-field";
  brief = codes "The screen has no field";
  meaning = codes "The screen has no field attribute.";
  mend = codes "Write attributes: a screen without fields has no layout.";
  change = Some (codes "write attributes, each by Start Field, 1D");
  form = codes "no field";
}
row_of Undeclared = record {
  index = 7;
  id = codes "F8";
  name = codes "undeclared-input";
  brief = codes "An input has no entry";
  meaning = codes "An input has no entry: the operator can change it, and it is sent.";
  mend = codes "Declare it, or protect it.";
  change = None;
  form = codes "undeclared input at P, keys: right N, type N";
}
row_of UndeclaredFixed = record {
  index = 8;
  id = codes "F9";
  name = codes "undeclared-fixed";
  brief = codes "A modified protected field has no entry";
  meaning = codes "A protected field has its modified data tag set and no entry: it is sent with every answer.";
  mend = codes "Reset the tag, or declare it as fixed.";
  change = None;
  form = codes "undeclared fixed at P, keys: right 0, type 0";
}
row_of Missing = record {
  index = 9;
  id = codes "F10";
  name = codes "missing";
  brief = codes "An entry has no field";
  meaning = codes "No field stands at the place of an entry.";
  mend = codes "Write an attribute one position before it, or correct the entry.";
  change = None;
  form = codes "missing NAME";
}
row_of TooLong = record {
  index = 10;
  id = codes "F11";
  name = codes "too-long";
  brief = codes "A field is longer than its entry";
  meaning = codes "A field has more cells than its entry declares: the operator can type more than the program takes.";
  mend = codes "End the field by an attribute, or declare its length.";
  change = None;
  form = codes "NAME length L, declared D, keys: right N, type N";
}
row_of OtherKind = record {
  index = 11;
  id = codes "F12";
  name = codes "other-kind";
  brief = codes "A field is of the other kind";
  meaning = codes "An entry is an input where the field is protected, or fixed where it isn't.";
  mend = codes "Change the attribute, or the entry's kind.";
  change = None;
  form = codes "NAME is of the other kind";
}
row_of EmptyModified = record {
  index = 12;
  id = codes "F13";
  name = codes "empty-modified";
  brief = codes "An empty field is sent";
  meaning = codes "Two attributes stand side by side, and the first has its modified data tag set: an empty field is sent.";
  mend = codes "Reset the tag.";
  change = None;
  form = codes "empty modified field at P";
}
row_of CursorDependent = record {
  index = 13;
  id = codes "F14";
  name = codes "cursor-dependent";
  brief = codes "A write depends on the cursor";
  meaning = codes "A record of a later turn of a dialogue writes where the operator left the cursor.";
  mend = codes "Begin the write with Set Buffer Address.";
  change = None;
  form = codes "record I depends on the cursor";
}
row_of InputRefused = record {
  index = 14;
  id = codes "refused";
  name = codes "input-refused";
  brief = codes "An input is refused";
  meaning = codes "The layout or a line of records can't be read.";
  mend = codes "Correct the line that is told.";
  change = None;
  form = codes "WHY";
}
row_of Selectable = record {
  index = 15;
  id = codes "F15";
  name = codes "selectable";
  brief = codes "A field can be selected that is protected or has no cell";
  meaning = codes "Cursor Select or a light pen can select a field that is protected or has no cell: that changes it, and can send it.";
  mend = codes "Reset the display bits, or begin the field with another character.";
  change = None;
  form = codes "selectable at P";
}
