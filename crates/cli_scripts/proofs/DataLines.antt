-- Data lines, none of which has a line's end within it.
use Rattle.std.proofs.Common.{◌≡◌, ℕ, Bool, true, false, cond, List, [], ◌∷◌, ◌++◌, codes, refl, sym, ap, ◌∙◌, arith}
use Rattle.std.proofs.lemmas.List.{append-nil}
use Rattle.std.specs.declared.alloc.AllocError.{AllocError}
use Rattle.std.specs.Prelude.{IfOk, OnOk, Result, Ok, Err, not, ◌==◌, nat_lt}
use Rattle.std.specs.Fmt.{decimal}
use Rattle.std.proofs.lemmas.Bool.{ne_eqb, ltb-false}
use Rattle.std.proofs.lemmas.Grind.{flat_map-append}
use Rattle.std.proofs.lemmas.List.Folds.{list_all-append}
use Rattle.script_lines.specs.declared.fault.SyntaxFault.{SyntaxFault}
use Rattle.script_lines.specs.declared.fault.SyntaxWhy.{SyntaxWhy}
use Rattle.script_lines.specs.declared.fault.SyntaxWhy.TheVariants.{NoName, BadName, Close, CloseOrComma, Unclosed}
use Rattle.tn_cores.specs.declared.device.Device.{Device}
use Rattle.tn_cores.specs.declared.device.ScreenModel.{ScreenModel}
use Rattle.tn_cores.specs.declared.device.ScreenModel.TheVariants.{Two, Three, Four, Five}
use Rattle.tn_cores.specs.Devices.{name_of, name_in}
use Rattle.script_screens.specs.declared.lines.Outcome.{Outcome}
use Rattle.script_screens.specs.declared.pieces.StringFault.{StringFault}
use Rattle.script_screens.specs.declared.pieces.StringFault.TheVariants as faults
use Rattle.script_screens.specs.declared.snap.SnapFault.{SnapFault}
use Rattle.script_screens.specs.declared.snap.SnapFault.TheVariants as snaps
use Rattle.script_screens.specs.Laws.{is_whole, are_whole}
use Rattle.script_screens.specs.Lines.{data_line, data_lines, Said, Says, failed}
use Rattle.script_screens.specs.Pieces.{fault_words}
use Rattle.script_screens.specs.Snap.{snap_fault_words}
use Rattle.script_screens.proofs.Whole.{and_true, join, decimal_whole}
use Rattle.cli_scripts.specs.Answers.{printed_byte, printed_text, printed_name, syntax_words, syntax_text, AreData}

-- ---- texts

pub no_data : AreData []
no_data = ([], refl, refl)

pub more_data : (xs ys : List ℕ) → AreData xs → AreData ys → AreData (xs ++ ys)
more_data xs ys (first, whole, is) (second, sound, so) = (
  first ++ second,
  list_all-append is_whole first second ∙ and_true _ _ whole sound,
  ap (λ z. z ++ ys) is ∙ ap (λ z. data_lines first ++ z) so ∙ sym (flat_map-append data_line first second),
)

pub one_line : (text : List ℕ) → is_whole text ≡ true → AreData (data_line text)
one_line text whole = (text ∷ [], and_true _ _ whole refl, sym (append-nil (data_line text)))

-- what was said is data, where its texts are whole
pub said_data : (old new : List ℕ) (outcome : Outcome) (said : Said) → old ≡ [] → are_whole said.texts ≡ true → Says old new outcome said → AreData new
said_data old new outcome said none whole says = (said.texts, whole, says.0 ∙ ap (λ z. z ++ data_lines said.texts) none)

pub told_data : (result : Result Outcome AllocError) (old new : List ℕ) (said : Said) → old ≡ [] → are_whole said.texts ≡ true
    → IfOk result (λ outcome. Says old new outcome said) → OnOk result (AreData new)
told_data (Ok outcome) old new said none whole says = said_data old new outcome said none whole says
told_data (Err why) old new said none whole says = says

-- ---- texts that a script gave

printed_other : (byte : ℕ) (test : Bool) → nat_lt byte 0x20 ≡ test → not ((cond test 0x3F byte) == 10) ≡ true
printed_other byte true is = refl
printed_other byte false is = ap not (ne_eqb byte 10 (λ ten. omega (arith, ltb-false byte 0x20 is, ten)))

pub printed_whole : (text : List ℕ) → is_whole (printed_text text) ≡ true
printed_whole [] = refl
printed_whole (byte ∷ text) = and_true _ _ (printed_other byte (nat_lt byte 0x20) refl) (printed_whole text)

name_other : (byte : ℕ) (test : Bool) → not ((cond test (printed_byte byte) 0x3F) == 10) ≡ true
name_other byte true = printed_other byte (nat_lt byte 0x20) refl
name_other byte false = refl

pub lu_name_whole : (name : List ℕ) → is_whole (printed_name name) ≡ true
lu_name_whole [] = refl
lu_name_whole (byte ∷ name) = and_true _ _ (name_other byte (nat_lt byte 0x7F)) (lu_name_whole name)

pub printed_data : (text : List ℕ) → AreData (data_line (printed_text text))
printed_data text = one_line (printed_text text) (printed_whole text)

-- ---- faults

words_whole : (why : SyntaxWhy) → is_whole (syntax_words why) ≡ true
words_whole NoName = refl
words_whole BadName = refl
words_whole Close = refl
words_whole CloseOrComma = refl
words_whole Unclosed = refl

pub syntax_data : (fault : SyntaxFault) → AreData (data_line (syntax_text fault))
syntax_data fault =
    one_line (syntax_text fault)
    (join (syntax_words fault.why) (codes " at column " ++ decimal fault.column) (words_whole fault.why)
    (join (codes " at column ") (decimal fault.column) refl (decimal_whole fault.column)))

fault_whole : (fault : StringFault) → is_whole (fault_words fault) ≡ true
fault_whole faults.MissingData = refl
fault_whole faults.MissingDigits = refl
fault_whole faults.AfterP = refl
fault_whole faults.AfterPf = refl
fault_whole faults.AfterPa = refl
fault_whole (faults.UnknownPf number) = join (codes "Unknown PF key ") (decimal number) refl (decimal_whole number)
fault_whole (faults.UnknownPa number) = join (codes "Unknown PA key ") (decimal number) refl (decimal_whole number)
fault_whole faults.Bell = refl
fault_whole faults.VerticalTab = refl

pub string_data : (fault : StringFault) → AreData (data_line (codes "String(): " ++ fault_words fault))
string_data fault =
    one_line (codes "String(): " ++ fault_words fault) (join (codes "String(): ") (fault_words fault) refl (fault_whole fault))

pub snap_whole : (fault : SnapFault) → are_whole (failed (codes "Snap(): " ++ snap_fault_words fault)).texts ≡ true
snap_whole snaps.NotSaved = refl
snap_whole snaps.Extra = refl
snap_whole snaps.Unknown = refl

-- ---- the names of devices

model_whole : (model : ScreenModel) (extended : Bool) → is_whole (name_of (record { model = model; extended = extended })) ≡ true
unfolding name_of name_in
model_whole Two false = refl
model_whole Two true = refl
model_whole Three false = refl
model_whole Three true = refl
model_whole Four false = refl
model_whole Four true = refl
model_whole Five false = refl
model_whole Five true = refl

pub name_whole : (device : Device) → is_whole (name_of device) ≡ true
name_whole device = model_whole device.model device.extended
