use Rattle.std.proofs.Common.{◌≡◌, ◌++◌, sym, subst}
use Rattle.std.specs.Prelude.{OnOk}
use Rattle.std.specs.String.{string_bytes}
use Rattle.scr_check.specs.FindingText.{finding_text, missing_text, overlong_text, other_kind_text}
use Rattle.scr_check.proofs.finding.Finding.push_text.Goals as goal

pub returns-in-RecordRefused : goal.returns-in-RecordRefused
returns-in-RecordRefused c =
    subst (λ finding. OnOk c.push_refused.result (string_bytes c.push_refused.new.out ≡ string_bytes c.args.out.now ++ finding_text c.args.entries.now finding)) (sym c.in-RecordRefused.is) c.push_refused.ensures

pub returns-in-NotAWrite : goal.returns-in-NotAWrite
returns-in-NotAWrite c =
    subst (λ finding. OnOk c.push_record.result (string_bytes c.push_record.new.out ≡ string_bytes c.args.out.now ++ finding_text c.args.entries.now finding)) (sym c.in-NotAWrite.is) c.push_record.ensures

pub returns-in-OtherSize : goal.returns-in-OtherSize
returns-in-OtherSize c =
    subst (λ finding. OnOk c.push_sizes.result (string_bytes c.push_sizes.new.out ≡ string_bytes c.args.out.now ++ finding_text c.args.entries.now finding)) (sym c.in-OtherSize.is) c.push_sizes.ensures

pub returns-in-Undeclared : goal.returns-in-Undeclared
returns-in-Undeclared c =
    subst (λ finding. OnOk c.push_undeclared.result (string_bytes c.push_undeclared.new.out ≡ string_bytes c.args.out.now ++ finding_text c.args.entries.now finding)) (sym c.in-Undeclared.is) c.push_undeclared.ensures

pub returns-in-UndeclaredFixed : goal.returns-in-UndeclaredFixed
returns-in-UndeclaredFixed c =
    subst (λ finding. OnOk c.push_undeclared-in-UndeclaredFixed.result (string_bytes c.push_undeclared-in-UndeclaredFixed.new.out ≡ string_bytes c.args.out.now ++ finding_text c.args.entries.now finding)) (sym c.in-UndeclaredFixed.is) c.push_undeclared-in-UndeclaredFixed.ensures

pub returns-in-Missing : goal.returns-in-Missing
returns-in-Missing c =
    subst (λ finding. OnOk c.push_missing.result (string_bytes c.push_missing.new.out ≡ string_bytes c.args.out.now ++ finding_text c.args.entries.now finding)) (sym c.in-Missing.is)
    (subst (λ name. OnOk c.push_missing.result (string_bytes c.push_missing.new.out ≡ string_bytes c.args.out.now ++ missing_text name)) c.name_at.ensures c.push_missing.ensures)

pub returns-in-TooLong : goal.returns-in-TooLong
returns-in-TooLong c =
    subst (λ finding. OnOk c.push_overlong.result (string_bytes c.push_overlong.new.out ≡ string_bytes c.args.out.now ++ finding_text c.args.entries.now finding)) (sym c.in-TooLong.is)
    (subst (λ name. OnOk c.push_overlong.result (string_bytes c.push_overlong.new.out ≡ string_bytes c.args.out.now ++ overlong_text name c.in-TooLong.found)) c.name_at-in-TooLong.ensures c.push_overlong.ensures)

pub returns-in-OtherKind : goal.returns-in-OtherKind
returns-in-OtherKind c =
    subst (λ finding. OnOk c.push_other_kind.result (string_bytes c.push_other_kind.new.out ≡ string_bytes c.args.out.now ++ finding_text c.args.entries.now finding)) (sym c.in-OtherKind.is)
    (subst (λ name. OnOk c.push_other_kind.result (string_bytes c.push_other_kind.new.out ≡ string_bytes c.args.out.now ++ other_kind_text name)) c.name_at-in-OtherKind.ensures c.push_other_kind.ensures)

pub returns-in-EmptyModified : goal.returns-in-EmptyModified
returns-in-EmptyModified c =
    subst (λ finding. OnOk c.push_empty.result (string_bytes c.push_empty.new.out ≡ string_bytes c.args.out.now ++ finding_text c.args.entries.now finding)) (sym c.in-EmptyModified.is) c.push_empty.ensures

pub returns-in-CursorDependent : goal.returns-in-CursorDependent
returns-in-CursorDependent c =
    subst (λ finding. OnOk c.push_record-in-CursorDependent.result (string_bytes c.push_record-in-CursorDependent.new.out ≡ string_bytes c.args.out.now ++ finding_text c.args.entries.now finding)) (sym c.in-CursorDependent.is) c.push_record-in-CursorDependent.ensures

pub returns-in-Selectable : goal.returns-in-Selectable
returns-in-Selectable c =
    subst (λ finding. OnOk c.push_selectable.result (string_bytes c.push_selectable.new.out ≡ string_bytes c.args.out.now ++ finding_text c.args.entries.now finding)) (sym c.in-Selectable.is) c.push_selectable.ensures
