use Rattle.std.proofs.Common.{◌≡◌, ◌∙◌, ◌+◌, false, true, length, ap, sym, subst, arith}
use Rattle.std.specs.List.{list_all}
use Rattle.std.specs.Result.{IfOk}
use Rattle.std.specs.String.{string_bytes}
use Rattle.std.proofs.lemmas.List.{length-map}
use Rattle.scr_layout.specs.Entry.{is_name_byte}
use Rattle.scr_draft.specs.Name.{form, free_name, is_taken}
use Rattle.scr_draft.specs.Drafted.{Named, names_in}
use Rattle.scr_draft.proofs.NameLaws.{dashed_bytes, free_there, free_last}
use Rattle.scr_draft.proofs.name.free_name.Goals as goal

pub form-requires-clause-bytes : goal.form-requires-clause-bytes
form-requires-clause-bytes c = ap (list_all is_name_byte) (c.as_slice.ensures.value ∙ c.in_ok-words.ensures) ∙ dashed_bytes true c.args.label.now

pub returns-then-not-is_taken : goal.returns-then-not-is_taken
returns-then-not-is_taken c =
    let drafts = c.args.drafts.now in
    let count : length (names_in drafts) ≡ length drafts = length-map drafts (λ (d : Named). d.name) in
    let name : string_bytes c.in_ok-name.name ≡ form c.args.cols c.args.place c.args.label.now c.loop-tries.tries =
    c.in_ok-name.ensures c.args.label.now (c.as_slice.ensures.value ∙ c.in_ok-words.ensures) in
    let free : is_taken (names_in drafts) (form c.args.cols c.args.place c.args.label.now c.loop-tries.tries) ≡ false =
    ap (is_taken (names_in drafts)) (sym (c.as_str.ensures.value ∙ name)) ∙ sym c.is_taken.ensures ∙ c.if-not-is_taken.true in
    name ∙ free_there (names_in drafts) c.args.cols c.args.place c.args.label.now c.loop-tries.tries (omega (arith, count)) free c.loop-tries.invariant

pub form-requires-2-clause-bytes : goal.form-requires-2-clause-bytes
form-requires-2-clause-bytes c = ap (list_all is_name_byte) (c.as_slice-2.ensures.value ∙ c.in_ok-words.ensures) ∙ dashed_bytes true c.args.label.now

pub returns : goal.returns
returns c =
    let drafts = c.args.drafts.now in
    let count : length (names_in drafts) ≡ length drafts = length-map drafts (λ (d : Named). d.name) in
    let last : form c.args.cols c.args.place c.args.label.now (length (names_in drafts) + 1) ≡ free_name (names_in drafts) (form c.args.cols c.args.place c.args.label.now) =
    free_last (names_in drafts) c.args.cols c.args.place c.args.label.now (omega (arith, count)) (λ j below. c.loop-tries.invariant j (omega (arith, count, below, c.loop-tries-test.false))) in
    let here : form c.args.cols c.args.place c.args.label.now (length drafts + 1) ≡ free_name (names_in drafts) (form c.args.cols c.args.place c.args.label.now) =
    ap (λ n. form c.args.cols c.args.place c.args.label.now (n + 1)) (sym count) ∙ last in
    subst (λ due. IfOk c.form-2.result (λ name. string_bytes name ≡ due)) here (c.form-2.ensures c.args.label.now (c.as_slice-2.ensures.value ∙ c.in_ok-words.ensures))
