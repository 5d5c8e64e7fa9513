-- Where no finding has keys, it doesn't matter whether there is a screen to press them on.
use Rattle.std.proofs.Common.{◌≡◌, ◌++◌, ◌||◌, Bool, true, false, cond, List, [], ◌∷◌, Option, Some, None, Result, refl, ◌∙◌, ap, inl, inr}
use Rattle.std.specs.Prelude.{is_some, codes}
use Rattle.std.specs.List.{flat_map, list_any}
use Rattle.std.proofs.lemmas.Bool.{cond-true, cond-false, cases_Bool}
use Rattle.ds_screen.specs.Picture.{Picture}
use Rattle.scr_layout.specs.Entry.{Declared}
use Rattle.scr_check.specs.declared.finding.Demo.{Demo}
use Rattle.scr_check.specs.declared.finding.Finding.{Finding}
use Rattle.scr_check.specs.FindingText.{demo_of, finding_text}
use Rattle.cli_commands.specs.declared.output.demo.Demos.{Demos}
use Rattle.cli_commands.specs.declared.output.demo.Demos.TheVariants.{Omitted}
use Rattle.cli_commands.specs.DemoLines.{sends_on, finding_lines, has_keys, asked}

no_keys : (opened : Option Picture) (demo : Option Demo) → is_some demo ≡ false → sends_on None demo ≡ sends_on opened demo
no_keys opened None none = refl
no_keys opened (Some demo) none = absurd cc

neither : (a b : Bool) → (a || b) ≡ false → (a ≡ false) × (b ≡ false)
neither false b none = (refl, none)
neither true b none = absurd cc

without_keys : (entries : List Declared) (opened : Option Picture) (findings : List Finding) → list_any has_keys findings ≡ false
    → flat_map (finding_lines entries None) findings ≡ flat_map (finding_lines entries opened) findings
without_keys entries opened [] none = refl
without_keys entries opened (finding ∷ findings) none =
    let both = neither (has_keys finding) (list_any has_keys findings) none in
    ap (λ l. ((finding_text entries finding ++ codes "\n") ++ l) ++ flat_map (finding_lines entries None) findings) (no_keys opened (demo_of finding) both.0)
    ∙ ap (λ l. finding_lines entries opened finding ++ l) (without_keys entries opened findings both.1)

pub lines_asked : {E : Type 0} (entries : List Declared) (demos needed : Demos) (opened : Result Picture E) (findings : List Finding)
    → needed ≡ cond (list_any has_keys findings) demos Omitted
    → flat_map (finding_lines entries (asked needed opened)) findings ≡ flat_map (finding_lines entries (asked demos opened)) findings
lines_asked entries demos needed opened findings is =
    elim (cases_Bool (list_any has_keys findings)) [
      | inl keys ↦ ap (λ d. flat_map (finding_lines entries (asked d opened)) findings) (is ∙ cond-true (list_any has_keys findings) demos Omitted keys)
      | inr none ↦
          ap (λ d. flat_map (finding_lines entries (asked d opened)) findings) (is ∙ cond-false (list_any has_keys findings) demos Omitted none)
          ∙ without_keys entries (asked demos opened) findings none
    ]
