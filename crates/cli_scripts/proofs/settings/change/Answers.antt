use Rattle.std.proofs.Common.{◌≡◌, ◌≤◌, ℕ, List, [], ◌∷◌, length, map, codes, refl, sym, subst, arith, Vec, Global}
use Rattle.std.specs.Prelude.{IfOk}
use Rattle.script_screens.specs.Lines.{Said, Says}
use Rattle.cli_scripts.specs.Settings.{changed, quoting}
use Rattle.cli_scripts.specs.declared.settings.Settings.{Settings}
use Rattle.cli_scripts.specs.declared.settings.Verb.{Verb}
use Rattle.cli_scripts.proofs.settings.change.Goals as goal

too_many : (settings : Settings) (verb : Verb) (words : List (Vec ℕ Global)) → 3 ≤ length words
    → (changed settings verb (map (λ argument. argument.items) words)).said ≡ quoting verb [] (codes "more than a name and a value") []
too_many settings verb [] many = absurd (omega (arith, many))
too_many settings verb (one ∷ []) many = absurd (omega (arith, many))
too_many settings verb (one ∷ two ∷ []) many = absurd (omega (arith, many))
too_many settings verb (one ∷ two ∷ three ∷ words) many = refl

pub returns-in-len3-up-clause-said : goal.returns-in-len3-up-clause-said
returns-in-len3-up-clause-said c =
    subst (λ (said : Said). IfOk c.fail_quoting.result (λ outcome. Says c.args.saying.now c.fail_quoting.new.saying outcome said))
    (sym (too_many c.args.settings.now c.args.verb c.args.arguments.now c.in-len3-up.len_at_least)) c.fail_quoting.ensures
