use Rattle.std.proofs.Common.{◌≡◌, ◌∙◌, ap, refl, List, ℕ, Bor, Option, Some, None, option_map}
use Rattle.std.specs.Prelude.{is_some}
use Rattle.clap.specs.Words.{found_of}
use Rattle.clap.proofs.WalkLemmas.{first_value-rows}
use Rattle.cli_words.proofs.asked.is_named.Goals as goal

some_mapped : {A B : Type 0} (f : A → B) (o : Option A) → is_some o ≡ is_some (option_map f o)
some_mapped f None = refl
some_mapped f (Some a) = refl

pub returns : goal.returns
returns c =
    c.is_some.ensures ∙ some_mapped (λ (s : Bor (List ℕ)). s.now) c.get_str.result
    ∙ ap is_some (c.get_str.ensures ∙ first_value-rows (found_of c.args.words.now) c.args.word.now)
