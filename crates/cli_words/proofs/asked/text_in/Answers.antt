use Rattle.std.proofs.Common.{◌∙◌, ap, sym, List, ℕ, Bor, Option, [], option_map, unwrap_or}
use Rattle.clap.specs.Words.{found_of}
use Rattle.clap.proofs.WalkLemmas.{first_value-rows}
use Rattle.cli_words.proofs.asked.text_in.Goals as goal

pub returns-in-Some : goal.returns-in-Some
returns-in-Some c = λ text e. ap (λ (o : Option (List ℕ)). unwrap_or o [])
    (ap (option_map (λ (s : Bor (List ℕ)). s.now)) (sym c.in-Some.is) ∙ c.get_str.ensures ∙ first_value-rows (found_of c.args.words.now) c.args.word.now ∙ e)

pub returns-in-None : goal.returns-in-None
returns-in-None c = λ text e. ap (λ (o : Option (List ℕ)). unwrap_or o [])
    (ap (option_map (λ (s : Bor (List ℕ)). s.now)) (sym c.in-None.is) ∙ c.get_str.ensures ∙ first_value-rows (found_of c.args.words.now) c.args.word.now ∙ e)
