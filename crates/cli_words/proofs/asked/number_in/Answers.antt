use Rattle.std.proofs.Common.{◌∙◌, Ok, Err, refl, arith}
use Rattle.std.specs.Fmt.{decimal}
use Rattle.std.proofs.lemmas.Fmt.{parse-decimal}
use Rattle.clap.specs.Words.{found_of}
use Rattle.clap.proofs.WalkLemmas.{one_text-rows}
use Rattle.cli_words.proofs.Numbers.{same_number, same_none}
use Rattle.cli_words.proofs.asked.number_in.Goals as goal

pub returns-in-Some : goal.returns-in-Some
returns-in-Some c = λ number small e.
    let told = c.in-Some.ensures.value (decimal number) (one_text-rows (found_of c.args.words.now) c.args.word.now ∙ e) in
    same_number {E = Unit {0}} (Ok c.in-Some.number) (Ok number) (parse-decimal 16 number (decimal number) (Ok c.in-Some.number) small (omega (arith, small)) refl told.0)

pub returns-in-None : goal.returns-in-None
returns-in-None c = λ number small e.
    let told = c.in-None.ensures.value (decimal number) (one_text-rows (found_of c.args.words.now) c.args.word.now ∙ e) in
    absurd (same_none (Err told.0) (Ok number) (parse-decimal 16 number (decimal number) (Err told.0) small (omega (arith, small)) refl told.1.0) tt)
