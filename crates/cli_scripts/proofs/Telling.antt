-- Answers, one after the other.
use Rattle.std.proofs.Common.{◌≡◌, ℕ, true, codes, List, [], ◌∷◌, ◌++◌, refl, sym, ap, ◌∙◌, append_assoc}
use Rattle.std.proofs.lemmas.List.{append-nil}
use Rattle.script_screens.specs.declared.lines.Outcome.{Outcome}
use Rattle.std.proofs.Math.Bool.{and-true}
use Rattle.script_screens.specs.Laws.{is_whole, are_whole}
use Rattle.script_screens.proofs.Whole.{join}
use Rattle.std.specs.Prelude.{Option}
use Rattle.ds_screen.specs.Picture.{Picture}
use Rattle.script_screens.specs.Status.{Link, status_line}
use Rattle.cli_scripts.specs.Answers.{AreAnswers, AreData, IsAnswer, last_line}
use Rattle.cli_scripts.specs.Desks.{Worked, Shows, device_in, link_in, model_number}
use Rattle.cli_scripts.specs.Says.{TellsAnswer}

pub one_more_answer : (outcomes : List Outcome) (outcome : Outcome) (text answer : List ℕ) → AreAnswers outcomes text → IsAnswer outcome answer
    → AreAnswers (outcomes ++ outcome ∷ []) (text ++ answer)
one_more_answer [] outcome text answer is one = (answer, [], ap (λ z. z ++ answer) is ∙ sym (append-nil answer), one, refl)
one_more_answer (first ∷ outcomes) outcome text answer (front, rest, cut, begins, more) one =
    (front, rest ++ answer, ap (λ z. z ++ answer) cut ∙ append_assoc front rest answer, begins, one_more_answer outcomes outcome rest answer more one)

pub alone_whole : (text : List ℕ) → are_whole (text ∷ []) ≡ true → is_whole text ≡ true
alone_whole text whole = sym (and-true (is_whole text)) ∙ whole

-- data lines, the words of a status line, and the last line
pub an_answer : (outcome : Outcome) (start said words first second third last : List ℕ) → start ≡ [] → AreData said → is_whole words ≡ true
    → first ≡ start ++ said → second ≡ first ++ (words ++ codes " -\n") → third ≡ second ++ last → last ≡ last_line outcome → IsAnswer outcome third
an_answer outcome start said words first second third last none are whole begins goes ends is =
    let all : third ≡ (said ++ (words ++ codes " -\n")) ++ last_line outcome =
    ends ∙ ap (λ z. z ++ last) (goes ∙ ap (λ z. z ++ (words ++ codes " -\n")) (begins ∙ ap (λ z. z ++ said) none))
    ∙ ap (λ z. (said ++ (words ++ codes " -\n")) ++ z) is in
    let parts : (words ++ codes " -\n") ++ last_line outcome ≡ (words ++ codes " -") ++ (codes "\n" ++ last_line outcome) =
    append_assoc words (codes " -\n") (last_line outcome) ∙ sym (append_assoc words (codes " -") (codes "\n" ++ last_line outcome)) in
    record {
      data_part = said;
      status = words ++ codes " -";
      are_data = are;
      is_line = join words (codes " -") whole refl;
      whole = all ∙ append_assoc said (words ++ codes " -\n") (last_line outcome) ∙ ap (λ z. said ++ z) parts;
    }

-- it is that of the terminal
pub tells_answer : (w : Worked) (outcome : Outcome) (v : Picture) (link : Option Link) (model : ℕ) (said start first second third last lines : List ℕ)
    → Shows w v → link ≡ link_in w [] → model ≡ model_number (device_in w).model → start ≡ [] → lines ≡ said → first ≡ start ++ lines
    → second ≡ first ++ status_line v link model → third ≡ second ++ last → last ≡ last_line outcome → TellsAnswer w said outcome third
tells_answer w outcome v link model said start first second third last lines shows linked modelled none same begins goes ends is =
    let line : List ℕ = status_line v link model in
    let told : List ℕ = status_line v (link_in w []) (model_number (device_in w).model) in
    let so : line ≡ told =
    ap (λ (l : Option Link). status_line v l model) linked ∙ ap (λ (m : ℕ). status_line v (link_in w []) m) modelled in (
      v,
      shows,
      ends ∙ ap (λ z. z ++ last) (goes ∙ ap (λ z. z ++ line) (begins ∙ ap (λ z. z ++ lines) none ∙ same)) ∙ append_assoc said line last
          ∙ ap (λ z. said ++ (z ++ last)) so ∙ ap (λ z. said ++ (told ++ z)) is,
    )
