-- What Query tells of a terminal.
use Rattle.std.proofs.Common.{◌≡◌, ℕ, List, ap, ◌∙◌, subst}
use Rattle.std.specs.Prelude.{Option, Result, Ok, Err, IfOk}
use Rattle.std.specs.declared.alloc.AllocError.{AllocError}
use Rattle.ds_screen.specs.Picture.{Picture}
use Rattle.script_screens.specs.declared.lines.Outcome.{Outcome}
use Rattle.script_screens.specs.declared.query.Query.{Query}
use Rattle.script_screens.specs.Lines.{Says}
use Rattle.script_screens.specs.Query.{Named, said_of_query}
use Rattle.script_screens.specs.Status.{Link}
use Rattle.tn_session.specs.TerminalTalk.{lu_name_in}
use Rattle.cli_scripts.specs.Answers.{printed_name}
use Rattle.cli_scripts.specs.Desks.{Worked, Shows, link_in, named_in, TellsQuery}

pub told_query : (w : Worked) (query : Query) (words : List (List ℕ)) (before after name : List ℕ) (r : Result Outcome AllocError) (v : Picture)
    (link : Option Link) (device : Named) → name ≡ printed_name (lu_name_in w.talk) → Shows w v → link ≡ link_in w name → device ≡ named_in w
    → IfOk r (λ outcome. Says before after outcome (said_of_query v link device query words))
    → IfOk r (λ outcome. TellsQuery w query words before after outcome)
told_query w asked words before after name (Ok outcome) v link device same shows linked named says = (
  v,
  shows,
  subst (λ (l : Option Link). Says before after outcome (said_of_query v l (named_in w) asked words)) (linked ∙ ap (link_in w) same)
      (subst (λ (d : Named). Says before after outcome (said_of_query v link d asked words)) named says),
)
told_query w asked words before after name (Err why) v link device same shows linked named says = says
