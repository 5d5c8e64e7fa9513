-- The actions of a line, one after the other.
use Rattle.std.proofs.Common.{◌≡◌, ℕ, List, [], ◌∷◌, ◌++◌, length, refl, sym, ap, ◌∙◌, subst, arith}
use Rattle.script_lines.specs.Actions as lines
use Rattle.script_lines.specs.declared.fault.SyntaxFault.{SyntaxFault}
use Rattle.script_screens.specs.declared.lines.Outcome.TheVariants as outcomes
use Rattle.script_screens.specs.Lines.{failed}
use Rattle.cli_scripts.specs.Answers.{syntax_text}
use Rattle.cli_scripts.specs.declared.doing.Step.{Step}
use Rattle.cli_scripts.specs.declared.doing.Step.TheVariants.{Ended}
use Rattle.cli_scripts.specs.declared.worker.Worker.{Worker}
use Rattle.cli_scripts.specs.Says.{EndsSaying}
use Rattle.cli_scripts.specs.Performs.{Call, Calls, AreCalls, AreDone, Did, IsStop, StopsBy, Goes}

calls_more : (line : List ℕ) (front : List Call) (rest : List ℕ) (call : Call) (after : List ℕ) → AreCalls line front rest
    → lines.read_action rest ≡ lines.action call.name call.arguments after → AreCalls line (front ++ call ∷ []) after
calls_more line [] rest call after is next = (after, ap lines.read_action is ∙ next, refl)
calls_more line (one ∷ front) rest call after (behind, is, others) next = (behind, is, calls_more behind front rest call after others next)

done_more : (front : List Call) (call : Call) (old mid new : Worker) → AreDone front old mid → Calls call mid (Ended outcomes.Done) new
    → AreDone (front ++ call ∷ []) old new
done_more [] call old mid new is calls = (new, subst (λ (w : Worker). Calls call w (Ended outcomes.Done) new) is calls, refl)
done_more (one ∷ front) call old mid new (between, first, others) calls = (between, first, done_more front call between mid new others calls)

-- nothing was done yet
pub did_none : (line : List ℕ) (old : Worker) → Did line old line old
did_none line old = ([], refl, refl)

-- one action more
pub did_more : (line : List ℕ) (old : Worker) (rest : List ℕ) (mid : Worker) (name : List ℕ) (arguments : List (List ℕ)) (after : List ℕ) (new : Worker)
    → Did line old rest mid → lines.read_action rest ≡ lines.action name arguments after
    → Calls (record { name = name; arguments = arguments }) mid (Ended outcomes.Done) new → Did line old after new
did_more line old rest mid name arguments after new (front, are, done) next calls =
    let call : Call = record { name = name; arguments = arguments } in
    (front ++ call ∷ [], calls_more line front rest call after are next, done_more front call old mid new done calls)

-- ---- where they stop

pub goes_ended : (line : List ℕ) (old : Worker) (rest : List ℕ) (mid : Worker) → Did line old rest mid → lines.read_action rest ≡ lines.ends
    → Goes line old (Ended outcomes.Done) rest mid
goes_ended line old rest mid did is =
    (rest, mid, did, subst (λ (r : lines.Read). StopsBy r mid (Ended outcomes.Done) rest mid) (sym is) (refl, refl))

pub goes_spent : (line : List ℕ) (old : Worker) (rest : List ℕ) (mid : Worker) → Did line old rest mid → length rest ≡ 0
    → Goes line old (Ended outcomes.Done) rest mid
goes_spent line old [] mid did none = goes_ended line old [] mid did refl
goes_spent line old (byte ∷ rest) mid did none = absurd (omega (arith, none))

pub goes_failed : (line : List ℕ) (old : Worker) (rest : List ℕ) (mid : Worker) (why : SyntaxFault) (step : Step) (new : Worker) → Did line old rest mid
    → lines.read_action rest ≡ lines.fault why → EndsSaying (failed (syntax_text why)) step mid.saying new.saying → new ≡ record mid { saying = new.saying }
    → Goes line old step rest new
goes_failed line old rest mid why step new did is says same =
    (rest, mid, did, subst (λ (r : lines.Read). StopsBy r mid step rest new) (sym is) (says, same))

pub goes_stopped : (line : List ℕ) (old : Worker) (rest : List ℕ) (mid : Worker) (name : List ℕ) (arguments : List (List ℕ)) (after : List ℕ) (step : Step)
    (new : Worker) → Did line old rest mid → lines.read_action rest ≡ lines.action name arguments after
    → Calls (record { name = name; arguments = arguments }) mid step new → IsStop step → Goes line old step after new
goes_stopped line old rest mid name arguments after step new did is calls stops =
    (rest, mid, did, subst (λ (r : lines.Read). StopsBy r mid step after new) (sym is) (calls, stops, refl))
