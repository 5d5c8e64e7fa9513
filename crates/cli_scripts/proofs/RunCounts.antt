-- Each line of a script has one answer.
use Rattle.std.proofs.Common.{◌≡◌, ◌+◌, ℕ, true, List, [], ◌∷◌, ◌++◌, length, refl, ap, ◌∙◌, arith, length-append}
use Rattle.script_screens.specs.declared.lines.Outcome.{Outcome}
use Rattle.cli_scripts.specs.declared.came.Wants.{Wants}
use Rattle.cli_scripts.specs.declared.came.Wants.TheVariants.{Line, Need, Nothing}
use Rattle.cli_scripts.specs.Machines.{AnswersSo, Scripted}
use Rattle.cli_scripts.specs.RunLaws.{AnswersEach}
use Rattle.cli_scripts.specs.Runs.{Event, a_line, a_long_line, IsEnd, IsGiven, IsLine, Turns, handed_out, line_of, lines_of}
use Rattle.cli_scripts.proofs.RunLaws.{need_alone}

-- a line that is under way isn't answered yet
abbrev open_lines : Wants → ℕ
open_lines Line = 0
open_lines (Need need) = 1
open_lines Nothing = 0

line_counts : (event : Event) → IsLine event → length (line_of event) ≡ 1
line_counts (a_line line) is = refl
line_counts a_long_line is = refl
line_counts event is = absurd is

given_counts : (wants : Wants) (event : Event) → IsGiven wants event → open_lines wants + length (line_of event) ≡ 1
given_counts Line event given = let one : length (line_of event) ≡ 1 = line_counts event given in omega (arith, one)
given_counts (Need need) event given = let none : length (line_of event) ≡ 0 = ap length (need_alone need event given) in omega (arith, none)
given_counts Nothing event given = absurd given

one_more : (old new : List Outcome) (outcome : Outcome) → new ≡ old ++ outcome ∷ [] → length new ≡ length old + 1
one_more old new outcome is = ap length is ∙ length-append old (outcome ∷ [])

answered_counts : (old new : Scripted) (wants : Wants) → AnswersSo true old wants new
    → length new.telling.outcomes + open_lines wants ≡ length old.telling.outcomes + 1
answered_counts old new Line ((outcome, is), busy) = let e = one_more old.telling.outcomes new.telling.outcomes outcome is in omega (arith, e)
answered_counts old new Nothing ((outcome, is), busy) = let e = one_more old.telling.outcomes new.telling.outcomes outcome is in omega (arith, e)
answered_counts old new (Need need) (is, busy) = ap (λ z. length z + 1) is

turns_count : (events : List Event) (wants : Wants) (old : Scripted) (last : Wants) (new : Scripted) → Turns events wants old last new
    → length new.telling.outcomes + open_lines last ≡ length old.telling.outcomes + open_lines wants + length (lines_of events)
turns_count [] wants old last new (is, same) =
    let e : length new.telling.outcomes ≡ length old.telling.outcomes = ap (λ (m : Scripted). length m.telling.outcomes) same in
    let o : open_lines last ≡ open_lines wants = ap open_lines is in
    omega (arith, e, o)
turns_count (event ∷ others) wants old last new (next, mid, given, takes, turns) =
    let here : length mid.telling.outcomes + open_lines next ≡ length old.telling.outcomes + 1 = answered_counts old mid next takes.answered in
    let one : open_lines wants + length (line_of event) ≡ 1 = given_counts wants event given in
    let rest : length new.telling.outcomes + open_lines last ≡ length mid.telling.outcomes + open_lines next + length (lines_of others) =
    turns_count others next (handed_out mid) last new turns in
    let both : length (line_of event ++ lines_of others) ≡ length (line_of event) + length (lines_of others) = length-append (line_of event) (lines_of others) in
    omega (arith, here, one, rest, both)

none_open : (last : Wants) → IsEnd last → open_lines last ≡ 0
none_open Line ends = refl
none_open (Need need) ends = absurd ends
none_open Nothing ends = refl

pub answers_each : AnswersEach
answers_each first new known received received_new run =
    let all : length run.mid.telling.outcomes + open_lines run.last ≡ length first.telling.outcomes + 0 + length (lines_of run.events) =
    turns_count run.events Line first run.last run.mid run.turns in
    let none : open_lines run.last ≡ 0 = none_open run.last run.ends in
    let same : length new.telling.outcomes ≡ length run.mid.telling.outcomes = ap (λ (m : Scripted). length m.telling.outcomes) run.handed in
    omega (arith, all, none, same)
