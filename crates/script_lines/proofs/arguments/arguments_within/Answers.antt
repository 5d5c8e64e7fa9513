use Rattle.std.proofs.Common.{◌∙◌, ◌-◌, ◌+◌, length, ap, map, rules, arith, Vec, Global, ℕ, List}
use Rattle.std.proofs.lemmas.List.{map_push}
use Rattle.script_lines.specs.Arguments.{next_at, arguments_within}
use Rattle.script_lines.proofs.ArgumentLaws.{before, is_unclosed, goes_on, is_given, is_open, is_other, is_spent}
use Rattle.script_lines.proofs.arguments.arguments_within.Goals as goal

abbrev bytes_of : Vec ℕ Global → List ℕ
bytes_of argument = argument.items

pub returns-in_default : goal.returns-in_default
returns-in_default c =
    is_unclosed (map bytes_of c.turns.arguments.items) _ c.turns._turn c.turns.rest.now _ (search (rules, arith)) c.turns.invariant
    (search (rules, c.in_ok-argument.ensures, c.in_default.is))

pub returns-in-Closed : goal.returns-in-Closed
returns-in-Closed c =
    is_given (map bytes_of c.turns.arguments.items) (map bytes_of c.push.new.self.items) _ c.turns._turn c.turns.rest.now
    c.in-Some.argument.items c.in-Some.after.now c.in-Closed.others.now _ (search (rules, arith)) c.turns.invariant
    (search (rules, c.in_ok-argument.ensures, c.in-Some.is)) (c.in-Closed.ensures ∙ ap next_at c.after_blanks.ensures.after)
    (ap (map bytes_of) c.in_ok-push.ensures.items ∙ map_push bytes_of c.turns.arguments.items c.in-Some.argument)

pub returns-in-AtEnd : goal.returns-in-AtEnd
returns-in-AtEnd c =
    is_open (map bytes_of c.turns.arguments.items) _ c.turns._turn c.turns.rest.now c.in-Some.argument.items c.in-Some.after.now _ (search (rules, arith)) c.turns.invariant
    (search (rules, c.in_ok-argument.ensures, c.in-Some.is)) (c.in-AtEnd.ensures ∙ ap next_at c.after_blanks.ensures.after)

pub returns-in-Other : goal.returns-in-Other
returns-in-Other c =
    is_other (map bytes_of c.turns.arguments.items) _ c.turns._turn c.turns.rest.now c.in-Some.argument.items c.in-Some.after.now c.in-Other.left.now _ (search (rules, arith))
    c.turns.invariant (search (rules, c.in_ok-argument.ensures, c.in-Some.is)) (c.in-Other.ensures ∙ ap next_at c.after_blanks.ensures.after)

pub turns-preserved : goal.turns-preserved
turns-preserved c =
    ap (λ (rest : List ℕ). before (map bytes_of c.push.new.self.items) (arguments_within (length c.args.bytes.now - (c.turns._turn + 1)) rest)) c.after_blanks-rest.ensures.after
    ∙ goes_on (map bytes_of c.turns.arguments.items) (map bytes_of c.push.new.self.items) _ c.turns._turn c.turns.rest.now
    c.in-Some.argument.items c.in-Some.after.now c.in-Comma.others.now _ (search (rules, arith)) c.turns.invariant
    (search (rules, c.in_ok-argument.ensures, c.in-Some.is)) (c.in-Comma.ensures ∙ ap next_at c.after_blanks.ensures.after)
    (ap (map bytes_of) c.in_ok-push.ensures.items ∙ map_push bytes_of c.turns.arguments.items c.in-Some.argument)

pub returns : goal.returns
returns c = is_spent (map bytes_of c.turns.arguments.items) _ c.turns._turn c.turns.rest.now _ (search (rules, arith)) c.turns.invariant
