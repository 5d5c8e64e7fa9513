use Rattle.std.proofs.Common.{◌∙◌, ◌-◌, ◌+◌, length, ap, map, rules, arith, Vec, Global, ℕ, List}
use Rattle.std.proofs.lemmas.List.{map_push}
use Rattle.script_lines.specs.Arguments.{words_within}
use Rattle.script_lines.proofs.ArgumentLaws.{before, word_unclosed, word_taken, words_end, words_spent}
use Rattle.script_lines.proofs.arguments.words_to_the_end.Goals as goal

abbrev bytes_of : Vec ℕ Global → List ℕ
bytes_of argument = argument.items

pub returns-then-is_empty : goal.returns-then-is_empty
returns-then-is_empty c = words_end (map bytes_of c.turns.words.items) _ c.turns.rest.now _ (search (rules, arith)) c.turns.invariant

pub returns-in_default : goal.returns-in_default
returns-in_default c =
    word_unclosed (map bytes_of c.turns.words.items) _ c.turns._turn c.turns.rest.now _ (search (rules, arith)) (search (rules, arith)) c.turns.invariant
    (search (rules, c.in_ok-word.ensures, c.in_default.is))

pub turns-preserved : goal.turns-preserved
turns-preserved c =
    ap (λ (rest : List ℕ). before (map bytes_of c.push.new.self.items) (words_within (length c.args.bytes.now - (c.turns._turn + 1)) rest)) c.after_blanks-rest.ensures.after
    ∙ word_taken (map bytes_of c.turns.words.items) (map bytes_of c.push.new.self.items) _ c.turns._turn c.turns.rest.now c.in-Some.word.items c.in-Some.after.now _
    (search (rules, arith)) (search (rules, arith)) c.turns.invariant (search (rules, c.in_ok-word.ensures, c.in-Some.is))
    (ap (map bytes_of) c.in_ok-push.ensures.items ∙ map_push bytes_of c.turns.words.items c.in-Some.word)

pub returns-then-is_empty-2 : goal.returns-then-is_empty-2
returns-then-is_empty-2 c = words_end (map bytes_of c.turns.words.items) _ c.turns.rest.now _ (search (rules, arith)) c.turns.invariant

pub returns : goal.returns
returns c = words_spent (map bytes_of c.turns.words.items) _ c.turns._turn c.turns.rest.now _ (search (rules, arith)) (search (rules, arith)) c.turns.invariant
