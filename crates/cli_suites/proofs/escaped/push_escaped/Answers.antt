use Rattle.std.proofs.Common.{ℕ, List, ◌++◌, flat_map, string_bytes, sym, ap, ◌∙◌, map-id}
use Rattle.std.proofs.lemmas.Iterator.{YieldsList-from_chars}
use Rattle.std.proofs.lemmas.Iterator.Consumers.{YieldsList-end}
use Rattle.cli_suites.specs.Escaped.{escaped_char}
use Rattle.cli_suites.proofs.escaped.push_escaped.Goals as goal

pub returns : goal.returns
returns c =
    let end = YieldsList-end (YieldsList-from_chars c.args.text.now c.utf8.text cc) c.loop-character.yielded _ c.loop-character.yielded_by _ _ c.in-None.is c.next.ensures.steps in
    c.loop-character.invariant ∙ ap (λ (t : List ℕ). string_bytes c.args.out.now ++ flat_map escaped_char t) (sym (map-id c.loop-character.yielded) ∙ end.0)
