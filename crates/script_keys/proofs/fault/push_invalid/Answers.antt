use Rattle.std.proofs.Common.{◌++◌, codes, ◌∙◌, ap}
use Rattle.script_keys.specs.Names.{name_text}
use Rattle.script_keys.proofs.Texts.{four}
use Rattle.script_keys.proofs.fault.push_invalid.Goals as goal

pub returns : goal.returns
returns c =
    four c.args.out.now.items (name_text c.args.name) (codes "(): Invalid argument '") c.args.argument.now (codes "'") _ _ _ _
    (c.in_ok-push_text.ensures ∙ ap (λ t. c.args.out.now.items ++ t) c.text.ensures)
    c.in_ok-push_text-2.ensures c.in_ok-extend_from_slice.ensures.items c.in_ok-push_text-3.ensures
