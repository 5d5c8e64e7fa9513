use Rattle.std.proofs.Common.{codes}
use Rattle.script_keys.proofs.Texts.{two}
use Rattle.script_keys.proofs.fault.push_unknown.Goals as goal

pub returns : goal.returns
returns c =
    two c.args.out.now.items (codes "Unknown action: ") c.args.name.now _ _ c.in_ok-push_text.ensures c.in_ok-extend_from_slice.ensures.items
