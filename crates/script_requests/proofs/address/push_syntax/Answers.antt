use Rattle.std.proofs.Common.{codes}
use Rattle.script_requests.proofs.Texts.{four}
use Rattle.script_requests.proofs.address.push_syntax.Goals as goal

pub returns : goal.returns
returns c =
    four c.args.out.now.items (codes "Hostname syntax error in '") c.args.text.now (codes "': ") c.args.words.now _ _ _ _
    c.in_ok-push_text.ensures c.in_ok-extend_from_slice.ensures.items c.in_ok-push_text-2.ensures c.in_ok-push_text-3.ensures
