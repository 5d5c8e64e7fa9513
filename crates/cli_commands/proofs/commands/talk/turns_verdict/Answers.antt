use Rattle.std.proofs.Common.{sym, ◌∙◌, ap, subst}
use Rattle.scr_check.specs.TalkSeen.{rounds_of, HaveOneGeometry}
use Rattle.cli_commands.specs.Talk.{rounds}
use Rattle.cli_commands.specs.TurnsHeld.{lent_held}
use Rattle.cli_commands.proofs.Turned.{one_geometry}
use Rattle.cli_commands.proofs.commands.talk.turns_verdict.Goals as goal

pub check_talk-requires : goal.check_talk-requires
check_talk-requires c =
    let same = ap rounds_of c.as_slice-2.ensures.value ∙ c.in_ok-rounds.ensures ∙ ap (λ rs. rounds (lent_held rs) c.args.layouts.now) c.as_slice.ensures.value in
    subst HaveOneGeometry (sym same) (one_geometry (lent_held c.in_ok-records.records.items) c.args.layouts.now c.requires.same)
