use Rattle.std.proofs.Common.{◌∙◌, ap, sym, subst}
use Rattle.cli_commands.specs.TurnsHeld.{lent_held}
use Rattle.scr_check.specs.TalkSeen.{HaveOneGeometry, rounds_of}
use Rattle.script_checks.proofs.Geometry.{one_geometry}
use Rattle.script_checks.proofs.dialogue.verdict_on.Goals as goal

pub check_talk-requires : goal.check_talk-requires
check_talk-requires c =
    subst HaveOneGeometry (sym (ap rounds_of c.as_slice-2.ensures.value ∙ c.in_ok-rounds.ensures)) (one_geometry c.args.layout.now (lent_held c.as_slice.result.now))
