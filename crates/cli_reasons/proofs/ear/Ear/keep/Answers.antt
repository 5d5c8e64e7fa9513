use Rattle.std.proofs.Common.{sym}
use Rattle.cli_reasons.proofs.HearLaws.{kept_enough}
use Rattle.cli_reasons.proofs.ear.Ear.keep.Goals as goal

pub returns-then-is_enough-clause-kept : goal.returns-then-is_enough-clause-kept
returns-then-is_enough-clause-kept c line is =
    kept_enough c.args.self.now.walk.lines line c.args.self.now.kept.items c.args.bytes.now (sym c.if-is_enough.ensures) is
