use Rattle.cli_commands.proofs.Firsts.{tell_first_faults}
use Rattle.cli_commands.proofs.NamedKeys.{keys_are_named}
use Rattle.cli_commands.proofs.ToldDrafts.{drafts_are_told}
use Rattle.cli_commands.proofs.ToldRecords.{records_are_told}
use Rattle.cli_commands.proofs.law.lines_law.Goals as goal

pub returns : goal.returns
returns c = record { keys = keys_are_named; records = records_are_told; drafts = drafts_are_told; faults = tell_first_faults }
