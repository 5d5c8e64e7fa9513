use Rattle.cli_scripts.proofs.reading.read.Goals as goal

pub returns-clause-reads : goal.returns-clause-reads
returns-clause-reads c = ((c.screen.result.now, c.screen.ensures, c.in_ok-outcome.ensures), c.note_read.ensures)
