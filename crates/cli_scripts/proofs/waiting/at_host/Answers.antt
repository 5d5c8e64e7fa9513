use Rattle.cli_scripts.proofs.waiting.at_host.Goals as goal

pub returns : goal.returns
returns c = (c.holds-held.result, c.holds-held.ensures, c.on_line.ensures)
