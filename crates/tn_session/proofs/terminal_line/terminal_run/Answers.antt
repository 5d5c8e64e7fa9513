use Rattle.std.proofs.Common.{map}
use Rattle.tn_session.specs.Ran.{ReadsInPieces}
use Rattle.tn_session.proofs.RunEnds.{few_reads}
use Rattle.tn_session.proofs.TerminalEnds.{line_exactly, closed_where_ended, many_reads, terminal_pieces}
use Rattle.tn_session.proofs.terminal_line.terminal_run.Goals as goal

pub returns : goal.returns
returns g c =
    let pieces : ReadsInPieces c.args.wire.now c.run_terminal.new.wire =
    terminal_pieces c.args.device c.args.enhanced c.args.responses (map g.K.Keystroke.strike c.args.keys.now) c.args.wire.now c.run_terminal.new.wire c.run_terminal.result c.run_terminal.ensures in
    record {
      ran = c.run_terminal.ensures;
      line = line_exactly c.args.device c.args.enhanced c.args.responses (map g.K.Keystroke.strike c.args.keys.now) c.args.wire.now c.run_terminal.new.wire c.run_terminal.result c.requires.goes c.run_terminal.ensures;
      closed = closed_where_ended c.args.device c.args.enhanced c.args.responses (map g.K.Keystroke.strike c.args.keys.now) c.args.wire.now c.run_terminal.new.wire c.run_terminal.result c.run_terminal.ensures;
      many = many_reads c.args.device c.args.enhanced c.args.responses (map g.K.Keystroke.strike c.args.keys.now) c.args.wire.now c.run_terminal.new.wire c.run_terminal.result c.run_terminal.ensures;
      few = few_reads c.args.wire.now c.run_terminal.new.wire pieces;
      pieces = pieces;
    }
