use Rattle.std.proofs.Common.{List, ℕ, map}
use Rattle.tn_session.specs.Ran.{ReadsInPieces}
use Rattle.tn_session.proofs.RunEnds.{few_reads}
use Rattle.tn_session.proofs.HostEnds.{line_exactly, closed_where_ended, many_reads, host_pieces}
use Rattle.tn_session.proofs.host_line.host_run.Goals as goal

pub returns : goal.returns
returns g c =
    let records : List (List ℕ) = map (λ bytes. bytes.now) c.args.records.now in
    let pieces : ReadsInPieces c.args.wire.now c.run_host.new.wire =
    host_pieces c.args.layout.now records c.args.enhanced c.args.responses c.args.wire.now c.run_host.new.wire c.run_host.result c.run_host.ensures in
    record {
      ran = c.run_host.ensures;
      line = line_exactly c.args.layout.now records c.args.enhanced c.args.responses c.args.wire.now c.run_host.new.wire c.run_host.result c.requires.goes c.run_host.ensures;
      closed = closed_where_ended c.args.layout.now records c.args.enhanced c.args.responses c.args.wire.now c.run_host.new.wire c.run_host.result c.run_host.ensures;
      many = many_reads c.args.layout.now records c.args.enhanced c.args.responses c.args.wire.now c.run_host.new.wire c.run_host.result c.run_host.ensures;
      few = few_reads c.args.wire.now c.run_host.new.wire pieces;
      pieces = pieces;
    }
