use Rattle.std.proofs.Common.{◌++◌, ◌∙◌, take}
use Rattle.std.proofs.lemmas.List.{take_rest}
use Rattle.cli_commands.proofs.Prefixes.{appends_more, rest_more}
use Rattle.cli_scripts.proofs.tool.write_lines.Goals as goal

pub writes-preserved : goal.writes-preserved
writes-preserved g c =
    let i = c.writes.invariant.so in
    rw (take_rest c.writes.rest.now c.in-Some.taken) record {
      so = (
        i.0 ++ take c.in-Some.taken c.writes.rest.now,
        rest_more c.args.lines.now i.0 c.writes.rest.now c.in-Some.taken i.1,
        appends_more (g.O.TakesBytes.contents c.args.output.now) (g.O.TakesBytes.contents c.writes.output) _ i.0 (take c.in-Some.taken c.writes.rest.now) i.2 c.in-Some.ensures.bytes.2,
      );
      cause = c.in-Some.ensures.cause ∙ c.writes.invariant.cause;
    }
