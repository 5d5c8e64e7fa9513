use Rattle.std.proofs.Common.{◌++◌, ◌∙◌, take}
use Rattle.std.proofs.lemmas.List.{take_rest}
use Rattle.cli_commands.proofs.Prefixes.{appends_more, rest_more}
use Rattle.cli_commands.proofs.output.answer.write_text.Goals as goal

pub loop-rest-preserved : goal.loop-rest-preserved
loop-rest-preserved g c =
    let i = c.loop-rest.invariant.so in
    rw (take_rest c.loop-rest.rest.now c.in-Some.taken) record {
      so = (
        i.0 ++ take c.in-Some.taken c.loop-rest.rest.now,
        rest_more c.args.text.now i.0 c.loop-rest.rest.now c.in-Some.taken i.1,
        appends_more (g.W.TakesBytes.contents c.args.writer.now) (g.W.TakesBytes.contents c.loop-rest.writer) _ i.0 (take c.in-Some.taken c.loop-rest.rest.now) i.2 c.in-Some.ensures.bytes.2,
      );
      cause = c.in-Some.ensures.cause ∙ c.loop-rest.invariant.cause;
    }
