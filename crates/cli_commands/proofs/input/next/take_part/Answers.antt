use Rattle.std.proofs.Common.{take, length, Some}
use Rattle.std.specs.Io.KnownBytes.{prepend_known}
use Rattle.cli_commands.proofs.Ahead.{begins, empty_at_end, fits, drops}
use Rattle.cli_commands.proofs.Parts.{part_taken}
use Rattle.cli_commands.proofs.input.next.take_part.Goals as goal

pub returns-clause-took : goal.returns-clause-took
returns-clause-took g c =
    let old = prepend_known c.args.ahead.now (g.R.GivesBytes.remaining c.args.reader.now) in
    let rest = g.R.GivesBytes.remaining c.fill.new.reader in
    let ahead = c.fill.new.self in
    let shown = c.shown-shown.result.now in
    let taken = part_taken old (prepend_known ahead rest) (prepend_known c.consume.new.self rest) (Some (length ahead))
    shown c.front-seen.result.now c.args.most c.part_len-count.result c.ends_line-ends.result c.requires c.front-seen.ensures.front
    c.front-seen.ensures.few c.front-seen.ensures.inside c.front-seen.ensures.some c.part_len-count.ensures.inside c.part_len-count.ensures.some
    c.part_len-count.ensures.before
    (begins old rest ahead shown c.shown-shown.ensures c.in_ok-fill.ensures.bytes) (empty_at_end old rest ahead shown c.shown-shown.ensures c.in_ok-fill.ensures.bytes c.in_ok-fill.ensures.end) c.in_ok-fill.ensures.bytes
    (fits old rest ahead shown c.shown-shown.ensures c.in_ok-fill.ensures.bytes) (drops rest ahead c.consume.new.self c.part_len-count.result c.consume.ensures) c.ends_line-ends.ensures.some
    c.ends_line-ends.ensures.last in
    (take c.part_len-count.result c.front-seen.result.now, c.in_ok-extend_from_slice.ensures.items, taken.0, taken.1, taken.2)
