use Rattle.std.proofs.Common.{take, length, length-take-le, Some}
use Rattle.std.specs.Io.KnownBytes.{prepend_known}
use Rattle.cli_commands.proofs.Ahead.{begins, empty_at_end, fits, drops}
use Rattle.cli_commands.proofs.Parts.{whole_taken}
use Rattle.cli_commands.proofs.input.reading.take_shown.Goals as goal

pub returns-clause-takes : goal.returns-clause-takes
returns-clause-takes g c =
    let old = prepend_known c.args.ahead.now (g.R.GivesBytes.remaining c.args.reader.now) in
    let rest = g.R.GivesBytes.remaining c.fill.new.reader in
    let ahead = c.fill.new.self in
    let shown = c.shown-shown.result.now in
    let seen = c.front-seen.result.now in (
      take c.whole_len-count.result seen,
      length-take-le c.whole_len-count.result seen c.whole_len-count.ensures.inside,
      whole_taken old (prepend_known ahead rest) (prepend_known c.consume.new.self rest) (Some (length ahead))
          shown seen c.whole_len-count.result c.front-seen.ensures.front c.front-seen.ensures.inside c.whole_len-count.ensures.inside c.whole_len-count.ensures.last
          (begins old rest ahead shown c.shown-shown.ensures c.in_ok-fill.ensures.bytes) (empty_at_end old rest ahead shown c.shown-shown.ensures c.in_ok-fill.ensures.bytes c.in_ok-fill.ensures.end) c.in_ok-fill.ensures.bytes
          (fits old rest ahead shown c.shown-shown.ensures c.in_ok-fill.ensures.bytes) (drops rest ahead c.consume.new.self c.whole_len-count.result c.consume.ensures),
      c.take_numbered-taken.ensures.takes,
    )
