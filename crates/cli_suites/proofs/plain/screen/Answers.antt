use Rattle.cli_suites.proofs.ScreensLaws.{said_screen}
use Rattle.cli_suites.proofs.plain.screen.Goals as goal

pub returns : goal.returns
returns c =
    let named = rw c.in-Some.is at c.in_ok-name.ensures in
    let recorded = rw c.in-Some-2.is at c.in_ok-records.ensures in
    let laid = rw c.in-Some-3.is at c.in_ok-layout.ensures in
    let (fields, goes_on, read) = said_screen c.args.s.now _ _ _ _ _ _ named recorded laid in
    (fields, goes_on, rw c.in_ok-single.ensures read)
