use Rattle.std.proofs.Common.{◌≤◌, length, arith}
use Rattle.demo_screens.proofs.SentLaws.{listed_there, all_fields}
use Rattle.demo_screens.proofs.answer.push_fields.Goals as goal

pub push_field-requires : goal.push_field-requires
push_field-requires g c = listed_there c.args.screen.now.cells c.args.listed.now c.listed.at-index 0 c.requires (omega (arith, c.listed-test.true))

pub returns : goal.returns
returns g c =
    let v = c.args.screen.now in
    let past : length c.args.listed.now ≤ c.listed.at-index = omega (arith, c.listed-test.false) in
    all_fields v.geometry.mode v.cells c.args.listed.now c.listed.at-index c.args.out.now.items c.listed.out.items c.requires past c.listed.invariant
