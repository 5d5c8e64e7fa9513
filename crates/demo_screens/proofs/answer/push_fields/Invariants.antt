use Rattle.std.proofs.Common.{◌≡◌, ◌++◌, length, map, take}
use Rattle.ds_inbound.specs.Answer.{field_sent, written_fields}
use Rattle.demo_screens.proofs.answer.push_fields.Given as goal

abbrev pub invariant-listed : goal.invariant-listed
invariant-listed g l =
    let v = l.screen in
    l.out.items ≡ l.fn.out.items ++ written_fields v.geometry.mode (length v.cells) (map (field_sent v.cells) (take l.at-index l.listed))
