use Rattle.ds_inbound.proofs.Sent.{field_place, field_length, field_bytes}
use Rattle.ds_inbound.proofs.write.push_field.Goals as goal

pub push_address-requires : goal.push_address-requires
push_address-requires g c = field_place c.args.screen.now.cells c.args.field.now c.requires

pub push_run-requires-clause-inside : goal.push_run-requires-clause-inside
push_run-requires-clause-inside g c = field_place c.args.screen.now.cells c.args.field.now c.requires

pub push_run-requires-clause-few : goal.push_run-requires-clause-few
push_run-requires-clause-few g c = field_length c.args.screen.now.cells c.args.field.now c.requires

pub returns : goal.returns
returns g c =
    field_bytes c.args.screen.now.geometry.mode c.args.screen.now.cells c.args.field.now c.args.out.now.items _ _ _ c.requires (rw c.byte.ensures at c.in_ok-push.ensures.items) c.in_ok-push_address.ensures c.in_ok-push_run.ensures
