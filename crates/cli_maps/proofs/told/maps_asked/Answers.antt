use Rattle.bms_map.specs.Mapset.{maps_of}
use Rattle.cli_maps.specs.Asked.{name_in}
use Rattle.cli_maps.proofs.AskedLaws.{is_named, is_unread}
use Rattle.cli_maps.proofs.told.maps_asked.Goals as goal

pub returns-in-Ok : goal.returns-in-Ok
returns-in-Ok c = is_named (λ maps. maps.items) (name_in c.args.name) (maps_of c.args.source.now) c.in-Ok.maps.items c.named.result c.in-Ok.ensures c.named.ensures

pub returns-in-Err : goal.returns-in-Err
returns-in-Err c = is_unread (name_in c.args.name) (maps_of c.args.source.now) c.in-Err.error c.in-Err.ensures
