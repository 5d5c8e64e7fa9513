use Rattle.std.proofs.Common.{◌∙◌, map, string_bytes, arith}
use Rattle.cli_suites.proofs.PathLaws.{names_next}
use Rattle.cli_suites.proofs.paths.names_of.Goals as goal

pub loop-path-preserved : goal.loop-path-preserved
loop-path-preserved c =
    names_next c.args.list.now c.loop-path.path-index c.path-item.result c.loop-path.names c.insert.new.self c.in_ok-from_str.field-0 (map string_bytes c.args.list.now)
    (omega arith) c.path-item.is (c.in_ok-from_str.ensures.ok ∙ c.as_str.ensures.value) c.in_ok-insert.ensures.updates c.loop-path.invariant
