use Rattle.std.proofs.Common.{◌≡◌, ◌++◌, map, drop}
use Rattle.std.specs.List.{concat}
use Rattle.cli_scripts.proofs.worker.Worker.type_arguments.Given as goal

abbrev pub invariant-arguments : goal.invariant-arguments
invariant-arguments l =
    l.text.items ++ concat (map (λ argument. argument.items) (drop l.argument-index l.arguments)) ≡ concat (map (λ argument. argument.items) l.arguments)
