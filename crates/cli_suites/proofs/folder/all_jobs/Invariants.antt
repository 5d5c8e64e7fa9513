use Rattle.std.proofs.Common.{◌≡◌, ◌++◌, drop, map, string_bytes}
use Rattle.std.specs.List.{flat_map}
use Rattle.cli_suites.specs.Folder.{jobs_in}
use Rattle.cli_suites.proofs.folder.all_jobs.Given as goal

abbrev pub invariant-loop-path : goal.invariant-loop-path
invariant-loop-path l = l.jobs.items ++ flat_map (jobs_in l.paths) (map string_bytes (drop l.path-index l.list)) ≡ flat_map (jobs_in l.paths) (map string_bytes l.list)
