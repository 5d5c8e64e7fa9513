use Rattle.std.proofs.Common.{◌≡◌, ◌++◌, drop}
use Rattle.std.specs.String.{string_bytes}
use Rattle.std.specs.List.{flat_map}
use Rattle.cli_reports.specs.TalkJson.{turn_line}
use Rattle.cli_reports.proofs.talk_json.push_turns.Given as goal

abbrev pub invariant-loop-finding : goal.invariant-loop-finding
invariant-loop-finding l =
    string_bytes l.out ++ flat_map (turn_line l.layout l.numbers l.span) (drop l.finding-index l.findings)
    ≡ string_bytes l.fn.out ++ flat_map (turn_line l.layout l.numbers l.span) l.findings
