use Rattle.std.proofs.Common.{◌≡◌, ◌+◌, ◌-◌, length, take, drop, take_all, length-drop, arith, refl}
use Rattle.cli_characters.proofs.Parts.{feed_at, no_feed}
use Rattle.cli_characters.proofs.line.split_line.Goals as goal

pub returns-in_err-end : goal.returns-in_err-end
returns-in_err-end c = rw c.from_residual.ensures (no_feed c.args.bytes.now c.in_err-end.ensures)

pub returns : goal.returns
returns c =
    let bytes = c.args.bytes.now in
    let end = c.in_ok-end.end in
    let there = feed_at bytes end c.in_ok-end.ensures in
    let rest : take (length bytes - (end + 1)) (drop (end + 1) bytes) ≡ drop (end + 1) bytes = take_all _ _ (omega (arith, length-drop (end + 1) bytes)) in
    rw there.0 (refl, rest, there.1)
