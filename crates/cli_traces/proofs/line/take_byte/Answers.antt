use Rattle.std.proofs.Common.{◌∷◌, [], subst}
use Rattle.std.specs.String.{string_bytes}
use Rattle.cli_traces.specs.declared.line.Next.{Next}
use Rattle.cli_traces.specs.Following.{Following, AddsPiece, goes}
use Rattle.cli_traces.specs.Held.{course_seen, following_seen}
use Rattle.cli_traces.proofs.ByteLines.{byte_goes}
use Rattle.cli_traces.proofs.line.take_byte.Goals as goal

pub returns-in-Goes-clause-adds : goal.returns-in-Goes-clause-adds
returns-in-Goes-clause-adds c =
    let byte = c.args.byte in
    let mid : Following = following_seen c.take_piece_line.new.follower in
    let seen : Following = following_seen c.see.new.self in
    let first = c.in_ok-take_piece_line.ensures.adds in
    let goes_on : AddsPiece c.args.asked c.args.number c.args.side seen (byte ∷ []) first.0 (goes mid) =
    subst (λ (n : Next). AddsPiece c.args.asked c.args.number c.args.side seen (byte ∷ []) first.0 (course_seen n mid)) c.in-Goes.is first.2 in
    byte_goes c.args.asked c.args.number c.args.side (following_seen c.args.follower.now) mid byte (string_bytes c.args.out.now)
    (string_bytes c.take_piece_line.new.out) (string_bytes c.end_text.new.out) (following_seen c.end_text.new.follower) c.end_text.result
    (first.0, first.1, subst (λ (z : Following). AddsPiece c.args.asked c.args.number c.args.side z (byte ∷ []) first.0 (goes mid)) c.see.ensures.seen goes_on)
    c.end_text.ensures.adds
