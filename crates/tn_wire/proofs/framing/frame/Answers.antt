use Rattle.std.proofs.Common.{◌≡◌, [], ◌∷◌, ◌++◌, rules, sym, subst}
use Rattle.tn_wire.specs.Telnet.{quoted, record_end}
use Rattle.tn_wire.specs.Stream.{Tells, told_record}
use Rattle.tn_wire.proofs.Steps.{tells_token}
use Rattle.tn_wire.proofs.framing.frame.Goals as goal

pub returns-clause-one_record : goal.returns-clause-one_record
returns-clause-one_record c fits =
    let bytes : c.push_frame.new.out.items ≡ quoted c.args.bytes.now ++ 255 ∷ 239 ∷ [] = search rules in
    subst (λ z. Tells z (told_record c.args.bytes.now ∷ []) []) (sym bytes) (tells_token c.args.bytes.now record_end fits tt)
