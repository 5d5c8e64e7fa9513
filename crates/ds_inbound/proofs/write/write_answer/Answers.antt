use Rattle.std.proofs.Common.{◌≡◌, ◌∷◌, [], ◌++◌, ◌&&◌, true, false, not, length, sym, ◌∙◌, ap}
use Rattle.ds_codec.specs.Address.{written_address}
use Rattle.ds_codec.specs.Aid.{is_short_aid}
use Rattle.ds_inbound.proofs.Again.{short_bytes, long_bytes}
use Rattle.ds_inbound.proofs.write.write_answer.Goals as goal

pub returns-then-is_sent_alone-clause-written : goal.returns-then-is_sent_alone-clause-written
returns-then-is_sent_alone-clause-written g c =
    let v = c.args.screen.now in
    let alone : (is_short_aid v.aid && not c.args.all) ≡ true = sym (c.if-is_sent_alone.ensures ∙ ap (λ a. is_short_aid a && not c.args.all) c.aid-aid.ensures) in
    let aid : c.byte.result ≡ v.aid = c.byte.ensures.value ∙ c.aid-aid.ensures in
    short_bytes v c.args.all c.in_ok-out.out.items c.push.new.self.items alone c.in_ok-out.ensures.items (c.in_ok-push.ensures.items ∙ ap (λ b. c.in_ok-out.out.items ++ b ∷ []) aid)

pub returns-clause-written : goal.returns-clause-written
returns-clause-written g c =
    let v = c.args.screen.now in
    let long : (is_short_aid v.aid && not c.args.all) ≡ false = sym (c.if-is_sent_alone.ensures ∙ ap (λ a. is_short_aid a && not c.args.all) c.aid-aid.ensures) in
    let aid : c.byte-2.result ≡ v.aid = c.byte-2.ensures.value ∙ c.aid-aid.ensures in
    long_bytes v c.args.all c.in_ok-out-2.out.items c.push-2.new.self.items c.push_address.new.out.items c.push_lead.new.out.items c.push_fields.new.out.items long c.in_ok-out-2.ensures.items
    (c.in_ok-push-2.ensures.items ∙ ap (λ b. c.in_ok-out-2.out.items ++ b ∷ []) aid)
    (c.in_ok-push_address.ensures ∙ ap (λ k. c.push-2.new.self.items ++ written_address v.geometry.mode (length v.cells) k) c.cursor.ensures.value)
    c.in_ok-push_lead.ensures c.in_ok-push_fields.ensures
