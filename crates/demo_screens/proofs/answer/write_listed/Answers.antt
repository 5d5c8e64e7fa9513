use Rattle.std.proofs.Common.{◌≡◌, ◌∷◌, [], ◌++◌, false, length, sym, ◌∙◌, ap}
use Rattle.ds_codec.specs.Address.{written_address}
use Rattle.ds_codec.specs.Aid.{is_short_aid}
use Rattle.demo_screens.proofs.SentLaws.{listed_bytes}
use Rattle.demo_screens.proofs.answer.write_listed.Goals as goal

pub returns : goal.returns
returns g c =
    let v = c.args.screen.now in
    let long : is_short_aid v.aid ≡ false = sym (c.is_short.ensures ∙ ap is_short_aid c.aid.ensures) ∙ c.if-is_short.false in
    let aid : c.byte.result ≡ v.aid = c.byte.ensures.value ∙ c.aid-2.ensures in
    listed_bytes v c.new-out.result.items c.push.new.self.items c.push_address.new.out.items c.push_fields.new.out.items long
    (sym c.is_formatted.ensures ∙ c.if-not-is_formatted.false) c.new-out.ensures.items
    (c.in_ok-push.ensures.items ∙ ap (λ b. c.new-out.result.items ++ b ∷ []) aid)
    (c.in_ok-push_address.ensures ∙ ap (λ k. c.push.new.self.items ++ written_address v.geometry.mode (length v.cells) k) c.cursor.ensures.value)
    c.in_ok-push_fields.ensures
