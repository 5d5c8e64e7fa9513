use Rattle.std.proofs.Common.{◌≡◌, ◌++◌, false, length, sym, ◌∙◌, ap}
use Rattle.ds_codec.specs.Geometry.{cells_of}
use Rattle.ds_screen.specs.Fields.{attributes_from}
use Rattle.ds_inbound.specs.Answer.{characters_at, written_characters}
use Rattle.ds_inbound.specs.Sending.{places_on, has_places}
use Rattle.ds_inbound.proofs.Sent.{lead_is}
use Rattle.ds_inbound.proofs.write.push_lead.Goals as goal

pub returns-in_ok-push_run : goal.returns-in_ok-push_run
returns-in_ok-push_run g c =
    let cells = c.args.screen.now.cells in
    let n_is : c.cells.result ≡ length cells = c.cells.ensures ∙ ap cells_of c.size.ensures.value ∙ sym c.size.ensures.sound.whole in
    let none : has_places (attributes_from cells 0) ≡ false = sym c.is_formatted.ensures ∙ c.if-not-is_formatted.true in
    let run = ap (λ k. characters_at cells (places_on (length cells) 0 k)) n_is ∙ sym (lead_is cells (attributes_from cells 0) none) in
    c.in_ok-push_run.ensures ∙ ap (λ cs. c.args.out.now.items ++ written_characters cs) run
