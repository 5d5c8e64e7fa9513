use Rattle.std.proofs.Common.{◌≡◌, Some, sym, ◌∙◌, ap}
use Rattle.ds_codec.specs.declared.command.Command.{Command}
use Rattle.ds_codec.specs.Geometry.{Sizes}
use Rattle.scr_check.specs.Checker.{Reach, cells_anew}
use Rattle.scr_check.proofs.ReachLaws.{not_read, at_fault, anew_taken, caught_taken}
use Rattle.scr_check.proofs.reached.Reached.take.Goals as goal

pub returns-in-Err : goal.returns-in-Err
returns-in-Err c =
    not_read c.args.index c.args.self.now c.args.self.now c.args.bytes.now c.self.inside.outline (ap (λ (s : Reach). s.outline) c.self.view_is)
    c.in-Err.refused (sym c.in-Err.ensures)

pub returns-in-Some : goal.returns-in-Some
returns-in-Some c =
    at_fault c.args.index c.args.self.now c.args.self.now c.args.bytes.now c.self.inside.outline (ap (λ (s : Reach). s.outline) c.self.view_is)
    c.in-Ok.outbound (sym c.in-Ok.ensures) c.in-Some.finding (sym c.in-Some.ensures)

pub returns-in-Some-cells_anew : goal.returns-in-Some-cells_anew
returns-in-Some-cells_anew c =
    let anew : cells_anew c.self.inside.outline.geometry c.in-Ok.outbound.command ≡ Some c.in-Some-cells_anew.cells =
    ap (λ (g : Sizes). cells_anew g c.in-Ok.outbound.command) (sym c.geometry.ensures) ∙ ap (λ (k : Command). cells_anew c.geometry.result k) (sym c.command.ensures)
    ∙ sym c.in-Some-cells_anew.ensures in
    anew_taken c.args.index c.args.self.now c.take_anew.new.self c.args.bytes.now c.self.inside.outline (ap (λ (s : Reach). s.outline) c.self.view_is)
    c.in-Ok.outbound (sym c.in-Ok.ensures) (sym c.in_default.ensures) c.in-Some-cells_anew.cells c.take_anew.result anew c.take_anew.ensures

pub returns : goal.returns
returns c =
    caught_taken c.args.index c.args.self.now c.apply.new.self c.args.bytes.now c.self.inside.outline (ap (λ (s : Reach). s.outline) c.self.view_is)
    c.in-Ok.outbound (sym c.in-Ok.ensures) (sym c.in_default.ensures) c.catch_up.new.self.outline c.apply.result c.catch_up.ensures.led c.apply.ensures.applied c.apply.ensures.none
