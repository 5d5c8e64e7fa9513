use Rattle.std.proofs.Common.{◌∙◌, ap}
use Rattle.ds_screen.specs.Picture.{Picture}
use Rattle.ds_screen.specs.Fields.{attribute_before}
use Rattle.ds_screen.proofs.FieldLaws.{each_before_there}
use Rattle.ds_screen.proofs.screen.Screen.attr_before.Goals as goal

pub returns-clause-there : goal.returns-clause-there
returns-clause-there g c =
    each_before_there c.args.self.now.cells c.args.p c.attr_before.result (c.attr_before.ensures.nearest ∙ ap (λ (v : Picture). attribute_before v.cells c.args.p) c.self.view_is)
