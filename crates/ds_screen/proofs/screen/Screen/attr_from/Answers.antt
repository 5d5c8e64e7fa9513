use Rattle.std.proofs.Common.{◌∙◌, ap}
use Rattle.ds_screen.specs.Picture.{Picture}
use Rattle.ds_screen.specs.Fields.{attribute_from}
use Rattle.ds_screen.proofs.FieldLaws.{each_from_there}
use Rattle.ds_screen.proofs.screen.Screen.attr_from.Goals as goal

pub returns-clause-there : goal.returns-clause-there
returns-clause-there g c =
    each_from_there c.args.self.now.cells c.args.p c.attr_from.result (c.attr_from.ensures.nearest ∙ ap (λ (v : Picture). attribute_from v.cells c.args.p) c.self.view_is)
