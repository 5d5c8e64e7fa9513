-- One picture and one answer for each key.
use Rattle.std.proofs.Common.{sym, ◌∙◌, ap}
use Rattle.ds_keys.specs.KeyStep.{Step}
use Rattle.ds_keys.specs.Laws.{HasOneStep}

pub has_one_step : HasOneStep
has_one_step v after other key pressed told one two =
    let same = one ∙ sym two in
    (ap (λ (s : Step). s.after) same, ap (λ (s : Step). s.pressed) same)
