use Rattle.std.proofs.Common.{◌≡◌, ◌∙◌, length, sym, ap}
use Rattle.ds_state.proofs.Parts.{state_length}
use Rattle.ds_state.proofs.opened.close_state.Goals as goal

pub copy_from_slice-requires : goal.copy_from_slice-requires
copy_from_slice-requires g c =
    let v = c.args.screen.now in
    c.requires ∙ sym (ap length (c.as_slice.ensures.value ∙ c.in_ok-spelled.ensures.written) ∙ state_length v c.in_ok-spelled.ensures.whole.sound)
