use Rattle.std.proofs.Common.{◌≡◌, ◌∙◌, ◌+◌, length, refl, sym, ap, arith}
use Rattle.ds_state.specs.State.{most_bytes, record_of}
use Rattle.ds_state.proofs.Parts.{record_small, state_made}
use Rattle.ds_state.proofs.spelled.state_of.Goals as goal

pub header_of-requires : goal.header_of-requires
header_of-requires g c =
    let v = c.args.screen.now in
    let is = c.as_slice-record.ensures.value ∙ c.in_ok-drawing.ensures.written in
    omega (arith, ap length is, record_small v c.in_ok-drawing.ensures.whole.sound)

pub returns-clause-written : goal.returns-clause-written
returns-clause-written g c =
    let v = c.args.screen.now in
    let is = c.as_slice-record.ensures.value ∙ c.in_ok-drawing.ensures.written in
    state_made v c.in_ok-drawing.ensures.whole.sound c.state_length-length.result _ (length c.as_slice-record.result.now) c.header_of.result c.as_slice-record.result.now c.in_ok-out.out.items
    c.extend_from_slice.new.self.items c.extend_from_slice-2.new.self.items c.resize.new.self.items c.in_ok-out.ensures.items c.in_ok-extend_from_slice.ensures.items
    c.in_ok-extend_from_slice-2.ensures.items c.in_ok-resize.ensures.items c.header_of.ensures refl is (c.state_length-length.ensures ∙ ap most_bytes c.geometry.ensures.value)
    (omega (arith, c.in_ok-out.ensures.len, c.in_ok-extend_from_slice.ensures.len, c.in_ok-extend_from_slice-2.ensures.len, ap length c.header_of.ensures))
