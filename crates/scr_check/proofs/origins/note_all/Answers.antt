use Rattle.std.proofs.Common.{true, false, [], get_or, ◌∙◌, ap, subst}
use Rattle.scr_check.specs.Origins.{kept_at}
use Rattle.scr_check.specs.Noting.{NotesOn}
use Rattle.scr_check.proofs.OriginLaws.{record_more, record_stops, records_end}
use Rattle.scr_check.proofs.origins.note_all.Goals as goal

pub loop-index-preserved : goal.loop-index-preserved
loop-index-preserved c =
    let takes : NotesOn c.loop-index.outline c.take_noting.new.outline c.loop-index.index (get_or c.args.records.now c.loop-index.index (record { ref_ptr = (0, 0); now = [] })).now true c.loop-index.slots.items c.take_noting.new.slots.items =
    subst (λ t. NotesOn c.loop-index.outline c.take_noting.new.outline c.loop-index.index (get_or c.args.records.now c.loop-index.index (record { ref_ptr = (0, 0); now = [] })).now t c.loop-index.slots.items c.take_noting.new.slots.items)
    c.if-not-branch.false c.in_ok-take_noting.ensures.notes in
    record {
      room = c.in_ok-take_noting.ensures.room c.if-not-branch.false;
      notes = λ v is.
          let before = c.loop-index.invariant.notes v is in
          let led = takes before.0 before.1 in (
            led.0,
            led.2,
            λ p. record_more (λ bytes. bytes.now) c.args.records.now c.loop-index.index (record { ref_ptr = (0, 0); now = [] }) before.0 led.0 c.loop-index.slots.items c.take_noting.new.slots.items p
                c.loop-index-test.true led.1 led.3 ∙ before.2 p,
          );
    }

pub returns-then-not-branch : goal.returns-then-not-branch
returns-then-not-branch c = λ v is p.
    let stops : NotesOn c.loop-index.outline c.take_noting.new.outline c.loop-index.index (get_or c.args.records.now c.loop-index.index (record { ref_ptr = (0, 0); now = [] })).now false c.loop-index.slots.items c.take_noting.new.slots.items =
    subst (λ t. NotesOn c.loop-index.outline c.take_noting.new.outline c.loop-index.index (get_or c.args.records.now c.loop-index.index (record { ref_ptr = (0, 0); now = [] })).now t c.loop-index.slots.items c.take_noting.new.slots.items)
    c.if-not-branch.true c.in_ok-take_noting.ensures.notes in
    let before = c.loop-index.invariant.notes v is in
    let stood = stops before.0 before.1 in
    ap (λ l. kept_at l p) stood.1
    ∙ record_stops (λ bytes. bytes.now) c.args.records.now c.loop-index.index (record { ref_ptr = (0, 0); now = [] }) before.0 stood.0.0 c.loop-index.slots.items p c.loop-index-test.true stood.0.1
    ∙ before.2 p

pub returns : goal.returns
returns c = λ v is p.
    let before = c.loop-index.invariant.notes v is in
    records_end (λ bytes. bytes.now) c.args.records.now c.loop-index.index before.0 c.loop-index.slots.items p c.loop-index-test.false ∙ before.2 p
