use Rattle.demo_screens.proofs.NoteLaws.{last_alike, put_same, put_alike}
use Rattle.std.proofs.Common.{◌∙◌}
use Rattle.demo_screens.proofs.notes.put_back.Goals as goal

pub put_cell-requires-clause-inside : goal.put_cell-requires-clause-inside
put_cell-requires-clause-inside g c =
    let last = last_alike c.notes.screen.cells c.notes.notes.items c.pop.new.self.items c.in-Some.note c.in-Some.ensures.items c.notes.invariant.alike in
    last.0

pub put_cell-requires-clause-alike : goal.put_cell-requires-clause-alike
put_cell-requires-clause-alike g c =
    let last = last_alike c.notes.screen.cells c.notes.notes.items c.pop.new.self.items c.in-Some.note c.in-Some.ensures.items c.notes.invariant.alike in
    last.1

pub notes-preserved : goal.notes-preserved
notes-preserved g c =
    let v = c.notes.screen in
    let rest = c.pop.new.self.items in
    record {
      same = put_same v c.put_cell.new.screen c.notes.notes.items rest c.in-Some.note c.in-Some.ensures.items c.put_cell.ensures ∙ c.notes.invariant.same;
      alike = put_alike v c.put_cell.new.screen c.notes.notes.items rest c.in-Some.note c.in-Some.ensures.items c.put_cell.ensures c.notes.invariant.alike;
    }
