use Rattle.std.proofs.Common.{set, ◌∙◌, ap, arith}
use Rattle.std.proofs.lemmas.List.Edits.{map_over_more}
use Rattle.ds_places.proofs.blocks.change_block.Goals as goal

pub entries-preserved : goal.entries-preserved
entries-preserved g c =
    record {
      changed = ap (set c.entries.entries.items c.entries.i) c.change.ensures
          ∙ map_over_more (g.C.Change.changed c.args.change.now) c.args.entries.now.items c.entries.entries.items c.entries.i c.index-entry.result.now
          (omega (arith, c.entries-test.true, c.len-i-end.ensures, c.args.entries.now.ok)) c.entries.invariant.changed c.index-entry.ensures;
      room = c.entries.invariant.room;
    }
