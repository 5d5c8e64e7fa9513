use Rattle.std.proofs.Common.{◌≡◌, ℕ, map, drop}
use Rattle.ds_screen.specs.Picture.{Picture}
use Rattle.ds_screen.specs.Outline.{IsOutlineOf}
use Rattle.scr_check.specs.Noting.{HasSlots}
use Rattle.scr_check.proofs.OriginLaws.{Left}
use Rattle.scr_check.proofs.origins.note_all.Given as goal

abbrev pub invariant-loop-index : goal.invariant-loop-index
invariant-loop-index l =
    record {
      room : HasSlots l.outline l.slots.items;
      notes : (v : Picture) → IsOutlineOf l.fn.outline v
          → (w : Picture) × IsOutlineOf l.outline w
          × ((p : ℕ) → Left l.index w (map (λ bytes. bytes.now) (drop l.index l.records)) l.slots.items p
          ≡ Left 0 v (map (λ bytes. bytes.now) l.records) l.fn.slots.items p);
    }
