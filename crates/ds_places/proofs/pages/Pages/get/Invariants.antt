use Rattle.std.proofs.Common.{◌≡◌, drop}
use Rattle.std.specs.Prelude.{slice_get}
use Rattle.ds_places.specs.Pages.{entries_in, lists_of}
use Rattle.ds_places.proofs.pages.Pages.get.Given as goal

abbrev pub invariant-blocks-2 : goal.invariant-blocks-2
invariant-blocks-2 g l =
    slice_get (entries_in (lists_of l.self-inside.blocks.items)) l.index ≡ slice_get (entries_in (drop l.i (lists_of l.self-inside.blocks.items))) l.left
