use Rattle.std.proofs.Common.{◌≡◌, true, [], length, Ok}
use denote.Text.{Utf8}
use denote.Shadow.{shadow}
use Rattle.toml.specs.Data.{Items}
use Rattle.plain_tables.specs.Plain.{HasDone}
use Rattle.scr_layout.specs.declared.fault.LayoutKey.TheVariants.{Field}
use Rattle.scr_layout.specs.Fault.{key_text}
use Rattle.scr_layout.specs.Top.{tables_in, are_tables}
use Rattle.scr_layout.specs.Layout.{entries_of}
use Rattle.scr_layout.proofs.plain.entries.Given as goal

abbrev pub invariant-fields : goal.invariant-fields
invariant-fields l =
    shadow (Utf8 l.rest)
    × (done : Items) × (are_tables done ≡ true) × (length (tables_in done) ≡ l.count) × (entries_of l.version l.size 0 [] (tables_in done) ≡ Ok l.listed)
    × HasDone (key_text Field) l.fn.s done l.rest
