-- What a cell becomes when modified data tags are reset.
use Rattle.ds_codec.specs.declared.cell.Cell.{Cell}
use Rattle.ds_screen.specs.declared.records.Reset.{Reset}
use Rattle.ds_screen.specs.declared.records.Reset.TheVariants.{Every, Unprotected}
use Rattle.ds_screen.specs.Records.{unmodified, unprotected_unmodified}

abbrev pub after_reset : Reset → Cell → Cell
after_reset Every cell = unmodified cell
after_reset Unprotected cell = unprotected_unmodified cell
