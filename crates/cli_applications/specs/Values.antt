-- What a key of a manifest's table holds, each with the fault where it doesn't.
use Rattle.std.specs.Prelude.{ℕ, List, Option, Result}
use Rattle.toml.specs.Data.{Data, Members}
use Rattle.manifest_tables.specs.Values as tables
use Rattle.cli_applications.specs.declared.fault.ManifestKey.{ManifestKey}
use Rattle.cli_applications.specs.declared.fault.ManifestKey.TheVariants.{Unknown}
use Rattle.cli_applications.specs.declared.fault.ManifestFault.{ManifestFault}
use Rattle.cli_applications.specs.Fault.{key_text, flaw_at}

-- the value of a key, if it is there
abbrev pub value_at : ManifestKey → Members → Option Data
value_at key table = tables.value_at (key_text key) table

-- the value of a key that has to be there
abbrev pub needed_at : ManifestKey → Members → Result Data ManifestFault
needed_at key table = tables.needed_at (key_text key) (flaw_at key) table

-- the text that the value is
abbrev pub text_of : ManifestKey → Data → Result (List ℕ) ManifestFault
text_of key value = tables.text_of (flaw_at key) value

-- the text of a key that has to be there
abbrev pub needed_text : ManifestKey → Members → Result (List ℕ) ManifestFault
needed_text key table = tables.needed_text (key_text key) (flaw_at key) table

-- the table, if it has no other keys
abbrev pub with_only : List ManifestKey → Members → Result Members ManifestFault
with_only keys table = tables.with_only key_text (flaw_at Unknown) keys table
