-- The tables of a manifest, each by itself.
use Rattle.std.specs.Prelude.{ℕ, ◌&&◌, nat_le, List, [], ◌∷◌, ◌++◌, length, Option, Some, None, ok_or, Result, Ok}
use Rattle.toml.specs.Data.{Data, Items, no_items, item, Members, as_array}
use Rattle.cli_suites.specs.declared.fault.ManifestKey.{ManifestKey}
use Rattle.cli_suites.specs.declared.fault.ManifestKey.TheVariants.{Screen, Dialogue, Map, Name, Records, Layout, Layouts, Source, Finding, Reason}
use Rattle.cli_suites.specs.declared.fault.ManifestFault.{ManifestFault}
use Rattle.cli_suites.specs.declared.fault.Why.TheVariants.{WrongKind, BadCount}
use Rattle.cli_suites.specs.declared.job.Kind.TheVariants as kinds
use Rattle.cli_suites.specs.declared.tables.JobTable.{JobTable}
use Rattle.cli_suites.specs.declared.tables.JobTable.TheVariants as tables
use Rattle.cli_suites.specs.Fault.{at_key}
use Rattle.cli_suites.specs.Job.{Asked, Known}
use Rattle.manifest_tables.specs.Results.{◌>>=◌, tested}
use Rattle.manifest_tables.specs.Tables.{tables_in, are_tables}
use Rattle.cli_suites.specs.Values.{value_at, needed_at, text_of, needed_text, with_only}

abbrev pub key_of : JobTable → ManifestKey
key_of tables.Screen = Screen
key_of tables.Dialogue = Dialogue
key_of tables.Map = Map

-- ---- a screen

abbrev pub screen_keys : List ManifestKey
screen_keys = Name ∷ Records ∷ Layout ∷ []

unfoldable pub screen_of : Members → Result Asked ManifestFault
screen_of fields = do
  own ← with_only screen_keys fields
  name ← needed_text Name own
  records ← needed_text Records own
  layout ← needed_text Layout own
  Ok (record { kind = kinds.Screen; name = name; records = records; layouts = layout ∷ [] })

-- ---- a dialogue

abbrev pub with_text : ManifestKey → List (List ℕ) → Data → Result (List (List ℕ)) ManifestFault
with_text key before value = text_of key value >>= λ text. Ok (before ++ text ∷ [])

-- the texts, behind those before
unfoldable pub texts_of : ManifestKey → List (List ℕ) → Items → Result (List (List ℕ)) ManifestFault
texts_of key before no_items = Ok before
texts_of key before (item value values) = with_text key before value >>= λ texts. texts_of key texts values

-- 1 to 10,000 texts
unfoldable pub list_of : ManifestKey → Data → Result (List (List ℕ)) ManifestFault
list_of key value = do
  items ← ok_or (as_array value) (at_key key WrongKind)
  texts ← texts_of key [] items
  tested (nat_le 1 (length texts) && nat_le (length texts) 10000) texts (at_key key BadCount)

abbrev pub dialogue_keys : List ManifestKey
dialogue_keys = Name ∷ Records ∷ Layouts ∷ []

unfoldable pub dialogue_of : Members → Result Asked ManifestFault
dialogue_of fields = do
  own ← with_only dialogue_keys fields
  name ← needed_text Name own
  records ← needed_text Records own
  value ← needed_at Layouts own
  layouts ← list_of Layouts value
  Ok (record { kind = kinds.Dialogue; name = name; records = records; layouts = layouts })

-- ---- a source of maps

abbrev pub map_keys : List ManifestKey
map_keys = Name ∷ Source ∷ []

unfoldable pub map_of : Members → Result Asked ManifestFault
map_of fields = do
  own ← with_only map_keys fields
  name ← needed_text Name own
  source ← needed_text Source own
  Ok (record { kind = kinds.Map; name = name; records = source; layouts = [] })

abbrev pub job_of : JobTable → Members → Result Asked ManifestFault
job_of tables.Screen fields = screen_of fields
job_of tables.Dialogue fields = dialogue_of fields
job_of tables.Map fields = map_of fields

-- ---- a finding that is accepted

abbrev pub accepted_keys : List ManifestKey
accepted_keys = Screen ∷ Finding ∷ Reason ∷ []

unfoldable pub accepted_of : Members → Result Known ManifestFault
accepted_of fields = do
  own ← with_only accepted_keys fields
  screen ← needed_text Screen own
  finding ← needed_text Finding own
  reason ← needed_text Reason own
  Ok (record { screen = screen; finding = finding; reason = reason })

-- ---- all tables of a key

-- the tables that the value is a list of, at most 10,000
unfoldable pub tables_of : ManifestKey → Data → Result (List Members) ManifestFault
tables_of key value = do
  items ← ok_or (as_array value) (at_key key WrongKind)
  tables ← tested (are_tables items) (tables_in items) (at_key key WrongKind)
  tested (nat_le (length tables) 10000) tables (at_key key BadCount)

abbrev pub tables_or : ManifestKey → Option Data → Result (List Members) ManifestFault
tables_or key None = Ok []
tables_or key (Some value) = tables_of key value

-- none where the key is absent
unfoldable pub tables_at : ManifestKey → Members → Result (List Members) ManifestFault
tables_at key top = tables_or key (value_at key top)
