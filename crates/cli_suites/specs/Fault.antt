-- What is refused of a manifest, and the words that are printed of it.
use Rattle.std.specs.Prelude.{codes, decimal, ℕ, List, [], ◌++◌, Option, Some, None}
use Rattle.manifest_tables.specs.declared.key.Flaw.{Flaw}
use Rattle.manifest_tables.specs.declared.key.Flaw.TheVariants as flaws
use Rattle.cli_suites.specs.declared.fault.ManifestKey.{ManifestKey}
use Rattle.cli_suites.specs.declared.fault.ManifestKey.TheVariants.{Unknown, Screen, Dialogue, Map, Accepted, Name, Records, Layout, Layouts, Source, Finding, Reason}
use Rattle.cli_suites.specs.declared.fault.Why.{Why}
use Rattle.cli_suites.specs.declared.fault.Why.TheVariants.{NotToml, MissingKey, WrongKind, UnknownKey, BadText, Twice, BadCount, NoSuchScreen, NotAcceptable}
use Rattle.cli_suites.specs.declared.fault.Place.{Place}
use Rattle.cli_suites.specs.declared.fault.ManifestFault.{ManifestFault}

-- the words for each refusal
abbrev pub refusal_text : Why → List ℕ
refusal_text NotToml = codes "S1 NotToml"
refusal_text MissingKey = codes "S2 MissingKey"
refusal_text WrongKind = codes "S3 WrongKind"
refusal_text UnknownKey = codes "S4 UnknownKey"
refusal_text BadText = codes "S5 BadText"
refusal_text Twice = codes "S6 Twice"
refusal_text BadCount = codes "S7 BadCount"
refusal_text NoSuchScreen = codes "S8 NoSuchScreen"
refusal_text NotAcceptable = codes "S9 NotAcceptable"

-- a key as it stands in the text
abbrev pub key_text : ManifestKey → List ℕ
key_text Unknown = codes "unknown"
key_text Screen = codes "screen"
key_text Dialogue = codes "dialogue"
key_text Map = codes "map"
key_text Accepted = codes "accepted"
key_text Name = codes "name"
key_text Records = codes "records"
key_text Layout = codes "layout"
key_text Layouts = codes "layouts"
key_text Source = codes "source"
key_text Finding = codes "finding"
key_text Reason = codes "reason"

-- the key, after a space
abbrev pub which_text : Option ManifestKey → List ℕ
which_text None = []
which_text (Some key) = codes " " ++ key_text key

-- the table, counted from 0 among those of its kind
abbrev pub place_text : Option Place → List ℕ
place_text None = []
place_text (Some place) = codes " in " ++ (key_text place.table ++ (codes " " ++ decimal place.index))

-- as `S2 MissingKey layout in screen 0`
abbrev pub fault_text : ManifestFault → List ℕ
fault_text f = refusal_text f.why ++ (which_text f.which ++ place_text f.place)

-- the text is no TOML
abbrev pub not_toml : ManifestFault
not_toml = record { place = None; which = None; why = NotToml }

-- a key at fault
abbrev pub at_key : ManifestKey → Why → ManifestFault
at_key key why = record { place = None; which = Some key; why = why }

-- why a manifest with a flaw at a key is refused
abbrev pub why_of : Flaw → Why
why_of flaws.MissingKey = MissingKey
why_of flaws.WrongKind = WrongKind
why_of flaws.UnknownKey = UnknownKey
why_of flaws.BadText = BadText

-- a key with this flaw
abbrev pub flaw_at : ManifestKey → Flaw → ManifestFault
flaw_at key flaw = at_key key (why_of flaw)

-- the same in a table
abbrev pub in_table : ManifestKey → ℕ → ManifestFault → ManifestFault
in_table table index fault = record fault { place = Some (record { table = table; index = index }) }
