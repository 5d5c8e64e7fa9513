-- What is refused of a manifest, and the words that are printed of it.
use Rattle.std.specs.Prelude.{codes, decimal, ℕ, List, [], ◌++◌, Option, Some, None}
use Rattle.manifest_tables.specs.declared.key.Flaw.{Flaw}
use Rattle.manifest_tables.specs.declared.key.Flaw.TheVariants as flaws
use Rattle.cli_applications.specs.declared.fault.ManifestKey.{ManifestKey}
use Rattle.cli_applications.specs.declared.fault.ManifestKey.TheVariants.{Unknown, Start, Screen, Name, Records, Layout, Next, Enter, Clear, Pa1, Pa2, Pa3, Pf1, Pf2, Pf3, Pf4, Pf5, Pf6, Pf7, Pf8, Pf9, Pf10, Pf11, Pf12, Pf13, Pf14, Pf15, Pf16, Pf17, Pf18, Pf19, Pf20, Pf21, Pf22, Pf23, Pf24}
use Rattle.cli_applications.specs.declared.fault.Why.{Why}
use Rattle.cli_applications.specs.declared.fault.Why.TheVariants.{NotToml, MissingKey, WrongKind, UnknownKey, BadText, Twice, BadCount, NoSuchScreen, NoWay, Missing, OtherSizes}
use Rattle.cli_applications.specs.declared.fault.ManifestFault.{ManifestFault}

-- the words for each refusal
abbrev pub refusal_text : Why → List ℕ
refusal_text NotToml = codes "P1 NotToml"
refusal_text MissingKey = codes "P2 MissingKey"
refusal_text WrongKind = codes "P3 WrongKind"
refusal_text UnknownKey = codes "P4 UnknownKey"
refusal_text BadText = codes "P5 BadText"
refusal_text Twice = codes "P6 Twice"
refusal_text BadCount = codes "P7 BadCount"
refusal_text NoSuchScreen = codes "P8 NoSuchScreen"
refusal_text NoWay = codes "P9 NoWay"
refusal_text Missing = codes "P10 Missing"
refusal_text OtherSizes = codes "P11 OtherSizes"

-- a key as it stands in the text
abbrev pub key_text : ManifestKey → List ℕ
key_text Unknown = codes "unknown"
key_text Start = codes "start"
key_text Screen = codes "screen"
key_text Name = codes "name"
key_text Records = codes "records"
key_text Layout = codes "layout"
key_text Next = codes "next"
key_text Enter = codes "enter"
key_text Clear = codes "clear"
key_text Pa1 = codes "pa1"
key_text Pa2 = codes "pa2"
key_text Pa3 = codes "pa3"
key_text Pf1 = codes "pf1"
key_text Pf2 = codes "pf2"
key_text Pf3 = codes "pf3"
key_text Pf4 = codes "pf4"
key_text Pf5 = codes "pf5"
key_text Pf6 = codes "pf6"
key_text Pf7 = codes "pf7"
key_text Pf8 = codes "pf8"
key_text Pf9 = codes "pf9"
key_text Pf10 = codes "pf10"
key_text Pf11 = codes "pf11"
key_text Pf12 = codes "pf12"
key_text Pf13 = codes "pf13"
key_text Pf14 = codes "pf14"
key_text Pf15 = codes "pf15"
key_text Pf16 = codes "pf16"
key_text Pf17 = codes "pf17"
key_text Pf18 = codes "pf18"
key_text Pf19 = codes "pf19"
key_text Pf20 = codes "pf20"
key_text Pf21 = codes "pf21"
key_text Pf22 = codes "pf22"
key_text Pf23 = codes "pf23"
key_text Pf24 = codes "pf24"

-- the key, after a space
abbrev pub which_text : Option ManifestKey → List ℕ
which_text None = []
which_text (Some key) = codes " " ++ key_text key

-- the screen, counted from 0
abbrev pub screen_text : Option ℕ → List ℕ
screen_text None = []
screen_text (Some index) = codes " in screen " ++ decimal index

-- as `P8 NoSuchScreen pf3 in screen 0`
abbrev pub fault_text : ManifestFault → List ℕ
fault_text f = refusal_text f.why ++ (which_text f.which ++ screen_text f.screen)

-- the text is no TOML
abbrev pub not_toml : ManifestFault
not_toml = record { screen = None; which = None; why = NotToml }

-- a key at fault
abbrev pub at_key : ManifestKey → Why → ManifestFault
at_key key why = record { screen = None; which = Some key; why = why }

-- why a manifest with a flaw at a key is refused
abbrev pub why_of : Flaw → Why
why_of flaws.MissingKey = MissingKey
why_of flaws.WrongKind = WrongKind
why_of flaws.UnknownKey = UnknownKey
why_of flaws.BadText = BadText

-- a key with this flaw
abbrev pub flaw_at : ManifestKey → Flaw → ManifestFault
flaw_at key flaw = at_key key (why_of flaw)

-- the same in a screen
abbrev pub in_screen : ℕ → ManifestFault → ManifestFault
in_screen index fault = record fault { screen = Some index }
