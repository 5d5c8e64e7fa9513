-- The manifest of an application that a text says, or its first refusal.
use Rattle.std.specs.Prelude.{ℕ, ◌+◌, Bool, false, not, ◌&&◌, ◌==◌, nat_le, bytes_eq, codes, List, [], ◌∷◌, ◌++◌, length, Option, Some, None, option_map, ok_or, position, Result, Ok, Err, if◌then◌else◌}
use Rattle.std.specs.List.{list_any}
use Rattle.std.specs.Str.{is_utf8}
use Rattle.toml.specs.Data.{Data, Members, as_array, as_table}
use Rattle.toml.specs.Parse.{parse_document}
use Rattle.tn_dialogue.specs.declared.screen.Lead.{Lead}
use Rattle.tn_dialogue.specs.declared.screen.Next.{Next}
use Rattle.tn_dialogue.specs.declared.screen.Next.TheVariants.{Shows, Ends}
use Rattle.cli_applications.specs.declared.fault.ManifestKey.{ManifestKey}
use Rattle.cli_applications.specs.declared.fault.ManifestKey.TheVariants.{Start, Screen, Name, Records, Layout, Next as NextKey}
use Rattle.cli_applications.specs.declared.fault.ManifestFault.{ManifestFault}
use Rattle.cli_applications.specs.declared.fault.Why.TheVariants.{WrongKind, Twice, BadCount, NoSuchScreen}
use Rattle.cli_applications.specs.Attention.{attention_keys, aid_of}
use Rattle.cli_applications.specs.Fault.{at_key, not_toml}
use Rattle.manifest_tables.specs.Results.{◌>>=◌, tested}
use Rattle.manifest_tables.specs.Tables.{tables_in, are_tables}
use Rattle.cli_applications.specs.Results.{in_screen}
use Rattle.cli_applications.specs.Values.{value_at, needed_at, text_of, needed_text, with_only}

-- a key, and the name of where it leads
pub record Target : Type 0 where
  pub key : ManifestKey
  pub to : List ℕ

-- a screen by its name: the paths of its records and of its layout, and where its keys lead
pub record Named : Type 0 where
  pub name : List ℕ
  pub records : List ℕ
  pub layout : List ℕ
  pub targets : List Target

-- the same, with the screens to which its keys lead by their numbers
pub record Planned : Type 0 where
  pub name : List ℕ
  pub records : List ℕ
  pub layout : List ℕ
  pub leads : List Lead

-- the screens in the order of the text, and which is shown first
pub record Declared : Type 0 where
  pub first : ℕ
  pub screens : List Planned

-- ---- where the keys of a screen lead

abbrev pub target_by : List Target → ManifestKey → Option Data → Result (List Target) ManifestFault
target_by before key None = Ok before
target_by before key (Some value) = text_of key value >>= λ text. Ok (before ++ record { key = key; to = text } ∷ [])

abbrev pub with_target : List Target → ManifestKey → Members → Result (List Target) ManifestFault
with_target before key fields = target_by before key (value_at key fields)

-- those of the keys, behind those before
abbrev pub targets_from : List Target → List ManifestKey → Members → Result (List Target) ManifestFault
targets_from before [] fields = Ok before
targets_from before (key ∷ keys) fields = with_target before key fields >>= λ targets. targets_from targets keys fields

unfoldable pub targets_of : Members → Result (List Target) ManifestFault
targets_of fields = do
  own ← with_only attention_keys fields
  targets_from [] attention_keys own

abbrev pub targets_in : Option Data → Result (List Target) ManifestFault
targets_in None = Ok []
targets_in (Some value) = ok_or (as_table value) (at_key NextKey WrongKind) >>= targets_of

-- none where the table is absent
unfoldable pub targets_at : Members → Result (List Target) ManifestFault
targets_at fields = targets_in (value_at NextKey fields)

-- ---- the screens

abbrev pub screen_keys : List ManifestKey
screen_keys = Name ∷ Records ∷ Layout ∷ NextKey ∷ []

abbrev pub end_name : List ℕ
end_name = codes "end"

unfoldable pub screen_of : Members → Result Named ManifestFault
screen_of fields = do
  own ← with_only screen_keys fields
  name ← needed_text Name own
  records ← needed_text Records own
  layout ← needed_text Layout own
  targets ← targets_at own
  Ok (record { name = name; records = records; layout = layout; targets = targets })

abbrev pub has_name : List ℕ → List Named → Bool
has_name name screens = list_any (λ screen. bytes_eq screen.name name) screens

-- no earlier screen has its name, and it isn't 'end'
abbrev pub is_free : List ℕ → List Named → Bool
is_free name screens = not (bytes_eq name end_name) && not (has_name name screens)

unfoldable pub with_screen : List Named → Members → Result (List Named) ManifestFault
with_screen before fields = do
  screen ← screen_of fields
  tested (is_free screen.name before) (before ++ screen ∷ []) (at_key Name Twice)

-- those of the tables from the n-th on, behind those before
unfoldable pub screens_from : ℕ → List Named → List Members → Result (List Named) ManifestFault
screens_from n before [] = Ok before
screens_from n before (fields ∷ tables) = do
  screens ← in_screen n (with_screen before fields)
  screens_from (n + 1) screens tables

-- 1 to 1,000 tables
unfoldable pub tables_of : Data → Result (List Members) ManifestFault
tables_of value = do
  items ← ok_or (as_array value) (at_key Screen WrongKind)
  tables ← tested (are_tables items) (tables_in items) (at_key Screen WrongKind)
  tested (nat_le 1 (length tables) && nat_le (length tables) 1000) tables (at_key Screen BadCount)

unfoldable pub screens_at : Members → Result (List Named) ManifestFault
screens_at top = do
  value ← needed_at Screen top
  tables ← tables_of value
  screens_from 0 [] tables

-- ---- where names lead

abbrev pub index_of : List ℕ → List Named → Option ℕ
index_of name screens = position (λ screen. bytes_eq screen.name name) screens

abbrev pub next_named : List ℕ → List Named → Option Next
next_named name screens = if bytes_eq name end_name then Some Ends else option_map Shows (index_of name screens)

abbrev pub lead_by : List Lead → ManifestKey → Option Next → Result (List Lead) ManifestFault
lead_by before key None = Err (at_key key NoSuchScreen)
lead_by before key (Some next) = Ok (before ++ record { key = aid_of key; next = next } ∷ [])

abbrev pub with_lead : List Named → List Lead → Target → Result (List Lead) ManifestFault
with_lead screens before target = lead_by before target.key (next_named target.to screens)

abbrev pub leads_from : List Named → List Lead → List Target → Result (List Lead) ManifestFault
leads_from screens before [] = Ok before
leads_from screens before (target ∷ targets) = with_lead screens before target >>= λ leads. leads_from screens leads targets

abbrev pub planned : List Named → Named → Result Planned ManifestFault
planned screens screen =
    leads_from screens [] screen.targets >>= λ leads.
    Ok (record { name = screen.name; records = screen.records; layout = screen.layout; leads = leads })

abbrev pub with_planned : List Named → ℕ → List Planned → Named → Result (List Planned) ManifestFault
with_planned screens n before screen = in_screen n (planned screens screen) >>= λ one. Ok (before ++ one ∷ [])

-- those from the n-th on, behind those before
abbrev pub plans_from : List Named → ℕ → List Planned → List Named → Result (List Planned) ManifestFault
plans_from screens n before [] = Ok before
plans_from screens n before (screen ∷ others) =
    with_planned screens n before screen >>= λ plans. plans_from screens (n + 1) plans others

-- ---- where keys lead

abbrev pub shows : ℕ → Next → Bool
shows n (Shows screen) = screen == n
shows n Ends = false

-- a key of the screen leads to the n-th
abbrev pub leads_to : List Lead → ℕ → Bool
leads_to leads n = list_any (λ lead. shows n lead.next) leads

-- ---- the manifest

abbrev pub top_keys : List ManifestKey
top_keys = Start ∷ Screen ∷ []

abbrev pub first_of : List ℕ → List Named → Result ℕ ManifestFault
first_of name screens = ok_or (index_of name screens) (at_key Start NoSuchScreen)

-- the keys at the top, each screen in turn, the first screen, and where the keys lead
unfoldable pub declaration_of : Members → Result Declared ManifestFault
declaration_of fields = do
  top ← with_only top_keys fields
  start ← needed_text Start top
  screens ← screens_at top
  first ← first_of start screens
  plans ← plans_from screens 0 [] screens
  Ok (record { first = first; screens = plans })

abbrev pub table_of : List ℕ → Result Members ManifestFault
table_of text = ok_or (parse_document text) not_toml

abbrev pub manifest_of : List ℕ → Result Declared ManifestFault
manifest_of text = table_of text >>= declaration_of

-- whether a way leads to each screen is told by `Chains`; bytes that are no text are no TOML
abbrev pub manifest_said : List ℕ → Result Declared ManifestFault
manifest_said bytes = if is_utf8 bytes then manifest_of bytes else Err not_toml
