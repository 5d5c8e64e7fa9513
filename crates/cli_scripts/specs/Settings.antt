-- What Set and Toggle do, and say.
use Rattle.std.specs.Prelude.{ℕ, Bool, true, false, not, ◌||◌, List, [], ◌∷◌, ◌++◌, codes, Option, Some, None, if◌then◌else◌}
use Rattle.std.specs.Str.{str_eq_ignore_ascii_case}
use Rattle.script_screens.specs.Lines.{Said, done, failed}
use Rattle.cli_scripts.specs.Answers.{printed_text}
use Rattle.cli_scripts.specs.declared.settings.Settings.{Settings}
use Rattle.cli_scripts.specs.declared.settings.Toggle.{Toggle}
use Rattle.cli_scripts.specs.declared.settings.Toggle.TheVariants.{AidWait, BlankFill, MonoCase}
use Rattle.cli_scripts.specs.declared.settings.Verb.{Verb}
use Rattle.cli_scripts.specs.declared.settings.Verb.TheVariants.{Set, Toggle as Turn}

-- as s3270 begins
abbrev pub first_settings : Settings
first_settings = record { blank_fill = true; mono_case = false }

abbrev pub toggle_name : Toggle → List ℕ
toggle_name AidWait = codes "aidWait"
toggle_name BlankFill = codes "blankFill"
toggle_name MonoCase = codes "monoCase"

-- what a name says, in either case
abbrev pub toggle_named : List ℕ → Option Toggle
toggle_named text =
    if str_eq_ignore_ascii_case text (codes "aidWait") then Some AidWait
    else (if str_eq_ignore_ascii_case text (codes "blankFill") then Some BlankFill
    else (if str_eq_ignore_ascii_case text (codes "monoCase") then Some MonoCase else None))

abbrev pub verb_name : Verb → List ℕ
verb_name Set = codes "Set"
verb_name Turn = codes "Toggle"

abbrev pub is_true : List ℕ → Bool
is_true text =
    str_eq_ignore_ascii_case text (codes "true") || (str_eq_ignore_ascii_case text (codes "on") || str_eq_ignore_ascii_case text (codes "set"))

abbrev pub is_false : List ℕ → Bool
is_false text =
    str_eq_ignore_ascii_case text (codes "false") || (str_eq_ignore_ascii_case text (codes "off") || str_eq_ignore_ascii_case text (codes "clear"))

abbrev pub value_named : List ℕ → Option Bool
value_named text = if is_true text then Some true else (if is_false text then Some false else None)

abbrev pub value_word : Bool → List ℕ
value_word value = if value then codes "true" else codes "false"

-- aidWait is always on
abbrev pub value_of : Settings → Toggle → Bool
value_of settings AidWait = true
value_of settings BlankFill = settings.blank_fill
value_of settings MonoCase = settings.mono_case

abbrev pub with_value : Settings → Toggle → Bool → Settings
with_value settings AidWait value = settings
with_value settings BlankFill value = record settings { blank_fill = value }
with_value settings MonoCase value = record settings { mono_case = value }

-- what is set afterwards, and what is said
pub record Changed : Type 0 where
  pub settings : Settings
  pub said : Said

abbrev pub saying : Settings → Said → Changed
saying settings said = record { settings = settings; said = said }

-- a fault with a word of the script in it
abbrev pub quoting : Verb → List ℕ → List ℕ → List ℕ → Said
quoting verb before word after = failed (printed_text (verb_name verb ++ (codes "(): " ++ (before ++ (word ++ after)))))

abbrev pub unknown : Verb → List ℕ → Said
unknown verb name = quoting verb (codes "Unknown toggle name '") name (codes "'")

abbrev pub told_value : Settings → Toggle → List ℕ
told_value settings toggle = printed_text (toggle_name toggle ++ (codes ": " ++ value_word (value_of settings toggle)))

abbrev pub all_said : Settings → Said
all_said settings = done (told_value settings AidWait ∷ told_value settings BlankFill ∷ told_value settings MonoCase ∷ [])

-- Set says what is set, and Toggle turns it over
abbrev pub asked : Settings → Verb → Toggle → Changed
asked settings Set toggle = saying settings (done (printed_text (value_word (value_of settings toggle)) ∷ []))
asked settings Turn toggle = saying (with_value settings toggle (not (value_of settings toggle))) (done [])

abbrev pub asked_or_unknown : Settings → Verb → List ℕ → Option Toggle → Changed
asked_or_unknown settings verb name None = saying settings (unknown verb name)
asked_or_unknown settings verb name (Some toggle) = asked settings verb toggle

abbrev pub assigned : Settings → Verb → Toggle → Option Bool → Changed
assigned settings verb toggle None = saying settings (quoting verb [] (toggle_name toggle) (codes " value must be true or false"))
assigned settings verb toggle (Some value) = saying (with_value settings toggle value) (done [])

abbrev pub assigned_or_unknown : Settings → Verb → List ℕ → List ℕ → Option Toggle → Changed
assigned_or_unknown settings verb name word None = saying settings (unknown verb name)
assigned_or_unknown settings verb name word (Some toggle) = assigned settings verb toggle (value_named word)

-- nothing tells all, a name asks for it or turns it over, a name and a value set it
abbrev pub changed : Settings → Verb → List (List ℕ) → Changed
changed settings verb [] = saying settings (all_said settings)
changed settings verb (name ∷ []) = asked_or_unknown settings verb name (toggle_named name)
changed settings verb (name ∷ word ∷ []) = assigned_or_unknown settings verb name word (toggle_named name)
changed settings verb (name ∷ word ∷ another ∷ words) = saying settings (quoting verb [] (codes "more than a name and a value") [])
