-- The screens of a dialogue: what is sent of each, and where each key leads.
use Rattle.std.specs.Prelude.{ℕ, ◌==◌, List, [], ◌∷◌, map, Option, Some, None, unwrap_or, slice_get, if◌then◌else◌}
use Rattle.tn_session.specs.Sent.{next_sequence}
use Rattle.tn_dialogue.specs.declared.screen.Lead.{Lead}
use Rattle.tn_dialogue.specs.declared.screen.Next.{Next}
use Rattle.tn_dialogue.specs.declared.screen.Screen.{Screen}

-- where a key leads that has a lead: the first of them
abbrev pub lead_in : List Lead → ℕ → Option Next
lead_in [] key = None
lead_in (lead ∷ leads) key = if lead.key == key then Some lead.next else lead_in leads key

-- the others lead where the screen says
abbrev pub next_by : Option Next → Next → Next
next_by (Some next) otherwise = next
next_by None otherwise = otherwise

abbrev pub next_of : Screen → ℕ → Next
next_of screen key = next_by (lead_in screen.leads.items key) screen.otherwise

abbrev pub records_of : Option Screen → List (List ℕ)
records_of None = []
records_of (Some screen) = map (λ bytes. bytes.items) screen.records.items

-- the number after records that are numbered from this one on
abbrev pub sequence_after : ℕ → List (List ℕ) → ℕ
sequence_after sequence [] = sequence
sequence_after sequence (bytes ∷ records) = sequence_after (next_sequence sequence) records
