-- The token that is open in a deframer, byte by byte.
use Rattle.std.specs.Prelude.{ℕ, ◌≡◌, ◌<◌, ◌≤◌, List, [], ◌∷◌, ◌++◌, length, Result, Ok, Err, Option, None, Some}
use Rattle.tn_wire.specs.Codes.{iac, sub_begin, record_most, sub_most}
use Rattle.tn_wire.specs.declared.event.WireFault.{WireFault}
use Rattle.tn_wire.specs.declared.open_token.Open.{Open}
use Rattle.tn_wire.specs.declared.open_token.Open.TheVariants.{Nothing, Told, Escape, Command, Start, StartEscape, Inside, InsideEscape}
use Rattle.tn_wire.specs.declared.open_token.Found.{Found}
use Rattle.tn_wire.specs.declared.open_token.Found.TheVariants.{Record as FoundRecord, Verb as FoundVerb, Sub as FoundSub, Passed as FoundPassed}
use Rattle.tn_wire.specs.Verbs.{verb_code}
use Rattle.tn_wire.specs.Telnet.{quoted}
use Rattle.tn_wire.specs.Stream.{Told as ToldEvent, told_record, told_verb, told_sub, told_passed}
use Rattle.tn_wire.specs.Calls.{Answers}

-- the bytes of the token that is open
abbrev pub open_bytes : List ℕ → Open → List ℕ
open_bytes parameters Nothing = []
open_bytes parameters Told = []
open_bytes parameters Escape = iac ∷ []
open_bytes parameters (Command verb) = iac ∷ verb_code verb ∷ []
open_bytes parameters Start = iac ∷ sub_begin ∷ []
open_bytes parameters StartEscape = iac ∷ sub_begin ∷ iac ∷ []
open_bytes parameters (Inside option) = iac ∷ sub_begin ∷ quoted (option ∷ parameters)
open_bytes parameters (InsideEscape option) = iac ∷ sub_begin ∷ (quoted (option ∷ parameters) ++ iac ∷ [])

-- the data of the record that is open: none, where what is kept was told
abbrev pub open_data : List ℕ → Open → List ℕ
open_data kept Told = []
open_data kept Nothing = kept
open_data kept Escape = kept
open_data kept (Command verb) = kept
open_data kept Start = kept
open_data kept StartEscape = kept
open_data kept (Inside option) = kept
open_data kept (InsideEscape option) = kept

-- all that is open: the record's data as it was spelled, and the token
abbrev pub content_of : List ℕ → List ℕ → Open → List ℕ
content_of kept parameters state = quoted (open_data kept state) ++ open_bytes parameters state

-- the bytes that the event told last lends
abbrev pub lent_of : List ℕ → List ℕ → Open → List ℕ
lent_of kept parameters Told = kept
lent_of kept parameters Nothing = parameters
lent_of kept parameters Escape = parameters
lent_of kept parameters (Command verb) = parameters
lent_of kept parameters Start = parameters
lent_of kept parameters StartEscape = parameters
lent_of kept parameters (Inside option) = parameters
lent_of kept parameters (InsideEscape option) = parameters

abbrev pub found_events : Option Found → List ℕ → List ToldEvent
found_events None lent = []
found_events (Some FoundRecord) lent = told_record lent ∷ []
found_events (Some (FoundVerb verb option)) lent = told_verb (verb_code verb) option ∷ []
found_events (Some (FoundSub option)) lent = told_sub option lent ∷ []
found_events (Some (FoundPassed b)) lent = told_passed b ∷ []

-- the byte was taken where this was open: what is kept now, and the answer
abbrev pub TakesByte : List ℕ → ℕ → List ℕ → List ℕ → Result (Open × Option Found) WireFault → Type 0
TakesByte old byte kept parameters (Ok taken) =
    Answers old (byte ∷ []) (Ok (found_events taken.1 (lent_of kept parameters taken.0))) (content_of kept parameters taken.0)
TakesByte old byte kept parameters (Err fault) = Answers old (byte ∷ []) (Err fault) []

-- what the deframer keeps has its limits, and room for a whole record
pub record HasRoom (kept : List ℕ) (capacity : ℕ) (parameters : List ℕ) : Type 0 where
  pub record_fits : length kept ≤ record_most
  pub room : record_most ≤ capacity
  pub parameters_fit : length parameters ≤ sub_most

-- data bytes, none of them an IAC, from the front of the input to the record that is open
pub record TakesRun (kept before new after : List ℕ) : Type 0 where
  pub run : List ℕ
  pub plain : quoted run ≡ run
  pub taken : before ≡ run ++ after
  pub added : new ≡ kept ++ run

-- bytes were taken that tell nothing
pub record GoesOn (old before new after : List ℕ) : Type 0 where
  pub taken : List ℕ
  pub front : before ≡ taken ++ after
  pub answers : Answers old taken (Ok []) new

abbrev pub found_result : Result (Option Found) WireFault → List ℕ → Result (List ToldEvent) WireFault
found_result (Ok found) lent = Ok (found_events found lent)
found_result (Err fault) lent = Err fault

-- bytes were taken up to an event or the end of the input, where this was open: what is kept now, and the answer
pub record TakesEvent (old before kept parameters : List ℕ) (state : Open) (result : Result (Option Found) WireFault) (after : List ℕ) : Type 0 where
  pub taken : List ℕ
  pub front : before ≡ taken ++ after
  pub answers : Answers old taken (found_result result (lent_of kept parameters state)) (content_of kept parameters state)
  pub used_up : result ≡ Ok None → after ≡ []
  pub shorter : (result ≡ Ok None → ⊥) → length after < length before
