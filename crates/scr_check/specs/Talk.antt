-- A dialogue with its keys, and what a yes promises of each of its turns.
use Rattle.std.specs.Prelude.{◌≡◌, ℕ, false, List, [], ◌∷◌, ◌++◌, Ok}
use Rattle.ds_screen.specs.Picture.{Picture}
use Rattle.ds_keys.specs.declared.key.Key.{Key}
use Rattle.ds_keys.specs.declared.key.Key.TheVariants.{Attention}
use Rattle.ds_keys.specs.KeyRuns as keyed
use Rattle.ds_keys.specs.Laws.{is_clear}
use Rattle.scr_check.specs.Opening.{ready}
use Rattle.scr_check.specs.Findings.{findings_of}
use Rattle.scr_check.specs.Promise.{KeepsPromise}
use Rattle.scr_check.specs.Leads.{RecordsLead}
use Rattle.scr_check.specs.Walk.{Round}

-- A turn as it goes. Its records lead from what stood there to a picture. Then the operator presses any keys of which none
-- sends, and then an attention key other than Clear, which is accepted.
pub record TurnLeads (before : Picture) (round : Round) (after : Picture) : Type 0 where
  pub opened : Picture
  pub keys : List Key
  pub aid : ℕ
  pub leads : RecordsLead before round.records opened
  pub quiet : keyed.IsQuiet opened keys
  pub accepted : keyed.IsAccepted (keyed.after opened keys) (Attention aid)
  pub other : is_clear (Attention aid) ≡ false
  pub leaves : after ≡ keyed.after_key (keyed.after opened keys) (Attention aid)

-- a dialogue up to here: each turn begins with the picture that the one before left
abbrev pub Talks : Picture → List Round → Picture → Type 0
Talks before [] after = before ≡ after
Talks before (round ∷ rounds) after = (next : Picture) × TurnLeads before round next × Talks next rounds after

-- The records of the turn lead to a picture on which the operator can type, of the layout's size, with fields, against
-- which nothing stands; and from it the promise holds for any keys before the next attention key.
pub record TurnKeeps (before : Picture) (round : Round) : Type 0 where
  pub opened : Picture
  pub leads : RecordsLead before round.records opened
  pub usable : ready round.layout.size opened ≡ Ok opened
  pub clean : findings_of round.layout opened ≡ []
  pub promise : KeepsPromise round.layout opened

-- Each turn does, whatever the operator left in the turns before: however the dialogue went up to it, from any picture of
-- the layouts' geometry at the very first. The dialogue may stop after any turn.
abbrev pub TalksKeep : List Round → Type 0
TalksKeep rounds =
    (early : List Round) (round : Round) (late : List Round) → rounds ≡ early ++ round ∷ late
    → (first before : Picture) → first.geometry ≡ round.layout.geometry → Talks first early before → TurnKeeps before round
