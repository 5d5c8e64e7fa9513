-- What was done, and one deed more.
use Rattle.std.proofs.Common.{◌≡◌, ℕ, Bool, true, false, Some, None, List, [], ◌∷◌, ◌++◌, refl, sym, ap, ◌∙◌, append_assoc, subst}
use Rattle.std.proofs.lemmas.List.{append-nil}
use Rattle.tn_cores.specs.declared.device.Device.{Device}
use Rattle.tn_session.specs.declared.terminal_state.TerminalState.{TerminalState}
use Rattle.tn_session.specs.Talk.{Talk}
use Rattle.cli_scripts.specs.declared.deed.Deed.{Deed}
use Rattle.cli_scripts.specs.declared.deed.Deed.TheVariants.{Begun}
use Rattle.cli_scripts.specs.Deeds.{Does, Did, DidSo, new_talk}
use Rattle.cli_scripts.specs.Desks.{NamedHost, Worked, opened}
use Rattle.cli_scripts.specs.SentOn.{SentOn, collected}

pub one_more_deed : (device : Device) (deeds : List Deed) (deed : Deed) (heard bytes given more : List ℕ) (all here : List SentOn)
    (first mid new : Talk TerminalState)
    → Did device deeds heard given all first mid → Does device deed bytes more here mid new
    → Did device (deeds ++ deed ∷ []) (heard ++ bytes) (given ++ more) (all ++ here) first new
one_more_deed device [] deed heard bytes given more all here first mid new (none, nothing, unsent, same) does = (
  bytes,
  [],
  ap (λ z. z ++ bytes) none ∙ sym (append-nil bytes),
  more,
  [],
  ap (λ z. z ++ more) nothing ∙ sym (append-nil more),
  here,
  [],
  ap (λ z. z ++ here) unsent ∙ sym (append-nil here),
  new,
  subst (λ z. Does device deed bytes more here z new) same does,
  (refl, refl, refl, refl),
)
one_more_deed device (early ∷ deeds) deed heard bytes given more all here first mid new
    (front, rest, cut, due, later, parted, on, afterwards, split, between, did, others) does = (
      front,
      rest ++ bytes,
      ap (λ z. z ++ bytes) cut ∙ append_assoc front rest bytes,
      due,
      later ++ more,
      ap (λ z. z ++ more) parted ∙ append_assoc due later more,
      on,
      afterwards ++ here,
      ap (λ z. z ++ here) split ∙ append_assoc on afterwards here,
      between,
      did,
      one_more_deed device deeds deed rest bytes later more afterwards here between mid new others does,
    )

pub collected_more : (collects : Bool) (early late : List SentOn) → collected collects (early ++ late) ≡ collected collects early ++ collected collects late
collected_more true early late = refl
collected_more false early late = refl

collected_none : (collects : Bool) (screens : List SentOn) → screens ≡ screens ++ collected collects []
collected_none true screens = sym (append-nil screens)
collected_none false screens = sym (append-nil screens)

-- the same, where what is due grows behind what was handed out, and screens are collected behind others
pub step : (device : Device) (deeds longer : List Deed) (deed : Deed) (heard all bytes gone due new_due more : List ℕ)
    (collects : Bool) (screens grown here : List SentOn) (mid new : Talk TerminalState)
    → longer ≡ deeds ++ deed ∷ [] → all ≡ heard ++ bytes → new_due ≡ due ++ more → grown ≡ screens ++ collected collects here
    → DidSo device deeds heard (gone ++ due) mid collects screens
    → Does device deed bytes more here mid new → DidSo device longer all (gone ++ new_due) new collects grown
step device deeds longer deed heard all bytes gone due new_due more collects screens grown here mid new is hears grows shows (sent, did, kept) does = (
  sent ++ here,
  subst (λ (ds : List Deed). Did device ds all (gone ++ new_due) (sent ++ here) (new_talk device) new) (sym is)
      (subst (λ (hs : List ℕ). Did device (deeds ++ deed ∷ []) hs (gone ++ new_due) (sent ++ here) (new_talk device) new) (sym hears)
      (subst (λ (gs : List ℕ). Did device (deeds ++ deed ∷ []) (heard ++ bytes) gs (sent ++ here) (new_talk device) new)
      (append_assoc gone due more ∙ sym (ap (λ z. gone ++ z) grows))
      (one_more_deed device deeds deed heard bytes (gone ++ due) more sent here (new_talk device) mid new did does))),
  shows ∙ ap (λ z. z ++ collected collects here) kept ∙ sym (collected_more collects sent here),
)

-- a deed on which no screen is kept
pub plain_step : (device : Device) (deeds longer : List Deed) (deed : Deed) (heard all bytes gone due new_due more : List ℕ)
    (collects : Bool) (screens : List SentOn) (mid new : Talk TerminalState)
    → longer ≡ deeds ++ deed ∷ [] → all ≡ heard ++ bytes → new_due ≡ due ++ more
    → DidSo device deeds heard (gone ++ due) mid collects screens
    → Does device deed bytes more [] mid new → DidSo device longer all (gone ++ new_due) new collects screens
plain_step device deeds longer deed heard all bytes gone due new_due more collects screens mid new is hears grows did does =
    step device deeds longer deed heard all bytes gone due new_due more collects screens screens [] mid new is hears grows
    (collected_none collects screens) did does

-- a deed by which nothing is heard
pub silent_step : (device : Device) (deeds longer : List Deed) (deed : Deed) (heard gone due new_due more : List ℕ)
    (collects : Bool) (screens grown here : List SentOn) (mid new : Talk TerminalState)
    → longer ≡ deeds ++ deed ∷ [] → new_due ≡ due ++ more → grown ≡ screens ++ collected collects here
    → DidSo device deeds heard (gone ++ due) mid collects screens
    → Does device deed [] more here mid new → DidSo device longer heard (gone ++ new_due) new collects grown
silent_step device deeds longer deed heard gone due new_due more collects screens grown here mid new is grows shows did does =
    step device deeds longer deed heard heard [] gone due new_due more collects screens grown here mid new is (sym (append-nil heard)) grows shows did does

-- a session begins
pub begun_step : (device : Device) (deeds longer : List Deed) (heard gone due : List ℕ) (collects : Bool) (screens : List SentOn)
    (mid new : Talk TerminalState)
    → longer ≡ deeds ++ Begun ∷ [] → DidSo device deeds heard (gone ++ due) mid collects screens → new ≡ new_talk device
    → DidSo device longer heard (gone ++ due) new collects screens
begun_step device deeds longer heard gone due collects screens mid new is did begins =
    plain_step device deeds longer Begun heard heard [] gone due due [] collects screens mid new is (sym (append-nil heard)) (sym (append-nil due)) did
    (refl, refl, refl, begins)

-- ---- a session anew

-- a terminal anew is in place of the one that was there
pub renewed_is : (w v : Worked) (talk : Talk TerminalState) (deeds : List Deed) (told : ℕ) → w ≡ v → talk ≡ new_talk w.device → deeds ≡ w.deeds ++ Begun ∷ []
    → told ≡ 0 → record w { talk = talk; deeds = deeds; told = told } ≡ record v { talk = new_talk v.device; deeds = v.deeds ++ Begun ∷ []; told = 0 }
renewed_is w v talk deeds told same is grows none =
    ap (λ (t : Talk TerminalState). record w { talk = t; deeds = deeds; told = told }) is
    ∙ ap (λ (ds : List Deed). record w { talk = new_talk w.device; deeds = ds; told = told }) grows
    ∙ ap (λ (n : ℕ). record w { talk = new_talk w.device; deeds = w.deeds ++ Begun ∷ []; told = n }) none
    ∙ ap (λ (u : Worked). record u { talk = new_talk u.device; deeds = u.deeds ++ Begun ∷ []; told = 0 }) same

-- with a host
pub opened_is : (w v old : Worked) (host : NamedHost) → w ≡ v → v ≡ record old { talk = new_talk old.device; deeds = old.deeds ++ Begun ∷ []; told = 0 }
    → record w { host = Some host; was_read = false; reads = 0; fault = None } ≡ opened old host
opened_is w v old host same is = ap (λ (u : Worked). record u { host = Some host; was_read = false; reads = 0; fault = None }) (same ∙ is)
