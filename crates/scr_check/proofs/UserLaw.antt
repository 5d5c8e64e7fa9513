-- A yes for a screen that took the records and was pressed.
use Rattle.std.proofs.Common.{◌≡◌, ℕ, ◌&&◌, true, false, not, List, [], ◌∷◌, Ok, refl, sym, ◌∙◌, ap, subst, inl}
use Rattle.std.proofs.lemmas.List.{length-replicate}
use Rattle.ds_codec.specs.Aid.{is_long_aid}
use Rattle.ds_codec.specs.Geometry.{cells_of}
use Rattle.ds_codec.proofs.Records.{ReadSays, read_says}
use Rattle.ds_screen.specs.declared.lock.Lock.TheVariants.{Free}
use Rattle.ds_screen.specs.Picture.{Picture, IsSound, blank}
use Rattle.ds_screen.specs.Records.{new_picture}
use Rattle.ds_screen.proofs.CharacterLaws.{nulls_real}
use Rattle.ds_screen.proofs.SoundLaws.{some_cells, no_key, records_stay_sound}
use Rattle.ds_keys.specs.declared.key.Key.{Key}
use Rattle.ds_keys.specs.KeyRuns as keyed
use Rattle.scr_layout.specs.Layout.{Declaration, IsLayout}
use Rattle.scr_check.specs.Opening.{opening_of}
use Rattle.scr_check.specs.Findings.{findings_of}
use Rattle.scr_check.specs.Promise.{IsProtectedSame, SendsTouched, Promise}
use Rattle.scr_check.specs.Leads.{RecordsLead, KeysLead, YesMeans}
use Rattle.scr_check.specs.Any.{YesMeansForAny}
use Rattle.scr_check.proofs.LeadLaws.{leads_once, leads_from_every, opened_leads}
use Rattle.scr_check.proofs.AnyLaws.{answers_for_any}
use Rattle.scr_check.proofs.VerdictLaws.{opened_so, promise_of}

-- keys of which none sends, and where they lead
record IsLed (before : Picture) (keys : List Key) (v : Picture) : Type 0 where
  quiet : keyed.IsQuiet before keys
  ends : v ≡ keyed.after before keys

led : (before : Picture) (keys : List Key) (v : Picture) → KeysLead before keys v → IsLed before keys v
unfolding keyed.is_quiet keyed.after
led before [] v same = record { quiet = refl; ends = sym same }
led before (key ∷ keys) v (next, pressed, steps, silent, others) =
    let here : next ≡ keyed.after_key before key = ap (λ s. s.after) steps in
    let tells : keyed.is_sent (keyed.answer_of before key) ≡ false = ap (λ s. keyed.is_sent s.pressed) (sym steps) ∙ silent in
    let later = led next keys v others in
    record {
      quiet = ap (λ t. not t && keyed.is_quiet (keyed.after_key before key) keys) tells ∙ ap (λ w. keyed.is_quiet w keys) (sym here) ∙ later.quiet;
      ends = later.ends ∙ ap (λ w. keyed.after w keys) here;
    }

-- ---- the picture that the records left is sound
new_sound : (layout : Declaration) → IsLayout layout → IsSound (new_picture layout.geometry)
new_sound layout law =
    record {
      default_good = law.default;
      alternate_good = law.alternate;
      one_of_two = inl refl;
      whole = length-replicate (cells_of layout.geometry.default) blank;
      cursor_inside = some_cells layout.geometry.mode layout.geometry.default law.default;
      characters = nulls_real (cells_of layout.geometry.default);
      attention = no_key;
    }

pub leads_sound : (v w : Picture) (records : List (List ℕ)) → IsSound v → RecordsLead v records w → IsSound w
leads_sound v w [] sound same = subst IsSound same sound
leads_sound v w (bytes ∷ others) sound (message, next, reads, shows, leads) =
    leads_sound next w others
    (records_stay_sound v next message v.geometry.mode bytes sound (subst (ReadSays v.geometry.mode bytes) reads (read_says v.geometry.mode bytes)) shows) leads

pub yes_means : YesMeans
yes_means layout records law conforms before opened v keys geometry leads pressed =
    let same : opened ≡ conforms.picture = leads_once before opened conforms.picture records leads (leads_from_every layout records conforms.picture conforms.opens before geometry) in
    let opens : opening_of layout records ≡ Ok opened = conforms.opens ∙ ap (λ w. Ok w) (sym same) in
    let sound : IsSound opened = leads_sound (new_picture layout.geometry) opened records (new_sound layout law) (opened_leads layout records opened opens) in
    let went = led opened keys v pressed in
    let holds : Promise layout opened keys = promise_of layout records opened opens sound (ap (findings_of layout) same ∙ conforms.clean) keys went.quiet in
    let P : Picture → Type 0 = λ w. IsProtectedSame opened.cells w.cells in
    let Q : Picture → Type 0 = λ w. (aid : ℕ) → is_long_aid aid ≡ true → w.lock ≡ Free → SendsTouched layout opened keys w aid in
    (subst P (sym went.ends) holds.kept, subst Q (sym went.ends) holds.sends)

pub yes_means_for_any : YesMeansForAny
yes_means_for_any layout records law conforms before opened v aid geometry leads left long =
    let same : opened ≡ conforms.picture = leads_once before opened conforms.picture records leads (leads_from_every layout records conforms.picture conforms.opens before geometry) in
    let opens : opening_of layout records ≡ Ok opened = conforms.opens ∙ ap (λ w. Ok w) (sym same) in
    let sound : IsSound opened = leads_sound (new_picture layout.geometry) opened records (new_sound layout law) (opened_leads layout records opened opens) in
    answers_for_any layout opened (opened_so layout records opened opens sound) (ap (findings_of layout) same ∙ conforms.clean) v left aid long
