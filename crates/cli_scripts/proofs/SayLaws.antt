-- What actions say is determined.
use Rattle.std.proofs.Common.{◌≡◌, ℕ, Bool, true, false, List, [], ◌∷◌, ◌++◌, codes, Some, None, Ok, Err, refl, sym, ap, ◌∙◌, subst}
use Rattle.std.specs.Prelude.{Option, Result, is_some}
use Rattle.script_keys.specs.Actions.{keys, connect, disconnect, quit, other}
use Rattle.script_keys.specs.Faults.{fault_text}
use Rattle.script_requests.specs.Addresses.{Address, read_address, address_fault_text}
use Rattle.script_requests.specs.declared.address.AddressFault.{AddressFault}
use Rattle.script_screens.specs.declared.code_page.CodePage.{CodePage}
use Rattle.script_screens.specs.declared.lines.Outcome.{Outcome}
use Rattle.script_screens.specs.declared.reading.Reading.{Reading}
use Rattle.script_screens.specs.declared.reading.Reading.TheVariants as readings
use Rattle.script_screens.specs.declared.snap.Snap.{Snap}
use Rattle.script_screens.specs.declared.snap.Snap.TheVariants as snaps
use Rattle.script_screens.specs.Lines.{Said, Says, done, failed, data_lines}
use Rattle.script_screens.specs.Query.{said_of_query}
use Rattle.script_screens.specs.Reading.{said_of_reading}
use Rattle.script_screens.specs.Snap.{snap_of, snap_fault_words}
use Rattle.ds_screen.specs.Picture.{Picture}
use Rattle.tn_session.specs.declared.terminal_state.TerminalState.{TerminalState}
use Rattle.tn_session.specs.Talk.{Talk, stands, starved}
use Rattle.tn_session.specs.TerminalTalk.{OfStanding, lu_name_in}
use Rattle.cli_scripts.specs.Answers.{printed_name, printed_text}
use Rattle.cli_scripts.specs.DeedLaws.{IsFed}
use Rattle.cli_scripts.specs.Desks.{Worked, link_in, named_in}
use Rattle.cli_scripts.specs.Kinds.{kind_of}
use Rattle.cli_scripts.specs.Settings.{changed}
use Rattle.cli_scripts.specs.declared.came.Need.TheVariants.{Page, Layout}
use Rattle.cli_scripts.specs.declared.doing.Doing.TheVariants.{Writing, Checking}
use Rattle.cli_scripts.specs.declared.doing.Step.{Step}
use Rattle.cli_scripts.specs.declared.doing.Step.TheVariants.{Waits}
use Rattle.cli_scripts.specs.declared.kept.KeptScreen.{KeptScreen}
use Rattle.cli_scripts.specs.declared.kind.Kind.{Kind}
use Rattle.cli_scripts.specs.declared.kind.Kind.TheVariants as kinds
use Rattle.cli_scripts.specs.declared.worker.Worker.{Worker}
use Rattle.cli_scripts.specs.Says.{EndsSaying, Reads, Snaps, said_of_copy, after_first, Answers, EndsAnswering, Printed, as_lines, as_page, as_fault, Prints, printing_of, AsksLayout, WantsPage, WantsLayout, Connects, Others}
use Rattle.cli_scripts.specs.SayLaws.{beside, IsTold, outcome_of, SayingAgrees}

abbrev Same : List ℕ → List ℕ → Step → Step → Type 0
Same new also step other_step = (new ≡ also) × (outcome_of step ≡ outcome_of other_step)

shown_once : (talk : Talk TerminalState) (v w : Picture) → IsFed talk → OfStanding (λ state. state.terminal) talk v
    → OfStanding (λ state. state.terminal) talk w → v ≡ w
shown_once (stands standing) v w fed p q = p ∙ sym q
shown_once starved v w fed p q = absurd fed

ends_same : (said : Said) (old new also : List ℕ) (step other_step : Step) → EndsSaying said step old new → EndsSaying said other_step old also
    → Same new also step other_step
ends_same said old new also step other_step (is, grows) (so, more) = (grows ∙ sym more, ap outcome_of (is ∙ sym so))

-- two that say the same
said_same : (said also_said : Said) (old new also : List ℕ) (outcome other_outcome : Outcome) → said ≡ also_said → Says old new outcome said
    → Says old also other_outcome also_said → (new ≡ also) × (outcome ≡ other_outcome)
said_same said also_said old new also outcome other_outcome same (grows, is) (more, so) =
    (grows ∙ ap (λ (s : Said). old ++ data_lines s.texts) same ∙ sym more, is ∙ ap (λ (s : Said). s.outcome) same ∙ sym so)

pub reads_same : (page : CodePage) (reading : Reading) (words : List (List ℕ)) (w z w_new z_new : Worked) (old new also : List ℕ) (outcome other_outcome : Outcome)
    → w.talk ≡ z.talk → IsFed w.talk → Reads page reading words w old outcome w_new new → Reads page reading words z old other_outcome z_new also
    → (new ≡ also) × (outcome ≡ other_outcome)
reads_same page reading words w z w_new z_new old new also outcome other_outcome alike fed ((v, shows, says), _) ((u, shown, also_says), _) =
    said_same (said_of_reading page v reading words) (said_of_reading page u reading words) old new also outcome other_outcome
    (ap (λ (p : Picture). said_of_reading page p reading words)
    (shown_once w.talk v u fed shows (subst (λ (t : Talk TerminalState). OfStanding (λ state. state.terminal) t u) (sym alike) shown))) says also_says

snaps_same : (snap : Snap) (page : CodePage) (words : List (List ℕ)) (w z : Worked) (kept kept_new kept_also : Option KeptScreen) (old new also : List ℕ)
    (outcome other_outcome : Outcome) → Snaps snap page words w kept old outcome kept_new new → Snaps snap page words z kept old other_outcome kept_also also
    → (new ≡ also) × (outcome ≡ other_outcome)
snaps_same snaps.Save page words w z kept kept_new kept_also old new also outcome other_outcome (copy, says) (copied, also_says) =
    said_same (done []) (done []) old new also outcome other_outcome refl says also_says
snaps_same (snaps.Kept it) page words w z kept kept_new kept_also old new also outcome other_outcome (copy, says) (copied, also_says) =
    said_same (said_of_copy page kept it (after_first words)) (said_of_copy page kept it (after_first words)) old new also outcome other_outcome refl says also_says
snaps_same (snaps.Fault fault) page words w z kept kept_new kept_also old new also outcome other_outcome (copy, says) (copied, also_says) =
    said_same (failed (codes "Snap(): " ++ snap_fault_words fault)) (failed (codes "Snap(): " ++ snap_fault_words fault)) old new also outcome other_outcome refl says also_says

pub answers_same : (kind : Kind) (words : List (List ℕ)) (one new other_new : Worker) (w : Worked) (outcome other_outcome : Outcome)
    → IsFed one.desk.talk → Answers kind words one outcome new → Answers kind words (beside one w) other_outcome other_new
    → (new.saying ≡ other_new.saying) × (outcome ≡ other_outcome)
answers_same (kinds.Reads reading) words one new other_new w outcome other_outcome fed p q =
    reads_same one.code_page reading words one.desk (beside one w).desk new.desk other_new.desk one.saying new.saying other_new.saying outcome other_outcome
    refl fed p q
answers_same kinds.Snaps words one new other_new w outcome other_outcome fed p q =
    snaps_same (snap_of words) one.code_page words one.desk (beside one w).desk one.kept new.kept other_new.kept one.saying new.saying other_new.saying
    outcome other_outcome p q
answers_same (kinds.Tells asked) words one new other_new w outcome other_outcome fed (v, shows, says) (u, shown, also_says) =
    said_same (said_of_query v (link_in one.desk (printed_name (lu_name_in one.desk.talk))) (named_in one.desk) asked words)
    (said_of_query u (link_in one.desk (printed_name (lu_name_in one.desk.talk))) (named_in one.desk) asked words) one.saying new.saying other_new.saying outcome other_outcome
    (ap (λ (p : Picture). said_of_query p (link_in one.desk (printed_name (lu_name_in one.desk.talk))) (named_in one.desk) asked words)
    (shown_once one.desk.talk v u fed shows shown)) says also_says
answers_same (kinds.Sets verb) words one new other_new w outcome other_outcome fed (set, says) (also_set, also_says) =
    said_same (changed one.settings verb words).said (changed one.settings verb words).said one.saying new.saying other_new.saying outcome other_outcome refl says also_says
answers_same kinds.Expects words one new other_new w outcome other_outcome fed p q =
    said_same (failed (printed_text (codes "Expect() is valid only when connected in NVT mode"))) (failed (printed_text (codes "Expect() is valid only when connected in NVT mode"))) one.saying new.saying other_new.saying outcome other_outcome refl p q
answers_same kinds.Rings words one new other_new w outcome other_outcome fed p q =
    said_same (done (printed_text (codes "(ding)") ∷ [])) (done (printed_text (codes "(ding)") ∷ [])) one.saying new.saying other_new.saying outcome other_outcome refl p q
answers_same kinds.Types words one new other_new w outcome other_outcome fed p q =
    said_same (done []) (done []) one.saying new.saying other_new.saying outcome other_outcome refl p q
answers_same kinds.TypesKey words one new other_new w outcome other_outcome fed p q =
    said_same (done []) (done []) one.saying new.saying other_new.saying outcome other_outcome refl p q
answers_same kinds.Waits words one new other_new w outcome other_outcome fed p q =
    said_same (done []) (done []) one.saying new.saying other_new.saying outcome other_outcome refl p q
answers_same kinds.Prints words one new other_new w outcome other_outcome fed p q =
    said_same (done []) (done []) one.saying new.saying other_new.saying outcome other_outcome refl p q
answers_same kinds.Checks words one new other_new w outcome other_outcome fed p q =
    said_same (done []) (done []) one.saying new.saying other_new.saying outcome other_outcome refl p q
answers_same kinds.Rests words one new other_new w outcome other_outcome fed p q =
    said_same (done []) (done []) one.saying new.saying other_new.saying outcome other_outcome refl p q

ended_same : (kind : Kind) (words : List (List ℕ)) (one new other_new : Worker) (w : Worked) (step other_step : Step) → IsFed one.desk.talk
    → EndsAnswering kind words one step new → EndsAnswering kind words (beside one w) other_step other_new
    → Same new.saying other_new.saying step other_step
ended_same kind words one new other_new w step other_step fed (outcome, is, p) (other_outcome, so, q) =
    let same = answers_same kind words one new other_new w outcome other_outcome fed p q in
    (same.0, ap outcome_of is ∙ ap Some same.1 ∙ sym (ap outcome_of so))

-- what wants a file hasn't ended
page_open : (path : List ℕ) (step : Step) → WantsPage path step → outcome_of step ≡ None
page_open path (Waits (Writing it) Page) wants = refl
page_open path step wants = absurd wants

layout_open : (path : List ℕ) (step : Step) → WantsLayout path step → outcome_of step ≡ None
layout_open path (Waits (Checking it) Layout) wants = refl
layout_open path step wants = absurd wants

prints_same : (asked : Printed) (one new other_new : Worker) (w : Worked) (step other_step : Step) → IsFed one.desk.talk
    → Prints asked one step new → Prints asked (beside one w) other_step other_new → Same new.saying other_new.saying step other_step
prints_same as_lines one new other_new w step other_step fed (outcome, is, p) (other_outcome, so, q) =
    let same = reads_same one.code_page readings.Ascii [] one.desk (beside one w).desk new.desk other_new.desk one.saying new.saying other_new.saying outcome other_outcome
    refl fed p q in
    (same.0, ap outcome_of is ∙ ap Some same.1 ∙ sym (ap outcome_of so))
prints_same (as_page path) one new other_new w step other_step fed (wants, is, rests) (also, so, rested) =
    (is ∙ sym so, page_open path step wants ∙ sym (page_open path other_step also))
prints_same (as_fault words) one new other_new w step other_step fed (p, rests) (q, rested) =
    ends_same (failed (printed_text words)) one.saying new.saying other_new.saying step other_step p q

asks_same : (words : List (List ℕ)) (step other_step : Step) → AsksLayout words step → AsksLayout words other_step → outcome_of step ≡ outcome_of other_step
asks_same [] step other_step is so = ap outcome_of (is ∙ sym so)
asks_same (path ∷ words) step other_step wants also = layout_open path step wants ∙ sym (layout_open path other_step also)

others_same : (kind : Kind) (words : List (List ℕ)) (one new other_new : Worker) (w : Worked) (step other_step : Step) → IsTold kind
    → IsFed one.desk.talk → Others kind words one step new → Others kind words (beside one w) other_step other_new
    → Same new.saying other_new.saying step other_step
others_same kinds.Types words one new other_new w step other_step told fed p q = absurd told
others_same kinds.TypesKey words one new other_new w step other_step told fed p q = absurd told
others_same kinds.Waits words one new other_new w step other_step told fed p q = absurd told
others_same kinds.Prints words one new other_new w step other_step told fed p q =
    prints_same (printing_of words) one new other_new w step other_step fed p q
others_same kinds.Checks words one new other_new w step other_step told fed (asks, is) (also, so) =
    (is ∙ sym so, asks_same words step other_step asks also)
others_same (kinds.Reads reading) words one new other_new w step other_step told fed p q =
    ended_same (kinds.Reads reading) words one new other_new w step other_step fed p q
others_same kinds.Snaps words one new other_new w step other_step told fed p q =
    ended_same kinds.Snaps words one new other_new w step other_step fed p q
others_same (kinds.Tells asked) words one new other_new w step other_step told fed p q =
    ended_same (kinds.Tells asked) words one new other_new w step other_step fed p q
others_same (kinds.Sets verb) words one new other_new w step other_step told fed p q =
    ended_same (kinds.Sets verb) words one new other_new w step other_step fed p q
others_same kinds.Expects words one new other_new w step other_step told fed p q =
    ended_same kinds.Expects words one new other_new w step other_step fed p q
others_same kinds.Rings words one new other_new w step other_step told fed p q =
    ended_same kinds.Rings words one new other_new w step other_step fed p q
others_same kinds.Rests words one new other_new w step other_step told fed p q =
    ended_same kinds.Rests words one new other_new w step other_step fed p q

connects_same : (connected : Bool) (text : List ℕ) (read : Result Address AddressFault) (old new also : List ℕ) (step other_step : Step)
    → Connects connected text read step old new → Connects connected text read other_step old also → Same new also step other_step
connects_same true text read old new also step other_step p q =
    ends_same (failed (printed_text (codes "Already connected"))) old new also step other_step p q
connects_same false text (Ok address) old new also step other_step (is, kept) (so, stays) = (kept ∙ sym stays, ap outcome_of (is ∙ sym so))
connects_same false text (Err fault) old new also step other_step p q =
    ends_same (failed (printed_text (address_fault_text text fault))) old new also step other_step p q

pub saying_agrees : SayingAgrees
saying_agrees (Ok (keys it)) one new other_new w step other_step told fed p q = absurd told
saying_agrees (Ok (connect text)) one new other_new w step other_step told fed p q =
    connects_same (is_some one.desk.host) text (read_address text) one.saying new.saying other_new.saying step other_step p q
saying_agrees (Ok disconnect) one new other_new w step other_step told fed (is, same, _) (so, also, _) =
    (same ∙ sym also, ap outcome_of (is ∙ sym so))
saying_agrees (Ok quit) one new other_new w step other_step told fed (is, same) (so, also) = (same ∙ sym also, ap outcome_of (is ∙ sym so))
saying_agrees (Ok (other name words)) one new other_new w step other_step told fed p q =
    others_same (kind_of name) words one new other_new w step other_step told fed p q
saying_agrees (Err fault) one new other_new w step other_step told fed p q =
    ends_same (failed (printed_text (fault_text fault))) one.saying new.saying other_new.saying step other_step p q
