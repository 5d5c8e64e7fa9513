-- What becomes of an action is determined.
use Rattle.std.proofs.Common.{◌≡◌, ℕ, Bool, true, false, not, ◌&&◌, cond, List, [], ◌∷◌, ◌++◌, codes, Option, Some, None, Ok, Err, refl, sym, ap, ◌∙◌, subst}
use Rattle.std.specs.Prelude.{Result, is_some}
use Rattle.script_keys.specs.Actions.{Action, keys, connect, disconnect, quit, other}
use Rattle.script_keys.specs.declared.keys.Keys.{Keys}
use Rattle.script_keys.specs.Faults.{Fault, fault_text}
use Rattle.script_keys.specs.Runs.{keys_of}
use Rattle.script_keys.specs.Steps.{runs_of}
use Rattle.script_requests.specs.Addresses.{Address, read_address, address_fault_text}
use Rattle.script_requests.specs.declared.address.AddressFault.{AddressFault}
use Rattle.script_requests.specs.declared.wait.Awaited.{Awaited}
use Rattle.script_requests.specs.declared.wait.Awaited.TheVariants.{InputField, Mode3270, NvtMode, Output, Unlock, Disconnect, Seconds}
use Rattle.script_requests.specs.declared.wait.Wait.{Wait}
use Rattle.script_requests.specs.declared.wait.WaitFault.{WaitFault}
use Rattle.script_requests.specs.Waits.{read_wait}
use Rattle.script_screens.specs.declared.code_page.CodePage.{CodePage}
use Rattle.script_screens.specs.declared.key.Typed.{Typed}
use Rattle.script_screens.specs.declared.key.Typed.TheVariants.{Code, NoCode, Unknown}
use Rattle.script_screens.specs.declared.lines.Outcome.{Outcome}
use Rattle.script_screens.specs.declared.lines.Outcome.TheVariants as outcomes
use Rattle.script_screens.specs.declared.reading.Reading.TheVariants as readings
use Rattle.script_screens.specs.declared.snap.Snap.{Snap}
use Rattle.script_screens.specs.declared.snap.Snap.TheVariants as snaps
use Rattle.script_screens.specs.Key.{key_of}
use Rattle.script_screens.specs.Lines.{Said, failed}
use Rattle.script_screens.specs.Snap.{snap_of}
use Rattle.tn_session.specs.declared.terminal_state.TerminalState.{TerminalState}
use Rattle.tn_session.specs.OneLog.{waits}
use Rattle.tn_session.specs.Talk.{Talk, stands}
use Rattle.cli_scripts.specs.Acts.{Acts, PressesAs, PressesKeys, PressesOnly, WorksKeys, MayRead, cleared, is_clear, is_reset, keys_deeds}
use Rattle.cli_scripts.specs.Answers.{printed_text}
use Rattle.cli_scripts.specs.declared.came.Need.TheVariants.{Bytes, Connection}
use Rattle.cli_scripts.specs.declared.doing.Doing.TheVariants.{Calling, Pressing, Sent, TypingCode, Waiting}
use Rattle.cli_scripts.specs.declared.doing.Step.{Step}
use Rattle.cli_scripts.specs.declared.doing.Step.TheVariants.{Ended, Quits, Waits}
use Rattle.cli_scripts.specs.declared.kept.KeptScreen.{KeptScreen}
use Rattle.cli_scripts.specs.declared.kind.Kind.{Kind}
use Rattle.cli_scripts.specs.declared.kind.Kind.TheVariants as kinds
use Rattle.cli_scripts.specs.declared.settings.Settings.{Settings}
use Rattle.cli_scripts.specs.declared.waiting.Becomes.{Becomes}
use Rattle.cli_scripts.specs.declared.waiting.Becomes.TheVariants.{Over, Fails, Awaits}
use Rattle.cli_scripts.specs.declared.worker.Worker.{Worker}
use Rattle.cli_scripts.specs.Desks.{NamedHost, Worked, is_waiting}
use Rattle.cli_scripts.specs.Keying.{OnWaiting, waits_in, EndsKeys, PressesSo, SaysKeys, TypedSo, SaysCode, SaysKeyOf, SaysTyped, OthersKeys, bad_key, code_keys, key_deeds, locked_said}
use Rattle.cli_scripts.specs.Kinds.{kind_of}
use Rattle.cli_scripts.specs.Performs.{Acted}
use Rattle.cli_scripts.specs.Pressing.{after_keys, all_typed_at, any_inhibited}
use Rattle.cli_scripts.specs.RunLaws.{IsSound, StandsSo}
use Rattle.cli_scripts.specs.Says.{AsksLayout, Connects, EndsAnswering, EndsSaying, IsCopyOf, Others, Printed, as_fault, as_lines, as_page, Prints, Snaps, named_host, printing_of}
use Rattle.cli_scripts.specs.TypedTexts.{OthersTexts, TypesArguments}
use Rattle.cli_scripts.specs.Waits.{BeginsAsked, BeginsAt, BeginsTold, HearsAt, HearsTold, HoldsSo, OnLine, Tells, WaitsAs, lacks_time, on_line}
use Rattle.cli_scripts.specs.Workers.{KeepsSet, SetsAs}
use Rattle.cli_scripts.proofs.SameSteps.{SameStep, layouts_alike, pages_alike, steps_alike}
use Rattle.cli_scripts.proofs.SayLaws.{answers_same, reads_same}
use Rattle.cli_scripts.proofs.Sound.{after_pressed, at_host, fed_in, listening, part_of, without_host}
use Rattle.cli_scripts.proofs.TextOnce.{text_once}
use Rattle.cli_scripts.proofs.Typed.{pressed_once, typed_keeps, typed_talk}

-- what holds of a session that waits
pub at_state : (talk : Talk TerminalState) (state : TerminalState) (left : List ℕ) (P : TerminalState → Type 0) → talk ≡ stands (waits state left)
    → OnWaiting talk P → P state
at_state talk state left P is holds = subst (λ (t : Talk TerminalState). OnWaiting t P) is holds

-- ---- what leaves a session sound

abbrev pub GoesWell : Worked → Worked → Type 0
GoesWell old new = IsSound old → IsSound new

pub well_same : (old new : Worked) → new ≡ old → GoesWell old new
well_same old new is sound = subst IsSound (sym is) sound

-- where the line to the host ends
pub well_closed : (old new : Worked) → new ≡ record old { host = None } → GoesWell old new
well_closed old new is sound = subst IsSound (sym is) (without_host old.host old.talk sound)

pub well_pressed : (old new : Worked) → PressesOnly old new → GoesWell old new
well_pressed old new (typed, is) sound =
    subst IsSound (sym is) (subst (λ (h : Option NamedHost). StandsSo h (all_typed_at old typed).talk)
    (sym (typed_keeps (λ (w : Worked). w.host) (λ v key. refl) old typed))
    (subst (StandsSo old.host) (sym (typed_talk old typed)) (after_pressed old.host old.talk typed sound)))

well_read : (old new : Worked) → MayRead old new → GoesWell old new
well_read old new is sound = subst IsSound (sym is) sound

pub well_keys : (host : Option NamedHost) (it : Keys) (old new : Worked) → WorksKeys host it old new → GoesWell old new
well_keys (Some host) it old new works = well_pressed old new works
well_keys None it old new works = by_clear (is_clear it) works
  where
    by_clear : (b : Bool) → new ≡ cond b (cleared old) old → GoesWell old new
    by_clear true is sound = subst IsSound (sym is) tt
    by_clear false is sound = well_same old new is sound

well_kind : (kind : Kind) (old new : Worked) → PressesAs kind old new → GoesWell old new
well_kind kinds.Types old new acts = well_pressed old new acts
well_kind kinds.TypesKey old new acts = well_pressed old new acts
well_kind (kinds.Reads reading) old new acts = well_read old new acts
well_kind kinds.Prints old new acts = well_read old new acts
well_kind kind old new acts = well_same old new acts

pub well_acted : (action : Result Action Fault) (old new : Worked) → Acts action old new → GoesWell old new
well_acted (Ok (keys it)) old new acts = well_keys old.host it old new acts.1
well_acted (Ok disconnect) old new acts = well_closed old new acts
well_acted (Ok (other name arguments)) old new acts = well_kind (kind_of name) old new acts
well_acted (Ok (connect text)) old new acts = well_same old new acts
well_acted (Ok quit) old new acts = well_same old new acts
well_acted (Err fault) old new acts = well_same old new acts

-- ---- workers

pub same_worker : (one two : Worker) → one.desk ≡ two.desk → one.code_page ≡ two.code_page → one.settings ≡ two.settings → one.kept ≡ two.kept
    → one.saying ≡ two.saying → one ≡ two
same_worker one two desk page set kept said =
    ap (λ (z : Worked). record one { desk = z }) desk ∙ ap (λ (z : CodePage). record one { desk = two.desk; code_page = z }) page
    ∙ ap (λ (z : Settings). record one { desk = two.desk; code_page = two.code_page; settings = z }) set
    ∙ ap (λ (z : Option KeptScreen). record one { desk = two.desk; code_page = two.code_page; settings = two.settings; kept = z }) kept
    ∙ ap (λ (z : List ℕ). record one { desk = two.desk; code_page = two.code_page; settings = two.settings; kept = two.kept; saying = z }) said

-- how far it has come, and what was said
abbrev pub SameSaid : Step → Step → List ℕ → List ℕ → Type 0
SameSaid step another after also = SameStep step another × (after ≡ also)

pub ending_once : (said : Said) (step another : Step) (before after also : List ℕ) → EndsSaying said step before after → EndsSaying said another before also
    → SameSaid step another after also
ending_once said step another before after also (is, says) (so, tells) = (steps_alike step another (Ended said.outcome) is so, says ∙ sym tells)

pub over_once : (to : Step) (step another : Step) (before after also : List ℕ) → (step ≡ to) × (after ≡ before) → (another ≡ to) × (also ≡ before)
    → SameSaid step another after also
over_once to step another before after also (is, says) (so, tells) = (steps_alike step another to is so, says ∙ sym tells)

-- ---- keys

keys_end_once : (i w : Bool) (step another : Step) (before after also : List ℕ) → EndsKeys i w step before after → EndsKeys i w another before also
    → SameSaid step another after also
keys_end_once true w step another before after also p q = ending_once locked_said step another before after also p q
keys_end_once false true step another before after also p q = over_once (Waits Sent Bytes) step another before after also p q
keys_end_once false false step another before after also p q = over_once (Ended outcomes.Done) step another before after also p q

presses_once : (b : Bool) (it : Keys) (talk : Talk TerminalState) (state : TerminalState) (step another : Step) (before after also : List ℕ)
    → PressesSo b it talk state step before after → PressesSo b it talk state another before also → SameSaid step another after also
presses_once true it talk state step another before after also p q = over_once (Waits (Pressing it) Bytes) step another before after also p q
presses_once false it talk state step another before after also p q =
    keys_end_once (any_inhibited talk (keys_of (runs_of state.terminal it))) (waits_in (after_keys talk (keys_of (runs_of state.terminal it))) && not (is_reset it))
    step another before after also p q

pub keys_once : (it : Keys) (host : Option NamedHost) (talk : Talk TerminalState) (step another : Step) (before after also : List ℕ) → StandsSo host talk
    → SaysKeys it host talk step before after → SaysKeys it host talk another before also → SameSaid step another after also
keys_once it None talk step another before after also sound p q = over_once (Ended outcomes.Done) step another before after also p q
keys_once it (Some host) talk step another before after also sound p q =
    let (state, left, is) = listening talk (at_host host talk sound) in
    presses_once (is_waiting state.terminal.lock && not (is_reset it)) it talk state step another before after also
    (at_state talk state left (λ s. PressesSo (is_waiting s.terminal.lock && not (is_reset it)) it talk s step before after) is p)
    (at_state talk state left (λ s. PressesSo (is_waiting s.terminal.lock && not (is_reset it)) it talk s another before also) is q)

pub works_once : (host : Option NamedHost) (it : Keys) (old new also : Worked) → WorksKeys host it old new → WorksKeys host it old also
    → new.deeds ≡ also.deeds → new ≡ also
works_once None it old new also p q same = p ∙ sym q
works_once (Some host) it old new also p q same = pressed_once old new also p q same

pub desk_once : (it : Keys) (old new also : Worked) → IsSound old → PressesKeys it old new → PressesKeys it old also → WorksKeys old.host it old new
    → WorksKeys old.host it old also → new ≡ also
desk_once it old new also sound p q works more =
    works_once old.host it old new also works more
    (part_of (λ (state : TerminalState). old.deeds ++ keys_deeds it old.host state) old new.deeds also.deeds sound p q)

-- ---- a character

typed_so_once : (b fills : Bool) (code : ℕ) (talk : Talk TerminalState) (state : TerminalState) (step another : Step) (before after also : List ℕ)
    → TypedSo b fills code talk state step before after → TypedSo b fills code talk state another before also → SameSaid step another after also
typed_so_once true fills code talk state step another before after also p q = over_once (Waits (TypingCode code) Bytes) step another before after also p q
typed_so_once false fills code talk state step another before after also p q =
    keys_end_once (any_inhibited talk (code_keys fills code state)) false step another before after also p q

pub code_once : (fills : Bool) (code : ℕ) (host : Option NamedHost) (talk : Talk TerminalState) (step another : Step) (before after also : List ℕ)
    → StandsSo host talk → SaysCode fills code host talk step before after → SaysCode fills code host talk another before also → SameSaid step another after also
code_once fills code None talk step another before after also sound p q = over_once (Ended outcomes.Done) step another before after also p q
code_once fills code (Some host) talk step another before after also sound p q =
    let (state, left, is) = listening talk (at_host host talk sound) in
    typed_so_once (is_waiting state.terminal.lock) fills code talk state step another before after also
    (at_state talk state left (λ s. TypedSo (is_waiting s.terminal.lock) fills code talk s step before after) is p)
    (at_state talk state left (λ s. TypedSo (is_waiting s.terminal.lock) fills code talk s another before also) is q)

typed_once : (fills : Bool) (argument : List ℕ) (it : Typed) (host : Option NamedHost) (talk : Talk TerminalState) (step another : Step) (before after also : List ℕ)
    → StandsSo host talk → SaysTyped fills argument it host talk step before after → SaysTyped fills argument it host talk another before also
    → SameSaid step another after also
typed_once fills argument (Code code) host talk step another before after also sound p q =
    code_once fills code host talk step another before after also sound p q
typed_once fills argument NoCode host talk step another before after also sound p q = over_once (Ended outcomes.Done) step another before after also p q
typed_once fills argument Unknown host talk step another before after also sound p q =
    ending_once (failed (printed_text (bad_key argument))) step another before after also p q

key_once : (page : CodePage) (fills : Bool) (arguments : List (List ℕ)) (host : Option NamedHost) (talk : Talk TerminalState) (step another : Step)
    (before after also : List ℕ) → StandsSo host talk → SaysKeyOf page fills arguments host talk step before after
    → SaysKeyOf page fills arguments host talk another before also → SameSaid step another after also
key_once page fills [] host talk step another before after also sound p q = over_once (Ended outcomes.Done) step another before after also p q
key_once page fills (argument ∷ []) host talk step another before after also sound p q =
    typed_once fills argument (key_of page argument) host talk step another before after also sound p q
key_once page fills (argument ∷ more ∷ others) host talk step another before after also sound p q =
    over_once (Ended outcomes.Done) step another before after also p q

-- ---- waits

holds_once : (what : Awaited) (w : Worked) (held found : Bool) → IsSound w → HoldsSo what w held → HoldsSo what w found → held ≡ found
holds_once InputField w held found sound p q = p ∙ sym q
holds_once Mode3270 w held found sound p q = p ∙ sym q
holds_once Output w held found sound p q = p ∙ sym q
holds_once Unlock w held found sound p q = part_of (λ (state : TerminalState). not (is_waiting state.terminal.lock)) w held found sound p q
holds_once NvtMode w held found sound p q = p ∙ sym q
holds_once Disconnect w held found sound p q = p ∙ sym q
holds_once Seconds w held found sound p q = p ∙ sym q

line_once : (w : Worked) (wait : Wait) (begins : Bool) (one two : Becomes) → IsSound w → OnLine w wait begins one → OnLine w wait begins two → one ≡ two
line_once w wait begins one two sound (held, holds, is) (found, also, so) =
    is ∙ ap (λ (b : Bool). on_line b wait begins) (holds_once wait.what w held found sound holds also) ∙ sym so

begins_once : (t c : Bool) (w : Worked) (wait : Wait) (one two : Becomes) → IsSound w → BeginsAt t c w wait one → BeginsAt t c w wait two → one ≡ two
begins_once true c w wait one two sound p q = p ∙ sym q
begins_once false true w wait one two sound p q = line_once w wait true one two sound p q
begins_once false false w wait one two sound p q = p ∙ sym q

pub tells_once : (wait : Wait) (became : Becomes) (step another : Step) (before after also : List ℕ) → Tells wait became step before after
    → Tells wait became another before also → SameSaid step another after also
tells_once wait Over step another before after also p q = over_once (Ended outcomes.Done) step another before after also p q
tells_once wait (Fails why) step another before after also (is, says) (so, tells) =
    (steps_alike step another (Ended outcomes.Failed) is so, says ∙ sym tells)
tells_once wait (Awaits need) step another before after also p q = over_once (Waits (Waiting wait) need) step another before after also p q

told_once : (w : Worked) (wait : Wait) (step another : Step) (before after also : List ℕ) → IsSound w → BeginsTold w wait step before after
    → BeginsTold w wait another before also → SameSaid step another after also
told_once w wait step another before after also sound (one, begins, tells) (two, began, told) =
    tells_once wait one step another before after also tells
    (subst (λ (b : Becomes). Tells wait b another before also) (begins_once (lacks_time wait) (is_some w.host) w wait two one sound began begins) told)

asked_once : (asked : Result Wait WaitFault) (w : Worked) (step another : Step) (before after also : List ℕ) → IsSound w
    → BeginsAsked asked w step before after → BeginsAsked asked w another before also → SameSaid step another after also
asked_once (Ok wait) w step another before after also sound p q = told_once w wait step another before after also sound p q
asked_once (Err fault) w step another before after also sound (is, says) (so, tells) =
    (steps_alike step another (Ended outcomes.Failed) is so, says ∙ sym tells)

hears_at_once : (b : Bool) (w : Worked) (wait : Wait) (one two : Becomes) → IsSound w → HearsAt b w wait one → HearsAt b w wait two → one ≡ two
hears_at_once true w wait one two sound p q = line_once w wait false one two sound p q
hears_at_once false w wait one two sound p q = p ∙ sym q

pub heard_once : (w : Worked) (wait : Wait) (step another : Step) (before after also : List ℕ) → IsSound w → HearsTold w wait step before after
    → HearsTold w wait another before also → SameSaid step another after also
heard_once w wait step another before after also sound (one, hears, tells) (two, heard, told) =
    tells_once wait one step another before after also tells
    (subst (λ (b : Becomes). Tells wait b another before also) (hears_at_once (is_some w.host) w wait two one sound heard hears) told)

-- ---- what is read, kept and set

kept_parts : (one two : KeptScreen) → one.screen ≡ two.screen → one.host ≡ two.host → one.protocol ≡ two.protocol → one.model ≡ two.model → one ≡ two
kept_parts one two screen host protocol model =
    ap (λ z. record one { screen = z }) screen ∙ ap (λ z. record one { screen = two.screen; host = z }) host
    ∙ ap (λ z. record one { screen = two.screen; host = two.host; protocol = z }) protocol
    ∙ ap (λ z. record one { screen = two.screen; host = two.host; protocol = two.protocol; model = z }) model

copy_once : (w : Worked) (one two : Option KeptScreen) → IsSound w → IsCopyOf w one → IsCopyOf w two → one ≡ two
copy_once w None two sound p q = absurd p
copy_once w (Some one) None sound p q = absurd q
copy_once w (Some one) (Some two) sound (s, h, p, m) (s2, h2, p2, m2) =
    ap Some (kept_parts one two (part_of (λ (state : TerminalState). state.terminal) w one.screen two.screen sound s s2) (h ∙ sym h2) (p ∙ sym p2)
    (m ∙ sym m2))

snaps_once : (snap : Snap) (page : CodePage) (words : List (List ℕ)) (w : Worked) (kept one two : Option KeptScreen) (before after also : List ℕ)
    (outcome ended : Outcome) → IsSound w → Snaps snap page words w kept before outcome one after → Snaps snap page words w kept before ended two also
    → one ≡ two
snaps_once snaps.Save page words w kept one two before after also outcome ended sound (copy, says) (copied, tells) = copy_once w one two sound copy copied
snaps_once (snaps.Kept it) page words w kept one two before after also outcome ended sound (is, says) (so, tells) = is ∙ sym so
snaps_once (snaps.Fault fault) page words w kept one two before after also outcome ended sound (is, says) (so, tells) = is ∙ sym so

-- ---- all that an action leaves
abbrev pub SameAct : Step → Step → Worker → Worker → Type 0
SameAct step another new also = SameStep step another × (new ≡ also)

-- where neither what is set nor what was kept changes
keeping_set : (old new also : Worker) (step another : Step) → new.code_page ≡ old.code_page → also.code_page ≡ old.code_page → KeepsSet old new
    → KeepsSet old also → new.desk ≡ also.desk → SameSaid step another new.saying also.saying → SameAct step another new also
keeping_set old new also step another page paged (set, kept) (sets, keeps) desk (steps, said) =
    (steps, same_worker new also desk (page ∙ sym paged) (set ∙ sym sets) (kept ∙ sym keeps) said)

ended_alike : (kind : Kind) (words : List (List ℕ)) (old new also : Worker) (step another : Step) → IsSound old.desk
    → EndsAnswering kind words old step new → EndsAnswering kind words old another also → SameSaid step another new.saying also.saying
ended_alike kind words old new also step another sound (outcome, is, p) (ended, so, q) =
    let same = answers_same kind words old new also old.desk outcome ended (fed_in old.desk sound) p q in
    (steps_alike step another (Ended outcome) is (so ∙ ap Ended (sym same.1)), same.0)

prints_said : (asked : Printed) (old new also : Worker) (step another : Step) → IsSound old.desk → Prints asked old step new
    → Prints asked old another also → SameSaid step another new.saying also.saying × (new.desk ≡ also.desk)
prints_said as_lines old new also step another sound (outcome, is, reads) (ended, so, read) =
    let same = reads_same old.code_page readings.Ascii [] old.desk old.desk new.desk also.desk old.saying new.saying also.saying outcome ended
    refl (fed_in old.desk sound) reads read in
    ((steps_alike step another (Ended outcome) is (so ∙ ap Ended (sym same.1)), same.0), reads.1 ∙ sym read.1)
prints_said (as_page path) old new also step another sound (wants, said, rests) (wanted, told, rested) =
    ((pages_alike path step another wants wanted, said ∙ sym told), rests ∙ sym rested)
prints_said (as_fault words) old new also step another sound (ends, rests) (ended, rested) =
    (ending_once (failed (printed_text words)) step another old.saying new.saying also.saying ends ended, rests ∙ sym rested)

asks_once : (words : List (List ℕ)) (step another : Step) → AsksLayout words step → AsksLayout words another → SameStep step another
asks_once [] step another is so = steps_alike step another (Ended outcomes.Done) is so
asks_once (path ∷ words) step another is so = layouts_alike path step another is so

connects_once : (connected : Bool) (text : List ℕ) (read : Result Address AddressFault) (step another : Step) (before after also : List ℕ)
    → Connects connected text read step before after → Connects connected text read another before also → SameSaid step another after also
connects_once true text read step another before after also p q = ending_once (failed (printed_text (codes "Already connected"))) step another before after also p q
connects_once false text (Ok address) step another before after also p q =
    over_once (Waits (Calling (named_host address.host address.port)) Connection) step another before after also p q
connects_once false text (Err fault) step another before after also p q =
    ending_once (failed (printed_text (address_fault_text text fault))) step another before after also p q

-- ---- an action that presses no key of its name

texts_once : (words : List (List ℕ)) (old new also : Worker) (step another : Step) → IsSound old.desk → PressesOnly old.desk new.desk
    → PressesOnly old.desk also.desk
    → TypesArguments old.code_page old.settings.blank_fill words step old.desk new.desk old.saying new.saying
    → TypesArguments old.code_page old.settings.blank_fill words another old.desk also.desk old.saying also.saying
    → SameStep step another × (new.desk ≡ also.desk) × (new.saying ≡ also.saying)
texts_once words old new also step another sound only alone (one, text, first, types) (two, texts, begins, typed) =
    text_once old.code_page old.settings.blank_fill one two step another old.desk new.desk also.desk old.saying new.saying also.saying
    (text ∙ sym texts) (first ∙ sym begins) sound only alone types typed

other_once : (kind : Kind) (words : List (List ℕ)) (old new also : Worker) (step another : Step) → IsSound old.desk
    → new.code_page ≡ old.code_page → also.code_page ≡ old.code_page → SetsAs kind old new → SetsAs kind old also → PressesAs kind old.desk new.desk
    → PressesAs kind old.desk also.desk → WaitsAs kind words old.desk step old.saying new.saying → WaitsAs kind words old.desk another old.saying also.saying
    → Others kind words old step new → Others kind words old another also → OthersKeys kind words old step new → OthersKeys kind words old another also
    → OthersTexts kind words old step new → OthersTexts kind words old another also → SameAct step another new also
other_once kinds.Types words old new also step another sound page paged set sets only alone wait awaits says tells keyed keying typed types =
    let same = texts_once words old new also step another sound only alone typed types in
    keeping_set old new also step another page paged set sets same.1 (same.0, same.2)
other_once kinds.TypesKey words old new also step another sound page paged set sets only alone wait awaits says tells (said, did) (told, does) typed types =
    keeping_set old new also step another page paged set sets
    (pressed_once old.desk new.desk also.desk only alone
    (part_of (λ (state : TerminalState). old.desk.deeds ++ key_deeds old.code_page old.settings.blank_fill words old.desk.host state) old.desk
    new.desk.deeds also.desk.deeds sound did does))
    (key_once old.code_page old.settings.blank_fill words old.desk.host old.desk.talk step another old.saying new.saying also.saying sound said told)
other_once kinds.Waits words old new also step another sound page paged set sets rests rested wait awaits says tells keyed keying typed types =
    keeping_set old new also step another page paged set sets (rests ∙ sym rested)
    (asked_once (read_wait words) old.desk step another old.saying new.saying also.saying sound wait awaits)
other_once kinds.Prints words old new also step another sound page paged set sets rests rested wait awaits says tells keyed keying typed types =
    let same = prints_said (printing_of words) old new also step another sound says tells in
    keeping_set old new also step another page paged set sets same.1 same.0
other_once kinds.Checks words old new also step another sound page paged set sets rests rested wait awaits (asks, said) (asked, told) keyed keying typed types =
    keeping_set old new also step another page paged set sets (rests ∙ sym rested) (asks_once words step another asks asked, said ∙ sym told)
other_once (kinds.Reads reading) words old new also step another sound page paged set sets rests rested wait awaits (outcome, is, reads) (ended, so, read) keyed keying typed types =
    keeping_set old new also step another page paged set sets (reads.1 ∙ sym read.1)
    (ended_alike (kinds.Reads reading) words old new also step another sound (outcome, is, reads) (ended, so, read))
other_once kinds.Snaps words old new also step another sound page paged set sets rests rested wait awaits (outcome, is, snapped) (ended, so, snaps) keyed keying typed types =
    let said = ended_alike kinds.Snaps words old new also step another sound (outcome, is, snapped) (ended, so, snaps) in (
      said.0,
      same_worker new also (rests ∙ sym rested) (page ∙ sym paged) (set ∙ sym sets)
          (snaps_once (snap_of words) old.code_page words old.desk old.kept new.kept also.kept old.saying new.saying also.saying outcome ended sound snapped snaps)
          said.1,
    )
other_once (kinds.Tells asked) words old new also step another sound page paged set sets rests rested wait awaits says tells keyed keying typed types =
    keeping_set old new also step another page paged set sets (rests ∙ sym rested) (ended_alike (kinds.Tells asked) words old new also step another sound says tells)
other_once (kinds.Sets verb) words old new also step another sound page paged set sets rests rested wait awaits (outcome, is, (changes, says)) (ended, so, (changed_so, tells)) keyed keying typed types =
    let said = ended_alike (kinds.Sets verb) words old new also step another sound (outcome, is, (changes, says)) (ended, so, (changed_so, tells)) in
    (said.0, same_worker new also (rests ∙ sym rested) (page ∙ sym paged) (changes ∙ sym changed_so) (set ∙ sym sets) said.1)
other_once kinds.Expects words old new also step another sound page paged set sets rests rested wait awaits says tells keyed keying typed types =
    keeping_set old new also step another page paged set sets (rests ∙ sym rested) (ended_alike kinds.Expects words old new also step another sound says tells)
other_once kinds.Rings words old new also step another sound page paged set sets rests rested wait awaits says tells keyed keying typed types =
    keeping_set old new also step another page paged set sets (rests ∙ sym rested) (ended_alike kinds.Rings words old new also step another sound says tells)
other_once kinds.Rests words old new also step another sound page paged set sets rests rested wait awaits says tells keyed keying typed types =
    keeping_set old new also step another page paged set sets (rests ∙ sym rested) (ended_alike kinds.Rests words old new also step another sound says tells)

-- ---- any action

pub acted_once : (action : Result Action Fault) (old new also : Worker) (step another : Step) → IsSound old.desk → Acted action old step new
    → Acted action old another also → SameAct step another new also
acted_once (Ok (keys it)) old new also step another sound a b =
    keeping_set old new also step another a.page b.page a.set b.set
    (desk_once it old.desk new.desk also.desk sound a.acts.0 b.acts.0 a.acts.1 b.acts.1)
    (keys_once it old.desk.host old.desk.talk step another old.saying new.saying also.saying sound a.keys b.keys)
acted_once (Ok (connect text)) old new also step another sound a b =
    keeping_set old new also step another a.page b.page a.set b.set (a.acts ∙ sym b.acts)
    (connects_once (is_some old.desk.host) text (read_address text) step another old.saying new.saying also.saying a.says b.says)
acted_once (Ok disconnect) old new also step another sound a b =
    keeping_set old new also step another a.page b.page a.set b.set (a.acts ∙ sym b.acts)
    (steps_alike step another (Ended outcomes.Done) a.says.0 b.says.0, a.says.1 ∙ sym b.says.1)
acted_once (Ok quit) old new also step another sound a b =
    keeping_set old new also step another a.page b.page a.set b.set (a.acts ∙ sym b.acts)
    (over_once Quits step another old.saying new.saying also.saying a.says b.says)
acted_once (Ok (other name words)) old new also step another sound a b =
    other_once (kind_of name) words old new also step another sound a.page b.page a.set b.set a.acts b.acts a.waits b.waits a.says b.says a.keys b.keys
    a.texts b.texts
acted_once (Err fault) old new also step another sound a b =
    keeping_set old new also step another a.page b.page a.set b.set (a.acts ∙ sym b.acts)
    (ending_once (failed (printed_text (fault_text fault))) step another old.saying new.saying also.saying a.says b.says)
