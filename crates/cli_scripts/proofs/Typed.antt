-- Keys that are pressed at a terminal, and what they leave as it is.
use Rattle.std.proofs.Common.{◌≡◌, ◌≢◌, ◌+◌, ◌<◌, ℕ, List, [], ◌∷◌, ◌++◌, length, map, take, get_or, replicate, Ok, Err, refl, sym, ap, ◌∙◌, append_assoc}
use Rattle.std.proofs.lemmas.List.{append-nil, append_cancel_left}
use Rattle.script_keys.specs.declared.run.Run.{Run}
use Rattle.script_keys.specs.Runs.{keys_of, keys_of_run}
use Rattle.ds_keys.specs.declared.key.Key.{Key}
use Rattle.tn_session.specs.declared.fault.RunFault.{RunFault}
use Rattle.tn_session.specs.declared.fault.RunFault.TheVariants.{OutOfMemory}
use Rattle.tn_session.specs.declared.pressed.Pressed.{Pressed}
use Rattle.tn_session.specs.declared.terminal_state.TerminalState.{TerminalState}
use Rattle.tn_session.specs.OneLog.{waits, is_over, has_failed, is_at_fault}
use Rattle.tn_session.specs.Strikes.{by_key}
use Rattle.tn_session.specs.Talk.{Talk, stands, starved}
use Rattle.tn_session.specs.TerminalTalk.{Presses}
use Rattle.cli_scripts.specs.declared.deed.Deed.{Deed}
use Rattle.cli_scripts.specs.declared.deed.Deed.TheVariants.{Pressed as PressedKey}
use Rattle.cli_scripts.specs.Acts.{PressesOnly}
use Rattle.cli_scripts.specs.Desks.{Worked}
use Rattle.cli_scripts.specs.Pressing.{after_key, after_keys, all_typed_at, due_for, typed_at}
use Rattle.cli_scripts.specs.SentOn.{SentOn, sent_on, collected}
use Rattle.cli_scripts.proofs.PressLaws.{once_more, run_more}

-- ---- one key

pub given_ok : (talk : Talk TerminalState) (key : Key) (found : Pressed) (given : List ℕ) (new : Talk TerminalState) → Presses talk (by_key key) (Ok found) given new
    → given ≡ due_for talk key
given_ok (stands (waits state left)) key found given new (answer, due, then) = due
given_ok (stands (is_over end)) key found given new (word, due, then) = due
given_ok (stands (has_failed why end)) key found given new (word, due, then) = absurd cc
given_ok (stands (is_at_fault fault end)) key found given new (word, due, then) = absurd cc
given_ok starved key found given new (word, due, then) = absurd cc

pub given_err : (talk : Talk TerminalState) (key : Key) (why : RunFault) (given : List ℕ) (new : Talk TerminalState) → Presses talk (by_key key) (Err why) given new
    → why ≢ OutOfMemory → given ≡ due_for talk key
given_err (stands (waits state left)) key why given new (memory, due, sent, then) other = absurd (other memory)
given_err (stands (is_over end)) key why given new (word, due, then) other = due
given_err (stands (has_failed cause end)) key why given new (word, due, then) other = due
given_err (stands (is_at_fault fault end)) key why given new (word, due, then) other = due
given_err starved key why given new (word, due, then) other = due

-- each part of a terminal after a key
pub typed_is : (w v : Worked) (key : Key) (talk : Talk TerminalState) (deeds : List Deed) (due : List ℕ) (kept : List SentOn) (told : ℕ) → w ≡ v
    → talk ≡ after_key w.talk key → deeds ≡ w.deeds ++ PressedKey key ∷ [] → due ≡ w.due ++ due_for w.talk key
    → kept ≡ w.unjudged ++ collected w.collects (sent_on key w.talk) → told ≡ w.told
    → record w { talk = talk; deeds = deeds; due = due; unjudged = kept; told = told } ≡ typed_at v key
typed_is w v key talk deeds due kept told same is grows gives keeps stays =
    ap (λ (t : Talk TerminalState). record w { talk = t; deeds = deeds; due = due; unjudged = kept; told = told }) is
    ∙ ap (λ (ds : List Deed). record w { talk = after_key w.talk key; deeds = ds; due = due; unjudged = kept; told = told }) grows
    ∙ ap (λ (z : List ℕ). record w { talk = after_key w.talk key; deeds = w.deeds ++ PressedKey key ∷ []; due = z; unjudged = kept; told = told }) gives
    ∙ ap (λ (z : List SentOn). record w { talk = after_key w.talk key; deeds = w.deeds ++ PressedKey key ∷ []; due = w.due ++ due_for w.talk key; unjudged = z; told = told }) keeps
    ∙ ap (λ (n : ℕ). record (typed_at w key) { told = n }) stays
    ∙ ap (λ (u : Worked). typed_at u key) same

-- ---- keys and then others

pub typed_both : (w : Worked) (first others : List Key) → all_typed_at w (first ++ others) ≡ all_typed_at (all_typed_at w first) others
typed_both w [] others = refl
typed_both w (key ∷ first) others = typed_both (typed_at w key) first others

-- a key once more
pub typed_more : (w now new : Worked) (key : Key) (times : ℕ) → now ≡ all_typed_at w (replicate times key) → new ≡ typed_at now key
    → new ≡ all_typed_at w (replicate (times + 1) key)
typed_more w now new key times was grows =
    grows ∙ ap (λ (v : Worked). typed_at v key) was ∙ sym (typed_both w (replicate times key) (key ∷ [])) ∙ ap (all_typed_at w) (once_more key times)

-- one run more
pub typed_run : (w now new : Worked) (runs : List Run) (i : ℕ) (run : Run) → i < length runs → run ≡ get_or runs i run
    → now ≡ all_typed_at w (keys_of (take i runs)) → new ≡ all_typed_at now (keys_of_run run) → new ≡ all_typed_at w (keys_of (take (i + 1) runs))
typed_run w now new runs i run inside is was grows =
    grows ∙ ap (λ (v : Worked). all_typed_at v (keys_of_run run)) was ∙ sym (typed_both w (keys_of (take i runs)) (keys_of_run run))
    ∙ sym (ap (all_typed_at w) (run_more runs i run inside is))

-- ---- what they leave

-- what a key leaves as it is, keys do
pub typed_keeps : {A : Type 0} (part : Worked → A) → ((v : Worked) (key : Key) → part (typed_at v key) ≡ part v) → (w : Worked) (keys : List Key)
    → part (all_typed_at w keys) ≡ part w
typed_keeps part keeps w [] = refl
typed_keeps part keeps w (key ∷ keys) = typed_keeps part keeps (typed_at w key) keys ∙ keeps w key

pub typed_deeds : (w : Worked) (keys : List Key) → (all_typed_at w keys).deeds ≡ w.deeds ++ map PressedKey keys
typed_deeds w [] = sym (append-nil w.deeds)
typed_deeds w (key ∷ keys) = typed_deeds (typed_at w key) keys ∙ append_assoc w.deeds (PressedKey key ∷ []) (map PressedKey keys)

pub typed_talk : (w : Worked) (keys : List Key) → (all_typed_at w keys).talk ≡ after_keys w.talk keys
typed_talk w [] = refl
typed_talk w (key ∷ keys) = typed_talk (typed_at w key) keys

-- ---- keys, and nothing else

pub none_pressed : (old new : Worked) → new ≡ old → PressesOnly old new
none_pressed old new same = ([], same)

pub one_pressed : (old new : Worked) (key : Key) → new ≡ typed_at old key → PressesOnly old new
one_pressed old new key is = (key ∷ [], is)

pub more_pressed : (old mid new : Worked) → PressesOnly old mid → PressesOnly mid new → PressesOnly old new
more_pressed old mid new (early, is) (late, so) =
    (early ++ late, so ∙ ap (λ (w : Worked). all_typed_at w late) is ∙ sym (typed_both old early late))

same_keys : (keys others : List Key) → map PressedKey keys ≡ map PressedKey others → keys ≡ others
same_keys [] [] is = refl
same_keys [] (other ∷ others) is = absurd cc
same_keys (key ∷ keys) [] is = absurd cc
same_keys (key ∷ keys) (other ∷ others) is =
    let here : key ≡ other = cc in
    let rest : map PressedKey keys ≡ map PressedKey others = cc in
    ap (λ (k : Key). k ∷ keys) here ∙ ap (λ (ks : List Key). other ∷ ks) (same_keys keys others rest)

-- by the deeds the whole terminal is told
pub pressed_once : (old new also : Worked) → PressesOnly old new → PressesOnly old also → new.deeds ≡ also.deeds → new ≡ also
pressed_once old new also (typed, is) (other, so) same =
    let grown : old.deeds ++ map PressedKey typed ≡ old.deeds ++ map PressedKey other =
    sym (ap (λ (w : Worked). w.deeds) is ∙ typed_deeds old typed) ∙ same ∙ ap (λ (w : Worked). w.deeds) so ∙ typed_deeds old other in
    is ∙ ap (all_typed_at old) (same_keys typed other (append_cancel_left old.deeds (map PressedKey typed) (map PressedKey other) grown)) ∙ sym so
