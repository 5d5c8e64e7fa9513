-- Keys that are pressed at a session, one after the other.
use Rattle.std.proofs.Common.{◌≡◌, ◌≢◌, ◌+◌, ◌<◌, ℕ, zero, suc, Bool, true, false, ◌||◌, List, [], ◌∷◌, ◌++◌, length, map, take, get_or, replicate, Result, Ok, Err, refl, sym, ap, ◌∙◌, append_assoc, arith}
use Rattle.std.proofs.lemmas.List.{append-nil, map-append, take_more}
use Rattle.script_keys.specs.declared.run.Run.{Run}
use Rattle.script_keys.specs.Runs.{keys_of, keys_of_run}
use Rattle.cli_scripts.specs.declared.deed.Deed.{Deed}
use Rattle.cli_scripts.specs.declared.deed.Deed.TheVariants.{Pressed as PressedKey}
use Rattle.ds_keys.specs.declared.key.Key.{Key}
use Rattle.tn_session.specs.declared.fault.RunFault.{RunFault}
use Rattle.tn_session.specs.declared.fault.RunFault.TheVariants.{OutOfMemory}
use Rattle.tn_session.specs.declared.pressed.Pressed.{Pressed}
use Rattle.tn_session.specs.declared.pressed.Pressed.TheVariants.{Ignored}
use Rattle.tn_session.specs.declared.terminal_state.TerminalState.{TerminalState}
use Rattle.tn_session.specs.OneLog.{waits, is_over, has_failed, is_at_fault}
use Rattle.tn_session.specs.Strikes.{by_key}
use Rattle.tn_session.specs.Talk.{Talk, stands, starved}
use Rattle.tn_session.specs.TerminalTalk.{Presses}
use Rattle.cli_scripts.specs.Pressing.{after_key, answer_to, is_inhibited, after_keys, any_inhibited}

abbrev found_in : Result Pressed RunFault → Pressed
found_in (Ok found) = found
found_in (Err why) = Ignored

abbrev fault_in : Result Pressed RunFault → RunFault
fault_in (Ok found) = OutOfMemory
fault_in (Err why) = why

-- a key that was taken
pub presses_ok : (talk : Talk TerminalState) (key : Key) (found : Pressed) (given : List ℕ) (new : Talk TerminalState) → Presses talk (by_key key) (Ok found) given new
    → (found ≡ answer_to talk key) × (new ≡ after_key talk key)
presses_ok (stands (waits state left)) key found given new (answer, due, then) = (answer, then)
presses_ok (stands (is_over end)) key found given new (word, due, then) = (ap found_in word, then)
presses_ok (stands (has_failed why end)) key found given new (word, due, then) = absurd cc
presses_ok (stands (is_at_fault fault end)) key found given new (word, due, then) = absurd cc
presses_ok starved key found given new (word, due, then) = absurd cc

-- one at a session that failed
pub presses_err : (talk : Talk TerminalState) (key : Key) (why : RunFault) (given : List ℕ) (new : Talk TerminalState) → Presses talk (by_key key) (Err why) given new
    → why ≢ OutOfMemory → (Ignored ≡ answer_to talk key) × (new ≡ after_key talk key)
presses_err (stands (waits state left)) key why given new (memory, due, sent, then) other = absurd (other memory)
presses_err (stands (is_over end)) key why given new (word, due, then) other = absurd cc
presses_err (stands (has_failed cause end)) key why given new (word, due, then) other = (refl, then)
presses_err (stands (is_at_fault fault end)) key why given new (word, due, then) other = (refl, then)
presses_err starved key why given new (word, due, then) other = absurd (other (ap fault_in word))

-- ---- keys and then others

pub after_both : (talk : Talk TerminalState) (first others : List Key) → after_keys talk (first ++ others) ≡ after_keys (after_keys talk first) others
after_both talk [] others = refl
after_both talk (key ∷ first) others = after_both (after_key talk key) first others

or_assoc : (a b c : Bool) → (a || (b || c)) ≡ ((a || b) || c)
or_assoc true b c = refl
or_assoc false b c = refl

pub any_both : (talk : Talk TerminalState) (first others : List Key)
    → any_inhibited talk (first ++ others) ≡ (any_inhibited talk first || any_inhibited (after_keys talk first) others)
any_both talk [] others = refl
any_both talk (key ∷ first) others =
    ap (λ b. is_inhibited (answer_to talk key) || b) (any_both (after_key talk key) first others)
    ∙ or_assoc (is_inhibited (answer_to talk key)) (any_inhibited (after_key talk key) first) (any_inhibited (after_keys (after_key talk key) first) others)

pub once_more : (key : Key) (times : ℕ) → replicate times key ++ key ∷ [] ≡ replicate (times + 1) key
once_more key zero = refl
once_more key (suc times) =
    let same : suc (times + 1) ≡ suc times + 1 = omega arith in
    ap (λ z. key ∷ z) (once_more key times) ∙ ap (λ (n : ℕ). replicate n key) same

or_none : (a : Bool) → (a || false) ≡ a
or_none true = refl
or_none false = refl

-- a key once more
pub after_more : (talk now new : Talk TerminalState) (key : Key) (times : ℕ) → now ≡ after_keys talk (replicate times key) → new ≡ after_key now key
    → new ≡ after_keys talk (replicate (times + 1) key)
after_more talk now new key times was grows =
    grows ∙ ap (λ (t : Talk TerminalState). after_key t key) was ∙ sym (after_both talk (replicate times key) (key ∷ []))
    ∙ ap (after_keys talk) (once_more key times)

pub any_more : (talk now : Talk TerminalState) (key : Key) (times : ℕ) (before here : Bool) → now ≡ after_keys talk (replicate times key)
    → before ≡ any_inhibited talk (replicate times key) → here ≡ is_inhibited (answer_to now key) → (before || here) ≡ any_inhibited talk (replicate (times + 1) key)
any_more talk now key times before here was so is =
    ap (λ b. b || here) so ∙ ap (λ b. any_inhibited talk (replicate times key) || b) (is ∙ ap (λ (t : Talk TerminalState). is_inhibited (answer_to t key)) was ∙ sym (or_none _))
    ∙ sym (any_both talk (replicate times key) (key ∷ [])) ∙ ap (any_inhibited talk) (once_more key times)

-- ---- runs of keys

flat_append : (first : List Run) (run : Run) → keys_of (first ++ run ∷ []) ≡ keys_of first ++ keys_of_run run
flat_append [] run = append-nil (keys_of_run run)
flat_append (one ∷ first) run =
    ap (λ z. keys_of_run one ++ z) (flat_append first run) ∙ sym (append_assoc (keys_of_run one) (keys_of first) (keys_of_run run))

-- one run more
pub run_more : (runs : List Run) (i : ℕ) (run : Run) → i < length runs → run ≡ get_or runs i run
    → keys_of (take (i + 1) runs) ≡ keys_of (take i runs) ++ keys_of_run run
run_more runs i run inside is =
    ap keys_of (take_more runs i run inside ∙ ap (λ (r : Run). take i runs ++ r ∷ []) (sym is)) ∙ flat_append (take i runs) run

pub after_run : (talk now new : Talk TerminalState) (runs : List Run) (i : ℕ) (run : Run) → i < length runs → run ≡ get_or runs i run
    → now ≡ after_keys talk (keys_of (take i runs)) → new ≡ after_keys now (keys_of_run run) → new ≡ after_keys talk (keys_of (take (i + 1) runs))
after_run talk now new runs i run inside is was grows =
    grows ∙ ap (λ (t : Talk TerminalState). after_keys t (keys_of_run run)) was ∙ sym (after_both talk (keys_of (take i runs)) (keys_of_run run))
    ∙ sym (ap (after_keys talk) (run_more runs i run inside is))

pub any_run : (talk now : Talk TerminalState) (runs : List Run) (i : ℕ) (run : Run) (before here : Bool) → i < length runs → run ≡ get_or runs i run
    → now ≡ after_keys talk (keys_of (take i runs)) → before ≡ any_inhibited talk (keys_of (take i runs)) → here ≡ any_inhibited now (keys_of_run run)
    → (before || here) ≡ any_inhibited talk (keys_of (take (i + 1) runs))
any_run talk now runs i run before here inside is was so stopped =
    ap (λ b. b || here) so
    ∙ ap (λ b. any_inhibited talk (keys_of (take i runs)) || b) (stopped ∙ ap (λ (t : Talk TerminalState). any_inhibited t (keys_of_run run)) was)
    ∙ sym (any_both talk (keys_of (take i runs)) (keys_of_run run)) ∙ sym (ap (any_inhibited talk) (run_more runs i run inside is))

pub deeds_run : (start now new : List Deed) (runs : List Run) (i : ℕ) (run : Run) → i < length runs → run ≡ get_or runs i run
    → now ≡ start ++ map PressedKey (keys_of (take i runs)) → new ≡ now ++ map PressedKey (keys_of_run run) → new ≡ start ++ map PressedKey (keys_of (take (i + 1) runs))
deeds_run start now new runs i run inside is was grows =
    grows ∙ ap (λ z. z ++ map PressedKey (keys_of_run run)) was ∙ append_assoc start (map PressedKey (keys_of (take i runs))) (map PressedKey (keys_of_run run))
    ∙ ap (λ z. start ++ z) (sym (map-append PressedKey (keys_of (take i runs)) (keys_of_run run)) ∙ sym (ap (map PressedKey) (run_more runs i run inside is)))
