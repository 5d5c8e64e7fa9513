-- Sessions that wait, or that failed without a host.
use Rattle.std.proofs.Common.{◌≡◌, true, List, [], ◌∷◌, ℕ, Option, Some, None, refl, sym, ◌∙◌}
use Rattle.std.specs.Prelude.{is_some}
use Rattle.ds_keys.specs.declared.key.Key.{Key}
use Rattle.tn_session.specs.declared.terminal_state.TerminalState.{TerminalState}
use Rattle.tn_session.specs.OneLog.{Standing, waits, is_over, has_failed, is_at_fault}
use Rattle.tn_session.specs.Talk.{Talk, stands, starved}
use Rattle.tn_session.specs.TerminalTalk.{OfStanding}
use Rattle.cli_scripts.specs.DeedLaws.{IsFed}
use Rattle.cli_scripts.specs.Desks.{NamedHost, Worked}
use Rattle.cli_scripts.specs.Pressing.{after_key, after_keys}
use Rattle.cli_scripts.specs.RunLaws.{IsSound, StandsSo}

-- ---- a session that waits

abbrev pub IsListening : Talk TerminalState → Type 0
IsListening (stands (waits state left)) = Unit {0}
IsListening talk = ⊥

pub listening : (talk : Talk TerminalState) → IsListening talk → (state : TerminalState) × (left : List ℕ) × (talk ≡ stands (waits state left))
listening (stands (waits state left)) listens = (state, left, refl)
listening (stands (is_over end)) listens = absurd listens
listening (stands (has_failed why end)) listens = absurd listens
listening (stands (is_at_fault fault end)) listens = absurd listens
listening starved listens = absurd listens

-- that of a terminal that is connected
pub at_host : (host : NamedHost) (talk : Talk TerminalState) → StandsSo (Some host) talk → IsListening talk
at_host host (stands (waits state left)) sound = tt
at_host host (stands (is_over end)) sound = absurd sound
at_host host (stands (has_failed why end)) sound = absurd cc
at_host host (stands (is_at_fault fault end)) sound = absurd cc
at_host host starved sound = absurd sound

pub where_connected : (host : Option NamedHost) (talk : Talk TerminalState) → StandsSo host talk → is_some host ≡ true → IsListening talk
where_connected None talk sound is = absurd cc
where_connected (Some host) talk sound is = at_host host talk sound

-- ---- one to which memory was not refused

pub stood : (talk : Talk TerminalState) → IsFed talk → (standing : Standing TerminalState) × (talk ≡ stands standing)
stood (stands standing) fed = (standing, refl)
stood starved fed = absurd fed

fed_so : (host : Option NamedHost) (talk : Talk TerminalState) → StandsSo host talk → IsFed talk
fed_so host (stands standing) sound = tt
fed_so host starved sound = absurd sound

pub fed_in : (w : Worked) → IsSound w → IsFed w.talk
fed_in w sound = fed_so w.host w.talk sound

pub part_once : {A : Type 0} (part : TerminalState → A) (talk : Talk TerminalState) (one two : A) → IsFed talk → OfStanding part talk one
    → OfStanding part talk two → one ≡ two
part_once part (stands standing) one two fed p q = p ∙ sym q
part_once part starved one two fed p q = absurd fed

pub part_of : {A : Type 0} (part : TerminalState → A) (w : Worked) (one two : A) → IsSound w → OfStanding part w.talk one → OfStanding part w.talk two
    → one ≡ two
part_of part w one two sound p q = part_once part w.talk one two (fed_in w sound) p q

-- ---- what leaves it so

pub without_host : (host : Option NamedHost) (talk : Talk TerminalState) → StandsSo host talk → StandsSo None talk
without_host host (stands (waits state left)) sound = tt
without_host host (stands (is_over end)) sound = absurd sound
without_host host (stands (has_failed why end)) sound = refl
without_host host (stands (is_at_fault fault end)) sound = refl
without_host host starved sound = absurd sound

pub after_pressed : (host : Option NamedHost) (talk : Talk TerminalState) (ks : List Key) → StandsSo host talk → StandsSo host (after_keys talk ks)
after_pressed host talk [] sound = sound
after_pressed host (stands (waits state left)) (key ∷ ks) sound = after_pressed host (after_key (stands (waits state left)) key) ks tt
after_pressed host (stands (is_over end)) (key ∷ ks) sound = absurd sound
after_pressed host (stands (has_failed why end)) (key ∷ ks) sound = after_pressed host (stands (has_failed why end)) ks sound
after_pressed host (stands (is_at_fault fault end)) (key ∷ ks) sound = after_pressed host (stands (is_at_fault fault end)) ks sound
after_pressed host starved (key ∷ ks) sound = absurd sound
