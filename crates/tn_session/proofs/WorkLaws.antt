-- Two terminals that are told alike acts agree.
use Rattle.std.proofs.Common.{◌≡◌, ℕ, List, [], ◌∷◌, ◌++◌, Ok, Err, sym, ◌∙◌, ap, subst, append_assoc}
use Rattle.std.specs.Prelude.{Result}
use Rattle.tn_wire.proofs.Streams.{tells_nothing}
use Rattle.tn_session.specs.declared.fault.RunFault.{RunFault}
use Rattle.tn_session.specs.declared.pressed.Pressed.{Pressed}
use Rattle.tn_session.specs.declared.terminal_state.TerminalState.{TerminalState}
use Rattle.tn_session.specs.Acts.{Act, heard, keyed, Works, heard_first, keyed_then, WorkAgrees}
use Rattle.tn_session.specs.OneLog.{Standing, waits, is_over, has_failed, is_at_fault}
use Rattle.tn_session.specs.Pieces.{LogOn}
use Rattle.tn_session.specs.Strikes.{Strike}
use Rattle.tn_session.specs.Talk.{Talk, stands, starved}
use Rattle.tn_session.specs.TerminalTalk.{heard_act, worked, PressesKey, Presses}
use Rattle.tn_session.proofs.Pieces.{IsOpenAt, stands_same, log_on_nothing, log_on_then, log_on_once, takes_log, log_on_open}

abbrev At : Type 0
At = Standing TerminalState

-- what a key makes of a session
abbrev KeyOn : At → Strike → List ℕ → At → Type 0
KeyOn (waits state left) key due later = (due ≡ (worked state key).due) × (later ≡ waits (worked state key).state left)
KeyOn standing key due later = (due ≡ []) × (later ≡ standing)

-- bytes, and then each key and the bytes after it
abbrev InAll : At → List ℕ → List (Strike × List ℕ) → List ℕ → At → Type 0
InAll a bytes [] given new = LogOn heard_act a bytes given new
InAll a bytes (turn ∷ turns) given new =
    (d : List ℕ) × (m : At) × (k : List ℕ) × (n : At) × (r : List ℕ)
    × LogOn heard_act a bytes d m × KeyOn m turn.0 k n × InAll n turn.1 turns r new × (given ≡ d ++ (k ++ r))

-- ---- there is one

key_once : (m a b : At) (key : Strike) (d e : List ℕ) → KeyOn m key d a → KeyOn m key e b → (d ≡ e) × (a ≡ b)
key_once (waits s l) a b key d e p q = (p.0 ∙ sym q.0, p.1 ∙ sym q.1)
key_once (is_over s) a b key d e p q = (p.0 ∙ sym q.0, p.1 ∙ sym q.1)
key_once (has_failed w s) a b key d e p q = (p.0 ∙ sym q.0, p.1 ∙ sym q.1)
key_once (is_at_fault w s) a b key d e p q = (p.0 ∙ sym q.0, p.1 ∙ sym q.1)

three : {d k r e l s : List ℕ} → d ≡ e → k ≡ l → r ≡ s → d ++ (k ++ r) ≡ e ++ (l ++ s)
three {d = d} {r = r} {l = l} {s = s} x y z = ap (λ q. d ++ q) (ap (λ q. q ++ r) y ∙ ap (λ q. l ++ q) z) ∙ ap (λ q. q ++ (l ++ s)) x

all_once : (a new other : At) (bytes : List ℕ) (turns : List (Strike × List ℕ)) (given more : List ℕ) → InAll a bytes turns given new → InAll a bytes turns more other
    → (given ≡ more) × (new ≡ other)
all_once a new other bytes [] given more p q = log_on_once heard_act a new other bytes given more p q
all_once a new other bytes (turn ∷ turns) given more (d, m, k, n, r, log, key, later, is) (e, m2, l, n2, s, log2, key2, later2, is2) =
    let first = log_on_once heard_act a m m2 bytes d e log log2 in
    let then_key = key_once m2 n n2 turn.0 k l (subst (λ z. KeyOn z turn.0 k n) first.1 key) key2 in
    let rest = all_once n2 new other turn.1 turns r s (subst (λ z. InAll z turn.1 turns r new) then_key.1 later) later2 in
    (is ∙ three first.0 then_key.0 rest.0 ∙ sym is2, rest.1)

-- ---- calls

all_then : (a m new : At) (x y d r : List ℕ) (turns : List (Strike × List ℕ)) → LogOn heard_act a x d m → InAll m y turns r new → InAll a (x ++ y) turns (d ++ r) new
all_then a m new x y d r [] log later = log_on_then heard_act a m new x y d r log later
all_then a m new x y d r (turn ∷ turns) log (e, m2, k, n, s, log2, key, later, is) = (
  d ++ e,
  m2,
  k,
  n,
  s,
  log_on_then heard_act a m m2 x y d e log log2,
  key,
  later,
  ap (λ z. d ++ z) is ∙ sym (append_assoc d e (k ++ s)),
)

starved_works : (acts : List Act) (given : List ℕ) (n : At) → Works starved acts given (stands n) → ⊥
starved_works [] given n (none, is) = let clash : ◌≡◌ {A = Talk TerminalState} (stands n) starved = is in absurd cc
starved_works (heard bytes ∷ acts) given n (result, first, mid, rest, takes, later, is) =
    starved_works acts rest n (subst (λ t. Works t acts rest (stands n)) takes.2 later)
starved_works (keyed key ∷ acts) given n (result, first, mid, rest, presses, later, is) =
    starved_works acts rest n (subst (λ t. Works t acts rest (stands n)) presses.2 later)

waits_pressed : (s : TerminalState) (l : List ℕ) (key : Strike) (result : Result Pressed RunFault) (first : List ℕ) (m : At) → PressesKey s l key result first (stands m)
    → KeyOn (waits s l) key first m
waits_pressed s l key (Ok answer) first m (answer_is, due, is) = (due, stands_same is)
waits_pressed s l key (Err why) first m (why_is, none, sends, is) = let clash : ◌≡◌ {A = Talk TerminalState} (stands m) starved = is in absurd cc

key_pressed : (a m : At) (key : Strike) (result : Result Pressed RunFault) (first : List ℕ) → Presses (stands a) key result first (stands m) → KeyOn a key first m
key_pressed (waits s l) m key result first presses = waits_pressed s l key result first m presses
key_pressed (is_over s) m key result first presses = (presses.1, stands_same presses.2)
key_pressed (has_failed w s) m key result first presses = (presses.1, stands_same presses.2)
key_pressed (is_at_fault w s) m key result first presses = (presses.1, stands_same presses.2)

key_open : (a m : At) (key : Strike) (first : List ℕ) → IsOpenAt a → KeyOn a key first m → IsOpenAt m
key_open (waits s l) m key first opens on = subst IsOpenAt (sym on.1) opens
key_open (is_over s) m key first opens on = subst IsOpenAt (sym on.1) tt
key_open (has_failed w s) m key first opens on = subst IsOpenAt (sym on.1) tt
key_open (is_at_fault w s) m key first opens on = subst IsOpenAt (sym on.1) tt

works_in_all : (a new : At) (acts : List Act) (given : List ℕ) → IsOpenAt a → Works (stands a) acts given (stands new)
    → InAll a (heard_first acts) (keyed_then acts) given new
works_in_all a new [] given opens (none, is) =
    subst (λ z. LogOn heard_act a [] z new) (sym none) (subst (λ z. LogOn heard_act a [] [] z) (sym (stands_same is)) (log_on_nothing heard_act a opens))
works_in_all a new (heard bytes ∷ acts) given opens (result, first, stands m, rest, takes, later, is) =
    let log : LogOn heard_act a bytes first m = takes_log heard_act a m bytes result first takes in
    subst (λ z. InAll a (bytes ++ heard_first acts) (keyed_then acts) z new) (sym is)
    (all_then a m new bytes (heard_first acts) first rest (keyed_then acts) log
    (works_in_all m new acts rest (log_on_open heard_act a m bytes first opens log) later))
works_in_all a new (heard bytes ∷ acts) given opens (result, first, starved, rest, takes, later, is) = absurd (starved_works acts rest new later)
works_in_all a new (keyed key ∷ acts) given opens (result, first, stands m, rest, presses, later, is) =
    let on : KeyOn a key first m = key_pressed a m key result first presses in (
      [],
      a,
      first,
      m,
      rest,
      log_on_nothing heard_act a opens,
      on,
      works_in_all m new acts rest (key_open a m key first opens on) later,
      is,
    )
works_in_all a new (keyed key ∷ acts) given opens (result, first, starved, rest, presses, later, is) = absurd (starved_works acts rest new later)

pub work_agrees : WorkAgrees
work_agrees state acts others given more new other (same_first, same_then) works then_works =
    let p : InAll (waits state []) (heard_first acts) (keyed_then acts) given new = works_in_all (waits state []) new acts given tells_nothing works in
    let q : InAll (waits state []) (heard_first others) (keyed_then others) more other = works_in_all (waits state []) other others more tells_nothing then_works in
    all_once (waits state []) new other (heard_first others) (keyed_then others) given more
    (subst (λ z. InAll (waits state []) z (keyed_then others) given new) same_first
    (subst (λ z. InAll (waits state []) (heard_first acts) z given new) same_then p)) q
