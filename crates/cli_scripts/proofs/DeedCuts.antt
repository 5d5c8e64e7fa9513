-- The same deeds give the same bytes, however what was heard was cut.
use Rattle.std.proofs.Common.{◌≡◌, ℕ, Bool, true, false, cond, List, [], ◌∷◌, ◌++◌, length, replicate, get_or, drop, refl, sym, ap, ◌∙◌, append_assoc, subst}
use Rattle.std.specs.Prelude.{Result}
use Rattle.tn_cores.specs.declared.device.Device.{Device}
use Rattle.tn_session.specs.declared.fault.RunFault.{RunFault}
use Rattle.tn_session.specs.declared.pressed.Pressed.{Pressed as Answer}
use Rattle.tn_session.specs.declared.progress.Progress.{Progress}
use Rattle.tn_session.specs.declared.terminal_state.TerminalState.{TerminalState}
use Rattle.tn_session.specs.EndCores.{is_tolerant}
use Rattle.tn_session.specs.OneLog.{waits, is_over, has_failed, is_at_fault}
use Rattle.tn_session.specs.Strikes.{by_key}
use Rattle.tn_session.specs.Talk.{Talk, stands, starved}
use Rattle.tn_session.specs.TerminalLog.{tolerant_terminal}
use Rattle.tn_session.specs.TerminalTalk.{begins_between, TerminalTakes, TakesAs, Presses}
use Rattle.tn_session.proofs.Pieces.{stands_same}
use Rattle.cli_scripts.specs.declared.deed.Deed.{Deed}
use Rattle.cli_scripts.specs.declared.deed.Deed.TheVariants.{Begun, Heard, Pressed}
use Rattle.cli_scripts.specs.Deeds.{Did, new_talk}
use Rattle.cli_scripts.specs.DeedLaws.{NoneBegins, AreOfOneSession, IsFed, byte_by_byte, DeedsAgree}
use Rattle.cli_scripts.specs.SentOn.{SentOn, collected, sent_on}
use Rattle.cli_scripts.proofs.DeedLaws.{At, EndOn, ByteOn, BytesOn, byte_once, IsEnded, ended_bytes, tolerated_on, pressed_once, starved_deeds, both}
use Rattle.cli_scripts.proofs.Tolerance.{IsTolerantAt, log_so, key_so}

-- ---- a tolerant session stays one

end_so : (t : Bool) (m n : At) (due given : List ℕ) → IsTolerantAt m → EndOn t m due given n → IsTolerantAt n
end_so false m n due given is (gave, same) = subst IsTolerantAt (sym same) is
end_so true m n due given is (more, log, gave) = log_so m n (255 ∷ 239 ∷ []) more is log

byte_so : (a m : At) (byte : ℕ) (given : List ℕ) → IsTolerantAt a → ByteOn a byte given m → IsTolerantAt m
byte_so a m byte given is (due, mid, log, end) =
    end_so (begins_between (stands a) (stands mid)) mid m due given (log_so a mid (byte ∷ []) due is log) end

bytes_so : (bytes : List ℕ) (a m : At) (given : List ℕ) → IsTolerantAt a → BytesOn a bytes given m → IsTolerantAt m
bytes_so [] a m given is (none, same) = subst IsTolerantAt (sym same) is
bytes_so (byte ∷ bytes) a m given is (due, mid, more, first, later, gave) = bytes_so bytes mid m more (byte_so a mid byte due is first) later

-- bytes that it takes are taken one by one
by_manner : (t : Bool) (state : TerminalState) (left bytes : List ℕ) (r : Result Progress RunFault) (given : List ℕ) (m : At) → is_tolerant state.core ≡ t
    → is_tolerant state.core ≡ true → TakesAs t (stands (waits state left)) bytes r given (stands m) → BytesOn (waits state left) bytes given m
by_manner true state left bytes r given m so is takes = tolerated_on bytes (waits state left) m r given takes
by_manner false state left bytes r given m so is takes = absurd (subst (λ (b : Bool). cond b ⊥ (Unit {0})) (sym so ∙ is) tt)

stayed : (bytes : List ℕ) (a m : At) (given : List ℕ) → IsEnded a → given ≡ [] → m ≡ a → BytesOn a bytes given m
stayed bytes a m given ended none same =
    subst (λ (z : List ℕ). BytesOn a bytes z m) (sym none) (subst (λ (z : At). BytesOn a bytes [] z) (sym same) (ended_bytes bytes a ended))

taken_on : (bytes : List ℕ) (a m : At) (r : Result Progress RunFault) (given : List ℕ) → IsTolerantAt a → TerminalTakes (stands a) bytes r given (stands m)
    → BytesOn a bytes given m
taken_on bytes (waits state left) m r given is takes = by_manner (is_tolerant state.core) state left bytes r given m refl is takes
taken_on bytes (is_over end) m r given is takes = stayed bytes (is_over end) m given tt takes.1 (stands_same takes.2)
taken_on bytes (has_failed why end) m r given is takes = stayed bytes (has_failed why end) m given tt takes.1 (stands_same takes.2)
taken_on bytes (is_at_fault fault end) m r given is takes = stayed bytes (is_at_fault fault end) m given tt takes.1 (stands_same takes.2)

-- ---- deeds by which each byte is heard alone

abbrev first_at : Device → At
first_at device = waits (tolerant_terminal device true true) []

abbrev DidOn : Device → List Deed → List ℕ → List ℕ → List SentOn → At → At → Type 0
DidOn device [] heard given screens a m = (heard ≡ []) × (given ≡ []) × (screens ≡ []) × (m ≡ a)
DidOn device (Begun ∷ deeds) heard given screens a m = DidOn device deeds heard given screens (first_at device) m
DidOn device (Heard count ∷ deeds) heard given screens a m =
    (byte : ℕ) × (rest : List ℕ) × (heard ≡ byte ∷ rest) × (first : List ℕ) × (more : List ℕ) × (given ≡ first ++ more)
    × (mid : At) × ByteOn a byte first mid × DidOn device deeds rest more screens mid m
DidOn device (Pressed key ∷ deeds) heard given screens a m =
    (later : List SentOn) × (screens ≡ sent_on key (stands a) ++ later) × (first : List ℕ) × (more : List ℕ) × (given ≡ first ++ more)
    × (mid : At) × ((r : Result Answer RunFault) × Presses (stands a) (by_key key) r first (stands mid)) × DidOn device deeds heard more later mid m

head_same : (b c : ℕ) (x y : List ℕ) → b ∷ x ≡ c ∷ y → (b ≡ c) × (x ≡ y)
head_same b c x y is = (ap (λ (q : List ℕ). get_or q 0 b) is, ap (drop 1) is)

did_once : (device : Device) (deeds : List Deed) (a m n : At) (heard given more : List ℕ) (screens others : List SentOn)
    → DidOn device deeds heard given screens a m → DidOn device deeds heard more others a n → (given ≡ more) × ((screens ≡ others) × (m ≡ n))
did_once device [] a m n heard given more screens others (h, g, s, is) (h2, g2, s2, also) = (g ∙ sym g2, (s ∙ sym s2, is ∙ sym also))
did_once device (Begun ∷ deeds) a m n heard given more screens others p q = did_once device deeds (first_at device) m n heard given more screens others p q
did_once device (Heard count ∷ deeds) a m n heard given more screens others
    (b, x, cut, d, e, gave, p, byte, did) (b2, x2, cut2, d2, e2, gave2, p2, byte2, did2) =
    let front = head_same b b2 x x2 (sym cut ∙ cut2) in
    let same = byte_once a p p2 b2 d d2 (subst (λ (z : ℕ). ByteOn a z d p) front.0 byte) byte2 in
    let here : DidOn device deeds x2 e screens p2 m =
    subst (λ (z : At). DidOn device deeds x2 e screens z m) same.1 (subst (λ (z : List ℕ). DidOn device deeds z e screens p m) front.1 did) in
    let rest = did_once device deeds p2 m n x2 e e2 screens others here did2 in
    (gave ∙ both same.0 rest.0 ∙ sym gave2, rest.1)
did_once device (Pressed key ∷ deeds) a m n heard given more screens others
    (t, split, d, e, gave, p, (r, key_did), did) (t2, split2, d2, e2, gave2, p2, (r2, key_did2), did2) =
    let same = pressed_once a p p2 (by_key key) r r2 d d2 key_did key_did2 in
    let here : DidOn device deeds heard e t p2 m = subst (λ (z : At). DidOn device deeds heard e t z m) same.1 did in
    let rest = did_once device deeds p2 m n heard e e2 t t2 here did2 in
    (gave ∙ both same.0 rest.0 ∙ sym gave2, (split ∙ ap (λ z. sent_on key (stands a) ++ z) rest.1.0 ∙ sym split2, rest.1.1))

-- ---- deeds are those

heard_each : (device : Device) (bytes : List ℕ) (deeds : List Deed) (a m n : At) (rest given more : List ℕ) (screens : List SentOn)
    → BytesOn a bytes given m → DidOn device deeds rest more screens m n
    → DidOn device (replicate (length bytes) (Heard 1) ++ deeds) (bytes ++ rest) (given ++ more) screens a n
heard_each device [] deeds a m n rest given more screens (none, same) did =
    subst (λ (z : List ℕ). DidOn device deeds rest (z ++ more) screens a n) (sym none)
    (subst (λ (z : At). DidOn device deeds rest more screens z n) same did)
heard_each device (byte ∷ bytes) deeds a m n rest given more screens (due, mid, later, first, others, gave) did = (
  byte,
  bytes ++ rest,
  refl,
  due,
  later ++ more,
  ap (λ z. z ++ more) gave ∙ append_assoc due later more,
  mid,
  first,
  heard_each device bytes deeds mid m n rest later more screens others did,
)

heard_alone : (device : Device) (bytes : List ℕ) (count : ℕ) (deeds : List Deed) (a m n : At) (rest given more : List ℕ) (screens : List SentOn)
    → length bytes ≡ count → BytesOn a bytes given m → DidOn device deeds rest more screens m n
    → DidOn device (replicate count (Heard 1) ++ deeds) (bytes ++ rest) (given ++ more) screens a n
heard_alone device bytes count deeds a m n rest given more screens long took did =
    subst (λ (k : ℕ). DidOn device (replicate k (Heard 1) ++ deeds) (bytes ++ rest) (given ++ more) screens a n) long
    (heard_each device bytes deeds a m n rest given more screens took did)

moved : (device : Device) (deeds : List Deed) (h h2 g g2 : List ℕ) (s s2 : List SentOn) (a m : At) → h ≡ h2 → g ≡ g2 → s ≡ s2
    → DidOn device deeds h g s a m → DidOn device deeds h2 g2 s2 a m
moved device deeds h h2 g g2 s s2 a m p q r did =
    subst (λ (z : List SentOn). DidOn device deeds h2 g2 z a m) r (subst (λ (z : List ℕ). DidOn device deeds h2 z s a m) q
    (subst (λ (z : List ℕ). DidOn device deeds z g s a m) p did))

alone : (device : Device) (deeds : List Deed) (a m : At) (heard given : List ℕ) (screens : List SentOn) → NoneBegins deeds → IsTolerantAt a
    → Did device deeds heard given screens (stands a) (stands m) → DidOn device (byte_by_byte deeds) heard given screens a m
alone device [] a m heard given screens one is (h, g, s, same) = (h, g, s, stands_same same)
alone device (Begun ∷ deeds) a m heard given screens one is did = absurd one
alone device (Heard count ∷ deeds) a m heard given screens one is
    (x, y, cut, d, e, gave, s, t, split, stands p, (long, unsent, (r, takes)), did) =
    let took : BytesOn a x d p = taken_on x a p r d is takes in
    let later : DidOn device (byte_by_byte deeds) y e t p m = alone device deeds p m y e t one (bytes_so x a p d is took) did in
    moved device (byte_by_byte (Heard count ∷ deeds)) (x ++ y) heard (d ++ e) given t screens a m (sym cut) (sym gave)
    (sym (split ∙ ap (λ z. z ++ t) unsent)) (heard_alone device x count (byte_by_byte deeds) a p m y d e t long took later)
alone device (Heard count ∷ deeds) a m heard given screens one is
    (x, y, cut, d, e, gave, s, t, split, starved, does, did) = absurd (starved_deeds device deeds y e t m one did)
alone device (Pressed key ∷ deeds) a m heard given screens one is
    (x, y, cut, d, e, gave, s, t, split, stands p, (unheard, sent, (r, presses)), did) =
    let later : DidOn device (byte_by_byte deeds) y e t p m = alone device deeds p m y e t one (key_so a p (by_key key) r d is presses) did in (
      t,
      split ∙ ap (λ z. z ++ t) sent,
      d,
      e,
      gave,
      p,
      (r, presses),
      subst (λ (z : List ℕ). DidOn device (byte_by_byte deeds) z e t p m) (sym (cut ∙ ap (λ z. z ++ y) unheard)) later,
    )
alone device (Pressed key ∷ deeds) a m heard given screens one is
    (x, y, cut, d, e, gave, s, t, split, starved, does, did) = absurd (starved_deeds device deeds y e t m one did)

of_session : (device : Device) (deeds : List Deed) (m : At) (heard given : List ℕ) (screens : List SentOn) → AreOfOneSession deeds
    → Did device deeds heard given screens (stands (first_at device)) (stands m) → DidOn device (byte_by_byte deeds) heard given screens (first_at device) m
of_session device [] m heard given screens one did = alone device [] (first_at device) m heard given screens tt refl did
of_session device (Heard count ∷ deeds) m heard given screens one did = alone device (Heard count ∷ deeds) (first_at device) m heard given screens one refl did
of_session device (Pressed key ∷ deeds) m heard given screens one did = alone device (Pressed key ∷ deeds) (first_at device) m heard given screens one refl did
of_session device (Begun ∷ deeds) m heard given screens one (x, y, cut, d, e, gave, s, t, split, p, (unheard, ungiven, unsent, is), did) =
    let here : Did device deeds y e t (stands (first_at device)) (stands m) = subst (λ (z : Talk TerminalState). Did device deeds y e t z (stands m)) is did in
    moved device (byte_by_byte deeds) y heard e given t screens (first_at device) m (sym (cut ∙ ap (λ z. z ++ y) unheard))
    (sym (gave ∙ ap (λ z. z ++ e) ungiven)) (sym (split ∙ ap (λ z. z ++ t) unsent)) (of_session device deeds m y e t one here)

by_talks : (device : Device) (deeds others : List Deed) (t u : Talk TerminalState) (heard given more : List ℕ) (screens sent : List SentOn)
    → byte_by_byte deeds ≡ byte_by_byte others → AreOfOneSession deeds → AreOfOneSession others → IsFed t → IsFed u
    → Did device deeds heard given screens (new_talk device) t → Did device others heard more sent (new_talk device) u
    → (given ≡ more) × ((screens ≡ sent) × (t ≡ u))
by_talks device deeds others (stands m) (stands n) heard given more screens sent alike one two fed also p q =
    let first : DidOn device (byte_by_byte others) heard given screens (first_at device) m =
    subst (λ (z : List Deed). DidOn device z heard given screens (first_at device) m) alike (of_session device deeds m heard given screens one p) in
    let same = did_once device (byte_by_byte others) (first_at device) m n heard given more screens sent first
    (of_session device others n heard more sent two q) in (same.0, (same.1.0, ap stands same.1.1))
by_talks device deeds others (stands m) starved heard given more screens sent alike one two fed also p q = absurd also
by_talks device deeds others starved u heard given more screens sent alike one two fed also p q = absurd fed

pub deeds_agree : DeedsAgree
deeds_agree one other alike single double fed also (all, did, is) (others, done, so) =
    let given : List ℕ = other.gone ++ other.due in
    let there : Did one.device other.deeds one.heard given others (new_talk one.device) other.talk =
    subst (λ (z : Device). Did z other.deeds one.heard given others (new_talk z) other.talk) (sym alike.device)
    (subst (λ (z : List ℕ). Did other.device other.deeds z given others (new_talk other.device) other.talk) (sym alike.heard) done) in
    let same = by_talks one.device one.deeds other.deeds one.talk other.talk one.heard (one.gone ++ one.due) given all others alike.deeds single double
    fed also did there in (
      same.0,
      (same.1.1, λ judged. is ∙ ap (λ (b : Bool). collected b all) judged ∙ ap (collected other.collects) same.1.0 ∙ sym so),
    )
