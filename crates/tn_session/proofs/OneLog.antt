-- Two logs of one stream are one, and a front's log is followed by the whole's.
use Rattle.std.proofs.Common.{◌≡◌, ◌<◌, ℕ, List, [], ◌∷◌, ◌++◌, length, refl, sym, ◌∙◌, ap, subst, ⊎_elim, append_assoc}
use Rattle.tn_wire.specs.declared.event.WireFault.{WireFault}
use Rattle.tn_wire.specs.Stream.{Told, Tells, Faults}
use Rattle.tn_wire.proofs.Parts.{tells_once, tells_rest, faults_rest}
use Rattle.tn_wire.proofs.Reading.{append_split}
use Rattle.tn_wire.proofs.Streams.{none_after_fault, has_one_fault}
use Rattle.tn_session.specs.declared.fault.RunFault.{RunFault}
use Rattle.tn_session.specs.Runs.{Course, goes, finishes, fails, Log, going, log_on, log_of, GoesOn, EndsBy, EndsAtFault}
use Rattle.tn_session.specs.OneLog.{Standing, waits, is_over, has_failed, is_at_fault, HasLog, HaveOneLog, LogsGoOn}
use Rattle.tn_session.proofs.RunLaws.{log-append}

abbrev HasEnded : {State : Type 0} → Course State → Type 0
HasEnded (goes state) = ⊥
HasEnded (finishes state) = Unit {0}
HasEnded (fails why state) = Unit {0}

pub finishes_same : {State : Type 0} {s t : State} → finishes s ≡ finishes t → s ≡ t
finishes_same e = cc

fails_same : {State : Type 0} {v w : RunFault} {s t : State} → ◌≡◌ {A = Course State} (fails v s) (fails w t) → (v ≡ w) × (s ≡ t)
fails_same e = (cc, cc)

finishes≢fails : {State : Type 0} {s t : State} {w : RunFault} → finishes s ≡ fails w t → ⊥
finishes≢fails e = cc

goes_same : {State : Type 0} {s t : State} → goes s ≡ goes t → s ≡ t
goes_same e = cc

-- the same bytes, taken behind what was before
later_part : (before used k : List ℕ) {bytes : List ℕ} → bytes ≡ used ++ k → before ++ bytes ≡ (before ++ used) ++ k
later_part before used k e = ap (λ z. before ++ z) e ∙ sym (append_assoc before used k)

module _ {State : Type 0} (act : State → Told → Log State) where
  -- ---- events after an end change nothing
  ended_on : (c : Course State) (d : List ℕ) (es fs : List Told)
      → ((m : State) → HasEnded (log_of act m es).course → log_of act m (es ++ fs) ≡ log_of act m es)
      → HasEnded (log_on d c (λ n. log_of act n es)).course → log_on d c (λ n. log_of act n (es ++ fs)) ≡ log_on d c (λ n. log_of act n es)
  ended_on (goes m) d es fs later over = ap (λ (l : Log State). record { due = d ++ l.due; course = l.course }) (later m over)
  ended_on (finishes m) d es fs later over = refl
  ended_on (fails why m) d es fs later over = refl

  ended-append : (es fs : List Told) (s : State) → HasEnded (log_of act s es).course → log_of act s (es ++ fs) ≡ log_of act s es
  ended-append [] fs s over = absurd over
  ended-append (e ∷ es) fs s over = ended_on (act s e).course (act s e).due es fs (λ m. ended-append es fs m) over

  ended_log : (es fs gs : List Told) (s : State) (d : List ℕ) (c : Course State) → HasEnded c → log_of act s es ≡ record { due = d; course = c }
      → gs ≡ es ++ fs → log_of act s gs ≡ record { due = d; course = c }
  ended_log es fs gs s d c over is whole =
      ap (log_of act s) whole ∙ ended-append es fs s (subst HasEnded (sym (ap (λ (l : Log State). l.course) is)) over) ∙ is

  going_on : (s n : State) (d e : List ℕ) (c : Course State) (l : Log State) → HasEnded c → l ≡ record { due = d; course = c } → l ≡ going e n → ⊥
  going_on s n d e c l over is other = subst HasEnded (ap (λ (l : Log State). l.course) (sym is ∙ other)) over

  -- ---- a log that goes on
  goes_once : (b x d e l k : List ℕ) (s m n : State) → GoesOn act b s x d m l → GoesOn act b s x e n k → (d ≡ e) × (m ≡ n) × (l ≡ k)
  goes_once b x d e l k s m n p q =
      let same = tells_once (b ++ x) p.events q.events l k p.tells q.tells in
      let logs : going d m ≡ going e n = sym p.log ∙ ap (log_of act s) same.0 ∙ q.log in
      (ap (λ (l : Log State). l.due) logs, goes_same (ap (λ (l : Log State). l.course) logs), same.1)

  goes_not_ends : (b x d e l : List ℕ) (s m : State) (c : Course State) → HasEnded c → GoesOn act b s x d m l → EndsBy act b s x e c → ⊥
  goes_not_ends b x d e l s m c over p q =
      let whole : Tells ((b ++ q.used) ++ q.more) p.events l = subst (λ z. Tells z p.events l) (later_part b q.used q.more q.front) p.tells in
      let rest = tells_rest (b ++ q.used) q.more q.left l q.events p.events q.tells whole in
      going_on s m e d c (log_of act s p.events) over (ended_log q.events rest.0 p.events s e c over q.log rest.1) p.log

  goes_not_faults : (b x d e l : List ℕ) (s m n : State) (w : WireFault) → GoesOn act b s x d m l → EndsAtFault act b s x e w n → ⊥
  goes_not_faults b x d e l s m n w p q =
      none_after_fault (b ++ q.used) q.more l p.events q.events w q.faults
      (subst (λ z. Tells z p.events l) (later_part b q.used q.more q.front) p.tells)

  -- ---- a log that ended
  ends_before : (b x d e k : List ℕ) (s : State) (c a : Course State) (p : EndsBy act b s x d c) (q : EndsBy act b s x e a) → HasEnded c
      → q.used ≡ p.used ++ k → ◌≡◌ {A = Log State} (record { due = d; course = c }) (record { due = e; course = a })
  ends_before b x d e k s c a p q over longer =
      let whole : Tells ((b ++ p.used) ++ k) q.events q.left = subst (λ z. Tells z q.events q.left) (later_part b p.used k longer) q.tells in
      let rest = tells_rest (b ++ p.used) k p.left q.left p.events q.events p.tells whole in
      sym (ended_log p.events rest.0 q.events s d c over p.log rest.1) ∙ q.log

  ends_once : (b x d e : List ℕ) (s : State) (c a : Course State) → HasEnded c → HasEnded a → EndsBy act b s x d c → EndsBy act b s x e a
      → (d ≡ e) × (c ≡ a)
  ends_once b x d e s c a over ended p q =
      let logs : ◌≡◌ {A = Log State} (record { due = d; course = c }) (record { due = e; course = a }) =
      ⊎_elim
      (λ (r : (k : List ℕ) × (q.used ≡ p.used ++ k) × (p.more ≡ k ++ q.more)). ends_before b x d e r.0 s c a p q over r.1)
      (λ (r : (k : List ℕ) × (0 < length k) × (p.used ≡ q.used ++ k) × (q.more ≡ k ++ p.more)). sym (ends_before b x e d r.0 s a c q p ended r.2))
      (append_split p.used p.more q.used q.more (sym p.front ∙ q.front)) in
      (ap (λ (l : Log State). l.due) logs, ap (λ (l : Log State). l.course) logs)

  ends_not_faults : (b x d e : List ℕ) (s n : State) (c : Course State) (w : WireFault) → HasEnded c → EndsBy act b s x d c → EndsAtFault act b s x e w n
      → ⊥
  ends_not_faults b x d e s n c w over p q =
      ⊎_elim
      (λ (r : (k : List ℕ) × (q.used ≡ p.used ++ k) × (p.more ≡ k ++ q.more)).
      let rest = faults_rest (b ++ p.used) r.0 p.left p.events q.events w p.tells
      (subst (λ z. Faults z q.events w) (later_part b p.used r.0 r.1) q.faults) in
      going_on s n d e c (log_of act s q.events) over (ended_log p.events rest.0 q.events s d c over p.log rest.1) q.log)
      (λ (r : (k : List ℕ) × (0 < length k) × (p.used ≡ q.used ++ k) × (q.more ≡ k ++ p.more)).
      none_after_fault (b ++ q.used) r.0 p.left p.events q.events w q.faults
      (subst (λ z. Tells z p.events p.left) (later_part b q.used r.0 r.2) p.tells))
      (append_split p.used p.more q.used q.more (sym p.front ∙ q.front))

  faults_before : (b x d e k : List ℕ) (s m n : State) (v w : WireFault) (p : EndsAtFault act b s x d v m) (q : EndsAtFault act b s x e w n)
      → q.used ≡ p.used ++ k → (d ≡ e) × (v ≡ w) × (m ≡ n)
  faults_before b x d e k s m n v w p q longer =
      let one = has_one_fault (b ++ p.used) k p.events q.events v w p.faults
      (subst (λ z. Faults z q.events w) (later_part b p.used k longer) q.faults) in
      let logs : going d m ≡ going e n = sym p.log ∙ ap (log_of act s) one.1 ∙ q.log in
      (ap (λ (l : Log State). l.due) logs, one.2, goes_same (ap (λ (l : Log State). l.course) logs))

  faults_once : (b x d e : List ℕ) (s m n : State) (v w : WireFault) → EndsAtFault act b s x d v m → EndsAtFault act b s x e w n
      → (d ≡ e) × (v ≡ w) × (m ≡ n)
  faults_once b x d e s m n v w p q =
      ⊎_elim
      (λ (r : (k : List ℕ) × (q.used ≡ p.used ++ k) × (p.more ≡ k ++ q.more)). faults_before b x d e r.0 s m n v w p q r.1)
      (λ (r : (k : List ℕ) × (0 < length k) × (p.used ≡ q.used ++ k) × (q.more ≡ k ++ p.more)).
      let other = faults_before b x e d r.0 s n m w v q p r.2 in (sym other.0, sym other.1, sym other.2))
      (append_split p.used p.more q.used q.more (sym p.front ∙ q.front))

  -- ---- a log that goes on, and the log of the whole
  log_rest : (es fs gs : List Told) (s n : State) (d w : List ℕ) (c : Course State) → log_of act s es ≡ going d n → gs ≡ es ++ fs
      → log_of act s gs ≡ record { due = w; course = c }
      → (w ≡ d ++ (log_of act n fs).due) × (log_of act n fs ≡ record { due = (log_of act n fs).due; course = c })
  log_rest es fs gs s n d w c is whole later =
      let last : Log State = log_of act n fs in
      let logs : ◌≡◌ {A = Log State} (record { due = d ++ last.due; course = last.course }) (record { due = w; course = c }) =
      sym (log-append act es fs s d n is) ∙ ap (log_of act s) (sym whole) ∙ later in (
        sym (ap (λ (l : Log State). l.due) logs),
        ap (λ (z : Course State). record { due = last.due; course = z }) (ap (λ (l : Log State). l.course) logs),
      )

  goes_then_goes : (b x y d w l k : List ℕ) (s n m : State) → GoesOn act b s x d n l → GoesOn act b s (x ++ y) w m k
      → (rest : List ℕ) × (w ≡ d ++ rest) × GoesOn act l n y rest m k
  goes_then_goes b x y d w l k s n m p q =
      let rest = tells_rest (b ++ x) y l k p.events q.events p.tells (subst (λ z. Tells z q.events k) (later_part b x y refl) q.tells) in
      let log = log_rest p.events rest.0 q.events s n d w (goes m) p.log rest.1 q.log in
      ((log_of act n rest.0).due, log.0, record { events = rest.0; tells = rest.2; log = log.1 })

  goes_then_ends : (b x y d w l : List ℕ) (s n : State) (c : Course State) → HasEnded c → GoesOn act b s x d n l → EndsBy act b s (x ++ y) w c
      → (rest : List ℕ) × (w ≡ d ++ rest) × EndsBy act l n y rest c
  goes_then_ends b x y d w l s n c over p q =
      ⊎_elim
      (λ (r : (k : List ℕ) × (q.used ≡ x ++ k) × (y ≡ k ++ q.more)).
      let rest = tells_rest (b ++ x) r.0 l q.left p.events q.events p.tells
      (subst (λ z. Tells z q.events q.left) (later_part b x r.0 r.1) q.tells) in
      let log = log_rest p.events rest.0 q.events s n d w c p.log rest.1 q.log in (
        (log_of act n rest.0).due,
        log.0,
        record { used = r.0; more = q.more; events = rest.0; left = q.left; front = r.2; tells = rest.2; log = log.1 },
      ))
      (λ (r : (k : List ℕ) × (0 < length k) × (x ≡ q.used ++ k) × (q.more ≡ k ++ y)).
      absurd (goes_not_ends b x d w l s n c over p
      (record { used = q.used; more = r.0; events = q.events; left = q.left; front = r.2; tells = q.tells; log = q.log })))
      (append_split x y q.used q.more q.front)

  goes_then_faults : (b x y d w l : List ℕ) (s n m : State) (v : WireFault) → GoesOn act b s x d n l → EndsAtFault act b s (x ++ y) w v m
      → (rest : List ℕ) × (w ≡ d ++ rest) × EndsAtFault act l n y rest v m
  goes_then_faults b x y d w l s n m v p q =
      ⊎_elim
      (λ (r : (k : List ℕ) × (q.used ≡ x ++ k) × (y ≡ k ++ q.more)).
      let rest = faults_rest (b ++ x) r.0 l p.events q.events v p.tells
      (subst (λ z. Faults z q.events v) (later_part b x r.0 r.1) q.faults) in
      let log = log_rest p.events rest.0 q.events s n d w (goes m) p.log rest.1 q.log in (
        (log_of act n rest.0).due,
        log.0,
        record { used = r.0; more = q.more; events = rest.0; front = r.2; faults = rest.2; log = log.1 },
      ))
      (λ (r : (k : List ℕ) × (0 < length k) × (x ≡ q.used ++ k) × (q.more ≡ k ++ y)).
      absurd (goes_not_faults b x d w l s n m v p
      (record { used = q.used; more = r.0; events = q.events; front = r.2; faults = q.faults; log = q.log })))
      (append_split x y q.used q.more q.front)

  -- ---- one that ended ends the whole so too
  pub still_ends : (b x y d : List ℕ) (s : State) (c : Course State) → EndsBy act b s x d c → EndsBy act b s (x ++ y) d c
  still_ends b x y d s c p = record {
    used = p.used;
    more = p.more ++ y;
    events = p.events;
    left = p.left;
    front = ap (λ z. z ++ y) p.front ∙ append_assoc p.used p.more y;
    tells = p.tells;
    log = p.log;
  }

  pub still_faults : (b x y d : List ℕ) (s m : State) (v : WireFault) → EndsAtFault act b s x d v m → EndsAtFault act b s (x ++ y) d v m
  still_faults b x y d s m v p = record {
    used = p.used;
    more = p.more ++ y;
    events = p.events;
    front = ap (λ z. z ++ y) p.front ∙ append_assoc p.used p.more y;
    faults = p.faults;
    log = p.log;
  }

pub have_one_log : {State : Type 0} → HaveOneLog State
have_one_log act b s x d e (waits m l) (waits n k) p q =
    let same = goes_once act b x d e l k s m n p q in (same.0, ap (λ z. waits z l) same.1 ∙ ap (waits n) same.2)
have_one_log act b s x d e (waits m l) (is_over n) p q = absurd (goes_not_ends act b x d e l s m (finishes n) tt p q)
have_one_log act b s x d e (waits m l) (has_failed w n) p q = absurd (goes_not_ends act b x d e l s m (fails w n) tt p q)
have_one_log act b s x d e (waits m l) (is_at_fault w n) p q = absurd (goes_not_faults act b x d e l s m n w p q)
have_one_log act b s x d e (is_over m) (waits n k) p q = absurd (goes_not_ends act b x e d k s n (finishes m) tt q p)
have_one_log act b s x d e (is_over m) (is_over n) p q =
    let same = ends_once act b x d e s (finishes m) (finishes n) tt tt p q in (same.0, ap is_over (finishes_same same.1))
have_one_log act b s x d e (is_over m) (has_failed w n) p q =
    absurd (finishes≢fails (ends_once act b x d e s (finishes m) (fails w n) tt tt p q).1)
have_one_log act b s x d e (is_over m) (is_at_fault w n) p q = absurd (ends_not_faults act b x d e s n (finishes m) w tt p q)
have_one_log act b s x d e (has_failed v m) (waits n k) p q = absurd (goes_not_ends act b x e d k s n (fails v m) tt q p)
have_one_log act b s x d e (has_failed v m) (is_over n) p q =
    absurd (finishes≢fails (ends_once act b x e d s (finishes n) (fails v m) tt tt q p).1)
have_one_log act b s x d e (has_failed v m) (has_failed w n) p q =
    let same = ends_once act b x d e s (fails v m) (fails w n) tt tt p q in
    let alike : (v ≡ w) × (m ≡ n) = fails_same same.1 in
    (same.0, ap (λ z. has_failed z m) alike.0 ∙ ap (has_failed w) alike.1)
have_one_log act b s x d e (has_failed v m) (is_at_fault w n) p q = absurd (ends_not_faults act b x d e s n (fails v m) w tt p q)
have_one_log act b s x d e (is_at_fault v m) (waits n k) p q = absurd (goes_not_faults act b x e d k s n m v q p)
have_one_log act b s x d e (is_at_fault v m) (is_over n) p q = absurd (ends_not_faults act b x e d s m (finishes n) v tt q p)
have_one_log act b s x d e (is_at_fault v m) (has_failed w n) p q = absurd (ends_not_faults act b x e d s m (fails w n) v tt q p)
have_one_log act b s x d e (is_at_fault v m) (is_at_fault w n) p q =
    let same = faults_once act b x d e s m n v w p q in
    (same.0, ap (λ z. is_at_fault z m) same.1 ∙ ap (is_at_fault w) same.2)

-- a log that ended, and the whole's
stays : {State : Type 0} (act : State → Told → Log State) (b z d w : List ℕ) (s : State) (standing later : Standing State)
    → HasLog act b s z d standing → HasLog act b s z w later → (w ≡ d) × (later ≡ standing)
stays act b z d w s standing later p q = have_one_log act b s z w d later standing q p

pub logs_go_on : {State : Type 0} → LogsGoOn State
logs_go_on act b s x y d w (waits n l) (waits m k) p q = goes_then_goes act b x y d w l k s n m p q
logs_go_on act b s x y d w (waits n l) (is_over m) p q = goes_then_ends act b x y d w l s n (finishes m) tt p q
logs_go_on act b s x y d w (waits n l) (has_failed v m) p q = goes_then_ends act b x y d w l s n (fails v m) tt p q
logs_go_on act b s x y d w (waits n l) (is_at_fault v m) p q = goes_then_faults act b x y d w l s n m v p q
logs_go_on act b s x y d w (is_over m) later p q = stays act b (x ++ y) d w s (is_over m) later (still_ends act b x y d s (finishes m) p) q
logs_go_on act b s x y d w (has_failed v m) later p q =
    stays act b (x ++ y) d w s (has_failed v m) later (still_ends act b x y d s (fails v m) p) q
logs_go_on act b s x y d w (is_at_fault v m) later p q =
    stays act b (x ++ y) d w s (is_at_fault v m) later (still_faults act b x y d s m v p) q
