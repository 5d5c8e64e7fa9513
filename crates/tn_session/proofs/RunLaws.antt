-- Logs of parts of a stream, one after the other.
use Rattle.std.proofs.Common.{◌≡◌, ℕ, List, [], ◌∷◌, ◌++◌, refl, sym, ◌∙◌, ap, subst, append_assoc}
use Rattle.std.proofs.lemmas.List.{append-nil, append_cancel_left}
use Rattle.tn_wire.specs.declared.event.WireFault.{WireFault}
use Rattle.tn_wire.specs.Stream.{Told, Tells, Faults}
use Rattle.tn_wire.proofs.Parts.{tells_both, tells_rest, faults_both}
use Rattle.tn_session.specs.declared.fault.RunFault.{RunFault}
use Rattle.tn_session.specs.Ran.{MayAsk, LacksMemory}
use Rattle.tn_session.specs.Runs.{Course, goes, finishes, fails, Log, going, finished, failed, log_on, log_of, GoesOn, EndsBy, EndsAtFault, IsPartDue}

-- what is open tells nothing by itself
pub open_tells : (x o : List ℕ) (es : List Told) → Tells x es o → Tells o [] o
open_tells x o es a =
    let whole : Tells (x ++ []) es o = subst (λ z. Tells z es o) (sym (append-nil x)) a in
    let rest : (fs : List Told) × (es ≡ es ++ fs) × Tells (o ++ []) fs o = tells_rest x [] o o es es a whole in
    let none : rest.0 ≡ [] = append_cancel_left es rest.0 [] (sym rest.1 ∙ sym (append-nil es)) in
    subst (λ z. Tells z [] o) (append-nil o) (subst (λ z. Tells (o ++ []) z o) none rest.2)

-- bytes behind two parts of a stream
joined : (b x y : List ℕ) (es : List Told) (o : List ℕ) → Tells ((b ++ x) ++ y) es o → Tells (b ++ (x ++ y)) es o
joined b x y es o a = subst (λ z. Tells z es o) (append_assoc b x y) a

module _ {State : Type 0} (act : State → Told → Log State) where
  -- what later events do, after events with which the log goes on
  on_course : (c : Course State) (d : List ℕ) (es fs : List Told) (due : List ℕ) (next : State)
      → ((m : State) (before : List ℕ) → log_of act m es ≡ going before next → log_of act m (es ++ fs) ≡ log_on before (goes next) (λ n. log_of act n fs))
      → log_on d c (λ n. log_of act n es) ≡ going due next
      → log_on d c (λ n. log_of act n (es ++ fs)) ≡ log_on due (goes next) (λ n. log_of act n fs)
  on_course (goes m) d es fs due next ih is =
      let inner : Log State = log_of act m es in
      let last : Log State = log_of act next fs in
      let at : log_of act m es ≡ going inner.due next =
      ap (λ (c : Course State). record { due = inner.due; course = c }) (ap (λ (l : Log State). l.course) is) in
      let later : log_of act m (es ++ fs) ≡ record { due = inner.due ++ last.due; course = last.course } = ih m inner.due at in
      let dues : d ++ inner.due ≡ due = ap (λ (l : Log State). l.due) is in
      ap (λ (l : Log State). record { due = d ++ l.due; course = l.course }) later
      ∙ ap (λ (z : List ℕ). record { due = z; course = last.course }) (sym (append_assoc d inner.due last.due) ∙ ap (λ z. z ++ last.due) dues)
  on_course (finishes m) d es fs due next ih is = let clash : finishes m ≡ goes next = ap (λ (l : Log State). l.course) is in absurd cc
  on_course (fails why m) d es fs due next ih is = let clash : fails why m ≡ goes next = ap (λ (l : Log State). l.course) is in absurd cc

  pub log-append : (es fs : List Told) (s : State) (due : List ℕ) (next : State) → log_of act s es ≡ going due next
      → log_of act s (es ++ fs) ≡ log_on due (goes next) (λ n. log_of act n fs)
  log-append [] fs s due next is =
      let course : goes s ≡ goes next = ap (λ (l : Log State). l.course) is in
      let same : s ≡ next = cc in
      let dues : [] ≡ due = ap (λ (l : Log State). l.due) is in
      ap (λ (n : State). log_of act n fs) same ∙ ap (λ (z : List ℕ). log_on z (goes next) (λ n. log_of act n fs)) dues
  log-append (e ∷ es) fs s due next is =
      on_course (act s e).course (act s e).due es fs due next (λ m before at. log-append es fs m before next at) is

  log-joined : (es fs : List Told) (s : State) (due d : List ℕ) (next : State) (course : Course State) → log_of act s es ≡ going due next
      → log_of act next fs ≡ record { due = d; course = course } → log_of act s (es ++ fs) ≡ record { due = due ++ d; course = course }
  log-joined es fs s due d next course is later =
      log-append es fs s due next is ∙ ap (λ (l : Log State). record { due = due ++ l.due; course = l.course }) later

  -- ---- a part after a part with which the log goes on

  pub goes-goes : (b x y due d c o : List ℕ) (s m n : State) → GoesOn act b s x due m c → GoesOn act c m y d n o → GoesOn act b s (x ++ y) (due ++ d) n o
  goes-goes b x y due d c o s m n p q = record {
    events = p.events ++ q.events;
    tells = joined b x y _ o (tells_both (b ++ x) y c o p.events q.events p.tells q.tells);
    log = log-joined p.events q.events s due d m (goes n) p.log q.log;
  }

  pub goes-ends : (b x y due d c : List ℕ) (s m : State) (course : Course State) → GoesOn act b s x due m c → EndsBy act c m y d course
      → EndsBy act b s (x ++ y) (due ++ d) course
  goes-ends b x y due d c s m course p q = record {
    used = x ++ q.used;
    more = q.more;
    events = p.events ++ q.events;
    left = q.left;
    front = ap (λ z. x ++ z) q.front ∙ sym (append_assoc x q.used q.more);
    tells = joined b x q.used _ q.left (tells_both (b ++ x) q.used c q.left p.events q.events p.tells q.tells);
    log = log-joined p.events q.events s due d m course p.log q.log;
  }

  pub goes-fault : (b x y due d c : List ℕ) (s m n : State) (fault : WireFault) → GoesOn act b s x due m c → EndsAtFault act c m y d fault n
      → EndsAtFault act b s (x ++ y) (due ++ d) fault n
  goes-fault b x y due d c s m n fault p q = record {
    used = x ++ q.used;
    more = q.more;
    events = p.events ++ q.events;
    front = ap (λ z. x ++ z) q.front ∙ sym (append_assoc x q.used q.more);
    faults = subst (λ z. Faults z (p.events ++ q.events) fault) (append_assoc b x q.used)
        (faults_both (b ++ x) q.used c p.events q.events fault p.tells q.faults);
    log = log-joined p.events q.events s due d m (goes n) p.log q.log;
  }

  pub goes-part : (opening b x y due sent c : List ℕ) (s m : State) → GoesOn act b s x due m c → IsPartDue act [] c m y sent
      → IsPartDue act opening b s (x ++ y) ((opening ++ due) ++ sent)
  goes-part opening b x y due sent c s m p q =
      let last : Log State = log_of act m q.events in
      let whole : log_of act s (p.events ++ q.events) ≡ record { due = due ++ last.due; course = last.course } =
      log-joined p.events q.events s due last.due m last.course p.log refl in
      record {
        used = x ++ q.used;
        more = q.more;
        events = p.events ++ q.events;
        left = q.left;
        lost = q.lost;
        front = ap (λ z. x ++ z) q.front ∙ sym (append_assoc x q.used q.more);
        tells = joined b x q.used _ q.left (tells_both (b ++ x) q.used c q.left p.events q.events p.tells q.tells);
        part = ap (λ (l : Log State). opening ++ l.due) whole ∙ sym (append_assoc opening due last.due)
            ∙ ap (λ z. (opening ++ due) ++ z) q.part ∙ sym (append_assoc (opening ++ due) sent q.lost);
      }

  pub goes-lacks : (b x y due d c : List ℕ) (s m : State) → GoesOn act b s x due m c → LacksMemory act c m y d → LacksMemory act b s (x ++ y) (due ++ d)
  goes-lacks b x y due d c s m p q = record {
    used = x ++ q.used;
    next = q.next;
    left = q.left;
    taken = q.taken;
    event = q.event;
    after = q.after;
    more = q.more;
    front = ap (λ z. x ++ z) q.front ∙ sym (append_assoc x q.used (q.taken ++ q.more));
    log = goes-goes b x q.used due d c q.left s m q.next p q.log;
    tells = q.tells;
    asks = q.asks;
  }

  -- ---- one event, or none

  pub quiet : (c x o : List ℕ) (m : State) → Tells (c ++ x) [] o → GoesOn act c m x [] m o
  quiet c x o m a = record { events = []; tells = a; log = refl }

  pub nothing_yet : (c : List ℕ) (m : State) → Tells c [] c → GoesOn act c m [] [] m c
  nothing_yet c m a = quiet c [] c m (subst (λ z. Tells z [] c) (sym (append-nil c)) a)

  one : (m : State) (e : Told) (d : List ℕ) (course : Course State) → act m e ≡ record { due = d; course = course }
      → log_of act m (e ∷ []) ≡ log_on d course (λ n. going [] n)
  one m e d course is = ap (λ (l : Log State). log_on l.due l.course (λ n. going [] n)) is

  pub one_goes : (c x o d : List ℕ) (m n : State) (e : Told) → Tells (c ++ x) (e ∷ []) o → act m e ≡ going d n → GoesOn act c m x d n o
  one_goes c x o d m n e a is = record {
    events = e ∷ [];
    tells = a;
    log = one m e d (goes n) is ∙ ap (λ (z : List ℕ). going z n) (append-nil d);
  }

  pub one_finishes : (c x more o d : List ℕ) (m n : State) (e : Told) → Tells (c ++ x) (e ∷ []) o → act m e ≡ finished d n
      → EndsBy act c m (x ++ more) d (finishes n)
  one_finishes c x more o d m n e a is =
      record { used = x; more = more; events = e ∷ []; left = o; front = refl; tells = a; log = one m e d (finishes n) is }

  pub one_fails : (c x more o : List ℕ) (m n : State) (why : RunFault) (e : Told) → Tells (c ++ x) (e ∷ []) o → act m e ≡ failed why n
      → EndsBy act c m (x ++ more) [] (fails why n)
  one_fails c x more o m n why e a is =
      record { used = x; more = more; events = e ∷ []; left = o; front = refl; tells = a; log = one m e [] (fails why n) is }

  pub one_lacks : (c x more o : List ℕ) (m : State) (e : Told) → Tells c [] c → Tells (c ++ x) (e ∷ []) o → MayAsk (act m e).course
      → LacksMemory act c m (x ++ more) []
  one_lacks c x more o m e opens a asks = record {
    used = [];
    next = m;
    left = c;
    taken = x;
    event = e;
    after = o;
    more = more;
    front = refl;
    log = nothing_yet c m opens;
    tells = a;
    asks = asks;
  }

  -- what one event makes due, or the beginning of it
  due_first : (l : Log State) → (log : List ℕ) × ((log_on l.due l.course (λ n. going [] n)).due ≡ l.due ++ log)
  due_first l = by_course l.course l.due where
    by_course : (c : Course State) (d : List ℕ) → (log : List ℕ) × ((log_on d c (λ n. going [] n)).due ≡ d ++ log)
    by_course (goes n) d = ([], refl)
    by_course (finishes n) d = ([], sym (append-nil d))
    by_course (fails why n) d = ([], sym (append-nil d))

  pub one_part : (c x more o sent lost : List ℕ) (m : State) (e : Told) → Tells (c ++ x) (e ∷ []) o → (act m e).due ≡ sent ++ lost
      → IsPartDue act [] c m (x ++ more) sent
  one_part c x more o sent lost m e a is =
      let first : (log : List ℕ) × ((log_of act m (e ∷ [])).due ≡ (act m e).due ++ log) = due_first (act m e) in
      record {
        used = x;
        more = more;
        events = e ∷ [];
        left = o;
        lost = lost ++ first.0;
        front = refl;
        tells = a;
        part = first.1 ∙ ap (λ z. z ++ first.0) is ∙ append_assoc sent lost first.0;
      }

  pub one_fault : (c x more : List ℕ) (m : State) (fault : WireFault) → Faults (c ++ x) [] fault → EndsAtFault act c m (x ++ more) [] fault m
  one_fault c x more m fault a = record { used = x; more = more; events = []; front = refl; faults = a; log = refl }
