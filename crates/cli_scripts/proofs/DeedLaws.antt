-- What a session makes of one byte, of bytes and of a key is determined.
use Rattle.std.proofs.Common.{◌≡◌, ℕ, Bool, true, false, List, [], ◌∷◌, ◌++◌, Ok, Err, refl, sym, ap, ◌∙◌, subst}
use Rattle.std.specs.Prelude.{Result}
use Rattle.std.proofs.lemmas.List.{append-nil}
use Rattle.tn_cores.specs.declared.device.Device.{Device}
use Rattle.tn_session.specs.declared.fault.RunFault.{RunFault}
use Rattle.tn_session.specs.declared.fault.RunFault.TheVariants as faults
use Rattle.tn_session.specs.declared.pressed.Pressed.{Pressed as Answer}
use Rattle.tn_session.specs.declared.progress.Progress.{Progress}
use Rattle.tn_session.specs.declared.terminal_state.TerminalState.{TerminalState}
use Rattle.tn_session.specs.OneLog.{Standing, waits, is_over, has_failed, is_at_fault}
use Rattle.tn_session.specs.Pieces.{LogOn}
use Rattle.tn_session.specs.Strikes.{Strike}
use Rattle.tn_session.specs.Talk.{Talk, stands, starved, Takes, failed_talk}
use Rattle.tn_session.specs.TerminalTalk.{heard_act, begins_between, Ends, GoesOnBy, TakesByte, Tolerates, Presses}
use Rattle.tn_session.proofs.Pieces.{stands_same, takes_log, log_on_once}
use Rattle.cli_scripts.specs.declared.deed.Deed.{Deed}
use Rattle.cli_scripts.specs.declared.deed.Deed.TheVariants.{Begun, Heard, Pressed}
use Rattle.cli_scripts.specs.Deeds.{Did}
use Rattle.cli_scripts.specs.DeedLaws.{NoneBegins}
use Rattle.cli_scripts.specs.SentOn.{SentOn}

abbrev pub At : Type 0
At = Standing TerminalState

-- ---- what bytes lead to, each in turn

-- where records begin to pass, what is open is ended
abbrev pub EndOn : Bool → At → List ℕ → List ℕ → At → Type 0
EndOn false m due given new = (given ≡ due) × (new ≡ m)
EndOn true m due given new = (more : List ℕ) × LogOn heard_act m (255 ∷ 239 ∷ []) more new × (given ≡ due ++ more)

abbrev pub ByteOn : At → ℕ → List ℕ → At → Type 0
ByteOn a byte given new =
    (due : List ℕ) × (m : At) × LogOn heard_act a (byte ∷ []) due m × EndOn (begins_between (stands a) (stands m)) m due given new

abbrev pub BytesOn : At → List ℕ → List ℕ → At → Type 0
BytesOn a [] given new = (given ≡ []) × (new ≡ a)
BytesOn a (byte ∷ bytes) given new =
    (due : List ℕ) × (m : At) × (more : List ℕ) × ByteOn a byte due m × BytesOn m bytes more new × (given ≡ due ++ more)

end_once : (t : Bool) (m n o : At) (due d e : List ℕ) → EndOn t m due d n → EndOn t m due e o → (d ≡ e) × (n ≡ o)
end_once false m n o due d e p q = (p.0 ∙ sym q.0, p.1 ∙ sym q.1)
end_once true m n o due d e (x, log, is) (y, other, also) =
    let same = log_on_once heard_act m n o (255 ∷ 239 ∷ []) x y log other in (is ∙ ap (λ z. due ++ z) same.0 ∙ sym also, same.1)

pub byte_once : (a m n : At) (byte : ℕ) (d e : List ℕ) → ByteOn a byte d m → ByteOn a byte e n → (d ≡ e) × (m ≡ n)
byte_once a m n byte d e (x, p, log, end) (y, q, other, also) =
    let same = log_on_once heard_act a p q (byte ∷ []) x y log other in
    let moved : EndOn (begins_between (stands a) (stands q)) q x d m =
    subst (λ (z : At). EndOn (begins_between (stands a) (stands z)) z x d m) same.1 end in
    end_once (begins_between (stands a) (stands q)) q m n y d e
    (subst (λ (z : List ℕ). EndOn (begins_between (stands a) (stands q)) q z d m) same.0 moved) also

pub bytes_once : (bytes : List ℕ) (a m n : At) (d e : List ℕ) → BytesOn a bytes d m → BytesOn a bytes e n → (d ≡ e) × (m ≡ n)
bytes_once [] a m n d e p q = (p.0 ∙ sym q.0, p.1 ∙ sym q.1)
bytes_once (byte ∷ bytes) a m n d e (x, p, r, first, later, is) (y, q, s, other, after, also) =
    let same = byte_once a p q byte x y first other in
    let rest = bytes_once bytes q m n r s (subst (λ (z : At). BytesOn z bytes r m) same.1 later) after in
    (is ∙ ap (λ z. z ++ r) same.0 ∙ ap (λ z. y ++ z) rest.0 ∙ sym also, rest.1)

-- ---- a session that ended

abbrev pub IsEnded : At → Type 0
IsEnded (waits state left) = ⊥
IsEnded standing = Unit {0}

pub ended_bytes : (bytes : List ℕ) (m : At) → IsEnded m → BytesOn m bytes [] m
ended_bytes [] m ended = (refl, refl)
ended_bytes (byte ∷ bytes) (waits state left) ended = absurd ended
ended_bytes (byte ∷ bytes) (is_over end) ended = ([], is_over end, [], ([], is_over end, (refl, refl), (refl, refl)), ended_bytes bytes (is_over end) tt, refl)
ended_bytes (byte ∷ bytes) (has_failed why end) ended =
    ([], has_failed why end, [], ([], has_failed why end, (refl, refl), (refl, refl)), ended_bytes bytes (has_failed why end) tt, refl)
ended_bytes (byte ∷ bytes) (is_at_fault why end) ended =
    ([], is_at_fault why end, [], ([], is_at_fault why end, (refl, refl), (refl, refl)), ended_bytes bytes (is_at_fault why end) tt, refl)

pub clash : (m : At) → ◌≡◌ {A = Talk TerminalState} (stands m) starved → ⊥
clash m is = absurd cc

failed_ended : (why : RunFault) (end : TerminalState) (m : At) → stands m ≡ failed_talk why end → IsEnded m
failed_ended (faults.Wire fault) end m is = subst IsEnded (sym (stands_same is)) tt
failed_ended (faults.Header fault) end m is = subst IsEnded (sym (stands_same is)) tt
failed_ended (faults.Session fault) end m is = subst IsEnded (sym (stands_same is)) tt
failed_ended (faults.Inbound fault) end m is = subst IsEnded (sym (stands_same is)) tt
failed_ended (faults.Bind fault) end m is = subst IsEnded (sym (stands_same is)) tt
failed_ended faults.OutOfMemory end m is = absurd (clash m is)

takes_ended : (a m : At) (bytes : List ℕ) (why : RunFault) (d : List ℕ) → Takes heard_act (stands a) bytes (Err why) d (stands m) → IsEnded m
takes_ended (waits state left) m bytes why d (end, went, is) = failed_ended why end m is
takes_ended (is_over end) m bytes why d takes = subst IsEnded (sym (stands_same takes.2)) tt
takes_ended (has_failed fault end) m bytes why d takes = subst IsEnded (sym (stands_same takes.2)) tt
takes_ended (is_at_fault fault end) m bytes why d takes = subst IsEnded (sym (stands_same takes.2)) tt

-- ---- calls

starved_ends : (t : Bool) (first : Result Progress RunFault) (due d : List ℕ) (r : Result Progress RunFault) (m : At)
    → Ends t first due starved r d (stands m) → ⊥
starved_ends false first due d r m (is, gave, after) = clash m after
starved_ends true first due d r m (more, takes, gave) = clash m takes.2

ends_on : (t : Bool) (n m : At) (first r : Result Progress RunFault) (due d : List ℕ) → Ends t first due (stands n) r d (stands m) → EndOn t n due d m
ends_on false n m first r due d (is, gave, after) = (gave, stands_same after)
ends_on true n m first r due d (more, takes, gave) = (more, takes_log heard_act n m (255 ∷ 239 ∷ []) r more takes, gave)

byte_on : (a m : At) (byte : ℕ) (r : Result Progress RunFault) (d : List ℕ) → TakesByte (stands a) byte r d (stands m) → ByteOn a byte d m
byte_on a m byte r d (first, due, stands n, takes, ends) =
    (due, n, takes_log heard_act a n (byte ∷ []) first due takes, ends_on (begins_between (stands a) (stands n)) n m first r due d ends)
byte_on a m byte r d (first, due, starved, takes, ends) = absurd (starved_ends (begins_between (stands a) starved) first due d r m ends)

ends_ended : (t : Bool) (a m : At) (mid : Talk TerminalState) (byte : ℕ) (first : Result Progress RunFault) (why : RunFault) (due d : List ℕ)
    → Takes heard_act (stands a) (byte ∷ []) first due mid → Ends t first due mid (Err why) d (stands m) → IsEnded m
ends_ended false a m mid byte first why due d takes (is, gave, after) =
    takes_ended a m (byte ∷ []) why due
    (subst (λ (z : Talk TerminalState). Takes heard_act (stands a) (byte ∷ []) (Err why) due z) (sym after)
    (subst (λ (z : Result Progress RunFault). Takes heard_act (stands a) (byte ∷ []) z due mid) (sym is) takes))
ends_ended true a m (stands n) byte first why due d takes (more, later, gave) = takes_ended n m (255 ∷ 239 ∷ []) why more later
ends_ended true a m starved byte first why due d takes (more, later, gave) = absurd (clash m later.2)

byte_ended : (a m : At) (byte : ℕ) (why : RunFault) (d : List ℕ) → TakesByte (stands a) byte (Err why) d (stands m) → IsEnded m
byte_ended a m byte why d (first, due, mid, takes, ends) = ends_ended (begins_between (stands a) mid) a m mid byte first why due d takes ends

-- a session to which memory was refused stays so
starved_byte : (mid : Talk TerminalState) (byte : ℕ) (r : Result Progress RunFault) (d : List ℕ) → TakesByte starved byte r d mid
    → (r ≡ Err faults.OutOfMemory) × (mid ≡ starved)
starved_byte mid byte r d (first, due, between, takes, ends) =
    by_end (begins_between starved between) (subst (λ (z : Talk TerminalState). Ends (begins_between starved between) first due z r d mid) takes.2 ends)
  where
    by_end : (t : Bool) → Ends t first due starved r d mid → (r ≡ Err faults.OutOfMemory) × (mid ≡ starved)
    by_end false (is, gave, after) = (is ∙ takes.0, after)
    by_end true (more, later, gave) = (later.0, later.2)

starved_bytes : (bytes : List ℕ) (r : Result Progress RunFault) (d : List ℕ) (m : At) → Tolerates bytes starved r d (stands m) → ⊥
starved_bytes [] r d m (is, none, same) = clash m same
starved_bytes (byte ∷ bytes) r d m (first, due, mid, took, goes) = by_first first (starved_byte mid byte first due took).0 goes
  where
    by_first : (f : Result Progress RunFault) → f ≡ Err faults.OutOfMemory → GoesOnBy (Tolerates bytes) f due mid r d (stands m) → ⊥
    by_first (Ok told) is later = let never : ◌≡◌ {A = Result Progress RunFault} (Ok told) (Err faults.OutOfMemory) = is in absurd cc
    by_first (Err why) is (ended, gave, after) = clash m (after ∙ (starved_byte mid byte first due took).1)

pub tolerated_on : (bytes : List ℕ) (a m : At) (r : Result Progress RunFault) (d : List ℕ) → Tolerates bytes (stands a) r d (stands m) → BytesOn a bytes d m
tolerated_on [] a m r d (is, none, same) = (none, stands_same same)
tolerated_on (byte ∷ bytes) a m r d (Ok told, due, stands n, took, (more, later, gave)) =
    (due, n, more, byte_on a n byte (Ok told) due took, tolerated_on bytes n m r more later, gave)
tolerated_on (byte ∷ bytes) a m r d (Ok told, due, starved, took, (more, later, gave)) = absurd (starved_bytes bytes r more m later)
tolerated_on (byte ∷ bytes) a m r d (Err why, due, mid, took, (is, gave, after)) =
    let here : TakesByte (stands a) byte (Err why) due (stands m) =
    subst (λ (z : Talk TerminalState). TakesByte (stands a) byte (Err why) due z) (sym after) took in (
      due,
      m,
      [],
      byte_on a m byte (Err why) due here,
      ended_bytes bytes m (byte_ended a m byte why due here),
      gave ∙ sym (append-nil due),
    )

pub pressed_once : (a m n : At) (key : Strike) (r s : Result Answer RunFault) (d e : List ℕ) → Presses (stands a) key r d (stands m)
    → Presses (stands a) key s e (stands n) → (d ≡ e) × (m ≡ n)
pressed_once (waits state left) m n key (Ok x) (Ok y) d e (told, due, is) (also, given, so) = (due ∙ sym given, stands_same (is ∙ sym so))
pressed_once (waits state left) m n key (Err x) s d e (why, none, sends, is) q = absurd (clash m is)
pressed_once (waits state left) m n key (Ok x) (Err y) d e p (why, none, sends, is) = absurd (clash n is)
pressed_once (is_over end) m n key r s d e p q = (p.1 ∙ sym q.1, stands_same (p.2 ∙ sym q.2))
pressed_once (has_failed why end) m n key r s d e p q = (p.1 ∙ sym q.1, stands_same (p.2 ∙ sym q.2))
pressed_once (is_at_fault why end) m n key r s d e p q = (p.1 ∙ sym q.1, stands_same (p.2 ∙ sym q.2))

-- ---- deeds

pub starved_deeds : (device : Device) (deeds : List Deed) (heard given : List ℕ) (screens : List SentOn) (m : At) → NoneBegins deeds
    → Did device deeds heard given screens starved (stands m) → ⊥
starved_deeds device [] heard given screens m one (unheard, ungiven, unsent, is) = clash m is
starved_deeds device (Begun ∷ deeds) heard given screens m one did = absurd one
starved_deeds device (Heard count ∷ deeds) heard given screens m one
    (front, rest, cut, first, more, gave, here, later, split, mid, (long, unsent, (r, takes)), did) =
    starved_deeds device deeds rest more later m one (subst (λ (z : Talk TerminalState). Did device deeds rest more later z (stands m)) takes.2 did)
starved_deeds device (Pressed key ∷ deeds) heard given screens m one
    (front, rest, cut, first, more, gave, here, later, split, mid, (unheard, sent, (r, presses)), did) =
    starved_deeds device deeds rest more later m one (subst (λ (z : Talk TerminalState). Did device deeds rest more later z (stands m)) presses.2 did)

pub both : {A : Type 0} {x y z w : List A} → x ≡ z → y ≡ w → x ++ y ≡ z ++ w
both {y = y} {z = z} p q = ap (λ k. k ++ y) p ∙ ap (λ k. z ++ k) q
