-- A terminal's session is given a front of what came, and what is due is what it gave.
use Rattle.std.proofs.Common.{◌≡◌, ℕ, Bool, true, false, cond, List, [], ◌∷◌, ◌++◌, length, take, drop, None, Some, Option, refl, sym, ap, ◌∙◌, subst, append_assoc}
use Rattle.std.specs.Prelude.{◌==◌, if◌then◌else◌, ◌&&◌, option_map}
use Rattle.std.proofs.lemmas.List.{append-nil, take-append-drop}
use Rattle.std.proofs.lemmas.Bool.{and_parts}
use Rattle.session_hub.specs.declared.seat.End.TheVariants as end
use Rattle.session_hub.specs.declared.session.Came.{Came}
use Rattle.session_hub.specs.declared.seat.Limits.{Limits}
use Rattle.session_hub.specs.declared.seat.Stand.{Stand}
use Rattle.session_hub.specs.declared.seat.Stand.TheVariants.{Goes, Drains, Ended}
use Rattle.session_hub.specs.Seats.{Seated, IsHeard, HearsIn, sent, closed, broken, ticked, stand_sent, stand_over, stand_closed, stand_broken, stand_late, is_late}
use Rattle.session_hub.specs.Hubs.{Taking, Own, Opens, Hears, Sends, Closes, Breaks, Ticks, Leaves, Happens, HearsAt, LedAlone}
use Rattle.session_hub.specs.Alone.{TakesInTurn, stays, all_stay, with_piece, pieces_in, IsItsOwn, SessionsAreTheirOwn}

some_same : {A : Type 0} {a b : A} → ◌≡◌ {A = Option A} (Some a) (Some b) → a ≡ b
some_same e = cc

none_some : {A : Type 0} (a : A) → ◌≡◌ {A = Option A} (Some a) None → ⊥
none_some a e = absurd cc

module _ {S : Type 0} (takes : Taking S) where
  -- an event by which nothing is heard: the session stays, and what is due loses a front at most
  record IsQuiet (old new : Seated S) : Type 0 where
    session : new.session ≡ old.session
    number : new.number ≡ old.number
    gone : List ℕ
    due : old.due ≡ gone ++ new.due

  quiet_then : (came : List (List ℕ)) (old mid new : Seated S) → IsQuiet old mid → IsItsOwn takes came mid new → IsItsOwn takes came old new
  quiet_then came old mid new q own = record {
    pieces = own.pieces;
    rest = own.rest;
    given = own.given;
    gone = q.gone ++ own.gone;
    front = own.front;
    taken = subst (λ s. TakesInTurn takes s own.pieces own.given new.session) q.session own.taken;
    due = ap (λ d. d ++ own.given) q.due ∙ (append_assoc q.gone mid.due own.given ∙ (ap (λ d. q.gone ++ d) own.due ∙ sym (append_assoc q.gone own.gone new.due)));
    number = own.number ∙ q.number;
  }

  heard_then : (limits : Limits) (now : ℕ) (bytes : List ℕ) (came : List (List ℕ)) (old mid new : Seated S) → IsHeard takes limits now bytes old mid → IsItsOwn takes came mid new
      → IsItsOwn takes (bytes ∷ came) old new
  heard_then limits now bytes came old mid new heard own = record {
    pieces = bytes ∷ own.pieces;
    rest = own.rest;
    given = heard.given ++ own.given;
    gone = own.gone;
    front = ap (λ l. bytes ∷ l) own.front;
    taken = (heard.came, heard.given, mid.session, own.given, subst (λ s. takes old.session bytes heard.came heard.given s) (sym (ap (λ (s : Seated S). s.session) heard.is)) heard.taken, own.taken, refl);
    due = sym (append_assoc old.due heard.given own.given) ∙ (ap (λ d. d ++ own.given) (sym (ap (λ (s : Seated S). s.due) heard.is)) ∙ own.due);
    number = own.number ∙ ap (λ (s : Seated S). s.number) heard.is;
  }

  nothing_heard : (came : List (List ℕ)) (old new : Seated S) → IsQuiet old new → IsItsOwn takes came old new
  nothing_heard came old new q = record {
    pieces = [];
    rest = came;
    given = [];
    gone = q.gone;
    front = refl;
    taken = (refl, q.session);
    due = append-nil old.due ∙ q.due;
    number = q.number;
  }

  quiet_same : (old new : Seated S) → new ≡ old → IsQuiet old new
  quiet_same old new same = record {
    session = ap (λ (s : Seated S). s.session) same;
    number = ap (λ (s : Seated S). s.number) same;
    gone = [];
    due = sym (ap (λ (s : Seated S). s.due) same);
  }

  quiet_sent : (count : ℕ) (old : Seated S) → IsQuiet old (sent count old)
  quiet_sent count old = record { session = refl; number = refl; gone = take count old.due; due = sym (take-append-drop count old.due) }

  quiet_closed : (old : Seated S) → IsQuiet old (closed old)
  quiet_closed old = record { session = refl; number = refl; gone = []; due = refl }

  quiet_broken : (old : Seated S) → IsQuiet old (broken old)
  quiet_broken old = record { session = refl; number = refl; gone = []; due = refl }

  quiet_ticked : (limits : Limits) (now : ℕ) (old : Seated S) → IsQuiet old (ticked limits now old)
  quiet_ticked limits now old = record { session = refl; number = refl; gone = []; due = refl }

  quiet_quiet : (old mid new : Seated S) → IsQuiet old mid → IsQuiet mid new → IsQuiet old new
  quiet_quiet old mid new p q = record {
    session = q.session ∙ p.session;
    number = q.number ∙ p.number;
    gone = p.gone ++ q.gone;
    due = p.due ∙ (ap (λ d. p.gone ++ d) q.due ∙ sym (append_assoc p.gone q.gone new.due));
  }

  -- ---- a terminal that no longer goes on

  abbrev IsStill : Stand → Type 0
  IsStill Goes = ⊥
  IsStill Drains = Unit {0}
  IsStill (Ended end) = Unit {0}

  still_over : (due : ℕ) (b : Bool) → IsStill (if b then Ended end.Over else Drains)
  still_over due true = tt
  still_over due false = tt

  still_sent : (stand : Stand) (due : ℕ) → IsStill stand → IsStill (stand_sent stand due)
  still_sent Goes due still = absurd still
  still_sent Drains due still = still_over due (due == 0)
  still_sent (Ended end) due still = tt

  still_closed : (stand : Stand) → IsStill stand → IsStill (stand_closed stand)
  still_closed Goes still = absurd still
  still_closed Drains still = tt
  still_closed (Ended end) still = tt

  still_broken : (stand : Stand) → IsStill (stand_broken stand)
  still_broken Goes = tt
  still_broken Drains = tt
  still_broken (Ended end) = tt

  still_late : (stand : Stand) → IsStill (stand_late stand)
  still_late Goes = tt
  still_late Drains = tt
  still_late (Ended end) = tt

  still_ticked : (stand : Stand) (b : Bool) → IsStill stand → IsStill (if b then stand_late stand else stand)
  still_ticked stand true still = still_late stand
  still_ticked stand false still = still

  hears_not : (limits : Limits) (now : ℕ) (bytes : List ℕ) (stand : Stand) (old new : Seated S) → IsStill stand → HearsIn takes limits now bytes stand old new → new ≡ old
  hears_not limits now bytes Goes old new still heard = absurd still
  hears_not limits now bytes Drains old new still heard = heard
  hears_not limits now bytes (Ended end) old new still heard = heard

  -- what an event makes of a terminal that stays
  record Next (old : Seated S) (mid : Option (Seated S)) : Type 0 where
    next : Seated S
    is : mid ≡ Some next
    quiet : IsQuiet old next
    still : IsStill old.stand → IsStill next.stand

  next_of : (old next : Seated S) (mid : Option (Seated S)) → mid ≡ Some next → IsQuiet old next → (IsStill old.stand → IsStill next.stand) → Next old mid
  next_of old next mid is quiet still = record { next = next; is = is; quiet = quiet; still = still }

  quiet_event : (limits : Limits) (own : Own S) (old : Seated S) (mid : Option (Seated S)) → stays own ≡ true → IsStill old.stand → Happens takes limits own (Some old) mid → Next old mid
  quiet_event limits (Opens number now session opening) old mid s still happens = absurd cc
  quiet_event limits (Hears now bytes) old mid s still (next, heard, is) =
      let same = hears_not limits now bytes old.stand old next still heard in
      next_of old old mid (is ∙ ap Some same) (quiet_same old old refl) (λ e. e)
  quiet_event limits (Sends count) old mid s still is = next_of old (sent count old) mid is (quiet_sent count old) (λ e. still_sent old.stand (length (drop count old.due)) e)
  quiet_event limits Closes old mid s still is = next_of old (closed old) mid is (quiet_closed old) (λ e. still_closed old.stand e)
  quiet_event limits Breaks old mid s still is = next_of old (broken old) mid is (quiet_broken old) (λ e. still_broken old.stand)
  quiet_event limits (Ticks now) old mid s still is = next_of old (ticked limits now old) mid is (quiet_ticked limits now old) (λ e. still_ticked old.stand (is_late limits old.since now) e)
  quiet_event limits Leaves old mid s still happens = absurd cc

  stays_still : (limits : Limits) (owns : List (Own S)) (old new : Seated S) → all_stay owns ≡ true → IsStill old.stand → LedAlone takes limits owns (Some old) (Some new) → IsQuiet old new
  stays_still limits [] old new s still same = quiet_same old new (some_same same)
  stays_still limits (own ∷ owns) old new s still (mid, happens, led) =
      let parts = and_parts (stays own) (all_stay owns) s in
      let n = quiet_event limits own old mid parts.0 still happens in
      quiet_quiet old n.next new n.quiet (stays_still limits owns n.next new parts.1 (n.still still) (subst (λ m. LedAlone takes limits owns m (Some new)) n.is led))

  -- ---- a terminal that goes on

  abbrev Rest : Limits → List (Own S) → Seated S → Type 0
  Rest limits owns new = (next : Seated S) → LedAlone takes limits owns (Some next) (Some new) → IsItsOwn takes (pieces_in owns) next new

  then_quiet : (limits : Limits) (owns : List (Own S)) (old next new : Seated S) (mid : Option (Seated S)) → mid ≡ Some next → IsQuiet old next → LedAlone takes limits owns mid (Some new) → Rest limits owns new
      → IsItsOwn takes (pieces_in owns) old new
  then_quiet limits owns old next new mid is quiet led rest = quiet_then (pieces_in owns) old next new quiet (rest next (subst (λ m. LedAlone takes limits owns m (Some new)) is led))

  going_event : (limits : Limits) (own : Own S) (owns : List (Own S)) (old new : Seated S) (mid : Option (Seated S)) → stays own ≡ true → old.stand ≡ Goes → Happens takes limits own (Some old) mid
      → LedAlone takes limits owns mid (Some new) → Rest limits owns new → IsItsOwn takes (with_piece own (pieces_in owns)) old new
  going_event limits (Opens number now session opening) owns old new mid s goes happens led rest = absurd cc
  going_event limits (Hears now bytes) owns old new mid s goes (next, heard, is) led rest =
      heard_then limits now bytes (pieces_in owns) old next new (subst (λ stand. HearsIn takes limits now bytes stand old next) goes heard) (rest next (subst (λ m. LedAlone takes limits owns m (Some new)) is led))
  going_event limits (Sends count) owns old new mid s goes is led rest = then_quiet limits owns old (sent count old) new mid is (quiet_sent count old) led rest
  going_event limits Closes owns old new mid s goes is led rest = then_quiet limits owns old (closed old) new mid is (quiet_closed old) led rest
  going_event limits Breaks owns old new mid s goes is led rest = then_quiet limits owns old (broken old) new mid is (quiet_broken old) led rest
  going_event limits (Ticks now) owns old new mid s goes is led rest = then_quiet limits owns old (ticked limits now old) new mid is (quiet_ticked limits now old) led rest
  going_event limits Leaves owns old new mid s goes happens led rest = absurd cc

  event_at : (limits : Limits) (own : Own S) (owns : List (Own S)) (old new : Seated S) (mid : Option (Seated S)) (stand : Stand) → old.stand ≡ stand → all_stay (own ∷ owns) ≡ true
      → Happens takes limits own (Some old) mid → LedAlone takes limits owns mid (Some new) → Rest limits owns new → IsItsOwn takes (pieces_in (own ∷ owns)) old new
  event_at limits own owns old new mid Goes is s happens led rest = going_event limits own owns old new mid (and_parts (stays own) (all_stay owns) s).0 is happens led rest
  event_at limits own owns old new mid Drains is s happens led rest =
      nothing_heard (pieces_in (own ∷ owns)) old new (stays_still limits (own ∷ owns) old new s (subst IsStill (sym is) tt) (mid, happens, led))
  event_at limits own owns old new mid (Ended end) is s happens led rest =
      nothing_heard (pieces_in (own ∷ owns)) old new (stays_still limits (own ∷ owns) old new s (subst IsStill (sym is) tt) (mid, happens, led))

  own_session : (limits : Limits) (owns : List (Own S)) (old new : Seated S) → all_stay owns ≡ true → LedAlone takes limits owns (Some old) (Some new) → IsItsOwn takes (pieces_in owns) old new
  own_session limits [] old new s same = nothing_heard [] old new (quiet_same old new (some_same same))
  own_session limits (own ∷ owns) old new s (mid, happens, led) =
      event_at limits own owns old new mid old.stand refl s happens led (λ next on. own_session limits owns next new (and_parts (stays own) (all_stay owns) s).1 on)

pub their_own : {S : Type 0} (takes : Taking S) → SessionsAreTheirOwn takes
their_own takes limits owns old new s led = own_session takes limits owns old new s led
