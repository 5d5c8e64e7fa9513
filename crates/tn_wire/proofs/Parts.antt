-- Parts of a stream taken in turn, and the whole.
use Rattle.std.proofs.Common.{◌≡◌, ℕ, ◌<◌, ◌≤◌, List, [], ◌∷◌, ◌++◌, length, refl, sym, ◌∙◌, ap, subst, ⊎_elim, arith, append_assoc, length-append}
use Rattle.std.proofs.lemmas.List.Concat.{flat_map-append}
use Rattle.tn_wire.specs.declared.event.WireFault.{WireFault}
use Rattle.tn_wire.specs.Telnet.{Token, quoted, spelling, pending_after, AreTokens, IsPartial}
use Rattle.tn_wire.specs.Stream.{Told, events_after, events_of, Tells, IsFault, Faults}
use Rattle.tn_wire.proofs.Reading as reading
use Rattle.tn_wire.proofs.Reading.{spelled_all, data_tokens, spelled-data, pending-data, events-data, data_come, pending-append, events-append, tokens-append, pending_bound, append_split, NoToken, no_token-partial, no_token-fault, Stripped, strip, none_more}

pub tells_once : (x : List ℕ) (es fs : List Told) (o p : List ℕ) → Tells x es o → Tells x fs p → (es ≡ fs) × (o ≡ p)
tells_once x es fs o p a b =
    let same : (a.tokens ≡ b.tokens) × (a.rest ≡ b.rest) = reading.one_reading x a.tokens b.tokens a.rest b.rest a.spelled b.spelled in (
      a.told ∙ ap events_of same.0 ∙ sym b.told,
      a.leaves ∙ ap (λ z. quoted (pending_after [] z) ++ a.rest) same.0
          ∙ ap (λ z. quoted (pending_after [] b.tokens) ++ z) same.1 ∙ sym b.leaves,
    )

-- the data that tokens leave open
abbrev pub open_of : List Token → List ℕ
open_of ts = pending_after [] ts

-- the tokens of what a front left open and of what comes behind it
abbrev pub behind : List Token → List Token → List Token
behind ts more = data_tokens (open_of ts) ++ more

module _ (ts more : List Token) where
  pub pending-behind : pending_after [] (behind ts more) ≡ pending_after [] (ts ++ more)
  pending-behind =
      pending-append (data_tokens (open_of ts)) more [] ∙ ap (λ z. pending_after z more) (pending-data (open_of ts) [])
      ∙ sym (pending-append ts more [])

  pub events-behind : events_of (ts ++ more) ≡ events_of ts ++ events_of (behind ts more)
  events-behind =
      let later : events_of (behind ts more) ≡ events_after (open_of ts) more =
      events-append (data_tokens (open_of ts)) more []
      ∙ ap (λ z. z ++ events_after (pending_after [] (data_tokens (open_of ts))) more) (events-data (open_of ts) [])
      ∙ ap (λ z. events_after z more) (pending-data (open_of ts) []) in
      events-append ts more [] ∙ ap (λ z. events_of ts ++ z) (sym later)

  pub data_first : AreTokens [] ts → AreTokens [] (data_tokens (open_of ts))
  data_first a =
      let bound : length (open_of ts) ≤ 32768 = pending_bound ts [] a (omega arith) in
      data_come (open_of ts) [] (omega arith)

  pub tokens-behind : AreTokens [] ts → AreTokens (open_of ts) more → AreTokens [] (behind ts more)
  tokens-behind a b =
      tokens-append (data_tokens (open_of ts)) more [] (data_first a)
      (subst (λ z. AreTokens z more) (sym (pending-data (open_of ts) [])) b)

  pub whole-spelled : (x y r s : List ℕ) → x ≡ spelled_all ts ++ r → r ++ y ≡ spelled_all more ++ s
      → x ++ y ≡ spelled_all (ts ++ more) ++ s
  whole-spelled x y r s e f =
      ap (λ z. z ++ y) e ∙ append_assoc (spelled_all ts) r y ∙ ap (λ z. spelled_all ts ++ z) f
      ∙ sym (append_assoc (spelled_all ts) (spelled_all more) s)
      ∙ ap (λ z. z ++ s) (sym (flat_map-append spelling ts more))

  pub behind-spelled : (y r s : List ℕ) → r ++ y ≡ spelled_all more ++ s
      → (quoted (open_of ts) ++ r) ++ y ≡ spelled_all (behind ts more) ++ s
  behind-spelled y r s f =
      append_assoc (quoted (open_of ts)) r y ∙ ap (λ z. quoted (open_of ts) ++ z) f
      ∙ sym (append_assoc (quoted (open_of ts)) (spelled_all more) s)
      ∙ ap (λ z. (z ++ spelled_all more) ++ s) (sym (spelled-data (open_of ts)))
      ∙ ap (λ z. z ++ s) (sym (flat_map-append spelling (data_tokens (open_of ts)) more))

-- a reading of what a front left open and more goes on behind the front's tokens
pub record Behind (ts us : List Token) (r y s : List ℕ) : Type 0 where
  pub more : List Token
  pub tokens : us ≡ behind ts more
  pub rest : r ++ y ≡ spelled_all more ++ s
  pub each : AreTokens (open_of ts) more

pub read_behind : (x o : List ℕ) (told : List Told) (us : List Token) (y s : List ℕ) (a : Tells x told o) → AreTokens [] us
    → NoToken (pending_after [] us) s → o ++ y ≡ spelled_all us ++ s → Behind a.tokens us a.rest y s
read_behind x o told us y s a b apart e =
    let d : List ℕ = open_of a.tokens in
    let whole : spelled_all (data_tokens d) ++ (a.rest ++ y) ≡ spelled_all us ++ s =
    ap (λ z. z ++ (a.rest ++ y)) (spelled-data d) ∙ sym (append_assoc (quoted d) a.rest y)
    ∙ ap (λ z. z ++ y) (sym a.leaves) ∙ e in
    let left : Stripped [] (data_tokens d) us (a.rest ++ y) s =
    strip (data_tokens d) us [] (a.rest ++ y) s (data_first a.tokens [] a.spelled.each) b apart whole in
    record {
      more = left.more;
      tokens = left.tokens;
      rest = left.rest;
      each = subst (λ z. AreTokens z left.more) (pending-data d []) left.each;
    }

-- and so does a reading of the whole
pub read_whole : (x o : List ℕ) (told : List Told) (us : List Token) (y s : List ℕ) (a : Tells x told o) → AreTokens [] us
    → NoToken (pending_after [] us) s → x ++ y ≡ spelled_all us ++ s → Stripped [] a.tokens us (a.rest ++ y) s
read_whole x o told us y s a b apart e =
    strip a.tokens us [] (a.rest ++ y) s a.spelled.each b apart
    (sym (append_assoc (spelled_all a.tokens) a.rest y) ∙ ap (λ z. z ++ y) (sym a.spelled.whole) ∙ e)

-- two parts tell what they tell in turn
pub tells_both : (x y o p : List ℕ) (es fs : List Told) → Tells x es o → Tells (o ++ y) fs p → Tells (x ++ y) (es ++ fs) p
tells_both x y o p es fs a b =
    let left : Behind a.tokens b.tokens a.rest y b.rest =
    read_behind x o es b.tokens y b.rest a b.spelled.each
    (no_token-partial (pending_after [] b.tokens) b.rest b.spelled.partial) b.spelled.whole in
    let same : pending_after [] b.tokens ≡ pending_after [] (a.tokens ++ left.more) =
    ap (pending_after []) left.tokens ∙ pending-behind a.tokens left.more in
    record {
      tokens = a.tokens ++ left.more;
      rest = b.rest;
      spelled = record {
        whole = whole-spelled a.tokens left.more x y a.rest b.rest a.spelled.whole left.rest;
        each = tokens-append a.tokens left.more [] a.spelled.each left.each;
        partial = subst (λ z. IsPartial z b.rest) same b.spelled.partial;
      };
      told =
          ap (λ z. z ++ fs) a.told ∙ ap (λ z. events_of a.tokens ++ z) (b.told ∙ ap events_of left.tokens)
          ∙ sym (events-behind a.tokens left.more);
      leaves = b.leaves ∙ ap (λ z. quoted z ++ b.rest) same;
    }

-- what is told behind a front, of what the whole tells
pub tells_rest : (x y o p : List ℕ) (es gs : List Told) → Tells x es o → Tells (x ++ y) gs p
    → (fs : List Told) × (gs ≡ es ++ fs) × Tells (o ++ y) fs p
tells_rest x y o p es gs a b =
    let left : Stripped [] a.tokens b.tokens (a.rest ++ y) b.rest =
    read_whole x o es b.tokens y b.rest a b.spelled.each
    (no_token-partial (pending_after [] b.tokens) b.rest b.spelled.partial) b.spelled.whole in
    let same : pending_after [] b.tokens ≡ pending_after [] (behind a.tokens left.more) =
    ap (pending_after []) left.tokens ∙ sym (pending-behind a.tokens left.more) in (
      events_of (behind a.tokens left.more),
      b.told ∙ ap events_of left.tokens ∙ events-behind a.tokens left.more
          ∙ ap (λ z. z ++ events_of (behind a.tokens left.more)) (sym a.told),
      record {
        tokens = behind a.tokens left.more;
        rest = b.rest;
        spelled = record {
          whole = ap (λ z. z ++ y) a.leaves ∙ behind-spelled a.tokens left.more y a.rest b.rest left.rest;
          each = tokens-behind a.tokens left.more a.spelled.each left.each;
          partial = subst (λ z. IsPartial z b.rest) same b.spelled.partial;
        };
        told = refl;
        leaves = b.leaves ∙ ap (λ z. quoted z ++ b.rest) same;
      },
    )

-- the same of faults
pub faults_both : (x y o : List ℕ) (es fs : List Told) (w : WireFault) → Tells x es o → Faults (o ++ y) fs w → Faults (x ++ y) (es ++ fs) w
faults_both x y o es fs w a b =
    let left : Behind a.tokens b.tokens a.rest y b.bad =
    read_behind x o es b.tokens y b.bad a b.each (no_token-fault (pending_after [] b.tokens) b.bad w b.last) b.whole in
    let same : pending_after [] b.tokens ≡ pending_after [] (a.tokens ++ left.more) =
    ap (pending_after []) left.tokens ∙ pending-behind a.tokens left.more in
    record {
      tokens = a.tokens ++ left.more;
      bad = b.bad;
      whole = whole-spelled a.tokens left.more x y a.rest b.bad a.spelled.whole left.rest;
      each = tokens-append a.tokens left.more [] a.spelled.each left.each;
      told =
          ap (λ z. z ++ fs) a.told ∙ ap (λ z. events_of a.tokens ++ z) (b.told ∙ ap events_of left.tokens)
          ∙ sym (events-behind a.tokens left.more);
      last = subst (λ z. IsFault w z b.bad) same b.last;
    }

pub faults_rest : (x y o : List ℕ) (es gs : List Told) (w : WireFault) → Tells x es o → Faults (x ++ y) gs w
    → (fs : List Told) × (gs ≡ es ++ fs) × Faults (o ++ y) fs w
faults_rest x y o es gs w a b =
    let left : Stripped [] a.tokens b.tokens (a.rest ++ y) b.bad =
    read_whole x o es b.tokens y b.bad a b.each (no_token-fault (pending_after [] b.tokens) b.bad w b.last) b.whole in
    let same : pending_after [] b.tokens ≡ pending_after [] (behind a.tokens left.more) =
    ap (pending_after []) left.tokens ∙ sym (pending-behind a.tokens left.more) in (
      events_of (behind a.tokens left.more),
      b.told ∙ ap events_of left.tokens ∙ events-behind a.tokens left.more
          ∙ ap (λ z. z ++ events_of (behind a.tokens left.more)) (sym a.told),
      record {
        tokens = behind a.tokens left.more;
        bad = b.bad;
        whole = ap (λ z. z ++ y) a.leaves ∙ behind-spelled a.tokens left.more y a.rest b.bad left.rest;
        each = tokens-behind a.tokens left.more a.spelled.each left.each;
        told = refl;
        last = subst (λ z. IsFault w z b.bad) same b.last;
      },
    )

-- a front of a stream is a stream

pub record Cut (d x : List ℕ) : Type 0 where
  pub tokens : List Token
  pub rest : List ℕ
  pub whole : x ≡ spelled_all tokens ++ rest
  pub each : AreTokens d tokens
  pub partial : IsPartial (pending_after d tokens) rest

pub cut : (ts : List Token) (d x y r : List ℕ) → spelled_all ts ++ r ≡ x ++ y → AreTokens d ts → IsPartial (pending_after d ts) r
    → Cut d x
cut [] d x y r e a p = record {
  tokens = [];
  rest = x;
  whole = refl;
  each = tt;
  partial = record {
    token = p.token;
    more = y ++ p.more;
    comes = p.comes;
    longer = let long : 0 < length p.more = p.longer in omega (arith, length-append y p.more);
    spelled = p.spelled ∙ ap (λ z. z ++ p.more) e ∙ append_assoc x y p.more;
  };
}
cut (t ∷ ts) d x y r e a p =
    ⊎_elim
    (λ (q : (k : List ℕ) × (x ≡ spelling t ++ k) × (spelled_all ts ++ r ≡ k ++ y)).
    let later : Cut (pending_after d (t ∷ [])) q.0 =
    cut ts (pending_after d (t ∷ [])) q.0 y r q.2 a.1 (subst (λ z. IsPartial z r) (reading.pending-cons d t ts) p) in
    record {
      tokens = t ∷ later.tokens;
      rest = later.rest;
      whole = q.1 ∙ ap (λ z. spelling t ++ z) later.whole ∙ sym (append_assoc (spelling t) (spelled_all later.tokens) later.rest);
      each = (a.0, later.each);
      partial = subst (λ z. IsPartial z later.rest) (sym (reading.pending-cons d t later.tokens)) later.partial;
    })
    (λ (q : (k : List ℕ) × (0 < length k) × (spelling t ≡ x ++ k) × (y ≡ k ++ (spelled_all ts ++ r))). record {
      tokens = [];
      rest = x;
      whole = refl;
      each = tt;
      partial = record { token = t; more = q.0; comes = a.0; longer = q.1; spelled = q.2 };
    })
    (append_split (spelling t) (spelled_all ts ++ r) x y (sym (append_assoc (spelling t) (spelled_all ts) r) ∙ e))

pub tells_front : (x y p : List ℕ) (gs : List Told) → Tells (x ++ y) gs p → (es : List Told) × (o : List ℕ) × Tells x es o
tells_front x y p gs b =
    let front_of : Cut [] x = cut b.tokens [] x y b.rest (sym b.spelled.whole) b.spelled.each b.spelled.partial in (
      events_of front_of.tokens,
      quoted (pending_after [] front_of.tokens) ++ front_of.rest,
      record {
        tokens = front_of.tokens;
        rest = front_of.rest;
        spelled = record { whole = front_of.whole; each = front_of.each; partial = front_of.partial };
        told = refl;
        leaves = refl;
      },
    )
