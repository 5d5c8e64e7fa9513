-- The laws of readings: one reading, parts taken in turn, and faults.
use Rattle.std.proofs.Common.{◌≡◌, ℕ, ◌+◌, ◌<◌, ◌≤◌, List, [], ◌∷◌, ◌++◌, length, map, refl, sym, ◌∙◌, ap, subst, inl, inr, ⊎_elim, ◌⊎◌, arith, append_assoc, length-append}
use Rattle.std.specs.List.{flat_map}
use Rattle.std.proofs.lemmas.List.{append-nil}
use Rattle.tn_wire.specs.declared.event.WireFault.{WireFault}
use Rattle.tn_wire.specs.Telnet.{Token, data_byte, record_end, command, subnegotiation, passed, quoted, quoted_byte, spelling, pending_after, AreTokens, IsPartial, SpellsTokens}
use Rattle.tn_wire.specs.Stream.{Told, events_after, IsFault}
use Rattle.tn_wire.proofs.Front.{found, short, wrong, front, front_spelling, front_fault, partial_short}

-- the tokens, spelled
abbrev pub spelled_all : List Token → List ℕ
spelled_all ts = flat_map spelling ts

-- one list up to a place in the other
pub append_split : (a b c d : List ℕ) → a ++ b ≡ c ++ d
    → ((e : List ℕ) × (c ≡ a ++ e) × (b ≡ e ++ d)) ⊎ ((e : List ℕ) × (0 < length e) × (a ≡ c ++ e) × (d ≡ e ++ b))
append_split [] b c d e = inl (c, refl, e)
append_split (x ∷ a) b [] d e = inr (x ∷ a, omega arith, refl, sym e)
append_split (x ∷ a) b (y ∷ c) d e =
    let head : x ≡ y = cc in
    let tails : a ++ b ≡ c ++ d = cc in
    ⊎_elim
    (λ (p : (e : List ℕ) × (c ≡ a ++ e) × (b ≡ e ++ d)). inl (p.0, (let same : c ≡ a ++ p.0 = p.1 in cc), p.2))
    (λ (p : (e : List ℕ) × (0 < length e) × (a ≡ c ++ e) × (d ≡ e ++ b)).
    inr (p.0, p.1, (let same : a ≡ c ++ p.0 = p.2 in cc), p.3))
    (append_split a b c d tails)

-- tokens one after the other

pub pending-cons : (d : List ℕ) (t : Token) (ts : List Token) → pending_after d (t ∷ ts) ≡ pending_after (pending_after d (t ∷ [])) ts
pending-cons d (data_byte b) ts = refl
pending-cons d record_end ts = refl
pending-cons d (command v o) ts = refl
pending-cons d (subnegotiation o ps) ts = refl
pending-cons d (passed b) ts = refl

pub pending-append : (ts us : List Token) (d : List ℕ) → pending_after d (ts ++ us) ≡ pending_after (pending_after d ts) us
pending-append [] us d = refl
pending-append (t ∷ ts) us d =
    pending-cons d t (ts ++ us) ∙ pending-append ts us (pending_after d (t ∷ []))
    ∙ ap (λ z. pending_after z us) (sym (pending-cons d t ts))

events-cons : (d : List ℕ) (t : Token) (ts : List Token)
    → events_after d (t ∷ ts) ≡ events_after d (t ∷ []) ++ events_after (pending_after d (t ∷ [])) ts
events-cons d (data_byte b) ts = refl
events-cons d record_end ts = refl
events-cons d (command v o) ts = refl
events-cons d (subnegotiation o ps) ts = refl
events-cons d (passed b) ts = refl

pub events-append : (ts us : List Token) (d : List ℕ)
    → events_after d (ts ++ us) ≡ events_after d ts ++ events_after (pending_after d ts) us
events-append [] us d = refl
events-append (t ∷ ts) us d =
    let now : List Told = events_after d (t ∷ []) in
    let then_d : List ℕ = pending_after d (t ∷ []) in
    events-cons d t (ts ++ us)
    ∙ ap (λ z. now ++ z) (events-append ts us then_d)
    ∙ sym (append_assoc now (events_after then_d ts) (events_after (pending_after then_d ts) us))
    ∙ ap (λ z. z ++ events_after (pending_after then_d ts) us) (sym (events-cons d t ts))
    ∙ ap (λ z. events_after d (t ∷ ts) ++ events_after z us) (sym (pending-cons d t ts))

pub tokens-append : (ts us : List Token) (d : List ℕ) → AreTokens d ts → AreTokens (pending_after d ts) us → AreTokens d (ts ++ us)
tokens-append [] us d a b = b
tokens-append (t ∷ ts) us d a b =
    (a.0, tokens-append ts us (pending_after d (t ∷ [])) a.1 (subst (λ z. AreTokens z us) (pending-cons d t ts) b))

-- a record never has more open than its limit
pub pending_bound : (ts : List Token) (d : List ℕ) → AreTokens d ts → length d ≤ 32768 → length (pending_after d ts) ≤ 32768
pending_bound [] d a h = h
pending_bound (data_byte b ∷ ts) d a h = pending_bound ts (d ++ b ∷ []) a.1 (let room : length d < 32768 = a.0 in omega (arith, length-append d (b ∷ [])))
pending_bound (record_end ∷ ts) d a h = pending_bound ts [] a.1 (omega arith)
pending_bound (command v o ∷ ts) d a h = pending_bound ts d a.1 h
pending_bound (subnegotiation o ps ∷ ts) d a h = pending_bound ts d a.1 h
pending_bound (passed b ∷ ts) d a h = pending_bound ts d a.1 h

-- the data of an open record, as tokens
abbrev pub data_tokens : List ℕ → List Token
data_tokens d = map data_byte d

pub spelled-data : (d : List ℕ) → spelled_all (data_tokens d) ≡ quoted d
spelled-data [] = refl
spelled-data (b ∷ d) = ap (λ z. quoted_byte b ++ z) (spelled-data d)

pub pending-data : (d c : List ℕ) → pending_after c (data_tokens d) ≡ c ++ d
pending-data [] c = sym (append-nil c)
pending-data (b ∷ d) c = pending-data d (c ++ b ∷ []) ∙ append_assoc c (b ∷ []) d

pub events-data : (d c : List ℕ) → events_after c (data_tokens d) ≡ []
events-data [] c = refl
events-data (b ∷ d) c = events-data d (c ++ b ∷ [])

pub data_come : (d c : List ℕ) → length c + length d ≤ 32768 → AreTokens c (data_tokens d)
data_come [] c h = tt
data_come (b ∷ d) c h = (omega arith, data_come d (c ++ b ∷ []) (omega (arith, length-append c (b ∷ []))))

-- a rest at whose front no token stands
abbrev pub NoToken : List ℕ → List ℕ → Type 0
NoToken d s = (t : Token) (x : List ℕ) → front d s ≡ found t x → ⊥

pub no_token-partial : (d s : List ℕ) → IsPartial d s → NoToken d s
no_token-partial d s p t x e = let less : front d s ≡ short = partial_short d s p in cc

pub no_token-fault : (d s : List ℕ) (w : WireFault) → IsFault w d s → NoToken d s
no_token-fault d s w p t x e =
    let ill : front d s ≡ wrong w [] = ap (front d) (sym (append-nil s)) ∙ front_fault d w s [] p in cc

-- a reading goes on behind the tokens that the stream begins with
pub record Stripped (d : List ℕ) (ts us : List Token) (z s : List ℕ) : Type 0 where
  pub more : List Token
  pub tokens : us ≡ ts ++ more
  pub rest : z ≡ spelled_all more ++ s
  pub each : AreTokens (pending_after d ts) more

pub strip : (ts us : List Token) (d z s : List ℕ) → AreTokens d ts → AreTokens d us → NoToken (pending_after d us) s
    → spelled_all ts ++ z ≡ spelled_all us ++ s → Stripped d ts us z s
strip [] us d z s a b apart e = record { more = us; tokens = refl; rest = e; each = b }
strip (t ∷ ts) [] d z s a b apart e =
    absurd (apart t (spelled_all ts ++ z)
    (ap (front d) (sym e ∙ append_assoc (spelling t) (spelled_all ts) z) ∙ front_spelling d t (spelled_all ts ++ z) a.0))
strip (t ∷ ts) (u ∷ us) d z s a b apart e =
    let x : List ℕ = spelled_all ts ++ z in
    let y : List ℕ = spelled_all us ++ s in
    let both : spelling t ++ x ≡ spelling u ++ y =
    sym (append_assoc (spelling t) (spelled_all ts) z) ∙ e ∙ append_assoc (spelling u) (spelled_all us) s in
    let fronts : found t x ≡ found u y =
    sym (front_spelling d t x a.0) ∙ ap (front d) both ∙ front_spelling d u y b.0 in
    let head : t ≡ u = token_of fronts in
    let tail : x ≡ y = behind fronts in
    let before : pending_after d (u ∷ []) ≡ pending_after d (t ∷ []) = ap (λ v. pending_after d (v ∷ [])) (sym head) in
    let apart' : NoToken (pending_after (pending_after d (t ∷ [])) us) s =
    subst (λ z. NoToken z s) (pending-cons d u us ∙ ap (λ z. pending_after z us) before) apart in
    let each' : AreTokens (pending_after d (t ∷ [])) us = subst (λ z. AreTokens z us) before b.1 in
    let left : Stripped (pending_after d (t ∷ [])) ts us z s = strip ts us (pending_after d (t ∷ [])) z s a.1 each' apart' tail in
    record {
      more = left.more;
      tokens = ap (λ v. v ∷ us) (sym head) ∙ ap (λ v. t ∷ v) left.tokens;
      rest = left.rest;
      each = subst (λ z. AreTokens z left.more) (sym (pending-cons d t ts)) left.each;
    }
  where
    token_of : {t u : Token} {x y : List ℕ} → found t x ≡ found u y → t ≡ u
    token_of e = cc

    behind : {t u : Token} {x y : List ℕ} → found t x ≡ found u y → x ≡ y
    behind e = cc

-- behind less than a token nothing is spelled
pub none_more : (more : List Token) (d r s : List ℕ) → front d r ≡ short → AreTokens d more → r ≡ spelled_all more ++ s
    → (more ≡ []) × (r ≡ s)
none_more [] d r s less a e = (refl, e)
none_more (t ∷ ts) d r s less a e =
    let whole : front d r ≡ found t (spelled_all ts ++ s) =
    ap (front d) (e ∙ append_assoc (spelling t) (spelled_all ts) s) ∙ front_spelling d t (spelled_all ts ++ s) a.0 in
    absurd (let both : short ≡ found t (spelled_all ts ++ s) = sym less ∙ whole in cc)

pub one_reading : (x : List ℕ) (ts us : List Token) (r s : List ℕ) → SpellsTokens x ts r → SpellsTokens x us s
    → (ts ≡ us) × (r ≡ s)
one_reading x ts us r s p q =
    let left : Stripped [] ts us r s =
    strip ts us [] r s p.each q.each (no_token-partial (pending_after [] us) s q.partial) (sym p.whole ∙ q.whole) in
    let done : (left.more ≡ []) × (r ≡ s) =
    none_more left.more (pending_after [] ts) r s (partial_short (pending_after [] ts) r p.partial) left.each left.rest in
    (sym (append-nil ts) ∙ ap (λ z. ts ++ z) (sym done.0) ∙ sym left.tokens, done.1)
