-- One byte more, and one answer after the other.
use Rattle.std.proofs.Common.{◌≡◌, ℕ, ◌<◌, ◌≤◌, List, [], ◌∷◌, ◌++◌, length, refl, sym, ◌∙◌, ap, subst, ⊎_elim, arith, append_assoc, length-append, Ok, Err}
use Rattle.std.specs.Prelude.{Result, MatchResult}
use Rattle.std.proofs.lemmas.List.{append-nil}
use Rattle.std.proofs.lemmas.List.Concat.{flat_map-append}
use Rattle.tn_wire.specs.declared.event.WireFault.{WireFault}
use Rattle.tn_wire.specs.Telnet.{Token, quoted, spelling, pending_after, MayCome, AreTokens, IsPartial}
use Rattle.tn_wire.specs.Stream.{Told, events_after, Tells, IsFault, Faults}
use Rattle.tn_wire.specs.Calls.{Answers, IsQuiet}
use Rattle.tn_wire.specs.Laws.{HasOneAnswer}
use Rattle.tn_wire.proofs.Front.{length_none}
use Rattle.tn_wire.proofs.Reading.{spelled_all, data_tokens, spelled-data, pending-data, events-data, data_come, pending-append, events-append, tokens-append, append_split}
use Rattle.tn_wire.proofs.Parts.{tells_once, tells_both, tells_front, tells_rest, faults_both}
use Rattle.tn_wire.proofs.Streams.{partial_nothing, none_after_fault, has_one_fault}

-- an open record and less than a token
pub settled : (d r : List ℕ) → length d ≤ 32768 → IsPartial d r → Tells (quoted d ++ r) [] (quoted d ++ r)
settled d r bound p = record {
  tokens = data_tokens d;
  rest = r;
  spelled = record {
    whole = ap (λ z. z ++ r) (sym (spelled-data d));
    each = data_come d [] (omega arith);
    partial = subst (λ z. IsPartial z r) (sym (pending-data d [])) p;
  };
  told = sym (events-data d []);
  leaves = ap (λ z. quoted z ++ r) (sym (pending-data d []));
}

-- an open record and a token
pub tells_token : (d : List ℕ) (t : Token) → length d ≤ 32768 → MayCome d t
    → Tells (quoted d ++ spelling t) (events_after d (t ∷ [])) (quoted (pending_after d (t ∷ [])) ++ [])
tells_token d t bound comes =
    let tokens : List Token = data_tokens d ++ t ∷ [] in
    let pending : pending_after [] tokens ≡ pending_after d (t ∷ []) =
    pending-append (data_tokens d) (t ∷ []) [] ∙ ap (λ z. pending_after z (t ∷ [])) (pending-data d []) in
    record {
      tokens = tokens;
      rest = [];
      spelled = record {
        whole =
            ap (λ z. z ++ spelling t) (sym (spelled-data d)) ∙ ap (λ z. spelled_all (data_tokens d) ++ z) (sym (append-nil (spelling t)))
            ∙ sym (flat_map-append spelling (data_tokens d) (t ∷ [])) ∙ sym (append-nil (spelled_all tokens));
        each = tokens-append (data_tokens d) (t ∷ []) [] (data_come d [] (omega arith))
            (subst (λ z. AreTokens z (t ∷ [])) (sym (pending-data d [])) (comes, tt));
        partial = partial_nothing (pending_after [] tokens);
      };
      told =
          sym (events-append (data_tokens d) (t ∷ []) [] ∙ ap (λ z. z ++ events_after (pending_after [] (data_tokens d)) (t ∷ [])) (events-data d [])
          ∙ ap (λ z. events_after z (t ∷ [])) (pending-data d []));
      leaves = ap (λ z. quoted z ++ []) (sym pending);
    }

-- the fronts of one byte
one_front : (b : ℕ) (x y : List ℕ) → b ∷ [] ≡ x ++ y → 0 < length y → x ≡ []
one_front b [] y e long = refl
one_front b (c ∷ x) y e long = absurd (length_none x y (let tails : [] ≡ x ++ y = cc in tails) long)

one_byte : (old new : List ℕ) (b : ℕ) (events : Result (List Told) WireFault) → IsQuiet old
    → MatchResult events (λ told. Tells (old ++ b ∷ []) told new) (λ fault. Faults (old ++ b ∷ []) [] fault)
    → Answers old (b ∷ []) events new
one_byte old new b events quiet answer = record {
  answer = answer;
  needed = λ x y e long. subst IsQuiet (sym (ap (λ z. old ++ z) (one_front b x y e long) ∙ append-nil old)) quiet;
}

module _ (d r : List ℕ) (b : ℕ) (bound : length d ≤ 32768) (p : IsPartial d r) where
  quiet : IsQuiet (quoted d ++ r)
  quiet = (quoted d ++ r, settled d r bound p)

  -- the byte goes on with a token
  pub stays : (s : List ℕ) → IsPartial d s → r ++ b ∷ [] ≡ s → Answers (quoted d ++ r) (b ∷ []) (Ok []) (quoted d ++ s)
  stays s q e =
      let bytes : (quoted d ++ r) ++ b ∷ [] ≡ quoted d ++ s = append_assoc (quoted d) r (b ∷ []) ∙ ap (λ z. quoted d ++ z) e in
      one_byte (quoted d ++ r) (quoted d ++ s) b (Ok []) quiet
      (subst (λ z. Tells z [] (quoted d ++ s)) (sym bytes) (settled d s bound q))

  -- the byte completes a token
  pub completes : (t : Token) → MayCome d t → r ++ b ∷ [] ≡ spelling t
      → Answers (quoted d ++ r) (b ∷ []) (Ok (events_after d (t ∷ []))) (quoted (pending_after d (t ∷ [])) ++ [])
  completes t comes e =
      let bytes : (quoted d ++ r) ++ b ∷ [] ≡ quoted d ++ spelling t = append_assoc (quoted d) r (b ∷ []) ∙ ap (λ z. quoted d ++ z) e in
      let left : List ℕ = quoted (pending_after d (t ∷ [])) ++ [] in
      one_byte (quoted d ++ r) left b (Ok (events_after d (t ∷ []))) quiet
      (subst (λ z. Tells z (events_after d (t ∷ [])) left) (sym bytes) (tells_token d t bound comes))

  -- the byte is at fault
  pub breaks : (w : WireFault) → IsFault w d (r ++ b ∷ []) → Answers (quoted d ++ r) (b ∷ []) (Err w) []
  breaks w h = one_byte (quoted d ++ r) [] b (Err w) quiet (record {
    tokens = data_tokens d;
    bad = r ++ b ∷ [];
    whole = append_assoc (quoted d) r (b ∷ []) ∙ ap (λ z. z ++ (r ++ b ∷ [])) (sym (spelled-data d));
    each = data_come d [] (omega arith);
    told = sym (events-data d []);
    last = subst (λ z. IsFault w z (r ++ b ∷ [])) (sym (pending-data d [])) h;
  })

-- no byte taken
pub takes_none : (d r : List ℕ) → length d ≤ 32768 → IsPartial d r → Answers (quoted d ++ r) [] (Ok []) (quoted d ++ r)
takes_none d r bound p = record {
  answer = subst (λ z. Tells z [] (quoted d ++ r)) (sym (append-nil (quoted d ++ r))) (settled d r bound p);
  needed = λ x y e long. absurd (length_none x y e long);
}

-- what tells nothing takes no byte more than it needs
pub tells_none : (old x new : List ℕ) → Tells (old ++ x) [] new → Answers old x (Ok []) new
tells_none old x new a = record {
  answer = a;
  needed = λ u v e long.
      let split : (old ++ u) ++ v ≡ old ++ x = append_assoc old u v ∙ ap (λ z. old ++ z) (sym e) in
      let whole : Tells ((old ++ u) ++ v) [] new = subst (λ z. Tells z [] new) (sym split) a in
      let through : (es : List Told) × (o : List ℕ) × Tells (old ++ u) es o = tells_front (old ++ u) v new [] whole in
      let rest : (fs : List Told) × ([] ≡ through.0 ++ fs) × Tells (through.1 ++ v) fs new =
      tells_rest (old ++ u) v through.1 new through.0 [] through.2 whole in
      (through.1, subst (λ z. Tells (old ++ u) z through.1) (none_first through.0 rest.0 rest.1) through.2);
}
  where
    none_first : (es fs : List Told) → [] ≡ es ++ fs → es ≡ []
    none_first [] fs e = refl
    none_first (x ∷ es) fs e = absurd (cc)

-- one answer behind another
pub answers_both : (old x mid y new : List ℕ) (events : Result (List Told) WireFault)
    → Answers old x (Ok []) mid → Answers mid y events new → Answers old (x ++ y) events new
answers_both old x mid y new events a b = record {
  answer = joined events b.answer;
  needed = λ u v e long.
      ⊎_elim
      (λ (p : (k : List ℕ) × (u ≡ x ++ k) × (y ≡ k ++ v)).
      let quiet : IsQuiet (mid ++ p.0) = b.needed p.0 v p.2 long in
      let both : Tells ((old ++ x) ++ p.0) [] quiet.0 = tells_both (old ++ x) p.0 mid quiet.0 [] [] a.answer quiet.1 in
      (quiet.0, subst (λ z. Tells z [] quiet.0) (append_assoc old x p.0 ∙ ap (λ z. old ++ z) (sym p.1)) both))
      (λ (p : (k : List ℕ) × (0 < length k) × (x ≡ u ++ k) × (v ≡ k ++ y)). a.needed u p.0 p.2 p.1)
      (append_split x y u v e);
}
  where
    joined : (events : Result (List Told) WireFault)
        → MatchResult events (λ told. Tells (mid ++ y) told new) (λ fault. Faults (mid ++ y) [] fault)
        → MatchResult events (λ told. Tells (old ++ (x ++ y)) told new) (λ fault. Faults (old ++ (x ++ y)) [] fault)
    joined (Ok told) c =
        subst (λ z. Tells z told new) (append_assoc old x y) (tells_both (old ++ x) y mid new [] told a.answer c)
    joined (Err fault) c =
        subst (λ z. Faults z [] fault) (append_assoc old x y) (faults_both (old ++ x) y mid [] [] fault a.answer c)

-- an answer where another call has told nothing yet is no answer
early : (old x y n : List ℕ) (others : Result (List Told) WireFault) → IsQuiet (old ++ x) → Answers old x others n
    → (others ≡ Ok [] → y ≡ []) → 0 < length y → ⊥
early old x y n (Ok told) quiet b ends long =
    let none : told ≡ [] = (tells_once (old ++ x) told [] n quiet.0 b.answer quiet.1).0 in
    let empty : y ≡ [] = ends (ap Ok none) in
    omega (arith, ap length empty)
early old x y n (Err w) quiet b ends long =
    none_after_fault (old ++ x) [] quiet.0 [] [] w b.answer (subst (λ z. Tells z [] quiet.0) (sym (append-nil (old ++ x))) quiet.1)

same_answer : (old x m n : List ℕ) (events others : Result (List Told) WireFault) → Answers old x events m → Answers old x others n
    → (events ≡ others) × ((told : List Told) → events ≡ Ok told → m ≡ n)
same_answer old x m n (Ok es) (Ok fs) a b =
    let same : (es ≡ fs) × (m ≡ n) = tells_once (old ++ x) es fs m n a.answer b.answer in (ap Ok same.0, λ told e. same.1)
same_answer old x m n (Ok es) (Err w) a b =
    absurd (none_after_fault (old ++ x) [] m es [] w b.answer (subst (λ z. Tells z es m) (sym (append-nil (old ++ x))) a.answer))
same_answer old x m n (Err w) (Ok fs) a b =
    absurd (none_after_fault (old ++ x) [] n fs [] w a.answer (subst (λ z. Tells z fs n) (sym (append-nil (old ++ x))) b.answer))
same_answer old x m n (Err w) (Err v) a b =
    let same : ([] ≡ []) × ([] ≡ []) × (w ≡ v) =
    has_one_fault (old ++ x) [] [] [] w v a.answer (subst (λ z. Faults z [] v) (sym (append-nil (old ++ x))) b.answer) in
    (ap Err same.2, λ told e. absurd (cc))

pub one_answer_lem : HasOneAnswer
one_answer_lem old x y u v m n events others e a b ends_a ends_b =
    ⊎_elim
    (λ (p : (k : List ℕ) × (u ≡ x ++ k) × (y ≡ k ++ v)). after p.0 p.1 p.2)
    (λ (p : (k : List ℕ) × (0 < length k) × (x ≡ u ++ k) × (v ≡ k ++ y)).
    absurd (early old u v n others (a.needed u p.0 p.2 p.1) b ends_b
    (let long : 0 < length p.0 = p.1 in omega (arith, length-append p.0 y, ap length p.3))))
    (append_split x y u v e)
  where
    after : (k : List ℕ) → u ≡ x ++ k → y ≡ k ++ v → (x ≡ u) × (events ≡ others) × ((told : List Told) → events ≡ Ok told → m ≡ n)
    after [] p q =
        let at : u ≡ x = p ∙ append-nil x in
        let same : (events ≡ others) × ((told : List Told) → events ≡ Ok told → m ≡ n) =
        same_answer old x m n events others a (subst (λ z. Answers old z others n) at b) in
        (sym at, same.0, same.1)
    after (c ∷ k) p q =
        absurd (early old x y m events (b.needed x (c ∷ k) p (omega arith)) a ends_a
        (omega (arith, length-append (c ∷ k) v, ap length q)))

-- a fault leaves nothing that counts
pub fault_leaves : (old x m n : List ℕ) (w : WireFault) → Answers old x (Err w) m → Answers old x (Err w) n
fault_leaves old x m n w a = record { answer = a.answer; needed = a.needed }
