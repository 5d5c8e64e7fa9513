-- The token at the front of a stream. No token's spelling begins another's, and none begins at a fault: both follow
-- from a function that finds the token, and from what it finds staying when more bytes come.
use Rattle.std.proofs.Common.{◌≡◌, ℕ, ◌+◌, ◌<◌, ◌≤◌, Bool, true, false, cond, eqb, ltb, leb, List, [], ◌∷◌, ◌++◌, length, refl, sym, ◌∙◌, ap, ⊎_elim, ◌⊎◌, arith, append_assoc, length-append}
use Rattle.std.specs.Prelude.{◌||◌, not}
use Rattle.std.proofs.lemmas.List.{append-nil}
use Rattle.std.proofs.lemmas.Bool.{eqb-true, ne_eqb, lt-ltb, le-ltb, leb-true, cases_Bool, and_parts, or_parts, not-true}
use Rattle.tn_wire.specs.declared.event.WireFault.{WireFault}
use Rattle.tn_wire.specs.declared.event.WireFault.TheVariants.{RecordTooLong, SubTooLong, BadSub}
use Rattle.tn_wire.specs.Verbs.{is_verb}
use Rattle.tn_wire.specs.Telnet.{Token, data_byte, record_end, command, subnegotiation, passed, quoted, quoted_byte, spelling, has_meaning, MayCome, IsPartial}
use Rattle.tn_wire.specs.Stream.{IsFault}

-- a whole token and what follows it, less than a token, or a fault and what follows it
pub data Front : Type 0 where
  found : Token → List ℕ → Front
  short : Front
  wrong : WireFault → List ℕ → Front

abbrev pub inside : ℕ → List ℕ → Bool → List ℕ → Front
inside o ps escape [] = short
inside o ps false (b ∷ x) = cond (eqb b 255) (inside o ps true x) (cond (ltb (length ps) 256) (inside o (ps ++ b ∷ []) false x) (wrong SubTooLong x))
inside o ps true (b ∷ x) =
    cond (eqb b 255) (cond (ltb (length ps) 256) (inside o (ps ++ 255 ∷ []) false x) (wrong SubTooLong x))
    (cond (eqb b 240) (found (subnegotiation o ps) x) (wrong BadSub x))

abbrev pub started : Bool → List ℕ → Front
started escape [] = short
started false (b ∷ x) = cond (eqb b 255) (started true x) (inside b [] false x)
started true (b ∷ x) = cond (eqb b 255) (inside 255 [] false x) (wrong BadSub x)

abbrev pub commanded : ℕ → List ℕ → Front
commanded v [] = short
commanded v (o ∷ x) = found (command v o) x

abbrev pub datum : List ℕ → ℕ → List ℕ → Front
datum pending b x = cond (ltb (length pending) 32768) (found (data_byte b) x) (wrong RecordTooLong x)

abbrev pub escaped : List ℕ → List ℕ → Front
escaped pending [] = short
escaped pending (c ∷ x) =
    cond (eqb c 255) (datum pending 255 x)
    (cond (eqb c 239) (found record_end x)
    (cond (eqb c 250) (started false x)
    (cond (is_verb c) (commanded c x) (found (passed c) x))))

-- what is at the front of the bytes while this data is open
abbrev pub front : List ℕ → List ℕ → Front
front pending [] = short
front pending (b ∷ x) = cond (eqb b 255) (escaped pending x) (datum pending b x)

-- what was found stays, and has more behind it
grown : Front → List ℕ → Front → Front
grown (found t x) m other = found t (x ++ m)
grown short m other = other
grown (wrong w x) m other = wrong w (x ++ m)

grown-found : (t : Token) (x m : List ℕ) (other : Front) → found t (x ++ m) ≡ grown (found t x) m other
unfolding grown
grown-found t x m other = refl

grown-short : (m : List ℕ) (other : Front) → other ≡ grown short m other
unfolding grown
grown-short m other = refl

grown-wrong : (w : WireFault) (x m : List ℕ) (other : Front) → wrong w (x ++ m) ≡ grown (wrong w x) m other
unfolding grown
grown-wrong w x m other = refl

grown-cond : (b : Bool) (x y x' y' : Front) (m : List ℕ) → x' ≡ grown x m x' → y' ≡ grown y m y'
    → cond b x' y' ≡ grown (cond b x y) m (cond b x' y')
grown-cond true x y x' y' m p q = p
grown-cond false x y x' y' m p q = q

inside_grows : (x : List ℕ) (o : ℕ) (ps : List ℕ) (e : Bool) (m : List ℕ)
    → inside o ps e (x ++ m) ≡ grown (inside o ps e x) m (inside o ps e (x ++ m))
inside_grows [] o ps e m = grown-short m _
inside_grows (b ∷ x) o ps false m =
    grown-cond _ _ _ _ _ m (inside_grows x o ps true m)
    (grown-cond _ _ _ _ _ m (inside_grows x o (ps ++ b ∷ []) false m) (grown-wrong _ _ _ _))
inside_grows (b ∷ x) o ps true m =
    grown-cond _ _ _ _ _ m
    (grown-cond _ _ _ _ _ m (inside_grows x o (ps ++ 255 ∷ []) false m) (grown-wrong _ _ _ _))
    (grown-cond _ _ _ _ _ m (grown-found _ _ _ _) (grown-wrong _ _ _ _))

started_grows : (x : List ℕ) (e : Bool) (m : List ℕ) → started e (x ++ m) ≡ grown (started e x) m (started e (x ++ m))
started_grows [] e m = grown-short m _
started_grows (b ∷ x) false m = grown-cond _ _ _ _ _ m (started_grows x true m) (inside_grows x b [] false m)
started_grows (b ∷ x) true m = grown-cond _ _ _ _ _ m (inside_grows x 255 [] false m) (grown-wrong _ _ _ _)

datum_grows : (d : List ℕ) (b : ℕ) (x m : List ℕ) → datum d b (x ++ m) ≡ grown (datum d b x) m (datum d b (x ++ m))
datum_grows d b x m = grown-cond _ _ _ _ _ m (grown-found _ _ _ _) (grown-wrong _ _ _ _)

commanded_grows : (x : List ℕ) (v : ℕ) (m : List ℕ) → commanded v (x ++ m) ≡ grown (commanded v x) m (commanded v (x ++ m))
commanded_grows [] v m = grown-short m _
commanded_grows (o ∷ x) v m = grown-found _ _ _ _

escaped_grows : (d x m : List ℕ) → escaped d (x ++ m) ≡ grown (escaped d x) m (escaped d (x ++ m))
escaped_grows d [] m = grown-short m _
escaped_grows d (c ∷ x) m =
    grown-cond _ _ _ _ _ m (datum_grows d 255 x m)
    (grown-cond _ _ _ _ _ m (grown-found _ _ _ _)
    (grown-cond _ _ _ _ _ m (started_grows x false m)
    (grown-cond _ _ _ _ _ m (commanded_grows x c m) (grown-found _ _ _ _))))

front_grows : (d x m : List ℕ) → front d (x ++ m) ≡ grown (front d x) m (front d (x ++ m))
front_grows d [] m = grown-short m _
front_grows d (b ∷ x) m = grown-cond _ _ _ _ _ m (escaped_grows d x m) (datum_grows d b x m)

-- what a token's spelling and a fault's bytes show

inside_byte : (o : ℕ) (ps : List ℕ) (q : ℕ) (x : List ℕ) → length ps < 256
    → inside o ps false (quoted_byte q ++ x) ≡ inside o (ps ++ q ∷ []) false x
inside_byte o ps q x room =
    let fits : ltb (length ps) 256 ≡ true = lt-ltb (length ps) 256 room in
    ⊎_elim
    (λ (e : eqb q 255 ≡ true). rw (eqb-true q 255 e) (rw fits refl))
    (λ (e : eqb q 255 ≡ false). rw e (rw (e, fits) refl))
    (cases_Bool (eqb q 255))

inside_more : (qs : List ℕ) (o : ℕ) (ps x : List ℕ) → length (ps ++ qs) ≤ 256
    → inside o ps false (quoted qs ++ x) ≡ inside o (ps ++ qs) false x
inside_more [] o ps x room = ap (λ z. inside o z false x) (sym (append-nil ps))
inside_more (q ∷ qs) o ps x room =
    let long : length (ps ++ q ∷ qs) ≡ length ps + length (q ∷ qs) = length-append ps (q ∷ qs) in
    let regrouped : (ps ++ q ∷ []) ++ qs ≡ ps ++ q ∷ qs = append_assoc ps (q ∷ []) qs in
    let fits : length ((ps ++ q ∷ []) ++ qs) ≤ 256 = rw regrouped room in
    ap (inside o ps false) (append_assoc (quoted_byte q) (quoted qs) x)
    ∙ inside_byte o ps q (quoted qs ++ x) (omega arith)
    ∙ inside_more qs o (ps ++ q ∷ []) x fits
    ∙ ap (λ z. inside o z false x) regrouped

-- the option, and then the parameters
started_more : (o : ℕ) (ps x : List ℕ) → length ps ≤ 256 → started false (quoted (o ∷ ps) ++ x) ≡ inside o ps false x
started_more o ps x room =
    ap (started false) (append_assoc (quoted_byte o) (quoted ps) x)
    ∙ ⊎_elim
    (λ (e : eqb o 255 ≡ true). rw (eqb-true o 255 e) refl)
    (λ (e : eqb o 255 ≡ false). rw e (rw e refl))
    (cases_Bool (eqb o 255))
    ∙ inside_more ps o [] x room

datum_fits : (d : List ℕ) (b : ℕ) (x : List ℕ) → length d < 32768 → front d (quoted_byte b ++ x) ≡ found (data_byte b) x
datum_fits d b x room =
    let fits : ltb (length d) 32768 ≡ true = lt-ltb (length d) 32768 room in
    ⊎_elim
    (λ (e : eqb b 255 ≡ true). rw (eqb-true b 255 e) (rw fits refl))
    (λ (e : eqb b 255 ≡ false). rw e (rw (e, fits) refl))
    (cases_Bool (eqb b 255))

datum_overflows : (d : List ℕ) (b : ℕ) (x : List ℕ) → 32768 ≤ length d
    → front d (quoted_byte b ++ x) ≡ wrong RecordTooLong x
datum_overflows d b x full =
    let fits : ltb (length d) 32768 ≡ false = le-ltb (length d) 32768 full in
    ⊎_elim
    (λ (e : eqb b 255 ≡ true). rw (eqb-true b 255 e) (rw fits refl))
    (λ (e : eqb b 255 ≡ false). rw e (rw (e, fits) refl))
    (cases_Bool (eqb b 255))

-- the codes that are no IAC, EOR or SB
verb_apart : (v : ℕ) → is_verb v ≡ true → (eqb v 255 ≡ false) × (eqb v 239 ≡ false) × (eqb v 250 ≡ false)
verb_apart v e =
    let parts = and_parts (leb 251 v) (leb v 254) e in
    let low : 251 ≤ v = leb-true 251 v parts.0 in
    let high : v ≤ 254 = leb-true v 254 parts.1 in (
      ne_eqb v 255 (λ h. omega arith),
      ne_eqb v 239 (λ h. omega arith),
      ne_eqb v 250 (λ h. omega arith),
    )

passed_apart : (b : ℕ) → not (has_meaning b) ≡ true
    → (eqb b 255 ≡ false) × (eqb b 239 ≡ false) × (eqb b 250 ≡ false) × (is_verb b ≡ false)
passed_apart b e =
    let meaning = not-true (has_meaning b) e in
    let verbs = or_parts (eqb b 255 || eqb b 239 || eqb b 250) (is_verb b) meaning in
    let starts = or_parts (eqb b 255 || eqb b 239) (eqb b 250) verbs.0 in
    let ends = or_parts (eqb b 255) (eqb b 239) starts.0 in
    (ends.0, ends.1, starts.1, verbs.1)

-- a token that may come is found
pub front_spelling : (d : List ℕ) (t : Token) (x : List ℕ) → MayCome d t → front d (spelling t ++ x) ≡ found t x
front_spelling d (data_byte b) x room = datum_fits d b x room
front_spelling d record_end x _ = refl
front_spelling d (command v o) x e =
    let apart = verb_apart v e in rw (apart.0, apart.1, apart.2, e) refl
front_spelling d (subnegotiation o ps) x room =
    ap (started false) (append_assoc (quoted (o ∷ ps)) (255 ∷ 240 ∷ []) x) ∙ started_more o ps (255 ∷ 240 ∷ x) room
front_spelling d (passed b) x e =
    let apart = passed_apart b e in rw (apart.0, apart.1, apart.2, apart.3) refl

sub_overflows : (o : ℕ) (ps : List ℕ) (b : ℕ) (x : List ℕ) → length ps ≡ 256
    → inside o ps false (quoted_byte b ++ x) ≡ wrong SubTooLong x
sub_overflows o ps b x full =
    let fits : ltb (length ps) 256 ≡ false = le-ltb (length ps) 256 (omega arith) in
    ⊎_elim
    (λ (e : eqb b 255 ≡ true). rw (eqb-true b 255 e) (rw fits refl))
    (λ (e : eqb b 255 ≡ false). rw e (rw (e, fits) refl))
    (cases_Bool (eqb b 255))

sub_breaks : (d qs : List ℕ) (b : ℕ) (x : List ℕ) → length qs ≤ 257 → (b ≡ 255 → ⊥) → (qs ≡ []) ⊎ (b ≡ 240 → ⊥)
    → started false (quoted qs ++ 255 ∷ b ∷ x) ≡ wrong BadSub x
sub_breaks d [] b x room escape why =
    let apart : eqb b 255 ≡ false = ne_eqb b 255 escape in rw apart refl
sub_breaks d (o ∷ ps) b x room escape why =
    let apart : eqb b 255 ≡ false = ne_eqb b 255 escape in
    let goes : eqb b 240 ≡ false = ⊎_elim (λ (none : o ∷ ps ≡ []). absurd (cc)) (λ (h : b ≡ 240 → ⊥). ne_eqb b 240 h) why in
    started_more o ps (255 ∷ b ∷ x) (omega arith) ∙ rw (apart, goes) refl

-- a fault is found
pub front_fault : (d : List ℕ) (w : WireFault) (bad x : List ℕ) → IsFault w d bad → front d (bad ++ x) ≡ wrong w x
front_fault d RecordTooLong bad x (b, full, spelled) =
    ap (λ z. front d (z ++ x)) spelled ∙ datum_overflows d b x full
front_fault d SubTooLong bad x (o, ps, b, full, spelled) =
    ap (λ z. front d (z ++ x)) spelled
    ∙ ap (started false) (append_assoc (quoted (o ∷ ps)) (quoted_byte b) x)
    ∙ started_more o ps (quoted_byte b ++ x) (omega arith)
    ∙ sub_overflows o ps b x full
front_fault d BadSub bad x (qs, b, room, escape, why, spelled) =
    ap (λ z. front d (z ++ x)) spelled
    ∙ ap (started false) (append_assoc (quoted qs) (255 ∷ b ∷ []) x)
    ∙ sub_breaks d qs b x room escape why

-- less than a token is found to be less
pub length_none : (x y : List ℕ) → [] ≡ x ++ y → 0 < length y → ⊥
length_none x y e long = omega (arith, length-append x y, ap length e)

partial_by : (d s more : List ℕ) (t : Token) (f : Front) → front d s ≡ f → 0 < length more
    → found t [] ≡ grown f more (front d (s ++ more)) → front d s ≡ short
partial_by d s more t short e long g = e
partial_by d s more t (found u x) e long g =
    absurd (length_none x more (ap rest_of (g ∙ sym (grown-found u x more _))) long)
  where
    rest_of : Front → List ℕ
    rest_of (found u x) = x
    rest_of short = []
    rest_of (wrong w x) = x
partial_by d s more t (wrong w x) e long g =
    let clash : found t [] ≡ wrong w (x ++ more) = g ∙ sym (grown-wrong w x more _) in cc

pub partial_short : (d s : List ℕ) → IsPartial d s → front d s ≡ short
partial_short d s p =
    let whole : front d (s ++ p.more) ≡ found p.token [] =
    ap (front d) (sym p.spelled ∙ sym (append-nil (spelling p.token))) ∙ front_spelling d p.token [] p.comes in
    partial_by d s p.more p.token (front d s) refl p.longer (sym whole ∙ front_grows d s p.more)
