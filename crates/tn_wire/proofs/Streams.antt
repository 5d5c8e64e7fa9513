-- The laws over whole streams.
use Rattle.std.proofs.Common.{◌≡◌, ℕ, List, [], ◌∷◌, ◌++◌, refl, sym, ◌∙◌, ap, subst, arith, append_assoc}
use Rattle.std.specs.List.{flat_map}
use Rattle.std.proofs.lemmas.List.{append-nil, append_cancel_left}
use Rattle.tn_wire.specs.declared.event.WireFault.{WireFault}
use Rattle.tn_wire.specs.Telnet.{Token, record_end, spelling, pending_after, AreTokens, IsPartial}
use Rattle.tn_wire.specs.Stream.{Told, events_of, Tells, IsFault, Faults}
use Rattle.tn_wire.specs.Laws.{TellInTurn, TellsAsWhole, FaultsAsWhole, NoneAfterFault, HasOneFault}
use Rattle.tn_wire.proofs.Front.{found, short, wrong, front, front_spelling, front_fault, partial_short}
use Rattle.tn_wire.proofs.Reading.{spelled_all, NoToken, no_token-partial, no_token-fault, Stripped, strip}
use Rattle.tn_wire.proofs.Parts.{tells_once, tells_both, tells_rest, tells_front, faults_both, faults_rest}

-- nothing at all is less than a token, whatever is open
pub partial_nothing : (d : List ℕ) → IsPartial d []
partial_nothing d = record { token = record_end; more = 255 ∷ 239 ∷ []; comes = tt; longer = omega arith; spelled = refl }

pub tells_nothing : Tells [] [] []
tells_nothing = record {
  tokens = [];
  rest = [];
  spelled = record { whole = refl; each = tt; partial = partial_nothing [] };
  told = refl;
  leaves = refl;
}

turn_whole : (parts : List (List ℕ)) (x o left : List ℕ) (es fs : List Told) → Tells x es o → TellInTurn o parts fs left
    → Tells (x ++ flat_map (λ part. part) parts) (es ++ fs) left
turn_whole [] x o left es fs a t =
    let at : Tells x es left = subst (λ z. Tells x es z) (sym t.1) a in
    let longer : Tells (x ++ []) es left = subst (λ z. Tells z es left) (sym (append-nil x)) at in
    subst (λ z. Tells (x ++ []) z left) (sym (ap (λ z. es ++ z) t.0 ∙ append-nil es)) longer
turn_whole (part ∷ parts) x o left es fs a t =
    let later : Tells ((x ++ part) ++ flat_map (λ part. part) parts) ((es ++ t.0) ++ t.1) left =
    turn_whole parts (x ++ part) t.2 left (es ++ t.0) t.1 (tells_both x part o t.2 es t.0 a t.4) t.5 in
    let told : (es ++ t.0) ++ t.1 ≡ es ++ fs = append_assoc es t.0 t.1 ∙ ap (λ z. es ++ z) (sym t.3) in
    subst (λ z. Tells z (es ++ fs) left) (append_assoc x part (flat_map (λ part. part) parts))
    (subst (λ z. Tells ((x ++ part) ++ flat_map (λ part. part) parts) z left) told later)

whole_turn : (parts : List (List ℕ)) (x o left : List ℕ) (es fs : List Told) → Tells x es o
    → Tells (x ++ flat_map (λ part. part) parts) (es ++ fs) left → TellInTurn o parts fs left
whole_turn [] x o left es fs a b =
    let at : Tells x (es ++ fs) left = subst (λ z. Tells z (es ++ fs) left) (append-nil x) b in
    let same : (es ++ fs ≡ es) × (left ≡ o) = tells_once x (es ++ fs) es left o at a in
    (append_cancel_left es fs [] (same.0 ∙ sym (append-nil es)), same.1)
whole_turn (part ∷ parts) x o left es fs a b =
    let rest : List ℕ = flat_map (λ part. part) parts in
    let whole : Tells ((x ++ part) ++ rest) (es ++ fs) left = subst (λ z. Tells z (es ++ fs) left) (sym (append_assoc x part rest)) b in
    let through : (hs : List Told) × (m : List ℕ) × Tells (x ++ part) hs m = tells_front (x ++ part) rest left (es ++ fs) whole in
    let now : (gs : List Told) × (through.0 ≡ es ++ gs) × Tells (o ++ part) gs through.1 =
    tells_rest x part o through.1 es through.0 a through.2 in
    let then_rest : (gs : List Told) × (es ++ fs ≡ through.0 ++ gs) × Tells (through.1 ++ rest) gs left =
    tells_rest (x ++ part) rest through.1 left through.0 (es ++ fs) through.2 whole in
    let told : es ++ fs ≡ es ++ (now.0 ++ then_rest.0) =
    then_rest.1 ∙ ap (λ z. z ++ then_rest.0) now.1 ∙ append_assoc es now.0 then_rest.0 in
    let first : Tells (x ++ part) (es ++ now.0) through.1 = subst (λ z. Tells (x ++ part) z through.1) now.1 through.2 in
    let ends : Tells ((x ++ part) ++ rest) ((es ++ now.0) ++ then_rest.0) left =
    subst (λ z. Tells ((x ++ part) ++ rest) z left) (told ∙ sym (append_assoc es now.0 then_rest.0)) whole in (
      now.0,
      then_rest.0,
      through.1,
      append_cancel_left es fs (now.0 ++ then_rest.0) told,
      now.2,
      whole_turn parts (x ++ part) through.1 left (es ++ now.0) then_rest.0 first ends,
    )

pub tells_as_whole : TellsAsWhole
tells_as_whole parts events left =
    (λ t. turn_whole parts [] [] left [] events tells_nothing t, λ b. whole_turn parts [] [] left [] events tells_nothing b)

pub faults_as_whole : FaultsAsWhole
faults_as_whole x y o es fs w a = (
  λ b. faults_both x y o es fs w a b,
  λ b.
      let rest : (gs : List Told) × (es ++ fs ≡ es ++ gs) × Faults (o ++ y) gs w = faults_rest x y o es (es ++ fs) w a b in
      subst (λ z. Faults (o ++ y) z w) (sym (append_cancel_left es fs rest.0 rest.1)) rest.2,
)

-- the tokens before a fault begin every reading of what goes on behind it
past_fault : (x y s : List ℕ) (fs : List Told) (w : WireFault) (us : List Token) (a : Faults x fs w) → AreTokens [] us
    → NoToken (pending_after [] us) s → x ++ y ≡ spelled_all us ++ s → Stripped [] a.tokens us (a.bad ++ y) s
past_fault x y s fs w us a b apart e =
    strip a.tokens us [] (a.bad ++ y) s a.each b apart
    (sym (append_assoc (spelled_all a.tokens) a.bad y) ∙ ap (λ z. z ++ y) (sym a.whole) ∙ e)

-- and behind them no token stands
no_more : (more : List Token) (d bad y s : List ℕ) (w : WireFault) → IsFault w d bad → AreTokens d more
    → bad ++ y ≡ spelled_all more ++ s → (more ≡ []) × (bad ++ y ≡ s)
no_more [] d bad y s w h a e = (refl, e)
no_more (t ∷ ts) d bad y s w h a e =
    let ill : front d (bad ++ y) ≡ wrong w y = front_fault d w bad y h in
    let whole : front d (bad ++ y) ≡ found t (spelled_all ts ++ s) =
    ap (front d) (e ∙ append_assoc (spelling t) (spelled_all ts) s) ∙ front_spelling d t (spelled_all ts ++ s) a.0 in
    let clash : wrong w y ≡ found t (spelled_all ts ++ s) = sym ill ∙ whole in cc

pub none_after_fault : NoneAfterFault
none_after_fault x y left es fs w a b =
    let apart : NoToken (pending_after [] b.tokens) b.rest = no_token-partial (pending_after [] b.tokens) b.rest b.spelled.partial in
    let left_over : Stripped [] a.tokens b.tokens (a.bad ++ y) b.rest =
    past_fault x y b.rest fs w b.tokens a b.spelled.each apart b.spelled.whole in
    let d : List ℕ = pending_after [] a.tokens in
    let none : (left_over.more ≡ []) × (a.bad ++ y ≡ b.rest) =
    no_more left_over.more d a.bad y b.rest w a.last left_over.each left_over.rest in
    let same : b.tokens ≡ a.tokens = left_over.tokens ∙ ap (λ z. a.tokens ++ z) none.0 ∙ append-nil a.tokens in
    let less : front (pending_after [] b.tokens) b.rest ≡ short =
    partial_short (pending_after [] b.tokens) b.rest b.spelled.partial in
    let ill : front d (a.bad ++ y) ≡ wrong w y = front_fault d w a.bad y a.last in
    let clash : short ≡ wrong w y =
    sym less ∙ ap (λ z. front (pending_after [] z) b.rest) same ∙ ap (front d) (sym none.1) ∙ ill in
    cc

wrong_same : {w v : WireFault} {x y : List ℕ} → wrong w x ≡ wrong v y → (x ≡ y) × (w ≡ v)
wrong_same e = (cc, cc)

pub has_one_fault : HasOneFault
has_one_fault x y es fs w v a b =
    let apart : NoToken (pending_after [] b.tokens) b.bad = no_token-fault (pending_after [] b.tokens) b.bad v b.last in
    let left_over : Stripped [] a.tokens b.tokens (a.bad ++ y) b.bad = past_fault x y b.bad es w b.tokens a b.each apart b.whole in
    let d : List ℕ = pending_after [] a.tokens in
    let none : (left_over.more ≡ []) × (a.bad ++ y ≡ b.bad) =
    no_more left_over.more d a.bad y b.bad w a.last left_over.each left_over.rest in
    let same : b.tokens ≡ a.tokens = left_over.tokens ∙ ap (λ z. a.tokens ++ z) none.0 ∙ append-nil a.tokens in
    let later : front (pending_after [] b.tokens) b.bad ≡ wrong v [] =
    ap (front (pending_after [] b.tokens)) (sym (append-nil b.bad)) ∙ front_fault (pending_after [] b.tokens) v b.bad [] b.last in
    let ill : front d (a.bad ++ y) ≡ wrong w y = front_fault d w a.bad y a.last in
    let both : wrong w y ≡ wrong v [] =
    sym ill ∙ ap (front d) none.1 ∙ ap (λ z. front (pending_after [] z) b.bad) (sym same) ∙ later in
    let parts : (y ≡ []) × (w ≡ v) = wrong_same both in
    (parts.0, a.told ∙ ap events_of (sym same) ∙ sym b.told, parts.1)
