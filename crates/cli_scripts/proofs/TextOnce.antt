-- What becomes of a text that is typed is determined.
use Rattle.std.proofs.Common.{◌≡◌, ℕ, Bool, true, false, ◌&&◌, List, [], ◌∷◌, ◌++◌, map, Option, Some, None, inl, inr, refl, sym, ap, ◌∙◌, subst}
use Rattle.std.specs.Prelude.{unwrap_or}
use Rattle.script_keys.specs.Steps.{margin_run}
use Rattle.script_screens.specs.declared.code_page.CodePage.{CodePage}
use Rattle.script_screens.specs.declared.lines.Outcome.TheVariants as outcomes
use Rattle.script_screens.specs.declared.pieces.Piece.{Piece}
use Rattle.script_screens.specs.Pieces.{piece_at}
use Rattle.tn_session.specs.declared.pressed.Pressed.{Pressed}
use Rattle.tn_session.specs.declared.pressed.Pressed.TheVariants.{Done, Inhibited, Ignored, Sent}
use Rattle.tn_session.specs.declared.terminal_state.TerminalState.{TerminalState}
use Rattle.tn_session.specs.OneLog.{waits}
use Rattle.tn_session.specs.Talk.{Talk, stands}
use Rattle.tn_session.specs.TerminalTalk.{OfStanding}
use Rattle.cli_scripts.specs.Acts.{PressesOnly}
use Rattle.cli_scripts.specs.declared.deed.Deed.{Deed}
use Rattle.cli_scripts.specs.declared.deed.Deed.TheVariants.{Pressed as PressedKey}
use Rattle.cli_scripts.specs.declared.doing.Step.{Step}
use Rattle.cli_scripts.specs.declared.doing.Step.TheVariants.{Ended, Waits}
use Rattle.cli_scripts.specs.declared.doing.Doing.TheVariants.{Typing as Typed}
use Rattle.cli_scripts.specs.declared.doing.Typing.{Typing}
use Rattle.cli_scripts.specs.declared.came.Need.TheVariants.{Bytes}
use Rattle.cli_scripts.specs.Desks.{NamedHost, Worked, is_error, is_waiting}
use Rattle.cli_scripts.specs.Keying.{OnWaiting}
use Rattle.cli_scripts.specs.Pressing.{after_keys}
use Rattle.cli_scripts.specs.Says.{EndsSaying}
use Rattle.cli_scripts.specs.RunLaws.{IsSound, StandsSo}
use Rattle.cli_scripts.specs.Steps.{IsTypedLater}
use Rattle.cli_scripts.specs.TypedTexts.{goes_on, answer_of_piece, after_piece, after_pieces, keys_of_pieces, said_of_pieces, all_go_on, ArePieces, WentOn, StoppedAt, Cancels, TypedFree, TypesFree, TypesAt, TypesBy, TypesText, column_of, is_text, margin_keys, operator_said}
use Rattle.cli_scripts.proofs.SameSteps.{SameStep, later_alike, steps_alike}
use Rattle.cli_scripts.proofs.Sound.{at_host, listening}
use Rattle.cli_scripts.proofs.Typed.{pressed_once}

-- ---- pieces, up to where the typing stops

abbrev Chosen : Bool → Type 0 → Type 0 → Type 0
Chosen true A B = A
Chosen false A B = B

abbrev Run : CodePage → Bool → List ℕ → TerminalState → List ℕ → List Piece → List ℕ → Option Pressed → Type 0
Run page fills left state text [] rest stop = (text ≡ []) × (rest ≡ []) × (stop ≡ None)
Run page fills left state text (piece ∷ others) rest stop =
    (after : List ℕ) × (piece_at page text ≡ Some (piece, after))
    × Chosen (goes_on (answer_of_piece fills left state piece)) (Run page fills left (after_piece fills state piece) after others rest stop)
    ((others ≡ []) × (rest ≡ after) × (stop ≡ Some (answer_of_piece fills left state piece)))

abbrev AlikeRuns : List Piece → List Piece → List ℕ → List ℕ → Option Pressed → Option Pressed → Type 0
AlikeRuns pieces others rest also stop other = (pieces ≡ others) × (rest ≡ also) × (stop ≡ other)

more_alike : (piece : Piece) (pieces others : List Piece) (rest also : List ℕ) (stop other : Option Pressed) → AlikeRuns pieces others rest also stop other
    → AlikeRuns (piece ∷ pieces) (piece ∷ others) rest also stop other
more_alike piece pieces others rest also stop other (same, left, ends) = (ap (λ (ps : List Piece). piece ∷ ps) same, left, ends)

chosen_once : (b : Bool) (A B C D R : Type 0) → (A → C → R) → (B → D → R) → Chosen b A B → Chosen b C D → R
chosen_once true A B C D R on off p q = on p q
chosen_once false A B C D R on off p q = off p q

run_once : (page : CodePage) (fills : Bool) (left : List ℕ) (state : TerminalState) (text : List ℕ) (pieces others : List Piece) (rest also : List ℕ)
    (stop other : Option Pressed) → Run page fills left state text pieces rest stop → Run page fills left state text others also other
    → AlikeRuns pieces others rest also stop other
run_once page fills left state text [] [] rest also stop other (t, r, s) (u, q, v) = (refl, r ∙ sym q, s ∙ sym v)
run_once page fills left state text [] (piece ∷ others) rest also stop other (t, r, s) (after, is, on) =
    let never : ◌≡◌ {A = Option (Piece × List ℕ)} None (Some (piece, after)) = ap (piece_at page) (sym t) ∙ is in absurd cc
run_once page fills left state text (piece ∷ pieces) [] rest also stop other (after, is, on) (t, r, s) =
    let never : ◌≡◌ {A = Option (Piece × List ℕ)} None (Some (piece, after)) = ap (piece_at page) (sym t) ∙ is in absurd cc
run_once page fills left state text (piece ∷ pieces) (next ∷ others) rest also stop other (after, is, on) (behind, so, off) =
    let both : ◌≡◌ {A = Piece × List ℕ} (piece, after) (next, behind) = ap (λ (o : Option (Piece × List ℕ)). unwrap_or o (piece, after)) (sym is ∙ so) in
    let one : next ≡ piece = sym (ap (λ (z : Piece × List ℕ). z.0) both) in
    let then : behind ≡ after = sym (ap (λ (z : Piece × List ℕ). z.1) both) in
    let moved = subst (λ (z : List ℕ). Chosen (goes_on (answer_of_piece fills left state next)) (Run page fills left (after_piece fills state next) z others also other)
    ((others ≡ []) × (also ≡ z) × (other ≡ Some (answer_of_piece fills left state next)))) then off in
    let there = subst (λ (p : Piece). Chosen (goes_on (answer_of_piece fills left state p)) (Run page fills left (after_piece fills state p) after others also other)
    ((others ≡ []) × (also ≡ after) × (other ≡ Some (answer_of_piece fills left state p)))) one moved in
    subst (λ (p : Piece). AlikeRuns (piece ∷ pieces) (p ∷ others) rest also stop other) (sym one)
    (chosen_once (goes_on (answer_of_piece fills left state piece)) _ _ _ _ (AlikeRuns (piece ∷ pieces) (piece ∷ others) rest also stop other)
    (λ p q. more_alike piece pieces others rest also stop other
    (run_once page fills left (after_piece fills state piece) after pieces others rest also stop other p q))
    (λ p q. more_alike piece pieces others rest also stop other (p.0 ∙ sym q.0, p.1 ∙ sym q.1, p.2 ∙ sym q.2)) on there)

both_true : (a b : Bool) → (a && b) ≡ true → (a ≡ true) × (b ≡ true)
both_true true b is = (refl, is)
both_true false b is = absurd cc

went_run : (page : CodePage) (fills : Bool) (left : List ℕ) (state : TerminalState) (text : List ℕ) (typed : List Piece) → ArePieces page text typed []
    → all_go_on fills left state typed ≡ true → Run page fills left state text typed [] None
went_run page fills left state text [] are all = (are, refl, refl)
went_run page fills left state text (piece ∷ others) (after, is, are) all =
    let on = both_true (goes_on (answer_of_piece fills left state piece)) (all_go_on fills left (after_piece fills state piece) others) all in (
      after,
      is,
      subst (λ (b : Bool). Chosen b (Run page fills left (after_piece fills state piece) after others [] None)
          ((others ≡ []) × ([] ≡ after) × (None ≡ Some (answer_of_piece fills left state piece)))) (sym on.0)
          (went_run page fills left (after_piece fills state piece) after others are on.1),
    )

stopped_run : (page : CodePage) (fills : Bool) (left : List ℕ) (state : TerminalState) (text : List ℕ) (front : List Piece) (last : Piece) (rest : List ℕ)
    (answer : Pressed) → ArePieces page text (front ++ last ∷ []) rest → all_go_on fills left state front ≡ true
    → answer_of_piece fills left (after_pieces fills state front) last ≡ answer → goes_on answer ≡ false
    → Run page fills left state text (front ++ last ∷ []) rest (Some answer)
stopped_run page fills left state text [] last rest answer (after, is, are) all became stops = (
  after,
  is,
  subst (λ (b : Bool). Chosen b (Run page fills left (after_piece fills state last) after [] rest (Some answer))
      ((◌≡◌ {A = List Piece} [] []) × (rest ≡ after) × (Some answer ≡ Some (answer_of_piece fills left state last))))
      (sym (ap goes_on became ∙ stops)) (refl, sym are, ap Some (sym became)),
)
stopped_run page fills left state text (piece ∷ front) last rest answer (after, is, are) all became stops =
    let on = both_true (goes_on (answer_of_piece fills left state piece)) (all_go_on fills left (after_piece fills state piece) front) all in (
      after,
      is,
      subst (λ (b : Bool). Chosen b (Run page fills left (after_piece fills state piece) after (front ++ last ∷ []) rest (Some answer))
          ((front ++ last ∷ [] ≡ []) × (rest ≡ after) × (Some answer ≡ Some (answer_of_piece fills left state piece)))) (sym on.0)
          (stopped_run page fills left (after_piece fills state piece) after front last rest answer are on.1 became stops),
    )

-- ---- a text at a keyboard that is free

-- how it ends: at its end, after a key that sent, or at one that was inhibited
abbrev EndsBy : Bool → ℕ → TerminalState → List Piece → List ℕ → Option Pressed → Step → List Deed → List Deed → List ℕ → List ℕ → Type 0
EndsBy fills column state typed rest None step old new before after =
    (new ≡ (old ++ map PressedKey (keys_of_pieces fills state typed))
    ++ map PressedKey (margin_keys (margin_run (after_pieces fills state typed).terminal column)))
    × (after ≡ before ++ said_of_pieces typed) × (step ≡ Ended outcomes.Done)
EndsBy fills column state typed rest (Some Sent) step old new before after =
    (new ≡ old ++ map PressedKey (keys_of_pieces fills state typed)) × (after ≡ before ++ said_of_pieces typed) × IsTypedLater rest step
EndsBy fills column state typed rest (Some Inhibited) step old new before after =
    (new ≡ old ++ map PressedKey (keys_of_pieces fills state typed)) × EndsSaying operator_said step (before ++ said_of_pieces typed) after
EndsBy fills column state typed rest stop step old new before after = ⊥

abbrev RunsFree : CodePage → Bool → ℕ → List ℕ → TerminalState → Step → List ℕ → List Deed → List Deed → List ℕ → List ℕ → Type 0
RunsFree page fills column left state step text old new before after =
    (typed : List Piece) × (rest : List ℕ) × (stop : Option Pressed) × Run page fills left state text typed rest stop
    × EndsBy fills column state typed rest stop step old new before after

-- what a text leads to in all
abbrev pub SameText : Step → Step → List Deed → List Deed → List ℕ → List ℕ → Type 0
SameText step other new newer after also = SameStep step other × (new ≡ newer) × (after ≡ also)

ends_once : (fills : Bool) (column : ℕ) (state : TerminalState) (typed : List Piece) (rest : List ℕ) (stop : Option Pressed) (step other : Step)
    (old new newer : List Deed) (before after also : List ℕ) → EndsBy fills column state typed rest stop step old new before after
    → EndsBy fills column state typed rest stop other old newer before also → SameText step other new newer after also
ends_once fills column state typed rest None step other old new newer before after also (d, s, e) (d2, s2, e2) =
    (steps_alike step other (Ended outcomes.Done) e e2, d ∙ sym d2, s ∙ sym s2)
ends_once fills column state typed rest (Some Sent) step other old new newer before after also (d, s, e) (d2, s2, e2) =
    (later_alike rest step other e e2, d ∙ sym d2, s ∙ sym s2)
ends_once fills column state typed rest (Some Inhibited) step other old new newer before after also (d, e) (d2, e2) =
    (steps_alike step other (Ended outcomes.Failed) e.0 e2.0, d ∙ sym d2, e.1 ∙ sym e2.1)
ends_once fills column state typed rest (Some Done) step other old new newer before after also p q = absurd p
ends_once fills column state typed rest (Some Ignored) step other old new newer before after also p q = absurd p

frees_once : (page : CodePage) (fills : Bool) (column : ℕ) (left : List ℕ) (state : TerminalState) (step other : Step) (text : List ℕ)
    (old new newer : List Deed) (before after also : List ℕ) → RunsFree page fills column left state step text old new before after
    → RunsFree page fills column left state other text old newer before also → SameText step other new newer after also
frees_once page fills column left state step other text old new newer before after also (typed, rest, stop, run, ends) (pieces, more, halt, runs, stops) =
    let same = run_once page fills left state text typed pieces rest more stop halt run runs in
    let a = subst (λ (z : List Piece). EndsBy fills column state z more halt other old newer before also) (sym same.0) stops in
    let b = subst (λ (z : List ℕ). EndsBy fills column state typed z halt other old newer before also) (sym same.1) a in
    let c = subst (λ (z : Option Pressed). EndsBy fills column state typed rest z other old newer before also) (sym same.2) b in
    ends_once fills column state typed rest stop step other old new newer before after also ends c

-- what a terminal does after a front of a text
returned : (talk : Talk TerminalState) (state : TerminalState) (left : List ℕ) (P : TerminalState → Type 0) → talk ≡ stands (waits state left)
    → OnWaiting talk P → P state
returned talk state left P is holds = subst (λ (t : Talk TerminalState). OnWaiting t P) is holds

runs_free : (page : CodePage) (fills : Bool) (column : ℕ) (left : List ℕ) (state : TerminalState) (step : Step) (text : List ℕ) (old new : Worked)
    (before after : List ℕ) → old.talk ≡ stands (waits state left) → TypedFree page fills column step text old new before after
    → RunsFree page fills column left state step text old.deeds new.deeds before after
runs_free page fills column left state step text old new before after is (inl (mid, went, returns, ends)) =
    let (typed, are, all, did) = subst (λ (t : Talk TerminalState). WentOn page fills t text [] old mid before after) is went in
    let more = returned mid.talk (after_pieces fills state typed) left
    (λ s. (new.deeds ≡ mid.deeds ++ map PressedKey (margin_keys (margin_run s.terminal column))) × (new.talk ≡ after_keys mid.talk (margin_keys (margin_run s.terminal column)))) did.1 returns in (
      typed,
      [],
      None,
      went_run page fills left state text typed are all,
      (more.0 ∙ ap (λ z. z ++ map PressedKey (margin_keys (margin_run (after_pieces fills state typed).terminal column))) did.0, did.2, ends),
    )
runs_free page fills column left state step text old new before after is (inr (inl (rest, stopped, later))) =
    let (front, last, are, all, became, did) = subst (λ (t : Talk TerminalState). StoppedAt page fills t Sent text rest old new before after) is stopped in (
      front ++ last ∷ [],
      rest,
      Some Sent,
      stopped_run page fills left state text front last rest Sent are all became refl,
      (did.0, did.2, later),
    )
runs_free page fills column left state step text old new before after is (inr (inr (rest, said, stopped, ends))) =
    let (front, last, are, all, became, did) = subst (λ (t : Talk TerminalState). StoppedAt page fills t Inhibited text rest old new before said) is stopped in (
      front ++ last ∷ [],
      rest,
      Some Inhibited,
      stopped_run page fills left state text front last rest Inhibited are all became refl,
      (did.0, subst (λ (z : List ℕ). EndsSaying operator_said step z after) did.2 ends),
    )

free_once : (page : CodePage) (fills : Bool) (left : List ℕ) (state : TerminalState) (step other : Step) (text : List ℕ) (old new newer : Worked)
    (before after also : List ℕ) → old.talk ≡ stands (waits state left) → TypesFree page fills step text old new before after
    → TypesFree page fills other text old newer before also → SameText step other new.deeds newer.deeds after also
free_once page fills left state step other text old new newer before after also is (column, here, typed) (place, there, types) =
    let one : column ≡ column_of state.terminal = subst (λ (t : Talk TerminalState). OfStanding (λ s. column_of s.terminal) t column) is here in
    let two : place ≡ column_of state.terminal = subst (λ (t : Talk TerminalState). OfStanding (λ s. column_of s.terminal) t place) is there in
    frees_once page fills column left state step other text old.deeds new.deeds newer.deeds before after also
    (runs_free page fills column left state step text old new before after is typed)
    (runs_free page fills column left state other text old newer before also is
    (subst (λ (n : ℕ). TypedFree page fills n other text old newer before also) (two ∙ sym one) types))

-- ---- a whole text

cancels_once : (b : Bool) (step other : Step) (before after also : List ℕ) → Cancels b step before after → Cancels b other before also
    → SameStep step other × (after ≡ also)
cancels_once true step other before after also (is, says) (so, tells) = (steps_alike step other (Ended outcomes.Failed) is so, says ∙ sym tells)
cancels_once false step other before after also (is, says) (so, tells) = (steps_alike step other (Ended outcomes.Done) is so, says ∙ sym tells)

typing_once : (w f : Bool) (page : CodePage) (fills : Bool) (left : List ℕ) (state : TerminalState) (typing texting : Typing) (step other : Step)
    (old new newer : Worked) (before after also : List ℕ) → typing.text.items ≡ texting.text.items → typing.after_send ≡ texting.after_send
    → old.talk ≡ stands (waits state left) → TypesBy w f page fills typing step old new before after → TypesBy w f page fills texting other old newer before also
    → SameText step other new.deeds newer.deeds after also
typing_once true f page fills left state typing texting step other old new newer before after also same sends is (s, d, t) (s2, d2, t2) =
    (subst (λ (x : Step). SameStep x other) (sym s) (subst (λ (y : Step). SameStep (Waits (Typed typing) Bytes) y) (sym s2) ((same, sends), refl)), d ∙ sym d2, t ∙ sym t2)
typing_once false true page fills left state typing texting step other old new newer before after also same sends is (s, d) (s2, d2) =
    (steps_alike step other (Ended outcomes.Failed) s.0 s2.0, d ∙ sym d2, s.1 ∙ sym s2.1)
typing_once false false page fills left state typing texting step other old new newer before after also same sends is p q =
    free_once page fills left state step other typing.text.items old new newer before after also is p
    (subst (λ (z : List ℕ). TypesFree page fills other z old newer before also) (sym same) q)

text_at : (host : Option NamedHost) (page : CodePage) (fills : Bool) (typing texting : Typing) (step other : Step)
    (old new newer : Worked) (before after also : List ℕ) → typing.text.items ≡ texting.text.items → typing.after_send ≡ texting.after_send
    → StandsSo host old.talk → TypesAt host page fills typing step old new before after → TypesAt host page fills texting other old newer before also
    → SameText step other new.deeds newer.deeds after also
text_at None page fills typing texting step other old new newer before after also same sends sound (c, d) (c2, d2) =
    let one = cancels_once (is_text typing.text.items) step other before after also c
    (subst (λ (z : List ℕ). Cancels (is_text z) other before also) (sym same) c2) in (one.0, d ∙ sym d2, one.1)
text_at (Some host) page fills typing texting step other old new newer before after also same sends sound p q =
    let (state, left, is) = listening old.talk (at_host host old.talk sound) in
    let here = returned old.talk state left
    (λ s. TypesBy (is_waiting s.terminal.lock) (is_error s.terminal.lock && is_text typing.text.items) page fills typing step old new before after) is p in
    let there = returned old.talk state left
    (λ s. TypesBy (is_waiting s.terminal.lock) (is_error s.terminal.lock && is_text texting.text.items) page fills texting other old newer before also) is q in
    typing_once (is_waiting state.terminal.lock) (is_error state.terminal.lock && is_text typing.text.items) page fills left state typing texting step other
    old new newer before after also same sends is here
    (subst (λ (z : List ℕ). TypesBy (is_waiting state.terminal.lock) (is_error state.terminal.lock && is_text z) page fills texting other old newer before also)
    (sym same) there)

-- of texts that are the same, at a terminal at which keys alone are pressed
pub text_once : (page : CodePage) (fills : Bool) (typing texting : Typing) (step other : Step)
    (old new newer : Worked) (before after also : List ℕ) → typing.text.items ≡ texting.text.items → typing.after_send ≡ texting.after_send
    → IsSound old → PressesOnly old new → PressesOnly old newer
    → TypesText page fills typing step old new before after → TypesText page fills texting other old newer before also
    → SameStep step other × (new ≡ newer) × (after ≡ also)
text_once page fills typing texting step other old new newer before after also same sends sound only alone p q =
    let all = text_at old.host page fills typing texting step other old new newer before after also same sends sound p q in
    (all.0, pressed_once old new newer only alone all.1, all.2)
