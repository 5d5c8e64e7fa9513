-- Pieces of a text that are typed, one after the other.
use Rattle.std.proofs.Common.{◌≡◌, ℕ, Bool, true, false, ◌&&◌, List, [], ◌∷◌, ◌++◌, map, Option, Some, None, refl, sym, ap, ◌∙◌, append_assoc, subst}
use Rattle.std.proofs.lemmas.List.{append-nil, map-append}
use Rattle.ds_keys.specs.declared.key.Key.{Key}
use Rattle.script_screens.specs.declared.code_page.CodePage.{CodePage}
use Rattle.script_screens.specs.declared.pieces.Piece.{Piece}
use Rattle.script_screens.specs.Pieces.{piece_at}
use Rattle.tn_session.specs.declared.pressed.Pressed.{Pressed}
use Rattle.tn_session.specs.declared.terminal_state.TerminalState.{TerminalState}
use Rattle.tn_session.specs.OneLog.{waits, is_over, has_failed, is_at_fault}
use Rattle.tn_session.specs.Strikes.{by_key}
use Rattle.tn_session.specs.Talk.{Talk, stands, starved}
use Rattle.std.specs.Prelude.{is_some}
use Rattle.tn_session.specs.TerminalTalk.{OfStanding, worked}
use Rattle.cli_scripts.specs.declared.doing.Step.{Step}
use Rattle.cli_scripts.specs.declared.doing.Typing.{Typing}
use Rattle.cli_scripts.specs.declared.deed.Deed.TheVariants.{Pressed as PressedKey}
use Rattle.cli_scripts.specs.Desks.{NamedHost, Worked, is_error, is_waiting}
use Rattle.cli_scripts.specs.Keying.{OnWaiting}
use Rattle.cli_scripts.specs.Pressing.{after_keys}
use Rattle.cli_scripts.specs.TypedTexts.{piece_keys, piece_answer, piece_said, state_after, after_piece, goes_on, answer_of_piece, after_pieces, keys_of_pieces, said_of_pieces, all_go_on, ArePieces, TypedPieces, WentOn, StoppedAt, is_text, TypesAt, TypesBy, TypesText}

-- a session that waits goes on waiting
waits_on : (state : TerminalState) (left : List ℕ) (keys : List Key) → after_keys (stands (waits state left)) keys ≡ stands (waits (state_after state keys) left)
waits_on state left [] = refl
waits_on state left (key ∷ keys) = waits_on (worked state (by_key key)).state left keys

more_pieces : (page : CodePage) (text : List ℕ) (typed : List Piece) (rest : List ℕ) (piece : Piece) (after : List ℕ) → ArePieces page text typed rest
    → piece_at page rest ≡ Some (piece, after) → ArePieces page text (typed ++ piece ∷ []) after
more_pieces page text [] rest piece after is next = (after, ap (piece_at page) is ∙ next, refl)
more_pieces page text (one ∷ typed) rest piece after (behind, is, others) next = (behind, is, more_pieces page behind typed rest piece after others next)

after_more : (fills : Bool) (state : TerminalState) (typed : List Piece) (piece : Piece)
    → after_pieces fills state (typed ++ piece ∷ []) ≡ after_piece fills (after_pieces fills state typed) piece
after_more fills state [] piece = refl
after_more fills state (one ∷ typed) piece = after_more fills (after_piece fills state one) typed piece

keys_more : (fills : Bool) (state : TerminalState) (typed : List Piece) (piece : Piece)
    → keys_of_pieces fills state (typed ++ piece ∷ []) ≡ keys_of_pieces fills state typed ++ piece_keys fills (after_pieces fills state typed) piece
keys_more fills state [] piece = append-nil (piece_keys fills state piece)
keys_more fills state (one ∷ typed) piece =
    ap (λ z. piece_keys fills state one ++ z) (keys_more fills (after_piece fills state one) typed piece)
    ∙ sym (append_assoc (piece_keys fills state one) (keys_of_pieces fills (after_piece fills state one) typed)
    (piece_keys fills (after_pieces fills (after_piece fills state one) typed) piece))

said_more : (typed : List Piece) (piece : Piece) → said_of_pieces (typed ++ piece ∷ []) ≡ said_of_pieces typed ++ piece_said piece
said_more [] piece = append-nil (piece_said piece)
said_more (one ∷ typed) piece =
    ap (λ z. piece_said one ++ z) (said_more typed piece) ∙ sym (append_assoc (piece_said one) (said_of_pieces typed) (piece_said piece))

and_assoc : (a b c : Bool) → (a && (b && c)) ≡ ((a && b) && c)
and_assoc true b c = refl
and_assoc false b c = refl

and_all : (a : Bool) → (a && true) ≡ a
and_all true = refl
and_all false = refl

all_more : (fills : Bool) (left : List ℕ) (state : TerminalState) (typed : List Piece) (piece : Piece)
    → all_go_on fills left state (typed ++ piece ∷ []) ≡ (all_go_on fills left state typed && goes_on (answer_of_piece fills left (after_pieces fills state typed) piece))
all_more fills left state [] piece = and_all (goes_on (answer_of_piece fills left state piece))
all_more fills left state (one ∷ typed) piece =
    ap (λ z. goes_on (answer_of_piece fills left state one) && z) (all_more fills left (after_piece fills state one) typed piece)
    ∙ and_assoc (goes_on (answer_of_piece fills left state one)) (all_go_on fills left (after_piece fills state one) typed)
    (goes_on (answer_of_piece fills left (after_pieces fills (after_piece fills state one) typed) piece))

-- one piece more was typed
typed_more : (fills : Bool) (left : List ℕ) (state : TerminalState) (typed : List Piece) (piece : Piece) (old mid new : Worked) (before between after : List ℕ)
    → TypedPieces fills left state typed old mid before between
    → new.deeds ≡ mid.deeds ++ map PressedKey (piece_keys fills (after_pieces fills state typed) piece)
    → new.talk ≡ after_keys (stands (waits (after_pieces fills state typed) left)) (piece_keys fills (after_pieces fills state typed) piece)
    → after ≡ between ++ piece_said piece → TypedPieces fills left state (typed ++ piece ∷ []) old new before after
typed_more fills left state typed piece old mid new before between after (did, stands_so, said) does leads says =
    let now = after_pieces fills state typed in (
      does ∙ ap (λ z. z ++ map PressedKey (piece_keys fills now piece)) did
          ∙ append_assoc old.deeds (map PressedKey (keys_of_pieces fills state typed)) (map PressedKey (piece_keys fills now piece))
          ∙ ap (λ z. old.deeds ++ z) (sym (map-append PressedKey (keys_of_pieces fills state typed) (piece_keys fills now piece))
          ∙ ap (map PressedKey) (sym (keys_more fills state typed piece))),
      leads ∙ waits_on now left (piece_keys fills now piece) ∙ ap (λ (s : TerminalState). stands (waits s left)) (sym (after_more fills state typed piece)),
      says ∙ ap (λ z. z ++ piece_said piece) said ∙ append_assoc before (said_of_pieces typed) (piece_said piece)
          ∙ ap (λ z. before ++ z) (sym (said_more typed piece)),
    )

-- what holds at the session that a front leaves
at_front : (talk : Talk TerminalState) (state : TerminalState) (left : List ℕ) (P : Talk TerminalState → TerminalState → Type 0) → talk ≡ stands (waits state left)
    → OnWaiting talk (λ s. P talk s) → P (stands (waits state left)) state
at_front talk state left P is holds = subst (λ (t : Talk TerminalState). OnWaiting t (λ s. P t s)) is holds

-- what a piece does after a front, whatever became of it
pub piece_after : (page : CodePage) (fills : Bool) (talk : Talk TerminalState) (text rest after : List ℕ) (piece : Piece) (answer : Pressed) (old mid new : Worked)
    (before between said : List ℕ)
    → WentOn page fills talk text rest old mid before between → piece_at page rest ≡ Some (piece, after)
    → OnWaiting mid.talk (λ s. new.deeds ≡ mid.deeds ++ map PressedKey (piece_keys fills s piece))
    → OnWaiting mid.talk (λ s. new.talk ≡ after_keys mid.talk (piece_keys fills s piece))
    → OnWaiting mid.talk (λ s. answer ≡ piece_answer fills mid.talk s piece) → said ≡ between ++ piece_said piece
    → StoppedAt page fills talk answer text after old new before said
piece_after page fills (stands (waits state left)) text rest after piece answer old mid new before between said (typed, are, all, done) next does leads is says =
    let now = after_pieces fills state typed in
    let here : mid.talk ≡ stands (waits now left) = done.1 in (
      typed,
      piece,
      more_pieces page text typed rest piece after are next,
      all,
      sym (at_front mid.talk now left (λ t s. answer ≡ piece_answer fills t s piece) here is),
      typed_more fills left state typed piece old mid new before between said done
          (at_front mid.talk now left (λ t s. new.deeds ≡ mid.deeds ++ map PressedKey (piece_keys fills s piece)) here does)
          (at_front mid.talk now left (λ t s. new.talk ≡ after_keys t (piece_keys fills s piece)) here leads) says,
    )
piece_after page fills (stands (is_over end)) text rest after piece answer old mid new before between said went next does leads is says = tt
piece_after page fills (stands (has_failed why end)) text rest after piece answer old mid new before between said went next does leads is says = tt
piece_after page fills (stands (is_at_fault fault end)) text rest after piece answer old mid new before between said went next does leads is says = tt
piece_after page fills starved text rest after piece answer old mid new before between said went next does leads is says = tt

-- after one that lets the next be typed the front is longer
pub goes_further : (page : CodePage) (fills : Bool) (talk : Talk TerminalState) (text rest : List ℕ) (answer : Pressed) (old new : Worked) (before said : List ℕ)
    → StoppedAt page fills talk answer text rest old new before said → goes_on answer ≡ true → WentOn page fills talk text rest old new before said
goes_further page fills (stands (waits state left)) text rest answer old new before said (front, last, are, all, became, done) on = (
  front ++ last ∷ [],
  are,
  all_more fills left state front last ∙ ap (λ b. b && goes_on (answer_of_piece fills left (after_pieces fills state front) last)) all ∙ ap goes_on became ∙ on,
  done,
)
goes_further page fills (stands (is_over end)) text rest answer old new before said stopped on = tt
goes_further page fills (stands (has_failed why end)) text rest answer old new before said stopped on = tt
goes_further page fills (stands (is_at_fault fault end)) text rest answer old new before said stopped on = tt
goes_further page fills starved text rest answer old new before said stopped on = tt

-- nothing was typed yet
pub went_nowhere : (page : CodePage) (fills : Bool) (text : List ℕ) (old : Worked) (before : List ℕ) → WentOn page fills old.talk text text old old before before
went_nowhere page fills text old before = nowhere old.talk refl where
  nowhere : (talk : Talk TerminalState) → old.talk ≡ talk → WentOn page fills talk text text old old before before
  nowhere (stands (waits state left)) is = ([], refl, refl, (sym (append-nil old.deeds), is, sym (append-nil before)))
  nowhere (stands (is_over end)) is = tt
  nowhere (stands (has_failed why end)) is = tt
  nowhere (stands (is_at_fault fault end)) is = tt
  nowhere starved is = tt

-- ---- a whole text

pub text_waits : (host : Option NamedHost) (b : Bool) (page : CodePage) (fills : Bool) (typing : Typing) (step : Step) (old new : Worked) (before after : List ℕ)
    → old.host ≡ host → is_some host ≡ true → OfStanding (λ state. is_waiting state.terminal.lock) old.talk b → b ≡ true
    → TypesBy true false page fills typing step old new before after → TypesText page fills typing step old new before after
text_waits None b page fills typing step old new before after is some here did holds = absurd cc
text_waits (Some host) b page fills typing step old new before after is some here did holds =
    subst (λ (h : Option NamedHost). TypesAt h page fills typing step old new before after) (sym is) (chosen old.talk here) where
      chosen : (talk : Talk TerminalState) → OfStanding (λ state. is_waiting state.terminal.lock) talk b
          → OnWaiting talk (λ state. TypesBy (is_waiting state.terminal.lock) (is_error state.terminal.lock && is_text typing.text.items) page fills typing step old new before after)
      chosen (stands (waits state left)) so =
          subst (λ z. TypesBy z (is_error state.terminal.lock && is_text typing.text.items) page fills typing step old new before after) (sym did ∙ so) holds
      chosen (stands (is_over end)) so = tt
      chosen (stands (has_failed why end)) so = tt
      chosen (stands (is_at_fault fault end)) so = tt
      chosen starved so = tt

pub text_goes : (host : Option NamedHost) (b e fails : Bool) (page : CodePage) (fills : Bool) (typing : Typing) (step : Step) (old new : Worked) (before after : List ℕ)
    → old.host ≡ host → is_some host ≡ true → OfStanding (λ state. is_waiting state.terminal.lock) old.talk b → b ≡ false
    → OfStanding (λ state. is_error state.terminal.lock) old.talk e → (e && is_text typing.text.items) ≡ fails
    → TypesBy false fails page fills typing step old new before after → TypesText page fills typing step old new before after
text_goes None b e fails page fills typing step old new before after is some here free error test holds = absurd cc
text_goes (Some host) b e fails page fills typing step old new before after is some here free error test holds =
    subst (λ (h : Option NamedHost). TypesAt h page fills typing step old new before after) (sym is) (chosen old.talk here error) where
      chosen : (talk : Talk TerminalState) → OfStanding (λ state. is_waiting state.terminal.lock) talk b → OfStanding (λ state. is_error state.terminal.lock) talk e
          → OnWaiting talk (λ state. TypesBy (is_waiting state.terminal.lock) (is_error state.terminal.lock && is_text typing.text.items) page fills typing step old new before after)
      chosen (stands (waits state left)) so wrong =
          subst (λ z. TypesBy z (is_error state.terminal.lock && is_text typing.text.items) page fills typing step old new before after) (sym free ∙ so)
          (subst (λ z. TypesBy false z page fills typing step old new before after) (sym test ∙ ap (λ z. z && is_text typing.text.items) wrong) holds)
      chosen (stands (is_over end)) so wrong = tt
      chosen (stands (has_failed why end)) so wrong = tt
      chosen (stands (is_at_fault fault end)) so wrong = tt
      chosen starved so wrong = tt
