-- What a text types, piece by piece.
use Rattle.std.specs.Prelude.{◌≡◌, ◌⊎◌, ◌==◌, ◌%◌, ℕ, Bool, true, false, ◌&&◌, map, List, [], ◌∷◌, ◌++◌, codes, Option, Some, None, Result, Ok, if◌then◌else◌}
use Rattle.std.specs.List.{concat}
use Rattle.ds_keys.specs.declared.key.Key.{Key}
use Rattle.script_screens.specs.declared.code_page.CodePage.{CodePage}
use Rattle.script_screens.specs.declared.pieces.Piece.{Piece}
use Rattle.script_screens.specs.declared.pieces.Piece.TheVariants as pieces
use Rattle.ds_screen.specs.Picture.{Picture}
use Rattle.script_keys.specs.Actions.{Action, other}
use Rattle.script_keys.specs.Faults.{Fault}
use Rattle.script_keys.specs.declared.run.Run.{Run}
use Rattle.script_keys.specs.Runs.{keys_of}
use Rattle.script_keys.specs.Steps.{margin_run}
use Rattle.script_screens.specs.declared.lines.Outcome.TheVariants as outcomes
use Rattle.script_screens.specs.Lines.{Said, data_line, failed}
use Rattle.script_screens.specs.Pieces.{fault_words, piece_at}
use Rattle.tn_session.specs.declared.pressed.Pressed.{Pressed}
use Rattle.tn_session.specs.declared.pressed.Pressed.TheVariants.{Done, Inhibited, Ignored, Sent}
use Rattle.tn_session.specs.declared.terminal_state.TerminalState.{TerminalState}
use Rattle.tn_session.specs.OneLog.{waits}
use Rattle.tn_session.specs.Strikes.{by_key}
use Rattle.tn_session.specs.Talk.{Talk, stands}
use Rattle.tn_session.specs.TerminalTalk.{OfStanding, worked}
use Rattle.cli_scripts.specs.declared.deed.Deed.TheVariants.{Pressed as PressedKey}
use Rattle.cli_scripts.specs.Acts.{pressed_key}
use Rattle.cli_scripts.specs.Desks.{NamedHost, Worked, is_error, is_waiting}
use Rattle.cli_scripts.specs.declared.typing.Stop.{Stop}
use Rattle.cli_scripts.specs.declared.typing.Stop.TheVariants as stops
use Rattle.cli_scripts.specs.declared.came.Need.TheVariants.{Bytes}
use Rattle.cli_scripts.specs.declared.doing.Doing.TheVariants.{Typing as Typed}
use Rattle.cli_scripts.specs.declared.doing.Step.{Step}
use Rattle.cli_scripts.specs.declared.doing.Step.TheVariants.{Ended, Waits}
use Rattle.cli_scripts.specs.declared.doing.Typing.{Typing}
use Rattle.cli_scripts.specs.declared.kind.Kind.{Kind}
use Rattle.cli_scripts.specs.declared.kind.Kind.TheVariants.{Types}
use Rattle.cli_scripts.specs.declared.worker.Worker.{Worker}
use Rattle.cli_scripts.specs.Answers.{printed_text}
use Rattle.cli_scripts.specs.Kinds.{kind_of}
use Rattle.cli_scripts.specs.Keying.{OnWaiting, code_keys}
use Rattle.cli_scripts.specs.Says.{EndsSaying}
use Rattle.cli_scripts.specs.Steps.{IsTypedLater}
use Rattle.cli_scripts.specs.Pressing.{after_keys, answer_to, any_inhibited}

abbrev pub key_list : Option Key → List Key
key_list None = []
key_list (Some key) = key ∷ []

-- the keys of a piece at a terminal
abbrev pub piece_keys : Bool → TerminalState → Piece → List Key
piece_keys fills state (pieces.Character code) = code_keys fills code state
piece_keys fills state (pieces.Key key) = key_list (pressed_key key)
piece_keys fills state piece = []

abbrev pub inhibited_or_done : Bool → Pressed
inhibited_or_done true = Inhibited
inhibited_or_done false = Done

abbrev pub key_answer : Talk TerminalState → Option Key → Pressed
key_answer talk None = Ignored
key_answer talk (Some key) = answer_to talk key

-- what becomes of them
abbrev pub piece_answer : Bool → Talk TerminalState → TerminalState → Piece → Pressed
piece_answer fills talk state (pieces.Character code) = inhibited_or_done (any_inhibited talk (code_keys fills code state))
piece_answer fills talk state (pieces.Key key) = key_answer talk (pressed_key key)
piece_answer fills talk state piece = Done

-- what is said of a piece
abbrev pub piece_said : Piece → List ℕ
piece_said (pieces.Fault fault) = data_line (codes "String(): " ++ fault_words fault)
piece_said piece = []

-- ---- pieces, one after the other

-- the terminal after keys
abbrev pub state_after : TerminalState → List Key → TerminalState
state_after state [] = state
state_after state (key ∷ keys) = state_after (worked state (by_key key)).state keys

abbrev pub after_piece : Bool → TerminalState → Piece → TerminalState
after_piece fills state piece = state_after state (piece_keys fills state piece)

-- the next piece is typed after a key that was done or ignored
abbrev pub goes_on : Pressed → Bool
goes_on Done = true
goes_on Ignored = true
goes_on Inhibited = false
goes_on Sent = false

abbrev pub answer_of_piece : Bool → List ℕ → TerminalState → Piece → Pressed
answer_of_piece fills left state piece = piece_answer fills (stands (waits state left)) state piece

abbrev pub after_pieces : Bool → TerminalState → List Piece → TerminalState
after_pieces fills state [] = state
after_pieces fills state (piece ∷ others) = after_pieces fills (after_piece fills state piece) others

abbrev pub keys_of_pieces : Bool → TerminalState → List Piece → List Key
keys_of_pieces fills state [] = []
keys_of_pieces fills state (piece ∷ others) = piece_keys fills state piece ++ keys_of_pieces fills (after_piece fills state piece) others

abbrev pub said_of_pieces : List Piece → List ℕ
said_of_pieces [] = []
said_of_pieces (piece ∷ others) = piece_said piece ++ said_of_pieces others

abbrev pub all_go_on : Bool → List ℕ → TerminalState → List Piece → Bool
all_go_on fills left state [] = true
all_go_on fills left state (piece ∷ others) =
    goes_on (answer_of_piece fills left state piece) && all_go_on fills left (after_piece fills state piece) others

-- a text is these pieces, and then this rest
abbrev pub ArePieces : CodePage → List ℕ → List Piece → List ℕ → Type 0
ArePieces page text [] rest = text ≡ rest
ArePieces page text (piece ∷ others) rest =
    (after : List ℕ) × (piece_at page text ≡ Some (piece, after)) × ArePieces page after others rest

-- These pieces were typed, in turn, and nothing else.
abbrev pub TypedPieces : Bool → List ℕ → TerminalState → List Piece → Worked → Worked → List ℕ → List ℕ → Type 0
TypedPieces fills left state typed old new before after =
    (new.deeds ≡ old.deeds ++ map PressedKey (keys_of_pieces fills state typed))
    × (new.talk ≡ stands (waits (after_pieces fills state typed) left))
    × (after ≡ before ++ said_of_pieces typed)

-- A front of a text was typed, and each piece of it lets the next be typed.
abbrev pub WentOn : CodePage → Bool → Talk TerminalState → List ℕ → List ℕ → Worked → Worked → List ℕ → List ℕ → Type 0
WentOn page fills (stands (waits state left)) text rest old new before after =
    (typed : List Piece) × ArePieces page text typed rest × (all_go_on fills left state typed ≡ true)
    × TypedPieces fills left state typed old new before after
WentOn page fills talk text rest old new before after = Unit {0}

-- The same, and then a piece of which this became.
abbrev pub StoppedAt : CodePage → Bool → Talk TerminalState → Pressed → List ℕ → List ℕ → Worked → Worked → List ℕ → List ℕ → Type 0
StoppedAt page fills (stands (waits state left)) answer text rest old new before after =
    (front : List Piece) × (last : Piece) × ArePieces page text (front ++ last ∷ []) rest × (all_go_on fills left state front ≡ true)
    × (answer_of_piece fills left (after_pieces fills state front) last ≡ answer)
    × TypedPieces fills left state (front ++ last ∷ []) old new before after
StoppedAt page fills talk answer text rest old new before after = Unit {0}

-- where the typing of a text stops: at its end, after a key that sent, or at one that was inhibited
abbrev pub Stops : Stop → CodePage → Bool → Talk TerminalState → List ℕ → Worked → Worked → List ℕ → List ℕ → Type 0
Stops stops.End page fills talk text old new before after = WentOn page fills talk text [] old new before after
Stops (stops.Sent rest) page fills talk text old new before after = StoppedAt page fills talk Sent text rest.now old new before after
Stops stops.Inhibited page fills talk text old new before after =
    (rest : List ℕ) × StoppedAt page fills talk Inhibited text rest old new before after

-- ---- a whole text, at a keyboard that is free

abbrev pub operator_said : Said
operator_said = record { texts = printed_text (codes "Keyboard locked") ∷ printed_text (codes "Operator error") ∷ []; outcome = outcomes.Failed }

abbrev pub column_of : Picture → ℕ
column_of v = if v.size.cols == 0 then 0 else v.cursor % v.size.cols

abbrev pub margin_keys : Option Run → List Key
margin_keys None = []
margin_keys (Some run) = keys_of (run ∷ [])

-- the cursor is led to a column of its row, where it stands before it
abbrev pub ReturnsTo : ℕ → Worked → Worked → Type 0
ReturnsTo column old new =
    OnWaiting old.talk (λ state. (new.deeds ≡ old.deeds ++ map PressedKey (margin_keys (margin_run state.terminal column)))
    × (new.talk ≡ after_keys old.talk (margin_keys (margin_run state.terminal column))))

-- At its end the cursor returns to the column at which it began. After a key that sent the rest waits for the host. At a key that was
-- inhibited it fails.
abbrev pub TypedFree : CodePage → Bool → ℕ → Step → List ℕ → Worked → Worked → List ℕ → List ℕ → Type 0
TypedFree page fills column step text old new before after =
    ((mid : Worked) × WentOn page fills old.talk text [] old mid before after × ReturnsTo column mid new × (step ≡ Ended outcomes.Done))
    ⊎ (((rest : List ℕ) × StoppedAt page fills old.talk Sent text rest old new before after × IsTypedLater rest step)
    ⊎ ((rest : List ℕ) × (said : List ℕ) × StoppedAt page fills old.talk Inhibited text rest old new before said
    × EndsSaying operator_said step said after))

-- The column is that at which the cursor stood.
abbrev pub TypesFree : CodePage → Bool → Step → List ℕ → Worked → Worked → List ℕ → List ℕ → Type 0
TypesFree page fills step text old new before after =
    (column : ℕ) × OfStanding (λ state. column_of state.terminal) old.talk column × TypedFree page fills column step text old new before after

-- ---- a whole text

abbrev pub is_text : List ℕ → Bool
is_text [] = false
is_text (byte ∷ bytes) = true

-- While the keyboard waits the text does too, and after an operator's error it fails.
abbrev pub TypesBy : Bool → Bool → CodePage → Bool → Typing → Step → Worked → Worked → List ℕ → List ℕ → Type 0
TypesBy true fails page fills typing step old new before after = (step ≡ Waits (Typed typing) Bytes) × (new.deeds ≡ old.deeds) × (after ≡ before)
TypesBy false true page fills typing step old new before after =
    EndsSaying (failed (printed_text (codes "Operator error"))) step before after × (new.deeds ≡ old.deeds)
TypesBy false false page fills typing step old new before after = TypesFree page fills step typing.text.items old new before after

-- what is said of a text without a host
abbrev pub Cancels : Bool → Step → List ℕ → List ℕ → Type 0
Cancels true step before after = EndsSaying (failed (printed_text (codes "Canceled"))) step before after
Cancels false step before after = (step ≡ Ended outcomes.Done) × (after ≡ before)

abbrev pub TypesAt : Option NamedHost → CodePage → Bool → Typing → Step → Worked → Worked → List ℕ → List ℕ → Type 0
TypesAt None page fills typing step old new before after = Cancels (is_text typing.text.items) step before after × (new.deeds ≡ old.deeds)
TypesAt (Some host) page fills typing step old new before after =
    OnWaiting old.talk (λ state. TypesBy (is_waiting state.terminal.lock) (is_error state.terminal.lock && is_text typing.text.items) page fills typing step old new before after)

abbrev pub TypesText : CodePage → Bool → Typing → Step → Worked → Worked → List ℕ → List ℕ → Type 0
TypesText page fills typing step old new before after = TypesAt old.host page fills typing step old new before after

-- ---- String

-- the text is its arguments, put together
abbrev pub TypesArguments : CodePage → Bool → List (List ℕ) → Step → Worked → Worked → List ℕ → List ℕ → Type 0
TypesArguments page fills arguments step old new before after =
    (typing : Typing) × (typing.text.items ≡ concat arguments) × (typing.after_send ≡ false) × TypesText page fills typing step old new before after

abbrev pub OthersTexts : Kind → List (List ℕ) → Worker → Step → Worker → Type 0
OthersTexts Types arguments old step new =
    TypesArguments old.code_page old.settings.blank_fill arguments step old.desk new.desk old.saying new.saying
OthersTexts kind arguments old step new = Unit {0}

abbrev pub ActsTexts : Result Action Fault → Worker → Step → Worker → Type 0
ActsTexts (Ok (other name arguments)) old step new = OthersTexts (kind_of name) arguments old step new
ActsTexts action old step new = Unit {0}
