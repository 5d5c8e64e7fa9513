-- What a stroke sends.
use Rattle.std.proofs.Common.{◌≡◌, ℕ, ◌&&◌, Bool, true, false, not, cond, Option, Some, None, unwrap_or, refl, sym, ◌∙◌, ap}
use Rattle.ds_codec.specs.Character.{is_graphic}
use Rattle.ds_screen.specs.declared.lock.Lock.{Lock}
use Rattle.ds_screen.specs.declared.lock.Lock.TheVariants.{Free, Waiting, Error}
use Rattle.ds_screen.specs.Picture.{Picture}
use Rattle.ds_screen.specs.Fields.{is_open}
use Rattle.ds_keys.specs.declared.key.Key.{Key}
use Rattle.ds_keys.specs.declared.key.Key.TheVariants.{Typed, Left, Right, Up, Down, Tab, BackTab, NewLine, Home, EraseEof, EraseInput, Delete, Reset, Attention}
use Rattle.ds_keys.specs.declared.pressed.Pressed.{Pressed}
use Rattle.ds_keys.specs.declared.pressed.Pressed.TheVariants.{Done, Inhibited, Ignored, Sent}
use Rattle.ds_keys.specs.KeyStep.{Step, step, ignored, inhibited, step_of, free_step, typed_step, erase_eof_step, delete_step, error_step}
use Rattle.ds_keys.specs.KeyStep as keys
use Rattle.ds_keys.specs.KeyRuns.{is_sent}
use Rattle.ds_strokes.specs.declared.stroke.Stroke.{Stroke}
use Rattle.ds_strokes.specs.declared.stroke.Stroke.TheVariants as stroke
use Rattle.ds_strokes.specs.Room.{readied}
use Rattle.ds_strokes.specs.StrokeStep.{Operating, operating, goes_on, tabs, stored_in, put_step, step_under, stroke_step, after_stroke, stroke_answer, inserts_after, StrokeStep}
use Rattle.ds_terminal.specs.Terminal.{KeyReply, KeyTurn, key_turn, key_reply, pressed}
use Rattle.ds_terminal.specs.Strokes.{stroke_turn, key_aid, stroke_aid, inserts_after_attention}

-- ---- a key without an attention identifier sends nothing
abbrev Quiet : Step → Type 0
Quiet s = is_sent s.pressed ≡ false

by_test : (b : Bool) (s t : Step) → Quiet s → Quiet t → Quiet (cond b s t)
by_test true s t first second = first
by_test false s t first second = second

free_quiet : (v : Picture) (key : Key) → key_aid key ≡ None → Quiet (free_step v key)
unfolding free_step typed_step erase_eof_step delete_step
free_quiet v (Typed code) none = by_test (is_graphic code) _ _ (by_test (is_open v.cells v.cursor) _ _ refl refl) refl
free_quiet v Left none = refl
free_quiet v Right none = refl
free_quiet v Up none = refl
free_quiet v Down none = refl
free_quiet v Tab none = refl
free_quiet v BackTab none = refl
free_quiet v NewLine none = refl
free_quiet v Home none = refl
free_quiet v EraseEof none = by_test (is_open v.cells v.cursor) _ _ refl refl
free_quiet v EraseInput none = refl
free_quiet v Delete none = by_test (is_open v.cells v.cursor) _ _ refl refl
free_quiet v Reset none = refl
free_quiet v (Attention aid) none = absurd cc

error_quiet : (v : Picture) (key : Key) → key_aid key ≡ None → Quiet (error_step v key)
error_quiet v (Typed code) none = refl
error_quiet v Left none = refl
error_quiet v Right none = refl
error_quiet v Up none = refl
error_quiet v Down none = refl
error_quiet v Tab none = refl
error_quiet v BackTab none = refl
error_quiet v NewLine none = refl
error_quiet v Home none = refl
error_quiet v EraseEof none = refl
error_quiet v EraseInput none = refl
error_quiet v Delete none = refl
error_quiet v Reset none = refl
error_quiet v (Attention aid) none = absurd cc

under_quiet : (lock : Lock) (v : Picture) (key : Key) → key_aid key ≡ None → Quiet (keys.step_under lock v key)
under_quiet Free v key none = free_quiet v key none
under_quiet Waiting v key none = refl
under_quiet Error v key none = error_quiet v key none

key_quiet : (v : Picture) (key : Key) → key_aid key ≡ None → Quiet (step_of v key)
unfolding step_of
key_quiet v key none = under_quiet v.lock v key none

-- ---- nor does another stroke
stored_quiet : (v : Picture) (place : Option Picture) (code : ℕ) (next : Picture → ℕ) → Quiet (stored_in v place code next)
stored_quiet v None code next = refl
stored_quiet v (Some place) code next = refl

put_quiet : (inserts : Bool) (v : Picture) (code : ℕ) (next : Picture → ℕ) → Quiet (put_step inserts v code next)
unfolding put_step
put_quiet inserts v code next = stored_quiet v (readied inserts v) code next

struck_under : (lock : Lock) (inserts : Bool) (v : Picture) (s : Stroke) → stroke_aid s ≡ None → Quiet (step_under lock inserts v s)
struck_under Free inserts v (stroke.Key (Typed code)) none = by_test (is_graphic code) _ _ (put_quiet inserts v code goes_on) refl
struck_under Free inserts v (stroke.Key Left) none = key_quiet v Left refl
struck_under Free inserts v (stroke.Key Right) none = key_quiet v Right refl
struck_under Free inserts v (stroke.Key Up) none = key_quiet v Up refl
struck_under Free inserts v (stroke.Key Down) none = key_quiet v Down refl
struck_under Free inserts v (stroke.Key Tab) none = key_quiet v Tab refl
struck_under Free inserts v (stroke.Key BackTab) none = key_quiet v BackTab refl
struck_under Free inserts v (stroke.Key NewLine) none = key_quiet v NewLine refl
struck_under Free inserts v (stroke.Key Home) none = key_quiet v Home refl
struck_under Free inserts v (stroke.Key EraseEof) none = key_quiet v EraseEof refl
struck_under Free inserts v (stroke.Key EraseInput) none = key_quiet v EraseInput refl
struck_under Free inserts v (stroke.Key Delete) none = key_quiet v Delete refl
struck_under Free inserts v (stroke.Key Reset) none = key_quiet v Reset refl
struck_under Free inserts v (stroke.Key (Attention aid)) none = absurd cc
struck_under Free inserts v stroke.Insert none = refl
struck_under Free inserts v stroke.Dup none = put_quiet inserts v 0x1C tabs
struck_under Free inserts v stroke.FieldMark none = put_quiet inserts v 0x1E goes_on
struck_under Waiting inserts v (stroke.Key key) none = key_quiet v key none
struck_under Waiting inserts v stroke.Insert none = refl
struck_under Waiting inserts v stroke.Dup none = refl
struck_under Waiting inserts v stroke.FieldMark none = refl
struck_under Error inserts v (stroke.Key key) none = key_quiet v key none
struck_under Error inserts v stroke.Insert none = refl
struck_under Error inserts v stroke.Dup none = refl
struck_under Error inserts v stroke.FieldMark none = refl

pub stroke_quiet : (o : Operating) (s : Stroke) → stroke_aid s ≡ None → is_sent (stroke_answer o s) ≡ false
unfolding stroke_step
stroke_quiet o s none = struck_under o.screen.lock o.inserts o.screen s none

pub never_sent : (o after : Operating) (s : Stroke) (told : Pressed) (aid : ℕ) → stroke_aid s ≡ None → StrokeStep o s after told → told ≡ Sent aid → ⊥
never_sent o after s told aid none is sends =
    let both : true ≡ false = ap is_sent (sym sends ∙ is.answered) ∙ stroke_quiet o s none in
    absurd cc

pub quietly : (o after : Operating) (s : Stroke) (told : Pressed) (reply : KeyReply) → StrokeStep o s after told → key_reply told after.screen ≡ reply
    → key_turn after.screen reply ≡ stroke_turn o s
quietly o after s told reply is replies =
    ap (key_turn after.screen) (sym replies)
    ∙ ap (λ (t : Pressed). key_turn after.screen (key_reply t after.screen)) is.answered
    ∙ ap (λ (x : Operating). key_turn x.screen (key_reply (stroke_answer o s) x.screen)) is.after_it

-- ---- an attention key does what it does as a key
attention_under : (lock : Lock) (inserts : Bool) (v : Picture) (aid : ℕ) → step_under lock inserts v (stroke.Key (Attention aid)) ≡ step_of v (Attention aid)
attention_under Free inserts v aid = refl
attention_under Waiting inserts v aid = refl
attention_under Error inserts v aid = refl

attention_is : (v : Picture) (inserts : Bool) (aid : ℕ) → stroke_step (operating v inserts) (stroke.Key (Attention aid)) ≡ step_of v (Attention aid)
unfolding stroke_step
attention_is v inserts aid = attention_under v.lock inserts v aid

pub attention_turn : (v : Picture) (inserts : Bool) (aid : ℕ) → pressed v (Attention aid) ≡ stroke_turn (operating v inserts) (stroke.Key (Attention aid))
attention_turn v inserts aid = ap (λ (s : Step). key_turn s.after (key_reply s.pressed s.after)) (sym (attention_is v inserts aid))

-- and ends insert mode where it sends
and_true : (b : Bool) → b ≡ (b && not false)
and_true true = refl
and_true false = refl

ends_by : (inserts : Bool) (aid : ℕ) (told : Pressed) (w : Picture) → inserts_after_attention inserts (key_reply told w) ≡ inserts_after inserts (stroke.Key (Attention aid)) told
ends_by inserts aid Done w = and_true inserts
ends_by inserts aid Inhibited w = refl
ends_by inserts aid Ignored w = refl
ends_by inserts aid (Sent other) w = refl

pub attention_inserts : (v : Picture) (inserts : Bool) (aid : ℕ) (w : Picture) (reply : KeyReply) → key_turn w reply ≡ pressed v (Attention aid)
    → inserts_after_attention inserts reply ≡ (after_stroke (operating v inserts) (stroke.Key (Attention aid))).inserts
attention_inserts v inserts aid w reply is =
    ap (λ (t : KeyTurn). inserts_after_attention inserts t.reply) (is ∙ attention_turn v inserts aid)
    ∙ ends_by inserts aid (stroke_answer (operating v inserts) (stroke.Key (Attention aid))) (after_stroke (operating v inserts) (stroke.Key (Attention aid))).screen

-- ---- by the attention identifier
pub attention_stroke : (s : Stroke) (aid : ℕ) → stroke_aid s ≡ Some aid → s ≡ stroke.Key (Attention aid)
attention_stroke (stroke.Key Left) aid is = absurd cc
attention_stroke (stroke.Key Right) aid is = absurd cc
attention_stroke (stroke.Key Up) aid is = absurd cc
attention_stroke (stroke.Key Down) aid is = absurd cc
attention_stroke (stroke.Key Tab) aid is = absurd cc
attention_stroke (stroke.Key BackTab) aid is = absurd cc
attention_stroke (stroke.Key NewLine) aid is = absurd cc
attention_stroke (stroke.Key Home) aid is = absurd cc
attention_stroke (stroke.Key EraseEof) aid is = absurd cc
attention_stroke (stroke.Key EraseInput) aid is = absurd cc
attention_stroke (stroke.Key Delete) aid is = absurd cc
attention_stroke (stroke.Key Reset) aid is = absurd cc
attention_stroke (stroke.Key (Typed code)) aid is = absurd cc
attention_stroke (stroke.Key (Attention other)) aid is = ap (λ (a : Option ℕ). stroke.Key (Attention (unwrap_or a other))) is
attention_stroke stroke.Insert aid is = absurd cc
attention_stroke stroke.Dup aid is = absurd cc
attention_stroke stroke.FieldMark aid is = absurd cc
