-- What a key that sends leaves.
use Rattle.std.proofs.Common.{◌≡◌, ℕ, ◌&&◌, Bool, true, false, not, cond, eqb, List, [], ◌∷◌, length, refl, sym, ◌∙◌, ap}
use Rattle.std.specs.Prelude.{Result, Ok, Err, OnErr}
use Rattle.std.proofs.lemmas.Bool.{eqb-true}
use Rattle.ds_codec.specs.Aid.{is_long_aid, is_short_aid}
use Rattle.ds_codec.specs.Character.{is_graphic}
use Rattle.ds_screen.specs.declared.lock.Lock.{Lock}
use Rattle.ds_screen.specs.declared.lock.Lock.TheVariants.{Free, Waiting, Error}
use Rattle.ds_screen.specs.Picture.{Picture}
use Rattle.ds_screen.specs.Fields.{is_open}
use Rattle.ds_keys.specs.declared.key.Key.{Key}
use Rattle.ds_keys.specs.declared.key.Key.TheVariants.{Typed, Left, Right, Up, Down, Tab, BackTab, NewLine, Home, EraseEof, EraseInput, Delete, Reset, Attention}
use Rattle.ds_keys.specs.declared.pressed.Pressed.{Pressed}
use Rattle.ds_keys.specs.declared.pressed.Pressed.TheVariants.{Done, Inhibited, Ignored, Sent}
use Rattle.ds_keys.specs.KeyStep.{Step, step, step_under, step_of, free_step, typed_step, erase_eof_step, delete_step, attention_step, error_step, is_sending, ignored, inhibited, sent as sends}
use Rattle.ds_keys.specs.KeyRuns.{is_sent}
use Rattle.ds_keys.specs.Laws.{is_clear}
use Rattle.ds_terminal.specs.Terminal.{key_turn, key_reply, sent, ignored as unheard, is_locked, IsSent, pressed}
use Rattle.ds_inbound.specs.Answer.{written_answer, short_answer, bytes_sent}
use Rattle.ds_inbound.proofs.Again.{answer_short}

-- ---- Clear
clear_aid : (lock : Lock) (v w : Picture) (aid : ℕ) → step w (Sent aid) ≡ step_under lock v (Attention 0x6D) → w.aid ≡ 0x6D
unfolding free_step attention_step is_long_aid is_short_aid
clear_aid Free v w aid is = ap (λ (s : Step). s.after.aid) is
clear_aid Waiting v w aid is = let told : Sent aid ≡ Ignored = ap (λ (s : Step). s.pressed) is in absurd cc
clear_aid Error v w aid is = let told : Sent aid ≡ Ignored = ap (λ (s : Step). s.pressed) is in absurd cc

is_short : (w : Picture) → w.aid ≡ 0x6D → (is_short_aid w.aid && not false) ≡ true
unfolding is_short_aid
is_short w is = ap (λ a. is_short_aid a && not false) is

clear_sends : (v w : Picture) (aid : ℕ) → step w (Sent aid) ≡ step_of v (Attention 0x6D) → bytes_sent w false ≡ 0x6D ∷ []
unfolding step_of
clear_sends v w aid is =
    let a : w.aid ≡ 0x6D = clear_aid v.lock v w aid is in
    ap (written_answer w.geometry.mode (length w.cells)) (answer_short w false (is_short w a) ∙ ap short_answer a)

-- a key that answered so
answered_so : (v w : Picture) (key : Key) (told : Pressed) → step w told ≡ step_of v key → key_turn w (key_reply told w) ≡ pressed v key
answered_so v w key told is = ap (λ (s : Step). key_turn s.after (key_reply s.pressed s.after)) is

pub clear_pressed : (v w : Picture) (aid byte : ℕ) (key : Key) (told : Pressed) (bytes : List ℕ) → key ≡ Attention 0x6D → step w told ≡ step_of v key → told ≡ Sent aid
    → bytes ≡ byte ∷ [] → byte ≡ 0x6D → key_turn w (sent bytes) ≡ pressed v (Attention 0x6D)
clear_pressed v w aid byte key told bytes named is sends one clear =
    let step_is : step w (Sent aid) ≡ step_of v (Attention 0x6D) = ap (step w) (sym sends) ∙ is ∙ ap (step_of v) named in
    ap (λ (b : List ℕ). key_turn w (sent b)) (one ∙ ap (λ (b : ℕ). b ∷ []) clear ∙ sym (clear_sends v w aid step_is))
    ∙ answered_so v w (Attention 0x6D) (Sent aid) step_is

-- on a keyboard that isn't free it is ignored
clear_under : (lock : Lock) (v : Picture) → is_locked lock ≡ true → step_under lock v (Attention 0x6D) ≡ ignored v
clear_under Free v locked = absurd cc
clear_under Waiting v locked = refl
clear_under Error v locked = refl

pub locked_clear : (v : Picture) → is_locked v.lock ≡ true → key_turn v unheard ≡ pressed v (Attention 0x6D)
unfolding step_of
locked_clear v locked = ap (λ (s : Step). key_turn s.after (key_reply s.pressed s.after)) (sym (clear_under v.lock v locked))

free_under : (lock : Lock) (v : Picture) → is_locked lock ≡ false
    → IsSent (key_reply (step_under lock v (Attention 0x6D)).pressed (step_under lock v (Attention 0x6D)).after)
unfolding free_step attention_step is_long_aid is_short_aid
free_under Free v free = tt
free_under Waiting v free = absurd cc
free_under Error v free = absurd cc

-- and on a free one it sends
pub free_clear : (v : Picture) → is_locked v.lock ≡ false → IsSent (pressed v (Attention 0x6D)).reply
unfolding step_of
free_clear v free = free_under v.lock v free

pub so_where_refused : {T E P : Type 0} (r : Result T E) → P → OnErr r P
so_where_refused (Ok value) holds = tt
so_where_refused (Err why) holds = holds

-- ---- every other key: with the lock and the attention identifier of before it is undone
abbrev Undoes : Picture → Step → Type 0
Undoes v s = (w : Picture) (aid : ℕ) → step w (Sent aid) ≡ s → record w { lock = v.lock; aid = v.aid } ≡ v

undoes_told : (v x : Picture) (told : Pressed) → is_sent told ≡ false → Undoes v (step x told)
undoes_told v x told quiet w aid is =
    let same : Sent aid ≡ told = ap (λ (s : Step). s.pressed) is in
    let both : true ≡ false = ap is_sent same ∙ quiet in
    absurd cc

by_open : (opens : Bool) (v x : Picture) → Undoes v (cond opens (step x Done) (inhibited v))
by_open true v x = undoes_told v x Done refl
by_open false v x = undoes_told v (record v { lock = Error }) Inhibited refl

by_graphic : (graphic : Bool) (v : Picture) (change : Step) → Undoes v change → Undoes v (cond graphic change (ignored v))
by_graphic true v change undoes = undoes
by_graphic false v change undoes = undoes_told v v Ignored refl

-- an attention key but Clear changes these two alone
by_aid : (none clear : Bool) (v : Picture) (erasing : Step) (aid : ℕ) → clear ≡ false → Undoes v (cond none (ignored v) (cond clear erasing (sends v aid)))
by_aid true clear v erasing aid other w told is = undoes_told v v Ignored refl w told is
by_aid false true v erasing aid other w told is = absurd cc
by_aid false false v erasing aid other w told is = ap (λ (s : Step). record s.after { lock = v.lock; aid = v.aid }) is

-- the key with that identifier
pub clear_is : (key : Key) → is_clear key ≡ true → key ≡ Attention 0x6D
clear_is (Attention aid) is = ap Attention (eqb-true aid 0x6D is)
clear_is (Typed code) is = absurd cc
clear_is Left is = absurd cc
clear_is Right is = absurd cc
clear_is Up is = absurd cc
clear_is Down is = absurd cc
clear_is Tab is = absurd cc
clear_is BackTab is = absurd cc
clear_is NewLine is = absurd cc
clear_is Home is = absurd cc
clear_is EraseEof is = absurd cc
clear_is EraseInput is = absurd cc
clear_is Delete is = absurd cc
clear_is Reset is = absurd cc

free_undone : (v : Picture) (key : Key) → is_clear key ≡ false → Undoes v (free_step v key)
unfolding free_step typed_step erase_eof_step delete_step attention_step
free_undone v (Typed code) other = by_graphic (is_graphic code) v _ (by_open (is_open v.cells v.cursor) v _)
free_undone v Left other = undoes_told v _ Done refl
free_undone v Right other = undoes_told v _ Done refl
free_undone v Up other = undoes_told v _ Done refl
free_undone v Down other = undoes_told v _ Done refl
free_undone v Tab other = undoes_told v _ Done refl
free_undone v BackTab other = undoes_told v _ Done refl
free_undone v NewLine other = undoes_told v _ Done refl
free_undone v Home other = undoes_told v _ Done refl
free_undone v EraseEof other = by_open (is_open v.cells v.cursor) v _
free_undone v EraseInput other = undoes_told v _ Done refl
free_undone v Delete other = by_open (is_open v.cells v.cursor) v _
free_undone v Reset other = undoes_told v v Done refl
free_undone v (Attention aid) other = by_aid (not (is_sending aid)) (eqb aid 0x6D) v _ aid other

error_undone : (v : Picture) (key : Key) → Undoes v (error_step v key)
error_undone v (Typed code) = undoes_told v v Ignored refl
error_undone v Left = undoes_told v v Ignored refl
error_undone v Right = undoes_told v v Ignored refl
error_undone v Up = undoes_told v v Ignored refl
error_undone v Down = undoes_told v v Ignored refl
error_undone v Tab = undoes_told v v Ignored refl
error_undone v BackTab = undoes_told v v Ignored refl
error_undone v NewLine = undoes_told v v Ignored refl
error_undone v Home = undoes_told v v Ignored refl
error_undone v EraseEof = undoes_told v v Ignored refl
error_undone v EraseInput = undoes_told v v Ignored refl
error_undone v Delete = undoes_told v v Ignored refl
error_undone v Reset = undoes_told v (record v { lock = Free }) Done refl
error_undone v (Attention aid) = undoes_told v v Ignored refl

under_undone : (lock : Lock) (v : Picture) (key : Key) → is_clear key ≡ false → Undoes v (step_under lock v key)
under_undone Free v key other = free_undone v key other
under_undone Waiting v key other = undoes_told v v Ignored refl
under_undone Error v key other = error_undone v key

pub undone : (v w set locked : Picture) (key : Key) (told : Pressed) (sent_aid aid : ℕ) (lock : Lock) → is_clear key ≡ false → step w told ≡ step_of v key → told ≡ Sent sent_aid
    → set ≡ record w { aid = aid } → locked ≡ record set { lock = lock } → aid ≡ v.aid → lock ≡ v.lock → locked ≡ v
unfolding step_of
undone v w set locked key told sent_aid aid lock other is sends was_set was_locked aid_is lock_is =
    was_locked ∙ ap (λ (u : Picture). record u { lock = lock }) was_set
    ∙ ap (λ (a : ℕ). record w { lock = lock; aid = a }) aid_is ∙ ap (λ (l : Lock). record w { lock = l; aid = v.aid }) lock_is
    ∙ under_undone v.lock v key other w sent_aid (ap (step w) (sym sends) ∙ is)
