-- Keys and records leave the sizes of a terminal as they are.
use Rattle.std.proofs.Common.{◌≡◌, ℕ, Bool, true, false, cond, not, eqb, List, Result, Ok, Err, refl, sym, ap, ◌∙◌}
use Rattle.ds_codec.specs.declared.command.Command.{Command}
use Rattle.ds_codec.specs.declared.command.Command.TheVariants as commands
use Rattle.ds_codec.specs.declared.refused.Refused as codec
use Rattle.ds_codec.specs.Character.{is_graphic}
use Rattle.ds_codec.specs.Geometry.{Sizes}
use Rattle.ds_codec.specs.Order.{Site}
use Rattle.ds_codec.specs.Reading.{read_of}
use Rattle.ds_codec.specs.Record.{Message}
use Rattle.ds_keys.specs.declared.key.Key.{Key}
use Rattle.ds_keys.specs.declared.key.Key.TheVariants.{Typed, Left, Right, Up, Down, Tab, BackTab, NewLine, Home, EraseEof, EraseInput, Delete, Reset, Attention}
use Rattle.ds_keys.specs.KeyRuns.{after_key}
use Rattle.ds_keys.specs.KeyStep.{Step, is_sending, typed_step, erase_eof_step, delete_step, attention_step, free_step, error_step, step_under, step_of}
use Rattle.ds_screen.specs.declared.effect.Effect.{Effect}
use Rattle.ds_screen.specs.declared.lock.Lock.{Lock}
use Rattle.ds_screen.specs.declared.lock.Lock.TheVariants.{Free, Waiting, Error}
use Rattle.ds_screen.specs.declared.refused.Refused as shown
use Rattle.ds_screen.specs.Fields.{is_open}
use Rattle.ds_screen.specs.Orders.{Writing}
use Rattle.ds_screen.specs.Picture.{Picture}
use Rattle.ds_screen.specs.Records.{acts, all_cleared, begun, erased, finished, finishes, shown_of, told_of}
use Rattle.ds_terminal.specs.Terminal.{Turn, obeyed, received, received_as, shown_turn}

-- ---- keys

abbrev Stays : Sizes → Step → Type 0
Stays sizes s = s.after.geometry ≡ sizes

both : (b : Bool) (sizes : Sizes) (one other : Step) → Stays sizes one → Stays sizes other → Stays sizes (cond b one other)
both true sizes one other a b = a
both false sizes one other a b = b

typed_stays : (v : Picture) (code : ℕ) → Stays v.geometry (typed_step v code)
unfolding typed_step
typed_stays v code = both (is_graphic code) v.geometry _ _ (both (is_open v.cells v.cursor) v.geometry _ _ refl refl) refl

eof_stays : (v : Picture) → Stays v.geometry (erase_eof_step v)
unfolding erase_eof_step
eof_stays v = both (is_open v.cells v.cursor) v.geometry _ _ refl refl

delete_stays : (v : Picture) → Stays v.geometry (delete_step v)
unfolding delete_step
delete_stays v = both (is_open v.cells v.cursor) v.geometry _ _ refl refl

attention_stays : (v : Picture) (aid : ℕ) → Stays v.geometry (attention_step v aid)
unfolding attention_step
attention_stays v aid = both (not (is_sending aid)) v.geometry _ _ refl (both (eqb aid 0x6D) v.geometry _ _ refl refl)

free_stays : (v : Picture) (key : Key) → Stays v.geometry (free_step v key)
unfolding free_step
free_stays v (Typed code) = typed_stays v code
free_stays v Left = refl
free_stays v Right = refl
free_stays v Up = refl
free_stays v Down = refl
free_stays v Tab = refl
free_stays v BackTab = refl
free_stays v NewLine = refl
free_stays v Home = refl
free_stays v EraseEof = eof_stays v
free_stays v EraseInput = refl
free_stays v Delete = delete_stays v
free_stays v Reset = refl
free_stays v (Attention aid) = attention_stays v aid

error_stays : (v : Picture) (key : Key) → Stays v.geometry (error_step v key)
error_stays v Reset = refl
error_stays v key = refl

under_stays : (lock : Lock) (v : Picture) (key : Key) → Stays v.geometry (step_under lock v key)
under_stays Free v key = free_stays v key
under_stays Waiting v key = refl
under_stays Error v key = error_stays v key

pub key_stays : (v : Picture) (key : Key) → (after_key v key).geometry ≡ v.geometry
unfolding step_of
key_stays v key = under_stays v.lock v key

-- ---- records

turn_stays : (v : Picture) (effect : Effect) (r : Result Picture shown.Refused) → ((w : Picture) → r ≡ Ok w → w.geometry ≡ v.geometry)
    → (shown_turn v effect r).after.geometry ≡ v.geometry
turn_stays v effect (Ok w) stays = stays w refl
turn_stays v effect (Err why) stays = refl

ok_is : {A E : Type 0} (x y : A) (r : Result A E) → r ≡ Ok x → r ≡ Ok y → x ≡ y
ok_is x y r one other = cc

finished_stays : (wcc : ℕ) (v w : Picture) (r : Result Writing shown.Refused) → finishes wcc v r ≡ Ok w → w.geometry ≡ v.geometry
finished_stays wcc v w (Ok end) is = ap (λ (z : Picture). z.geometry) (ok_is w (finished wcc v end) (finishes wcc v (Ok end)) is refl)
finished_stays wcc v w (Err refused) is = absurd cc

shown_stays : (v w : Picture) (command : Command) (orders : List Site) → shown_of v command orders ≡ Ok w → w.geometry ≡ v.geometry
unfolding shown_of
shown_stays v w (commands.Write wcc) orders is = finished_stays wcc v w (acts orders (begun wcc v.cells v.cursor)) is
shown_stays v w (commands.EraseWrite wcc) orders is = finished_stays wcc (erased v.geometry.default v) w _ is
shown_stays v w (commands.EraseWriteAlternate wcc) orders is = finished_stays wcc (erased v.geometry.alternate v) w _ is
shown_stays v w commands.EraseAllUnprotected orders is = ap (λ (z : Picture). z.geometry) (ok_is w (all_cleared v) (Ok w) refl (sym is))
shown_stays v w commands.ReadBuffer orders is = absurd cc
shown_stays v w commands.ReadModified orders is = absurd cc
shown_stays v w commands.ReadModifiedAll orders is = absurd cc
shown_stays v w commands.NoOperation orders is = absurd cc

obeyed_stays : (v : Picture) (command : Command) (orders : List Site) → (obeyed v command orders).after.geometry ≡ v.geometry
obeyed_stays v commands.ReadBuffer orders = refl
obeyed_stays v commands.ReadModified orders = refl
obeyed_stays v commands.ReadModifiedAll orders = refl
obeyed_stays v commands.NoOperation orders = refl
obeyed_stays v (commands.Write wcc) orders = turn_stays v _ (shown_of v (commands.Write wcc) orders) (λ w is. shown_stays v w (commands.Write wcc) orders is)
obeyed_stays v (commands.EraseWrite wcc) orders = turn_stays v _ (shown_of v (commands.EraseWrite wcc) orders) (λ w is. shown_stays v w (commands.EraseWrite wcc) orders is)
obeyed_stays v (commands.EraseWriteAlternate wcc) orders =
    turn_stays v _ (shown_of v (commands.EraseWriteAlternate wcc) orders) (λ w is. shown_stays v w (commands.EraseWriteAlternate wcc) orders is)
obeyed_stays v commands.EraseAllUnprotected orders = turn_stays v _ (shown_of v commands.EraseAllUnprotected orders) (λ w is. shown_stays v w commands.EraseAllUnprotected orders is)

received_stays_as : (v : Picture) (r : Result Message codec.Refused) → (received_as v r).after.geometry ≡ v.geometry
received_stays_as v (Ok message) = obeyed_stays v message.command message.orders
received_stays_as v (Err why) = refl

pub received_stays : (v : Picture) (bytes : List ℕ) → (received v bytes).after.geometry ≡ v.geometry
received_stays v bytes = received_stays_as v (read_of v.geometry.mode bytes)
