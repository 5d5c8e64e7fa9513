-- What a key and a record leave: the length of the state, and the state.
use Rattle.std.proofs.Common.{◌≡◌, ℕ, List, length, Some, sym, ap, ◌∙◌, subst}
use Rattle.ds_keys.specs.declared.key.Key.{Key}
use Rattle.ds_keys.specs.declared.pressed.Pressed.{Pressed}
use Rattle.ds_keys.specs.KeyStep.{KeyStep, Step}
use Rattle.ds_screen.specs.Picture.{Picture}
use Rattle.ds_state.specs.declared.applied.Applied.{Applied}
use Rattle.ds_state.specs.Calls.{Applies, Presses, told_by}
use Rattle.ds_state.specs.State.{IsState, most_bytes}
use Rattle.ds_state.proofs.Parts.{state_length}
use Rattle.ds_state.proofs.Stays.{key_stays, received_stays}
use Rattle.ds_terminal.specs.Terminal.{received}

pub pressed_length : (v next : Picture) (key : Key) (pressed : Pressed) (state : List ℕ) → IsState state v → KeyStep v key next pressed → length state ≡ most_bytes next.geometry
pressed_length v next key pressed state is stepped =
    ap length is.1 ∙ state_length v is.0.sound ∙ ap most_bytes (sym (key_stays v key) ∙ ap (λ (s : Step). s.after.geometry) (sym stepped))

pub leaves_pressed : (v next : Picture) (key : Key) (pressed : Pressed) (old new : List ℕ) → IsState old v → KeyStep v key next pressed → IsState new next
    → Presses key old (Some pressed) new
leaves_pressed v next key pressed old new is stepped left =
    (v, is, ap (λ (s : Step). s.pressed) stepped, subst (IsState new) (ap (λ (s : Step). s.after) stepped) left)

pub applied_length : (v next : Picture) (bytes state : List ℕ) → IsState state v → next ≡ (received v bytes).after → length state ≡ most_bytes next.geometry
applied_length v next bytes state is after =
    ap length is.1 ∙ state_length v is.0.sound ∙ ap most_bytes (sym (received_stays v bytes) ∙ ap (λ (z : Picture). z.geometry) (sym after))

pub leaves_applied : (v next : Picture) (bytes : List ℕ) (told : Applied) (old new : List ℕ) → IsState old v → told ≡ told_by v bytes → next ≡ (received v bytes).after
    → IsState new next → Applies bytes old (Some told) new
leaves_applied v next bytes told old new is said after left = (v, is, said, subst (IsState new) after left)
