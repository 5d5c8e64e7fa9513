-- The keys of a demo, pressed one after the other.
use Rattle.std.proofs.Common.{◌≡◌, ℕ, zero, suc, ◌+◌, List, [], ◌∷◌, ◌++◌, replicate, refl, sym, ap, arith, ◌∙◌}
use Rattle.ds_screen.specs.Picture.{Picture}
use Rattle.ds_keys.specs.declared.key.Key.{Key}
use Rattle.ds_keys.specs.declared.key.Key.TheVariants.{Typed, Right, Attention}
use Rattle.ds_terminal.specs.Terminal.{KeyReply, KeyTurn, key_turn, pressed}
use Rattle.ds_keys.specs.KeyRuns.{after, after_key}
use Rattle.scr_check.specs.declared.finding.Demo.{Demo}
use Rattle.scr_check.specs.Demos.{demo_keys}

-- keys in two parts
pub in_parts : (v : Picture) (keys others : List Key) → after v (keys ++ others) ≡ after (after v keys) others
unfolding after
in_parts v [] others = refl
in_parts v (key ∷ keys) others = in_parts (after_key v key) keys others

pub not_pressed : (v : Picture) (key : Key) → v ≡ after v (replicate 0 key)
unfolding after
not_pressed v key = refl

-- once more the same key
pub again : (v : Picture) (key : Key) (n : ℕ) → after_key (after v (replicate n key)) key ≡ after v (replicate (suc n) key)
unfolding after
again v key zero = refl
again v key (suc n) = again (after_key v key) key n

pub pressed_again : (v before next : Picture) (key : Key) (reply : KeyReply) (n : ℕ) → before ≡ after v (replicate n key) → key_turn next reply ≡ pressed before key
    → next ≡ after v (replicate (n + 1) key)
pressed_again v before next key reply n so is =
    let more : suc n ≡ n + 1 = omega arith in
    ap (λ (turn : KeyTurn). turn.after) is ∙ ap (λ w. after_key w key) so ∙ again v key n ∙ ap (λ (m : ℕ). after v (replicate m key)) more

pub demo_pressed : (v moved typed next : Picture) (demo : Demo) → moved ≡ after v (replicate demo.rights Right)
    → typed ≡ after moved (replicate demo.types (Typed 0xC1)) → next ≡ after typed (replicate 1 (Attention 0x7D)) → next ≡ after v (demo_keys demo)
demo_pressed v moved typed next demo moves types enters =
    enters
    ∙ ap (λ w. after w (Attention 0x7D ∷ [])) types
    ∙ sym (in_parts moved (replicate demo.types (Typed 0xC1)) (Attention 0x7D ∷ []))
    ∙ ap (λ w. after w (replicate demo.types (Typed 0xC1) ++ Attention 0x7D ∷ [])) moves
    ∙ sym (in_parts v (replicate demo.rights Right) (replicate demo.types (Typed 0xC1) ++ Attention 0x7D ∷ []))
