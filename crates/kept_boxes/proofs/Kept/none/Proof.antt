-- A null pointer is stored, and owns nothing.
use Rattle.std.specs.Prelude.{None}
use Rattle.std.proofs.Common.{[], ◌∷◌, refl, lit<}
use Rattle.std.proofs.raw_atomic.Walks.{proved}
use base.Fml.{ftrue, flft}
use mir.Syntax.{a_type}
use mir.MapTy.{inst_fn}
use types.Kit.{‵, raw, ◌⊛◌, use1, move, ◌$◌, ◌∵◌, !, qed, done, drop, split, join, suffices, feq_i}
use types.Part.{agg}
use types.Run.{enter, lit, and_then, no_more, returns}
use types.ByLocal.{alloc_all, pass_all, free_all, look_at, sets}
use denote.Param.{layouts}
use denote.RawPtr.{Ptr, null_ptr}
use denote.Triple.Walked.{walk_of, says, ends_at}
use Rattle.kept_boxes.specs.contracts.Kept.none as f
use Rattle.kept_boxes.proofs.Pointers.{owned, shut, word}
use Rattle.kept_boxes.proofs.Kept.none.Statement.{statement}
use Rattle.kept_boxes.proofs.Kept.none.Code as code

pub none_spec : {M : Type 1} → statement M
none_spec 𝓤 𝓛 𝓜 𝓡 wired T laws =
    let c = f.clauses T 𝓛 𝓜.mem 𝓡.returns in let W = walk_of 𝓛 (f.ended T) tt c in
    proved 𝓛 (f.ended T) tt c 𝓜 𝓡 tt (f.Key.name (layouts (a_type ∷ []) (T, tt))) (inst_fn (layouts (a_type ∷ []) (T, tt)) code.function) (code.unfolded 𝓤 𝓛.H 𝓜 𝓡 wired (T, tt))
    (λ κs. tt) (λ κs. tt) (λ κs qs bounds a g are.
    let y : W.Ghost = ((κs, qs, bounds, a, tt), g) in
    qed 𝓛 (((‵ (flft κs.0 qs.0) ⊛ ‵ ftrue) ⊛ ‵ ftrue) ∷ raw ((c κs a).requires g) ∷ []) ∵ move ! (1 ∷ []) $ drop ! $
    enter ! _ _ _ _ _ $ alloc_all ! (λ l. pass_all ! refl tt $
    sets ! (agg ! (and_then ! (lit ! tt) (no_more !))) refl (tt, (record { fits = lit< tt }, tt)) $
    returns ! (look_at ! 0 refl) $ free_all ! refl $
    suffices ! _ (ends_at 𝓛 (f.ended T) tt c y (word null_ptr) (record { at = null_ptr; value = None }) tt tt) $ says ! refl $
    split ! $ move ! (1 ∷ []) $ feq_i ! Ptr null_ptr null_ptr refl $ use1 𝓛 (‵ (owned (f.T-row T) null_ptr None)) (shut 𝓛 (f.T-row T) null_ptr None) $
    move ! (1 ∷ 0 ∷ []) $ join ! $ move ! (1 ∷ 0 ∷ []) $ join ! $ done !))
