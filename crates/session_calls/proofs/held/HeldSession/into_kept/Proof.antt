-- The pointer goes over with what it owns.
use Rattle.std.proofs.Common.{[], ◌∷◌, refl}
use Rattle.std.proofs.raw_atomic.Walks.{proved}
use Rattle.std.proofs.alloc.Calls.{Goes-blank}
use base.Fml.{ftrue}
use types.Kit.{‵, ◌⊛◌, use1, keep, fjoin, ◌$◌, ◌∵◌, !, qed, done, drop, split, fsplit, join, suffices}
use types.Part.{agg, whole, sub}
use types.Run.{enter, of_opd, and_then, no_more, returns, stop, fld}
use types.ByLocal.{alloc_all, pass_all, free_all, look_at, get, get_in, sets}
use denote.Exit.{yes}
use denote.Signature.{plain}
use denote.Steps.{nothing}
use denote.Triple.Walked.{Stays, stay_dropped, walk_of, says, ends_at}
use Rattle.kept_boxes.proofs.Pointers.{word, fits, ptr_fits, owned, shut}
use Rattle.session_calls.specs.Rows.{line_row}
use Rattle.session_calls.specs.contracts.held.HeldSession as held
use Rattle.session_calls.proofs.held.HeldSession.TheLaws.{lowers}
use Rattle.session_calls.specs.contracts.held.HeldSession.into_kept as f
use Rattle.session_calls.proofs.held.HeldSession.into_kept.Statement.{statement}
use Rattle.session_calls.proofs.held.HeldSession.into_kept.Code as code

pub into_kept_spec : {M : Type 1} → statement M
into_kept_spec 𝓤 𝓛 𝓜 𝓡 wired =
    let K = held.the_row in
    let stayed : Stays f.ended.signature.params f.ended.kept = (stay_dropped (plain (λ _. K)) yes, tt) in
    let c = f.clauses 𝓛 𝓜.mem 𝓡.returns in let W = walk_of 𝓛 f.ended stayed c in
    proved 𝓛 f.ended stayed c 𝓜 𝓡 (Goes-blank 𝓛 0 (plain (λ _. K)) yes (λ κs x w. tt), tt) f.Key.name code.function (code.unfolded 𝓤 𝓛.H 𝓜 𝓡 wired)
    (λ κs. ((λ d. lowers.lowered d ∷ []), tt)) (λ κs. (lowers.val_is, tt)) (λ κs qs bounds a g are.
    let p = a.0.at in let v = a.0.line in
    let y : W.Ghost = ((κs, qs, bounds, a, (word p ∷ [], tt)), g) in
    qed 𝓛 ((‵ ftrue ⊛ ‵ (K.own_val a.0 (word p ∷ [])) ⊛ ‵ ftrue) ∷ ‵ ftrue ∷ []) ∵ split ! $ drop ! $ split ! $ fsplit ! $ drop ! $ keep ! (0 ∷ []) $
    enter ! _ _ _ _ _ $ alloc_all ! (λ l. pass_all ! refl (fits line_row p, tt) $
    sets ! (of_opd ! (get_in ! (fld ! refl (stop !)) (sub ! 0 refl (whole !)))) refl (ptr_fits p) $
    sets ! (of_opd ! (get ! refl)) refl (ptr_fits p) $
    sets ! (agg ! (and_then ! (get ! refl) (no_more !))) refl (fits line_row p) $
    returns ! (look_at ! 0 refl) $ free_all ! refl $
    suffices ! _ (ends_at 𝓛 f.ended stayed c y (word p) (record { at = p; value = v }) (tt, tt) (tt, tt)) $ says ! refl $
    use1 𝓛 (‵ (owned line_row p v)) (shut 𝓛 line_row p v) $
    nothing ! $ nothing ! $ fjoin ! $ join ! $ nothing ! $ join ! $ done !))
