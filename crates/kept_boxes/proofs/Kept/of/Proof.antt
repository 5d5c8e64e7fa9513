-- The box is taken apart, and its pointer stored with what it owns.
use Rattle.std.specs.Prelude.{List, Some}
use Rattle.std.proofs.Common.{[], ◌∷◌, ◌++◌, refl, ap}
use Rattle.std.proofs.raw_atomic.Walks.{proved_at}
use Rattle.std.proofs.alloc.Calls.{Goes-blank}
use base.Fraction.{full_share}
use base.Fml.{ftrue, flft}
use base.Logic.{ent, emp, id⊢}
use contract.BorrowLft.{◌⊑◌, ⊑_static}
use contract.Monad.{fact, fact_i}
use mir.Syntax.{a_type, tcons, tnil, dcons, dnil, impl}
use mir.Raw.{raw as bare}
use mir.MapTy.{inst_fn}
use mir.Val.{Val}
use prog.Wp.{WpFn}
use contract.Running.{tables, tables_of}
use types.Kit.{‵, raw, ◌⊛◌, use0, use1, use2, later, some, await, pick, feq_l, move, keep, ◌$◌, ◌∵◌, !, qed, done, drop, split, join, fjoin, suffices}
use types.Part.{agg}
use types.Run.{enter, of_opd, and_then, no_more, returns}
use types.ByLocal.{lands_as, alloc_all, pass_all, free_all, look_at, get, sets}
use denote.Exit.{no}
use denote.Param.{arg, bounded, layout}
use denote.Param.Laws.{arg_laws, param_laws}
use denote.Param.NoDrop.{glues}
use denote.Param.Steps.{one_value}
use denote.RawPtr.{Ptr, RawPtr}
use denote.Signature.{plain}
use denote.Steps.{nothing, heard, only}
use denote.Triple.Call.{calls_at}
use denote.Triple.Table.{framed}
use denote.Triple.Clauses.{lasts}
use denote.Triple.Spec.{triple_of}
use denote.Triple.Walked.{Stays, stay_dropped, walk_of, says, ends_at}
use Rattle.std.specs.contracts.alloc.Global as global
use Rattle.std.specs.contracts.boxed.Box as box
use Rattle.std.specs.contracts.impls.GlobalAllocator.TheImpl.{ghosts, dict}
use Rattle.std.specs.contracts.boxed.Box.into_raw as g
use Rattle.std.proofs.boxed.Box.into_raw.Met.{met}
use Rattle.std.proofs.impls.GlobalAllocator.TheImpl.Met.{passed}
use Rattle.kept_boxes.specs.contracts.Kept.of as f
use Rattle.std.proofs.alloc.Global.TheLaws.{the_row_laws as global_laws}
use Rattle.std.proofs.boxed.Box.TheLaws.{the_field_loose}
use Rattle.kept_boxes.proofs.Pointers.{owned, shut, word, fits, ptr_fits}
use Rattle.kept_boxes.specs.Owned.{box_at}
use Rattle.kept_boxes.proofs.Kept.of.Statement.{statement}
use Rattle.kept_boxes.proofs.Destruct++none.drop.Code as no_drop
use Rattle.kept_boxes.proofs.Kept.of.Code as code

pub of_spec : {M : Type 1} → statement M
unfolding tables_of no_drop.code
of_spec {M} 𝓤 𝓛 𝓜 𝓡 wired T laws drops glue =
    let B = box.the_row (f.T-row T) global.the_row ghosts in
    let args = bounded (a_type ∷ []) (T, tt) (dcons drops dnil) in
    let stayed : Stays (f.ended T drops).signature.params (f.ended T drops).kept = (stay_dropped (plain (λ _. B)) no, tt) in
    let c = f.clauses T drops 𝓛 𝓜.mem 𝓡.returns in let W = walk_of 𝓛 (f.ended T drops) stayed c in
    let 𝓣 = tables 𝓤 𝓛.H 𝓜 𝓡 𝓡.env in
    proved_at 𝓛 (f.ended T drops) stayed c 𝓜 𝓡 (Goes-blank 𝓛 1 (plain (λ _. B)) no (λ κs x w. tt), tt) (f.Key.name args) (inst_fn args code.function) (code.unfolded 𝓤 𝓛.H 𝓜 𝓡 wired (T, tt) drops)
    (λ y are.
    let κ = y.0.0.0 in let q = y.0.1.0 in let b = y.0.3.0 in
    let at : List Val → W.Ghost = λ us. ((y.0.0, y.0.1, y.0.2, y.0.3, (us, tt)), y.1) in
    one_value (layout B) (λ us. ent 𝓤 (W.pre (at us)) (WpFn 𝓤 𝓛.H 𝓣.C 𝓣.Λ (inst_fn args code.function) (us ++ []) (W.post (at us)))) y.0.4.0
    (((the_field_loose (f.T-row T) global.the_row ghosts (param_laws 0 T laws) global_laws).lawful 𝓛).typed b y.0.4.0 are.0) (λ v ok.
    qed 𝓛 (((‵ (flft κ q) ⊛ ‵ ftrue) ⊛ ‵ (B.own_val b (v ∷ [])) ⊛ ‵ ftrue) ∷ (raw (fact 𝓤 (κ ⊑ T.lives)) ⊛ raw (emp 𝓤)) ∷ []) ∵
    move ! (1 ∷ []) $ split ! $ heard ! _ (λ lives. drop ! $ split ! $ split ! $ move ! (2 ∷ []) $ split ! $ keep ! (0 ∷ 2 ∷ []) $
    -- [the box; its lifetime's token]
    enter ! _ _ _ _ _ $ alloc_all ! (λ l. pass_all ! refl (ok, tt) $
    sets ! (of_opd ! (get ! refl)) refl ok $
    let Z = arg (bare (layout global.the_row)) no global.the_row in let LZ = arg_laws (bare (layout global.the_row)) no global.the_row global_laws refl in
    let dd = impl ("kept_boxes::Destruct++none::drop" ∷ []) (tcons (layout Z) tnil) dnil in
    let G = triple_of 𝓛 (g.signature T Z ghosts dict dd drops) (g.spec T Z ghosts dict dd drops 𝓛 𝓜.mem 𝓡.returns) in
    let z : G.Ghost = (((κ, ([], tt)), (q, (full_share, tt)), tt, (b, tt), (v ∷ [], tt)), tt) in
    use0 𝓛 (‵ (flft [] full_share)) (𝓛.lfts.lft-nil full_share) $
    -- [the token of no lifetime; the box; its lifetime's token]
    nothing ! $ move ! (1 ∷ 0 ∷ []) $ join ! $ move ! (2 ∷ 0 ∷ []) $ join ! $ nothing ! $ move ! (2 ∷ 0 ∷ []) $ join ! $ move ! (1 ∷ 0 ∷ []) $ join ! $
    nothing ! $ use0 𝓛 (raw (fact 𝓤 ([] ⊑ Z.lives))) (fact_i 𝓤 ([] ⊑ Z.lives) (emp 𝓤) (⊑_static [])) $ join ! $
    use0 𝓛 (raw (fact 𝓤 (κ ⊑ T.lives))) (fact_i 𝓤 (κ ⊑ T.lives) (emp 𝓤) lives) $ join ! $ move ! (1 ∷ 0 ∷ []) $
    use2 𝓛 (raw (G.pre z)) (id⊢ 𝓤 _) $
    calls_at ! (framed 𝓤 𝓛.H 𝓜 𝓣) G
    (met 𝓤 𝓛 𝓜 𝓡 (code.calls-std_alloc::boxed::Box::into_raw 𝓡.env wired) T Z laws LZ ghosts dict dd drops
    (passed 𝓡.env (code.calls-std_heap::GlobalAllocator::allocate 𝓡.env wired) (code.calls-std_heap::GlobalAllocator::deallocate 𝓡.env wired)
    (code.calls-std_heap::GlobalAllocator::grow 𝓡.env wired) (code.calls-std_heap::GlobalAllocator::shrink 𝓡.env wired) M 𝓤 𝓛 𝓜 𝓡)
    (glues "kept_boxes::Destruct++none::drop" 𝓡.env (code.calls-kept_boxes::Destruct++none::drop 𝓡.env wired) Z LZ M 𝓤 𝓛 𝓜 𝓡) glue)
    z (and_then ! (get ! refl) (no_more !)) (λ u.
    use1 𝓛 (later (some (λ (p : Ptr). ((‵ (flft κ q) ⊛ ‵ (flft [] full_share) ⊛ ‵ ftrue) ⊛ ‵ (RawPtr.own_val p (u ∷ []))) ⊛ some (λ (ws : (Unit {0} × (Unit {0} × Unit {0})) × Unit {0}). ‵ (lasts (g.ended T Z ghosts dict dd drops) z.0.0 z.0.3 ws) ⊛ ‵ (box_at (f.T-row T) p (Some b.value)))))) (id⊢ 𝓤 _) $
    await ! tt $ pick ! (λ p. split ! $ split ! $ split ! $ move ! (1 ∷ []) $ drop ! $ move ! (1 ∷ []) $ feq_l ! (λ is. move ! (1 ∷ []) $ pick ! (λ ws. split ! $ drop ! $
    -- [what the pointer owns; the token]
    lands_as ! (ap only is) refl (ptr_fits p) $
    sets ! (agg ! (and_then ! (get ! refl) (no_more !))) refl (fits (f.T-row T) p) $
    returns ! (look_at ! 0 refl) $ free_all ! refl $
    suffices ! _ (ends_at 𝓛 (f.ended T drops) stayed c (at (v ∷ [])) (word p) (record { at = p; value = Some b.value }) (tt, tt) (tt, tt)) $ says ! refl $
    use1 𝓛 (‵ (owned (f.T-row T) p (Some b.value))) (shut 𝓛 (f.T-row T) p (Some b.value)) $
    nothing ! $ nothing ! $ fjoin ! $ join ! $ move ! (1 ∷ []) $ nothing ! $ move ! (1 ∷ 0 ∷ []) $ join ! $ join ! $ done !))))))))
