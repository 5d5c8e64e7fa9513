-- A null pointer is no box; another one is put together again with the right to free its block.
use Rattle.std.specs.Prelude.{◌≡◌, List, Option, Some, None}
use Rattle.std.proofs.Common.{[], ◌∷◌, ◌++◌, refl, sym, subst, ap, lit<}
use Rattle.std.proofs.raw_atomic.Walks.{proved_at}
use Rattle.std.proofs.alloc.Calls.{Goes-blank}
use Rattle.std.proofs.VecSteps.Shapes.{after}
use Rattle.std.specs.Ptr.{points_to}
use mathlib.Core.Bool.{Bool, true, false, ◌&&◌}
use lib.Dec.{T as T'}
use seplogic.Ra.Ura.{Ura}
use base.Fraction.{full_share}
use base.Fml.{ftrue, flft}
use base.Logic.{ent, emp, id⊢, guard_i}
use contract.BorrowLft.{◌⊑◌, ⊑_static}
use contract.Monad.{fact, fact_i, fact_use}
use contract.Running.{Running, MachineTables, tables, tables_of}
use mir.Syntax.{a_type, tcons, tnil, dnil, impl, Fn, ptr_eq}
use mir.Raw.{raw as bare}
use mir.MapTy.{inst_fn}
use mir.Val.{Val, vbool, vnull, op2_val, has_ty, WT}
use prog.Model.{Model}
use prog.Wired.{Wired}
use prog.Wp.{WpFn}
use types.Logic.{Logic, sem}
use types.Kit.{‵, raw, ◌⊛◌, use0, use1, use2, later, some, given, learn, await, pick, feq_l, feq_i, move, keep, ◌$◌, ◌∵◌, !, qed, done, drop, split, fsplit, join, fjoin, suffices, prop, at_ret, Sq}
use types.Part.{agg, whole, sub}
use types.Run.{enter, of_opd, bin, lit, and_then, no_more, returns, returns_within, stop, fld, first, branches, skips, exec, blocks}
use types.ByLocal.{lands_last, alloc_all, pass_all, free_all, look_at, get, get_in, sets, is, env}
use denote.Exit.{no, yes}
use denote.Param.{arg, layouts, layout}
use denote.Param.Laws.{arg_laws, param_laws, Laws}
use denote.Param.Steps.{one_value}
use denote.Param.NoDrop.{glues}
use denote.Memory.{lone}
use denote.RattleType.{RattleType}
use denote.RawPtr.{Ptr, ptr_val, block_ptr, null_ptr, tests_null, Testable, InBlock, in_a_block}
use denote.Signature.{plain}
use denote.Steps.{nothing, heard, peeks}
use denote.Laws.{Is, shows, Lawful}
use denote.Triple.Call.{calls_at_last}
use denote.Triple.Table.{framed}
use denote.Triple.Clauses.{lasts, closing, Clauses}
use denote.Triple.Statement.{Contract}
use denote.Triple.Spec.{triple_of, Meets}
use denote.Triple.Walked.{Stays, stay_dropped, walk_of, says, ends_at, Goes-dropped}
use Rattle.std.specs.contracts.alloc.Global as global
use Rattle.std.specs.contracts.boxed.Box as box
use Rattle.std.specs.contracts.option.Option as option
use Rattle.std.specs.contracts.impls.GlobalAllocator.TheImpl.{ghosts, dict}
use Rattle.std.proofs.alloc.Global.TheLaws.{the_row_laws as global_laws}
use Rattle.kept_boxes.specs.Owned.{box_at, heap}
use Rattle.std.proofs.GlobalToken.{dealloc_token-Testable}
use Rattle.std.specs.contracts.boxed.Box.from_raw as g'
use Rattle.std.proofs.boxed.Box.from_raw.Met.{met}
use Rattle.std.proofs.boxed.Box.TheLaws.{the_field_loose}
use Rattle.std.proofs.impls.GlobalAllocator.TheImpl.Met.{passed}
use Rattle.kept_boxes.proofs.Destruct++none.drop.Code as no_drop
use Rattle.kept_boxes.specs.contracts.Kept as kept
use Rattle.kept_boxes.specs.contracts.Kept.open as f
use Rattle.kept_boxes.proofs.Kept.TheLaws.{lowers}
use Rattle.kept_boxes.proofs.Kept.open.Statement.{statement}
use Rattle.kept_boxes.proofs.Kept.open.Code as code
use Rattle.kept_boxes.proofs.Pointers.{word, fits, ptr_fits, none_word, some_word, none_owned, some_owned}

and_true : (b : Bool) → T' b → T' (b && true)
and_true true t = tt
and_true false t = absurd t

module _ {M : Type 1} (𝓤 : Ura M) (𝓛 : Logic 𝓤) (𝓜 : Model 𝓤 𝓛.H) (𝓡 : Running 𝓤 𝓛.H 𝓜) (wired : Wired 𝓡.env code.code) (T : RattleType) (laws : Laws T) where
  abbrev K : RattleType
  K = kept.the_row (f.T-row T)

  abbrev B : RattleType
  B = box.the_row (f.T-row T) global.the_row ghosts

  abbrev Z : RattleType
  Z = arg (bare (layout global.the_row)) no global.the_row

  abbrev LZ : Laws Z
  LZ = arg_laws (bare (layout global.the_row)) no global.the_row global_laws refl

  boxes : (𝓛 : Logic 𝓤) → Lawful 𝓛 B
  boxes 𝓛 = (the_field_loose (f.T-row T) global.the_row ghosts (param_laws 0 T laws) global_laws).lawful 𝓛

  abbrev function : Fn
  function = inst_fn (layouts (a_type ∷ []) (T, tt)) code.function

  abbrev stayed : Stays (f.ended T).signature.params (f.ended T).kept
  stayed = (stay_dropped (plain (λ _. K)) no, (stay_dropped (plain (λ _. global.the_row)) yes, tt))

  abbrev c : Clauses 𝓤 (f.ended T)
  c = f.clauses T 𝓛 𝓜.mem 𝓡.returns

  abbrev W : Contract 𝓤
  W = walk_of 𝓛 (f.ended T) stayed c

  abbrev 𝓣 : MachineTables 𝓤 𝓛.H 𝓜
  𝓣 = tables 𝓤 𝓛.H 𝓜 𝓡 𝓡.env

  -- what is opened, with its pointer, what that owns, and the machine's handle to the heap
  abbrev At : W.Ghost → Ptr → Option T.Denot → Val → W.Ghost
  At y p o g = ((y.0.0, y.0.1, y.0.2, (record { at = p; value = o }, y.0.3.1), (word p ∷ [], (g ∷ [], tt))), y.1)

  abbrev Opens : W.Ghost → Ptr → Option T.Denot → Val → Type 1
  Opens y p o g = Sq 𝓛 (‵ (box_at (f.T-row T) p o) ∷ ‵ (flft y.0.0.0 y.0.1.0) ∷ ‵ (global.the_row.own_val y.0.3.1.0 (g ∷ [])) ∷ [])
      (prop (WpFn 𝓤 𝓛.H 𝓣.C 𝓣.Λ function (word p ∷ g ∷ []) (W.post (At y p o g))))

  module _ (y : W.Ghost) (lives : y.0.0.0 ⊑ T.lives) (g : Val) (ok : T' (has_ty (layout global.the_row) g) × WT g) where
    none_there : Opens y null_ptr None g
    none_there =
        let is_null : op2_val ptr_eq (ptr_val null_ptr) vnull ≡ vbool true = refl in
        drop ! $ enter ! _ _ _ _ _ $ alloc_all ! (λ l. pass_all ! refl (fits (f.T-row T) null_ptr, (ok, tt)) $
        sets ! (of_opd ! (get_in ! (fld ! refl (stop !)) (sub ! 0 refl (whole !)))) refl (ptr_fits null_ptr) $
        sets ! (of_opd ! (get ! refl)) refl (ptr_fits null_ptr) $
        sets ! (is ! (bin ! (get ! refl) (lit ! tt) (tests_null null_ptr (lit< tt))) is_null) refl (tt, tt) $
        first ! $ branches ! (get ! refl)
        (λ _. sets ! (agg ! (and_then ! (lit ! tt) (no_more !))) refl (tt, (record { fits = lit< tt }, tt)) $
        returns_within ! (W.post (At y null_ptr None g)) refl (look_at ! 0 refl) $ free_all ! refl $
        move ! (1 ∷ []) $ drop ! $
        suffices ! _ (ends_at 𝓛 (f.ended T) stayed c (At y null_ptr None g) (none_word B) None (tt, (tt, tt)) (tt, (tt, tt))) $ says ! refl $
        nothing ! $ use1 𝓛 (‵ ((option.the_row B).own_val None (none_word B ∷ []))) (none_owned B 𝓛) $
        nothing ! $ nothing ! $ nothing ! $ move ! (1 ∷ 0 ∷ []) $ fjoin ! $ move ! (1 ∷ 0 ∷ []) $ fjoin ! $ join ! $ move ! (1 ∷ []) $ nothing ! $ move ! (1 ∷ 0 ∷ []) $ join ! $ join ! $ done !)
        (λ z. absurd z))

    opens : (p : Ptr) (o : Option T.Denot) → Opens y p o g
    unfolding no_drop.code
    opens null_ptr None = none_there
    opens (block_ptr b n) None = feq_l ! (λ e. absurd (subst InBlock e tt))
    opens null_ptr (Some x) = fsplit ! $ in_a_block ! null_ptr (λ p. points_to (f.T-row T) p x) (id⊢ 𝓤 _) (λ b n e. absurd (subst InBlock (sym e) tt))
    opens (block_ptr b n) (Some x) =
        let p = block_ptr b n in let R = f.T-row T in let token = ghosts.dealloc_token heap (bare (lone R.mir)) p in
        let not_null : op2_val ptr_eq (ptr_val p) vnull ≡ vbool false = refl in
        let dd = impl ("kept_boxes::Destruct++none::drop" ∷ []) (tcons (layout Z) tnil) dnil in
        let G = triple_of 𝓛 (g'.signature T Z ghosts dict dd) (g'.spec T Z ghosts dict dd 𝓛 𝓜.mem 𝓡.returns) in
        let κ = y.0.0.0 in let q = y.0.1.0 in
        let z : G.Ghost = (((κ, ([], tt)), (q, (full_share, tt)), tt, (y.0.3.1.0, (p, tt)), (g ∷ [], (ptr_val p ∷ [], tt))), x) in
        fsplit ! $ move ! (1 ∷ []) $
        use1 𝓛 (given (Testable p) (‵ token)) (fact_use 𝓤 (Testable p) (dealloc_token-Testable 𝓛 heap (bare (lone R.mir)) p) (λ may. guard_i 𝓤 (Testable p) (sem 𝓛 token) may)) $ learn ! (λ may.
        move ! (1 ∷ 0 ∷ []) $ fjoin ! $
        -- [the box's memory; the token; the handle to the heap]
        enter ! _ _ _ _ _ $ alloc_all ! (λ l. pass_all ! refl (fits R p, (ok, tt)) $
        sets ! (of_opd ! (get_in ! (fld ! refl (stop !)) (sub ! 0 refl (whole !)))) refl (ptr_fits p) $
        sets ! (of_opd ! (get ! refl)) refl (ptr_fits p) $
        sets ! (is ! (bin ! (get ! refl) (lit ! tt) (tests_null p may)) not_null) refl (tt, tt) $
        first ! $ branches ! (get ! refl) (λ z. absurd z) (λ _. skips ! $
        exec ! 𝓣.C 𝓣.Λ (env function.locals l) (after 4 function.body) (at_ret (env function.locals l) (W.post (At y p (Some x) g))) $
        first ! $ blocks ! $
        sets ! (of_opd ! (get ! refl)) refl ok $ sets ! (of_opd ! (get ! refl)) refl (ptr_fits p) $
        use0 𝓛 (‵ (flft [] full_share)) (𝓛.lfts.lft-nil full_share) $ nothing ! $ move ! (1 ∷ 0 ∷ []) $ join ! $ move ! (2 ∷ 0 ∷ []) $ join ! $
        nothing ! $ feq_i ! (List Val) (ptr_val p ∷ []) (ptr_val p ∷ []) refl $ join ! $ move ! (3 ∷ 0 ∷ []) $ join ! $ move ! (1 ∷ 0 ∷ []) $ join ! $ move ! (1 ∷ []) $
        use0 𝓛 (raw (fact 𝓤 ([] ⊑ Z.lives))) (fact_i 𝓤 ([] ⊑ Z.lives) (emp 𝓤) (⊑_static [])) $ join ! $
        use0 𝓛 (raw (fact 𝓤 (κ ⊑ T.lives))) (fact_i 𝓤 (κ ⊑ T.lives) (emp 𝓤) lives) $ join ! $ move ! (1 ∷ 0 ∷ []) $
        use2 𝓛 (raw (G.pre z)) (id⊢ 𝓤 _) $
        calls_at_last ! (framed 𝓤 𝓛.H 𝓜 𝓣) G
        (met 𝓤 𝓛 𝓜 𝓡 (code.calls-std_alloc::boxed::Box::from_raw 𝓡.env wired) T Z laws LZ ghosts dict dd
        (passed 𝓡.env (code.calls-std_heap::GlobalAllocator::allocate 𝓡.env wired) (code.calls-std_heap::GlobalAllocator::deallocate 𝓡.env wired)
        (code.calls-std_heap::GlobalAllocator::grow 𝓡.env wired) (code.calls-std_heap::GlobalAllocator::shrink 𝓡.env wired) M 𝓤 𝓛 𝓜 𝓡)
        (glues "kept_boxes::Destruct++none::drop" 𝓡.env (code.calls-kept_boxes::Destruct++none::drop 𝓡.env wired) Z LZ M 𝓤 𝓛 𝓜 𝓡))
        z (and_then ! (get ! refl) (and_then ! (get ! refl) (no_more !))) (λ u.
        use1 𝓛 (later (some (λ (r : B.Denot). ((‵ (flft κ q) ⊛ ‵ (flft [] full_share) ⊛ ‵ ftrue) ⊛ ‵ (B.own_val r (u ∷ []))) ⊛ some (λ (ws : Unit {0} × (Unit {0} × Unit {0})).
        ‵ (lasts (g'.ended T Z ghosts dict dd) z.0.0 z.0.3 ws) ⊛ raw (fact 𝓤 (r.value ≡ x)) ⊛ raw (fact 𝓤 (r.alloc ≡ y.0.3.1.0)))))) (id⊢ 𝓤 _) $
        await ! tt $ pick ! (λ r. split ! $ split ! $ split ! $ move ! (1 ∷ []) $ drop ! $ move ! (2 ∷ []) $ pick ! (λ ws. split ! $ drop ! $ split ! $ heard ! _ (λ same. drop ! $
        move ! (1 ∷ []) $ peeks ! B (Is B) (shows 𝓛 B) r (u ∷ []) (λ is'.
        let fit = ((boxes 𝓛).typed r (u ∷ []) is').0 in
        lands_last ! refl fit $
        exec ! 𝓣.C 𝓣.Λ (env function.locals l) (after 5 function.body) (at_ret (env function.locals l) (W.post (At y p (Some x) g))) $
        sets ! (of_opd ! (get ! refl)) refl fit $
        sets ! (agg ! (and_then ! (lit ! tt) (and_then ! (get ! refl) (no_more !)))) refl (and_true _ fit.0, (record { fits = lit< tt }, (fit.1, tt))) $
        returns ! (look_at ! 0 refl) $ free_all ! refl $
        suffices ! _ (ends_at 𝓛 (f.ended T) stayed c (At y p (Some x) g) (some_word B u) (Some r) (tt, (tt, tt)) (tt, (tt, tt))) $ says ! (ap (λ (v : T.Denot). Some v) same) $
        use1 𝓛 (‵ ((option.the_row B).own_val (Some r) (some_word B u ∷ []))) (some_owned B 𝓛 r u) $
        nothing ! $ nothing ! $ nothing ! $ move ! (1 ∷ 0 ∷ []) $ fjoin ! $ move ! (1 ∷ 0 ∷ []) $ fjoin ! $ join ! $ move ! (1 ∷ []) $ nothing ! $ move ! (1 ∷ 0 ∷ []) $ join ! $ join ! $ done !))))))))

  spec : Meets 𝓛 (f.signature T) (𝓣.C (f.Key.name (layouts (a_type ∷ []) (T, tt)))) (closing 𝓛 (f.ended T) c)
  spec =
      proved_at 𝓛 (f.ended T) stayed c 𝓜 𝓡 (Goes-blank 𝓛 1 (plain (λ _. K)) no (λ κs x w. tt), (Goes-dropped 𝓛 1 (plain (λ _. global.the_row)) yes (λ κs x w. refl), tt))
      (f.Key.name (layouts (a_type ∷ []) (T, tt))) function (code.unfolded 𝓤 𝓛.H 𝓜 𝓡 wired (T, tt))
      (λ y are.
      let κ = y.0.0.0 in let q = y.0.1.0 in let h = y.0.3.0 in
      let at : List Val → List Val → W.Ghost = λ us gs. ((y.0.0, y.0.1, y.0.2, y.0.3, (us, (gs, tt))), y.1) in
      let Runs : List Val → List Val → Type 1 = λ us gs. ent 𝓤 (W.pre (at us gs)) (WpFn 𝓤 𝓛.H 𝓣.C 𝓣.Λ function (us ++ (gs ++ [])) (W.post (at us gs))) in
      subst (λ us. Runs us y.0.4.1.0) (sym ((lowers (f.T-row T) (param_laws 0 T laws)).val_is h y.0.4.0 are.0))
      (one_value (layout global.the_row) (λ gs. Runs (word h.at ∷ []) gs) y.0.4.1.0 ((global_laws.lawful 𝓛).typed y.0.3.1.0 y.0.4.1.0 are.1.0) (λ g ok.
      qed 𝓛 (((‵ (flft κ q) ⊛ ‵ ftrue) ⊛ ‵ (K.own_val h (word h.at ∷ [])) ⊛ ‵ (global.the_row.own_val y.0.3.1.0 (g ∷ [])) ⊛ ‵ ftrue) ∷ (raw (fact 𝓤 (κ ⊑ T.lives)) ⊛ raw (emp 𝓤)) ∷ []) ∵
      move ! (1 ∷ []) $ split ! $ heard ! _ (λ lives. drop ! $ split ! $ split ! $ move ! (2 ∷ []) $ split ! $ fsplit ! $ drop ! $ move ! (1 ∷ []) $ split ! $ keep ! (2 ∷ 3 ∷ 0 ∷ []) $
      opens y lives g ok h.at h.value))))

pub open_spec : {M : Type 1} → statement M
unfolding tables_of no_drop.code
open_spec {M} 𝓤 𝓛 𝓜 𝓡 wired T laws = spec 𝓤 𝓛 𝓜 𝓡 wired T laws
