-- A handle from its pointer and what the pointer owns.
use Rattle.std.specs.Prelude.{Option, None, Some, List, [], ◌∷◌, ◌++◌}
use Rattle.std.proofs.Common.{refl, lit<}
use lib.Dec.{T}
use seplogic.Ra.Ura.{Ura}
use base.Fml.{Fml, ftrue, fsep, feq, fex}
use base.Logic.{ent}
use mir.Syntax.{ty_ptr}
use mir.Val.{Val, vstruct, vcons, vnil, of_list, has_ty, WT}
use types.Match.{live}
use types.Logic.{Logic, sem}
use types.Kit.{‵, move, ◌$◌, ◌∵◌, !, qed, fjoin, feq_i, fpack, done}
use denote.RattleType.{RattleType, Valss}
use denote.Param.{layout}
use denote.RawPtr.{Ptr, RawPtr, ptr_val, block_ptr, null_ptr}
use denote.Steps.{nothing}
use denote.Struct.Owning.{shape, to}
use denote.Struct.Struct.{within}
use Rattle.std.specs.contracts.option.Option as option
use Rattle.kept_boxes.specs.Owned.{box_at}
use Rattle.kept_boxes.specs.contracts.Kept.{the_row, the_type}

-- how the machine holds a handle
abbrev pub word : Ptr → Val
word p = vstruct (vcons (ptr_val p) vnil)

-- what a handle owns
abbrev pub owned : (R : RattleType) → Ptr → Option R.Denot → Fml
owned R p v = (the_row R).own_val (record { at = p; value = v }) (word p ∷ [])

module _ {M : Type 1} {𝓤 : Ura M} (𝓛 : Logic 𝓤) (R : RattleType) (p : Ptr) (v : Option R.Denot) where
  pub shut : ent 𝓤 (sem 𝓛 (box_at R p v)) (sem 𝓛 (owned R p v))
  shut =
      qed 𝓛 (‵ (box_at R p v) ∷ []) ∵
      nothing ! $ feq_i ! (List Val) (ptr_val p ∷ []) (ptr_val p ∷ []) refl $ fjoin ! $
      feq_i ! (List Val) (word p ∷ []) (word p ∷ []) refl $ fjoin ! $
      fpack ! (Valss (RawPtr ∷ [])) (within (shape (the_type R)) (to (the_type R) (record { at = p; value = v })) (word p ∷ [])) (ptr_val p ∷ [], tt) $
      fjoin ! $ done !

-- it is a value of the machine
pub fits : (R : RattleType) (p : Ptr) → T (has_ty (layout (the_row R)) (word p)) × WT (word p)
fits R (block_ptr b o) = (tt, (tt, tt))
fits R null_ptr = (tt, (record { fits = lit< tt }, tt))

-- and so is its pointer
pub ptr_fits : (p : Ptr) → T (has_ty ty_ptr (ptr_val p)) × WT (ptr_val p)
ptr_fits (block_ptr b o) = (tt, tt)
ptr_fits null_ptr = (tt, record { fits = lit< tt })

-- no box, and a box, as the machine holds them
module _ (B : RattleType) where
  abbrev pub none_word : Val
  none_word = live 0 vnil

  abbrev pub some_word : Val → Val
  some_word w = live 1 (vcons w vnil)

  module _ {M : Type 1} {𝓤 : Ura M} (𝓛 : Logic 𝓤) where
    pub none_owned : ent 𝓤 (sem 𝓛 ftrue) (sem 𝓛 ((option.the_row B).own_val None (none_word ∷ [])))
    none_owned =
        qed 𝓛 (‵ ftrue ∷ []) ∵ feq_i ! (List Val) [] [] refl $ fjoin ! $
        fpack ! (Unit {0}) (λ vss. fsep (feq (List Val) [] []) ftrue) tt $ feq_i ! (List Val) (none_word ∷ []) (none_word ∷ []) refl $ fjoin ! $
        fpack ! (List Val) (λ us. fsep (feq (List Val) (none_word ∷ []) (live 0 (of_list us) ∷ [])) (fex (Unit {0}) (λ vss. fsep (feq (List Val) us []) ftrue))) [] $ done !

    pub some_owned : (x : B.Denot) (w : Val) → ent 𝓤 (sem 𝓛 (B.own_val x (w ∷ []))) (sem 𝓛 ((option.the_row B).own_val (Some x) (some_word w ∷ [])))
    some_owned x w =
        qed 𝓛 (‵ (B.own_val x (w ∷ [])) ∷ []) ∵ nothing ! $ move ! (1 ∷ 0 ∷ []) $ fjoin ! $ feq_i ! (List Val) (w ∷ []) (w ∷ []) refl $ fjoin ! $
        fpack ! (List Val × Unit {0}) (λ vss. fsep (feq (List Val) (w ∷ []) (vss.0 ++ [])) (fsep (B.own_val x vss.0) ftrue)) (w ∷ [], tt) $
        feq_i ! (List Val) (some_word w ∷ []) (some_word w ∷ []) refl $ fjoin ! $
        fpack ! (List Val) (λ us. fsep (feq (List Val) (some_word w ∷ []) (live 1 (of_list us) ∷ [])) (fex (List Val × Unit {0}) (λ vss. fsep (feq (List Val) us (vss.0 ++ [])) (fsep (B.own_val x vss.0) ftrue)))) (w ∷ []) $ done !
