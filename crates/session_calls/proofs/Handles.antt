-- A handle from its pointer and what the pointer owns.
use Rattle.std.specs.Prelude.{Option, List, [], ◌∷◌}
use Rattle.std.proofs.Common.{refl}
use seplogic.Ra.Ura.{Ura}
use base.Fml.{Fml}
use base.Logic.{ent}
use mir.Val.{Val}
use types.Logic.{Logic, sem}
use types.Kit.{‵, ◌$◌, ◌∵◌, !, qed, fjoin, feq_i, fpack, done}
use denote.RattleType.{Valss}
use denote.RawPtr.{Ptr, RawPtr, ptr_val}
use denote.Steps.{nothing}
use denote.Struct.Owning.{shape, to}
use denote.Struct.Struct.{within}
use Rattle.kept_boxes.specs.Owned.{box_at}
use Rattle.kept_boxes.proofs.Pointers.{word}
use Rattle.session_calls.specs.contracts.held.HeldSession.{the_row, the_type}
use Rattle.session_calls.specs.Lines.{Line}
use Rattle.session_calls.specs.Rows.{line_row}

abbrev pub held_owned : Ptr → Option Line → Fml
held_owned p v = the_row.own_val (record { at = p; line = v }) (word p ∷ [])

module _ {M : Type 1} {𝓤 : Ura M} (𝓛 : Logic 𝓤) (p : Ptr) (v : Option Line) where
  pub held_shut : ent 𝓤 (sem 𝓛 (box_at line_row p v)) (sem 𝓛 (held_owned p v))
  held_shut =
      qed 𝓛 (‵ (box_at line_row p v) ∷ []) ∵
      nothing ! $ feq_i ! (List Val) (ptr_val p ∷ []) (ptr_val p ∷ []) refl $ fjoin ! $
      feq_i ! (List Val) (word p ∷ []) (word p ∷ []) refl $ fjoin ! $
      fpack ! (Valss (RawPtr ∷ [])) (within (shape the_type) (to the_type (record { at = p; line = v })) (word p ∷ [])) (ptr_val p ∷ [], tt) $
      fjoin ! $ done !
