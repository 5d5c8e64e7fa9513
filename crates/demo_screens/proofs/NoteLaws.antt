-- Undoing what was noted.
use Rattle.std.proofs.Common.{◌≡◌, ℕ, ◌<◌, List, [], ◌∷◌, ◌++◌, length, set, get_or, refl, sym, ◌∙◌, ap, subst, arith, inl, inr, get_or-set_same, get_or-set_other}
use Rattle.std.proofs.lemmas.Bool.{cases_eq}
use Rattle.std.proofs.lemmas.List.{length-set}
use Rattle.ds_codec.specs.declared.cell.Cell.{Cell}
use Rattle.ds_screen.specs.Picture.{Picture, blank, cell_at}
use Rattle.ds_screen.specs.Fields.{is_attribute}
use Rattle.demo_screens.specs.declared.notes.Note.{Note}
use Rattle.demo_screens.specs.Notes.{undone, AreAlike}

abbrev pub with_undone : Picture → List Note → Picture
with_undone v notes = record v { cells = undone v.cells notes }

pub undone_parts : (cells : List Cell) (notes others : List Note) → undone cells (notes ++ others) ≡ undone (undone cells others) notes
undone_parts cells [] others = refl
undone_parts cells (note ∷ notes) others = ap (λ xs. set xs note.place note.cell) (undone_parts cells notes others)

-- ---- cells of the same kinds
abbrev pub SameKinds : List Cell → List Cell → Type 0
SameKinds old new = (length new ≡ length old) × ((p : ℕ) → is_attribute (cell_at new p) ≡ is_attribute (cell_at old p))

pub alike_kept : (old new : List Cell) (notes : List Note) → SameKinds old new → AreAlike old notes → AreAlike new notes
alike_kept old new [] same alike = tt
alike_kept old new (note ∷ notes) same alike =
    (omega (arith, same.0, alike.0), same.1 note.place ∙ alike.1, alike_kept old new notes same alike.2)

pub alike_both : (cells : List Cell) (notes others : List Note) → AreAlike cells notes → AreAlike cells others → AreAlike cells (notes ++ others)
alike_both cells [] others first second = second
alike_both cells (note ∷ notes) others first second = (first.0, first.1, alike_both cells notes others first.2 second)

pub alike_first : (cells : List Cell) (notes others : List Note) → AreAlike cells (notes ++ others) → AreAlike cells notes
alike_first cells [] others both = tt
alike_first cells (note ∷ notes) others both = (both.0, both.1, alike_first cells notes others both.2)

pub alike_last : (cells : List Cell) (notes others : List Note) → AreAlike cells (notes ++ others) → AreAlike cells others
alike_last cells [] others both = both
alike_last cells (note ∷ notes) others both = alike_last cells notes others both.2

pub set_kinds : (cells : List Cell) (q : ℕ) (cell : Cell) → q < length cells → is_attribute (cell_at cells q) ≡ is_attribute cell → SameKinds cells (set cells q cell)
set_kinds cells q cell inside alike = (
  length-set cells q cell,
  λ p. elim (cases_eq p q) [
    | inl same ↦
        ap (λ k. is_attribute (get_or (set cells q cell) k blank)) same
        ∙ ap is_attribute (get_or-set_same cells q cell blank inside) ∙ sym alike ∙ ap (λ k. is_attribute (cell_at cells k)) (sym same)
    | inr apart ↦ ap is_attribute (get_or-set_other cells q p cell blank apart)
  ],
)

-- ---- one note less
pub last_alike : (cells : List Cell) (notes rest : List Note) (note : Note) → notes ≡ rest ++ note ∷ [] → AreAlike cells notes → AreAlike cells (note ∷ [])
last_alike cells notes rest note split alike = alike_last cells rest (note ∷ []) (subst (AreAlike cells) split alike)

pub put_same : (v new : Picture) (notes rest : List Note) (note : Note) → notes ≡ rest ++ note ∷ [] → new ≡ record v { cells = set v.cells note.place note.cell }
    → with_undone new rest ≡ with_undone v notes
put_same v new notes rest note split puts =
    ap (λ (w : Picture). with_undone w rest) puts
    ∙ sym (ap (λ xs. let w : Picture = record v { cells = xs } in w) (ap (undone v.cells) split ∙ undone_parts v.cells rest (note ∷ [])))

pub put_alike : (v new : Picture) (notes rest : List Note) (note : Note) → notes ≡ rest ++ note ∷ [] → new ≡ record v { cells = set v.cells note.place note.cell } → AreAlike v.cells notes
    → AreAlike new.cells rest
put_alike v new notes rest note split puts alike =
    let last = last_alike v.cells notes rest note split alike in
    let first : AreAlike v.cells rest = alike_first v.cells rest (note ∷ []) (subst (AreAlike v.cells) split alike) in
    subst (λ xs. AreAlike xs rest) (sym (ap (λ (w : Picture). w.cells) puts))
    (alike_kept v.cells (set v.cells note.place note.cell) rest (set_kinds v.cells note.place note.cell last.0 last.1) first)
