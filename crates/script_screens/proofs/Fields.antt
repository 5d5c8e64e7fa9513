-- Fields that are asked for with arguments.
use Rattle.std.proofs.Common.{◌≡◌, ◌≤◌, ℕ, List, [], ◌∷◌, ◌++◌, length, map, codes, refl, arith}
use Rattle.ds_screen.specs.Picture.{Picture}
use Rattle.script_screens.specs.declared.code_page.CodePage.{CodePage}
use Rattle.script_screens.specs.declared.shown.Form.{Form}
use Rattle.script_screens.specs.Lines.{failed}
use Rattle.script_screens.specs.Reading.{field_said}

pub with_arguments : {X : Type 0} (f : X → List ℕ) (page : CodePage) (form : Form) (v : Picture) (name : List ℕ) (xs : List X) → 1 ≤ length xs
    → field_said page form v name (map f xs) ≡ failed (name ++ codes "() requires 0 arguments")
with_arguments f page form v name [] some = absurd (omega (arith, some))
with_arguments f page form v name (x ∷ xs) some = refl
