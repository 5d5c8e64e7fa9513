-- The layout that was read last.
use Rattle.std.specs.Prelude.{ℕ, List}
use Rattle.scr_layout.specs.Layout.{Declaration}

-- a layout, and the text that says it
pub record Remembered : Type 0 where
  pub text : List ℕ
  pub layout : Declaration
