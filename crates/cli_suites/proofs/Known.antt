-- What holds whatever the files are.
use Rattle.std.specs.Prelude.{Option, Some, None, IfSome}

pub whatever : {A : Type 0} (known : Option A) (P : A → Type 0) → ((x : A) → P x) → IfSome known P
whatever None P holds = tt
whatever (Some x) P holds = holds x
