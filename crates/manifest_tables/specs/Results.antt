-- Steps of a reading, each of which gives a value or a fault.
use Rattle.std.specs.Prelude.{◌≡◌, Bool, if◌then◌else◌, Result, Ok, Err}

-- one step after another, up to the first fault
infixl 10 ◌>>=◌
abbrev pub ◌>>=◌ : {A B F : Type 0} → Result A F → (A → Result B F) → Result B F
(Ok x) >>= f = f x
(Err e) >>= f = Err e

-- the value where the test holds
abbrev pub tested : {A F : Type 0} → Bool → A → F → Result A F
tested test x fault = if test then Ok x else Err fault

-- a result, seen by view, is what reading gives
abbrev pub Tells : {X Y F : Type 0} → (X → Y) → Result X F → Result Y F → Type 0
Tells view (Ok x) read = read ≡ Ok (view x)
Tells view (Err e) read = read ≡ Err e
