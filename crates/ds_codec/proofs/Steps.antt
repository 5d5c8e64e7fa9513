-- Steps that may fail, and choices.
use Rattle.std.proofs.Common.{◌≡◌, Bool, true, false, cond, Some, Result, Ok, Err, refl, ◌⊎◌, inl, inr}
use Rattle.ds_codec.specs.Reading.{◌>>=◌}

-- which way a test went
pub chosen : {A : Type 0} (b : Bool) (x y z : A) → cond b x y ≡ z → ((b ≡ true) × (x ≡ z)) ⊎ ((b ≡ false) × (y ≡ z))
chosen true x y z e = inl (refl, e)
chosen false x y z e = inr (refl, e)

abbrev pub done : {A E : Type 0} → A → Result A E
done x = Ok x

abbrev pub failed : {A E : Type 0} → E → Result A E
failed e = Err e

pub ok_is : {A : Type 0} (E : Type 0) (x y : A) → done {A = A} {E = E} x ≡ Ok y → x ≡ y
ok_is E x y e = cc

pub err_is : {E : Type 0} (A : Type 0) (x y : E) → failed {A = A} {E = E} x ≡ Err y → x ≡ y
err_is A x y e = cc

pub some_is : {A : Type 0} (x y : A) → Some x ≡ Some y → x ≡ y
some_is x y e = cc

-- the value of a step that did not fail
pub bind_ok : {A B E : Type 0} (r : Result A E) (f : A → Result B E) (y : B) → (r >>= f) ≡ Ok y → (x : A) × (r ≡ Ok x) × (f x ≡ Ok y)
bind_ok (Ok x) f y e = (x, refl, e)
bind_ok (Err d) f y e = absurd cc
