-- What a reading that gives a value says of its steps.
use Rattle.std.proofs.Common.{◌≡◌, ℕ, ℤ, pos, negsuc, ◌≤◌, ◌&&◌, nat_le, arith, Bool, true, false, cond, refl, Option, Some, None, option_and_then, ok_or, Result, Ok, Err}
use Rattle.std.proofs.lemmas.Bool.{and_parts, leb-true}
use Rattle.scr_layout.specs.declared.fault.LayoutFault.{LayoutFault}
use Rattle.scr_layout.specs.Results.{◌>>=◌, tested, in_field}
use Rattle.scr_layout.specs.Values.{from_one_to}

pub bind_ok : {A B : Type 0} (r : Result A LayoutFault) (f : A → Result B LayoutFault) (y : B) → (r >>= f) ≡ Ok y → (x : A) × (r ≡ Ok x) × (f x ≡ Ok y)
bind_ok (Ok x) f y h = (x, refl, h)
bind_ok (Err e) f y h = cc

pub tested_ok : {A : Type 0} (b : Bool) (x : A) (e : LayoutFault) (y : A) → tested b x e ≡ Ok y → (b ≡ true) × (x ≡ y)
tested_ok true x e y h = (refl, cc)
tested_ok false x e y h = cc

pub ok_or_ok : {A : Type 0} (o : Option A) (e : LayoutFault) (y : A) → ok_or o e ≡ Ok y → o ≡ Some y
ok_or_ok (Some x) e y h = cc
ok_or_ok None e y h = cc

pub in_field_ok : {A : Type 0} (n : ℕ) (r : Result A LayoutFault) (y : A) → in_field n r ≡ Ok y → r ≡ Ok y
in_field_ok n (Ok x) y h = h
in_field_ok n (Err e) y h = cc

pub cond_some : {A : Type 0} (b : Bool) (x y : A) → cond b (Some x) None ≡ Some y → (b ≡ true) × (x ≡ y)
cond_some true x y h = (refl, cc)
cond_some false x y h = cc

pub cond_then : {A : Type 0} (b : Bool) (o : Option A) (y : A) → cond b o None ≡ Some y → (b ≡ true) × (o ≡ Some y)
cond_then true o y h = (refl, h)
cond_then false o y h = cc

pub and_then_some : {A B : Type 0} (o : Option A) (f : A → Option B) (y : B) → option_and_then f o ≡ Some y → (x : A) × (o ≡ Some x) × (f x ≡ Some y)
and_then_some (Some x) f y h = (x, refl, h)
and_then_some None f y h = cc

pub same_ok : {A : Type 0} (x y : A) → ◌≡◌ {A = Result A LayoutFault} (Ok x) (Ok y) → x ≡ y
same_ok x y e = cc

pub from_one_to-in : (most : ℕ) (z : ℤ) (n : ℕ) → from_one_to most z ≡ Some n → (1 ≤ n) × (n ≤ most)
from_one_to-in most (pos m) n h =
    let found = cond_some (nat_le 1 m && nat_le m most) m n h in
    let bounds = and_parts (nat_le 1 m) (nat_le m most) found.0 in
    (omega (arith, leb-true 1 m bounds.0, found.1), omega (arith, leb-true m most bounds.1, found.1))
from_one_to-in most (negsuc m) n h = cc
