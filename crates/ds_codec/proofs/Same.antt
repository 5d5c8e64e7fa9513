-- What is compared equal is the same, and the other way round.
use Rattle.std.proofs.Common.{◌≡◌, ℕ, ◌&&◌, Bool, true, false, ◌==◌, refl, ◌∙◌, ap}
use Rattle.std.proofs.lemmas.Bool.{and_parts, eqb-true, eq-eqb}
use Rattle.ds_codec.specs.declared.size.Size.{Size}
use Rattle.ds_codec.specs.declared.size.Mode.{Mode}
use Rattle.ds_codec.specs.declared.size.Mode.TheVariants.{Bits14, Bits16}
use Rattle.ds_codec.specs.Geometry.{Sizes}
use Rattle.ds_codec.specs.Same.{same_size, same_mode, same_sizes}

both : (s t : Bool) → s ≡ true → t ≡ true → (s && t) ≡ true
both true t one two = two
both false t one two = absurd cc

pub size_is : (a b : Size) → same_size a b ≡ true → a ≡ b
size_is a b is =
    let parts = and_parts (a.rows == b.rows) (a.cols == b.cols) is in
    ap (λ (r : ℕ). let s : Size = record { rows = r; cols = a.cols } in s) (eqb-true a.rows b.rows parts.0)
    ∙ ap (λ (c : ℕ). let s : Size = record { rows = b.rows; cols = c } in s) (eqb-true a.cols b.cols parts.1)

pub size_self : (a : Size) → same_size a a ≡ true
size_self a = both (a.rows == a.rows) (a.cols == a.cols) (eq-eqb a.rows a.rows refl) (eq-eqb a.cols a.cols refl)

pub mode_is : (a b : Mode) → same_mode a b ≡ true → a ≡ b
mode_is Bits14 Bits14 is = refl
mode_is Bits14 Bits16 is = absurd cc
mode_is Bits16 Bits14 is = absurd cc
mode_is Bits16 Bits16 is = refl

pub mode_self : (a : Mode) → same_mode a a ≡ true
mode_self Bits14 = refl
mode_self Bits16 = refl

pub sizes_are : (a b : Sizes) → same_sizes a b ≡ true → a ≡ b
sizes_are a b is =
    let first = and_parts (same_size a.default b.default) (same_size a.alternate b.alternate && same_mode a.mode b.mode) is in
    let second = and_parts (same_size a.alternate b.alternate) (same_mode a.mode b.mode) first.1 in
    ap (λ (d : Size). let s : Sizes = record { default = d; alternate = a.alternate; mode = a.mode } in s) (size_is a.default b.default first.0)
    ∙ ap (λ (d : Size). let s : Sizes = record { default = b.default; alternate = d; mode = a.mode } in s) (size_is a.alternate b.alternate second.0)
    ∙ ap (λ (m : Mode). let s : Sizes = record { default = b.default; alternate = b.alternate; mode = m } in s) (mode_is a.mode b.mode second.1)

pub sizes_self : (a : Sizes) → same_sizes a a ≡ true
sizes_self a =
    both (same_size a.default a.default) _ (size_self a.default) (both (same_size a.alternate a.alternate) (same_mode a.mode a.mode) (size_self a.alternate) (mode_self a.mode))

-- modes as the code compares them
pub modes_compared : (a b : Mode) → denote.Enum.Bare.sameb Rattle.ds_codec.specs.contracts.size.Mode.the_type a b ≡ same_mode a b
modes_compared Bits14 Bits14 = refl
modes_compared Bits14 Bits16 = refl
modes_compared Bits16 Bits14 = refl
modes_compared Bits16 Bits16 = refl
