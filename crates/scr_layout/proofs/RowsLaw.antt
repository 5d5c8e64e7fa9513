-- Places one after the other.
use Rattle.std.proofs.Common.{◌≡◌, ℕ, suc, ◌+◌, ◌-◌, ◌<◌, ◌≤◌, refl, List, Ok, Err, arith}
use Rattle.ds_codec.specs.declared.size.Size.{Size}
use Rattle.scr_layout.specs.declared.fault.LayoutFault.{LayoutFault}
use Rattle.scr_layout.specs.Entry.{Declared}
use Rattle.scr_layout.specs.Rows.{free_at, are_free}

pub are_free-step : (size : Size) (before : List Declared) (step place here row count : ℕ) → row < count → free_at size before place ≡ Ok here
    → are_free size before step place (count - row) ≡ are_free size before step (here + step) (count - (row + 1))
unfolding are_free
are_free-step size before step place here row count less at =
    let more : count - row ≡ suc (count - (row + 1)) = omega (arith, less) in
    rw (more, at) refl

pub are_free-fault : (size : Size) (before : List Declared) (step place row count : ℕ) (e : LayoutFault) → row < count → free_at size before place ≡ Err e
    → are_free size before step place (count - row) ≡ Err e
unfolding are_free
are_free-fault size before step place row count e less at =
    let more : count - row ≡ suc (count - (row + 1)) = omega (arith, less) in
    rw (more, at) refl

pub are_free-end : (size : Size) (before : List Declared) (step place row count : ℕ) → count ≤ row → are_free size before step place (count - row) ≡ Ok tt
unfolding are_free
are_free-end size before step place row count all =
    let none : count - row ≡ 0 = omega (arith, all) in
    rw none refl
