-- A choice by a test.
use Rattle.std.proofs.Common.{Bool, true, false, cond}

pub by_test : {A : Type 0} (P : A → Type 0) (test : Bool) (y z : A) → P y → P z → P (cond test y z)
by_test P true y z first second = first
by_test P false y z first second = second
