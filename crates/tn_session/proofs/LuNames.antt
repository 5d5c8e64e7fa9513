-- Names of which as many bytes are kept as there is room for.
use Rattle.std.proofs.Common.{◌≡◌, ◌≤◌, ◌<◌, ℕ, List, length, take, length-take, sym, arith}
use Rattle.std.proofs.lemmas.List.{take_all, length-take-le}

pub whole_name : (name : List ℕ) → length name ≤ 32 → take 32 name ≡ name
whole_name name short = take_all 32 name short

pub front_length : (name : List ℕ) → 32 < length name → 32 ≡ length (take 32 name)
front_length name long = sym (length-take-le 32 name (omega (arith, long)))

pub front_short : (name : List ℕ) → length (take 32 name) ≤ 32
front_short name = omega (arith, length-take 32 name)
