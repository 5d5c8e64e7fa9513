-- Each PF and PA key has an attention identifier.
use Rattle.std.proofs.Common.{◌≡◌, ℕ, ◌<◌, true, refl}
use Rattle.ds_codec.specs.Aid.{is_aid, access_aid, function_aid}
use Rattle.ds_codec.proofs.Below.{each_below}

pub function_is_aid : (number : ℕ) → number < 25 → is_aid (function_aid number) ≡ true
unfolding is_aid
function_is_aid number lt = each_below (λ n. is_aid (function_aid n)) 25 number refl lt

pub access_is_aid : (number : ℕ) → number < 4 → is_aid (access_aid number) ≡ true
unfolding is_aid
access_is_aid number lt = each_below (λ n. is_aid (access_aid n)) 4 number refl lt
