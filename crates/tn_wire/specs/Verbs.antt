-- The verbs' command codes.
use Rattle.std.specs.Prelude.{ℕ, Bool, ◌&&◌, nat_le}
use Rattle.tn_wire.specs.declared.codes.Verb.{Verb}
use Rattle.tn_wire.specs.declared.codes.Verb.TheVariants.{Will, Wont, Do, Dont}

-- FB to FE
abbrev pub is_verb : ℕ → Bool
is_verb code = nat_le 251 code && nat_le code 254

abbrev pub verb_code : Verb → ℕ
verb_code Will = 251
verb_code Wont = 252
verb_code Do = 253
verb_code Dont = 254
