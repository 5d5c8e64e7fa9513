-- Binding field by field, each behind those before it.
use Rattle.std.proofs.Common.{◌≡◌, ◌<◌, ◌++◌, ℕ, zero, suc, replicate, true, false, List, [], ◌∷◌, Result, Ok, length, get_or, refl, sym, ◌∙◌, ap, arith}
use Rattle.std.specs.Prelude.{nat_eq}
use Rattle.std.proofs.lemmas.Bool.{eqb-true}
use Rattle.ds_codec.specs.Character.{Glyph}
use Rattle.ds_codec.specs.Reading.{◌>>=◌}
use Rattle.ds_inbound.specs.Characters.{characters_in}
use Rattle.ds_inbound.specs.Answer.{Sent, Answer}
use Rattle.scr_layout.specs.Entry.{Declared}
use Rattle.scr_check.specs.declared.binding.BindFault.{BindFault}
use Rattle.scr_check.specs.Binding.{Pair, bound_field, bound_from, bound_behind, bound_of}

-- the fields from one on, behind the pair that is due of it
pub next_bound : (entries : List Declared) (bound : List Pair) (field : Sent) (fields : List Sent) (pair : Pair) (due : Result (List Pair) BindFault) → bound_field entries bound field ≡ Ok pair
    → bound_from entries bound (field ∷ fields) ≡ due → bound_from entries (bound ++ pair ∷ []) fields ≡ due
next_bound entries bound field fields pair due is all = sym (ap (λ r. r >>= (λ p. bound_from entries (bound ++ p ∷ []) fields)) is) ∙ all

pub none_at : (count index : ℕ) → index < 1000 → get_or (replicate count false) index false ≡ false
none_at zero index few = refl
none_at (suc count) zero few = refl
none_at (suc count) (suc index) few = none_at count index (omega arith)

pub bound_at_front : (entries : List Declared) (answer : Answer) (fields : List Sent) → [] ≡ answer.lead → fields ≡ answer.fields → bound_from entries [] fields ≡ bound_of entries answer
bound_at_front entries answer fields none is = ap (bound_from entries []) is ∙ ap (λ l. bound_behind entries l answer.fields) none

pub empty_lead : (raw : List ℕ) (lead : List Glyph) → nat_eq (length raw) 0 ≡ true → characters_in raw ≡ lead → [] ≡ lead
unfolding characters_in
empty_lead [] lead none is = is
empty_lead (byte ∷ raw) lead none is = absurd (let e : length (byte ∷ raw) ≡ 0 = eqb-true (length (byte ∷ raw)) 0 none in omega (arith, e))
