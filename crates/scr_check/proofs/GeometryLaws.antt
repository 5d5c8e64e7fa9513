-- Turns of one geometry.
use Rattle.std.proofs.Common.{◌≡◌, ◌↔◌, ℕ, suc, ◌+◌, ◌<◌, ◌≤◌, ◌&&◌, Bool, true, false, ◌==◌, List, ◌∷◌, length, get_or, drop, refl, sym, ◌∙◌, ap, subst, arith}
use Rattle.std.proofs.Math.Seq.{drop-cons}
use Rattle.std.proofs.lemmas.List.{drop_all}
use Rattle.ds_codec.specs.Geometry.{Sizes}
use Rattle.ds_codec.specs.Same.{same_size, same_sizes}
use Rattle.ds_codec.proofs.Same.{sizes_are, sizes_self, modes_compared}
use Rattle.scr_check.specs.declared.talk.Turn.{Turn}
use Rattle.scr_check.specs.TalkSeen.{rounds_of, AreOfGeometry}

-- two geometries, as the code compares them
abbrev pub is_same : Sizes → Sizes → Bool
is_same a b =
    same_size a.default b.default
    && (same_size a.alternate b.alternate && denote.Enum.Bare.sameb Rattle.ds_codec.specs.contracts.size.Mode.the_type a.mode b.mode)

pub is_compared : (a b : Sizes) → is_same a b ≡ same_sizes a b
is_compared a b = ap (λ m. same_size a.default b.default && (same_size a.alternate b.alternate && m)) (modes_compared a.mode b.mode)

pub same_is : (a b : Sizes) → is_same a b ≡ true → a ≡ b
same_is a b is = sizes_are a b (sym (is_compared a b) ∙ is)

pub is_same_self : (a b : Sizes) → a ≡ b → is_same a b ≡ true
is_same_self a b same = subst (λ c. is_same a c ≡ true) same (is_compared a a ∙ sizes_self a)

-- ---- the turns from one on
pub turn_split : (turns : List Turn) (index : ℕ) (one : Turn) → index < length turns → one ≡ get_or turns index one → drop index turns ≡ one ∷ drop (suc index) turns
turn_split turns index one lt here = drop-cons turns index one lt ∙ ap (λ z. z ∷ drop (suc index) turns) (sym here)

pub same_first : (geometry : Sizes) (turns : List Turn) (index : ℕ) (one : Turn) → index < length turns → one ≡ get_or turns index one → AreOfGeometry geometry (rounds_of (drop index turns))
    → one.layout.now.geometry ≡ geometry
same_first geometry turns index one lt here all =
    (subst (λ l. AreOfGeometry geometry (rounds_of l)) (turn_split turns index one lt here) all).0

pub one_more : (geometry : Sizes) (turns : List Turn) (index : ℕ) (one : Turn) → index < length turns → one ≡ get_or turns index one → one.layout.now.geometry ≡ geometry
    → AreOfGeometry geometry (rounds_of (drop index turns)) ↔ AreOfGeometry geometry (rounds_of (drop (index + 1) turns))
one_more geometry turns index one lt here same =
    let split = turn_split turns index one lt here in
    let next : suc index ≡ index + 1 = omega arith in (
      λ all. subst (λ k. AreOfGeometry geometry (rounds_of (drop k turns))) next (subst (λ l. AreOfGeometry geometry (rounds_of l)) split all).1,
      λ rest. subst (λ l. AreOfGeometry geometry (rounds_of l)) (sym split) (same, subst (λ k. AreOfGeometry geometry (rounds_of (drop k turns))) (sym next) rest),
    )

pub none_left : (geometry : Sizes) (turns : List Turn) (index : ℕ) → length turns ≤ index → AreOfGeometry geometry (rounds_of (drop index turns))
none_left geometry turns index past = subst (λ l. AreOfGeometry geometry (rounds_of l)) (sym (drop_all index turns past)) tt
