-- Which ways are judged, said of each way by itself, and in what order.
use Rattle.std.specs.Prelude.{ℕ, ◌≡◌, ◌≢◌, ◌<◌, ◌⊎◌, ◌↔◌, true, List, [], ◌∷◌, ◌++◌, length}
use Rattle.cli_offers.specs.Ways.{Shown, Way, alone, is_alone, is_erased, is_over, ways}

-- ---- a lawful way

-- the n-th is a screen that is written over what the s-th left
abbrev pub IsOver : Shown → ℕ → ℕ → Type 0
IsOver shown s n = (n < length shown.plans) × (is_over shown s n ≡ true)

-- from the s-th screen the others come in turn, each over the one before it, and the n-th is the last
abbrev pub GoesOn : Shown → ℕ → List ℕ → ℕ → Type 0
GoesOn shown s [] n = s ≡ n
GoesOn shown s (q ∷ others) n = IsOver shown s q × GoesOn shown q others n

-- the p-th is a screen that begins with an erase
abbrev pub Erases : Shown → ℕ → Type 0
Erases shown p = (p < length shown.plans) × (is_erased shown p ≡ true)

-- a screen by itself that begins with an erase, or that is shown first
abbrev pub IsByItself : Shown → Way → Type 0
IsByItself shown way = (way.first < length shown.plans) × (is_alone shown way.first ≡ true) × (way ≡ alone way.first)

-- its first screen begins with an erase; no other does, and each comes over the one before it
abbrev pub IsOverFirst : Shown → Way → Type 0
IsOverFirst shown way = Erases shown way.first × GoesOn shown way.first way.others way.last

abbrev pub IsLawful : Shown → Way → Type 0
IsLawful shown way = IsByItself shown way ⊎ IsOverFirst shown way

-- ---- the first way to a screen

-- at the first number that differs it is the lesser
abbrev pub IsLess : List ℕ → List ℕ → Type 0
IsLess [] others = ⊥
IsLess (m ∷ more) [] = ⊥
IsLess (m ∷ more) (n ∷ others) = (m < n) ⊎ ((m ≡ n) × IsLess more others)

-- fewer screens; of as many those that come first in the manifest
abbrev pub Precedes : List ℕ → List ℕ → Type 0
Precedes more others = (length more < length others) ⊎ ((length more ≡ length others) × IsLess more others)

-- the others lead from the p-th screen to the s-th, and whatever else leads there comes after them
abbrev pub IsFirstTo : Shown → ℕ → List ℕ → ℕ → Type 0
IsFirstTo shown p others s = GoesOn shown p others s × ((more : List ℕ) → GoesOn shown p more s → (others ≡ more) ⊎ Precedes others more)

-- Up to its last screen but one it is the first way that leads there, with some screen after the one that erases; and its last comes
-- over that one.
abbrev pub IsJudgedOver : Shown → Way → Type 0
IsJudgedOver shown way =
    Erases shown way.first × (others : List ℕ) × (s : ℕ) × (others ≢ []) × IsFirstTo shown way.first others s
    × IsOver shown s way.last × (way.others ≡ others ++ way.last ∷ [])

abbrev pub IsJudged : Shown → Way → Type 0
IsJudged shown way = IsByItself shown way ⊎ IsJudgedOver shown way

-- ---- the order

abbrev pub IsAmong : {A : Type 0} → A → List A → Type 0
IsAmong x [] = ⊥
IsAmong x (y ∷ ys) = (x ≡ y) ⊎ IsAmong x ys

-- each comes before all that follow it
abbrev pub AreRising : {A : Type 0} → (A → A → Type 0) → List A → Type 0
AreRising Before [] = Unit {0}
AreRising {A} Before (x ∷ xs) = ((y : A) → IsAmong y xs → Before x y) × AreRising Before xs

-- of two ways the one that begins at an earlier screen; of those that begin at the same, the one whose others precede
abbrev pub IsEarlier : Way → Way → Type 0
IsEarlier v w = (v.first < w.first) ⊎ ((v.first ≡ w.first) × Precedes v.others w.others)

abbrev pub IsSingle : Way → Type 0
IsSingle way = way.others ≡ []

-- a screen by itself comes before several of them; else the earlier way comes first
abbrev pub ComesBefore : Way → Way → Type 0
ComesBefore v w = (IsSingle v × ¬ IsSingle w) ⊎ ((IsSingle v ↔ IsSingle w) × IsEarlier v w)

-- ---- the laws

-- the list has the ways that are judged, and no other, each once and in its turn
abbrev pub AreThoseJudged : Shown → List Way → Type 0
AreThoseJudged shown listed = ((way : Way) → IsAmong way listed ↔ IsJudged shown way) × AreRising ComesBefore listed

-- The list of the ways is the one of those that are judged, and no other list is.
abbrev pub WaysAreThoseJudged : Type 0
WaysAreThoseJudged = (shown : Shown) (listed : List Way) → AreThoseJudged shown listed ↔ (listed ≡ ways shown)

-- Each way of the list is lawful.
abbrev pub EachIsLawful : Type 0
EachIsLawful = (shown : Shown) (way : Way) → IsAmong way (ways shown) → IsLawful shown way

-- Each screen that begins with an erase is judged by itself, and so is the first.
abbrev pub EachBeginIsJudged : Type 0
EachBeginIsJudged = (shown : Shown) (n : ℕ) → n < length shown.plans → is_alone shown n ≡ true → IsAmong (alone n) (ways shown)

-- the n-th screen comes right after the s-th
abbrev pub HasPair : List ℕ → ℕ → ℕ → Type 0
HasPair screens s n = (before : List ℕ) × (after : List ℕ) × (screens ≡ before ++ s ∷ n ∷ after)

-- Wherever screens lead from one that begins with an erase, each pair of the screen there and one over it is judged: on a way from
-- that one.
abbrev pub EachPairIsJudged : Type 0
EachPairIsJudged = (shown : Shown) (p s n : ℕ) (others : List ℕ) → Erases shown p → GoesOn shown p others s → IsOver shown s n
    → (way : Way) × IsAmong way (ways shown) × (way.first ≡ p) × HasPair (p ∷ way.others) s n

-- the list ends with the s-th screen and the n-th
abbrev pub EndsWith : List ℕ → ℕ → ℕ → Type 0
EndsWith screens s n = (before : List ℕ) × (screens ≡ before ++ s ∷ n ∷ [])

-- And the way ends there, where the pair isn't of the screen that begins with an erase and one over it.
abbrev pub EachPairEndsAWay : Type 0
EachPairEndsAWay = (shown : Shown) (p s n : ℕ) (others : List ℕ) → Erases shown p → GoesOn shown p others s → s ≢ p → IsOver shown s n
    → (way : Way) × IsAmong way (ways shown) × (way.first ≡ p) × EndsWith (p ∷ way.others) s n
