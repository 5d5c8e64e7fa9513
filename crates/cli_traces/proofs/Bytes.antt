-- The bytes of a piece, one by one while text may come.
use Rattle.std.proofs.Common.{◌≡◌, ℕ, Bool, true, false, List, [], ◌∷◌, ◌++◌, refl, sym, ◌∙◌, ap, subst, inl, inr, append_assoc, append-nil}
use Rattle.std.specs.List.{flat_map}
use Rattle.tn_traces.specs.declared.line.Side.{Side}
use Rattle.cli_traces.specs.declared.asked.Asked.{Asked}
use Rattle.cli_traces.specs.Following.{Following, Course, goes, stops, AddsByte, AddsBytes, AddsEither, AddsPiece, AddsThen, end_of_text, with_seen}
use Rattle.cli_traces.specs.Law.{PiecesAddWhole, AddsOneText, CutsAgree}
use Rattle.cli_traces.specs.Start.{may_cut}
use Rattle.cli_traces.proofs.Cuts.{adds_both, never, piece_one_text, same_following, stops_longer}
use Rattle.cli_traces.proofs.Starts.{stays}

-- ---- one text

abbrev Once : (List ℕ → Course → Type 0) → Type 0
Once adds = (text other : List ℕ) (course course' : Course) → adds text course → adds other course' → (text ≡ other) × (course ≡ course')

then_once : (this : List ℕ → Course → Type 0) (that : Following → List ℕ → Course → Type 0) → Once this → ((next : Following) → Once (that next)) → Once (AddsThen this that)
then_once this that one each text other course course' (inl (a, is)) (inl (b, is')) = ((one text other stops stops a b).0, is ∙ sym is')
then_once this that one each text other course course' (inl (a, is)) (inr (first, others, next, b, is', rest)) = never (sym (one text first stops (goes next) a b).1)
then_once this that one each text other course course' (inr (first, others, next, a, is, rest)) (inl (b, is')) = never (one first other (goes next) stops a b).1
then_once this that one each text other course course' (inr (first, others, next, a, is, rest)) (inr (first', others', next', b, is', rest')) =
    let same = one first first' (goes next) (goes next') a b in
    let later = each next others others' course course' rest (subst (λ z. that z others' course') (sym (same_following same.1)) rest') in
    (is ∙ ap (λ z. z ++ others) same.0 ∙ ap (λ z. first' ++ z) later.0 ∙ sym is', later.1)

either_once : (test : Bool) (one other : List ℕ → Course → Type 0) → Once one → Once other → Once (λ text course. AddsEither test (one text course) (other text course))
either_once true one other a b text text' course course' = a text text' course course'
either_once false one other a b text text' course course' = b text text' course course'

byte_once : (asked : Asked) (number : ℕ) (side : Side) (f : Following) (byte : ℕ) → Once (AddsByte asked number side f byte)
byte_once asked number side f byte text other course course' =
    then_once (AddsPiece asked number side (with_seen byte f) (byte ∷ [])) (λ next. AddsPiece asked number side next (end_of_text side next.reading))
    (piece_one_text asked number side (with_seen byte f) (byte ∷ [])) (λ next. piece_one_text asked number side next (end_of_text side next.reading)) text other course course'

bytes_once : (asked : Asked) (number : ℕ) (side : Side) (f : Following) (bytes : List ℕ) → Once (AddsBytes asked number side f bytes)
bytes_once asked number side f [] text other course course' a b = (a.0 ∙ sym b.0, a.1 ∙ sym b.1)
bytes_once asked number side f (byte ∷ bytes) text other course course' a b =
    either_once (may_cut side f.reading.start) (AddsThen (AddsByte asked number side f byte) (λ next. AddsBytes asked number side next bytes)) (AddsPiece asked number side f (byte ∷ bytes))
    (then_once (AddsByte asked number side f byte) (λ next. AddsBytes asked number side next bytes) (byte_once asked number side f byte) (λ next. bytes_once asked number side next bytes))
    (piece_one_text asked number side f (byte ∷ bytes)) text other course course' a b

pub adds_one_text : AddsOneText
adds_one_text asked number side f piece text other course course' a b = bytes_once asked number side f piece text other course course' a b

-- ---- bytes and bytes

module _ (asked : Asked) (number : ℕ) (side : Side) where
  -- bytes that are taken as they are
  as_they_are : (test : Bool) (mid : Following) (bytes more : List ℕ) (course : Course) (one : Type 0) → test ≡ false
      → AddsEither test one (AddsPiece asked number side mid bytes more course) → AddsPiece asked number side mid bytes more course
  as_they_are true mid bytes more course one is adds = absurd cc
  as_they_are false mid bytes more course one is adds = adds

  whole_both : (f : Following) (byte : ℕ) (x y text more : List ℕ) (mid : Following) (course : Course) → may_cut side f.reading.start ≡ false
      → AddsPiece asked number side f (byte ∷ x) text (goes mid) → AddsBytes asked number side mid y more course
      → AddsPiece asked number side f (byte ∷ (x ++ y)) (text ++ more) course
  whole_both f byte x [] text more mid course shut first (none, is) =
      subst (λ z. AddsPiece asked number side f (byte ∷ (x ++ [])) (text ++ more) z) (sym is)
      (subst (λ z. AddsPiece asked number side f (byte ∷ z) (text ++ more) (goes mid)) (sym (append-nil x))
      (subst (λ z. AddsPiece asked number side f (byte ∷ x) z (goes mid)) (sym (ap (λ z. text ++ z) none ∙ append-nil text)) first))
  whole_both f byte x (c ∷ y) text more mid course shut first second =
      adds_both asked number side f (byte ∷ x) (c ∷ y) text more mid course first
      (as_they_are (may_cut side mid.reading.start) mid (c ∷ y) more course _ (stays asked number side f (byte ∷ x) text mid first shut) second)

  then_both : (f : Following) (byte : ℕ) (x y text more : List ℕ) (mid : Following) (course : Course)
      → ((next : Following) (others : List ℕ) → AddsBytes asked number side next x others (goes mid) → AddsBytes asked number side next (x ++ y) (others ++ more) course)
      → AddsThen (AddsByte asked number side f byte) (λ next. AddsBytes asked number side next x) text (goes mid)
      → AddsThen (AddsByte asked number side f byte) (λ next. AddsBytes asked number side next (x ++ y)) (text ++ more) course
  then_both f byte x y text more mid course on (inl (a, is)) = never is
  then_both f byte x y text more mid course on (inr (first, others, next, a, is, rest)) =
      inr (first, others ++ more, next, a, ap (λ z. z ++ more) is ∙ append_assoc first others more, on next others rest)

  first_both : (test : Bool) (f : Following) (byte : ℕ) (x y text more : List ℕ) (mid : Following) (course : Course) → may_cut side f.reading.start ≡ test
      → ((next : Following) (others : List ℕ) → AddsBytes asked number side next x others (goes mid) → AddsBytes asked number side next (x ++ y) (others ++ more) course)
      → AddsEither test (AddsThen (AddsByte asked number side f byte) (λ next. AddsBytes asked number side next x) text (goes mid)) (AddsPiece asked number side f (byte ∷ x) text (goes mid))
      → AddsBytes asked number side mid y more course
      → AddsEither test (AddsThen (AddsByte asked number side f byte) (λ next. AddsBytes asked number side next (x ++ y)) (text ++ more) course)
      (AddsPiece asked number side f (byte ∷ (x ++ y)) (text ++ more) course)
  first_both true f byte x y text more mid course is on first second = then_both f byte x y text more mid course on first
  first_both false f byte x y text more mid course is on first second = whole_both f byte x y text more mid course is first second

  pub bytes_both : (f : Following) (x y text more : List ℕ) (mid : Following) (course : Course) → AddsBytes asked number side f x text (goes mid)
      → AddsBytes asked number side mid y more course → AddsBytes asked number side f (x ++ y) (text ++ more) course
  bytes_both f [] y text more mid course (none, is) second =
      subst (λ z. AddsBytes asked number side f y (z ++ more) course) (sym none)
      (subst (λ (z : Following). AddsBytes asked number side z y more course) (same_following is) second)
  bytes_both f (byte ∷ x) y text more mid course first second =
      first_both (may_cut side f.reading.start) f byte x y text more mid course refl
      (λ next others rest. bytes_both next x y others more mid course rest second) first second

  -- what comes after the end isn't looked at
  first_longer : (test : Bool) (f : Following) (byte : ℕ) (x y text : List ℕ)
      → ((next : Following) (others : List ℕ) → AddsBytes asked number side next x others stops → AddsBytes asked number side next (x ++ y) others stops)
      → AddsEither test (AddsThen (AddsByte asked number side f byte) (λ next. AddsBytes asked number side next x) text stops) (AddsPiece asked number side f (byte ∷ x) text stops)
      → AddsEither test (AddsThen (AddsByte asked number side f byte) (λ next. AddsBytes asked number side next (x ++ y)) text stops)
      (AddsPiece asked number side f (byte ∷ (x ++ y)) text stops)
  first_longer true f byte x y text on (inl (a, is)) = inl (a, is)
  first_longer true f byte x y text on (inr (first, others, next, a, is, rest)) = inr (first, others, next, a, is, on next others rest)
  first_longer false f byte x y text on a = stops_longer asked number side f (byte ∷ x) y text a

  pub bytes_longer : (f : Following) (x y text : List ℕ) → AddsBytes asked number side f x text stops → AddsBytes asked number side f (x ++ y) text stops
  bytes_longer f [] y text (none, is) = never (sym is)
  bytes_longer f (byte ∷ x) y text a = first_longer (may_cut side f.reading.start) f byte x y text (λ next others rest. bytes_longer next x y others rest) a

-- ---- pieces in turn

pub pieces_add_whole : PiecesAddWhole
pieces_add_whole asked number side f [] text course all = all
pieces_add_whole asked number side f (piece ∷ pieces) text course (inl (last, is)) =
    subst (AddsBytes asked number side f (piece ++ flat_map (λ p. p) pieces) text) (sym is)
    (bytes_longer asked number side f piece (flat_map (λ p. p) pieces) text last)
pieces_add_whole asked number side f (piece ∷ pieces) text course (inr (first, others, next, one, is, rest)) =
    subst (λ z. AddsBytes asked number side f (piece ++ flat_map (λ p. p) pieces) z course) (sym is)
    (bytes_both asked number side f piece (flat_map (λ p. p) pieces) first others next course one
    (pieces_add_whole asked number side next pieces others course rest))

pub cuts_agree : CutsAgree
cuts_agree asked number side f pieces others text other course course' same a b =
    adds_one_text asked number side f (flat_map (λ p. p) pieces) text other course course' (pieces_add_whole asked number side f pieces text course a)
    (subst (λ z. AddsBytes asked number side f z other course') (sym same) (pieces_add_whole asked number side f others other course' b))
