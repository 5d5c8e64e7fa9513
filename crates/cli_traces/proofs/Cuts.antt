-- Pieces of a stream one after the other.
use Rattle.std.proofs.Common.{◌≡◌, ℕ, List, [], ◌++◌, refl, sym, ◌∙◌, ap, subst, append_assoc}
use Rattle.tn_wire.specs.Stream.{Told, Tells}
use Rattle.tn_session.specs.declared.fault.RunFault.TheVariants.{Wire, Header, Session, Inbound, Bind, OutOfMemory}
use Rattle.tn_session.specs.Runs.{Log, finishes, fails}
use Rattle.tn_session.specs.OneLog.{Standing, waits, is_over, has_failed, is_at_fault, HasLog}
use Rattle.tn_session.proofs.OneLog.{have_one_log}
use Rattle.tn_session.proofs.RunLaws.{goes-goes, goes-ends, goes-fault, nothing_yet}
use Rattle.tn_traces.specs.declared.line.Side.{Side}
use Rattle.tn_traces.specs.declared.line.Side.TheVariants.{Host, Terminal}
use Rattle.cli_traces.specs.declared.asked.Asked.{Asked}
use Rattle.cli_traces.specs.declared.reading.Reading.{Reading}
use Rattle.cli_traces.specs.Following.{Following, Course, goes, stops, open_of, with_open, act_of, AddsLog, AddsPiece}
use Rattle.cli_traces.specs.Text.{fault_text, wire_name, header_name, other_size_name}

-- ---- logs

module _ (act : Reading → Told → Log Reading) where
  log_after : (b x y due d c : List ℕ) (s m : Reading) (standing : Standing Reading) → HasLog act b s x due (waits m c) → HasLog act c m y d standing
      → HasLog act b s (x ++ y) (due ++ d) standing
  log_after b x y due d c s m (waits next left) first second = goes-goes act b x y due d c left s m next first second
  log_after b x y due d c s m (is_over end) first second = goes-ends act b x y due d c s m (finishes end) first second
  log_after b x y due d c s m (has_failed why last) first second = goes-ends act b x y due d c s m (fails why last) first second
  log_after b x y due d c s m (is_at_fault fault last) first second = goes-fault act b x y due d c s m last fault first second

-- what is open tells nothing by itself
abbrev pub IsOpenAt : Side → Following → Type 0
IsOpenAt side following = Tells (open_of side following) [] (open_of side following)

-- ---- a piece and a piece

opens : (side : Side) (f : Following) (left : List ℕ) (r : Reading) → open_of side (with_open side f left r) ≡ left
opens Host f left r = refl
opens Terminal f left r = refl

reads : (side : Side) (f : Following) (left : List ℕ) (r : Reading) → (with_open side f left r).reading ≡ r
reads Host f left r = refl
reads Terminal f left r = refl

opens_again : (side : Side) (f : Following) (c left : List ℕ) (m r : Reading) → with_open side (with_open side f c m) left r ≡ with_open side f left r
opens_again Host f c left m r = refl
opens_again Terminal f c left m r = refl

as_open : (side : Side) (f : Following) → f ≡ with_open side f (open_of side f) f.reading
as_open Host f = refl
as_open Terminal f = refl

abbrev pub following_in : Following → Course → Following
following_in f (goes next) = next
following_in f stops = f

pub same_following : {f g : Following} → goes f ≡ goes g → f ≡ g
same_following {f} {g} is = ap (following_in f) is

pub never : {A : Type 0} {f : Following} → goes f ≡ stops → A
never is = cc

-- a piece after which the lines go on has a log that waits
pub record Waits (asked : Asked) (number : ℕ) (side : Side) (f : Following) (x text : List ℕ) (mid : Following) : Type 0 where
  pub reading : Reading
  pub left : List ℕ
  pub log : HasLog (act_of asked side number) (open_of side f) f.reading x text (waits reading left)
  pub same : mid ≡ with_open side f left reading

module _ (asked : Asked) (number : ℕ) (side : Side) (f : Following) where
  waiting : (x text due : List ℕ) (mid : Following) (standing : Standing Reading)
      → HasLog (act_of asked side number) (open_of side f) f.reading x due standing → AddsLog number side f due standing text (goes mid)
      → Waits asked number side f x text mid
  waiting x text due mid (waits r left) log adds = record {
    reading = r;
    left = left;
    log = subst (λ z. HasLog (act_of asked side number) (open_of side f) f.reading x z (waits r left)) (sym adds.0) log;
    same = same_following adds.1;
  }
  waiting x text due mid (is_at_fault fault last) log adds = never adds.1
  waiting x text due mid (has_failed (Header fault) last) log adds = never adds.1
  waiting x text due mid (has_failed (Wire fault) last) log adds = absurd adds
  waiting x text due mid (has_failed (Session fault) last) log adds = never adds.1
  waiting x text due mid (has_failed (Inbound fault) last) log adds = absurd adds
  waiting x text due mid (has_failed (Bind fault) last) log adds = absurd adds
  waiting x text due mid (has_failed OutOfMemory last) log adds = absurd adds
  waiting x text due mid (is_over end) log adds = absurd adds

  pub waits_in : (x text : List ℕ) (mid : Following) → AddsPiece asked number side f x text (goes mid) → Waits asked number side f x text mid
  waits_in x text mid a = waiting x text a.due mid a.standing a.log a.adds

  -- what the second adds, after the first
  adds_after : (text d more c : List ℕ) (m : Reading) (course : Course) (standing : Standing Reading)
      → AddsLog number side (with_open side f c m) d standing more course → AddsLog number side f (text ++ d) standing (text ++ more) course
  adds_after text d more c m course (waits r left) adds = (ap (λ z. text ++ z) adds.0, adds.1 ∙ ap goes (opens_again side f c left m r))
  adds_after text d more c m course (is_at_fault fault last) adds =
      (ap (λ z. text ++ z) adds.0 ∙ sym (append_assoc text d (fault_text number (wire_name fault))), adds.1)
  adds_after text d more c m course (has_failed (Header fault) last) adds =
      (ap (λ z. text ++ z) adds.0 ∙ sym (append_assoc text d (fault_text number (header_name fault))), adds.1)
  adds_after text d more c m course (has_failed (Wire fault) last) adds = absurd adds
  adds_after text d more c m course (has_failed (Session fault) last) adds =
      (ap (λ z. text ++ z) adds.0 ∙ sym (append_assoc text d (fault_text number other_size_name)), adds.1)
  adds_after text d more c m course (has_failed (Inbound fault) last) adds = absurd adds
  adds_after text d more c m course (has_failed (Bind fault) last) adds = absurd adds
  adds_after text d more c m course (has_failed OutOfMemory last) adds = absurd adds
  adds_after text d more c m course (is_over end) adds = absurd adds

  both_at : (x y text more c : List ℕ) (m : Reading) (course : Course)
      → HasLog (act_of asked side number) (open_of side f) f.reading x text (waits m c)
      → AddsPiece asked number side (with_open side f c m) y more course → AddsPiece asked number side f (x ++ y) (text ++ more) course
  both_at x y text more c m course first second =
      let log : HasLog (act_of asked side number) c m y second.due second.standing =
      subst (λ z. HasLog (act_of asked side number) z m y second.due second.standing) (opens side f c m)
      (subst (λ z. HasLog (act_of asked side number) (open_of side (with_open side f c m)) z y second.due second.standing) (reads side f c m) second.log) in
      record {
        due = text ++ second.due;
        standing = second.standing;
        log = log_after (act_of asked side number) (open_of side f) x y text second.due c f.reading m second.standing first log;
        adds = adds_after text second.due more c m course second.standing second.adds;
      }

  pub adds_both : (x y text more : List ℕ) (mid : Following) (course : Course) → AddsPiece asked number side f x text (goes mid)
      → AddsPiece asked number side mid y more course → AddsPiece asked number side f (x ++ y) (text ++ more) course
  adds_both x y text more mid course first second =
      let w = waits_in x text mid first in
      both_at x y text more w.left w.reading course w.log (subst (λ z. AddsPiece asked number side z y more course) w.same second)

  -- what comes after the end is not looked at
  longer : (x y due : List ℕ) (standing : Standing Reading) (text : List ℕ)
      → HasLog (act_of asked side number) (open_of side f) f.reading x due standing → AddsLog number side f due standing text stops
      → HasLog (act_of asked side number) (open_of side f) f.reading (x ++ y) due standing
  longer x y due (waits r left) text log adds = never (sym adds.1)
  longer x y due (is_at_fault fault last) text log adds = record {
    used = log.used;
    more = log.more ++ y;
    events = log.events;
    front = ap (λ z. z ++ y) log.front ∙ append_assoc log.used log.more y;
    faults = log.faults;
    log = log.log;
  }
  longer x y due (has_failed why last) text log adds = record {
    used = log.used;
    more = log.more ++ y;
    events = log.events;
    left = log.left;
    front = ap (λ z. z ++ y) log.front ∙ append_assoc log.used log.more y;
    tells = log.tells;
    log = log.log;
  }
  longer x y due (is_over end) text log adds = absurd adds

  pub stops_longer : (x y text : List ℕ) → AddsPiece asked number side f x text stops → AddsPiece asked number side f (x ++ y) text stops
  stops_longer x y text a = record { due = a.due; standing = a.standing; log = longer x y a.due a.standing text a.log a.adds; adds = a.adds }

  pub no_piece : IsOpenAt side f → AddsPiece asked number side f [] [] (goes f)
  no_piece open_now = record {
    due = [];
    standing = waits f.reading (open_of side f);
    log = nothing_yet (act_of asked side number) (open_of side f) f.reading open_now;
    adds = (refl, ap goes (as_open side f));
  }

one_end : (number : ℕ) (side : Side) (f : Following) (due text other : List ℕ) (standing : Standing Reading) (course course' : Course)
    → AddsLog number side f due standing text course → AddsLog number side f due standing other course' → (text ≡ other) × (course ≡ course')
one_end number side f due text other (waits r left) course course' a b = (a.0 ∙ sym b.0, a.1 ∙ sym b.1)
one_end number side f due text other (is_at_fault fault last) course course' a b = (a.0 ∙ sym b.0, a.1 ∙ sym b.1)
one_end number side f due text other (has_failed (Header fault) last) course course' a b = (a.0 ∙ sym b.0, a.1 ∙ sym b.1)
one_end number side f due text other (has_failed (Wire fault) last) course course' a b = absurd a
one_end number side f due text other (has_failed (Session fault) last) course course' a b = (a.0 ∙ sym b.0, a.1 ∙ sym b.1)
one_end number side f due text other (has_failed (Inbound fault) last) course course' a b = absurd a
one_end number side f due text other (has_failed (Bind fault) last) course course' a b = absurd a
one_end number side f due text other (has_failed OutOfMemory last) course course' a b = absurd a
one_end number side f due text other (is_over end) course course' a b = absurd a

-- a piece of the stream adds one text, and leads to one place
pub piece_one_text : (asked : Asked) (number : ℕ) (side : Side) (f : Following) (piece text other : List ℕ) (course course' : Course)
    → AddsPiece asked number side f piece text course → AddsPiece asked number side f piece other course' → (text ≡ other) × (course ≡ course')
piece_one_text asked number side f piece text other course course' a b =
    let same = have_one_log (act_of asked side number) (open_of side f) f.reading piece a.due b.due a.standing b.standing a.log b.log in
    one_end number side f a.due text other a.standing course course' a.adds
    (subst (λ z. AddsLog number side f z a.standing other course') (sym same.0) (subst (λ z. AddsLog number side f b.due z other course') (sym same.1) b.adds))
