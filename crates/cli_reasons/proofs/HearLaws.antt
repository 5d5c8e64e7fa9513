-- Laws of what an ear has heard.
use Rattle.std.proofs.Common.{◌≡◌, ◌≢◌, ◌⊎◌, ◌<◌, ◌≤◌, ℕ, zero, suc, ◌+◌, ◌-◌, Bool, true, false, List, [], ◌∷◌, ◌++◌, length, get_or, take, drop, cond, Option, Some, None, Err, refl, ap, sym, ◌∙◌, subst, arith, inl, inr, length-append, append-nil}
use Rattle.std.specs.Prelude.{◌==◌, ◌^◌, min}
use Rattle.std.proofs.lemmas.Bool.{cases_lt, eq-eqb, eqb-true, lt-ltb}
use Rattle.std.proofs.lemmas.List.{append_assoc, get_or-take, get_or_append_left, length-take-le, nil_from_length, take-append-drop, take_rest}
use Rattle.std.proofs.lemmas.List.Sums.{count_by-le-length, sum_by-cons}
use Rattle.std.proofs.Math.Seq.{get_or-append_right, get_or-append_seam, take-suc}
use Rattle.bstr.specs.Text.{lines_of, without_terminator}
use Rattle.bstr.proofs.lemmas.LineLemmas.{lines-append, lines-one, lines-nil}
use Rattle.hex.specs.Hex.{is_hex_digit}
use Rattle.memchr.specs.Find.{IsFirstByte, is_byte}
use Rattle.cli_reasons.specs.declared.ear.Ear.{Ear}
use Rattle.cli_commands.specs.LayoutText.{layout_in}
use Rattle.cli_commands.specs.Lines.{within_limit}
use Rattle.cli_commands.specs.declared.fault.Fault.TheVariants.{TooLong}
use Rattle.cli_reasons.specs.declared.judged.Judged.TheVariants.{Nothing}
use Rattle.cli_reasons.specs.declared.record_line.SizesBy.{SizesBy}
use Rattle.cli_reasons.specs.declared.walk.Lines.{Lines}
use Rattle.cli_reasons.specs.declared.walk.Lines.TheVariants.{Records, ReadRecords, SizedRecords, Turns, SizedTurns, Answers, AnswersOfTurns, Names, Orders, Characters, Layout, Buffer, Trace, Stream}
use Rattle.cli_reasons.specs.Digits.{BeginsWithDigits, digit_count}
use Rattle.cli_reasons.specs.SaysLayout.{SaysLayout}
use Rattle.cli_reasons.specs.Walked.{Walked, begins, heard, hears, is_done, is_too_long, judged_line, walked_of}
use Rattle.cli_reasons.specs.Hearing.{Beside, EndedLines, EndsLine, HasNoFeed, HearsLines, HearsOf, Holds, HoldsSome, IsHeard, IsKept, IsLine, IsOpen, KeepsText, Says, input_said, is_enough, is_whole, needs_text, walked_over}
use Rattle.cli_reasons.proofs.KnownDigits.{front_long, front_more}
use Rattle.cli_reasons.proofs.Spaced.{first_too}
use Rattle.cli_reasons.proofs.WalkLaws.{by_bool, enough_over, enough_same, heard_app, heard_done, hears_done, hears_lines, none_enough}

-- ---- bytes without a feed

no_feed_app : (some more : List ℕ) → HasNoFeed some → HasNoFeed more → HasNoFeed (some ++ more)
no_feed_app some more here there k lt =
    elim (cases_lt k (length some)) [
      | inl inside ↦ λ is. here k inside (sym (get_or_append_left some more 0 k inside) ∙ is)
      | inr past ↦ λ is. there (k - length some) (omega (arith, length-append some more)) (sym (get_or-append_right some more k 0 past) ∙ is)
    ]

-- a line without an end after lines that ended
line_after : (ended line : List ℕ) → EndsLine ended → 0 < length line → ((k : ℕ) → k + 1 < length line → get_or line k 0 ≢ 10)
    → lines_of (ended ++ line) ≡ lines_of ended ++ line ∷ []
line_after ended line ends some none =
    lines-append (length ended) ended line (omega arith) ends ∙ ap (λ l. lines_of ended ++ l) (lines-one line some none)

-- ---- more of a line

kept_whole : (which : Lines) (line : List ℕ) → IsKept which line [] → line ≡ []
kept_whole which line (more, is, inl none) = is ∙ none
kept_whole which line (more, is, inr enough) = absurd (let wrong : false ≡ true = sym (none_enough which) ∙ enough in cc)

pub kept_all : (which : Lines) (line : List ℕ) → IsKept which line line
kept_all which line = ([], sym (append-nil line), inl refl)

pub kept_enough : (which : Lines) (line kept bytes : List ℕ) → is_enough which kept ≡ true → IsKept which line kept → IsKept which (line ++ bytes) kept
kept_enough which line kept bytes enough (more, is, why) = (more ++ bytes, ap (λ l. l ++ bytes) is ∙ append_assoc kept more bytes, inr enough)

pub kept_more : (which : Lines) (line kept bytes : List ℕ) → is_enough which kept ≡ false → IsKept which line kept → IsKept which (line ++ bytes) (kept ++ bytes)
kept_more which line kept bytes few (more, is, inl none) =
    ([], ap (λ l. l ++ bytes) (is ∙ ap (λ m. kept ++ m) none ∙ append-nil kept) ∙ sym (append-nil (kept ++ bytes)), inl refl)
kept_more which line kept bytes few (more, is, inr enough) = absurd (let wrong : false ≡ true = sym few ∙ enough in cc)

-- what is kept of a line leads to the same
kept_heard : (walked : Walked) (line kept : List ℕ) → IsKept walked.lines line kept → hears walked line ≡ hears walked kept
kept_heard walked line kept (more, is, inl none) = ap (hears walked) (is ∙ ap (λ m. kept ++ m) none ∙ append-nil kept)
kept_heard walked line kept (more, is, inr enough) = ap (hears walked) is ∙ enough_same walked kept more enough

kept_long : (which : Lines) (line kept : List ℕ) → 0 < length kept → IsKept which line kept → 0 < length line
kept_long which line kept some (more, is, why) = omega (arith, ap length is, length-append kept more)

-- ---- bytes that come next

-- once a line is refused, whatever comes changes nothing
pub hears_after_all : (past bytes : List ℕ) (walked : Walked) (kept new : List ℕ) → is_done walked ≡ true → HearsLines past walked kept → HearsLines (past ++ bytes) walked new
hears_after_all past bytes walked kept new done heard = record {
  ended = heard.ended;
  line = heard.line ++ bytes;
  split = ap (λ l. l ++ bytes) heard.split ∙ append_assoc heard.ended heard.line bytes;
  ends = heard.ends;
  walked = heard.walked;
  begun = λ goes. absurd (let wrong : false ≡ true = sym goes ∙ done in cc);
}

-- bytes without a feed go on with the line that has begun
pub hears_on : (past bytes : List ℕ) (walked : Walked) (kept new : List ℕ) → HasNoFeed bytes
    → ((line : List ℕ) → IsKept walked.lines line kept → IsKept walked.lines (line ++ bytes) new)
    → HearsLines past walked kept → HearsLines (past ++ bytes) walked new
hears_on past bytes walked kept new none keeps heard = record {
  ended = heard.ended;
  line = heard.line ++ bytes;
  split = ap (λ l. l ++ bytes) heard.split ∙ append_assoc heard.ended heard.line bytes;
  ends = heard.ends;
  walked = heard.walked;
  begun = λ goes. let is = heard.begun goes in (no_feed_app heard.line bytes is.0 none, keeps heard.line is.1);
}

-- ---- a line that ends

line_long : (line part : List ℕ) → IsLine part → 0 < length (line ++ part)
line_long line part (front, is, none) =
    rw is (omega (arith, length-append line (front ++ 10 ∷ []), length-append front (10 ∷ [])))

-- no feed but the last byte
line_feed : (line part : List ℕ) → HasNoFeed line → IsLine part → (k : ℕ) → k + 1 < length (line ++ part) → get_or (line ++ part) k 0 ≢ 10
line_feed line part clean (front, is, none) k lt at =
    let whole : line ++ part ≡ (line ++ front) ++ 10 ∷ [] = ap (λ l. line ++ l) is ∙ sym (append_assoc line front (10 ∷ [])) in
    let inside : k < length (line ++ front) = omega (arith, ap length whole, length-append (line ++ front) (10 ∷ []), lt) in
    no_feed_app line front clean none k inside
    (sym (get_or_append_left (line ++ front) (10 ∷ []) 0 k inside) ∙ ap (λ l. get_or l k 0) (sym whole) ∙ at)

-- the bytes up to it end a line
line_ends : (ended line part : List ℕ) → IsLine part → EndsLine (ended ++ (line ++ part))
line_ends ended line part (front, is, none) =
    let whole : ended ++ (line ++ part) ≡ (ended ++ (line ++ front)) ++ 10 ∷ [] =
    ap (λ l. ended ++ (line ++ l)) is ∙ ap (λ l. ended ++ l) (sym (append_assoc line front (10 ∷ []))) ∙ sym (append_assoc ended (line ++ front) (10 ∷ [])) in
    let last : length ((ended ++ (line ++ front)) ++ 10 ∷ []) - 1 ≡ length (ended ++ (line ++ front)) = omega (arith, length-append (ended ++ (line ++ front)) (10 ∷ [])) in
    inr (rw (whole, last) (get_or-append_seam (ended ++ (line ++ front)) 10 [] 0))

line_heard : (past part : List ℕ) (old : Walked) (kept raw : List ℕ) → is_done old ≡ false → IsLine part
    → ((line : List ℕ) → IsKept old.lines line kept → IsKept old.lines (line ++ part) raw)
    → HearsLines past old kept → HearsLines (past ++ part) (hears old raw) []
line_heard past part old kept raw goes is keeps so =
    let line = so.begun goes in
    let same : hears old (so.line ++ part) ≡ hears old raw = kept_heard old (so.line ++ part) raw (keeps so.line line.1) in
    let all : lines_of (so.ended ++ (so.line ++ part)) ≡ lines_of so.ended ++ (so.line ++ part) ∷ [] =
    line_after so.ended (so.line ++ part) so.ends (line_long so.line part is) (line_feed so.line part line.0 is) in
    record {
      ended = so.ended ++ (so.line ++ part);
      line = [];
      split = ap (λ l. l ++ part) so.split ∙ append_assoc so.ended so.line part ∙ sym (append-nil (so.ended ++ (so.line ++ part)));
      ends = line_ends so.ended so.line part is;
      walked = sym same ∙ ap (λ w. hears w (so.line ++ part)) so.walked
          ∙ sym (heard_app (begins old.lines) (lines_of so.ended) ((so.line ++ part) ∷ []))
          ∙ ap (heard (begins old.lines)) (sym all) ∙ ap (λ which. heard (begins which) (lines_of (so.ended ++ (so.line ++ part)))) (sym (hears_lines old raw));
      begun = λ still. (λ k lt. absurd (omega arith), kept_all (hears old raw).lines []);
    }

-- a line with its end, of which the part comes next, where so much of it is kept
pub hears_end : (past part : List ℕ) (old : Walked) (kept raw : List ℕ) (after : List ℕ) (new : Walked) → IsLine part
    → ((line : List ℕ) → IsKept old.lines line kept → IsKept old.lines (line ++ part) raw)
    → new ≡ hears old raw → after ≡ [] → HearsLines past old kept → HearsLines (past ++ part) new after
hears_end past part old kept raw after new is keeps walks empty heard =
    rw (walks, empty) (by_bool (is_done old)
    (λ done. rw (hears_done old raw done) (hears_after_all past part old kept [] done heard))
    (λ goes. line_heard past part old kept raw goes is keeps heard))

-- ---- the end of the input

-- where a line is refused, those after it change nothing
all_heard : (past : List ℕ) (walked : Walked) (kept : List ℕ) → is_done walked ≡ true → HearsLines past walked kept → walked ≡ heard (begins walked.lines) (lines_of past)
all_heard past walked kept done so =
    sym (ap (λ bytes. heard (begins walked.lines) (lines_of bytes)) so.split
    ∙ ap (heard (begins walked.lines)) (lines-append (length so.ended) so.ended so.line (omega arith) so.ends)
    ∙ heard_app (begins walked.lines) (lines_of so.ended) (lines_of so.line)
    ∙ ap (λ w. heard w (lines_of so.line)) (sym so.walked)
    ∙ heard_done walked (lines_of so.line) done)

-- no line has begun
none_begun : (past : List ℕ) (walked : Walked) → is_done walked ≡ false → HearsLines past walked [] → walked ≡ heard (begins walked.lines) (lines_of past)
none_begun past walked goes so =
    let none : so.line ≡ [] = kept_whole walked.lines so.line (so.begun goes).1 in
    so.walked ∙ ap (λ bytes. heard (begins walked.lines) (lines_of bytes)) (sym (so.split ∙ ap (λ l. so.ended ++ l) none ∙ append-nil so.ended))

pub ends_none : (past : List ℕ) (walked : Walked) (kept : List ℕ) → kept ≡ [] → HearsLines past walked kept → EndedLines past walked kept
ends_none past walked [] empty so =
    (by_bool (is_done walked) (λ done. all_heard past walked [] done so) (λ goes. none_begun past walked goes so), inr refl)
ends_none past walked (byte ∷ kept) empty so = absurd (let wrong : length (byte ∷ kept) ≡ 0 = ap length empty in omega arith)

-- a line has begun, and ends
one_begun : (past : List ℕ) (old : Walked) (kept : List ℕ) → is_done old ≡ false → 0 < length kept → HearsLines past old kept
    → hears old kept ≡ heard (begins (hears old kept).lines) (lines_of past)
one_begun past old kept goes some so =
    let line = so.begun goes in
    let long : 0 < length so.line = kept_long old.lines so.line kept some line.1 in
    let all : lines_of (so.ended ++ so.line) ≡ lines_of so.ended ++ so.line ∷ [] =
    line_after so.ended so.line so.ends long (λ k lt. line.0 k (omega arith)) in
    sym (kept_heard old so.line kept line.1) ∙ ap (λ w. hears w so.line) so.walked
    ∙ sym (heard_app (begins old.lines) (lines_of so.ended) (so.line ∷ []))
    ∙ ap (heard (begins old.lines)) (sym all)
    ∙ ap (λ bytes. heard (begins old.lines) (lines_of bytes)) (sym so.split)
    ∙ ap (λ which. heard (begins which) (lines_of past)) (sym (hears_lines old kept))

pub ends_one : (past : List ℕ) (old : Walked) (kept : List ℕ) (new : Walked) (after : List ℕ) → 0 < length kept → new ≡ hears old kept → after ≡ []
    → HearsLines past old kept → EndedLines past new after
ends_one past old kept new after some walks empty so =
    rw (walks, empty) (
      by_bool (is_done old)
          (λ done. rw (hears_done old kept done) (all_heard past old kept done so))
          (λ goes. one_begun past old kept goes some so),
      inr refl,
    )

-- all had ended before
pub ends_again : (past : List ℕ) (old : Walked) (kept : List ℕ) (new : Walked) (after : List ℕ) → 0 < length kept → new ≡ hears old kept → after ≡ []
    → EndedLines past old kept → EndedLines past new after
ends_again past old kept new after some walks empty (is, inl done) = rw (walks, empty) (rw (hears_done old kept done) is, inr refl)
ends_again past old kept new after some walks empty (is, inr none) = absurd (let wrong : length kept ≡ 0 = ap length none in omega arith)

-- ---- bytes up to the first feed

one_more : (place : ℕ) → place + 1 ≡ suc place
one_more place = omega arith

first_is_line : (bytes : List ℕ) (place : ℕ) → IsFirstByte (is_byte 10) bytes (Some place) → IsLine (take (place + 1) bytes)
first_is_line bytes place (first, is) = (
  take place bytes,
  ap (λ n. take n bytes) (one_more place) ∙ take-suc bytes place 0 first.high ∙ ap (λ b. take place bytes ++ b ∷ []) (eqb-true _ _ is),
  λ k lt at. let inside : k < place = omega (arith, length-take-le place bytes (omega (arith, first.high))) in
      first.before k (omega arith) inside (eq-eqb _ _ (sym (get_or-take place bytes k 0 inside) ∙ at)),
)

-- ---- the same where digits are known at the front

-- digits end no line
digits_clean : (bytes : List ℕ) → digit_count bytes ≡ length bytes → HasNoFeed bytes
digits_clean [] all k lt = absurd (omega arith)
digits_clean (x ∷ xs) all k lt =
    let parts = first_too (is_hex_digit x) (digit_count xs) (length xs) (omega (arith, all, sum_by-cons (λ y. cond (is_hex_digit y) 1 0) x xs)) (count_by-le-length is_hex_digit xs) in
    elim k as (λ k. k < suc (length xs) → get_or (x ∷ xs) k 0 ≢ 10) [
      | zero ↦ λ lt is. let wrong : false ≡ true = ap is_hex_digit (sym is) ∙ parts.0 in cc
      | suc k ↦ λ lt. digits_clean xs parts.1 k (omega arith)
    ] lt

front_clean : (known : ℕ) (bytes : List ℕ) → BeginsWithDigits known bytes → HasNoFeed (take known bytes)
front_clean known bytes is = digits_clean (take known bytes) (front_long known bytes is)

-- this is the first feed after so many bytes, or none is
abbrev pub Finds : ℕ → List ℕ → Option ℕ → Type 0
Finds known bytes found = IsFirstByte (is_byte 10) (take (length bytes - known) (drop known bytes)) found

none_after : (known : ℕ) (bytes : List ℕ) → Finds known bytes None → HasNoFeed (drop known bytes)
none_after known bytes none k lt at =
    let nowhere : IsFirstByte (is_byte 10) (drop known bytes) None = subst (λ rest. IsFirstByte (is_byte 10) rest None) (take_rest bytes known) none in
    nowhere k (omega arith) lt (eq-eqb _ _ at)

pub none_found : (known : ℕ) (bytes : List ℕ) → BeginsWithDigits known bytes → Finds known bytes None → HasNoFeed bytes
none_found known bytes is none =
    subst HasNoFeed (take-append-drop known bytes) (no_feed_app (take known bytes) (drop known bytes) (front_clean known bytes is) (none_after known bytes none))

line_behind : (known : ℕ) (bytes line : List ℕ) → BeginsWithDigits known bytes → IsLine line → IsLine (take known bytes ++ line)
line_behind known bytes line is (front, same, none) = (
  take known bytes ++ front,
  ap (λ l. take known bytes ++ l) same ∙ sym (append_assoc (take known bytes) front (10 ∷ [])),
  no_feed_app (take known bytes) front (front_clean known bytes is) none,
)

pub line_found : (known place : ℕ) (bytes : List ℕ) → BeginsWithDigits known bytes → Finds known bytes (Some place) → IsLine (take (known + place + 1) bytes)
line_found known place bytes is found =
    let count : known + place + 1 ≡ known + (place + 1) = omega arith in
    let first : IsFirstByte (is_byte 10) (drop known bytes) (Some place) = subst (λ rest. IsFirstByte (is_byte 10) rest (Some place)) (take_rest bytes known) found in
    rw (ap (λ n. take n bytes) count ∙ front_more known (place + 1) bytes)
    (line_behind known bytes (take (place + 1) (drop known bytes)) is (first_is_line (drop known bytes) place first))

-- ---- an ear

-- nothing has come
pub none_heard : (ear : Ear) → walked_of ear.walk ≡ begins ear.walk.lines → ear.kept.items ≡ [] → ear.text.items ≡ [] → Holds HearsLines [] ear
none_heard ear walked kept empty = record {
  text = λ goes needs short. empty;
  whole = λ is. (walked, ([], sym kept ∙ sym (append-nil ear.kept.items), inl refl));
  lines = λ is. record {
    ended = [];
    line = [];
    split = refl;
    ends = inl refl;
    walked = walked ∙ sym (ap (heard (begins ear.walk.lines)) lines-nil);
    begun = λ goes. ((λ k lt. absurd (omega arith)), ([], sym kept ∙ sym (append-nil ear.kept.items), inl refl));
  };
}

-- whether any bytes are there
pub empty_of : (slice items : List ℕ) → slice ≡ items → true ≡ (length slice == 0) → items ≡ []
empty_of slice items same none = nil_from_length items (ap length (sym same) ∙ eqb-true (length slice) 0 (sym none))

pub some_of : (slice items : List ℕ) → slice ≡ items → false ≡ (length slice == 0) → 0 < length items
some_of slice [] same some = absurd (let wrong : false ≡ true = some ∙ ap (λ bytes. length bytes == 0) same in cc)
some_of slice (byte ∷ items) same some = omega arith

-- a part that stands alone
pub kept_part : (which : Lines) (line kept part : List ℕ) → kept ≡ [] → IsKept which line kept → IsKept which (line ++ part) part
kept_part which line [] part none is = rw (kept_whole which line is) (kept_all which part)
kept_part which line (byte ∷ kept) part none is = absurd (let wrong : length (byte ∷ kept) ≡ 0 = ap length none in omega arith)

-- ---- a layout

layout_of_ear : (past : List ℕ) (ear : Ear) → ear.walk.lines ≡ Layout → IsKept ear.walk.lines past ear.kept.items → IsKept Layout past ear.kept.items
layout_of_ear past ear is kept = subst (λ which. IsKept which past ear.kept.items) is kept

pub whole_kept : (past : List ℕ) (ear : Ear) → ear.is_deaf ≡ false → ear.walk.lines ≡ Layout → IsHeard past ear → IsKept Layout past ear.kept.items
whole_kept past ear awake is (inl heard) = layout_of_ear past ear is ((heard.1 awake).whole (ap is_whole is)).1
whole_kept past ear awake is (inr ended) = layout_of_ear past ear is ((ended.1 awake).whole (ap is_whole is)).1

-- a text that is too long has no layout
no_layout : (bytes : List ℕ) → 16777216 < length bytes → layout_in bytes ≡ Err TooLong
unfolding within_limit
no_layout bytes long = rw (lt-ltb 16777216 (length bytes) long) refl

-- what is kept of a layout has its layout
pub kept_layout : (past kept : List ℕ) → IsKept Layout past kept → layout_in kept ≡ layout_in past
kept_layout past kept (more, is, inl none) = ap layout_in (sym (is ∙ ap (λ m. kept ++ m) none ∙ append-nil kept))
kept_layout past kept (more, is, inr enough) =
    let long : 16777219 < length kept = enough_over Layout kept refl enough in
    no_layout kept (omega arith) ∙ sym (no_layout past (omega (arith, ap length is, length-append kept more)))

says_anywhere : (name some other : List ℕ) (said : Option (List ℕ)) → SaysLayout name some said (Err TooLong) → SaysLayout name other said (Err TooLong)
says_anywhere name some other None says = says
says_anywhere name some other (Some words) says = says

-- what is said of it is said of the layout
pub kept_says : (name past kept : List ℕ) (said : Option (List ℕ)) → IsKept Layout past kept → SaysLayout name kept said (layout_in kept) → SaysLayout name past said (layout_in past)
kept_says name past kept said (more, is, inl none) says =
    subst (λ bytes. SaysLayout name bytes said (layout_in bytes)) (sym (is ∙ ap (λ m. kept ++ m) none ∙ append-nil kept)) says
kept_says name past kept said (more, is, inr enough) says =
    let long : 16777219 < length kept = enough_over Layout kept refl enough in
    rw (no_layout past (omega (arith, ap length is, length-append kept more)))
    (says_anywhere name kept past said (subst (λ due. SaysLayout name kept said due) (no_layout kept (omega arith)) says))

-- ---- what is not kept whole

-- of all other lines it is said by the walk
pub says_other : (which : Lines) (name past : List ℕ) (said : Option (List ℕ)) → (which ≡ Layout → ⊥) → said ≡ input_said which name past → Says which name past said
says_other Records name past said other is = is
says_other ReadRecords name past said other is = is
says_other SizedRecords name past said other is = is
says_other Turns name past said other is = is
says_other SizedTurns name past said other is = is
says_other Answers name past said other is = is
says_other AnswersOfTurns name past said other is = is
says_other (Names names) name past said other is = is
says_other Orders name past said other is = is
says_other Characters name past said other is = is
says_other Layout name past said other is = absurd (other refl)
says_other (Buffer size) name past said other is = is
says_other Trace name past said other is = is
says_other Stream name past said other is = is

-- no line of what is kept whole counts
whole_nothing : (which : Lines) (sizes : SizesBy) (line : List ℕ) → is_whole which ≡ true → judged_line which sizes line ≡ Nothing
whole_nothing Layout sizes line is = refl
whole_nothing (Buffer size) sizes line is = refl
whole_nothing Records sizes line is = absurd (let wrong : false ≡ true = is in cc)
whole_nothing ReadRecords sizes line is = absurd (let wrong : false ≡ true = is in cc)
whole_nothing SizedRecords sizes line is = absurd (let wrong : false ≡ true = is in cc)
whole_nothing Turns sizes line is = absurd (let wrong : false ≡ true = is in cc)
whole_nothing SizedTurns sizes line is = absurd (let wrong : false ≡ true = is in cc)
whole_nothing Answers sizes line is = absurd (let wrong : false ≡ true = is in cc)
whole_nothing AnswersOfTurns sizes line is = absurd (let wrong : false ≡ true = is in cc)
whole_nothing (Names names) sizes line is = absurd (let wrong : false ≡ true = is in cc)
whole_nothing Orders sizes line is = absurd (let wrong : false ≡ true = is in cc)
whole_nothing Characters sizes line is = absurd (let wrong : false ≡ true = is in cc)
whole_nothing Trace sizes line is = absurd (let wrong : false ≡ true = is in cc)
whole_nothing Stream sizes line is = absurd (let wrong : false ≡ true = is in cc)

whole_count : (walked : Walked) (raw : List ℕ) → is_whole walked.lines ≡ true → (hears walked raw).count ≡ walked.count
whole_count walked raw is =
    by_bool (is_done walked) (λ done. rw done refl)
    (λ goes. rw goes (by_bool (is_too_long walked.lines raw) (λ long. rw long refl)
    (λ short. rw (short, whole_nothing walked.lines walked.sizes (without_terminator raw) is) refl)))

whole_none : (walked : Walked) (raws : List (List ℕ)) → is_whole walked.lines ≡ true → (heard walked raws).count ≡ walked.count
whole_none walked [] is = refl
whole_none walked (raw ∷ raws) is =
    whole_none (hears walked raw) raws (ap is_whole (hears_lines walked raw) ∙ is) ∙ whole_count walked raw is

-- how many records or keys came
pub ended_count : (past : List ℕ) (ear : Ear) → Holds EndedLines past ear → ear.walk.count ≡ (walked_over ear.walk.lines past).count
ended_count past ear holds =
    by_bool (is_whole ear.walk.lines)
    (λ is. ap (λ w. w.count) (holds.whole is).0 ∙ sym (whole_none (begins ear.walk.lines) (lines_of past) is))
    (λ is. ap (λ w. w.count) (holds.lines is).0)

-- what was refused stays so
still_goes : (old new : Ear) → walked_of new.walk ≡ hears (walked_of old.walk) old.kept.items → is_done (walked_of new.walk) ≡ false → is_done (walked_of old.walk) ≡ false
still_goes old new walks goes =
    by_bool (is_done (walked_of old.walk))
    (λ done. absurd (let wrong : false ≡ true = sym goes ∙ ap is_done (walks ∙ hears_done (walked_of old.walk) old.kept.items done) ∙ done in cc))
    (λ is. is)

some_text : (past : List ℕ) (ear : Ear) → HoldsSome past ear → is_done (walked_of ear.walk) ≡ false → KeepsText past ear
some_text past ear (inl holds) = holds.text
some_text past ear (inr holds) = holds.text

end_lines : (past : List ℕ) (old : Ear) (new : Walked) (after : List ℕ) → is_whole old.walk.lines ≡ false → 0 < length old.kept.items
    → new ≡ hears (walked_of old.walk) old.kept.items → after ≡ [] → HoldsSome past old → EndedLines past new after
end_lines past old new after is some walks empty (inl holds) = ends_one past (walked_of old.walk) old.kept.items new after some walks empty (holds.lines is)
end_lines past old new after is some walks empty (inr holds) = ends_again past (walked_of old.walk) old.kept.items new after some walks empty (holds.lines is)

-- ---- the end of an input

pub end_none : (past : List ℕ) (ear : Ear) → ear.kept.items ≡ [] → HoldsSome past ear → Holds EndedLines past ear
end_none past ear empty (inr holds) = holds
end_none past ear empty (inl holds) = record {
  text = holds.text;
  whole = holds.whole;
  lines = λ is. ends_none past (walked_of ear.walk) ear.kept.items empty (holds.lines is);
}

pub end_one : (past : List ℕ) (old new : Ear) → is_whole old.walk.lines ≡ false → 0 < length old.kept.items
    → walked_of new.walk ≡ hears (walked_of old.walk) old.kept.items → new.kept.items ≡ [] → new.text.items ≡ old.text.items
    → HoldsSome past old → Holds EndedLines past new
end_one past old new is some walks empty text holds =
    let lines : new.walk.lines ≡ old.walk.lines = ap (λ w. w.lines) walks ∙ hears_lines (walked_of old.walk) old.kept.items in
    record {
      text = λ goes needs short. text ∙ some_text past old holds (still_goes old new walks goes) (ap needs_text (sym lines) ∙ needs) short;
      whole = λ whole. absurd (let wrong : false ≡ true = sym is ∙ ap is_whole (sym lines) ∙ whole in cc);
      lines = λ part. end_lines past old (walked_of new.walk) new.kept.items is some walks empty holds;
    }

-- ---- bytes that an ear takes

pub whole_taken : (past bytes : List ℕ) (old mid new : Ear) → mid ≡ record old { text = mid.text } → new ≡ record mid { kept = new.kept }
    → is_whole old.walk.lines ≡ true → is_done (walked_of old.walk) ≡ false → (KeepsText past old → KeepsText (past ++ bytes) mid)
    → ((line : List ℕ) → IsKept mid.walk.lines line mid.kept.items → IsKept mid.walk.lines (line ++ bytes) new.kept.items)
    → Holds HearsLines past old → Holds HearsLines (past ++ bytes) new
whole_taken past bytes old mid new text kept is goes keeps_text keeps holds =
    let first = ap (λ ear. ear.walk) text in
    let walk = ap (λ ear. ear.walk) kept ∙ first in
    record {
      text = λ still needs short.
          ap (λ ear. ear.text.items) kept ∙ keeps_text (holds.text goes) (ap (λ ear. needs_text ear.walk.lines) (sym kept) ∙ needs) short;
      whole = λ whole. (
        ap walked_of walk ∙ (holds.whole is).0 ∙ ap (λ w. begins w.lines) (sym walk),
        subst (λ w. IsKept w.lines (past ++ bytes) new.kept.items) (ap (λ ear. ear.walk) (sym kept))
            (keeps past (subst (λ ear. IsKept ear.walk.lines past ear.kept.items) (sym text) (holds.whole is).1)),
      );
      lines = λ part. absurd (let wrong : false ≡ true = sym part ∙ ap (λ w. is_whole w.lines) walk ∙ is in cc);
    }

pub lines_taken : (past bytes : List ℕ) (old mid new : Ear) → mid ≡ record old { text = mid.text } → is_whole old.walk.lines ≡ false
    → is_done (walked_of old.walk) ≡ false → (KeepsText past old → KeepsText (past ++ bytes) mid) → Beside mid new
    → ((before : List ℕ) → HearsOf before mid → HearsOf (before ++ bytes) new) → Holds HearsLines past old → Holds HearsLines (past ++ bytes) new
lines_taken past bytes old mid new text is goes keeps_text beside heard holds =
    let lines = beside.lines ∙ ap (λ ear. ear.walk.lines) text in
    record {
      text = λ still needs short. beside.text ∙ keeps_text (holds.text goes) (ap needs_text (sym beside.lines) ∙ needs) short;
      whole = λ whole. absurd (let wrong : false ≡ true = sym is ∙ ap is_whole (sym lines) ∙ whole in cc);
      lines = λ part. heard past (subst (λ ear. HearsOf past ear) (sym text) (holds.lines is));
    }

-- once a line is refused, whatever comes changes nothing
pub done_taken : (past bytes : List ℕ) (old : Ear) (count : ℕ) → is_done (walked_of old.walk) ≡ true → Holds HearsLines past old
    → Holds HearsLines (past ++ bytes) (record old { bytes = count })
done_taken past bytes old count done holds = record {
  text = λ goes. absurd (let wrong : false ≡ true = sym goes ∙ done in cc);
  whole = λ is. absurd (let wrong : false ≡ true = ap is_done (sym (holds.whole is).0) ∙ done in cc);
  lines = λ is. hears_after_all past bytes (walked_of old.walk) old.kept.items old.kept.items done (holds.lines is);
}

pub counted_on : (past : List ℕ) (old : Ear) (count : ℕ) → Holds HearsLines past old → Holds HearsLines past (record old { bytes = count })
counted_on past old count holds = record { text = holds.text; whole = holds.whole; lines = holds.lines }

pub come_more : (past bytes : List ℕ) (count : ℕ) → count ≡ min (length past) (2 ^ 64 - 1) → min (count + length bytes) (2 ^ 64 - 1) ≡ min (length (past ++ bytes)) (2 ^ 64 - 1)
come_more past bytes count is = omega (arith, is, length-append past bytes)
