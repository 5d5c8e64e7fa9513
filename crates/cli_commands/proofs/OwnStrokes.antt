-- Strokes leave what any terminal can leave, and are answered as it is promised.
use Rattle.std.proofs.Common.{◌≡◌, ℕ, ◌&&◌, Bool, true, false, not, List, [], ◌∷◌, ◌++◌, length, Option, Some, None, refl, sym, ◌∙◌, ap, subst, arith, inl, inr}
use Rattle.std.specs.Option.{option_map}
use Rattle.std.proofs.lemmas.Bool.{cond_both, and_parts, not-true}
use Rattle.ds_codec.specs.declared.cell.Cell.{Cell}
use Rattle.ds_codec.specs.declared.cell.Cell.TheVariants.{Field, Char}
use Rattle.ds_codec.specs.Attribute.{is_modified}
use Rattle.ds_codec.specs.Character.{is_graphic}
use Rattle.ds_codec.specs.Geometry.{cells_of}
use Rattle.ds_screen.specs.declared.lock.Lock.{Lock}
use Rattle.ds_screen.specs.declared.lock.Lock.TheVariants.{Free, Waiting, Error}
use Rattle.ds_screen.specs.Picture.{Picture, IsSound, cell_at}
use Rattle.ds_screen.specs.Fields.{is_attribute, bits_of, governs, is_open, span_of}
use Rattle.ds_keys.specs.declared.key.Key.{Key}
use Rattle.ds_keys.specs.declared.key.Key.TheVariants.{Typed, Left, Right, Up, Down, Tab, BackTab, NewLine, Home, EraseEof, EraseInput, Delete, Reset, Attention}
use Rattle.ds_keys.specs.KeyStep.{Step, step_of}
use Rattle.ds_keys.specs.KeyRuns.{is_sent, is_accepted, is_quiet, after, after_key, answer_of}
use Rattle.ds_keys.specs.Laws.{Keeps}
use Rattle.ds_keys.proofs.CellLaws.{same_kind, same_governs}
use Rattle.ds_keys.proofs.ShapeLaws.{quiet_sized}
use Rattle.ds_strokes.specs.declared.stroke.Stroke.{Stroke}
use Rattle.ds_strokes.specs.declared.stroke.Stroke.TheVariants as stroke
use Rattle.ds_strokes.specs.Room.{before_null, shifted, made_room, readied}
use Rattle.ds_strokes.specs.StrokeStep.{Operating, operating, goes_on, tabs, stored_in, put_step, free_key_step, free_stroke_step, locked_stroke_step, step_under, stroke_step, stroke_answer, after_stroke}
use Rattle.ds_strokes.specs.StrokeRuns.{after_strokes, are_quiet, AreQuiet}
use Rattle.ds_strokes.specs.Touched.{is_edit_stroke, edits, IsEdited}
use Rattle.ds_strokes.proofs.PressLaws.{on_free}
use Rattle.ds_strokes.proofs.StrokeLaws.{quiet_strokes_keep}
use Rattle.ds_strokes.proofs.TouchLaws.{touched_law}
use Rattle.ds_strokes.proofs.SoundLaws.{strokes_stay_sound}
use Rattle.ds_inbound.specs.Answer.{is_modified_at, bytes_sent}
use Rattle.ds_inbound.specs.Inbound.{SaysOnly}
use Rattle.scr_check.specs.Promise.{due_answer}
use Rattle.scr_check.specs.Any.{IsLeftOf, AreModified, SendsModified}
use Rattle.scr_check.proofs.KeptLaws.{attribute_inside, kept_protected}
use Rattle.scr_check.proofs.TouchedFields.{spans_something}
use Rattle.scr_check.proofs.PromiseLaws.{keys_stay}
use Rattle.scr_check.proofs.SentLaws.{key_sends, key_leaves, sending}
use Rattle.scr_check.proofs.AnyKeys.{sending_left}
use Rattle.cli_commands.specs.OwnStrokes.{AreTouchedBy, OwnStrokesLeave, OwnStrokesArePromised}

-- ---- the sizes stay

abbrev Same : Picture → Picture → Type 0
Same v w = (w.geometry ≡ v.geometry) × (w.size ≡ v.size)

abbrev SameIn : Picture → Option Picture → Type 0
SameIn v None = Unit {0}
SameIn v (Some w) = Same v w

shifted_same : (v : Picture) (o : Option ℕ) → SameIn v (option_map (shifted v) o)
shifted_same v None = tt
shifted_same v (Some count) = (refl, refl)

room_same : (inserts : Bool) (v : Picture) → SameIn v (made_room inserts v)
room_same false v = (refl, refl)
room_same true v = shifted_same v (before_null v.cells v.size.cols v.cursor)

readied_same : (inserts : Bool) (v : Picture) → SameIn v (readied inserts v)
readied_same inserts v = cond_both (is_open v.cells v.cursor) (made_room inserts v) None (SameIn v) (λ is. room_same inserts v) (λ none. tt)

stored_same : (v : Picture) (o : Option Picture) (code : ℕ) (next : Picture → ℕ) → SameIn v o → Same v (stored_in v o code next).after
stored_same v None code next same = (refl, refl)
stored_same v (Some w) code next same = same

put_same : (inserts : Bool) (v : Picture) (code : ℕ) (next : Picture → ℕ) → Same v (put_step inserts v code next).after
unfolding put_step
put_same inserts v code next = stored_same v (readied inserts v) code next (readied_same inserts v)

key_same : (v : Picture) (key : Key) → is_sent (answer_of v key) ≡ false → Same v (after_key v key)
unfolding after is_quiet
key_same v key quiet = (keys_stay v (key ∷ []), quiet_sized v (key ∷ []) (ap (λ t. not t && true) quiet))

free_key_same : (inserts : Bool) (v : Picture) (key : Key) → is_sent (free_key_step inserts v key).pressed ≡ false → Same v (free_key_step inserts v key).after
free_key_same inserts v (Typed code) quiet =
    cond_both (is_graphic code) _ _ (λ (s : Step). Same v s.after) (λ is. put_same inserts v code goes_on) (λ none. (refl, refl))
free_key_same inserts v Left quiet = key_same v Left quiet
free_key_same inserts v Right quiet = key_same v Right quiet
free_key_same inserts v Up quiet = key_same v Up quiet
free_key_same inserts v Down quiet = key_same v Down quiet
free_key_same inserts v Tab quiet = key_same v Tab quiet
free_key_same inserts v BackTab quiet = key_same v BackTab quiet
free_key_same inserts v NewLine quiet = key_same v NewLine quiet
free_key_same inserts v Home quiet = key_same v Home quiet
free_key_same inserts v EraseEof quiet = key_same v EraseEof quiet
free_key_same inserts v EraseInput quiet = key_same v EraseInput quiet
free_key_same inserts v Delete quiet = key_same v Delete quiet
free_key_same inserts v Reset quiet = key_same v Reset quiet
free_key_same inserts v (Attention aid) quiet = key_same v (Attention aid) quiet

free_same : (inserts : Bool) (v : Picture) (s : Stroke) → is_sent (free_stroke_step inserts v s).pressed ≡ false → Same v (free_stroke_step inserts v s).after
free_same inserts v (stroke.Key key) quiet = free_key_same inserts v key quiet
free_same inserts v stroke.Insert quiet = (refl, refl)
free_same inserts v stroke.Dup quiet = put_same inserts v 0x1C tabs
free_same inserts v stroke.FieldMark quiet = put_same inserts v 0x1E goes_on

locked_same : (v : Picture) (s : Stroke) → is_sent (locked_stroke_step v s).pressed ≡ false → Same v (locked_stroke_step v s).after
locked_same v (stroke.Key key) quiet = key_same v key quiet
locked_same v stroke.Insert quiet = (refl, refl)
locked_same v stroke.Dup quiet = (refl, refl)
locked_same v stroke.FieldMark quiet = (refl, refl)

under_same : (lock : Lock) (inserts : Bool) (v : Picture) (s : Stroke) → is_sent (step_under lock inserts v s).pressed ≡ false → Same v (step_under lock inserts v s).after
under_same Free inserts v s quiet = free_same inserts v s quiet
under_same Waiting inserts v s quiet = locked_same v s quiet
under_same Error inserts v s quiet = locked_same v s quiet

stroke_same : (o : Operating) (s : Stroke) → is_sent (stroke_answer o s) ≡ false → Same o.screen (after_stroke o s).screen
unfolding stroke_step
stroke_same o s quiet = under_same o.screen.lock o.inserts o.screen s quiet

strokes_same : (o : Operating) (strokes : List Stroke) → AreQuiet o strokes → Same o.screen (after_strokes o strokes).screen
unfolding after_strokes are_quiet
strokes_same o [] quiet = (refl, refl)
strokes_same o (s ∷ strokes) quiet =
    let parts = and_parts (not (is_sent (stroke_answer o s))) (are_quiet (after_stroke o s) strokes) quiet in
    let first = stroke_same o s (not-true (is_sent (stroke_answer o s)) parts.0) in
    let others = strokes_same (after_stroke o s) strokes parts.1 in
    (others.0 ∙ first.0, others.1 ∙ first.1)

-- ---- no tag comes to a field without cells

quiet_front : (o : Operating) (early : List Stroke) (s : Stroke) (late : List Stroke) → AreQuiet o (early ++ s ∷ late) → AreQuiet o early
unfolding are_quiet
quiet_front o [] s late quiet = refl
quiet_front o (first ∷ early) s late quiet =
    let parts = and_parts (not (is_sent (stroke_answer o first))) (are_quiet (after_stroke o first) (early ++ s ∷ late)) quiet in
    ap (λ t. t && are_quiet (after_stroke o first) early) parts.0 ∙ quiet_front (after_stroke o first) early s late parts.1

edit_governs : (o : Operating) (s : Stroke) (q : ℕ) → edits o s q ≡ true → governs o.screen.cells q o.screen.cursor ≡ true
edit_governs o s q is =
    (and_parts (is_accepted (stroke_answer o s)) (governs o.screen.cells q o.screen.cursor)
    (and_parts (is_edit_stroke s) (is_accepted (stroke_answer o s) && governs o.screen.cells q o.screen.cursor) is).1).1

edited_some : (o : Operating) (strokes : List Stroke) (q : ℕ) → IsSound o.screen → AreQuiet o strokes → is_attribute (cell_at o.screen.cells q) ≡ true → IsEdited o strokes q
    → length (span_of o.screen.cells q) ≡ 0 → ⊥
edited_some o strokes q sound quiet there ed =
    let front : AreQuiet o ed.early = quiet_front o ed.early ed.stroke ed.late (ap (are_quiet o) (sym ed.parts) ∙ quiet) in
    let middle : Operating = after_strokes o ed.early in
    let k : Keeps o.screen.cells middle.screen.cells = quiet_strokes_keep o ed.early sound front in
    let stays : IsSound middle.screen = strokes_stay_sound o ed.early sound in
    let rules : governs o.screen.cells q middle.screen.cursor ≡ true =
    sym (same_governs o.screen.cells middle.screen.cells q middle.screen.cursor k) ∙ edit_governs middle ed.stroke q ed.edited in
    spans_something o.screen.cells q middle.screen.cursor (attribute_inside o.screen.cells q there) (omega (arith, k.whole, stays.whole, stays.cursor_inside)) there rules

modified_there : (x : Cell) → is_modified (bits_of x) ≡ true → is_attribute x ≡ true
modified_there (Field bits) set = refl
modified_there (Char character) set = absurd cc

empty_stays : (o : Operating) (strokes : List Stroke) (q : ℕ) → IsSound o.screen → AreQuiet o strokes → span_of o.screen.cells q ≡ []
    → is_modified_at (after_strokes o strokes).screen.cells q ≡ true → is_modified_at o.screen.cells q ≡ true
empty_stays o strokes q sound quiet none set =
    let after : List Cell = (after_strokes o strokes).screen.cells in
    let there : is_attribute (cell_at o.screen.cells q) ≡ true =
    sym (same_kind o.screen.cells after q (quiet_strokes_keep o strokes sound quiet)) ∙ modified_there (cell_at after q) set in
    elim ((touched_law o strokes q sound quiet there).0 set) [
      | inl was ↦ was.modified
      | inr edited ↦ absurd (edited_some o strokes q sound quiet there edited (ap length none))
    ]

pub own_strokes_leave : OwnStrokesLeave
own_strokes_leave o strokes sound quiet =
    let stays : IsSound (after_strokes o strokes).screen = strokes_stay_sound o strokes sound in
    let same = strokes_same o strokes quiet in
    record {
      geometry = same.0;
      size = same.1;
      cursor = omega (arith, stays.whole, stays.cursor_inside);
      characters = stays.characters;
      kept = kept_protected o.screen.cells (after_strokes o strokes).screen.cells (quiet_strokes_keep o strokes sound quiet);
      empty = λ q none set. empty_stays o strokes q sound quiet none set;
    }

-- ---- what is sent

attention_step : (o : Operating) (aid : ℕ) → o.screen.lock ≡ Free → stroke_step o (stroke.Key (Attention aid)) ≡ step_of o.screen (Attention aid)
attention_step o aid free = sym (on_free o.screen o.inserts (stroke.Key (Attention aid)) free)

sent_touched : (o : Operating) (strokes : List Stroke) (places : List ℕ) → IsSound o.screen → AreQuiet o strokes → IsLeftOf o.screen (after_strokes o strokes).screen
    → AreModified (after_strokes o strokes).screen.cells places → AreTouchedBy o strokes places
sent_touched o strokes places sound quiet left modified =
    record {
      rising = modified.rising;
      exactly = λ q. (
        λ among.
            let is = (modified.exactly q).0 among in
            let there : is_attribute (cell_at o.screen.cells q) ≡ true = sym (left.kept.places q) ∙ is.0 in
            (there, (touched_law o strokes q sound quiet there).0 is.1),
        λ touched. (modified.exactly q).1 (left.kept.places q ∙ touched.0, (touched_law o strokes q sound quiet touched.0).1 touched.1),
      );
    }

pub own_strokes_are_promised : OwnStrokesArePromised
own_strokes_are_promised layout opened sound any inserts strokes quiet =
    let o : Operating = operating opened inserts in
    let e : Operating = after_strokes o strokes in
    let v : Picture = e.screen in
    let left : IsLeftOf opened v = own_strokes_leave o strokes sound quiet in
    record {
      kept = left.kept;
      sends = λ aid long free.
          let s : SendsModified layout opened (sending v aid) aid = any (sending v aid) (sending_left opened v aid left) aid long in
          let P : Picture → Type 0 = λ w. SaysOnly layout.geometry.mode (cells_of layout.size) (due_answer aid v s.places) (bytes_sent w false) in
          let stepped = attention_step e aid free in
          record {
            sent = ap (λ (t : Step). t.pressed) stepped ∙ key_sends v aid free long;
            places = s.places;
            touched = sent_touched o strokes s.places sound quiet left s.modified;
            says = subst P (sym (ap (λ (t : Step). t.after) stepped ∙ key_leaves v aid free long)) s.says;
            declared = s.declared;
          };
    }
