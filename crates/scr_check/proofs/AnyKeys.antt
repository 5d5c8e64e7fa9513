-- What is left in steps, and by the keys of this terminal.
use Rattle.std.proofs.Common.{◌≡◌, ℕ, [], true, false, List, sym, ◌∙◌, subst}
use Rattle.ds_screen.specs.Picture.{Picture, cell_at}
use Rattle.ds_screen.specs.Fields.{is_attribute}
use Rattle.ds_keys.specs.declared.key.Key.{Key}
use Rattle.ds_keys.specs.KeyRuns as keyed
use Rattle.ds_keys.specs.Laws.{Keeps}
use Rattle.ds_keys.proofs.CellLaws.{keeps_on}
use Rattle.ds_keys.proofs.TouchLaws.{touched_law}
use Rattle.ds_inbound.specs.Answer.{bytes_sent}
use Rattle.ds_inbound.specs.Inbound.{SaysOnly}
use Rattle.ds_codec.specs.Geometry.{cells_of}
use Rattle.scr_layout.specs.Layout.{Declaration}
use Rattle.scr_check.specs.Promise.{AreTouched, due_answer, KeepsPromise}
use Rattle.scr_check.specs.Any.{IsLeftOf, AreModified, SendsModified, LeavesInSteps, OwnKeysLeave, OwnKeysArePromised}
use Rattle.scr_check.proofs.KeptLaws.{kept_protected, same_span}
use Rattle.scr_check.proofs.SentLaws.{key_sends, key_leaves, sending}
use Rattle.scr_check.proofs.AnyLaws.{protected_kept_so, keys_leave, answers_for_any}
use Rattle.scr_check.proofs.PromiseLaws.{IsOpened}
use Rattle.scr_check.specs.Findings.{findings_of}

pub leaves_in_steps : LeavesInSteps
leaves_in_steps opened middle v first second =
    let k : Keeps opened.cells middle.cells = protected_kept_so opened.cells middle.cells first.kept in
    let m : Keeps middle.cells v.cells = protected_kept_so middle.cells v.cells second.kept in
    record {
      geometry = second.geometry ∙ first.geometry;
      size = second.size ∙ first.size;
      cursor = second.cursor;
      characters = second.characters;
      kept = kept_protected opened.cells v.cells (keeps_on opened.cells middle.cells v.cells k m);
      empty = λ q none set. first.empty q none (second.empty q (same_span opened.cells middle.cells q k ∙ none) set);
    }

pub own_keys_leave : OwnKeysLeave
own_keys_leave opened keys sound quiet = keys_leave opened keys sound quiet

-- the lock and the attention identifier don't matter
pub sending_left : (opened v : Picture) (aid : ℕ) → IsLeftOf opened v → IsLeftOf opened (sending v aid)
sending_left opened v aid left =
    record { geometry = left.geometry; size = left.size; cursor = left.cursor; characters = left.characters; kept = left.kept; empty = left.empty }

sent_touched : (opened : Picture) (keys : List Key) (places : List ℕ) → keyed.IsQuiet opened keys → IsLeftOf opened (keyed.after opened keys) → AreModified (keyed.after opened keys).cells places
    → AreTouched opened keys places
sent_touched opened keys places quiet left modified =
    let v : Picture = keyed.after opened keys in
    record {
      rising = modified.rising;
      exactly = λ q. (
        λ among.
            let is = (modified.exactly q).0 among in
            let there : is_attribute (cell_at opened.cells q) ≡ true = sym (left.kept.places q) ∙ is.0 in
            (there, (touched_law opened keys q quiet there).0 is.1),
        λ touched. (modified.exactly q).1 (left.kept.places q ∙ touched.0, (touched_law opened keys q quiet touched.0).1 touched.1),
      );
    }

pub own_keys_are_promised : OwnKeysArePromised
own_keys_are_promised layout opened sound any keys quiet =
    let v : Picture = keyed.after opened keys in
    let left : IsLeftOf opened v = keys_leave opened keys sound quiet in
    record {
      kept = left.kept;
      sends = λ aid long free.
          let s : SendsModified layout opened (sending v aid) aid = any (sending v aid) (sending_left opened v aid left) aid long in
          let P : Picture → Type 0 = λ w. SaysOnly layout.geometry.mode (cells_of layout.size) (due_answer aid v s.places) (bytes_sent w false) in
          record {
            sent = key_sends v aid free long;
            places = s.places;
            touched = sent_touched opened keys s.places quiet left s.modified;
            says = subst P (sym (key_leaves v aid free long)) s.says;
            declared = s.declared;
          };
    }

-- a picture against which nothing stands keeps the promise
pub keeps_promise : (layout : Declaration) (opened : Picture) → IsOpened layout opened → findings_of layout opened ≡ [] → KeepsPromise layout opened
keeps_promise layout opened is clean = own_keys_are_promised layout opened is.sound (answers_for_any layout opened is clean)
