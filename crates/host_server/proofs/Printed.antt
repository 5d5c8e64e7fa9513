-- What waits, and what is written of it.
use Rattle.std.proofs.Common.{◌≡◌, ◌∙◌, ◌⊎◌, ◌≤◌, ◌<◌, ◌+◌, ℕ, Bool, true, false, List, [], ◌∷◌, ◌++◌, length, Option, Some, None, Result, Ok, Err, refl, sym, ap, subst, inl, inr, append_assoc, append-nil, take, drop, arith, cond, length-append, leb-false, true≢false}
use Rattle.std.specs.Prelude.{nat_le}
use Rattle.std.specs.Io.KnownBytes.{Appends, Keeps}
use Rattle.std.proofs.lemmas.List.{length-take, take-append-drop, take-take}
use Rattle.cli_commands.proofs.Prefixes.{appends_more}
use Rattle.cli_commands.specs.Causes.{HasFailed, Puts}
use Rattle.cli_commands.specs.declared.status.Status.{Status}
use Rattle.cli_commands.specs.declared.status.Status.TheVariants.{Failed as HasEnded, NoMemory}
use Rattle.cli_sessions.proofs.Serving.{appends_none}
use Rattle.cli_sessions.specs.Printing.{Printing, IsPrinted}
use Rattle.session_hub.specs.Hubs.{Room}
use Rattle.host_server.specs.Waiting.{Waiting, added, most_waiting, nothing_waits, IsLeft, Passes}
use Rattle.host_server.specs.Serving.{Serving, Keeps as KeepsServing, Went, texts_of, Telling, Settled, Goes, all_added, IsFront, IsCause, Prints, EndsSo, StopsSo, IsCut, ServesAll}
use Rattle.host_server.proofs.Served.{texts_more, settled_none, settled_then, settled_kept, keeps_then}

-- ---- failures

failed_then : (before mid after : ℕ) → HasFailed before mid → (after ≡ mid) ⊎ HasFailed mid after → HasFailed before after
failed_then before mid after a (inl same) = subst (HasFailed before) (sym same) a
failed_then before mid after a (inr b) = omega (arith, a, b)

-- ---- writes

pub passes_none : (at : Printing) (waiting : Waiting) → Passes at at waiting waiting
passes_none at waiting = record { gone = []; rest = waiting.bytes; waited = refl; written = appends_none at.written; left = inl (refl, refl) }

abbrev is_none : List ℕ → Bool
is_none [] = true
is_none (x ∷ xs) = false

-- neither of two lists has any, that have none together
empties : (xs ys : List ℕ) → [] ≡ xs ++ ys → (xs ≡ []) × (ys ≡ [])
empties [] ys e = (refl, sym e)
empties (x ∷ xs) ys e = absurd (true≢false (ap is_none e))

left_going : (before mid after : Printing) (old between new : Waiting) (some rest : List ℕ) → between ≡ record old { bytes = some } → mid.failures ≡ before.failures
    → IsLeft mid after rest between new → IsLeft before after rest old new
left_going before mid after old between new some rest same fine (inl left) = inl (left.0 ∙ ap (λ (w : Waiting). record w { bytes = rest }) same, left.1 ∙ fine)
left_going before mid after old between new some rest same fine (inr left) = inr (left.0, subst (λ (f : ℕ). HasFailed f after.failures) fine left.1)

left_failed : (before mid after : Printing) (old between new : Waiting) (some rest : List ℕ) → between ≡ record { bytes = []; cut = true } → HasFailed before.failures mid.failures
    → some ≡ [] → IsLeft mid after some between new → IsLeft before after rest old new
left_failed before mid after old between new some rest same failed none (inl left) = inr (
  left.0 ∙ ap (λ (w : Waiting). record w { bytes = some }) same ∙ ap (λ (b : List ℕ). record { bytes = b; cut = true }) none,
  failed_then before.failures mid.failures after.failures failed (inl left.1),
)
left_failed before mid after old between new some rest same failed none (inr left) =
    inr (left.0, failed_then before.failures mid.failures after.failures failed (inr left.1))

pub passes_then : (before mid after : Printing) (old between new : Waiting) → Passes before mid old between → Passes mid after between new → Passes before after old new
passes_then before mid after old between new a b = passes_by a.left where
  passes_by : IsLeft before mid a.rest old between → Passes before after old new
  passes_by (inl going) = record {
    gone = a.gone ++ b.gone;
    rest = b.rest;
    waited = a.waited ∙ ap (λ (r : List ℕ). a.gone ++ r) (sym (ap (λ (w : Waiting). w.bytes) going.0) ∙ b.waited) ∙ sym (append_assoc a.gone b.gone b.rest);
    written = appends_more before.written mid.written after.written a.gone b.gone a.written b.written;
    left = left_going before mid after old between new a.rest b.rest going.0 going.1 b.left;
  }
  passes_by (inr failed) =
      let none = empties b.gone b.rest (sym (ap (λ (w : Waiting). w.bytes) failed.0) ∙ b.waited) in
      record {
        gone = a.gone;
        rest = a.rest;
        waited = a.waited;
        written = subst (Appends before.written after.written) (ap (λ (g : List ℕ). a.gone ++ g) none.0 ∙ append-nil a.gone)
            (appends_more before.written mid.written after.written a.gone b.gone a.written b.written);
        left = left_failed before mid after old between new b.rest a.rest failed.0 failed.1 none.1 b.left;
      }

-- ---- texts

fits : (texts gone bytes text : List ℕ) → texts ≡ gone ++ bytes → texts ++ text ≡ gone ++ (bytes ++ text)
fits texts gone bytes text is = ap (λ t. t ++ text) is ∙ append_assoc gone bytes text

over : (texts gone bytes text : List ℕ) → texts ≡ gone ++ bytes → nat_le (length bytes + length text) most_waiting ≡ false → most_waiting < length (texts ++ text)
over texts gone bytes text is much = rw (is, length-append (gone ++ bytes) text, length-append gone bytes) (omega (arith, leb-false _ _ much))

-- what the texts were is a front of what they are
record Tells (texts : List ℕ) (before after : Printing) (gone : List ℕ) (waiting : Waiting) : Type 0 where
  front : IsFront waiting.cut texts (gone ++ waiting.bytes)
  cause : IsCause waiting.cut before after texts

-- one more that fits, or doesn't
tells_fit : (texts gone bytes text : List ℕ) (before after : Printing) (fit : Bool) → nat_le (length bytes + length text) most_waiting ≡ fit
    → Tells texts before after gone (record { bytes = bytes; cut = false })
    → Tells (texts ++ text) before after gone (cond fit (record { bytes = bytes ++ text; cut = false }) (record { bytes = bytes; cut = true }))
tells_fit texts gone bytes text before after true is a = record { front = fits texts gone bytes text a.front; cause = a.cause }
tells_fit texts gone bytes text before after false is a = record {
  front = (text, ap (λ t. t ++ text) a.front);
  cause = inr (over texts gone bytes text a.front is);
}

longer : (texts text : List ℕ) → most_waiting < length texts → most_waiting < length (texts ++ text)
longer texts text much = rw (length-append texts text) (omega (arith, much))

still : (texts text : List ℕ) (before after : Printing) → IsCause true before after texts → IsCause true before after (texts ++ text)
still texts text before after (inl failed) = inl failed
still texts text before after (inr much) = inr (longer texts text much)

tells_one : (texts text gone bytes : List ℕ) (cut : Bool) (before after : Printing) → Tells texts before after gone (record { bytes = bytes; cut = cut })
    → Tells (texts ++ text) before after gone (added (record { bytes = bytes; cut = cut }) text)
tells_one texts text gone bytes false before after a = tells_fit texts gone bytes text before after (nat_le (length bytes + length text) most_waiting) refl a
tells_one texts text gone bytes true before after a = record {
  front = (a.front.0 ++ text, ap (λ t. t ++ text) a.front.1 ∙ append_assoc (gone ++ bytes) a.front.0 text);
  cause = still texts text before after a.cause;
}

tells_all : (texts gone : List ℕ) (went : List Went) (waiting : Waiting) (before after : Printing) → Tells texts before after gone waiting
    → Tells (texts ++ texts_of went) before after gone (all_added waiting went)
tells_all texts gone [] waiting before after a = subst (λ t. Tells t before after gone waiting) (sym (append-nil texts)) a
tells_all texts gone (one ∷ went) waiting before after a =
    subst (λ t. Tells t before after gone (all_added (added waiting one.text) went)) (append_assoc texts one.text (texts_of went))
    (tells_all (texts ++ one.text) gone went (added waiting one.text) before after (tells_one texts one.text gone waiting.bytes waiting.cut before after a))

-- ---- what a server prints

pub prints_none : {H C S : Type 0} (content : H → C) (room : H → Room S) (IsTold : Telling C) (server : Serving H) (at : Printing) (waiting : Waiting) → waiting ≡ nothing_waits
    → Prints content room IsTold server server at at waiting
prints_none content room IsTold server at waiting none = subst (Prints content room IsTold server server at at) (sym none) (record {
  settled = settled_none content room IsTold server;
  gone = [];
  written = appends_none at.written;
  front = refl;
  cause = refl;
})

pub prints_kept : {H C S : Type 0} (content : H → C) (room : H → Room S) (IsTold : Telling C) (old mid new : Serving H) (before after : Printing) (waiting : Waiting)
    → Prints content room IsTold old mid before after waiting → KeepsServing content room mid new → Prints content room IsTold old new before after waiting
prints_kept content room IsTold old mid new before after waiting a same = record {
  settled = settled_kept content room IsTold old mid new a.settled same;
  gone = a.gone;
  written = a.written;
  front = a.front;
  cause = a.cause;
}

pub prints_goes : {H C S : Type 0} (content : H → C) (room : H → Room S) (IsTold : Telling C) (old mid new : Serving H) (before after : Printing) (waiting later : Waiting)
    → Prints content room IsTold old mid before after waiting → Goes content room IsTold mid new waiting later → Prints content room IsTold old new before after later
prints_goes content room IsTold old mid new before after waiting later a b =
    let settled = settled_then content room IsTold old mid new a.settled b.settled in
    let tells : Tells (texts_of settled.went) before after a.gone later =
    subst (λ w. Tells (texts_of settled.went) before after a.gone w) (sym b.waits)
    (subst (λ t. Tells t before after a.gone (all_added waiting b.settled.went)) (sym (texts_more a.settled.went b.settled.went))
    (tells_all (texts_of a.settled.went) a.gone b.settled.went waiting before after (record { front = a.front; cause = a.cause }))) in
    record { settled = settled; gone = a.gone; written = a.written; front = tells.front; cause = tells.cause }

-- the same front, cut elsewhere
front_at : (cut : Bool) (texts front other : List ℕ) → front ≡ other → IsFront cut texts front → IsFront cut texts other
front_at cut texts front other same is = subst (IsFront cut texts) same is

front_cut : (cut : Bool) (texts front rest : List ℕ) → IsFront cut texts (front ++ rest) → IsFront true texts (front ++ [])
front_cut false texts front rest is = (rest, is ∙ ap (λ f. f ++ rest) (sym (append-nil front)))
front_cut true texts front rest is = (
  rest ++ is.0,
  is.1 ∙ append_assoc front rest is.0 ∙ ap (λ f. f ++ (rest ++ is.0)) (sym (append-nil front)),
)

cause_kept : (cut : Bool) (before mid after : Printing) (texts : List ℕ) → after.failures ≡ mid.failures → IsCause cut before mid texts → IsCause cut before after texts
cause_kept false before mid after texts same cause = same ∙ cause
cause_kept true before mid after texts same (inl failed) = inl (failed_then before.failures mid.failures after.failures failed (inl same))
cause_kept true before mid after texts same (inr much) = inr much

cause_failed : (cut : Bool) (before mid after : Printing) (texts : List ℕ) → HasFailed mid.failures after.failures → IsCause cut before mid texts → IsCause true before after texts
cause_failed false before mid after texts failed cause = inl (subst (λ (f : ℕ). HasFailed f after.failures) cause failed)
cause_failed true before mid after texts failed (inl earlier) = inl (failed_then before.failures mid.failures after.failures earlier (inr failed))
cause_failed true before mid after texts failed (inr much) = inr much

pub prints_passes : {H C S : Type 0} (content : H → C) (room : H → Room S) (IsTold : Telling C) (old new : Serving H) (before mid after : Printing) (waiting later : Waiting)
    → Prints content room IsTold old new before mid waiting → Passes mid after waiting later → Prints content room IsTold old new before after later
prints_passes content room IsTold old new before mid after waiting later a b = prints_by b.left where
  texts : List ℕ
  texts = texts_of a.settled.went

  moved : a.gone ++ waiting.bytes ≡ (a.gone ++ b.gone) ++ b.rest
  moved = ap (λ (w : List ℕ). a.gone ++ w) b.waited ∙ sym (append_assoc a.gone b.gone b.rest)

  prints_by : IsLeft mid after b.rest waiting later → Prints content room IsTold old new before after later
  prints_by (inl going) = subst (Prints content room IsTold old new before after) (sym going.0) (record {
    settled = a.settled;
    gone = a.gone ++ b.gone;
    written = appends_more before.written mid.written after.written a.gone b.gone a.written b.written;
    front = front_at waiting.cut texts (a.gone ++ waiting.bytes) ((a.gone ++ b.gone) ++ b.rest) moved a.front;
    cause = cause_kept waiting.cut before mid after texts going.1 a.cause;
  })
  prints_by (inr failed) = subst (Prints content room IsTold old new before after) (sym failed.0) (record {
    settled = a.settled;
    gone = a.gone ++ b.gone;
    written = appends_more before.written mid.written after.written a.gone b.gone a.written b.written;
    front = front_cut waiting.cut texts (a.gone ++ b.gone) b.rest (front_at waiting.cut texts (a.gone ++ waiting.bytes) ((a.gone ++ b.gone) ++ b.rest) moved a.front);
    cause = cause_failed waiting.cut before mid after texts failed.1 a.cause;
  })

-- ---- the end

-- what was written, once nothing waits
whole : {H C S : Type 0} (content : H → C) (room : H → Room S) (IsTold : Telling C) (old new : Serving H) (before after : Printing) (waiting : Waiting)
    (a : Prints content room IsTold old new before after waiting) → waiting.bytes ≡ [] → waiting.cut ≡ false → IsPrinted before after (texts_of a.settled.went) true
whole content room IsTold old new before after waiting a none uncut =
    let front : texts_of a.settled.went ≡ a.gone ++ waiting.bytes =
    subst (λ c. IsFront c (texts_of a.settled.went) (a.gone ++ waiting.bytes)) uncut a.front in (
      subst (Appends before.written after.written) (sym (front ∙ ap (λ b. a.gone ++ b) none ∙ append-nil a.gone)) a.written,
      subst (λ c. IsCause c before after (texts_of a.settled.went)) uncut a.cause,
    )

part : {H C S : Type 0} (content : H → C) (room : H → Room S) (IsTold : Telling C) (old new : Serving H) (before after : Printing) (waiting : Waiting)
    (a : Prints content room IsTold old new before after waiting) → waiting.bytes ≡ [] → waiting.cut ≡ true → IsCut (texts_of a.settled.went) before after
part content room IsTold old new before after waiting a none cut =
    let front : IsFront true (texts_of a.settled.went) (a.gone ++ waiting.bytes) =
    subst (λ c. IsFront c (texts_of a.settled.went) (a.gone ++ waiting.bytes)) cut a.front in (
      (a.gone, front.0, front.1 ∙ ap (λ g. g ++ front.0) (ap (λ b. a.gone ++ b) none ∙ append-nil a.gone), a.written),
      subst (λ c. IsCause c before after (texts_of a.settled.went)) cut a.cause,
    )

-- what was left out stays so
cut_stays : (mid after : Printing) (waiting later : Waiting) → Passes mid after waiting later → later.cut ≡ false → waiting.cut ≡ false
cut_stays mid after waiting later a uncut = stays a.left where
  stays : IsLeft mid after a.rest waiting later → waiting.cut ≡ false
  stays (inl going) = sym (ap (λ (w : Waiting). w.cut) going.0) ∙ uncut
  stays (inr failed) = absurd (true≢false (sym (ap (λ (w : Waiting). w.cut) failed.0) ∙ uncut))

-- the status where no text was left out
own_status : {H : Type 0} (E : Type 0) (server : Serving H) (waiting : Waiting) (status : Status) → waiting.cut ≡ false → StopsSo {E = E} server waiting (Ok status)
    → EndsSo server status ⊎ (status ≡ NoMemory)
own_status E server waiting status uncut (inl ends) = inl ends
own_status E server waiting status uncut (inr (inl memory)) = inr memory
own_status E server waiting status uncut (inr (inr cut)) = absurd (true≢false (sym cut ∙ uncut))

serves_whole : {H C S E : Type 0} (content : H → C) (room : H → Room S) (IsTold : Telling C) (old new : Serving H) (before after : Printing) (waiting : Waiting) (stopped : Result Status E)
    (settled : Settled content room IsTold old new) → IsPrinted before after (texts_of settled.went) true → waiting.cut ≡ false → StopsSo new waiting stopped
    → ServesAll content room IsTold old new before after stopped
serves_whole {E = E} content room IsTold old new before after waiting (Ok status) settled printed uncut stops =
    (settled, inl (printed, own_status E new waiting status uncut stops))
serves_whole content room IsTold old new before after waiting (Err error) settled printed uncut stops = (settled, printed)

serves_by : {H C S E : Type 0} (content : H → C) (room : H → Room S) (IsTold : Telling C) (old new : Serving H) (before mid after : Printing) (waiting later : Waiting) (stopped result : Result Status E)
    (cut : Bool) → later.cut ≡ cut → Prints content room IsTold old new before after later → StopsSo new waiting stopped → Passes mid after waiting later → later.bytes ≡ []
    → (later.cut ≡ true → result ≡ Ok HasEnded) → (later.cut ≡ false → result ≡ stopped) → ServesAll content room IsTold old new before after result
serves_by content room IsTold old new before mid after waiting later stopped result true is a stops passes none failed same =
    subst (ServesAll content room IsTold old new before after) (sym (failed is))
    (a.settled, inr (part content room IsTold old new before after later a none is, refl))
serves_by content room IsTold old new before mid after waiting later stopped result false is a stops passes none failed same =
    subst (ServesAll content room IsTold old new before after) (sym (same is))
    (serves_whole content room IsTold old new before after waiting stopped a.settled (whole content room IsTold old new before after later a none is)
    (cut_stays mid after waiting later passes is) stops)

pub serves_all : {H C S E : Type 0} (content : H → C) (room : H → Room S) (IsTold : Telling C) (old new end : Serving H) (before mid after : Printing) (waiting later : Waiting) (stopped result : Result Status E)
    → Prints content room IsTold old new before mid waiting → StopsSo new waiting stopped → Passes mid after waiting later → later.bytes ≡ [] → end ≡ new
    → (later.cut ≡ true → result ≡ Ok HasEnded) → (later.cut ≡ false → result ≡ stopped) → ServesAll content room IsTold old end before after result
serves_all {H = H} content room IsTold old new end before mid after waiting later stopped result a stops passes none told failed same =
    subst (λ (s : Serving H). ServesAll content room IsTold old s before after result) (sym told)
    (serves_by content room IsTold old new before mid after waiting later stopped result later.cut refl
    (prints_passes content room IsTold old new before mid after waiting later a passes) stops passes none failed same)

-- ---- one write

kept_after : (old mid new : Option (List ℕ)) (text : List ℕ) → Appends old mid text → Keeps mid new → Appends old new text
kept_after None mid new text a kept = tt
kept_after (Some x) None new text a kept = absurd a
kept_after (Some x) (Some y) None text a kept = absurd kept
kept_after (Some x) (Some y) (Some z) text a kept = kept ∙ a

-- the first of what waits
first_of : (bytes front : List ℕ) (count : ℕ) → front ≡ take 4096 bytes → count ≤ length front → bytes ≡ take count front ++ drop count bytes
first_of bytes front count is few =
    let same : take count front ≡ take count bytes =
    ap (take count) is ∙ take-take count 4096 bytes (omega (arith, subst (λ f. count ≤ length f) is few, length-take 4096 bytes)) in
    sym (ap (λ t. t ++ drop count bytes) same ∙ take-append-drop count bytes)

pub passes_some : (before mid after : Printing) (old new : Waiting) (front : List ℕ) (count : ℕ) → front ≡ take 4096 old.bytes
    → Puts before.written mid.written front (Some count) → mid.failures ≡ before.failures → Keeps mid.written after.written → after.failures ≡ mid.failures
    → new ≡ record old { bytes = drop count old.bytes } → Passes before after old new
passes_some before mid after old new front count is put fine kept still left = record {
  gone = take count front;
  rest = drop count old.bytes;
  waited = first_of old.bytes front count is put.1;
  written = kept_after before.written mid.written after.written (take count front) put.2 kept;
  left = inl (left, still ∙ fine);
}

pub passes_failed : (before mid after : Printing) (old new : Waiting) (front : List ℕ) (count : ℕ) → front ≡ take 4096 old.bytes
    → Puts before.written mid.written front (Some count) → mid.failures ≡ before.failures → Keeps mid.written after.written → HasFailed mid.failures after.failures
    → new ≡ record { bytes = []; cut = true } → Passes before after old new
passes_failed before mid after old new front count is put fine kept failed left = record {
  gone = take count front;
  rest = drop count old.bytes;
  waited = first_of old.bytes front count is put.1;
  written = kept_after before.written mid.written after.written (take count front) put.2 kept;
  left = inr (left, subst (λ (f : ℕ). HasFailed f after.failures) fine failed);
}

-- ---- a turn

pub prints_first : {H C S : Type 0} (content : H → C) (room : H → Room S) (IsTold : Telling C) (old new : Serving H) (at : Printing) (waiting : Waiting) → waiting ≡ nothing_waits → KeepsServing content room old new
    → Prints content room IsTold old new at at waiting
prints_first content room IsTold old new at waiting none same =
    prints_kept content room IsTold old old new at at waiting (prints_none content room IsTold old at waiting none) same

-- the server waits, goes on, says what it has to, and prints
pub prints_turn : {H C S : Type 0} (content : H → C) (room : H → Room S) (IsTold : Telling C) (old held woken gone told new : Serving H) (before mid after : Printing) (waiting more later : Waiting)
    → Prints content room IsTold old held before mid waiting → KeepsServing content room held woken → Goes content room IsTold woken gone waiting more → KeepsServing content room gone told
    → KeepsServing content room told new → Passes mid after more later → Prints content room IsTold old new before after later
prints_turn content room IsTold old held woken gone told new before mid after waiting more later a waits goes tells prints passes =
    prints_kept content room IsTold old gone new before after later
    (prints_passes content room IsTold old gone before mid after more later
    (prints_goes content room IsTold old woken gone before mid waiting more (prints_kept content room IsTold old held woken before mid waiting a waits) goes) passes)
    (keeps_then content room gone told new tells prints)
