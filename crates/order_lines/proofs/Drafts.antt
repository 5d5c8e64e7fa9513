-- What is written order by order is what is written of the whole record.
use Rattle.std.proofs.Common.{◌≡◌, ◌<◌, ◌≤◌, ℕ, zero, suc, ◌+◌, true, ltb, List, [], ◌∷◌, ◌++◌, length, length-append, append-nil, append_assoc, flat_map, Option, Some, None, Result, Ok, Err, refl, sym, ap, ◌∙◌, arith}
use Rattle.std.specs.Prelude.{is_none, nat_lt, ◌&&◌, if◌then◌else◌}
use Rattle.std.proofs.lemmas.Bool.{lt-ltb}
use Rattle.std.proofs.lemmas.List.{get_or_append_left}
use Rattle.std.proofs.lemmas.List.Concat.{flat_map-append}
use Rattle.ds_codec.specs.declared.size.Mode.{Mode}
use Rattle.ds_codec.specs.declared.command.Command.{Command}
use Rattle.ds_codec.specs.declared.write.Unwritable.{Unwritable}
use Rattle.ds_codec.specs.declared.write.Unwritable.TheVariants.{NotAllowed}
use Rattle.ds_codec.specs.Command.{command_code_of, wcc_of, written_code}
use Rattle.ds_codec.specs.Order.{Item, insert_cursor}
use Rattle.ds_codec.specs.Reading.{◌>>=◌}
use Rattle.ds_codec.specs.Record.{is_text_order}
use Rattle.ds_codec.specs.Writing.{item_at, follows_text, flaw_of, flaw_at, written_order, written_rest, written_record}
use Rattle.order_lines.specs.Draft.{Draft, flaw_or, first_flaw, unwritable_of, bytes_or, written_of, Part, part_unless, Partial, begun, with_order, bytes_in, with_orders, OrdersAreWrittenInTurn}

-- no order before this one has a flaw
pub none_before : (cells : ℕ) (orders : List Item) (n : ℕ) → ((j : ℕ) → j < n → flaw_at cells orders j ≡ None) → first_flaw cells orders n ≡ None
none_before cells orders zero none = refl
none_before cells orders (suc n) none =
    let early : first_flaw cells orders n ≡ None = none_before cells orders n (λ j lt. none j (omega arith)) in
    let last : flaw_at cells orders n ≡ None = none n (omega arith) in
    rw (early, last) refl

-- ---- one order more

same_item : (orders : List Item) (it : Item) (k : ℕ) → k < length orders → item_at (orders ++ it ∷ []) k ≡ item_at orders k
same_item orders it k inside = get_or_append_left orders (it ∷ []) insert_cursor k inside

last_item : (orders : List Item) (it : Item) → item_at (orders ++ it ∷ []) (length orders) ≡ it
last_item [] it = refl
last_item (first ∷ orders) it = last_item orders it

same_text : (orders : List Item) (it : Item) (k : ℕ) → k ≤ length orders → follows_text (orders ++ it ∷ []) k ≡ follows_text orders k
same_text orders it zero inside = refl
same_text orders it (suc k) inside = ap is_text_order (same_item orders it k (omega (arith, inside)))

same_flaws : (cells : ℕ) (orders : List Item) (it : Item) (n : ℕ) → n ≤ length orders → first_flaw cells (orders ++ it ∷ []) n ≡ first_flaw cells orders n
same_flaws cells orders it zero inside = refl
same_flaws cells orders it (suc n) inside =
    let early = same_flaws cells orders it n (omega (arith, inside)) in
    let text = same_text orders it n (omega (arith, inside)) in
    let item = same_item orders it n (omega (arith, inside)) in
    rw (early, text, item) refl

-- why the orders of a command with this write control character cannot be written
abbrev refusal : ℕ → Option ℕ → List Item → Option Unwritable
refusal cells wcc orders = if is_none wcc && nat_lt 0 (length orders) then Some NotAllowed else first_flaw cells orders (length orders)

abbrev part_of : Mode → ℕ → ℕ → Option ℕ → List Item → Part
part_of mode cells code wcc orders =
    record { bytes = code ∷ written_rest mode cells wcc orders; count = length orders; after_text = follows_text orders (length orders) }

abbrev next_part : Mode → ℕ → Option ℕ → Item → Part → Result Part Unwritable
next_part mode cells wcc it part =
    if is_none wcc then Err NotAllowed
    else part_unless (flaw_of cells part.after_text it part.count)
    (record { bytes = part.bytes ++ written_order mode cells it; count = part.count + 1; after_text = is_text_order it })

after_flaws : (early here : Option Unwritable) (part next : Part) (more : Part → Result Part Unwritable) → more part ≡ part_unless here next
    → (part_unless early part >>= more) ≡ part_unless (flaw_or early here) next
after_flaws None here part next more is = is
after_flaws (Some flaw) here part next more is = refl

one_more : (mode : Mode) (cells code : ℕ) (wcc : Option ℕ) (orders : List Item) (it : Item)
    → (part_unless (refusal cells wcc orders) (part_of mode cells code wcc orders) >>= next_part mode cells wcc it)
    ≡ part_unless (refusal cells wcc (orders ++ it ∷ [])) (part_of mode cells code wcc (orders ++ it ∷ []))
one_more mode cells code None [] it = refl
one_more mode cells code None (first ∷ orders) it =
    let before : ltb 0 (length (first ∷ orders)) ≡ true = lt-ltb 0 _ (omega arith) in
    let after : ltb 0 (length ((first ∷ orders) ++ it ∷ [])) ≡ true = lt-ltb 0 _ (omega arith) in
    rw (before, after) refl
one_more mode cells code (Some wcc) orders it =
    let all = orders ++ it ∷ [] in
    let n = length orders in
    let long : length all ≡ suc n = omega (arith, length-append orders (it ∷ [])) in
    let count : suc n ≡ n + 1 = omega arith in
    let early : first_flaw cells all n ≡ first_flaw cells orders n = same_flaws cells orders it n (omega arith) in
    let text : follows_text all n ≡ follows_text orders n = same_text orders it n (omega arith) in
    let item : item_at all n ≡ it = last_item orders it in
    let f = written_order mode cells in
    let bytes : flat_map f all ≡ flat_map f orders ++ f it = flat_map-append f orders (it ∷ []) ∙ ap (λ more. flat_map f orders ++ more) (append-nil (f it)) in
    let next : Part = record { bytes = code ∷ wcc ∷ (flat_map f orders ++ f it); count = n + 1; after_text = is_text_order it } in
    let due = after_flaws (first_flaw cells orders n) (flaw_of cells (follows_text orders n) it n) (part_of mode cells code (Some wcc) orders) next (next_part mode cells (Some wcc) it) refl in
    rw (long, early, text, item, bytes, count) due

-- ---- a record of which orders came

abbrev pub partial_of : Mode → ℕ → Draft → Partial
partial_of mode cells draft =
    record {
      command = draft.command;
      mode = mode;
      cells = cells;
      part = part_unless (unwritable_of cells draft)
          (record { bytes = written_record mode cells draft.command draft.orders; count = length draft.orders; after_text = follows_text draft.orders (length draft.orders) });
    }

abbrev with_part_of : Mode → ℕ → Command → Result Part Unwritable → Partial
with_part_of mode cells command part = record { command = command; mode = mode; cells = cells; part = part }

no_refusal : (cells : ℕ) (wcc : Option ℕ) → refusal cells wcc [] ≡ None
no_refusal cells None = refl
no_refusal cells (Some wcc) = refl

pub begun_is : (mode : Mode) (cells : ℕ) (command : Command) → begun mode cells command ≡ partial_of mode cells (record { command = command; orders = [] })
begun_is mode cells command = rw (no_refusal cells (wcc_of command)) refl

pub with_order_is : (mode : Mode) (cells : ℕ) (draft : Draft) (it : Item)
    → with_order (partial_of mode cells draft) it ≡ partial_of mode cells (record draft { orders = draft.orders ++ it ∷ [] })
with_order_is mode cells draft it =
    ap (with_part_of mode cells draft.command) (one_more mode cells (written_code (command_code_of draft.command)) (wcc_of draft.command) draft.orders it)

bytes_or_flaw : (flaw : Option Unwritable) (part : Part) → (part_unless flaw part >>= λ part. Ok part.bytes) ≡ bytes_or flaw part.bytes
bytes_or_flaw None part = refl
bytes_or_flaw (Some flaw) part = refl

pub bytes_in_is : (mode : Mode) (cells : ℕ) (draft : Draft) → bytes_in (partial_of mode cells draft) ≡ written_of mode cells draft
bytes_in_is mode cells draft = bytes_or_flaw (unwritable_of cells draft) _

with_orders_is : (mode : Mode) (cells : ℕ) (command : Command) (before orders : List Item)
    → with_orders (partial_of mode cells (record { command = command; orders = before })) orders
    ≡ partial_of mode cells (record { command = command; orders = before ++ orders })
with_orders_is mode cells command before [] = ap (λ (orders : List Item). partial_of mode cells (record { command = command; orders = orders })) (sym (append-nil before))
with_orders_is mode cells command before (it ∷ orders) =
    ap (λ (partial : Partial). with_orders partial orders) (with_order_is mode cells (record { command = command; orders = before }) it)
    ∙ with_orders_is mode cells command (before ++ it ∷ []) orders
    ∙ ap (λ (all : List Item). partial_of mode cells (record { command = command; orders = all })) (append_assoc before (it ∷ []) orders)

pub written_in_turn : OrdersAreWrittenInTurn
written_in_turn mode cells command orders =
    ap (λ (partial : Partial). bytes_in (with_orders partial orders)) (begun_is mode cells command)
    ∙ ap bytes_in (with_orders_is mode cells command [] orders)
    ∙ bytes_in_is mode cells (record { command = command; orders = orders })
