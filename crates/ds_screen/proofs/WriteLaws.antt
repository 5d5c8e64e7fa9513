-- What orders write, one order after the other.
use Rattle.std.specs.Prelude.{All}
use Rattle.std.proofs.Common.{◌≡◌, List, [], ◌∷◌, ◌++◌, replicate, Some, None, refl, sym, ◌∙◌, ap, subst, append_assoc, append-nil, ℕ, ◌+◌, ◌-◌, ◌<◌, ◌≤◌, ◌⊎◌, min, eqb, length, Option, inl, inr, arith}
use Rattle.std.proofs.lemmas.Bool.{cond_both}
use Rattle.std.proofs.Math.Nat.{le-max_left, le-max_right, min-le_right}
use Rattle.std.proofs.lemmas.List.Elements.{All-nil, All-cons, All-append, All-weaker}
use Rattle.ds_codec.specs.declared.command.Command.{Command}
use Rattle.ds_codec.specs.declared.command.Command.TheVariants as commands
use Rattle.ds_codec.specs.Geometry.{cells_of}
use Rattle.ds_codec.specs.Order.{Item, Site, text, start_field, start_field_extended, set_buffer_address, set_attribute, modify_field, insert_cursor, program_tab, repeat_to_address, erase_unprotected_to_address, graphic_escape}
use Rattle.ds_codec.specs.Record.{Message}
use Rattle.ds_codec.specs.declared.cell.Cell.{Cell}
use Rattle.ds_screen.specs.declared.refused.Why.{Why}
use Rattle.ds_screen.specs.declared.records.Base.{Base}
use Rattle.ds_screen.specs.declared.writes.Write.{Write}
use Rattle.ds_screen.specs.Ring.{ring_distance}
use Rattle.ds_screen.specs.Picture.{Picture, IsSound, blank}
use Rattle.ds_screen.specs.Orders.{Writing, effect_of, fault_of, OrderActs}
use Rattle.ds_screen.specs.Records.{begun, erased}
use Rattle.ds_screen.specs.State.{HaveCharacters}
use Rattle.ds_screen.specs.Kept.{Start, start_of}
use Rattle.ds_screen.specs.Prepared.{start_from}
use Rattle.ds_screen.specs.Outline.{Outlined, IsOutlineOf}
use Rattle.ds_screen.specs.Writes.{repeated_count, stored_count, piece, pieces, writes_at, written_on, most_positions, unless_at_fault, order_writes, record_writes}
use Rattle.ds_screen.proofs.RingLaws.{distance_cases}
use Rattle.ds_screen.proofs.EffectLaws.{good_inside}
use Rattle.ds_screen.proofs.ShowLaws.{same_start}
use Rattle.ds_screen.proofs.SoundLaws.{IsWorkable, effect_works, begun_works, erased_sound}
use Rattle.ds_screen.proofs.OutlineLaws.{begins_same}

-- an order that acts leaves the rest to write
pub writes_on : (site : Site) (sites : List Site) (before after : Writing) (done more : List Write) → OrderActs site.order before after
    → more ≡ done ++ writes_at site (length before.cells) before.address → more ++ order_writes sites after ≡ done ++ order_writes (site ∷ sites) before
unfolding order_writes
writes_on site sites before after done more (good, is) adds =
    ap (λ l. l ++ order_writes sites after) adds ∙ append_assoc done (writes_at site (length before.cells) before.address) (order_writes sites after)
    ∙ ap (λ w. done ++ (writes_at site (length before.cells) before.address ++ order_writes sites w)) is
    ∙ sym (ap (λ f. done ++ unless_at_fault f (writes_at site (length before.cells) before.address ++ order_writes sites (effect_of site.order before))) good)

-- one that is at fault ends it
pub writes_stop : (site : Site) (sites : List Site) (before : Writing) (why : Why) (done : List Write) → fault_of site.order before ≡ Some why
    → done ++ order_writes (site ∷ sites) before ≡ done
unfolding order_writes
writes_stop site sites before why done bad =
    ap (λ f. done ++ unless_at_fault f (writes_at site (length before.cells) before.address ++ order_writes sites (effect_of site.order before))) bad ∙ append-nil done

pub writes_end : (w : Writing) (done : List Write) → done ++ order_writes [] w ≡ done
unfolding order_writes
writes_end w done = append-nil done

-- ---- a record, by what it begins with
abbrev Begins : Picture → Command → List Site → Start → Type 0
Begins v command orders start = record_writes v command orders ≡ order_writes orders (begun start.wcc start.cells start.cursor)

begins : (v : Picture) (command : Command) (orders : List Site) (start : Start) → start_of v.geometry v.size v.cells v.cursor command ≡ Some start → Begins v command orders start
unfolding record_writes
begins v (commands.Write wcc) orders start is = subst (Begins v (commands.Write wcc) orders) (same_start (record { wcc = wcc; size = v.size; cells = v.cells; cursor = v.cursor }) start is) refl
begins v (commands.EraseWrite wcc) orders start is =
    subst (Begins v (commands.EraseWrite wcc) orders) (same_start (record { wcc = wcc; size = v.geometry.default; cells = replicate (cells_of v.geometry.default) blank; cursor = 0 }) start is) refl
begins v (commands.EraseWriteAlternate wcc) orders start is =
    subst (Begins v (commands.EraseWriteAlternate wcc) orders) (same_start (record { wcc = wcc; size = v.geometry.alternate; cells = replicate (cells_of v.geometry.alternate) blank; cursor = 0 }) start is) refl
begins v commands.EraseAllUnprotected orders start is = absurd cc
begins v commands.ReadBuffer orders start is = absurd cc
begins v commands.ReadModified orders start is = absurd cc
begins v commands.ReadModifiedAll orders start is = absurd cc
begins v commands.NoOperation orders start is = absurd cc

none : (v : Picture) (command : Command) (orders : List Site) → start_of v.geometry v.size v.cells v.cursor command ≡ None → record_writes v command orders ≡ []
unfolding record_writes
none v (commands.Write wcc) orders is = absurd cc
none v (commands.EraseWrite wcc) orders is = absurd cc
none v (commands.EraseWriteAlternate wcc) orders is = absurd cc
none v commands.EraseAllUnprotected orders is = refl
none v commands.ReadBuffer orders is = refl
none v commands.ReadModified orders is = refl
none v commands.ReadModifiedAll orders is = refl
none v commands.NoOperation orders is = refl

pub outline_writes : (o : Outlined) (v : Picture) (message : Message) (command : Command) (base : Base) (later : List Cell) → IsOutlineOf o v → command ≡ message.command
    → start_of o.geometry o.size v.cells o.cursor command ≡ Some (start_from base later)
    → record_writes v message.command message.orders ≡ order_writes message.orders (begun base.wcc later base.cursor)
outline_writes o v message command base later is told starts =
    ap (λ c. record_writes v c message.orders) (sym told)
    ∙ begins v command message.orders (start_from base later) (begins_same o v command (Some (start_from base later)) is starts)

pub outline_writes_none : (o : Outlined) (v : Picture) (message : Message) (command : Command) → IsOutlineOf o v → command ≡ message.command
    → start_of o.geometry o.size v.cells o.cursor command ≡ None → record_writes v message.command message.orders ≡ []
outline_writes_none o v message command is told starts =
    ap (λ c. record_writes v c message.orders) (sym told) ∙ none v command message.orders (begins_same o v command None is starts)

-- ---- where they are written
abbrev pub AreInside : ℕ → List Write → Type 0
AreInside n writes = All (λ (write : Write). write.place + write.count ≤ n) writes

none_inside : (n : ℕ) → AreInside n []
none_inside n = All-nil (λ (write : Write). write.place + write.count ≤ n)

one_inside : (n : ℕ) (write : Write) → write.place + write.count ≤ n → AreInside n (write ∷ [])
one_inside n write le = All-cons (λ (other : Write). other.place + other.count ≤ n) write [] le (none_inside n)

piece_inside : (n place count at : ℕ) → place + count ≤ n → AreInside n (piece place count at)
piece_inside n place count at le =
    let write : Write = record { place = place; count = count; at = at } in
    cond_both (eqb count 0) [] (write ∷ []) (AreInside n) (λ is. none_inside n) (λ is. one_inside n write le)

pieces_inside : (n b count at : ℕ) → b < n → count ≤ n → AreInside n (pieces n b count at)
pieces_inside n b count at inside few =
    All-append (λ (write : Write). write.place + write.count ≤ n) (piece b (min count (n - b)) at) (piece 0 (count - (n - b)) at)
    (piece_inside n b (min count (n - b)) at (omega (arith, min-le_right count (n - b))))
    (piece_inside n 0 (count - (n - b)) at (omega arith))

repeated_fits : (n b stop : ℕ) → b < n → stop < n → repeated_count n b stop ≤ n
repeated_fits n b stop inside stop_inside =
    cond_both (eqb b stop) n (ring_distance n b stop) (λ count. count ≤ n) (λ is. omega arith)
    (λ is. elim (distance_cases n b stop) [ inl c ↦ omega arith | inr c ↦ omega arith ])

-- an order stores into no position twice
count_fits : (order : Item) (w : Writing) → w.address < length w.cells → fault_of order w ≡ None → stored_count (length w.cells) w.address order ≤ length w.cells
unfolding fault_of
count_fits (text run) w inside fits = min-le_right (length run) (length w.cells)
count_fits (start_field attribute) w inside fits = omega (arith, inside)
count_fits (start_field_extended pairs) w inside fits = omega (arith, inside)
count_fits (set_buffer_address address) w inside fits = omega arith
count_fits (set_attribute kind value) w inside fits = omega arith
count_fits (modify_field pairs) w inside fits = omega (arith, inside)
count_fits insert_cursor w inside fits = omega arith
count_fits program_tab w inside fits = omega arith
count_fits (repeat_to_address stop character) w inside fits = repeated_fits (length w.cells) w.address stop inside (good_inside (length w.cells) stop fits)
count_fits (erase_unprotected_to_address stop) w inside fits = omega arith
count_fits (graphic_escape code) w inside fits = omega (arith, inside)

order_inside : (n : ℕ) (site : Site) (w : Writing) → fault_of site.order w ≡ None → IsWorkable n w → AreInside n (writes_at site (length w.cells) w.address)
order_inside n site w fits good =
    let inside : w.address < length w.cells = omega (arith, good.address, good.whole) in
    subst (λ m. AreInside m (writes_at site (length w.cells) w.address)) good.whole
    (pieces_inside (length w.cells) w.address (stored_count (length w.cells) w.address site.order) site.at inside (count_fits site.order w inside fits))

unless_inside : (n : ℕ) (f : Option Why) (writes : List Write) → (f ≡ None → AreInside n writes) → AreInside n (unless_at_fault f writes)
unless_inside n None writes so = so refl
unless_inside n (Some why) writes so = none_inside n

orders_inside : (n : ℕ) (sites : List Site) (w : Writing) → HaveCharacters sites → IsWorkable n w → AreInside n (order_writes sites w)
unfolding order_writes
orders_inside n [] w real good = none_inside n
orders_inside n (site ∷ sites) w real good =
    let others : List Write = order_writes sites (effect_of site.order w) in
    let here : List Write = writes_at site (length w.cells) w.address in
    unless_inside n (fault_of site.order w) (here ++ others) (λ fits.
    All-append (λ (write : Write). write.place + write.count ≤ n) here others (order_inside n site w fits good)
    (orders_inside n sites (effect_of site.order w) real.1 (effect_works n site.order w real.0 fits good)))

more_inside : (n m : ℕ) (writes : List Write) → n ≤ m → AreInside n writes → AreInside m writes
more_inside n m writes le inside = All-weaker (λ (write : Write). write.place + write.count ≤ n) (λ (write : Write). write.place + write.count ≤ m) (λ write small. omega arith) writes inside

size_fits : (v : Picture) → (v.size ≡ v.geometry.default) ⊎ (v.size ≡ v.geometry.alternate) → cells_of v.size ≤ most_positions v.geometry
size_fits v (inl same) = subst (λ n. n ≤ most_positions v.geometry) (ap cells_of (sym same)) (le-max_left (cells_of v.geometry.default) (cells_of v.geometry.alternate))
size_fits v (inr same) = subst (λ n. n ≤ most_positions v.geometry) (ap cells_of (sym same)) (le-max_right (cells_of v.geometry.default) (cells_of v.geometry.alternate))

written_inside : (wcc : ℕ) (orders : List Site) (v : Picture) → HaveCharacters orders → IsSound v → AreInside (most_positions v.geometry) (written_on wcc orders v)
written_inside wcc orders v real sound =
    more_inside (cells_of v.size) (most_positions v.geometry) (written_on wcc orders v) (size_fits v sound.one_of_two)
    (orders_inside (cells_of v.size) orders (begun wcc v.cells v.cursor) real (begun_works wcc v sound))

pub record_inside : (v : Picture) (command : Command) (orders : List Site) → HaveCharacters orders → IsSound v → AreInside (most_positions v.geometry) (record_writes v command orders)
unfolding record_writes
record_inside v (commands.Write wcc) orders real sound = written_inside wcc orders v real sound
record_inside v (commands.EraseWrite wcc) orders real sound =
    written_inside wcc orders (erased v.geometry.default v) real (erased_sound v.geometry.default v sound (inl refl) sound.default_good)
record_inside v (commands.EraseWriteAlternate wcc) orders real sound =
    written_inside wcc orders (erased v.geometry.alternate v) real (erased_sound v.geometry.alternate v sound (inr refl) sound.alternate_good)
record_inside v commands.EraseAllUnprotected orders real sound = none_inside (most_positions v.geometry)
record_inside v commands.ReadBuffer orders real sound = none_inside (most_positions v.geometry)
record_inside v commands.ReadModified orders real sound = none_inside (most_positions v.geometry)
record_inside v commands.ReadModifiedAll orders real sound = none_inside (most_positions v.geometry)
record_inside v commands.NoOperation orders real sound = none_inside (most_positions v.geometry)

pub nothing_inside : (n : ℕ) (writes : List Write) → writes ≡ [] → AreInside n writes
nothing_inside n writes is = subst (AreInside n) (sym is) (none_inside n)
