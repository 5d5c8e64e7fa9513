-- What orders and records make of cells like others, with fewer modified data tags.
use Rattle.std.proofs.Common.{◌≡◌, ℕ, ◌+◌, ◌%◌, ◌&&◌, Bool, true, false, cond, eqb, ltb, leb, List, [], ◌∷◌, length, replicate, Option, Some, None, Result, Ok, Err, refl, ◌∙◌, ap, subst}
use Rattle.std.specs.Option.{unwrap_or}
use Rattle.ds_codec.specs.declared.cell.Cell.{Cell}
use Rattle.ds_codec.specs.declared.cell.Cell.TheVariants.{Field, Char}
use Rattle.ds_codec.specs.declared.size.Size.{Size}
use Rattle.ds_codec.specs.declared.command.Command.{Command}
use Rattle.ds_codec.specs.declared.command.Command.TheVariants.{Write, EraseWrite, EraseWriteAlternate, EraseAllUnprotected, ReadBuffer, ReadModified, ReadModifiedAll, NoOperation}
use Rattle.ds_codec.specs.Character.{Glyph, glyph}
use Rattle.ds_codec.specs.Geometry.{cells_of}
use Rattle.ds_codec.specs.Order.{Item, text, start_field, start_field_extended, set_buffer_address, set_attribute, modify_field, insert_cursor, program_tab, repeat_to_address, erase_unprotected_to_address, graphic_escape, last_attribute, Site}
use Rattle.ds_screen.specs.declared.lock.Lock.TheVariants.{Free}
use Rattle.ds_screen.specs.declared.refused.Why.{Why}
use Rattle.ds_screen.specs.declared.refused.Why.TheVariants.{NoFieldHere}
use Rattle.ds_screen.specs.declared.refused.Refused.{Refused}
use Rattle.ds_screen.specs.Ring.{ring_on, greatest}
use Rattle.ds_screen.specs.Picture.{Picture, blank, cell_at, ruled}
use Rattle.ds_screen.specs.Fields.{is_attribute, bits_of, is_open}
use Rattle.ds_screen.specs.Orders.{Writing, byte_cell, text_cell, single_cell, is_reached, repeated_cell, erased_cell, nulled_cell, first_from, is_unprotected_attribute, behind, tab_stop, tabbed, after_storing, effect_of, outside_of, fault_of}
use Rattle.ds_codec.specs.WriteControl.{resets_modified_tags, restores_keyboard}
use Rattle.ds_screen.specs.Records.{unmodified, erased, begun, finished, unless, acts, finishes, written, cleared_cell, all_cleared, shown_of}
use Rattle.scr_check.specs.Walk.{start_at_cursor, depends_on_cursor}
use Rattle.scr_check.proofs.LeadLaws.{ok_is}
use Rattle.scr_check.proofs.UnderCells.{CellUnder, cell_same, under_kind, under_bits, under_unmodified, under_cleared, under_cond, AreUnder, all_same, rules_under, same_first_attribute, same_first_free, same_open}

-- ---- rules, order by order
byte_under : (a b : List Cell) (run : List ℕ) (p : ℕ) (o : Option ℕ) → AreUnder a b → CellUnder (byte_cell a run p o) (byte_cell b run p o)
byte_under a b run p None u = u.each p
byte_under a b run p (Some i) u = tt

text_under : (a b : List Cell) (at : ℕ) (run : List ℕ) (p : ℕ) → AreUnder a b → CellUnder (text_cell a at run p) (text_cell b at run p)
unfolding text_cell
text_under a b at run p u =
    let same : greatest (length run) (λ i. eqb ((at + i) % length a) p) ≡ greatest (length run) (λ i. eqb ((at + i) % length b) p) =
    ap (λ n. greatest (length run) (λ i. eqb ((at + i) % n) p)) u.whole in
    subst (λ o. CellUnder (text_cell a at run p) (byte_cell b run p o)) same (byte_under a b run p (greatest (length run) (λ i. eqb ((at + i) % length a) p)) u)

single_under : (a b : List Cell) (at : ℕ) (x y : Cell) (p : ℕ) → AreUnder a b → CellUnder x y → CellUnder (single_cell a at x p) (single_cell b at y p)
unfolding single_cell
single_under a b at x y p u v = under_cond (eqb p at) (eqb p at) x y (cell_at a p) (cell_at b p) refl v (u.each p)

repeated_under : (a b : List Cell) (at stop : ℕ) (character : Glyph) (p : ℕ) → AreUnder a b → CellUnder (repeated_cell a at stop character p) (repeated_cell b at stop character p)
unfolding repeated_cell
repeated_under a b at stop character p u =
    under_cond (is_reached (length a) at stop p) (is_reached (length b) at stop p) (Char character) (Char character) (cell_at a p) (cell_at b p)
    (ap (λ n. is_reached n at stop p) u.whole) tt (u.each p)

erased_under : (a b : List Cell) (at stop p : ℕ) → AreUnder a b → CellUnder (erased_cell a at stop p) (erased_cell b at stop p)
unfolding erased_cell
erased_under a b at stop p u =
    under_cond (is_reached (length a) at stop p && is_open a p) (is_reached (length b) at stop p && is_open b p) blank blank (cell_at a p) (cell_at b p)
    (ap (λ n. is_reached n at stop p && is_open a p) u.whole ∙ ap (λ t. is_reached (length b) at stop p && t) (same_open a b p u)) tt (u.each p)

nulled_under : (a b : List Cell) (at stop p : ℕ) → AreUnder a b → CellUnder (nulled_cell a at stop p) (nulled_cell b at stop p)
unfolding nulled_cell
nulled_under a b at stop p u = under_cond (leb at p && ltb p stop) (leb at p && ltb p stop) blank blank (cell_at a p) (cell_at b p) refl tt (u.each p)

cleared_under : (a b : List Cell) (p : ℕ) → AreUnder a b → CellUnder (cleared_cell a p) (cleared_cell b p)
unfolding cleared_cell
cleared_under a b p u = under_cond (is_open a p) (is_open b p) blank blank _ _ (same_open a b p u) tt (under_cleared (cell_at a p) (cell_at b p) (u.each p))

pub all_cleared_under : (a b : List Cell) → AreUnder a b → AreUnder (ruled (length a) (cleared_cell a)) (ruled (length b) (cleared_cell b))
all_cleared_under a b u = rules_under (length a) (length b) (cleared_cell a) (cleared_cell b) u.whole (λ p. cleared_under a b p u)

-- ---- what orders work on
pub record WritesUnder (a b : Writing) : Type 0 where
  pub cells : AreUnder a.cells b.cells
  pub address : a.address ≡ b.address
  pub nulling : a.nulling ≡ b.nulling

abbrev at_same : Writing → Writing → Writing
at_same a b = record b { address = a.address; nulling = a.nulling }

same_at : (a b : Writing) → WritesUnder a b → at_same a b ≡ b
same_at a b u =
    ap (λ (z : ℕ). let w : Writing = record b { address = z; nulling = a.nulling } in w) u.address
    ∙ ap (λ (t : Bool). let w : Writing = record b { nulling = t } in w) u.nulling

stored_under : (a b : Writing) (x y : Cell) (t : Bool) → AreUnder a.cells b.cells → CellUnder x y → WritesUnder (after_storing a x t) (after_storing (at_same a b) y t)
stored_under a b x y t u v =
    record {
      cells = rules_under (length a.cells) (length b.cells) (single_cell a.cells a.address x) (single_cell b.cells a.address y) u.whole (λ p. single_under a.cells b.cells a.address x y p u v);
      address = ap (λ n. ring_on n a.address 1) u.whole;
      nulling = refl;
    }

stop_same : (a b : List Cell) (at : ℕ) → AreUnder a b → tab_stop a at ≡ tab_stop b at
stop_same a b at u =
    ap (λ n. behind n (first_from is_unprotected_attribute a at)) u.whole ∙ ap (behind (length b)) (same_first_free a b at u)

tabbed_under : (a b : Writing) (t : Bool) (o : Option ℕ) → AreUnder a.cells b.cells → WritesUnder (tabbed a t o) (tabbed (at_same a b) t o)
tabbed_under a b false o u = record { cells = u; address = stop_same a.cells b.cells a.address u; nulling = refl }
tabbed_under a b true (Some e) u =
    record {
      cells = rules_under (length a.cells) (length b.cells) (nulled_cell a.cells a.address e) (nulled_cell b.cells a.address e) u.whole (λ p. nulled_under a.cells b.cells a.address e p u);
      address = stop_same a.cells b.cells a.address u;
      nulling = refl;
    }
tabbed_under a b true None u =
    record {
      cells = subst (λ n. AreUnder (ruled (length a.cells) (nulled_cell a.cells a.address (length a.cells))) (ruled (length b.cells) (nulled_cell b.cells a.address n))) u.whole
          (rules_under (length a.cells) (length b.cells) (nulled_cell a.cells a.address (length a.cells)) (nulled_cell b.cells a.address (length a.cells)) u.whole
          (λ p. nulled_under a.cells b.cells a.address (length a.cells) p u));
      address = refl;
      nulling = refl;
    }

changed_under : (o : Option ℕ) (x y : Cell) → CellUnder x y → CellUnder (Field (unwrap_or o (bits_of x))) (Field (unwrap_or o (bits_of y)))
changed_under None x y u = under_bits x y u
changed_under (Some bits) x y u = cell_same (Field bits)

effect_at : (order : Item) (a b : Writing) → AreUnder a.cells b.cells → WritesUnder (effect_of order a) (effect_of order (at_same a b))
unfolding effect_of
effect_at (text run) a b u =
    record {
      cells = rules_under (length a.cells) (length b.cells) (text_cell a.cells a.address run) (text_cell b.cells a.address run) u.whole (λ p. text_under a.cells b.cells a.address run p u);
      address = ap (λ n. (a.address + length run) % n) u.whole;
      nulling = refl;
    }
effect_at (start_field attribute) a b u = stored_under a b (Field attribute) (Field attribute) false u (cell_same (Field attribute))
effect_at (start_field_extended pairs) a b u = stored_under a b _ _ false u (cell_same (Field (unwrap_or (last_attribute pairs) 0)))
effect_at (set_buffer_address address) a b u = record { cells = u; address = refl; nulling = refl }
effect_at (set_attribute kind value) a b u = record { cells = u; address = refl; nulling = refl }
effect_at (modify_field pairs) a b u =
    stored_under a b (Field (unwrap_or (last_attribute pairs) (bits_of (cell_at a.cells a.address)))) (Field (unwrap_or (last_attribute pairs) (bits_of (cell_at b.cells a.address)))) false u
    (changed_under (last_attribute pairs) (cell_at a.cells a.address) (cell_at b.cells a.address) (u.each a.address))
effect_at insert_cursor a b u = record { cells = u; address = refl; nulling = refl }
effect_at program_tab a b u =
    subst (λ o. WritesUnder (tabbed a a.nulling (first_from is_attribute a.cells a.address)) (tabbed (at_same a b) a.nulling o)) (same_first_attribute a.cells b.cells a.address u)
    (tabbed_under a b a.nulling (first_from is_attribute a.cells a.address) u)
effect_at (repeat_to_address stop character) a b u =
    record {
      cells = rules_under (length a.cells) (length b.cells) (repeated_cell a.cells a.address stop character) (repeated_cell b.cells a.address stop character) u.whole
          (λ p. repeated_under a.cells b.cells a.address stop character p u);
      address = refl;
      nulling = refl;
    }
effect_at (erase_unprotected_to_address stop) a b u =
    record {
      cells = rules_under (length a.cells) (length b.cells) (erased_cell a.cells a.address stop) (erased_cell b.cells a.address stop) u.whole (λ p. erased_under a.cells b.cells a.address stop p u);
      address = refl;
      nulling = refl;
    }
effect_at (graphic_escape code) a b u = stored_under a b (Char (glyph code true)) (Char (glyph code true)) true u tt

effect_under : (order : Item) (a b : Writing) → WritesUnder a b → WritesUnder (effect_of order a) (effect_of order b)
effect_under order a b u = subst (λ w. WritesUnder (effect_of order a) (effect_of order w)) (same_at a b u) (effect_at order a b u.cells)

-- an order is at fault for both
fault_at : (order : Item) (a b : Writing) → AreUnder a.cells b.cells → fault_of order a ≡ fault_of order (at_same a b)
unfolding fault_of
fault_at (set_buffer_address address) a b u = ap (λ n. outside_of n address) u.whole
fault_at (repeat_to_address stop character) a b u = ap (λ n. outside_of n stop) u.whole
fault_at (erase_unprotected_to_address stop) a b u = ap (λ n. outside_of n stop) u.whole
fault_at (modify_field pairs) a b u = ap (λ (t : Bool). cond t None (Some NoFieldHere)) (under_kind (cell_at a.cells a.address) (cell_at b.cells a.address) (u.each a.address))
fault_at (text run) a b u = refl
fault_at (start_field attribute) a b u = refl
fault_at (start_field_extended pairs) a b u = refl
fault_at (set_attribute kind value) a b u = refl
fault_at insert_cursor a b u = refl
fault_at program_tab a b u = refl
fault_at (graphic_escape code) a b u = refl

fault_under : (order : Item) (a b : Writing) → WritesUnder a b → fault_of order a ≡ fault_of order b
fault_under order a b u = fault_at order a b u.cells ∙ ap (fault_of order) (same_at a b u)

-- ---- orders in turn
unless_ok : {A : Type 0} (o : Option Why) (at : ℕ) (r : Result A Refused) (x : A) → unless o at r ≡ Ok x → (o ≡ None) × (r ≡ Ok x)
unless_ok None at r x is = (refl, is)
unless_ok (Some why) at r x is = absurd cc

unless_none : {A : Type 0} (o : Option Why) (at : ℕ) (r : Result A Refused) → o ≡ None → unless o at r ≡ r
unless_none None at r none = refl
unless_none (Some why) at r none = absurd cc

acts_under : (sites : List Site) (a b end : Writing) → WritesUnder a b → acts sites b ≡ Ok end → (w : Writing) × (acts sites a ≡ Ok w) × AreUnder w.cells end.cells
unfolding acts
acts_under [] a b end u is = (a, refl, subst (λ (w : Writing). AreUnder a.cells w.cells) (ok_is b end (Ok b) refl is) u.cells)
acts_under (site ∷ sites) a b end u is =
    let parts = unless_ok (fault_of site.order b) site.at (acts sites (effect_of site.order b)) end is in
    let rest = acts_under sites (effect_of site.order a) (effect_of site.order b) end (effect_under site.order a b u) parts.1 in
    (rest.0, unless_none (fault_of site.order a) site.at (acts sites (effect_of site.order a)) (fault_under site.order a b u ∙ parts.0) ∙ rest.1, rest.2)

-- orders that don't act where the cursor stands begin anywhere
abbrev BeginAnywhere : List Site → Type 0
BeginAnywhere sites =
    (a b end : Writing) → AreUnder a.cells b.cells → start_at_cursor sites ≡ false → acts sites b ≡ Ok end → (w : Writing) × (acts sites a ≡ Ok w) × AreUnder w.cells end.cells

abbrev site_at : ℕ → Item → Site
site_at at order = record { at = at; order = order }

begin_with : (at : ℕ) (order : Item) (sites : List Site) → BeginAnywhere sites → BeginAnywhere (site_at at order ∷ sites)
unfolding acts effect_of fault_of
begin_with at (set_attribute kind value) sites others a b end u free is =
    others (record a { nulling = false }) (record b { nulling = false }) end u free is
begin_with at (set_buffer_address address) sites others a b end u free is =
    let parts = unless_ok (outside_of (length b.cells) address) at (acts sites (record b { address = address; nulling = false })) end is in
    let start : WritesUnder (record a { address = address; nulling = false }) (record b { address = address; nulling = false }) = record { cells = u; address = refl; nulling = refl } in
    let rest = acts_under sites (record a { address = address; nulling = false }) (record b { address = address; nulling = false }) end start parts.1 in
    (rest.0, unless_none (outside_of (length a.cells) address) at (acts sites (record a { address = address; nulling = false })) (ap (λ n. outside_of n address) u.whole ∙ parts.0) ∙ rest.1, rest.2)
begin_with at (text run) sites others a b end u free is = absurd cc
begin_with at (start_field attribute) sites others a b end u free is = absurd cc
begin_with at (start_field_extended pairs) sites others a b end u free is = absurd cc
begin_with at (modify_field pairs) sites others a b end u free is = absurd cc
begin_with at insert_cursor sites others a b end u free is = absurd cc
begin_with at program_tab sites others a b end u free is = absurd cc
begin_with at (repeat_to_address stop character) sites others a b end u free is = absurd cc
begin_with at (erase_unprotected_to_address stop) sites others a b end u free is = absurd cc
begin_with at (graphic_escape code) sites others a b end u free is = absurd cc

begin_anywhere : (sites : List Site) → BeginAnywhere sites
unfolding acts
begin_anywhere [] a b end u free is = (a, refl, subst (λ (w : Writing). AreUnder a.cells w.cells) (ok_is b end (Ok b) refl is) u)
begin_anywhere (site ∷ sites) a b end u free is = begin_with site.at site.order sites (begin_anywhere sites) a b end u free is

-- ---- pictures
-- the same terminal, cells like the other's with fewer modified data tags; the cursor and the attention identifier are free
pub record IsBelow (a b : Picture) : Type 0 where
  pub geometry : a.geometry ≡ b.geometry
  pub size : a.size ≡ b.size
  pub lock : a.lock ≡ b.lock
  pub cells : AreUnder a.cells b.cells

begun_under : (wcc : ℕ) (a b : List Cell) (c d : ℕ) → AreUnder a b → AreUnder (begun wcc a c).cells (begun wcc b d).cells
begun_under wcc a b c d u =
    both (resets_modified_tags wcc) (ruled (length a) (λ p. unmodified (cell_at a p))) (ruled (length b) (λ p. unmodified (cell_at b p))) a b
    (rules_under (length a) (length b) (λ p. unmodified (cell_at a p)) (λ p. unmodified (cell_at b p)) u.whole (λ p. under_unmodified (cell_at a p) (cell_at b p) (u.each p))) u
  where
    both : (t : Bool) (x y z w : List Cell) → AreUnder x y → AreUnder z w → AreUnder (cond t x z) (cond t y w)
    both true x y z w one two = one
    both false x y z w one two = two

-- what a record makes of the picture below
abbrev pub LeadsBelow : Result Picture Refused → Picture → Type 0
LeadsBelow r w = (x : Picture) × (r ≡ Ok x) × IsBelow x w

finished_below : (wcc : ℕ) (a b : Picture) (x y : Writing) → IsBelow a b → AreUnder x.cells y.cells → IsBelow (finished wcc a x) (finished wcc b y)
finished_below wcc a b x y below u =
    record { geometry = below.geometry; size = below.size; lock = ap (cond (restores_keyboard wcc) Free) below.lock; cells = u }

abbrev LeadsUnder : Result Writing Refused → Result Writing Refused → Type 0
LeadsUnder r s = (end : Writing) → s ≡ Ok end → (w : Writing) × (r ≡ Ok w) × AreUnder w.cells end.cells

finishes_below : (wcc : ℕ) (a b w : Picture) (r s : Result Writing Refused) → IsBelow a b → LeadsUnder r s → finishes wcc b s ≡ Ok w → LeadsBelow (finishes wcc a r) w
finishes_below wcc a b w r (Ok end) below leads is =
    let made = leads end refl in
    let same : finished wcc b end ≡ w = ok_is (finished wcc b end) w (finishes wcc b (Ok end)) refl is in
    (finished wcc a made.0, ap (finishes wcc a) made.1, subst (IsBelow (finished wcc a made.0)) same (finished_below wcc a b made.0 end below made.2))
finishes_below wcc a b w r (Err refused) below leads is = absurd cc

write_below : (wcc : ℕ) (orders : List Site) (a b w : Picture) → IsBelow a b → start_at_cursor orders ≡ false → written wcc orders b ≡ Ok w → LeadsBelow (written wcc orders a) w
write_below wcc orders a b w below free is =
    finishes_below wcc a b w (acts orders (begun wcc a.cells a.cursor)) (acts orders (begun wcc b.cells b.cursor)) below
    (λ end done. begin_anywhere orders (begun wcc a.cells a.cursor) (begun wcc b.cells b.cursor) end (begun_under wcc a.cells b.cells a.cursor b.cursor below.cells) free done) is

erased_below : (a b : Picture) (size other : Size) → size ≡ other → IsBelow a b → IsBelow (erased size a) (erased other b)
erased_below a b size other same below =
    record {
      geometry = below.geometry;
      size = same;
      lock = below.lock;
      cells = subst (λ s. AreUnder (replicate (cells_of size) blank) (replicate (cells_of s) blank)) same (all_same (replicate (cells_of size) blank));
    }

erase_write_below : (wcc : ℕ) (orders : List Site) (a b w : Picture) (size other : Size) → size ≡ other → IsBelow a b → written wcc orders (erased other b) ≡ Ok w
    → LeadsBelow (written wcc orders (erased size a)) w
erase_write_below wcc orders a b w size other same below is =
    let under = erased_below a b size other same below in
    finishes_below wcc (erased size a) (erased other b) w (acts orders (begun wcc (erased size a).cells 0)) (acts orders (begun wcc (erased other b).cells 0)) under
    (λ end done. acts_under orders (begun wcc (erased size a).cells 0) (begun wcc (erased other b).cells 0) end
    (record { cells = begun_under wcc (erased size a).cells (erased other b).cells 0 0 under.cells; address = refl; nulling = refl }) done) is

-- a record that doesn't depend on the cursor leaves the one picture below what it leaves of the other
pub shown_below : (command : Command) (orders : List Site) (a b w : Picture) → IsBelow a b → depends_on_cursor command orders ≡ false → shown_of b command orders ≡ Ok w
    → LeadsBelow (shown_of a command orders) w
unfolding shown_of
shown_below (Write wcc) orders a b w below free is = write_below wcc orders a b w below free is
shown_below (EraseWrite wcc) orders a b w below free is =
    erase_write_below wcc orders a b w a.geometry.default b.geometry.default (ap (λ g. g.default) below.geometry) below is
shown_below (EraseWriteAlternate wcc) orders a b w below free is =
    erase_write_below wcc orders a b w a.geometry.alternate b.geometry.alternate (ap (λ g. g.alternate) below.geometry) below is
shown_below EraseAllUnprotected orders a b w below free is = (
  all_cleared a,
  refl,
  subst (IsBelow (all_cleared a)) (ok_is (all_cleared b) w (Ok (all_cleared b)) refl is)
      (record { geometry = below.geometry; size = below.size; lock = refl; cells = all_cleared_under a.cells b.cells below.cells }),
)
shown_below ReadBuffer orders a b w below free is = absurd cc
shown_below ReadModified orders a b w below free is = absurd cc
shown_below ReadModifiedAll orders a b w below free is = absurd cc
shown_below NoOperation orders a b w below free is = absurd cc
