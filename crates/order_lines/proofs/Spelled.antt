-- Records that are spelled can be told again and written again.
use Rattle.std.proofs.Common.{◌≡◌, ◌<◌, ℕ, zero, suc, ◌+◌, ◌%◌, Bool, true, false, eqb, ltb, leb, ◌&&◌, List, [], ◌∷◌, ◌++◌, length, get_or, map, Option, Some, None, Ok, refl, sym, subst, arith, inl, inr}
use Rattle.std.specs.Prelude.{is_none}
use Rattle.std.proofs.lemmas.Bool.{cases_lt, lt-ltb, eq-eqb, le-leb}
use Rattle.std.proofs.lemmas.List.{get_or_past, get_or_append_left, get_or-append-add}
use Rattle.hex.specs.Hex.{IsBytes}
use Rattle.ds_codec.specs.declared.size.Mode.{Mode}
use Rattle.ds_codec.specs.declared.size.Mode.TheVariants.{Bits14, Bits16}
use Rattle.ds_codec.specs.Address.{SpellsAddress}
use Rattle.ds_codec.specs.Character.{glyph}
use Rattle.ds_codec.specs.Command.{wcc_of}
use Rattle.ds_codec.specs.Order.{Item, text, start_field, start_field_extended, set_buffer_address, set_attribute, modify_field, insert_cursor, program_tab, repeat_to_address, erase_unprotected_to_address, graphic_escape, Site, SpellsPairs, SpellsCharacter, SpellsOrder}
use Rattle.ds_codec.specs.Record.{Message, is_text_order, MayFollow, AreSpelled, SpellsRest, SpellsRecord}
use Rattle.ds_codec.specs.Reading.{read_of}
use Rattle.ds_codec.specs.Writing.{are_good_pairs, flaw_of, item_at, HaveNoFlaw, IsValidItem, AreValid, orders_in, written_record}
use Rattle.ds_codec.proofs.Records.{is_spelled}
use Rattle.ds_codec.proofs.Written.{is_read_again}
use Rattle.order_lines.specs.Laws.{IsInside, AreInside, AreToldAgain, LinesTellAgain, RecordsAreWrittenAgain}
use Rattle.order_lines.proofs.Drafts.{none_before}
use Rattle.order_lines.proofs.ToldAgain.{IsLineItem, order_line_again, IsLineCommand, command_line_again, plain_order, plain_command}

-- ---- parts of bytes are bytes

left_bytes : (part rest : List ℕ) → IsBytes (part ++ rest) → IsBytes part
left_bytes part rest bytes i =
    elim (cases_lt i (length part)) [
      | inl lt ↦ let same : get_or (part ++ rest) i 0 ≡ get_or part i 0 = get_or_append_left part rest 0 i lt in subst (λ b. b < 256) same (bytes i)
      | inr le ↦ let none : get_or part i 0 ≡ 0 = get_or_past part i 0 le in rw none (omega arith)
    ]

right_bytes : (part rest : List ℕ) → IsBytes (part ++ rest) → IsBytes rest
right_bytes part rest bytes i = let same : get_or (part ++ rest) (length part + i) 0 ≡ get_or rest i 0 = get_or-append-add part rest i 0 in subst (λ b. b < 256) same (bytes (length part + i))

-- ---- one order

near_address : (mode : Mode) (address first second : ℕ) → SpellsAddress mode address first second → first < 256 → second < 256 → address < 4294967296
near_address Bits14 address first second (inl spelled) byte small = let e = spelled.1 in omega arith
near_address Bits14 address first second (inr spelled) byte small = let e = spelled.1 in omega arith
near_address Bits16 address first second spelled byte small = omega arith

code_small : (code : ℕ) (alt : Bool) (rest : List ℕ) → SpellsCharacter (glyph code alt) rest → IsBytes rest → code < 256
code_small code true rest (good, is) bytes = (rw is at bytes) 1
code_small code false rest (good, is) bytes = (rw is at bytes) 0

line_item : (mode : Mode) (item : Item) (part : List ℕ) → SpellsOrder mode item part → IsBytes part → IsLineItem item
line_item mode (text run) part (is, some, all) bytes = (some, rw is at bytes)
line_item mode (start_field attribute) part (byte, is, six) bytes = omega arith
line_item mode (start_field_extended pairs) part (rest, is, (count, more, even, types)) bytes = (count, even, let all : IsBytes (0x29 ∷ count ∷ pairs) = rw (is, more) at bytes in λ i. all (suc (suc i)))
line_item mode (set_buffer_address address) part (first, second, is, spelled) bytes = near_address mode address first second spelled ((rw is at bytes) 1) ((rw is at bytes) 2)
line_item mode (set_attribute kind value) part (is, good) bytes = ((rw is at bytes) 1, (rw is at bytes) 2)
line_item mode (modify_field pairs) part (rest, is, (count, more, even, types)) bytes = (count, even, let all : IsBytes (0x2C ∷ count ∷ pairs) = rw (is, more) at bytes in λ i. all (suc (suc i)))
line_item mode insert_cursor part is bytes = tt
line_item mode program_tab part is bytes = tt
line_item mode (repeat_to_address address character) part (first, second, rest, is, spelled, told) bytes =
    let all : IsBytes (0x3C ∷ first ∷ second ∷ rest) = rw is at bytes in
    (near_address mode address first second spelled (all 1) (all 2), code_small character.code character.alt rest told (λ i. all (suc (suc (suc i)))), told.0)
line_item mode (erase_unprotected_to_address address) part (first, second, is, spelled) bytes = near_address mode address first second spelled ((rw is at bytes) 1) ((rw is at bytes) 2)
line_item mode (graphic_escape code) part (is, good) bytes = (rw is at bytes) 1

good_pairs : (pairs rest : List ℕ) → SpellsPairs pairs rest → IsBytes rest → are_good_pairs pairs ≡ true
good_pairs pairs rest (count, is, even, types) bytes =
    let small : count < 256 = (rw is at bytes) 0 in
    let even_test : eqb (length pairs % 2) 0 ≡ true = eq-eqb _ _ (omega arith) in
    let few_test : leb (length pairs) 510 ≡ true = le-leb _ _ (omega arith) in
    rw (even_test, few_test, types) refl

good_order : (mode : Mode) (cells : ℕ) (after_text : Bool) (item : Item) (part : List ℕ) (k : ℕ) → SpellsOrder mode item part → IsBytes part → IsInside cells item
    → (after_text && is_text_order item) ≡ false → flaw_of cells after_text item k ≡ None
good_order mode cells true (text run) part k spelled bytes inside may = absurd cc
good_order mode cells false (text run) part k (is, some, all) bytes inside may = let test : ltb 0 (length run) ≡ true = lt-ltb _ _ some in rw (test, all) refl
good_order mode cells after_text (start_field attribute) part k spelled bytes inside may = refl
good_order mode cells after_text (start_field_extended pairs) part k (rest, is, spelled) bytes inside may = let all : IsBytes (0x29 ∷ rest) = rw is at bytes in rw (good_pairs pairs rest spelled (λ i. all (suc i))) refl
good_order mode cells after_text (set_buffer_address address) part k spelled bytes inside may = let test : ltb address cells ≡ true = lt-ltb _ _ inside in rw test refl
good_order mode cells after_text (set_attribute kind value) part k (is, good) bytes inside may = rw good refl
good_order mode cells after_text (modify_field pairs) part k (rest, is, spelled) bytes inside may = let all : IsBytes (0x2C ∷ rest) = rw is at bytes in rw (good_pairs pairs rest spelled (λ i. all (suc i))) refl
good_order mode cells after_text insert_cursor part k spelled bytes inside may = refl
good_order mode cells after_text program_tab part k spelled bytes inside may = refl
good_order mode cells after_text (repeat_to_address address character) part k spelled bytes inside may = let test : ltb address cells ≡ true = lt-ltb _ _ inside in rw test refl
good_order mode cells after_text (erase_unprotected_to_address address) part k spelled bytes inside may = let test : ltb address cells ≡ true = lt-ltb _ _ inside in rw test refl
good_order mode cells after_text (graphic_escape code) part k (is, good) bytes inside may = rw good refl

valid_order : (mode : Mode) (item : Item) (part : List ℕ) → SpellsOrder mode item part → IsValidItem item
valid_order mode (text run) part spelled = tt
valid_order mode (start_field attribute) part (byte, is, six) = omega arith
valid_order mode (start_field_extended pairs) part spelled = tt
valid_order mode (set_buffer_address address) part spelled = tt
valid_order mode (set_attribute kind value) part spelled = tt
valid_order mode (modify_field pairs) part spelled = tt
valid_order mode insert_cursor part spelled = tt
valid_order mode program_tab part spelled = tt
valid_order mode (repeat_to_address address character) part (first, second, rest, is, spelled, told) = told.0
valid_order mode (erase_unprotected_to_address address) part spelled = tt
valid_order mode (graphic_escape code) part spelled = tt

-- ---- orders one after the other

abbrev items : List Site → List Item
items sites = map (λ site. site.order) sites

told_again : (mode : Mode) (at : ℕ) (sites : List Site) (bytes : List ℕ) → AreSpelled mode at sites bytes → IsBytes bytes → AreToldAgain sites
told_again mode at [] bytes spelled all = tt
told_again mode at (site ∷ sites) bytes (part, rest, is, here, first, may, others) all =
    let both : IsBytes (part ++ rest) = rw is at all in
    let line = line_item mode site.order part first (left_bytes part rest both) in
    ((order_line_again site.order line, plain_order site.order line), told_again mode (at + length part) sites rest others (right_bytes part rest both))

are_valid : (mode : Mode) (at : ℕ) (sites : List Site) (bytes : List ℕ) → AreSpelled mode at sites bytes → AreValid (items sites)
are_valid mode at [] bytes spelled k = tt
are_valid mode at (site ∷ sites) bytes (part, rest, is, here, first, may, others) zero = valid_order mode site.order part first
are_valid mode at (site ∷ sites) bytes (part, rest, is, here, first, may, others) (suc k) = are_valid mode (at + length part) sites rest others k

-- whether text stands before the k-th, where it stands before the first
abbrev after_at : Bool → List Item → ℕ → Bool
after_at after_text orders zero = after_text
after_at after_text orders (suc k) = is_text_order (item_at orders k)

abbrev MayBegin : Bool → List Site → Type 0
MayBegin after_text [] = Unit {0}
MayBegin after_text (next ∷ others) = (after_text && is_text_order next.order) ≡ false

may_begin : (item : Item) (sites : List Site) → MayFollow item sites → MayBegin (is_text_order item) sites
may_begin item [] may = tt
may_begin item (next ∷ others) may = may

are_good : (mode : Mode) (at : ℕ) (sites : List Site) (bytes : List ℕ) (cells : ℕ) (after_text : Bool) → AreSpelled mode at sites bytes → IsBytes bytes → AreInside cells sites → MayBegin after_text sites
    → (k j : ℕ) → flaw_of cells (after_at after_text (items sites) k) (item_at (items sites) k) j ≡ None
are_good mode at [] bytes cells after_text spelled all inside may k j = refl
are_good mode at (site ∷ sites) bytes cells after_text (part, rest, is, here, first, follow, others) all inside may zero j =
    let both : IsBytes (part ++ rest) = rw is at all in
    good_order mode cells after_text site.order part j first (left_bytes part rest both) inside.0 may
are_good mode at (site ∷ sites) bytes cells after_text (part, rest, is, here, first, follow, others) all inside may (suc k) j =
    let both : IsBytes (part ++ rest) = rw is at all in
    shifted (are_good mode (at + length part) sites rest cells (is_text_order site.order) others (right_bytes part rest both) inside.1 (may_begin site.order sites follow)) k j
  where
    shifted : ((k j : ℕ) → flaw_of cells (after_at (is_text_order site.order) (items sites) k) (item_at (items sites) k) j ≡ None)
        → (k j : ℕ) → flaw_of cells (is_text_order (item_at (site.order ∷ items sites) k)) (item_at (items sites) k) j ≡ None
    shifted good zero j = good zero j
    shifted good (suc k) j = good (suc k) j

no_flaw : (cells : ℕ) (orders : List Item) → ((k j : ℕ) → flaw_of cells (after_at false orders k) (item_at orders k) j ≡ None) → HaveNoFlaw cells orders
no_flaw cells orders good zero = good zero zero
no_flaw cells orders good (suc k) = good (suc k) (suc k)

-- ---- a record

-- what follows the command's code
record IsGoodRest (wcc : Option ℕ) (sites : List Site) : Type 0 where
  small : IsLineCommand wcc
  told : AreToldAgain sites
  allowed : (is_none wcc && ltb 0 (length (items sites))) ≡ false
  valid : AreValid (items sites)
  good : (cells : ℕ) → AreInside cells sites → HaveNoFlaw cells (items sites)

no_orders : (cells : ℕ) → HaveNoFlaw cells []
no_orders cells k = refl

none_valid : AreValid []
none_valid k = tt

good_rest : (mode : Mode) (wcc : Option ℕ) (sites : List Site) (rest : List ℕ) → SpellsRest mode wcc sites rest → IsBytes rest → IsGoodRest wcc sites
good_rest mode None sites rest (is, more) all = rw is (record { small = tt; told = tt; allowed = refl; valid = none_valid; good = λ cells inside. no_orders cells })
good_rest mode (Some wcc) sites rest (more, is, spelled) all =
    let both : IsBytes (wcc ∷ more) = rw is at all in
    let later : IsBytes more = λ i. both (suc i) in record {
      small = both 0;
      told = told_again mode 2 sites more spelled later;
      allowed = refl;
      valid = are_valid mode 2 sites more spelled;
      good = λ cells inside. no_flaw cells (items sites) (are_good mode 2 sites more cells false spelled later inside (first_may sites));
    }
  where
    first_may : (sites : List Site) → MayBegin false sites
    first_may [] = tt
    first_may (site ∷ sites) = refl

good_record : (mode : Mode) (bytes : List ℕ) (message : Message) → SpellsRecord mode message bytes → IsBytes bytes → IsGoodRest (wcc_of message.command) message.orders
good_record mode bytes message (code, rest, is, passes, spelled) all =
    let both : IsBytes (code ∷ rest) = rw is at all in good_rest mode (wcc_of message.command) message.orders rest spelled (λ i. both (suc i))

read_good : (mode : Mode) (bytes : List ℕ) (message : Message) → IsBytes bytes → read_of mode bytes ≡ Ok message → IsGoodRest (wcc_of message.command) message.orders
read_good mode bytes message all read = good_record mode bytes message (is_spelled mode bytes (Ok message) (sym read)) all

pub lines_tell_again : LinesTellAgain
lines_tell_again mode bytes message all read =
    let good = read_good mode bytes message all read in
    record { its_command = (command_line_again message.command good.small, plain_command message.command good.small); its_orders = good.told }

pub written_again : RecordsAreWrittenAgain
written_again mode other cells bytes message all read few inside =
    let rest = read_good mode bytes message all read in
    let none = rest.good cells inside in
    let first = none_before cells (orders_in message) (length (orders_in message)) (λ j lt. none j) in (
      written_record other cells message.command (orders_in message),
      rw (rest.allowed, first) refl,
      is_read_again other cells message.command (orders_in message) few (rest.allowed, none) rest.valid,
    )
