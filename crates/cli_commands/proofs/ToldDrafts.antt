-- Records that order lines tell.
use Rattle.std.proofs.Common.{◌≡◌, ◌≤◌, ℕ, ◌+◌, ◌&&◌, Bool, true, false, not, cond, ltb, List, [], ◌∷◌, ◌++◌, length, Option, Some, None, Ok, Err, refl, sym, ap, ◌∙◌, arith, inl, inr, append_assoc, append-nil, length-append}
use Rattle.std.specs.Prelude.{Result}
use Rattle.std.specs.Str.{is_utf8}
use Rattle.std.proofs.lemmas.Bool.{ltb-false, le-ltb, and_parts}
use Rattle.ds_codec.specs.declared.command.Command.{Command}
use Rattle.ds_codec.specs.declared.command.Command.TheVariants.{Write, EraseWrite, EraseWriteAlternate, EraseAllUnprotected, ReadBuffer, ReadModified, ReadModifiedAll, NoOperation}
use Rattle.ds_codec.specs.Geometry.{Sizes}
use Rattle.ds_codec.specs.Order.{Item}
use Rattle.ds_codec.specs.Reading.{◌>>=◌}
use Rattle.order_lines.specs.Draft.{Draft}
use Rattle.order_lines.specs.Says.{SaysCommand}
use Rattle.order_lines.specs.Told.{Told, command, order, told_of, command_told, order_told, short_told, address_told}
use Rattle.order_lines.proofs.Said.{tells_what_is_said}
use Rattle.cli_commands.specs.declared.fault.Fault.{Fault}
use Rattle.cli_commands.specs.declared.fault.Fault.TheVariants.{TooLong}
use Rattle.cli_commands.specs.declared.input.sizes.SizeLine.{SizeLine}
use Rattle.cli_commands.specs.declared.input.sizes.SizeLine.TheVariants.{Allowed, Refused}
use Rattle.cli_commands.specs.Drafts.{OrderLine, empty, comment, sizes, words, bad, sizes_or_words, line_told, Drafts, no_drafts, all_drafts, finished, after_told, take_order_line}
use Rattle.cli_commands.specs.SaysDrafts.{LineSays, SayOrders, EndsRecord, SayRecords, SizesAndDrafts, begins_with_number_sign, is_comment, uncommented, TellDrafts, DraftsAreTold}
use Rattle.cli_commands.specs.Sizes.{usual_sizes, geometry_told, sizes_told}
use Rattle.cli_commands.specs.Taking.{taken}
use Rattle.cli_commands.proofs.PlainLines.{plain_utf8}

-- ---- what one line is

-- a line by what it tells
data Kind (size_line : SizeLine) (line : List ℕ) : Type 0 where
  is_empty : line ≡ [] → Kind size_line line
  commented : is_comment line ≡ true → line_told size_line line ≡ comment → Kind size_line line
  sized : (geometry : Sizes) → is_comment line ≡ false → is_utf8 line ≡ true → sizes_told size_line line ≡ Some geometry → line_told size_line line ≡ sizes geometry → Kind size_line line
  speaks : (told : Told) → is_comment line ≡ false → LineSays line told → line_told size_line line ≡ words told → Kind size_line line
  wrong : line_told size_line line ≡ bad → Kind size_line line

by_words : (size_line : SizeLine) (line : List ℕ) (told_sizes : Option Sizes) (told : Option Told) → is_comment line ≡ false → is_utf8 line ≡ true
    → sizes_told size_line line ≡ told_sizes → told_of line ≡ told → line_told size_line line ≡ sizes_or_words told_sizes told → Kind size_line line
by_words size_line line (Some geometry) told plain text sizes_is told_is is = sized geometry plain text sizes_is is
by_words size_line line None (Some told) plain text sizes_is told_is is = speaks told plain (text, (tells_what_is_said line told).0 told_is) is
by_words size_line line None None plain text sizes_is told_is is = wrong is

kind : (size_line : SizeLine) (line : List ℕ) → Kind size_line line
unfolding line_told
kind size_line [] = is_empty refl
kind size_line (b ∷ bs) =
    elim (is_utf8 (b ∷ bs)) as (λ t. is_utf8 (b ∷ bs) ≡ t → Kind size_line (b ∷ bs)) [
      | false ↦ λ text. wrong (rw text refl)
      | true ↦ λ text.
          elim (begins_with_number_sign (b ∷ bs)) as (λ t. begins_with_number_sign (b ∷ bs) ≡ t → Kind size_line (b ∷ bs)) [
            | true ↦ λ sign. commented (rw (sign, text) refl) (rw (sign, text) refl)
            | false ↦ λ sign. by_words size_line (b ∷ bs) (sizes_told size_line (b ∷ bs)) (told_of (b ∷ bs)) (rw sign refl) text refl refl (rw (text, sign) refl)
          ] refl
    ] refl

unsigned : (sign text : Bool) → (sign && text) ≡ false → text ≡ true → sign ≡ false
unsigned true text is good = absurd cc
unsigned false text is good = refl

nothing_told : told_of [] ≡ None
unfolding command_told order_told short_told address_told
nothing_told = refl

says_nothing : (told : Told) → LineSays [] told → ⊥
says_nothing told (text, is) = let some : None ≡ Some told = sym nothing_told ∙ (tells_what_is_said [] told).1 is in absurd cc

-- a line that says something tells it
words_told : (line : List ℕ) (told : Told) → is_comment line ≡ false → LineSays line told → line_told Refused line ≡ words told
unfolding line_told
words_told [] told plain says_it = absurd (says_nothing told says_it)
words_told (b ∷ bs) told plain (text, is) =
    let sign : begins_with_number_sign (b ∷ bs) ≡ false = unsigned (begins_with_number_sign (b ∷ bs)) (is_utf8 (b ∷ bs)) plain text in
    rw (text, sign, (tells_what_is_said (b ∷ bs) told).1 is) refl

-- ---- lines in turn

abbrev state : Sizes → List Draft → Option Draft → Drafts
state geometry ended current = record { size_line = Refused; geometry = geometry; ended = ended; current = current }

abbrev all_told : ℕ → Drafts → List (List ℕ) → Result Drafts Fault
all_told number told lines = taken take_order_line number told lines >>= λ drafts. Ok (finished drafts)

abbrev one_more : Draft → Item → Draft
one_more draft item = record draft { orders = draft.orders ++ item ∷ [] }

abbrev more_orders : Draft → List Item → Draft
more_orders draft items = record draft { orders = draft.orders ++ items }

-- The lines go on with the record that has begun, if any, and then say records; these are all of them.
abbrev GoOn : Option Draft → List (List ℕ) → List Draft → Type 0
GoOn None lines drafts = SayRecords lines drafts
GoOn (Some draft) lines drafts =
    (items : List Item) × (block : List (List ℕ)) × (rest : List (List ℕ)) × (later : List Draft) × (lines ≡ block ++ rest) × SayOrders block items × EndsRecord rest
    × (drafts ≡ more_orders draft items ∷ later) × SayRecords rest later

-- ---- what is told is said

after_gap : (lines : List (List ℕ)) (drafts : List Draft) → SayRecords lines drafts → SayRecords ([] ∷ lines) drafts
after_gap lines [] empty_lines = (refl, empty_lines)
after_gap lines (draft ∷ drafts) (gap, block, rest, parts, none, tells, ends, others) = ([] ∷ gap, block, rest, ap (λ ls. [] ∷ ls) parts, (refl, none), tells, ends, others)

begun : (line : List ℕ) (told : Command) (lines : List (List ℕ)) (drafts : List Draft) → LineSays line (command told) → GoOn (Some (record { command = told; orders = [] })) lines drafts
    → SayRecords (line ∷ lines) drafts
begun line told lines drafts says_it (items, block, rest, later, parts, orders, ends, same, others) =
    rw same ([], line ∷ block, rest, ap (λ ls. line ∷ ls) parts, tt, (says_it, orders), ends, others)

went_on : (line : List ℕ) (item : Item) (draft : Draft) (lines : List (List ℕ)) (drafts : List Draft) → LineSays line (order item) → GoOn (Some (one_more draft item)) lines drafts
    → GoOn (Some draft) (line ∷ lines) drafts
went_on line item draft lines drafts says_it (items, block, rest, later, parts, orders, ends, same, others) = (
  item ∷ items,
  line ∷ block,
  rest,
  later,
  ap (λ ls. line ∷ ls) parts,
  (says_it, orders),
  ends,
  same ∙ ap (λ os. record draft { orders = os } ∷ later) (append_assoc draft.orders (item ∷ []) items),
  others,
)

ended_here : (draft : Draft) (lines : List (List ℕ)) (drafts : List Draft) → SayRecords lines drafts → GoOn (Some draft) ([] ∷ lines) (draft ∷ drafts)
ended_here draft lines drafts others =
    ([], [], [] ∷ lines, drafts, refl, tt, refl, ap (λ os. record draft { orders = os } ∷ drafts) (sym (append-nil draft.orders)), after_gap lines drafts others)

-- what lines add to a state
record Adds (geometry : Sizes) (ended : List Draft) (current : Option Draft) (lines : List (List ℕ)) (told : Drafts) : Type 0 where
  more : List Draft
  is : told ≡ state geometry (ended ++ more) None
  goes : GoOn current (uncommented lines) more
  few : length (ended ++ more) ≤ 1000

-- how many records there are once the one that has begun has ended
abbrev all_count : List Draft → Option Draft → ℕ
all_count ended current = length (all_drafts ended current)

empty_line : (size_line : SizeLine) → line_told size_line [] ≡ empty
unfolding line_told
empty_line size_line = rw (plain_utf8 [] refl) refl

-- where there is room for one more
abbrev enough : Bool → Result (Unit {0}) Fault
enough over = cond over (Err TooLong) (Ok tt)

room : (ended : List Draft) (next : Drafts) (others : Drafts → Result Drafts Fault) (told : Drafts) (P : Type 0)
    → (((enough (ltb 1000 (length ended + 1)) >>= λ few. Ok next) >>= others) >>= λ drafts. Ok (finished drafts)) ≡ Ok told
    → (length ended + 1 ≤ 1000 → (others next >>= λ drafts. Ok (finished drafts)) ≡ Ok told → P) → P
room ended next others told P is goes =
    elim (ltb 1000 (length ended + 1)) as (λ t. ltb 1000 (length ended + 1) ≡ t
    → (((enough t >>= λ few. Ok next) >>= others) >>= λ drafts. Ok (finished drafts)) ≡ Ok told → P) [
      | true ↦ λ test over. absurd cc
      | false ↦ λ test rest. goes (ltb-false _ _ test) rest
    ] refl is

abbrev Later : ℕ → Sizes → List (List ℕ) → Drafts → Type 0
Later number geometry lines told =
    (ended : List Draft) (current : Option Draft) → all_count ended current ≤ 1000 → all_told number (state geometry ended current) lines ≡ Ok told → Adds geometry ended current lines told

abbrev line_then : ℕ → Drafts → OrderLine → List (List ℕ) → Result Drafts Fault
line_then number drafts line lines = (after_told number drafts line >>= λ next. taken take_order_line (number + 1) next lines) >>= λ all. Ok (finished all)

by_kind : (line : List ℕ) (lines : List (List ℕ)) (number : ℕ) (geometry : Sizes) (ended : List Draft) (current : Option Draft) (told : Drafts) → Kind Refused line → all_count ended current ≤ 1000
    → line_then number (state geometry ended current) (line_told Refused line) lines ≡ Ok told → Later (number + 1) geometry lines told → Adds geometry ended current (line ∷ lines) told
by_kind line lines number geometry ended None told (is_empty e) few is later =
    let adds = later ended None few (rw (e, empty_line Refused) at is) in
    rw e (record { more = adds.more; is = adds.is; goes = after_gap (uncommented lines) adds.more adds.goes; few = adds.few })
by_kind line lines number geometry ended (Some draft) told (is_empty e) few is later =
    let adds = later (ended ++ draft ∷ []) None few (rw (e, empty_line Refused) at is) in
    let assoc = append_assoc ended (draft ∷ []) adds.more in
    rw e (record {
      more = draft ∷ adds.more;
      is = adds.is ∙ ap (λ ds. state geometry ds None) assoc;
      goes = ended_here draft (uncommented lines) adds.more adds.goes;
      few = rw assoc at adds.few;
    })
by_kind line lines number geometry ended current told (commented sign comment_is) few is later =
    let adds = later ended current few (rw comment_is at is) in
    record { more = adds.more; is = adds.is; goes = rw sign adds.goes; few = adds.few }
by_kind line lines number geometry ended current told (sized sizes_of plain text sizes_is line_is) few is later = absurd cc
by_kind line lines number geometry ended None told (speaks (command it) plain says_it line_is) few is later =
    room ended (state geometry ended (Some (record { command = it; orders = [] }))) (λ next. taken take_order_line (number + 1) next lines) told (Adds geometry ended None (line ∷ lines) told)
    (rw line_is at is)
    (λ enough goes.
    let adds = later ended (Some (record { command = it; orders = [] })) (omega (arith, enough, length-append ended (record { command = it; orders = [] } ∷ []))) goes in
    record { more = adds.more; is = adds.is; goes = rw plain (begun line it (uncommented lines) adds.more says_it adds.goes); few = adds.few })
by_kind line lines number geometry ended (Some draft) told (speaks (command it) plain says_it line_is) few is later = let fails = rw line_is at is in absurd cc
by_kind line lines number geometry ended None told (speaks (order it) plain says_it line_is) few is later = let fails = rw line_is at is in absurd cc
by_kind line lines number geometry ended (Some draft) told (speaks (order it) plain says_it line_is) few is later =
    let adds = later ended (Some (one_more draft it)) (omega (arith, few, length-append ended (draft ∷ []), length-append ended (one_more draft it ∷ []))) (rw line_is at is) in
    record { more = adds.more; is = adds.is; goes = rw plain (went_on line it draft (uncommented lines) adds.more says_it adds.goes); few = adds.few }
by_kind line lines number geometry ended current told (wrong line_is) few is later = let fails = rw line_is at is in absurd cc

said : (lines : List (List ℕ)) (number : ℕ) (geometry : Sizes) (ended : List Draft) (current : Option Draft) (told : Drafts) → all_count ended current ≤ 1000
    → all_told number (state geometry ended current) lines ≡ Ok told → Adds geometry ended current lines told
said [] number geometry ended None told few is =
    let same : state geometry ended None ≡ told = cc in
    record { more = []; is = sym same ∙ ap (λ ds. state geometry ds None) (sym (append-nil ended)); goes = tt; few = rw (append-nil ended) few }
said [] number geometry ended (Some draft) told few is =
    let same : state geometry (ended ++ draft ∷ []) None ≡ told = cc in
    record {
      more = draft ∷ [];
      is = sym same;
      goes = ([], [], [], [], refl, tt, tt, ap (λ os. record draft { orders = os } ∷ []) (sym (append-nil draft.orders)), tt);
      few = few;
    }
said (line ∷ lines) number geometry ended current told few is =
    by_kind line lines number geometry ended current told (kind Refused line) few is (λ next_ended next_current room goes. said lines (number + 1) geometry next_ended next_current told room goes)

-- ---- the lines before the first record

abbrev Starts : List (List ℕ) → Drafts → Type 0
Starts lines told = SizesAndDrafts (uncommented lines) told.geometry told.ended × (length told.ended ≤ 1000)

sizes_after_gap : (lines : List (List ℕ)) (geometry : Sizes) (drafts : List Draft) → SizesAndDrafts lines geometry drafts → SizesAndDrafts ([] ∷ lines) geometry drafts
sizes_after_gap lines geometry drafts (inl (gap, line, others, parts, none, text, told, tells)) = inl ([] ∷ gap, line, others, ap (λ ls. [] ∷ ls) parts, (refl, none), text, told, tells)
sizes_after_gap lines geometry drafts (inr (usual, tells)) = inr (usual, after_gap lines drafts tells)

start_by_kind : (line : List ℕ) (lines : List (List ℕ)) (number : ℕ) (told : Drafts) → Kind Allowed line
    → line_then number no_drafts (line_told Allowed line) lines ≡ Ok told → (all_told (number + 1) no_drafts lines ≡ Ok told → Starts lines told) → Starts (line ∷ lines) told
start_by_kind line lines number told (is_empty e) is later =
    let starts = later (rw (e, empty_line Allowed) at is) in rw e (sizes_after_gap (uncommented lines) told.geometry told.ended starts.0, starts.1)
start_by_kind line lines number told (commented sign comment_is) is later = rw sign (later (rw comment_is at is))
start_by_kind line lines number told (sized geometry plain text sizes_is line_is) is later =
    let adds = said lines (number + 1) geometry [] None told (omega arith) (rw line_is at is) in
    rw (adds.is, plain) (inl ([], line, uncommented lines, refl, tt, text, sizes_is, adds.goes), adds.few)
start_by_kind line lines number told (speaks (command it) plain says_it line_is) is later =
    let adds = said lines (number + 1) usual_sizes [] (Some (record { command = it; orders = [] })) told (omega arith) (rw line_is at is) in
    rw (adds.is, plain) (inr (refl, begun line it (uncommented lines) adds.more says_it adds.goes), adds.few)
start_by_kind line lines number told (speaks (order it) plain says_it line_is) is later = let fails = rw line_is at is in absurd cc
start_by_kind line lines number told (wrong line_is) is later = let fails = rw line_is at is in absurd cc

starts : (lines : List (List ℕ)) (number : ℕ) (told : Drafts) → all_told number no_drafts lines ≡ Ok told → Starts lines told
starts [] number told is = let same : no_drafts ≡ told = cc in rw (← same) (inr (refl, tt), omega arith)
starts (line ∷ lines) number told is = start_by_kind line lines number told (kind Allowed line) is (λ goes. starts lines (number + 1) told goes)

-- ---- what is said is told

before_gap : (lines : List (List ℕ)) (drafts : List Draft) → SayRecords ([] ∷ lines) drafts → SayRecords lines drafts
before_gap lines [] empty_lines = empty_lines.1
before_gap lines (draft ∷ drafts) ([], [], rest, parts, none, tells, ends, others) = absurd tells
before_gap lines (draft ∷ drafts) ([], line ∷ block, rest, parts, none, tells, ends, others) =
    let same : line ≡ [] = cc in absurd (says_nothing (command draft.command) (rw same at tells.0))
before_gap lines (draft ∷ drafts) (first ∷ gap, block, rest, parts, none, tells, ends, others) =
    let same : lines ≡ gap ++ (block ++ rest) = cc in (gap, block, rest, same, none.1, tells, ends, others)

nothing_said : (draft : Draft) (drafts : List Draft) → SayRecords [] (draft ∷ drafts) → ⊥
nothing_said draft drafts ([], [], rest, parts, none, tells, ends, others) = tells
nothing_said draft drafts ([], line ∷ block, rest, parts, none, tells, ends, others) = absurd cc
nothing_said draft drafts (first ∷ gap, block, rest, parts, none, tells, ends, others) = absurd cc

comment_told : (size_line : SizeLine) (line : List ℕ) → is_comment line ≡ true → line_told size_line line ≡ comment
unfolding line_told
comment_told size_line [] sign = let no_sign : false ≡ true = sign in absurd cc
comment_told size_line (b ∷ bs) sign = let both = and_parts (begins_with_number_sign (b ∷ bs)) (is_utf8 (b ∷ bs)) sign in rw (both.0, both.1) refl

abbrev Again : ℕ → Sizes → List (List ℕ) → Type 0
Again number geometry lines =
    (ended : List Draft) (current : Option Draft) (more : List Draft) → GoOn current (uncommented lines) more → length (ended ++ more) ≤ 1000
    → all_told number (state geometry ended current) lines ≡ Ok (state geometry (ended ++ more) None)

-- an empty line
empty_again : (line : List ℕ) (lines : List (List ℕ)) (number : ℕ) (geometry : Sizes) (ended : List Draft) (current : Option Draft) (told : Result Drafts Fault) → line ≡ []
    → all_told (number + 1) (state geometry (all_drafts ended current) None) lines ≡ told → line_then number (state geometry ended current) (line_told Refused line) lines ≡ told
empty_again line lines number geometry ended current told e goes = rw (e, empty_line Refused) goes

command_again : (line : List ℕ) (lines : List (List ℕ)) (number : ℕ) (drafts : Drafts) (it : Command) (told : Result Drafts Fault) → drafts.current ≡ None → line_told drafts.size_line line ≡ words (command it)
    → length drafts.ended + 1 ≤ 1000 → all_told (number + 1) (state drafts.geometry drafts.ended (Some (record { command = it; orders = [] }))) lines ≡ told
    → line_then number drafts (line_told drafts.size_line line) lines ≡ told
command_again line lines number drafts it told none line_is few goes = rw (line_is, none, le-ltb _ _ few) goes

plain_again : (line : List ℕ) (lines : List (List ℕ)) (number : ℕ) (geometry : Sizes) (ended : List Draft) (current : Option Draft) (more : List Draft) → is_comment line ≡ false
    → GoOn current (line ∷ uncommented lines) more → length (ended ++ more) ≤ 1000 → Again (number + 1) geometry lines
    → line_then number (state geometry ended current) (line_told Refused line) lines ≡ Ok (state geometry (ended ++ more) None)
plain_again line lines number geometry ended None [] plain goes few later =
    empty_again line lines number geometry ended None _ goes.0 (later ended None [] goes.1 few)
plain_again line lines number geometry ended None (draft ∷ more) plain ([], [], rest, parts, none, tells, ends, others) few later = absurd tells
plain_again line lines number geometry ended None (draft ∷ more) plain ([], first ∷ block, rest, parts, none, tells, ends, others) few later =
    let same : first ≡ line = cc in
    let tail : uncommented lines ≡ block ++ rest = cc in
    command_again line lines number (state geometry ended None) draft.command _ refl (words_told line (command draft.command) plain (rw same at tells.0))
    (omega (arith, few, length-append ended (draft ∷ more)))
    (later ended (Some (record { command = draft.command; orders = [] })) (draft ∷ more) (draft.orders, block, rest, more, tail, tells.1, ends, refl, others) few)
plain_again line lines number geometry ended None (draft ∷ more) plain (first ∷ gap, block, rest, parts, none, tells, ends, others) few later =
    let same : line ≡ [] = cc in
    let tail : uncommented lines ≡ gap ++ (block ++ rest) = cc in
    empty_again line lines number geometry ended None _ same (later ended None (draft ∷ more) (gap, block, rest, tail, none.1, tells, ends, others) few)
plain_again line lines number geometry ended (Some draft) more plain (items, [], [], after, parts, orders, ends, same, others) few later = absurd cc
plain_again line lines number geometry ended (Some draft) more plain ([], [], first ∷ rest, after, parts, orders, ends, same, others) few later =
    let here : line ≡ [] = cc in
    let tail : rest ≡ uncommented lines = cc in
    let one : more ≡ draft ∷ after = same ∙ ap (λ os. record draft { orders = os } ∷ after) (append-nil draft.orders) in
    let assoc = append_assoc ended (draft ∷ []) after in
    rw one
    (empty_again line lines number geometry ended (Some draft) _ here
    (later (ended ++ draft ∷ []) None after (before_gap (uncommented lines) after (rw (ends, tail) at others)) (rw assoc (rw one at few))
    ∙ ap (λ ds. Ok (state geometry ds None)) assoc))
plain_again line lines number geometry ended (Some draft) more plain (item ∷ items, [], first ∷ rest, after, parts, orders, ends, same, others) few later = absurd orders
plain_again line lines number geometry ended (Some draft) more plain ([], first ∷ block, rest, after, parts, orders, ends, same, others) few later = absurd orders
plain_again line lines number geometry ended (Some draft) more plain (item ∷ items, first ∷ block, rest, after, parts, orders, ends, same, others) few later =
    let here : first ≡ line = cc in
    let tail : uncommented lines ≡ block ++ rest = cc in
    let line_is : line_told Refused line ≡ words (order item) = words_told line (order item) plain (rw here at orders.0) in
    rw line_is
    (later ended (Some (one_more draft item)) more
    (items, block, rest, after, tail, orders.1, ends, same ∙ ap (λ os. record draft { orders = os } ∷ after) (sym (append_assoc draft.orders (item ∷ []) items)), others) few)

again_end : (ended : List Draft) (draft : Draft) (more : List Draft) → GoOn (Some draft) [] more → more ≡ draft ∷ []
again_end ended draft more ([], [], [], [], parts, orders, ends, same, others) = same ∙ ap (λ os. record draft { orders = os } ∷ []) (append-nil draft.orders)
again_end ended draft more ([], [], [], first ∷ after, parts, orders, ends, same, others) = absurd (nothing_said first after others)
again_end ended draft more (item ∷ items, [], rest, after, parts, orders, ends, same, others) = absurd orders
again_end ended draft more (items, first ∷ block, rest, after, parts, orders, ends, same, others) = absurd cc
again_end ended draft more ([], [], first ∷ rest, after, parts, orders, ends, same, others) = absurd cc

again : (lines : List (List ℕ)) (number : ℕ) (geometry : Sizes) → Again number geometry lines
again [] number geometry ended None [] goes few = rw (append-nil ended) refl
again [] number geometry ended None (draft ∷ more) goes few = absurd (nothing_said draft more goes)
again [] number geometry ended (Some draft) more goes few = rw (again_end ended draft more goes) refl
again (line ∷ lines) number geometry ended current more goes few =
    elim (is_comment line) as (λ t. is_comment line ≡ t → GoOn current (cond (not t) (line ∷ uncommented lines) (uncommented lines)) more
    → line_then number (state geometry ended current) (line_told Refused line) lines ≡ Ok (state geometry (ended ++ more) None)) [
      | true ↦ λ sign rest. rw (comment_told Refused line sign) (again lines (number + 1) geometry ended current more rest few)
      | false ↦ λ plain rest. plain_again line lines number geometry ended current more plain rest few (again lines (number + 1) geometry)
    ] refl goes

-- ---- the lines before the first record, again

no_sizes : (line : List ℕ) (it : Command) → SaysCommand line it → geometry_told line ≡ None
no_sizes line (Write wcc) (carried, is, byte) = rw is refl
no_sizes line (EraseWrite wcc) (carried, is, byte) = rw is refl
no_sizes line (EraseWriteAlternate wcc) (carried, is, byte) = rw is refl
no_sizes line EraseAllUnprotected is = rw is refl
no_sizes line ReadBuffer is = rw is refl
no_sizes line ReadModified is = rw is refl
no_sizes line ReadModifiedAll is = rw is refl
no_sizes line NoOperation is = rw is refl

first_words : (line : List ℕ) (it : Command) → is_comment line ≡ false → LineSays line (command it) → line_told Allowed line ≡ words (command it)
unfolding line_told
first_words [] it plain says_it = absurd (says_nothing (command it) says_it)
first_words (b ∷ bs) it plain (text, is) =
    let sign : begins_with_number_sign (b ∷ bs) ≡ false = unsigned (begins_with_number_sign (b ∷ bs)) (is_utf8 (b ∷ bs)) plain text in
    rw (text, sign, no_sizes (b ∷ bs) it is, (tells_what_is_said (b ∷ bs) (command it)).1 is) refl

sizes_line : (line : List ℕ) (geometry : Sizes) → is_comment line ≡ false → is_utf8 line ≡ true → geometry_told line ≡ Some geometry → line_told Allowed line ≡ sizes geometry
unfolding line_told
sizes_line [] geometry plain text told = absurd cc
sizes_line (b ∷ bs) geometry plain text told = let sign : begins_with_number_sign (b ∷ bs) ≡ false = unsigned (begins_with_number_sign (b ∷ bs)) (is_utf8 (b ∷ bs)) plain text in rw (text, sign, told) refl

abbrev StartsAgain : Result Drafts Fault → Sizes → List Draft → Type 0
StartsAgain told geometry drafts = (later : SizeLine) × (told ≡ Ok (record { size_line = later; geometry = geometry; ended = drafts; current = None }))

start_again : (line : List ℕ) (lines : List (List ℕ)) (number : ℕ) (geometry : Sizes) (drafts : List Draft) → is_comment line ≡ false
    → SizesAndDrafts (line ∷ uncommented lines) geometry drafts → length drafts ≤ 1000
    → (SizesAndDrafts (uncommented lines) geometry drafts → StartsAgain (all_told (number + 1) no_drafts lines) geometry drafts)
    → StartsAgain (line_then number no_drafts (line_told Allowed line) lines) geometry drafts
start_again line lines number geometry drafts plain (inl ([], first, others, parts, none, text, told, tells)) few later =
    let here : first ≡ line = cc in
    let tail : others ≡ uncommented lines = cc in
    let line_is : line_told Allowed line ≡ sizes geometry = sizes_line line geometry plain (rw here at text) (rw here at told) in
    (Refused, rw line_is (again lines (number + 1) geometry [] None drafts (rw tail at tells) few))
start_again line lines number geometry drafts plain (inl (none_first ∷ gap, first, others, parts, none, text, told, tells)) few later =
    let here : line ≡ [] = cc in
    let tail : uncommented lines ≡ gap ++ first ∷ others = cc in
    rw (here, empty_line Allowed) (later (inl (gap, first, others, tail, none.1, text, told, tells)))
start_again line lines number geometry [] plain (inr (usual, tells)) few later = rw (tells.0, empty_line Allowed) (later (inr (usual, tells.1)))
start_again line lines number geometry (draft ∷ drafts) plain (inr (usual, ([], [], rest, parts, none, tells, ends, others))) few later = absurd tells
start_again line lines number geometry (draft ∷ drafts) plain (inr (usual, ([], first ∷ block, rest, parts, none, tells, ends, others))) few later =
    let here : first ≡ line = cc in
    let tail : uncommented lines ≡ block ++ rest = cc in
    let line_is : line_told Allowed line ≡ words (command draft.command) = first_words line draft.command plain (rw here at tells.0) in (
      Refused,
      rw (usual, line_is)
          (again lines (number + 1) usual_sizes [] (Some (record { command = draft.command; orders = [] })) (draft ∷ drafts) (draft.orders, block, rest, drafts, tail, tells.1, ends, refl, others) few),
    )
start_again line lines number geometry (draft ∷ drafts) plain (inr (usual, (none_first ∷ gap, block, rest, parts, none, tells, ends, others))) few later =
    let here : line ≡ [] = cc in
    let tail : uncommented lines ≡ gap ++ (block ++ rest) = cc in
    rw (here, empty_line Allowed) (later (inr (usual, (gap, block, rest, tail, none.1, tells, ends, others))))

starts_again : (lines : List (List ℕ)) (number : ℕ) (geometry : Sizes) (drafts : List Draft) → SizesAndDrafts (uncommented lines) geometry drafts → length drafts ≤ 1000
    → StartsAgain (all_told number no_drafts lines) geometry drafts
starts_again [] number geometry drafts (inl ([], first, others, parts, none, text, told, tells)) few = absurd cc
starts_again [] number geometry drafts (inl (none_first ∷ gap, first, others, parts, none, text, told, tells)) few = absurd cc
starts_again [] number geometry [] (inr (usual, tells)) few = (Allowed, rw usual refl)
starts_again [] number geometry (draft ∷ drafts) (inr (usual, tells)) few = absurd (nothing_said draft drafts tells)
starts_again (line ∷ lines) number geometry drafts tells few =
    elim (is_comment line) as (λ t. is_comment line ≡ t → SizesAndDrafts (cond (not t) (line ∷ uncommented lines) (uncommented lines)) geometry drafts
    → StartsAgain (line_then number no_drafts (line_told Allowed line) lines) geometry drafts) [
      | true ↦ λ sign rest. rw (comment_told Allowed line sign) (starts_again lines (number + 1) geometry drafts rest few)
      | false ↦ λ plain rest. start_again line lines number geometry drafts plain rest few (λ others. starts_again lines (number + 1) geometry drafts others few)
    ] refl tells

pub drafts_are_told : DraftsAreTold
drafts_are_told lines geometry drafts = (
  λ (later, is). let s = starts lines 1 (record { size_line = later; geometry = geometry; ended = drafts; current = None }) is in record { lines_tell = s.0; few = s.1 },
  λ (t : TellDrafts lines geometry drafts). starts_again lines 1 geometry drafts t.lines_tell t.few,
)
