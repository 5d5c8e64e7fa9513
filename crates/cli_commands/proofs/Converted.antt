-- Records converted to order lines, and back.
use Rattle.std.proofs.Common.{◌≡◌, ◌<◌, ◌≤◌, ℕ, ◌+◌, ◌-◌, false, ltb, List, [], ◌∷◌, ◌++◌, length, map, Option, Some, None, Ok, Err, refl, sym, ap, ◌∙◌, arith, inl, inr, append_assoc, append-nil, length-append}
use Rattle.std.specs.List.{flat_map}
use Rattle.std.proofs.lemmas.Bool.{le-ltb}
use Rattle.std.proofs.lemmas.Bool.Decides.{nat_tests}
use Rattle.std.proofs.lemmas.List.Concat.{flat_map-cons}
use Rattle.std.proofs.lemmas.List.{map-append}
use Rattle.std.proofs.Math.Seq.{get_or-append_seam}
use Rattle.std.specs.Prelude.{Result, slice_index}
use Rattle.cli_commands.specs.declared.fault.Fault.{Fault}
use Rattle.bstr.specs.Text.{lines_of, without_terminator}
use Rattle.bstr.proofs.lemmas.LineLemmas.{lines-append}
use Rattle.ds_codec.specs.declared.size.Mode.{Mode}
use Rattle.ds_codec.specs.declared.size.Size.{Size}
use Rattle.ds_codec.specs.declared.command.Command.{Command}
use Rattle.ds_codec.specs.declared.command.Command.TheVariants as commands
use Rattle.ds_codec.specs.Geometry.{Sizes, cells_of, limit_of}
use Rattle.ds_codec.specs.Order.{Item, text, start_field, start_field_extended, set_buffer_address, set_attribute, modify_field, insert_cursor, program_tab, repeat_to_address, erase_unprotected_to_address, graphic_escape, Site}
use Rattle.ds_codec.specs.Record.{Message}
use Rattle.ds_codec.specs.Reading.{read_of}
use Rattle.order_lines.specs.Print.{command_words, order_words, order_line, record_lines}
use Rattle.order_lines.specs.Told.{command, order, told_of}
use Rattle.order_lines.specs.Draft.{Draft}
use Rattle.order_lines.specs.Laws.{SayAgain, AreToldAgain, IsToldAgain, draft_of}
use Rattle.order_lines.proofs.Spelled.{lines_tell_again, written_again}
use Rattle.cli_commands.specs.Lines.{lines_in}
use Rattle.cli_commands.specs.declared.input.sizes.SizeLine.{SizeLine}
use Rattle.cli_commands.specs.declared.input.sizes.SizeLine.TheVariants.{Allowed, Refused}
use Rattle.cli_commands.specs.Convert.{lines_or_refusal, lines_printed}
use Rattle.cli_commands.specs.Drafts.{empty, words, text_told, line_told, Drafts, no_drafts, take_order_line, drafts_in_lines}
use Rattle.cli_commands.specs.Taking.{taken}
use Rattle.cli_commands.specs.declared.status.Status.TheVariants.{Done}
use Rattle.cli_commands.specs.Printed.{printed, joined}
use Rattle.cli_commands.specs.Lines.{within_limit}
use Rattle.cli_commands.specs.Back.{size_after, bytes_line, lines_written, printed_back}
use Rattle.cli_commands.specs.Law.{AreBytes, AreTheSame, AllInside, TellsSizes, ConvertsBack}
use Rattle.cli_commands.specs.Sizes.{usual_sizes}
use Rattle.cli_commands.proofs.ToldSizes.{AreAddressed, are_addressed}
use Rattle.cli_commands.proofs.PlainLines.{plain_utf8, first_line, no_lines}

-- ---- what is said by the lines

order_text : (item : Item) → told_of (order_words item) ≡ Some (order item) → text_told Refused (order_words item) ≡ words (order item)
order_text (text run) told = rw told refl
order_text (start_field attribute) told = rw told refl
order_text (start_field_extended pairs) told = rw told refl
order_text (set_buffer_address address) told = rw told refl
order_text (set_attribute kind value) told = rw told refl
order_text (modify_field pairs) told = rw told refl
order_text insert_cursor told = rw told refl
order_text program_tab told = rw told refl
order_text (repeat_to_address address character) told = rw told refl
order_text (erase_unprotected_to_address address) told = rw told refl
order_text (graphic_escape code) told = rw told refl

order_said : (item : Item) → SayAgain (order_words item) (order item) → line_told Refused (order_words item) ≡ words (order item)
unfolding line_told
order_said item (told, plain) = rw (plain_utf8 (order_words item) plain) (order_text item told)

command_text : (size_line : SizeLine) (told : Command) → told_of (command_words told) ≡ Some (command told) → text_told size_line (command_words told) ≡ words (command told)
command_text Allowed (commands.Write wcc) told = rw told refl
command_text Allowed (commands.EraseWrite wcc) told = rw told refl
command_text Allowed (commands.EraseWriteAlternate wcc) told = rw told refl
command_text Allowed commands.EraseAllUnprotected told = rw told refl
command_text Allowed commands.ReadBuffer told = rw told refl
command_text Allowed commands.ReadModified told = rw told refl
command_text Allowed commands.ReadModifiedAll told = rw told refl
command_text Allowed commands.NoOperation told = rw told refl
command_text Refused (commands.Write wcc) told = rw told refl
command_text Refused (commands.EraseWrite wcc) told = rw told refl
command_text Refused (commands.EraseWriteAlternate wcc) told = rw told refl
command_text Refused commands.EraseAllUnprotected told = rw told refl
command_text Refused commands.ReadBuffer told = rw told refl
command_text Refused commands.ReadModified told = rw told refl
command_text Refused commands.ReadModifiedAll told = rw told refl
command_text Refused commands.NoOperation told = rw told refl

command_said : (size_line : SizeLine) (told : Command) → SayAgain (command_words told) (command told) → line_told size_line (command_words told) ≡ words (command told)
unfolding line_told
command_said size_line told (again, plain) = rw (plain_utf8 (command_words told) plain) (command_text size_line told again)

nothing_said : (size_line : SizeLine) → line_told size_line [] ≡ empty
unfolding line_told
nothing_said size_line = rw (plain_utf8 [] refl) refl

-- ---- the lines of a record

abbrev words_of : List Site → List (List ℕ)
words_of sites = map (λ site. order_words site.order) sites

abbrev feed : List ℕ
feed = 10 ∷ []

order_lines : (sites : List Site) (more : List ℕ) → AreToldAgain sites → lines_in (flat_map order_line sites ++ (feed ++ more)) ≡ words_of sites ++ [] ∷ lines_in more
order_lines [] more told = first_line [] more refl
order_lines (site ∷ sites) more (first, others) =
    rw (flat_map-cons order_line site sites, append_assoc (order_line site) (flat_map order_line sites) (feed ++ more))
    (first_line (order_words site.order) (flat_map order_line sites ++ (feed ++ more)) first.1 ∙ ap (λ lines. order_words site.order ∷ lines) (order_lines sites more others))

lines_of_record : (message : Message) (more : List ℕ) → IsToldAgain message → lines_in (record_lines message ++ more) ≡ command_words message.command ∷ (words_of message.orders ++ [] ∷ lines_in more)
lines_of_record message more told =
    let command_line = command_words message.command ++ feed in
    let orders = flat_map order_line message.orders in
    rw (append_assoc command_line (orders ++ feed) more, append_assoc orders feed more)
    (first_line (command_words message.command) (orders ++ (feed ++ more)) told.its_command.1 ∙ ap (λ lines. command_words message.command ∷ lines) (order_lines message.orders more told.its_orders))

-- ---- the records that lines tell

abbrev state : SizeLine → Sizes → List Draft → Option Draft → Drafts
state size_line geometry ended current = record { size_line = size_line; geometry = geometry; ended = ended; current = current }

abbrev with_orders : Draft → List Item → Draft
with_orders draft more = record draft { orders = draft.orders ++ more }

abbrev Leads : ℕ → Drafts → List (List ℕ) → Drafts → List (List ℕ) → Type 0
Leads number from lines to rest = (later : ℕ) × (taken take_order_line number from lines ≡ taken take_order_line later to rest)

orders_taken : (sites : List Site) (number : ℕ) (geometry : Sizes) (ended : List Draft) (draft : Draft) (rest : List (List ℕ)) → AreToldAgain sites
    → Leads number (state Refused geometry ended (Some draft)) (words_of sites ++ rest) (state Refused geometry ended (Some (with_orders draft (map (λ site. site.order) sites)))) rest
orders_taken [] number geometry ended draft rest told = (number, rw (append-nil draft.orders) refl)
orders_taken (site ∷ sites) number geometry ended draft rest (first, others) =
    let later = orders_taken sites (number + 1) geometry ended (with_orders draft (site.order ∷ [])) rest others in
    let one : taken take_order_line number (state Refused geometry ended (Some draft)) (words_of (site ∷ sites) ++ rest) ≡ taken take_order_line (number + 1) (state Refused geometry ended (Some (with_orders draft (site.order ∷ [])))) (words_of sites ++ rest) =
    rw (order_said site.order first) refl in
    (later.0, one ∙ later.1 ∙ rw (append_assoc draft.orders (site.order ∷ []) (map (λ site. site.order) sites)) refl)

record_taken : (message : Message) (number : ℕ) (begun : SizeLine) (geometry : Sizes) (ended : List Draft) (rest : List (List ℕ)) → IsToldAgain message → length ended < 1000
    → Leads number (state begun geometry ended None) (command_words message.command ∷ (words_of message.orders ++ [] ∷ rest)) (state Refused geometry (ended ++ draft_of message ∷ []) None) rest
record_taken message number begun geometry ended rest told few =
    let room : ltb 1000 (length ended + 1) ≡ false = grind (arith, nat_tests) in
    let first : taken take_order_line number (state begun geometry ended None) (command_words message.command ∷ (words_of message.orders ++ [] ∷ rest))
    ≡ taken take_order_line (number + 1) (state Refused geometry ended (Some (record { command = message.command; orders = [] }))) (words_of message.orders ++ [] ∷ rest) =
    rw (command_said begun message.command told.its_command, room) refl in
    let orders = orders_taken message.orders (number + 1) geometry ended (record { command = message.command; orders = [] }) ([] ∷ rest) told.its_orders in
    let last : taken take_order_line orders.0 (state Refused geometry ended (Some (draft_of message))) ([] ∷ rest) ≡ taken take_order_line (orders.0 + 1) (state Refused geometry (ended ++ draft_of message ∷ []) None) rest =
    rw (nothing_said Refused) refl in
    (orders.0 + 1, first ∙ orders.1 ∙ last)

-- ---- all records

-- what each record says
abbrev AreRead : Mode → List (List ℕ) → List Message → Type 0
AreRead mode [] [] = Unit {0}
AreRead mode [] (message ∷ messages) = ⊥
AreRead mode (bytes ∷ records) [] = ⊥
AreRead mode (bytes ∷ records) (message ∷ messages) = (read_of mode bytes ≡ Ok message) × AreRead mode records messages

-- lines are printed of records that can all be read
abbrev ArePrinted : Mode → List (List ℕ) → List ℕ → Type 0
ArePrinted mode records lines = (messages : List Message) × AreRead mode records messages × (lines ≡ flat_map record_lines messages)

-- the lines of the first record, and those of the others
one_printed : (mode : Mode) (bytes : List ℕ) (records : List (List ℕ)) (message : Message) (others : Result (List ℕ) Fault) (lines : List ℕ) → read_of mode bytes ≡ Ok message
    → joined (Ok (record_lines message)) others ≡ Ok lines → ((rest : List ℕ) → others ≡ Ok rest → ArePrinted mode records rest) → ArePrinted mode (bytes ∷ records) lines
one_printed mode bytes records message (Err fault) lines read done more = absurd cc
one_printed mode bytes records message (Ok rest) lines read done more =
    let all = more rest refl in
    let same : record_lines message ++ rest ≡ lines = cc in
    (message ∷ all.0, (read, all.1), sym same ∙ ap (λ others. record_lines message ++ others) all.2 ∙ sym (flat_map-cons record_lines message all.0))

printed_lines : (mode : Mode) (records : List (List ℕ)) (index : ℕ) (lines : List ℕ) → lines_printed mode index records ≡ Ok lines → ArePrinted mode records lines
printed_lines mode [] index lines done = let same : [] ≡ lines = cc in ([], tt, sym same)
printed_lines mode (bytes ∷ records) index lines done =
    elim (read_of mode bytes) as (λ r. read_of mode bytes ≡ r → joined (lines_or_refusal index r) (lines_printed mode (index + 1) records) ≡ Ok lines → ArePrinted mode (bytes ∷ records) lines) [
      | Ok message ↦ λ read done. one_printed mode bytes records message (lines_printed mode (index + 1) records) lines read done (printed_lines mode records (index + 1))
      | Err e ↦ λ read later. absurd cc
    ] refl done

-- their lines tell the same records
all_taken : (records : List (List ℕ)) (messages : List Message) (number : ℕ) (begun : SizeLine) (geometry : Sizes) (ended : List Draft) → AreRead geometry.mode records messages → AreBytes records
    → length ended + length records ≤ 1000
    → (later : SizeLine) × (taken take_order_line number (state begun geometry ended None) (lines_in (flat_map record_lines messages)) ≡ Ok (state later geometry (ended ++ map draft_of messages) None))
all_taken [] [] number begun geometry ended read bytes few = (begun, rw (no_lines, append-nil ended) refl)
all_taken [] (message ∷ messages) number begun geometry ended read bytes few = absurd read
all_taken (bytes ∷ records) [] number begun geometry ended read all few = absurd read
all_taken (bytes ∷ records) (message ∷ messages) number begun geometry ended (read, others) (byte, all) few =
    let told = lines_tell_again geometry.mode bytes message byte read in
    let lines : lines_in (flat_map record_lines (message ∷ messages)) ≡ command_words message.command ∷ (words_of message.orders ++ [] ∷ lines_in (flat_map record_lines messages)) =
    rw (flat_map-cons record_lines message messages) (lines_of_record message (flat_map record_lines messages) told) in
    let one = record_taken message number begun geometry ended (lines_in (flat_map record_lines messages)) told (omega arith) in
    let rest = all_taken records messages one.0 Refused geometry (ended ++ draft_of message ∷ []) others all (omega (arith, length-append ended (draft_of message ∷ []))) in
    (rest.0, rw lines (one.1 ∙ rest.1 ∙ rw (append_assoc ended (draft_of message ∷ []) (map draft_of messages)) refl))

size_stays : (geometry : Sizes) (size : Size) (told : Command) → AreAddressed geometry → cells_of size ≤ limit_of geometry.mode → cells_of (size_after geometry size told) ≤ limit_of geometry.mode
size_stays geometry size (commands.Write wcc) good few = few
size_stays geometry size (commands.EraseWrite wcc) good few = good.0
size_stays geometry size (commands.EraseWriteAlternate wcc) good few = good.1
size_stays geometry size commands.EraseAllUnprotected good few = few
size_stays geometry size commands.ReadBuffer good few = few
size_stays geometry size commands.ReadModified good few = few
size_stays geometry size commands.ReadModifiedAll good few = few
size_stays geometry size commands.NoOperation good few = few

-- and they are written again
all_written : (records : List (List ℕ)) (messages : List Message) (geometry : Sizes) (size : Size) (index : ℕ) → AreRead geometry.mode records messages → AreBytes records → AreAddressed geometry
    → cells_of size ≤ limit_of geometry.mode → AllInside geometry size records
    → (others : List (List ℕ)) × (lines_written geometry size index (map draft_of messages) ≡ Ok (flat_map bytes_line others)) × AreTheSame geometry.mode records others
all_written [] [] geometry size index read bytes good few inside = ([], refl, tt)
all_written [] (message ∷ messages) geometry size index read bytes good few inside = absurd read
all_written (bytes ∷ records) [] geometry size index read all good few inside = absurd read
all_written (bytes ∷ records) (message ∷ messages) geometry size index (read, more) (byte, all) good few inside =
    let here = inside message read in
    let now = size_after geometry size message.command in
    let stays = size_stays geometry size message.command good few in
    let one = written_again geometry.mode geometry.mode (cells_of now) bytes message byte read stays here.0 in
    let rest = all_written records messages geometry now (index + 1) more all good stays here.1 in (
      one.0 ∷ rest.0,
      rw (one.1, rest.1, flat_map-cons bytes_line one.0 rest.0) refl,
      ((message, read, one.2), rest.2),
    )

-- ---- the whole

abbrev Taken : List ℕ → Sizes → List Message → Type 0
Taken input geometry messages = (later : SizeLine) × (taken take_order_line 1 no_drafts (lines_in input) ≡ Ok (state later geometry (map draft_of messages) None))

-- a line of sizes comes first, or none
sizes_taken : (told : List ℕ) (geometry : Sizes) (records : List (List ℕ)) (messages : List Message) → TellsSizes told geometry → AreRead geometry.mode records messages → AreBytes records → length records ≤ 1000
    → Taken (told ++ flat_map record_lines messages) geometry messages
sizes_taken told geometry records messages (inl (none, usual)) read bytes few =
    let usually : AreRead usual_sizes.mode records messages = rw usual at read in
    rw (none, usual) (all_taken records messages 1 Allowed usual_sizes [] usually bytes (omega arith))
sizes_taken told geometry records messages (inr (line, is, one, said)) read bytes few =
    let lines = flat_map record_lines messages in
    let ends : slice_index told (length told - 1) ≡ 10 =
    let at : length (line ++ feed) - 1 ≡ length line = omega (arith, length-append line feed) in rw (is, at) (get_or-append_seam line 10 [] 0) in
    let both : lines_of (told ++ lines) ≡ lines_of told ++ lines_of lines = lines-append (length told) told lines (omega arith) (inr ends) in
    let front : lines_in (told ++ lines) ≡ line ∷ lines_in lines = ap (map without_terminator) both ∙ map-append without_terminator (lines_of told) (lines_of lines) ∙ ap (λ front. front ++ lines_in lines) one in
    let rest = all_taken records messages 2 Refused geometry [] read bytes (omega arith) in
    (rest.0, rw (front, said) rest.1)

short_input : (input : List ℕ) → length input ≤ 16777216 → within_limit input ≡ Ok input
unfolding within_limit
short_input input short = rw (le-ltb 16777216 (length input) short) refl

-- the whole input is converted back
back_again : (told : List ℕ) (geometry : Sizes) (records : List (List ℕ)) (messages : List Message) → TellsSizes told geometry → AreRead geometry.mode records messages → AreBytes records → length records ≤ 1000
    → AllInside geometry geometry.default records → length (told ++ flat_map record_lines messages) ≤ 16777216
    → (others : List (List ℕ)) × (printed_back (told ++ flat_map record_lines messages) ≡ printed (flat_map bytes_line others) Done) × AreTheSame geometry.mode records others
back_again told geometry records messages sizes read bytes few inside short =
    let good = are_addressed told geometry sizes in
    let taken = sizes_taken told geometry records messages sizes read bytes few in
    let written = all_written records messages geometry geometry.default 0 read bytes good good.0 inside in
    let again : drafts_in_lines (lines_in (told ++ flat_map record_lines messages)) ≡ Ok (state taken.0 geometry (map draft_of messages) None) = rw taken.1 refl in
    (written.0, rw (short_input (told ++ flat_map record_lines messages) short, again, written.1) refl, written.2)

pub converts_back : ConvertsBack
converts_back told geometry records lines sizes bytes few done inside short =
    let all = printed_lines geometry.mode records 0 lines done in
    let again = back_again told geometry records all.0 sizes all.1 bytes few inside (rw all.2 at short) in
    (again.0, ap (λ text. printed_back (told ++ text)) all.2 ∙ again.1, again.2)
