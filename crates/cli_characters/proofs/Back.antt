-- Records whose orders are printed with characters, and converted back.
use Rattle.std.proofs.Common.{◌≡◌, ◌≤◌, ℕ, ◌+◌, true, false, List, [], ◌∷◌, ◌++◌, length, Some, Ok, refl, sym, arith, inl, inr, append_assoc}
use Rattle.std.specs.Prelude.{nat_eq, Result, Err}
use Rattle.std.specs.List.{flat_map, starts_with}
use Rattle.std.proofs.lemmas.List.Concat.{flat_map-cons}
use Rattle.std.proofs.lemmas.Bool.{le-ltb}
use Rattle.hex.specs.Hex.{IsBytes, encode_upper, encode_with, decode_pairs}
use Rattle.hex.proofs.HexLemmas.{decode_of-encode_upper}
use Rattle.ds_codec.specs.declared.command.Command.{Command}
use Rattle.ds_codec.specs.declared.command.Command.TheVariants as commands
use Rattle.ds_codec.specs.declared.size.Mode.{Mode}
use Rattle.ds_codec.specs.Order.{Item, text, start_field, start_field_extended, set_buffer_address, set_attribute, modify_field, insert_cursor, program_tab, repeat_to_address, erase_unprotected_to_address, graphic_escape, Site}
use Rattle.ds_codec.specs.Record.{Message}
use Rattle.ds_codec.specs.Reading.{read_of}
use Rattle.order_lines.specs.Laws.{are_plain, AreToldAgain, IsToldAgain}
use Rattle.order_lines.specs.Print.{command_words, order_words, order_line, record_lines}
use Rattle.order_lines.proofs.Plain.{plain-append}
use Rattle.order_lines.proofs.Spelled.{lines_tell_again}
use Rattle.cli_commands.specs.declared.fault.Fault.{Fault}
use Rattle.cli_commands.specs.Convert.{lines_or_refusal, lines_printed}
use Rattle.cli_commands.specs.Law.{AreBytes}
use Rattle.cli_commands.specs.Lines.{within_limit}
use Rattle.cli_commands.specs.Printed.{joined}
use Rattle.cli_commands.proofs.Converted.{converts_back}
use Rattle.cli_characters.specs.Laws.{IsPlainLine, CharactersConvertBack}
use Rattle.cli_characters.specs.declared.runs.Before.TheVariants as before
use Rattle.cli_characters.specs.Operand.{told_of}
use Rattle.cli_characters.specs.Orders.{word, character_line, character_text, plain_line, plain_text}
use Rattle.cli_characters.specs.Runs.{runs}
use Rattle.cli_characters.proofs.PlainRuns.{keeps_all, plain_first, plain_after, are_bytes}
use Rattle.cli_characters.proofs.Read.{runs_are_read}

-- a line that is read again as it is printed
record IsAgain (words : List ℕ) : Type 0 where
  stays_plain : are_plain (character_line words) ≡ true
  again : plain_line (character_line words) ≡ words

-- a line of no text stays
other_line : (words : List ℕ) → starts_with nat_eq words word ≡ false → are_plain words ≡ true → IsAgain words
unfolding character_line plain_line
other_line words other plain = record { stays_plain = rw other plain; again = rw (other, other) refl }

rest_plain : (cs : List ℕ) → are_plain (word ++ cs) ≡ true → are_plain cs ≡ true
rest_plain cs plain = plain

of_text : (run : List ℕ) → are_plain (word ++ encode_upper run) ≡ true → IsAgain (word ++ encode_upper run)
unfolding character_line plain_line encode_with decode_pairs
of_text [] plain = record { stays_plain = refl; again = refl }
of_text (b ∷ bs) plain =
    let run = b ∷ bs in
    let small : IsBytes run = are_bytes run (rest_plain (encode_upper run) plain) in
    let digits = decode_of-encode_upper run small in
    let shown : are_plain (word ++ runs run) ≡ true = plain-append word (runs run) refl (plain_after before.Nothing run small) in
    let read : told_of (runs run) ≡ Some run = runs_are_read run small (omega arith) in
    record { stays_plain = rw digits shown; again = rw (digits, keeps_all (word ++ runs run) shown, read) refl }

order_again : (item : Item) → are_plain (order_words item) ≡ true → IsAgain (order_words item)
order_again (text run) plain = of_text run plain
order_again (start_field attribute) plain = other_line _ refl plain
order_again (start_field_extended pairs) plain = other_line _ refl plain
order_again (set_buffer_address address) plain = other_line _ refl plain
order_again (set_attribute kind value) plain = other_line _ refl plain
order_again (modify_field pairs) plain = other_line _ refl plain
order_again insert_cursor plain = other_line _ refl plain
order_again program_tab plain = other_line _ refl plain
order_again (repeat_to_address address character) plain = other_line _ refl plain
order_again (erase_unprotected_to_address address) plain = other_line _ refl plain
order_again (graphic_escape code) plain = other_line _ refl plain

command_again : (told : Command) → are_plain (command_words told) ≡ true → IsAgain (command_words told)
command_again (commands.Write wcc) plain = other_line _ refl plain
command_again (commands.EraseWrite wcc) plain = other_line _ refl plain
command_again (commands.EraseWriteAlternate wcc) plain = other_line _ refl plain
command_again commands.EraseAllUnprotected plain = other_line _ refl plain
command_again commands.ReadBuffer plain = other_line _ refl plain
command_again commands.ReadModified plain = other_line _ refl plain
command_again commands.ReadModifiedAll plain = other_line _ refl plain
command_again commands.NoOperation plain = other_line _ refl plain

-- ---- texts

abbrev RoundTrips : List ℕ → Type 0
RoundTrips lines = plain_text (character_text lines) ≡ lines

line_again : (words more : List ℕ) → are_plain words ≡ true → IsAgain words → RoundTrips more → RoundTrips (words ++ (10 ∷ more))
line_again words more plain good rest =
    rw (plain_first character_line words more plain, plain_first plain_line (character_line words) (character_text more) good.stays_plain, good.again, rest) refl

empty_again : (more : List ℕ) → RoundTrips more → RoundTrips (10 ∷ more)
empty_again more rest = line_again [] more refl (other_line [] refl refl) rest

orders_again : (sites : List Site) (more : List ℕ) → AreToldAgain sites → RoundTrips more → RoundTrips (flat_map order_line sites ++ (10 ∷ more))
orders_again [] more told rest = empty_again more rest
orders_again (site ∷ sites) more (first, others) rest =
    rw (flat_map-cons order_line site sites, append_assoc (order_line site) (flat_map order_line sites) (10 ∷ more), append_assoc (order_words site.order) (10 ∷ []) (flat_map order_line sites ++ (10 ∷ more)))
    (line_again (order_words site.order) (flat_map order_line sites ++ (10 ∷ more)) first.1 (order_again site.order first.1) (orders_again sites more others rest))

pub record_again : (message : Message) (more : List ℕ) → IsToldAgain message → RoundTrips more → RoundTrips (record_lines message ++ more)
record_again message more told rest =
    let orders = flat_map order_line message.orders in
    rw (append_assoc (command_words message.command ++ (10 ∷ [])) (orders ++ (10 ∷ [])) more, append_assoc orders (10 ∷ []) more, append_assoc (command_words message.command) (10 ∷ []) (orders ++ (10 ∷ more)))
    (line_again (command_words message.command) (orders ++ (10 ∷ more)) told.its_command.1 (command_again message.command told.its_command.1) (orders_again message.orders more told.its_orders rest))

nothing_again : RoundTrips []
unfolding character_line plain_line
nothing_again = refl

one_again : (message : Message) (later : Result (List ℕ) Fault) (lines : List ℕ) → joined (Ok (record_lines message)) later ≡ Ok lines → IsToldAgain message
    → ((more : List ℕ) → later ≡ Ok more → RoundTrips more) → RoundTrips lines
one_again message (Ok more) lines done told rest = let same : record_lines message ++ more ≡ lines = cc in rw (sym same) (record_again message more told (rest more refl))
one_again message (Err e) lines done told rest = absurd cc

-- the lines of all records
lines_again : (mode : Mode) (records : List (List ℕ)) (index : ℕ) (lines : List ℕ) → AreBytes records → lines_printed mode index records ≡ Ok lines → RoundTrips lines
lines_again mode [] index lines all done = let same : [] ≡ lines = cc in rw (sym same) nothing_again
lines_again mode (bytes ∷ records) index lines (byte, all) done =
    elim (read_of mode bytes) as (λ r. read_of mode bytes ≡ r → joined (lines_or_refusal index r) (lines_printed mode (index + 1) records) ≡ Ok lines → RoundTrips lines) [
      | Ok message ↦ λ read done. one_again message (lines_printed mode (index + 1) records) lines done (lines_tell_again mode bytes message byte read) (λ more. lines_again mode records (index + 1) more all)
      | Err e ↦ λ read later. absurd cc
    ] refl done

-- ---- the law

-- a line of sizes stays before them
told_again : (told : List ℕ) → IsPlainLine told → (more rest : List ℕ) → plain_text more ≡ rest → plain_text (told ++ more) ≡ told ++ rest
unfolding plain_line
told_again told (inl none) more rest is = rw none is
told_again told (inr (line, same, plain, other)) more rest is =
    rw (same, append_assoc line (10 ∷ []) more, append_assoc line (10 ∷ []) rest, plain_first plain_line line more plain, other, is) refl

short_input : (input : List ℕ) → length input ≤ 16777216 → within_limit input ≡ Ok input
unfolding within_limit
short_input input short = rw (le-ltb 16777216 (length input) short) refl

pub characters_convert_back : CharactersConvertBack
characters_convert_back told geometry records lines keeps sizes bytes few done inside short also =
    let again = converts_back told geometry records lines sizes bytes few done inside short in
    let plain : plain_text (told ++ character_text lines) ≡ told ++ lines = told_again told keeps (character_text lines) lines (lines_again geometry.mode records 0 lines bytes done) in
    (again.0, rw (short_input (told ++ character_text lines) also, plain) again.1, again.2)
