-- Records that are written as their lines come are those that are written at the end.
use Rattle.std.proofs.Common.{◌≡◌, ℕ, ◌+◌, ◌-◌, ◌==◌, Bool, true, false, cond, List, [], ◌∷◌, ◌++◌, length, Option, Some, None, Ok, Err, refl, sym, ap, ◌∙◌, arith, append-nil, length-append}
use Rattle.std.specs.Prelude.{Result}
use Rattle.std.specs.Str.{is_utf8}
use Rattle.ds_codec.specs.declared.size.Size.{Size}
use Rattle.ds_codec.specs.declared.command.Command.{Command}
use Rattle.ds_codec.specs.Geometry.{Sizes, cells_of}
use Rattle.ds_codec.specs.Order.{Item}
use Rattle.ds_codec.specs.Reading.{◌>>=◌}
use Rattle.order_lines.specs.Told.{Told, command, order, told_of}
use Rattle.order_lines.specs.Draft.{Draft, written_of, Partial}
use Rattle.order_lines.proofs.Drafts.{partial_of, begun_is, with_order_is, bytes_in_is}
use Rattle.cli_commands.specs.declared.fault.Fault.{Fault}
use Rattle.cli_commands.specs.declared.input.sizes.SizeLine.{SizeLine}
use Rattle.cli_commands.specs.declared.input.sizes.SizeLine.TheVariants.{Allowed, Refused}
use Rattle.cli_commands.specs.declared.status.Status.TheVariants.{Done}
use Rattle.cli_commands.specs.Lines.{lines_in, at_most, within_limit}
use Rattle.cli_commands.specs.Taking.{taken}
use Rattle.cli_commands.specs.Printed.{printed, joined}
use Rattle.cli_commands.specs.Drafts.{OrderLine, empty, comment, sizes, words, bad, sizes_or_words, text_told, line_told, Drafts, no_drafts, all_drafts, finished, after_command, after_order, after_told, take_order_line, drafts_in, drafts_in_lines}
use Rattle.cli_commands.specs.Back.{size_after, line_or_flaw, lines_written, back}
use Rattle.cli_commands.specs.Backward.{Backward, nothing, ended, begun, added, after_line, take_line, text_after, answer_to}
use Rattle.cli_commands.proofs.Joined.{joined_nothing, joined_assoc}

-- ---- one record more

-- the size of the last record
abbrev size_over : Sizes → Size → List Draft → Size
size_over geometry size [] = size
size_over geometry size (draft ∷ drafts) = size_over geometry (size_after geometry size draft.command) drafts

size_over-last : (geometry : Sizes) (size : Size) (drafts : List Draft) (draft : Draft)
    → size_over geometry size (drafts ++ draft ∷ []) ≡ size_after geometry (size_over geometry size drafts) draft.command
size_over-last geometry size [] draft = refl
size_over-last geometry size (first ∷ drafts) draft = size_over-last geometry (size_after geometry size first.command) drafts draft

abbrev line_of : Sizes → Size → ℕ → Draft → Result (List ℕ) Fault
line_of geometry size index draft = line_or_flaw index (written_of geometry.mode (cells_of size) draft)

joined_end : (all : Result (List ℕ) Fault) → joined all (Ok []) ≡ all
joined_end (Ok text) = let good : List ℕ → Result (List ℕ) Fault = λ t. Ok t in ap good (append-nil text)
joined_end (Err fault) = refl

lines_written-last : (geometry : Sizes) (size : Size) (index at : ℕ) (drafts : List Draft) (draft : Draft) → at ≡ index + length drafts
    → lines_written geometry size index (drafts ++ draft ∷ [])
    ≡ joined (lines_written geometry size index drafts) (line_of geometry (size_after geometry (size_over geometry size drafts) draft.command) at draft)
lines_written-last geometry size index at [] draft is =
    let same : at ≡ index = omega (arith, is) in
    let line = line_of geometry (size_after geometry size draft.command) index draft in
    rw same (joined_end line ∙ sym (joined_nothing line))
lines_written-last geometry size index at (first ∷ drafts) draft is =
    let next = size_after geometry size first.command in
    let line = line_of geometry next index first in
    let later : at ≡ index + 1 + length drafts = omega (arith, is) in
    ap (λ (others : Result (List ℕ) Fault). joined line others) (lines_written-last geometry next (index + 1) at drafts draft later)
    ∙ sym (joined_assoc line (lines_written geometry next (index + 1) drafts) (line_of geometry (size_after geometry (size_over geometry next drafts) draft.command) at draft))

-- ---- as they are written

abbrev count_of : ℕ → Option Draft → ℕ
count_of count None = count
count_of count (Some draft) = count + 1

-- the size of the record after those that have ended
abbrev size_of : Drafts → Command → Size
size_of drafts it = size_after drafts.geometry (size_over drafts.geometry drafts.geometry.default drafts.ended) it

abbrev partly : Drafts → Draft → Partial
partly drafts draft = partial_of drafts.geometry.mode (cells_of (size_of drafts draft.command)) draft

abbrev current_of : Drafts → Option Draft → Option Partial
current_of drafts None = None
current_of drafts (Some draft) = Some (partly drafts draft)

abbrev told_of_drafts : Drafts → SizeLine → ℕ → Option Partial → Backward
told_of_drafts drafts size_line count current =
    record {
      size_line = size_line;
      geometry = drafts.geometry;
      size = size_over drafts.geometry drafts.geometry.default drafts.ended;
      count = count;
      current = current;
      text = lines_written drafts.geometry drafts.geometry.default 0 drafts.ended;
    }

abbrev back_of : Drafts → Backward
back_of drafts = told_of_drafts drafts drafts.size_line (count_of (length drafts.ended) drafts.current) (current_of drafts drafts.current)

-- while a line of sizes may come, there is no record
abbrev IsFirst : Drafts → Type 0
IsFirst drafts = drafts.size_line ≡ Allowed → (drafts.ended ≡ []) × (drafts.current ≡ None)

abbrev Follows : Result Drafts Fault → Result Backward Fault → Type 0
Follows (Ok drafts) told = (told ≡ Ok (back_of drafts)) × IsFirst drafts
Follows (Err fault) told = told ≡ Err fault

not_first : (drafts : Drafts) (draft : Draft) → drafts.current ≡ Some draft → IsFirst drafts → drafts.size_line ≡ Allowed → ⊥
not_first drafts draft is first allowed = let none : None ≡ Some draft = sym (first allowed).1 ∙ is in cc

ended_follows : (drafts : Drafts) (current : Option Draft) → drafts.current ≡ current → IsFirst drafts
    → Follows (Ok (record drafts { ended = all_drafts drafts.ended current; current = None })) (Ok (ended (back_of drafts) (current_of drafts current)))
ended_follows drafts None is first = (rw is refl, λ allowed. ((first allowed).0, refl))
ended_follows drafts (Some draft) is first =
    let geometry = drafts.geometry in
    let index : length drafts.ended + 1 - 1 ≡ 0 + length drafts.ended = omega arith in
    let text = lines_written-last geometry geometry.default 0 (length drafts.ended + 1 - 1) drafts.ended draft index in
    let size = size_over-last geometry geometry.default drafts.ended draft in
    let count : length (drafts.ended ++ draft ∷ []) ≡ length drafts.ended + 1 = length-append drafts.ended (draft ∷ []) in
    let bytes = bytes_in_is geometry.mode (cells_of (size_of drafts draft.command)) draft in
    (rw (is, bytes, text, size, count) refl, λ allowed. absurd (not_first drafts draft is first allowed))

few_follow : (room : Result (Unit {0}) Fault) (drafts : Drafts) (told : Backward) → told ≡ back_of drafts → IsFirst drafts
    → Follows (room >>= λ few. Ok drafts) (room >>= λ few. Ok told)
few_follow (Ok few) drafts told is first = (rw is refl, first)
few_follow (Err fault) drafts told is first = refl

begun_follows : (number : ℕ) (drafts : Drafts) (it : Command) (current : Option Draft) → drafts.current ≡ current
    → Follows (after_command number drafts it current) (begun number (back_of drafts) it (current_of drafts current))
begun_follows number drafts it (Some draft) is = refl
begun_follows number drafts it None is =
    let next : Drafts = record drafts { size_line = Refused; current = Some (record { command = it; orders = [] }) } in
    let same = ap (λ (p : Partial). told_of_drafts drafts Refused (length drafts.ended + 1) (Some p)) (begun_is drafts.geometry.mode (cells_of (size_of drafts it)) it) in
    rw is (few_follow (at_most (length drafts.ended + 1) 1000) next _ same (λ allowed. absurd cc))

added_follows : (number : ℕ) (drafts : Drafts) (it : Item) (current : Option Draft) → drafts.current ≡ current → IsFirst drafts
    → Follows (after_order number drafts it current) (added number (back_of drafts) it (current_of drafts current))
added_follows number drafts it None is first = refl
added_follows number drafts it (Some draft) is first =
    let same = ap (λ (p : Partial). told_of_drafts drafts drafts.size_line (length drafts.ended + 1) (Some p)) (with_order_is drafts.geometry.mode (cells_of (size_of drafts draft.command)) draft it) in
    (rw (is, same) refl, λ allowed. absurd (not_first drafts draft is first allowed))

follows : (number : ℕ) (drafts : Drafts) (line : OrderLine) → IsFirst drafts → ((geometry : Sizes) → line ≡ sizes geometry → drafts.size_line ≡ Allowed)
    → Follows (after_told number drafts line) (after_line number (back_of drafts) line)
follows number drafts empty first may = ended_follows drafts drafts.current refl first
follows number drafts comment first may = (refl, first)
follows number drafts (sizes geometry) first may =
    let none : drafts.ended ≡ [] = (first (may geometry refl)).0 in
    let ended : drafts.current ≡ None = (first (may geometry refl)).1 in
    (rw (none, ended) refl, λ allowed. absurd cc)
follows number drafts (words (command it)) first may = begun_follows number drafts it drafts.current refl
follows number drafts (words (order it)) first may = added_follows number drafts it drafts.current refl first
follows number drafts bad first may = refl

-- ---- a line of sizes comes only where it may

no_sizes : (told : Option Told) (geometry : Sizes) → sizes_or_words None told ≡ sizes geometry → ⊥
no_sizes (Some told) geometry is = cc
no_sizes None geometry is = cc

text_sizes : (line : List ℕ) (geometry : Sizes) → text_told Refused line ≡ sizes geometry → ⊥
text_sizes [] geometry is = cc
text_sizes (b ∷ bs) geometry is =
    elim (b == 0x23) as (λ t. cond t comment (sizes_or_words None (told_of (b ∷ bs))) ≡ sizes geometry → ⊥) [
      | true ↦ λ same. cc
      | false ↦ λ same. no_sizes (told_of (b ∷ bs)) geometry same
    ] is

line_sizes : (line : List ℕ) (geometry : Sizes) (text : Bool) → cond text (text_told Refused line) bad ≡ sizes geometry → ⊥
line_sizes line geometry true is = text_sizes line geometry is
line_sizes line geometry false is = cc

sizes_allowed : (size_line : SizeLine) (line : List ℕ) (geometry : Sizes) → line_told size_line line ≡ sizes geometry → size_line ≡ Allowed
unfolding line_told
sizes_allowed Allowed line geometry is = refl
sizes_allowed Refused line geometry is = absurd (line_sizes line geometry (is_utf8 line) is)

-- ---- all lines

goes_on : (number : ℕ) (lines : List (List ℕ)) (due : Result Drafts Fault) (told : Result Backward Fault) → Follows due told
    → ((next : Drafts) → IsFirst next → Follows (taken take_order_line number next lines) (taken take_line number (back_of next) lines))
    → Follows (due >>= λ next. taken take_order_line number next lines) (told >>= λ next. taken take_line number next lines)
goes_on number lines (Ok drafts) told (is, first) later = rw is (later drafts first)
goes_on number lines (Err fault) told is later = rw is refl

all_follow : (lines : List (List ℕ)) (number : ℕ) (drafts : Drafts) → IsFirst drafts → Follows (taken take_order_line number drafts lines) (taken take_line number (back_of drafts) lines)
all_follow [] number drafts first = (refl, first)
all_follow (line ∷ lines) number drafts first =
    goes_on (number + 1) lines (take_order_line number drafts line) (take_line number (back_of drafts) line)
    (follows number drafts (line_told drafts.size_line line) first (sizes_allowed drafts.size_line line))
    (λ next is. all_follow lines (number + 1) next is)

-- ---- the whole text

abbrev text_in : Result Backward Fault → Result (List ℕ) Fault
text_in (Ok told) = told.text
text_in (Err fault) = Err fault

abbrev written_in : Drafts → Result (List ℕ) Fault
written_in drafts = lines_written drafts.geometry drafts.geometry.default 0 drafts.ended

by_lines : (due : Result Drafts Fault) (told : Result Backward Fault) → Follows due told
    → (told >>= text_after) ≡ ((due >>= λ drafts. Ok (finished drafts)) >>= written_in)
by_lines (Ok drafts) told (is, first) = rw is (ap text_in (ended_follows drafts drafts.current refl first).0)
by_lines (Err fault) told is = rw is refl

by_text : (room : Result (List ℕ) Fault)
    → ((room >>= λ text. taken take_line 1 nothing (lines_in text)) >>= text_after) ≡ ((room >>= λ text. drafts_in_lines (lines_in text)) >>= written_in)
by_text (Ok text) =
    by_lines (taken take_order_line 1 no_drafts (lines_in text)) (taken take_line 1 nothing (lines_in text)) (all_follow (lines_in text) 1 no_drafts (λ allowed. (refl, refl)))
by_text (Err fault) = refl

printed_in : (due : Result Drafts Fault)
    → ((due >>= written_in) >>= λ lines. Ok (printed lines Done)) ≡ (due >>= λ drafts. written_in drafts >>= λ lines. Ok (printed lines Done))
printed_in (Ok drafts) = refl
printed_in (Err fault) = refl

pub written_as_they_end : (input : List ℕ) → answer_to input ≡ back input
written_as_they_end input =
    ap (λ (all : Result (List ℕ) Fault). all >>= λ lines. Ok (printed lines Done)) (by_text (within_limit input)) ∙ printed_in (drafts_in input)
