-- Each text and each list of pairs is the bytes of the record where it stands.
use Rattle.std.proofs.Common.{◌≡◌, ℕ, ◌+◌, List, [], ◌∷◌, ◌++◌, length, take, drop, Option, Some, None, Result, Ok, Err, refl, sym, ◌∙◌, ap, subst}
use Rattle.std.specs.Prelude.{IfOk}
use Rattle.std.proofs.Common.{length-append, append_assoc}
use Rattle.std.proofs.Math.Seq.{drop-append_seam, drop-append-add, take-append_seam}
use Rattle.ds_codec.specs.declared.size.Mode.{Mode}
use Rattle.ds_codec.specs.declared.refused.Refused.{Refused}
use Rattle.ds_codec.specs.Command.{wcc_of}
use Rattle.ds_codec.specs.Order.{Item, Site, text, start_field, start_field_extended, set_buffer_address, set_attribute, modify_field, insert_cursor, program_tab, repeat_to_address, erase_unprotected_to_address, graphic_escape, SpellsPairs, SpellsOrder}
use Rattle.ds_codec.specs.Record.{Message, AreSpelled, SpellsRest, SpellsRecord, LiesAt, AreLaidOut}
use Rattle.ds_codec.specs.Reading.{read_of}
use Rattle.ds_codec.proofs.Records.{is_spelled}

text_laid : (before part rest run : List ℕ) → part ≡ run → take (length run) (drop (length before) (before ++ (part ++ rest))) ≡ run
text_laid before part rest run is =
    ap (take (length run)) (drop-append_seam before (part ++ rest)) ∙ ap (λ p. take (length run) (p ++ rest)) is ∙ take-append_seam run rest

pairs_laid : (before part rest more pairs : List ℕ) (code : ℕ) → part ≡ code ∷ more → SpellsPairs pairs more
    → take (length pairs) (drop (length before + 2) (before ++ (part ++ rest))) ≡ pairs
pairs_laid before part rest more pairs code is (count, counted, long, types) =
    ap (take (length pairs)) (drop-append-add before (part ++ rest) 2)
    ∙ ap (λ p. take (length pairs) (drop 2 (p ++ rest))) (is ∙ ap (λ m. code ∷ m) counted) ∙ take-append_seam pairs rest

order_laid : (mode : Mode) (before part rest : List ℕ) (order : Item) → SpellsOrder mode order part → LiesAt (before ++ (part ++ rest)) (length before) order
order_laid mode before part rest (text run) spelled = text_laid before part rest run spelled.0
order_laid mode before part rest (start_field_extended pairs) (more, is, counted) = pairs_laid before part rest more pairs 0x29 is counted
order_laid mode before part rest (modify_field pairs) (more, is, counted) = pairs_laid before part rest more pairs 0x2C is counted
order_laid mode before part rest (start_field attribute) spelled = tt
order_laid mode before part rest (set_buffer_address address) spelled = tt
order_laid mode before part rest (set_attribute kind value) spelled = tt
order_laid mode before part rest insert_cursor spelled = tt
order_laid mode before part rest program_tab spelled = tt
order_laid mode before part rest (repeat_to_address stop character) spelled = tt
order_laid mode before part rest (erase_unprotected_to_address stop) spelled = tt
order_laid mode before part rest (graphic_escape code) spelled = tt

all_laid : (mode : Mode) (before : List ℕ) (at : ℕ) (sites : List Site) (bytes : List ℕ) → at ≡ length before → AreSpelled mode at sites bytes → AreLaidOut (before ++ bytes) sites
all_laid mode before at [] bytes same spelled = tt
all_laid mode before at (site ∷ sites) bytes same (part, rest, joined, there, order, follows, others) =
    let here : LiesAt (before ++ (part ++ rest)) (length before) site.order = order_laid mode before part rest site.order order in
    let placed : LiesAt (before ++ (part ++ rest)) site.at site.order = subst (λ p. LiesAt (before ++ (part ++ rest)) p site.order) (sym (there ∙ same)) here in
    let longer : at + length part ≡ length (before ++ part) = ap (λ n. n + length part) same ∙ sym (length-append before part) in
    let later : AreLaidOut ((before ++ part) ++ rest) sites = all_laid mode (before ++ part) (at + length part) sites rest longer others in
    (subst (λ b. LiesAt (before ++ b) site.at site.order) (sym joined) placed, subst (λ b. AreLaidOut b sites) (append_assoc before part rest ∙ ap (λ b. before ++ b) (sym joined)) later)

rest_laid : (mode : Mode) (code : ℕ) (wcc : Option ℕ) (orders : List Site) (rest : List ℕ) → SpellsRest mode wcc orders rest → AreLaidOut (code ∷ rest) orders
rest_laid mode code None orders rest spelled = subst (AreLaidOut (code ∷ rest)) (sym spelled.0) tt
rest_laid mode code (Some wcc) orders rest (more, is, spelled) =
    subst (λ b. AreLaidOut (code ∷ b) orders) (sym is) (all_laid mode (code ∷ wcc ∷ []) 2 orders more refl spelled)

record_laid : (mode : Mode) (bytes : List ℕ) (message : Message) → SpellsRecord mode message bytes → AreLaidOut bytes message.orders
record_laid mode bytes message (code, rest, is, known, spelled) =
    subst (λ b. AreLaidOut b message.orders) (sym is) (rest_laid mode code (wcc_of message.command) message.orders rest spelled)

laid_so : (mode : Mode) (bytes : List ℕ) (r : Result Message Refused) → IfOk r (λ message. SpellsRecord mode message bytes) → IfOk r (λ message. AreLaidOut bytes message.orders)
laid_so mode bytes (Ok message) spelled = record_laid mode bytes message spelled
laid_so mode bytes (Err refused) spelled = tt

pub is_laid : (mode : Mode) (bytes : List ℕ) (r : Result Message Refused) → r ≡ read_of mode bytes → IfOk r (λ message. AreLaidOut bytes message.orders)
is_laid mode bytes r is = laid_so mode bytes r (is_spelled mode bytes r is)
