-- Reading a whole record: the laws of the outbound grammar.
use Rattle.std.proofs.Common.{◌≡◌, ℕ, ◌+◌, true, false, eqb, ◌||◌, List, [], ◌∷◌, ◌++◌, length, Option, Some, None, Result, Ok, Err, refl, sym, ap, subst, ◌∙◌, inl, inr}
use Rattle.std.specs.Prelude.{IfOk, IfErr}
use Rattle.std.specs.List.{list_any}
use Rattle.std.proofs.lemmas.Bool.{eqb-true}
use Rattle.std.proofs.lemmas.List.{append-nil}
use Rattle.ds_codec.specs.declared.size.Mode.{Mode}
use Rattle.ds_codec.specs.declared.command.Command.{Command}
use Rattle.ds_codec.specs.declared.command.Command.TheVariants as command
use Rattle.ds_codec.specs.declared.command.CommandCode.{CommandCode}
use Rattle.ds_codec.specs.declared.command.CommandCode.TheVariants.{Write, EraseWrite, EraseWriteAlternate, EraseAllUnprotected, ReadBuffer, ReadModified, ReadModifiedAll, WriteStructuredField, NoOperation}
use Rattle.ds_codec.specs.declared.order.OrderCode.{OrderCode}
use Rattle.ds_codec.specs.declared.refused.Refused.{Refused}
use Rattle.ds_codec.specs.declared.refused.Why.{Why}
use Rattle.ds_codec.specs.declared.refused.Why.TheVariants.{Empty, UnknownCommand, StructuredField, NoWcc, UnknownOrder, Truncated, ReservedAddress, BadType, BadCharacter, Trailing}
use Rattle.ds_codec.specs.Command.{is_code_of, all_command_codes, command_code_at, command_code_of, wcc_of}
use Rattle.ds_codec.specs.Order.{Site, order_code_at, FaultsAfter, HasFault}
use Rattle.ds_codec.specs.Record.{Message, AreSpelled, SpellsRest, SpellsRecord, is_write, is_alone, FaultsAt, IsRefusedAt, HasOneReading}
use Rattle.ds_codec.specs.Reading.{◌>>=◌, orders_from, write_body, alone_body, body_of, read_of}
use Rattle.ds_codec.proofs.Codes.{either_true}
use Rattle.ds_codec.proofs.Steps.{ok_is}
use Rattle.ds_codec.proofs.Fronts.{find_passes}
use Rattle.ds_codec.proofs.Walk.{WalkSays, walk, walk_again, walk_refused}

-- ---- the code of a command

-- a byte among two is one of them
among_two : (a b byte : ℕ) (P : ℕ → Type 0) → list_any (λ c. eqb c byte) (a ∷ b ∷ []) ≡ true → P a → P b → P byte
among_two a b byte P among first second =
    elim (either_true (eqb a byte) (eqb b byte || false) among) [
      | inl is ↦ subst P (eqb-true a byte is) first
      | inr other ↦ elim (either_true (eqb b byte) false other) [
        | inl is ↦ subst P (eqb-true b byte is) second
        | inr none ↦ absurd cc
      ]
    ]

pub code_again : (byte : ℕ) (code : CommandCode) → is_code_of byte code ≡ true → command_code_at byte ≡ Some code
unfolding command_code_at
code_again byte Write is = among_two 0x01 0xF1 byte (λ k. command_code_at k ≡ Some Write) is refl refl
code_again byte EraseWrite is = among_two 0x05 0xF5 byte (λ k. command_code_at k ≡ Some EraseWrite) is refl refl
code_again byte EraseWriteAlternate is = among_two 0x0D 0x7E byte (λ k. command_code_at k ≡ Some EraseWriteAlternate) is refl refl
code_again byte EraseAllUnprotected is = among_two 0x0F 0x6F byte (λ k. command_code_at k ≡ Some EraseAllUnprotected) is refl refl
code_again byte ReadBuffer is = among_two 0x02 0xF2 byte (λ k. command_code_at k ≡ Some ReadBuffer) is refl refl
code_again byte ReadModified is = among_two 0x06 0xF6 byte (λ k. command_code_at k ≡ Some ReadModified) is refl refl
code_again byte ReadModifiedAll is = among_two 0x0E 0x6E byte (λ k. command_code_at k ≡ Some ReadModifiedAll) is refl refl
code_again byte WriteStructuredField is = among_two 0x11 0xF3 byte (λ k. command_code_at k ≡ Some WriteStructuredField) is refl refl
code_again byte NoOperation is =
    elim (either_true (eqb 0x03 byte) false is) [
      | inl same ↦ subst (λ k. command_code_at k ≡ Some NoOperation) (eqb-true 0x03 byte same) refl
      | inr none ↦ absurd cc
    ]

code_passes : (byte : ℕ) (code : CommandCode) → command_code_at byte ≡ Some code → is_code_of byte code ≡ true
unfolding command_code_at
code_passes byte code e = find_passes (is_code_of byte) all_command_codes code e

-- a byte without a command is a code of none
no_code : (byte : ℕ) (code : CommandCode) → command_code_at byte ≡ None → is_code_of byte code ≡ false
no_code byte code none =
    elim (is_code_of byte code) as (λ b. is_code_of byte code ≡ b → b ≡ false) [
      | true ↦ λ passes. let some : command_code_at byte ≡ Some code = code_again byte code passes in absurd cc
      | false ↦ λ fails. refl
    ] refl

none_has : (byte : ℕ) → ((code : CommandCode) → is_code_of byte code ≡ false) → command_code_at byte ≡ None
none_has byte none =
    elim (command_code_at byte) as (λ o. command_code_at byte ≡ o → o ≡ None) [
      | None ↦ λ e. refl
      | Some code ↦ λ e. let passes : is_code_of byte code ≡ true = code_passes byte code e in let fails : is_code_of byte code ≡ false = none code in absurd cc
    ] refl

-- ---- what reading says is so

-- a fault that no order has
no_such : (mode : Mode) (why : Why) (rest : List ℕ) → ((code : Option OrderCode) (more : List ℕ) → FaultsAfter mode why code more → ⊥) → HasFault mode why rest → ⊥
no_such mode why [] none fault = fault
no_such mode why (byte ∷ more) none fault = none (order_code_at byte) more fault.1

-- the fault of an order is one of those that orders have
as_refused : (mode : Mode) (why : Why) (bytes : List ℕ) (at : ℕ) → FaultsAt mode why bytes at → IsRefusedAt mode bytes at why
as_refused mode UnknownOrder bytes at f = f
as_refused mode Truncated bytes at f = f
as_refused mode ReservedAddress bytes at f = f
as_refused mode BadType bytes at f = f
as_refused mode BadCharacter bytes at f = f
as_refused mode Empty bytes at (code, wcc, early, part, rest, is, write, spelled, at-is, fault) = absurd (no_such mode Empty rest (λ code more f. f) fault)
as_refused mode UnknownCommand bytes at (code, wcc, early, part, rest, is, write, spelled, at-is, fault) = absurd (no_such mode UnknownCommand rest (λ code more f. f) fault)
as_refused mode StructuredField bytes at (code, wcc, early, part, rest, is, write, spelled, at-is, fault) = absurd (no_such mode StructuredField rest (λ code more f. f) fault)
as_refused mode NoWcc bytes at (code, wcc, early, part, rest, is, write, spelled, at-is, fault) = absurd (no_such mode NoWcc rest (λ code more f. f) fault)
as_refused mode Trailing bytes at (code, wcc, early, part, rest, is, write, spelled, at-is, fault) = absurd (no_such mode Trailing rest (λ code more f. f) fault)

-- what a result says of the bytes
abbrev pub ReadSays : Mode → List ℕ → Result Message Refused → Type 0
ReadSays mode bytes (Ok message) = SpellsRecord mode message bytes
ReadSays mode bytes (Err e) = IsRefusedAt mode bytes e.at e.why

write_says : (mode : Mode) (make : ℕ → Command) (code : CommandCode) (byte : ℕ) (rest : List ℕ) → is_write code ≡ true → is_code_of byte code ≡ true
    → ((wcc : ℕ) → command_code_of (make wcc) ≡ code) → ((wcc : ℕ) → wcc_of (make wcc) ≡ Some wcc) → ReadSays mode (byte ∷ rest) (write_body mode make rest)
write_says mode make code byte [] writes passes same wcc-is = (refl, byte, refl, (code, writes, passes))
write_says mode make code byte (wcc ∷ more) writes passes same wcc-is =
    elim (orders_from mode 0 2 more) as (λ r. WalkSays mode 2 more r → ReadSays mode (byte ∷ wcc ∷ more) (r >>= λ orders. Ok (record { command = make wcc; orders = orders }))) [
      | Ok sites ↦ λ says. (byte, wcc ∷ more, refl, rw (same wcc) passes, rw (wcc-is wcc) (more, refl, says))
      | Err e ↦ λ says. as_refused mode e.why (byte ∷ wcc ∷ more) e.at (byte, wcc, says.0, says.1, says.2, ap (λ b. byte ∷ wcc ∷ b) says.3, (code, writes, passes), says.4, says.5, says.6)
    ] (walk mode 2 more)

alone_says : (mode : Mode) (command : Command) (code : CommandCode) (byte : ℕ) (rest : List ℕ) → is_alone code ≡ true → is_code_of byte code ≡ true → command_code_of command ≡ code → wcc_of command ≡ None
    → ReadSays mode (byte ∷ rest) (alone_body command rest)
alone_says mode command code byte [] alone passes same none = (byte, [], refl, rw same passes, rw none (refl, refl))
alone_says mode command code byte (next ∷ rest) alone passes same none = (refl, byte, next, rest, refl, (code, alone, passes))

code_says : (mode : Mode) (byte : ℕ) (rest : List ℕ) (code : CommandCode) → is_code_of byte code ≡ true → ReadSays mode (byte ∷ rest) (body_of mode (Some code) rest)
code_says mode byte rest Write passes = write_says mode (λ wcc. command.Write wcc) Write byte rest refl passes (λ wcc. refl) (λ wcc. refl)
code_says mode byte rest EraseWrite passes = write_says mode (λ wcc. command.EraseWrite wcc) EraseWrite byte rest refl passes (λ wcc. refl) (λ wcc. refl)
code_says mode byte rest EraseWriteAlternate passes = write_says mode (λ wcc. command.EraseWriteAlternate wcc) EraseWriteAlternate byte rest refl passes (λ wcc. refl) (λ wcc. refl)
code_says mode byte rest EraseAllUnprotected passes = alone_says mode command.EraseAllUnprotected EraseAllUnprotected byte rest refl passes refl refl
code_says mode byte rest ReadBuffer passes = alone_says mode command.ReadBuffer ReadBuffer byte rest refl passes refl refl
code_says mode byte rest ReadModified passes = alone_says mode command.ReadModified ReadModified byte rest refl passes refl refl
code_says mode byte rest ReadModifiedAll passes = alone_says mode command.ReadModifiedAll ReadModifiedAll byte rest refl passes refl refl
code_says mode byte rest WriteStructuredField passes = (refl, byte, rest, refl, passes)
code_says mode byte rest NoOperation passes = alone_says mode command.NoOperation NoOperation byte rest refl passes refl refl

pub read_says : (mode : Mode) (bytes : List ℕ) → ReadSays mode bytes (read_of mode bytes)
unfolding read_of
read_says mode [] = (refl, refl)
read_says mode (byte ∷ rest) =
    elim (command_code_at byte) as (λ o. command_code_at byte ≡ o → ReadSays mode (byte ∷ rest) (body_of mode o rest)) [
      | None ↦ λ none. (refl, byte, rest, refl, (λ code. no_code byte code none))
      | Some code ↦ λ some. code_says mode byte rest code (code_passes byte code some)
    ] refl

-- ---- what is so is read

write_again : (mode : Mode) (make : ℕ → Command) (wcc : ℕ) (orders : List Site) (rest : List ℕ) → SpellsRest mode (Some wcc) orders rest
    → write_body mode make rest ≡ Ok (record { command = make wcc; orders = orders })
write_again mode make wcc orders rest (more, is, spelled) =
    let read : orders_from mode 0 2 more ≡ Ok orders = ap (orders_from mode 0 2) (sym (append-nil more)) ∙ walk_again mode 2 orders more [] spelled refl ∙ ap (λ os. Ok os) (append-nil orders) in
    rw (is, read) refl

alone_again : (mode : Mode) (command : Command) (orders : List Site) (rest : List ℕ) → SpellsRest mode None orders rest → alone_body command rest ≡ Ok (record { command = command; orders = orders })
alone_again mode command orders rest (none, is) = rw (is, none) refl

rest_again : (mode : Mode) (command : Command) (orders : List Site) (rest : List ℕ) → SpellsRest mode (wcc_of command) orders rest
    → body_of mode (Some (command_code_of command)) rest ≡ Ok (record { command = command; orders = orders })
rest_again mode (command.Write wcc) orders rest s = write_again mode (λ w. command.Write w) wcc orders rest s
rest_again mode (command.EraseWrite wcc) orders rest s = write_again mode (λ w. command.EraseWrite w) wcc orders rest s
rest_again mode (command.EraseWriteAlternate wcc) orders rest s = write_again mode (λ w. command.EraseWriteAlternate w) wcc orders rest s
rest_again mode command.EraseAllUnprotected orders rest s = alone_again mode command.EraseAllUnprotected orders rest s
rest_again mode command.ReadBuffer orders rest s = alone_again mode command.ReadBuffer orders rest s
rest_again mode command.ReadModified orders rest s = alone_again mode command.ReadModified orders rest s
rest_again mode command.ReadModifiedAll orders rest s = alone_again mode command.ReadModifiedAll orders rest s
rest_again mode command.NoOperation orders rest s = alone_again mode command.NoOperation orders rest s

pub read_again : (mode : Mode) (bytes : List ℕ) (message : Message) → SpellsRecord mode message bytes → read_of mode bytes ≡ Ok message
unfolding read_of
read_again mode bytes message (byte, rest, is, passes, spelled) =
    rw (is, code_again byte (command_code_of message.command) passes) (rest_again mode message.command message.orders rest spelled)

pub has_one_reading : HasOneReading
has_one_reading mode bytes message other first second =
    ok_is Refused message other (sym (read_again mode bytes message first) ∙ read_again mode bytes other second)

write_refused : (mode : Mode) (code : CommandCode) (wcc : ℕ) (part rest : List ℕ) (early : List Site) (why : Why) → is_write code ≡ true → AreSpelled mode 2 early part → HasFault mode why rest
    → body_of mode (Some code) (wcc ∷ (part ++ rest)) ≡ Err (record { at = 2 + length part; why = why })
write_refused mode Write wcc part rest early why writes spelled fault = rw (walk_refused mode 2 early part rest why spelled fault) refl
write_refused mode EraseWrite wcc part rest early why writes spelled fault = rw (walk_refused mode 2 early part rest why spelled fault) refl
write_refused mode EraseWriteAlternate wcc part rest early why writes spelled fault = rw (walk_refused mode 2 early part rest why spelled fault) refl
write_refused mode EraseAllUnprotected wcc part rest early why writes spelled fault = absurd cc
write_refused mode ReadBuffer wcc part rest early why writes spelled fault = absurd cc
write_refused mode ReadModified wcc part rest early why writes spelled fault = absurd cc
write_refused mode ReadModifiedAll wcc part rest early why writes spelled fault = absurd cc
write_refused mode WriteStructuredField wcc part rest early why writes spelled fault = absurd cc
write_refused mode NoOperation wcc part rest early why writes spelled fault = absurd cc

bare_write_refused : (mode : Mode) (code : CommandCode) → is_write code ≡ true → body_of mode (Some code) [] ≡ Err (record { at = 1; why = NoWcc })
bare_write_refused mode Write writes = refl
bare_write_refused mode EraseWrite writes = refl
bare_write_refused mode EraseWriteAlternate writes = refl
bare_write_refused mode EraseAllUnprotected writes = absurd cc
bare_write_refused mode ReadBuffer writes = absurd cc
bare_write_refused mode ReadModified writes = absurd cc
bare_write_refused mode ReadModifiedAll writes = absurd cc
bare_write_refused mode WriteStructuredField writes = absurd cc
bare_write_refused mode NoOperation writes = absurd cc

trailing_refused : (mode : Mode) (code : CommandCode) (next : ℕ) (rest : List ℕ) → is_alone code ≡ true → body_of mode (Some code) (next ∷ rest) ≡ Err (record { at = 1; why = Trailing })
trailing_refused mode Write next rest alone = absurd cc
trailing_refused mode EraseWrite next rest alone = absurd cc
trailing_refused mode EraseWriteAlternate next rest alone = absurd cc
trailing_refused mode EraseAllUnprotected next rest alone = refl
trailing_refused mode ReadBuffer next rest alone = refl
trailing_refused mode ReadModified next rest alone = refl
trailing_refused mode ReadModifiedAll next rest alone = refl
trailing_refused mode WriteStructuredField next rest alone = absurd cc
trailing_refused mode NoOperation next rest alone = refl

order_refused : (mode : Mode) (bytes : List ℕ) (at : ℕ) (why : Why) → FaultsAt mode why bytes at → read_of mode bytes ≡ Err (record { at = at; why = why })
unfolding read_of
order_refused mode bytes at why (byte, wcc, early, part, rest, is, (code, writes, passes), spelled, at-is, fault) =
    rw (is, code_again byte code passes, at-is) (write_refused mode code wcc part rest early why writes spelled fault)

pub read_refused : (mode : Mode) (bytes : List ℕ) (at : ℕ) (why : Why) → IsRefusedAt mode bytes at why → read_of mode bytes ≡ Err (record { at = at; why = why })
unfolding read_of
read_refused mode bytes at Empty (at-is, is) = rw (at-is, is) refl
read_refused mode bytes at UnknownCommand (at-is, byte, rest, is, none) = rw (at-is, is, none_has byte none) refl
read_refused mode bytes at StructuredField (at-is, byte, rest, is, passes) = rw (at-is, is, code_again byte WriteStructuredField passes) refl
read_refused mode bytes at NoWcc (at-is, byte, is, (code, writes, passes)) = rw (at-is, is, code_again byte code passes) (bare_write_refused mode code writes)
read_refused mode bytes at Trailing (at-is, byte, next, rest, is, (code, alone, passes)) = rw (at-is, is, code_again byte code passes) (trailing_refused mode code next rest alone)
read_refused mode bytes at UnknownOrder f = order_refused mode bytes at UnknownOrder f
read_refused mode bytes at Truncated f = order_refused mode bytes at Truncated f
read_refused mode bytes at ReservedAddress f = order_refused mode bytes at ReservedAddress f
read_refused mode bytes at BadType f = order_refused mode bytes at BadType f
read_refused mode bytes at BadCharacter f = order_refused mode bytes at BadCharacter f

-- ---- of what a call returned

pub is_spelled : (mode : Mode) (bytes : List ℕ) (result : Result Message Refused) → result ≡ read_of mode bytes → IfOk result (λ message. SpellsRecord mode message bytes)
is_spelled mode bytes (Ok message) e = subst (ReadSays mode bytes) (sym e) (read_says mode bytes)
is_spelled mode bytes (Err refused) e = tt

pub is_refused : (mode : Mode) (bytes : List ℕ) (result : Result Message Refused) → result ≡ read_of mode bytes → IfErr result (λ e. IsRefusedAt mode bytes e.at e.why)
is_refused mode bytes (Ok message) e = tt
is_refused mode bytes (Err refused) e = subst (ReadSays mode bytes) (sym e) (read_says mode bytes)
