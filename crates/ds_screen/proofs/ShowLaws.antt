-- What a record makes of a picture, by its parts.
use Rattle.std.proofs.Common.{◌≡◌, ℕ, cond, List, replicate, Some, None, Ok, Err, refl, sym, ◌∙◌, ap, subst}
use Rattle.ds_codec.specs.declared.cell.Cell.{Cell}
use Rattle.ds_codec.specs.declared.size.Size.{Size}
use Rattle.ds_codec.specs.declared.command.Command.{Command}
use Rattle.ds_codec.specs.declared.command.Command.TheVariants.{Write, EraseWrite, EraseWriteAlternate, EraseAllUnprotected, ReadBuffer, ReadModified, ReadModifiedAll, NoOperation}
use Rattle.ds_codec.specs.Geometry.{Sizes, cells_of}
use Rattle.ds_codec.specs.Order.{Site}
use Rattle.ds_codec.specs.Record.{Message}
use Rattle.ds_screen.specs.declared.lock.Lock.{Lock}
use Rattle.ds_screen.specs.declared.lock.Lock.TheVariants.{Free}
use Rattle.ds_screen.specs.declared.refused.Why.TheVariants.{NotAWrite}
use Rattle.ds_screen.specs.declared.refused.Refused.{Refused}
use Rattle.ds_screen.specs.Picture.{Picture, blank}
use Rattle.ds_screen.specs.Orders.{Writing}
use Rattle.ds_codec.specs.WriteControl.{restores_keyboard}
use Rattle.ds_screen.specs.Records.{acts, begun, finished, finishes, all_cleared, shown_of, RecordShows, IsRefusedBy}
use Rattle.ds_screen.specs.Kept.{picture, Start, start_of}

-- Erase All Unprotected
pub clear_shows : (v after : Picture) (message : Message) (command : Command) → command ≡ message.command → command ≡ EraseAllUnprotected
    → after ≡ all_cleared v → RecordShows v message after
unfolding shown_of
clear_shows v after message command told all is = ap (λ c. shown_of v c message.orders) (sym told ∙ all) ∙ ap (λ w. Ok w) (sym is)

no_start : (v : Picture) (command : Command) (orders : List Site) → start_of v.geometry v.size v.cells v.cursor command ≡ None → (command ≡ EraseAllUnprotected → ⊥)
    → shown_of v command orders ≡ Err (record { at = 0; why = NotAWrite })
unfolding shown_of
no_start v (Write wcc) orders none other = absurd cc
no_start v (EraseWrite wcc) orders none other = absurd cc
no_start v (EraseWriteAlternate wcc) orders none other = absurd cc
no_start v EraseAllUnprotected orders none other = absurd (other refl)
no_start v ReadBuffer orders none other = refl
no_start v ReadModified orders none other = refl
no_start v ReadModifiedAll orders none other = refl
no_start v NoOperation orders none other = refl

-- a read or No-operation
pub read_refused : (geometry : Sizes) (size : Size) (cells : List Cell) (cursor : ℕ) (lock : Lock) (aid : ℕ) (v : Picture) (message : Message) (command : Command)
    → picture geometry size cells cursor lock aid ≡ v → command ≡ message.command → (command ≡ EraseAllUnprotected → ⊥)
    → start_of geometry size cells cursor command ≡ None → IsRefusedBy v message (record { at = 0; why = NotAWrite })
read_refused geometry size cells cursor lock aid v message command is told other none =
    let P : Picture → Type 0 = λ u. IsRefusedBy u message (record { at = 0; why = NotAWrite }) in
    subst P is
    (ap (λ c. shown_of (picture geometry size cells cursor lock aid) c message.orders) (sym told)
    ∙ no_start (picture geometry size cells cursor lock aid) command message.orders none other)

-- the picture that a write begins with
abbrev pub based : Picture → Start → Picture
based v start = record v { size = start.size; cells = start.cells; cursor = start.cursor }

abbrev Starts : Picture → Command → List Site → Start → Type 0
Starts v command orders start = shown_of v command orders ≡ finishes start.wcc (based v start) (acts orders (begun start.wcc start.cells start.cursor))

pub same_start : (s t : Start) → Some s ≡ Some t → s ≡ t
same_start s t e = cc

starts : (v : Picture) (command : Command) (orders : List Site) (start : Start) → start_of v.geometry v.size v.cells v.cursor command ≡ Some start → Starts v command orders start
unfolding shown_of
starts v (Write wcc) orders start is = subst (Starts v (Write wcc) orders) (same_start (record { wcc = wcc; size = v.size; cells = v.cells; cursor = v.cursor }) start is) refl
starts v (EraseWrite wcc) orders start is =
    subst (Starts v (EraseWrite wcc) orders) (same_start (record { wcc = wcc; size = v.geometry.default; cells = replicate (cells_of v.geometry.default) blank; cursor = 0 }) start is) refl
starts v (EraseWriteAlternate wcc) orders start is =
    subst (Starts v (EraseWriteAlternate wcc) orders) (same_start (record { wcc = wcc; size = v.geometry.alternate; cells = replicate (cells_of v.geometry.alternate) blank; cursor = 0 }) start is) refl
starts v EraseAllUnprotected orders start is = absurd cc
starts v ReadBuffer orders start is = absurd cc
starts v ReadModified orders start is = absurd cc
starts v ReadModifiedAll orders start is = absurd cc
starts v NoOperation orders start is = absurd cc

-- an order at fault
pub order_refused : (geometry : Sizes) (size : Size) (cells : List Cell) (cursor : ℕ) (lock : Lock) (aid : ℕ) (v : Picture) (message : Message) (command : Command) (start : Start) (refused : Refused)
    → picture geometry size cells cursor lock aid ≡ v → command ≡ message.command → start_of geometry size cells cursor command ≡ Some start
    → acts message.orders (begun start.wcc start.cells start.cursor) ≡ Err refused → IsRefusedBy v message refused
order_refused geometry size cells cursor lock aid v message command start refused is told started bad =
    let P : Picture → Type 0 = λ u. IsRefusedBy u message refused in
    subst P is
    (ap (λ c. shown_of (picture geometry size cells cursor lock aid) c message.orders) (sym told)
    ∙ starts (picture geometry size cells cursor lock aid) command message.orders start started
    ∙ ap (finishes start.wcc (based (picture geometry size cells cursor lock aid) start)) bad)

-- all orders done, whether or not the keyboard is restored
pub write_shows : (geometry : Sizes) (size : Size) (cells : List Cell) (cursor : ℕ) (lock : Lock) (aid : ℕ) (v : Picture) (message : Message) (command : Command) (start : Start) (w : Writing)
    (after : Picture) → picture geometry size cells cursor lock aid ≡ v → command ≡ message.command → start_of geometry size cells cursor command ≡ Some start
    → acts message.orders (begun start.wcc start.cells start.cursor) ≡ Ok w
    → after ≡ finished start.wcc (based (picture geometry size cells cursor lock aid) start) w
    → RecordShows v message after
write_shows geometry size cells cursor lock aid v message command start w after is told started done ends =
    let P : Picture → Type 0 = λ u. RecordShows u message after in
    subst P is
    (ap (λ c. shown_of (picture geometry size cells cursor lock aid) c message.orders) (sym told)
    ∙ starts (picture geometry size cells cursor lock aid) command message.orders start started
    ∙ ap (finishes start.wcc (based (picture geometry size cells cursor lock aid) start)) done ∙ ap (λ u. Ok u) (sym ends))

pub write_ends : (wcc : ℕ) (v : Picture) (w : Writing) (lock : Lock) (aid : ℕ) → lock ≡ cond (restores_keyboard wcc) Free v.lock → aid ≡ cond (restores_keyboard wcc) 0x60 v.aid
    → picture v.geometry v.size w.cells w.cursor lock aid ≡ finished wcc v w
write_ends wcc v w lock aid locks aids =
    ap (λ l. picture v.geometry v.size w.cells w.cursor l aid) locks ∙ ap (λ a. picture v.geometry v.size w.cells w.cursor (cond (restores_keyboard wcc) Free v.lock) a) aids
