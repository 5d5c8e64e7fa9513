-- What a record makes of an outline, beside the picture that it outlines.
use Rattle.std.proofs.Common.{◌≡◌, ℕ, cond, List, length, Option, Some, None, Ok, Err, refl, sym, ◌∙◌, ap}
use Rattle.ds_codec.specs.declared.cell.Cell.{Cell}
use Rattle.ds_codec.specs.declared.command.Command.{Command}
use Rattle.ds_codec.specs.declared.command.Command.TheVariants.{EraseAllUnprotected}
use Rattle.ds_codec.specs.Record.{Message}
use Rattle.ds_screen.specs.declared.lock.Lock.{Lock}
use Rattle.ds_screen.specs.declared.lock.Lock.TheVariants.{Free}
use Rattle.ds_screen.specs.declared.refused.Why.TheVariants.{NotAWrite}
use Rattle.ds_screen.specs.declared.refused.Refused.{Refused}
use Rattle.ds_screen.specs.declared.records.Base.{Base}
use Rattle.ds_screen.specs.declared.state.State.{State}
use Rattle.ds_screen.specs.Picture.{Picture, ruled}
use Rattle.ds_screen.specs.Fields.{first_open}
use Rattle.ds_codec.specs.WriteControl.{restores_keyboard}
use Rattle.ds_screen.specs.Records.{acts, begun, finished, all_cleared, cleared_cell, RecordShows, IsRefusedBy}
use Rattle.ds_screen.specs.State.{writing, HaveCharacters}
use Rattle.ds_screen.specs.Kept.{Start, start_of}
use Rattle.ds_screen.specs.Prepared.{start_from}
use Rattle.ds_screen.specs.Marks.{Marked, IsMarked}
use Rattle.ds_screen.specs.Outline.{Outlined, outlined, IsOutlineOf, OutlinesShown, OutlinesCleared}
use Rattle.ds_screen.proofs.ShowLaws.{clear_shows, read_refused, order_refused, write_shows, based}
use Rattle.ds_screen.proofs.SoundLaws.{shown_sound, cleared_sound}

-- what a write begins with is the same for the outline
pub begins_same : (o : Outlined) (v : Picture) (command : Command) (r : Option Start) → IsOutlineOf o v
    → start_of o.geometry o.size v.cells o.cursor command ≡ r → start_of v.geometry v.size v.cells v.cursor command ≡ r
begins_same o v command r is begins =
    ap (λ g. start_of g v.size v.cells v.cursor command) (sym is.geometry) ∙ ap (λ s. start_of o.geometry s v.cells v.cursor command) (sym is.size)
    ∙ ap (λ p. start_of o.geometry o.size v.cells p command) (sym is.cursor) ∙ begins

pub outlines_write : (o : Outlined) (v : Picture) (message : Message) (command : Command) (base : Base) (later final : List Cell) (end : State) (marks : Marked) (lock : Lock)
    → IsOutlineOf o v → command ≡ message.command → HaveCharacters message.orders
    → start_of o.geometry o.size v.cells o.cursor command ≡ Some (start_from base later)
    → acts message.orders (begun base.wcc later base.cursor) ≡ Ok (writing final end) → IsMarked marks final
    → lock ≡ cond (restores_keyboard base.wcc) Free o.lock
    → (w : Picture) × RecordShows v message w × IsOutlineOf (outlined o.geometry base.size marks end.cursor lock) w
outlines_write o v message command base later final end marks lock is told real begins done marked locks =
    let start : Start = start_from base later in
    let w : Picture = finished base.wcc (based v start) (writing final end) in
    let shows : RecordShows v message w =
    write_shows v.geometry v.size v.cells v.cursor v.lock v.aid v message command start (writing final end) w refl told
    (begins_same o v command (Some start) is begins) done refl in (
      w,
      shows,
      record {
        geometry = is.geometry;
        size = refl;
        marks = marked;
        cursor = refl;
        lock = locks ∙ ap (cond (restores_keyboard base.wcc) Free) is.lock;
        sound = shown_sound v w message.command message.orders real is.sound shows;
      },
    )

pub outlines_refused : (o : Outlined) (v : Picture) (message : Message) (command : Command) (base : Base) (later : List Cell) (refused : Refused)
    → IsOutlineOf o v → command ≡ message.command
    → start_of o.geometry o.size v.cells o.cursor command ≡ Some (start_from base later)
    → acts message.orders (begun base.wcc later base.cursor) ≡ Err refused → IsRefusedBy v message refused
outlines_refused o v message command base later refused is told begins bad =
    order_refused v.geometry v.size v.cells v.cursor v.lock v.aid v message command (start_from base later) refused refl told
    (begins_same o v command (Some (start_from base later)) is begins) bad

pub outlines_read : (o : Outlined) (v : Picture) (message : Message) (command : Command)
    → IsOutlineOf o v → command ≡ message.command → (command ≡ EraseAllUnprotected → ⊥)
    → start_of o.geometry o.size v.cells o.cursor command ≡ None → IsRefusedBy v message (record { at = 0; why = NotAWrite })
outlines_read o v message command is told other none =
    read_refused v.geometry v.size v.cells v.cursor v.lock v.aid v message command refl told other (begins_same o v command None is none)

pub outlines_cleared : (o : Outlined) (v : Picture) (marks : Marked) (cursor : ℕ) → IsOutlineOf o v
    → IsMarked marks (ruled (length v.cells) (cleared_cell v.cells)) → cursor ≡ first_open v.cells 0
    → IsOutlineOf (outlined o.geometry o.size marks cursor Free) (all_cleared v)
outlines_cleared o v marks cursor is marked first =
    record {
      geometry = is.geometry;
      size = is.size;
      marks = marked;
      cursor = first;
      lock = refl;
      sound = cleared_sound v is.sound;
    }

pub clears : (before after : Outlined) (message : Message) (command : Command) → command ≡ message.command → command ≡ EraseAllUnprotected
    → OutlinesCleared before after → OutlinesShown before message after
clears before after message command told all cleared v is = (all_cleared v, clear_shows v (all_cleared v) message command told all refl, cleared v is)
