-- Orders in turn.
use Rattle.std.proofs.Common.{◌≡◌, ℕ, ◌+◌, List, [], ◌∷◌, length, Option, Some, None, MatchOption, Result, Ok, Err, IfOk, refl, sym, ◌∙◌, ap}
use Rattle.ds_codec.specs.declared.size.Mode.{Mode}
use Rattle.ds_codec.specs.declared.size.Size.{Size}
use Rattle.ds_codec.specs.declared.command.Command.{Command}
use Rattle.ds_codec.specs.Geometry.{Sizes}
use Rattle.ds_codec.specs.Order.{Item, Site, text, start_field, start_field_extended, set_buffer_address, set_attribute, modify_field, insert_cursor, program_tab, repeat_to_address, erase_unprotected_to_address, graphic_escape, SpellsOrder}
use Rattle.ds_codec.specs.Record.{AreSpelled, HaveSpelling}
use Rattle.ds_codec.specs.declared.cell.Cell.{Cell}
use Rattle.ds_screen.specs.declared.refused.Why.{Why}
use Rattle.ds_screen.specs.declared.refused.Refused.{Refused}
use Rattle.ds_screen.specs.declared.state.State.{State}
use Rattle.ds_screen.specs.Orders.{Writing, effect_of, fault_of, OrderActs}
use Rattle.ds_screen.specs.Records.{acts, begun, unless}
use Rattle.ds_screen.specs.State.{writing, HasCharacters, HaveCharacters}
use Rattle.ds_screen.specs.declared.records.Base.{Base}
use Rattle.ds_screen.specs.Kept.{start_of}
use Rattle.ds_screen.specs.Prepared.{Prepares, start_from}
use Rattle.ds_screen.specs.Surface.{Makes}

has_characters : (mode : Mode) (order : Item) (part : List ℕ) → SpellsOrder mode order part → HasCharacters order
has_characters mode (text run) part spelled = spelled.2
has_characters mode (graphic_escape code) part spelled = spelled.1
has_characters mode (start_field attribute) part spelled = tt
has_characters mode (start_field_extended pairs) part spelled = tt
has_characters mode (set_buffer_address address) part spelled = tt
has_characters mode (set_attribute kind value) part spelled = tt
has_characters mode (modify_field pairs) part spelled = tt
has_characters mode insert_cursor part spelled = tt
has_characters mode program_tab part spelled = tt
has_characters mode (repeat_to_address stop character) part (first, second, rest, is, address, told) = told.0
has_characters mode (erase_unprotected_to_address stop) part spelled = tt

pub spelled_characters : (mode : Mode) (at : ℕ) (sites : List Site) (bytes : List ℕ) → AreSpelled mode at sites bytes → HaveCharacters sites
spelled_characters mode at [] bytes spelled = tt
spelled_characters mode at (site ∷ sites) bytes (part, rest, joined, there, order, follows, others) =
    (has_characters mode site.order part order, spelled_characters mode (at + length part) sites rest others)

pub orders_characters : (sites : List Site) → HaveSpelling sites → HaveCharacters sites
orders_characters sites (mode, bytes, spelled) = spelled_characters mode 2 sites bytes spelled

-- an order that acts leaves the rest to do
pub acts_on : (site : Site) (sites : List Site) (before after : Writing) → OrderActs site.order before after → acts (site ∷ sites) before ≡ acts sites after
unfolding acts
acts_on site sites before after (good, is) =
    ap (λ f. unless f site.at (acts sites (effect_of site.order before))) good ∙ ap (acts sites) (sym is)

-- one that is at fault ends it
pub acts_stop : (site : Site) (sites : List Site) (before : Writing) (why : Why) → fault_of site.order before ≡ Some why
    → acts (site ∷ sites) before ≡ Err (record { at = site.at; why = why })
unfolding acts
acts_stop site sites before why bad = ap (λ f. unless f site.at (acts sites (effect_of site.order before))) bad

pub acts_end : (w : Writing) → acts [] w ≡ Ok w
unfolding acts
acts_end w = refl

-- what was done to a surface that shows its content alone
pub content_done : {C : Type 0} (content : C → List Cell) (old new : C) (orders : List Site) (wcc cursor : ℕ) (r : Result State Refused)
    → IfOk r (λ end. Makes (λ s cells. content s ≡ cells) old new (λ cells later. acts orders (begun wcc cells cursor) ≡ Ok (writing later end)))
    → IfOk r (λ end. acts orders (begun wcc (content old) cursor) ≡ Ok (writing (content new) end))
content_done content old new orders wcc cursor (Ok end) done =
    let all = done (content old) refl in
    all.2 ∙ ap (λ cells. Ok (writing cells end)) (sym all.1)
content_done content old new orders wcc cursor (Err refused) done = tt

pub content_prepared : {C : Type 0} (content : C → List Cell) (spare : C) (cells : List Cell) (geometry : Sizes) (size : Size) (cursor : ℕ) (command : Command) (r : Option Base)
    → Prepares (λ s cells. content s ≡ cells) geometry size cursor command r spare cells
    → MatchOption r (start_of geometry size cells cursor command ≡ None) (λ base. start_of geometry size cells cursor command ≡ Some (start_from base (content spare)))
content_prepared content spare cells geometry size cursor command None none = none
content_prepared content spare cells geometry size cursor command (Some base) starts = starts.2 ∙ ap (λ later. Some (start_from base later)) (sym starts.1)
