-- For the code's own proofs: no public contract rests on this file.
-- What orders work on, whatever it keeps of the cells: a relation says which cells it shows.
use Rattle.std.specs.Prelude.{◌<◌, ℕ, List, length}
use Rattle.ds_codec.specs.declared.cell.Cell.{Cell}
use Rattle.ds_screen.specs.declared.state.State.{State}
use Rattle.ds_screen.specs.Picture.{ruled}

-- whatever cells it showed, it shows what the rule makes of them
abbrev pub Becomes : {S : Type 0} → (S → List Cell → Type 0) → S → S → (List Cell → ℕ → Cell) → Type 0
Becomes shows old new rule = (cells : List Cell) → shows old cells → shows new (ruled (length cells) (rule cells))

-- whatever cells it showed, it shows some that are in this relation to them
abbrev pub Makes : {S : Type 0} → (S → List Cell → Type 0) → S → S → (List Cell → List Cell → Type 0) → Type 0
Makes shows old new relates = (cells : List Cell) → shows old cells → (later : List Cell) × shows new later × relates cells later

-- this is so of whatever cells it shows
abbrev pub Tells : {S : Type 0} → (S → List Cell → Type 0) → S → (List Cell → Type 0) → Type 0
Tells shows now holds = (cells : List Cell) → shows now cells → holds cells

-- the cursor and the buffer address are below n
pub record IsOn (n : ℕ) (state : State) : Type 0 where
  pub cursor : state.cursor < n
  pub address : state.address < n
