-- Orders that are done whatever a buffer of so many positions holds.
use Rattle.std.specs.Prelude.{◌≡◌, ℕ, ◌<◌, ◌^◌, nat_lt, nat_le, ◌&&◌, Bool, true, false, List}
use Rattle.std.specs.List.{list_all}
use Rattle.ds_codec.specs.Order.{Item, set_buffer_address, modify_field, repeat_to_address, erase_unprotected_to_address, Site}

-- Its address, if it has one, is that of a position. What Modify Field needs, an attribute at the buffer address, no
-- number of positions can promise.
abbrev pub is_surely_done : ℕ → Item → Bool
is_surely_done cells (set_buffer_address address) = nat_lt address cells
is_surely_done cells (repeat_to_address address character) = nat_lt address cells
is_surely_done cells (erase_unprotected_to_address address) = nat_lt address cells
is_surely_done cells (modify_field pairs) = false
is_surely_done cells order = true

-- each of them
abbrev pub are_surely_done : ℕ → List Site → Bool
are_surely_done cells orders = list_all (λ site. is_surely_done cells site.order) orders

-- ---- for the code's own proofs

-- the order is surely done exactly where there are at least so many positions
abbrev pub IsNeedOf : ℕ → Item → Type 0
IsNeedOf need order = (cells : ℕ) → cells < 2 ^ 32 → is_surely_done cells order ≡ nat_le need cells

-- the same of all of them
abbrev pub IsNeedOfAll : ℕ → List Site → Type 0
IsNeedOfAll need orders = (cells : ℕ) → cells < 2 ^ 32 → are_surely_done cells orders ≡ nat_le need cells

-- all of them are surely done where there are so many positions and the rest of them are
abbrev pub IsNeedBefore : ℕ → List Site → List Site → Type 0
IsNeedBefore need rest orders =
    (cells : ℕ) → cells < 2 ^ 32 → are_surely_done cells orders ≡ (nat_le need cells && are_surely_done cells rest)
