-- Field attributes: six bits. Bit 02 is kept without effect, which is our own rule.
use Rattle.std.specs.Prelude.{ℕ, ◌+◌, ◌-◌, ◌*◌, ◌/◌, ◌%◌, Bool, ◌||◌, ◌==◌, if◌then◌else◌}

-- bit 20: the operator cannot type there
abbrev pub is_protected : ℕ → Bool
is_protected bits = bits / 32 % 2 == 1

-- bit 10: digits alone are to be typed
abbrev pub is_numeric : ℕ → Bool
is_numeric bits = bits / 16 % 2 == 1

-- bits 20 and 10: the cursor skips over it
abbrev pub is_auto_skip : ℕ → Bool
is_auto_skip bits = bits / 16 % 4 == 3

-- both display bits, 0C: its characters are not shown
abbrev pub is_hidden : ℕ → Bool
is_hidden bits = bits / 4 % 4 == 3

-- of the display bits, 08 alone: its characters are brighter
abbrev pub is_intensified : ℕ → Bool
is_intensified bits = bits / 4 % 4 == 2

-- of the display bits, 04 or 08 alone: a pen can select it
abbrev pub is_detectable : ℕ → Bool
is_detectable bits = (bits / 4 % 4 == 1) || (bits / 4 % 4 == 2)

-- bit 01, the modified data tag
abbrev pub is_modified : ℕ → Bool
is_modified bits = bits % 2 == 1

-- the same attribute, protected or not
abbrev pub with_protected : ℕ → Bool → ℕ
with_protected bits protected = bits - 32 * (bits / 32 % 2) + (if protected then 32 else 0)

-- the same attribute with the modified data tag set or reset
abbrev pub with_modified : ℕ → Bool → ℕ
with_modified bits modified = bits - bits % 2 + (if modified then 1 else 0)
