-- Write control characters, a byte each. Bits but these three are kept without effect, which is our own rule.
use Rattle.std.specs.Prelude.{ℕ, ◌/◌, ◌%◌, Bool, ◌==◌}

-- bit 01: every modified data tag is reset
abbrev pub resets_modified_tags : ℕ → Bool
resets_modified_tags wcc = wcc % 2 == 1

-- bit 02: the keyboard is restored
abbrev pub restores_keyboard : ℕ → Bool
restores_keyboard wcc = wcc / 2 % 2 == 1

-- bit 04: the alarm sounds
abbrev pub sounds_alarm : ℕ → Bool
sounds_alarm wcc = wcc / 4 % 2 == 1
