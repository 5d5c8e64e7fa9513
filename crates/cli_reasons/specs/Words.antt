-- The words of lines.
use Rattle.std.specs.Prelude.{ℕ, List, [], ◌∷◌, codes}

-- of keys
unfoldable pub key_words : List (List ℕ)
key_words =
    codes "left" ∷ codes "right" ∷ codes "up" ∷ codes "down" ∷ codes "tab" ∷ codes "backtab" ∷ codes "newline" ∷ codes "home"
    ∷ codes "eraseeof" ∷ codes "eraseinput" ∷ codes "delete" ∷ codes "reset" ∷ codes "type" ∷ codes "enter" ∷ codes "clear" ∷ codes "pa1"
    ∷ codes "pa2" ∷ codes "pa3" ∷ codes "pf1" ∷ codes "pf2" ∷ codes "pf3" ∷ codes "pf4" ∷ codes "pf5" ∷ codes "pf6"
    ∷ codes "pf7" ∷ codes "pf8" ∷ codes "pf9" ∷ codes "pf10" ∷ codes "pf11" ∷ codes "pf12" ∷ codes "pf13" ∷ codes "pf14"
    ∷ codes "pf15" ∷ codes "pf16" ∷ codes "pf17" ∷ codes "pf18" ∷ codes "pf19" ∷ codes "pf20" ∷ codes "pf21" ∷ codes "pf22"
    ∷ codes "pf23" ∷ codes "pf24" ∷ []

-- of strokes, and keys among them
unfoldable pub stroke_words : List (List ℕ)
stroke_words =
    codes "left" ∷ codes "right" ∷ codes "up" ∷ codes "down" ∷ codes "tab" ∷ codes "backtab" ∷ codes "newline" ∷ codes "home"
    ∷ codes "eraseeof" ∷ codes "eraseinput" ∷ codes "delete" ∷ codes "reset" ∷ codes "type" ∷ codes "insert" ∷ codes "dup" ∷ codes "fieldmark"
    ∷ codes "enter" ∷ codes "clear" ∷ codes "pa1" ∷ codes "pa2" ∷ codes "pa3" ∷ codes "pf1" ∷ codes "pf2" ∷ codes "pf3"
    ∷ codes "pf4" ∷ codes "pf5" ∷ codes "pf6" ∷ codes "pf7" ∷ codes "pf8" ∷ codes "pf9" ∷ codes "pf10" ∷ codes "pf11"
    ∷ codes "pf12" ∷ codes "pf13" ∷ codes "pf14" ∷ codes "pf15" ∷ codes "pf16" ∷ codes "pf17" ∷ codes "pf18" ∷ codes "pf19"
    ∷ codes "pf20" ∷ codes "pf21" ∷ codes "pf22" ∷ codes "pf23" ∷ codes "pf24" ∷ []

-- of commands and orders
unfoldable pub order_words : List (List ℕ)
order_words =
    codes "W" ∷ codes "EW" ∷ codes "EWA" ∷ codes "EAU" ∷ codes "RB" ∷ codes "RM" ∷ codes "RMA" ∷ codes "NOP"
    ∷ codes "SF" ∷ codes "SFE" ∷ codes "SBA" ∷ codes "SA" ∷ codes "MF" ∷ codes "IC" ∷ codes "PT" ∷ codes "RA"
    ∷ codes "EUA" ∷ codes "GE" ∷ codes "TEXT" ∷ []

-- the keys at the top of a layout
unfoldable pub top_words : List (List ℕ)
top_words =
    codes "version" ∷ codes "addresses" ∷ codes "default" ∷ codes "alternate" ∷ codes "screen" ∷ codes "field" ∷ []

-- the keys of a field of a layout
unfoldable pub field_words : List (List ℕ)
field_words = codes "name" ∷ codes "row" ∷ codes "col" ∷ codes "length" ∷ codes "kind" ∷ codes "count" ∷ codes "down" ∷ []
