-- Values that are pushed one after the other.
use Rattle.std.proofs.Common.{◌≡◌, ℕ, zero, suc, ◌+◌, List, [], ◌∷◌, ◌++◌, map, append_assoc, length, refl, sym, ap, ◌∙◌, arith}
use Rattle.std.specs.Prelude.{Bool, true, false, Result, Ok, Err, IfOk, if◌then◌else◌}
use Rattle.std.specs.List.{flat_map, range_with_len}
use Rattle.std.proofs.lemmas.List.{append-nil, map-append}
use Rattle.std.proofs.lemmas.List.Concat.{flat_map-cons}
use Rattle.std.proofs.lemmas.Grind.{flat_map-append}
use Rattle.ds_codec.specs.declared.cell.Cell.{Cell}
use Rattle.ds_screen.specs.Picture.{Picture, cell_at}
use Rattle.ds_screen.specs.Fields.{fields_of}
use Rattle.serde_json.specs.Data.{Data}
use Rattle.serde_json.specs.View.{items_of}
use Rattle.serde_json.specs.Written.{has_float, items_have_float, compact_text}
use Rattle.cli_pictures.specs.Codes.{is_alternate}
use Rattle.cli_pictures.specs.Json.{count, field_data, row_data, code_row_data, escape_at, screen_data, json_text}

push_range : (a n : ℕ) → range_with_len a (n + 1) ≡ range_with_len a n ++ (a + n) ∷ []
push_range a zero = let e : a + 0 ≡ a = omega arith in rw e refl
push_range a (suc n) =
    let e : suc n + 1 ≡ suc (n + 1) = omega arith in
    let f : (a + 1) + n ≡ a + suc n = omega arith in
    rw e (ap (λ rest. a ∷ rest) (push_range (a + 1) n ∙ rw f refl))

pub one_row : {V D : Type 0} (h : V → D) (f : ℕ → D) (row : ℕ) (rows : List V) (value : V) → map h rows ≡ map f (range_with_len 0 row) → h value ≡ f row
    → map h (rows ++ value ∷ []) ≡ map f (range_with_len 0 (row + 1))
one_row h f row rows value so_far here =
    let zero_on : 0 + row ≡ row = omega arith in
    map-append h rows (value ∷ []) ∙ ap (λ a. a ++ h value ∷ []) so_far ∙ ap (λ d. map f (range_with_len 0 row) ++ d ∷ []) here
    ∙ sym (ap (map f) (push_range 0 row ∙ ap (λ p. range_with_len 0 row ++ p ∷ []) zero_on) ∙ map-append f (range_with_len 0 row) (row ∷ []))

-- what is added for each number below n
pub one_part : {D : Type 0} (f : ℕ → List D) (n : ℕ) (before after : List D) → before ≡ flat_map f (range_with_len 0 n) → after ≡ before ++ f n
    → after ≡ flat_map f (range_with_len 0 (n + 1))
one_part f n before after so_far here =
    let zero_on : 0 + n ≡ n = omega arith in
    here ∙ ap (λ b. b ++ f n) so_far ∙ ap (λ b. flat_map f (range_with_len 0 n) ++ b) (sym (flat_map-cons f n [] ∙ append-nil (f n)))
    ∙ sym (flat_map-append f (range_with_len 0 n) (n ∷ []))
    ∙ ap (flat_map f) (sym (push_range 0 n ∙ ap (λ p. range_with_len 0 n ++ p ∷ []) zero_on))

pub one_character : (f : ℕ → ℕ) (n : ℕ) (before after : List ℕ) → before ≡ map f (range_with_len 0 n) → after ≡ before ++ f n ∷ []
    → after ≡ map f (range_with_len 0 (n + 1))
one_character f n before after so_far here =
    let zero_on : 0 + n ≡ n = omega arith in
    here ∙ ap (λ b. b ++ f n ∷ []) so_far ∙ sym (map-append f (range_with_len 0 n) (n ∷ []))
    ∙ ap (map f) (sym (push_range 0 n ∙ ap (λ p. range_with_len 0 n ++ p ∷ []) zero_on))

pub one_field : {V D F : Type 0} (h : V → D) (f : F → D) (values : List V) (value : V) (before : List F) (field : F) (later : List F) (all : List D)
    → before ≡ field ∷ later → map h values ++ map f before ≡ all → h value ≡ f field → map h (values ++ value ∷ []) ++ map f later ≡ all
one_field h f values value before field later all steps so_far here =
    ap (λ a. a ++ map f later) (map-append h values (value ∷ [])) ∙ append_assoc (map h values) (h value ∷ []) (map f later)
    ∙ ap (λ d. map h values ++ d ∷ map f later) here ∙ ap (λ fields. map h values ++ map f fields) (sym steps) ∙ so_far

-- ---- no value has a float

none_floats : {X : Type 0} (f : X → Data) → ((x : X) → has_float (f x) ≡ false) → (xs : List X) → items_have_float (items_of (map f xs)) ≡ false
none_floats f none [] = refl
none_floats f none (x ∷ xs) = rw (none x) (none_floats f none xs)

escape_floats : (b : Bool) (p : ℕ) (rest : List Data) → items_have_float (items_of rest) ≡ false
    → items_have_float (items_of ((if b then count p ∷ [] else []) ++ rest)) ≡ false
escape_floats true p rest none = none
escape_floats false p rest none = none

no_escapes_float : (cells : List Cell) (ps : List ℕ) → items_have_float (items_of (flat_map (escape_at cells) ps)) ≡ false
no_escapes_float cells [] = refl
no_escapes_float cells (p ∷ ps) =
    ap (λ parts. items_have_float (items_of parts)) (flat_map-cons (escape_at cells) p ps)
    ∙ escape_floats (is_alternate (cell_at cells p)) p (flat_map (escape_at cells) ps) (no_escapes_float cells ps)

no_float : (v : Picture) → has_float (screen_data v) ≡ false
unfolding screen_data
no_float v =
    rw (none_floats (code_row_data v) (λ row. refl) (range_with_len 0 v.size.rows), none_floats (field_data v) (λ field. refl) (fields_of v.cells), no_escapes_float v.cells (range_with_len 0 (length v.cells)), none_floats (row_data v) (λ row. refl) (range_with_len 0 v.size.rows)) refl

written : {E S : Type 0} (bytes : S → List ℕ) (v : Picture) (value : Data) (result : Result S E) → value ≡ screen_data v
    → IfOk result (λ s. has_float value ≡ false → bytes s ≡ compact_text value) → IfOk result (λ s. bytes s ≡ compact_text (screen_data v))
written bytes v value (Ok s) same text = text (ap has_float same ∙ no_float v) ∙ ap compact_text same
written bytes v value (Err e) same text = tt

pub json_written : {E S : Type 0} (bytes : S → List ℕ) (v : Picture) (value : Data) (result : Result S E) → value ≡ screen_data v
    → IfOk result (λ s. has_float value ≡ false → bytes s ≡ compact_text value) → IfOk result (λ s. bytes s ≡ json_text v)
unfolding json_text
json_written bytes v value result same text = written bytes v value result same text
