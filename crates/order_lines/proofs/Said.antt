-- What is told of a line is what it says.
use Rattle.std.proofs.Common.{◌≡◌, ℕ, Bool, true, false, cond, ltb, List, [], ◌∷◌, ◌++◌, length, take, drop, Option, Some, None, Ok, Err, refl, sym, ap, subst, ◌∙◌, inl, inr, take-append-drop}
use Rattle.std.specs.Prelude.{Result, codes, nat_eq, option_and_then}
use Rattle.std.specs.List.{starts_with}
use Rattle.std.specs.Option.{option_map}
use Rattle.std.specs.Str.{bytes_eq}
use Rattle.std.proofs.lemmas.Bool.{ltb-true, lt-ltb}
use Rattle.std.proofs.lemmas.Slice.Eq.{bytes_eq-Decides}
use Rattle.hex.specs.Hex.{decode_of}
use Rattle.hex.specs.declared.error.FromHexError.{FromHexError}
use Rattle.ds_codec.specs.declared.command.Command.{Command}
use Rattle.ds_codec.specs.declared.command.Command.TheVariants as commands
use Rattle.ds_codec.specs.Character.{Glyph, glyph, is_glyph}
use Rattle.ds_codec.specs.Order.{Item, text, start_field, start_field_extended, set_buffer_address, set_attribute, modify_field, insert_cursor, program_tab, repeat_to_address, erase_unprotected_to_address, graphic_escape}
use Rattle.order_lines.specs.Words.{on_word, byte_told, pair_told, pairs_told, number_told, cut_at}
use Rattle.order_lines.specs.Told.{Told, command, order, on_line, write_told, alone_told, attribute_from, set_from, character_from, character_told, repeat_from, text_from, address_told, short_told, order_told, first_told, other_command, command_told, told_of}
use Rattle.order_lines.proofs.ToldAgain.{no_escape}
use Rattle.order_lines.specs.Says.{Carries, IsCharacter, SaysCommand, SaysOrder, Says, TellsWhatIsSaid}

-- ---- tests

-- the name is there, or the others tell it
named : {A : Type 0} (name line : List ℕ) (found : List ℕ → Option A) (others : Option A) (x : A) (P : Type 0) → on_word name line found others ≡ Some x
    → ((words : List ℕ) → line ≡ name ++ words → found words ≡ Some x → P) → (others ≡ Some x → P) → P
named name line found others x P is here there =
    elim (starts_with nat_eq line name) as (λ t. starts_with nat_eq line name ≡ t → cond t (found (drop (length name) line)) others ≡ Some x → P) [
      | true ↦ λ test told.
          let front : name ≡ take (length name) line = (bytes_eq-Decides name (take (length name) line)).0 test in
          here (drop (length name) line) (sym (take-append-drop (length name) line) ∙ ap (λ w. w ++ drop (length name) line) (sym front)) told
      | false ↦ λ test told. there told
    ] refl is

-- the line is the name, or the others tell it
alone : {A : Type 0} (name line : List ℕ) (found : A) (others : Option A) (x : A) (P : Type 0) → on_line name line found others ≡ Some x
    → (line ≡ name → found ≡ x → P) → (others ≡ Some x → P) → P
alone name line found others x P is here there =
    elim (bytes_eq line name) as (λ t. bytes_eq line name ≡ t → cond t (Some found) others ≡ Some x → P) [
      | true ↦ λ test told. let same : found ≡ x = cc in here ((bytes_eq-Decides line name).0 test) same
      | false ↦ λ test told. there told
    ] refl is

mapped : {A B : Type 0} (f : A → B) (o : Option A) (x : B) → option_map f o ≡ Some x → (a : A) × (o ≡ Some a) × (f a ≡ x)
mapped f None x is = absurd cc
mapped f (Some a) x is = let same : f a ≡ x = cc in (a, refl, same)

-- what a name carries
carried : {A B : Type 0} (f : A → B) (name line words : List ℕ) (read : List ℕ → Option A) (x : B) (S : B → Type 0) → line ≡ name ++ words → option_map f (read words) ≡ Some x
    → ((a : A) → Carries line name (λ w. read w ≡ Some a) → S (f a)) → S x
carried f name line words read x S is told says =
    let m = mapped f (read words) x told in
    subst S m.2 (says m.0 (words, is, m.1))

-- ---- commands

write_said : (line : List ℕ) (x : Command) → write_told line ≡ Some x → SaysCommand line x
write_said line x is =
    named (codes "W ") line _ _ x (SaysCommand line x) is (λ words at told. carried (λ wcc. commands.Write wcc) (codes "W ") line words byte_told x (SaysCommand line) at told (λ a c. c))
    (λ rest. named (codes "EW ") line _ _ x (SaysCommand line x) rest (λ words at told. carried (λ wcc. commands.EraseWrite wcc) (codes "EW ") line words byte_told x (SaysCommand line) at told (λ a c. c))
    (λ rest. named (codes "EWA ") line _ _ x (SaysCommand line x) rest (λ words at told. carried (λ wcc. commands.EraseWriteAlternate wcc) (codes "EWA ") line words byte_told x (SaysCommand line) at told (λ a c. c))
    (λ none. absurd cc)))

alone_said : (line : List ℕ) (x : Command) → alone_told line ≡ Some x → SaysCommand line x
alone_said line x is =
    alone (codes "EAU") line _ _ x (SaysCommand line x) is (λ at same. subst (SaysCommand line) same at)
    (λ rest. alone (codes "RB") line _ _ x (SaysCommand line x) rest (λ at same. subst (SaysCommand line) same at)
    (λ rest. alone (codes "RM") line _ _ x (SaysCommand line x) rest (λ at same. subst (SaysCommand line) same at)
    (λ rest. alone (codes "RMA") line _ _ x (SaysCommand line x) rest (λ at same. subst (SaysCommand line) same at)
    (λ rest. alone (codes "NOP") line _ _ x (SaysCommand line x) rest (λ at same. subst (SaysCommand line) same at)
    (λ none. absurd cc)))))

either_command : (line : List ℕ) (x : Command) (first others : Option Command) → first ≡ write_told line → others ≡ alone_told line → other_command first others ≡ Some x → SaysCommand line x
either_command line x (Some told) others write other is = write_said line x (sym write ∙ is)
either_command line x None others write other is = alone_said line x (sym other ∙ is)

command_said : (line : List ℕ) (x : Command) → command_told line ≡ Some x → SaysCommand line x
unfolding command_told
command_said line x is = either_command line x (write_told line) (alone_told line) refl refl is

-- ---- orders

attribute_said : (line words : List ℕ) (x : Item) (byte : Option ℕ) → line ≡ codes "SF " ++ words → byte ≡ byte_told words → attribute_from byte ≡ Some x → SaysOrder line x
attribute_said line words x None at byte is = absurd cc
attribute_said line words x (Some bits) at byte is =
    elim (ltb bits 64) as (λ t. ltb bits 64 ≡ t → cond t (Some (start_field bits)) None ≡ Some x → SaysOrder line x) [
      | true ↦ λ test told. let same : start_field bits ≡ x = cc in subst (SaysOrder line) same (ltb-true _ _ test, (words, at, sym byte))
      | false ↦ λ test none. absurd cc
    ] refl is

set_said : (line words : List ℕ) (x : Item) (pair : Option (ℕ × ℕ)) → line ≡ codes "SA " ++ words → pair ≡ pair_told words → set_from pair ≡ Some x → SaysOrder line x
set_said line words x None at pair is = absurd cc
set_said line words x (Some told) at pair is = let same : set_attribute told.0 told.1 ≡ x = cc in subst (SaysOrder line) same (words, at, sym pair)

run_said : (line words : List ℕ) (x : Item) (run : Result (List ℕ) FromHexError) → line ≡ codes "TEXT " ++ words → decode_of words ≡ run → text_from run ≡ Some x → SaysOrder line x
run_said line words x (Err e) at digits is = absurd cc
run_said line words x (Ok []) at digits is = absurd cc
run_said line words x (Ok (byte ∷ bytes)) at digits is =
    let same : text (byte ∷ bytes) ≡ x = cc in
    let some : (byte ∷ bytes ≡ [] → ⊥) = λ none. absurd cc in
    subst (SaysOrder line) same (words, at, (digits, some))

glyph_said : (alt : Bool) (words : List ℕ) (x : Glyph) (byte : Option ℕ) → byte ≡ byte_told words → character_from alt byte ≡ Some x
    → (is_glyph x ≡ true) × (x.alt ≡ alt) × (byte_told words ≡ Some x.code)
glyph_said alt words x None byte is = absurd cc
glyph_said alt words x (Some code) byte is =
    elim (is_glyph (glyph code alt)) as (λ t. is_glyph (glyph code alt) ≡ t → cond t (Some (glyph code alt)) None ≡ Some x → (is_glyph x ≡ true) × (x.alt ≡ alt) × (byte_told words ≡ Some x.code)) [
      | true ↦ λ test told.
          let same : glyph code alt ≡ x = cc in
          subst (λ (z : Glyph). (is_glyph z ≡ true) × (z.alt ≡ alt) × (byte_told words ≡ Some z.code)) same (test, refl, sym byte)
      | false ↦ λ test none. absurd cc
    ] refl is

character_said : (words : List ℕ) (x : Glyph) → character_told words ≡ Some x → IsCharacter x words
character_said words x is =
    named (codes "GE ") words _ _ x (IsCharacter x words) is
    (λ code at told. let g = glyph_said true code x (byte_told code) refl told in (g.0, inl (g.1, (code, at, g.2))))
    (λ told. let g = glyph_said false words x (byte_told words) refl told in (g.0, inr (g.1, g.2)))

parts_said : (line words number rest : List ℕ) (x : Item) (address : Option ℕ) (character : Option Glyph) → line ≡ codes "RA " ++ words → cut_at 0x20 words ≡ Some (number, rest)
    → address ≡ number_told number → character ≡ character_told rest → repeat_from address character ≡ Some x → SaysOrder line x
parts_said line words number rest x (Some address) (Some character) at parts addressed told is =
    let same : repeat_to_address address character ≡ x = cc in
    subst (SaysOrder line) same (words, at, (number, rest, parts, sym addressed, character_said rest character (sym told)))
parts_said line words number rest x None (Some character) at parts addressed told is = absurd cc
parts_said line words number rest x (Some address) None at parts addressed told is = absurd cc
parts_said line words number rest x None None at parts addressed told is = absurd cc

repeat_said : (line words : List ℕ) (x : Item) (parts : Option (List ℕ × List ℕ)) → line ≡ codes "RA " ++ words → cut_at 0x20 words ≡ parts
    → option_and_then (λ (p : List ℕ × List ℕ). repeat_from (number_told p.0) (character_told p.1)) parts ≡ Some x → SaysOrder line x
repeat_said line words x None at cut is = absurd cc
repeat_said line words x (Some (number, rest)) at cut is = parts_said line words number rest x (number_told number) (character_told rest) at cut refl refl is

address_said : (line : List ℕ) (x : Item) → address_told line ≡ Some x → SaysOrder line x
unfolding address_told
address_said line x is =
    named (codes "SBA ") line _ _ x (SaysOrder line x) is (λ words at told. carried set_buffer_address (codes "SBA ") line words number_told x (SaysOrder line) at told (λ a c. c))
    (λ rest. named (codes "EUA ") line _ _ x (SaysOrder line x) rest (λ words at told. carried erase_unprotected_to_address (codes "EUA ") line words number_told x (SaysOrder line) at told (λ a c. c))
    (λ rest. named (codes "RA ") line _ _ x (SaysOrder line x) rest (λ words at told. repeat_said line words x (cut_at 0x20 words) at refl told)
    (λ none. absurd cc)))

short_said : (line : List ℕ) (x : Item) → short_told line ≡ Some x → SaysOrder line x
unfolding short_told
short_said line x is =
    named (codes "SF ") line _ _ x (SaysOrder line x) is (λ words at told. attribute_said line words x (byte_told words) at refl told)
    (λ rest. named (codes "SA ") line _ _ x (SaysOrder line x) rest (λ words at told. set_said line words x (pair_told words) at refl told)
    (λ rest. named (codes "GE ") line _ _ x (SaysOrder line x) rest (λ words at told. carried graphic_escape (codes "GE ") line words byte_told x (SaysOrder line) at told (λ a c. c))
    (λ rest. alone (codes "IC") line _ _ x (SaysOrder line x) rest (λ at same. subst (SaysOrder line) same at)
    (λ rest. alone (codes "PT") line _ _ x (SaysOrder line x) rest (λ at same. subst (SaysOrder line) same at)
    (λ rest. address_said line x rest)))))

order_said : (line : List ℕ) (x : Item) → order_told line ≡ Some x → SaysOrder line x
unfolding order_told
order_said line x is =
    named (codes "TEXT ") line _ _ x (SaysOrder line x) is (λ words at told. run_said line words x (decode_of words) at refl told)
    (λ rest. named (codes "SFE") line _ _ x (SaysOrder line x) rest (λ words at told. carried start_field_extended (codes "SFE") line words pairs_told x (SaysOrder line) at told (λ a c. c))
    (λ rest. named (codes "MF") line _ _ x (SaysOrder line x) rest (λ words at told. carried modify_field (codes "MF") line words pairs_told x (SaysOrder line) at told (λ a c. c))
    (λ rest. short_said line x rest)))

line_said : (line : List ℕ) (x : Told) (first : Option Command) (others : Option Item) → first ≡ command_told line → others ≡ order_told line → first_told first others ≡ Some x → Says line x
line_said line x (Some told) others first other is = let same : command told ≡ x = cc in subst (Says line) same (command_said line told (sym first))
line_said line x None (Some told) first other is = let same : order told ≡ x = cc in subst (Says line) same (order_said line told (sym other))
line_said line x None None first other is = absurd cc

-- ---- and back

command_read : (line : List ℕ) (told : Command) → SaysCommand line told → command_told line ≡ Some told
unfolding command_told
command_read line (commands.Write wcc) (words, at, byte) = rw (at, byte) refl
command_read line (commands.EraseWrite wcc) (words, at, byte) = rw (at, byte) refl
command_read line (commands.EraseWriteAlternate wcc) (words, at, byte) = rw (at, byte) refl
command_read line commands.EraseAllUnprotected at = rw at refl
command_read line commands.ReadBuffer at = rw at refl
command_read line commands.ReadModified at = rw at refl
command_read line commands.ReadModifiedAll at = rw at refl
command_read line commands.NoOperation at = rw at refl

text_read : (run : List ℕ) → (run ≡ [] → ⊥) → text_from (Ok run) ≡ Some (text run)
text_read [] some = absurd (some refl)
text_read (byte ∷ bytes) some = refl

glyph_read : (alt : Bool) (x : Glyph) → is_glyph x ≡ true → x.alt ≡ alt → character_from alt (Some x.code) ≡ Some x
glyph_read alt x real is =
    let P : Glyph → Type 0 = λ z. cond (is_glyph z) (Some z) None ≡ Some x in
    let here : P x = ap (λ (t : Bool). cond t (Some x) None) real in
    subst P (ap (λ (a : Bool). glyph x.code a) is) here

-- no code of a character alone begins with GE and a space
plain_read : (words : List ℕ) (x : Glyph) → byte_told words ≡ Some x.code → character_told words ≡ character_from false (byte_told words)
plain_read [] x byte = absurd cc
plain_read (a ∷ []) x byte = absurd cc
plain_read (a ∷ b ∷ []) x byte = rw (no_escape a b) refl
plain_read (a ∷ b ∷ c ∷ words) x byte = absurd cc

character_read : (words : List ℕ) (x : Glyph) → IsCharacter x words → character_told words ≡ Some x
character_read words x (real, inl (alt, (code, at, byte))) = rw (at, byte) (glyph_read true x real alt)
character_read words x (real, inr (alt, byte)) = plain_read words x byte ∙ rw byte (glyph_read false x real alt)

order_read : (line : List ℕ) (told : Item) → SaysOrder line told → order_told line ≡ Some told
unfolding order_told short_told address_told
order_read line (text run) (words, at, (digits, some)) = rw (at, digits) (text_read run some)
order_read line (start_field attribute) (six, (words, at, byte)) = rw (at, byte, lt-ltb attribute 64 six) refl
order_read line (start_field_extended pairs) (words, at, told) = rw (at, told) refl
order_read line (set_buffer_address address) (words, at, told) = rw (at, told) refl
order_read line (set_attribute kind value) (words, at, told) = rw (at, told) refl
order_read line (modify_field pairs) (words, at, told) = rw (at, told) refl
order_read line insert_cursor at = rw at refl
order_read line program_tab at = rw at refl
order_read line (repeat_to_address address character) (words, at, (number, rest, parts, told, is)) = rw (at, parts, told, character_read rest character is) refl
order_read line (erase_unprotected_to_address address) (words, at, told) = rw (at, told) refl
order_read line (graphic_escape code) (words, at, told) = rw (at, told) refl

no_command : (line : List ℕ) (told : Item) → SaysOrder line told → command_told line ≡ None
unfolding command_told
no_command line (text run) (words, at, told) = rw at refl
no_command line (start_field attribute) (six, (words, at, told)) = rw at refl
no_command line (start_field_extended pairs) (words, at, told) = rw at refl
no_command line (set_buffer_address address) (words, at, told) = rw at refl
no_command line (set_attribute kind value) (words, at, told) = rw at refl
no_command line (modify_field pairs) (words, at, told) = rw at refl
no_command line insert_cursor at = rw at refl
no_command line program_tab at = rw at refl
no_command line (repeat_to_address address character) (words, at, told) = rw at refl
no_command line (erase_unprotected_to_address address) (words, at, told) = rw at refl
no_command line (graphic_escape code) (words, at, told) = rw at refl

line_read : (line : List ℕ) (told : Told) → Says line told → told_of line ≡ Some told
line_read line (command told) is = rw (command_read line told is) refl
line_read line (order told) is = rw (no_command line told is, order_read line told is) refl

pub tells_what_is_said : TellsWhatIsSaid
tells_what_is_said line told = (line_said line told (command_told line) (order_told line) refl refl, line_read line told)
