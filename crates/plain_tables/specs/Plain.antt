-- A text in the usual form beside the grammar of TOML: what stands on a line, and how the document goes on behind it.
use Rattle.std.specs.Prelude.{◌≡◌, ℕ, ◌<◌, ◌≤◌, Bool, true, List, [], ◌∷◌, length, Option, Some, None, option_map, Result, IfOk, IfSome}
use Rattle.std.specs.Borrow.{Bor}
use Rattle.std.specs.declared.alloc.AllocError.{AllocError}
use Rattle.toml_parser.specs.Lexical.{Read, skip_ws}
use Rattle.toml_parser.specs.Strings.{recursion_limit}
use Rattle.toml.specs.Data.{Data, array, Items, no_items, Members, no_members, member}
use Rattle.toml.specs.View.{view}
use Rattle.toml.specs.declared.value.Value.{Value}
use Rattle.toml.specs.Tables.{value, open_array, Nodes, no_nodes, node, Edit, get_node, insert, close, along_header, key_value, array_table, Expression, Document}
use Rattle.toml.specs.Parse.{val, line, lines, ends_line}

-- where something was found at the front of the text, it is what the grammar reads there, seen by f, and less text is left
abbrev pub Found : {A B : Type 0} → (A → B) → Result (Option (A × Bor (List ℕ))) AllocError → List ℕ → Read B → Type 0
Found f result text read = IfOk result (λ found. IfSome found (λ p. (read ≡ Some (f p.0, p.1.now)) × (length p.1.now < length text)))

-- nothing else stands on the line
abbrev pub is_end : List ℕ → Bool
is_end text = ends_line (skip_ws text)

-- a value that has the rest of its line to itself, and what follows it
abbrev pub IsLast : List ℕ → Value × Bor (List ℕ) → Type 0
IsLast text p = (val recursion_limit text ≡ Some (view p.0, p.1.now)) × (is_end p.1.now ≡ true) × (length p.1.now < length text)

-- a pair under a key without dots
abbrev pub pair_view : Bor (List ℕ) × Value → Expression
pair_view p = (([], p.0.now), key_value (view p.1))

-- the header of one table more under a key without dots
abbrev pub header_of : List ℕ → Expression
header_of key = (([], key), array_table)

-- what follows the line of this expression
abbrev pub IsBehind : Expression → List ℕ → Bor (List ℕ) → Type 0
IsBehind e text rest = (line text ≡ Some (e, rest.now)) × (length rest.now < length text)

-- the members as nodes, each of them complete
unfoldable pub valued : Members → Nodes
valued no_members = no_nodes
valued (member k d ms) = node k (value d) (valued ms)

-- a place in a document at which the pairs of a header go: around their nodes stand those of the document
abbrev pub IsPlace : (Nodes → Nodes) → List (List ℕ) → Type 0
IsPlace around section = (edit : Edit) (ns : Nodes) → along_header section edit (around ns) ≡ option_map around (edit ns)

-- wherever they stand, the text behind the pairs of ms is the rest behind those of more
abbrev pub GoesOn : Members → List ℕ → Members → List ℕ → Type 0
GoesOn ms text more rest = (length rest ≤ length text) × ((around : Nodes → Nodes) (section : List (List ℕ)) → IsPlace around section → (n : ℕ) → length text < n
    → (m : ℕ) × (length rest < m) × (lines n (around (valued ms), section) text ≡ lines m (around (valued more), section) rest))

-- the members now are those before with a pair of a new key, at its place in their order
abbrev pub IsPut : Members → List ℕ → Data → Members → Type 0
IsPut ms key d now = (get_node key (valued ms) ≡ None) × (insert key (value d) (valued ms) ≡ valued now)

-- a document with these members at its top, and under the key the tables that are done and the nodes of the last
abbrev pub with_tables : List ℕ → Members → Items → Nodes → Nodes
with_tables key top done last = insert key (open_array done last) (valued top)

-- behind the first header of the key the text has these tables, and then the rest behind a header of one more
abbrev pub HasDone : List ℕ → List ℕ → Items → List ℕ → Type 0
HasDone key text done rest = (top : Members) (n : ℕ) → length text < n
    → (m : ℕ) × (length rest < m) × (lines n (with_tables key top no_items no_nodes, key ∷ []) text ≡ lines m (with_tables key top done no_nodes, key ∷ []) rest)

-- behind the first header of the key the text has the rest of these tables and nothing else
abbrev pub AreTables : List ℕ → List ℕ → Items → Type 0
AreTables key text tables = (top : Members) (n : ℕ) → length text < n
    → (doc : Document) × (lines n (with_tables key top no_items no_nodes, key ∷ []) text ≡ Some doc)
    × (close doc.0 ≡ close (insert key (value (array tables)) (valued top)))
