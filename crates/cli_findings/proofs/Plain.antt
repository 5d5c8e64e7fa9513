-- An object of numbers, texts, an order and keys holds no float, and nests three deep at most.
use Rattle.std.proofs.Common.{◌≡◌, ◌≤◌, ℕ, Bool, true, false, ◌||◌, ◌==◌, List, [], ◌∷◌, ◌++◌, Option, Some, None, option_map, option_and_then, Ordering, Less, Equal, Greater, refl, arith}
use Rattle.std.specs.Prelude.{codes, slice_get, if◌then◌else◌}
use Rattle.std.specs.Ordering.{match_ordering}
use Rattle.hex.specs.Hex.{encode_upper}
use Rattle.serde_json.specs.Data.{Data, number, unsigned, string, Members, no_members, member, put, depth, items_depth, members_depth}
use Rattle.serde_json.specs.View.{items_of}
use Rattle.serde_json.specs.Read.{max_depth}
use Rattle.serde_json.specs.Written.{has_float, items_have_float, members_have_float}
use Rattle.ds_screen.specs.Picture.{Picture}
use Rattle.scr_layout.specs.Layout.{Declaration}
use Rattle.scr_check.specs.declared.finding.Demo.{Demo}
use Rattle.scr_check.specs.declared.origins.Origin.{Origin}
use Rattle.scr_check.specs.declared.traced.Traced.{Traced}
use Rattle.scr_check.specs.FindingText.{demo_of, finding_number, finding_text}
use Rattle.cli_findings.specs.Facts.{record_of, byte_of, entry_of, place_of, row_at, column_at, length_of, sizes_of, size_text, sent_from}
use Rattle.cli_findings.specs.Help.{help_of}
use Rattle.cli_findings.specs.Name.{name_of}
use Rattle.cli_findings.specs.Members.{with_some, with_count, with_text, with_words, with_spot, with_end, with_place, with_entry, with_sizes, with_keys, with_help, spot_data, key_data, pressed, keys_data, finding_members, finding_data}

neither : (a b : Bool) → (a || b) ≡ false → (a ≡ false) × (b ≡ false)
neither false b none = (refl, none)
neither true b none = absurd cc

both : (a b : Bool) → a ≡ false → b ≡ false → (a || b) ≡ false
both a b no_a no_b = rw (no_a, no_b) refl

one_of : (o : Ordering) (a b c : Members) → members_have_float a ≡ false → members_have_float b ≡ false → members_have_float c ≡ false
    → members_have_float (match_ordering o a b c) ≡ false
one_of Less a b c no_a no_b no_c = no_a
one_of Equal a b c no_a no_b no_c = no_b
one_of Greater a b c no_a no_b no_c = no_c

put_plain : (k : List ℕ) (d : Data) (ms : Members) → has_float d ≡ false → members_have_float ms ≡ false → members_have_float (put k d ms) ≡ false
put_plain k d no_members value old = both (has_float d) false value refl
put_plain k d (member l e ms) value old =
    let parts = neither (has_float e) (members_have_float ms) old in
    one_of _ (member k d (member l e ms)) (member l d ms) (member l e (put k d ms)) (both (has_float d) _ value old) (both (has_float d) _ value parts.1)
    (both (has_float e) _ parts.0 (put_plain k d ms value parts.1))

depth_of : (n : ℕ) (o : Ordering) (a b c : Members) → members_depth a ≤ n → members_depth b ≤ n → members_depth c ≤ n
    → members_depth (match_ordering o a b c) ≤ n
depth_of n Less a b c p q r = p
depth_of n Equal a b c p q r = q
depth_of n Greater a b c p q r = r

put_nests : (n : ℕ) (k : List ℕ) (d : Data) (ms : Members) → depth d ≤ n → members_depth ms ≤ n → members_depth (put k d ms) ≤ n
put_nests n k d no_members p q = omega (arith, p)
put_nests n k d (member l e ms) p q =
    depth_of n _ (member k d (member l e ms)) (member l d ms) (member l e (put k d ms)) (omega (arith, p, q)) (omega (arith, p, q))
    (omega (arith, q, put_nests n k d ms p (omega (arith, q))))

-- members without a float, of which none nests deeper than this
pub record IsPlain (n : ℕ) (ms : Members) : Type 0 where
  pub none : members_have_float ms ≡ false
  pub flat : members_depth ms ≤ n

pub put_both : (n : ℕ) (k : List ℕ) (d : Data) (ms : Members) → has_float d ≡ false → depth d ≤ n → IsPlain n ms → IsPlain n (put k d ms)
put_both n k d ms value flat old = record { none = put_plain k d ms value old.none; flat = put_nests n k d ms flat old.flat }

pub count_plain : (n : ℕ) (k : List ℕ) (count : Option ℕ) (ms : Members) → IsPlain n ms → IsPlain n (with_count k count ms)
count_plain n k None ms old = old
count_plain n k (Some count) ms old = put_both n k (number (unsigned count)) ms refl (omega arith) old

pub text_plain : (n : ℕ) (k : List ℕ) (text : Option (List ℕ)) (ms : Members) → IsPlain n ms → IsPlain n (with_text k text ms)
text_plain n k None ms old = old
text_plain n k (Some text) ms old = put_both n k (string text) ms refl (omega arith) old

-- ---- orders

pub spot_plain : (n : ℕ) (numbers : List ℕ) (index byte : Option ℕ) (ms : Members) → IsPlain n ms → IsPlain n (with_spot numbers index byte ms)
spot_plain n numbers index byte ms old =
    let indexed = count_plain n (codes "record") index ms old in
    let with_line = count_plain n (codes "line") (option_and_then (slice_get numbers) index) _ indexed in
    count_plain n (codes "byte") byte _ with_line

order_plain : (numbers : List ℕ) (origin : Origin) → IsPlain 0 (with_spot numbers (Some origin.index) (Some origin.at) no_members)
order_plain numbers origin = spot_plain 0 numbers (Some origin.index) (Some origin.at) no_members (record { none = refl; flat = omega arith })

end_plain : (numbers : List ℕ) (end : Option Origin) (ms : Members) → IsPlain 2 ms → IsPlain 2 (with_end numbers end ms)
end_plain numbers None ms old = old
end_plain numbers (Some origin) ms old =
    let plain = order_plain numbers origin in
    let flat = plain.flat in
    put_both 2 (codes "end") (spot_data numbers origin) ms plain.none (omega (arith, flat)) old

-- ---- keys

-- items without a float, of which none nests deeper than one
record AreFlat (keys : List Data) : Type 0 where
  none : items_have_float (items_of keys) ≡ false
  flat : items_depth (items_of keys) ≤ 1

pressed_before : (b : Bool) (line : List ℕ) (times : ℕ) (keys : List Data) → AreFlat keys
    → AreFlat ((if b then [] else (key_data line times ∷ [])) ++ keys)
pressed_before true line times keys old = old
pressed_before false line times keys old = let flat = old.flat in record { none = old.none; flat = omega (arith, flat) }

demo_plain : (demo : Demo) → AreFlat (pressed (codes "right") demo.rights ++ (pressed (codes "type C1") demo.types ++ pressed (codes "enter") 1))
demo_plain demo =
    let enter : AreFlat (pressed (codes "enter") 1) = record { none = refl; flat = omega arith } in
    pressed_before (demo.rights == 0) (codes "right") demo.rights _ (pressed_before (demo.types == 0) (codes "type C1") demo.types (pressed (codes "enter") 1) enter)

pub keys_plain : (demo : Option Demo) (ms : Members) → IsPlain 2 ms → IsPlain 2 (with_some (codes "keys") (option_map keys_data demo) ms)
keys_plain None ms old = old
keys_plain (Some demo) ms old =
    let plain = demo_plain demo in
    let flat = plain.flat in
    put_both 2 (codes "keys") (keys_data demo) ms plain.none (omega (arith, flat)) old

-- ---- the object

pub plain_finding : (layout : Declaration) (numbers : List ℕ) (opened : Option Picture) (traced : Traced) → IsPlain 2 (finding_members layout numbers opened traced)
plain_finding layout numbers opened traced =
    let finding = traced.finding in
    let numbered = count_plain 2 (codes "number") (Some (finding_number finding)) no_members (record { none = refl; flat = omega arith }) in
    let named = text_plain 2 (codes "name") (Some (name_of finding)) _ numbered in
    let worded = text_plain 2 (codes "words") (Some (finding_text layout.entries finding)) _ named in
    let begun = spot_plain 2 numbers (record_of traced) (byte_of traced) _ worded in
    let ended = end_plain numbers traced.end _ begun in
    let placed = count_plain 2 (codes "place") (place_of layout.entries finding) _ ended in
    let in_row = count_plain 2 (codes "row") (option_map (row_at layout.size) (place_of layout.entries finding)) _ placed in
    let in_column = count_plain 2 (codes "column") (option_map (column_at layout.size) (place_of layout.entries finding)) _ in_row in
    let with_length = count_plain 2 (codes "length") (length_of finding) _ in_column in
    let declared = count_plain 2 (codes "declared") (option_map (λ entry. entry.length) (entry_of layout.entries finding)) _ with_length in
    let entered = text_plain 2 (codes "entry") (option_map (λ entry. entry.name) (entry_of layout.entries finding)) _ declared in
    let sized = text_plain 2 (codes "size") (option_map (λ both. size_text both.0) (sizes_of finding)) _ entered in
    let with_layout = text_plain 2 (codes "layout") (option_map (λ both. size_text both.1) (sizes_of finding)) _ sized in
    let keyed = keys_plain (demo_of finding) _ with_layout in
    let sent = text_plain 2 (codes "sends") (option_map encode_upper (sent_from opened (demo_of finding))) _ keyed in
    text_plain 2 (codes "help") (help_of layout traced) _ sent

pub finding_plain : (layout : Declaration) (numbers : List ℕ) (opened : Option Picture) (traced : Traced) → has_float (finding_data layout numbers opened traced) ≡ false
finding_plain layout numbers opened traced = (plain_finding layout numbers opened traced).none

pub finding_nests : (layout : Declaration) (numbers : List ℕ) (opened : Option Picture) (traced : Traced) → depth (finding_data layout numbers opened traced) ≤ max_depth
finding_nests layout numbers opened traced = let flat = (plain_finding layout numbers opened traced).flat in omega (arith, flat)
