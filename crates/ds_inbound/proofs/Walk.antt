-- Going over the characters and fields of an answer.
use Rattle.std.proofs.Common.{◌≡◌, ℕ, zero, suc, ◌+◌, ◌-◌, ◌<◌, ◌≤◌, Bool, true, false, List, [], ◌∷◌, ◌++◌, length, drop, Result, Ok, Err, refl, ap, ◌∙◌, arith, length-drop}
use Rattle.std.proofs.lemmas.List.{append-nil}
use Rattle.ds_codec.specs.declared.size.Mode.{Mode}
use Rattle.ds_codec.specs.Character.{Glyph, glyph}
use Rattle.ds_codec.specs.Reading.{◌>>=◌}
use Rattle.ds_inbound.specs.declared.refused.Refused.{Refused}
use Rattle.ds_inbound.specs.declared.refused.Why.{Why}
use Rattle.ds_inbound.specs.declared.item.Item.{Item}
use Rattle.ds_inbound.specs.declared.item.Item.TheVariants as items
use Rattle.ds_inbound.specs.Answer.{Sent}
use Rattle.ds_inbound.specs.Inbound.{IsGlyphThen, AreGlyphsThen, IsAddressThen, AreFieldsThen, IsTailThen, HasFault}
use Rattle.ds_inbound.specs.Reading.{front, Tail, no_tail, before, tail_from}
use Rattle.ds_inbound.proofs.Glyphs.{size_of, TakesGlyph}
use Rattle.ds_inbound.proofs.Fronts.{TakesPlace, FrontSays, front_says, front_of_glyph, front_of_place, front_refused, fault_some}

-- ---- steps

-- to skip bytes is to begin behind them
skips : (mode : Mode) (cells skip at : ℕ) (bytes : List ℕ) → tail_from mode cells skip at bytes ≡ tail_from mode cells 0 (at + skip) (drop skip bytes)
skips mode cells zero at bytes = let same : at + 0 ≡ at = omega arith in rw same refl
skips mode cells (suc skip) at [] = refl
skips mode cells (suc skip) at (byte ∷ rest) =
    let same : (at + 1) + skip ≡ at + suc skip = omega arith in
    skips mode cells skip (at + 1) rest ∙ ap (λ k. tail_from mode cells 0 k (drop skip rest)) same

-- an item before what was read behind it
abbrev pub then_tail : Item → Result Tail Refused → Result Tail Refused
then_tail item others = others >>= λ tail. Ok (before item tail)

step_by : (mode : Mode) (cells at byte : ℕ) (rest : List ℕ) (item : Item) (n : ℕ) → front mode cells (byte ∷ rest) ≡ Ok (item, n) → 0 < n
    → tail_from mode cells 0 at (byte ∷ rest) ≡ then_tail item (tail_from mode cells 0 (at + n) (drop n (byte ∷ rest)))
step_by mode cells at byte rest item zero e some = absurd (omega arith)
step_by mode cells at byte rest item (suc n) e some =
    let back : suc n - 1 ≡ n = omega arith in
    let same : (at + 1) + n ≡ at + suc n = omega arith in
    rw (e, back, skips mode cells n (at + 1) rest, same) refl

pub step : (mode : Mode) (cells at : ℕ) (bytes : List ℕ) (item : Item) (n : ℕ) → front mode cells bytes ≡ Ok (item, n) → 0 < n
    → tail_from mode cells 0 at bytes ≡ then_tail item (tail_from mode cells 0 (at + n) (drop n bytes))
unfolding front
step mode cells at [] item n e some = absurd cc
step mode cells at (byte ∷ rest) item n e some = step_by mode cells at byte rest item n e some

-- a fault ends the walk
pub stop : (mode : Mode) (cells at byte : ℕ) (rest : List ℕ) (why : Why) → front mode cells (byte ∷ rest) ≡ Err why
    → tail_from mode cells 0 at (byte ∷ rest) ≡ Err (record { at = at; why = why })
stop mode cells at byte rest why e = rw e refl

-- ---- what is spelled is read

-- characters before a tail
abbrev pub led : List Glyph → Result Tail Refused → Result Tail Refused
led characters others = others >>= λ tail. Ok (record { lead = characters ++ tail.lead; fields = tail.fields })

led_none : (r : Result Tail Refused) → r ≡ led [] r
led_none (Ok tail) = refl
led_none (Err e) = refl

led_more : (character : Glyph) (characters : List Glyph) (r : Result Tail Refused) → then_tail (items.Char character) (led characters r) ≡ led (character ∷ characters) r
led_more character characters (Ok tail) = refl
led_more character characters (Err e) = refl

some_size : (alt : Bool) → 0 < size_of alt
some_size true = omega arith
some_size false = omega arith

glyph_length : (code : ℕ) (alt : Bool) (bytes rest : List ℕ) → IsGlyphThen (glyph code alt) bytes rest → length bytes ≡ size_of alt + length rest
glyph_length code true bytes rest (good, is) = rw is (omega arith)
glyph_length code false bytes rest (good, is) = rw is (omega arith)

-- characters, of which the first stands here and what is behind them there
pub glyphs_again : (mode : Mode) (cells at there : ℕ) (characters : List Glyph) (bytes rest : List ℕ) → AreGlyphsThen characters bytes rest
    → there + length rest ≡ at + length bytes → tail_from mode cells 0 at bytes ≡ led characters (tail_from mode cells 0 there rest)
glyphs_again mode cells at there [] bytes rest is place =
    let same : at ≡ there = omega (arith, ap length is) in
    rw (is, same) (led_none (tail_from mode cells 0 there rest))
glyphs_again mode cells at there (character ∷ characters) bytes rest (more, here, later) place =
    let size : ℕ = size_of character.alt in
    let read = front_of_glyph mode cells character bytes more here in
    let on : there + length rest ≡ (at + size) + length more = omega (arith, glyph_length character.code character.alt bytes more here) in
    step mode cells at bytes (items.Char character) size read.0 (some_size character.alt)
    ∙ ap (λ b. then_tail (items.Char character) (tail_from mode cells 0 (at + size) b)) read.1
    ∙ ap (then_tail (items.Char character)) (glyphs_again mode cells (at + size) there characters more rest later on)
    ∙ led_more character characters (tail_from mode cells 0 there rest)

-- fields before a tail
abbrev pub fielded : List Sent → Result Tail Refused → Result Tail Refused
fielded [] others = others
fielded (field ∷ fields) others = then_tail (items.Field field.place) (led field.characters (fielded fields others))

address_length : (mode : Mode) (cells address : ℕ) (bytes rest : List ℕ) → IsAddressThen mode cells address bytes rest → length bytes ≡ 2 + length rest
address_length mode cells address bytes rest (first, second, is, spelled, near) = rw is (omega arith)

glyphs_shorter : (characters : List Glyph) (bytes rest : List ℕ) → AreGlyphsThen characters bytes rest → length rest ≤ length bytes
glyphs_shorter [] bytes rest is = omega (arith, ap length is)
glyphs_shorter (character ∷ characters) bytes rest (more, here, later) =
    omega (arith, glyph_length character.code character.alt bytes more here, glyphs_shorter characters more rest later)

pub fields_again : (mode : Mode) (cells at there : ℕ) (fields : List Sent) (bytes rest : List ℕ) → AreFieldsThen mode cells fields bytes rest
    → there + length rest ≡ at + length bytes → tail_from mode cells 0 at bytes ≡ fielded fields (tail_from mode cells 0 there rest)
fields_again mode cells at there [] bytes rest is place =
    let same : at ≡ there = omega (arith, ap length is) in
    rw (is, same) refl
fields_again mode cells at there (field ∷ fields) bytes rest (more, (marked, raw, mark, address, characters), later) place =
    let read = front_of_place mode cells field.place bytes marked raw mark address in
    let whole : length bytes ≡ 3 + length raw = omega (arith, ap length mark, address_length mode cells field.place marked raw address) in
    let short : length more ≤ length raw = glyphs_shorter field.characters raw more characters in
    let between : ℕ = (at + 3) + length raw - length more in
    let there_is : between + length more ≡ (at + 3) + length raw = omega arith in
    let on : there + length rest ≡ between + length more = omega arith in
    step mode cells at bytes (items.Field field.place) 3 read.0 (omega arith)
    ∙ ap (λ b. then_tail (items.Field field.place) (tail_from mode cells 0 (at + 3) b)) read.1
    ∙ ap (then_tail (items.Field field.place)) (glyphs_again mode cells (at + 3) between field.characters raw more characters there_is)
    ∙ ap (λ r. then_tail (items.Field field.place) (led field.characters r)) (fields_again mode cells between there fields more rest later on)

pub fielded_fails : (fields : List Sent) (e : Refused) (r : Result Tail Refused) → r ≡ Err e → fielded fields r ≡ Err e
fielded_fails [] e r fails = fails
fielded_fails (field ∷ fields) e r fails = ap (λ x. then_tail (items.Field field.place) (led field.characters x)) (fielded_fails fields e r fails)

pub fielded_ends : (fields : List Sent) (r : Result Tail Refused) → r ≡ Ok no_tail → fielded fields r ≡ Ok (record { lead = []; fields = fields })
fielded_ends [] r ends = ends
fielded_ends (field ∷ fields) r ends =
    ap (λ x. then_tail (items.Field field.place) (led field.characters x)) (fielded_ends fields r ends)
    ∙ ap (λ cs. Ok (record { lead = []; fields = record { place = field.place; characters = cs } ∷ fields })) (append-nil field.characters)

-- characters and fields, and nothing behind them
pub tail_again : (mode : Mode) (cells at : ℕ) (lead : List Glyph) (fields : List Sent) (bytes : List ℕ) → IsTailThen mode cells lead fields bytes []
    → tail_from mode cells 0 at bytes ≡ Ok (record { lead = lead; fields = fields })
tail_again mode cells at lead fields bytes (more, characters, later) =
    let short : length more ≤ length bytes = glyphs_shorter lead bytes more characters in
    let between : ℕ = at + length bytes - length more in
    let there_is : between + length more ≡ at + length bytes = omega arith in
    let on : (between + length more) + 0 ≡ between + length more = omega arith in
    glyphs_again mode cells at between lead bytes more characters there_is
    ∙ ap (led lead) (fields_again mode cells between (between + length more) fields more [] later on ∙ fielded_ends fields _ refl)
    ∙ ap (λ cs. Ok (record { lead = cs; fields = fields })) (append-nil lead)

led_fails : (characters : List Glyph) (e : Refused) (r : Result Tail Refused) → r ≡ Err e → led characters r ≡ Err e
led_fails characters e r fails = ap (led characters) fails

fields_shorter : (mode : Mode) (cells : ℕ) (fields : List Sent) (bytes rest : List ℕ) → AreFieldsThen mode cells fields bytes rest → length rest ≤ length bytes
fields_shorter mode cells [] bytes rest is = omega (arith, ap length is)
fields_shorter mode cells (field ∷ fields) bytes rest (more, (marked, raw, mark, address, characters), later) =
    omega (arith, ap length mark, address_length mode cells field.place marked raw address, glyphs_shorter field.characters raw more characters, fields_shorter mode cells fields more rest later)

-- a fault behind characters and fields ends the walk there
pub tail_refused : (mode : Mode) (cells at there : ℕ) (lead : List Glyph) (fields : List Sent) (bytes rest : List ℕ) (why : Why) → IsTailThen mode cells lead fields bytes rest
    → there + length rest ≡ at + length bytes → HasFault mode cells why rest → tail_from mode cells 0 at bytes ≡ Err (record { at = there; why = why })
tail_refused mode cells at there lead fields bytes [] why (more, characters, later) place fault = absurd (fault_some mode cells why fault)
tail_refused mode cells at there lead fields bytes (byte ∷ rest) why (more, characters, later) place fault =
    let short : length more ≤ length bytes = glyphs_shorter lead bytes more characters in
    let between : ℕ = at + length bytes - length more in
    let there_is : between + length more ≡ at + length bytes = omega arith in
    let on : there + length (byte ∷ rest) ≡ between + length more = omega arith in
    glyphs_again mode cells at between lead bytes more characters there_is
    ∙ led_fails lead (record { at = there; why = why }) _ (fields_again mode cells between there fields more (byte ∷ rest) later on
    ∙ fielded_fails fields (record { at = there; why = why }) _ (stop mode cells there byte rest why (front_refused mode cells why (byte ∷ rest) fault)))

-- ---- what is read is spelled, and what is refused is at fault

abbrev pub FaultsFrom : Mode → ℕ → ℕ → List ℕ → Refused → Type 0
FaultsFrom mode cells at bytes e =
    (lead : List Glyph) × (fields : List Sent) × (rest : List ℕ) × IsTailThen mode cells lead fields bytes rest × (e.at + length rest ≡ at + length bytes)
    × HasFault mode cells e.why rest

abbrev pub WalkSays : Mode → ℕ → ℕ → List ℕ → Result Tail Refused → Type 0
WalkSays mode cells at bytes (Ok tail) = IsTailThen mode cells tail.lead tail.fields bytes []
WalkSays mode cells at bytes (Err e) = FaultsFrom mode cells at bytes e

walk_character : (mode : Mode) (cells at : ℕ) (bytes : List ℕ) (character : Glyph) (taken : ℕ) (r : Result Tail Refused) → TakesGlyph character taken bytes
    → WalkSays mode cells (at + taken) (drop taken bytes) r → WalkSays mode cells at bytes (then_tail (items.Char character) r)
walk_character mode cells at bytes character taken (Ok tail) takes (more, characters, later) = (more, (drop taken bytes, takes.then, characters), later)
walk_character mode cells at bytes character taken (Err e) takes (lead, fields, rest, (more, characters, later), place, fault) =
    let there : e.at + length rest ≡ at + length bytes = omega (arith, place, length-drop taken bytes, takes.inside) in
    (character ∷ lead, fields, rest, (more, (drop taken bytes, takes.then, characters), later), there, fault)

walk_field : (mode : Mode) (cells at : ℕ) (bytes : List ℕ) (place taken : ℕ) (r : Result Tail Refused) → TakesPlace mode cells place taken bytes
    → WalkSays mode cells (at + taken) (drop taken bytes) r → WalkSays mode cells at bytes (then_tail (items.Field place) r)
walk_field mode cells at bytes place taken (Ok tail) takes (more, characters, later) =
    (bytes, refl, (more, (takes.marked, drop taken bytes, takes.mark, takes.then, characters), later))
walk_field mode cells at bytes place taken (Err e) takes (lead, fields, rest, (more, characters, later), from, fault) =
    let there : e.at + length rest ≡ at + length bytes = omega (arith, from, length-drop taken bytes, takes.inside) in
    ([], record { place = place; characters = lead } ∷ fields, rest, (bytes, refl, (more, (takes.marked, drop taken bytes, takes.mark, takes.then, characters), later)), there, fault)

three_some : (taken : ℕ) → taken ≡ 3 → 0 < taken
three_some taken e = omega arith

abbrev WalksOn : Mode → ℕ → ℕ → ℕ → Type 0
WalksOn mode cells n at = (bytes : List ℕ) → length bytes ≤ n → (there : ℕ) → WalkSays mode cells there bytes (tail_from mode cells 0 there bytes)

walk_front : (n : ℕ) (mode : Mode) (cells at byte : ℕ) (rest : List ℕ) (r : Result (Item × ℕ) Why) → length rest ≤ n → FrontSays mode cells (byte ∷ rest) r
    → front mode cells (byte ∷ rest) ≡ r → WalksOn mode cells n at → WalkSays mode cells at (byte ∷ rest) (tail_from mode cells 0 at (byte ∷ rest))
walk_front n mode cells at byte rest (Ok (items.Char character, taken)) short says read walk =
    let some : 0 < taken = says.1.some in
    let shorter : length (drop taken (byte ∷ rest)) ≤ n = omega (arith, length-drop taken (byte ∷ rest)) in
    rw (step mode cells at (byte ∷ rest) (items.Char character) taken read some)
    (walk_character mode cells at (byte ∷ rest) character taken _ says.1 (walk (drop taken (byte ∷ rest)) shorter (at + taken)))
walk_front n mode cells at byte rest (Ok (items.Field place, taken)) short says read walk =
    let some : 0 < taken = three_some taken says.three in
    let shorter : length (drop taken (byte ∷ rest)) ≤ n = omega (arith, length-drop taken (byte ∷ rest)) in
    rw (step mode cells at (byte ∷ rest) (items.Field place) taken read some)
    (walk_field mode cells at (byte ∷ rest) place taken _ says (walk (drop taken (byte ∷ rest)) shorter (at + taken)))
walk_front n mode cells at byte rest (Err why) short says read walk =
    rw (stop mode cells at byte rest why read) ([], [], byte ∷ rest, (byte ∷ rest, refl, refl), refl, says)

walk_within : (n : ℕ) (mode : Mode) (cells at : ℕ) (bytes : List ℕ) → length bytes ≤ n → WalkSays mode cells at bytes (tail_from mode cells 0 at bytes)
walk_within n mode cells at [] short = ([], refl, refl)
walk_within zero mode cells at (byte ∷ rest) short = absurd (omega arith)
walk_within (suc n) mode cells at (byte ∷ rest) short =
    walk_front n mode cells at byte rest (front mode cells (byte ∷ rest)) (omega arith) (front_says mode cells byte rest) refl
    (λ bytes less there. walk_within n mode cells there bytes less)

pub walk : (mode : Mode) (cells at : ℕ) (bytes : List ℕ) → WalkSays mode cells at bytes (tail_from mode cells 0 at bytes)
walk mode cells at bytes = walk_within (length bytes) mode cells at bytes (omega arith)
