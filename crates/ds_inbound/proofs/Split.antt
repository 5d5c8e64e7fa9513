-- A tail is a run of characters, and fields behind it.
use Rattle.std.proofs.Common.{◌≡◌, ℕ, ◌+◌, ◌<◌, true, List, [], ◌∷◌, ◌++◌, length, take, drop, Option, Some, None, Result, Ok, Err, refl, sym, ap, subst, ◌∙◌, arith}
use Rattle.std.proofs.lemmas.List.{append-nil, take_at, drop_at}
use Rattle.ds_codec.specs.declared.size.Mode.{Mode}
use Rattle.ds_codec.specs.Character.{Glyph}
use Rattle.ds_codec.specs.Reading.{◌>>=◌}
use Rattle.ds_codec.proofs.Steps.{ok_is, bind_ok}
use Rattle.ds_inbound.specs.declared.refused.Refused.{Refused}
use Rattle.ds_inbound.specs.declared.refused.Why.{Why}
use Rattle.ds_inbound.specs.declared.item.Item.{Item}
use Rattle.ds_inbound.specs.declared.item.Item.TheVariants as items
use Rattle.ds_inbound.specs.Answer.{Sent, written_characters}
use Rattle.ds_codec.specs.Aid.{is_short_aid}
use Rattle.ds_inbound.specs.Inbound.{AreGlyphsThen, AreFieldsThen, IsTailThen}
use Rattle.ds_codec.specs.Character.{is_text}
use Rattle.ds_inbound.specs.Characters.{front_character, characters_in}
use Rattle.ds_codec.specs.Reading.{refusal_in}
use Rattle.ds_inbound.specs.Reading.{front, Tail, before, tail_from, fields_of_tail, fields_in, AreFields, long_body, answer_after}
use Rattle.ds_inbound.proofs.Glyphs.{characters_again, written_then, no_characters, sendable_then, characters_written}
use Rattle.ds_inbound.proofs.Fronts.{front_some}
use Rattle.ds_inbound.proofs.Walk.{then_tail, step, stop, WalkSays, walk, tail_again}

-- ---- a run of characters, and what is behind it

pub record IsSplit (mode : Mode) (cells n : ℕ) (body : List ℕ) (tail : Tail) : Type 0 where
  pub characters : characters_in (take n body) ≡ tail.lead
  pub whole : written_characters (characters_in (take n body)) ≡ take n body
  pub behind : tail_from mode cells 0 0 (drop n body) ≡ Ok (record { lead = []; fields = tail.fields })

none_at_mark : (more : List ℕ) → characters_in (0x11 ∷ more) ≡ []
unfolding characters_in front_character is_text
none_at_mark more = refl

-- no character begins a field
none_before_fields : (mode : Mode) (cells : ℕ) (fields : List Sent) (bytes : List ℕ) → AreFieldsThen mode cells fields bytes [] → characters_in bytes ≡ []
none_before_fields mode cells [] bytes is = rw is no_characters
none_before_fields mode cells (field ∷ fields) bytes (more, (marked, raw, mark, address, characters), later) = rw mark (none_at_mark marked)

parted : (mode : Mode) (cells n : ℕ) (body more : List ℕ) (tail : Tail) → AreGlyphsThen tail.lead body more → AreFieldsThen mode cells tail.fields more []
    → n ≡ length (written_characters (characters_in body)) → IsSplit mode cells n body tail
parted mode cells n body more tail characters fields size =
    let none : characters_in more ≡ [] = none_before_fields mode cells tail.fields more fields in
    let all : characters_in body ≡ tail.lead = characters_again tail.lead body more characters ∙ ap (λ cs. tail.lead ++ cs) none ∙ append-nil tail.lead in
    let len : n ≡ length (written_characters tail.lead) = size ∙ ap (λ cs. length (written_characters cs)) all in
    let body_is : body ≡ written_characters tail.lead ++ more = written_then tail.lead body more characters in
    let run : take n body ≡ written_characters tail.lead = ap (take n) body_is ∙ take_at (written_characters tail.lead) more n (sym len) in
    let rest : drop n body ≡ more = ap (drop n) body_is ∙ drop_at (written_characters tail.lead) more n (sym len) in
    let again : characters_in (take n body) ≡ tail.lead = ap characters_in run ∙ characters_written tail.lead (sendable_then tail.lead body more characters) in
    record {
      characters = again;
      whole = ap written_characters again ∙ sym run;
      behind = ap (tail_from mode cells 0 0) rest ∙ tail_again mode cells 0 [] tail.fields more (more, refl, fields);
    }

pub split : (mode : Mode) (cells at n : ℕ) (body : List ℕ) (tail : Tail) → tail_from mode cells 0 at body ≡ Ok tail
    → n ≡ length (written_characters (characters_in body)) → IsSplit mode cells n body tail
split mode cells at n body tail read size =
    let says : IsTailThen mode cells tail.lead tail.fields body [] = subst (WalkSays mode cells at body) read (walk mode cells at body) in
    parted mode cells n body says.0 tail says.1 says.2 size

-- ---- one field of several

tail_is : (mode : Mode) (cells : ℕ) (rest : List ℕ) (place taken : ℕ) → front mode cells rest ≡ Ok (items.Field place, taken) → AreFields mode cells rest
    → (tail : Tail) × (tail_from mode cells 0 taken (drop taken rest) ≡ Ok tail) × (fields_in mode cells rest ≡ record { place = place; characters = tail.lead } ∷ tail.fields)
tail_is mode cells rest place taken read fields =
    let some : 0 < taken = front_some mode cells rest (Ok (items.Field place, taken)) (sym read) in
    let stepped = step mode cells 0 rest (items.Field place) taken read some in
    let both : then_tail (items.Field place) (tail_from mode cells 0 (0 + taken) (drop taken rest)) ≡ Ok (record { lead = []; fields = fields_in mode cells rest }) = sym stepped ∙ fields in
    let found = bind_ok (tail_from mode cells 0 (0 + taken) (drop taken rest)) (λ tail. Ok (before (items.Field place) tail)) (record { lead = []; fields = fields_in mode cells rest }) both in
    let same : 0 + taken ≡ taken = omega arith in
    let tails = ok_is Refused _ _ found.2 in
    (found.0, ap (λ k. tail_from mode cells 0 k (drop taken rest)) (sym same) ∙ found.1, ap (λ t. t.fields) (sym tails))

-- the field at the front, where its characters take n bytes behind its place
pub record IsNextField (mode : Mode) (cells : ℕ) (rest body : List ℕ) (place n : ℕ) : Type 0 where
  pub first : fields_in mode cells rest ≡ record { place = place; characters = characters_in (take n body) } ∷ fields_in mode cells (drop n body)
  pub whole : written_characters (characters_in (take n body)) ≡ take n body
  pub later : AreFields mode cells (drop n body)

next_of : (mode : Mode) (cells : ℕ) (rest body : List ℕ) (place n : ℕ) (tail : Tail) → IsSplit mode cells n body tail
    → fields_in mode cells rest ≡ record { place = place; characters = tail.lead } ∷ tail.fields → IsNextField mode cells rest body place n
next_of mode cells rest body place n tail parts fields =
    let others : fields_in mode cells (drop n body) ≡ tail.fields = ap fields_of_tail parts.behind in
    record {
      first = fields ∙ ap (λ cs. record { place = place; characters = cs } ∷ tail.fields) (sym parts.characters) ∙ ap (λ fs. record { place = place; characters = characters_in (take n body) } ∷ fs) (sym others);
      whole = parts.whole;
      later = parts.behind ∙ ap (λ fs. Ok (record { lead = []; fields = fs })) (sym others);
    }

pub next_field : (mode : Mode) (cells : ℕ) (rest : List ℕ) (place taken n : ℕ) → front mode cells rest ≡ Ok (items.Field place, taken) → AreFields mode cells rest
    → n ≡ length (written_characters (characters_in (drop taken rest))) → IsNextField mode cells rest (drop taken rest) place n
next_field mode cells rest place taken n read fields size =
    let found = tail_is mode cells rest place taken read fields in
    next_of mode cells rest (drop taken rest) place n found.0 (split mode cells taken n (drop taken rest) found.0 found.1 size) found.2

-- fields begin with a field
no_character : (character : Glyph) (r : Result Tail Refused) (fields : List Sent) → then_tail (items.Char character) r ≡ Ok (record { lead = []; fields = fields }) → ⊥
no_character character (Ok tail) fields e = let same = ok_is Refused _ _ e in let leads = ap (λ t. t.lead) same in absurd cc
no_character character (Err e) fields same = absurd cc

pub not_character : (mode : Mode) (cells : ℕ) (rest : List ℕ) (character : Glyph) (taken : ℕ) → front mode cells rest ≡ Ok (items.Char character, taken) → AreFields mode cells rest → ⊥
not_character mode cells rest character taken read fields =
    let some : 0 < taken = front_some mode cells rest (Ok (items.Char character, taken)) (sym read) in
    no_character character _ (fields_in mode cells rest) (sym (step mode cells 0 rest (items.Char character) taken read some) ∙ fields)

pub not_fault : (mode : Mode) (cells : ℕ) (rest : List ℕ) (why : Why) → 0 < length rest → front mode cells rest ≡ Err why → AreFields mode cells rest → ⊥
not_fault mode cells [] why some read fields = absurd (omega arith)
not_fault mode cells (byte ∷ rest) why some read fields = let both = sym (stop mode cells 0 byte rest why read) ∙ fields in absurd cc

pub no_fields : (mode : Mode) (cells : ℕ) → AreFields mode cells []
no_fields mode cells = refl

-- ---- the walk of the code

tail_refusal : (item : Item) (r : Result Tail Refused) → refusal_in (then_tail item r) ≡ refusal_in r
tail_refusal item (Ok tail) = refl
tail_refusal item (Err e) = refl

pub goes_on : (mode : Mode) (cells at : ℕ) (rest : List ℕ) (found : Item × ℕ) (total : Option Refused) → front mode cells rest ≡ Ok found → refusal_in (tail_from mode cells 0 at rest) ≡ total
    → refusal_in (tail_from mode cells 0 (at + found.1) (drop found.1 rest)) ≡ total
goes_on mode cells at rest found total read so_far =
    let some : 0 < found.1 = front_some mode cells rest (Ok found) (sym read) in
    sym (ap refusal_in (step mode cells at rest found.0 found.1 read some) ∙ tail_refusal found.0 (tail_from mode cells 0 (at + found.1) (drop found.1 rest))) ∙ so_far

pub ends : (mode : Mode) (cells at : ℕ) (rest : List ℕ) (why : Why) (total : Option Refused) → 0 < length rest → front mode cells rest ≡ Err why → refusal_in (tail_from mode cells 0 at rest) ≡ total
    → Some (record { at = at; why = why }) ≡ total
ends mode cells at [] why total some read so_far = absurd (omega arith)
ends mode cells at (byte ∷ rest) why total some read so_far = sym (ap refusal_in (stop mode cells at byte rest why read)) ∙ so_far

-- a tail without a fault, and how it was split
tail_there : (r : Result Tail Refused) → None ≡ refusal_in r → (tail : Tail) × (r ≡ Ok tail)
tail_there (Ok tail) e = (tail, refl)
tail_there (Err d) e = absurd cc

pub record IsReadBody (mode : Mode) (cells aid cursor n : ℕ) (body : List ℕ) : Type 0 where
  pub whole : written_characters (characters_in (take n body)) ≡ take n body
  pub fields : AreFields mode cells (drop n body)
  pub says : Ok (record { aid = aid; cursor = Some cursor; lead = characters_in (take n body); fields = fields_in mode cells (drop n body) }) ≡ long_body mode cells aid cursor body

body_of : (mode : Mode) (cells aid cursor n : ℕ) (body : List ℕ) (tail : Tail) → tail_from mode cells 0 3 body ≡ Ok tail → IsSplit mode cells n body tail → IsReadBody mode cells aid cursor n body
body_of mode cells aid cursor n body tail read parts =
    let others : fields_in mode cells (drop n body) ≡ tail.fields = ap fields_of_tail parts.behind in
    record {
      whole = parts.whole;
      fields = parts.behind ∙ ap (λ fs. Ok (record { lead = []; fields = fs })) (sym others);
      says =
          ap (λ cs. Ok (record { aid = aid; cursor = Some cursor; lead = cs; fields = fields_in mode cells (drop n body) })) parts.characters
          ∙ ap (λ fs. Ok (record { aid = aid; cursor = Some cursor; lead = tail.lead; fields = fs })) others
          ∙ sym (ap (λ r. r >>= λ t. Ok (record { aid = aid; cursor = Some cursor; lead = t.lead; fields = t.fields })) read);
    }

pub body_read : (mode : Mode) (cells aid cursor n : ℕ) (body : List ℕ) → None ≡ refusal_in (tail_from mode cells 0 3 body)
    → n ≡ length (written_characters (characters_in body)) → IsReadBody mode cells aid cursor n body
body_read mode cells aid cursor n body good size =
    let found = tail_there (tail_from mode cells 0 3 body) good in
    body_of mode cells aid cursor n body found.0 found.1 (split mode cells 3 n body found.0 found.1 size)

-- ---- an attention identifier alone

pub alone_whole : (rest : List ℕ) → length rest < 1 → written_characters (characters_in rest) ≡ rest
alone_whole [] none = ap written_characters no_characters
alone_whole (byte ∷ rest) none = absurd (omega arith)

pub alone_fields : (mode : Mode) (cells : ℕ) (rest : List ℕ) → length rest < 1 → AreFields mode cells rest
alone_fields mode cells [] none = refl
alone_fields mode cells (byte ∷ rest) none = absurd (omega arith)

pub alone_says : (mode : Mode) (cells aid : ℕ) (rest : List ℕ) → length rest < 1 → is_short_aid aid ≡ true
    → Ok (record { aid = aid; cursor = None; lead = characters_in rest; fields = fields_in mode cells rest }) ≡ answer_after mode cells aid rest
unfolding answer_after
alone_says mode cells aid [] none short = rw (no_characters, short) refl
alone_says mode cells aid (byte ∷ rest) none short = absurd (omega arith)
