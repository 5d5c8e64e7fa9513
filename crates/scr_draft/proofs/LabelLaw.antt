-- The label of a field is the last text before it on its row.
use Rattle.std.proofs.Common.{◌≡◌, ℕ, zero, suc, ◌+◌, ◌-◌, ◌%◌, ◌<◌, ◌≤◌, ◌⊎◌, inl, inr, Bool, true, false, cond, List, length, refl, sym, ◌∙◌, ap, subst, arith}
use Rattle.std.specs.List.{range_with_len}
use Rattle.std.proofs.lemmas.Bool.{cond-true, cases_lt, lt-ltb}
use Rattle.ds_codec.specs.declared.cell.Cell.{Cell}
use Rattle.scr_draft.specs.declared.mark.Mark.{Mark}
use Rattle.scr_draft.specs.declared.mark.Mark.TheVariants.{Border, Between, Word}
use Rattle.scr_draft.specs.declared.label.Label.{Label}
use Rattle.scr_draft.specs.Label.{mark_at, no_label, label_after, label_in, label_of, HasNoWord, HasBorder, IsLastText, IsLabel}

-- the label of the positions so far, and whether a border stands after it
record IsOpen (cells : List Cell) (from to : ℕ) (label : Label) : Type 0 where
  text : IsLastText cells from to label
  open_end : label.goes_on ≡ true → HasBorder cells label.stop to → ⊥
  shut_end : label.goes_on ≡ false → HasBorder cells label.stop to

record IsNone (cells : List Cell) (from to : ℕ) (label : Label) : Type 0 where
  none : HasNoWord cells from to
  start : label.start ≡ 0
  stop : label.stop ≡ 0
  shut : label.goes_on ≡ false

abbrev SoFar : List Cell → ℕ → ℕ → Label → Type 0
SoFar cells from to label = IsNone cells from to label ⊎ IsOpen cells from to label

-- no word up to one more position, at which none stands
no_more : (cells : List Cell) (from at : ℕ) (m : Mark) → mark_at cells at ≡ m → (m ≡ Word → ⊥) → HasNoWord cells from at → HasNoWord cells from (at + 1)
no_more cells from at m is other none = λ q low high word.
    elim (cases_lt q at) [
      | inl below ↦ none q low below word
      | inr past ↦ let here : q ≡ at = omega arith in other (sym is ∙ ap (mark_at cells) (sym here) ∙ word)
    ]

-- a border up to one more position is one before it, or stands there
border_or : (cells : List Cell) (from at : ℕ) → HasBorder cells from (at + 1) → HasBorder cells from at ⊎ (mark_at cells at ≡ Border)
border_or cells from at (q, low, high, is) =
    elim (cases_lt q at) [
      | inl below ↦ inl (q, low, below, is)
      | inr past ↦ let here : at ≡ q = omega arith in inr (ap (mark_at cells) here ∙ is)
    ]

further : (cells : List Cell) (from at : ℕ) → HasBorder cells from at → HasBorder cells from (at + 1)
further cells from at (q, low, high, is) = (q, low, omega arith, is)

longer : (cells : List Cell) (from at : ℕ) (label : Label) (m : Mark) → mark_at cells at ≡ m → (m ≡ Word → ⊥) → IsLastText cells from at label → IsLastText cells from (at + 1) label
longer cells from at label m is other text =
    record {
      begins = text.begins;
      some = text.some;
      ends = omega (arith, text.ends);
      first = text.first;
      last = text.last;
      after = no_more cells label.stop at m is other text.after;
      whole = text.whole;
      before = text.before;
    }

-- a word goes on with the label
goes_on : (cells : List Cell) (from at : ℕ) (label : Label) → mark_at cells at ≡ Word → label.goes_on ≡ true → IsOpen cells from at label
    → IsOpen cells from (at + 1) (record label { stop = at + 1 })
goes_on cells from at label is on state =
    let text = state.text in
    record {
      text =
          record {
            begins = text.begins;
            some = omega (arith, text.some, text.ends);
            ends = omega arith;
            first = text.first;
            last = (let e : at + 1 - 1 ≡ at = omega arith in ap (mark_at cells) e ∙ is);
            after = λ q low high word. absurd (omega arith);
            whole = λ border. elim (border_or cells label.start at border) [
              | inl earlier ↦ inside earlier
              | inr here ↦ let e : Word ≡ Border = sym is ∙ here in absurd cc
            ];
            before = text.before;
          };
      open_end = λ same (q, low, high, there). absurd (omega arith);
      shut_end = λ same. absurd (let e : true ≡ false = sym on ∙ same in cc);
    }
  where
    inside : HasBorder cells label.start at → ⊥
    inside (q, low, high, there) =
        elim (cases_lt q label.stop) [
          | inl before ↦ state.text.whole (q, low, before, there)
          | inr past ↦ state.open_end on (q, past, high, there)
        ]

-- a word begins another label
begins : (cells : List Cell) (from at : ℕ) (label : Label) → from ≤ at → mark_at cells at ≡ Word
    → ((q : ℕ) → from ≤ q → q < at → mark_at cells q ≡ Word → HasBorder cells q at)
    → IsOpen cells from (at + 1) (record { start = at; stop = at + 1; goes_on = true })
begins cells from at label low is apart =
    record {
      text =
          record {
            begins = low;
            some = omega arith;
            ends = omega arith;
            first = is;
            last = (let e : at + 1 - 1 ≡ at = omega arith in ap (mark_at cells) e ∙ is);
            after = λ q past high word. absurd (omega arith);
            whole = λ (q, past, high, there). (let here : at ≡ q = omega arith in let e : Word ≡ Border = sym is ∙ ap (mark_at cells) here ∙ there in absurd cc);
            before = apart;
          };
      open_end = λ same (q, past, high, there). absurd (omega arith);
      shut_end = λ same. absurd (let e : true ≡ false = same in cc);
    }

not_word : (m : Mark) → m ≡ Border → m ≡ Word → ⊥
not_word m one other = let e : Border ≡ Word = sym one ∙ other in absurd cc

word_after : (cells : List Cell) (from at : ℕ) (label : Label) → from ≤ at → mark_at cells at ≡ Word → (b : Bool) → label.goes_on ≡ b → SoFar cells from at label
    → SoFar cells from (at + 1) (cond b (record label { stop = at + 1 }) (record { start = at; stop = at + 1; goes_on = true }))
word_after cells from at label low is true on (inl state) = absurd (let e : true ≡ false = sym on ∙ state.shut in cc)
word_after cells from at label low is true on (inr state) = inr (goes_on cells from at label is on state)
word_after cells from at label low is false on (inl state) =
    inr (begins cells from at label low is (λ q past high word. absurd (state.none q past high word)))
word_after cells from at label low is false on (inr state) =
    inr (begins cells from at label low is (λ q past high word. apart q past high word (state.shut_end on)))
  where
    apart : (q : ℕ) → from ≤ q → q < at → mark_at cells q ≡ Word → HasBorder cells label.stop at → HasBorder cells q at
    apart q past high word (b, from_stop, below, there) =
        elim (cases_lt q label.stop) [
          | inl before ↦ (b, omega arith, below, there)
          | inr behind ↦ absurd (state.text.after q behind high word)
        ]

one_after : (cells : List Cell) (from at : ℕ) (m : Mark) (label : Label) → from ≤ at → mark_at cells at ≡ m → SoFar cells from at label → SoFar cells from (at + 1) (label_after at m label)
one_after cells from at Border label low is (inl state) =
    inl (record { none = no_more cells from at Border is (λ e. absurd cc) state.none; start = state.start; stop = state.stop; shut = refl })
one_after cells from at Border label low is (inr state) =
    inr (record {
      text = (let text = longer cells from at label Border is (λ e. absurd cc) state.text in record {
        begins = text.begins;
        some = text.some;
        ends = text.ends;
        first = text.first;
        last = text.last;
        after = text.after;
        whole = text.whole;
        before = text.before;
      });
      open_end = λ same. absurd (let e : false ≡ true = same in cc);
      shut_end = λ same. (at, state.text.ends, omega arith, is);
    })
one_after cells from at Between label low is (inl state) =
    inl (record { none = no_more cells from at Between is (λ e. absurd cc) state.none; start = state.start; stop = state.stop; shut = state.shut })
one_after cells from at Between label low is (inr state) =
    inr (record {
      text = longer cells from at label Between is (λ e. absurd cc) state.text;
      open_end = λ same border. elim (border_or cells label.stop at border) [
        | inl earlier ↦ state.open_end same earlier
        | inr here ↦ let e : Between ≡ Border = sym is ∙ here in absurd cc
      ];
      shut_end = λ same. further cells label.stop at (state.shut_end same);
    })
one_after cells from at Word label low is state = word_after cells from at label low is label.goes_on refl state

all_after : (cells : List Cell) (from at n : ℕ) (label : Label) → from ≤ at → SoFar cells from at label → SoFar cells from (at + n) (label_in cells label (range_with_len at n))
all_after cells from at zero label low state = let e : at ≡ at + 0 = omega arith in subst (λ to. SoFar cells from to label) e state
all_after cells from at (suc n) label low state =
    let next = all_after cells from (at + 1) n (label_after at (mark_at cells at) label) (omega arith) (one_after cells from at (mark_at cells at) label low refl state) in
    let e : at + 1 + n ≡ at + suc n = omega arith in
    subst (λ to. SoFar cells from to (label_in cells label (range_with_len at (suc n)))) e next

found : (cells : List Cell) (from to : ℕ) (label : Label) → SoFar cells from to label → IsLabel cells from to label
found cells from to label (inl state) = inl (state.none, state.start, state.stop)
found cells from to label (inr state) = inr state.text

pub label_last : (cells : List Cell) (cols place : ℕ) → 0 < cols → place < length cells → IsLabel cells (place - place % cols) place (label_of cells cols place)
label_last cells cols place some inside =
    let from = place - place % cols in
    let start : SoFar cells from from no_label = inl (record { none = λ q low high word. absurd (omega arith); start = refl; stop = refl; shut = refl }) in
    let all = all_after cells from from (place % cols) no_label (omega arith) start in
    let low : place % cols ≤ place = omega arith in
    let e : from + place % cols ≡ place = omega arith in
    let label = label_in cells no_label (range_with_len from (place % cols)) in
    let here : IsLabel cells from place label = subst (λ to. IsLabel cells from to label) e (found cells from (from + place % cols) label all) in
    subst (IsLabel cells from place) (sym (cond-true _ _ _ (lt-ltb place (length cells) inside))) here
