-- What is printed of lines is one text.
use Rattle.std.proofs.Common.{◌≡◌, ◌⊎◌, ℕ, ◌+◌, List, [], ◌∷◌, ◌++◌, length, inl, inr, append_assoc, sym, ◌∙◌, ap, subst, arith}
use Rattle.tn_traces.specs.Line.{Said, nothing, connected, piece, bad}
use Rattle.cli_traces.specs.declared.asked.Asked.{Asked}
use Rattle.cli_traces.specs.Following.{Following, Course, goes, stops, beginning, left_text, said_of, Adds, AddsSaid, Leads, EndsEarly}
use Rattle.cli_traces.specs.Law.{AllHaveOneText, EndsHaveOneText, EndsAreNotAll}
use Rattle.cli_traces.proofs.Bytes.{adds_one_text}
use Rattle.cli_traces.proofs.Cuts.{same_following, never}

said_one : (asked : Asked) (number : ℕ) (f : Following) (said : Said) (text other : List ℕ) (course course' : Course)
    → AddsSaid asked number f said text course → AddsSaid asked number f said other course' → (text ≡ other) × (course ≡ course')
said_one asked number f nothing text other course course' a b = (a.0 ∙ sym b.0, a.1 ∙ sym b.1)
said_one asked number f connected text other course course' a b = (a.0 ∙ sym b.0, a.1 ∙ sym b.1)
said_one asked number f bad text other course course' a b = (a.0 ∙ sym b.0, a.1 ∙ sym b.1)
said_one asked number f (piece side bytes) text other course course' a b = adds_one_text asked number side f bytes text other course course' a b

adds_one : (asked : Asked) (number : ℕ) (f : Following) (line text other : List ℕ) (course course' : Course)
    → Adds asked number f line text course → Adds asked number f line other course' → (text ≡ other) × (course ≡ course')
adds_one asked number f line text other course course' a b = said_one asked number f (said_of asked line) text other course course' a b

both_texts : (a b c d text other : List ℕ) → text ≡ a ++ b → other ≡ c ++ d → a ≡ c → b ≡ d → text ≡ other
both_texts a b c d text other is is' same same' = is ∙ ap (λ z. z ++ b) same ∙ ap (λ z. c ++ z) same' ∙ sym is'

leads_one : (asked : Asked) (number : ℕ) (f : Following) (lines : List (List ℕ)) (text other : List ℕ) (last last' : Following)
    → Leads asked number f lines text last → Leads asked number f lines other last' → (text ≡ other) × (last ≡ last')
leads_one asked number f [] text other last last' a b = (a.0 ∙ sym b.0, a.1 ∙ sym b.1)
leads_one asked number f (line ∷ lines) text other last last' (t, more, mid, one, is, rest) (t', more', mid', one', is', rest') =
    let same = adds_one asked number f line t t' (goes mid) (goes mid') one one' in
    let here : Leads asked (number + 1) mid lines more' last' = subst (λ z. Leads asked (number + 1) z lines more' last') (sym (same_following same.1)) rest' in
    let later = leads_one asked (number + 1) mid lines more more' last last' rest here in
    (both_texts t more t' more' text other is is' same.0 later.0, later.1)

pub all_have_one_text : AllHaveOneText
all_have_one_text asked lines text other a b =
    let same = leads_one asked 1 beginning lines a.before b.before a.last b.last a.leads b.leads in
    both_texts a.before (left_text asked a.last) b.before (left_text asked b.last) text other a.joined b.joined same.0 (ap (left_text asked) same.1)

-- lines that end early, line by line
abbrev Ends : Asked → ℕ → Following → List (List ℕ) → List ℕ → Type 0
Ends asked number f [] text = ⊥
Ends asked number f (line ∷ lines) text =
    Adds asked number f line text stops
    ⊎ ((first : List ℕ) × (others : List ℕ) × (next : Following) × Adds asked number f line first (goes next) × (text ≡ first ++ others)
    × Ends asked (number + 1) next lines others)

ends_after : (asked : Asked) (number : ℕ) (f : Following) (front : List (List ℕ)) (line : List ℕ) (more : List (List ℕ)) (before end : List ℕ) (last : Following)
    → Leads asked number f front before last → Adds asked (number + length front) last line end stops → Ends asked number f (front ++ line ∷ more) (before ++ end)
ends_after asked number f [] line more before end last leads adds =
    let at : Adds asked number last line end stops = subst (λ n. Adds asked n last line end stops) (omega arith) adds in
    let here : Adds asked number f line end stops = subst (λ z. Adds asked number z line end stops) leads.1 at in
    inl (subst (λ z. Adds asked number f line z stops) (sym (ap (λ z. z ++ end) leads.0)) here)
ends_after asked number f (l ∷ front) line more before end last (t, others, next, one, is, leads) adds =
    let there : Adds asked ((number + 1) + length front) last line end stops = subst (λ n. Adds asked n last line end stops) (omega arith) adds in
    inr (t, others ++ end, next, one, ap (λ z. z ++ end) is ∙ append_assoc t others end, ends_after asked (number + 1) next front line more others end last leads there)

ends_early : (asked : Asked) (lines : List (List ℕ)) (text : List ℕ) → EndsEarly asked lines text → Ends asked 1 beginning lines text
ends_early asked lines text e =
    subst (λ z. Ends asked 1 beginning z text) (sym e.whole)
    (subst (Ends asked 1 beginning (e.front ++ e.line ∷ e.more)) (sym e.joined)
    (ends_after asked 1 beginning e.front e.line e.more e.before e.end e.last e.leads e.ends))

clash : {A : Type 0} (asked : Asked) (number : ℕ) (f next : Following) (line text other : List ℕ) → Adds asked number f line text (goes next) → Adds asked number f line other stops → A
clash asked number f next line text other a b = never (adds_one asked number f line text other (goes next) stops a b).1

ends_one : (asked : Asked) (number : ℕ) (f : Following) (lines : List (List ℕ)) (text other : List ℕ) → Ends asked number f lines text → Ends asked number f lines other → text ≡ other
ends_one asked number f [] text other a b = absurd a
ends_one asked number f (line ∷ lines) text other (inl a) (inl b) = (adds_one asked number f line text other stops stops a b).0
ends_one asked number f (line ∷ lines) text other (inl a) (inr (t, more, mid, one, is, rest)) = clash asked number f mid line t text one a
ends_one asked number f (line ∷ lines) text other (inr (t, more, mid, one, is, rest)) (inl b) = clash asked number f mid line t other one b
ends_one asked number f (line ∷ lines) text other (inr (t, more, mid, one, is, rest)) (inr (t', more', mid', one', is', rest')) =
    let same = adds_one asked number f line t t' (goes mid) (goes mid') one one' in
    let here : Ends asked (number + 1) mid lines more' = subst (λ z. Ends asked (number + 1) z lines more') (sym (same_following same.1)) rest' in
    both_texts t more t' more' text other is is' same.0 (ends_one asked (number + 1) mid lines more more' rest here)

ends_not_all : (asked : Asked) (number : ℕ) (f : Following) (lines : List (List ℕ)) (text other : List ℕ) (last : Following)
    → Ends asked number f lines text → Leads asked number f lines other last → ⊥
ends_not_all asked number f [] text other last a b = a
ends_not_all asked number f (line ∷ lines) text other last (inl a) (t, more, mid, one, is, rest) = clash asked number f mid line t text one a
ends_not_all asked number f (line ∷ lines) text other last (inr (t', more', mid', one', is', rest')) (t, more, mid, one, is, rest) =
    let same = adds_one asked number f line t' t (goes mid') (goes mid) one' one in
    let here : Leads asked (number + 1) mid' lines more last = subst (λ z. Leads asked (number + 1) z lines more last) (sym (same_following same.1)) rest in
    ends_not_all asked (number + 1) mid' lines more' more last rest' here

pub ends_have_one_text : EndsHaveOneText
ends_have_one_text asked lines text other a b =
    ends_one asked 1 beginning lines text other (ends_early asked lines text a) (ends_early asked lines other b)

pub ends_are_not_all : EndsAreNotAll
ends_are_not_all asked lines text other a b = ends_not_all asked 1 beginning lines text b.before b.last (ends_early asked lines text a) b.leads
