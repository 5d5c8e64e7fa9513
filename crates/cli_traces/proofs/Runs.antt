-- What each turn of a run does to what holds between the turns.
use Rattle.std.proofs.Common.{◌≡◌, ℕ, ◌+◌, ◌<◌, ◌≤◌, Bool, length-append, List, [], ◌∷◌, ◌++◌, length, true, false, refl, sym, ◌∙◌, ap, subst, inl, inr, arith, append_assoc, append-nil}
use Rattle.std.specs.Prelude.{nat_lt, Option, None, Some, Result, Ok, Err, IfSome}
use Rattle.std.specs.Io.KnownBytes.{Appends, prepend_known}
use Rattle.std.proofs.lemmas.Bool.{cond-true, lt-ltb}
use Rattle.bstr.specs.Text.{without_terminator}
use Rattle.cli_commands.specs.declared.status.Status.{Status}
use Rattle.cli_commands.specs.declared.status.Status.TheVariants.{Done, Findings, BadInput, Failed, NoMemory}
use Rattle.cli_commands.specs.Streams.{AppendsFront, IsWantOrFailure}
use Rattle.cli_traces.specs.declared.asked.Asked.{Asked}
use Rattle.cli_traces.specs.declared.line.Next.{Next}
use Rattle.cli_traces.specs.declared.line.Next.TheVariants.{Goes, Stops}
use Rattle.cli_commands.specs.Lines.{lines_in}
use Rattle.cli_traces.specs.Following.{Following, Course, goes, stops, beginning, most_line, said_from, said_of, Adds, AddsSaid, Leads, left_text, EndsEarly}
use Rattle.cli_traces.specs.Held.{course_seen}
use Rattle.cli_commands.specs.NextLine.{ReadsFirst, ReadsLine}
use Rattle.cli_commands.specs.Causes.{EndsBy}
use Rattle.cli_traces.specs.Printed.{TracesBy, IsPart, PrintsRecords, PrintsLine, Writes, WritesEnd}
use Rattle.tn_traces.specs.Line.{bad}

-- ---- what is written of a line

pub prints_added : (asked : Asked) (number : ℕ) (old : Following) (line before_text text : List ℕ) (before after : Option (List ℕ)) (next : Next) (result : Result Next Status) (new : Following)
    → before_text ≡ [] → (x : List ℕ) × (text ≡ before_text ++ x) × Adds asked number old line x (course_seen next new) → Writes text before next result after
    → PrintsLine asked number old line before result new after
prints_added asked number old line before_text text before after next (Ok given) new none adds writes =
    let is : text ≡ adds.0 = adds.1 ∙ ap (λ z. z ++ adds.0) none in
    rw writes.0 (adds.0, adds.2, subst (λ z. Appends before after z) is writes.1)
prints_added asked number old line before_text text before after next (Err Failed) new none adds writes =
    let is : text ≡ adds.0 = adds.1 ∙ ap (λ z. z ++ adds.0) none in
    (adds.0, course_seen next new, adds.2, subst (λ z. AppendsFront before after z) is writes)
prints_added asked number old line before_text text before after next (Err NoMemory) new none adds writes = absurd writes
prints_added asked number old line before_text text before after next (Err Done) new none adds writes = absurd writes
prints_added asked number old line before_text text before after next (Err Findings) new none adds writes = absurd writes
prints_added asked number old line before_text text before after next (Err BadInput) new none adds writes = absurd writes

-- ---- texts written in turn

nothing_written : (known : Option (List ℕ)) → Appends known known []
nothing_written None = tt
nothing_written (Some bytes) = sym (append-nil bytes)

appends_more : (old mid new : Option (List ℕ)) (first second : List ℕ) → Appends old mid first → Appends mid new second → Appends old new (first ++ second)
appends_more None mid new first second a b = tt
appends_more (Some x) None new first second a b = absurd a
appends_more (Some x) (Some y) None first second a b = absurd b
appends_more (Some x) (Some y) (Some z) first second a b = b ∙ ap (λ l. l ++ second) a ∙ append_assoc x first second

whole_front : (old new : Option (List ℕ)) (text : List ℕ) → Appends old new text → AppendsFront old new text
whole_front old new text all = (text, [], sym (append-nil text), all)

front_more : (old mid new : Option (List ℕ)) (first second : List ℕ) → Appends old mid first → AppendsFront mid new second → AppendsFront old new (first ++ second)
front_more old mid new first second a (front, rest, is, b) =
    (first ++ front, rest, ap (λ z. first ++ z) is ∙ sym (append_assoc first front rest), appends_more old mid new first front a b)

-- ---- lines in turn

leads_more : (asked : Asked) (number : ℕ) (first : Following) (front : List (List ℕ)) (line text added : List ℕ) (mid last : Following)
    → Leads asked number first front text mid → Adds asked (number + length front) mid line added (goes last)
    → Leads asked number first (front ++ line ∷ []) (text ++ added) last
leads_more asked number first [] line text added mid last (none, same) adds =
    let here : Adds asked number first line added (goes last) =
    subst (λ n. Adds asked n first line added (goes last)) (omega arith) (subst (λ f. Adds asked (number + 0) f line added (goes last)) same adds) in
    (added, [], last, here, ap (λ z. z ++ added) none ∙ sym (append-nil added), (refl, refl))
leads_more asked number first (l ∷ front) line text added mid last (t, others, next, one, is, leads) adds =
    let there : Adds asked ((number + 1) + length front) mid line added (goes last) =
    subst (λ n. Adds asked n mid line added (goes last)) (omega arith) adds in (
      t,
      others ++ added,
      next,
      one,
      ap (λ z. z ++ added) is ∙ append_assoc t others added,
      leads_more asked (number + 1) next front line others added mid last leads there,
    )

pub record LinesSoFar (asked : Asked) (lines : List (List ℕ)) (old new : Option (List ℕ)) (number : ℕ) (now : Following) (left : List (List ℕ)) : Type 0 where
  pub front : List (List ℕ)
  pub text : List ℕ
  pub whole : lines ≡ front ++ left
  pub count : number ≡ 1 + length front
  pub leads : Leads asked 1 beginning front text now
  pub writes : Appends old new text

-- the lines of a front of the input were taken, and their text was written
abbrev pub SoFar : Asked → Option (List ℕ) → Option (List ℕ) → Option (List ℕ) → Option (List ℕ) → ℕ → Following → Type 0
SoFar asked input left old new number now =
    IfSome input (λ xs. (rest : List ℕ) × (left ≡ Some rest) × LinesSoFar asked (lines_in xs) old new number now (lines_in rest))

pub begins : (asked : Asked) (input old : Option (List ℕ)) (now : Following) → now ≡ beginning → SoFar asked input input old old 1 now
begins asked None old now is = tt
begins asked (Some xs) old now is =
    (xs, refl, record { front = []; text = []; whole = refl; count = refl; leads = (refl, is); writes = nothing_written old })

module _ (asked : Asked) (lines : List (List ℕ)) (old mid after : Option (List ℕ)) (number : ℕ) (now : Following) where
  so_part : (left : List (List ℕ)) → LinesSoFar asked lines old mid number now left → IsPart asked lines old mid
  so_part left so =
      (so.text, inl (record { front = so.front; more = left; last = now; whole = so.whole; leads = so.leads }), whole_front old mid so.text so.writes)

  module _ (line : List ℕ) (left : List (List ℕ)) (so : LinesSoFar asked lines old mid number now (line ∷ left)) where
    here : (added : List ℕ) (course : Course) → Adds asked number now line added course → Adds asked (1 + length so.front) now line added course
    here added course adds = subst (λ n. Adds asked n now line added course) so.count adds

    more_whole : lines ≡ (so.front ++ line ∷ []) ++ left
    more_whole = so.whole ∙ sym (append_assoc so.front (line ∷ []) left)

    so_goes : (added : List ℕ) (next : Following) → Adds asked number now line added (goes next) → Appends mid after added
        → LinesSoFar asked lines old after (number + 1) next left
    so_goes added next adds writes = record {
      front = so.front ++ line ∷ [];
      text = so.text ++ added;
      whole = more_whole;
      count = let is : number ≡ 1 + length so.front = so.count in omega (arith, length-append so.front (line ∷ []));
      leads = leads_more asked 1 beginning so.front line so.text added now next so.leads (here added (goes next) adds);
      writes = appends_more old mid after so.text added so.writes writes;
    }

    so_ends : (added : List ℕ) → Adds asked number now line added stops → EndsEarly asked lines (so.text ++ added)
    so_ends added adds = record {
      front = so.front;
      line = line;
      more = left;
      before = so.text;
      end = added;
      last = now;
      whole = so.whole;
      leads = so.leads;
      ends = here added stops adds;
      joined = refl;
    }

    so_cut : (added : List ℕ) (course : Course) → Adds asked number now line added course → AppendsFront mid after added → IsPart asked lines old after
    so_cut added (goes next) adds front = (
      so.text ++ added,
      inl (record {
        front = so.front ++ line ∷ [];
        more = left;
        last = next;
        whole = more_whole;
        leads = leads_more asked 1 beginning so.front line so.text added now next so.leads (here added (goes next) adds);
      }),
      front_more old mid after so.text added so.writes front,
    )
    so_cut added stops adds front = (so.text ++ added, inr (inl (so_ends added adds)), front_more old mid after so.text added so.writes front)

-- ---- a turn
said_long : (asked : Asked) (line : List ℕ) → most_line < length line → said_of asked line ≡ bad
said_long asked line long = cond-true (nat_lt most_line (length line)) bad (said_from asked.source asked.side line) (lt-ltb most_line (length line) long)

-- what was read of a line adds what the line does
adds_read : (asked : Asked) (number : ℕ) (now : Following) (first rest line added : List ℕ) (left : Option (List ℕ)) (course : Course) → ReadsFirst first rest line left
    → Adds asked number now (without_terminator line) added course → Adds asked number now first added course
adds_read asked number now first rest line added left course read adds =
    elim read [
      | inl same ↦ subst (λ z. Adds asked number now z added course) same.1 adds
      | inr long ↦ subst (λ s. AddsSaid asked number now s added course) (said_long asked (without_terminator line) long.1 ∙ sym (said_long asked first long.0)) adds
    ]

-- lines go on only behind one that was read whole
read_whole : (asked : Asked) (number : ℕ) (now next : Following) (first rest line added : List ℕ) (left : Option (List ℕ)) → ReadsFirst first rest line left
    → Adds asked number now first added (goes next) → left ≡ Some rest
read_whole asked number now next first rest line added left read adds =
    elim read [
      | inl same ↦ same.0
      | inr long ↦
          let refused : AddsSaid asked number now bad added (goes next) = subst (λ s. AddsSaid asked number now s added (goes next)) (said_long asked first long.0) adds in
          absurd (no_end next refused.1)
    ]
  where
    no_end : (next : Following) → goes next ≡ stops → ⊥
    no_end next is = cc

module _ (asked : Asked) (left left' old mid after : Option (List ℕ)) (number : ℕ) (now : Following) (line : List ℕ) where
  read_of : (rest : List ℕ) (more : Bool) → left ≡ Some rest → IfSome left (λ xs. ReadsLine xs more line left') → ReadsLine rest more line left'
  read_of rest more is reads = subst (λ z. IfSome z (λ xs. ReadsLine xs more line left')) is reads

  pub turn_goes : (input : Option (List ℕ)) (next : Following) → SoFar asked input left old mid number now → IfSome left (λ xs. ReadsLine xs true line left')
      → PrintsLine asked number now (without_terminator line) mid (Ok Goes) next after → SoFar asked input left' old after (number + 1) next
  turn_goes None next so reads prints = tt
  turn_goes (Some xs) next (rest, is, so) reads (added, adds, writes) =
      let read = read_of rest true is reads in
      let with_line : LinesSoFar asked (lines_in xs) old mid number now (read.0 ∷ lines_in read.1) =
      subst (λ z. LinesSoFar asked (lines_in xs) old mid number now z) read.2 so in
      let here : Adds asked number now read.0 added (goes next) = adds_read asked number now read.0 read.1 line added left' (goes next) read.3 adds in (
        read.1,
        read_whole asked number now next read.0 read.1 line added left' read.3 here,
        so_goes asked (lines_in xs) old mid after number now read.0 (lines_in read.1) with_line added next here writes,
      )

  ends_all : (xs rest : List ℕ) → LinesSoFar asked (lines_in xs) old mid number now (lines_in rest) → ReadsLine rest false line left' → (status : Status)
      → WritesEnd (left_text asked now) mid status after → PrintsRecords asked xs old after status
  ends_all xs rest so none Done writes =
      let all : lines_in xs ≡ so.front = so.whole ∙ ap (λ z. so.front ++ z) none.0 ∙ append-nil so.front in (
        so.text ++ left_text asked now,
        record { before = so.text; last = now; leads = subst (λ z. Leads asked 1 beginning z so.text now) (sym all) so.leads; joined = refl },
        appends_more old mid after so.text (left_text asked now) so.writes writes,
      )
  ends_all xs rest so none Failed writes =
      let all : lines_in xs ≡ so.front = so.whole ∙ ap (λ z. so.front ++ z) none.0 ∙ append-nil so.front in (
        so.text ++ left_text asked now,
        inr (inr (record { before = so.text; last = now; leads = subst (λ z. Leads asked 1 beginning z so.text now) (sym all) so.leads; joined = refl })),
        front_more old mid after so.text (left_text asked now) so.writes writes,
      )
  ends_all xs rest so none NoMemory same =
      subst (λ z. IsPart asked (lines_in xs) old z) (sym same) (so_part asked (lines_in xs) old mid after number now (lines_in rest) so)
  ends_all xs rest so none Findings writes = absurd writes
  ends_all xs rest so none BadInput writes = absurd writes

  pub turn_ends : (input : Option (List ℕ)) (status : Status) → SoFar asked input left old mid number now → IfSome left (λ xs. ReadsLine xs false line left')
      → WritesEnd (left_text asked now) mid status after → IfSome input (λ xs. PrintsRecords asked xs old after status)
  turn_ends None status so reads writes = tt
  turn_ends (Some xs) status (rest, is, so) reads writes = ends_all xs rest so (read_of rest false is reads) status writes

  pub turn_stops : (input : Option (List ℕ)) (next : Following) → SoFar asked input left old mid number now → IfSome left (λ xs. ReadsLine xs true line left')
      → PrintsLine asked number now (without_terminator line) mid (Ok Stops) next after → IfSome input (λ xs. PrintsRecords asked xs old after BadInput)
  turn_stops None next so reads prints = tt
  turn_stops (Some xs) next (rest, is, so) reads (added, adds, writes) =
      let read = read_of rest true is reads in
      let with_line : LinesSoFar asked (lines_in xs) old mid number now (read.0 ∷ lines_in read.1) =
      subst (λ z. LinesSoFar asked (lines_in xs) old mid number now z) read.2 so in
      let here : Adds asked number now read.0 added stops = adds_read asked number now read.0 read.1 line added left' stops read.3 adds in (
        with_line.text ++ added,
        so_ends asked (lines_in xs) old mid after number now read.0 (lines_in read.1) with_line added here,
        appends_more old mid after with_line.text added with_line.writes writes,
      )

  pub turn_fails : (input : Option (List ℕ)) (next : Following) (status : Status) → SoFar asked input left old mid number now
      → IfSome left (λ xs. ReadsLine xs true line left') → PrintsLine asked number now (without_terminator line) mid (Err status) next after
      → IfSome input (λ xs. PrintsRecords asked xs old after status)
  turn_fails None next status so reads prints = tt
  turn_fails (Some xs) next Failed (rest, is, so) reads (added, course, adds, front) =
      let read = read_of rest true is reads in
      let with_line : LinesSoFar asked (lines_in xs) old mid number now (read.0 ∷ lines_in read.1) =
      subst (λ z. LinesSoFar asked (lines_in xs) old mid number now z) read.2 so in
      let here : Adds asked number now read.0 added course = adds_read asked number now read.0 read.1 line added left' course read.3 adds in
      so_cut asked (lines_in xs) old mid after number now read.0 (lines_in read.1) with_line added course here front
  turn_fails (Some xs) next NoMemory (rest, is, so) reads same =
      subst (λ z. IsPart asked (lines_in xs) old z) (sym same) (so_part asked (lines_in xs) old mid after number now (lines_in rest) so)
  turn_fails (Some xs) next Done so reads prints = absurd prints
  turn_fails (Some xs) next Findings so reads prints = absurd prints
  turn_fails (Some xs) next BadInput so reads prints = absurd prints

-- a read failed, or there were too many lines
pub run_fails : (asked : Asked) (input left old mid : Option (List ℕ)) (number : ℕ) (now : Following) (status : Status)
    → SoFar asked input left old mid number now → IsWantOrFailure status → IfSome input (λ xs. PrintsRecords asked xs old mid status)
run_fails asked None left old mid number now status so fails = tt
run_fails asked (Some xs) left old mid number now Failed (rest, is, so) fails = so_part asked (lines_in xs) old mid mid number now (lines_in rest) so
run_fails asked (Some xs) left old mid number now NoMemory (rest, is, so) fails = so_part asked (lines_in xs) old mid mid number now (lines_in rest) so
run_fails asked (Some xs) left old mid number now Done so fails = absurd fails
run_fails asked (Some xs) left old mid number now Findings so fails = absurd fails
run_fails asked (Some xs) left old mid number now BadInput so fails = absurd fails

pub no_memory : (asked : Asked) (input old : Option (List ℕ)) → IfSome input (λ xs. PrintsRecords asked xs old old NoMemory)
no_memory asked input old = run_fails asked input input old old 1 beginning NoMemory (begins asked input old beginning refl) tt

-- ---- why it ends

pub nothing_ahead : (ahead : List ℕ) (input : Option (List ℕ)) → ahead ≡ [] → prepend_known ahead input ≡ input
nothing_ahead ahead None is = refl
nothing_ahead ahead (Some bytes) is = ap (λ z. Some (z ++ bytes)) is

pub ends_traced : (old new : ℕ) (input : List ℕ) (status : Status) → EndsBy old new Done status → TracesBy old new input status
ends_traced old new input Done (is, same) = same
ends_traced old new input Findings (is, same) = same
ends_traced old new input BadInput (is, same) = same
ends_traced old new input Failed (inl (is, same)) = absurd (not_done is)
  where
    not_done : Done ≡ Failed → ⊥
    not_done is = cc
ends_traced old new input Failed (inr some) = inl some
ends_traced old new input NoMemory ends = tt

-- a read failed, and no write did; or the other way round
pub read_ends : (a a' b b' : ℕ) (status : Status) → b' ≡ b → EndsBy a a' Done status → EndsBy (a + b) (a' + b') Done status
read_ends a a' b b' Done same (is, none) = (is, omega arith)
read_ends a a' b b' Findings same (is, none) = (is, omega arith)
read_ends a a' b b' BadInput same (is, none) = (is, omega arith)
read_ends a a' b b' Failed same (inl (is, none)) = inl (is, omega arith)
read_ends a a' b b' Failed same (inr some) = inr (omega arith)
read_ends a a' b b' NoMemory same ends = tt

pub write_ends : (a a' b b' : ℕ) (status : Status) → a' ≡ a → EndsBy b b' Done status → EndsBy (a + b) (a' + b') Done status
write_ends a a' b b' Done same (is, none) = (is, omega arith)
write_ends a a' b b' Findings same (is, none) = (is, omega arith)
write_ends a a' b b' BadInput same (is, none) = (is, omega arith)
write_ends a a' b b' Failed same (inl (is, none)) = inl (is, omega arith)
write_ends a a' b b' Failed same (inr some) = inr (omega arith)
write_ends a a' b b' NoMemory same ends = tt

pub traced_known : (known : Option (List ℕ)) (old new : ℕ) (status : Status) → EndsBy old new Done status → IfSome known (λ input. TracesBy old new input status)
traced_known None old new status ends = tt
traced_known (Some input) old new status ends = ends_traced old new input status ends

pub stopped_known : (known : Option (List ℕ)) (old new : ℕ) → new ≡ old → IfSome known (λ input. TracesBy old new input BadInput)
stopped_known None old new same = tt
stopped_known (Some input) old new same = same

-- as many lines were taken as can be counted
pub counted_known : (asked : Asked) (input left old mid : Option (List ℕ)) (number before after : ℕ) (now : Following) → SoFar asked input left old mid number now
    → 18446744073709551615 ≤ number → IfSome input (λ xs. TracesBy before after xs Failed)
counted_known asked None left old mid number before after now so many = tt
counted_known asked (Some xs) left old mid number before after now (rest, is, so) many =
    inr (omega (arith, so.count, ap length so.whole, length-append so.front (lines_in rest)))
