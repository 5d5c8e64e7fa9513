-- The turns of a dialogue and their layouts, one after the other.
use Rattle.std.proofs.Common.{◌≡◌, ℕ, suc, ◌+◌, ◌<◌, ◌≤◌, Bool, true, false, cond, ltb, List, [], ◌∷◌, ◌++◌, length, map, get_or, drop, Option, Some, None, Result, Ok, Err, refl, sym, ◌∙◌, ap, subst, arith, add-one}
use Rattle.std.specs.Prelude.{IfSome}
use Rattle.std.specs.Global.{Vec}
use Rattle.std.specs.Borrow.{Bor}
use Rattle.std.proofs.Math.Seq.{drop-cons}
use Rattle.std.proofs.lemmas.Bool.{cond-true, cond-false}
use Rattle.std.proofs.lemmas.List.{drop_all}
use Rattle.ds_codec.specs.Geometry.{Sizes}
use Rattle.scr_layout.specs.declared.fault.LayoutFault.{LayoutFault}
use Rattle.scr_layout.specs.Layout.{Declaration}
use Rattle.scr_check.specs.declared.talk.Turn.{Turn}
use Rattle.ds_codec.specs.Same.{same_sizes}
use Rattle.ds_codec.proofs.Same.{sizes_are}
use Rattle.scr_check.specs.TalkSeen.{round_of, rounds_of, AreOfGeometry, HaveOneGeometry}
use Rattle.scr_check.specs.Walk.{Round}
use Rattle.ds_codec.specs.Reading.{◌>>=◌}
use Rattle.cli_commands.specs.declared.fault.Fault.{Fault}
use Rattle.cli_commands.specs.declared.fault.Fault.TheVariants.{LayoutRefused, TurnLayoutRefused, TooLong}
use Rattle.cli_commands.specs.LayoutText.{layout_said, layout_or_fault, layout_in}
use Rattle.cli_commands.specs.Lines.{within_limit}
use Rattle.cli_commands.specs.Talk.{turn_layout_or_fault, turn_layout_in, layouts_from, other_from, first_other, rounds}
use Rattle.cli_commands.specs.TurnsHeld.{lent_held, both_known, all_remaining}
use Rattle.cli_commands.specs.declared.fault.CommandError.{CommandError}
use Rattle.cli_commands.specs.declared.fault.CommandError.TheVariants.{Fault as Told, ReadFailed, OutOfMemory}
use Rattle.cli_commands.specs.Fault.{Gives, GivesOrFails}
use Rattle.cli_commands.specs.declared.status.Status.{Status}
use Rattle.cli_commands.specs.declared.output.answer.Answer.{Answer}
use Rattle.cli_commands.specs.Held.{answer_seen}
use Rattle.cli_commands.specs.Printed.{Printed, printed_or_fault}
use Rattle.cli_commands.specs.Streams.{Finishes, Prints}
use Rattle.cli_commands.specs.Causes.{ToldBy, FinishesBy, EndsBy, all_failures}
use Rattle.cli_commands.proofs.Answered.{finishes}
use Rattle.cli_commands.proofs.Causes.{ends_known}

-- ---- the first of another geometry
pub other_on : (geometry : Sizes) (layouts : List Declaration) (index turn : ℕ) (d : Declaration) → index < length layouts → same_sizes (get_or layouts index d).geometry geometry ≡ true
    → other_from geometry (turn + 1) (drop (index + 1) layouts) ≡ other_from geometry turn (drop index layouts)
unfolding other_from
other_on geometry layouts index turn d lt same =
    let next : index + 1 ≡ suc index = omega arith in
    ap (λ k. other_from geometry (turn + 1) (drop k layouts)) next
    ∙ sym (ap (other_from geometry turn) (drop-cons layouts index d lt) ∙ cond-true (same_sizes (get_or layouts index d).geometry geometry) _ _ same)

pub other_here : (geometry : Sizes) (layouts : List Declaration) (index turn : ℕ) (d : Declaration) → index < length layouts → same_sizes (get_or layouts index d).geometry geometry ≡ false
    → Some turn ≡ other_from geometry turn (drop index layouts)
unfolding other_from
other_here geometry layouts index turn d lt other =
    sym (ap (other_from geometry turn) (drop-cons layouts index d lt) ∙ cond-false (same_sizes (get_or layouts index d).geometry geometry) _ _ other)

pub other_end : (geometry : Sizes) (layouts : List Declaration) (index turn : ℕ) → length layouts ≤ index → None ≡ other_from geometry turn (drop index layouts)
unfolding other_from
other_end geometry layouts index turn past = ap (other_from geometry turn) (sym (drop_all index layouts past))

-- ---- each turn with its layout
pub rounds_on : (records : List (Vec (Bor (List ℕ)))) (layouts : List Declaration) (index : ℕ) (r : Vec (Bor (List ℕ))) (l : Declaration) → index < length records → index < length layouts
    → (let one : Round = record { records = map (λ bytes. bytes.now) (get_or records index r).items; layout = get_or layouts index l } in one) ∷ rounds (lent_held (drop (index + 1) records)) (drop (index + 1) layouts)
    ≡ rounds (lent_held (drop index records)) (drop index layouts)
unfolding rounds
rounds_on records layouts index r l lt inside =
    let next : index + 1 ≡ suc index = omega arith in
    ap (λ k. (let one : Round = record { records = map (λ bytes. bytes.now) (get_or records index r).items; layout = get_or layouts index l } in one) ∷ rounds (lent_held (drop k records)) (drop k layouts)) next
    ∙ sym (ap (λ rs. rounds (lent_held rs) (drop index layouts)) (drop-cons records index r lt)
    ∙ ap (λ ls. rounds (lent_held (get_or records index r ∷ drop (suc index) records)) ls) (drop-cons layouts index l inside))

pub rounds_end : (records : List (Vec (Bor (List ℕ)))) (layouts : List Declaration) (index : ℕ) → length records ≤ index → rounds (lent_held (drop index records)) (drop index layouts) ≡ []
unfolding rounds
rounds_end records layouts index past = ap (λ rs. rounds (lent_held rs) (drop index layouts)) (drop_all index records past)

-- ---- the fault of a layout
limit_fault : (t : Bool) (input : List ℕ) (other : Fault) → (cond t (Err TooLong) (Ok tt) >>= λ (short : Unit {0}). Ok input) ≡ Err other → TooLong ≡ other
limit_fault true input other e = cc
limit_fault false input other e = absurd cc

too_long : (input : List ℕ) (other : Fault) → within_limit input ≡ Err other → TooLong ≡ other
unfolding within_limit
too_long input other e = limit_fault (ltb 16777216 (length input)) input other e

told : (turn : ℕ) (fault : LayoutFault) (r : Result Declaration LayoutFault) → layout_or_fault r ≡ Err (LayoutRefused fault) → turn_layout_or_fault turn r ≡ Err (TurnLayoutRefused turn fault)
told turn fault (Ok layout) e = absurd cc
told turn fault (Err other) e = let same : other ≡ fault = cc in ap (λ f. Err (TurnLayoutRefused turn f)) same

told_by : (turn : ℕ) (input : List ℕ) (fault : LayoutFault) (r : Result (List ℕ) Fault) → within_limit input ≡ r → (r >>= λ text. layout_or_fault (layout_said text)) ≡ Err (LayoutRefused fault)
    → (r >>= λ text. turn_layout_or_fault turn (layout_said text)) ≡ Err (TurnLayoutRefused turn fault)
told_by turn input fault (Ok text) limit e = told turn fault (layout_said text) e
told_by turn input fault (Err other) limit e = let long = too_long input other limit in absurd (apart other fault long e)
  where
    apart : (other : Fault) (fault : LayoutFault) → TooLong ≡ other → ◌≡◌ {A = Result Declaration Fault} (Err other) (Err (LayoutRefused fault)) → ⊥
    apart other fault long e = cc

pub turn_layout_is : (turn : ℕ) (input : List ℕ) (fault : LayoutFault) → layout_in input ≡ Err (LayoutRefused fault) → turn_layout_in turn input ≡ Err (TurnLayoutRefused turn fault)
turn_layout_is turn input fault is = told_by turn input fault (within_limit input) refl is

-- ---- layouts of one geometry
pub all_same : (geometry : Sizes) (turn : ℕ) (turns : List (List (List ℕ))) (layouts : List Declaration) → other_from geometry turn layouts ≡ None → AreOfGeometry geometry (rounds turns layouts)
unfolding other_from rounds
all_same geometry turn [] layouts none = tt
all_same geometry turn (records ∷ turns) [] none = tt
all_same geometry turn (records ∷ turns) (layout ∷ layouts) none =
    let parts = none_here (same_sizes layout.geometry geometry) (other_from geometry (turn + 1) layouts) turn none in
    (sizes_are layout.geometry geometry parts.0, all_same geometry (turn + 1) turns layouts parts.1)
  where
    none_here : (t : Bool) (others : Option ℕ) (turn : ℕ) → cond t others (Some turn) ≡ None → (t ≡ true) × (others ≡ None)
    none_here true others turn none = (refl, none)
    none_here false others turn none = absurd cc

pub one_geometry : (turns : List (List (List ℕ))) (layouts : List Declaration) → first_other layouts ≡ None → HaveOneGeometry (rounds turns layouts)
unfolding rounds
one_geometry [] layouts none = tt
one_geometry (records ∷ turns) [] none = tt
one_geometry (records ∷ turns) (layout ∷ layouts) none = all_same layout.geometry 1 turns layouts none

pub if_some : {X : Type 0} {A B : X → Type 0} (known : Option X) → ((x : X) → A x → B x) → IfSome known A → IfSome known B
if_some None leads has = tt
if_some (Some x) leads has = leads x has

rounds_joined : (xs : List Turn) (y : Turn) → rounds_of (xs ++ y ∷ []) ≡ rounds_of xs ++ round_of y ∷ []
rounds_joined [] y = refl
rounds_joined (x ∷ xs) y = ap (λ l. round_of x ∷ l) (rounds_joined xs y)

append_one : {A : Type 0} (xs : List A) (y : A) (zs : List A) → (xs ++ y ∷ []) ++ zs ≡ xs ++ y ∷ zs
append_one [] y zs = refl
append_one (x ∷ xs) y zs = ap (λ l. x ∷ l) (append_one xs y zs)

-- one more turn is made of the rest
pub rounds_more : (xs ys : List Turn) (y : Turn) (one : Round) (later rest all : List Round) → ys ≡ xs ++ y ∷ [] → round_of y ≡ one → one ∷ later ≡ rest → rounds_of xs ++ rest ≡ all
    → rounds_of ys ++ later ≡ all
rounds_more xs ys y one later rest all pushed is split before =
    ap (λ l. rounds_of l ++ later) pushed ∙ ap (λ l. l ++ later) (rounds_joined xs y) ∙ append_one (rounds_of xs) (round_of y) later
    ∙ ap (λ r. rounds_of xs ++ r ∷ later) is ∙ ap (λ l. rounds_of xs ++ l) split ∙ before

-- ---- the layouts in turn
pub first_known : {L : Type 0} (remaining : L → Option (List ℕ)) (reader : L) (readers : List L) (texts : List (List ℕ)) → all_remaining remaining (reader ∷ readers) ≡ Some texts
    → (text : List ℕ) × (rest : List (List ℕ)) × (remaining reader ≡ Some text) × (all_remaining remaining readers ≡ Some rest) × (texts ≡ text ∷ rest)
first_known remaining reader readers texts known = by (remaining reader) (all_remaining remaining readers) refl refl known
  where
    by : (o : Option (List ℕ)) (others : Option (List (List ℕ))) → remaining reader ≡ o → all_remaining remaining readers ≡ others → both_known o others ≡ Some texts
        → (text : List ℕ) × (rest : List (List ℕ)) × (remaining reader ≡ Some text) × (all_remaining remaining readers ≡ Some rest) × (texts ≡ text ∷ rest)
    by None others a b e = absurd cc
    by (Some text) None a b e = absurd cc
    by (Some text) (Some rest) a b e = (text, rest, a, b, cc)

pub none_known : {L : Type 0} (remaining : L → Option (List ℕ)) (readers : List L) (texts : List (List ℕ)) → readers ≡ [] → all_remaining remaining readers ≡ Some texts → texts ≡ []
none_known remaining readers texts none known = none_is texts (ap (all_remaining remaining) (sym none) ∙ known)
  where
    none_is : (texts : List (List ℕ)) → Some [] ≡ Some texts → texts ≡ []
    none_is texts e = cc

pub known_none : {L : Type 0} (remaining : L → Option (List ℕ)) (readers : List L) (index : ℕ) (texts : List (List ℕ)) → length readers ≤ index
    → all_remaining remaining (drop index readers) ≡ Some texts → texts ≡ []
known_none remaining readers index texts past known = none_known remaining (drop index readers) texts (drop_all index readers past) known

known_is : {A : Type 0} (o : Option A) (x : A) (P : A → Type 0) → o ≡ Some x → IfSome o P → P x
known_is None x P e has = absurd cc
known_is (Some y) x P e has = let same : y ≡ x = cc in subst P same has

-- one more layout
pub layout_more : (text : List ℕ) (rest : List (List ℕ)) (before after : List Declaration) (layout : Declaration) → turn_layout_in (length before) text ≡ Ok layout → after ≡ before ++ layout ∷ []
    → layouts_from (length after) after rest ≡ layouts_from (length before) before (text ∷ rest)
unfolding layouts_from
layout_more text rest before after layout said pushed =
    let more : length after ≡ length before + 1 = ap length pushed ∙ length_one before layout in
    ap (λ k. layouts_from k after rest) more ∙ ap (λ ls. layouts_from (length before + 1) ls rest) pushed
    ∙ sym (ap (λ r. r >>= λ l. layouts_from (length before + 1) (before ++ l ∷ []) rest) said)
  where
    length_one : (xs : List Declaration) (y : Declaration) → length (xs ++ y ∷ []) ≡ length xs + 1
    length_one [] y = refl
    length_one (x ∷ xs) y = let e = length_one xs y in omega (arith, e)

-- one more layout was read
pub layout_read : {L : Type 0} (remaining : L → Option (List ℕ)) (reader : L) (text : List ℕ) (turn : ℕ) (rest : List (List ℕ)) (before after : List Declaration) (layout : Declaration)
    → remaining reader ≡ Some text → IfSome (remaining reader) (λ input. turn_layout_in turn input ≡ Ok layout) → turn ≡ length before → after ≡ before ++ layout ∷ []
    → layouts_from (length after) after rest ≡ layouts_from (length before) before (text ∷ rest)
layout_read remaining reader text turn rest before after layout known reads here pushed =
    layout_more text rest before after layout (ap (λ k. turn_layout_in k text) (sym here) ∙ known_is (remaining reader) text (λ input. turn_layout_in turn input ≡ Ok layout) known reads) pushed

-- a layout was refused, or could not be read
pub layout_fails : {L : Type 0} (remaining : L → Option (List ℕ)) (reader : L) (text : List ℕ) (turn : ℕ) (rest texts : List (List ℕ)) (before : List Declaration) (error : CommandError)
    → remaining reader ≡ Some text → IfSome (remaining reader) (λ input. GivesOrFails {A = Declaration} (λ l. l) (Err error) (turn_layout_in turn input)) → turn ≡ length before
    → layouts_from (length before) before (text ∷ rest) ≡ layouts_from 0 [] texts
    → GivesOrFails {A = Vec Declaration} (λ v. v.items) (Err error) (layouts_from 0 [] texts)
unfolding layouts_from
layout_fails remaining reader text turn rest texts before (Told fault) known fails here before_is =
    sym before_is
    ∙ ap (λ r. r >>= λ l. layouts_from (length before + 1) (before ++ l ∷ []) rest)
    (ap (λ k. turn_layout_in k text) (sym here) ∙ known_is (remaining reader) text (λ input. turn_layout_in turn input ≡ Err fault) known fails)
layout_fails remaining reader text turn rest texts before ReadFailed known fails here before_is = tt
layout_fails remaining reader text turn rest texts before OutOfMemory known fails here before_is = tt

pub layouts_end : (n : ℕ) (before : List Declaration) (rest : List (List ℕ)) → rest ≡ [] → layouts_from n before rest ≡ Ok before
unfolding layouts_from
layouts_end n before rest none = ap (layouts_from n before) none

pub into_some : {X : Type 0} {B : X → Type 0} (known : Option X) → ((x : X) → known ≡ Some x → B x) → IfSome known B
into_some None leads = tt
into_some (Some x) leads = leads x refl

pub talk_finished : (due : List (List ℕ) → List ℕ → Result Printed Fault) (known : Option (List (List ℕ))) (other old new : Option (List ℕ)) (answer : Result Answer CommandError) (status : Status)
    → IfSome known (λ texts. IfSome other (λ input. GivesOrFails answer_seen answer (due texts input))) → Finishes old new answer status
    → IfSome known (λ texts. IfSome other (λ input. Prints old new status (printed_or_fault (due texts input))))
talk_finished due None other old new answer status is written = tt
talk_finished due (Some texts) None old new answer status is written = tt
talk_finished due (Some texts) (Some input) old new answer status is written = finishes (due texts input) old new answer status is written

-- ---- texts as sources
sources_known : {S : Type 0} (seen : S → List ℕ) (sources : List S) → all_remaining (λ s. Some (seen s)) sources ≡ Some (map seen sources)
sources_known seen [] = refl
sources_known seen (source ∷ sources) = ap (both_known (Some (seen source))) (sources_known seen sources)

none_fails : {S : Type 0} (sources : List S) → all_failures (λ s. 0) sources ≡ 0
none_fails [] = refl
none_fails (source ∷ sources) = omega (arith, none_fails sources)

no_read_fails : {T A : Type 0} (view : T → A) (due : Result A Fault) (result : Result T CommandError) → GivesOrFails view result due → ToldBy 0 0 result → Gives view result due
no_read_fails view due (Ok found) is told = is
no_read_fails view due (Err (Told fault)) is told = is
no_read_fails view due (Err ReadFailed) is told = absurd (omega (arith, told))
no_read_fails view due (Err OutOfMemory) is told = tt

-- of texts no read fails, so what is given of their sources is given of them
pub gives_texts : {S T A : Type 0} (seen : S → List ℕ) (view : T → A) (due : List (List ℕ) → Result A Fault) (sources after : List S) (texts : List (List ℕ)) (result : Result T CommandError)
    → map seen sources ≡ texts → IfSome (all_remaining (λ s. Some (seen s)) sources) (λ found. GivesOrFails view result (due found))
    → ToldBy (all_failures (λ s. 0) sources) (all_failures (λ s. 0) after) result → Gives view result (due texts)
gives_texts seen view due sources after texts result same is told =
    no_read_fails view (due texts) result
    (known_is (all_remaining (λ s. Some (seen s)) sources) texts (λ found. GivesOrFails view result (due found)) (sources_known seen sources ∙ ap Some same) is)
    (subst (λ (n : ℕ). ToldBy n 0 result) (none_fails sources) (subst (λ (n : ℕ). ToldBy (all_failures (λ s. 0) sources) n result) (none_fails after) told))

-- a text beside them adds no failure
pub beside_text : {T : Type 0} (old new : ℕ) (result : Result T CommandError) → ToldBy (old + 0) (new + 0) result → ToldBy old new result
beside_text old new result told =
    subst (λ (n : ℕ). ToldBy n new result) (same old) (subst (λ (n : ℕ). ToldBy (old + 0) n result) (same new) told)
  where
    same : (n : ℕ) → n + 0 ≡ n
    same n = omega arith

pub talk_ends : (due : List (List ℕ) → List ℕ → Result Printed Fault) (known : Option (List (List ℕ))) (other : Option (List ℕ)) (a a' b b' : ℕ) (answer : Result Answer CommandError) (status : Status)
    → IfSome known (λ texts. IfSome other (λ input. GivesOrFails answer_seen answer (due texts input))) → ToldBy a a' answer → FinishesBy b b' answer status
    → IfSome known (λ texts. IfSome other (λ input. EndsBy (a + b) (a' + b') (printed_or_fault (due texts input)).status status))
talk_ends due None other a a' b b' answer status is told writes = tt
talk_ends due (Some texts) other a a' b b' answer status is told writes = ends_known (due texts) other a a' b b' answer status is told writes
