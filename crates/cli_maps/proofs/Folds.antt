-- What is printed of maps so far, and then of the others.
use Rattle.std.proofs.Common.{◌≡◌, ◌+◌, ◌<◌, ℕ, suc, List, ◌∷◌, ◌++◌, length, get_or, drop, Result, Ok, Err, refl, ap, ◌∙◌, sym, subst, append_assoc, arith}
use Rattle.std.proofs.Math.Seq.{drop-cons}
use Rattle.serde_json.specs.Data.{Data}
use Rattle.ds_codec.specs.Reading.{◌>>=◌}
use Rattle.bms_map.specs.Maps.{Sheet}
use Rattle.bms_map.specs.declared.record.Control.{Control}
use Rattle.cli_commands.specs.declared.fault.Fault.{Fault}
use Rattle.cli_commands.specs.declared.status.Status.{Status}
use Rattle.cli_commands.specs.declared.status.Status.TheVariants.{Done, Findings, BadInput, Failed, NoMemory}
use Rattle.cli_commands.specs.declared.fault.CommandError.{CommandError}
use Rattle.cli_commands.specs.declared.fault.CommandError.TheVariants.{Fault as Faulted, ReadFailed, OutOfMemory}
use Rattle.cli_commands.specs.Fault.{Gives}
use Rattle.cli_commands.specs.Printed.{Printed, printed}
use Rattle.cli_maps.specs.Judged.{Judged, judge}
use Rattle.cli_maps.specs.Sarif.{results_of}
use Rattle.cli_maps.specs.Told.{all_results, all_told, then_printed, worse}

-- an answer, and then others
abbrev pub after : Printed → Result Printed Fault → Result Printed Fault
after first rest = rest >>= λ printed. Ok (then_printed first printed)

worse_worse : (a b c : Status) → worse (worse a b) c ≡ worse a (worse b c)
worse_worse Done b c = refl
worse_worse Findings b c = refl
worse_worse BadInput b c = refl
worse_worse Failed b c = refl
worse_worse NoMemory b c = refl

then_then : (a b c : Printed) → then_printed (then_printed a b) c ≡ then_printed a (then_printed b c)
then_then a b c = rw (append_assoc a.text b.text c.text, worse_worse a.status b.status c.status) refl

-- the next one
pub told_on : (first next : Printed) (one : Result Printed Fault) (rest : Result Printed Fault) → one ≡ Ok next
    → after (then_printed first next) rest ≡ after first (one >>= λ second. rest >>= λ others. Ok (then_printed second others))
told_on first next one (Ok others) is = rw is (ap (λ p. Ok p) (then_then first next others))
told_on first next one (Err fault) is = rw is refl

-- results, and then others
abbrev pub behind : List Data → Result (List Data) Fault → Result (List Data) Fault
behind first rest = rest >>= λ results. Ok (first ++ results)

pub results_on : (first next : List Data) (rest : Result (List Data) Fault) → behind (first ++ next) rest ≡ behind first (rest >>= λ others. Ok (next ++ others))
results_on first next (Ok others) = ap (λ list. Ok list) (append_assoc first next others)
results_on first next (Err fault) = refl

-- ---- the next map of a list

next_of : (maps : List Sheet) (index : ℕ) (it : Sheet) → index < length maps → it ≡ get_or maps index it → drop index maps ≡ it ∷ drop (index + 1) maps
next_of maps index it inside here =
    let next : suc index ≡ index + 1 = omega arith in
    drop-cons maps index it inside ∙ ap (λ (m : Sheet). m ∷ drop (suc index) maps) (sym here) ∙ ap (λ (k : ℕ). it ∷ drop k maps) next

pub told_next : (f : Sheet → Result Printed Fault) (maps : List Sheet) (index : ℕ) (it : Sheet) (text new : List ℕ) (status worst : Status) (next : Printed) (all : Result Printed Fault)
    → index < length maps → it ≡ get_or maps index it → f it ≡ Ok next → new ≡ text ++ next.text → worst ≡ worse status next.status
    → after (printed text status) (all_told f (drop index maps)) ≡ all → after (printed new worst) (all_told f (drop (index + 1) maps)) ≡ all
told_next f maps index it text new status worst next all inside here is texts statuses so_far =
    rw (texts, statuses)
    (told_on (printed text status) next (f it) (all_told f (drop (index + 1) maps)) is
    ∙ ap (λ (ms : List Sheet). after (printed text status) (all_told f ms)) (sym (next_of maps index it inside here)) ∙ so_far)

judged_on : (path : List ℕ) (lines : List (List ℕ)) (it : Sheet) (judged : Judged) (before : List Data) (one : Result Judged Fault) (rest : Result (List Data) Fault)
    → one ≡ Ok judged
    → behind (before ++ results_of path lines it judged) rest ≡ behind before (one >>= λ j. rest >>= λ others. Ok (results_of path lines it j ++ others))
judged_on path lines it judged before one rest is = rw is (results_on before (results_of path lines it judged) rest)

pub results_next : (path : List ℕ) (lines : List (List ℕ)) (control : Control) (maps : List Sheet) (index : ℕ) (it : Sheet) (before later : List Data) (judged : Judged)
    (all : Result (List Data) Fault)
    → index < length maps → it ≡ get_or maps index it → judge control it ≡ Ok judged → later ≡ before ++ results_of path lines it judged
    → behind before (all_results path lines control (drop index maps)) ≡ all → behind later (all_results path lines control (drop (index + 1) maps)) ≡ all
results_next path lines control maps index it before later judged all inside here is more so_far =
    rw more
    (judged_on path lines it judged before (judge control it) (all_results path lines control (drop (index + 1) maps)) is
    ∙ ap (λ (ms : List Sheet). behind before (all_results path lines control ms)) (sym (next_of maps index it inside here)) ∙ so_far)

fault_of : {T : Type 0} (view : T → List Data) (error : CommandError) (before : List Data) (one : Result Judged Fault) (rest : Judged → Result (List Data) Fault)
    → Gives {A = Judged} {B = Judged} (λ j. j) (Err error) one → Gives view (Err error) (behind before (one >>= rest))
fault_of view (Faulted fault) before one rest is = rw is refl
fault_of view ReadFailed before one rest is = is
fault_of view OutOfMemory before one rest is = tt

pub results_stop : {T : Type 0} (view : T → List Data) (path : List ℕ) (lines : List (List ℕ)) (control : Control) (maps : List Sheet) (index : ℕ) (it : Sheet) (before : List Data)
    (error : CommandError) (all : Result (List Data) Fault)
    → index < length maps → it ≡ get_or maps index it → Gives {A = Judged} {B = Judged} (λ j. j) (Err error) (judge control it)
    → behind before (all_results path lines control (drop index maps)) ≡ all → Gives view (Err error) all
results_stop view path lines control maps index it before error all inside here is so_far =
    subst (λ (r : Result (List Data) Fault). Gives view (Err error) r)
    (ap (λ (ms : List Sheet). behind before (all_results path lines control ms)) (sym (next_of maps index it inside here)) ∙ so_far)
    (fault_of view error before (judge control it)
    (λ j. all_results path lines control (drop (index + 1) maps) >>= λ others. Ok (results_of path lines it j ++ others)) is)
