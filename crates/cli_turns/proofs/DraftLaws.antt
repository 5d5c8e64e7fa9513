-- Drafts of turns one after the other.
use Rattle.std.proofs.Common.{◌≡◌, ℕ, suc, ◌+◌, ◌-◌, ◌<◌, List, [], ◌∷◌, ◌++◌, refl, sym, ◌∙◌, ap, arith, append_assoc, append-nil}
use Rattle.std.specs.Prelude.{Result, Ok, Err}
use Rattle.cli_commands.specs.declared.fault.Fault.{Fault}
use Rattle.cli_commands.specs.declared.fault.CommandError.{CommandError}
use Rattle.cli_commands.specs.declared.fault.CommandError.TheVariants.{Fault as Told, ReadFailed, OutOfMemory}
use Rattle.cli_commands.specs.declared.status.Status.{Status}
use Rattle.cli_commands.specs.declared.status.Status.TheVariants.{Done, Findings, BadInput, Failed, NoMemory}
use Rattle.cli_commands.specs.Fault.{Gives}
use Rattle.cli_commands.specs.Held.{answer_seen}
use Rattle.cli_commands.specs.Printed.{Printed, printed}
use Rattle.cli_turns.specs.Drafts.{after_text, behind, draft_of, drafts_from, each_from, one_before, one_first, turn_head, worse}

worse_again : (s t u : Status) → worse s (worse t u) ≡ worse (worse s t) u
worse_again Done t u = refl
worse_again Findings t u = refl
worse_again BadInput t u = refl
worse_again Failed t u = refl
worse_again NoMemory t u = refl

worse_done : (s : Status) → worse s Done ≡ s
worse_done Done = refl
worse_done Findings = refl
worse_done BadInput = refl
worse_done Failed = refl
worse_done NoMemory = refl

pub after_after : (a b : List ℕ) (s t : Status) (r : Result Printed Fault) → after_text a s (after_text b t r) ≡ after_text (a ++ b) (worse s t) r
after_after a b s t (Ok p) =
    ap (λ z. Ok (printed z (worse s (worse t p.status)))) (sym (append_assoc a b p.text))
    ∙ ap (λ z. Ok (printed ((a ++ b) ++ p.text) z)) (worse_again s t p.status)
after_after a b s t (Err f) = refl

pub before_all : (r : Result Printed Fault) → r ≡ after_text [] Done r
before_all (Ok p) = refl
before_all (Err f) = refl

pub after_all : (done : List ℕ) (status : Status) → after_text done status (Ok (printed [] Done)) ≡ Ok (printed done status)
after_all done status =
    ap (λ z. Ok (printed z (worse status Done))) (append-nil done) ∙ ap (λ z. Ok (printed done z)) (worse_done status)

pub drafted : (text : List ℕ) (turn more : ℕ) (done : List ℕ) (status : Status) (one : Printed) → draft_of turn text ≡ Ok one
    → after_text done status (drafts_from text turn (suc more)) ≡ after_text (done ++ (turn_head turn ++ one.text)) (worse status one.status) (drafts_from text (turn + 1) more)
drafted text turn more done status one is =
    ap (λ z. after_text done status (one_before turn z (drafts_from text (turn + 1) more))) is
    ∙ after_after done (turn_head turn ++ one.text) status one.status (drafts_from text (turn + 1) more)

pub not_drafted : (text : List ℕ) (turn more : ℕ) (done : List ℕ) (status : Status) (fault : Fault) → draft_of turn text ≡ Err fault
    → after_text done status (drafts_from text turn (suc more)) ≡ Err fault
not_drafted text turn more done status fault is = ap (λ z. after_text done status (one_before turn z (drafts_from text (turn + 1) more))) is

pub one_less : (count turn : ℕ) → turn < count → count - turn ≡ suc (count - (turn + 1))
one_less count turn few = omega (arith, few)

-- ---- one by one

behind_one : (done : List Printed) (one : Printed) (r : Result (List Printed) Fault) → behind done (behind (one ∷ []) r) ≡ behind (done ++ one ∷ []) r
behind_one done one (Ok others) = ap Ok (sym (append_assoc done (one ∷ []) others))
behind_one done one (Err f) = refl

pub behind_none : (r : Result (List Printed) Fault) → r ≡ behind [] r
behind_none (Ok others) = refl
behind_none (Err f) = refl

pub behind_all : (done : List Printed) → behind done (Ok []) ≡ Ok done
behind_all done = ap Ok (append-nil done)

pub each_drafted : (text : List ℕ) (turn more : ℕ) (done : List Printed) (one : Printed) → draft_of turn text ≡ Ok one
    → behind done (each_from text turn (suc more)) ≡ behind (done ++ one ∷ []) (each_from text (turn + 1) more)
each_drafted text turn more done one is =
    ap (λ z. behind done (one_first z (each_from text (turn + 1) more))) is ∙ behind_one done one (each_from text (turn + 1) more)

pub each_not_drafted : (text : List ℕ) (turn more : ℕ) (done : List Printed) (fault : Fault) → draft_of turn text ≡ Err fault
    → behind done (each_from text turn (suc more)) ≡ Err fault
each_not_drafted text turn more done fault is = ap (λ z. behind done (one_first z (each_from text (turn + 1) more))) is

-- a turn that isn't drafted ends them
pub each_fails : {A : Type 0} (view : A → List Printed) (text : List ℕ) (turn more : ℕ) (done : List Printed) (e : CommandError) (all : Result (List Printed) Fault)
    → Gives answer_seen (Err e) (draft_of turn text) → all ≡ behind done (each_from text turn (suc more)) → Gives view (Err e) all
each_fails view text turn more done (Told fault) all is so_far = so_far ∙ each_not_drafted text turn more done fault is
each_fails view text turn more done ReadFailed all is so_far = is
each_fails view text turn more done OutOfMemory all is so_far = tt
