-- Commands that end at a fault of their inputs, at a read that failed, or for want of memory.
use Rattle.std.proofs.Common.{◌≡◌, ◌⊎◌, inl, inr, ℕ, List, [], Option, Some, None, Result, Ok, Err, refl, sym, subst}
use Rattle.std.specs.Prelude.{IfSome}
use Rattle.cli_commands.specs.declared.fault.Fault.{Fault}
use Rattle.cli_commands.specs.declared.fault.CommandError.{CommandError}
use Rattle.cli_commands.specs.declared.fault.CommandError.TheVariants.{Fault as Told, ReadFailed, OutOfMemory}
use Rattle.cli_commands.specs.declared.status.Status.{Status}
use Rattle.cli_commands.specs.declared.status.Status.TheVariants.{BadInput, Failed, NoMemory}
use Rattle.cli_commands.specs.Fault.{GivesOrFails, fault_line}
use Rattle.cli_commands.specs.Printed.{Printed, printed}
use Rattle.cli_commands.specs.Streams.{AppendsFront, Finishes, IsStopped, IsWantOrFailure, IsWritten, Prints}
use Rattle.tn_session.specs.Strikes.{Strike}
use Rattle.cli_sessions.specs.Prepare.{Prepared, ready, stops}
use Rattle.cli_sessions.specs.Printing.{Printing}
use Rattle.cli_sessions.proofs.Serving.{appends_none}
use Rattle.term3270.specs.Sessions.{Attached, AttachesNamed, HasFailed, ServesPrepared}

pub if_some : {X : Type 0} {A B : X → Type 0} (known : Option X) → ((x : X) → A x → B x) → IfSome known A → IfSome known B
if_some None leads has = tt
if_some (Some x) leads has = leads x has

nothing : (old new : Option (List ℕ)) (text : List ℕ) → new ≡ old → AppendsFront old new text
nothing old new text same = subst (λ n. AppendsFront old n text) (sym same) ([], text, refl, appends_none old)

-- nothing was written after a read that failed, or for want of memory
failed_prints : (old new : Option (List ℕ)) (status : Status) (due : Printed) → IsStopped old new Failed status → Prints old new status due
failed_prints old new status due stopped = subst (λ s. Prints old new s due) (sym stopped.0) (nothing old new due.text stopped.1)

wanting_prints : (old new : Option (List ℕ)) (status : Status) (due : Printed) → IsStopped old new NoMemory status → Prints old new status due
wanting_prints old new status due stopped = subst (λ s. Prints old new s due) (sym stopped.0) (nothing old new due.text stopped.1)

failed_fails : (old new : Printing) (status : Status) → IsStopped old.written new.written Failed status → HasFailed old new status
failed_fails old new status stopped = (subst IsWantOrFailure (sym stopped.0) tt, stopped.1)

wanting_fails : (old new : Printing) (status : Status) → IsStopped old.written new.written NoMemory status → HasFailed old new status
wanting_fails old new status stopped = (subst IsWantOrFailure (sym stopped.0) tt, stopped.1)

-- the line of a fault
told_prints : (old new : Option (List ℕ)) (status : Status) (text : List ℕ)
    → IsWritten old new (printed text BadInput) status ⊎ IsStopped old new NoMemory status → Prints old new status (printed text BadInput)
told_prints old new status text (inl (inl whole)) = subst (λ s. Prints old new s (printed text BadInput)) (sym whole.0) (refl, whole.1)
told_prints old new status text (inl (inr part)) = subst (λ s. Prints old new s (printed text BadInput)) (sym part.0) part.1
told_prints old new status text (inr stopped) = wanting_prints old new status (printed text BadInput) stopped

pub serve_ends : {H : Type 0} (view : H → Prepared) (count : ℕ) (old new : Printing) (status : Status) (error : CommandError) (due : Result Prepared Fault)
    → GivesOrFails view (Err error) due → Finishes old.written new.written (Err error) status → ServesPrepared count old new status due
serve_ends view count old new status (Told fault) due gives ends =
    subst (ServesPrepared count old new status) (sym gives) (told_prints old.written new.written status (fault_line fault) ends)
serve_ends view count old new status ReadFailed (Err fault) gives ends = failed_prints old.written new.written status (printed (fault_line fault) BadInput) ends
serve_ends view count old new status ReadFailed (Ok (stops answer)) gives ends = failed_prints old.written new.written status answer ends
serve_ends view count old new status ReadFailed (Ok (ready layout records)) gives ends = inr (failed_fails old new status ends)
serve_ends view count old new status OutOfMemory (Err fault) gives ends = wanting_prints old.written new.written status (printed (fault_line fault) BadInput) ends
serve_ends view count old new status OutOfMemory (Ok (stops answer)) gives ends = wanting_prints old.written new.written status answer ends
serve_ends view count old new status OutOfMemory (Ok (ready layout records)) gives ends = inr (wanting_fails old new status ends)

pub attach_ends : {H K : Type 0} (view : H → List K) (strike : K → Strike) (Session : Attached) (old new : Printing) (status : Status) (error : CommandError)
    (due : Result (List K) Fault)
    → GivesOrFails view (Err error) due → Finishes old.written new.written (Err error) status → AttachesNamed strike Session old new status due
attach_ends view strike Session old new status (Told fault) due gives ends =
    subst (AttachesNamed strike Session old new status) (sym gives) (told_prints old.written new.written status (fault_line fault) ends)
attach_ends view strike Session old new status ReadFailed (Err fault) gives ends = failed_prints old.written new.written status (printed (fault_line fault) BadInput) ends
attach_ends view strike Session old new status ReadFailed (Ok keys) gives ends = inr (failed_fails old new status ends)
attach_ends view strike Session old new status OutOfMemory (Err fault) gives ends = wanting_prints old.written new.written status (printed (fault_line fault) BadInput) ends
attach_ends view strike Session old new status OutOfMemory (Ok keys) gives ends = inr (wanting_fails old new status ends)
