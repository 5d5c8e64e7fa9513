-- How a line goes on with what is under way.
use Rattle.std.proofs.Common.{◌≡◌, ℕ, Bool, Bor, List, Ok, Err, refl, sym, subst}
use Rattle.std.specs.Prelude.{Result, IfOk, OnOk}
use Rattle.std.specs.declared.alloc.AllocError.{AllocError}
use Rattle.cli_scripts.specs.declared.came.Came.{Came}
use Rattle.cli_scripts.specs.declared.came.Came.TheVariants as came
use Rattle.cli_scripts.specs.declared.doing.Doing.{Doing}
use Rattle.cli_scripts.specs.declared.doing.Doing.TheVariants.{Calling}
use Rattle.cli_scripts.specs.declared.doing.Step.{Step}
use Rattle.cli_scripts.specs.declared.worker.Worker.{Worker}
use Rattle.cli_scripts.specs.Desks.{NamedHost, Worked, opened}
use Rattle.cli_scripts.specs.Says.{IsOpening}
use Rattle.cli_scripts.specs.Workers.{GoesOn, HearsBytes, HearsOn, ToldOn}

-- a host is connected
pub told_opens : (r : Result Step AllocError) (doing : Doing) (it : Came) (host : NamedHost) (old : Worker) (desk : Worked) → doing ≡ Calling host → it ≡ came.Connected
    → IfOk r (λ step. IsOpening step) → OnOk r (desk ≡ opened old.desk host) → IfOk r (λ step. ToldOn doing it old step (record old { desk = desk }))
told_opens (Ok step) doing it host old desk is so waits opens =
    subst (λ (d : Doing). ToldOn d it old step (record old { desk = desk })) (sym is)
    (subst (λ (i : Came). ToldOn (Calling host) i old step (record old { desk = desk })) (sym so) (waits, opens, refl))
told_opens (Err why) doing it host old desk is so waits opens = tt

-- bytes of the host were heard
pub resumed : (r : Result Step AllocError) (doing : Doing) (it : Came) (bytes : Bor (List ℕ)) (old mid : Worker) (shown : Bool) (new : Worker) → it ≡ came.Bytes bytes
    → HearsBytes bytes.now old shown mid → IfOk r (λ step. HearsOn doing shown mid step new) → IfOk r (λ step. GoesOn doing it old step new)
resumed (Ok step) doing it bytes old mid shown new is hears goes = subst (λ (i : Came). GoesOn doing i old step new) (sym is) (mid, shown, hears, goes)
resumed (Err why) doing it bytes old mid shown new is hears goes = tt
