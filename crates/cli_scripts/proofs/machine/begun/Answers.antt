use Rattle.std.proofs.Common.{◌≡◌, None, false, ap, ◌∙◌}
use Rattle.script_screens.specs.declared.code_page.CodePage.{CodePage}
use Rattle.cli_scripts.specs.declared.worker.Worker.{Worker}
use Rattle.cli_scripts.specs.Answers.{Telling, nothing_told}
use Rattle.cli_scripts.specs.Desks.{Worked, desk_of}
use Rattle.cli_scripts.specs.Machines.{Scripted, scripted}
use Rattle.cli_scripts.specs.Workers.{new_worker}
use Rattle.cli_scripts.proofs.machine.begun.Goals as goal

abbrev resting : Worker → Telling → Scripted
resting worker telling = record {
  desk = worker.desk;
  code_page = worker.code_page;
  settings = worker.settings;
  kept = worker.kept;
  saying = worker.saying;
  telling = telling;
  job = None;
  is_busy = false;
}

put : (worker : Worker) (desk new : Worked) (page : CodePage) (telling : Telling) → worker ≡ new_worker desk page → desk ≡ new → telling ≡ nothing_told
    → resting worker telling ≡ scripted new page
put worker desk new page telling is begins none =
    ap (λ (w : Worker). resting w telling) is ∙ ap (λ (t : Telling). resting (new_worker desk page) t) none ∙ ap (λ (d : Worked). scripted d page) begins

pub returns : goal.returns
returns c =
    put c.new-2.result c.in_ok-desk.desk (desk_of c.args.device c.args.collects) c.args.code_page c.new-3.result c.new-2.ensures c.in_ok-desk.ensures
    c.new-3.ensures
