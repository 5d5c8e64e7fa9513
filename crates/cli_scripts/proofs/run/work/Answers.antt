use Rattle.std.proofs.Common.{Err, refl, sym, ap, ◌∙◌, subst, inl, arith}
use Rattle.std.specs.Io.KnownBytes.{prepend_known}
use Rattle.std.proofs.lemmas.Bool.{OnTrue_at}
use Rattle.cli_scripts.specs.Answers.{Telling, handed_lines}
use Rattle.cli_scripts.specs.declared.run.Ended.TheVariants.{Failed}
use Rattle.cli_scripts.specs.declared.run.Finish.{Finish}
use Rattle.cli_scripts.specs.Desks.{Worked}
use Rattle.cli_scripts.specs.Ends.{WorksUpTo, failures_of}
use Rattle.cli_scripts.specs.Judged.{Judges}
use Rattle.cli_scripts.specs.Machines.{Scripted}
use Rattle.cli_scripts.specs.Runs.{handed_desk, handed_due_of}
use Rattle.cli_scripts.specs.Worlds.{Exchanged}
use Rattle.cli_scripts.proofs.EndLaws.{read_on, reports_by, sends_all, stays_told, stops_by, works_long, works_read, works_unwritten}
use Rattle.cli_scripts.proofs.JudgedLaws.{judges_more, judges_none}
use Rattle.cli_scripts.proofs.RunLaws.{goes_counted, goes_none, ran_so}
use Rattle.cli_scripts.proofs.WorkLaws.{busy_after, exchanged_more, exchanged_none, exchanged_then, told_all, told_front, told_more, told_none}
use Rattle.cli_scripts.proofs.run.work.Goals as goal

pub returns-in-Err-clause-told : goal.returns-in-Err-clause-told
returns-in-Err-clause-told g c =
    told_front c.args.machine.now c.turns.machine c.inspect.new.machine (g.O.TakesBytes.contents c.args.output.now)
    (g.O.TakesBytes.contents c.turns.output) c.turns.invariant.told
    (ap (λ (m : Scripted). m.telling.gone) c.in-Err.ensures.same ∙ c.turn-given.ensures.gone)

pub returns-in-Err-given-clause-told : goal.returns-in-Err-given-clause-told
returns-in-Err-given-clause-told g c =
    told_front c.args.machine.now c.turns.machine c.send.new.machine (g.O.TakesBytes.contents c.args.output.now)
    (g.O.TakesBytes.contents c.turns.output) c.turns.invariant.told
    (ap (λ (t : Telling). t.gone) c.send.ensures.sends.5 ∙ ap (λ (m : Scripted). m.telling.gone) c.in-Ok.ensures.machine ∙ c.turn-given.ensures.gone)

pub returns-then-not-answer-clause-told : goal.returns-then-not-answer-clause-told
returns-then-not-answer-clause-told g c =
    told_more c.args.machine.now c.turns.machine c.send.new.machine c.answer.new.machine (g.O.TakesBytes.contents c.args.output.now)
    (g.O.TakesBytes.contents c.turns.output) (g.O.TakesBytes.contents c.answer.new.output) c.turns.invariant.told
    (ap (λ (t : Telling). t.gone) c.send.ensures.sends.5 ∙ ap (λ (m : Scripted). m.telling.gone) c.in-Ok.ensures.machine ∙ c.turn-given.ensures.gone)
    c.if-not-answer.ensures.told

pub returns-in-Err-given-clause-judged : goal.returns-in-Err-given-clause-judged
returns-in-Err-given-clause-judged g c =
    λ _. subst (λ (f : Finish). Judges c.args.machine.now.desk c.send.new.machine.desk c.args.judge.now c.inspect.new.judge f.is_told
    (g.P.TakesBytes.contents c.args.report.now) (g.P.TakesBytes.contents c.inspect.new.report)) (sym c.finished-in-Err-given.ensures)
    (judges_more c.args.machine.now.desk c.turns.machine.desk c.turn-given.new.machine.desk c.send.new.machine.desk c.args.judge.now c.turns.judge
    c.inspect.new.judge c.turns.is_told c.in-Ok.told (g.P.TakesBytes.contents c.args.report.now) (g.P.TakesBytes.contents c.turns.report)
    (g.P.TakesBytes.contents c.inspect.new.report) c.turns.invariant.judged c.turn-given.ensures.took.judged c.turn-given.ensures.took.collects
    (c.send.ensures.sends.7 ∙ ap (λ (m : Scripted). m.desk.judged) c.in-Ok.ensures.machine)
    (c.send.ensures.sends.9 ∙ ap (λ (m : Scripted). m.desk.collects) c.in-Ok.ensures.machine) c.in-Ok.ensures.after c.in-Ok.ensures.before
    c.in-Ok.ensures.reported)

pub returns-in-Err-clause-exchanged : goal.returns-in-Err-clause-exchanged
returns-in-Err-clause-exchanged g c =
    subst (λ (m : Scripted). Exchanged c.args.machine.now.desk m.desk (g.W.World.sent c.args.world.now) (g.W.World.sent c.turn-given.new.world)
    (g.W.World.received c.args.world.now) (g.W.World.received c.turn-given.new.world)) (sym c.in-Err.ensures.same)
    (exchanged_then c.args.machine.now.desk c.turns.machine.desk c.turn-given.new.machine.desk (g.W.World.sent c.args.world.now)
    (g.W.World.sent c.turns.world) (g.W.World.sent c.turn-given.new.world) (g.W.World.received c.args.world.now) (g.W.World.received c.turns.world)
    (g.W.World.received c.turn-given.new.world) c.turns.invariant.exchanged c.turn-given.ensures.took)

pub returns-then-not-answer-clause-exchanged : goal.returns-then-not-answer-clause-exchanged
returns-then-not-answer-clause-exchanged g c =
    let handed = c.in-Ok.ensures.machine in
    let sends = c.send.ensures.sends in
    exchanged_more c.args.machine.now.desk c.turns.machine.desk c.turn-given.new.machine.desk c.inspect.new.machine.desk
    c.send.new.machine.desk c.answer.new.machine.desk (g.W.World.sent c.args.world.now) (g.W.World.sent c.turns.world)
    (g.W.World.sent c.turn-given.new.world) (g.W.World.sent c.send.new.world) (g.W.World.received c.args.world.now)
    (g.W.World.received c.turns.world) (g.W.World.received c.turn-given.new.world) (g.W.World.received c.send.new.world) sends.0
    c.turns.invariant.exchanged c.turn-given.ensures.took (ap (λ (m : Scripted). m.desk.gone) handed) (ap (λ (m : Scripted). m.desk.heard) handed)
    sends.1 sends.2 sends.3 sends.4 c.answer.ensures.desk

pub turns-init : goal.turns-init
turns-init g c =
    record {
      exchanged = exchanged_none c.args.machine.now.desk (g.W.World.sent c.args.world.now) (g.W.World.received c.args.world.now);
      told = told_none c.args.machine.now (g.O.TakesBytes.contents c.args.output.now);
      judged = judges_none c.args.machine.now.desk c.args.judge.now (g.P.TakesBytes.contents c.args.report.now);
      busy = c.requires;
      passed = c.new-held_back.ensures;
      going = goes_none c.args.machine.now (prepend_known c.args.lines.now.ahead (g.R.GivesBytes.remaining c.args.script.now))
          (g.W.World.received c.args.world.now);
      read = refl;
      written = refl;
      reported = inl (refl, refl);
    }

pub turns-preserved : goal.turns-preserved
turns-preserved g c =
    let handed = c.in-Ok.ensures.machine in
    let sends = c.send.ensures.sends in
    record {
      exchanged = exchanged_more c.args.machine.now.desk c.turns.machine.desk c.turn-given.new.machine.desk c.inspect.new.machine.desk
          c.send.new.machine.desk c.answer.new.machine.desk (g.W.World.sent c.args.world.now) (g.W.World.sent c.turns.world)
          (g.W.World.sent c.turn-given.new.world) (g.W.World.sent c.send.new.world) (g.W.World.received c.args.world.now)
          (g.W.World.received c.turns.world) (g.W.World.received c.turn-given.new.world) (g.W.World.received c.send.new.world) sends.0
          c.turns.invariant.exchanged c.turn-given.ensures.took (ap (λ (m : Scripted). m.desk.gone) handed) (ap (λ (m : Scripted). m.desk.heard) handed)
          sends.1 sends.2 sends.3 sends.4 c.answer.ensures.desk;
      told = told_all c.args.machine.now c.turns.machine c.send.new.machine c.answer.new.machine (g.O.TakesBytes.contents c.args.output.now)
          (g.O.TakesBytes.contents c.turns.output) (g.O.TakesBytes.contents c.answer.new.output) c.turns.invariant.told
          (ap (λ (t : Telling). t.gone) sends.5 ∙ ap (λ (m : Scripted). m.telling.gone) handed ∙ c.turn-given.ensures.gone)
          (OnTrue_at c.if-not-answer.false c.answer.ensures.whole);
      judged = judges_more c.args.machine.now.desk c.turns.machine.desk c.turn-given.new.machine.desk c.answer.new.machine.desk c.args.judge.now
          c.turns.judge c.inspect.new.judge c.turns.is_told c.in-Ok.told (g.P.TakesBytes.contents c.args.report.now)
          (g.P.TakesBytes.contents c.turns.report) (g.P.TakesBytes.contents c.inspect.new.report) c.turns.invariant.judged
          c.turn-given.ensures.took.judged c.turn-given.ensures.took.collects
          (ap (λ (w : Worked). w.judged) c.answer.ensures.desk ∙ sends.7 ∙ ap (λ (m : Scripted). m.desk.judged) handed)
          (ap (λ (w : Worked). w.collects) c.answer.ensures.desk ∙ sends.9 ∙ ap (λ (m : Scripted). m.desk.collects) handed)
          c.in-Ok.ensures.after c.in-Ok.ensures.before c.in-Ok.ensures.reported;
      busy = c.answer.ensures.busy ∙ sends.6 ∙ ap (λ (m : Scripted). m.is_busy) handed
          ∙ busy_after c.in-Ok-given.next c.turns.machine c.turn-given.new.machine c.in-Ok-given.ensures.answered;
      passed = OnTrue_at c.if-not-answer.false c.answer.ensures.passed;
      going = goes_counted c.args.machine.now c.turns.machine c.turn-given.new.machine c.answer.new.machine c.turns.wants c.in-Ok-given.next
          (prepend_known c.args.lines.now.ahead (g.R.GivesBytes.remaining c.args.script.now))
          (prepend_known c.turns.lines.ahead (g.R.GivesBytes.remaining c.turns.script))
          (prepend_known c.turn-given.new.lines.ahead (g.R.GivesBytes.remaining c.turn-given.new.script)) (g.W.World.received c.args.world.now)
          (g.W.World.received c.turns.world) (g.W.World.received c.turn-given.new.world) (g.W.World.received c.send.new.world) c.turns._turn
          c.turns.invariant.going c.in-Ok-given.ensures.turned
          (c.answer.ensures.handed ∙ ap (λ (m : Scripted). record m { telling = handed_lines m.telling })
          (c.send.ensures.handed ∙ ap handed_due_of handed)) sends.4;
      read = read_on (g.R.GivesBytes.failures c.turns.script) (g.R.GivesBytes.failures c.turn-given.new.script) c.turn-given.result c.in-Ok-given.next
          c.in-Ok-given.is c.turn-given.ensures.cause ∙ c.turns.invariant.read;
      written = sends_all (g.O.TakesBytes.failures c.turns.output) (g.O.TakesBytes.failures c.answer.new.output) c.answer.result c.if-not-answer.false
          c.answer.ensures.cause ∙ c.turns.invariant.written;
      reported = stays_told (g.P.TakesBytes.failures c.args.report.now) (g.P.TakesBytes.failures c.turns.report)
          (g.P.TakesBytes.failures c.inspect.new.report) c.turns.is_told c.in-Ok.told c.turns.invariant.reported c.in-Ok.ensures.cause;
    }

pub returns-in-Err-given-clause-cause : goal.returns-in-Err-given-clause-cause
returns-in-Err-given-clause-cause g c =
    subst (WorksUpTo (failures_of (g.R.GivesBytes.failures c.args.script.now) (g.O.TakesBytes.failures c.args.output.now)
    (g.P.TakesBytes.failures c.args.report.now)) (failures_of (g.R.GivesBytes.failures c.turn-given.new.script)
    (g.O.TakesBytes.failures c.turns.output) (g.P.TakesBytes.failures c.inspect.new.report)) c.args.machine.now c.send.new.machine)
    (sym (ap (λ (f : Finish). f.ended) c.finished-in-Err-given.ensures))
    (works_read (g.R.GivesBytes.failures c.args.script.now) (g.R.GivesBytes.failures c.turns.script)
    (g.R.GivesBytes.failures c.turn-given.new.script) (g.O.TakesBytes.failures c.args.output.now) (g.O.TakesBytes.failures c.turns.output)
    (g.P.TakesBytes.failures c.args.report.now) (g.P.TakesBytes.failures c.inspect.new.report) c.args.machine.now c.send.new.machine
    c.in-Err-given.why c.turns.invariant.read c.turns.invariant.written
    (stops_by (g.R.GivesBytes.failures c.turns.script) (g.R.GivesBytes.failures c.turn-given.new.script) c.turn-given.result c.in-Err-given.why
    c.in-Err-given.is c.turn-given.ensures.cause))

pub returns-in-Err-given-clause-written : goal.returns-in-Err-given-clause-written
returns-in-Err-given-clause-written g c =
    reports_by (g.P.TakesBytes.failures c.args.report.now) (g.P.TakesBytes.failures c.inspect.new.report) c.in-Ok.told c.in-Err-given.why _
    c.finished-in-Err-given.ensures
    (stays_told (g.P.TakesBytes.failures c.args.report.now) (g.P.TakesBytes.failures c.turns.report) (g.P.TakesBytes.failures c.inspect.new.report)
    c.turns.is_told c.in-Ok.told c.turns.invariant.reported c.in-Ok.ensures.cause)

pub returns-in-Err-given-clause-ran : goal.returns-in-Err-given-clause-ran
returns-in-Err-given-clause-ran g c =
    λ over. let at = c.in-Err-given.is ∙ ap Err (sym (ap (λ (f : Finish). f.ended) c.finished-in-Err-given.ensures) ∙ over) in
    ran_so c.args.machine.now c.turns.machine c.send.new.machine c.turns.wants
    (prepend_known c.args.lines.now.ahead (g.R.GivesBytes.remaining c.args.script.now))
    (prepend_known c.turns.lines.ahead (g.R.GivesBytes.remaining c.turns.script)) (g.W.World.received c.args.world.now)
    (g.W.World.received c.turns.world) (g.W.World.received c.send.new.world) c.turns.invariant.going.0 (c.turn-given.ensures.ended at)
    (c.send.ensures.handed ∙ ap handed_due_of c.in-Ok.ensures.machine ∙ ap handed_desk (c.turn-given.ensures.same at))
    (c.send.ensures.sends.4 ∙ c.turn-given.ensures.silent at)

pub returns-clause-told : goal.returns-clause-told
returns-clause-told g c =
    told_front c.args.machine.now c.turns.machine c.turns.machine (g.O.TakesBytes.contents c.args.output.now) (g.O.TakesBytes.contents c.turns.output)
    c.turns.invariant.told refl

pub returns-then-not-answer-clause-cause : goal.returns-then-not-answer-clause-cause
returns-then-not-answer-clause-cause g c =
    let old = failures_of (g.R.GivesBytes.failures c.args.script.now) (g.O.TakesBytes.failures c.args.output.now)
    (g.P.TakesBytes.failures c.args.report.now) in
    let new = failures_of (g.R.GivesBytes.failures c.turn-given.new.script) (g.O.TakesBytes.failures c.answer.new.output)
    (g.P.TakesBytes.failures c.inspect.new.report) in
    subst (WorksUpTo old new c.args.machine.now c.answer.new.machine) (sym (ap (λ (f : Finish). f.ended) c.finished-then-not-answer.ensures))
    (works_unwritten old new c.args.machine.now c.answer.new.machine (g.O.TakesBytes.failures c.turns.output) c.answer.result c.if-not-answer.true
    c.answer.ensures.cause c.turns.invariant.written)

pub returns-then-not-answer-clause-written : goal.returns-then-not-answer-clause-written
returns-then-not-answer-clause-written g c =
    reports_by (g.P.TakesBytes.failures c.args.report.now) (g.P.TakesBytes.failures c.inspect.new.report) c.in-Ok.told Failed _
    c.finished-then-not-answer.ensures
    (stays_told (g.P.TakesBytes.failures c.args.report.now) (g.P.TakesBytes.failures c.turns.report) (g.P.TakesBytes.failures c.inspect.new.report)
    c.turns.is_told c.in-Ok.told c.turns.invariant.reported c.in-Ok.ensures.cause)

pub returns-clause-cause : goal.returns-clause-cause
returns-clause-cause g c =
    let old = failures_of (g.R.GivesBytes.failures c.args.script.now) (g.O.TakesBytes.failures c.args.output.now)
    (g.P.TakesBytes.failures c.args.report.now) in
    let new = failures_of (g.R.GivesBytes.failures c.turns.script) (g.O.TakesBytes.failures c.turns.output) (g.P.TakesBytes.failures c.turns.report) in
    subst (WorksUpTo old new c.args.machine.now c.turns.machine) (sym (ap (λ (f : Finish). f.ended) c.finished-2.ensures))
    (works_long old new c.args.machine.now c.turns.machine c.turns.wants
    (prepend_known c.args.lines.now.ahead (g.R.GivesBytes.remaining c.args.script.now))
    (prepend_known c.turns.lines.ahead (g.R.GivesBytes.remaining c.turns.script)) (g.W.World.received c.args.world.now)
    (g.W.World.received c.turns.world) c.turns._turn c.turns.invariant.going (omega (arith, c.turns-test.false, c.turns.auto._turn-end)))

pub returns-clause-written : goal.returns-clause-written
returns-clause-written g c =
    reports_by (g.P.TakesBytes.failures c.args.report.now) (g.P.TakesBytes.failures c.turns.report) c.turns.is_told Failed _ c.finished-2.ensures
    c.turns.invariant.reported
