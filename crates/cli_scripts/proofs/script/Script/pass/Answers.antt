use Rattle.std.proofs.Common.{Bool, refl, sym, ap, ◌∙◌, subst, arith}
use Rattle.std.specs.Prelude.{IfSome}
use Rattle.std.specs.Io.KnownBytes.{prepend_known}
use Rattle.cli_commands.specs.NextLine.{ReadsSome}
use Rattle.cli_scripts.specs.Runs.{has_end}
use Rattle.cli_scripts.proofs.LongLines.{passed_ended, passed_many, passed_more, passed_none, passed_over}
use Rattle.cli_scripts.proofs.script.Script.pass.Goals as goal

pub parts-init : goal.parts-init
parts-init g c =
    record {
      cause = refl;
      some = omega (arith, c.requires.long);
      inside = c.requires.inside;
      so = passed_none (prepend_known c.args.self.now.ahead (g.R.GivesBytes.remaining c.args.reader.now)) c.args.self.now.line.items c.requires.long;
    }

pub parts-preserved : goal.parts-preserved
parts-preserved g c =
    let now = prepend_known c.parts.self.ahead (g.R.GivesBytes.remaining c.parts.reader) in
    let left = prepend_known c.next_line.new.ahead (g.R.GivesBytes.remaining c.next_line.new.reader) in
    let read = c.in_ok-next_line.ensures in
    record {
      cause = read.cause ∙ c.parts.invariant.cause;
      some = read.some c.if-not-branch.false;
      inside = read.inside;
      so = passed_more (prepend_known c.args.self.now.ahead (g.R.GivesBytes.remaining c.args.reader.now)) now left c.args.self.now.line.items
          c.parts.self.line.items c.next_line.new.line.items c.parts._part c.parts.invariant.some
          (ap has_end (sym c.deref.ensures.value) ∙ sym c.has_end.ensures ∙ c.if-has_end.false) c.parts.invariant.inside c.parts.invariant.so
          (subst (λ (b : Bool). IfSome now (λ bytes. ReadsSome bytes b c.next_line.new.line.items left)) c.if-not-branch.false read.front) read.ends;
    }

pub returns-then-has_end-clause-passed : goal.returns-then-has_end-clause-passed
returns-then-has_end-clause-passed g c =
    passed_ended (prepend_known c.args.self.now.ahead (g.R.GivesBytes.remaining c.args.reader.now))
    (prepend_known c.parts.self.ahead (g.R.GivesBytes.remaining c.parts.reader)) c.args.self.now.line.items c.parts.self.line.items c.parts._part
    c.requires.long c.parts.invariant.some (ap has_end (sym c.deref.ensures.value) ∙ sym c.has_end.ensures ∙ c.if-has_end.true)
    c.parts.invariant.inside c.parts.invariant.so

pub returns-then-not-branch-clause-passed : goal.returns-then-not-branch-clause-passed
returns-then-not-branch-clause-passed g c =
    let now = prepend_known c.parts.self.ahead (g.R.GivesBytes.remaining c.parts.reader) in
    let left = prepend_known c.next_line.new.ahead (g.R.GivesBytes.remaining c.next_line.new.reader) in
    let read = c.in_ok-next_line.ensures in
    passed_over (prepend_known c.args.self.now.ahead (g.R.GivesBytes.remaining c.args.reader.now)) now left c.args.self.now.line.items
    c.parts.self.line.items c.next_line.new.line.items c.parts._part c.requires.long c.parts.invariant.some
    (ap has_end (sym c.deref.ensures.value) ∙ sym c.has_end.ensures ∙ c.if-has_end.false) c.parts.invariant.inside
    (read.none c.if-not-branch.true) c.parts.invariant.so
    (subst (λ (b : Bool). IfSome now (λ bytes. ReadsSome bytes b c.next_line.new.line.items left)) c.if-not-branch.true read.front) read.ends

pub returns-clause-passed : goal.returns-clause-passed
returns-clause-passed g c =
    passed_many (prepend_known c.args.self.now.ahead (g.R.GivesBytes.remaining c.args.reader.now))
    (prepend_known c.parts.self.ahead (g.R.GivesBytes.remaining c.parts.reader)) c.args.self.now.line.items c.parts.self.line.items c.parts._part
    c.requires.long (omega (arith, c.parts-test.false)) c.parts.invariant.so
