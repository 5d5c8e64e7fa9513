use Rattle.std.proofs.Common.{◌≡◌, ◌++◌, ℕ, Bool, true, false, List, sym, subst, is_ok, if◌then◌else◌}
use Rattle.cli_scripts.specs.Answers.{AreData}
use Rattle.cli_scripts.proofs.DataLines.{more_data}
use Rattle.cli_scripts.proofs.answer.Saying.add.Goals as goal

after : (old text new : List ℕ) (done : Bool) → AreData old → AreData text → new ≡ (if done then old ++ text else old) → AreData new
after old text new true was adds is = subst AreData (sym is) (more_data old text was adds)
after old text new false was adds is = subst AreData (sym is) was

pub invariant_of-self : goal.invariant_of-self
invariant_of-self c =
    after c.self.inside.lines.items c.args.text.now c.extend_from_slice.new.self.items (is_ok c.extend_from_slice.result) c.self.invariant c.requires
    c.extend_from_slice.ensures.items
