-- What a suite checks, and what is accepted of it, without where the texts lie in memory.
use Rattle.std.specs.Prelude.{ℕ, List}
use Rattle.cli_suites.specs.declared.job.Kind.{Kind}

-- a screen, a dialogue or a source of maps, with the paths of its files
pub record Asked : Type 0 where
  pub kind : Kind
  pub name : List ℕ
  pub records : List ℕ
  pub layouts : List (List ℕ)

-- a finding of a screen that is known
pub record Known : Type 0 where
  pub screen : List ℕ
  pub finding : List ℕ
  pub reason : List ℕ
