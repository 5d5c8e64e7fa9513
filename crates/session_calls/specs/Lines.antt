-- A session and what is due.
use Rattle.std.specs.Prelude.{ℕ, List}
use Rattle.tn_session.specs.TerminalTalk.{Worked}

-- what is kept of the session, and the bytes that are due to the host
pub record Line : Type 0 where
  pub worked : Worked
  pub due : List ℕ
