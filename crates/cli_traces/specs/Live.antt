-- What is printed of a session whose pieces come one after the other.
use Rattle.std.specs.Prelude.{ℕ, ◌≡◌, Bool, true, false, List, [], if◌then◌else◌}
use Rattle.tn_traces.specs.declared.line.Side.{Side}
use Rattle.cli_traces.specs.declared.asked.Asked.{Asked}
use Rattle.cli_traces.specs.Following.{Following, Course, goes, stops, beginning, AddsBytes}

-- what is asked for, the number that comments name, what is known of the session, and whether a fault of it was told
pub record Followed : Type 0 where
  pub asked : Asked
  pub number : ℕ
  pub following : Following
  pub is_over : Bool

abbrev pub followed_first : Asked → ℕ → Followed
followed_first asked number = record { asked = asked; number = number; following = beginning; is_over = false }

abbrev pub course_of : Bool → Following → Course
course_of true following = stops
course_of false following = goes following

-- a piece of what a side sent adds the text that it adds as a line of a trace; nothing after a fault
abbrev pub FollowsBy : Bool → Followed → Side → List ℕ → List ℕ → Followed → Type 0
FollowsBy true old side piece text new = (text ≡ []) × (new ≡ old)
FollowsBy false old side piece text new =
    AddsBytes old.asked old.number side old.following piece text (course_of new.is_over new.following)
    × (new.asked ≡ old.asked) × (new.number ≡ old.number)

abbrev pub Follows : Followed → Side → List ℕ → List ℕ → Followed → Type 0
Follows old side piece text new = FollowsBy old.is_over old side piece text new
