-- Keys one after the other.
use Rattle.std.specs.Prelude.{◌≡◌, Bool, true, false, not, ◌&&◌, List, [], ◌∷◌}
use Rattle.ds_screen.specs.Picture.{Picture}
use Rattle.ds_keys.specs.declared.key.Key.{Key}
use Rattle.ds_keys.specs.declared.pressed.Pressed.{Pressed}
use Rattle.ds_keys.specs.declared.pressed.Pressed.TheVariants.{Done, Inhibited, Ignored, Sent}
use Rattle.ds_keys.specs.KeyStep.{step_of}

abbrev pub after_key : Picture → Key → Picture
after_key v key = (step_of v key).after

abbrev pub answer_of : Picture → Key → Pressed
answer_of v key = (step_of v key).pressed

-- the picture that a list of keys leaves
unfoldable pub after : Picture → List Key → Picture
after v [] = v
after v (key ∷ keys) = after (after_key v key) keys

-- the answers along the way
unfoldable pub answers : Picture → List Key → List Pressed
answers v [] = []
answers v (key ∷ keys) = answer_of v key ∷ answers (after_key v key) keys

-- an accepted key was done or sent
abbrev pub is_accepted : Pressed → Bool
is_accepted Done = true
is_accepted (Sent aid) = true
is_accepted Inhibited = false
is_accepted Ignored = false

abbrev pub is_sent : Pressed → Bool
is_sent (Sent aid) = true
is_sent Done = false
is_sent Inhibited = false
is_sent Ignored = false

-- all keys of a list are accepted
unfoldable pub are_accepted : Picture → List Key → Bool
are_accepted v [] = true
are_accepted v (key ∷ keys) = is_accepted (answer_of v key) && are_accepted (after_key v key) keys

-- none of the keys of a list sends
unfoldable pub is_quiet : Picture → List Key → Bool
is_quiet v [] = true
is_quiet v (key ∷ keys) = not (is_sent (answer_of v key)) && is_quiet (after_key v key) keys

abbrev pub IsAccepted : Picture → Key → Type 0
IsAccepted v key = is_accepted (answer_of v key) ≡ true

abbrev pub IsQuiet : Picture → List Key → Type 0
IsQuiet v keys = is_quiet v keys ≡ true
