-- What is sent is read again.
use Rattle.std.specs.Prelude.{◌≡◌, Bool, length, Ok}
use Rattle.ds_screen.specs.Picture.{Picture, IsSound}
use Rattle.ds_inbound.specs.Answer.{answer_of, bytes_sent}
use Rattle.ds_inbound.specs.Inbound.{SaysOnly}
use Rattle.ds_inbound.specs.Reading.{read_of}

-- the bytes of a picture's answer say that answer and no other
abbrev pub AnswersSayThemselves : Type 0
AnswersSayThemselves =
    (v : Picture) (all : Bool) → IsSound v → SaysOnly v.geometry.mode (length v.cells) (answer_of v all) (bytes_sent v all)

-- and are read as it
abbrev pub AnswersAreReadAgain : Type 0
AnswersAreReadAgain =
    (v : Picture) (all : Bool) → IsSound v → read_of v.geometry.mode (length v.cells) (bytes_sent v all) ≡ Ok (answer_of v all)
