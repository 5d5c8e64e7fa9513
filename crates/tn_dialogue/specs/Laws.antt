-- Laws of dialogues.
use Rattle.tn_session.specs.Pieces.{CutsAgree}
use Rattle.tn_dialogue.specs.Dialogue.{Running}

-- how what a session hears is cut doesn't matter
abbrev pub DialoguesAgree : Type 0
DialoguesAgree = CutsAgree Running
