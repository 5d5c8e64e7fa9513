use Rattle.script_screens.proofs.Codes.{characters_have_codes, codes_have_characters, printed_are_characters}
use Rattle.script_screens.proofs.law.codes_law.Goals as goal

pub returns-clause-coded : goal.returns-clause-coded
returns-clause-coded c = characters_have_codes

pub returns-clause-read : goal.returns-clause-read
returns-clause-read c = codes_have_characters

pub returns-clause-printed : goal.returns-clause-printed
returns-clause-printed c = printed_are_characters
