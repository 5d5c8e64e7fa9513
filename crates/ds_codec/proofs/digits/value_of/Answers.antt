use Rattle.ds_codec.proofs.DigitValues.{IsValue, value_is}
use Rattle.hex.specs.Hex.{hex_digit_value}
use Rattle.ds_codec.proofs.digits.value_of.Goals as goal

is_value : (c : goal.After-min) → IsValue (hex_digit_value c.args.digit) c.min.result
is_value c = rw (c.min.ensures, c.saturating_sub-number.ensures, c.saturating_add-letter.ensures) (value_is c.args.digit c.ranges.digit.fits)

pub returns-clause-some : goal.returns-clause-some
returns-clause-some c = (is_value c).0

pub returns-clause-none : goal.returns-clause-none
returns-clause-none c = (is_value c).1
