-- Worked rows, computed: what s3270 4.1 takes these actions for, and what it says of those that it refuses.
use Rattle.std.proofs.Common.{◌≡◌, [], ◌∷◌, codes, Some, None, Ok, Err, refl}
use Rattle.ds_keys.specs.declared.key.Key.TheVariants as pressed
use Rattle.script_keys.specs.declared.keys.Keys.TheVariants.{Plain, MoveTo}
use Rattle.script_keys.specs.declared.name.Name.TheVariants as names
use Rattle.script_keys.specs.declared.number.Number.TheVariants.{Negative, Natural}
use Rattle.script_keys.specs.declared.target.Target.TheVariants.{Cell, Position}
use Rattle.script_keys.specs.Numbers.{value_from, number_of}
use Rattle.script_keys.specs.Names.{name_of}
use Rattle.script_keys.specs.Faults.{miscounted, invalid, unknown, fault_text}
use Rattle.script_keys.specs.Actions.{keys, counted_action, named_action}

rest_is_ignored : number_of (codes "3x") ≡ Natural 3
unfolding value_from
rest_is_ignored = refl

no_digit_is_0 : number_of (codes "x") ≡ Natural 0
unfolding value_from
no_digit_is_0 = refl

below_0 : number_of (codes "-1") ≡ Negative
unfolding value_from
below_0 = refl

minus_0 : number_of (codes "-0") ≡ Natural 0
unfolding value_from
minus_0 = refl

either_case : name_of (codes "mOVEcURSOR") ≡ Some names.MoveCursor
unfolding name_of
either_case = refl

no_front : name_of (codes "Quer") ≡ None
unfolding name_of
no_front = refl

pf_7 : counted_action names.Pf (codes "7" ∷ []) ≡ Ok (keys (Plain (pressed.Attention 0xF7)))
unfolding value_from
pf_7 = refl

pf_25 : counted_action names.Pf (codes "25" ∷ []) ≡ Err (invalid names.Pf (codes "25"))
unfolding value_from
pf_25 = refl

row_column : counted_action names.MoveCursor (codes "3" ∷ codes "19" ∷ []) ≡ Ok (keys (MoveTo (Cell 3 19)))
unfolding value_from
row_column = refl

from_1 : counted_action names.MoveCursor1 (codes "4" ∷ codes "20" ∷ []) ≡ Ok (keys (MoveTo (Cell 3 19)))
unfolding value_from
from_1 = refl

position_from_0 : counted_action names.MoveCursor1 (codes "5" ∷ []) ≡ Ok (keys (MoveTo (Position 5)))
unfolding value_from
position_from_0 = refl

tab_of_one : named_action (Some names.Tab) (codes "tab") (codes "x" ∷ []) ≡ Err (miscounted names.Tab)
tab_of_one = refl

tab_text : fault_text (miscounted names.Tab) ≡ codes "Tab() requires 0 arguments"
tab_text = refl

cursor_text : fault_text (miscounted names.MoveCursor) ≡ codes "MoveCursor() requires 1 or 2 arguments"
cursor_text = refl

open_text : fault_text (miscounted names.Open) ≡ codes "Connect() requires 1 argument"
open_text = refl

pf_text : fault_text (invalid names.Pf (codes "0")) ≡ codes "PF(): Invalid argument '0'"
pf_text = refl

foo_text : fault_text (unknown (codes "foo")) ≡ codes "Unknown action: foo"
foo_text = refl
