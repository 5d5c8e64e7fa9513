-- What `Wait` waits for, by its arguments.
use Rattle.std.specs.Prelude.{ℕ, ◌+◌, ◌*◌, ◌-◌, ◌==◌, nat_le, Bool, true, false, not, ◌&&◌, ◌||◌, List, [], ◌∷◌, codes, take, drop, slice_index_or, min, Option, Some, None, Result, Ok, Err, if◌then◌else◌}
use Rattle.std.specs.List.{list_all, prefix_len}
use Rattle.std.specs.Str.{str_eq_ignore_ascii_case}
use Rattle.script_keys.specs.Numbers.{number_of}
use Rattle.script_keys.specs.Targets.{natural}
use Rattle.script_requests.specs.declared.wait.Awaited.{Awaited}
use Rattle.script_requests.specs.declared.wait.Awaited.TheVariants.{InputField, NvtMode, Mode3270, Output, Unlock, Disconnect, Seconds}
use Rattle.script_requests.specs.declared.wait.Wait.{Wait}
use Rattle.script_requests.specs.declared.wait.WaitFault.{WaitFault}
use Rattle.script_requests.specs.declared.wait.WaitFault.TheVariants.{Parameter, Arguments}

-- a word, in either case
abbrev pub meant_by : List ℕ → Option Awaited
meant_by word =
    if str_eq_ignore_ascii_case word (codes "inputfield") then Some InputField
    else (if str_eq_ignore_ascii_case word (codes "output") then Some Output
    else (if str_eq_ignore_ascii_case word (codes "unlock") then Some Unlock
    else (if str_eq_ignore_ascii_case word (codes "3270mode") || str_eq_ignore_ascii_case word (codes "3270") then Some Mode3270
    else (if str_eq_ignore_ascii_case word (codes "nvtmode") || str_eq_ignore_ascii_case word (codes "ansi") then Some NvtMode
    else (if str_eq_ignore_ascii_case word (codes "disconnect") then Some Disconnect
    else (if str_eq_ignore_ascii_case word (codes "seconds") then Some Seconds else None))))))

abbrev pub is_digit : ℕ → Bool
is_digit byte = nat_le 0x30 byte && nat_le byte 0x39

abbrev pub digit_value : ℕ → ℕ
digit_value digit = if is_digit digit then digit - 0x30 else 0

-- the digit of a fraction, 0 after its last one
abbrev pub digit_at : List ℕ → ℕ → ℕ
digit_at fraction index = digit_value (slice_index_or fraction index 0x30)

-- without what is less than one
abbrev pub thousandths : List ℕ → ℕ
thousandths fraction = 100 * digit_at fraction 0 + (10 * digit_at fraction 1 + digit_at fraction 2)

-- whole seconds, at most 999,999
abbrev pub whole_of : List ℕ → ℕ
whole_of digits = min (natural (number_of digits)) 999999

-- what is more than nothing is no less than a thousandth
abbrev pub at_least_one : ℕ → List ℕ → ℕ
at_least_one time fraction = if time == 0 then (if list_all (λ digit. digit == 0x30) fraction then 0 else 1) else time

abbrev pub is_empty : List ℕ → Bool
is_empty [] = true
is_empty (byte ∷ bytes) = false

-- digits before and after a point, one at least
abbrev pub with_fraction : List ℕ → List ℕ → Option ℕ
with_fraction whole fraction =
    if (is_empty whole && is_empty fraction) || not (list_all is_digit fraction) then None
    else Some (at_least_one (1000 * whole_of whole + thousandths fraction) fraction)

abbrev pub after_whole : List ℕ → List ℕ → Option ℕ
after_whole whole [] = with_fraction whole []
after_whole whole (byte ∷ fraction) = if byte == 0x2E then with_fraction whole fraction else None

-- a number of seconds, in thousandths
abbrev pub seconds_of : List ℕ → Option ℕ
seconds_of text = after_whole (take (prefix_len is_digit text) text) (drop (prefix_len is_digit text) text)

abbrev pub waits : Awaited → Option ℕ → Wait
waits what limit = record { what = what; limit = limit }

-- `Seconds` wants a number
abbrev pub wait_for : Awaited → Option ℕ → Result Wait WaitFault
wait_for Seconds None = Err Parameter
wait_for what limit = Ok (waits what limit)

abbrev pub waits_or : Option Awaited → Option ℕ → Result Wait WaitFault
waits_or None limit = Err Parameter
waits_or (Some what) limit = wait_for what limit

abbrev pub wait_of : List ℕ → Option ℕ → Result Wait WaitFault
wait_of word limit = waits_or (meant_by word) limit

abbrev pub limited : Option ℕ → List ℕ → Result Wait WaitFault
limited None word = Err Arguments
limited (Some limit) word = wait_of word (Some limit)

abbrev pub with_limit : List ℕ → List ℕ → Result Wait WaitFault
with_limit seconds word = limited (seconds_of seconds) word

-- one argument is a number, or else a word
abbrev pub number_or_word : Option ℕ → List ℕ → Result Wait WaitFault
number_or_word (Some limit) word = Ok (waits InputField (Some limit))
number_or_word None word = wait_of word None

abbrev pub read_wait : List (List ℕ) → Result Wait WaitFault
read_wait [] = Ok (waits InputField None)
read_wait (word ∷ []) = number_or_word (seconds_of word) word
read_wait (seconds ∷ word ∷ []) = with_limit seconds word
read_wait more = Err Arguments

abbrev pub wait_fault_text : WaitFault → List ℕ
wait_fault_text Parameter = codes "Wait(): Parameter must be inputfield, nvtmode, 3270mode, output, seconds, disconnect or unlock"
wait_fault_text Arguments = codes "Too many arguments to Wait ()or invalid timeout value"
