-- Worked rows, computed: what s3270 4.1 waits for and connects to, and what it says of arguments that it refuses.
use Rattle.std.proofs.Common.{◌≡◌, [], ◌∷◌, codes, Some, None, Ok, Err, refl}
use Rattle.script_keys.specs.Numbers.{value_from}
use Rattle.script_requests.specs.declared.wait.Awaited.TheVariants.{InputField, Mode3270, Output, Seconds}
use Rattle.script_requests.specs.declared.wait.WaitFault.TheVariants.{Parameter, Arguments}
use Rattle.ds_screen.specs.Ring.{greatest}
use Rattle.script_requests.specs.declared.address.AddressFault.TheVariants.{Empty, Blank, NoHost, NoPort, NoLuName, TwoColons, TwoAts, NoBracket, AfterBracket, BadPort}
use Rattle.script_requests.specs.Waits.{waits, read_wait}
use Rattle.script_requests.specs.Addresses.{address, read_address, address_fault_text}

none : read_wait [] ≡ Ok (waits InputField None)
none = refl

either_case : read_wait (codes "OUTput" ∷ []) ≡ Ok (waits Output None)
either_case = refl

a_number : read_wait (codes "1" ∷ []) ≡ Ok (waits InputField (Some 1000))
unfolding value_from
a_number = refl

both : read_wait (codes "30" ∷ codes "3270" ∷ []) ≡ Ok (waits Mode3270 (Some 30000))
unfolding value_from
both = refl

a_fraction : read_wait (codes "0.25" ∷ codes "Seconds" ∷ []) ≡ Ok (waits Seconds (Some 250))
unfolding value_from
a_fraction = refl

nearly_nothing : read_wait (codes "0.0004" ∷ codes "Output" ∷ []) ≡ Ok (waits Output (Some 1))
unfolding value_from
nearly_nothing = refl

seconds_alone : read_wait (codes "Seconds" ∷ []) ≡ Err Parameter
seconds_alone = refl

below_0 : read_wait (codes "-1" ∷ []) ≡ Err Parameter
below_0 = refl

two_numbers : read_wait (codes "1" ∷ codes "2" ∷ []) ≡ Err Parameter
unfolding value_from
two_numbers = refl

word_first : read_wait (codes "InputField" ∷ codes "1" ∷ []) ≡ Err Arguments
word_first = refl

below_0_first : read_wait (codes "-1" ∷ codes "InputField" ∷ []) ≡ Err Arguments
below_0_first = refl

a_unit : read_wait (codes "1s" ∷ codes "InputField" ∷ []) ≡ Err Arguments
a_unit = refl

three : read_wait (codes "1" ∷ codes "InputField" ∷ codes "2" ∷ []) ≡ Err Arguments
three = refl

host_alone : read_address (codes "h") ≡ Ok (address [] (codes "h") None)
unfolding greatest
host_alone = refl

host_and_port : read_address (codes "h:23") ≡ Ok (address [] (codes "h") (Some 23))
unfolding greatest value_from
host_and_port = refl

lu_name : read_address (codes "LU@h:23") ≡ Ok (address (codes "LU") (codes "h") (Some 23))
unfolding greatest value_from
lu_name = refl

prefix : read_address (codes "N:h:23") ≡ Ok (address [] (codes "h") (Some 23))
unfolding greatest value_from
prefix = refl

brackets : read_address (codes "[::1]:23") ≡ Ok (address [] (codes "::1") (Some 23))
unfolding greatest value_from
brackets = refl

blanks_around : read_address (codes " h:23 ") ≡ Ok (address [] (codes "h") (Some 23))
unfolding greatest value_from
blanks_around = refl

nothing : read_address [] ≡ Err Empty
unfolding greatest
nothing = refl

no_host : read_address (codes ":23") ≡ Err NoHost
unfolding greatest
no_host = refl

colons : read_address (codes "::1") ≡ Err NoHost
unfolding greatest
colons = refl

a_blank : read_address (codes "h 23") ≡ Err Blank
unfolding greatest
a_blank = refl

no_port : read_address (codes "h:") ≡ Err NoPort
unfolding greatest
no_port = refl

two_colons : read_address (codes "Q:h:1") ≡ Err TwoColons
unfolding greatest
two_colons = refl

no_lu_name : read_address (codes "@h") ≡ Err NoLuName
unfolding greatest
no_lu_name = refl

no_host_after : read_address (codes "a@") ≡ Err NoHost
unfolding greatest
no_host_after = refl

no_host_before_port : read_address (codes "a@:1") ≡ Err NoHost
unfolding greatest
no_host_before_port = refl

two_ats : read_address (codes "a@b@h:1") ≡ Err TwoAts
unfolding greatest
two_ats = refl

no_bracket : read_address (codes "[::1") ≡ Err NoBracket
unfolding greatest
no_bracket = refl

after_bracket : read_address (codes "[::1]x") ≡ Err AfterBracket
unfolding greatest
after_bracket = refl

prefix_alone : read_address (codes "N:") ≡ Err NoHost
unfolding greatest
prefix_alone = refl

port_0 : read_address (codes "h:0") ≡ Err BadPort
unfolding greatest value_from
port_0 = refl

port_65536 : read_address (codes "h:65536") ≡ Err BadPort
unfolding greatest value_from
port_65536 = refl

blank_text : address_fault_text (codes "h 23") Blank ≡ codes "Hostname syntax error in 'h 23': contains whitespace"
blank_text = refl

empty_text : address_fault_text [] Empty ≡ codes "Invalid (empty) hostname"
empty_text = refl

no_host_text : address_fault_text (codes ":23") NoHost ≡ codes "Hostname syntax error in ':23': empty hostname"
no_host_text = refl
