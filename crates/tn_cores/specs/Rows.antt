-- The words of both ends' tables.
use Rattle.std.specs.Prelude.{Bool, true, false, ◌&&◌, ◌||◌, not, List, [], Result, Ok, Err}
use Rattle.tn_wire.specs.Telnet.{Token}
use Rattle.tn_cores.specs.declared.option.TelnetOption.{TelnetOption}
use Rattle.tn_cores.specs.declared.option.Sides.{Sides}
use Rattle.tn_cores.specs.declared.heard.FunctionList.{FunctionList}
use Rattle.tn_cores.specs.declared.session.SessionFault.{SessionFault}
use Rattle.tn_cores.specs.declared.session.SessionFault.TheVariants.{OptionRefused}
use Rattle.tn_cores.specs.Options.{option_code}

-- what a core says and is after an event, or why it refuses
abbrev pub Row : Type 0 → Type 0
Row Core = Result (List Token × Core) SessionFault

abbrev pub says : {Core : Type 0} → List Token → Core → Row Core
says reply core = Ok (reply, core)

-- nothing is said, and the core stays as it is
abbrev pub stays : {Core : Type 0} → Core → Row Core
stays core = Ok ([], core)

-- the option is in force already, or it is now and is answered
abbrev pub once : {Core : Type 0} → Bool → List Token → Core → Core → Row Core
once true reply core next = stays core
once false reply core next = says reply next

-- in force on neither side
abbrev pub neither : Sides
neither = record { ours = false; theirs = false }

abbrev pub ours_on : Sides → Sides
ours_on sides = record sides { ours = true }

abbrev pub theirs_on : Sides → Sides
theirs_on sides = record sides { theirs = true }

abbrev pub are_both : Sides → Bool
are_both sides = sides.ours && sides.theirs

-- the refusal of an option in force
abbrev pub unless_on : {Core : Type 0} → Bool → TelnetOption → Core → Row Core
unless_on true option core = Err (OptionRefused (option_code option))
unless_on false option core = stays core

-- the list is this set
abbrev pub is_set : FunctionList → Bool → Bool
is_set list true = not list.others && list.responses
is_set list false = not list.others && not list.responses

-- each function of the list is supported
abbrev pub is_within : FunctionList → Bool → Bool
is_within list supported = not list.others && (not list.responses || supported)
