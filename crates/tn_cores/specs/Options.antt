-- The codes of Telnet options, and of a host's reasons.
use Rattle.std.specs.Prelude.{ℕ, ◌==◌, if◌then◌else◌}
use Rattle.tn_cores.specs.declared.option.TelnetOption.{TelnetOption}
use Rattle.tn_cores.specs.declared.option.TelnetOption.TheVariants.{Binary, TerminalType, EndOfRecord, Tn3270e, Other}
use Rattle.tn_cores.specs.declared.option.Reason.{Reason}
use Rattle.tn_cores.specs.declared.option.Reason.TheVariants.{InvalidName, InvalidDeviceType, UnsupportedRequest}

abbrev pub option_code : TelnetOption → ℕ
option_code Binary = 0
option_code TerminalType = 24
option_code EndOfRecord = 25
option_code Tn3270e = 40
option_code (Other code) = code

abbrev pub option_of : ℕ → TelnetOption
option_of code =
    if code == 0 then Binary
    else (if code == 24 then TerminalType else (if code == 25 then EndOfRecord else (if code == 40 then Tn3270e else Other code)))

abbrev pub reason_code : Reason → ℕ
reason_code InvalidName = 3
reason_code InvalidDeviceType = 4
reason_code UnsupportedRequest = 7
