-- An address, as the program holds it.
use Rattle.std.specs.Prelude.{Result, Ok, Err}
use Rattle.script_requests.specs.declared.address.Address as found
use Rattle.script_requests.specs.declared.address.AddressFault.{AddressFault}
use Rattle.script_requests.specs.Addresses.{Address, address}

abbrev pub address_seen : Result found.Address AddressFault → Result Address AddressFault
address_seen (Ok it) = Ok (address it.lu_name.now it.host.now it.port)
address_seen (Err why) = Err why
