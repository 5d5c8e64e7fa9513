-- What a record holds: in an enhanced session a header, and data.
use Rattle.std.specs.Prelude.{ℕ, List, Option, Some, None, Result, Ok, Err}
use Rattle.tn_wire.specs.declared.header.Header.{Header}
use Rattle.tn_wire.specs.declared.header.HeaderFault.{HeaderFault}
use Rattle.tn_wire.specs.Header.{Headed, header_of}
use Rattle.tn_traces.specs.declared.negotiated.Negotiated.{Negotiated}
use Rattle.tn_traces.specs.declared.negotiated.Negotiated.TheVariants.{Classic, Named, Enhanced}

pub record Kept : Type 0 where
  pub header : Option Header
  pub body : List ℕ

abbrev pub bare : List ℕ → Kept
bare bytes = record { header = None; body = bytes }

abbrev pub kept_headed : Result Headed HeaderFault → Result Kept HeaderFault
kept_headed (Ok headed) = Ok (record { header = Some headed.header; body = headed.rest })
kept_headed (Err fault) = Err fault

-- the bytes of a record, at this state of the negotiation
abbrev pub kept_of : Negotiated → List ℕ → Result Kept HeaderFault
kept_of Enhanced bytes = kept_headed (header_of bytes)
kept_of Named bytes = Ok (bare bytes)
kept_of Classic bytes = Ok (bare bytes)
