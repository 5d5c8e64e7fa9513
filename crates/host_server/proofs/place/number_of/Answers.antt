use Rattle.std.proofs.Common.{List, ℕ, ap, ◌∙◌}
use Rattle.std.specs.declared.net.ipv6_addr.Ipv6Addr.{Ipv6Addr}
use Rattle.std.specs.Net.Addr.{ipv6_bits}
use Rattle.host_server.proofs.place.number_of.Goals as goal

abbrev of_segments : List ℕ → Ipv6Addr
of_segments segments = record { segments = segments }

pub returns-in-V4 : goal.returns-in-V4
returns-in-V4 c = rw (← c.ip.ensures, c.in-V4.is) (c.to_bits.ensures ∙ ap (λ segments. ipv6_bits (of_segments segments)) c.to_ipv6_mapped.ensures)
