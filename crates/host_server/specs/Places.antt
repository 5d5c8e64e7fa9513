-- Where is listened, and where terminals come from.
use Rattle.std.specs.Prelude.{ℕ, ◌≡◌, List}
use Rattle.std.specs.declared.net.ipv4_addr.Ipv4Addr.{Ipv4Addr}
use Rattle.std.specs.declared.net.ipv6_addr.Ipv6Addr.{Ipv6Addr}
use Rattle.std.specs.declared.net.ip_addr.IpAddr.{IpAddr}
use Rattle.std.specs.declared.net.ip_addr.IpAddr.TheVariants.{V4, V6}
use Rattle.std.specs.declared.net.socket_addr.SocketAddr.{SocketAddr}
use Rattle.std.specs.Net.Addr.{embedded_segments, ipv6_bits}
use Rattle.std.specs.Net.Grammar.{IsIpText}
use Rattle.std.specs.Net.Socket.{socket_ip, socket_port}

-- an address of the port; and of the host, where that is an IP address in text
pub record IsPlace (host : List ℕ) (port : ℕ) (address : SocketAddr) : Type 0 where
  pub port_is : socket_port address ≡ port
  pub spelled : (ip : IpAddr) → IsIpText host ip → IsIpText host (socket_ip address)

-- ::ffff:a.b.c.d
abbrev pub mapped : Ipv4Addr → Ipv6Addr
mapped ip = record { segments = embedded_segments 0xffff ip }

-- the number of an address; one of IPv4 has that of the address of IPv6 that stands for it
abbrev pub number_of : IpAddr → ℕ
number_of (V4 ip) = ipv6_bits (mapped ip)
number_of (V6 ip) = ipv6_bits ip
