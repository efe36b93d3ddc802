-- A link over TCP, as contracts see it.
use Rattle.std.specs.Prelude.{ℕ, Option, Some, None, ⊤}
use Rattle.std.specs.declared.net.socket_addr.SocketAddr.{SocketAddr}

-- the network, the address that is dialled, the newest connection while it stands, and the calls that failed
pub record TcpState (R S : Type 0) : Type 0 where
  pub network : R
  pub peer : SocketAddr
  pub stream : Option S
  pub faults : ℕ

-- the connection stands or not as it did, and where it stands, this holds of what it was and what it is
abbrev pub OnStream : {S : Type 0} → (S → S → Type 0) → Option S → Option S → Type 0
OnStream P None None = ⊤
OnStream P None (Some new) = ⊥
OnStream P (Some old) None = ⊥
OnStream P (Some old) (Some new) = P old new
