-- How ports are opened, and bound to each other.
use Rattle.std.specs.Prelude.{◌≡◌, ◌==◌, ℕ, Bool, false, Option, Some, None, Result, Ok, Err, find, is_none, is_some, if◌then◌else◌}
use Rattle.std.specs.List.{range_with_len}
use Rattle.std.specs.FinMap as map
use Rattle.neph_base.specs.declared.command.Who.{Who}
use Rattle.neph_base.specs.declared.command.Who.TheVariants.{Dom, Child}
use Rattle.neph_evt.specs.declared.port.Channel.{Channel}
use Rattle.neph_evt.specs.declared.port.Channel.TheVariants.{Unbound, Inter, Wild}
use Rattle.neph_evt.specs.declared.port.EventPort.{EventPort}
use Rattle.neph_evt.specs.declared.port.BindRefused.{BindRefused}
use Rattle.neph_evt.specs.declared.port.BindRefused.TheVariants.{NoPort, NotYours, Full}
use Rattle.neph_evt.specs.PortMap.{PortMap, with_port, bound_port}
use Rattle.neph_evt.specs.Pairing.{channel_at}

-- whether a port is closed
abbrev pub is_closed : PortMap → ℕ → ℕ → Bool
is_closed m dom number = is_none (map.get m (dom, number))

-- whether a port is open
abbrev pub is_open : PortMap → ℕ → ℕ → Bool
is_open m dom number = is_some (map.get m (dom, number))

-- all ports of a domain are closed
abbrev pub AllClosed : PortMap → ℕ → Type 0
AllClosed m dom = (number : ℕ) → map.get m (dom, number) ≡ None

-- the least closed port of a domain, of the numbers 1 to 63
unfoldable pub least_closed : PortMap → ℕ → Option ℕ
least_closed m dom = find (is_closed m dom) (range_with_len 1 63)

-- a new port for this domain, or for each child
abbrev pub new_port : Who → EventPort
new_port (Dom dom) = record { channel = Unbound dom; pending = false }
new_port Child = record { channel = Wild; pending = false }

-- the ports after a domain's closed port was opened
abbrev pub after_alloc : PortMap → ℕ → ℕ → Who → PortMap
after_alloc m dom number who = map.insert m (dom, number) (new_port who)

-- a domain's own port, if it has one left
abbrev pub own_or_full : Option ℕ → Result ℕ BindRefused
own_or_full None = Err Full
own_or_full (Some own) = Ok own

-- what a domain is answered that binds to such a port: the first refusal, or its own port
abbrev pub answer_at : PortMap → ℕ → Option Channel → Result ℕ BindRefused
answer_at m me (Some (Unbound who)) =
    if who == me then own_or_full (least_closed m me) else Err NotYours
answer_at m me (Some (Inter dom number)) = Err NoPort
answer_at m me (Some Wild) = Err NoPort
answer_at m me None = Err NoPort

-- what a domain is answered that binds to a port
abbrev pub bind_answer : PortMap → ℕ → ℕ → ℕ → Result ℕ BindRefused
bind_answer m me dom number = answer_at m me (channel_at m dom number)

-- a port that is bound to this one, and waits as before
abbrev pub port_bound_to : ℕ → ℕ → EventPort → EventPort
port_bound_to dom number port = record port { channel = Inter dom number }

-- a domain's own new port and another's port are bound to each other
abbrev pub after_bind : PortMap → ℕ → ℕ → ℕ → ℕ → PortMap
after_bind m me own dom number =
    map.insert (with_port m dom number (port_bound_to me own)) (me, own) (bound_port dom number)
