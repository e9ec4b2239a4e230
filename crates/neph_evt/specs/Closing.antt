-- How ports are closed.
use Rattle.std.specs.Prelude.{◌==◌, ℕ, Bool, false, not, if◌then◌else◌}
use Rattle.std.specs.FinMap as map
use Rattle.neph_evt.specs.declared.port.Channel.{Channel}
use Rattle.neph_evt.specs.declared.port.Channel.TheVariants.{Unbound, Inter, Wild}
use Rattle.neph_evt.specs.declared.port.EventPort.{EventPort}
use Rattle.neph_evt.specs.PortMap.{PortMap, with_each_port, is_bound_to}

-- a port that was bound to a closed one is unbound for who closed it, and waits as before
abbrev pub port_after_close : ℕ → ℕ → EventPort → EventPort
port_after_close dom number port =
    if is_bound_to dom number port then record port { channel = Unbound dom } else port

-- the ports after a domain closed one
unfoldable pub after_close : PortMap → ℕ → ℕ → PortMap
after_close m dom number =
    with_each_port (λ at. port_after_close dom number) (map.remove m (dom, number))

-- whether a port is bound to one of a domain's
abbrev pub is_bound_to_domain : ℕ → EventPort → Bool
is_bound_to_domain dom port = by port.channel where
  by : Channel → Bool
  by (Inter d n) = d == dom
  by (Unbound who) = false
  by Wild = false

-- a port that was bound to one of an ended domain's is unbound for it, and waits as before
abbrev pub port_after_end : ℕ → EventPort → EventPort
port_after_end dom port =
    if is_bound_to_domain dom port then record port { channel = Unbound dom } else port

-- the ports after a domain's end: all of its own are closed
unfoldable pub after_end : PortMap → ℕ → PortMap
after_end m dom =
    with_each_port (λ at. port_after_end dom) (map.retain_keys m (λ key. not (key.0 == dom)))
