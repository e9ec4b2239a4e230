-- How events reach ports.
use Rattle.std.specs.Prelude.{◌==◌, ◌&&◌, ℕ, Bool, true, false, not, Option, Some, None, if◌then◌else◌, ◌+◌, ◌*◌}
use Rattle.neph_evt.specs.declared.port.Channel.{Channel}
use Rattle.neph_evt.specs.declared.port.Channel.TheVariants.{Unbound, Inter, Wild}
use Rattle.neph_evt.specs.declared.port.EventPort.{EventPort}
use Rattle.neph_evt.specs.PortMap.{PortMap, with_port, with_each_port, is_bound_to}
use Rattle.neph_evt.specs.Pairing.{channel_at}

-- a port at which an event waits
abbrev pub with_event : EventPort → EventPort
with_event port = record port { pending = true }

-- whether events can be sent from such a port: it is bound, or a wildcard
abbrev pub is_sender : Option Channel → Bool
is_sender (Some (Inter dom number)) = true
is_sender (Some Wild) = true
is_sender (Some (Unbound who)) = false
is_sender None = false

-- whether events can be sent from a port
abbrev pub can_send : PortMap → ℕ → ℕ → Bool
can_send m dom number = is_sender (channel_at m dom number)

-- an event for a port that is bound to this wildcard; Dom0 gets none
abbrev pub port_after_send : ℕ → ℕ → ℕ → EventPort → EventPort
port_after_send dom number at port =
    if not (at == 0) && is_bound_to dom number port then with_event port else port

-- The ports after a send from a port that is such: its other end has the event, or each port that
-- is bound to a wildcard. Events for Dom0 change nothing.
abbrev pub after_send_on : PortMap → ℕ → ℕ → Option Channel → PortMap
after_send_on m dom number (Some (Inter d n)) = if d == 0 then m else with_port m d n with_event
after_send_on m dom number (Some Wild) = with_each_port (port_after_send dom number) m
after_send_on m dom number (Some (Unbound who)) = m
after_send_on m dom number None = m

-- the ports after a send
abbrev pub after_send : PortMap → ℕ → ℕ → PortMap
after_send m dom number = after_send_on m dom number (channel_at m dom number)

-- Dom0's port for a kind of device of a domain: console 1, network 2, 9P 3
abbrev pub zero_port : ℕ → ℕ → ℕ
zero_port dom kind = 4 * dom + kind

-- an event for a device's port, if it is bound to Dom0's port for that device
abbrev pub port_after_signal : ℕ → ℕ → EventPort → EventPort
port_after_signal dom kind port =
    if is_bound_to 0 (zero_port dom kind) port then with_event port else port

-- the ports after a device was heard
abbrev pub after_signal : PortMap → ℕ → ℕ → PortMap
after_signal m dom kind = with_port m dom kind (port_after_signal dom kind)
