-- What a port tells.
use Rattle.std.specs.Prelude.{ℕ, Bool, false}
use Rattle.std.specs.Option.{option_map_or}
use Rattle.std.specs.FinMap as map
use Rattle.neph_evt.specs.declared.port.Channel.{Channel}
use Rattle.neph_evt.specs.declared.port.Channel.TheVariants as channel
use Rattle.neph_evt.specs.declared.port.EventPort.{EventPort}
use Rattle.neph_evt.specs.declared.port.PortState.{PortState}
use Rattle.neph_evt.specs.declared.port.PortState.TheVariants as state
use Rattle.neph_evt.specs.PortMap.{PortMap, with_port}
use Rattle.neph_evt.specs.Pairing.{channel_at}

-- the state of an open port
abbrev pub state_of : Channel → PortState
state_of (channel.Unbound who) = state.Unbound who
state_of (channel.Inter dom number) = state.Inter dom number
state_of channel.Wild = state.Wild

-- the state of a port: closed where nothing stands there
abbrev pub state_at : PortMap → ℕ → ℕ → PortState
state_at m dom number = option_map_or state_of (channel_at m dom number) state.Closed

-- whether an event waits at a port; none does at a closed one
abbrev pub is_pending : PortMap → ℕ → ℕ → Bool
is_pending m dom number = option_map_or (λ port. port.pending) (map.get m (dom, number)) false

-- a port at which no event waits any more
abbrev pub without_event : EventPort → EventPort
without_event port = record port { pending = false }

-- the ports after an event was taken from a port
abbrev pub after_take : PortMap → ℕ → ℕ → PortMap
after_take m dom number = with_port m dom number without_event
