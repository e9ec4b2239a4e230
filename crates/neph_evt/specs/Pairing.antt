-- Whose port is bound to whose.
use Rattle.std.specs.Prelude.{◌≡◌, ℕ, Option, Some, None}
use Rattle.std.specs.FinMap as map
use Rattle.neph_evt.specs.declared.port.Channel.{Channel}
use Rattle.neph_evt.specs.declared.port.Channel.TheVariants.{Unbound, Inter, Wild}
use Rattle.neph_evt.specs.declared.port.EventPort.{EventPort}
use Rattle.neph_evt.specs.PortMap.{PortMap}

-- what a port is, `None` where it is closed
abbrev pub channel_of : Option EventPort → Option Channel
channel_of None = None
channel_of (Some port) = Some port.channel

-- what stands at a domain's port
abbrev pub channel_at : PortMap → ℕ → ℕ → Option Channel
channel_at m dom number = channel_of (map.get m (dom, number))

-- the other end of a bound port is bound back to it, or a wildcard of the same number
abbrev pub IsOtherEnd : ℕ → ℕ → ℕ → Option Channel → Type 0
IsOtherEnd dom number other (Some (Inter d n)) = (d ≡ dom) × (n ≡ number)
IsOtherEnd dom number other (Some Wild) = other ≡ number
IsOtherEnd dom number other (Some (Unbound who)) = ⊥
IsOtherEnd dom number other None = ⊥

-- each bound port has its other end
abbrev pub IsPaired : PortMap → Type 0
IsPaired m =
    (dom number d n : ℕ) → channel_at m dom number ≡ Some (Inter d n)
    → IsOtherEnd dom number n (channel_at m d n)
