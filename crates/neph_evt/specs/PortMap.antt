-- The event ports of all domains as one finite map. A closed port isn't there.
use Rattle.std.specs.Prelude.{◌≡◌, ◌≤◌, ◌&&◌, ◌==◌, ℕ, Bool, false, List, [], ◌∷◌, Option, Some, None, option_map}
use Rattle.std.specs.Ordering.{nat_cmp, on, then_cmp}
use Rattle.std.specs.declared.cmp.Ordering.{Ordering}
use Rattle.std.specs.FinMap as map
use Rattle.neph_base.specs.declared.sizes.TheConstants.{IDS}
use Rattle.neph_evt.specs.declared.sizes.TheConstants.{NUMBERS}
use Rattle.neph_evt.specs.declared.port.Channel.{Channel}
use Rattle.neph_evt.specs.declared.port.Channel.TheVariants.{Unbound, Inter, Wild}
use Rattle.neph_evt.specs.declared.port.EventPort.{EventPort}

-- the order of ports: by domain, and then by number
abbrev pub port_cmp : (ℕ × ℕ) → (ℕ × ℕ) → Ordering
port_cmp = then_cmp (on (λ k. k.0) nat_cmp) (on (λ k. k.1) nat_cmp)

-- a finite map from a domain and a port number to the open port there
abbrev pub PortMap : Type 0
PortMap = map.FinMap port_cmp EventPort

-- entries of such a map
abbrev pub Entries : Type 0
Entries = List ((ℕ × ℕ) × EventPort)

-- the map with this at a domain's port
abbrev pub with_slot : PortMap → ℕ → ℕ → Option EventPort → PortMap
with_slot m dom number None = map.remove m (dom, number)
with_slot m dom number (Some port) = map.insert m (dom, number) port

-- the map with a domain's port changed, if it is open
abbrev pub with_port : PortMap → ℕ → ℕ → (EventPort → EventPort) → PortMap
with_port m dom number f = with_slot m dom number (option_map f (map.get m (dom, number)))

-- the entries with one more in front, if there is a port
abbrev pub with_entry : ℕ × ℕ → Option EventPort → Entries → Entries
with_entry key None entries = entries
with_entry key (Some port) entries = (key, port) ∷ entries

-- the entries with each port changed, by its domain
abbrev pub entries_with_each : (ℕ → EventPort → EventPort) → Entries → Entries
entries_with_each f [] = []
entries_with_each f (e ∷ es) = (e.0, f e.0.0 e.1) ∷ entries_with_each f es

-- the map with each open port changed, by its domain
unfoldable pub with_each_port : (ℕ → EventPort → EventPort) → PortMap → PortMap
with_each_port f m = map.from_entries (entries_with_each f (map.entries m))

-- whether a port is bound to this domain's port of this number
abbrev pub is_bound_to : ℕ → ℕ → EventPort → Bool
is_bound_to dom number port = by port.channel where
  by : Channel → Bool
  by (Inter d n) = d == dom && n == number
  by (Unbound who) = false
  by Wild = false

-- a port that is bound to this domain's port of this number, and at which no event waits
abbrev pub bound_port : ℕ → ℕ → EventPort
bound_port dom number = record { channel = Inter dom number; pending = false }

-- all open ports have a domain below 64 and a number below 256
pub record IsWithin (m : PortMap) : Type 0 where
  pub domains : (dom number : ℕ) → IDS ≤ dom → map.get m (dom, number) ≡ None
  pub numbers : (dom number : ℕ) → NUMBERS ≤ number → map.get m (dom, number) ≡ None
