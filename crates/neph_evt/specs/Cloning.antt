-- The ports of a starting domain and of a child.
use Rattle.std.specs.Prelude.{◌≡◌, ◌≤◌, ◌==◌, ℕ, false, [], ◌∷◌, ◌++◌, Option, Some, None, if◌then◌else◌}
use Rattle.std.specs.FinMap as map
use Rattle.neph_evt.specs.declared.port.Channel.{Channel}
use Rattle.neph_evt.specs.declared.port.Channel.TheVariants.{Unbound, Inter, Wild}
use Rattle.neph_evt.specs.declared.port.EventPort.{EventPort}
use Rattle.neph_evt.specs.declared.device.TheConstants.{CONSOLE, NETWORK, P9}
use Rattle.neph_evt.specs.PortMap.{PortMap, Entries, with_entry, bound_port}
use Rattle.neph_evt.specs.Pairing.{channel_at}
use Rattle.neph_evt.specs.Opening.{AllClosed}
use Rattle.neph_evt.specs.Closing.{after_close, after_end}
use Rattle.neph_evt.specs.Sending.{zero_port}

-- What a child has where its parent has such a port: for an unbound one the same, for a wildcard a
-- port that is bound to it, and for any other a closed one. No event waits.
abbrev pub port_of_child : ℕ → ℕ → Channel → Option EventPort
port_of_child parent number (Unbound who) = Some (record { channel = Unbound who; pending = false })
port_of_child parent number Wild = Some (bound_port parent number)
port_of_child parent number (Inter dom n) = None

-- the child's entries, one for each of the parent's that it has a port for
abbrev pub child_entries : ℕ → ℕ → Entries → Entries
child_entries parent child [] = []
child_entries parent child (e ∷ es) =
    let rest = child_entries parent child es in
    if e.0.0 == parent then with_entry (child, e.0.1) (port_of_child parent e.0.1 e.1.channel) rest
    else rest

-- the map with the child's ports beside all others
unfoldable pub with_child : ℕ → ℕ → PortMap → PortMap
with_child parent child m =
    map.from_entries (child_entries parent child (map.entries m) ++ map.entries m)

-- the ports after a clone's commit; a child that had ports gives them up first
abbrev pub after_clone : PortMap → ℕ → ℕ → PortMap
after_clone m parent child = with_child parent child (after_end m child)

-- the map with two ports that are bound to each other, and at which no event waits
abbrev pub with_link : PortMap → ℕ → ℕ → ℕ → ℕ → PortMap
with_link m a p b q =
    map.insert (map.insert m (a, p) (bound_port b q)) (b, q) (bound_port a p)

-- the same, where what stood at the two ports is closed first
unfoldable pub with_pair : PortMap → ℕ → ℕ → ℕ → ℕ → PortMap
with_pair m a p b q = with_link (after_close (after_close m a p) b q) a p b q

-- a starting domain's port for a device is bound to Dom0's port for it
abbrev pub with_device : ℕ → ℕ → PortMap → PortMap
with_device dom kind m = with_pair m dom kind 0 (zero_port dom kind)

-- whether a domain's ports, and Dom0's ports for its devices, are closed
pub record IsFresh (m : PortMap) (dom : ℕ) : Type 0 where
  pub own : AllClosed m dom
  pub zero : (kind : ℕ) → CONSOLE ≤ kind → kind ≤ P9 → map.get m (0, zero_port dom kind) ≡ None

-- the three links of a domain that starts fresh
abbrev pub with_links : ℕ → PortMap → PortMap
with_links dom m =
    let console = with_link m dom CONSOLE 0 (zero_port dom CONSOLE) in
    let network = with_link console dom NETWORK 0 (zero_port dom NETWORK) in
    with_link network dom P9 0 (zero_port dom P9)

-- the ports after a domain's start: those of console, network and 9P
abbrev pub after_start : PortMap → ℕ → PortMap
after_start m dom =
    with_device dom P9 (with_device dom NETWORK (with_device dom CONSOLE m))

-- the child's port of the number that the parent's has, and Dom0's port for the child's device
abbrev pub device_of_child : ℕ → ℕ → ℕ → PortMap → Option Channel → PortMap
device_of_child parent child kind m (Some (Inter dom number)) =
    if dom == parent then with_pair m child number 0 (zero_port child kind) else m
device_of_child parent child kind m (Some (Unbound who)) = m
device_of_child parent child kind m (Some Wild) = m
device_of_child parent child kind m None = m

-- Where Dom0's port for the parent's device is bound to a port of the parent, the child's port of
-- the same number and Dom0's port for the child's device are bound to each other.
abbrev pub with_device_of : ℕ → ℕ → ℕ → PortMap → PortMap
with_device_of parent child kind m =
    device_of_child parent child kind m (channel_at m 0 (zero_port parent kind))

-- the ports after the second stage of a clone
abbrev pub after_bind_zero : PortMap → ℕ → ℕ → PortMap
after_bind_zero m parent child =
    let console = with_device_of parent child CONSOLE m in
    let network = with_device_of parent child NETWORK console in
    with_device_of parent child P9 network
