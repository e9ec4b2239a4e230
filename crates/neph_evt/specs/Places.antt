-- The finite map that the places stand for: so many for each domain, by port number.
use Rattle.std.specs.Prelude.{◌/◌, ◌%◌, ℕ, suc, false, List, [], ◌∷◌, Option, Some, None}
use Rattle.std.specs.FinMap as map
use Rattle.neph_evt.specs.declared.sizes.TheConstants.{NUMBERS}
use Rattle.neph_evt.specs.declared.port.Channel.{Channel}
use Rattle.neph_evt.specs.declared.port.EventPort.{EventPort}
use Rattle.neph_evt.specs.declared.table.Place.{Place}
use Rattle.neph_evt.specs.PortMap.{PortMap, Entries, with_entry}

-- the open port in a place
abbrev pub port_in : Place → Option EventPort
port_in place = by place.channel where
  by : Option Channel → Option EventPort
  by None = None
  by (Some channel) = Some (record { channel = channel; pending = place.pending })

-- the place for a port
abbrev pub place_for : Option EventPort → Place
place_for None = record { channel = None; pending = false }
place_for (Some port) = record { channel = Some port.channel; pending = port.pending }

-- the domain and the number of a place
abbrev pub port_of_place : ℕ → ℕ × ℕ
port_of_place at = (at / NUMBERS, at % NUMBERS)

-- the open ports in these places, the first of which is the place `at`
abbrev pub entries_from : ℕ → List Place → Entries
entries_from at [] = []
entries_from at (place ∷ places) =
    with_entry (port_of_place at) (port_in place) (entries_from (suc at) places)

-- the map of the places
abbrev pub map_of : List Place → PortMap
map_of places = map.from_entries (entries_from 0 places)
