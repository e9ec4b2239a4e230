-- What the delivery of a packet does to the switch and to the receiver's page.
use Rattle.std.specs.Prelude.{◌≡◌, ◌<◌, ◌≤◌, ◌⊎◌, ℕ, List, None, Some}
use Rattle.std.proofs.Common.{inl, inr}
use Rattle.std.specs.declared.option.Option.{Option}
use Rattle.neph_base.specs.declared.packet.Packet.{Packet}
use Rattle.neph_ring.specs.declared.network.NetPart.TheVariants.{Receive}
use Rattle.neph_ring.specs.declared.layout.TheConstants.{NET_SLOTS}
use Rattle.neph_ring.specs.Bytes.{bytes_of_words}
use Rattle.neph_ring.specs.Network.{IsNetwork, PutsPacket, net_count}
use Rattle.neph_net.specs.declared.delivery.Moved.{Moved}
use Rattle.neph_net.specs.declared.delivery.Moved.TheVariants.{Delivered, Dropped}
use Rattle.neph_net.specs.Families.{Families, with_drop}

-- a packet went to a receiver's page, or was dropped since its receive part is full
abbrev pub GoesTo : Moved → ℕ → Packet → Families → Families → List ℕ → List ℕ → Type 0
GoesTo Delivered sender p old new page after =
    (net_count Receive page < NET_SLOTS) × (new ≡ old)
    × PutsPacket Receive page (record p { family = sender }) after
GoesTo Dropped sender p old new page after =
    (NET_SLOTS ≤ net_count Receive page) × (new ≡ with_drop old p.family) × (after ≡ page)

-- the same where there is a receiver; where there is none, the packet is dropped
abbrev pub IsDelivery :
    {W : Type 0} → (W → List ℕ) → (W → W → Type 0) → Moved → ℕ → Packet
    → Families → Families → Option W → Option W → Type 0
IsDelivery words rest moved sender p old new (Some x) (Some y) =
    let page = bytes_of_words (words x) in
    let after = bytes_of_words (words y) in
    GoesTo moved sender p old new page after × IsNetwork after × rest x y
IsDelivery words rest moved sender p old new None None =
    (moved ≡ Dropped) × (new ≡ with_drop old p.family)
IsDelivery words rest moved sender p old new x y = ⊥

-- what lies behind a reference that was passed in an option, at the return
abbrev pub left_behind : {A F C W : Type 0} → (F → W) → A ⊎ (F ⊎ C) → Option W
left_behind get (inl a) = None
left_behind get (inr (inl f)) = Some (get f)
left_behind get (inr (inr c)) = None
