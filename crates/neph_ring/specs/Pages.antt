-- Pages on which nothing waits, and the pages of a child.
use Rattle.std.specs.Prelude.{◌≡◌, ◌*◌, ℕ, List, [], length, replicate}
use Rattle.neph_ring.specs.declared.layout.TheConstants.{NET_TX, NET_TX_PROD, NET_SLOTS, NET_SLOT_BYTES}
use Rattle.neph_ring.specs.declared.network.NetPart.TheVariants.{Transmit, Receive}
use Rattle.neph_ring.specs.declared.p9.P9State.TheVariants.{Idle}
use Rattle.neph_ring.specs.Bytes.{with_bytes}
use Rattle.neph_ring.specs.Console.{IsConsole, out_queue}
use Rattle.neph_ring.specs.Network.{IsNetwork, packets}
use Rattle.neph_ring.specs.P9Page.{IsP9Page, IsIn}

-- no byte, no packet and no message waits
pub record IsQuiet (page : List ℕ) : Type 0 where
  pub console : IsConsole page
  pub output : out_queue page ≡ []
  pub network : IsNetwork page
  pub sent : packets Transmit page ≡ []
  pub received : packets Receive page ≡ []
  pub p9 : IsP9Page page
  pub message : IsIn page Idle

-- a page of zeros, as a domain starts with and as a child has its console and its 9P page
abbrev pub ZeroPageIsQuiet : Type 0
ZeroPageIsQuiet = IsQuiet (replicate 4096 0)

-- the network page of a child: the receive slots and indexes are the parent's, the transmit slots
-- and indexes are zero
abbrev pub network_page_of_child : List ℕ → List ℕ
network_page_of_child page =
    let emptied = with_bytes page NET_TX (replicate (NET_SLOTS * NET_SLOT_BYTES) 0) in
    with_bytes emptied NET_TX_PROD (replicate 8 0)

-- a child has the packets that its parent had received and not yet taken, and has sent none
pub record ReceivesAsParent (page child : List ℕ) : Type 0 where
  pub kept : IsNetwork child
  pub sent : packets Transmit child ≡ []
  pub received : packets Receive child ≡ packets Receive page

-- the network page of a child is as a child's is to be
abbrev pub ChildReceivesAsParent : Type 0
ChildReceivesAsParent =
    (page : List ℕ) → length page ≡ 4096 → IsNetwork page
    → ReceivesAsParent page (network_page_of_child page)
