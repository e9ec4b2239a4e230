-- What is known of a domain whose clone in flight has no page left to share.
use Rattle.std.proofs.Common.{◌≡◌, ℕ, ◌<◌, List, [], ◌∷◌, length, sym, ap, ◌∙◌, arith}
use Rattle.neph_model.specs.declared.book.Stage.TheVariants as book
use Rattle.neph_model.specs.Machine.{Shared, guest_at}
use Rattle.neph_model.specs.Books.{State}
use Rattle.neph_runs.specs.Orderly.{seat as part_at}
use Rattle.neph_pool.specs.World.{World}
use Rattle.neph_local.specs.Forks.{NoPageLeft}
use Rattle.neph_local.proofs.Counting.{none_shared}
use Rattle.neph_guest.specs.declared.live.Live.{Live}
use Rattle.neph_machine.specs.declared.place.Flight.{Flight}
use Rattle.neph_machine.specs.declared.machine.Machine.{Machine}
use Rattle.neph_machine.specs.StandsFor.{StandsFor}
use Rattle.neph_machine.proofs.Reached.{IsReached, live_own}
use Rattle.neph_machine.proofs.Paired.{IsPair, domain, begun, fork, forks}

module _ {Pool Seat : Type 0} (W : World Pool Seat) (m : Machine Pool Seat) (st : State)
    (reached : IsReached m.script st) (stands : StandsFor W m st) (id child : ℕ)
    (l : Live Pool Seat) (f : Flight Pool Seat) (both : IsPair m id child l f) where
  -- what the hypervisor's tables have of it
  pub begun_there : (guest_at id m.hv.registry.tables).begun ≡ child ∷ []
  begun_there = ap (λ (sh : Shared). (guest_at id sh.tables).begun) (sym stands.shared)
      ∙ begun W m st reached stands id child l f both

  -- the commit leaves the domain within its program
  pub line_small : l.guest.line < 65535
  line_small =
      let d = domain W m st reached stands id child l f both in
      let sound = live_own m.script st reached id d.live in
      let one = ap (λ (xs : List ℕ). length xs) (begun W m st reached stands id child l f both) in
      omega (arith, sound.commits, one, d.own.line)

  pub has_pages : 0 < length (part_at st id).own.pages
  has_pages =
      let d = domain W m st reached stands id child l f both in
      let low = (live_own m.script st reached id d.live).own.pages_low in
      omega (arith, low)

  -- no page step is left by the definitions either
  pub none_left : NoPageLeft l.local.own.map.pages f.fork.next → (part_at st id).book.stage ≡ book.Forking 0
  none_left none = (forks W m st reached stands id child l f both).1 ∙ ap book.Forking
      ((forks W m st reached stands id child l f both).2
      ∙ none_shared W m.pool l.local (part_at st id).own
      (domain W m st reached stands id child l f both).own.own.memory f.fork.next
      (fork W m st reached stands id child l f both).began none)
