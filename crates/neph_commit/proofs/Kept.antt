-- A memory that a call has left as it was.
use Rattle.std.proofs.Common.{length, ap}
use Rattle.neph_model.specs.declared.own.Own.{Own as Half}
use Rattle.neph_pool.specs.World.{World}
use Rattle.neph_memory.specs.declared.dom_local.DomLocal.{DomLocal}
use Rattle.neph_memory.specs.declared.own.Own.{Own as Memory}
use Rattle.neph_memory.specs.Domains.{IsUnchanged, domain_page, domain_mapping, domain_leaf}
use Rattle.neph_memory.specs.OwnHalf.{IsMemoryOf}
use Rattle.neph_memory.proofs.HalfParts.{same}
use Rattle.neph_local.proofs.Stepping.{unchanged_page, unchanged_mapping, unchanged_leaf}

-- it means what it did
pub memory_kept : {Pool Seat : Type 0} (W : World Pool Seat) (p : Pool) (d : DomLocal Pool Seat)
    (q : Pool) (e : DomLocal Pool Seat) (o : Half) → IsUnchanged W p d q e
    → IsMemoryOf W p d o.pages o.vmap o.leaves → IsMemoryOf W q e o.pages o.vmap o.leaves
memory_kept W p d q e o kept h =
    same (length d.own.map.pages) (domain_page W p d) (domain_mapping W p d) (domain_leaf W p d)
    o.pages o.vmap o.leaves h
    (length e.own.map.pages) (domain_page W q e) (domain_mapping W q e) (domain_leaf W q e)
    (ap (λ (m : Memory). length m.map.pages) kept.own)
    (unchanged_page W p d q e kept) (λ u lt. unchanged_mapping W p d q e kept u)
    (λ g lt. unchanged_leaf W p d q e kept g)
