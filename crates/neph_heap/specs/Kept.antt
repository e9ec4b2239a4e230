-- Where nothing was done, all is as it was.
use Rattle.std.proofs.Common.{refl}
use Rattle.std.specs.Prelude.{[]}
use Rattle.neph_pool.specs.World.{World}
use Rattle.neph_heap.specs.Lists.{Lists}
use Rattle.neph_heap.specs.Heap.{IsHeap, IsPageCall}

module _ {Pool Seat : Type 0} (W : World Pool Seat) where
  pub no_call : (p : Pool) (s : Seat) (l : Lists) → IsHeap W p s l [] → IsPageCall W p s p s
  no_call p s l h = record {
    moves = record {
      fits = h.fits;
      names = refl;
      others = record { frames = refl; cap = refl; fits = λ t f a. f; entries = λ t f a. refl };
    };
    shares = refl;
  }
