-- A move of the clone daemon on a machine of any kind.
use Rattle.std.specs.Prelude.{◌≡◌, ℕ, List, []}
use Rattle.neph_clone.specs.Waiting.{TakesOldest}
use Rattle.neph_daemon.specs.declared.daemon.Daemon.{Daemon}
use Rattle.neph_daemon.specs.declared.daemon.Daemon.TheVariants.{Did, Idle}

-- By the machine's list of waiting children and its 'this child is joined': the daemon joined the
-- child that had waited longest, or none waited and all is as before.
abbrev pub DaemonMoves :
    {H : Type 0} → (H → List ℕ) → (H → H → ℕ → Type 0) → H → H → Daemon → Type 0
DaemonMoves children joins old new (Did child) =
    TakesOldest (children old) (children new) child × joins old new child
DaemonMoves children joins old new Idle = (children old ≡ []) × (new ≡ old)
