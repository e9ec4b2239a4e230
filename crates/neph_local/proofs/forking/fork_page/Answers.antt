use Rattle.std.proofs.Common.{◌≡◌, ◌<◌, ◌≤◌, ◌+◌, ◌-◌, ◌⊎◌, inl, inr, ℕ, List, Some, Vec, Global, length, refl, sym, ap, subst, ◌∙◌, arith}
use Rattle.neph_pool.specs.Entries.{entry_count}
use Rattle.neph_gmap.specs.declared.page.Page.{Page}
use Rattle.neph_memory.specs.Pages.{frame_at}
use Rattle.neph_memory.specs.Memory.{leaf_count}
use Rattle.neph_memory.specs.Building.{IsAmong}
use Rattle.neph_memory.proofs.Places.{some_small}
use Rattle.neph_local.specs.Forks.{IsDone, IsForking, IsNextPage}
use Rattle.neph_memory.proofs.Rooming.{leaves_same, later_few}
use Rattle.neph_local.proofs.Carrying.{forking_skip}
use Rattle.neph_local.proofs.Tabling.{one_later, still_enough}
use Rattle.neph_local.proofs.forking.fork_page.Goals as goal

up : (a b p : ℕ) → a ≤ b → p < a → p < b
up a b p le lt = omega (arith, le, lt)

late : (a b c : ℕ) → 1 ≤ a → a ≤ b → c ≡ b → 1 ≤ c
late a b c l le e = omega (arith, l, le, e)

back : (a b c : ℕ) → a ≡ b + 1 → b ≡ c → c ≡ a - 1
back a b c e h = omega (arith, e, h)

later : (ps : List Page) (next : ℕ) (xs : List ℕ) (f : ℕ) → IsDone ps next f ⊎ IsAmong xs f → ((p : ℕ) × (1 ≤ p) × (frame_at ps p ≡ Some f)) ⊎ IsAmong xs f
later ps next xs f (inl d) = inl (d.0, d.1, d.3)
later ps next xs f (inr h) = inr h

room_left : (n a b l c : ℕ) → n + 1 ≤ a + b → b ≡ l + 2 → a + 2 + l ≤ c → n + 1 ≤ c
room_left n a b l c few enough room = omega (arith, few, enough, room)

pub share_next-requires-clause-forks : goal.share_next-requires-clause-forks
share_next-requires-clause-forks g c =
    let n = c.in-Some.ensures.found in
    let k = c.requires.fork.forks in record {
      fits = k.fits;
      names = k.names;
      forking = subst (λ (x : ℕ). IsForking (g.P.FramePool.world.entries c.args.pool.now c.args.d.now.seat) (g.P.FramePool.world.entries c.args.pool.now c.args.k.now.seat) c.args.d.now.own.map.pages x c.args.k.now.frames.items) (sym c.get.ensures.value)
          (forking_skip _ _ c.args.d.now.own.map.pages c.args.k.now.next c.in-Some.p c.args.k.now.frames.items k.forking n.first (λ p f at lt. up _ _ p n.late lt));
    }

pub share_next-requires-clause-began : goal.share_next-requires-clause-began
share_next-requires-clause-began g c = late _ _ _ c.requires.fork.began c.in-Some.ensures.found.late c.get.ensures.value

pub share_next-requires-clause-room : goal.share_next-requires-clause-room
share_next-requires-clause-room g c =
    let es = g.P.FramePool.world.entries c.args.pool.now c.args.k.now.seat in
    let k = c.requires.fork.forks.forking in
    let few : entry_count es + 1 ≤ length c.args.d.now.own.map.pages + length c.args.k.now.frames.items
    = later_few c.args.d.now.own.map.pages c.args.k.now.frames.items es (some_small _ 0 c.requires.stands.identity) (λ f h. later _ _ _ f (k.only f h)) in
    let enough : length c.args.k.now.frames.items ≡ leaf_count (g.P.FramePool.world.entries c.args.pool.now c.args.d.now.seat) c.args.d.now.tables.root + 2 = c.requires.fork.enough in
    room_left _ _ _ _ _ few enough c.requires.stands.room

pub returns-in-Some-clause-fork : goal.returns-in-Some-clause-fork
returns-in-Some-clause-fork g c =
    let few : length c.share_next.new.k.frames.items ≡ length c.args.k.now.frames.items = ap (λ (v : Vec ℕ Global). length v.items) c.share_next.ensures.frames in
    let same = leaves_same _ _ _ _ 512 c.share_next.ensures.leaves in record {
      forks = c.share_next.ensures.forks;
      began = one_later _ _ c.share_next.ensures.next;
      apart = λ e. c.requires.fork.apart (sym c.share_next.ensures.id ∙ e ∙ c.share_next.ensures.child);
      enough = still_enough _ _ _ _ few same c.requires.fork.enough;
    }

pub returns-in-Some-clause-shared : goal.returns-in-Some-clause-shared
returns-in-Some-clause-shared g c = λ h.
    subst (IsNextPage c.args.d.now.own.map.pages c.args.k.now.next) (back _ _ _ c.share_next.ensures.next c.get.ensures.value) c.in-Some.ensures.found

pub returns-in-None-clause-done : goal.returns-in-None-clause-done
returns-in-None-clause-done g c = λ h. c.in-None.ensures.none refl

pub returns-in-None-clause-seat : goal.returns-in-None-clause-seat
returns-in-None-clause-seat g c = record { fits = c.requires.stands.fits; names = refl }

pub returns-in-None-clause-others : goal.returns-in-None-clause-others
returns-in-None-clause-others g c = record { frames = refl; cap = refl; fits = λ t f a. f; entries = λ t f a. refl }
