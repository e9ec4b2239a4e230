-- How much a machine over frames may still do: a number that is read off the machine, and that the
-- definitions have for each state that it stands for.
use Rattle.std.proofs.Common.{◌≡◌, ℕ, ◌+◌, ◌-◌, ◌*◌, Bool, false, cond, if◌then◌else◌, List, length, get_or, Option, Some, None, refl, sym, ap, ◌∙◌}
use Rattle.std.specs.Prelude.{◌==◌, ◌&&◌, not, is_some, count_by}
use Rattle.std.specs.List.{range_with_len}
use Rattle.neph_model.specs.declared.own.Own.{Own}
use Rattle.neph_model.specs.declared.life.Life.{Life}
use Rattle.neph_model.specs.declared.book.Stage.{Stage as Ahead}
use Rattle.neph_model.specs.declared.book.Stage.TheVariants as book
use Rattle.neph_model.specs.Machine.{Shared, life_at, guest_at}
use Rattle.neph_model.specs.Books.{State, goes_shared}
use Rattle.neph_runs.specs.Orderly.{seat as part_at}
use Rattle.neph_runs.specs.Work.{all_ids, lines_left, stage_work, size_by, work_at, work_left}
use Rattle.neph_accounts.proofs.Sums.{same_in}
use Rattle.neph_gmap.specs.declared.page.Page.{Page}
use Rattle.neph_pool.specs.World.{World}
use Rattle.neph_pool.specs.declared.entry.Entry.{Entry}
use Rattle.neph_memory.specs.Pages.{frame_at}
use Rattle.neph_memory.specs.Memory.{bytes_for}
use Rattle.neph_guest.specs.declared.live.Live.{Live}
use Rattle.neph_guest.specs.declared.live.Stage.{Stage}
use Rattle.neph_guest.specs.declared.live.Stage.TheVariants as guest
use Rattle.neph_guest.specs.OwnHalf.{IsOwnHalf}
use Rattle.neph_machine.specs.declared.place.Place.{Place}
use Rattle.neph_machine.specs.declared.place.Place.TheVariants.{Empty, Flight as InFlight, Domain}
use Rattle.neph_machine.specs.declared.machine.Machine.{Machine}
use Rattle.neph_machine.specs.Places.{place_at}
use Rattle.neph_machine.specs.StandsFor.{left_from, IsAtStage, IsDomain, IsInFlight, IsPlace, StandsFor}

-- how many pages a fork has left to share, from this page on
abbrev pub pages_left : List Page → ℕ → ℕ
pages_left ps next = count_by (λ pfn. not (pfn == 0) && is_some (frame_at ps pfn))
    (range_with_len next (length ps - next))

-- the page with which a clone goes on whose child stands in this place
abbrev pub next_page : {Pool Seat : Type 0} → Place Pool Seat → ℕ
next_page Empty = 0
next_page (InFlight f) = f.fork.next
next_page (Domain l) = 0

-- what a domain with so many lines may still do, where it holds a spare or doesn't, and shares so
-- many pages if it has begun a clone
abbrev pub stage_left : ℕ → Bool → ℕ → Stage → ℕ
stage_left lines spare left guest.Ready = 4 * lines + 1 + (if spare then 0 else 1)
stage_left lines spare left guest.Copying = 4 * lines + (if spare then 0 else 1)
stage_left lines spare left guest.Forking = 8 * lines + 8 + left

module _ {Pool Seat : Type 0} (m : Machine Pool Seat) where
  -- how many pages the clone that a domain has begun has left to share
  abbrev pub steps_left : ℕ → Live Pool Seat → ℕ
  steps_left id l = pages_left l.local.own.map.pages
      (next_page (place_at (get_or (guest_at id m.hv.registry.tables).begun 0 0) m.places.items))

  -- what is left to do for what stands in the place of an id
  abbrev pub place_left : ℕ → Place Pool Seat → ℕ
  place_left id Empty = 0
  place_left id (InFlight f) = 0
  place_left id (Domain l) = stage_left
      (lines_left (size_by m.script (life_at id m.hv.registry.lives)) l.guest.line)
      (is_some l.local.own.spare) (steps_left id l) l.guest.stage

  -- what is left to do: for each id that wasn't given, for each place, and for each clone that waits
  unfoldable pub machine_left : ℕ
  machine_left = 4096 * (64 - m.hv.registry.tables.next)
      + all_ids (λ id. place_left id (place_at id m.places.items))
      + length m.hv.registry.tables.waiting

-- sums and counts of the same numbers
ids_same : (f g : ℕ → ℕ) → ((id : ℕ) → f id ≡ g id) → all_ids f ≡ all_ids g
unfolding all_ids
ids_same f g h = same_in f g 0 64 (λ id low lt. h id)

count_same : (p q : ℕ → Bool) (a n : ℕ) → ((i : ℕ) → p i ≡ q i) → count_by p (range_with_len a n) ≡ count_by q (range_with_len a n)
count_same p q a n h = same_in (λ i. cond (p i) 1 0) (λ i. cond (q i) 1 0) a n (λ i low lt. ap (λ (b : Bool). cond b 1 0) (h i))

module _ {Pool Seat : Type 0} (W : World Pool Seat) (m : Machine Pool Seat) (st : State)
    (stands : StandsFor W m st) where
  -- the pages that are shared are those that lie in frames of the domain's own
  pages_are : (l : Live Pool Seat) (o : Own) → IsOwnHalf W m.pool l o → (next : ℕ) → pages_left l.local.own.map.pages next ≡ left_from o next
  pages_are l o h next =
      count_same (λ pfn. not (pfn == 0) && is_some (frame_at l.local.own.map.pages pfn)) (goes_shared o) next (length l.local.own.map.pages - next) each ∙ ap (λ (k : ℕ). count_by (goes_shared o) (range_with_len next (k - next))) (sym h.own.memory.count)
    where
      some_bytes : (es : List (Option Entry)) (f : Option ℕ) → is_some f ≡ is_some (bytes_for es f)
      some_bytes es None = refl
      some_bytes es (Some f) = refl

      each : (pfn : ℕ) → (not (pfn == 0) && is_some (frame_at l.local.own.map.pages pfn)) ≡ goes_shared o pfn
      each pfn = ap (λ (b : Bool). not (pfn == 0) && b)
          (some_bytes (W.entries m.pool l.local.seat) (frame_at l.local.own.map.pages pfn)
          ∙ ap is_some (sym (h.own.memory.page pfn)))

  begun_same : (id : ℕ) → (guest_at id m.hv.registry.tables).begun ≡ (part_at st id).guest.begun
  begun_same id = ap (λ (sh : Shared). (guest_at id sh.tables).begun) (sym stands.shared)

  steps_are : (id : ℕ) (l : Live Pool Seat) (left : ℕ) → IsOwnHalf W m.pool l (part_at st id).own → IsInFlight W m id l (part_at st id) left → steps_left m id l ≡ left
  steps_are id l left own h =
      let child : get_or (guest_at id m.hv.registry.tables).begun 0 0 ≡ h.child = ap (λ (xs : List ℕ). get_or xs 0 0) (begun_same id ∙ h.begun) in
      let next : next_page (place_at (get_or (guest_at id m.hv.registry.tables).begun 0 0) m.places.items) ≡ h.flight.fork.next =
      ap (λ (c : ℕ). next_page (place_at c m.places.items)) child ∙ ap next_page h.there in
      ap (pages_left l.local.own.map.pages) next ∙ pages_are l (part_at st id).own own h.flight.fork.next ∙ sym h.left_is

  abbrev total : ℕ → ℕ
  total id = lines_left (size_by m.script (part_at st id).life) (part_at st id).own.line

  domain_is : (id : ℕ) (l : Live Pool Seat) → IsDomain W m id l (part_at st id) → place_left m id (Domain l) ≡ work_at m.script (part_at st id)
  domain_is id l d =
      by (part_at st id).book.stage d.stage
      ∙ ap (λ (b : Bool). cond b (stage_work (lines_left (size_by m.script (part_at st id).life) (part_at st id).own.line) (part_at st id).book (part_at st id).book.stage) 0) (sym d.live)
    where
      lines : lines_left (size_by m.script (life_at id m.hv.registry.lives)) l.guest.line ≡ lines_left (size_by m.script (part_at st id).life) (part_at st id).own.line
      lines = ap (λ (life : Option Life). lines_left (size_by m.script life) l.guest.line) (ap (λ (sh : Shared). life_at id sh.lives) (sym stands.shared))
          ∙ ap (lines_left (size_by m.script (part_at st id).life)) (sym d.own.line)

      -- at a stage with so many pages left
      at_stage : (stage : Stage) (left : ℕ) → l.guest.stage ≡ stage → (stage ≡ guest.Forking → steps_left m id l ≡ left) → place_left m id (Domain l) ≡ stage_left (total id) (part_at st id).book.spare left stage
      at_stage guest.Ready left e h = ap (stage_left _ _ (steps_left m id l)) e ∙ ap (λ (n : ℕ). 4 * n + 1 + (if is_some l.local.own.spare then 0 else 1)) lines ∙ ap (λ (b : Bool). 4 * total id + 1 + (if b then 0 else 1)) (sym d.spare)
      at_stage guest.Copying left e h = ap (stage_left _ _ (steps_left m id l)) e ∙ ap (λ (n : ℕ). 4 * n + (if is_some l.local.own.spare then 0 else 1)) lines ∙ ap (λ (b : Bool). 4 * total id + (if b then 0 else 1)) (sym d.spare)
      at_stage guest.Forking left e h = ap (stage_left _ _ (steps_left m id l)) e ∙ ap (λ (n : ℕ). 8 * n + 8 + steps_left m id l) lines ∙ ap (λ (k : ℕ). 8 * total id + 8 + k) (h refl)

      by : (at : Ahead) → IsAtStage W m id l (part_at st id) at → place_left m id (Domain l) ≡ stage_work (lines_left (size_by m.script (part_at st id).life) (part_at st id).own.line) (part_at st id).book at
      by book.Ready h = at_stage guest.Ready 0 h.0 (λ e. absurd cc)
      by book.Copying h = at_stage guest.Copying 0 h.0 (λ e. absurd cc)
      by (book.Forking left) h = at_stage guest.Forking left h.0 (λ e. steps_are id l left d.own h.2)

  place_is : (id : ℕ) → place_left m id (place_at id m.places.items) ≡ work_at m.script (part_at st id)
  place_is id = by (place_at id m.places.items) (stands.each id) where
    gone : (b : Bool) (n : ℕ) → b ≡ false → 0 ≡ cond b n 0
    gone b n e = ap (λ (v : Bool). cond v n 0) (sym e)

    by : (place : Place Pool Seat) → IsPlace W m id place (part_at st) → place_left m id place ≡ work_at m.script (part_at st id)
    by Empty h = gone _ _ h.0.live
    by (InFlight f) h = gone _ _ h.0.live
    by (Domain l) h = domain_is id l h

  -- the number is that of the state
  pub work_is : machine_left m ≡ work_left m.script st
  unfolding machine_left
  work_is =
      ap (λ (n : ℕ). n + length m.hv.registry.tables.waiting)
      (ap (λ (k : ℕ). 4096 * (64 - m.hv.registry.tables.next) + k)
      (ids_same (λ id. place_left m id (place_at id m.places.items)) (λ id. work_at m.script (part_at st id)) place_is))
      ∙ ap (λ (sh : Shared). 4096 * (64 - sh.tables.next) + all_ids (λ id. work_at m.script (part_at st id)) + length sh.tables.waiting) (sym stands.shared)
