-- The colours behind a commit: the child's pages lie in its parent's frames where they are shared,
-- and else in frames that were put aside for it.
use Rattle.std.proofs.Common.{◌≡◌, ◌⊎◌, inl, inr, ℕ, zero, suc, ◌+◌, ◌<◌, ◌≤◌, Bool, true, false, cond, List, [], ◌∷◌, length, get_or, Some, None, refl, sym, ap, subst, ◌∙◌, arith}
use Rattle.std.specs.Prelude.{is_some, not}
use Rattle.std.specs.declared.option.Option.{Option}
use Rattle.std.proofs.lemmas.List.{length-map}
use Rattle.neph_model.specs.declared.own.Own.{Own as Half}
use Rattle.neph_model.specs.Books.{State, goes_shared}
use Rattle.neph_runs.specs.Orderly.{seat as part_at}
use Rattle.neph_runs.proofs.Births.{born}
use Rattle.neph_pool.specs.declared.entry.Hold.{Hold}
use Rattle.neph_pool.specs.Entries.{is_here, weight_of}
use Rattle.neph_pool.specs.World.{World}
use Rattle.neph_pool.proofs.Rows.{same_or_not}
use Rattle.neph_gmap.specs.declared.page.Page.{Page}
use Rattle.neph_memory.specs.declared.dom_local.DomLocal.{DomLocal}
use Rattle.neph_memory.specs.declared.own.Own.{Own as Memory}
use Rattle.neph_memory.specs.Pages.{frame_at}
use Rattle.neph_memory.specs.Building.{IsAmong}
use Rattle.neph_local.specs.Forks.{IsDone}
use Rattle.neph_local.proofs.Counting.{shares_local}
use Rattle.neph_guest.specs.declared.live.Live.{Live}
use Rattle.neph_heap.specs.Lists.{exposed_of, aside_of}
use Rattle.neph_accounts.specs.Holdings.{times}
use Rattle.neph_accounts.specs.Heaps.{exposed_frames, row_frames}
use Rattle.neph_accounts.specs.Colours.{IsStood, new_frames, IsChildRow}
use Rattle.neph_accounts.proofs.Handovers.{among_some}
use Rattle.neph_accounts.proofs.Plainly.{commit_follows}
use Rattle.neph_accounts.proofs.Times.{times_cons, one_at, one_self, one_else}
use Rattle.neph_machine.specs.declared.place.Place.TheVariants.{Flight as InFlight, Domain}
use Rattle.neph_machine.specs.declared.place.Flight.{Flight}
use Rattle.neph_machine.specs.declared.machine.Machine.{Machine}
use Rattle.neph_machine.specs.Rows.{frames_in, away_in, row_of, rows_of}
use Rattle.neph_machine.specs.Surveyed.{IsSurveyed}
use Rattle.neph_machine.specs.StandsFor.{IsDomain, StandsFor}
use Rattle.neph_machine.proofs.Reached.{IsReached}
use Rattle.neph_machine.proofs.OnePlace.{row_is}
use Rattle.neph_machine.proofs.Listed.{frame_is}
use Rattle.neph_machine.proofs.Exposing.{exposed_listed}
use Rattle.neph_machine.proofs.FrameLaws.{row_frame, fresh_once, fresh_unpaged}
use Rattle.neph_machine.proofs.Paired.{IsPair, domain}
use Rattle.neph_machine.proofs.Pairs.{pair_row}
use Rattle.neph_commit.proofs.Born.{HasCommitted, live_then, child_exposes}

-- a row has a frame for each page
row_long : (xs : List (Option ℕ)) (away : ℕ → ℕ) (from : ℕ) → length (row_frames xs away from)
    ≡ length xs
row_long [] away from = refl
row_long (None ∷ xs) away from = ap suc (row_long xs away (suc from))
row_long (Some f ∷ xs) away from = ap suc (row_long xs away (suc from))

-- Of pages that are the domain's own just where a clone shares them, the new frames are those of
-- the exposed ones.
new_away : (o : Half) (xs : List (Option ℕ)) (away : ℕ → ℕ) (from : ℕ)
    → ((i : ℕ) → i < length xs → goes_shared o (from + i) ≡ is_some (get_or xs i None))
    → new_frames o from (row_frames xs away from) ≡ exposed_frames xs away from
new_away o [] away from split = refl
new_away o (y ∷ xs) away from split =
    by y (ap (goes_shared o) (omega arith) ∙ split 0 (omega arith)) (new_away o xs away (suc from)
    (λ i lt. ap (goes_shared o) (omega arith) ∙ split (suc i) (omega (arith, lt)))) where
      rest : List ℕ
      rest = new_frames o (suc from) (row_frames xs away (suc from))

      by : (z : Option ℕ) → goes_shared o from ≡ is_some z
          → new_frames o (suc from) (row_frames xs away (suc from))
          ≡ exposed_frames xs away (suc from)
          → new_frames o from (row_frames (z ∷ xs) away from)
          ≡ exposed_frames (z ∷ xs) away from
      by None e up = ap (λ (b : Bool). cond b rest (away from ∷ rest)) e
          ∙ ap (λ (fs : List ℕ). away from ∷ fs) up
      by (Some g) e up = ap (λ (b : Bool). cond b rest (g ∷ rest)) e ∙ up

-- a frame that is among some is named by them as often as alone
one_among : (f g : ℕ) (fs : List ℕ) → 0 < times g fs → one_at g f ≤ times f fs
one_among f g fs some = elim (same_or_not g f) [
  | inl e ↦ (let k = ap (λ (y : ℕ). one_at y f) e in let s : 0 < times f fs =
      subst (λ (y : ℕ). 0 < times y fs) e some in omega (arith, k, one_self f, s))
  | inr n ↦ omega (arith, one_else g f n)
]

-- all new frames of a child: those of its exposed pages, and that of its identity page
new_times : (o : Half) (xs : List (Option ℕ)) (away : ℕ → ℕ) (fs : List ℕ) (f : ℕ)
    → ((i : ℕ) → 1 ≤ i → i < length xs → goes_shared o i ≡ is_some (get_or xs i None))
    → ((g : ℕ) → get_or xs 0 None ≡ Some g → 0 < times g fs)
    → times f (new_frames o 0 (row_frames xs away 0))
    ≤ times f fs + times f (exposed_frames xs away 0)
new_times o [] away fs f split first = omega arith
new_times o (None ∷ xs) away fs f split first =
    let rest = ap (times f)
    (new_away o xs away 1
    (λ i lt. ap (goes_shared o) (omega arith)
    ∙ split (suc i) (omega arith) (omega (arith, lt)))) in
    omega (
      arith,
      rest,
      times_cons f (away 0) (new_frames o 1 (row_frames xs away 1)),
      times_cons f
          (away 0) (exposed_frames xs away 1),
    )
new_times o (Some g ∷ xs) away fs f split first =
    let rest = ap (times f)
    (new_away o xs away 1
    (λ i lt. ap (goes_shared o) (omega arith)
    ∙ split (suc i) (omega arith) (omega (arith, lt)))) in
    omega (
      arith,
      rest,
      times_cons f g (new_frames o 1 (row_frames xs away 1)),
      one_among f g fs
          (first g refl),
    )

-- of what is held once there is an entry
held_here : (h : Option Hold) → weight_of h ≡ 1 → is_here h ≡ true
held_here None e = absurd (cc)
held_here (Some h) e = refl

-- a page that a clone shares isn't the identity page
past_first : (o : Half) (pfn : ℕ) → goes_shared o pfn ≡ true → 1 ≤ pfn
past_first o zero e = absurd (let k : false ≡ true = e in cc)
past_first o (suc pfn) e = omega arith

the_frame : (o : Option ℕ) → is_some o ≡ true → (f : ℕ) × (o ≡ Some f)
the_frame None e = absurd (cc)
the_frame (Some f) e = (f, refl)

module _ {Pool Seat : Type 0} (W : World Pool Seat) (old new : Machine Pool Seat) (id child : ℕ)
    (l : Live Pool Seat) (f : Flight Pool Seat) (d c : DomLocal Pool Seat)
    (both : IsPair old id child l f) (did : HasCommitted W old new id child l f d c)
    (st : State) (reached : IsReached old.script st) (stands : StandsFor W old st) where
  abbrev o : Half
  o = (part_at st id).own

  abbrev ps : List Page
  ps = l.local.own.map.pages

  abbrev cs : List Page
  cs = c.own.map.pages

  abbrev away : ℕ → ℕ
  away = away_in new.hv.heap.stock child

  abbrev row : List ℕ
  row = row_frames (frames_in cs) away 0

  was : IsDomain W old id l (part_at st id)
  was = domain W old st reached stands id child l f both

  -- the frame of the child's identity page was put aside for it
  identity_among : (g : ℕ) → frame_at cs 0 ≡ Some g → IsAmong f.fork.frames.items g
  identity_among g at =
      by (did.still.forking.only g (held_here _ (did.grown.memory.made.held 0 g at))) where
        by : IsDone d.own.map.pages f.fork.next g ⊎ IsAmong f.fork.frames.items g
            → IsAmong f.fork.frames.items g
        by (inr a) = a
        by (inl h) = absurd (let there : frame_at cs h.0 ≡ Some g = did.born.frames h.0 h.1
            ∙ ap (λ (m : Memory). frame_at m.map.pages h.0) (sym did.same.own) ∙ h.3 in
            omega (arith, h.1, did.grown.memory.made.apart 0 h.0 g at there))

  -- past the identity page a page is shared where it is the child's own
  shares : (pfn : ℕ) → 1 ≤ pfn → goes_shared o pfn ≡ is_some (get_or (frames_in cs) pfn None)
  shares pfn le = shares_local W old.pool l.local o was.own.own.memory pfn le
      ∙ ap is_some (sym (did.born.frames pfn le)) ∙ ap is_some (frame_is cs pfn)

  -- the exposed ones lie in what was aside for the child
  listed : (g : ℕ) → times g (exposed_frames (frames_in cs) away 0)
      ≡ times g (aside_of child old.hv.heap.stock)
  listed g =
      let long : length (frames_in cs) ≡ length cs = length-map cs _ in
      let es = child_exposes W old new id child l f d c both did st reached stands in
      exposed_listed (frames_in cs) (exposed_of child new.hv.heap.stock) g
      (did.pair.heap.pages child).once
      (λ i lt. es.split i (omega (arith, lt, long))
      ∙ ap (λ (v : Option ℕ). not (is_some v)) (frame_is cs i))
      (λ q s. let k = es.within q s in omega (arith, k, long)) ∙ ap (times g) did.pages.frames

  -- so all new frames were the child's or aside for it
  news : (g : ℕ) → times g (new_frames o 0 row)
      ≤ times g f.fork.frames.items + times g (aside_of child old.hv.heap.stock)
  news g =
      let k = new_times o (frames_in cs) away f.fork.frames.items g (λ i le lt. shares i le)
      (λ h e. among_some h f.fork.frames.items (identity_among h (frame_is cs 0 ∙ e))) in
      omega (arith, k, listed g)

  parent_row : get_or (rows_of old) id []
      ≡ row_frames (frames_in ps) (away_in old.hv.heap.stock id) 0
  parent_row = row_is old id did.pair.within ∙ ap (row_of old.hv.heap.stock id) did.pair.here

  abbrev old_row : List ℕ
  old_row = row_frames (frames_in ps) (away_in old.hv.heap.stock id) 0

  -- a page that is shared lies in its parent's frame
  child_row : IsChildRow o old_row row
  child_row = record {
    long = row_long (frames_in cs) away 0 ∙ length-map cs _ ∙ did.born.count ∙ sym (length-map ps _)
        ∙ sym (row_long (frames_in ps) (away_in old.hv.heap.stock id) 0);
    shared = λ pfn lt goes.
        let le = past_first o pfn goes in
        let g = the_frame (frame_at cs pfn) (ap is_some (frame_is cs pfn) ∙ sym (shares pfn le)
        ∙ goes) in
        (row_frame (frames_in cs) away 0 pfn g.0 (sym (frame_is cs pfn) ∙ g.1)).1
        ∙ sym ((row_frame (frames_in ps) (away_in old.hv.heap.stock id) 0 pfn g.0
        (sym (frame_is ps pfn) ∙ sym (did.born.frames pfn le) ∙ g.1)).1);
  }

  same_row : row_of old.hv.heap.stock id (Domain (live_then id l.guest.line false d))
      ≡ row_of old.hv.heap.stock id (Domain l)
  same_row = ap (λ (m : Memory). row_frames (frames_in m.map.pages) (away_in old.hv.heap.stock id)
      0) did.same.own

  -- the colours stand for the frames
  pub colours_stand : IsSurveyed W → IsStood (rows_of new) (born old.script st id child).books
  colours_stand survey =
      let books = reached.sound.orderly.places.books in
      commit_follows (rows_of old) (rows_of new) st.books id child o row stands.colours
      (let lt = did.pair.within in omega (arith, books, lt))
      (let lt = did.pair.below in omega (arith, books, lt)) (λ e. did.pair.far (sym e))
      (pair_row W old new id child l (InFlight f) _ _ did.pair same_row)
      (subst (λ (xs : List ℕ). IsChildRow o xs row) (sym parent_row) child_row)
      (fresh_once W old st survey reached stands child f did.pair.there (new_frames o 0 row) news)
      (fresh_unpaged W old st survey reached stands child f did.pair.there (new_frames o 0 row)
      news)
