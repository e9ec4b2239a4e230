-- A machine before its first domain line: no domain stands, and each frame is free.
use Rattle.std.proofs.Common.{◌≡◌, ℕ, zero, suc, ◌<◌, ◌≤◌, true, List, [], ◌∷◌, length, map, replicate, reverse, refl, sym, ap, subst, ◌∙◌, arith}
use Rattle.std.specs.Prelude.{is_some}
use Rattle.std.specs.List.{range_with_len}
use Rattle.std.specs.FinMap as fm
use Rattle.std.specs.declared.option.Option.{Option}
use Rattle.std.proofs.lemmas.List.{length-replicate, length-reverse}
use Rattle.std.proofs.lemmas.List.FromFn.{length-range_with_len}
use Rattle.neph_model.specs.Machine.{Exposed}
use Rattle.neph_model.specs.WellFormed.{IsWellFormed}
use Rattle.neph_runs.specs.Orderly.{Seat as Part, seat as part_at}
use Rattle.neph_pool.specs.declared.entry.Entry.{Entry}
use Rattle.neph_pool.specs.World.{World}
use Rattle.neph_memory.specs.declared.room.TheConstants.{MAX_HELD}
use Rattle.neph_guest.specs.declared.live.Live.{Live}
use Rattle.neph_heap.specs.Heap.{IsHeap}
use Rattle.neph_heap.specs.Lists.{Lists, no_lists, exposed_of, aside_of}
use Rattle.neph_heap.specs.Pages.{page_map, pages_in}
use Rattle.neph_heap.proofs.Heaps.{none_at}
use Rattle.neph_heap.proofs.Maps.{no_page}
use Rattle.neph_machine.specs.declared.place.Place.{Place}
use Rattle.neph_machine.specs.declared.place.Place.TheVariants.{Empty, Domain}
use Rattle.neph_machine.specs.declared.machine.Machine.{Machine}
use Rattle.neph_machine.specs.Places.{place_at, is_empty}
use Rattle.neph_machine.specs.StandsFor.{IsPlace}
use Rattle.neph_boot.specs.Opening.{opened, IsOpening}
use Rattle.neph_flat.proofs.StartSound.{repeated}
use Rattle.neph_boot.proofs.StartLines.{opened_none}

map_repeated : {A B : Type 0} (f : A → B) (k : ℕ) (x : A) → map f (replicate k x) ≡ replicate k (f x)
map_repeated f zero x = refl
map_repeated {B = B} f (suc k) x = ap (λ (ys : List B). f x ∷ ys) (map_repeated f k x)

-- no exposed page of any id
none_shown : (es : List (Option Entry)) → pages_in es no_lists.exposed ≡ replicate 64 fm.empty
unfolding pages_in
none_shown es = map_repeated (page_map es) 64 [] ∙ ap (λ (e : Exposed). replicate 64 e) (no_page es)

not_domain : {Pool Seat : Type 0} (l : Live Pool Seat) → Empty ≡ Domain l → ⊥
not_domain l e = cc

module _ {Pool Seat : Type 0} (W : World Pool Seat) (m : Machine Pool Seat) (well : IsWellFormed m.script) (lists : m.hv.heap.stock ≡ record no_lists { free = reverse (range_with_len 0 m.script.frames) }) (empty : m.places.items ≡ replicate 64 Empty) where
  nothing_at : (id : ℕ) → place_at id m.places.items ≡ Empty
  nothing_at id = ap (place_at id) empty ∙ repeated 64 id Empty

  none_at_start : (id : ℕ) → IsPlace W m id Empty (part_at (opened 0 m.script))
  none_at_start id =
      let none = opened_none m.script id in (
        record {
          live = ap (λ (x : Part). is_some x.life) none;
          begun = ap (λ (x : Part). x.guest.begun) none;
          spare = ap (λ (x : Part). x.book.spare) none;
          exposed = ap (λ (l : Lists). exposed_of id l) lists ∙ none_at 64 id;
        },
        ap (λ (l : Lists). aside_of id l) lists ∙ none_at 64 id,
      )

  -- the machine before its first line
  pub first_opening : W.frames m.pool ≡ m.script.frames → MAX_HELD ≤ W.cap m.pool → IsHeap W m.pool m.hv.heap.seat m.hv.heap.stock [] → ((id : ℕ) → id < 64 → W.names m.hv.heap.seat id ≡ true) → IsOpening W m 0
  first_opening frames cap heap names = record {
    frames = frames;
    cap = cap;
    heap = heap;
    places = ap (λ (xs : List (Place Pool Seat)). length xs) empty ∙ length-replicate {A = Place Pool Seat} 64 Empty;
    names = λ id lt. names id lt ∙ sym (ap is_empty (nothing_at id));
    each = λ id. subst (λ (place : Place Pool Seat). IsPlace W m id place (part_at (opened 0 m.script))) (sym (nothing_at id)) (none_at_start id);
    marked = λ id l at. absurd (not_domain l (sym (nothing_at id) ∙ at));
    aside = ap (λ (l : Lists). l.aside) lists;
    pages = ap (λ (l : Lists). pages_in (W.entries m.pool m.hv.heap.seat) l.exposed) lists ∙ none_shown (W.entries m.pool m.hv.heap.seat);
    room = let free = ap (λ (l : Lists). length l.free) lists ∙ length-reverse (range_with_len 0 m.script.frames) ∙ length-range_with_len 0 m.script.frames in let r = well.room in omega (arith, free, r);
  }
