use Rattle.std.proofs.Common.{◌≡◌, ◌<◌, ◌^◌, ℕ, Bool, List, true, is_some, Some, refl, sym, ap, subst, ◌∙◌}
use Rattle.std.specs.declared.option.Option.{Option}
use Rattle.neph_pool.specs.declared.entry.Entry.{Entry}
use Rattle.neph_pool.specs.Names.{IsApart, both_names}
use Rattle.neph_pool.specs.World.{Spares}
use Rattle.neph_pool.proofs.Calls.{same_counts_trans}
use Rattle.neph_ptab.specs.Moves.{IsLocal, is_shown, walk_moved}
use Rattle.neph_ptab.specs.Tables.{leaf_at, walk_at, IsRetabled}
use Rattle.neph_gmap.specs.GuestPages.{GuestPages, vpns_at}
use Rattle.neph_memory.specs.Pages.{frame_at}
use Rattle.neph_memory.specs.Memory.{vpn_mapping, page_bytes, IsMade}
use Rattle.neph_memory.specs.Domains.{IsUnchanged}
use Rattle.neph_memory.specs.Building.{IsAmong}
use Rattle.neph_memory.proofs.Leading.{named}
use Rattle.neph_local.proofs.Crowd.{ids_apart}
use Rattle.neph_local.proofs.Starting.{number_is}
use Rattle.neph_local.proofs.Stepping.{spares_trans, spares_right, unchanged_stands}
use Rattle.neph_local.proofs.Tabled.{first_local, tabled_made, tabled_mappings, tabled_leaves, tabled_bytes, tabled_shared, tabled_once}
use Rattle.neph_local.proofs.copying.copy_tables.Given as given
use Rattle.neph_local.proofs.copying.copy_tables.Goals as goal

pub copy_leaves-requires-clause-from : goal.copy_leaves-requires-clause-from
copy_leaves-requires-clause-from g c = (c.requires.stands.fits, named _ _ c.requires.stands.names)

pub copy_leaves-requires-clause-seat : goal.copy_leaves-requires-clause-seat
copy_leaves-requires-clause-seat g c = (c.requires.builds.fits, named _ _ c.requires.builds.names)

pub move_page-requires-clause-seat : goal.move_page-requires-clause-seat
move_page-requires-clause-seat g c = (c.copy_leaves.ensures.seat.fits, named _ _ (c.copy_leaves.ensures.seat.names ∙ c.requires.builds.names))

pub move_page-requires-clause-local : goal.move_page-requires-clause-local
move_page-requires-clause-local g c = λ u lt h.
    let W = g.P.FramePool.world in
    let fs = W.entries c.copy_leaves.new.pool c.copy_leaves.new.seat in
    let n : c.unwrap-first.result ≡ 0 = number_is _ _ _ _ c.new.ensures c.unwrap-first.ensures in
    let ok = c.in_ok-copy_vpns.ensures.ok in
    let at : frame_at c.args.c.now.memory.own.map.pages 0 ≡ Some c.unwrap-frame.result
    = ap (frame_at c.args.c.now.memory.own.map.pages) (sym n) ∙ sym (ap (λ (m : GuestPages). frame_at m.pages c.unwrap-first.result) ok) ∙ sym c.frame_for.ensures ∙ c.unwrap-frame.ensures in
    let listed : c.vpns.result.now ≡ vpns_at c.args.d.now.own.map 0 = c.vpns.ensures.vpns ∙ ap (λ (m : GuestPages). vpns_at m c.unwrap-first.result) ok ∙ ap (vpns_at c.args.d.now.own.map) n in
    subst (λ (r : ℕ). IsLocal (walk_at fs r u)) (sym c.copy_leaves.ensures.root)
    (first_local (W.entries c.args.pool.now c.args.d.now.seat) c.args.d.now.tables.root c.args.d.now.own c.requires.stands.memory (W.entries c.args.pool.now c.args.c.now.memory.seat) fs fs c.args.c.now.memory.tables.root c.args.c.now.memory.own c.args.c.now.frames.items c.copy_leaves.new.frames.items c.requires.builds.made
    c.copy_leaves.ensures.copied c.requires.builds.sole c.requires.count c.requires.frames c.requires.stands.identity c.unwrap-frame.result at c.requires.alone u lt (ap (is_shown u) (sym listed) ∙ h))

abbrev entries_d : (g : given.Over) → goal.After-move_page g → List (Option Entry)
entries_d g c = g.P.FramePool.world.entries c.args.pool.now c.args.d.now.seat

abbrev entries_c : (g : given.Over) → goal.After-move_page g → List (Option Entry)
entries_c g c = g.P.FramePool.world.entries c.args.pool.now c.args.c.now.memory.seat

abbrev entries_f : (g : given.Over) → goal.After-move_page g → List (Option Entry)
entries_f g c = g.P.FramePool.world.entries c.copy_leaves.new.pool c.copy_leaves.new.seat

abbrev entries_g : (g : given.Over) → goal.After-move_page g → List (Option Entry)
entries_g g c = g.P.FramePool.world.entries c.move_page.new.pool c.move_page.new.seat

first : (g : given.Over) (c : goal.After-move_page g) → c.unwrap-first.result ≡ 0
first g c = number_is _ _ _ _ c.new.ensures c.unwrap-first.ensures

at : (g : given.Over) (c : goal.After-move_page g) → frame_at c.args.c.now.memory.own.map.pages 0 ≡ Some c.unwrap-frame.result
at g c = ap (frame_at c.args.c.now.memory.own.map.pages) (sym (first g c)) ∙ sym (ap (λ (m : GuestPages). frame_at m.pages c.unwrap-first.result) c.in_ok-copy_vpns.ensures.ok) ∙ sym c.frame_for.ensures ∙ c.unwrap-frame.ensures

listed : (g : given.Over) (c : goal.After-move_page g) → c.vpns.result.now ≡ vpns_at c.args.d.now.own.map 0
listed g c = c.vpns.ensures.vpns ∙ ap (λ (m : GuestPages). vpns_at m c.unwrap-first.result) c.in_ok-copy_vpns.ensures.ok ∙ ap (vpns_at c.args.d.now.own.map) (first g c)

retabled : (g : given.Over) (c : goal.After-move_page g) → IsRetabled (entries_f g c) (entries_g g c) c.args.c.now.memory.tables.root
retabled g c = subst (IsRetabled (entries_f g c) (entries_g g c)) c.copy_leaves.ensures.root c.move_page.ensures.tables

walks : (g : given.Over) (c : goal.After-move_page g) → (u : ℕ) → u < 2 ^ 18 → walk_at (entries_g g c) c.args.c.now.memory.tables.root u
    ≡ walk_moved c.unwrap-frame.result true (vpns_at c.args.d.now.own.map 0) u (walk_at (entries_f g c) c.args.c.now.memory.tables.root u)
walks g c u lt =
    subst (λ (r : ℕ). walk_at (entries_g g c) r u ≡ walk_moved c.unwrap-frame.result true c.vpns.result.now u (walk_at (entries_f g c) r u)) c.copy_leaves.ensures.root (c.move_page.ensures.walks u lt)
    ∙ ap (λ (xs : List ℕ). walk_moved c.unwrap-frame.result true xs u (walk_at (entries_f g c) c.args.c.now.memory.tables.root u)) (listed g c)

root : (g : given.Over) (c : goal.After-move_page g) → c.move_page.new.self.root ≡ c.args.c.now.memory.tables.root
root g c = c.move_page.ensures.root ∙ c.copy_leaves.ensures.root

away : (g : given.Over) (c : goal.After-move_page g) → IsApart (g.P.FramePool.world.names c.copy_leaves.new.seat) (g.P.FramePool.world.names c.copy_leaves.new.from)
away g c =
    ids_apart _ _ _ _ (c.copy_leaves.ensures.seat.names ∙ c.requires.builds.names) (c.copy_leaves.ensures.from.names ∙ c.requires.stands.names) (λ h. c.requires.apart (sym h))

unchanged : (g : given.Over) (c : goal.After-move_page g) → IsUnchanged g.P.FramePool.world c.args.pool.now c.args.d.now c.move_page.new.pool (record c.args.d.now { seat = c.copy_leaves.new.from })
unchanged g c = record {
  entries = c.move_page.ensures.moves.others.entries c.copy_leaves.new.from c.copy_leaves.ensures.from.fits (away g c) ∙ c.copy_leaves.ensures.kept;
  own = refl;
  root = refl;
  id = refl;
  hand = refl;
  cap = c.move_page.ensures.moves.others.cap ∙ c.copy_leaves.ensures.others.cap;
  fits = c.move_page.ensures.moves.others.fits c.copy_leaves.new.from c.copy_leaves.ensures.from.fits (away g c);
  names = c.copy_leaves.ensures.from.names;
}

pub returns-clause-stands : goal.returns-clause-stands
returns-clause-stands g c = unchanged_stands g.P.FramePool.world c.args.pool.now c.args.d.now c.move_page.new.pool (record c.args.d.now { seat = c.copy_leaves.new.from }) c.requires.stands (unchanged g c)

pub returns-clause-step : goal.returns-clause-step
returns-clause-step g c =
    let W = g.P.FramePool.world in
    let ns = both_names (W.names c.args.d.now.seat) (W.names c.args.c.now.memory.seat) in record {
      parent = unchanged g c;
      fits = c.move_page.ensures.moves.fits;
      names = c.move_page.ensures.moves.names ∙ c.copy_leaves.ensures.seat.names;
      id = refl;
      hand = refl;
      shared = tabled_shared (entries_d g c) c.args.d.now.tables.root c.args.d.now.own c.requires.stands.memory (entries_c g c) (entries_f g c) (entries_g g c) c.args.c.now.memory.tables.root c.args.c.now.memory.own c.args.c.now.frames.items c.copy_leaves.new.frames.items c.requires.builds.made
          c.copy_leaves.ensures.copied c.requires.builds.sole c.requires.count c.requires.frames c.requires.stands.identity c.unwrap-frame.result (at g c) c.requires.alone c.requires.none c.copy_leaves.ensures.left (retabled g c) (walks g c);
      others = spares_trans W ns c.args.pool.now c.copy_leaves.new.pool c.move_page.new.pool c.copy_leaves.ensures.others
          (spares_right W (W.names c.args.d.now.seat) (W.names c.args.c.now.memory.seat) c.copy_leaves.new.pool c.move_page.new.pool
          (subst (λ (ms : ℕ → Bool). Spares W ms c.copy_leaves.new.pool c.move_page.new.pool) c.copy_leaves.ensures.seat.names c.move_page.ensures.moves.others));
      counts = same_counts_trans W _ _ _ c.copy_leaves.ensures.counts c.move_page.ensures.counts;
    }

pub returns-clause-builds : goal.returns-clause-builds
returns-clause-builds g c =
    let oc = c.args.c.now.memory.own in
    let left = c.copy_leaves.new.frames.items in record {
      fits = c.move_page.ensures.moves.fits;
      names = c.move_page.ensures.moves.names ∙ c.copy_leaves.ensures.seat.names ∙ c.requires.builds.names;
      made = subst (λ (m : GuestPages). IsMade (entries_g g c) c.move_page.new.self.root (record { map = m; marks = oc.marks; spare = oc.spare }) (IsAmong left)) (sym c.in_ok-copy_vpns.ensures.ok)
          (subst (λ (r : ℕ). IsMade (entries_g g c) r (record { map = record oc.map { vpns = c.args.d.now.own.map.vpns }; marks = oc.marks; spare = oc.spare }) (IsAmong left)) (sym (root g c)) (tabled_made (entries_d g c) c.args.d.now.tables.root c.args.d.now.own c.requires.stands.memory (entries_c g c) (entries_f g c) (entries_g g c) c.args.c.now.memory.tables.root c.args.c.now.memory.own c.args.c.now.frames.items c.copy_leaves.new.frames.items c.requires.builds.made
          c.copy_leaves.ensures.copied c.requires.builds.sole c.requires.count c.requires.frames c.requires.stands.identity c.unwrap-frame.result (at g c) c.requires.alone c.requires.none c.copy_leaves.ensures.left (retabled g c) (walks g c)));
      sole = tabled_once (entries_d g c) c.args.d.now.tables.root c.args.d.now.own c.requires.stands.memory (entries_c g c) (entries_f g c) (entries_g g c) c.args.c.now.memory.tables.root c.args.c.now.memory.own c.args.c.now.frames.items c.copy_leaves.new.frames.items c.requires.builds.made
          c.copy_leaves.ensures.copied c.requires.builds.sole c.requires.count c.requires.frames c.requires.stands.identity c.unwrap-frame.result (at g c) c.requires.alone c.requires.none c.copy_leaves.ensures.left (retabled g c) (walks g c);
      once = c.copy_leaves.ensures.copied.once;
    }

pub returns-clause-maps : goal.returns-clause-maps
returns-clause-maps g c = λ u lt.
    ap (λ (m : GuestPages). vpn_mapping (entries_g g c) c.move_page.new.self.root m.pages u) c.in_ok-copy_vpns.ensures.ok
    ∙ ap (λ (r : ℕ). vpn_mapping (entries_g g c) r c.args.c.now.memory.own.map.pages u) (root g c)
    ∙ tabled_mappings (entries_d g c) c.args.d.now.tables.root c.args.d.now.own c.requires.stands.memory (entries_c g c) (entries_f g c) (entries_g g c) c.args.c.now.memory.tables.root c.args.c.now.memory.own c.args.c.now.frames.items c.copy_leaves.new.frames.items c.requires.builds.made
    c.copy_leaves.ensures.copied c.requires.builds.sole c.requires.count c.requires.frames c.requires.stands.identity c.unwrap-frame.result (at g c) c.requires.alone c.requires.none c.copy_leaves.ensures.left (retabled g c) (walks g c) u lt

pub returns-clause-bytes : goal.returns-clause-bytes
returns-clause-bytes g c = λ x. ap (λ (m : GuestPages). page_bytes (entries_g g c) m.pages x) c.in_ok-copy_vpns.ensures.ok ∙ tabled_bytes (entries_d g c) c.args.d.now.tables.root c.args.d.now.own c.requires.stands.memory (entries_c g c) (entries_f g c) (entries_g g c) c.args.c.now.memory.tables.root c.args.c.now.memory.own c.args.c.now.frames.items c.copy_leaves.new.frames.items c.requires.builds.made
    c.copy_leaves.ensures.copied c.requires.builds.sole c.requires.count c.requires.frames c.requires.stands.identity c.unwrap-frame.result (at g c) c.requires.alone c.requires.none c.copy_leaves.ensures.left (retabled g c) (walks g c) x

pub returns-clause-leaves : goal.returns-clause-leaves
returns-clause-leaves g c = λ i lt. ap (λ (r : ℕ). is_some (leaf_at (entries_g g c) r i)) (root g c) ∙ tabled_leaves (entries_d g c) c.args.d.now.tables.root c.args.d.now.own c.requires.stands.memory (entries_c g c) (entries_f g c) (entries_g g c) c.args.c.now.memory.tables.root c.args.c.now.memory.own c.args.c.now.frames.items c.copy_leaves.new.frames.items c.requires.builds.made
    c.copy_leaves.ensures.copied c.requires.builds.sole c.requires.count c.requires.frames c.requires.stands.identity c.unwrap-frame.result (at g c) c.requires.alone c.requires.none c.copy_leaves.ensures.left (retabled g c) (walks g c) i lt
