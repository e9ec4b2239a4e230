use Rattle.std.proofs.Common.{◌≡◌, ℕ, List, length, true, Some, refl, sym, ap, ◌∙◌}
use Rattle.std.specs.declared.option.Option.{Option}
use Rattle.neph_pool.specs.declared.entry.Entry.{Entry}
use Rattle.neph_pool.specs.Bytes.{bytes_of}
use Rattle.neph_pool.specs.Entries.{hold_at, words_at, is_here, with_words}
use Rattle.neph_pool.proofs.Entries.{words_at-with_words}
use Rattle.neph_pool.proofs.Spans.{settled}
use Rattle.neph_memory.specs.Memory.{bytes_for}
use Rattle.neph_memory.specs.Domains.{IsUnchanged}
use Rattle.neph_memory.proofs.Leading.{named}
use Rattle.neph_memory.proofs.Rooming.{room_after}
use Rattle.neph_memory.proofs.Writing.{memory_held, leaves_held, shown_held, write_holds, write_words}
use Rattle.neph_memory.proofs.Keeping.{shared_wiped}
use Rattle.neph_local.proofs.Crowd.{ids_apart}
use Rattle.neph_local.proofs.Stepping.{unchanged_stands}
use Rattle.neph_local.proofs.Wording.{once_held, bytes_else}
use Rattle.neph_local.proofs.identity.copy_bytes.Given as given
use Rattle.neph_local.proofs.identity.copy_bytes.Goals as goal

pub copy_across-requires-clause-from : goal.copy_across-requires-clause-from
copy_across-requires-clause-from g c = (c.requires.stands.fits, named _ _ c.requires.stands.names)

pub copy_across-requires-clause-to : goal.copy_across-requires-clause-to
copy_across-requires-clause-to g c = (c.requires.child.fits, named _ _ c.requires.child.names)

pub copy_across-requires-clause-apart : goal.copy_across-requires-clause-apart
copy_across-requires-clause-apart g c = ids_apart _ _ _ _ c.requires.stands.names c.requires.child.names c.requires.apart

pub copy_across-requires-clause-source : goal.copy_across-requires-clause-source
copy_across-requires-clause-source g c = once_held _ (c.requires.stands.memory.made.held c.args.p c.unwrap-f.result (sym c.frame_for.ensures ∙ c.unwrap-f.ensures))

pub copy_across-requires-clause-target : goal.copy_across-requires-clause-target
copy_across-requires-clause-target g c = (c.requires.child.memory.made.sole c.args.p c.unwrap-t.result (sym c.frame_for-2.ensures ∙ c.unwrap-t.ensures)).0 c.requires.marked

unchanged : (g : given.Over) (c : goal.After-copy_across g) → IsUnchanged g.P.FramePool.world c.args.pool.now c.args.d.now c.copy_across.new.self (record c.args.d.now { seat = c.copy_across.new.from })
unchanged g c = record {
  entries = c.copy_across.ensures.kept;
  own = refl;
  root = refl;
  id = refl;
  hand = refl;
  cap = c.copy_across.ensures.others.cap;
  fits = c.copy_across.ensures.from.fits;
  names = c.copy_across.ensures.from.names;
}

pub returns-clause-stands : goal.returns-clause-stands
returns-clause-stands g c = unchanged_stands g.P.FramePool.world c.args.pool.now c.args.d.now c.copy_across.new.self (record c.args.d.now { seat = c.copy_across.new.from }) c.requires.stands (unchanged g c)

abbrev child_before : (g : given.Over) → goal.After-copy_across g → List (Option Entry)
child_before g c = g.P.FramePool.world.entries c.args.pool.now c.args.c.now.seat

abbrev child_after : (g : given.Over) → goal.After-copy_across g → List (Option Entry)
child_after g c = g.P.FramePool.world.entries c.copy_across.new.self c.copy_across.new.to

here : (g : given.Over) (c : goal.After-copy_across g) → is_here (hold_at (child_before g c) c.unwrap-t.result) ≡ true
here g c = ap is_here ((c.requires.child.memory.made.sole c.args.p c.unwrap-t.result (sym c.frame_for-2.ensures ∙ c.unwrap-t.ensures)).0 c.requires.marked)

is : (g : given.Over) (c : goal.After-copy_across g) → child_after g c ≡ with_words (child_before g c) c.unwrap-t.result (words_at (child_after g c) c.unwrap-t.result)
is g c = settled (child_before g c) (child_after g c) c.unwrap-t.result _ c.copy_across.ensures.copied (here g c)

pub returns-clause-child : goal.returns-clause-child
returns-clause-child g c =
    let m = c.requires.child.memory in
    let root = c.args.c.now.tables.root in
    let o = c.args.c.now.own in
    let at = sym c.frame_for-2.ensures ∙ c.unwrap-t.ensures in record {
      fits = c.copy_across.ensures.to.fits;
      names = c.copy_across.ensures.to.names ∙ c.requires.child.names;
      memory = memory_held (child_before g c) (child_after g c) root o m (write_holds _ _ root o m c.args.p c.unwrap-t.result at (is g c)) (write_words _ _ root o m c.args.p c.unwrap-t.result at (is g c));
      identity = c.requires.child.identity;
      room = room_after (child_before g c) (child_after g c) root root (length o.map.pages) (length o.map.pages) _ _ c.requires.child.room refl
          (λ i lt. leaves_held (child_before g c) (child_after g c) root o m (write_holds _ _ root o m c.args.p c.unwrap-t.result at (is g c)) (write_words _ _ root o m c.args.p c.unwrap-t.result at (is g c)) i) c.copy_across.ensures.others.cap;
    }

pub returns-clause-step : goal.returns-clause-step
returns-clause-step g c = record {
  parent = unchanged g c;
  fits = c.copy_across.ensures.to.fits;
  names = c.copy_across.ensures.to.names;
  id = refl;
  hand = refl;
  shared = shared_wiped (child_before g c) (child_after g c) c.unwrap-t.result _ ((c.requires.child.memory.made.sole c.args.p c.unwrap-t.result (sym c.frame_for-2.ensures ∙ c.unwrap-t.ensures)).0 c.requires.marked) (is g c);
  others = c.copy_across.ensures.others;
  counts = c.copy_across.ensures.counts;
}

pub returns-clause-page : goal.returns-clause-page
returns-clause-page g c =
    let W = g.P.FramePool.world in
    ap (bytes_for (child_after g c)) (sym c.frame_for-2.ensures ∙ c.unwrap-t.ensures)
    ∙ ap (λ (xs : List ℕ). Some (bytes_of xs)) (ap (λ (es : List (Option Entry)). words_at es c.unwrap-t.result) c.copy_across.ensures.copied ∙ words_at-with_words _ c.unwrap-t.result _ (here g c))
    ∙ sym (ap (bytes_for (W.entries c.args.pool.now c.args.d.now.seat)) (sym c.frame_for.ensures ∙ c.unwrap-f.ensures))

pub returns-clause-bytes : goal.returns-clause-bytes
returns-clause-bytes g c = bytes_else (child_before g c) (child_after g c) c.args.c.now.tables.root c.args.c.now.own c.requires.child.memory c.args.p c.unwrap-t.result _ (sym c.frame_for-2.ensures ∙ c.unwrap-t.ensures) c.copy_across.ensures.copied

pub returns-clause-mappings : goal.returns-clause-mappings
returns-clause-mappings g c = λ u lt.
    let m = c.requires.child.memory in
    let root = c.args.c.now.tables.root in
    let o = c.args.c.now.own in
    let at = sym c.frame_for-2.ensures ∙ c.unwrap-t.ensures in
    shown_held (child_before g c) (child_after g c) root o m (write_holds _ _ root o m c.args.p c.unwrap-t.result at (is g c)) (write_words _ _ root o m c.args.p c.unwrap-t.result at (is g c)) u lt

pub returns-clause-leaves : goal.returns-clause-leaves
returns-clause-leaves g c = λ i lt.
    let m = c.requires.child.memory in
    let root = c.args.c.now.tables.root in
    let o = c.args.c.now.own in
    let at = sym c.frame_for-2.ensures ∙ c.unwrap-t.ensures in
    leaves_held (child_before g c) (child_after g c) root o m (write_holds _ _ root o m c.args.p c.unwrap-t.result at (is g c)) (write_words _ _ root o m c.args.p c.unwrap-t.result at (is g c)) i
