use Rattle.std.proofs.Common.{sym, ap, ◌∙◌}
use Rattle.neph_pool.specs.Names.{only_name}
use Rattle.neph_ptab.specs.declared.walk.Walk.{Walk}
use Rattle.neph_memory.specs.Memory.{mapping, pfn_by, wanted_by}
use Rattle.neph_memory.proofs.Places.{some_small}
use Rattle.neph_local.proofs.Carrying.{forking_done}
use Rattle.neph_local.proofs.Crowd.{ids_apart}
use Rattle.neph_local.proofs.Sprouted.{same_frames, same_bytes, at_least}
use Rattle.neph_local.proofs.sprout.sprout.Goals as goal

pub sprout_root-tables-requires-clause-forks : goal.sprout_root-tables-requires-clause-forks
sprout_root-tables-requires-clause-forks g c = record {
  fits = c.requires.fork.forks.fits;
  names = c.requires.fork.forks.names;
  forking = forking_done _ _ _ _ _ c.requires.fork.forks.forking c.requires.done;
}

pub adopt_all-requires-clause-some : goal.adopt_all-requires-clause-some
adopt_all-requires-clause-some g c = at_least _ _ c.len-pages.ensures.count (some_small _ 0 c.requires.stands.identity)

pub returns-clause-builds : goal.returns-clause-builds
returns-clause-builds g c = record {
  fits = c.sprout_root-tables.ensures.moves.fits;
  names = c.sprout_root-tables.ensures.moves.names ∙ c.requires.fork.forks.names ∙ ap only_name (sym c.sprout_root-tables.ensures.child);
  made = c.adopt_all.ensures.made;
  sole = c.sprout_root-tables.ensures.may.aside;
  once = c.sprout_root-tables.ensures.once;
}

pub returns-clause-sprout : goal.returns-clause-sprout
returns-clause-sprout g c =
    let W = g.P.FramePool.world in
    let a = c.adopt_all.ensures.adopts in
    let away = ids_apart (W.names c.args.k.seat) (W.names c.args.d.now.seat) c.args.k.child c.args.d.now.id c.requires.fork.forks.names c.requires.stands.names (λ e. c.requires.fork.apart (sym e)) in
    let kept = c.sprout_root-tables.ensures.moves.others.entries c.args.d.now.seat c.requires.stands.fits away in
    let frames = same_frames c.args.d.now.own.map.pages c.adopt_all.new.own.map.pages c.len-pages.result c.len-pages.ensures.count a.count a.done in record {
      count = a.count;
      frames = frames;
      bytes = same_bytes (W.entries c.args.pool.now c.args.d.now.seat) (W.entries c.sprout_root-tables.new.pool c.args.d.now.seat) (W.entries c.sprout_root-tables.new.pool c.sprout_root-tables.new.k.seat)
          c.args.d.now.own.map.pages c.adopt_all.new.own.map.pages kept frames c.sprout_root-tables.ensures.bytes;
      unlisted = a.unlisted;
      leaves = c.sprout_root-tables.ensures.leaves;
      maps = λ u lt. ap (λ (w : Walk). mapping (pfn_by c.adopt_all.new.own.map.pages w) (wanted_by w)) (c.sprout_root-tables.ensures.walks u lt);
    }
