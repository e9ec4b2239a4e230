use Rattle.std.proofs.Common.{subst}
use Rattle.neph_rows.specs.Records.{Records}
use Rattle.neph_rows.specs.Live.{IsNextLive, IsNoneLive}
use Rattle.neph_rows.proofs.LiveIds.{live_found, none_found}
use Rattle.neph_rows.proofs.registry.Registry.next_live.Goals as goal

pub returns-in-Some : goal.returns-in-Some
returns-in-Some c =
    let f = c.in-Some.ensures in
    subst (λ (x : Records). IsNextLive x.lives c.args.from c.new.result) c.self.view_is
    (live_found c.self.inside.ids c.self.inside.lives.items c.args.from c.self.invariant.ids c.in-Some.id c.new.result c.new.ensures f.from (record { within = f.within; found = f.found; first = f.first }))

pub returns-in-None : goal.returns-in-None
returns-in-None c =
    subst (λ (x : Records). IsNoneLive x.lives c.args.from 64) c.self.view_is (none_found c.self.inside.ids c.self.inside.lives.items c.args.from c.self.invariant.ids c.in-None.ensures.none)
