use Rattle.std.proofs.Common.{◌≡◌, subst, sym}
use Rattle.std.specs.Prelude.{IfOk}
use Rattle.neph_rows.specs.Records.{Records}
use Rattle.neph_rows.specs.Sound.{IsSoundRecords}
use Rattle.neph_flat.proofs.StartSound.{start_records, start_is}
use Rattle.neph_flat.proofs.start.start_registry.Goals as goal

pub new-requires : goal.new-requires
new-requires c =
    subst IsSoundRecords (sym (start_is c.args.s.now c.in_ok-lives.lives.items c.items-starts.result.now c.items-starts.ensures c.in_ok-lives.ensures)) (start_records c.args.s.now c.requires)

pub returns : goal.returns
returns c =
    subst (λ (x : Records). IfOk c.new.result (λ r. r ≡ x)) (start_is c.args.s.now c.in_ok-lives.lives.items c.items-starts.result.now c.items-starts.ensures c.in_ok-lives.ensures) c.new.ensures
