use Rattle.std.proofs.Common.{◌∙◌, ap, sym}
use Rattle.neph_script.specs.Index.{place_in}
use Rattle.neph_script.proofs.Places.{one_put, at_name, put_new, put_old}
use Rattle.neph_script.proofs.index.Index.put.Goals as goal

pub returns-in_ok-insert-in-None : goal.returns-in_ok-insert-in-None
returns-in_ok-insert-in-None c q =
    ap (at_name q) c.in_ok-insert-in-None.ensures.entries ∙ one_put q c.args.name c.args.place c.args.self.now.places.entries
    ∙ put_new (place_in c.args.self.now) q c.args.name.items c.args.place (ap (place_in c.args.self.now) (sym c.as_slice.ensures.value) ∙ sym c.in-None.ensures)

pub returns-in-Some : goal.returns-in-Some
returns-in-Some c q = put_old (place_in c.args.self.now) q c.args.name.items c.args.place _ (ap (place_in c.args.self.now) (sym c.as_slice.ensures.value) ∙ sym c.in-Some.ensures)
