use Rattle.std.proofs.Common.{◌∙◌, arith, ap, length}
use Rattle.std.proofs.lemmas.List.{length-append}
use Rattle.neph_script.specs.Index.{place_in}
use Rattle.neph_script.proofs.Places.{index_push}
use Rattle.neph_script.proofs.state.Draft.add_label.Goals as goal

pub returns-clause-sound : goal.returns-clause-sound
returns-clause-sound c =
    record {
      said_few = c.requires.sound.said_few;
      labels_few = omega (arith, ap length c.in_ok-push.ensures.items ∙ length-append c.args.self.now.labels.items _);
      places = index_push (λ l. l.name) (place_in c.args.self.now.places) (place_in c.put.new.self) c.args.self.now.labels.items c.push.new.self.items _ c.in_ok-key.key.items c.len.result c.requires.sound.places c.in_ok-put.ensures (c.in_ok-key.ensures.items ∙ c.items.ensures) (omega (arith, c.len.ensures, c.args.self.now.labels.ok.0)) c.in_ok-push.ensures.items;
    }
