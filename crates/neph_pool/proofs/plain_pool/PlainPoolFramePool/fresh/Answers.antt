use Rattle.std.proofs.Common.{sym, ap, ◌∙◌}
use Rattle.neph_pool.specs.Plain.{plain_names}
use Rattle.neph_pool.proofs.Tables.{fresh_new, fresh_names, fresh_old, fresh_spares}
use Rattle.neph_pool.proofs.plain_pool.PlainPoolFramePool.fresh.Goals as goal

pub returns-clause-new : goal.returns-clause-new
returns-clause-new c =
    let e = c.get-name.ensures.value in
    let s = c.args.s.now in
    rw (← e) (fresh_new c.args.self.now s c.requires.seat c.get-name.result c.get-name.ensures.range (λ z. c.requires.other (sym e ∙ z)) c.requires.names.0 (ap (plain_names s) e ∙ c.requires.names.1))

pub returns-clause-names : goal.returns-clause-names
returns-clause-names c =
    let e = c.get-name.ensures.value in
    let s = c.args.s.now in
    rw (← e) (fresh_names c.args.self.now s c.requires.seat c.get-name.result c.get-name.ensures.range (λ z. c.requires.other (sym e ∙ z)) c.requires.names.0 (ap (plain_names s) e ∙ c.requires.names.1))

pub returns-clause-seat : goal.returns-clause-seat
returns-clause-seat c =
    let e = c.get-name.ensures.value in
    let s = c.args.s.now in
    fresh_old c.args.self.now s c.requires.seat c.get-name.result c.get-name.ensures.range (λ z. c.requires.other (sym e ∙ z)) c.requires.names.0 (ap (plain_names s) e ∙ c.requires.names.1) s.met

pub returns-clause-others : goal.returns-clause-others
returns-clause-others c =
    let e = c.get-name.ensures.value in
    let s = c.args.s.now in
    fresh_spares c.args.self.now s c.requires.seat c.get-name.result c.get-name.ensures.range (λ z. c.requires.other (sym e ∙ z)) c.requires.names.0 (ap (plain_names s) e ∙ c.requires.names.1)
