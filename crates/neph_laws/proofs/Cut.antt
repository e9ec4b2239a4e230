-- A worker sees no more of the journal than its domain's part.
use Rattle.std.proofs.Common.{◌≡◌, ◌+◌, true, false, cond, ◌||◌, [], ◌∷◌, refl, sym, subst}
use Rattle.std.specs.Prelude.{◌==◌}
use Rattle.std.proofs.lemmas.Bool.{or_parts, eqb-false}
use Rattle.neph_model.specs.Births.{child_own}
use Rattle.neph_model.specs.Step.{actor, own_after}
use Rattle.neph_model.specs.Weave.{items_later, makes, Tracks, cut}
use Rattle.neph_model.specs.Laws.{TracksByCut}

pub tracks_by_cut : TracksByCut
tracks_by_cut s end id p o n log [] last t = t
tracks_by_cut s end id p o n log (a ∷ acts) last t =
    let rest = cut id acts in
    let born = child_own id (actor a.noted.entry) a.lent.born in
    elim (actor a.noted.entry == id || makes id a) as (λ b. actor a.noted.entry == id || makes id a ≡ b → Tracks s end id p o n log (cond b (a ∷ rest) rest) last → Tracks s end id p o n log (a ∷ acts) last) [
      | true ↦ λ e known. (
        λ own.
            let mine = known.0 own in
            (mine.0, (mine.1.0, mine.1.1, tracks_by_cut s end id p (own_after s p mine.0 a.noted.entry a.noted.reply a.back) (n + 1) (items_later n log) acts last mine.1.2)),
        λ other. tracks_by_cut s end id p (cond (makes id a) born o) n log acts last (known.1 other),
      )
      | false ↦ λ e known.
          let parts = or_parts (actor a.noted.entry == id) (makes id a) e in (
            λ own. absurd (eqb-false (actor a.noted.entry) id parts.0 own),
            λ other. subst (λ b. Tracks s end id p (cond b born o) n log acts last) (sym parts.1) (tracks_by_cut s end id p o n log acts last known),
          )
    ] refl t
