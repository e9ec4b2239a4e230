use Rattle.std.proofs.Common.{◌≡◌, ◌<◌, ℕ, true, Option, None, Some, refl, ap, ◌∙◌, eq-eqb, eqb-true}
use Rattle.std.specs.FinMap as map
use Rattle.neph_grant.specs.declared.entry.GrantEntry.{GrantEntry}
use Rattle.neph_grant.specs.declared.table.TheConstants.{GRANT_REFS}
use Rattle.neph_grant.specs.Table.{Grants, HasEntryOf}
use Rattle.neph_grant.specs.Uses.{is_of_page}
use Rattle.neph_grant.proofs.BelowLemmas.{some_below_true, some_below_at}
use Rattle.neph_grant.proofs.laws.named_by_an_entry.Goals as goal

entry_of : (t : Grants) (p r : ℕ) (o : Option GrantEntry) → r < GRANT_REFS → map.get t r ≡ o → is_of_page p o ≡ true → HasEntryOf t p
entry_of t p r None h is e = absurd (cc)
entry_of t p r (Some x) h is e = (r, x, h, is, eqb-true x.pfn p e)

pub returns : goal.returns
returns c t p = (
  λ e. let k = some_below_true GRANT_REFS (λ r. is_of_page p (map.get t r)) e in entry_of t p k.0 (map.get t k.0) k.1 refl k.2,
  λ h. some_below_at GRANT_REFS (λ r. is_of_page p (map.get t r)) h.0 h.2 (ap (is_of_page p) h.3 ∙ eq-eqb h.1.pfn p h.4),
)
