-- A page that goes over to another seat, and comes back at once.
use Rattle.std.proofs.Common.{◌≡◌, ◌≢◌, ◌∷◌, [], ◌⊎◌, inl, inr, ℕ, zero, suc, List, set, Some, sym, ap, ◌∙◌}
use Rattle.neph_pool.specs.World.{World}
use Rattle.neph_pool.proofs.Rows.{same_or_not}
use Rattle.neph_gmap.specs.declared.page.Page.{Page}
use Rattle.neph_gmap.specs.declared.page.Page.TheVariants.{Local as At, Exposed as Away}
use Rattle.neph_gmap.specs.GuestPages.{GuestPages}
use Rattle.neph_memory.specs.Pages.{frame_at}
use Rattle.neph_memory.specs.Domains.{domain_page}
use Rattle.neph_memory.specs.Exposed.{ComesBack}
use Rattle.neph_memory.proofs.Places.{some_same}

back_pages : (ps : List Page) (k f : ℕ) → frame_at ps k ≡ Some f → set (set ps k Away) k (At f) ≡ ps
unfolding frame_at
back_pages [] k f e = absurd (cc)
back_pages (At g ∷ ps) zero f e = ap (λ (h : ℕ). At h ∷ ps) (sym (some_same g f e))
back_pages (Away ∷ ps) zero f e = absurd (cc)
back_pages (x ∷ ps) (suc k) f e = ap (λ (qs : List Page). x ∷ qs) (back_pages ps k f e)

pub back : {Pool Seat : Type 0} (W : World Pool Seat) → ComesBack W
back W p q r d e b s t k f got out in' bytes = record {
  map = in'.map ∙ ap (λ (m : GuestPages). record m { pages = set m.pages k (At f) }) out.map ∙ ap (λ (ps : List Page). record d.own.map { pages = ps }) (back_pages d.own.map.pages k f got.frame);
  pages = λ x. by x (same_or_not x k);
  mappings = λ u lt. in'.mappings u lt ∙ out.mappings u lt;
  leaves = λ i lt. in'.leaves i lt ∙ out.leaves i lt;
} where
  by : (x : ℕ) → (x ≡ k) ⊎ (x ≢ k) → domain_page W r b x ≡ domain_page W p d x
  by x (inl h) = ap (domain_page W r b) h ∙ bytes ∙ sym got.bytes ∙ ap (domain_page W p d) (sym h)
  by x (inr n) = in'.others x n ∙ out.others x n
