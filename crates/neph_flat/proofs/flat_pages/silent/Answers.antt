use Rattle.std.proofs.Common.{ℕ, List, ◌∙◌, ap, replicate}
use Rattle.neph_model.specs.Memory.{page_with_bytes, child_network_page}
use Rattle.neph_flat.proofs.flat_pages.silent.Goals as goal

pub returns : goal.returns
unfolding child_network_page
returns c =
    c.write-2.ensures ∙ ap (λ (p : List ℕ). page_with_bytes p 2304 (replicate 8 0)) (c.write.ensures ∙ ap (λ (p : List ℕ). page_with_bytes p 0 (replicate 1152 0)) c.in_ok-silent.ensures)
