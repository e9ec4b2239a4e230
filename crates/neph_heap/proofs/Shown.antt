-- The bytes of exposed pages, as words of frames change.
use Rattle.std.proofs.Common.{◌≡◌, ℕ, ◌+◌, ◌<◌, List, [], ◌∷◌, ◌++◌, map, refl, ap, arith}
use Rattle.std.specs.List.{flat_map}
use Rattle.std.specs.FinMap as fm
use Rattle.std.specs.declared.option.Option.{Option}
use Rattle.neph_pool.specs.declared.entry.Entry.{Entry}
use Rattle.neph_pool.specs.Entries.{words_at}
use Rattle.neph_pool.specs.Bytes.{bytes_of}
use Rattle.neph_heap.specs.declared.exposed_frame.ExposedFrame.{ExposedFrame}
use Rattle.neph_heap.specs.Lists.{frames_of, exposed_frames}
use Rattle.neph_heap.specs.Holds.{times}
use Rattle.neph_heap.specs.Pages.{page_in, page_map, pages_in}
use Rattle.neph_heap.proofs.Counting.{one_same, times_cons, times_append}

pub pairs_same : (es fs : List (Option Entry)) (xs : List ExposedFrame) → ((f : ℕ) → 0 < times f (frames_of xs) → words_at fs f ≡ words_at es f) → map (page_in fs) xs ≡ map (page_in es) xs
pairs_same es fs [] same = refl
pairs_same es fs (x ∷ xs) same =
    let first : page_in fs x ≡ page_in es x = ap (λ (ws : List ℕ). (x.pfn, bytes_of ws)) (same x.frame (omega (arith, times_cons x.frame x.frame (frames_of xs), one_same x.frame x.frame refl))) in
    let rest = pairs_same es fs xs (λ f lt. same f (omega (arith, times_cons f x.frame (frames_of xs)))) in
    λ i. first i ∷ rest i

-- some pages, the words of whose frames are as before
pub page_map_same : (es fs : List (Option Entry)) (xs : List ExposedFrame) → ((f : ℕ) → 0 < times f (frames_of xs) → words_at fs f ≡ words_at es f) → page_map fs xs ≡ page_map es xs
unfolding page_map
page_map_same es fs xs same = ap (λ (ps : List (ℕ × List ℕ)). fm.from_entries ps) (pairs_same es fs xs same)

-- all pages
pub pages_same : (es fs : List (Option Entry)) (xss : List (List ExposedFrame)) → ((f : ℕ) → 0 < times f (exposed_frames xss) → words_at fs f ≡ words_at es f) → pages_in fs xss ≡ pages_in es xss
unfolding pages_in exposed_frames
pages_same es fs [] same = refl
pages_same es fs (xs ∷ xss) same =
    let cut : (f : ℕ) → times f (frames_of xs ++ flat_map frames_of xss) ≡ times f (frames_of xs) + times f (flat_map frames_of xss) = λ f. times_append f (frames_of xs) (flat_map frames_of xss) in
    let first = page_map_same es fs xs (λ f lt. same f (omega (arith, cut f))) in
    let rest = pages_same es fs xss (λ f lt. same f (omega (arith, cut f))) in
    λ i. first i ∷ rest i
