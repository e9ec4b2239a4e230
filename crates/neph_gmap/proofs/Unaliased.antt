-- The page of a frame.
use Rattle.std.proofs.Common.{◌≡◌, ◌<◌, ℕ, Bool, true, false, List, length, get_or, slice_get, IfSome, Some, None, cond, nat_lt, refl, sym, ap, ◌∙◌, arith, eq-eqb}
use Rattle.std.proofs.lemmas.Bool.{eqb-true, lt-ltb}
use Rattle.std.proofs.lemmas.List.Sums.{position_or_len_is}
use Rattle.std.proofs.lemmas.List.Quantifiers.{position-Some}
use Rattle.std.proofs.lemmas.Option.{slice_get-get_or, slice_get_within, get_or_from_slice_get}
use Rattle.std.specs.List.{position_or_len}
use Rattle.std.specs.declared.option.Option.{Option}
use Rattle.neph_gmap.specs.declared.page.Page.{Page}
use Rattle.neph_gmap.specs.declared.page.Page.TheVariants.{Local, Exposed}
use Rattle.neph_gmap.specs.GuestPages.{lies_in, page_in, IsUnaliased}

lies_local : (f : ℕ) (x : Page) → lies_in f x ≡ true → x ≡ Local f
lies_local f (Local g) e = ap Local (eqb-true g f e)
lies_local f Exposed e = absurd (cc)

-- the place that a test found
pub lies_there : (ps : List Page) (p f : ℕ) → p < length ps → lies_in f (get_or ps p Exposed) ≡ true → slice_get ps p ≡ Some (Local f)
lies_there ps p f lt e = slice_get-get_or ps p Exposed lt ∙ ap Some (lies_local f (get_or ps p Exposed) e)

local_lies : (f : ℕ) (x : Page) → x ≡ Local f → lies_in f x ≡ true
local_lies f x e = ap (lies_in f) e ∙ eq-eqb f f refl

-- the first page that lies in a frame does
first_lies : (ps : List Page) (p f : ℕ) → page_in f ps ≡ Some p → slice_get ps p ≡ Some (Local f)
first_lies ps p f e = let h = position-Some (lies_in f) ps p Exposed e in lies_there ps p f h.0 h.1

pub first_there : (ps : List Page) (f : ℕ) (r : Option ℕ) → r ≡ page_in f ps → IfSome r (λ p. slice_get ps p ≡ Some (Local f))
first_there ps f (Some p) e = first_lies ps p f (sym e)
first_there ps f None e = tt

before_false : (ps : List Page) (p k f : ℕ) (b : Bool) → IsUnaliased ps → slice_get ps p ≡ Some (Local f) → k < p → p < length ps → lies_in f (get_or ps k Exposed) ≡ b → b ≡ false
before_false ps p k f true apart at lt fit e = absurd (let same : k ≡ p = apart k p f (lies_there ps k f (omega arith) e) at in omega arith)
before_false ps p k f false apart at lt fit e = refl

-- where no two pages lie in one frame, a page that lies in a frame is the first
pub first_unaliased : (ps : List Page) (p f : ℕ) → IsUnaliased ps → slice_get ps p ≡ Some (Local f) → page_in f ps ≡ Some p
first_unaliased ps p f apart at =
    let fit : p < length ps = slice_get_within ps p (Local f) at in
    let place : position_or_len (lies_in f) ps ≡ p = position_or_len_is (lies_in f) ps p Exposed (omega arith)
    (λ k lt. before_false ps p k f (lies_in f (get_or ps k Exposed)) apart at lt fit refl)
    (λ l. local_lies f (get_or ps p Exposed) (get_or_from_slice_get ps p (Local f) Exposed at)) in
    ap (λ (k : ℕ). cond (nat_lt k (length ps)) (Some k) None) place ∙ ap (λ (b : Bool). cond b (Some p) None) (lt-ltb p (length ps) fit)
