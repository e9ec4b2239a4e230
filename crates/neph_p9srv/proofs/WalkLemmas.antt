-- Trails, name by name, and what answers fit a message.
use Rattle.std.proofs.Common.{◌≡◌, ℕ, suc, ◌+◌, ◌*◌, ◌<◌, ◌≤◌, ◌^◌, List, [], ◌∷◌, ◌++◌, length, get_or, drop, Option, Some, None, refl, ap, ◌∙◌, arith}
use Rattle.std.specs.List.{flat_map, AllByRecursion}
use Rattle.std.proofs.lemmas.List.{length-append}
use Rattle.std.proofs.lemmas.List.Concat.{flat_map-cons}
use Rattle.neph_p9msg.specs.Grammar.{qid}
use Rattle.neph_p9msg.specs.declared.msg.Qid.{Qid}
use Rattle.neph_p9msg.specs.declared.msg.MsgBody.TheVariants.{Rwalk}
use Rattle.neph_p9srv.specs.declared.tree.Node.{Node}
use Rattle.neph_p9srv.specs.State.{next, trail}
use Rattle.neph_p9srv.specs.Rules.{IsReply}
use Rattle.neph_p9srv.proofs.EntryLemmas.{front_is, at_end}

pub trail_none : (nodes : List Node) (at : ℕ) (names : List (List ℕ)) (i : ℕ) (x : List ℕ) → i < length names → x ≡ get_or names i x → next nodes at x ≡ None
    → trail nodes at (drop i names) ≡ []
unfolding trail
trail_none nodes at names i x lt e none =
    ap (trail nodes at) (front_is names i x lt e) ∙ ap (λ (o : Option ℕ). elim o [ None ↦ [] | Some n ↦ n ∷ trail nodes n (drop (suc i) names) ]) none

pub trail_some : (nodes : List Node) (at : ℕ) (names : List (List ℕ)) (i : ℕ) (x : List ℕ) (n : ℕ) → i < length names → x ≡ get_or names i x → next nodes at x ≡ Some n
    → trail nodes at (drop i names) ≡ n ∷ trail nodes n (drop (i + 1) names)
unfolding trail
trail_some nodes at names i x n lt e found =
    let k : suc i ≡ i + 1 = omega arith in
    ap (trail nodes at) (front_is names i x lt e) ∙ ap (λ (o : Option ℕ). elim o [ None ↦ [] | Some n ↦ n ∷ trail nodes n (drop (suc i) names) ]) found
    ∙ ap (λ (j : ℕ). n ∷ trail nodes n (drop j names)) k

pub trail_end : (nodes : List Node) (at : ℕ) (names : List (List ℕ)) (i : ℕ) → length names ≤ i → trail nodes at (drop i names) ≡ []
unfolding trail
trail_end nodes at names i le = ap (trail nodes at) (at_end names i le)

pub all_push : {A : Type 0} (P : A → Type 0) (xs : List A) (x : A) → AllByRecursion P xs → P x → AllByRecursion P (xs ++ x ∷ [])
all_push P [] x all here = (here, tt)
all_push P (y ∷ xs) x all here = (all.0, all_push P xs x all.1 here)

length_qids : (qids : List Qid) → length (flat_map qid qids) ≡ 13 * length qids
length_qids [] = refl
length_qids (q ∷ qids) = ap length (flat_map-cons qid q qids) ∙ length-append (qid q) (flat_map qid qids) ∙ omega (arith, length_qids qids)

pub qids_fit : (qids : List Qid) → length qids ≤ 16 → AllByRecursion (λ q. q.path < 256 ^ 8) qids → IsReply (Rwalk qids)
qids_fit qids few fits = ((omega arith, fits), omega (arith, length_qids qids))
