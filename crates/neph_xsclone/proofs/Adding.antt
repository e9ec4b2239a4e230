-- Nodes that are added one after the other.
use Rattle.std.proofs.Common.{◌≡◌, ℕ, List, [], ◌∷◌, ◌++◌, ◌+◌, ◌<◌, length, map, take, get_or, refl, sym, ap, ◌∙◌, append_assoc, Bor}
use Rattle.std.specs.Prelude.{codes, Vec}
use Rattle.std.proofs.lemmas.List.{map-append, take_more}
use Rattle.neph_tree.specs.Entries.{lent, shown}

-- the five nodes of a device, by what each call was handed
pub five_added : (front back id a b c d e f i g : List ℕ) (n0 n1 n2 n3 n4 n5 : List (List ℕ × List ℕ)) → a ≡ front → b ≡ back → c ≡ front → d ≡ back → e ≡ front → f ≡ back → i ≡ id → g ≡ back
    → n1 ≡ n0 ++ (a ++ codes "/backend", b) ∷ [] → n2 ≡ n1 ++ (c ++ codes "/state", codes "4") ∷ [] → n3 ≡ n2 ++ (d ++ codes "/frontend", e) ∷ [] → n4 ≡ n3 ++ (f ++ codes "/frontend-id", i) ∷ [] → n5 ≡ n4 ++ (g ++ codes "/state", codes "4") ∷ []
    → n5 ≡ n0 ++ ((front ++ codes "/backend", back) ∷ (front ++ codes "/state", codes "4") ∷ (back ++ codes "/frontend", front) ∷ (back ++ codes "/frontend-id", id) ∷ (back ++ codes "/state", codes "4") ∷ [])
five_added front back id a b c d e f i g n0 n1 n2 n3 n4 n5 ea eb ec ed ee ef ei eg h1 h2 h3 h4 h5 =
    let x1 : List ℕ × List ℕ = (front ++ codes "/backend", back) in
    let x2 : List ℕ × List ℕ = (front ++ codes "/state", codes "4") in
    let x3 : List ℕ × List ℕ = (back ++ codes "/frontend", front) in
    let x4 : List ℕ × List ℕ = (back ++ codes "/frontend-id", id) in
    let x5 : List ℕ × List ℕ = (back ++ codes "/state", codes "4") in
    let k1 : n1 ≡ n0 ++ x1 ∷ [] = h1 ∙ ap (λ (p : List ℕ). n0 ++ (p ++ codes "/backend", b) ∷ []) ea ∙ ap (λ (v : List ℕ). n0 ++ (front ++ codes "/backend", v) ∷ []) eb in
    let k2 : n2 ≡ n0 ++ (x1 ∷ x2 ∷ []) = h2 ∙ ap (λ (p : List ℕ). n1 ++ (p ++ codes "/state", codes "4") ∷ []) ec ∙ ap (λ n. n ++ x2 ∷ []) k1 ∙ append_assoc n0 (x1 ∷ []) (x2 ∷ []) in
    let k3 : n3 ≡ n0 ++ (x1 ∷ x2 ∷ x3 ∷ []) = h3 ∙ ap (λ (p : List ℕ). n2 ++ (p ++ codes "/frontend", e) ∷ []) ed ∙ ap (λ (v : List ℕ). n2 ++ (back ++ codes "/frontend", v) ∷ []) ee ∙ ap (λ n. n ++ x3 ∷ []) k2 ∙ append_assoc n0 (x1 ∷ x2 ∷ []) (x3 ∷ []) in
    let k4 : n4 ≡ n0 ++ (x1 ∷ x2 ∷ x3 ∷ x4 ∷ []) = h4 ∙ ap (λ (p : List ℕ). n3 ++ (p ++ codes "/frontend-id", i) ∷ []) ef ∙ ap (λ (v : List ℕ). n3 ++ (back ++ codes "/frontend-id", v) ∷ []) ei ∙ ap (λ n. n ++ x4 ∷ []) k3 ∙ append_assoc n0 (x1 ∷ x2 ∷ x3 ∷ []) (x4 ∷ []) in
    h5 ∙ ap (λ (p : List ℕ). n4 ++ (p ++ codes "/state", codes "4") ∷ []) eg ∙ ap (λ n. n ++ x5 ∷ []) k4 ∙ append_assoc n0 (x1 ∷ x2 ∷ x3 ∷ x4 ∷ []) (x5 ∷ [])

pub shown-push : {A : Type 0} (xs : List (Vec ℕ A × Vec ℕ A)) (x : Vec ℕ A × Vec ℕ A) → shown (xs ++ x ∷ []) ≡ shown xs ++ (x.0.items, x.1.items) ∷ []
shown-push [] x = refl
shown-push (y ∷ xs) x = ap (λ zs. (y.0.items, y.1.items) ∷ zs) (shown-push xs x)

-- one copy more of a list's items
pub more_copied : {X Y : Type 0} (copy : X → Y) (old now new : List Y) (xs : List X) (i : ℕ) (d : X) → i < length xs → now ≡ old ++ map copy (take i xs) → new ≡ now ++ copy (get_or xs i d) ∷ [] → new ≡ old ++ map copy (take (i + 1) xs)
more_copied copy old now new xs i d inside so_far pushed =
    let x = get_or xs i d in
    pushed ∙ ap (λ ys. ys ++ copy x ∷ []) so_far ∙ append_assoc old (map copy (take i xs)) (copy x ∷ [])
    ∙ ap (λ ys. old ++ ys) (sym (ap (λ ys. map copy ys) (take_more xs i d inside) ∙ map-append copy (take i xs) (x ∷ [])))

pub map_lent : {Y : Type 0} (f : List ℕ × List ℕ → Y) (xs : List (Bor (List ℕ) × Bor (List ℕ))) → map (λ e. f (e.0.now, e.1.now)) xs ≡ map f (lent xs)
map_lent f [] = refl
map_lent f (x ∷ xs) = ap (λ ys. f (x.0.now, x.1.now) ∷ ys) (map_lent f xs)
