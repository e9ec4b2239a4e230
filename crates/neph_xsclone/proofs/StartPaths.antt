-- The start nodes stand at paths.
use Rattle.std.proofs.Common.{◌≡◌, ℕ, ◌<◌, true, List, [], ◌∷◌, ◌++◌, refl, ap, ◌∙◌, append_assoc}
use Rattle.std.specs.Prelude.{codes}
use Rattle.std.specs.List.{list_all}
use Rattle.neph_base.specs.Path.{slash, is_path, is_component, parts}
use Rattle.neph_tree.specs.Places.{decimal, home}
use Rattle.neph_tree.specs.Growth.{ArePaths}
use Rattle.neph_xsclone.specs.Rewriting.{backend, device_nodes, start_nodes}
use Rattle.neph_xsclone.proofs.Paths.{path_join, home_path, backend_path, ArePaths-append}

below_home : (d : ℕ) (rest : List ℕ) → d < 64 → list_all is_component (parts rest) ≡ true → is_path (home d ++ slash ∷ rest) ≡ true
below_home d rest h is = path_join 47 108 (codes "ocal/domain/" ++ decimal d) rest (home_path d h) is

below_front : (d : ℕ) (kind rest : List ℕ) → d < 64 → list_all is_component (parts (codes "device/" ++ kind ++ rest)) ≡ true → is_path (home d ++ codes "/device/" ++ kind ++ rest) ≡ true
below_front d kind rest h is =
    ap (λ p. is_path p) (ap (λ p. p ++ rest) (append_assoc (home d) (codes "/device/") kind) ∙ append_assoc (home d) (codes "/device/" ++ kind) rest) ∙ below_home d (codes "device/" ++ kind ++ rest) h is

below_back : (kind rest : List ℕ) (d : ℕ) → d < 64 → list_all is_component (parts kind) ≡ true → list_all is_component (parts rest) ≡ true → is_path (backend kind d ++ slash ∷ rest) ≡ true
below_back kind rest d h is more = path_join 47 108 (codes "ocal/domain/0/backend/" ++ kind ++ slash ∷ decimal d) rest (backend_path kind d h is) more

device_paths : (d : ℕ) (kind : List ℕ) → d < 64 → list_all is_component (parts kind) ≡ true → list_all is_component (parts (codes "device/" ++ kind ++ codes "/backend")) ≡ true → list_all is_component (parts (codes "device/" ++ kind ++ codes "/state")) ≡ true → ArePaths (device_nodes d kind)
device_paths d kind h is front state = (
  below_front d kind (codes "/backend") h front,
  (
    below_front d kind (codes "/state") h state,
    (
      below_back kind (codes "frontend") d h is refl,
      (
        below_back kind (codes "frontend-id") d h is refl,
        (below_back kind (codes "state") d h is refl, tt),
      ),
    ),
  ),
)

pub start_paths : (d : ℕ) (name : List ℕ) → d < 64 → ArePaths (start_nodes d name)
start_paths d name h =
    let p9 = device_paths d (codes "9pfs") h refl refl refl in
    let console = device_paths d (codes "console") h refl refl refl in
    let vif = device_paths d (codes "vif") h refl refl refl in
    let two : List (List ℕ × List ℕ) = (home d ++ codes "/domid", decimal d) ∷ (home d ++ codes "/name", name) ∷ [] in
    let both : ArePaths two = (below_home d (codes "domid") h refl, (below_home d (codes "name") h refl, tt)) in
    ArePaths-append (two ++ device_nodes d (codes "9pfs") ++ device_nodes d (codes "console")) (device_nodes d (codes "vif"))
    (ArePaths-append (two ++ device_nodes d (codes "9pfs")) (device_nodes d (codes "console")) (ArePaths-append two (device_nodes d (codes "9pfs")) both p9) console) vif
