-- Where a path stands below another, and the paths of the domains.
use Rattle.std.specs.Prelude.{◌≡◌, ◌<◌, true, drop, get_or, ◌==◌, ◌&&◌, ◌||◌, ◌∷◌, ◌++◌, ◌+◌, ◌/◌, ◌%◌, [], ℕ, Bool, not, List, Option, Some, None, length, map, is_some, nat_lt, nat_eq, codes, if◌then◌else◌}
use Rattle.std.specs.List.{list_all}
use Rattle.std.specs.Cmp.Lexicographic.{pointwise}
use Rattle.neph_base.specs.Path.{slash, is_path}

-- the path without components
abbrev pub root : List ℕ
root = slash ∷ []

-- what a text has behind a front, None where it begins otherwise
abbrev pub behind : List ℕ → List ℕ → Option (List ℕ)
behind [] text = Some text
behind (_ ∷ _) [] = None
behind (b ∷ front) (c ∷ text) = if c == b then behind front text else None

-- what the paths below this one begin with: the path and a slash, where it isn't `/` itself
abbrev pub front_of_children : List ℕ → List ℕ
front_of_children top = if length top == 1 then top else top ++ slash ∷ []

-- what stands behind it in a path below it
abbrev pub rest_below : List ℕ → List ℕ → Option (List ℕ)
rest_below top path = behind (front_of_children top) path

-- the path at the top, or one below it
abbrev pub is_within : List ℕ → List ℕ → Bool
is_within top path = pointwise nat_eq path top || is_some (rest_below top path)

-- one component
abbrev pub is_name : List ℕ → Bool
is_name text = nat_lt 0 (length text) && list_all (λ b. not (b == slash)) text

-- the text, where it is one component
abbrev pub as_name : Option (List ℕ) → Option (List ℕ)
as_name None = None
as_name (Some text) = if is_name text then Some text else None

-- the name of a child of this directory, None of every other path
abbrev pub child_name : List ℕ → List ℕ → Option (List ℕ)
child_name directory path = as_name (rest_below directory path)

-- the path of the child of this name
abbrev pub child_path : List ℕ → List ℕ → List ℕ
child_path directory name = front_of_children directory ++ name

-- a path is the path of a child of this name
pub record IsChild (path directory name : List ℕ) : Type 0 where
  pub form : is_path directory ≡ true
  pub one : is_name name ≡ true
  pub whole : path ≡ child_path directory name

-- a slash stands at this place, and none behind it
pub record IsLastSlash (path : List ℕ) (end : ℕ) : Type 0 where
  pub inside : end < length path
  pub there : get_or path end 0 ≡ slash
  pub last : list_all (λ b. not (b == slash)) (drop (end + 1) path) ≡ true

-- the fronts of a text that end before a slash, shortest first
abbrev pub cuts : List ℕ → List (List ℕ)
cuts [] = []
cuts (b ∷ text) = (if b == slash then [] ∷ [] else []) ++ map (λ front. b ∷ front) (cuts text)

-- the paths above this one, from `/` on
abbrev pub ancestors : List ℕ → List (List ℕ)
ancestors [] = []
ancestors (_ ∷ []) = []
ancestors (b ∷ c ∷ text) = root ∷ map (λ front. b ∷ front) (cuts (c ∷ text))

-- a number below 100 in decimal
abbrev pub decimal : ℕ → List ℕ
decimal n = if nat_lt n 10 then (48 + n) ∷ [] else (48 + n / 10) ∷ (48 + n % 10) ∷ []

-- `/local/domain/D`
abbrev pub home : ℕ → List ℕ
home d = codes "/local/domain/" ++ decimal d
