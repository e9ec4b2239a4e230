-- The paths of XenStore.
use Rattle.std.specs.Prelude.{◌==◌, ◌&&◌, ◌||◌, ◌∷◌, [], ◌≤◌, ℕ, Bool, false, List, IsTrue, length, nat_lt, nat_le}
use Rattle.std.specs.List.{slice_split, list_all}

-- the byte `/`
abbrev pub slash : ℕ
slash = 47

-- the most bytes of an absolute path, XenStore's `XENSTORE_ABS_PATH_MAX`
abbrev pub path_max : ℕ
path_max = 3072

-- a number from low to high
abbrev pub is_between : ℕ → ℕ → ℕ → Bool
is_between low high n = nat_le low n && nat_le n high

-- a letter, a digit, `-`, `_` or `@`
abbrev pub is_path_byte : ℕ → Bool
is_path_byte b = is_between 97 122 b || is_between 65 90 b || is_between 48 57 b || b == 45
    || b == 95 || b == 64

-- one or more of these
abbrev pub is_component : List ℕ → Bool
is_component part = nat_lt 0 (length part) && list_all is_path_byte part

-- the parts of a text between its slashes
abbrev pub parts : List ℕ → List (List ℕ)
parts text = slice_split (λ b. b == slash) text

-- the components of a path, those behind its first slash; `/` has none
abbrev pub components : List ℕ → List (List ℕ)
components [] = []
components (_ ∷ []) = []
components (_ ∷ b ∷ bs) = parts (b ∷ bs)

-- begins with a slash
abbrev pub is_absolute : List ℕ → Bool
is_absolute [] = false
is_absolute (b ∷ _) = b == slash

-- `/`, or `/` and components parted by `/`
abbrev pub is_path : List ℕ → Bool
is_path bytes = is_absolute bytes && list_all is_component (components bytes)

-- a path that a guest may name: of this form, and within XenStore's limit
pub record IsStorePath (bytes : List ℕ) : Type 0 where
  pub form : IsTrue (is_path bytes)
  pub short : length bytes ≤ path_max
