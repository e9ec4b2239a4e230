-- Why a domain may not change the store.
use Rattle.std.specs.Prelude.{◌≡◌, ◌⊎◌, true, ℕ, Bool, not, List, Option, Some, None, nat_lt, if◌then◌else◌}
use Rattle.std.specs.FinMap.{contains_key, len}
use Rattle.neph_tree.specs.Places.{is_within, home}
use Rattle.neph_tree.specs.Nodes.{Nodes, subtree, with_node}
use Rattle.neph_tree.specs.declared.refusals.WriteRefused.{WriteRefused}
use Rattle.neph_tree.specs.declared.refusals.RemoveRefused.{RemoveRefused}
use Rattle.neph_tree.specs.declared.refusals.WriteRefused.TheVariants as write
use Rattle.neph_tree.specs.declared.refusals.RemoveRefused.TheVariants as remove
use Rattle.neph_tree.specs.declared.refusals.TheConstants.{DOMAIN_NODES}

-- more than 256 nodes
abbrev pub is_over : Nodes → List ℕ → Bool
is_over nodes home = nat_lt DOMAIN_NODES (len (subtree nodes home))

-- a write within a domain's home fails for want of memory, or since the home would be too large
abbrev pub FailsWithin : Nodes → ℕ → WriteRefused → Type 0
FailsWithin after me why =
    (why ≡ write.NoMemory) ⊎ ((why ≡ write.NodeLimit) × (is_over after (home me) ≡ true))

-- a domain writes within its own home, which may not come to more than 256 nodes
abbrev pub write_refusal : Nodes → ℕ → List ℕ → List ℕ → Option WriteRefused
write_refusal nodes me path value =
    if not (is_within (home me) path) then Some write.NotYours
    else if is_over (with_node nodes path value) (home me) then Some write.NodeLimit
    else None

-- it removes what is there within its own home
abbrev pub remove_refusal : Nodes → ℕ → List ℕ → Option RemoveRefused
remove_refusal nodes me path =
    if not (is_within (home me) path) then Some remove.NotYours
    else if contains_key nodes path then None
    else Some remove.NoPath
