-- The flat domain, read off the two halves: private pages by number, whichever half has them.
use Rattle.std.specs.Prelude.{ℕ, Bool, List, Option, unwrap_or, option_map, map}
use Rattle.std.specs.List.{range_with_len}
use Rattle.std.specs.Ordering.{nat_cmp}
use Rattle.std.specs.FinMap as fm
use Rattle.neph_grant.specs.Table.{Grants}
use Rattle.neph_grant.specs.Handles.{Mappings}
use Rattle.neph_model.specs.declared.memory.Mapping.{Mapping}
use Rattle.neph_model.specs.Machine.{Life, Machine, own_at, life_at, guest_at}
use Rattle.neph_model.specs.Own.{page_of}
use Rattle.neph_model.specs.Trap.{exposed_bytes}

-- a domain as a guest sees it
pub record Domain : Type 0 where
  pub id : ℕ
  pub parent : ℕ
  pub family : ℕ
  pub program : ℕ
  pub line : ℕ
  pub came : Bool
  pub refused : Bool
  pub limit : ℕ
  pub accepted : ℕ
  pub pages : List (List ℕ)
  pub vmap : fm.FinMap nat_cmp Mapping
  pub leaves : List ℕ
  pub grants : Grants
  pub handles : Mappings

-- a page of a domain, whichever half has it
abbrev pub flat_page : Machine → ℕ → ℕ → List ℕ
flat_page m id pfn = unwrap_or (page_of (own_at id m.own) pfn) (exposed_bytes m.shared.pages id pfn)

-- the domain of an id that was born so
abbrev pub flat_domain : Machine → ℕ → Life → Domain
flat_domain m id l =
    let o = own_at id m.own in
    record {
      id = id;
      parent = l.parent;
      family = l.family;
      program = l.program;
      line = o.line;
      came = o.came;
      refused = o.refused;
      limit = l.limit;
      accepted = (guest_at id m.shared.tables).accepted;
      pages = map (flat_page m id) (range_with_len 0 l.size);
      vmap = o.vmap;
      leaves = o.leaves;
      grants = (guest_at id m.shared.tables).grants;
      handles = (guest_at id m.shared.tables).handles;
    }

-- the domain of an id, where it is live
abbrev pub domain_at : ℕ → Machine → Option Domain
domain_at id m = option_map (flat_domain m id) (life_at id m.shared.lives)
