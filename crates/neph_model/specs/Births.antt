-- The commit of a clone, the end of a domain and the second stage.
use Rattle.std.specs.Prelude.{ℕ, Bool, true, false, ◌+◌, List, [], ◌∷◌, ◌++◌, map, length, None, slice_set, option_map}
use Rattle.std.specs.Option.{option_map_or}
use Rattle.std.specs.FinMap as fm
use Rattle.neph_model.specs.Memory.{zero_page, page_with_identity, child_network_page}
use Rattle.neph_model.specs.Machine.{Own, Life, Guest, Cloned, Exposed, Shared, no_guest, life_at, guest_at, put_guest, exposed_at}
use Rattle.neph_model.specs.Own.{page_of, with_page}

-- no page is known to be a domain's alone
abbrev pub none_alone : List Bool → List Bool
none_alone alone = map (λ a. false) alone

-- The own half of a child with this id of a domain with that id: its parent's, but for its line
-- behind the clone, its marks and the numbers of its identity page.
abbrev pub child_own : ℕ → ℕ → Own → Own
child_own child id o =
    let numbers = λ (page : List ℕ). page_with_identity page child id (length o.pages) in
    record (with_page o 0 (option_map numbers (page_of o 0))) {
      line = o.line + 1;
      came = true;
      refused = false;
      alone = none_alone o.alone;
    }

-- the own half of a parent behind the commit of its clone
abbrev pub parent_own : Own → Own
parent_own o = record o {
  line = o.line + 1;
  came = false;
  refused = false;
  alone = none_alone o.alone;
}

-- exposed pages with this one changed so, where it is there
abbrev pub with_changed : Exposed → ℕ → (List ℕ → List ℕ) → Exposed
with_changed pages pfn by = option_map_or (λ page. fm.insert pages pfn (by page))
    (fm.get pages pfn) pages

-- The exposed pages of a child: its parent's, but the console page and the 9P page are zero, and
-- the network page sends nothing.
abbrev pub child_exposed : Exposed → Exposed
child_exposed exposed =
    let console = with_changed exposed 1 (λ page. zero_page) in
    let network = with_changed console 2 child_network_page in
    with_changed network 3 (λ page. zero_page)

-- what is kept of a child: its parent's grants, and none of its handles
abbrev pub child_guest : Guest → Guest
child_guest g = record no_guest { grants = g.grants }

-- the shared half behind the commit of this child: the child is live, and waits with its parent for
-- the second stage
abbrev pub commit : Shared → ℕ → ℕ → List ℕ → Shared
commit sh id child left =
    let t = sh.tables in
    let g = guest_at id t in
    record {
      lives = slice_set sh.lives child
          (option_map (λ (l : Life). record l { parent = id }) (life_at id sh.lives));
      tables = record (put_guest child (child_guest g) (put_guest id (record g { begun = left }) t))
          { waiting = t.waiting ++ record { parent = id; child = child } ∷ [] };
      pages = slice_set sh.pages child (child_exposed (exposed_at id sh.pages));
    }

-- the shared half behind the end of a domain
abbrev pub end_domain : Shared → ℕ → Shared
end_domain sh id = record {
  lives = slice_set sh.lives id None;
  tables = put_guest id no_guest sh.tables;
  pages = slice_set sh.pages id fm.empty;
}

-- the shared half behind the second stage of the oldest clone, where these wait behind it
abbrev pub join : Shared → List Cloned → Shared
join sh rest = record sh { tables = record sh.tables { waiting = rest } }
