-- What the rows of a guest do to its own half.
use Rattle.std.proofs.Common.{◌≡◌, ◌≢◌, ◌<◌, ◌^◌, ◌/◌, ◌||◌, ◌⊎◌, inl, inr, ℕ, Bool, true, false, nat_lt, nat_le, List, length, take, drop, is_some, Some, None, Ok, Err, OnOk, OnErr, refl, sym, ap, subst, ◌∙◌, arith, eq-eqb, ne_eqb, if◌then◌else◌, ◌==◌}
use Rattle.std.specs.declared.option.Option.{Option}
use Rattle.std.specs.declared.result.Result.{Result}
use Rattle.std.specs.FinMap as map
use Rattle.std.proofs.lemmas.List.{length-set}
use Rattle.neph_base.specs.declared.command.Command.{Command}
use Rattle.neph_base.specs.declared.command.Command.TheVariants as command
use Rattle.neph_base.specs.declared.memory.NoMemory.{NoMemory}
use Rattle.neph_base.specs.declared.command.Mode.{Mode}
use Rattle.neph_base.specs.declared.command.Mode.TheVariants.{Ro, Rw}
use Rattle.neph_base.specs.declared.reply.Reply.TheVariants as reply
use Rattle.neph_base.specs.declared.reply.Refusal.TheVariants as refusal
use Rattle.neph_base.specs.declared.sizes.TheConstants.{TABLE_ENTRIES}
use Rattle.neph_model.specs.declared.memory.Mapping.{Mapping}
use Rattle.neph_model.specs.declared.own.Own.{Own}
use Rattle.neph_model.specs.declared.told.Told.TheVariants.{Enough}
use Rattle.neph_model.specs.Memory.{page_with_bytes}
use Rattle.neph_model.specs.Own.{page_of, with_bytes, with_mapping, with_leaf, is_bad_pfn, has_leaf, leaf_step, w_step, r_step, map_step, unmap_step}
use Rattle.neph_pool.proofs.Rows.{same_or_not}
use Rattle.neph_memory.specs.Mapped.{is_bad_page, IsMapAnswer, leaf_after_map}
use Rattle.neph_memory.specs.declared.fault.MapFault.{MapFault}
use Rattle.neph_memory.specs.declared.fault.MapFault.TheVariants as fault
use Rattle.neph_memory.specs.declared.touch.Touch.{Touch}
use Rattle.neph_memory.specs.declared.touch.Touch.TheVariants as touch
use Rattle.neph_memory.specs.declared.write.WriteStep.{WriteStep}
use Rattle.neph_memory.specs.declared.write.WriteStep.TheVariants as step
use Rattle.neph_memory.specs.Steps.{read_answer, read_page, IsStepOn, IsWriteStep, page_after_step}
use Rattle.neph_memory.specs.OwnHalf.{IsReadAs}
use Rattle.neph_guest.specs.declared.row.Row.{Row}
use Rattle.neph_guest.specs.Turns.{RowDone, RowDoneOrLacks, IsRowOfMap, row_of_write, row_of_read, row_of_unmap}
use Rattle.neph_memory.proofs.HalfParts.{same, written, mapped, leafed, unmapped}

w_exposed : (o : Own) (at : ℕ) (bytes : List ℕ) (pfn : ℕ) (mode : Mode) → page_of o pfn ≡ None → w_step o Enough at bytes (Some (record { pfn = pfn; mode = mode })) ≡ None
w_exposed o at bytes pfn mode is = rw is refl

w_readonly : (o : Own) (at : ℕ) (bytes : List ℕ) (pfn : ℕ) (page : List ℕ) → page_of o pfn ≡ Some page → w_step o Enough at bytes (Some (record { pfn = pfn; mode = Ro })) ≡ Some (Err refusal.ReadOnly)
w_readonly o at bytes pfn page is = rw is refl

w_done : (o : Own) (at : ℕ) (bytes : List ℕ) (pfn : ℕ) (page : List ℕ) → page_of o pfn ≡ Some page → w_step o Enough at bytes (Some (record { pfn = pfn; mode = Rw })) ≡ Some (Ok (with_bytes o pfn page at bytes, reply.Done))
w_done o at bytes pfn page is = rw is refl

r_exposed : (o : Own) (at n pfn : ℕ) (mode : Mode) → page_of o pfn ≡ None → r_step o at n (Some (record { pfn = pfn; mode = mode })) ≡ None
r_exposed o at n pfn mode is = rw is refl

r_done : (o : Own) (at n pfn : ℕ) (mode : Mode) (page : List ℕ) → page_of o pfn ≡ Some page → r_step o at n (Some (record { pfn = pfn; mode = mode })) ≡ Some (Ok (o, reply.Bytes (take n (drop at page))))
r_done o at n pfn mode page is = rw is refl

-- from an own half whose parts read as n, P, M, L to one whose parts read as m, Q, N, K, of which `Now` is told
module _ (n : ℕ) (P : ℕ → Option (List ℕ)) (M : ℕ → Option Mapping) (L : ℕ → Option ℕ) (o : Own)
    (h : IsReadAs n P M L o.pages o.vmap o.leaves) (k : length o.alone ≡ length o.pages)
    (m : ℕ) (Q : ℕ → Option (List ℕ)) (N : ℕ → Option Mapping) (K : ℕ → Option ℕ) (e : m ≡ n)
    (Now : Own → Type 0)
    (now : (x : Own) → IsReadAs m Q N K x.pages x.vmap x.leaves → length x.alone ≡ length x.pages → Now x)
    (leaves : (g : ℕ) → g < TABLE_ENTRIES → K g ≡ L g) where
  now_same : ((q : ℕ) → Q q ≡ P q) → ((u : ℕ) → u < 2 ^ 18 → N u ≡ M u) → Now o
  now_same a b = now o (same n P M L o.pages o.vmap o.leaves h m Q N K e a b leaves) k

  now_written : (pfn at : ℕ) (bytes page : List ℕ) → P pfn ≡ Some page → ((q : ℕ) → Q q ≡ page_after_step step.Done (Some (record { pfn = pfn; mode = Rw })) P at bytes q) → ((u : ℕ) → u < 2 ^ 18 → N u ≡ M u) → Now (with_bytes o pfn page at bytes)
  now_written pfn at bytes page is a b =
      now (with_bytes o pfn page at bytes) (written n P M L o.pages o.vmap o.leaves h m Q N K e pfn at bytes page is a b leaves)
      (length-set o.alone pfn true ∙ k ∙ sym (length-set o.pages pfn (Some (page_with_bytes page at bytes))))

  module _ (c : Command) (v at : ℕ) (bytes : List ℕ) (b : (u : ℕ) → u < 2 ^ 18 → N u ≡ M u) where
    written_page : (pfn : ℕ) (mode : Mode) (y : Option (List ℕ)) → map.get o.vmap v ≡ Some (record { pfn = pfn; mode = mode }) → P pfn ≡ y
        → (s : WriteStep) → IsStepOn y (record { pfn = pfn; mode = mode }) s → ((q : ℕ) → Q q ≡ page_after_step s (Some (record { pfn = pfn; mode = mode })) P at bytes q)
        → RowDone Now o c (w_step o Enough at bytes (map.get o.vmap v)) (row_of_write s)
    written_page pfn mode None g is step.Done d a = absurd (cc)
    written_page pfn mode None g is step.Copying d a = absurd (cc)
    written_page pfn mode None g is step.Unmapped d a = absurd (cc)
    written_page pfn mode None g is step.ReadOnly d a = absurd (cc)
    written_page pfn mode None g is (step.Exposed p) d a = (ap (w_step o Enough at bytes) g ∙ w_exposed o at bytes pfn mode (h.page pfn ∙ is), now_same a b)
    written_page pfn Ro (Some page) g is step.Done d a = absurd (cc)
    written_page pfn Ro (Some page) g is step.Copying d a = absurd (cc)
    written_page pfn Ro (Some page) g is step.Unmapped d a = absurd (cc)
    written_page pfn Ro (Some page) g is step.ReadOnly d a = (ap (w_step o Enough at bytes) g ∙ w_readonly o at bytes pfn page (h.page pfn ∙ is), now_same a b)
    written_page pfn Ro (Some page) g is (step.Exposed p) d a = absurd (cc)
    written_page pfn Rw (Some page) g is step.Done d a =
        (with_bytes o pfn page at bytes, ap (w_step o Enough at bytes) g ∙ w_done o at bytes pfn page (h.page pfn ∙ is), refl, now_written pfn at bytes page is a b)
    written_page pfn Rw (Some page) g is step.Copying d a = now_same a b
    written_page pfn Rw (Some page) g is step.Unmapped d a = absurd d
    written_page pfn Rw (Some page) g is step.ReadOnly d a = absurd d
    written_page pfn Rw (Some page) g is (step.Exposed p) d a = absurd d

    write_by : (x : Option Mapping) → map.get o.vmap v ≡ x → (s : WriteStep) → IsWriteStep P x s → ((q : ℕ) → Q q ≡ page_after_step s x P at bytes q)
        → RowDone Now o c (w_step o Enough at bytes (map.get o.vmap v)) (row_of_write s)
    write_by None g step.Done d a = absurd (cc)
    write_by None g step.Copying d a = absurd (cc)
    write_by None g step.Unmapped d a = (ap (w_step o Enough at bytes) g, now_same a b)
    write_by None g step.ReadOnly d a = absurd (cc)
    write_by None g (step.Exposed p) d a = absurd (cc)
    write_by (Some to) g s d a = written_page to.pfn to.mode (P to.pfn) g refl s d a

    -- `w` at the virtual page v
    pub write_row : v < 2 ^ 18 → (s : WriteStep) → IsWriteStep P (M v) s → ((q : ℕ) → Q q ≡ page_after_step s (M v) P at bytes q)
        → RowDone Now o c (w_step o Enough at bytes (map.get o.vmap v)) (row_of_write s)
    write_row lt s d a = write_by (M v) (h.mapping v lt) s d a

  module _ (c : Command) (v at len : ℕ) (a : (q : ℕ) → Q q ≡ P q) (b : (u : ℕ) → u < 2 ^ 18 → N u ≡ M u) where
    read_page_row : (pfn : ℕ) (mode : Mode) (y : Option (List ℕ)) → map.get o.vmap v ≡ Some (record { pfn = pfn; mode = mode }) → P pfn ≡ y
        → (r : Result (List ℕ) Touch) → r ≡ read_answer P (Some (record { pfn = pfn; mode = mode })) at len → RowDone Now o c (r_step o at len (map.get o.vmap v)) (row_of_read r)
    read_page_row pfn mode None g is r d =
        subst (λ (t : Result (List ℕ) Touch). RowDone Now o c (r_step o at len (map.get o.vmap v)) (row_of_read t)) (let t : r ≡ Err (touch.Exposed pfn) = d ∙ ap (λ (z : Option (List ℕ)). read_page z pfn at len) is in sym t)
        (ap (r_step o at len) g ∙ r_exposed o at len pfn mode (h.page pfn ∙ is), now_same a b)
    read_page_row pfn mode (Some page) g is r d =
        subst (λ (t : Result (List ℕ) Touch). RowDone Now o c (r_step o at len (map.get o.vmap v)) (row_of_read t)) (let t : r ≡ Ok (take len (drop at page)) = d ∙ ap (λ (z : Option (List ℕ)). read_page z pfn at len) is in sym t)
        (o, ap (r_step o at len) g ∙ r_done o at len pfn mode page (h.page pfn ∙ is), refl, now_same a b)

    read_by : (x : Option Mapping) → map.get o.vmap v ≡ x → (r : Result (List ℕ) Touch) → r ≡ read_answer P x at len → RowDone Now o c (r_step o at len (map.get o.vmap v)) (row_of_read r)
    read_by None g r d =
        subst (λ (t : Result (List ℕ) Touch). RowDone Now o c (r_step o at len (map.get o.vmap v)) (row_of_read t)) (sym d) (ap (r_step o at len) g, now_same a b)
    read_by (Some to) g r d = read_page_row to.pfn to.mode (P to.pfn) g refl r d

    -- `r` at the virtual page v
    pub read_row : v < 2 ^ 18 → (r : Result (List ℕ) Touch) → r ≡ read_answer P (M v) at len → RowDone Now o c (r_step o at len (map.get o.vmap v)) (row_of_read r)
    read_row lt r d = read_by (M v) (h.mapping v lt) r d

-- the same where the tables change too
module _ (n : ℕ) (P : ℕ → Option (List ℕ)) (M : ℕ → Option Mapping) (L : ℕ → Option ℕ) (o : Own)
    (h : IsReadAs n P M L o.pages o.vmap o.leaves) (k : length o.alone ≡ length o.pages)
    (m : ℕ) (Q : ℕ → Option (List ℕ)) (N : ℕ → Option Mapping) (K : ℕ → Option ℕ) (e : m ≡ n)
    (Now : Own → Type 0)
    (now : (x : Own) → IsReadAs m Q N K x.pages x.vmap x.leaves → length x.alone ≡ length x.pages → Now x)
    (a : (q : ℕ) → Q q ≡ P q) (v : ℕ) (lt : v < 2 ^ 18) where
  -- nothing was mapped at v
  still_none : M v ≡ None → ((u : ℕ) → u < 2 ^ 18 → N u ≡ (if u == v then None else M u)) → (u : ℕ) → u < 2 ^ 18 → N u ≡ M u
  still_none none b u l = b u l ∙ by_key (same_or_not u v) where
    by_key : (u ≡ v) ⊎ (u ≢ v) → (if u == v then None else M u) ≡ M u
    by_key (inl s) = ap (λ (t : Bool). if t then None else M u) (eq-eqb u v s) ∙ sym (ap M s ∙ none)
    by_key (inr d) = ap (λ (t : Bool). if t then None else M u) (ne_eqb u v d)

  unmap_by : (x : Option Mapping) → map.get o.vmap v ≡ x → M v ≡ x → ((u : ℕ) → u < 2 ^ 18 → N u ≡ (if u == v then None else M u)) → ((g : ℕ) → g < TABLE_ENTRIES → K g ≡ L g)
      → RowDone Now o (command.Unmap v) (unmap_step o v (map.get o.vmap v)) (row_of_unmap (is_some x))
  unmap_by None g is b c = (ap (unmap_step o v) g, now o (same n P M L o.pages o.vmap o.leaves h m Q N K e a (still_none is b) c) k)
  unmap_by (Some to) g is b c =
      let new : Own = record o { vmap = map.remove o.vmap v } in
      (new, ap (unmap_step o v) g, refl, now new (unmapped n P M L o.pages o.vmap o.leaves h m Q N K e v lt a b c) k)

  -- `unmap`
  pub unmap_row : ((u : ℕ) → u < 2 ^ 18 → N u ≡ (if u == v then None else M u)) → ((g : ℕ) → g < TABLE_ENTRIES → K g ≡ L g)
      → RowDone Now o (command.Unmap v) (unmap_step o v (map.get o.vmap v)) (row_of_unmap (is_some (M v)))
  unmap_row b c = unmap_by (M v) (h.mapping v lt) refl b c

  module _ (pfn : ℕ) (mode : Mode) (spare : Option ℕ) where
    low : v / 512 < TABLE_ENTRIES
    low = omega arith

    bad_by : (mode : Mode) → is_bad_pfn o pfn mode ≡ is_bad_page n pfn mode
    bad_by Ro = ap (λ (c : ℕ). nat_le c pfn) h.count
    bad_by Rw = ap (λ (c : ℕ). nat_le c pfn || nat_lt pfn 4) h.count

    map_bad : is_bad_page n pfn mode ≡ true → map_step o Enough v pfn mode ≡ Some (Err refusal.BadPfn)
    map_bad bad = ap (λ (t : Bool). if t then Some (Err refusal.BadPfn) else (if has_leaf o v then Some (Ok (with_mapping o v pfn mode, reply.Done)) else leaf_step (with_leaf (with_mapping o v pfn mode) v) Enough)) (bad_by mode ∙ bad)

    map_good : is_bad_page n pfn mode ≡ false → map_step o Enough v pfn mode ≡ (if has_leaf o v then Some (Ok (with_mapping o v pfn mode, reply.Done)) else leaf_step (with_leaf (with_mapping o v pfn mode) v) Enough)
    map_good good = ap (λ (t : Bool). if t then Some (Err refusal.BadPfn) else (if has_leaf o v then Some (Ok (with_mapping o v pfn mode, reply.Done)) else leaf_step (with_leaf (with_mapping o v pfn mode) v) Enough)) (bad_by mode ∙ good)

    step_there : (leaf : ℕ) → is_bad_page n pfn mode ≡ false → L (v / 512) ≡ Some leaf → map_step o Enough v pfn mode ≡ Some (Ok (with_mapping o v pfn mode, reply.Done))
    step_there leaf good is = map_good good ∙ ap (λ (x : Bool). if x then Some (Ok (with_mapping o v pfn mode, reply.Done)) else leaf_step (with_leaf (with_mapping o v pfn mode) v) Enough) (h.group (v / 512) low ∙ ap is_some is)

    step_new : is_bad_page n pfn mode ≡ false → L (v / 512) ≡ None → map_step o Enough v pfn mode ≡ Some (Ok (with_leaf (with_mapping o v pfn mode) v, reply.Done))
    step_new good is = map_good good ∙ ap (λ (x : Bool). if x then Some (Ok (with_mapping o v pfn mode, reply.Done)) else leaf_step (with_leaf (with_mapping o v pfn mode) v) Enough) (h.group (v / 512) low ∙ ap is_some is)

    same_leaf : (leaf : ℕ) → L (v / 512) ≡ Some leaf → ((g : ℕ) → g < TABLE_ENTRIES → K g ≡ (if g == v / 512 then leaf_after_map (L g) spare else L g)) → (g : ℕ) → g < TABLE_ENTRIES → K g ≡ L g
    same_leaf leaf is c g l = c g l ∙ by_group (same_or_not g (v / 512)) where
      by_group : (g ≡ v / 512) ⊎ (g ≢ v / 512) → (if g == v / 512 then leaf_after_map (L g) spare else L g) ≡ L g
      by_group (inl s) =
          let x : L g ≡ Some leaf = ap L s ∙ is in
          ap (λ (t : Bool). if t then leaf_after_map (L g) spare else L g) (eq-eqb g (v / 512) s) ∙ ap (λ (y : Option ℕ). leaf_after_map y spare) x ∙ sym x
      by_group (inr d) = ap (λ (t : Bool). if t then leaf_after_map (L g) spare else L g) (ne_eqb g (v / 512) d)

    new_leaf : (f : ℕ) → L (v / 512) ≡ None → spare ≡ Some f → ((g : ℕ) → g < TABLE_ENTRIES → K g ≡ (if g == v / 512 then leaf_after_map (L g) spare else L g)) → (g : ℕ) → g < TABLE_ENTRIES → K g ≡ (if g == v / 512 then Some f else L g)
    new_leaf f is sp c g l = c g l ∙ by_group (same_or_not g (v / 512)) where
      by_group : (g ≡ v / 512) ⊎ (g ≢ v / 512) → (if g == v / 512 then leaf_after_map (L g) spare else L g) ≡ (if g == v / 512 then Some f else L g)
      by_group (inl s) =
          ap (λ (t : Bool). if t then leaf_after_map (L g) spare else L g) (eq-eqb g (v / 512) s) ∙ ap (λ (y : Option ℕ). leaf_after_map y spare) (ap L s ∙ is) ∙ sp
          ∙ sym (ap (λ (t : Bool). if t then Some f else L g) (eq-eqb g (v / 512) s))
      by_group (inr d) = ap (λ (t : Bool). if t then leaf_after_map (L g) spare else L g) (ne_eqb g (v / 512) d) ∙ sym (ap (λ (t : Bool). if t then Some f else L g) (ne_eqb g (v / 512) d))

    abbrev Maps : Result Unit MapFault → Type 0
    Maps r = OnOk r ((u : ℕ) → u < 2 ^ 18 → N u ≡ (if u == v then Some (record { pfn = pfn; mode = mode }) else M u))

    abbrev Leafs : Result Unit MapFault → Type 0
    Leafs r = OnOk r ((g : ℕ) → g < TABLE_ENTRIES → K g ≡ (if g == v / 512 then leaf_after_map (L g) spare else L g))

    abbrev Stays : Result Unit MapFault → Type 0
    Stays r = OnErr r (((u : ℕ) → u < 2 ^ 18 → N u ≡ M u) × ((g : ℕ) → g < TABLE_ENTRIES → K g ≡ L g))

    stay : ((u : ℕ) → u < 2 ^ 18 → N u ≡ M u) × ((g : ℕ) → g < TABLE_ENTRIES → K g ≡ L g) → Now o
    stay d = now o (same n P M L o.pages o.vmap o.leaves h m Q N K e a d.0 d.1) k

    abbrev Is : Result Row NoMemory → Type 0
    Is y = RowDoneOrLacks Now o (command.Map v pfn mode) (map_step o Enough v pfn mode) y

    map_by : (bad : Bool) (leaf sp : Option ℕ) → is_bad_page n pfn mode ≡ bad → L (v / 512) ≡ leaf → spare ≡ sp
        → (r : Result Unit MapFault) → IsMapAnswer bad leaf sp r → Maps r → Leafs r → Stays r → (y : Result Row NoMemory) → IsRowOfMap r y → Is y
    map_by true leaf sp bad is sps (Ok done) ans b c d y t = absurd (cc)
    map_by true leaf sp bad is sps (Err fault.BadPfn) ans b c d y t = subst Is (sym t) (map_bad bad, stay d)
    map_by true leaf sp bad is sps (Err fault.NeedSpare) ans b c d y t = absurd (cc)
    map_by true leaf sp bad is sps (Err fault.NoMemory) ans b c d y t = absurd (cc)
    map_by false None None good is sps (Ok done) ans b c d y t = absurd (cc)
    map_by false None None good is sps (Err fault.BadPfn) ans b c d y t = absurd (cc)
    map_by false None None good is sps (Err fault.NeedSpare) ans b c d y t = subst Is (sym t) ((bad_by mode ∙ good, h.group (v / 512) low ∙ ap is_some is), stay d)
    map_by false None None good is sps (Err fault.NoMemory) ans b c d y t = absurd (cc)
    map_by false None (Some f) good is sps (Ok done) ans b c d y t =
        let new : Own = with_leaf (with_mapping o v pfn mode) v in
        subst Is (sym t) (new, step_new good is, refl, now new (leafed n P M L o.pages o.vmap o.leaves h m Q N K e v lt a (record { pfn = pfn; mode = mode }) b (v / 512) f low is (new_leaf f is sps c)) k)
    map_by false None (Some f) good is sps (Err fault.BadPfn) ans b c d y t = absurd ans
    map_by false None (Some f) good is sps (Err fault.NeedSpare) ans b c d y t = absurd ans
    map_by false None (Some f) good is sps (Err fault.NoMemory) ans b c d (Ok row) t = absurd t
    map_by false None (Some f) good is sps (Err fault.NoMemory) ans b c d (Err lacks) t = stay d
    map_by false (Some leaf) sp good is sps (Ok done) ans b c d y t =
        let new : Own = with_mapping o v pfn mode in
        subst Is (sym t) (new, step_there leaf good is, refl, now new (mapped n P M L o.pages o.vmap o.leaves h m Q N K e v lt a (record { pfn = pfn; mode = mode }) b (same_leaf leaf is c)) k)
    map_by false (Some leaf) sp good is sps (Err fault.BadPfn) ans b c d y t = absurd ans
    map_by false (Some leaf) sp good is sps (Err fault.NeedSpare) ans b c d y t = absurd ans
    map_by false (Some leaf) sp good is sps (Err fault.NoMemory) ans b c d (Ok row) t = absurd t
    map_by false (Some leaf) sp good is sps (Err fault.NoMemory) ans b c d (Err lacks) t = stay d

    -- `map`
    pub map_row : (r : Result Unit MapFault) → IsMapAnswer (is_bad_page n pfn mode) (L (v / 512)) spare r → Maps r → Leafs r → Stays r → (y : Result Row NoMemory) → IsRowOfMap r y → Is y
    map_row r ans b c d y t = map_by (is_bad_page n pfn mode) (L (v / 512)) spare refl refl refl r ans b c d y t
