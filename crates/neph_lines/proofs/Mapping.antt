-- A `map` of a domain that is ready for it.
use Rattle.std.proofs.Common.{◌≡◌, ℕ, ◌/◌, ◌^◌, ◌<◌, Bool, true, false, cond, IsSome, Some, None, Ok, Err, refl, sym, ap, subst, ◌∙◌, arith}
use Rattle.std.specs.Prelude.{is_some, ◌||◌, ◌==◌}
use Rattle.std.specs.declared.option.Option.{Option}
use Rattle.std.specs.Option.{option_map}
use Rattle.neph_base.specs.declared.command.Command.{Command}
use Rattle.neph_base.specs.declared.command.Command.TheVariants as command
use Rattle.neph_base.specs.declared.command.Mode.{Mode}
use Rattle.neph_base.specs.declared.reply.Reply.{Reply}
use Rattle.neph_base.specs.declared.reply.Reply.TheVariants as reply
use Rattle.neph_base.specs.declared.reply.Refusal.TheVariants.{BadPfn}
use Rattle.neph_base.specs.declared.sizes.TheConstants.{TABLE_ENTRIES}
use Rattle.neph_model.specs.declared.own.Own.{Own}
use Rattle.neph_model.specs.declared.script.Script.{Script}
use Rattle.neph_model.specs.declared.book.Move.TheVariants.{Does, TakesSpare}
use Rattle.neph_model.specs.declared.book.Spends.{Spends}
use Rattle.neph_model.specs.declared.book.Spends.TheVariants.{Nothing, Leaf}
use Rattle.neph_model.specs.declared.told.Told.TheVariants.{Enough, Short}
use Rattle.neph_model.specs.Machine.{program_of}
use Rattle.neph_model.specs.Own.{with_mapping, with_leaf, is_bad_pfn, has_leaf, settle, local_step}
use Rattle.neph_model.specs.Books.{State, free, book_spent}
use Rattle.neph_model.specs.Turns.{with_frame, ready_move}
use Rattle.neph_runs.specs.Orderly.{Seat as Part, seat as part_at}
use Rattle.neph_pool.specs.World.{World}
use Rattle.neph_memory.specs.Domains.{domain_leaf}
use Rattle.neph_memory.specs.Mapped.{spare_after_map}
use Rattle.neph_memory.proofs.Rooming.{leaf_lacking}
use Rattle.neph_guest.specs.declared.live.Live.{Live}
use Rattle.neph_guest.specs.declared.row.LocalTurn.TheVariants as local
use Rattle.neph_guest.specs.Turns.{LacksLeaf, HasLeafRoom, HeldSpare, spare_after}
use Rattle.neph_accounts.specs.Colours.{CopiesNothing}
use Rattle.neph_machine.specs.declared.place.Place.TheVariants.{Domain}
use Rattle.neph_machine.specs.declared.machine.Machine.{Machine}
use Rattle.neph_machine.specs.Places.{place_at}
use Rattle.neph_machine.specs.StandsFor.{command_of, StandsFor}
use Rattle.neph_machine.proofs.Reached.{IsReached}
use Rattle.neph_lines.proofs.Lines.{NeedsFrame, bare_move}
use Rattle.neph_lines.proofs.Sparing.{was}
use Rattle.neph_lines.proofs.InHand.{same_reply}

-- what lacks a leaf table is a `map`
pub lacks_map : (o : Own) (c : Command) → LacksLeaf o c → (vpn : ℕ) × (pfn : ℕ) × (mode : Mode) × (c ≡ command.Map vpn pfn mode) × (is_bad_pfn o pfn mode ≡ false) × (has_leaf o vpn ≡ false)
lacks_map o (command.Map vpn pfn mode) h = (vpn, pfn, mode, refl, h.0, h.1)
lacks_map o _ h = absurd h

-- the reply of a `map` with a frame to use
map_replies : (s : Script) (p : ℕ) (o : Own) (vpn pfn : ℕ) (mode : Mode) (bad leaf : Bool) → is_bad_pfn o pfn mode ≡ bad → has_leaf o vpn ≡ leaf → (n : Own) (r : Reply) → local_step s p o Enough (command.Map vpn pfn mode) ≡ Some (n, r)
    → cond bad (reply.Refused BadPfn) reply.Done ≡ r
map_replies s p o vpn pfn mode bad leaf b e n r step = by bad leaf (sym (ap (λ (v : Bool). option_map (settle o) (cond v (Some (Err BadPfn)) (cond (has_leaf o vpn) (Some (Ok (new, reply.Done))) (Some (Ok (with_leaf new vpn, reply.Done)))))) b ∙ ap (λ (v : Bool). option_map (settle o) (cond bad (Some (Err BadPfn)) (cond v (Some (Ok (new, reply.Done))) (Some (Ok (with_leaf new vpn, reply.Done)))))) e) ∙ step) where
  new : Own
  new = with_mapping o vpn pfn mode

  by : (x y : Bool) → option_map (settle o) (cond x (Some (Err BadPfn)) (cond y (Some (Ok (new, reply.Done))) (Some (Ok (with_leaf new vpn, reply.Done))))) ≡ Some (n, r) → cond x (reply.Refused BadPfn) reply.Done ≡ r
  by true y h = let did : Own × Reply = (n, r) in same_reply _ did h
  by false true h = let did : Own × Reply = (n, r) in same_reply _ did h
  by false false h = let did : Own × Reply = (n, r) in same_reply _ did h

none_is : {A : Type 0} (o : Option A) → is_some o ≡ false → o ≡ None
none_is None e = refl
none_is (Some x) e = absurd (cc)

after_some : (leaf spare : Option ℕ) → is_some leaf ≡ true → spare_after_map leaf spare ≡ spare
after_some None spare e = absurd (cc)
after_some (Some f) spare e = refl

module _ {Pool Seat : Type 0} (W : World Pool Seat) (old : Machine Pool Seat) (st : State) (reached : IsReached old.script st) (stands : StandsFor W old st) (id : ℕ) (l : Live Pool Seat) (here : place_at id old.places.items ≡ Domain l) where
  abbrev part : Part
  part = part_at st id

  -- the domain does the command in this turn, behind which its spare is this
  abbrev pub IsSpent : Option ℕ → Command → Type 0
  IsSpent spare c = (spends : Spends) × (ready_move (free old.script st) st.books part.own part.book c ≡ Does Enough spends) × CopiesNothing spends × ((book_spent spends st.books.fresh part.book).spare ≡ is_some spare)

  -- its spare is as it was
  pub nothing_spent : (spare : Option ℕ) (c : Command) → ready_move (free old.script st) st.books part.own part.book c ≡ Does Enough Nothing → spare ≡ l.local.own.spare → IsSpent spare c
  nothing_spent spare c move e = let is = was W old st reached stands id l here in (Nothing, move, tt, is.spare ∙ ap is_some (sym e))

  -- there is room for another leaf table
  pub leaf_room : (c : Command) → HasLeafRoom W old.pool l.local c
  leaf_room (command.Map vpn pfn mode) = λ lt none.
      let is = was W old st reached stands id l here in
      let few = is.stands.memory.made.few in
      let lacks = leaf_lacking (W.entries old.pool l.local.seat) l.local.tables.root (vpn / TABLE_ENTRIES) TABLE_ENTRIES (omega (arith, lt)) none in
      let cap = stands.cap in
      omega (arith, few, lacks, cap)
  leaf_room _ = tt

  module _ (vpn pfn : ℕ) (mode : Mode) where
    move_by : (bad leaf : Bool) → is_bad_pfn part.own pfn mode ≡ bad → has_leaf part.own vpn ≡ leaf → ready_move (free old.script st) st.books part.own part.book (command.Map vpn pfn mode) ≡ cond (bad || leaf) (Does Enough Nothing) (with_frame (free old.script st) part.book Leaf)
    move_by bad leaf b e =
        ap (λ (v : Bool). cond (v || has_leaf part.own vpn) (Does Enough Nothing) (with_frame (free old.script st) part.book Leaf)) b ∙ ap (λ (v : Bool). cond (bad || v) (Does Enough Nothing) (with_frame (free old.script st) part.book Leaf)) e

    abbrev leaf_is : Option ℕ
    leaf_is = domain_leaf W old.pool l.local (vpn / TABLE_ENTRIES)

    -- a `map` that its domain did by itself
    pub map_spent : (n : Own) (r : Reply) (spare : Option ℕ) → local_step old.script (program_of part.life) part.own Enough (command.Map vpn pfn mode) ≡ Some (n, r)
        → spare ≡ spare_after W old.pool l.local (command.Map vpn pfn mode) (local.Did r) → HeldSpare W old.pool l.local (command.Map vpn pfn mode) (local.Did r) → IsSpent spare (command.Map vpn pfn mode)
    map_spent n r spare step after held = by (is_bad_pfn part.own pfn mode) (has_leaf part.own vpn) refl refl where
      replies : (bad leaf : Bool) → is_bad_pfn part.own pfn mode ≡ bad → has_leaf part.own vpn ≡ leaf → cond bad (reply.Refused BadPfn) reply.Done ≡ r
      replies bad leaf b e = map_replies old.script (program_of part.life) part.own vpn pfn mode bad leaf b e n r step

      after_done : (v : Reply) → v ≡ r → spare ≡ spare_after W old.pool l.local (command.Map vpn pfn mode) (local.Did v)
      after_done v e = subst (λ (x : Reply). spare ≡ spare_after W old.pool l.local (command.Map vpn pfn mode) (local.Did x)) (sym e) after

      held_done : reply.Done ≡ r → (vpn < 2 ^ 18) × (domain_leaf W old.pool l.local (vpn / TABLE_ENTRIES) ≡ None → IsSome l.local.own.spare)
      held_done e = subst (λ (x : Reply). HeldSpare W old.pool l.local (command.Map vpn pfn mode) (local.Did x)) (sym e) held

      by : (bad leaf : Bool) → is_bad_pfn part.own pfn mode ≡ bad → has_leaf part.own vpn ≡ leaf → IsSpent spare (command.Map vpn pfn mode)
      by true leaf b e = nothing_spent spare (command.Map vpn pfn mode) (move_by true leaf b e) (after_done (reply.Refused BadPfn) (replies true leaf b e))
      by false true b e =
          let is = was W old st reached stands id l here in
          let low = is.own.own.memory.low (vpn / TABLE_ENTRIES) e in
          let some : is_some leaf_is ≡ true = sym (is.own.own.memory.group (vpn / TABLE_ENTRIES) low) ∙ e in
          nothing_spent spare (command.Map vpn pfn mode) (move_by false true b e) (after_done reply.Done (replies false true b e) ∙ after_some leaf_is l.local.own.spare some)
      by false false b e =
          let is = was W old st reached stands id l here in
          let had = held_done (replies false false b e) in
          let lt : vpn / TABLE_ENTRIES < TABLE_ENTRIES = omega (arith, had.0) in
          let none : leaf_is ≡ None = none_is leaf_is (sym (is.own.own.memory.group (vpn / TABLE_ENTRIES) lt) ∙ e) in
          let full : part.book.spare ≡ true = is.spare ∙ had.1 none in
          let bare : spare ≡ None = after_done reply.Done (replies false false b e) ∙ ap (λ (o : Option ℕ). spare_after_map o l.local.own.spare) none in (
            Leaf,
            move_by false false b e ∙ ap (λ (v : Bool). cond v (Does Enough Leaf) (cond (free old.script st == 0) (Does Short Nothing) TakesSpare)) full,
            tt,
            ap is_some (sym bare),
          )

    -- a `map` that needs a leaf table
    module _ (c_is : command_of old.script (part_at st id) ≡ command.Map vpn pfn mode) (good : is_bad_pfn (part_at st id).own pfn mode ≡ false) (lacks : has_leaf (part_at st id).own vpn ≡ false) where
      pub map_needs : NeedsFrame old.script st id
      map_needs = record {
        short = ap (local_step old.script (program_of part.life) part.own Short) c_is ∙ rw (good, lacks) refl;
        refused = rw c_is refl;
        later = λ e. let z = sym c_is ∙ e in cc;
      }

      pub map_bare : part.book.spare ≡ false → ready_move (free old.script st) st.books part.own part.book (command.Map vpn pfn mode) ≡ bare_move (free old.script st)
      map_bare bare = move_by false false good lacks ∙ ap (λ (v : Bool). cond v (Does Enough Leaf) (cond (free old.script st == 0) (Does Short Nothing) TakesSpare)) bare
