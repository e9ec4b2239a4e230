-- The turn of a guest, up to its calls of the hypervisor.
use Rattle.std.proofs.Common.{◌≡◌, ◌≢◌, ◌<◌, ◌≤◌, ◌^◌, ◌/◌, ◌%◌, ◌⊎◌, inl, inr, ℕ, List, [], ◌∷◌, Some, None, Result, Ok, Err, IfOk, IfSome, OnErr, refl, sym, ap, subst, ◌∙◌, take, drop}
use Rattle.std.proofs.lemmas.Bool.{cases_lt}
use Rattle.std.specs.Prelude.{option_map, MatchResult}
use Rattle.std.specs.declared.option.Option.{Option}
use Rattle.std.specs.FinMap as map
use Rattle.std.specs.Result.{IsErr}
use Rattle.neph_base.specs.declared.command.Command.{Command}
use Rattle.neph_base.specs.declared.command.Command.TheVariants as command
use Rattle.neph_base.specs.declared.memory.NoMemory.{NoMemory}
use Rattle.neph_base.specs.declared.reply.Reply.TheVariants as reply
use Rattle.neph_model.specs.declared.memory.Mapping.{Mapping}
use Rattle.neph_model.specs.declared.own.Own.{Own}
use Rattle.neph_model.specs.declared.script.Program.{Program}
use Rattle.neph_model.specs.declared.script.Script.{Script}
use Rattle.neph_model.specs.declared.told.Told.TheVariants.{Enough}
use Rattle.neph_model.specs.Programs.{program_at}
use Rattle.neph_model.specs.Own.{LocalResult, local_step, mapping_at, page_of, r_step, settle}
use Rattle.neph_pool.specs.declared.entry.Entry.{Entry}
use Rattle.neph_pool.specs.World.{World}
use Rattle.neph_memory.specs.declared.dom_local.DomLocal.{DomLocal}
use Rattle.neph_memory.specs.Memory.{bytes_for}
use Rattle.neph_memory.specs.declared.write.Write.{Write}
use Rattle.neph_memory.specs.Domains.{IsUnchanged}
use Rattle.neph_memory.specs.OwnHalf.{IsMemoryOf}
use Rattle.neph_memory.specs.Pages.{frame_at}
use Rattle.neph_guest.specs.declared.live.Live.{Live}
use Rattle.neph_guest.specs.declared.live.Stage.{Stage}
use Rattle.neph_guest.specs.declared.live.Stage.TheVariants.{Ready, Copying, Forking}
use Rattle.neph_guest.specs.declared.row.CopyTurn.TheVariants as copy
use Rattle.neph_guest.specs.declared.row.LocalTurn.{LocalTurn}
use Rattle.neph_guest.specs.declared.row.LocalTurn.TheVariants as turn
use Rattle.neph_guest.specs.OwnHalf.{IsOwnHalf}
use Rattle.neph_guest.specs.Turned.{HasLacked, HasTried, IsAlone}
use Rattle.neph_guest.specs.Turns.{HandDone, HeldSpare, IsLineInHand, IsMap, IsWithoutSpare, LookDone, MayAsk, PlaceDone, TurnDoneOrLacks, WaitsForFrame, spare_after, stage_after}

-- an answer of want of memory
pub err_is : {A : Type 0} (r : Result A NoMemory) (n : NoMemory) → IsErr r → r ≡ Err n
err_is (Ok a) n h = absurd (cc)
err_is (Err m) n h = refl

-- a script of this program alone
abbrev pub script_of : Program → Script
script_of program = record { frames = 0; programs = program ∷ []; starts = []; turns = [] }

no_map : {A B : Type 0} (f : A → B) (x : Option A) → option_map f x ≡ None → x ≡ None
no_map f None e = refl
no_map f (Some a) e = absurd (cc)

no_bytes : (es : List (Option Entry)) (f : Option ℕ) → bytes_for es f ≡ None → f ≡ None
no_bytes es None e = refl
no_bytes es (Some f) e = absurd (cc)

read_none : (o : Own) (at n : ℕ) (to : Mapping) (page : Option (List ℕ)) → page_of o to.pfn ≡ page → r_step o at n (Some to) ≡ None → page ≡ None
read_none o at n to None is e = refl
read_none o at n to (Some page) is e = let z : by (Some page) ≡ None = sym (ap by is) ∙ e in absurd (cc) where
  by : Option (List ℕ) → LocalResult
  by None = None
  by (Some bytes) = Some (Ok (o, reply.Bytes (take n (drop at bytes))))

-- a virtual page that an own half maps is one that there is
mapped_low : (o : Own) (v : ℕ) (to : Mapping) → (2 ^ 18 ≤ v → map.get o.vmap v ≡ None) → map.get o.vmap v ≡ Some to → (v < 2 ^ 18) ⊎ (2 ^ 18 ≤ v) → v < 2 ^ 18
mapped_low o v to past at (inl lt) = lt
mapped_low o v to past at (inr le) = let z : None ≡ Some to = sym (past le) ∙ at in absurd (cc)

-- what the own half of a memory can't do may be asked of a hypervisor
pub asks_may : {Pool Seat : Type 0} (W : World Pool Seat) (p : Pool) (d : DomLocal Pool Seat) (o : Own) → IsMemoryOf W p d o.pages o.vmap o.leaves → (s : Script) (n : ℕ) (c : Command) → c ≢ command.Exit → local_step s n o Enough c ≡ None → MayAsk W p d c
asks_may W p d o mem s n (command.R addr len) far e = by (mapping_at o addr) refl (no_map (settle o) (r_step o (addr % 4096) len (mapping_at o addr)) e) where
  by : (m : Option Mapping) → mapping_at o addr ≡ m → r_step o (addr % 4096) len m ≡ None → MayAsk W p d (command.R addr len)
  by None at k = absurd (cc)
  by (Some to) at k =
      let lt = mapped_low o (addr / 4096) to (mem.past (addr / 4096)) at (cases_lt (addr / 4096) (2 ^ 18)) in
      record {
        to = to;
        maps = sym (mem.mapping (addr / 4096) lt) ∙ at;
        away = no_bytes (W.entries p d.seat) (frame_at d.own.map.pages to.pfn) (sym (mem.page to.pfn) ∙ read_none o (addr % 4096) len to (page_of o to.pfn) refl k);
      }
asks_may W p d o mem s n command.Exit far e = absurd (far refl)
asks_may W p d o mem s n _ far e = tt

-- a line that lacks a frame leaves the spare that there was
spare_lacks : {Pool Seat : Type 0} (W : World Pool Seat) (p : Pool) (d : DomLocal Pool Seat) (c : Command) → spare_after W p d c turn.LacksFrame ≡ d.own.spare
spare_lacks W p d (command.Map vpn pfn mode) = refl
spare_lacks W p d _ = refl

-- a guest with no write and no clone in flight is ready
pub stage_ready : (s : Stage) → s ≢ Copying → s ≢ Forking → s ≡ Ready
stage_ready Ready a b = refl
stage_ready Copying a b = absurd (a refl)
stage_ready Forking a b = absurd (b refl)

-- a line with a write in hand is no exit
pub hand_no_exit : {Pool Seat : Type 0} (W : World Pool Seat) (p : Pool) (d : DomLocal Pool Seat) (c : Command) → IsLineInHand W p d c → c ≢ command.Exit
hand_no_exit W p d (command.W addr bytes) h e = absurd (cc)
hand_no_exit W p d _ h e = absurd h

-- a guest at its exit with no clone in flight is ready
pub exit_ready : {Pool Seat : Type 0} (W : World Pool Seat) (p : Pool) (d : DomLocal Pool Seat) (c : Command) (s : Stage) → c ≡ command.Exit → s ≢ Forking → (s ≡ Copying → IsLineInHand W p d c) → s ≡ Ready
exit_ready W p d c s e far hand = stage_ready s (λ k. hand_no_exit W p d c (hand k) e) far

-- what a write in hand that lacks a frame leaves
pub waits_same : {Pool Seat : Type 0} (W : World Pool Seat) (p : Pool) (d : DomLocal Pool Seat) (q : Pool) (e : DomLocal Pool Seat) (c : Command) → IsLineInHand W p d c → PlaceDone W p d q e copy.LacksFrame → IsUnchanged W p d q e × (d.own.spare ≡ None)
waits_same W p d q e (command.W addr bytes) h place =
    let w = subst (λ (x : Option Write). IfSome x (λ k. WaitsForFrame W p d q e k.pfn)) h.hand place in
    (w.same, w.spare)
waits_same W p d q e _ h place = absurd h

-- from the guest l in the pool p to the guest m in the pool q, which has tried its line c
module _ {Pool Seat : Type 0} (W : World Pool Seat) (p : Pool) (l : Live Pool Seat) (q : Pool) (m : Live Pool Seat) (program : Program) (c : Command) where
  line_kept : (o : Own) → IsOwnHalf W p l o → IsOwnHalf W q m o → l.guest.line < 65535 → m.guest.line < 65535
  line_kept o h k lt = subst (λ (n : ℕ). n < 65535) (sym h.line ∙ k.line) lt

  -- what it came to, or that memory ran out
  pub tried_or_lacked : IsAlone W p l q m → (r : Result LocalTurn NoMemory)
      → ((s : Script) (n : ℕ) (o : Own) → program_at s n ≡ Some program → IsOwnHalf W p l o → TurnDoneOrLacks (IsOwnHalf W q m) o c (local_step s n o Enough c) r)
      → IfOk r (λ t. HandDone W q m.local c l.local.hand t) → IfOk r (λ t. LookDone W p l.local m.local.own c t) → IfOk r (λ t. m.local.own.spare ≡ spare_after W p l.local c t)
      → IfOk r (λ t. HeldSpare W p l.local c t) → IfOk r (λ t. IsWithoutSpare t l.local.own.spare) → IfOk r (λ t. m.guest.stage ≡ stage_after l.guest.stage t)
      → m.local.own.map.pages ≡ l.local.own.map.pages → OnErr r (IsMap c) → OnErr r (IsUnchanged W p l.local q m.local) → OnErr r (m.guest ≡ l.guest)
      → MatchResult r (λ t. HasTried W p l q m program c t) (λ lacks. HasLacked W p l q m c)
  tried_or_lacked alone (Ok t) done hand look spare held lacks stage pages map memory guest =
      record { alone = alone; done = done; hand = hand; look = look; spare = spare; held = held; lacks = lacks; stage = stage; pages = pages }
  tried_or_lacked alone (Err none) done hand look spare held lacks stage pages map memory guest = record { alone = alone; map = map; memory = memory; guest = guest }

  -- it lacks a frame, and may ask for one
  pub lacks_spare : HasTried W p l q m program c turn.LacksFrame → m.local.own.spare ≡ None
  lacks_spare t = t.spare ∙ spare_lacks W p l.local c ∙ t.lacks

  pub lacks_room : HasTried W p l q m program c turn.LacksFrame → (o : Own) → IsOwnHalf W p l o → l.guest.line < 65535 → m.guest.line < 65535
  lacks_room t o h lt = line_kept o h (t.done (script_of program) 0 o refl h).1 lt

  -- it may ask its line of a hypervisor
  pub asks_trap : HasTried W p l q m program c turn.Asks → (o : Own) → IsOwnHalf W p l o → c ≢ command.Exit → MayAsk W q m.local c
  asks_trap t o h far =
      let done = t.done (script_of program) 0 o refl h in
      asks_may W q m.local o done.1.own.memory (script_of program) 0 c far done.0

  pub asks_room : HasTried W p l q m program c turn.Asks → (o : Own) → IsOwnHalf W p l o → l.guest.line < 65535 → m.guest.line < 65535
  asks_room t o h lt = line_kept o h (t.done (script_of program) 0 o refl h).1 lt
