-- What is done is answered with no refusal, row by row; so a refused line changes its domain's line and mark alone.
use Rattle.std.proofs.Common.{◌≡◌, ℕ, ◌+◌, ◌%◌, Bool, true, false, cond, List, set, Option, Some, None, Ok, Err, refl, sym, ap, ◌∙◌}
use Rattle.std.specs.Prelude.{⊤, option_map}
use Rattle.std.specs.FinMap as fm
use Rattle.neph_base.specs.declared.command.Mode.{Mode}
use Rattle.neph_base.specs.declared.command.Mode.TheVariants.{Ro, Rw}
use Rattle.neph_model.specs.declared.memory.Mapping.{Mapping}
use Rattle.neph_model.specs.declared.told.Told.{Told}
use Rattle.neph_model.specs.declared.told.Told.TheVariants.{Enough, Short, Free}
use Rattle.neph_base.specs.declared.command.Command.{Command}
use Rattle.neph_base.specs.declared.command.Command.TheVariants as command
use Rattle.neph_base.specs.declared.reply.Reply.{Reply}
use Rattle.neph_base.specs.declared.reply.Reply.TheVariants as reply
use Rattle.neph_base.specs.declared.reply.Reply.TheVariants.{Refused}
use Rattle.neph_base.specs.declared.reply.Refusal.{Refusal}
use Rattle.neph_base.specs.declared.reply.Refusal.TheVariants as refusal
use Rattle.neph_base.specs.declared.reply.Entry.TheVariants.{Line}
use Rattle.neph_model.specs.declared.script.Script.{Script}
use Rattle.neph_model.specs.declared.own.Own.{Own}
use Rattle.neph_model.specs.declared.life.Guest.{Guest}
use Rattle.neph_model.specs.Machine.{Shared, own_at, life_at, guest_at, put_own, program_run, exposed_at}
use Rattle.neph_model.specs.Programs.{command_at}
use Rattle.neph_model.specs.Own as own
use Rattle.neph_model.specs.Own.{settle, local_step}
use Rattle.neph_model.specs.Lent.{Lent, lent, own_behind}
use Rattle.neph_model.specs.Trap as trap
use Rattle.neph_model.specs.Trap.{Accepted, answers}
use Rattle.neph_model.specs.Step.{Outcome, Locked, locked, own_step, own_after, child_made, bear, call_effect, shared_line, step}
use Rattle.neph_model.specs.Laws.{RefusesPlainly}
use Rattle.neph_laws.proofs.Local.{local_alone, locked_is}
use Rattle.neph_laws.proofs.HandleRows.{IsOfHandles, handle_row}
use Rattle.neph_laws.proofs.GrantRows.{ungrant_row}

abbrev Fine : Reply → Type 0
Fine r = (why : Refusal) → r ≡ Refused why → ⊥

abbrev OwnFine : own.LocalResult → Type 0
OwnFine None = ⊤
OwnFine (Some (Err why)) = ⊤
OwnFine (Some (Ok x)) = Fine x.1

own_wrote : (o : Own) (told : Told) (at : ℕ) (bytes : List ℕ) (pfn : ℕ) (mode : Mode) (page : Option (List ℕ)) → own.page_of o pfn ≡ page → OwnFine (own.w_step o told at bytes (Some (record { pfn = pfn; mode = mode })))
own_wrote o told at bytes pfn mode None is = rw is tt
own_wrote o told at bytes pfn Ro (Some b) is = rw is tt
own_wrote o Short at bytes pfn Rw (Some b) is = rw is tt
own_wrote o Enough at bytes pfn Rw (Some b) is = rw is (λ why e. cc)
own_wrote o (Free f) at bytes pfn Rw (Some b) is = rw is (λ why e. cc)

own_read : (o : Own) (at n pfn : ℕ) (mode : Mode) (page : Option (List ℕ)) → own.page_of o pfn ≡ page → OwnFine (own.r_step o at n (Some (record { pfn = pfn; mode = mode })))
own_read o at n pfn mode None is = rw is tt
own_read o at n pfn mode (Some b) is = rw is (λ why e. cc)

own_leafless : (o : Own) (told : Told) → OwnFine (own.leaf_step o told)
own_leafless o Enough = λ why e. cc
own_leafless o Short = tt
own_leafless o (Free f) = λ why e. cc

own_either : (b : Bool) (x y : own.LocalResult) → OwnFine x → OwnFine y → OwnFine (cond b x y)
own_either true x y f g = f
own_either false x y f g = g

some_is : {p q : Own × Reply} → Some p ≡ Some q → p ≡ q
some_is e = cc

not_go : (why : Refusal) → reply.Go ≡ Refused why → ⊥
not_go why e = cc

not_on : (why : Refusal) → reply.On ≡ Refused why → ⊥
not_on why e = cc

-- a refused local row leaves its domain own_replied on and marked
own_refused : (o x : Own) (why : Refusal) (did : own.LocalResult) → OwnFine did → option_map (settle o) did ≡ Some (x, Refused why) → x ≡ record o { line = o.line + 1; refused = true }
own_refused o x why None f e = absurd cc
own_refused o x why (Some (Err w)) f e = sym (ap (λ (p : Own × Reply). p.0) (some_is e))
own_refused o x why (Some (Ok d)) f e = absurd (f why (ap (λ (p : Own × Reply). p.1) (some_is e)))

jump_refused : (o x : Own) (why : Refusal) (line : ℕ) (b : Bool) → own.jump_step o line b ≡ Some (x, Refused why) → x ≡ record o { line = o.line + 1; refused = true }
jump_refused o x why line true e = absurd (not_go why (ap (λ (p : Own × Reply). p.1) (some_is e)))
jump_refused o x why line false e = absurd (not_on why (ap (λ (p : Own × Reply). p.1) (some_is e)))

shown_wrote : (o : Own) (told : Told) (at : ℕ) (bytes : List ℕ) (shown : Option Mapping) → OwnFine (own.w_step o told at bytes shown)
shown_wrote o told at bytes None = tt
shown_wrote o told at bytes (Some x) = own_wrote o told at bytes x.pfn x.mode (own.page_of o x.pfn) refl

shown_read : (o : Own) (at n : ℕ) (shown : Option Mapping) → OwnFine (own.r_step o at n shown)
shown_read o at n None = tt
shown_read o at n (Some x) = own_read o at n x.pfn x.mode (own.page_of o x.pfn) refl

shown_unmapped : (o : Own) (vpn : ℕ) (shown : Option Mapping) → OwnFine (own.unmap_step o vpn shown)
shown_unmapped o vpn None = tt
shown_unmapped o vpn (Some x) = λ why e. cc

local_refused : (s : Script) (p : ℕ) (o x : Own) (told : Told) (c : Command) (why : Refusal) → local_step s p o told c ≡ Some (x, Refused why) → x ≡ record o { line = o.line + 1; refused = true }
local_refused s p o x told (command.W addr bytes) why e = own_refused o x why _ (shown_wrote o told (addr % 4096) bytes (own.mapping_at o addr)) e
local_refused s p o x told (command.R addr len) why e = own_refused o x why _ (shown_read o (addr % 4096) len (own.mapping_at o addr)) e
local_refused s p o x told (command.Map vpn pfn mode) why e =
    let new = own.with_mapping o vpn pfn mode in
    let more = own.leaf_step (own.with_leaf new vpn) told in
    own_refused o x why (own.map_step o told vpn pfn mode) (own_either (own.is_bad_pfn o pfn mode) (Some (Err refusal.BadPfn)) (cond (own.has_leaf o vpn) (Some (Ok (new, reply.Done))) more) tt (own_either (own.has_leaf o vpn) (Some (Ok (new, reply.Done))) more (λ w q. cc) (own_leafless (own.with_leaf new vpn) told))) e
local_refused s p o x told (command.Unmap vpn) why e = own_refused o x why _ (shown_unmapped o vpn (fm.get o.vmap vpn)) e
local_refused s p o x told (command.Jump label) why e = jump_refused o x why _ true e
local_refused s p o x told (command.JChild label) why e = jump_refused o x why _ o.came e
local_refused s p o x told (command.JFail label) why e = jump_refused o x why _ o.refused e
local_refused s p o x told _ why e = absurd cc

abbrev CallFine : trap.CallResult → Type 0
CallFine (Err why) = ⊤
CallFine (Ok t) = Fine t.reply

call_either : (b : Bool) (x y : trap.CallResult) → CallFine x → CallFine y → CallFine (cond b x y)
call_either true x y f g = f
call_either false x y f g = g

call_wrote : (sh : Shared) (id at : ℕ) (bytes : List ℕ) (pfn : ℕ) (mode : Mode) (has : Bool) → trap.is_exposed sh.pages id pfn ≡ has → CallFine (trap.w_call sh id at bytes (Some (record { pfn = pfn; mode = mode })))
call_wrote sh id at bytes pfn mode false is = rw is tt
call_wrote sh id at bytes pfn Ro true is = rw is tt
call_wrote sh id at bytes pfn Rw true is = rw is (λ why e. cc)

call_shown : (sh : Shared) (id at : ℕ) (bytes : List ℕ) (shown : Option Mapping) → CallFine (trap.w_call sh id at bytes shown)
call_shown sh id at bytes None = tt
call_shown sh id at bytes (Some x) = call_wrote sh id at bytes x.pfn x.mode (trap.is_exposed sh.pages id x.pfn) refl

call_cloned : (sh : Shared) (id : ℕ) (g : Guest) (why : Option Refusal) → CallFine (trap.clone_call sh id g why)
call_cloned sh id g None = λ why e. cc
call_cloned sh id g (Some w) = tt

handle_fine : (sh : Shared) (id : ℕ) (g : Guest) (l : Lent) (told : Told) (c : Command) → IsOfHandles c → CallFine (trap.trap sh id g l told c)
handle_fine sh id g = handle_row sh id g CallFine (λ why plain. tt) (λ bytes why e. cc) (λ m h why e. cc) (λ m why e. cc) (λ granter pfn at bytes there why e. cc)

call_fine : (sh : Shared) (id : ℕ) (g : Guest) (l : Lent) (told : Told) (c : Command) → CallFine (trap.trap sh id g l told c)
call_fine sh id g l told (command.W addr bytes) = call_shown sh id (addr % 4096) bytes l.met
call_fine sh id g l told (command.R addr len) = λ why e. cc
call_fine sh id g l told command.Free = λ why e. cc
call_fine sh id g l told command.Clone = call_cloned sh id g (trap.clone_refusal sh.tables g (life_at id sh.lives) (trap.need (exposed_at id sh.pages) l.leaves) told)
call_fine sh id g l told (command.Ungrant r) = ungrant_row sh id g CallFine (λ why plain. tt) (λ q x may why e. cc) (λ q x may free why e. cc) r
call_fine sh id g l told (command.Gmap granter r) = handle_fine sh id g l told (command.Gmap granter r) tt
call_fine sh id g l told (command.Gunmap h) = handle_fine sh id g l told (command.Gunmap h) tt
call_fine sh id g l told (command.Hr h at n) = handle_fine sh id g l told (command.Hr h at n) tt
call_fine sh id g l told (command.Hw h at bytes) = handle_fine sh id g l told (command.Hw h at bytes) tt
call_fine sh id g l told _ = tt

-- a refused call changes nothing
called_refused : (sh : Shared) (r : trap.CallResult) (why : Refusal) → CallFine r → (call_effect sh r).reply ≡ Refused why → call_effect sh r ≡ locked sh (Refused why)
called_refused sh (Err w) why f e = ap (locked sh) e
called_refused sh (Ok t) why f e = absurd (f why e)

not_ended : (why : Refusal) → reply.Ended ≡ Refused why → ⊥
not_ended why e = cc

line_refused : (sh : Shared) (id : ℕ) (l : Lent) (told : Told) (c : Command) (why : Refusal) → (shared_line sh id l told c).reply ≡ Refused why → shared_line sh id l told c ≡ locked sh (Refused why)
line_refused sh id l told command.Exit why e = absurd (not_ended why e)
line_refused sh id l told c why e = called_refused sh (trap.trap sh id (guest_at id sh.tables) l told c) why (call_fine sh id (guest_at id sh.tables) l told c) e

-- a line that isn't an exit leaves its domain marked where it is refused
behind_refused : (o : Own) (sh : Shared) (id : ℕ) (l : Lent) (told : Told) (c : Command) (why : Refusal) → (shared_line sh id l told c).reply ≡ Refused why → own_behind o c (Refused why) None ≡ record o { line = o.line + 1; refused = true }
behind_refused o sh id l told command.Exit why e = absurd (not_ended why e)
behind_refused o sh id l told c why e = refl

pub refuses_plainly : RefusesPlainly
refuses_plainly s m id line told why e =
    let p = program_run id m.shared.lives in
    let o = own_at id m.own in
    let x = Line id line in
    let c = command_at s p line in
    let l = lent o c in
    let new : Own = record o { line = o.line + 1; refused = true } in
    elim (own_step s p o x told) as (λ g. own_step s p o x told ≡ g → (step s m x told).machine ≡ put_own id new m) [
      | Some did ↦ λ is.
          let goes = local_alone s m x told did is in
          let refused : did.1 ≡ Refused why = sym (ap (λ (w : Outcome). w.reply) goes) ∙ e in
          let same = local_refused s p o did.0 told c why (is ∙ ap (λ r. Some (did.0, r)) refused) in
          ap (λ (w : Outcome). w.machine) goes ∙ ap (λ h. put_own id h m) same
      | None ↦ λ is.
          let goes = locked_is s m x told is in
          let refused : (shared_line m.shared id l told c).reply ≡ Refused why = sym (ap (λ (w : Outcome). w.reply) goes) ∙ e in
          let nothing = line_refused m.shared id l told c why refused in
          ap (λ (w : Outcome). w.machine) goes
          ∙ ap (λ (d : Locked). record { own = set (bear m.own id o (child_made x d.reply)) id (own_after s p o x d.reply d.back); shared = d.shared }) nothing
          ∙ ap (λ h. put_own id h m) (behind_refused o m.shared id l told c why refused)
    ] refl
