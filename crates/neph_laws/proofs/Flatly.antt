-- A write is the flat one, whichever half has the page.
use Rattle.std.proofs.Common.{◌≡◌, ℕ, zero, suc, ◌+◌, ◌%◌, ◌<◌, Bool, true, false, not, cond, List, [], ◌∷◌, length, take, drop, get_or, set, Option, Some, None, refl, sym, ap, ◌∙◌}
use Rattle.std.specs.Prelude.{is_some, unwrap_or}
use Rattle.std.specs.Cmp.{nat_cmp_total, eq_by_cmp_equiv}
use Rattle.std.specs.FinMap as fm
use Rattle.std.proofs.lemmas.List.{get_or-set_same}
use Rattle.neph_model.specs.Memory.{page_with_bytes}
use Rattle.neph_model.specs.declared.told.Told.TheVariants.{Enough}
use Rattle.neph_base.specs.declared.reply.Entry.TheVariants.{Line}
use Rattle.neph_base.specs.declared.reply.Reply.TheVariants as reply
use Rattle.neph_model.specs.declared.own.Own.{Own}
use Rattle.neph_model.specs.Machine.{Exposed, no_own, own_at, program_run, exposed_at}
use Rattle.neph_model.specs.Own.{page_of, with_page, with_alone}
use Rattle.neph_model.specs.Trap.{is_exposed, exposed_bytes, with_exposed_bytes}
use Rattle.neph_model.specs.Step.{Outcome, Locked, locked, own_step, own_after, lends, child_made, bear, shared_step, step}
use Rattle.neph_model.specs.Flat.{flat_page}
use Rattle.neph_model.specs.Laws.{WritesFlatly, ReadsFlatly}
use Rattle.neph_laws.proofs.Local.{local_alone, locked_is}

-- bytes written into an exposed page are there
written_there : (pages : List Exposed) (id pfn at : ℕ) (bytes : List ℕ) → id < length pages → exposed_bytes (with_exposed_bytes pages id pfn at bytes) id pfn ≡ page_with_bytes (exposed_bytes pages id pfn) at bytes
written_there pages id pfn at bytes lt =
    let x = page_with_bytes (exposed_bytes pages id pfn) at bytes in
    let more = fm.insert (exposed_at id pages) pfn x in
    ap (λ (ps : Exposed). unwrap_or (fm.get ps pfn) []) (get_or-set_same pages id more fm.empty lt)
    ∙ ap (λ o. unwrap_or o []) (fm.get-insert nat_cmp_total (exposed_at id pages) pfn x pfn ∙ ap (λ b. cond b (Some x) (fm.get (exposed_at id pages) pfn)) ((eq_by_cmp_equiv nat_cmp_total).refl pfn))

shared_has : (b : Bool) → false ≡ not b → b ≡ true
shared_has true e = refl
shared_has false e = absurd cc

pub writes_flatly : WritesFlatly
writes_flatly s m id line addr pfn bytes is shown in_own in_pages in_domain once =
    let e = Line id line in
    let p = program_run id m.shared.lives in
    let o = own_at id m.own in
    let at = addr % 4096 in
    let did = step s m e Enough in
    elim (page_of o pfn) as (λ x. page_of o pfn ≡ x → (did.reply ≡ reply.Done) × (flat_page did.machine id pfn ≡ page_with_bytes (flat_page m id pfn) at bytes)) [
      | Some b ↦ λ here.
          let x = page_with_bytes b at bytes in
          let new : Own = record (with_alone (with_page o pfn (Some x)) pfn) { line = o.line + 1; refused = false } in
          let does : own_step s p o e Enough ≡ Some (new, reply.Done) = rw (is, shown, here) refl in
          let goes = local_alone s m e Enough (new, reply.Done) does in
          let its : own_at id (set m.own id new) ≡ new = get_or-set_same m.own id new no_own in_own in
          let page : page_of new pfn ≡ Some x = get_or-set_same o.pages pfn (Some x) None in_domain in (
            ap (λ (w : Outcome). w.reply) goes,
            ap (λ (w : Outcome). flat_page w.machine id pfn) goes ∙ ap (λ (h : Own). unwrap_or (page_of h pfn) (exposed_bytes m.shared.pages id pfn)) its ∙ ap (λ q. unwrap_or q (exposed_bytes m.shared.pages id pfn)) page
                ∙ ap (λ q. page_with_bytes (unwrap_or q (exposed_bytes m.shared.pages id pfn)) at bytes) (sym here),
          )
      | None ↦ λ away.
          let there : is_exposed m.shared.pages id pfn ≡ true = shared_has (is_exposed m.shared.pages id pfn) (sym (ap is_some away) ∙ once) in
          let asks : own_step s p o e Enough ≡ None = rw (is, shown, away) refl in
          let new : Own = record (with_alone o pfn) { line = o.line + 1; refused = false } in
          let out : Outcome = record { machine = record { own = set m.own id new; shared = record m.shared { pages = with_exposed_bytes m.shared.pages id pfn at bytes } }; reply = reply.Done } in
          let trapped : shared_step s m.shared e (lends s p o e) Enough ≡ locked out.machine.shared reply.Done = rw (is, shown, there) refl in
          let settles : own_after s p o e reply.Done None ≡ new = rw (is, shown) refl in
          let goes : step s m e Enough ≡ out =
          locked_is s m e Enough asks
          ∙ ap (λ (d : Locked). record { machine = record { own = set (bear m.own id o (child_made e d.reply)) id (own_after s p o e d.reply d.back); shared = d.shared }; reply = d.reply }) trapped
          ∙ ap (λ (h : Own). record { machine = record { own = set m.own id h; shared = out.machine.shared }; reply = reply.Done }) settles in
          let its : own_at id (set m.own id new) ≡ new = get_or-set_same m.own id new no_own in_own in (
            ap (λ (w : Outcome). w.reply) goes,
            ap (λ (w : Outcome). flat_page w.machine id pfn) goes ∙ ap (λ (h : Own). unwrap_or (page_of h pfn) (exposed_bytes out.machine.shared.pages id pfn)) its
                ∙ ap (λ q. unwrap_or q (exposed_bytes out.machine.shared.pages id pfn)) away ∙ written_there m.shared.pages id pfn at bytes in_pages
                ∙ ap (λ q. page_with_bytes (unwrap_or q (exposed_bytes m.shared.pages id pfn)) at bytes) (sym away),
          )
    ] refl

pub reads_flatly : ReadsFlatly
reads_flatly s m id line addr n to is shown once =
    let e = Line id line in
    let p = program_run id m.shared.lives in
    let o = own_at id m.own in
    let at = addr % 4096 in
    let pfn = to.pfn in
    let did = step s m e Enough in
    elim (page_of o pfn) as (λ x. page_of o pfn ≡ x → (did.reply ≡ reply.Bytes (take n (drop at (flat_page m id pfn)))) × ((q : ℕ) → flat_page did.machine id q ≡ flat_page m id q)) [
      | Some b ↦ λ here.
          let new : Own = record o { line = o.line + 1; refused = false } in
          let does : own_step s p o e Enough ≡ Some (new, reply.Bytes (take n (drop at b))) = rw (is, shown, here) refl in
          let goes = local_alone s m e Enough (new, reply.Bytes (take n (drop at b))) does in (
            ap (λ (w : Outcome). w.reply) goes ∙ ap (λ q. reply.Bytes (take n (drop at (unwrap_or q (exposed_bytes m.shared.pages id pfn))))) (sym here),
            λ q. ap (λ (w : Outcome). flat_page w.machine id q) goes ∙ ap (λ o. unwrap_or o (exposed_bytes m.shared.pages id q)) (same_pages m.own id new refl q),
          )
      | None ↦ λ out.
          let asks : own_step s p o e Enough ≡ None = rw (is, shown, out) refl in
          let new : Own = record o { line = o.line + 1; refused = false } in
          let answer = reply.Bytes (take n (drop at (exposed_bytes m.shared.pages id pfn))) in
          let trapped : shared_step s m.shared e (lends s p o e) Enough ≡ locked m.shared answer = rw (is, shown) refl in
          let settles : own_after s p o e answer None ≡ new = rw is refl in
          let goes : step s m e Enough ≡ record { machine = record { own = set m.own id new; shared = m.shared }; reply = answer } =
          locked_is s m e Enough asks
          ∙ ap (λ (d : Locked). record { machine = record { own = set (bear m.own id o (child_made e d.reply)) id (own_after s p o e d.reply d.back); shared = d.shared }; reply = d.reply }) trapped
          ∙ ap (λ (h : Own). record { machine = record { own = set m.own id h; shared = m.shared }; reply = answer }) settles in (
            ap (λ (w : Outcome). w.reply) goes ∙ ap (λ q. reply.Bytes (take n (drop at (unwrap_or q (exposed_bytes m.shared.pages id pfn))))) (sym out),
            λ q. ap (λ (w : Outcome). flat_page w.machine id q) goes ∙ ap (λ o. unwrap_or o (exposed_bytes m.shared.pages id q)) (same_pages m.own id new refl q),
          )
    ] refl where
      same_pages : (owns : List Own) (id : ℕ) (new : Own) → new.pages ≡ (own_at id owns).pages → (q : ℕ) → page_of (own_at id (set owns id new)) q ≡ page_of (own_at id owns) q
      same_pages [] id new same q = refl
      same_pages (x ∷ xs) zero new same q = ap (λ (ps : List (Option (List ℕ))). get_or ps q None) same
      same_pages (x ∷ xs) (suc id) new same q = same_pages xs id new same q
