-- What is kept of an id that is changed.
use Rattle.std.proofs.Common.{◌≡◌, ℕ, ◌+◌, ◌<◌, Bool, true, false, List, [], ◌∷◌, ◌++◌, length, get_or, set, refl, sym, ap, ◌∙◌}
use Rattle.std.specs.List.{remove, list_any}
use Rattle.std.proofs.lemmas.List.{map-set, get_or-map, set-get_or}
use Rattle.neph_model.specs.declared.life.Guest.{Guest}
use Rattle.neph_model.specs.Machine.{no_guest, but_shares}
use Rattle.std.specs.Prelude.{Option, None, Some, IfSome, IfNone, OnOk, OnErr, Result, Ok, Err, ◌||◌, ◌==◌, map}
use Rattle.std.specs.Bool.{OnTrue, OnFalse}
use Rattle.std.specs.FinMap as fm
use Rattle.neph_base.specs.declared.command.Mode.{Mode}
use Rattle.neph_grant.specs.declared.faults.EndFault.{EndFault}
use Rattle.neph_grant.specs.Handles.{Mappings, with_mapping, maps_entry}
use Rattle.neph_grant.specs.Table.{Grants}
use Rattle.neph_rows.specs.Shares.{Shares}
use Rattle.neph_rows.specs.Slots.{guest_of, guests_of, rooms_of}
use Rattle.neph_rows.specs.declared.slots.Slot.{Slot}

pub guest_here : (slots : List Slot) (i : ℕ) (d : Slot) → i < length slots → get_or (guests_of slots) i no_guest ≡ guest_of (get_or slots i d)
guest_here slots i d lt = get_or-map guest_of slots i d no_guest lt

pub guest_read : (slots : List Slot) (i j : ℕ) (s : Slot) → j < length slots → i ≡ j → s ≡ get_or slots i s → get_or (guests_of slots) j no_guest ≡ guest_of s
guest_read slots i j s lt same is = guest_here slots j s lt ∙ ap (λ k. guest_of (get_or slots k s)) (sym same) ∙ ap guest_of (sym is)

-- what a slot with these keeps
abbrev guest_with : ℕ → List ℕ → Shares → Guest
guest_with k xs x = record { accepted = k; begun = xs; grants = x.grants; handles = x.handles }

-- an item in its own place
set_here : {A : Type 0} (xs : List A) (i : ℕ) (x : A) → x ≡ get_or xs i x → set xs i x ≡ xs
set_here xs i x is = ap (set xs i) is ∙ set-get_or xs i x

pub begun_more : (slots : List Slot) (i : ℕ) (s new : Slot) (child : ℕ) → i < length slots → s ≡ get_or slots i s → new.accepted ≡ s.accepted + 1 → new.begun.items ≡ s.begun.items ++ child ∷ [] → new.sharing ≡ s.sharing
    → guests_of (set slots i new) ≡ set (guests_of slots) i (let g = get_or (guests_of slots) i no_guest in record g { begun = g.begun ++ child ∷ []; accepted = g.accepted + 1 })
begun_more slots i s new child lt is n b same =
    let put = λ (k : ℕ) (xs : List ℕ) (x : Shares). set (guests_of slots) i (guest_with k xs x) in
    map-set guest_of slots i new ∙ ap (λ k. put k new.begun.items new.sharing) n ∙ ap (λ xs. put (s.accepted + 1) xs new.sharing) b ∙ ap (put (s.accepted + 1) (s.begun.items ++ child ∷ [])) same
    ∙ ap (λ (g : Guest). set (guests_of slots) i (record g { begun = g.begun ++ child ∷ []; accepted = g.accepted + 1 })) (sym (guest_read slots i i s lt refl is))

pub begun_less : (slots : List Slot) (i : ℕ) (s new : Slot) (child : ℕ) (left : List ℕ) → i < length slots → s ≡ get_or slots i s → new.accepted ≡ s.accepted → new.begun.items ≡ remove s.begun.items 0 → new.sharing ≡ s.sharing
    → (get_or (guests_of slots) i no_guest).begun ≡ child ∷ left
    → guests_of (set slots i new) ≡ set (guests_of slots) i (record (get_or (guests_of slots) i no_guest) { begun = left })
begun_less slots i s new child left lt is n b same e =
    let put = λ (k : ℕ) (xs : List ℕ) (x : Shares). set (guests_of slots) i (guest_with k xs x) in
    let here = guest_read slots i i s lt refl is in
    let these : s.begun.items ≡ child ∷ left = sym (ap (λ (g : Guest). g.begun) here) ∙ e in
    map-set guest_of slots i new ∙ ap (λ k. put k new.begun.items new.sharing) n ∙ ap (λ xs. put s.accepted xs new.sharing) (b ∙ ap (λ xs. remove xs 0) these) ∙ ap (put s.accepted left) same
    ∙ ap (λ (g : Guest). set (guests_of slots) i (record g { begun = left })) (sym here)

pub begun_none : (slots : List Slot) (i : ℕ) (new : Slot) (shares : Shares) → new.accepted ≡ 0 → new.begun.items ≡ [] → new.sharing ≡ shares
    → guests_of (set slots i new) ≡ set (guests_of slots) i (record no_guest { grants = shares.grants; handles = shares.handles })
begun_none slots i new shares n b same =
    let put = λ (k : ℕ) (xs : List ℕ) (x : Shares). set (guests_of slots) i (guest_with k xs x) in
    map-set guest_of slots i new ∙ ap (λ k. put k new.begun.items new.sharing) n ∙ ap (λ xs. put 0 xs new.sharing) b ∙ ap (put 0 []) same

-- other handles of an id
pub handles_put : (slots : List Slot) (i : ℕ) (s new : Slot) (hs : Mappings) → i < length slots → s ≡ get_or slots i s → new.accepted ≡ s.accepted → new.begun.items ≡ s.begun.items → new.sharing ≡ record s.sharing { handles = hs }
    → guests_of (set slots i new) ≡ set (guests_of slots) i (record (get_or (guests_of slots) i no_guest) { handles = hs })
handles_put slots i s new hs lt is n b same =
    let put = λ (k : ℕ) (xs : List ℕ) (x : Shares). set (guests_of slots) i (guest_with k xs x) in
    map-set guest_of slots i new ∙ ap (λ k. put k new.begun.items new.sharing) n ∙ ap (λ xs. put s.accepted xs new.sharing) b ∙ ap (put s.accepted s.begun.items) same
    ∙ ap (λ (g : Guest). set (guests_of slots) i (record g { handles = hs })) (sym (guest_read slots i i s lt refl is))

-- the same of an id
pub slot_same : (slots : List Slot) (i : ℕ) (s new : Slot) → s ≡ get_or slots i s → new.accepted ≡ s.accepted → new.begun.items ≡ s.begun.items → new.sharing ≡ s.sharing → guests_of (set slots i new) ≡ guests_of slots
slot_same slots i s new is n b same =
    let put = λ (k : ℕ) (xs : List ℕ) (x : Shares). set (guests_of slots) i (guest_with k xs x) in
    map-set guest_of slots i new ∙ ap (λ k. put k new.begun.items new.sharing) n ∙ ap (λ xs. put s.accepted xs new.sharing) b ∙ ap (put s.accepted s.begun.items) same ∙ sym (map-set guest_of slots i s) ∙ ap guests_of (set_here slots i s is)

-- whether there is room, of an id that has it as before
pub room_put : (slots : List Slot) (i : ℕ) (new : Slot) → rooms_of (set slots i new) ≡ set (rooms_of slots) i new.sharing.room
room_put slots i new = map-set (λ (s : Slot). s.sharing.room) slots i new

pub room_same : (slots : List Slot) (i : ℕ) (s new : Slot) → s ≡ get_or slots i s → new.sharing.room ≡ s.sharing.room → rooms_of (set slots i new) ≡ rooms_of slots
room_same slots i s new is same = room_put slots i new ∙ ap (set (rooms_of slots) i) same ∙ sym (room_put slots i s) ∙ ap rooms_of (set_here slots i s is)

pub room_read : (slots : List Slot) (i : ℕ) (s : Slot) → i < length slots → s ≡ get_or slots i s → get_or (rooms_of slots) i false ≡ s.sharing.room
room_read slots i s lt is = get_or-map (λ (x : Slot). x.sharing.room) slots i s false lt ∙ ap (λ (x : Slot). x.sharing.room) (sym is)

-- a handle that is given out
pub handles_mapped : (slots : List Slot) (i : ℕ) (s new : Slot) (granter r : ℕ) (m : Mode) (o : Option ℕ) → i < length slots → s ≡ get_or slots i s → new.accepted ≡ s.accepted → new.begun.items ≡ s.begun.items
    → IfSome o (λ h. new.sharing ≡ record s.sharing { handles = with_mapping s.sharing.handles h granter r m })
    → IfSome o (λ h. let g = get_or (guests_of slots) i no_guest in guests_of (set slots i new) ≡ set (guests_of slots) i (record g { handles = with_mapping g.handles h granter r m }))
handles_mapped slots i s new granter r m None lt is n b same = tt
handles_mapped slots i s new granter r m (Some h) lt is n b same =
    handles_put slots i s new (with_mapping s.sharing.handles h granter r m) lt is n b same
    ∙ ap (λ (g : Guest). set (guests_of slots) i (record (get_or (guests_of slots) i no_guest) { handles = with_mapping g.handles h granter r m })) (sym (guest_read slots i i s lt refl is))

pub room_mapped : (s new : Slot) (granter r : ℕ) (m : Mode) (o : Option ℕ) → IfSome o (λ h. new.sharing ≡ record s.sharing { handles = with_mapping s.sharing.handles h granter r m }) → IfNone o (new.sharing ≡ s.sharing) → new.sharing.room ≡ s.sharing.room
room_mapped s new granter r m None some none = ap (λ (x : Shares). x.room) none
room_mapped s new granter r m (Some h) some none = ap (λ (x : Shares). x.room) some

-- a handle that is given up
pub handles_unmapped : (slots : List Slot) (i : ℕ) (s new : Slot) (h : ℕ) (b : Bool) → i < length slots → s ≡ get_or slots i s → new.accepted ≡ s.accepted → new.begun.items ≡ s.begun.items
    → OnTrue b (new.sharing ≡ record s.sharing { handles = fm.remove s.sharing.handles h })
    → OnTrue b (let g = get_or (guests_of slots) i no_guest in guests_of (set slots i new) ≡ set (guests_of slots) i (record g { handles = fm.remove g.handles h }))
handles_unmapped slots i s new h false lt is n b same = tt
handles_unmapped slots i s new h true lt is n b same =
    handles_put slots i s new (fm.remove s.sharing.handles h) lt is n b same
    ∙ ap (λ (g : Guest). set (guests_of slots) i (record (get_or (guests_of slots) i no_guest) { handles = fm.remove g.handles h })) (sym (guest_read slots i i s lt refl is))

pub room_unmapped : (s new : Slot) (h : ℕ) (b : Bool) → OnTrue b (new.sharing ≡ record s.sharing { handles = fm.remove s.sharing.handles h }) → OnFalse b (new.sharing ≡ s.sharing) → new.sharing.room ≡ s.sharing.room
room_unmapped s new h true removed kept = ap (λ (x : Shares). x.room) removed
room_unmapped s new h false removed kept = ap (λ (x : Shares). x.room) kept

-- all but what an id shares
pub bare_same : (slots : List Slot) (i : ℕ) (s new : Slot) → s ≡ get_or slots i s → new.accepted ≡ s.accepted → new.begun.items ≡ s.begun.items → map but_shares (guests_of (set slots i new)) ≡ map but_shares (guests_of slots)
bare_same slots i s new is n b =
    let bare = λ (x : Slot). map but_shares (guests_of (set slots i x)) in
    let put = λ (k : ℕ) (xs : List ℕ). set (map but_shares (guests_of slots)) i (record { accepted = k; begun = xs; grants = fm.empty; handles = fm.empty }) in
    let at : (x : Slot) → bare x ≡ put x.accepted x.begun.items = λ x. ap (map but_shares) (map-set guest_of slots i x) ∙ map-set but_shares (guests_of slots) i (guest_of x) in
    at new ∙ ap (λ k. put k new.begun.items) n ∙ ap (put s.accepted) b ∙ sym (at s) ∙ ap (λ xs. map but_shares (guests_of xs)) (set_here slots i s is)

-- other grants of an id
grants_put : (slots : List Slot) (i : ℕ) (s new : Slot) (gs : Grants) → i < length slots → s ≡ get_or slots i s → new.accepted ≡ s.accepted → new.begun.items ≡ s.begun.items → new.sharing ≡ record s.sharing { grants = gs }
    → guests_of (set slots i new) ≡ set (guests_of slots) i (record (get_or (guests_of slots) i no_guest) { grants = gs })
grants_put slots i s new gs lt is n b same =
    let put = λ (k : ℕ) (xs : List ℕ) (x : Shares). set (guests_of slots) i (guest_with k xs x) in
    map-set guest_of slots i new ∙ ap (λ k. put k new.begun.items new.sharing) n ∙ ap (λ xs. put s.accepted xs new.sharing) b ∙ ap (put s.accepted s.begun.items) same
    ∙ ap (λ (g : Guest). set (guests_of slots) i (record g { grants = gs })) (sym (guest_read slots i i s lt refl is))

-- an entry that is taken away
pub grants_ended : (slots : List Slot) (i : ℕ) (s new : Slot) (r : ℕ) (x : Result ℕ EndFault) → i < length slots → s ≡ get_or slots i s → new.accepted ≡ s.accepted → new.begun.items ≡ s.begun.items
    → OnOk x (new.sharing ≡ record s.sharing { grants = fm.remove s.sharing.grants r })
    → OnOk x (let g = get_or (guests_of slots) i no_guest in guests_of (set slots i new) ≡ set (guests_of slots) i (record g { grants = fm.remove g.grants r }))
grants_ended slots i s new r (Err why) lt is n b same = tt
grants_ended slots i s new r (Ok pfn) lt is n b same =
    grants_put slots i s new (fm.remove s.sharing.grants r) lt is n b same
    ∙ ap (λ (g : Guest). set (guests_of slots) i (record (get_or (guests_of slots) i no_guest) { grants = fm.remove g.grants r })) (sym (guest_read slots i i s lt refl is))

pub grants_kept : (slots : List Slot) (i : ℕ) (s new : Slot) (x : Result ℕ EndFault) → s ≡ get_or slots i s → new.accepted ≡ s.accepted → new.begun.items ≡ s.begun.items → OnErr x (new.sharing ≡ s.sharing) → OnErr x (guests_of (set slots i new) ≡ guests_of slots)
grants_kept slots i s new (Ok pfn) is n b same = tt
grants_kept slots i s new (Err why) is n b same = slot_same slots i s new is n b same

pub room_ended : (s new : Slot) (r : ℕ) (x : Result ℕ EndFault) → OnOk x (new.sharing ≡ record s.sharing { grants = fm.remove s.sharing.grants r }) → OnErr x (new.sharing ≡ s.sharing) → new.sharing.room ≡ s.sharing.room
room_ended s new r (Ok pfn) ended kept = ap (λ (v : Shares). v.room) ended
room_ended s new r (Err why) ended kept = ap (λ (v : Shares). v.room) kept

-- a clone with a child that was begun, by slots or by what they keep
pub any_begun : (slots : List Slot) (id : ℕ) → list_any (λ (s : Slot). list_any (λ child. child == id) s.begun.items) slots ≡ list_any (λ (g : Guest). list_any (λ child. child == id) g.begun) (guests_of slots)
any_begun [] id = refl
any_begun (s ∷ ss) id = ap (λ b. list_any (λ child. child == id) s.begun.items || b) (any_begun ss id)

-- an entry that is mapped, by slots or by what they keep
pub any_mapped : (slots : List Slot) (granter r : ℕ) → list_any (λ (s : Slot). maps_entry s.sharing.handles granter r) slots ≡ list_any (λ (g : Guest). maps_entry g.handles granter r) (guests_of slots)
any_mapped [] granter r = refl
any_mapped (s ∷ ss) granter r = ap (λ b. maps_entry s.sharing.handles granter r || b) (any_mapped ss granter r)
