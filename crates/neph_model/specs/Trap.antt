-- The hypervisor's calls: the rows of the commands under the lock, on the shared half and what the
-- own half lends.
use Rattle.std.specs.Prelude.{ℕ, Bool, false, if◌then◌else◌, ◌&&◌, not, ◌==◌, ◌+◌, ◌%◌, nat_lt, nat_le, List, [], ◌∷◌, ◌++◌, take, drop, Option, None, Some, is_some, Result, Ok, Err, slice_set, unwrap_or}
use Rattle.std.specs.List.{list_any}
use Rattle.std.specs.Option.{option_map_or}
use Rattle.std.specs.FinMap as fm
use Rattle.neph_base.specs.declared.command.Command.{Command}
use Rattle.neph_base.specs.declared.command.Command.TheVariants as command
use Rattle.neph_base.specs.declared.command.Mode.{Mode}
use Rattle.neph_base.specs.declared.command.Mode.TheVariants.{Ro, Rw}
use Rattle.neph_base.specs.declared.reply.Reply.{Reply}
use Rattle.neph_base.specs.declared.reply.Reply.TheVariants as reply
use Rattle.neph_base.specs.declared.reply.Refusal.{Refusal}
use Rattle.neph_base.specs.declared.reply.Refusal.TheVariants as refusal
use Rattle.neph_grant.specs.declared.entry.GrantEntry.{GrantEntry}
use Rattle.neph_grant.specs.declared.handles.GrantMapping.{GrantMapping}
use Rattle.neph_grant.specs.declared.faults.EndFault.{EndFault}
use Rattle.neph_grant.specs.declared.faults.EndFault.TheVariants.{NoGrant, Busy}
use Rattle.neph_grant.specs.declared.faults.MapRefused.{MapRefused}
use Rattle.neph_grant.specs.declared.faults.MapRefused.TheVariants.{NoEntry, NotYours}
use Rattle.neph_grant.specs.Handles.{Mappings, free_handle, with_mapping, maps_entry}
use Rattle.neph_grant.specs.Table.{Grants, names_page, end_answer, admit_answer}
use Rattle.neph_model.specs.declared.memory.Mapping.{Mapping}
use Rattle.neph_model.specs.declared.told.Told.{Told}
use Rattle.neph_model.specs.declared.told.Told.TheVariants.{Enough, Short, Free}
use Rattle.neph_model.specs.Memory.{page_with_bytes}
use Rattle.neph_model.specs.Machine.{Life, Guest, Tables, Exposed, Shared, exposed_at, guest_at, is_live, life_at, parent_of, put_guest}
use Rattle.neph_model.specs.Lent.{Lent, PageBack}

-- what a call that is accepted leaves: the tables and the exposed pages behind it, its reply, and a
-- page that it gives back
pub record Accepted : Type 0 where
  pub tables : Tables
  pub pages : List Exposed
  pub reply : Reply
  pub back : Option PageBack

-- what a call comes to
abbrev pub CallResult : Type 0
CallResult = Result Accepted Refusal

-- accepted, with this shared half
abbrev pub answers : Shared → Reply → CallResult
answers sh reply = Ok (record { tables = sh.tables; pages = sh.pages; reply = reply; back = None })

-- a page of a domain, where it is exposed
abbrev pub exposed_page : List Exposed → ℕ → ℕ → Option (List ℕ)
exposed_page pages id pfn = fm.get (exposed_at id pages) pfn

-- a page of a domain is exposed
abbrev pub is_exposed : List Exposed → ℕ → ℕ → Bool
is_exposed pages id pfn = is_some (exposed_page pages id pfn)

-- the bytes of an exposed page
abbrev pub exposed_bytes : List Exposed → ℕ → ℕ → List ℕ
exposed_bytes pages id pfn = unwrap_or (exposed_page pages id pfn) []

-- the exposed pages with these as the bytes of one
abbrev pub with_exposed : List Exposed → ℕ → ℕ → List ℕ → List Exposed
with_exposed pages id pfn bytes = slice_set pages id (fm.insert (exposed_at id pages) pfn bytes)

-- the exposed pages with these bytes at an offset of one
abbrev pub with_exposed_bytes : List Exposed → ℕ → ℕ → ℕ → List ℕ → List Exposed
with_exposed_bytes pages id pfn at bytes =
    with_exposed pages id pfn (page_with_bytes (exposed_bytes pages id pfn) at bytes)

-- `w` to an exposed page. To a page of its own a domain asks only where no frame is left.
abbrev pub w_call : Shared → ℕ → ℕ → List ℕ → Option Mapping → CallResult
w_call sh id at bytes None = Err refusal.NoFrame
w_call sh id at bytes (Some to) =
    if is_exposed sh.pages id to.pfn then by to.mode else Err refusal.NoFrame
  where
    written : List Exposed
    written = with_exposed_bytes sh.pages id to.pfn at bytes

    by : Mode → CallResult
    by Ro = Err refusal.ReadOnly
    by Rw = answers (record sh { pages = written }) reply.Done

-- `r` of n bytes of an exposed page
abbrev pub r_call : Shared → ℕ → ℕ → ℕ → Option Mapping → CallResult
r_call sh id at n met = answers sh (reply.Bytes (option_map_or bytes met [])) where
  bytes : Mapping → List ℕ
  bytes to = take n (drop at (exposed_bytes sh.pages id to.pfn))

-- the number that `free` is told
abbrev pub free_told : Told → ℕ
free_told Enough = 0
free_told Short = 0
free_told (Free f) = f

-- the frames that a clone needs: for its root table, its leaf tables, its identity page and its
-- exposed pages
abbrev pub need : Exposed → ℕ → ℕ
need exposed leaves = 2 + leaves + fm.len exposed

-- the refusal of a clone that needs n frames, by what it is told of them
abbrev pub lacks_frames : ℕ → Told → Option Refusal
lacks_frames n Enough = None
lacks_frames n Short = None
lacks_frames n (Free f) = if nat_lt f n then Some (refusal.Frames n f) else None

-- Why a clone of a domain that was born so is refused, if it is: the domain has begun as many as
-- its limit, every id was given, or too few frames are free.
abbrev pub clone_refusal : Tables → Guest → Option Life → ℕ → Told → Option Refusal
clone_refusal t g None n told = Some refusal.Limit
clone_refusal t g (Some life) n told =
    if nat_le life.limit g.accepted then Some refusal.Limit
    else (if nat_le 64 t.next then Some refusal.Ids else lacks_frames n told)

-- A clone begins: the next id is drawn for the child, and the clone counts.
abbrev pub begin_clone : Tables → ℕ → Guest → Tables
begin_clone t id g =
    let counted = record g { begun = g.begun ++ t.next ∷ []; accepted = g.accepted + 1 } in
    record (put_guest id counted t) { next = t.next + 1 }

-- `clone`, refused so or begun
abbrev pub clone_call : Shared → ℕ → Guest → Option Refusal → CallResult
clone_call sh id g (Some why) = Err why
clone_call sh id g None = answers (record sh { tables = begin_clone sh.tables id g })
    (reply.Begun sh.tables.next)

-- the shared half with these grants of a domain
abbrev pub with_grants : Shared → ℕ → Guest → Grants → Shared
with_grants sh id g t = record sh { tables = put_guest id (record g { grants = t }) sh.tables }

-- a domain has this entry of the granter mapped
abbrev pub is_mapped : Tables → ℕ → ℕ → Bool
is_mapped t granter r = list_any (λ (g : Guest). maps_entry g.handles granter r) t.guests

-- the exposed pages without this one
abbrev pub without_exposed : List Exposed → ℕ → ℕ → List Exposed
without_exposed pages id pfn = slice_set pages id (fm.remove (exposed_at id pages) pfn)

-- accepted, and this exposed page is the domain's own again
abbrev pub gives_back : Shared → ℕ → ℕ → CallResult
gives_back sh id pfn = Ok (record {
  tables = sh.tables;
  pages = without_exposed sh.pages id pfn;
  reply = reply.Done;
  back = Some (record { pfn = pfn; bytes = exposed_bytes sh.pages id pfn });
})

-- An entry that named this page was taken away, and these are left. The page is exposed as long as
-- one of them names it.
abbrev pub end_entry : Shared → ℕ → Guest → Grants → ℕ → CallResult
end_entry sh id g left pfn = let ended = with_grants sh id g left in
    if names_page left pfn then answers ended reply.Done else gives_back ended id pfn

-- `ungrant`
abbrev pub ungrant_call : Shared → ℕ → Guest → ℕ → CallResult
ungrant_call sh id g r = by (end_answer g.grants r (is_mapped sh.tables id r)) where
  by : Result ℕ EndFault → CallResult
  by (Err NoGrant) = Err refusal.NoGrant
  by (Err Busy) = Err refusal.Busy
  by (Ok pfn) = end_entry sh id g (fm.remove g.grants r) pfn

-- a clone that was begun and isn't committed has this child
abbrev pub is_begun : Tables → ℕ → Bool
is_begun t id = list_any (λ (g : Guest). list_any (λ child. child == id) g.begun) t.guests

-- the domain of this id was live, and has ended
abbrev pub has_ended : Shared → ℕ → Bool
has_ended sh id = nat_lt 0 id && (nat_lt id sh.tables.next
    && (not (is_live id sh.lives) && not (is_begun sh.tables id)))

-- the shared half with these handles of a domain
abbrev pub with_handles : Shared → ℕ → Guest → Mappings → Shared
with_handles sh id g m = record sh { tables = put_guest id (record g { handles = m }) sh.tables }

-- an entry with this mode is mapped at this handle, if any is free
abbrev pub map_at : Shared → ℕ → Guest → ℕ → ℕ → Mode → Option ℕ → CallResult
map_at sh id g granter r mode None = Err refusal.HandlesFull
map_at sh id g granter r mode (Some h) =
    answers (with_handles sh id g (with_mapping g.handles h granter r mode)) (reply.Number h)

-- `gmap` of an entry of a granter that hasn't ended. Who was never live has no entries.
abbrev pub map_entry : Shared → ℕ → Guest → ℕ → ℕ → CallResult
map_entry sh id g granter r = by (admit_answer (guest_at granter sh.tables).grants r id
    (parent_of (life_at id sh.lives)) granter) where
      by : Result (ℕ × Mode) MapRefused → CallResult
      by (Err NoEntry) = Err refusal.NoEntry
      by (Err NotYours) = Err refusal.NotYours
      by (Ok (pfn, mode)) = map_at sh id g granter r mode (free_handle g.handles)

-- `gmap`
abbrev pub gmap_call : Shared → ℕ → Guest → ℕ → ℕ → CallResult
gmap_call sh id g granter r =
    if has_ended sh granter then Err refusal.Gone else map_entry sh id g granter r

-- `gunmap`
abbrev pub gunmap_call : Shared → ℕ → Guest → ℕ → CallResult
gunmap_call sh id g h = if is_some (fm.get g.handles h)
    then answers (with_handles sh id g (fm.remove g.handles h)) reply.Done
    else Err refusal.NoHandle

-- The page of its granter that a handle maps, which is exposed. None is left where the granter has
-- ended.
abbrev pub mapped_page : Shared → GrantMapping → Option ℕ
mapped_page sh m = by (fm.get (guest_at m.granter sh.tables).grants m.reference) where
  by : Option GrantEntry → Option ℕ
  by None = None
  by (Some e) = if is_exposed sh.pages m.granter e.pfn then Some e.pfn else None

-- `hr` of n bytes by a handle that maps this
abbrev pub hr_call : Shared → ℕ → ℕ → Option GrantMapping → CallResult
hr_call sh at n None = Err refusal.NoHandle
hr_call sh at n (Some m) = by (mapped_page sh m) where
  by : Option ℕ → CallResult
  by None = Err refusal.Gone
  by (Some pfn) = answers sh
      (reply.Bytes (take n (drop at (exposed_bytes sh.pages m.granter pfn))))

-- `hw` by a handle that maps this
abbrev pub hw_call : Shared → ℕ → List ℕ → Option GrantMapping → CallResult
hw_call sh at bytes None = Err refusal.NoHandle
hw_call sh at bytes (Some m) = by (mapped_page sh m) m.mode where
  by : Option ℕ → Mode → CallResult
  by None mode = Err refusal.Gone
  by (Some pfn) Ro = Err refusal.ReadOnly
  by (Some pfn) Rw = answers
      (record sh { pages = with_exposed_bytes sh.pages m.granter pfn at bytes }) reply.Done

-- What a command of a domain asks of the hypervisor, by its rules. A local command asks only where
-- no frame is left.
abbrev pub trap : Shared → ℕ → Guest → Lent → Told → Command → CallResult
trap sh id g l told (command.W addr bytes) = w_call sh id (addr % 4096) bytes l.met
trap sh id g l told (command.R addr len) = r_call sh id (addr % 4096) len l.met
trap sh id g l told command.Free = answers sh (reply.Number (free_told told))
trap sh id g l told command.Clone =
    clone_call sh id g (clone_refusal sh.tables g (life_at id sh.lives)
    (need (exposed_at id sh.pages) l.leaves) told)
trap sh id g l told (command.Ungrant r) = ungrant_call sh id g r
trap sh id g l told (command.Gmap granter r) = gmap_call sh id g granter r
trap sh id g l told (command.Gunmap h) = gunmap_call sh id g h
trap sh id g l told (command.Hr h at len) = hr_call sh at len (fm.get g.handles h)
trap sh id g l told (command.Hw h at bytes) = hw_call sh at bytes (fm.get g.handles h)
trap sh id g l told _ = Err refusal.NoFrame

-- a command that a domain can't do yet: none of today's waits for anything
abbrev pub is_blocked : Shared → ℕ → Command → Bool
is_blocked sh id c = false
