-- The weave of a journal with the domains' own logs.
use Rattle.std.specs.Prelude.{ℕ, suc, ◌≡◌, ◌≢◌, Bool, true, false, if◌then◌else◌, ◌==◌, ◌||◌, ◌+◌, nat_le, List, [], ◌∷◌, ◌++◌, None, Some, slice_index_or, slice_set, ⊤}
use Rattle.std.specs.Option.{option_map_or}
use Rattle.neph_base.specs.declared.reply.Entry.{Entry}
use Rattle.neph_base.specs.declared.reply.Entry.TheVariants.{Line, Commit, Daemon}
use Rattle.neph_base.specs.declared.reply.Noted.{Noted}
use Rattle.neph_base.specs.declared.reply.Reply.{Reply}
use Rattle.neph_model.specs.declared.script.Script.{Script}
use Rattle.neph_model.specs.Programs.{command_at}
use Rattle.neph_model.specs.Machine.{Own, Shared, is_live}
use Rattle.neph_model.specs.Own.{local_step}
use Rattle.neph_model.specs.Births.{child_own}
use Rattle.neph_model.specs.Counting.{lacks_well, entry_command}
use Rattle.neph_model.specs.Step.{actor, own_step, lends, own_after, child_made, is_next, is_paused}
use Rattle.neph_model.specs.Legal.{told_of, Act}

-- A local entry in its domain's log: its line and reply, and how many entries under the lock the
-- domain had before it.
pub record LogItem : Type 0 where
  pub line : ℕ
  pub reply : Reply
  pub after : ℕ

-- the first items of a log that stand before entry n under the lock
abbrev pub items_due : ℕ → List LogItem → List LogItem
items_due n [] = []
items_due n (x ∷ xs) = if nat_le x.after n then x ∷ items_due n xs else []

-- the items behind them
abbrev pub items_later : ℕ → List LogItem → List LogItem
items_later n [] = []
items_later n (x ∷ xs) = if nat_le x.after n then items_later n xs else x ∷ xs

-- the entries of a domain's log
abbrev pub log_entries : ℕ → List LogItem → List Noted
log_entries id [] = []
log_entries id (x ∷ xs) = record { entry = Line id x.line; reply = x.reply } ∷ log_entries id xs

-- the entries of some logs, the first of which is that of this id
abbrev pub rest_entries : ℕ → List (List LogItem) → List Noted
rest_entries id [] = []
rest_entries id (log ∷ logs) = log_entries id log ++ rest_entries (suc id) logs

abbrev pub count_at : ℕ → List ℕ → ℕ
count_at id counts = slice_index_or counts id 0

abbrev pub log_at : ℕ → List (List LogItem) → List LogItem
log_at id logs = slice_index_or logs id []

-- The weave of a journal with the logs of the ids, which have had so many entries under the lock:
-- before each entry its actor's local ones since its entry before, and at the end those that are
-- left by rising id.
abbrev pub weave : List ℕ → List (List LogItem) → List Act → List Noted
weave counts logs [] = rest_entries 0 logs
weave counts logs (a ∷ acts) =
    let id = actor a.noted.entry in
    let n = count_at id counts in
    let log = log_at id logs in
    log_entries id (items_due n log)
    ++ (a.noted ∷ weave (slice_set counts id (n + 1)) (slice_set logs id (items_later n log))
    acts)

-- these are the local entries of a domain that runs this program, from one own half to another
abbrev pub RunsLocally : Script → ℕ → Own → List LogItem → Own → Type 0
RunsLocally s p o [] last = o ≡ last
RunsLocally s p o (x ∷ xs) last =
    (next : Own) × ((x.line ≡ o.line)
    × (local_step s p o (told_of x.reply) (command_at s p x.line) ≡ Some (next, x.reply))
    × RunsLocally s p next xs last)

-- no local entry stands between a clone and its commit, and the daemon has none
abbrev pub Follows : Entry → List LogItem → Type 0
Follows (Line dom line) log = ⊤
Follows (Commit dom line) log = log ≡ []
Follows Daemon log = log ≡ []

-- the act is the next one of its actor with this own half, which stood behind these local entries
pub record IsNextAct (s : Script) (p : ℕ) (o : Own) (log : List LogItem) (a : Act) : Type 0 where
  pub next : is_next o a.noted.entry ≡ true
  pub locked : own_step s p o a.noted.entry (told_of a.noted.reply) ≡ None
  pub lent : a.lent ≡ lends s p o a.noted.entry
  pub follows : Follows a.noted.entry log
  pub lacks : lacks_well o (entry_command s p a.noted.entry) a.noted.reply ≡ true

-- the act makes this id live
abbrev pub makes : ℕ → Act → Bool
makes id a = option_map_or (λ child. child == id) (child_made a.noted.entry a.noted.reply) false

-- a domain that is live and not paused does its lines
abbrev pub is_running : ℕ → Shared → Bool
is_running id sh = if is_live id sh.lives then (if is_paused id sh then false else true) else false

-- a domain with local entries left is running
abbrev pub RunsOn : Shared → ℕ → List LogItem → Type 0
RunsOn sh id [] = ⊤
RunsOn sh id (x ∷ xs) = is_running id sh ≡ true

-- What a worker knows of its domain: its own half from here to the end, by its log and the
-- journal's acts. A domain that is yet to come begins at its commit, with what its parent lent
-- there.
abbrev pub Tracks : Script → Shared → ℕ → ℕ → Own → ℕ → List LogItem → List Act → Own → Type 0
Tracks s end id p o n log [] last = RunsLocally s p o log last × RunsOn end id log
Tracks s end id p o n log (a ∷ acts) last =
    (actor a.noted.entry ≡ id
    → (here : Own) × (RunsLocally s p o (items_due n log) here
    × IsNextAct s p here (items_due n log) a
    × Tracks s end id p (own_after s p here a.noted.entry a.noted.reply a.back) (n + 1)
    (items_later n log) acts last))
    × (actor a.noted.entry ≢ id → Tracks s end id p (if makes id a
    then child_own id (actor a.noted.entry) a.lent.born else o) n log acts last)

-- a journal cut to an id: its acts of that domain, and the commit that makes it
abbrev pub cut : ℕ → List Act → List Act
cut id [] = []
cut id (a ∷ acts) = if actor a.noted.entry == id || makes id a then a ∷ cut id acts else cut id acts
