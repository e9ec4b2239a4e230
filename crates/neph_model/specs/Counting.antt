-- How many free frames a reply may count, and when it may say that none is left.
use Rattle.std.specs.Prelude.{ℕ, ◌+◌, ◌*◌, ◌-◌, ◌≤◌, if◌then◌else◌, nat_lt, List, [], ◌∷◌, length, Option, None, Some, count_by, slice_index_or, IfSome, Bool, true, false, not}
use Rattle.std.specs.Option.{option_map_or}
use Rattle.std.specs.FinMap as fm
use Rattle.neph_base.specs.declared.command.Command.{Command}
use Rattle.neph_base.specs.declared.command.Command.TheVariants as command
use Rattle.neph_base.specs.declared.reply.Entry.{Entry}
use Rattle.neph_base.specs.declared.reply.Entry.TheVariants.{Line, Commit, Daemon}
use Rattle.neph_base.specs.declared.reply.Reply.{Reply}
use Rattle.neph_base.specs.declared.reply.Reply.TheVariants.{Number, Refused}
use Rattle.neph_base.specs.declared.reply.Refusal.TheVariants.{NoFrame, Frames}
use Rattle.neph_model.specs.declared.script.Script.{Script}
use Rattle.neph_model.specs.declared.script.Start.{Start}
use Rattle.neph_model.specs.declared.memory.Mapping.{Mapping}
use Rattle.neph_model.specs.Programs.{commands_of, program_at, command_at}
use Rattle.neph_model.specs.Machine.{Own, Shared, guest_at, exposed_at, sum_live}
use Rattle.neph_model.specs.Start.{started_512s}
use Rattle.neph_model.specs.Own.{mapping_at, has_leaf}

abbrev pub is_map : Command → Bool
is_map (command.Map vpn pfn mode) = true
is_map _ = false

-- The most frames that a domain of this line may stand on: its pages, a root table, a spare, and a
-- leaf table for each started 512 pages and for each `map` of its program.
abbrev pub start_cap : Script → Start → ℕ
start_cap s t = t.pages + 2 + started_512s t.pages
    + count_by is_map (commands_of (program_at s t.program))

-- the greater of two numbers
abbrev pub greater : ℕ → ℕ → ℕ
greater m n = if nat_lt m n then n else m

-- the most frames that any domain of a script may stand on
abbrev pub cap : Script → List Start → ℕ
cap s [] = 0
cap s (t ∷ ts) = greater (cap s ts) (start_cap s t)

-- how many children a domain has begun and not committed
abbrev pub in_flight : Shared → ℕ → ℕ
in_flight sh id = length (guest_at id sh.tables).begun

-- how many pages of a domain are exposed
abbrev pub exposed_pages : Shared → ℕ → ℕ
exposed_pages sh id = fm.len (exposed_at id sh.pages)

-- the exposed pages of the live domains
abbrev pub exposed_count : Shared → ℕ
exposed_count sh = sum_live (exposed_pages sh) sh.lives

-- the live domains and the children in flight
abbrev pub holders : Shared → ℕ
holders sh = sum_live (λ id. 1 + in_flight sh id) sh.lives

-- the exposed pages that the children in flight will have
abbrev pub exposed_in_flight : Shared → ℕ
exposed_in_flight sh = sum_live (λ id. in_flight sh id * exposed_pages sh id) sh.lives

-- so many free frames are possible here
pub record IsPossible (s : Script) (sh : Shared) (free : ℕ) : Type 0 where
  pub least : exposed_count sh ≤ s.frames - free
  pub most : s.frames - free ≤ cap s s.starts * holders sh
      + (exposed_count sh + exposed_in_flight sh)

-- the free frames that a reply to a command counts
abbrev pub frames_counted : Command → Reply → Option ℕ
frames_counted command.Free (Number free) = Some free
frames_counted _ (Refused NoFrame) = Some 0
frames_counted _ (Refused (Frames need free)) = Some free
frames_counted _ _ = None

-- the command of an entry, an exit where it is none of a line
abbrev pub entry_command : Script → ℕ → Entry → Command
entry_command s p (Line dom line) = command_at s p line
entry_command s p (Commit dom line) = command.Exit
entry_command s p Daemon = command.Exit

-- the free frames that a reply counts are possible
abbrev pub CountsWell : Script → Shared → Command → Reply → Type 0
CountsWell s sh c reply = IfSome (frames_counted c reply) (IsPossible s sh)

-- a page isn't known to be the domain's alone
abbrev pub may_be_shared : Own → Option Mapping → Bool
may_be_shared o met = option_map_or (λ (x : Mapping). not (slice_index_or o.alone x.pfn false)) met
    false

-- No frame may lack for a command: a page that may be shared is to be written, or a leaf table is
-- missing.
abbrev pub may_lack : Own → Command → Bool
may_lack o (command.W addr bytes) = may_be_shared o (mapping_at o addr)
may_lack o (command.Map vpn pfn mode) = not (has_leaf o vpn)
may_lack o _ = true

-- `noframe` is answered only where a frame may lack
abbrev pub lacks_well : Own → Command → Reply → Bool
lacks_well o c (Refused NoFrame) = may_lack o c
lacks_well o c _ = true
