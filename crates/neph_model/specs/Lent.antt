-- What a domain's own half lends to the hypervisor's calls, and what it is behind them.
use Rattle.std.specs.Prelude.{ℕ, true, false, ◌+◌, List, length, Option, None, Some}
use Rattle.std.specs.Option.{option_map_or}
use Rattle.neph_base.specs.declared.command.Command.{Command}
use Rattle.neph_base.specs.declared.command.Command.TheVariants as command
use Rattle.neph_base.specs.declared.reply.Reply.{Reply}
use Rattle.neph_base.specs.declared.reply.Reply.TheVariants.{Done, Begun, Refused}
use Rattle.neph_model.specs.declared.memory.Mapping.{Mapping}
use Rattle.neph_model.specs.Machine.{Own, no_own}
use Rattle.neph_model.specs.Own.{with_page, with_alone, mapping_at}

-- What the own half lends to an entry under the lock: what its address maps to, how many leaf
-- tables it has, and to a commit itself.
pub record Lent : Type 0 where
  pub met : Option Mapping
  pub leaves : ℕ
  pub born : Own

abbrev pub nothing_lent : Lent
nothing_lent = record { met = None; leaves = 0; born = no_own }

-- what is lent to a command
abbrev pub lent : Own → Command → Lent
lent o (command.W addr bytes) = record nothing_lent { met = mapping_at o addr }
lent o (command.R addr len) = record nothing_lent { met = mapping_at o addr }
lent o command.Clone = record nothing_lent { leaves = length o.leaves }
lent o _ = nothing_lent

-- what is lent to a commit
abbrev pub lent_whole : Own → Lent
lent_whole o = record nothing_lent { born = o }

-- a page that the hypervisor gives back, with its bytes
pub record PageBack : Type 0 where
  pub pfn : ℕ
  pub bytes : List ℕ

-- the own half with a page that is given back to it
abbrev pub with_page_back : Own → Option PageBack → Own
with_page_back o None = o
with_page_back o (Some p) = with_page o p.pfn (Some p.bytes)

-- the own half behind a command that the hypervisor accepted: a page that it wrote, exposed as it
-- is, is no longer shared
abbrev pub own_given : Own → Command → Reply → Own
own_given o (command.W addr bytes) Done =
    option_map_or (λ (x : Mapping). with_alone o x.pfn) (mapping_at o addr) o
own_given o _ _ = o

-- Line and mark behind a reply of the hypervisor. A clone that begins stays at its line until its
-- commit.
abbrev pub own_replied : Own → Reply → Own
own_replied o (Begun child) = record o { refused = false }
own_replied o (Refused why) = record o { line = o.line + 1; refused = true }
own_replied o _ = record o { line = o.line + 1; refused = false }

-- the own half behind a command that was answered so by the hypervisor, which gave this back
abbrev pub own_behind : Own → Command → Reply → Option PageBack → Own
own_behind o command.Exit reply back = no_own
own_behind o command reply back =
    own_replied (with_page_back (own_given o command reply) back) reply
