-- The laws, for the pool of one thread.
use Rattle.std.proofs.Common.{arith}
use Rattle.neph_pool.specs.Plain.{plain_world}
use Rattle.neph_accounts.specs.Accounts.{places, rows}
use Rattle.neph_accounts.specs.Colours.{new_frames}
use Rattle.neph_accounts.specs.Laws as law
use Rattle.neph_accounts.proofs.Frames.{plain_survey, count_is, one_class, all_frames}
use Rattle.neph_accounts.proofs.Named.{all_held}
use Rattle.neph_accounts.proofs.Naming.{are_named}
use Rattle.neph_accounts.proofs.Heaps.{new_named, new_order}
use Rattle.neph_accounts.proofs.Uses as uses
use Rattle.neph_accounts.proofs.Sharing as sharing
use Rattle.neph_accounts.proofs.Recolouring.{with_colour}
use Rattle.neph_accounts.proofs.Bearing.{with_new, stands_committed}
use Rattle.neph_accounts.proofs.Starting.{stands_opening}
use Rattle.neph_accounts.proofs.Turns as turns
use Rattle.neph_accounts.proofs.Moving as moving

pub seats_are_all : law.SeatsAreAll
seats_are_all p heap accounts h = all_held plain_world p heap accounts h

pub ids_name_seats : law.IdsNameSeats
ids_name_seats p heap accounts child h = are_named plain_world p heap accounts child h

pub new_pool_is_free : law.NewPoolIsFree
new_pool_is_free n cap p s start = (new_named n cap p s start, new_order n s)

pub one_use : law.HasOneUse
one_use p xs h f lt = one_class plain_world p xs (plain_survey p xs h) f lt

pub uses_exclude : law.UsesExclude
uses_exclude xs f = (
  (λ a b. omega (arith, a.0, b.1)),
  (λ a b. omega (arith, a.0, b.1)),
  (λ a b. omega (arith, a.0, a.1, b.0, b.1)),
)

pub counts_pages : law.CountsPages
counts_pages p xs h f lt = count_is plain_world p xs (plain_survey p xs h) f lt

pub uses_all_frames : law.UsesAllFrames
uses_all_frames p xs h = all_frames plain_world p xs (plain_survey p xs h)

pub colours_are_frames : law.ColoursAreFrames
colours_are_frames p heap accounts φ bs h =
    uses.colours_are plain_world p heap accounts
    (plain_survey p (places heap accounts) h.held) h.order φ bs h.stands

pub free_is_kept : law.FreeIsKept
free_is_kept p heap accounts φ s st h budget total =
    uses.free_is plain_world p heap accounts φ s st
    (plain_survey p (places heap accounts) h.held) h.order h.stands budget total

pub uses_are_counts : law.UsesAreCounts
uses_are_counts p heap accounts φ s st h budget total =
    uses.uses_are plain_world p heap accounts φ s st
    (plain_survey p (places heap accounts) h.held) h.order h.stands budget total

pub count_tells_shared : law.CountTellsShared
count_tells_shared p heap accounts φ bs h id pfn lt fit none =
    sharing.count_tells plain_world p heap accounts
    (plain_survey p (places heap accounts) h.held) h.order φ bs h.stands id pfn lt fit none

pub sole_is_one : law.SoleIsOne
sole_is_one p heap accounts φ bs h id pfn lt fit place =
    sharing.sole_is_one plain_world p heap accounts
    (plain_survey p (places heap accounts) h.held) h.order φ bs h.stands id pfn lt fit place

pub starts_apart : law.StartsApart
starts_apart starts rows ids same once = (_, stands_opening starts rows ids same once)

pub quiet_keeps : law.QuietKeeps
quiet_keeps φ rows bs id b st lt same = turns.stands_quiet φ rows bs id b st lt same

pub line_keeps : law.LineKeeps
line_keeps φ rows bs id o spends answer st lt none n =
    turns.stands_line φ rows bs id o spends answer st lt none n

pub copy_follows : law.CopyFollows
copy_follows rows now bs id pfn f o answer st lt n fit put none = (
  with_colour bs.fresh f st.0,
  turns.stands_copy st.0 rows now bs id pfn f o answer st.1 lt n fit put none,
)

pub move_follows : law.MoveFollows
move_follows rows now bs id pfn f o answer st lt n fit put none one = (
  with_colour _ f st.0,
  moving.stands_move st.0 rows now bs id pfn f st.1 lt fit put none one o answer n,
)

pub end_follows : law.EndFollows
end_follows φ rows now bs id o spends st lt put =
    turns.stands_end φ rows now bs id o spends st lt put

pub commit_follows : law.CommitFollows
commit_follows rows now bs id child o row st lt high ne put born once bare = (
  with_new bs.fresh (new_frames o 0 row) st.0,
  stands_committed st.0 rows now bs id child o row st.1 high put born once bare lt ne,
)
