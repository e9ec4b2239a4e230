-- A domain stands on no more frames than a domain line of its family allows.
use Rattle.std.proofs.Common.{◌≡◌, ℕ, zero, suc, ◌+◌, ◌<◌, ◌≤◌, cond, inl, inr, List, [], ◌∷◌, length, drop, Option, Some, None, refl, ap, arith}
use Rattle.std.specs.Prelude.{count_by, option_map}
use Rattle.std.proofs.lemmas.Bool.Decides.{leb_tells}
use Rattle.std.proofs.lemmas.List.Sums.{sum_by-cons}
use Rattle.neph_base.specs.declared.command.Command.{Command}
use Rattle.neph_base.specs.declared.command.Command.TheVariants as command
use Rattle.neph_model.specs.declared.own.Own.{Own}
use Rattle.neph_model.specs.declared.script.Script.{Script}
use Rattle.neph_model.specs.declared.script.Start.{Start}
use Rattle.neph_model.specs.declared.life.Life.{Life}
use Rattle.neph_model.specs.declared.book.Book.{Book}
use Rattle.neph_model.specs.declared.book.Spends.{Spends}
use Rattle.neph_model.specs.declared.book.Spends.TheVariants.{Nothing, Leaf, Copy}
use Rattle.neph_model.specs.declared.told.Told.{Told}
use Rattle.neph_model.specs.declared.told.Told.TheVariants.{Enough, Short, Free}
use Rattle.neph_model.specs.Programs.{commands_of, program_at, command_in}
use Rattle.neph_model.specs.Machine.{program_of, size_of}
use Rattle.neph_model.specs.Counting.{is_map, start_cap, cap, greater}
use Rattle.neph_model.specs.Books.{Books}
use Rattle.neph_runs.proofs.Says.{Says}
use Rattle.neph_runs.proofs.StepsBy.{leaf_of}
use Rattle.neph_runs.proofs.Colours.{bit}

-- how many `map` lines are left from this line on
abbrev pub maps_left : Script → Option Life → ℕ → ℕ
maps_left s life line = count_by is_map (drop line (commands_of (program_at s (program_of life))))

-- the pages, tables, spare and leaf tables to come of a domain are no more than the cap
abbrev pub IsCapped : Script → Option Life → Own → Type 0
IsCapped s life o = length o.pages + 2 + length o.leaves + maps_left s life o.line ≤ cap s s.starts

-- a line that is a `map` is one of those that are left
here_or_after : (cs : List Command) (line : ℕ) → bit (is_map (command_in cs line)) + count_by is_map (drop (suc line) cs) ≤ count_by is_map (drop line cs)
here_or_after [] line = omega arith
here_or_after (c ∷ cs) zero = omega (arith, sum_by-cons (λ (x : Command). bit (is_map x)) c cs)
here_or_after (c ∷ cs) (suc line) = here_or_after cs line

fewer_left : (cs : List Command) (a b : ℕ) → a ≤ b → count_by is_map (drop b cs) ≤ count_by is_map (drop a cs)
fewer_left [] a zero le = omega arith
fewer_left [] a (suc b) le = omega arith
fewer_left (c ∷ cs) zero zero le = omega arith
fewer_left (c ∷ cs) (suc a) zero le = absurd (omega arith)
fewer_left (c ∷ cs) zero (suc b) le = omega (arith, fewer_left cs 0 b (omega arith), sum_by-cons (λ (x : Command). bit (is_map x)) c cs)
fewer_left (c ∷ cs) (suc a) (suc b) le = fewer_left cs a b (omega arith)

-- only a `map` makes a leaf table
leaf_maps : (c : Command) (o : Own) (b : Book) (bs : Books) (n : ℕ) (t : Told) (sp : Spends) → Says n bs o b c t sp → leaf_of sp ≤ bit (is_map c)
leaf_maps c o b bs n t Nothing h = omega arith
leaf_maps c o b bs n t (Copy pfn) h = omega arith
leaf_maps (command.Map vpn pfn mode) o b bs n t Leaf h = omega arith
leaf_maps _ o b bs n Enough Leaf h = absurd h
leaf_maps _ o b bs n Short Leaf h = absurd h
leaf_maps _ o b bs n (Free f) Leaf h = absurd h

-- a later line
pub later_capped : (s : Script) (life : Option Life) (o n : Own) → IsCapped s life o → length n.pages ≡ length o.pages → length n.leaves ≡ length o.leaves → o.line ≤ n.line → IsCapped s life n
later_capped s life o n h pages leaves later = omega (arith, h, pages, leaves, fewer_left (commands_of (program_at s (program_of life))) o.line n.line later)

-- a line of this command
pub steps_capped : (s : Script) (life : Option Life) (o n : Own) (c : Command) (b : Book) (bs : Books) (k : ℕ) (t : Told) (sp : Spends) → IsCapped s life o → c ≡ command_in (commands_of (program_at s (program_of life))) o.line → Says k bs o b c t sp
    → length n.pages ≡ length o.pages → length n.leaves ≡ length o.leaves + leaf_of sp → o.line < n.line → IsCapped s life n
steps_capped s life o n c b bs k t sp h is says pages leaves later =
    let cs = commands_of (program_at s (program_of life)) in
    let leaf = leaf_maps c o b bs k t sp says in
    let map = ap (λ x. bit (is_map x)) is in
    let first = here_or_after cs o.line in
    let rest = fewer_left cs (suc o.line) n.line (omega (arith, later)) in
    omega (arith, h, pages, leaves, leaf, map, first, rest)

-- a child runs its parent's program
pub child_capped : (s : Script) (id : ℕ) (life : Option Life) (o n : Own) → IsCapped s life o → length n.pages ≡ length o.pages → length n.leaves ≡ length o.leaves → o.line ≤ n.line → IsCapped s (option_map (λ (l : Life). record l { parent = id }) life) n
child_capped s id None o n h pages leaves later = later_capped s None o n h pages leaves later
child_capped s id (Some l) o n h pages leaves later = later_capped s (Some l) o n h pages leaves later

-- and has as many pages
pub child_size : (id : ℕ) (life : Option Life) → size_of life ≡ size_of (option_map (λ (l : Life). record l { parent = id }) life)
child_size id None = refl
child_size id (Some l) = refl

greater_left : (m n : ℕ) → m ≤ greater m n
greater_left m n = elim (leb_tells (suc m) n) [ inl h ↦ (let e = ap (λ b. cond b n m) h.0 in omega (arith, e, h.1)) | inr h ↦ (let e = ap (λ b. cond b n m) h.0 in omega (arith, e)) ]

greater_right : (m n : ℕ) → n ≤ greater m n
greater_right m n = elim (leb_tells (suc m) n) [ inl h ↦ (let e = ap (λ b. cond b n m) h.0 in omega (arith, e)) | inr h ↦ (let e = ap (λ b. cond b n m) h.0 in omega (arith, e, h.1)) ]

pub cap_head : (s : Script) (t : Start) (ts : List Start) → start_cap s t ≤ cap s (t ∷ ts)
cap_head s t ts = greater_right (cap s ts) (start_cap s t)

pub cap_tail : (s : Script) (t : Start) (ts : List Start) → cap s ts ≤ cap s (t ∷ ts)
cap_tail s t ts = greater_left (cap s ts) (start_cap s t)
