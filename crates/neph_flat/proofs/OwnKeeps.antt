-- What a domain's local commands keep of its own half.
use Rattle.std.proofs.Common.{◌≡◌, ◌≢◌, ℕ, zero, suc, ◌+◌, ◌/◌, ◌%◌, ◌<◌, ◌≤◌, Bool, true, false, cond, List, [], ◌∷◌, length, set, Option, Some, None, Ok, Err, All, refl, sym, subst, ◌∙◌, arith}
use Rattle.std.specs.Prelude.{IfSome, slice_get, option_map}
use Rattle.std.specs.Ordering.{nat_cmp, eq_by_cmp}
use Rattle.std.specs.Cmp.{nat_cmp_total}
use Rattle.std.specs.FinMap as map
use Rattle.std.proofs.lemmas.List.{length-set, length-append}
use Rattle.std.proofs.lemmas.List.Elements.{All-head, All-tail}
use Rattle.std.proofs.lemmas.Grind.{common_steps}
use Rattle.neph_base.specs.declared.command.Command.{Command}
use Rattle.neph_base.specs.declared.command.Command.TheVariants as command
use Rattle.neph_base.specs.declared.command.Mode.{Mode}
use Rattle.neph_base.specs.declared.command.Mode.TheVariants.{Ro, Rw}
use Rattle.neph_base.specs.declared.reply.Reply.{Reply}
use Rattle.neph_base.specs.declared.reply.Reply.TheVariants.{Done}
use Rattle.neph_base.specs.declared.reply.Refusal.TheVariants.{BadPfn}
use Rattle.neph_model.specs.declared.script.Script.{Script}
use Rattle.neph_model.specs.declared.script.Program.{Program}
use Rattle.neph_model.specs.declared.script.Label.{Label}
use Rattle.neph_model.specs.declared.memory.Mapping.{Mapping}
use Rattle.neph_model.specs.declared.own.Own.{Own}
use Rattle.neph_model.specs.declared.told.Told.{Told}
use Rattle.neph_model.specs.declared.told.Told.TheVariants.{Enough, Short, Free}
use Rattle.neph_model.specs.Memory.{page_with_bytes}
use Rattle.neph_model.specs.Programs.{commands_of, labels_of, program_at, command_in, command_at, label_line, label_line_at}
use Rattle.neph_model.specs.Own.{LocalResult, page_of, mapping_at, with_bytes, w_step, r_step, map_step, leaf_step, unmap_step, is_bad_pfn, has_leaf, with_mapping, with_leaf, settle, jump_step, local_step}
use Rattle.neph_model.specs.WellFormed.{IsWellFormed, IsWellFormedProgram, JumpsAhead, FitsPage}
use Rattle.neph_flat.specs.Sound.{IsMapped, IsSoundOwn}

pub some_is : {A : Type 0} {x y : A} → Some x ≡ Some y → x ≡ y
some_is e = cc

-- what a row leaves of an own half
pub record Keeps (o new : Own) : Type 0 where
  pub pages : length new.pages ≡ length o.pages
  pub alone : length new.alone ≡ length o.alone
  pub leaves : length new.leaves ≤ length o.leaves + 1
  pub mapped : IsMapped o → IsMapped new

pub keeps_line : (o : Own) (line : ℕ) (came refused : Bool) → Keeps o (record o { line = line; came = came; refused = refused })
keeps_line o line came refused = record { pages = refl; alone = refl; leaves = omega arith; mapped = λ h. h }

-- what a local row leaves, where it is accepted
abbrev KeptRow : Own → LocalResult → Type 0
KeptRow o None = Unit {0}
KeptRow o (Some (Err why)) = Unit {0}
KeptRow o (Some (Ok did)) = Keeps o did.0

pub keeps_bytes : (o : Own) (pfn : ℕ) (page : List ℕ) (at : ℕ) (bytes : List ℕ) → Keeps o (with_bytes o pfn page at bytes)
keeps_bytes o pfn page at bytes =
    let new = page_with_bytes page at bytes in
    let same : length (set o.pages pfn (Some new)) ≡ length o.pages = length-set o.pages pfn (Some new) in
    record { pages = same; alone = length-set o.alone pfn true; leaves = omega arith; mapped = λ h v. rw same (h v) }

kept_wrote : (o : Own) (told : Told) (at : ℕ) (bytes : List ℕ) (pfn : ℕ) (mode : Mode) (page : Option (List ℕ)) → page_of o pfn ≡ page → KeptRow o (w_step o told at bytes (Some (record { pfn = pfn; mode = mode })))
kept_wrote o told at bytes pfn mode None is = rw is tt
kept_wrote o told at bytes pfn Ro (Some b) is = rw is tt
kept_wrote o Short at bytes pfn Rw (Some b) is = rw is tt
kept_wrote o Enough at bytes pfn Rw (Some b) is = rw is (keeps_bytes o pfn b at bytes)
kept_wrote o (Free f) at bytes pfn Rw (Some b) is = rw is (keeps_bytes o pfn b at bytes)

kept_w : (o : Own) (told : Told) (at : ℕ) (bytes : List ℕ) (met : Option Mapping) → KeptRow o (w_step o told at bytes met)
kept_w o told at bytes None = tt
kept_w o told at bytes (Some to) = kept_wrote o told at bytes to.pfn to.mode (page_of o to.pfn) refl

keeps_self : (o : Own) → Keeps o o
keeps_self o = keeps_line o o.line o.came o.refused

kept_read : (o : Own) (at n pfn : ℕ) (mode : Mode) (page : Option (List ℕ)) → page_of o pfn ≡ page → KeptRow o (r_step o at n (Some (record { pfn = pfn; mode = mode })))
kept_read o at n pfn mode None is = rw is tt
kept_read o at n pfn mode (Some b) is = rw is (keeps_self o)

kept_r : (o : Own) (at n : ℕ) (met : Option Mapping) → KeptRow o (r_step o at n met)
kept_r o at n None = tt
kept_r o at n (Some to) = kept_read o at n to.pfn to.mode (page_of o to.pfn) refl

-- a look-up behind an insertion finds what was put, or what was there
pub put_or_old : (b : Bool) (x : Mapping) (n : ℕ) (o : Option Mapping) → x.pfn < n → IfSome o (λ y. y.pfn < n) → IfSome (cond b (Some x) o) (λ y. y.pfn < n)
put_or_old b x n o lt h = elim b as (λ t. IfSome (cond t (Some x) o) (λ y. y.pfn < n)) [ true ↦ lt | false ↦ h ]

mapped_more : (o : Own) (vpn pfn : ℕ) (mode : Mode) → pfn < length o.pages → IsMapped o → IsMapped (with_mapping o vpn pfn mode)
mapped_more o vpn pfn mode lt h v =
    let to : Mapping = record { pfn = pfn; mode = mode } in
    rw (map.get-insert nat_cmp_total o.vmap vpn to v) (put_or_old (eq_by_cmp nat_cmp v vpn) to (length o.pages) (map.get o.vmap v) lt (h v))

keeps_mapping : (o : Own) (vpn pfn : ℕ) (mode : Mode) → pfn < length o.pages → Keeps o (with_mapping o vpn pfn mode)
keeps_mapping o vpn pfn mode lt = record { pages = refl; alone = refl; leaves = omega arith; mapped = mapped_more o vpn pfn mode lt }

keeps_leaf : (o : Own) (vpn pfn : ℕ) (mode : Mode) → pfn < length o.pages → Keeps o (with_leaf (with_mapping o vpn pfn mode) vpn)
keeps_leaf o vpn pfn mode lt =
    record { pages = refl; alone = refl; leaves = omega (arith, length-append o.leaves (vpn / 512 ∷ [])); mapped = mapped_more o vpn pfn mode lt }

kept_leaf : (o : Own) (vpn pfn : ℕ) (mode : Mode) (told : Told) → pfn < length o.pages → KeptRow o (leaf_step (with_leaf (with_mapping o vpn pfn mode) vpn) told)
kept_leaf o vpn pfn mode Enough lt = keeps_leaf o vpn pfn mode lt
kept_leaf o vpn pfn mode Short lt = tt
kept_leaf o vpn pfn mode (Free f) lt = keeps_leaf o vpn pfn mode lt

-- a page that may be mapped is there
good_pfn : (o : Own) (pfn : ℕ) (mode : Mode) → is_bad_pfn o pfn mode ≡ false → pfn < length o.pages
good_pfn o pfn Ro e = grind (arith, common_steps)
good_pfn o pfn Rw e = grind (arith, common_steps)

kept_map : (o : Own) (told : Told) (vpn pfn : ℕ) (mode : Mode) → KeptRow o (map_step o told vpn pfn mode)
kept_map o told vpn pfn mode =
    let new = with_mapping o vpn pfn mode in
    let leafless = leaf_step (with_leaf new vpn) told in
    elim (is_bad_pfn o pfn mode) as (λ b. is_bad_pfn o pfn mode ≡ b → KeptRow o (cond b (Some (Err BadPfn)) (cond (has_leaf o vpn) (Some (Ok (new, Done))) leafless))) [
      | true ↦ λ e. tt
      | false ↦ λ e.
          elim (has_leaf o vpn) as (λ b. KeptRow o (cond b (Some (Ok (new, Done))) leafless)) [
            | true ↦ keeps_mapping o vpn pfn mode (good_pfn o pfn mode e)
            | false ↦ kept_leaf o vpn pfn mode told (good_pfn o pfn mode e)
          ]
    ] refl

none_or_old : (b : Bool) (n : ℕ) (o : Option Mapping) → IfSome o (λ y. y.pfn < n) → IfSome (cond b None o) (λ y. y.pfn < n)
none_or_old b n o h = elim b as (λ t. IfSome (cond t None o) (λ y. y.pfn < n)) [ true ↦ tt | false ↦ h ]

mapped_less : (o : Own) (vpn : ℕ) → IsMapped o → IsMapped (record o { vmap = map.remove o.vmap vpn })
mapped_less o vpn h v = rw (map.get-remove nat_cmp_total o.vmap vpn v) (none_or_old (eq_by_cmp nat_cmp v vpn) (length o.pages) (map.get o.vmap v) (h v))

kept_unmap : (o : Own) (vpn : ℕ) (met : Option Mapping) → KeptRow o (unmap_step o vpn met)
kept_unmap o vpn None = tt
kept_unmap o vpn (Some to) = record { pages = refl; alone = refl; leaves = omega arith; mapped = mapped_less o vpn }

-- an own half that goes on is sound
pub sound_on : (o new : Own) → IsSoundOwn o → Keeps o new → o.line < new.line → new.line ≤ 512 → length new.leaves ≤ 2 + new.line → IsSoundOwn new
sound_on o new h k lt le leaves =
    record {
      pages_low = omega (arith, k.pages, h.pages_low);
      pages_high = omega (arith, k.pages, h.pages_high);
      mapped = k.mapped h.mapped;
      alone = k.alone ∙ h.alone ∙ sym k.pages;
      line = le;
      leaves = leaves;
    }

settled_sound : (o new : Own) (r : Reply) (row : LocalResult) → IsSoundOwn o → o.line < 512 → KeptRow o row → option_map (settle o) row ≡ Some (new, r) → IsSoundOwn new
settled_sound o new r None h lt k e = absurd (cc)
settled_sound o new r (Some (Err why)) h lt k e =
    subst (λ (p : Own × Reply). IsSoundOwn p.0) (some_is e) (sound_on o (record o { line = o.line + 1; refused = true }) h (keeps_line o (o.line + 1) o.came true) (omega arith) (omega arith) (omega (arith, h.leaves)))
settled_sound o new r (Some (Ok did)) h lt k e =
    let here : Own = record did.0 { line = o.line + 1; refused = false } in
    let keeps : Keeps o here = record { pages = k.pages; alone = k.alone; leaves = k.leaves; mapped = k.mapped } in
    subst (λ (p : Own × Reply). IsSoundOwn p.0) (some_is e) (sound_on o here h keeps (omega arith) (omega arith) (omega (arith, h.leaves, k.leaves)))

jumped_sound : (o new : Own) (r : Reply) (line : ℕ) (taken : Bool) → IsSoundOwn o → o.line < line → line ≤ 512 → jump_step o line taken ≡ Some (new, r) → IsSoundOwn new
jumped_sound o new r line true h lt le e =
    subst (λ (p : Own × Reply). IsSoundOwn p.0) (some_is e) (sound_on o (record o { line = line }) h (keeps_line o line o.came o.refused) lt le (omega (arith, h.leaves)))
jumped_sound o new r line false h lt le e =
    subst (λ (p : Own × Reply). IsSoundOwn p.0) (some_is e) (sound_on o (record o { line = o.line + 1 }) h (keeps_line o (o.line + 1) o.came o.refused) (omega arith) (omega arith) (omega (arith, h.leaves)))

-- what a command needs of its program: it isn't behind line 511, and jumps ahead to a line of the program
pub record Runs (labels : List Label) (line : ℕ) (c : Command) : Type 0 where
  pub short : c ≢ command.Exit → line < 512
  pub ahead : JumpsAhead labels line c
  pub low : (place : ℕ) → label_line labels place ≤ 512
  pub fits : FitsPage c

-- a command that isn't the exit behind the last one stands at a line of its program
written_line : (cs : List Command) (line : ℕ) → command_in cs line ≢ command.Exit → line < length cs
written_line [] line h = absurd (h refl)
written_line (c ∷ cs) zero h = omega arith
written_line (c ∷ cs) (suc line) h = let rest = written_line cs line h in omega (arith, rest)

low_line : (n : ℕ) (labels : List Label) (place : ℕ) → n ≤ 512 → All (λ (l : Label). l.at ≤ n) labels → label_line labels place ≤ 512
low_line n [] place le h = omega arith
low_line n (l ∷ labels) zero le h = omega (arith, All-head (λ (x : Label). x.at ≤ n) l labels h)
low_line n (l ∷ labels) (suc place) le h = low_line n labels place le (All-tail (λ (x : Label). x.at ≤ n) l labels h)

fits_in : (cs : List Command) (line : ℕ) → All FitsPage cs → FitsPage (command_in cs line)
fits_in [] line h = tt
fits_in (c ∷ cs) zero h = All-head FitsPage c cs h
fits_in (c ∷ cs) (suc line) h = fits_in cs line (All-tail FitsPage c cs h)

runs_program : (o : Option Program) (line : ℕ) → IfSome o IsWellFormedProgram → Runs (labels_of o) line (command_in (commands_of o) line)
runs_program None line h = record { short = λ e. absurd (e refl); ahead = tt; low = λ place. omega arith; fits = tt }
runs_program (Some p) line h =
    record {
      short = λ e. omega (arith, written_line p.commands line e, h.few);
      ahead = h.ahead line;
      low = λ place. low_line (length p.commands) p.labels place h.few h.labels;
      fits = fits_in p.commands line h.fit;
    }

formed_at : (ps : List Program) (i : ℕ) → All IsWellFormedProgram ps → IfSome (slice_get ps i) IsWellFormedProgram
formed_at [] i h = tt
formed_at (p ∷ ps) zero h = All-head IsWellFormedProgram p ps h
formed_at (p ∷ ps) (suc i) h = formed_at ps i (All-tail IsWellFormedProgram p ps h)

-- a line of a well-formed script
pub runs_line : (s : Script) (p line : ℕ) → IsWellFormed s → Runs (labels_of (program_at s p)) line (command_at s p line)
runs_line s p line h = runs_program (program_at s p) line (formed_at s.programs p h.programs)

-- a local command of a program leaves a sound own half
pub local_sound : (s : Script) (p : ℕ) (o new : Own) (told : Told) (c : Command) (r : Reply) → IsSoundOwn o → Runs (labels_of (program_at s p)) o.line c → local_step s p o told c ≡ Some (new, r) → IsSoundOwn new
local_sound s p o new told (command.W addr bytes) r h runs e =
    settled_sound o new r (w_step o told (addr % 4096) bytes (mapping_at o addr)) h (runs.short (λ q. absurd (cc))) (kept_w o told (addr % 4096) bytes (mapping_at o addr)) e
local_sound s p o new told (command.R addr len) r h runs e =
    settled_sound o new r (r_step o (addr % 4096) len (mapping_at o addr)) h (runs.short (λ q. absurd (cc))) (kept_r o (addr % 4096) len (mapping_at o addr)) e
local_sound s p o new told (command.Map vpn pfn mode) r h runs e = settled_sound o new r (map_step o told vpn pfn mode) h (runs.short (λ q. absurd (cc))) (kept_map o told vpn pfn mode) e
local_sound s p o new told (command.Unmap vpn) r h runs e = settled_sound o new r (unmap_step o vpn (map.get o.vmap vpn)) h (runs.short (λ q. absurd (cc))) (kept_unmap o vpn (map.get o.vmap vpn)) e
local_sound s p o new told (command.Jump label) r h runs e = jumped_sound o new r (label_line_at s p label) true h runs.ahead.1 (runs.low label) e
local_sound s p o new told (command.JChild label) r h runs e = jumped_sound o new r (label_line_at s p label) o.came h runs.ahead.1 (runs.low label) e
local_sound s p o new told (command.JFail label) r h runs e = jumped_sound o new r (label_line_at s p label) o.refused h runs.ahead.1 (runs.low label) e
local_sound s p o new told command.Exit r h runs e = absurd (cc)
local_sound s p o new told (command.Ungrant n) r h runs e = absurd (cc)
local_sound s p o new told (command.Gmap granter n) r h runs e = absurd (cc)
local_sound s p o new told (command.Gunmap k) r h runs e = absurd (cc)
local_sound s p o new told (command.Hr k at n) r h runs e = absurd (cc)
local_sound s p o new told (command.Hw k at bytes) r h runs e = absurd (cc)
local_sound s p o new told command.Free r h runs e = absurd (cc)
local_sound s p o new told command.Clone r h runs e = absurd (cc)
