-- What the calls on a domain's memory answer.
use Rattle.std.specs.Prelude.{◌≡◌, ◌==◌, if◌then◌else◌, ℕ, List, take, drop, Some, None, Result, Ok, Err}
use Rattle.std.specs.declared.option.Option.{Option}
use Rattle.neph_base.specs.declared.command.Mode.{Mode}
use Rattle.neph_base.specs.declared.command.Mode.TheVariants.{Ro, Rw}
use Rattle.neph_model.specs.declared.memory.Mapping.{Mapping}
use Rattle.neph_model.specs.Memory.{page_with_bytes}
use Rattle.neph_memory.specs.declared.touch.Touch.{Touch}
use Rattle.neph_memory.specs.declared.touch.Touch.TheVariants.{Unmapped, Exposed}
use Rattle.neph_memory.specs.declared.write.Write.{Write}
use Rattle.neph_memory.specs.declared.write.WriteStep.{WriteStep}
use Rattle.neph_memory.specs.declared.write.WriteStep.TheVariants as step

-- a read of n bytes of a page: it is exposed where it isn't the domain's own
abbrev pub read_page : Option (List ℕ) → ℕ → ℕ → ℕ → Result (List ℕ) Touch
read_page None p at n = Err (Exposed p)
read_page (Some bytes) p at n = Ok (take n (drop at bytes))

-- a read where this is mapped
abbrev pub read_answer : (ℕ → Option (List ℕ)) → Option Mapping → ℕ → ℕ → Result (List ℕ) Touch
read_answer pages None at n = Err Unmapped
read_answer pages (Some m) at n = read_page (pages m.pfn) m.pfn at n

-- the answer of a write where this is mapped, with the page's bytes if it is the domain's own
abbrev pub IsStepOn : Option (List ℕ) → Mapping → WriteStep → Type 0
IsStepOn None m s = s ≡ step.Exposed m.pfn
IsStepOn (Some bytes) m s = by_mode m.mode s where
  by_mode : Mode → WriteStep → Type 0
  by_mode Ro s = s ≡ step.ReadOnly
  by_mode Rw step.Done = Unit {0}
  by_mode Rw step.Copying = Unit {0}
  by_mode Rw _ = ⊥

abbrev pub IsWriteStep : (ℕ → Option (List ℕ)) → Option Mapping → WriteStep → Type 0
IsWriteStep pages None s = s ≡ step.Unmapped
IsWriteStep pages (Some m) s = IsStepOn (pages m.pfn) m s

-- a page with these bytes at this offset, where it is the domain's own
abbrev pub own_page_with_bytes : Option (List ℕ) → ℕ → List ℕ → Option (List ℕ)
own_page_with_bytes None at bytes = None
own_page_with_bytes (Some page) at bytes = Some (page_with_bytes page at bytes)

-- the bytes of the page q after a write into the page p
abbrev pub with_write : (ℕ → Option (List ℕ)) → ℕ → ℕ → List ℕ → ℕ → Option (List ℕ)
with_write pages p at bytes q =
    if q == p then own_page_with_bytes (pages q) at bytes else pages q

-- the bytes of the page q after a step of a write where this is mapped
abbrev pub page_after_step : WriteStep → Option Mapping → (ℕ → Option (List ℕ)) → ℕ → List ℕ → ℕ
    → Option (List ℕ)
page_after_step step.Done (Some m) pages at bytes q = with_write pages m.pfn at bytes q
page_after_step _ _ pages at bytes q = pages q

-- the write in hand after it
abbrev pub hand_after_step : WriteStep → Option Mapping → ℕ → List ℕ → Option Write → Option Write
hand_after_step step.Copying (Some m) at bytes old =
    Some (record { pfn = m.pfn; at = at; bytes = bytes })
hand_after_step _ _ at bytes old = old
