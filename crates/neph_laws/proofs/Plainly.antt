-- What a refusal changes, and how a line moves on.
use Rattle.std.proofs.Common.{◌≡◌, ◌≢◌, ℕ, ◌+◌, ◌⊎◌, inl, inr, List, length, Option, Some, None, refl, ap, ◌∙◌}
use Rattle.std.specs.Option.{option_map_or}
use Rattle.std.proofs.lemmas.List.{length-set}
use Rattle.neph_model.specs.declared.memory.Mapping.{Mapping}
use Rattle.neph_base.specs.declared.reply.Reply.{Reply}
use Rattle.neph_base.specs.declared.reply.Reply.TheVariants as reply
use Rattle.neph_base.specs.declared.reply.Reply.TheVariants.{Begun, Refused}
use Rattle.neph_base.specs.declared.command.Command.{Command}
use Rattle.neph_base.specs.declared.command.Command.TheVariants as command
use Rattle.neph_model.specs.declared.own.Own.{Own}
use Rattle.neph_model.specs.Own.{with_alone, mapping_at}
use Rattle.neph_model.specs.Lent.{PageBack, with_page_back, own_given, own_replied, own_behind}
use Rattle.neph_model.specs.Laws.{MovesOn}

-- the same number of pages, and the same line
record Like (o new : Own) : Type 0 where
  pages : length new.pages ≡ length o.pages
  line : new.line ≡ o.line

like_shown : (o : Own) (shown : Option Mapping) → Like o (option_map_or (λ (x : Mapping). with_alone o x.pfn) shown o)
like_shown o None = record { pages = refl; line = refl }
like_shown o (Some x) = record { pages = refl; line = refl }

like_written : (o : Own) (addr : ℕ) (bytes : List ℕ) (reply : Reply) → Like o (own_given o (command.W addr bytes) reply)
like_written o addr bytes reply.Done = like_shown o (mapping_at o addr)
like_written o addr bytes _ = record { pages = refl; line = refl }

like_given : (o : Own) (c : Command) (reply : Reply) → Like o (own_given o c reply)
like_given o (command.W addr bytes) reply = like_written o addr bytes reply
like_given o _ reply = record { pages = refl; line = refl }

like_taken : (o : Own) (back : Option PageBack) → Like o (with_page_back o back)
like_taken o None = record { pages = refl; line = refl }
like_taken o (Some p) = record { pages = length-set o.pages p.pfn (Some p.bytes); line = refl }

moves : (o : Own) (r : Reply) → (length (own_replied o r).pages ≡ length o.pages) × (((own_replied o r).line ≡ o.line + 1) ⊎ ((child : ℕ) × (r ≡ Begun child)))
moves o (Begun child) = (refl, inr (child, refl))
moves o (Refused why) = (refl, inl refl)
moves o _ = (refl, inl refl)

-- a command that isn't an exit
behind_is : (o : Own) (c : Command) (r : Reply) (back : Option PageBack) → c ≢ command.Exit → own_behind o c r back ≡ own_replied (with_page_back (own_given o c r) back) r
behind_is o command.Exit r back h = absurd (h refl)
behind_is o c r back h = refl

pub moves_on : MovesOn
moves_on o c r back h =
    let x = own_given o c r in
    let y = with_page_back x back in
    let a = like_given o c r in
    let b = like_taken x back in
    let z = moves y r in
    let is = behind_is o c r back h in (
      ap (λ (w : Own). length w.pages) is ∙ z.0 ∙ b.pages ∙ a.pages,
      elim z.1 [ inl e ↦ inl (ap (λ (w : Own). w.line) is ∙ e ∙ ap (λ n. n + 1) (b.line ∙ a.line)) | inr e ↦ inr e ],
    )
