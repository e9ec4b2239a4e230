use Rattle.std.proofs.Common.{◌≡◌, ℕ, List, IsSome, length, option_map, sym, ap, subst, ◌∙◌, arith}
use Rattle.std.specs.Int.{w32, to_le_bytes}
use Rattle.std.specs.declared.option.Option.{Option}
use Rattle.neph_model.specs.Memory.{page_with_bytes}
use Rattle.neph_memory.specs.declared.own.Own.{Own}
use Rattle.neph_memory.specs.Pages.{frame_at}
use Rattle.neph_memory.specs.Memory.{is_marked}
use Rattle.neph_memory.specs.Domains.{domain_page}
use Rattle.neph_pool.proofs.Calls.{moves_trans, same_counts_trans}
use Rattle.neph_memory.proofs.Keeping.{shared_trans}
use Rattle.neph_local.proofs.Starting.{number_is}
use Rattle.neph_local.proofs.Wording.{four, identity_written, others_kept}
use Rattle.neph_local.proofs.identity.write_identity.Goals as goal

pub write_marked-requires-clause-local : goal.write_marked-requires-clause-local
write_marked-requires-clause-local g c =
    let n : c.unwrap-first.result ≡ 0 = number_is _ _ _ _ c.new.ensures c.unwrap-first.ensures in
    subst (λ (k : ℕ). IsSome (frame_at c.args.d.now.own.map.pages k)) (sym n) c.requires.stands.identity

pub write_marked-requires-clause-marked : goal.write_marked-requires-clause-marked
write_marked-requires-clause-marked g c =
    let n : c.unwrap-first.result ≡ 0 = number_is _ _ _ _ c.new.ensures c.unwrap-first.ensures in
    ap (is_marked c.args.d.now.own) n ∙ c.requires.marked

pub write_marked-requires-clause-fits : goal.write_marked-requires-clause-fits
write_marked-requires-clause-fits g c =
    let l : length c.number_piece-id.result ≡ 4 = ap (λ (xs : List ℕ). length xs) c.number_piece-id.ensures ∙ four c.get.result in
    omega (arith, l)

pub write_marked-requires-2-clause-local : goal.write_marked-requires-2-clause-local
write_marked-requires-2-clause-local g c =
    let n : c.unwrap-first.result ≡ 0 = number_is _ _ _ _ c.new.ensures c.unwrap-first.ensures in
    subst (λ (k : ℕ). IsSome (frame_at c.write_marked.new.self.own.map.pages k)) (sym n) (subst (λ (o : Own). IsSome (frame_at o.map.pages 0)) (sym c.write_marked.ensures.own) c.requires.stands.identity)

pub write_marked-requires-2-clause-marked : goal.write_marked-requires-2-clause-marked
write_marked-requires-2-clause-marked g c =
    let n : c.unwrap-first.result ≡ 0 = number_is _ _ _ _ c.new.ensures c.unwrap-first.ensures in
    ap (is_marked c.write_marked.new.self.own) n ∙ (ap (λ (o : Own). is_marked o 0) c.write_marked.ensures.own ∙ c.requires.marked)

pub write_marked-requires-2-clause-fits : goal.write_marked-requires-2-clause-fits
write_marked-requires-2-clause-fits g c =
    let l : length c.number_piece-from.result ≡ 4 = ap (λ (xs : List ℕ). length xs) c.number_piece-from.ensures ∙ four c.get-2.result in
    omega (arith, l)

pub write_marked-requires-3-clause-local : goal.write_marked-requires-3-clause-local
write_marked-requires-3-clause-local g c =
    let n : c.unwrap-first.result ≡ 0 = number_is _ _ _ _ c.new.ensures c.unwrap-first.ensures in
    subst (λ (k : ℕ). IsSome (frame_at c.write_marked-2.new.self.own.map.pages k)) (sym n) (subst (λ (o : Own). IsSome (frame_at o.map.pages 0)) (sym (c.write_marked-2.ensures.own ∙ c.write_marked.ensures.own)) c.requires.stands.identity)

pub write_marked-requires-3-clause-marked : goal.write_marked-requires-3-clause-marked
write_marked-requires-3-clause-marked g c =
    let n : c.unwrap-first.result ≡ 0 = number_is _ _ _ _ c.new.ensures c.unwrap-first.ensures in
    ap (is_marked c.write_marked-2.new.self.own) n ∙ (ap (λ (o : Own). is_marked o 0) (c.write_marked-2.ensures.own ∙ c.write_marked.ensures.own) ∙ c.requires.marked)

pub write_marked-requires-3-clause-fits : goal.write_marked-requires-3-clause-fits
write_marked-requires-3-clause-fits g c =
    let l : length c.number_piece-count.result ≡ 4 = ap (λ (xs : List ℕ). length xs) c.number_piece-count.ensures ∙ four c.from.result in
    omega (arith, l)

abbrev numbered : Option (List ℕ) → List ℕ → List ℕ → List ℕ → Option (List ℕ)
numbered x a b c = option_map (λ page. page_with_bytes (page_with_bytes (page_with_bytes page 0 a) 4 b) 8 c) x

pub returns-clause-identity : goal.returns-clause-identity
returns-clause-identity g c =
    let W = g.P.FramePool.world in
    let n : c.unwrap-first.result ≡ 0 = number_is _ _ _ _ c.new.ensures c.unwrap-first.ensures in
    let x : Option (List ℕ) = domain_page W c.args.pool.now c.args.d.now 0 in
    let a : c.number_piece-id.result ≡ to_le_bytes w32 c.args.d.now.id = c.number_piece-id.ensures ∙ ap (to_le_bytes w32) c.get.ensures.value in
    let b : c.number_piece-from.result ≡ to_le_bytes w32 c.args.parent = c.number_piece-from.ensures ∙ ap (to_le_bytes w32) c.get-2.ensures.value in
    let d : c.number_piece-count.result ≡ to_le_bytes w32 c.args.pages = c.number_piece-count.ensures ∙ ap (to_le_bytes w32) c.from.ensures in
    identity_written (domain_page W c.args.pool.now c.args.d.now) (domain_page W c.write_marked.new.pool c.write_marked.new.self) (domain_page W c.write_marked-2.new.pool c.write_marked-2.new.self) (domain_page W c.write_marked-3.new.pool c.write_marked-3.new.self)
    c.unwrap-first.result c.number_piece-id.result c.number_piece-from.result c.number_piece-count.result n c.write_marked.ensures.bytes c.write_marked-2.ensures.bytes c.write_marked-3.ensures.bytes
    ∙ ap (λ (k : List ℕ). numbered x k c.number_piece-from.result c.number_piece-count.result) a ∙ ap (λ (k : List ℕ). numbered x (to_le_bytes w32 c.args.d.now.id) k c.number_piece-count.result) b
    ∙ ap (numbered x (to_le_bytes w32 c.args.d.now.id) (to_le_bytes w32 c.args.parent)) d

pub returns-clause-bytes : goal.returns-clause-bytes
returns-clause-bytes g c =
    let W = g.P.FramePool.world in
    let n : c.unwrap-first.result ≡ 0 = number_is _ _ _ _ c.new.ensures c.unwrap-first.ensures in
    others_kept (domain_page W c.args.pool.now c.args.d.now) (domain_page W c.write_marked.new.pool c.write_marked.new.self) (domain_page W c.write_marked-2.new.pool c.write_marked-2.new.self) (domain_page W c.write_marked-3.new.pool c.write_marked-3.new.self)
    c.unwrap-first.result c.number_piece-id.result c.number_piece-from.result c.number_piece-count.result n c.write_marked.ensures.bytes c.write_marked-2.ensures.bytes c.write_marked-3.ensures.bytes

pub returns-clause-mappings : goal.returns-clause-mappings
returns-clause-mappings g c = λ u lt. c.write_marked-3.ensures.mappings u lt ∙ c.write_marked-2.ensures.mappings u lt ∙ c.write_marked.ensures.mappings u lt

pub returns-clause-leaves : goal.returns-clause-leaves
returns-clause-leaves g c = λ i lt. c.write_marked-3.ensures.leaves i lt ∙ c.write_marked-2.ensures.leaves i lt ∙ c.write_marked.ensures.leaves i lt

pub returns-clause-moves : goal.returns-clause-moves
returns-clause-moves g c = moves_trans _ _ _ _ _ _ _ (moves_trans _ _ _ _ _ _ _ c.write_marked.ensures.moves c.write_marked-2.ensures.moves) c.write_marked-3.ensures.moves

pub returns-clause-shared : goal.returns-clause-shared
returns-clause-shared g c = shared_trans _ _ _ (shared_trans _ _ _ c.write_marked.ensures.shared c.write_marked-2.ensures.shared) c.write_marked-3.ensures.shared

pub returns-clause-counts : goal.returns-clause-counts
returns-clause-counts g c = same_counts_trans _ _ _ _ (same_counts_trans _ _ _ _ c.write_marked.ensures.counts c.write_marked-2.ensures.counts) c.write_marked-3.ensures.counts
