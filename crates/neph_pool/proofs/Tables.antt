-- The table from names to rows, and what a row without a name has.
use Rattle.std.proofs.Common.{◌≡◌, ◌≢◌, ℕ, zero, suc, ◌*◌, ◌<◌, ◌≤◌, inl, inr, Bool, true, false, ◌&&◌, List, [], ◌∷◌, length, set, get_or, replicate, Some, None, refl, sym, ap, ◌∙◌, subst, arith, eq-eqb, ne_eqb, ◌==◌}
use Rattle.std.proofs.lemmas.List.{get_or-set_other, get_or-set_same, length-map}
use Rattle.std.proofs.lemmas.Bool.{eqb-true}
use Rattle.std.specs.declared.option.Option.{Option}
use Rattle.neph_pool.specs.declared.entry.Entry.{Entry}
use Rattle.neph_pool.specs.declared.plain_pool.PlainPool.{PlainPool}
use Rattle.neph_pool.specs.declared.plain_pool.PlainSeat.{PlainSeat}
use Rattle.neph_pool.specs.Entries.{entry_count}
use Rattle.neph_pool.specs.Handing.{nothing}
use Rattle.neph_pool.specs.Names.{name_count, only_name, without_name}
use Rattle.neph_pool.specs.World.{Spares, IsFresh}
use Rattle.neph_pool.specs.Rows.{row_of, names_of, IsTable, row_entries, entry_of}
use Rattle.neph_pool.specs.Plain.{IsKept, PlainFits, plain_names, plain_world}
use Rattle.neph_pool.specs.PlainLaws.{same_count}
use Rattle.neph_pool.proofs.Rows.{count_cons, same_or_not}

pub in_table : (rows : List ℕ) (d : ℕ) → row_of rows d < 64 → d < length rows
in_table [] d h = absurd (omega arith)
in_table (x ∷ xs) zero h = omega arith
in_table (x ∷ xs) (suc d) h = let k = in_table xs d h in omega arith

in_names : (ns : List Bool) (d : ℕ) → get_or ns d false ≡ true → d < length ns
in_names [] d h = absurd (cc)
in_names (x ∷ xs) zero h = omega arith
in_names (x ∷ xs) (suc d) h = let k = in_names xs d h in omega arith

false_at : (n k : ℕ) → get_or (replicate n false) k false ≡ false
false_at zero k = refl
false_at (suc n) zero = refl
false_at (suc n) (suc k) = false_at n k

length_falses : (n : ℕ) → length (replicate n false) ≡ n
length_falses zero = refl
length_falses (suc n) = let k = length_falses n in omega arith

and_true : (b : Bool) → (b && true) ≡ b
and_true true = refl
and_true false = refl

-- the name of the new seat
pub new_name : (d e : ℕ) → d < 64 → get_or (set (replicate 64 false) d true) e false ≡ only_name d e
new_name d e h = elim (same_or_not e d) [
  | inl q ↦ let fit : d < length (replicate 64 false) = rw (length_falses 64) h in rw (q, get_or-set_same (replicate 64 false) d true false fit) (sym (eq-eqb d d refl))
  | inr n ↦ rw (get_or-set_other (replicate 64 false) d e true false n, ne_eqb e d n) (false_at 64 e)
]

-- the names that stay
pub old_names : (ns : List Bool) (d e : ℕ) → get_or ns d false ≡ true → get_or (set ns d false) e false ≡ without_name (λ k. get_or ns k false) d e
old_names ns d e h = elim (same_or_not e d) [
  | inl q ↦ rw (q, get_or-set_same ns d false false (in_names ns d h), h, eq-eqb d d refl) refl
  | inr n ↦ rw (get_or-set_other ns d e false false n, ne_eqb e d n) (sym (and_true (get_or ns e false)))
]

-- no seat has a row whose number is no name of it
pub no_row : (rows : List ℕ) (d e : ℕ) → IsTable rows → d < 64 → row_of rows d ≢ d → names_of rows d e ≡ false
no_row rows d e t h ne = ne_eqb (row_of rows e) d (λ (q : row_of rows e ≡ d). ne (subst (λ (k : ℕ). row_of rows k ≡ k) q (t.settled e (rw q h))))

no_names : name_count (λ _. false) ≡ 0
unfolding name_count
no_names = refl

pub none_all : (es : List (Option Entry)) → entry_count es ≡ 0 → es ≡ nothing (length es)
none_all [] h = refl
none_all (None ∷ es) h = ap (λ (xs : List (Option Entry)). None ∷ xs) (none_all es (omega (arith, count_cons None es, h)))
none_all (Some e ∷ es) h = absurd (omega (arith, count_cons (Some e) es, h))

pub count_nothing : (n : ℕ) → entry_count (nothing n) ≡ 0
count_nothing zero = refl
count_nothing (suc n) = omega (arith, count_cons None (nothing n), count_nothing n)

-- a row without a name has nothing
pub empty_row : (p : PlainPool) (r : ℕ) → IsKept p → r ≢ 0 → ((e : ℕ) → names_of p.rows r e ≡ false) → row_entries r p.frames ≡ nothing (length p.frames)
empty_row p r k ne none =
    let zeros : name_count (names_of p.rows r) ≡ 0 = same_count (names_of p.rows r) (λ _. false) none ∙ no_names in
    let most : entry_count (row_entries r p.frames) ≤ p.cap * 0 = rw zeros at (k.capped r ne) in
    none_all (row_entries r p.frames) (omega arith) ∙ ap nothing (length-map p.frames (entry_of r))

-- a seat without a name for its row's number takes a row of its own
module _ (p : PlainPool) (s : PlainSeat) (h : PlainFits p s) (d : ℕ) (small : d < 64) (ne : d ≢ 0) (first : plain_names s 0 ≡ true) (named : plain_names s d ≡ true) where
  abbrev after : PlainPool
  after = record { frames = p.frames; rows = set p.rows d d; held = p.held; cap = p.cap; shares = p.shares }

  names_row : (b : Bool) (a r : ℕ) → (a == r) ≡ b → b ≡ true → a ≡ r
  names_row true a r e y = eqb-true a r e
  names_row false a r e y = absurd (cc)

  row_zero : s.row ≡ 0
  row_zero = sym (names_row _ (row_of p.rows 0) s.row refl (sym (h.names 0) ∙ first)) ∙ h.kept.table.first

  at_d : row_of p.rows d ≡ 0
  at_d = names_row _ (row_of p.rows d) s.row refl (sym (h.names d) ∙ named) ∙ row_zero

  fit : d < length p.rows
  fit = in_table p.rows d (rw at_d (omega arith))

  at_new : row_of (set p.rows d d) d ≡ d
  at_new = get_or-set_same p.rows d d 64 fit

  at_old : (e : ℕ) → e ≢ d → row_of (set p.rows d d) e ≡ row_of p.rows e
  at_old e n = get_or-set_other p.rows d e d 64 n

  unnamed : (e : ℕ) → names_of p.rows d e ≡ false
  unnamed e = no_row p.rows d e h.kept.table small (λ q. ne (sym q ∙ at_d))

  not_d : (e : ℕ) → row_of p.rows e ≢ d
  not_d e q = let yes : names_of p.rows d e ≡ true = eq-eqb (row_of p.rows e) d q in let no = unnamed e in absurd (cc)

  fresh_table : IsTable (set p.rows d d)
  fresh_table = record {
    first = at_old 0 (λ q. ne (sym q)) ∙ h.kept.table.first;
    small = λ e lt. elim (same_or_not e d) [ inl q ↦ rw (q, at_new) small | inr n ↦ rw (at_old e n) (h.kept.table.small e lt) ];
    settled = λ e lt. elim (same_or_not e d) [
      | inl q ↦ rw (q, at_new, at_new) refl
      | inr n ↦ rw (at_old e n, at_old (row_of p.rows e) (not_d e)) (h.kept.table.settled e (rw (at_old e n) at lt))
    ];
  }

  -- other rows have the names that they had
  same_names : (r e : ℕ) → r ≢ 0 → r ≢ d → names_of (set p.rows d d) r e ≡ names_of p.rows r e
  same_names r e z n = elim (same_or_not e d) [
    | inl q ↦ rw (q, at_new, at_d, ne_eqb d r (λ k. n (sym k)), ne_eqb 0 r (λ k. z (sym k))) refl
    | inr m ↦ rw (at_old e m) refl
  ]

  pub fresh_kept : IsKept after
  fresh_kept = record {
    table = fresh_table;
    few = h.kept.few;
    full = h.kept.full;
    held = h.kept.held;
    capped = λ r z. elim (same_or_not r d) [
      | inl q ↦ rw (q, empty_row p d h.kept ne unnamed, count_nothing (length p.frames)) (omega arith)
      | inr n ↦ rw (same_count (names_of (set p.rows d d) r) (names_of p.rows r) (λ e. same_names r e z n)) (h.kept.capped r z)
    ];
  }

  -- the new seat
  pub fresh_new : IsFresh plain_world after record { row = d; met = 0; names = set (replicate 64 false) d true } d
  fresh_new = record {
    fits = record {
      kept = fresh_kept;
      row = small;
      named = new_name d d small ∙ eq-eqb d d refl;
      names = λ e. new_name d e small ∙ elim (same_or_not e d) [
        | inl q ↦ rw (q, at_new) refl
        | inr n ↦ rw (at_old e n, ne_eqb e d n) (sym (unnamed e))
      ];
    };
    names = λ i e. new_name d e small i;
    entries = empty_row p d h.kept ne unnamed;
    met = refl;
  }

  -- the seat that gave the name
  pub fresh_old : (n : ℕ) → PlainFits after record { row = s.row; met = n; names = set s.names d false }
  fresh_old n = record {
    kept = fresh_kept;
    row = h.row;
    named = get_or-set_other s.names d s.row false false (λ q. ne (sym q ∙ row_zero)) ∙ h.named;
    names = λ e. elim (same_or_not e d) [
      | inl q ↦ rw (q, get_or-set_same s.names d false false (in_names s.names d named), at_new, row_zero) (sym (ne_eqb d 0 ne))
      | inr m ↦ rw (get_or-set_other s.names d e false false m, at_old e m) (h.names e)
    ];
  }

  pub fresh_names : (λ e. get_or (set s.names d false) e false) ≡ without_name (plain_names s) d
  fresh_names = λ i e. old_names s.names d e named i

  -- all other seats
  pub fresh_spares : Spares plain_world (plain_names s) p after
  fresh_spares = record {
    frames = refl;
    cap = refl;
    fits = λ t k a. record {
      kept = fresh_kept;
      row = k.row;
      named = k.named;
      names = λ e. k.names e ∙ sym (same_names t.row e
          (λ z. a 0 first (k.names 0 ∙ eq-eqb (row_of p.rows 0) t.row (h.kept.table.first ∙ sym z)))
          (λ q. not_d t.row (names_row _ (row_of p.rows t.row) t.row refl (sym (k.names t.row) ∙ k.named) ∙ q)));
    };
    entries = λ t k a. refl;
  }
