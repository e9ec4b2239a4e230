-- Two seats of the plain pool become one.
use Rattle.std.proofs.Common.{◌≡◌, ◌≢◌, ℕ, zero, suc, ◌+◌, ◌*◌, ◌<◌, ◌≤◌, ◌⊎◌, inl, inr, Bool, true, false, ◌||◌, List, [], ◌∷◌, length, map, get_or, Some, None, refl, sym, ap, ◌∙◌, subst, arith, eq-eqb, ne_eqb, ◌==◌, if◌then◌else◌}
use Rattle.std.proofs.lemmas.List.Sums.{sum_by-cons}
use Rattle.std.proofs.lemmas.Bool.{eqb-true}
use Rattle.std.specs.List.{range_with_len, count_by}
use Rattle.std.specs.declared.option.Option.{Option}
use Rattle.neph_pool.specs.declared.entry.Entry.{Entry}
use Rattle.neph_pool.specs.declared.entry.Hold.{Hold}
use Rattle.neph_pool.specs.declared.entry.Hold.TheVariants.{Zero, Sole, Counted}
use Rattle.neph_pool.specs.declared.owners.Owners.{Owners}
use Rattle.neph_pool.specs.declared.owners.Owners.TheVariants.{Spare, Alone, Many}
use Rattle.std.proofs.Math.ListN.{get_or-map}
use Rattle.neph_pool.specs.Frames.{PlainFrame, blank_frame, frame_at}
use Rattle.neph_pool.specs.declared.plain_pool.PlainPool.{PlainPool}
use Rattle.neph_pool.specs.declared.plain_pool.PlainSeat.{PlainSeat}
use Rattle.neph_pool.specs.Entries.{entry_as, entry_count, hold_at, is_entry, is_here, is_whole}
use Rattle.neph_pool.specs.Handing.{nothing, either_entry, add_entries}
use Rattle.neph_pool.specs.Names.{IsApart, both_names, name_count}
use Rattle.neph_pool.specs.Owners.{held_by}
use Rattle.neph_pool.specs.World.{Spares}
use Rattle.neph_pool.specs.Rows.{entry_of, row_entries, row_of, names_of, words_in_frame, IsTable, IsRenaming}
use Rattle.neph_pool.specs.Plain.{IsKept, PlainFits, plain_names, plain_world}
use Rattle.neph_pool.specs.PlainLaws.{same_count}
use Rattle.neph_pool.proofs.Rows.{AreCounts, count_cons, same_or_not, row_apart, row_hold, apart_left, apart_right, or_right}
use Rattle.neph_pool.proofs.Tables.{count_nothing}

-- a whole frame of one row is nobody else's
spare_else : (b : Bool) (q r row : ℕ) → (row == q) ≡ b → is_here (if b then Some Zero else None) ≡ true → r ≢ row → held_by r (Spare q) ≡ None
spare_else true q r row e h n = rw (ne_eqb r q (λ k. n (k ∙ sym (eqb-true row q e)))) refl
spare_else false q r row e h n = absurd (cc)

alone_else : (b : Bool) (q r row : ℕ) → (row == q) ≡ b → is_here (if b then Some Sole else None) ≡ true → r ≢ row → held_by r (Alone q) ≡ None
alone_else true q r row e h n = rw (ne_eqb r q (λ k. n (k ∙ sym (eqb-true row q e)))) refl
alone_else false q r row e h n = absurd (cc)

many_whole : (b : Bool) (n : ℕ) → is_whole (if b then None else Some (Counted n)) ≡ true → ⊥
many_whole true n h = cc
many_whole false n h = cc

pub whole_else : (o : Owners) (r row : ℕ) → is_here (held_by row o) ≡ true → is_whole (held_by row o) ≡ true → r ≢ row → held_by r o ≡ None
whole_else (Spare q) r row h w n = spare_else (row == q) q r row refl h n
whole_else (Alone q) r row h w n = alone_else (row == q) q r row refl h n
whole_else (Many ws) r row h w n = absurd (many_whole (get_or ws.by_row row 0 == 0) (get_or ws.by_row row 0) w)

-- of each frame that one of two rows has whole, the other has nothing
abbrev pub IsWholeRow : ℕ → List PlainFrame → Type 0
IsWholeRow o xs = (f : ℕ) → is_here (hold_at (row_entries o xs) f) ≡ true → is_whole (hold_at (row_entries o xs) f) ≡ true

whole_at : (o : ℕ) (xs : List PlainFrame) (k : ℕ) (x : PlainFrame) → IsWholeRow o xs → k < length xs → x ≡ get_or xs k x → is_here (held_by o x.owners) ≡ true → is_whole (held_by o x.owners) ≡ true
whole_at o xs k x w lt e h =
    let at = row_hold o xs k x lt e in
    sym (ap is_whole at) ∙ w k (ap is_here at ∙ h)

not_here : (h : Option Hold) → (is_here h ≡ true → ⊥) → h ≡ None
not_here None n = refl
not_here (Some h) n = absurd (n refl)

refl_at : (xs : List PlainFrame) (k : ℕ) (d : PlainFrame) → k < length xs → get_or xs k d ≡ get_or xs k (get_or xs k d)
refl_at [] k d h = absurd (omega arith)
refl_at (x ∷ xs) zero d h = refl
refl_at (x ∷ xs) (suc k) d h = refl_at xs k d (omega arith)

pub room_between : (s o from to : ℕ) (xs : List PlainFrame) (k : ℕ) (d : PlainFrame) → s ≢ o → IsRenaming s o from to → IsWholeRow o xs → k < length xs
    → is_here (held_by from (get_or xs k d).owners) ≡ true → held_by to (get_or xs k d).owners ≡ None
room_between s o from to xs k d ne r w lt h =
    let x = get_or xs k d in
    let same : x ≡ get_or xs k x = refl_at xs k d lt in
    elim r [
      | inl e ↦ let here : is_here (held_by o x.owners) ≡ true = ap (λ (j : ℕ). is_here (held_by j x.owners)) (sym e.0) ∙ h in
          whole_else x.owners to o here (whole_at o xs k x w lt same here) (λ q. ne (sym e.1 ∙ q))
      | inr e ↦ not_here (held_by to x.owners) (λ (t : is_here (held_by to x.owners) ≡ true).
          let here : is_here (held_by o x.owners) ≡ true = ap (λ (j : ℕ). is_here (held_by j x.owners)) (sym e.1) ∙ t in
          let gone : held_by from x.owners ≡ None = whole_else x.owners from o here (whole_at o xs k x w lt same here) (λ q. ne (sym e.0 ∙ q)) in
          let no : is_here (held_by from x.owners) ≡ false = ap is_here gone in cc)
    ]

one_two : (x y : Option Entry) → (if is_entry (either_entry x y) then 1 else 0) ≤ (if is_entry x then 1 else 0) + (if is_entry y then 1 else 0)
one_two None y = omega arith
one_two (Some e) y = omega arith

pub count_add : (es fs : List (Option Entry)) → entry_count (add_entries es fs) ≤ entry_count es + entry_count fs
unfolding add_entries
count_add [] fs = omega arith
count_add (x ∷ es) [] = omega arith
count_add (x ∷ es) (y ∷ fs) = omega (arith, count_cons (either_entry x y) (add_entries es fs), count_cons x es, count_cons y fs, count_add es fs, one_two x y)

bool_sum : (a b : Bool) → (a ≡ true → b ≡ true → ⊥) → (if a || b then 1 else 0) ≡ (if a then 1 else 0) + (if b then 1 else 0)
bool_sum true true h = absurd (h refl refl)
bool_sum true false h = refl
bool_sum false b h = omega arith

count_both : (ms ns : ℕ → Bool) (ds : List ℕ) → IsApart ms ns → count_by (both_names ms ns) ds ≡ count_by ms ds + count_by ns ds
count_both ms ns [] h = refl
count_both ms ns (d ∷ ds) h =
    omega (arith, sum_by-cons (λ (k : ℕ). if both_names ms ns k then 1 else 0) d ds, sum_by-cons (λ (k : ℕ). if ms k then 1 else 0) d ds, sum_by-cons (λ (k : ℕ). if ns k then 1 else 0) d ds, count_both ms ns ds h, bool_sum (ms d) (ns d) (h d))

pub name_count-both : (ms ns : ℕ → Bool) → IsApart ms ns → name_count (both_names ms ns) ≡ name_count ms + name_count ns
unfolding name_count
name_count-both ms ns h = count_both ms ns (range_with_len 0 64) h

apart_bits : (s o : ℕ) (x : PlainFrame) → s ≢ o → (is_here (held_by o x.owners) ≡ true → is_whole (held_by o x.owners) ≡ true)
    → (if is_entry (either_entry (entry_of s x) (entry_of o x)) then 1 else 0) ≡ (if is_entry (entry_of s x) then 1 else 0) + (if is_entry (entry_of o x) then 1 else 0)
unfolding entry_of
apart_bits s o x ne w = bits_as (held_by s x.owners) (held_by o x.owners) x.words (λ h. whole_else x.owners s o h (w h) ne)
  where
    bits_as : (h k : Option Hold) (ws : List ℕ) → (is_here k ≡ true → h ≡ None) → (if is_entry (either_entry (entry_as h ws) (entry_as k ws)) then 1 else 0) ≡ (if is_entry (entry_as h ws) then 1 else 0) + (if is_entry (entry_as k ws) then 1 else 0)
    bits_as None None ws n = refl
    bits_as None (Some k) ws n = refl
    bits_as (Some h) None ws n = refl
    bits_as (Some h) (Some k) ws n = let no : Some h ≡ None = n refl in absurd (cc)

count_rows : (s o : ℕ) (xs : List PlainFrame) → s ≢ o → ((k : ℕ) (d : PlainFrame) → k < length xs → is_here (held_by o (get_or xs k d).owners) ≡ true → is_whole (held_by o (get_or xs k d).owners) ≡ true)
    → entry_count (add_entries (row_entries s xs) (row_entries o xs)) ≡ entry_count (row_entries s xs) + entry_count (row_entries o xs)
unfolding add_entries
count_rows s o [] ne w = refl
count_rows s o (x ∷ xs) ne w =
    omega (
      arith,
      count_cons (either_entry (entry_of s x) (entry_of o x)) (add_entries (row_entries s xs) (row_entries o xs)),
      count_cons (entry_of s x) (row_entries s xs),
      count_cons (entry_of o x) (row_entries o xs),
      apart_bits s o x ne (w zero x (omega arith)),
      count_rows s o xs ne (λ k d lt. w (suc k) d (omega arith)),
    )

-- two rows in one have as many entries as both
pub count_joined : (s o : ℕ) (xs : List PlainFrame) → s ≢ o → IsWholeRow o xs → entry_count (add_entries (row_entries s xs) (row_entries o xs)) ≡ entry_count (row_entries s xs) + entry_count (row_entries o xs)
count_joined s o xs ne w = count_rows s o xs ne (λ k d lt h. whole_at o xs k (get_or xs k d) w lt (refl_at xs k d lt) h)

-- what the loops of a join leave
pub record IsJoined (p q : PlainPool) (s o t : PlainSeat) (from : ℕ) : Type 0 where
  pub choice : IsRenaming s.row o.row from t.row
  pub cap : q.cap ≡ p.cap
  pub size : length q.frames ≡ length p.frames
  pub words : map words_in_frame q.frames ≡ map words_in_frame p.frames
  pub moved : get_or q.held t.row 0 ≡ get_or p.held t.row 0 + get_or p.held from 0
  pub left : get_or q.held from 0 ≡ 0
  pub stayed : (r : ℕ) → r ≢ from → r ≢ t.row → get_or q.held r 0 ≡ get_or p.held r 0
  pub whole : IsWholeRow o.row p.frames
  pub named : (d : ℕ) → plain_names t d ≡ (plain_names s d || plain_names o d)
  pub rows : (d : ℕ) → row_of q.rows d ≡ (if plain_names t d then t.row else row_of p.rows d)
  pub gone : row_entries from q.frames ≡ nothing (length p.frames)
  pub joined : row_entries t.row q.frames ≡ add_entries (row_entries s.row p.frames) (row_entries o.row p.frames)
  pub others : (r : ℕ) → r ≢ from → r ≢ t.row → row_entries r q.frames ≡ row_entries r p.frames

module _ (p q : PlainPool) (s o t : PlainSeat) (from : ℕ) (h : PlainFits p s) (k : PlainFits p o) (apart : IsApart (plain_names s) (plain_names o)) (j : IsJoined p q s o t from) where
  -- a name of the new seat
  record Mine (d : ℕ) : Type 0 where
    yes : plain_names t d ≡ true
    now : row_of q.rows d ≡ t.row
    was : (row_of p.rows d ≡ s.row) ⊎ (row_of p.rows d ≡ o.row)

  -- a name of another seat
  record Other (d : ℕ) : Type 0 where
    no : plain_names t d ≡ false
    now : row_of q.rows d ≡ row_of p.rows d
    not_s : row_of p.rows d ≢ s.row
    not_o : row_of p.rows d ≢ o.row

  mine : (d : ℕ) → plain_names t d ≡ true → (row_of p.rows d ≡ s.row) ⊎ (row_of p.rows d ≡ o.row) → Mine d
  mine d y w = record { yes = y; now = j.rows d ∙ rw y refl; was = w }

  who : (d : ℕ) → Mine d ⊎ Other d
  who d = elim (same_or_not (row_of p.rows d) s.row) [
    | inl e ↦ inl (mine d (j.named d ∙ rw (h.names d ∙ eq-eqb (row_of p.rows d) s.row e) refl) (inl e))
    | inr n ↦ elim (same_or_not (row_of p.rows d) o.row) [
      | inl e ↦ inl (mine d (j.named d ∙ rw (k.names d ∙ eq-eqb (row_of p.rows d) o.row e) (or_right (plain_names s d))) (inr e))
      | inr m ↦
          let no : plain_names t d ≡ false = j.named d ∙ rw (h.names d ∙ ne_eqb (row_of p.rows d) s.row n, k.names d ∙ ne_eqb (row_of p.rows d) o.row m) refl in
          inr (record { no = no; now = j.rows d ∙ rw no refl; not_s = n; not_o = m })
    ]
  ]

  to_is : (t.row ≡ s.row) ⊎ (t.row ≡ o.row)
  to_is = elim j.choice [ inl e ↦ inl e.1 | inr e ↦ inr e.1 ]

  small : t.row < 64
  small = elim to_is [ inl e ↦ rw e h.row | inr e ↦ rw e k.row ]

  -- a row that is neither of the two
  ne_to : (r : ℕ) → r ≢ s.row → r ≢ o.row → r ≢ t.row
  ne_to r n m e = elim to_is [ inl a ↦ n (e ∙ a) | inr a ↦ m (e ∙ a) ]

  ne_from : (r : ℕ) → r ≢ s.row → r ≢ o.row → r ≢ from
  ne_from r n m e = elim j.choice [ inl a ↦ m (e ∙ a.0) | inr a ↦ n (e ∙ a.0) ]

  ne_both : (r d : ℕ) → r ≢ from → r ≢ t.row → (row_of p.rows d ≡ s.row) ⊎ (row_of p.rows d ≡ o.row) → row_of p.rows d ≢ r
  ne_both r d n m w e = elim j.choice [
    | inl a ↦ elim w [ inl x ↦ m (sym e ∙ x ∙ sym a.1) | inr x ↦ n (sym e ∙ x ∙ sym a.0) ]
    | inr a ↦ elim w [ inl x ↦ n (sym e ∙ x ∙ sym a.0) | inr x ↦ m (sym e ∙ x ∙ sym a.1) ]
  ]

  own : plain_names t t.row ≡ true
  own = elim to_is [
    | inl e ↦ rw e (j.named s.row ∙ rw h.named refl)
    | inr e ↦ rw e (j.named o.row ∙ rw k.named (or_right (plain_names s o.row)))
  ]

  self : row_of q.rows t.row ≡ t.row
  self = j.rows t.row ∙ rw own refl

  zero_row : (row_of p.rows 0 ≡ s.row) ⊎ (row_of p.rows 0 ≡ o.row) → t.row ≡ 0
  zero_row w = elim j.choice [
    | inl a ↦ elim w [ inl x ↦ a.1 ∙ sym x ∙ h.kept.table.first | inr x ↦ absurd (a.2 (sym x ∙ h.kept.table.first)) ]
    | inr a ↦ a.1 ∙ a.2
  ]

  joined_table : IsTable q.rows
  joined_table = record {
    first = elim (who 0) [ inl m ↦ m.now ∙ zero_row m.was | inr n ↦ n.now ∙ h.kept.table.first ];
    small = λ d lt. elim (who d) [ inl m ↦ rw m.now small | inr n ↦ rw n.now (h.kept.table.small d lt) ];
    settled = λ d lt. elim (who d) [
      | inl m ↦ rw m.now self
      | inr n ↦
          let still : row_of p.rows (row_of p.rows d) ≡ row_of p.rows d = h.kept.table.settled d (rw n.now at lt) in
          rw n.now (elim (who (row_of p.rows d)) [
            | inl m ↦ absurd (elim m.was [ inl x ↦ n.not_s (sym still ∙ x) | inr x ↦ n.not_o (sym still ∙ x) ])
            | inr m ↦ m.now ∙ still
          ])
    ];
  }

  -- the new seat's names by the table
  table_names : (d : ℕ) → plain_names t d ≡ names_of q.rows t.row d
  table_names d = elim (who d) [
    | inl m ↦ m.yes ∙ sym (eq-eqb (row_of q.rows d) t.row m.now)
    | inr n ↦ n.no ∙ sym (ne_eqb (row_of q.rows d) t.row (λ e. ne_to (row_of p.rows d) n.not_s n.not_o (sym n.now ∙ e)))
  ]

  other_names : (r d : ℕ) → r ≢ from → r ≢ t.row → names_of q.rows r d ≡ names_of p.rows r d
  other_names r d n m = elim (who d) [
    | inl x ↦ ne_eqb (row_of q.rows d) r (λ e. m (sym e ∙ x.now)) ∙ sym (ne_eqb (row_of p.rows d) r (ne_both r d n m x.was))
    | inr x ↦ ap (λ (i : ℕ). i == r) x.now
  ]

  both_count : name_count (names_of q.rows t.row) ≡ name_count (names_of p.rows s.row) + name_count (names_of p.rows o.row)
  both_count =
      same_count (names_of q.rows t.row) (both_names (plain_names s) (plain_names o)) (λ d. sym (table_names d) ∙ j.named d) ∙ name_count-both (plain_names s) (plain_names o) apart
      ∙ ap (λ (n : ℕ). n + name_count (plain_names o)) (same_count (plain_names s) (names_of p.rows s.row) h.names) ∙ ap (λ (n : ℕ). name_count (names_of p.rows s.row) + n) (same_count (plain_names o) (names_of p.rows o.row) k.names)

  capped_to : t.row ≢ 0 → entry_count (row_entries t.row q.frames) ≤ p.cap * name_count (names_of q.rows t.row)
  capped_to ne = elim j.choice [
    | inl a ↦
        let x : entry_count (row_entries s.row p.frames) ≤ p.cap * name_count (names_of p.rows s.row) = h.kept.capped s.row (λ z. ne (a.1 ∙ z)) in
        let y : entry_count (row_entries o.row p.frames) ≤ p.cap * name_count (names_of p.rows o.row) = h.kept.capped o.row a.2 in
        rw (j.joined, both_count) (omega (arith, x, y, count_add (row_entries s.row p.frames) (row_entries o.row p.frames)))
    | inr a ↦ absurd (ne (a.1 ∙ a.2))
  ]

  ne_rows : s.row ≢ o.row
  ne_rows e = row_apart p s o h k apart (sym e)

  counted_to : get_or q.held t.row 0 ≡ entry_count (row_entries t.row q.frames)
  counted_to =
      let all : entry_count (row_entries t.row q.frames) ≡ entry_count (row_entries s.row p.frames) + entry_count (row_entries o.row p.frames) = ap entry_count j.joined ∙ count_joined s.row o.row p.frames ne_rows j.whole in
      let x = h.kept.held s.row h.row in
      let y = h.kept.held o.row k.row in
      elim j.choice [
        | inl a ↦
            let u : get_or p.held t.row 0 ≡ get_or p.held s.row 0 = ap (λ (i : ℕ). get_or p.held i 0) a.1 in
            let v : get_or p.held from 0 ≡ get_or p.held o.row 0 = ap (λ (i : ℕ). get_or p.held i 0) a.0 in
            omega (arith, j.moved, all, x, y, u, v)
        | inr a ↦
            let u : get_or p.held t.row 0 ≡ get_or p.held o.row 0 = ap (λ (i : ℕ). get_or p.held i 0) a.1 in
            let v : get_or p.held from 0 ≡ get_or p.held s.row 0 = ap (λ (i : ℕ). get_or p.held i 0) a.0 in
            omega (arith, j.moved, all, x, y, u, v)
      ]

  joined_held : AreCounts q.held q.frames
  joined_held r lt = elim (same_or_not r t.row) [
    | inl e ↦ subst (λ (i : ℕ). get_or q.held i 0 ≡ entry_count (row_entries i q.frames)) (sym e) counted_to
    | inr m ↦ elim (same_or_not r from) [
      | inl e ↦ rw (e, j.gone, count_nothing (length p.frames)) j.left
      | inr n ↦ rw (j.others r n m) (j.stayed r n m ∙ h.kept.held r lt)
    ]
  ]

  joined_full : (f : ℕ) → f < length q.frames → length (frame_at q.frames f).words ≡ 512
  joined_full f lt =
      ap (λ (ws : List ℕ). length ws) (sym (get_or-map words_in_frame q.frames f blank_frame) ∙ ap (λ (wss : List (List ℕ)). get_or wss f (words_in_frame blank_frame)) j.words ∙ get_or-map words_in_frame p.frames f blank_frame)
      ∙ h.kept.full f (omega (arith, j.size))

  pub joined_kept : IsKept q
  joined_kept = record {
    table = joined_table;
    few = omega (arith, j.size, h.kept.few);
    full = joined_full;
    held = joined_held;
    capped = λ r ne. rw j.cap (elim (same_or_not r t.row) [
      | inl e ↦ subst (λ (i : ℕ). entry_count (row_entries i q.frames) ≤ p.cap * name_count (names_of q.rows i)) (sym e) (capped_to (λ z. ne (e ∙ z)))
      | inr m ↦ elim (same_or_not r from) [
        | inl e ↦ rw (e, j.gone, count_nothing (length p.frames)) (omega arith)
        | inr n ↦ rw (j.others r n m, same_count (names_of q.rows r) (names_of p.rows r) (λ d. other_names r d n m)) (h.kept.capped r ne)
      ]
    ]);
  }

  pub joined_fits : PlainFits q t
  joined_fits = record { kept = joined_kept; row = small; named = own; names = table_names }

  pub joined_names : plain_names t ≡ both_names (plain_names s) (plain_names o)
  joined_names = λ i d. j.named d i

  pub joined_spares : Spares plain_world (both_names (plain_names s) (plain_names o)) p q
  joined_spares = record {
    frames = j.size;
    cap = j.cap;
    fits = λ u f a.
        let n = row_apart p s u h f (apart_left (plain_names s) (plain_names o) (plain_names u) a) in
        let m = row_apart p o u k f (apart_right (plain_names s) (plain_names o) (plain_names u) a) in record {
          kept = joined_kept;
          row = f.row;
          named = f.named;
          names = λ d. f.names d ∙ sym (other_names u.row d (ne_from u.row n m) (ne_to u.row n m));
        };
    entries = λ u f a.
        let n = row_apart p s u h f (apart_left (plain_names s) (plain_names o) (plain_names u) a) in
        let m = row_apart p o u k f (apart_right (plain_names s) (plain_names o) (plain_names u) a) in
        j.others u.row (ne_from u.row n m) (ne_to u.row n m);
  }

-- the order of two seats doesn't count where one of them is whole
entry_swap : (s o : ℕ) (x : PlainFrame) → s ≢ o → (is_here (held_by o x.owners) ≡ true → is_whole (held_by o x.owners) ≡ true) → either_entry (entry_of o x) (entry_of s x) ≡ either_entry (entry_of s x) (entry_of o x)
unfolding entry_of
entry_swap s o x ne w = swap_as (held_by o x.owners) (held_by s x.owners) x.words (λ h. whole_else x.owners s o h (w h) ne)
  where
    swap_as : (h k : Option Hold) (ws : List ℕ) → (is_here h ≡ true → k ≡ None) → either_entry (entry_as h ws) (entry_as k ws) ≡ either_entry (entry_as k ws) (entry_as h ws)
    swap_as None None ws n = refl
    swap_as None (Some k) ws n = refl
    swap_as (Some h) k ws n = rw (n refl) refl

swap_rows : (s o : ℕ) (xs : List PlainFrame) → s ≢ o → ((k : ℕ) (d : PlainFrame) → k < length xs → is_here (held_by o (get_or xs k d).owners) ≡ true → is_whole (held_by o (get_or xs k d).owners) ≡ true)
    → add_entries (row_entries o xs) (row_entries s xs) ≡ add_entries (row_entries s xs) (row_entries o xs)
unfolding add_entries
swap_rows s o [] ne w = refl
swap_rows s o (x ∷ xs) ne w =
    ap (λ (e : Option Entry). e ∷ add_entries (row_entries o xs) (row_entries s xs)) (entry_swap s o x ne (w zero x (omega arith)))
    ∙ ap (λ (es : List (Option Entry)). either_entry (entry_of s x) (entry_of o x) ∷ es) (swap_rows s o xs ne (λ k d lt. w (suc k) d (omega arith)))

pub add-swap : (s o : ℕ) (xs : List PlainFrame) → s ≢ o → IsWholeRow o xs → add_entries (row_entries o xs) (row_entries s xs) ≡ add_entries (row_entries s xs) (row_entries o xs)
add-swap s o xs ne w = swap_rows s o xs ne (λ k d lt h. whole_at o xs k (get_or xs k d) w lt (refl_at xs k d lt) h)

-- whichever row got all, the seat has the entries of both
pub joined_as : (s o from to : ℕ) (xs : List PlainFrame) (es : List (Option Entry)) → s ≢ o → IsRenaming s o from to → IsWholeRow o xs → es ≡ add_entries (row_entries to xs) (row_entries from xs) → es ≡ add_entries (row_entries s xs) (row_entries o xs)
joined_as s o from to xs es ne r w h = elim r [
  | inl e ↦ h ∙ rw (e.0, e.1) refl
  | inr e ↦ h ∙ rw (e.0, e.1) (add-swap s o xs ne w)
]
