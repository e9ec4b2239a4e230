-- The heap's lists, made of what it has for each id.
use Rattle.std.proofs.Common.{◌≡◌, ◌≢◌, ℕ, zero, suc, ◌+◌, ◌<◌, List, [], ◌∷◌, length, length-append, map, replicate, inl, Some, None, refl, ap, arith, sym, ◌∙◌}
use Rattle.std.specs.List.{sum_by, concat, range_with_len}
use Rattle.std.proofs.lemmas.List.Sums.{sum_by-cons}
use Rattle.std.specs.declared.option.Option.{Option}
use Rattle.neph_pool.specs.declared.plain_pool.PlainPool.{PlainPool}
use Rattle.neph_pool.specs.declared.plain_pool.PlainSeat.{PlainSeat}
use Rattle.neph_pool.specs.Plain.{plain_world, IsStart}
use Rattle.neph_accounts.specs.Holdings.{times, no_holding}
use Rattle.neph_accounts.specs.Accounts.{Account, no_account, account_at, IsAccount, IsHeap, AreAccounts}
use Rattle.neph_accounts.specs.Named.{AreNamed}
use Rattle.neph_accounts.specs.Heaps.{heap_holding, local_frames, exposed_frames, row_frames}
use Rattle.neph_accounts.specs.Changes.{IsMore}
use Rattle.neph_accounts.proofs.Times.{times_cons, times_both}
use Rattle.neph_accounts.proofs.Sums.{times_concat}
use Rattle.neph_accounts.proofs.Moves.{first_has}
use Rattle.neph_accounts.proofs.Ids.{no_sum}

long_concat : {A : Type 0} (g : A → List ℕ) (xs : List A)
    → length (concat (map g xs)) ≡ sum_by (λ x. length (g x)) xs
long_concat g [] = refl
long_concat {A} g (x ∷ xs) =
    omega (
      arith,
      long_concat g xs,
      length-append (g x) (concat (map g xs)),
      sum_by-cons (λ (y : A). length (g y)) x xs,
    )

-- the heap's holding is in order
pub heap_is : {Seat : Type 0} (accounts : List (Account Seat)) (free : List ℕ)
    → IsHeap (heap_holding accounts free) accounts
heap_is accounts free = record {
  pages = λ f. times_concat (λ a. a.exposed) accounts f;
  own = long_concat (λ a. a.aside) accounts;
  no_flying = refl;
}

-- what one id has for a list changes what all have by as much
pub put_in : {Seat : Type 0} (g : Account Seat → List ℕ) (us vs : List (Account Seat)) (id : ℕ)
    → length vs ≡ length us
    → ((other : ℕ) → other ≢ id → g (account_at other vs) ≡ g (account_at other us))
    → id < length us
    → (f : ℕ)
    → times f (concat (map g vs)) + times f (g (account_at id us)) ≡ times f
    (concat (map g us)) + times f (g (account_at id vs))
put_in g [] vs id long same lt f = absurd (omega arith)
put_in g (u ∷ us) [] id long same lt f = absurd (omega (arith, long))
put_in g (u ∷ us) (v ∷ vs) zero long same lt f =
    let rest : times f (concat (map g vs)) ≡ times f (concat (map g us)) =
    same_rest us vs (omega (arith, long)) (λ j. same (suc j) (λ e. omega arith)) in
    omega (
      arith,
      rest,
      times_both f (g u) (concat (map g us)),
      times_both f (g v)
          (concat (map g vs)),
    )
  where
    same_rest : (us vs : List (Account _)) → length vs ≡ length us
        → ((j : ℕ) → g (account_at j vs) ≡ g (account_at j us))
        → times f (concat (map g vs)) ≡ times f (concat (map g us))
    same_rest [] [] e h = refl
    same_rest [] (v ∷ vs) e h = absurd (omega (arith, e))
    same_rest (u ∷ us) [] e h = absurd (omega (arith, e))
    same_rest (u ∷ us) (v ∷ vs) e h =
        let first : times f (g v) ≡ times f (g u) = ap (times f) (h zero) in
        omega (
          arith,
          first,
          same_rest us vs (omega (arith, e)) (λ j. h (suc j)),
          times_both f (g u) (concat (map g us)),
          times_both f (g v) (concat (map g vs)),
        )
put_in g (u ∷ us) (v ∷ vs) (suc id) long same lt f =
    let first : times f (g v) ≡ times f (g u) = ap (times f) (same zero (λ e. omega arith)) in
    omega (
      arith,
      first,
      put_in g us vs id (omega (arith, long))
          (λ j n. same (suc j) (λ e. n (omega (arith, e)))) (omega arith) f,
      times_both f (g u)
          (concat (map g us)),
      times_both f (g v) (concat (map g vs)),
    )

-- one frame more for one id is one more in all
pub more_in : {Seat : Type 0} (g : Account Seat → List ℕ) (us vs : List (Account Seat)) (id x : ℕ)
    → length vs ≡ length us
    → ((other : ℕ) → other ≢ id → g (account_at other vs) ≡ g (account_at other us))
    → id < length us
    → IsMore x (g (account_at id us)) (g (account_at id vs))
    → IsMore x (concat (map g us)) (concat (map g vs))
more_in g us vs id x long same lt more f = let k = more f in
    omega (
      arith,
      k,
      put_in g us vs id long same lt f,
      times_cons f x (g (account_at id us)),
      times_cons f x (concat (map g us)),
    )

-- the frames of a domain's pages are those of its own half and those of its exposed pages
pub row_split : (pages : List (Option ℕ)) (away : ℕ → ℕ) (pfn f : ℕ)
    → times f (row_frames pages away pfn) ≡ times f (local_frames pages) + times f
    (exposed_frames pages away pfn)
row_split [] away pfn f = refl
row_split (None ∷ pages) away pfn f =
    omega (
      arith,
      row_split pages away (suc pfn) f,
      times_cons f (away pfn)
          (row_frames pages away (suc pfn)),
      times_cons f (away pfn)
          (exposed_frames pages away (suc pfn)),
    )
row_split (Some g ∷ pages) away pfn f =
    omega (
      arith,
      row_split pages away (suc pfn) f,
      times_cons f g (row_frames pages away (suc pfn)),
      times_cons f g (local_frames pages),
    )

no_account_is : {Seat : Type 0} → IsAccount (no_account {Seat = Seat})
no_account_is = record {
  row = λ f. refl;
  no_flying = refl;
  none_free = refl;
  flying = λ f h. absurd (omega arith);
  flight_pages = refl;
  flight_free = refl;
}

none_at : {Seat : Type 0} (n id : ℕ)
    → account_at {Seat = Seat} id (replicate n no_account) ≡ no_account
none_at zero id = refl
none_at (suc n) zero = refl
none_at (suc n) (suc id) = none_at n id

-- a new pool, whose heap keeps all frames free, and no domain
pub new_named : (n cap : ℕ) (p : PlainPool) (s : PlainSeat) → IsStart n cap p s
    → AreNamed plain_world p
    (record { seat = s; holding = record no_holding { kept = range_with_len 0 n } })
    (replicate 64 no_account)
new_named n cap p s start = record {
  heap_is = (start.fits, (let e = start.entries in rw e (first_has n)));
  domains = λ id. let e = none_at {Seat = PlainSeat} 64 id in rw e tt;
  flights = λ id. let e = none_at {Seat = PlainSeat} 64 id in rw e tt;
  ids = λ id. let e = none_at {Seat = PlainSeat} 64 id in rw e tt;
  off_domains = λ id. let e = none_at {Seat = PlainSeat} 64 id in rw e tt;
  off_flights = λ id. let e = none_at {Seat = PlainSeat} 64 id in rw e tt;
  between = λ id other. let e = none_at {Seat = PlainSeat} 64 id in rw e tt;
  among_flights = λ id other ne. let e = none_at {Seat = PlainSeat} 64 id in rw e tt;
  each = λ d lt. inl (start.names d lt);
}

-- its accounts are in order
pub new_order : (n : ℕ) (s : PlainSeat)
    → AreAccounts (record { seat = s; holding = record no_holding { kept = range_with_len 0 n } })
    (replicate 64 no_account)
new_order n s = record {
  heap_is = record {
    pages = λ f. sym (none (λ a. times f a.exposed) refl);
    own = sym (none (λ a. length a.aside) refl);
    no_flying = refl;
  };
  each = λ id. let e = none_at {Seat = PlainSeat} 64 id in rw e no_account_is;
} where
  none : (g : Account PlainSeat → ℕ) → g no_account ≡ 0 → sum_by g (replicate 64 no_account) ≡ 0
  none g z = no_sum g (replicate 64 no_account) (λ id. ap g (none_at {Seat = PlainSeat} 64 id) ∙ z)
