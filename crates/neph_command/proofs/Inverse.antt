-- What a result says of the readers that gave it.
use Rattle.std.proofs.Common.{◌≡◌, Bool, true, false, cond, Option, Some, None, Result, Ok, Err, refl}
use Rattle.std.specs.Option.{ok_or}
use Rattle.neph_command.specs.declared.why.Why.{Why}
use Rattle.neph_command.specs.Words.{◌>>=◌}

-- a first reader gave a value, and the next one the result
pub record Then {A B : Type 0} (r : Result A Why) (f : A → Result B Why) (y : B) : Type 0 where
  pub value : A
  pub first : r ≡ Ok value
  pub rest : f value ≡ Ok y

pub bind_ok : {A B : Type 0} (r : Result A Why) (f : A → Result B Why) (y : B) → (r >>= f) ≡ Ok y → Then r f y
bind_ok (Ok x) f y e = record { value = x; first = refl; rest = e }
bind_ok (Err w) f y e = absurd cc

pub some_from_ok : {A : Type 0} (o : Option A) (w : Why) (x : A) → ok_or o w ≡ Ok x → o ≡ Some x
some_from_ok (Some y) w x e = cc
some_from_ok None w x e = absurd cc

-- a test that let a reader go on
pub let_on : {A : Type 0} (b : Bool) (w : Why) (r : Result A Why) (y : A) → cond b (Err w) r ≡ Ok y → (b ≡ false) × (r ≡ Ok y)
let_on true w r y e = absurd cc
let_on false w r y e = (refl, e)

pub let_in : {A : Type 0} (b : Bool) (w : Why) (r : Result A Why) (y : A) → cond b r (Err w) ≡ Ok y → (b ≡ true) × (r ≡ Ok y)
let_in true w r y e = (refl, e)
let_in false w r y e = absurd cc

pub same_ok : {A : Type 0} (x y : A) → ◌≡◌ {A = Result A Why} (Ok x) (Ok y) → x ≡ y
same_ok x y e = cc

pub kept : {A : Type 0} (b : Bool) (x y : A) → cond b (Some x) None ≡ Some y → (b ≡ true) × (x ≡ y)
kept true x y e = (refl, cc)
kept false x y e = absurd cc
