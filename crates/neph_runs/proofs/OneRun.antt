-- A script has one run.
use Rattle.std.proofs.Common.{◌≡◌, ℕ, zero, suc, ◌+◌, Bool, true, false, cond, List, ◌++◌, Option, Some, sym, ap, ◌∙◌, arith}
use Rattle.neph_base.specs.declared.reply.Noted.{Noted}
use Rattle.neph_model.specs.declared.script.Script.{Script}
use Rattle.neph_model.specs.Machine.{is_over}
use Rattle.neph_model.specs.Books.{State}
use Rattle.neph_model.specs.Turns.{turns, round}
use Rattle.neph_model.specs.Run.{Ran, rounds, first_turns}
use Rattle.neph_model.specs.RunLaws.{HasOneRun}

either : (over moved : Bool) (a b short long : Option Ran) (r : Ran) → (short ≡ Some r → long ≡ Some r) → cond over a (cond moved short b) ≡ Some r → cond over a (cond moved long b) ≡ Some r
either true moved a b short long r f e = e
either false true a b short long r f e = f e
either false false a b short long r f e = e

rounds_more : (n k : ℕ) (s : Script) (st : State) (h : List Noted) (steps : ℕ) (r : Ran) → rounds n s st h steps ≡ Some r → rounds (n + k) s st h steps ≡ Some r
rounds_more zero k s st h steps r e = absurd cc
rounds_more (suc n) k s st h steps r e =
    let c : suc n + k ≡ suc (n + k) = omega arith in
    let one = turns s st round in
    rw c (either (is_over st.machine) one.moved _ _ _ _ r (λ x. rounds_more n k s one.state (h ++ one.noted) (steps + one.steps) r x) e)

pub some_is : {x y : Ran} → Some x ≡ Some y → x ≡ y
some_is e = cc

pub one_run : HasOneRun
one_run s r q a b =
    let first = first_turns s in
    let x = rounds_more a.count b.count s first.state first.noted first.steps r a.ends in
    let y = rounds_more b.count a.count s first.state first.noted first.steps q b.ends in
    let c : b.count + a.count ≡ a.count + b.count = omega arith in
    some_is (sym x ∙ ap (λ n. rounds n s first.state first.noted first.steps) (sym c) ∙ y)
