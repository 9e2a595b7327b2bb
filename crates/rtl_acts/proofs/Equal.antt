-- Derived equalities tell values apart exactly.
use Rattle.std.proofs.Common.{◌≡◌, ℕ, true, false, Option, Some, None, refl, ap, rules}
use Rattle.std.specs.Prelude.{nat_eq}
use Rattle.std.proofs.lemmas.Bool.{eqb-true, and_parts, false≢true}
use denote.Enum.Bare.{same_true}
use Rattle.ints.specs.contracts.operators.Op as op_type
use Rattle.ints.specs.contracts.conditions.Cond as cond_type
use Rattle.ints.specs.contracts.operators.OpPartialEq.TheImpl as op_eq
use Rattle.ints.specs.contracts.conditions.CondPartialEq.TheImpl as cond_eq
pub use Rattle.machine.proofs.Equal.{Tells, tells_decides}
use Rattle.rtl_acts.specs.declared.arguments.Arguments.TheVariants.{One, Two}
use Rattle.rtl_acts.specs.declared.act.Act.TheVariants.{Nop, Constant, Move, Operate, Load, Store, Put}
use Rattle.rtl_acts.specs.contracts.arguments.ArgumentsPartialEq.TheImpl as arguments_eq
use Rattle.rtl_acts.specs.contracts.act.ActPartialEq.TheImpl as act_eq
use Rattle.rtl_acts.specs.contracts.test.TestPartialEq.TheImpl as test_eq

op_tells : Tells (op_eq.ghosts).eq
op_tells a b e = same_true op_type.the_type (search rules) a b e

cond_tells : Tells (cond_eq.ghosts).eq
cond_tells a b e = same_true cond_type.the_type (search rules) a b e

pub arguments_tells : Tells (arguments_eq.ghosts).eq
arguments_tells (One a) (One b) e = ap (λ n. One n) (eqb-true a b e)
arguments_tells (One a) (Two b c) e = absurd (false≢true e)
arguments_tells (Two a b) (One c) e = absurd (false≢true e)
arguments_tells (Two a b) (Two c d) e = let p = and_parts _ _ e in λ i. Two (eqb-true a c p.0 i) (eqb-true b d p.1 i)

target_tells : (a b : ℕ) (t u : Option ℕ) → (act_eq.ghosts).eq (Put a t) (Put b u) ≡ true → Put a t ≡ Put b u
target_tells a b None None e = ap (λ n. Put n None) (eqb-true a b (and_parts _ _ e).0)
target_tells a b None (Some u) e = absurd (false≢true (and_parts (nat_eq a b) false e).1)
target_tells a b (Some t) None e = absurd (false≢true (and_parts (nat_eq a b) false e).1)
target_tells a b (Some t) (Some u) e = let p = and_parts _ _ e in λ i. Put (eqb-true a b p.0 i) (Some (eqb-true t u p.1 i))

pub act_tells : Tells (act_eq.ghosts).eq
act_tells Nop Nop e = refl
act_tells (Constant t w) (Constant u v) e = let p = and_parts _ _ e in λ i. Constant (eqb-true t u p.0 i) (eqb-true w v p.1 i)
act_tells (Move t s) (Move u r) e = let p = and_parts _ _ e in λ i. Move (eqb-true t u p.0 i) (eqb-true s r p.1 i)
act_tells (Operate o t a) (Operate p u b) e =
    let q = and_parts ((op_eq.ghosts).eq o p) _ e in
    let r = and_parts _ ((arguments_eq.ghosts).eq a b) q.1 in
    λ i. Operate (op_tells o p q.0 i) (eqb-true t u r.0 i) (arguments_tells a b r.1 i)
act_tells (Load t g x) (Load u h y) e =
    let p = and_parts _ _ e in
    let q = and_parts _ _ p.1 in
    λ i. Load (eqb-true t u p.0 i) (eqb-true g h q.0 i) (eqb-true x y q.1 i)
act_tells (Store g x s) (Store h y r) e =
    let p = and_parts _ _ e in
    let q = and_parts _ _ p.1 in
    λ i. Store (eqb-true g h p.0 i) (eqb-true x y q.0 i) (eqb-true s r q.1 i)
act_tells (Put a t) (Put b u) e = target_tells a b t u e
act_tells _ _ e = absurd (false≢true e)

pub test_tells : Tells (test_eq.ghosts).eq
test_tells a b e =
    let p = and_parts ((cond_eq.ghosts).eq a.condition b.condition) ((arguments_eq.ghosts).eq a.arguments b.arguments) e in
    λ i. record { condition = cond_tells a.condition b.condition p.0 i; arguments = arguments_tells a.arguments b.arguments p.1 i }
