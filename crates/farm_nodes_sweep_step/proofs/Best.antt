-- The highest of the steps that are asked of nodes, found one by one.
use Rattle.std.proofs.Common.{◌≡◌, ℕ, ◌+◌, ◌<◌, ◌≤◌, inl, inr, Bool, true, false, cond, leb, Option, Some, None, IfSome, refl, sym, subst, arith}
use Rattle.std.proofs.lemmas.Bool.{cases_lt, leb-true, leb-false}
use Rattle.paxos_core_node_steps.specs.declared.step.Step.{Step}
use Rattle.rooms_crash.specs.SeatAct.{SeatAct}
use Rattle.rooms_crash.specs.SeatState.{SeatState}
use Rattle.rooms_crash.specs.Would.{would}
use Rattle.rooms_crash.specs.SeatAct.TheVariants as act
use Rattle.farm_nodes_sweep_step.specs.Next.{ballot_of, higher, AreNone, AreBelow, HasAnswered, IsHighest}

-- what is found once the first n nodes were asked
abbrev pub IsBest : (ℕ → SeatAct) → ℕ → SeatState → Option (ℕ × ℕ) → Type 0
IsBest asked n s None = AreNone asked n s
IsBest asked n s (Some p) = (x : Step) × (p.0 < n) × (would s (asked p.0) ≡ Some x) × (ballot_of x ≡ p.1) × AreBelow asked n s p.1

module _ (asked : ℕ → SeatAct) (n : ℕ) (s : SeatState) where
  -- the first n + 1 are the first n and this one
  below_more : (b : ℕ) → AreBelow asked n s b → IfSome (would s (asked n)) (λ x. ballot_of x ≤ b) → AreBelow asked (n + 1) s b
  below_more b before here i lt =
      elim (cases_lt i n) [
        | inl less ↦ before i less
        | inr more ↦ let same : n ≡ i = omega arith in subst (λ (k : ℕ). IfSome (would s (asked k)) (λ x. ballot_of x ≤ b)) same here
      ]

  none_more : AreNone asked n s → would s (asked n) ≡ None → AreNone asked (n + 1) s
  none_more before here i lt =
      elim (cases_lt i n) [
        | inl less ↦ before i less
        | inr more ↦ let same : n ≡ i = omega arith in subst (λ (k : ℕ). would s (asked k) ≡ None) same here
      ]

  none_below : (b : ℕ) → AreNone asked n s → AreBelow asked n s b
  none_below b none i lt = subst (λ (o : Option Step). IfSome o (λ x. ballot_of x ≤ b)) (sym (none i lt)) tt

  lower : (b c : ℕ) → b ≤ c → (o : Option Step) → IfSome o (λ x. ballot_of x ≤ b) → IfSome o (λ x. ballot_of x ≤ c)
  lower b c low None h = tt
  lower b c low (Some x) h = omega arith

  here_is : (b : ℕ) (x : Step) → would s (asked n) ≡ Some x → ballot_of x ≤ b → IfSome (would s (asked n)) (λ y. ballot_of y ≤ b)
  here_is b x is low = subst (λ (o : Option Step). IfSome o (λ y. ballot_of y ≤ b)) (sym is) low

  chosen : (p : ℕ × ℕ) (x : Step) → would s (asked n) ≡ Some x → IsBest asked n s (Some p) → (t : Bool) → leb (ballot_of x) p.1 ≡ t
      → IsBest asked (n + 1) s (cond t (Some p) (Some (n, ballot_of x)))
  chosen p x is (y, lt, at, ballot, below) true e =
      (y, omega arith, at, ballot, below_more p.1 below (here_is p.1 x is (leb-true (ballot_of x) p.1 e)))
  chosen p x is (y, lt, at, ballot, below) false e =
      let above : p.1 < ballot_of x = leb-false (ballot_of x) p.1 e in (
        x,
        omega arith,
        is,
        refl,
        below_more (ballot_of x) (λ i less. lower p.1 (ballot_of x) (omega arith) (would s (asked i)) (below i less)) (here_is (ballot_of x) x is (omega arith)),
      )

  best_by : (best : Option (ℕ × ℕ)) (o : Option Step) → would s (asked n) ≡ o → IsBest asked n s best → IsBest asked (n + 1) s (higher best n o)
  best_by None None is before = none_more before is
  best_by (Some p) None is (y, lt, at, ballot, below) =
      (y, omega arith, at, ballot, below_more p.1 below (subst (λ (o : Option Step). IfSome o (λ x. ballot_of x ≤ p.1)) (sym is) tt))
  best_by None (Some x) is before =
      (x, omega arith, is, refl, below_more (ballot_of x) (none_below (ballot_of x) before) (here_is (ballot_of x) x is (omega arith)))
  best_by (Some p) (Some x) is before = chosen p x is before (leb (ballot_of x) p.1) refl

  pub best_more : (best : Option (ℕ × ℕ)) → IsBest asked n s best → IsBest asked (n + 1) s (higher best n (would s (asked n)))
  best_more best before = best_by best (would s (asked n)) refl before

pub best_is : (asked : ℕ → SeatAct) (n : ℕ) (s : SeatState) (j b : ℕ) → IsBest asked n s (Some (j, b)) → IsHighest asked n s j
best_is asked n s j b (x, lt, at, ballot, below) =
    record { below = lt; taken = x; is = at; highest = subst (λ (c : ℕ). AreBelow asked n s c) (sym ballot) below }

-- nothing to accept and nothing to promise is nothing to answer
pub answered : (s : SeatState) → AreNone act.Accept s.node.quorums.nodes s → AreNone act.Promise s.node.quorums.nodes s → HasAnswered s
answered s accepts promises j lt = record { accept = accepts j lt; promise = promises j lt }
