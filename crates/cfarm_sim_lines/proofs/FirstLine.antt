-- The first line of a schedule, byte by byte.
use Rattle.std.proofs.Common.{◌≡◌, ◌⊎◌, inl, inr, ℕ, ◌+◌, ◌/◌, ◌<◌, ◌++◌, List, length, Option, None, Some, SomeIff, sym, ap, ◌∙◌, arith}
use Rattle.std.specs.Prelude.{codes, slice_get}
use Rattle.std.proofs.lemmas.Fmt.{decimal_digit}
use Rattle.paxos_core_world.specs.Quorum.{majority_sizes, AreQuorums, Sizes}
use Rattle.cfarm_sim_lines.specs.Commands.{head_of, sizes_head_of, IsHead}
use Rattle.cfarm_sim_lines.specs.FirstLine.{long_line, short_line, IsSpelled}

short_is : (n : ℕ) → n < 10 → head_of n ≡ short_line n
short_is n one = ap (λ ds. codes "nodes " ++ ds) (decimal_digit n one)

long_is : (q : Sizes) → AreQuorums q → sizes_head_of q ≡ long_line q
long_is q sizes =
    let nodes = decimal_digit q.nodes (omega (arith, sizes.most)) in
    let promise = decimal_digit q.promise (omega (arith, sizes.few_promise, sizes.most)) in
    let accept = decimal_digit q.accept (omega (arith, sizes.few_accept, sizes.most)) in
    λ i. codes "nodes " ++ (nodes i ++ (codes " " ++ (promise i ++ (codes " " ++ accept i))))

pub head_spelled : (line : List ℕ) (q : Sizes) → IsHead line q → IsSpelled line q
head_spelled line q head =
    elim head.1 as (λ _. IsSpelled line q) [
      | inl e ↦ inl (e ∙ long_is q head.0)
      | inr p ↦ inr (p.0 ∙ short_is q.nodes (omega (arith, head.0.most)), p.1)
    ]

pub spelled_head : (line : List ℕ) (q : Sizes) → AreQuorums q → IsSpelled line q → IsHead line q
spelled_head line q sizes spelled = (sizes, told spelled)
  where
    told : IsSpelled line q → (line ≡ sizes_head_of q) ⊎ ((line ≡ head_of q.nodes) × (q ≡ majority_sizes q.nodes))
    told (inl e) = inl (e ∙ sym (long_is q sizes))
    told (inr p) = inr (p.0 ∙ sym (short_is q.nodes (omega (arith, sizes.most))), p.1)

pub are_majorities : (q : Sizes) → q.promise ≡ q.nodes / 2 + 1 → q.accept ≡ q.nodes / 2 + 1 → q ≡ majority_sizes q.nodes
are_majorities q promise accept = λ i. record { nodes = q.nodes; promise = promise i; accept = accept i }

-- the digits stand at their places
pub digit_nodes : (line : List ℕ) (q : Sizes) → IsSpelled line q → slice_get line 6 ≡ Some (48 + q.nodes)
digit_nodes line q (inl e) = ap (λ l. slice_get l 6) e
digit_nodes line q (inr p) = ap (λ l. slice_get l 6) p.0

pub digit_promise : (line : List ℕ) (q : Sizes) → line ≡ long_line q → slice_get line 8 ≡ Some (48 + q.promise)
digit_promise line q e = ap (λ l. slice_get l 8) e

pub digit_accept : (line : List ℕ) (q : Sizes) → line ≡ long_line q → slice_get line 10 ≡ Some (48 + q.accept)
digit_accept line q e = ap (λ l. slice_get l 10) e

pub is_long : (line : List ℕ) (q : Sizes) → IsSpelled line q → (length line ≡ 7 → ⊥) → line ≡ long_line q
is_long line q (inl e) other = e
is_long line q (inr p) other = absurd (other (ap length p.0))

pub is_short : (line : List ℕ) (q : Sizes) → IsSpelled line q → length line ≡ 7 → q ≡ majority_sizes q.nodes
is_short line q (inl e) seven = absurd (omega (arith, seven, ap length e))
is_short line q (inr p) seven = p.1

-- what is told where it is so
pub some_iff : {T : Type 0} (o : Option T) (P : Type 0) (v w : T) → SomeIff o P v → P → v ≡ w → o ≡ Some w
some_iff None P v w told p e = absurd (told p)
some_iff (Some x) P v w told p e = ap (λ y. Some y) (told.1 ∙ e)
