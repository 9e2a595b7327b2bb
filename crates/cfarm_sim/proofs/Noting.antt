-- Of a vote, whether just that one is noted.
use Rattle.std.proofs.Common.{◌≡◌, ◌↔◌, ◌&&◌, ℕ, ◌==◌, ◌<◌, Bool, true, false, IsTrue, Option, Some, None, refl, sym, ap, ap₂, ◌∙◌, nat_lt, eqb-true, eq-eqb, lt-ltb, ltb-true}
use Rattle.paxos_core_world.specs.declared.vote.Vote.{Vote}
use Rattle.paxos_core_node_steps.specs.Notes.{note_of}
use Rattle.paxos_core_node_steps.specs.NodeState.{NodeState}
use Rattle.cfarm_sim.specs.Noted.{has_vote, is_that}

and_parts : (a b : Bool) → (a && b) ≡ true → (a ≡ true) × (b ≡ true)
and_parts true b e = (refl, e)
and_parts false b e = absurd (cc)

that_is : (o : Option Vote) (x : Vote) → is_that o x ≡ true → o ≡ Some x
that_is None x e = absurd (cc)
that_is (Some y) x e =
    let both = and_parts (y.ballot == x.ballot) (y.value == x.value) e in
    let ballot = eqb-true y.ballot x.ballot both.0 in
    let value = eqb-true y.value x.value both.1 in
    λ i. Some (record { ballot = ballot i; value = value i })

that_itself : (x : Vote) → is_that (Some x) x ≡ true
that_itself x = ap₂ (λ s t. s && t) (eq-eqb x.ballot x.ballot refl) (eq-eqb x.value x.value refl)

same_bools : (p q : Bool) → (p ≡ true → q ≡ true) → (q ≡ true → p ≡ true) → p ≡ q
same_bools true q f g = sym (f refl)
same_bools false true f g = g refl
same_bools false false f g = refl

pub vote_told : (s : NodeState) (from : ℕ) (x : Vote) (told : Bool) → IsTrue told ↔ ((from < s.quorums.nodes) × (note_of s.votes from ≡ Some x)) → told ≡ has_vote s from x
vote_told s from x told is =
    let below = nat_lt from s.quorums.nodes in
    let same = is_that (note_of s.votes from) x in
    same_bools told (below && same)
    (λ e. let held = is.0 e in ap₂ (λ a b. a && b) (lt-ltb from s.quorums.nodes held.0) (ap (λ o. is_that o x) held.1 ∙ that_itself x))
    (λ e. let parts = and_parts below same e in is.1 (ltb-true from s.quorums.nodes parts.0, that_is (note_of s.votes from) x parts.1))
