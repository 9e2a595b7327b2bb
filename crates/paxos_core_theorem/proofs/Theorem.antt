-- Agreement: from settled kept parts, whatever a run chooses or learns is one value, and what it leaves is settled.
use Rattle.std.proofs.Common.{◌≡◌, ℕ, ◌<◌, Bool, true, false, not, List, Option, Some, None, inl, inr, refl, sym, subst, arith, eqb, eqb-true, nat_lt, lt-ltb}
use Rattle.std.proofs.lemmas.Bool.{cases_eq, cases_order, and_from, and_parts}
use Rattle.paxos_core_world.specs.KeptPart.{KeptPart}
use Rattle.paxos_core_world.specs.Quorum.{Sizes, AreQuorums, IsPromiseQuorum}
use Rattle.paxos_core_world.specs.Run.{reached}
use Rattle.paxos_core_world.specs.Settled.{Settled, BallotsSettled, PairSettled, has_passed, is_given}
use Rattle.paxos_core_world.specs.Step.{Label, IsChosen}
use Rattle.paxos_core_world.specs.World.{World, Has, opening}
use Rattle.paxos_core_world.specs.declared.msg.Msg.TheVariants.{Accepted}
use Rattle.paxos_core_world.specs.declared.vote.Vote.{Vote}
use Rattle.paxos_core_invariant.specs.Invariant.{Invariant, Backed, IsPassed}
use Rattle.paxos_core_invariant.proofs.Keeps.{keeps_run}
use Rattle.paxos_core_invariant.proofs.Opens.{opens}
use Rattle.paxos_core_invariant.proofs.Quorums.{meet}
use Rattle.paxos_core_world.proofs.Quorums.{member_of, promise_quorum_grows}
use Rattle.paxos_core_theorem.specs.Agreement.{IsSettledRun, ChoosesOne, LearnsOne, NothingIsSettled, RunsChooseOne, RunsLearnOne, RunsStaySettled}

-- every world of a run from settled kept parts has the invariant
pub holds : (q : Sizes) (nodes : ℕ → KeptPart) (steps : List Label) → IsSettledRun q nodes steps → Invariant q (reached (opening q.nodes nodes) steps)
holds q nodes steps h = keeps_run q (opening q.nodes nodes) steps (opens q nodes h.sizes h.settled) h.run

-- ---- one value

pub chosen_backed : (q : Sizes) (w : World) → AreQuorums q → (b v : ℕ) → IsChosen q w b v → Backed w b v
chosen_backed q w are b v h =
    let one = member_of q are h.members h.quorum in inr (one.node, h.votes one.node one.below one.member)

-- a value that was passed over is not chosen
not_passed : (q : Sizes) (w : World) → AreQuorums q → (c u : ℕ) → IsChosen q w c u → IsPassed q w c u → ⊥
not_passed q w are c u chosen passed =
    let both = meet q are passed.members chosen.members passed.quorum chosen.quorum in
    passed.silent both.node both.below both.left (chosen.votes both.node both.below both.right)

not_above : (q : Sizes) (w : World) → Invariant q w → (b c v u : ℕ) → c < b → IsChosen q w b v → IsChosen q w c u → (u ≡ v → ⊥) → ⊥
not_above q w s b c v u low h k other = not_passed q w s.sizes c u k (s.safe b v c u (chosen_backed q w s.sizes b v h) low other)

same_above : (q : Sizes) (w : World) → Invariant q w → (b c v u : ℕ) → c < b → IsChosen q w b v → IsChosen q w c u → u ≡ v
same_above q w s b c v u low h k = elim (cases_eq u v) [ inl same ↦ same | inr other ↦ absurd (not_above q w s b c v u low h k other) ]

same_ballot : (q : Sizes) (w : World) → Invariant q w → (b v u : ℕ) → IsChosen q w b v → IsChosen q w b u → v ≡ u
same_ballot q w s b v u h k =
    let left = member_of q s.sizes h.members h.quorum in
    let right = member_of q s.sizes k.members k.quorum in
    s.one_vote left.node right.node b v u (h.votes left.node left.below left.member) (k.votes right.node right.below right.member)

pub chooses_one : (q : Sizes) (w : World) → Invariant q w → ChoosesOne q w
chooses_one q w s b c v u h k = elim (cases_order b c) [
  | inl same ↦ same_ballot q w s b v u h (subst (λ (d : ℕ). IsChosen q w d u) (sym same) k)
  | inr apart ↦ elim apart [
    | inl under ↦ same_above q w s c b u v under k h
    | inr over ↦ sym (same_above q w s b c v u over h k)
  ]
]

pub learns_one : (q : Sizes) (w : World) → Invariant q w → LearnsOne w
learns_one q w s i j v u h k =
    let left = s.learned i v h in
    let right = s.learned j u k in
    chooses_one q w s left.0 right.0 v u left.1 right.1

-- ---- what is left is settled

settled_pair : (q : Sizes) (w : World) → Invariant q w → (i j : ℕ) (x y : Vote) → i < q.nodes → j < q.nodes
    → (w.nodes i).accepted ≡ Some x → (w.nodes j).accepted ≡ Some y → PairSettled q w.nodes x y
settled_pair q w s i j x y below member e f =
    record { same = same; lower = λ low other. passed (s.safe x.ballot x.value y.ballot y.value (inr (i, s.kept i x below e)) low other) }
  where
    same : x.ballot ≡ y.ballot → x.value ≡ y.value
    same ballots =
        s.one_vote i j x.ballot x.value y.value (s.kept i x below e)
        (subst (λ (b : ℕ). Has (Accepted j b y.value) w.sent) (sym ballots) (s.kept j y member f))

    silent : (a : ℕ) → a < q.nodes → ¬ Has (Accepted a y.ballot y.value) w.sent → (t : Bool) → is_given y (w.nodes a).accepted ≡ t → not t ≡ true
    silent a node none false g = refl
    silent a node none true g = absurd (none (given_sent a node (w.nodes a).accepted refl g))
      where
        given_sent : (a : ℕ) → a < q.nodes → (o : Option Vote) → (w.nodes a).accepted ≡ o → is_given y o ≡ true → Has (Accepted a y.ballot y.value) w.sent
        given_sent a node None is never = absurd (let e : false ≡ true = never in cc)
        given_sent a node (Some z) is g =
            let both = and_parts (eqb z.ballot y.ballot) (eqb z.value y.value) g in
            let ballot : z.ballot ≡ y.ballot = eqb-true z.ballot y.ballot both.0 in
            let value : z.value ≡ y.value = eqb-true z.value y.value both.1 in
            subst (λ (b : ℕ). Has (Accepted a b y.value) w.sent) ballot
            (subst (λ (u : ℕ). Has (Accepted a z.ballot u) w.sent) value (s.kept a z node is))

    passed : IsPassed q w y.ballot y.value → IsPromiseQuorum q (λ a. has_passed y (w.nodes a))
    passed p =
        promise_quorum_grows q p.members (λ a. has_passed y (w.nodes a))
        (λ a node member. and_from (nat_lt y.ballot (w.nodes a).promised) (not (is_given y (w.nodes a).accepted))
        (lt-ltb y.ballot (w.nodes a).promised (p.above a node member))
        (silent a node (p.silent a node member) (is_given y (w.nodes a).accepted) refl))
        p.quorum

settled_ballots : (q : Sizes) (w : World) → Invariant q w → (i : ℕ) → i < q.nodes → BallotsSettled q.nodes w.nodes i
settled_ballots q w s i below =
    record {
      own = s.own i below;
      promised = λ j member own. s.promised i j below member own;
      accepted = λ j x member e own. s.voted i j x.ballot x.value below (s.kept j x member e) own;
    }

pub settles : (q : Sizes) (w : World) → Invariant q w → Settled q w.nodes
settles q w s = record {
  within = s.within;
  ballots = settled_ballots q w s;
  vote = λ i x below e. record {
    offered = s.offered x.ballot x.value (inr (i, s.kept i x below e));
    quorum = s.backed x.ballot x.value (inr (i, s.kept i x below e));
  };
  pair = settled_pair q w s;
}

-- ---- the promises

pub nothing_settled : NothingIsSettled
nothing_settled q = record {
  within = λ i below. tt;
  ballots = λ i below. record {
    own = inl refl;
    promised = λ j member own. omega arith;
    accepted = λ j x member e own. absurd (cc);
  };
  vote = λ i x below e. absurd (cc);
  pair = λ i j x y below member e f. absurd (cc);
}

pub runs_choose_one : RunsChooseOne
runs_choose_one q nodes steps h = chooses_one q (reached (opening q.nodes nodes) steps) (holds q nodes steps h)

pub runs_learn_one : RunsLearnOne
runs_learn_one q nodes steps h = learns_one q (reached (opening q.nodes nodes) steps) (holds q nodes steps h)

pub runs_stay_settled : RunsStaySettled
runs_stay_settled q nodes steps h = settles q (reached (opening q.nodes nodes) steps) (holds q nodes steps h)
