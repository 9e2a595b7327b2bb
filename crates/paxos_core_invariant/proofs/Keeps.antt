-- Each step keeps the invariant: one lemma a field.
use Rattle.std.proofs.Common.{◌≡◌, ℕ, ◌<◌, ◌≤◌, ◌⊎◌, IsTrue, Option, Some, None, inl, inr, refl, sym, ap, subst, arith, leb-true, le-leb, le_trans, List, [], ◌∷◌, ◌∙◌}
use Rattle.std.proofs.lemmas.Bool.{cases_lt}
use Rattle.paxos_core_world.specs.Ballot.{Owns}
use Rattle.paxos_core_world.specs.KeptPart.{IsWithinPromise, with_start, with_promise, with_vote, vote}
use Rattle.paxos_core_world.specs.Quorum.{Sizes, IsPromiseQuorum}
use Rattle.paxos_core_world.specs.Run.{reached, IsRun}
use Rattle.paxos_core_world.specs.Settled.{has_promised}
use Rattle.paxos_core_world.specs.Step.{Label, Starts, Promises, Proposes, Accepts, Learns, Allowed, after, HasOffered, IsChosen, IsSafeChoice, IsHighest}
use Rattle.paxos_core_world.specs.World.{World, Has}
use Rattle.paxos_core_world.specs.declared.msg.Msg.{Msg}
use Rattle.paxos_core_world.specs.declared.msg.Msg.TheVariants.{Prepare, Promise, Propose, Accepted}
use Rattle.paxos_core_world.specs.declared.vote.Vote.{Vote}
use Rattle.paxos_core_invariant.specs.Invariant.{Invariant, VoteKept, PromiseKept, Reports, Backed, IsPassed}
use Rattle.paxos_core_invariant.proofs.Moves.{put_cases, message_stays, begun_stays, chosen_stays, prepare_was, promise_was, proposal_was, vote_was, begun_was, learned_was, node_cases, promised_grows, started_grows, offer_stays}
use Rattle.paxos_core_world.proofs.Quorums.{promise_quorum_grows}

-- ---- words for the steps' needs and effects

starts : (q : Sizes) (w : World) {l : Label} (i b : ℕ) → Allowed q w l → l ≡ Starts i b → (i < q.nodes) × Owns q.nodes i b × ((w.nodes i).started < b)
starts q w i b ok e = subst (Allowed q w) e ok

promises : (q : Sizes) (w : World) {l : Label} (a b : ℕ) → Allowed q w l → l ≡ Promises a b → (a < q.nodes) × Has (Prepare b) w.sent × ((w.nodes a).promised < b)
promises q w a b ok e = subst (Allowed q w) e ok

proposes : (q : Sizes) (w : World) {l : Label} (b v : ℕ) → Allowed q w l → l ≡ Proposes b v
    → Has b w.begun × ((x : ℕ) → ¬ Has (Propose b x) w.sent) × IsSafeChoice q w b v
proposes q w b v ok e = subst (Allowed q w) e ok

accepts : (q : Sizes) (w : World) {l : Label} (a b v : ℕ) → Allowed q w l → l ≡ Accepts a b v → (a < q.nodes) × Has (Propose b v) w.sent × ((w.nodes a).promised ≤ b)
accepts q w a b v ok e = subst (Allowed q w) e ok

-- a message that a step sends stands after it
sends : (w : World) (l k : Label) (m : Msg) → l ≡ k → Has m (after w k).sent → Has m (after w l).sent
sends w l k m e h = subst (λ (x : Label). Has m (after w x).sent) (sym e) h

-- ---- kept votes

within_wider : (p q : ℕ) (o : Option Vote) → p ≤ q → IsWithinPromise p o → IsWithinPromise q o
within_wider p q None l h = tt
within_wider p q (Some x) l h = (h.0, omega arith)

pub within_at : (p : ℕ) (o : Option Vote) (x : Vote) → o ≡ Some x → IsWithinPromise p o → (1 ≤ x.ballot) × (x.ballot ≤ p)
within_at p o x e h = subst (IsWithinPromise p) e h

keeps_within : (q : Sizes) (w : World) (l : Label) → Invariant q w → Allowed q w l → (a : ℕ) → a < q.nodes
    → IsWithinPromise ((after w l).nodes a).promised ((after w l).nodes a).accepted
keeps_within q w l s ok a below =
    node_cases w l a (λ k. IsWithinPromise k.promised k.accepted) (s.within a below) (λ _. s.within a below) (λ b _. s.within a below)
    (λ b e. let step = promises q w a b ok e in within_wider (w.nodes a).promised b (w.nodes a).accepted (omega arith) (s.within a below))
    (λ b v e. let step = accepts q w a b v ok e in let owner = s.begun_own b (s.proposed b v step.1) in let first : 1 ≤ b = owner.2.first in (first, omega arith))

keeps_kept : (q : Sizes) (w : World) (l : Label) → Invariant q w → Allowed q w l → (a : ℕ) (x : Vote) → a < q.nodes
    → ((after w l).nodes a).accepted ≡ Some x → Has (Accepted a x.ballot x.value) (after w l).sent
keeps_kept q w l s ok a x below =
    node_cases w l a (λ k. k.accepted ≡ Some x → Has (Accepted a x.ballot x.value) (after w l).sent) old (λ _. old) (λ b _. old) (λ b _. old)
    (λ b v e h. let same : vote b v ≡ x = cc in
    sends w l (Accepts a b v) _ e (inl (ap (λ (y : Vote). Accepted a y.ballot y.value) (sym same))))
  where
    old : (w.nodes a).accepted ≡ Some x → Has (Accepted a x.ballot x.value) (after w l).sent
    old h = message_stays w l _ (s.kept a x below h)

-- ---- votes and promises that were sent

reports_later : (q : Sizes) (w : World) (l : Label) → Allowed q w l → (a b : ℕ) → b ≤ (w.nodes a).promised → Reports (w.nodes a).accepted b
    → Reports ((after w l).nodes a).accepted b
reports_later q w l ok a b bound h =
    node_cases w l a (λ k. Reports k.accepted b) h (λ _. h) (λ c _. h) (λ c _. h)
    (λ c u e. let step = accepts q w a c u ok e in (vote c u, refl, omega arith))

-- a ballot under which somebody voted is not begun later
not_begun : (q : Sizes) (w : World) (l : Label) → Invariant q w → Allowed q w l → (a b v : ℕ) → Has (Accepted a b v) w.sent
    → ¬ Has b w.begun → ¬ Has b (after w l).begun
not_begun q w l s ok a b v sent none h = elim (begun_was w l b h) [
  | inl old ↦ none old
  | inr new ↦ later new.0 (starts q w new.0 b ok new.1)
]
  where
    later : (i : ℕ) → (i < q.nodes) × Owns q.nodes i b × ((w.nodes i).started < b) → ⊥
    later i step = let low : b ≤ (w.nodes i).started = s.voted i a b v step.0 sent step.1 in absurd (omega arith)

keeps_vote : (q : Sizes) (w : World) (l : Label) → Invariant q w → Allowed q w l → (a b v : ℕ) → Has (Accepted a b v) (after w l).sent
    → VoteKept q.nodes (after w l) a b v
keeps_vote q w l s ok a b v h = elim (vote_was w l a b v h) [ inl old ↦ stood old | inr e ↦ new e ]
  where
    origin_later : Has (Accepted a b v) w.sent → Has (Propose b v) w.sent ⊎ ¬ Has b w.begun → Has (Propose b v) (after w l).sent ⊎ ¬ Has b (after w l).begun
    origin_later old o = elim o [
      | inl proposal ↦ inl (message_stays w l _ proposal)
      | inr none ↦ inr (not_begun q w l s ok a b v old none)
    ]

    stood : Has (Accepted a b v) w.sent → VoteKept q.nodes (after w l) a b v
    stood old =
        let was = s.votes a b v old in
        record {
          node = was.node;
          bound = le_trans was.bound (promised_grows q w l a ok);
          kept = reports_later q w l ok a b was.bound was.kept;
          origin = origin_later old was.origin;
        }

    new : l ≡ Accepts a b v → VoteKept q.nodes (after w l) a b v
    new e =
        let step = accepts q w a b v ok e in
        subst (λ (x : Label). VoteKept q.nodes (after w x) a b v) (sym e)
        (record {
          node = step.0;
          bound = put_cases (λ k. b ≤ k.promised) w.nodes a (with_vote (vote b v) (w.nodes a)) a (λ _. omega arith) (λ other. absurd (other refl));
          kept = put_cases (λ k. Reports k.accepted b) w.nodes a (with_vote (vote b v) (w.nodes a)) a (λ _. (vote b v, refl, omega arith)) (λ other. absurd (other refl));
          origin = inl (inr step.1);
        })

keeps_promise : (q : Sizes) (w : World) (l : Label) → Invariant q w → Allowed q w l → (a b : ℕ) (report : Option Vote)
    → Has (Promise a b report) (after w l).sent → PromiseKept q.nodes (after w l) a b report
keeps_promise q w l s ok a b report h = elim (promise_was w l a b report h) [ inl old ↦ stood old | inr e ↦ new e.0 e.1 ]
  where
    stood : Has (Promise a b report) w.sent → PromiseKept q.nodes (after w l) a b report
    stood old =
        let was = s.promises a b report old in
        record {
          node = was.node;
          bound = le_trans was.bound (promised_grows q w l a ok);
          lower = was.lower;
          voted = λ x e. message_stays w l _ (was.voted x e);
          highest = λ c u sent below. elim (vote_was w l a c u sent) [
            | inl before ↦ was.highest c u before below
            | inr e ↦ (let step = accepts q w a c u ok e in let bound : b ≤ (w.nodes a).promised = was.bound in absurd (omega arith))
          ];
        }

    new : l ≡ Promises a b → report ≡ (w.nodes a).accepted → PromiseKept q.nodes (after w l) a b report
    new e said =
        let step = promises q w a b ok e in
        record {
          node = step.0;
          bound = subst (λ (x : Label). b ≤ ((after w x).nodes a).promised) (sym e)
              (put_cases (λ k. b ≤ k.promised) w.nodes a (with_promise b (w.nodes a)) a (λ _. omega arith) (λ other. absurd (other refl)));
          lower = λ x is. let most = within_at (w.nodes a).promised (w.nodes a).accepted x (sym said ∙ is) (s.within a step.0) in omega arith;
          voted = λ x is. message_stays w l _ (s.kept a x step.0 (sym said ∙ is));
          highest = λ c u sent below. elim (vote_was w l a c u sent) [
            | inl before ↦ subst (λ (r : Option Vote). Reports r c) (sym said) (s.votes a c u before).kept
            | inr other ↦ absurd (let both : Promises a b ≡ Accepts a c u = sym e ∙ other in cc)
          ];
        }

-- ---- one value a ballot

-- a vote under a ballot that is proposed was proposed
vote_of_proposal : (q : Sizes) (w : World) → Invariant q w → (a b v u : ℕ) → Has (Accepted a b v) w.sent → Has (Propose b u) w.sent → v ≡ u
vote_of_proposal q w s a b v u voted proposal = elim (s.votes a b v voted).origin [
  | inl mine ↦ s.one_proposal b v u mine proposal
  | inr none ↦ absurd (none (s.proposed b u proposal))
]

keeps_one_vote : (q : Sizes) (w : World) (l : Label) → Invariant q w → Allowed q w l → (a c b v u : ℕ)
    → Has (Accepted a b v) (after w l).sent → Has (Accepted c b u) (after w l).sent → v ≡ u
keeps_one_vote q w l s ok a c b v u h k = both (vote_was w l a b v h) (vote_was w l c b u k)
  where
    both : Has (Accepted a b v) w.sent ⊎ (l ≡ Accepts a b v) → Has (Accepted c b u) w.sent ⊎ (l ≡ Accepts c b u) → v ≡ u
    both (inl left) (inl right) = s.one_vote a c b v u left right
    both (inl left) (inr e) = vote_of_proposal q w s a b v u left (accepts q w c b u ok e).1
    both (inr e) (inl right) = sym (vote_of_proposal q w s c b u v right (accepts q w a b v ok e).1)
    both (inr e) (inr f) = let same : Accepts a b v ≡ Accepts c b u = sym e ∙ f in cc

keeps_one_proposal : (q : Sizes) (w : World) (l : Label) → Invariant q w → Allowed q w l → (b v u : ℕ)
    → Has (Propose b v) (after w l).sent → Has (Propose b u) (after w l).sent → v ≡ u
keeps_one_proposal q w l s ok b v u h k = both (proposal_was w l b v h) (proposal_was w l b u k)
  where
    both : Has (Propose b v) w.sent ⊎ (l ≡ Proposes b v) → Has (Propose b u) w.sent ⊎ (l ≡ Proposes b u) → v ≡ u
    both (inl left) (inl right) = s.one_proposal b v u left right
    both (inl left) (inr e) = absurd ((proposes q w b u ok e).1 v left)
    both (inr e) (inl right) = absurd ((proposes q w b v ok e).1 u right)
    both (inr e) (inr f) = let same : Proposes b v ≡ Proposes b u = sym e ∙ f in cc

-- ---- ballots

keeps_proposed : (q : Sizes) (w : World) (l : Label) → Invariant q w → Allowed q w l → (b v : ℕ)
    → Has (Propose b v) (after w l).sent → Has b (after w l).begun
keeps_proposed q w l s ok b v h = begun_stays w l b (elim (proposal_was w l b v h) [
  | inl old ↦ s.proposed b v old
  | inr e ↦ (proposes q w b v ok e).0
])

keeps_begun : (q : Sizes) (w : World) (l : Label) → Invariant q w → Allowed q w l → (b : ℕ) → Has b (after w l).begun → Has (Prepare b) (after w l).sent
keeps_begun q w l s ok b h = elim (begun_was w l b h) [
  | inl old ↦ message_stays w l _ (s.begun b old)
  | inr new ↦ sends w l (Starts new.0 b) _ new.1 (inl refl)
]

keeps_begun_own : (q : Sizes) (w : World) (l : Label) → Invariant q w → Allowed q w l → (b : ℕ) → Has b (after w l).begun → (i : ℕ) × (i < q.nodes) × Owns q.nodes i b
keeps_begun_own q w l s ok b h = elim (begun_was w l b h) [
  | inl old ↦ s.begun_own b old
  | inr new ↦ (let step = starts q w new.0 b ok new.1 in (new.0, step.0, step.1))
]

keeps_own : (q : Sizes) (w : World) (l : Label) → Invariant q w → Allowed q w l → (i : ℕ) → i < q.nodes
    → (((after w l).nodes i).started ≡ 0) ⊎ Owns q.nodes i ((after w l).nodes i).started
keeps_own q w l s ok i below =
    let old = s.own i below in
    node_cases w l i (λ k. (k.started ≡ 0) ⊎ Owns q.nodes i k.started) old (λ _. old)
    (λ b e. inr (starts q w i b ok e).1) (λ b _. old) (λ b v _. old)

keeps_started : (q : Sizes) (w : World) (l : Label) → Invariant q w → (i : ℕ) → i < q.nodes
    → 1 ≤ ((after w l).nodes i).started → Has (Prepare ((after w l).nodes i).started) (after w l).sent
keeps_started q w l s i below =
    node_cases w l i (λ k. 1 ≤ k.started → Has (Prepare k.started) (after w l).sent) old (λ _. old)
    (λ b e _. sends w l (Starts i b) _ e (inl refl)) (λ b _. old) (λ b v _. old)
  where
    old : 1 ≤ (w.nodes i).started → Has (Prepare (w.nodes i).started) (after w l).sent
    old first = message_stays w l _ (s.started i below first)

keeps_prepared : (q : Sizes) (w : World) (l : Label) → Invariant q w → Allowed q w l → (i b : ℕ) → i < q.nodes
    → Has (Prepare b) (after w l).sent → Owns q.nodes i b → b ≤ ((after w l).nodes i).started
keeps_prepared q w l s ok i b below h own = elim (prepare_was w l b h) [
  | inl old ↦ le_trans (s.prepared i b below old own) (started_grows q w l i ok)
  | inr new ↦ started new.0 new.1
]
  where
    started : (j : ℕ) → l ≡ Starts j b → b ≤ ((after w l).nodes i).started
    started j e =
        let step = starts q w j b ok e in
        subst (λ (x : Label). b ≤ ((after w x).nodes i).started) (sym e)
        (put_cases (λ k. b ≤ k.started) w.nodes j (with_start b (w.nodes j)) i (λ _. omega arith)
        (λ other. absurd (other (sym own.turn ∙ step.1.turn))))

-- a ballot that was prepared before the step
prepared_before : (q : Sizes) (w : World) (l : Label) → Invariant q w → Allowed q w l → (i b : ℕ) → i < q.nodes
    → Has (Prepare b) w.sent → Owns q.nodes i b → b ≤ ((after w l).nodes i).started
prepared_before q w l s ok i b below sent own = le_trans (s.prepared i b below sent own) (started_grows q w l i ok)

keeps_promised : (q : Sizes) (w : World) (l : Label) → Invariant q w → Allowed q w l → (i a : ℕ) → i < q.nodes → a < q.nodes
    → Owns q.nodes i ((after w l).nodes a).promised → ((after w l).nodes a).promised ≤ ((after w l).nodes i).started
keeps_promised q w l s ok i a below member =
    node_cases w l a (λ k. Owns q.nodes i k.promised → k.promised ≤ ((after w l).nodes i).started) old (λ _. old) (λ b _. old)
    (λ b e own. prepared_before q w l s ok i b below (promises q w a b ok e).1 own)
    (λ b v e own. prepared_before q w l s ok i b below (s.begun b (s.proposed b v (accepts q w a b v ok e).1)) own)
  where
    old : Owns q.nodes i (w.nodes a).promised → (w.nodes a).promised ≤ ((after w l).nodes i).started
    old own = le_trans (s.promised i a below member own) (started_grows q w l i ok)

keeps_voted : (q : Sizes) (w : World) (l : Label) → Invariant q w → Allowed q w l → (i a b v : ℕ) → i < q.nodes
    → Has (Accepted a b v) (after w l).sent → Owns q.nodes i b → b ≤ ((after w l).nodes i).started
keeps_voted q w l s ok i a b v below h own = elim (vote_was w l a b v h) [
  | inl old ↦ le_trans (s.voted i a b v below old own) (started_grows q w l i ok)
  | inr e ↦ prepared_before q w l s ok i b below (s.begun b (s.proposed b v (accepts q w a b v ok e).1)) own
]

-- ---- what was proposed or voted for

backed_was : (q : Sizes) (w : World) (l : Label) → Allowed q w l → (b v : ℕ) → Backed (after w l) b v → Backed w b v ⊎ (l ≡ Proposes b v)
backed_was q w l ok b v (inl proposal) = elim (proposal_was w l b v proposal) [ inl old ↦ inl (inl old) | inr e ↦ inr e ]
backed_was q w l ok b v (inr voted) = elim (vote_was w l voted.0 b v voted.1) [
  | inl old ↦ inl (inr (voted.0, old))
  | inr e ↦ inl (inl (accepts q w voted.0 b v ok e).1)
]

-- the highest report that a proposal rests on was voted for
report_backed : (q : Sizes) (w : World) → Invariant q w → (b v : ℕ) (choice : IsSafeChoice q w b v) (h : IsHighest q.nodes choice.members choice.reports v)
    → Backed w h.ballot v
report_backed q w s b v choice h =
    let sent = choice.promises h.node h.below h.member in
    inr (h.node, (s.promises h.node b (choice.reports h.node) sent).voted (vote h.ballot v) h.report)

choice_offered : (q : Sizes) (w : World) → Invariant q w → (b v : ℕ) → IsSafeChoice q w b v → HasOffered q.nodes w.nodes v
choice_offered q w s b v choice = elim choice.choice [
  | inl free ↦ free.1
  | inr h ↦ s.offered h.ballot v (report_backed q w s b v choice h)
]

keeps_offered : (q : Sizes) (w : World) (l : Label) → Invariant q w → Allowed q w l → (b v : ℕ) → Backed (after w l) b v → HasOffered q.nodes (after w l).nodes v
keeps_offered q w l s ok b v h = offer_stays q.nodes w l v (elim (backed_was q w l ok b v h) [
  | inl old ↦ s.offered b v old
  | inr e ↦ choice_offered q w s b v (proposes q w b v ok e).2
])

choice_backed : (q : Sizes) (w : World) → Invariant q w → (b v : ℕ) → IsSafeChoice q w b v → IsPromiseQuorum q (λ a. has_promised b (w.nodes a))
choice_backed q w s b v choice =
    promise_quorum_grows q choice.members (λ a. has_promised b (w.nodes a))
    (λ a below member. le-leb b (w.nodes a).promised (s.promises a b (choice.reports a) (choice.promises a below member)).bound)
    choice.quorum

keeps_backed : (q : Sizes) (w : World) (l : Label) → Invariant q w → Allowed q w l → (b v : ℕ) → Backed (after w l) b v
    → IsPromiseQuorum q (λ a. has_promised b ((after w l).nodes a))
keeps_backed q w l s ok b v h =
    promise_quorum_grows q (λ a. has_promised b (w.nodes a)) (λ a. has_promised b ((after w l).nodes a))
    (λ a below member. le-leb b _ (le_trans (leb-true b (w.nodes a).promised member) (promised_grows q w l a ok)))
    (elim (backed_was q w l ok b v h) [ inl old ↦ s.backed b v old | inr e ↦ choice_backed q w s b v (proposes q w b v ok e).2 ])

-- ---- what can no more be chosen

passed_stays : (q : Sizes) (w : World) (l : Label) → Allowed q w l → (c u : ℕ) → IsPassed q w c u → IsPassed q (after w l) c u
passed_stays q w l ok c u h =
    record {
      members = h.members;
      quorum = h.quorum;
      above = λ a below member. (let before : c < (w.nodes a).promised = h.above a below member in let more = promised_grows q w l a ok in omega arith);
      silent = λ a below member sent. elim (vote_was w l a c u sent) [
        | inl old ↦ h.silent a below member old
        | inr e ↦ (let step = accepts q w a c u ok e in let before : c < (w.nodes a).promised = h.above a below member in absurd (omega arith))
      ];
    }

-- the promise quorum itself, where none of its reports names a vote under c or higher for another value
passed_by_promises : (q : Sizes) (w : World) → Invariant q w → (b v c u : ℕ) (choice : IsSafeChoice q w b v) → c < b
    → ((a : ℕ) → a < q.nodes → IsTrue (choice.members a) → Has (Accepted a c u) w.sent → Reports (choice.reports a) c → ⊥)
    → IsPassed q w c u
passed_by_promises q w s b v c u choice low none =
    record {
      members = choice.members;
      quorum = choice.quorum;
      above = λ a below member. (let bound : b ≤ (w.nodes a).promised = (said a below member).bound in omega arith);
      silent = λ a below member sent. none a below member sent ((said a below member).highest c u sent low);
    }
  where
    said : (a : ℕ) → a < q.nodes → IsTrue (choice.members a) → PromiseKept q.nodes w a b (choice.reports a)
    said a below member = s.promises a b (choice.reports a) (choice.promises a below member)

choice_safe : (q : Sizes) (w : World) → Invariant q w → (b v c u : ℕ) → IsSafeChoice q w b v → c < b → (u ≡ v → ⊥) → IsPassed q w c u
choice_safe q w s b v c u choice low other = elim choice.choice [
  | inl free ↦ passed_by_promises q w s b v c u choice low (λ a below member sent report. let none = free.0 a below member in let some = report.1 in cc)
  | inr h ↦ elim (cases_lt c h.ballot) [
    | inl under ↦ s.safe h.ballot v c u (report_backed q w s b v choice h) under other
    | inr over ↦ passed_by_promises q w s b v c u choice low (at_highest h over)
  ]
]
  where
    at_highest : (h : IsHighest q.nodes choice.members choice.reports v) → h.ballot ≤ c → (a : ℕ) → a < q.nodes → IsTrue (choice.members a)
        → Has (Accepted a c u) w.sent → Reports (choice.reports a) c → ⊥
    at_highest h over a below member sent report =
        let top : report.0.ballot ≤ h.ballot = h.highest a report.0 below member report.1 in
        let least : c ≤ report.0.ballot = report.2 in
        let same : c ≡ h.ballot = omega arith in
        let there = choice.promises h.node h.below h.member in
        let first = (s.promises h.node b (choice.reports h.node) there).voted (vote h.ballot v) h.report in
        other (s.one_vote a h.node h.ballot u v (subst (λ (m : ℕ). Has (Accepted a m u) w.sent) same sent) first)

keeps_safe : (q : Sizes) (w : World) (l : Label) → Invariant q w → Allowed q w l → (b v c u : ℕ) → Backed (after w l) b v → c < b → (u ≡ v → ⊥)
    → IsPassed q (after w l) c u
keeps_safe q w l s ok b v c u h low other = passed_stays q w l ok c u (elim (backed_was q w l ok b v h) [
  | inl old ↦ s.safe b v c u old low other
  | inr e ↦ choice_safe q w s b v c u (proposes q w b v ok e).2 low other
])

-- ---- answers to a begun ballot

keeps_answered : (q : Sizes) (w : World) (l : Label) → Invariant q w → Allowed q w l → (a : ℕ) → a < q.nodes
    → Has ((after w l).nodes a).promised (after w l).begun
    → Has (Promise a ((after w l).nodes a).promised ((after w l).nodes a).accepted) (after w l).sent
    ⊎ ((v : ℕ) × (((after w l).nodes a).accepted ≡ Some (vote ((after w l).nodes a).promised v)))
keeps_answered q w l s ok a below =
    node_cases w l a
    (λ k. Has k.promised (after w l).begun → Has (Promise a k.promised k.accepted) (after w l).sent ⊎ ((v : ℕ) × (k.accepted ≡ Some (vote k.promised v))))
    old (λ _. old) (λ b _. old)
    (λ b e _. inl (sends w l (Promises a b) _ e (inl refl)))
    (λ b v _ _. inr (v, refl))
  where
    late : (i : ℕ) → l ≡ Starts i (w.nodes a).promised → ⊥
    late i e =
        let step = starts q w i (w.nodes a).promised ok e in
        let low : (w.nodes a).promised ≤ (w.nodes i).started = s.promised i a step.0 below step.1 in
        absurd (omega arith)

    old : Has (w.nodes a).promised (after w l).begun
        → Has (Promise a (w.nodes a).promised (w.nodes a).accepted) (after w l).sent ⊎ ((v : ℕ) × ((w.nodes a).accepted ≡ Some (vote (w.nodes a).promised v)))
    old h = elim (begun_was w l (w.nodes a).promised h) [
      | inl before ↦ elim (s.answered a below before) [ inl promise ↦ inl (message_stays w l _ promise) | inr voted ↦ inr voted ]
      | inr new ↦ absurd (late new.0 new.1)
    ]

keeps_learned : (q : Sizes) (w : World) (l : Label) → Invariant q w → Allowed q w l → (i v : ℕ) → Has (i, v) (after w l).learned
    → (b : ℕ) × IsChosen q (after w l) b v
keeps_learned q w l s ok i v h = elim (learned_was w l i v h) [
  | inl old ↦ later (s.learned i v old)
  | inr e ↦ (let step : Allowed q w (Learns i v) = subst (Allowed q w) e ok in later step.1)
]
  where
    later : (b : ℕ) × IsChosen q w b v → (b : ℕ) × IsChosen q (after w l) b v
    later chosen = (chosen.0, chosen_stays q w l chosen.0 v chosen.1)

-- ---- all of it

pub keeps : (q : Sizes) (w : World) (l : Label) → Invariant q w → Allowed q w l → Invariant q (after w l)
keeps q w l s ok = record {
  sizes = s.sizes;
  within = keeps_within q w l s ok;
  kept = keeps_kept q w l s ok;
  votes = keeps_vote q w l s ok;
  promises = keeps_promise q w l s ok;
  one_vote = keeps_one_vote q w l s ok;
  one_proposal = keeps_one_proposal q w l s ok;
  proposed = keeps_proposed q w l s ok;
  begun = keeps_begun q w l s ok;
  begun_own = keeps_begun_own q w l s ok;
  own = keeps_own q w l s ok;
  started = keeps_started q w l s;
  prepared = keeps_prepared q w l s ok;
  promised = keeps_promised q w l s ok;
  voted = keeps_voted q w l s ok;
  offered = keeps_offered q w l s ok;
  backed = keeps_backed q w l s ok;
  safe = keeps_safe q w l s ok;
  answered = keeps_answered q w l s ok;
  learned = keeps_learned q w l s ok;
}

pub keeps_run : (q : Sizes) (w : World) (ls : List Label) → Invariant q w → IsRun q w ls → Invariant q (reached w ls)
keeps_run q w [] s run = s
keeps_run q w (l ∷ ls) s run = keeps q (reached w ls) l (keeps_run q w ls s run.0) run.1
