-- Facts about what a node has noted: a place that is set, the counts, and the highest report.
use Rattle.std.proofs.Common.{◌≡◌, ℕ, zero, suc, ◌<◌, ◌≤◌, ◌⊎◌, Bool, true, false, cond, ltb, List, [], ◌∷◌, set, replicate, Option, Some, None, is_some, refl, sym, ap, ◌∙◌, inl, inr, arith}
use Rattle.std.proofs.lemmas.Bool.{ltb-true, ltb-false, eqb-true, cases_lt}
use Rattle.paxos_core_world.specs.declared.vote.Vote.{Vote}
use Rattle.paxos_core_node_steps.specs.NodeState.{nothing_noted}
use Rattle.paxos_core_node_steps.specs.Notes.{note_of, has_promised, reported, report_of, is_under, has_voted, higher, highest_below}

-- what is noted once a place is set: the new note there, or what was noted before
pub note_of-set : {T : Type 0} → (notes : List (Option T)) (i k : ℕ) (x y : T) → note_of (set notes i (Some x)) k ≡ Some y → ((k ≡ i) × (x ≡ y)) ⊎ (note_of notes k ≡ Some y)
note_of-set [] i k x y h = inr h
note_of-set (z ∷ zs) zero zero x y h = inl (refl, cc)
note_of-set (z ∷ zs) zero (suc k) x y h = inr h
note_of-set (z ∷ zs) (suc i) zero x y h = inr h
note_of-set (z ∷ zs) (suc i) (suc k) x y h = elim (note_of-set zs i k x y h) [ inl e ↦ inl (ap suc e.0, e.1) | inr e ↦ inr e ]

note_of-replicate : {T : Type 0} → (m k : ℕ) (x : T) → note_of (replicate m None) k ≡ Some x → ⊥
note_of-replicate zero k x h = cc
note_of-replicate (suc m) zero x h = cc
note_of-replicate (suc m) (suc k) x h = note_of-replicate m k x h

-- where nothing is noted, nothing is
pub note_of-nothing : {T : Type 0} → (k : ℕ) (x : T) → note_of nothing_noted k ≡ Some x → ⊥
note_of-nothing k x h = note_of-replicate 7 k x h

noted_report : (o : Option (Option Vote)) → is_some o ≡ true → o ≡ Some (reported o)
noted_report None h = cc
noted_report (Some r) h = refl

-- who has promised is noted with its report
pub promised_report : (ps : List (Option (Option Vote))) (a : ℕ) → has_promised ps a ≡ true → note_of ps a ≡ Some (report_of ps a)
promised_report ps a h = noted_report (note_of ps a) h

reported_noted : (o : Option (Option Vote)) (x : Vote) → reported o ≡ Some x → is_some o ≡ true
reported_noted None x h = cc
reported_noted (Some r) x h = refl

-- whose promise reports a vote has promised
pub report_promised : (ps : List (Option (Option Vote))) (a : ℕ) (x : Vote) → report_of ps a ≡ Some x → has_promised ps a ≡ true
report_promised ps a x h = reported_noted (note_of ps a) x h

vote_under : (o : Option Vote) (b : ℕ) → is_under b o ≡ true → (x : Vote) × (o ≡ Some x) × (x.ballot ≡ b)
vote_under None b h = absurd (cc)
vote_under (Some x) b h = (x, refl, eqb-true x.ballot b h)

-- who has voted under a ballot is noted with a vote of it
pub voted_vote : (vs : List (Option Vote)) (b a : ℕ) → has_voted vs b a ≡ true → (x : Vote) × (note_of vs a ≡ Some x) × (x.ballot ≡ b)
voted_vote vs b a h = vote_under (note_of vs a) b h

higher_is_vote : (t : Bool) (x y : Vote) → cond t (Some x) (Some y) ≡ None → ⊥
higher_is_vote true x y h = cc
higher_is_vote false x y h = cc

higher-none : (o r : Option Vote) → higher o r ≡ None → (o ≡ None) × (r ≡ None)
higher-none None r h = (refl, h)
higher-none (Some x) None h = absurd (cc)
higher-none (Some x) (Some y) h = absurd (higher_is_vote (ltb x.ballot y.ballot) y x h)

-- below n is below m, or is m
below_suc : (a n : ℕ) → a < suc n → (a < n) ⊎ (a ≡ n)
below_suc a n h = elim (cases_lt a n) [ inl e ↦ inl e | inr e ↦ inr (omega arith) ]

report_at : (ps : List (Option (Option Vote))) (a n : ℕ) (r : Option Vote) → a ≡ n → report_of ps n ≡ r → report_of ps a ≡ r
report_at ps a n r e h = rw e h

-- where no report is the highest, no report names a vote
pub highest_below-none : (n : ℕ) (ps : List (Option (Option Vote))) → highest_below n ps ≡ None → (a : ℕ) → a < n → report_of ps a ≡ None
highest_below-none zero ps h a k = absurd (omega arith)
highest_below-none (suc n) ps h a k =
    let e : (highest_below n ps ≡ None) × (report_of ps n ≡ None) = higher-none (highest_below n ps) (report_of ps n) h in
    elim (below_suc a n k) [ inl k ↦ highest_below-none n ps e.0 a k | inr k ↦ report_at ps a n None k e.1 ]

-- x is reported by a node below n, and no node below n reports a higher ballot
pub record IsHighestBelow (n : ℕ) (ps : List (Option (Option Vote))) (x : Vote) : Type 0 where
  pub node : ℕ
  pub below : node < n
  pub report : report_of ps node ≡ Some x
  pub highest : (a : ℕ) (y : Vote) → a < n → report_of ps a ≡ Some y → y.ballot ≤ x.ballot

-- x is one of the two, and the other is not higher
abbrev IsHigherOf : Option Vote → Option Vote → Vote → Type 0
IsHigherOf o r x =
    ((o ≡ Some x) × ((y : Vote) → r ≡ Some y → y.ballot ≤ x.ballot)) ⊎ ((r ≡ Some x) × ((y : Vote) → o ≡ Some y → y.ballot ≤ x.ballot))

ballot_of : (x y : Vote) → ◌≡◌ {A = Option Vote} (Some x) (Some y) → x.ballot ≡ y.ballot
ballot_of x y h = cc

higher_of_two : (t : Bool) (x y z : Vote) → ltb x.ballot y.ballot ≡ t → cond t (Some y) (Some x) ≡ Some z → IsHigherOf (Some x) (Some y) z
higher_of_two true x y z t h = inr (h, λ u e. let below = ltb-true x.ballot y.ballot t in let one = ballot_of y z h in let two = ballot_of x u e in omega arith)
higher_of_two false x y z t h = inl (h, λ u e. let below = ltb-false x.ballot y.ballot t in let one = ballot_of x z h in let two = ballot_of y u e in omega arith)

higher-some : (o r : Option Vote) (x : Vote) → higher o r ≡ Some x → IsHigherOf o r x
higher-some None r x h = inr (h, λ y e. absurd (cc))
higher-some (Some u) None x h = inl (h, λ y e. absurd (cc))
higher-some (Some u) (Some v) x h = higher_of_two (ltb u.ballot v.ballot) u v x refl h

-- the same of the reports of a node further
highest_more : (n : ℕ) (ps : List (Option (Option Vote))) (x : Vote) → IsHighestBelow n ps x → ((y : Vote) → report_of ps n ≡ Some y → y.ballot ≤ x.ballot) → IsHighestBelow (suc n) ps x
highest_more n ps x h k =
    record {
      node = h.node;
      below = let b = h.below in omega arith;
      report = h.report;
      highest = λ a y b e. elim (below_suc a n b) [ inl b ↦ h.highest a y b e | inr b ↦ k y (report_at ps n a (Some y) (sym b) e) ];
    }

-- no report of a node below n is above one that the highest report does not pass
report_within : (n : ℕ) (ps : List (Option (Option Vote))) (x : Vote) (o : Option Vote) → highest_below n ps ≡ o → ((u : Vote) → highest_below n ps ≡ Some u → IsHighestBelow n ps u) → ((y : Vote) → highest_below n ps ≡ Some y → y.ballot ≤ x.ballot) → (a : ℕ) (y : Vote) → a < n → report_of ps a ≡ Some y → y.ballot ≤ x.ballot
report_within n ps x None o all most a y k e = let none = highest_below-none n ps o a k in absurd (cc)
report_within n ps x (Some u) o all most a y k e =
    let high = (all u o).highest a y k e in let low = most u o in omega arith

-- node n's report is the highest where the highest report of the nodes below it is not above
highest_last : (n : ℕ) (ps : List (Option (Option Vote))) (x : Vote) → report_of ps n ≡ Some x → ((u : Vote) → highest_below n ps ≡ Some u → IsHighestBelow n ps u) → ((y : Vote) → highest_below n ps ≡ Some y → y.ballot ≤ x.ballot) → IsHighestBelow (suc n) ps x
highest_last n ps x r all most =
    record {
      node = n;
      below = omega arith;
      report = r;
      highest = λ a y b e. elim (below_suc a n b) [
        | inl b ↦ report_within n ps x (highest_below n ps) refl all most a y b e
        | inr b ↦ let same = ballot_of x y (sym r ∙ report_at ps n a (Some y) (sym b) e) in omega arith
      ];
    }

-- the highest report is that
pub highest_below-some : (n : ℕ) (ps : List (Option (Option Vote))) (x : Vote) → highest_below n ps ≡ Some x → IsHighestBelow n ps x
highest_below-some zero ps x h = absurd (cc)
highest_below-some (suc n) ps x h =
    elim (higher-some (highest_below n ps) (report_of ps n) x h) [
      | inl e ↦ highest_more n ps x (highest_below-some n ps x e.0) e.1
      | inr e ↦ highest_last n ps x e.0 (λ u k. highest_below-some n ps u k) e.1
    ]
