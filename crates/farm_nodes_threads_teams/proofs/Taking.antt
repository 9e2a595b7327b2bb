-- At most so many turns, and nodes that are dealt with them.
use Rattle.std.proofs.Common.{◌≡◌, ℕ, ◌+◌, List, [], ◌++◌, length, map, replicate, take, refl, sym, ap, ◌∙◌, subst, subst₂, arith}
use Rattle.std.specs.List.{AllByRecursion, AllZip}
use Rattle.farm_nodes_threads_pace.specs.After.{Goes}
use Rattle.farm_nodes_threads_pace.proofs.Going.{goes_nowhere, goes_through}
use Rattle.farm_nodes_threads_teams.specs.Taken.{HasTaken}
use Rattle.farm_nodes_threads_teams.specs.Dealt.{AreDealt, IsSame, StaysDealt}
use Rattle.farm_nodes_threads_teams.proofs.Stacks.{all_seen, dealt_fit, dealt_none, map_long, replicate_long, take_all, weakened, worked, zip_same, zip_seen}

module _ {X : Type 0} (turned : X → X → Type 0) (is_fit : X → Type 0) where
  pub has_taken : (x y z : X) (k l : ℕ) → z ≡ y → Goes turned is_fit x k y l → HasTaken turned is_fit k x z
  has_taken x y z k l same a =
      let f : a.taken + l ≡ k = a.counted in
      subst (λ u. HasTaken turned is_fit k x u) (sym same) (record { fit = a.fit; taken = a.taken; counted = omega arith; after = a.after })

  pub taken_none : (x : X) (k : ℕ) → HasTaken turned is_fit k x x
  taken_none x k = record { fit = λ f. f; taken = 0; counted = omega arith; after = refl }

  pub all_taken_none : (xs : List X) (k : ℕ) → AllZip (HasTaken turned is_fit k) xs xs
  all_taken_none xs k = zip_same (HasTaken turned is_fit k) xs (λ x. taken_none x k)

  -- A player is seen as its node and the turns that it has left, and a team as its players.
  module _ {P V : Type 0} (node : P → X) (left : P → ℕ) (items : V → List P) (turns : ℕ) where
    abbrev pub Plays : X → P → Type 0
    Plays x p = Goes turned is_fit x turns (node p) (left p)

    abbrev pub Fresh : X → P → Type 0
    Fresh x p = (node p ≡ x) × (left p ≡ turns)

    plays : (x : X) (p : P) → Fresh x p → Plays x p
    plays x p f = subst₂ (λ m j. Goes turned is_fit x turns m j) (sym f.0) (sym f.1) (goes_nowhere turned is_fit x turns)

    -- all that were dealt, of these nodes
    dealt : (w n : ℕ) (xs here : List X) (none later : List (List P)) → none ≡ replicate w [] → n ≡ w
        → StaysDealt IsSame Fresh n xs none here later → AreDealt IsSame Fresh w xs here later
    dealt w n xs here none later e same s =
        let s : StaysDealt IsSame Fresh w xs none here later = subst (λ k. StaysDealt IsSame Fresh k xs none here later) same s in
        s.all xs (subst (λ l. AreDealt IsSame Fresh w xs xs l) (sym e) (dealt_none IsSame Fresh w xs (λ x. refl)))

    dealt_all : (w n : ℕ) (xs here : List X) (none later : List (List P)) → none ≡ replicate w [] → n ≡ w
        → StaysDealt IsSame Fresh n xs none here later → AreDealt (HasTaken turned is_fit turns) Plays w xs here later
    dealt_all w n xs here none later e same s =
        weakened IsSame (HasTaken turned is_fit turns) Fresh Plays w xs here later
        (λ x y z. subst (λ u. HasTaken turned is_fit turns x u) (sym z) (taken_none x turns)) plays (dealt w n xs here none later e same s)

    dealt_same : (w n : ℕ) (xs here : List X) (none later : List (List P)) → none ≡ replicate w [] → n ≡ w
        → StaysDealt IsSame Fresh n xs none here later → AreDealt IsSame (λ x p. node p ≡ x) w xs here later
    dealt_same w n xs here none later e same s =
        weakened IsSame IsSame Fresh (λ x p. node p ≡ x) w xs here later (λ x y z. z) (λ x p f. f.0) (dealt w n xs here none later e same s)

    -- the same of teams that were written back through a slice
    pub here_same : (w n : ℕ) (xs here : List X) (vs now new rest : List V) → now ≡ vs → map items vs ≡ replicate w [] → length vs ≡ n → length new ≡ n
        → StaysDealt IsSame Fresh (length now) xs (map items now) here (map items new)
        → AreDealt IsSame (λ x p. node p ≡ x) n xs here (map items (take n (new ++ rest)))
    here_same w n xs here vs now new rest e none long written s =
        let many : w ≡ n = sym (replicate_long w []) ∙ (ap length (sym none) ∙ (map_long items vs ∙ long)) in
        subst (λ l. AreDealt IsSame (λ x p. node p ≡ x) n xs here (map items l)) (sym (take_all new rest n written))
        (dealt_same n (length now) xs here (map items now) (map items new) (ap (map items) e ∙ (none ∙ ap (λ k. replicate k []) many)) (ap length e ∙ long) s)

    pub here_taken : (w n : ℕ) (xs here : List X) (vs now new rest : List V) → now ≡ vs → map items vs ≡ replicate w [] → length vs ≡ n → length new ≡ n
        → StaysDealt IsSame Fresh (length now) xs (map items now) here (map items new)
        → AreDealt (HasTaken turned is_fit turns) Plays n xs here (map items (take n (new ++ rest)))
    here_taken w n xs here vs now new rest e none long written s =
        let many : w ≡ n = sym (replicate_long w []) ∙ (ap length (sym none) ∙ (map_long items vs ∙ long)) in
        subst (λ l. AreDealt (HasTaken turned is_fit turns) Plays n xs here (map items l)) (sym (take_all new rest n written))
        (dealt_all n (length now) xs here (map items now) (map items new) (ap (map items) e ∙ (none ∙ ap (λ k. replicate k []) many)) (ap length e ∙ long) s)

    pub so_many : (w n : ℕ) (vs : List V) → map items vs ≡ replicate w [] → length vs ≡ n → n ≡ w
    so_many w n vs none long = sym long ∙ (sym (map_long items vs) ∙ (ap length none ∙ replicate_long w []))

    pub teams_fit : (w : ℕ) (xs here : List X) (vs : List V) → AllByRecursion is_fit xs
        → AreDealt (HasTaken turned is_fit turns) Plays w xs here (map items vs) → AllByRecursion (λ v. AllByRecursion (λ p. is_fit (node p)) (items v)) vs
    teams_fit w xs here vs fit d =
        all_seen (λ p. is_fit (node p)) items vs
        (dealt_fit is_fit (λ p. is_fit (node p)) (HasTaken turned is_fit turns) Plays w xs here (map items vs) (λ x p f s. s.fit f) fit d)

    pub teams_worked : (w : ℕ) (xs here : List X) (vs ws : List V)
        → AllZip (λ v u. AllZip (λ p q. Goes turned is_fit (node p) (left p) (node q) (left q)) (items v) (items u)) vs ws
        → AreDealt (HasTaken turned is_fit turns) Plays w xs here (map items vs) → AreDealt (HasTaken turned is_fit turns) Plays w xs here (map items ws)
    teams_worked w xs here vs ws z d =
        worked (HasTaken turned is_fit turns) Plays w xs (λ p q. Goes turned is_fit (node p) (left p) (node q) (left q)) here (map items vs) (map items ws)
        (λ x p q a b. goes_through turned is_fit x (node p) (node q) turns (left p) (left q) a b)
        (zip_seen (λ p q. Goes turned is_fit (node p) (left p) (node q) (left q)) items vs ws z) d
