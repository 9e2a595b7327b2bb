-- Teams begin, the last first, and come back in their order.
use Rattle.std.proofs.Common.{◌≡◌, ℕ, List, [], ◌∷◌, ◌++◌, refl, sym, ap, ◌∙◌, subst, append-nil}
use Rattle.std.specs.List.{AllZip}
use Rattle.farm_nodes_threads_pace.specs.After.{Goes}
use Rattle.farm_nodes_threads_pace.proofs.AllGoing.{all_stay, all_go}
use Rattle.farm_nodes_threads_teams.specs.Begun.{with_begun}
use Rattle.farm_nodes_threads_teams.proofs.Stacks.{zip_push, zip_same, zip_through}

-- the last that is here begins
one_begins : {V H : Type 0} (begun : H → V) (here : List V) (children : List H) (child : H)
    → with_begun begun here (children ++ child ∷ []) ≡ with_begun begun (here ++ begun child ∷ []) children
one_begins begun here [] child = refl
one_begins begun here (c ∷ children) child = ap (λ l. l ++ begun c ∷ []) (one_begins begun here children child)

-- A player is seen as its node and the turns that it has left, and a team as its players.
module _ {P X V : Type 0} (turned : X → X → Type 0) (is_fit : X → Type 0) (node : P → X) (left : P → ℕ) (items : V → List P) where
  abbrev pub TeamGoes : V → V → Type 0
  TeamGoes v w = AllZip (λ p q. Goes turned is_fit (node p) (left p) (node q) (left q)) (items v) (items w)

  stays : (v : V) → TeamGoes v v
  stays v = all_stay turned is_fit node left (items v)

  pub teams_stay : (vs : List V) → AllZip TeamGoes vs vs
  teams_stay vs = zip_same TeamGoes vs stays

  pub teams_go : (us vs ws : List V) → AllZip TeamGoes us vs → AllZip TeamGoes vs ws → AllZip TeamGoes us ws
  teams_go us vs ws a b = zip_through TeamGoes TeamGoes TeamGoes us vs ws (λ u v w. all_go turned is_fit node left (items u) (items v) (items w)) a b

  module _ {H : Type 0} (begun : H → V) where
    here_go : (old new : List V) (children : List H) → AllZip TeamGoes old new
        → AllZip TeamGoes (with_begun begun old children) (with_begun begun new children)
    here_go old new [] z = z
    here_go old new (c ∷ children) z =
        zip_push TeamGoes (with_begun begun old children) (with_begun begun new children) (begun c) (begun c) (here_go old new children z) (stays (begun c))

    -- nobody begins
    pub none_begins : (old new : List V) (children : List H) → old ≡ new ++ []
        → AllZip TeamGoes (with_begun begun old children) (with_begun begun new children)
    none_begins old new children e =
        here_go old new children (subst (λ l. AllZip TeamGoes l new) (sym (e ∙ append-nil new)) (teams_stay new))

    -- the last that is here is refused, and back
    pub last_refused : (old here new : List V) (children : List H) (v w : V) → old ≡ here ++ v ∷ [] → new ≡ here ++ w ∷ [] → TeamGoes v w
        → AllZip TeamGoes (with_begun begun old children) (with_begun begun new children)
    last_refused old here new children v w e f r =
        here_go old new children (subst (λ l. AllZip TeamGoes l new) (sym e) (subst (λ l. AllZip TeamGoes (here ++ v ∷ []) l) (sym f)
        (zip_push TeamGoes here here v w (teams_stay here) r)))

    -- the last that is here begins
    pub last_begins : (old here : List V) (children more : List H) (v : V) (child : H) → old ≡ here ++ v ∷ [] → more ≡ children ++ child ∷ []
        → begun child ≡ v → AllZip TeamGoes (with_begun begun old children) (with_begun begun here more)
    last_begins old here children more v child e f is =
        let same : with_begun begun here more ≡ with_begun begun old children =
        ap (λ l. with_begun begun here l) f
        ∙ (one_begins begun here children child ∙ (ap (λ u. with_begun begun (here ++ u ∷ []) children) is ∙ ap (λ l. with_begun begun l children) (sym e))) in
        subst (λ l. AllZip TeamGoes l (with_begun begun here more)) same (teams_stay (with_begun begun here more))

    -- the one that began last is back
    pub one_joins : (here new : List V) (children rest : List H) (child : H) (w : V) → children ≡ rest ++ child ∷ [] → new ≡ here ++ w ∷ []
        → TeamGoes (begun child) w → AllZip TeamGoes (with_begun begun here children) (with_begun begun new rest)
    one_joins here new children rest child w e f r =
        let same : with_begun begun here children ≡ with_begun begun (here ++ begun child ∷ []) rest =
        ap (λ l. with_begun begun here l) e ∙ one_begins begun here rest child in
        subst (λ l. AllZip TeamGoes l (with_begun begun new rest)) (sym same)
        (last_refused (here ++ begun child ∷ []) here new rest (begun child) w refl f r)
