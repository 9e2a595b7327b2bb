-- A node that is fed: its only edge comes from the node that feeds it.
use Rattle.std.proofs.Common.{◌≡◌, ℕ, zero, suc, ◌+◌, ◌<◌, List, [], ◌∷◌, ◌++◌, length, get_or, Option, Some, None, Bool, true, false, cond, eqb, ltb, refl, sym, ap, ◌∙◌, subst, arith, inl, inr}
use Rattle.std.specs.Prelude.{◌⊎◌, slice_get, Contains}
use Rattle.std.proofs.lemmas.Bool.{eqb-true, eq-eqb, ltb-true}
use Rattle.std.proofs.lemmas.List.Elements.{Contains-append_left, Contains-append_right, Contains-append_cases}
use Rattle.rtl_passes.specs.Instruction.{Instruction}
use Rattle.rtl_passes_marks.specs.Edges.{edges_of, each_to, sources_from, sources}
use Rattle.rtl_passes_marks.specs.Marks.{only_lower, feeder}

there : {A : Type 0} (x : A) (xs : List A) (y : A) → Contains xs y → Contains (x ∷ xs) y
there x xs y among = (suc among.0, omega (arith, among.1), among.2)

here : {A : Type 0} (x : A) (xs : List A) → Contains (x ∷ xs) x
here x xs = (0, omega arith, refl)

one_only : {A : Type 0} (x y : A) → Contains (x ∷ []) y → x ≡ y
one_only x y among = at among.0 among.1 among.2
  where
    at : (k : ℕ) → k < 1 → get_or (x ∷ []) k y ≡ y → x ≡ y
    at zero below is = is
    at (suc k) below is = absurd (omega (arith, below))

none_among : {A : Type 0} (y : A) → Contains [] y → ⊥
none_among y among = omega (arith, among.1)

-- an edge to s is one of those that count
each_there : (n : ℕ) (ts : List ℕ) (s : ℕ) → Contains ts s → Contains (each_to n ts s) n
each_there n [] s among = absurd (none_among s among)
each_there n (t ∷ ts) s among = at (eqb t s) refl among.0 among.1 among.2 (each_there n ts s)
  where
    at : (b : Bool) → eqb t s ≡ b → (k : ℕ) → k < length (t ∷ ts) → get_or (t ∷ ts) k s ≡ s → (Contains ts s → Contains (each_to n ts s) n) → Contains (cond b (n ∷ each_to n ts s) (each_to n ts s)) n
    at true e k below is later = here n (each_to n ts s)
    at false e zero below is later = absurd (let yes : eqb t s ≡ true = eq-eqb t s is in cc)
    at false e (suc k) below is later = later (k, omega (arith, below), is)

-- and those that count are edges to s, from this node
each_is : (n : ℕ) (ts : List ℕ) (s m : ℕ) → Contains (each_to n ts s) m → (m ≡ n) × Contains ts s
each_is n [] s m among = absurd (none_among m among)
each_is n (t ∷ ts) s m among = at (eqb t s) refl among (λ c. let r = each_is n ts s m c in (r.0, there t ts s r.1))
  where
    first : eqb t s ≡ true → (k : ℕ) → k < length (n ∷ each_to n ts s) → get_or (n ∷ each_to n ts s) k m ≡ m → (Contains (each_to n ts s) m → (m ≡ n) × Contains (t ∷ ts) s) → (m ≡ n) × Contains (t ∷ ts) s
    first e zero below is later = (sym is, (0, omega arith, eqb-true t s e))
    first e (suc k) below is later = later (k, omega (arith, below), is)

    at : (b : Bool) → eqb t s ≡ b → Contains (cond b (n ∷ each_to n ts s) (each_to n ts s)) m → (Contains (each_to n ts s) m → (m ≡ n) × Contains (t ∷ ts) s) → (m ≡ n) × Contains (t ∷ ts) s
    at true e c later = first e c.0 c.1 c.2 later
    at false e c later = later c

-- an edge comes from its node, the first of these having this number
source_there : (n : ℕ) (is : List Instruction) (s k : ℕ) (i : Instruction) → slice_get is k ≡ Some i → Contains (edges_of i) s → Contains (sources_from n is s) (n + k)
source_there n [] s k i e edge = cc (e)
source_there n (j ∷ is) s zero i e edge =
    let same : i ≡ j = cc in
    let among : Contains (each_to n (edges_of j) s) n = each_there n (edges_of j) s (subst (λ x. Contains (edges_of x) s) same edge) in
    subst (Contains (sources_from n (j ∷ is) s)) (omega arith) (Contains-append_left (each_to n (edges_of j) s) (sources_from (suc n) is s) n among)
source_there n (j ∷ is) s (suc k) i e edge =
    subst (Contains (sources_from n (j ∷ is) s)) (omega arith)
    (Contains-append_right (each_to n (edges_of j) s) (sources_from (suc n) is s) (suc n + k) (source_there (suc n) is s k i e edge))

-- where an edge comes from
pub record IsSource (n : ℕ) (is : List Instruction) (s m : ℕ) : Type 0 where
  pub place : ℕ
  pub number : m ≡ n + place
  pub instruction : Instruction
  pub stands : slice_get is place ≡ Some instruction
  pub edge : Contains (edges_of instruction) s

source_is : (n : ℕ) (is : List Instruction) (s m : ℕ) → Contains (sources_from n is s) m → IsSource n is s m
source_is n [] s m among = absurd (none_among m among)
source_is n (i ∷ is) s m among = at (Contains-append_cases (each_to n (edges_of i) s) (sources_from (suc n) is s) m among) (source_is (suc n) is s m)
  where
    at : Contains (each_to n (edges_of i) s) m ⊎ Contains (sources_from (suc n) is s) m → (Contains (sources_from (suc n) is s) m → IsSource (suc n) is s m) → IsSource n (i ∷ is) s m
    at (inl c) later = let r = each_is n (edges_of i) s m c in record { place = 0; number = omega (arith, r.0); instruction = i; stands = refl; edge = r.1 }
    at (inr c) later = let r = later c in record { place = suc r.place; number = omega (arith, r.number); instruction = r.instruction; stands = r.stands; edge = r.edge }

-- ---- what feeds a node

-- the only edge, from a lower node
lower_only : (s m : ℕ) (ns : List ℕ) → only_lower s ns ≡ Some m → (ns ≡ m ∷ []) × (m < s)
lower_only s m [] e = cc (e)
lower_only s m (n ∷ []) e = at (ltb n s) refl e
  where
    at : (b : Bool) → ltb n s ≡ b → cond b (Some n) None ≡ Some m → (n ∷ [] ≡ m ∷ []) × (m < s)
    at true less e = let same : n ≡ m = cc in (ap (λ x. x ∷ []) same, subst (λ x. x < s) same (ltb-true n s less))
    at false less e = cc (e)
lower_only s m (n ∷ (k ∷ ns)) e = cc (e)

feeder_only : (entry : ℕ) (nodes : List Instruction) (s m : ℕ) → feeder entry nodes s ≡ Some m → (sources nodes s ≡ m ∷ []) × (m < s)
feeder_only entry nodes s m e = at (eqb s entry) e
  where
    at : (b : Bool) → cond b None (only_lower s (sources nodes s)) ≡ Some m → (sources nodes s ≡ m ∷ []) × (m < s)
    at true e = cc (e)
    at false e = lower_only s m (sources nodes s) e

-- what feeds a node is lower
pub feeder_lower : (entry : ℕ) (nodes : List Instruction) (s m : ℕ) → feeder entry nodes s ≡ Some m → m < s
feeder_lower entry nodes s m e = (feeder_only entry nodes s m e).1

-- it is the one from which an edge comes
pub feeder_same : (entry : ℕ) (nodes : List Instruction) (s m n : ℕ) (i : Instruction) → feeder entry nodes s ≡ Some m → slice_get nodes n ≡ Some i → Contains (edges_of i) s → m ≡ n
feeder_same entry nodes s m n i e stands edge =
    let from : Contains (sources nodes s) n = subst (Contains (sources nodes s)) (omega arith) (source_there 0 nodes s n i stands edge) in
    one_only m n (subst (λ ns. Contains ns n) (feeder_only entry nodes s m e).0 from)

-- and it has an edge there
pub feeder_edge : (entry : ℕ) (nodes : List Instruction) (s m : ℕ) → feeder entry nodes s ≡ Some m → (i : Instruction) × (slice_get nodes m ≡ Some i) × Contains (edges_of i) s
feeder_edge entry nodes s m e =
    let r = source_is 0 nodes s m (subst (λ ns. Contains ns m) (sym (feeder_only entry nodes s m e).0) (here m [])) in
    let same : r.place ≡ m = omega (arith, r.number) in
    (r.instruction, subst (λ n. slice_get nodes n ≡ Some r.instruction) same r.stands, r.edge)

-- the entry is marked
pub entry_marked : (entry : ℕ) (nodes : List Instruction) → feeder entry nodes entry ≡ None
entry_marked entry nodes = at (eqb entry entry) (eq-eqb entry entry refl)
  where
    at : (b : Bool) → b ≡ true → cond b None (only_lower entry (sources nodes entry)) ≡ None
    at true e = refl
    at false e = cc (e)
