-- The search that marks what is reached.
use Rattle.std.proofs.Common.{◌≡◌, ℕ, zero, suc, ◌+◌, ◌*◌, ◌<◌, ◌≤◌, List, [], ◌∷◌, ◌++◌, length, get_or, replicate, Option, Some, None, Bool, true, false, refl, sym, subst, ◌∙◌, arith, ◌⊎◌, inl, inr, length-append}
use Rattle.std.specs.Prelude.{◌↔◌, slice_get, slice_set, Contains}
use Rattle.std.specs.List.{AllByRecursion}
use Rattle.std.proofs.lemmas.Bool.Decides.{eqb_tells}
use Rattle.std.proofs.lemmas.Option.{slice_get_within}
use Rattle.std.proofs.lemmas.List.Elements.{Contains-append_left, Contains-append_right, Contains-append_cases}
use Rattle.std.proofs.Math.ListN.{length-set}
use Rattle.ltl.specs.declared.block.Block.{Block}
use Rattle.ltl.specs.declared.block.Body.{Body}
use Rattle.ltl.specs.declared.block.Body.TheVariants as body
use Rattle.ltl.specs.Function.{FunctionData, IsFunction, BlockFits, BodyFits}
use Rattle.linearize_check_proof.specs.Layout.{successors, successors_of}
use Rattle.linearize_check_proof.proofs.Places.{slice_get-some}
use Rattle.linearize_check_layout.specs.Marks.{IsMarked}
use Rattle.linearize_check_layout.specs.Reach.{IsReachedIn, IsReached}
use Rattle.linearize_check_layout.proofs.Tables.{slice_get-set_same, slice_get-set_other}

-- marked, or on the stack
abbrev pub Pending : List Bool → List ℕ → ℕ → Type 0
Pending marks pending n = IsMarked marks n ⊎ Contains pending n

-- what the search keeps
pub record Searching (f : FunctionData) (marks : List Bool) (pending : List ℕ) : Type 0 where
  pub len : length marks ≡ length f.blocks
  pub entry : Pending marks pending f.entry
  pub onward : (m n : ℕ) → IsMarked marks m → Contains (successors_of (slice_get f.blocks m)) n → Pending marks pending n
  pub within : (n : ℕ) → Contains pending n → n < length f.blocks
  pub marked : (n : ℕ) → IsMarked marks n → IsReached f n
  pub waiting : (n : ℕ) → Contains pending n → IsReached f n

-- ---- marks

-- how many have no mark
abbrev pub unmarked : List Bool → ℕ
unmarked [] = 0
unmarked (true ∷ ms) = unmarked ms
unmarked (false ∷ ms) = suc (unmarked ms)

-- one mark more
pub unmarked-set : (marks : List Bool) (n : ℕ) → slice_get marks n ≡ Some false → unmarked (slice_set marks n true) + 1 ≡ unmarked marks
unmarked-set [] n e = cc (e)
unmarked-set (true ∷ ms) zero e = cc (e)
unmarked-set (false ∷ ms) zero e = omega arith
unmarked-set (true ∷ ms) (suc n) e = unmarked-set ms n e
unmarked-set (false ∷ ms) (suc n) e = omega (arith, unmarked-set ms n e)

-- ---- the blocks

successors_within : (slots nodes : ℕ) (b : Body) → BodyFits slots nodes b → (n : ℕ) → Contains (successors b) n → n < nodes
successors_within slots nodes (body.Go act after s) fits n (zero, below, e) = subst (λ m. m < nodes) e fits.2
successors_within slots nodes (body.Go act after s) fits n (suc k, below, e) = absurd (omega arith)
successors_within slots nodes (body.Call function arguments target after s) fits n (zero, below, e) = subst (λ m. m < nodes) e fits.2
successors_within slots nodes (body.Call function arguments target after s) fits n (suc k, below, e) = absurd (omega arith)
successors_within slots nodes (body.Branch test taken other) fits n (zero, below, e) = subst (λ m. m < nodes) e fits.1
successors_within slots nodes (body.Branch test taken other) fits n (suc zero, below, e) = subst (λ m. m < nodes) e fits.2
successors_within slots nodes (body.Branch test taken other) fits n (suc (suc k), below, e) = absurd (omega arith)
successors_within slots nodes (body.Return value) fits n (k, below, e) = absurd (omega arith)

pub onward_within : (slots nodes : ℕ) (bs : List Block) → AllByRecursion (BlockFits slots nodes) bs → (m n : ℕ) → Contains (successors_of (slice_get bs m)) n → n < nodes
onward_within slots nodes [] fits m n (k, below, e) = absurd (omega arith)
onward_within slots nodes (b ∷ bs) fits zero n h = successors_within slots nodes b.body fits.0.body n h
onward_within slots nodes (b ∷ bs) fits (suc m) n h = onward_within slots nodes bs fits.1 m n h

-- ---- a step of the search

last_is : (rest : List ℕ) (n k : ℕ) → Contains (rest ++ n ∷ []) k → Contains rest k ⊎ (n ≡ k)
last_is rest n k h =
    elim (Contains-append_cases rest (n ∷ []) k h) as (λ _. Contains rest k ⊎ (n ≡ k)) [
      | inl l ↦ inl l
      | inr r ↦ inr (one r.0 r.1 r.2)
    ]
  where
    one : (i : ℕ) → i < 1 → get_or (n ∷ []) i k ≡ k → n ≡ k
    one zero below e = e
    one (suc i) below e = absurd (omega arith)

last_listed : (rest : List ℕ) (n : ℕ) → Contains (rest ++ n ∷ []) n
last_listed rest n = Contains-append_right rest (n ∷ []) n (0, omega arith, refl)

module _ (f : FunctionData) (fits : IsFunction f) (marks : List Bool) (rest : List ℕ) (n : ℕ) (before : Searching f marks (rest ++ n ∷ [])) where
  pub popped_within : n < length f.blocks
  popped_within = before.within n (last_listed rest n)

  -- the node had its mark
  after_seen : IsMarked marks n → Searching f marks rest
  after_seen seen = record {
    len = before.len;
    entry = still f.entry before.entry;
    onward = λ m k marked h. still k (before.onward m k marked h);
    within = λ k h. before.within k (Contains-append_left rest (n ∷ []) k h);
    marked = before.marked;
    waiting = λ k h. before.waiting k (Contains-append_left rest (n ∷ []) k h);
  }
    where
      still : (k : ℕ) → Pending marks (rest ++ n ∷ []) k → Pending marks rest k
      still k (inl m) = inl m
      still k (inr h) = elim (last_is rest n k h) as (λ _. Pending marks rest k) [ inl l ↦ inr l | inr e ↦ inl (subst (IsMarked marks) e seen) ]

  -- the node gets its mark, and its successors go on the stack
  after_first : slice_get marks n ≡ Some false → Searching f (slice_set marks n true) (rest ++ successors_of (slice_get f.blocks n))
  after_first first = record {
    len = length-set {A = Bool} marks n true ∙ before.len;
    entry = still f.entry before.entry;
    onward = onward';
    within = λ k h.
        elim (Contains-append_cases rest next k h) as (λ _. k < length f.blocks) [
          | inl l ↦ before.within k (Contains-append_left rest (n ∷ []) k l)
          | inr r ↦ onward_within f.slots (length f.blocks) f.blocks fits.each n k r
        ];
    marked = λ k m.
        elim (eqb_tells k n) as (λ _. IsReached f k) [
          | inl same ↦ subst (IsReached f) (sym same.1) here
          | inr other ↦ before.marked k (sym (slice_get-set_other marks n k true other.1) ∙ m)
        ];
    waiting = λ k h.
        elim (Contains-append_cases rest next k h) as (λ _. IsReached f k) [
          | inl l ↦ before.waiting k (Contains-append_left rest (n ∷ []) k l)
          | inr r ↦ (suc here.0, (n, here.1, r))
        ];
  }
    where
      next : List ℕ
      next = successors_of (slice_get f.blocks n)

      here : IsReached f n
      here = before.waiting n (last_listed rest n)

      stays : (k : ℕ) → IsMarked marks k → IsMarked (slice_set marks n true) k
      stays k m = elim (eqb_tells k n) as (λ _. IsMarked (slice_set marks n true) k) [
        | inl same ↦ subst (IsMarked (slice_set marks n true)) (sym same.1) (slice_get-set_same marks n true (slice_get_within marks n false first))
        | inr other ↦ slice_get-set_other marks n k true other.1 ∙ m
      ]

      still : (k : ℕ) → Pending marks (rest ++ n ∷ []) k → Pending (slice_set marks n true) (rest ++ next) k
      still k (inl m) = inl (stays k m)
      still k (inr h) = elim (last_is rest n k h) as (λ _. Pending (slice_set marks n true) (rest ++ next) k) [
        | inl l ↦ inr (Contains-append_left rest next k l)
        | inr e ↦ inl (subst (IsMarked (slice_set marks n true)) e (slice_get-set_same marks n true (slice_get_within marks n false first)))
      ]

      onward' : (m k : ℕ) → IsMarked (slice_set marks n true) m → Contains (successors_of (slice_get f.blocks m)) k → Pending (slice_set marks n true) (rest ++ next) k
      onward' m k marked h =
          elim (eqb_tells m n) as (λ _. Pending (slice_set marks n true) (rest ++ next) k) [
            | inl same ↦ inr (Contains-append_right rest next k (subst (λ x. Contains (successors_of (slice_get f.blocks x)) k) same.1 h))
            | inr other ↦ still k (before.onward m k (sym (slice_get-set_other marks n m true other.1) ∙ marked) h)
          ]

-- what one visit does, whether the node had its mark or not
pub searching_after : (f : FunctionData) → IsFunction f → (marks : List Bool) (rest : List ℕ) (n : ℕ) → Searching f marks (rest ++ n ∷ []) → (marks' : List Bool) (pending' : List ℕ) → (IsMarked marks n → (marks' ≡ marks) × (pending' ≡ rest)) → (slice_get marks n ≡ Some false → (marks' ≡ slice_set marks n true) × (pending' ≡ rest ++ successors_of (slice_get f.blocks n))) → Searching f marks' pending'
searching_after f fits marks rest n before marks' pending' seen first =
    let m = slice_get-some marks n (omega (arith, popped_within f fits marks rest n before, before.len)) in
    by m.0 m.1
  where
    by : (b : Bool) → slice_get marks n ≡ Some b → Searching f marks' pending'
    by true e = let s = seen e in rw (s.0, s.1) (after_seen f fits marks rest n before e)
    by false e = let s = first e in rw (s.0, s.1) (after_first f fits marks rest n before e)

successors_few : (o : Option Block) → length (successors_of o) ≤ 2
successors_few None = omega arith
successors_few (Some b) = few b.body
  where
    few : (b : Body) → length (successors b) ≤ 2
    few (body.Go act after s) = omega arith
    few (body.Call function arguments target after s) = omega arith
    few (body.Branch test taken other) = omega arith
    few (body.Return value) = omega arith

-- what is still to be done
abbrev pub left_over : List Bool → List ℕ → ℕ
left_over marks pending = length pending + 3 * unmarked marks

pub left_over-falls : (f : FunctionData) → IsFunction f → (marks : List Bool) (rest : List ℕ) (n : ℕ) → Searching f marks (rest ++ n ∷ []) → (marks' : List Bool) (pending' : List ℕ) → (IsMarked marks n → (marks' ≡ marks) × (pending' ≡ rest)) → (slice_get marks n ≡ Some false → (marks' ≡ slice_set marks n true) × (pending' ≡ rest ++ successors_of (slice_get f.blocks n))) → left_over marks' pending' < left_over marks (rest ++ n ∷ [])
left_over-falls f fits marks rest n before marks' pending' seen first =
    let m = slice_get-some marks n (omega (arith, popped_within f fits marks rest n before, before.len)) in
    by m.0 m.1
  where
    by : (b : Bool) → slice_get marks n ≡ Some b → left_over marks' pending' < left_over marks (rest ++ n ∷ [])
    by true e =
        let s = seen e in
        let len = length-append rest (n ∷ []) in
        rw (s.0, s.1) (omega arith)
    by false e =
        let s = first e in
        let len = length-append rest (n ∷ []) in
        let few = successors_few (slice_get f.blocks n) in
        let len' = length-append rest (successors_of (slice_get f.blocks n)) in
        let one = unmarked-set marks n e in
        rw (s.0, s.1) (omega arith)

-- how a search begins
pub searching_first : (f : FunctionData) → IsFunction f → (marks : List Bool) → length marks ≡ length f.blocks → ((n : ℕ) → IsMarked marks n → ⊥) → Searching f marks (f.entry ∷ [])
searching_first f fits marks len none = record {
  len = len;
  entry = inr (0, omega arith, refl);
  onward = λ m n marked h. absurd (none m marked);
  within = λ n h. subst (λ k. k < length f.blocks) (only n h.0 h.1 h.2) fits.entry;
  marked = λ n m. absurd (none n m);
  waiting = λ n h. (0, only n h.0 h.1 h.2);
}
  where
    only : (n i : ℕ) → i < 1 → get_or (f.entry ∷ []) i n ≡ n → f.entry ≡ n
    only n zero below e = e
    only n (suc i) below e = absurd (omega arith)

-- and what it has found when the stack is empty
pub searching_done : (f : FunctionData) (marks : List Bool) → Searching f marks [] → (n : ℕ) → IsMarked marks n ↔ IsReached f n
searching_done f marks done n = (done.marked n, λ r. found r.0 n r.1)
  where
    out : (k : ℕ) → Pending marks [] k → IsMarked marks k
    out k (inl m) = m
    out k (inr h) = absurd (omega (arith, h.1))

    found : (steps k : ℕ) → IsReachedIn f steps k → IsMarked marks k
    found zero k e = subst (IsMarked marks) e (out f.entry done.entry)
    found (suc steps) k (m, r, h) = out k (done.onward m k (found steps m r) h)

-- no mark is set at first
pub replicate_unmarked : (k n : ℕ) → IsMarked (replicate k false) n → ⊥
replicate_unmarked zero n e = cc (e)
replicate_unmarked (suc k) zero e = cc (e)
replicate_unmarked (suc k) (suc n) e = replicate_unmarked k n e
