-- An edge to a node that is not marked comes from the node that feeds it, which is lower.
use Rattle.std.proofs.Common.{◌≡◌, ℕ, zero, suc, ◌+◌, ◌<◌, List, [], ◌∷◌, ◌++◌, length, get_or, Option, Some, None, Bool, true, false, cond, refl, sym, ap, ◌∙◌, subst, arith, inl, inr}
use Rattle.std.specs.Prelude.{Contains, slice_get, nat_eq, nat_lt}
use Rattle.std.proofs.lemmas.Bool.{eq-eqb, ltb-true}
use Rattle.std.proofs.lemmas.Option.{slice_get_within, slice_get-get_or, same_Some}
use Rattle.std.proofs.lemmas.List.Elements.{Contains-append_left, Contains-append_right, All-from_recursion}
use Rattle.rtl_language.specs.declared.instruction.Instruction.{Instruction}
use Rattle.rtl_language.specs.declared.instruction.Instruction.TheVariants.{Do, Call, Branch, Return}
use Rattle.rtl_language.specs.Function as rtl
use Rattle.rtl_passes_marks.specs.Edges.{edges_of, each_to, sources_from, sources}
use Rattle.rtl_passes_marks.specs.Marks.{only_lower, feeder}
use Rattle.alloc_check_rules.specs.Pairs.{successors_of}
use Rattle.alloc_check_fill.proofs.Members.{first_of, later_of, none_of, all_members}
use Rattle.alloc_check_proof.specs.Allocated.{is_none, is_marked}

edges_are : (i : Instruction) → edges_of i ≡ successors_of i
edges_are (Do a s) = refl
edges_are (Call f names target s) = refl
edges_are (Branch test s o) = refl
edges_are (Return value) = refl

-- an edge to s is told of the node
to_has : (n s : ℕ) (ts : List ℕ) → Contains ts s → Contains (each_to n ts s) n
to_has n s [] h = absurd (none_of s h)
to_has n s (t ∷ ts) (zero, below, is) = subst (λ b. Contains (cond b (n ∷ each_to n ts s) (each_to n ts s)) n) (sym (eq-eqb t s is)) (first_of n (each_to n ts s))
to_has n s (t ∷ ts) (suc k, below, is) = at (nat_eq t s) (to_has n s ts (k, omega (arith, below), is))
  where
    at : (b : Bool) → Contains (each_to n ts s) n → Contains (cond b (n ∷ each_to n ts s) (each_to n ts s)) n
    at true among = later_of n (each_to n ts s) n among
    at false among = among

sources_have : (first n k s : ℕ) → first + k ≡ n → (is : List Instruction) (i : Instruction) → slice_get is k ≡ Some i → Contains (successors_of i) s → Contains (sources_from first is s) n
sources_have first n k s at [] i is_i h = absurd cc
sources_have first n zero s at (j ∷ is) i is_i h =
    let same : j ≡ i = cc in
    let here : first ≡ n = omega (arith, at) in
    let edge : Contains (edges_of j) s = subst (λ x. Contains x s) (sym (edges_are i) ∙ ap edges_of (sym same)) h in
    Contains-append_left (each_to first (edges_of j) s) (sources_from (suc first) is s) n
    (subst (λ m. Contains (each_to m (edges_of j) s) n) (sym here) (to_has n s (edges_of j) edge))
sources_have first n (suc k) s at (j ∷ is) i is_i h =
    Contains-append_right (each_to first (edges_of j) s) (sources_from (suc first) is s) n (sources_have (suc first) n k s (omega (arith, at)) is i is_i h)

-- the node that leads there alone
pub record IsFed (entry : ℕ) (nodes : List Instruction) (n s : ℕ) : Type 0 where
  pub feeds : feeder entry nodes s ≡ Some n
  pub lower : n < s

only_one : (n s : ℕ) (xs : List ℕ) → Contains xs n → is_none (only_lower s xs) ≡ false → (only_lower s xs ≡ Some n) × (n < s)
only_one n s [] h fed = absurd (none_of n h)
only_one n s (p ∷ []) (zero, below, is) fed = at (nat_lt p s) refl fed
  where
    at : (b : Bool) → nat_lt p s ≡ b → is_none (cond b (Some p) None) ≡ false → (cond b (Some p) None ≡ Some n) × (n < s)
    at true less fed = (ap (λ x. Some x) is, subst (λ x. x < s) is (ltb-true p s less))
    at false less fed = absurd (let impossible : true ≡ false = fed in cc)
only_one n s (p ∷ []) (suc k, below, is) fed = absurd (omega (arith, below))
only_one n s (p ∷ (q ∷ xs)) h fed = absurd (let impossible : true ≡ false = fed in cc)

pub fed_by : (entry : ℕ) (nodes : List Instruction) (n s : ℕ) (i : Instruction) → slice_get nodes n ≡ Some i → Contains (successors_of i) s → is_none (feeder entry nodes s) ≡ false → IsFed entry nodes n s
fed_by entry nodes n s i is_i h fed = at (nat_eq s entry) refl fed
  where
    among : Contains (sources nodes s) n
    among = sources_have 0 n n s (omega arith) nodes i is_i h

    at : (b : Bool) → nat_eq s entry ≡ b → is_none (cond b None (only_lower s (sources nodes s))) ≡ false → IsFed entry nodes n s
    at true is fed = absurd (let impossible : true ≡ false = fed in cc)
    at false is fed =
        let one = only_one n s (sources nodes s) among fed in
        record { feeds = ap (λ b. cond b None (only_lower s (sources nodes s))) is ∙ one.0; lower = one.1 }

-- the entry is marked
pub entry_marked : (input : rtl.FunctionData) → is_marked input input.entry ≡ true
entry_marked input = ap (λ b. is_none (cond b None (only_lower input.entry (sources input.nodes input.entry)))) (eq-eqb input.entry input.entry refl)

-- an instruction goes on at nodes that are there
goes_within : (registers count : ℕ) (i : Instruction) → rtl.InstructionFits registers count i → (s : ℕ) → Contains (successors_of i) s → s < count
goes_within registers count (Do a t) fits s (zero, below, is) = subst (λ x. x < count) is fits.1
goes_within registers count (Do a t) fits s (suc k, below, is) = absurd (omega (arith, below))
goes_within registers count (Call f names target t) fits s (zero, below, is) = subst (λ x. x < count) is fits.1
goes_within registers count (Call f names target t) fits s (suc k, below, is) = absurd (omega (arith, below))
goes_within registers count (Branch test t o) fits s (zero, below, is) = subst (λ x. x < count) is fits.1
goes_within registers count (Branch test t o) fits s (suc zero, below, is) = subst (λ x. x < count) is fits.2
goes_within registers count (Branch test t o) fits s (suc (suc k), below, is) = absurd (omega (arith, below))
goes_within registers count (Return value) fits s h = absurd (none_of s h)

pub within : (input : rtl.FunctionData) → rtl.IsFunction input → (n : ℕ) (i : Instruction) → slice_get input.nodes n ≡ Some i → (s : ℕ) → Contains (successors_of i) s → s < length input.nodes
within input fits n i is_i s h =
    let below = slice_get_within input.nodes n i is_i in
    let there = All-from_recursion (rtl.InstructionFits input.registers (length input.nodes)) input.nodes fits.each n i below in
    let same = slice_get-get_or input.nodes n i below in
    let is : get_or input.nodes n i ≡ i = same_Some (get_or input.nodes n i) i (sym same ∙ is_i) in
    goes_within input.registers (length input.nodes) i (subst (rtl.InstructionFits input.registers (length input.nodes)) is there) s h
