-- The lists of all nodes as what they are to each other: a marked node's is its row, another's is what its block needs.
use Rattle.std.proofs.Common.{◌≡◌, ℕ, zero, suc, ◌+◌, ◌-◌, ◌<◌, List, [], ◌∷◌, ◌++◌, length, get_or, drop, Some, None, Bool, true, false, cond, refl, sym, ap, ◌∙◌, arith}
use Rattle.std.specs.Prelude.{Contains, slice_get}
use Rattle.std.specs.List.{flat_map}
use Rattle.std.proofs.lemmas.List.{get_or-drop}
use Rattle.std.proofs.lemmas.Option.{slice_get-get_or}
use Rattle.alloc_check_rules.specs.Instruction.{Instruction}
use Rattle.alloc_check_rules.specs.Instruction.TheVariants.{Return}
use Rattle.alloc_check_rules.specs.Block.{Block}
use Rattle.alloc_check_rules.specs.Body.TheVariants as body
use Rattle.alloc_check_rules.specs.declared.equation.Equation.{Equation}
use Rattle.alloc_check_rules.specs.Pairs.{successors_of}
use Rattle.alloc_check_rules.specs.Rules.{equations_at}
use Rattle.alloc_check_fill.specs.Fill.{needed, behind, known, fill_from, fill}
use Rattle.alloc_check_fill.proofs.Members.{first_of, later_of}

joined_same : {A B : Type 0} (f g : A → List B) (xs : List A) → ((x : A) → Contains xs x → f x ≡ g x) → flat_map f xs ≡ flat_map g xs
joined_same f g [] same = refl
joined_same f g (x ∷ xs) same =
    ap (λ ys. ys ++ flat_map f xs) (same x (first_of x xs)) ∙ ap (λ ys. g x ++ ys) (joined_same f g xs (λ y h. same y (later_of x xs y h)))

module _ (marked : ℕ → Bool) (row : ℕ → List Equation) where
  -- what the list of a node is, with the lists above it
  abbrev Made : ℕ → Instruction → Block → List (List Equation) → List Equation
  Made n i b above = cond (marked n) (row n) (needed i b (behind (known marked row (suc n) above) i))

  pub length_from : (first : ℕ) (is : List Instruction) (bs : List Block) → length bs ≡ length is → length (fill_from marked row first is bs) ≡ length is
  length_from first [] bs same = refl
  length_from first (i ∷ is) [] same = absurd (omega (arith, same))
  length_from first (i ∷ is) (b ∷ bs) same = ap suc (length_from (suc first) is bs (omega (arith, same)))

  made_from : (first n k : ℕ) → first + k ≡ n → (is : List Instruction) (bs : List Block) (i : Instruction) (b : Block) → slice_get is k ≡ Some i → slice_get bs k ≡ Some b → get_or (fill_from marked row first is bs) k [] ≡ Made n i b (drop (suc k) (fill_from marked row first is bs))
  made_from first n k at [] bs i b is_i is_b = absurd cc
  made_from first n k at (j ∷ is) [] i b is_i is_b = absurd cc
  made_from first n zero at (j ∷ is) (c ∷ bs) i b is_i is_b =
      let first_i : j ≡ i = cc in
      let first_b : c ≡ b = cc in
      let same : first ≡ n = omega (arith, at) in
      let above = fill_from marked row (suc first) is bs in
      ap (λ x. Made first x c above) first_i ∙ ap (λ x. Made first i x above) first_b ∙ ap (λ m. Made m i b above) same
  made_from first n (suc k) at (j ∷ is) (c ∷ bs) i b is_i is_b = made_from (suc first) n k (omega (arith, at)) is bs i b is_i is_b

  module _ (is : List Instruction) (bs : List Block) (same : length bs ≡ length is) where
    abbrev lists : List (List Equation)
    lists = fill marked row is bs

    pub length_fill : length lists ≡ length is
    length_fill = length_from 0 is bs same

    pub made : (n : ℕ) (i : Instruction) (b : Block) → slice_get is n ≡ Some i → slice_get bs n ≡ Some b → equations_at lists n ≡ Made n i b (drop (suc n) lists)
    made n i b is_i is_b = made_from 0 n n (omega arith) is bs i b is_i is_b

    -- a marked node has its row
    pub row_is : (n : ℕ) → n < length is → marked n ≡ true → equations_at lists n ≡ row n
    row_is n below is_marked =
        let nothing : Instruction = Return None in
        let none : Block = record { before = []; body = body.Return None } in
        let i = get_or is n nothing in
        let b = get_or bs n none in
        made n i b (slice_get-get_or is n nothing below) (slice_get-get_or bs n none (omega (arith, below, same)))
        ∙ ap (λ m. cond m (row n) (needed i b (behind (known marked row (suc n) (drop (suc n) lists)) i))) is_marked

    -- what is known above a node is the list of the node that is meant
    known_is : (n s : ℕ) → s < length is → (marked s ≡ false → n < s) → known marked row (suc n) (drop (suc n) lists) s ≡ equations_at lists s
    known_is n s below above = at (marked s) refl
      where
        at : (m : Bool) → marked s ≡ m → cond m (row s) (get_or (drop (suc n) lists) (s - suc n) []) ≡ get_or lists s []
        at true is_marked = sym (row_is s below is_marked)
        at false is_marked =
            let less : n < s = above is_marked in
            let place : suc n + (s - suc n) ≡ s = omega (arith, less) in
            get_or-drop (suc n) lists (s - suc n) [] ∙ ap (λ k. get_or lists k []) place

    -- another node has what its block needs
    pub needed_is : (n : ℕ) (i : Instruction) (b : Block) → slice_get is n ≡ Some i → slice_get bs n ≡ Some b → marked n ≡ false → ((s : ℕ) → Contains (successors_of i) s → s < length is) → ((s : ℕ) → Contains (successors_of i) s → marked s ≡ false → n < s) → equations_at lists n ≡ needed i b (behind (equations_at lists) i)
    needed_is n i b is_i is_b unmarked within above =
        made n i b is_i is_b
        ∙ ap (λ m. cond m (row n) (needed i b (behind (known marked row (suc n) (drop (suc n) lists)) i))) unmarked
        ∙ ap (λ es. needed i b es) (joined_same (known marked row (suc n) (drop (suc n) lists)) (equations_at lists) (successors_of i) (λ s h. known_is n s (within s h) (above s h)))
