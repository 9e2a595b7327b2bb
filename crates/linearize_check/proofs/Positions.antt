-- Position by position: where each stretch stands, and that the stretches are the whole code.
use Rattle.std.proofs.Common.{◌≡◌, ℕ, zero, suc, ◌+◌, ◌<◌, ◌≤◌, List, [], ◌∷◌, ◌++◌, length, drop, refl, sym, ap, ◌∙◌, arith}
use Rattle.std.specs.Prelude.{slice_get, slice_index}
use Rattle.std.proofs.lemmas.List.{length-append, drop_more, drop-drop, drop_at, nil_from_length}
use Rattle.ltl.specs.declared.block.Block.{Block}
use Rattle.linear_language.specs.declared.instruction.Instruction.{Instruction}
use Rattle.linearize_check_proof.specs.Layout.{stretch, order_code}
use Rattle.linearize_check.specs.Faults.{first_stretch, place_at, BeginsWith, StandsAt}
use Rattle.linearize_check_layout.proofs.Stretches.{stretch-append}

pub first_stretch-drop : (blocks : List Block) (order : List ℕ) (i : ℕ) → i < length order → first_stretch blocks (drop i order) ≡ stretch (slice_index order i) (slice_get blocks (slice_index order i)) (drop (i + 1) order) []
first_stretch-drop blocks order i below = ap (first_stretch blocks) (drop_more order i 0 below)

pub order_code-cons : (blocks : List Block) (n : ℕ) (ns : List ℕ) → order_code blocks (n ∷ ns) ≡ first_stretch blocks (n ∷ ns) ++ order_code blocks ns
order_code-cons blocks n ns = stretch-append n (slice_get blocks n) ns (order_code blocks ns)

-- one position on
place-suc : (blocks : List Block) (order : List ℕ) (i : ℕ) → i < length order → place_at blocks order (suc i) ≡ place_at blocks order i + length (first_stretch blocks (drop i order))
place-suc blocks [] i below = absurd (omega (arith, below))
place-suc blocks (n ∷ []) zero below = omega arith
place-suc blocks (n ∷ m ∷ ns) zero below = omega arith
place-suc blocks (n ∷ ns) (suc i) below = omega (arith, place-suc blocks ns i (omega (arith, below)))

pub place-more : (blocks : List Block) (order : List ℕ) (i : ℕ) → i < length order → place_at blocks order (i + 1) ≡ place_at blocks order i + length (first_stretch blocks (drop i order))
place-more blocks order i below = ap (place_at blocks order) (omega arith) ∙ place-suc blocks order i below

-- behind the last position
pub place-length : (blocks : List Block) (order : List ℕ) → place_at blocks order (length order) ≡ length (order_code blocks order)
place-length blocks [] = refl
place-length blocks (n ∷ ns) =
    ap (λ k. length (first_stretch blocks (n ∷ ns)) + k) (place-length blocks ns)
    ∙ sym (length-append (first_stretch blocks (n ∷ ns)) (order_code blocks ns))
    ∙ ap length (sym (order_code-cons blocks n ns))

-- what stands at each position, and nothing more, is the code of the order
pub code-from_stands : (blocks : List Block) (order : List ℕ) (code : List Instruction) → ((i : ℕ) → i < length order → StandsAt blocks code order i) → length code ≤ length (order_code blocks order) → code ≡ order_code blocks order
code-from_stands blocks [] code stands short = nil_from_length code (omega (arith, short))
code-from_stands blocks (n ∷ ns) code stands short =
    let front = first_stretch blocks (n ∷ ns) in
    let first = stands 0 (omega arith) in
    let behind : (i : ℕ) → i < length ns → StandsAt blocks first.0 ns i =
    λ i below.
    let later = stands (suc i) (omega (arith, below)) in
    let skipped : drop (length front + place_at blocks ns i) code ≡ drop (place_at blocks ns i) first.0 =
    sym (drop-drop (place_at blocks ns i) (length front) code) ∙ ap (drop (place_at blocks ns i)) (ap (drop (length front)) first.1 ∙ drop_at front first.0 (length front) refl) in
    (later.0, sym skipped ∙ later.1) in
    let whole = ap length (order_code-cons blocks n ns) ∙ length-append front (order_code blocks ns) in
    let here = ap length first.1 ∙ length-append front first.0 in
    let rest = code-from_stands blocks ns first.0 behind (omega (arith, short, whole, here)) in
    first.1 ∙ ap (λ is. front ++ is) rest ∙ sym (order_code-cons blocks n ns)

-- behind its place stands the code of what is left of the order
drop-place : (blocks : List Block) (order : List ℕ) (i : ℕ) → i < length order → drop (place_at blocks order i) (order_code blocks order) ≡ order_code blocks (drop i order)
drop-place blocks [] i below = absurd (omega (arith, below))
drop-place blocks (n ∷ ns) zero below = refl
drop-place blocks (n ∷ ns) (suc i) below =
    let front = first_stretch blocks (n ∷ ns) in
    sym (drop-drop (place_at blocks ns i) (length front) (order_code blocks (n ∷ ns)))
    ∙ ap (drop (place_at blocks ns i)) (ap (drop (length front)) (order_code-cons blocks n ns) ∙ drop_at front (order_code blocks ns) (length front) refl)
    ∙ drop-place blocks ns i (omega (arith, below))

begins : (blocks : List Block) (order : List ℕ) → BeginsWith (order_code blocks order) (first_stretch blocks order)
begins blocks [] = ([], refl)
begins blocks (n ∷ ns) = (order_code blocks ns, order_code-cons blocks n ns)

-- in the code of the order each stretch stands at its place
pub code-stands : (blocks : List Block) (order : List ℕ) (i : ℕ) → i < length order → StandsAt blocks (order_code blocks order) order i
code-stands blocks order i below =
    let b = begins blocks (drop i order) in
    (b.0, drop-place blocks order i below ∙ b.1)

pub place-zero : (blocks : List Block) (order : List ℕ) → place_at blocks order 0 ≡ 0
place-zero blocks [] = refl
place-zero blocks (n ∷ ns) = refl
