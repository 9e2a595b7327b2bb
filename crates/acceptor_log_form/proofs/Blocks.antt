-- Blocks of records, one behind the other, and what they are read as.
use Rattle.std.proofs.Common.{◌≡◌, ◌≢◌, ℕ, zero, suc, cond, List, [], ◌∷◌, ◌++◌, drop, Some, refl, sym, ap, ◌∙◌, append_assoc, append-nil}
use Rattle.std.specs.List.{AllByRecursion}
use Rattle.std.specs.Prelude.{All}
use Rattle.std.proofs.lemmas.Bool.{ne_eqb}
use Rattle.std.proofs.lemmas.List.{drop_at}
use Rattle.std.proofs.lemmas.List.Elements.{recursion_from_All}
use Rattle.acceptor_log_form.specs.declared.record.Record.{Record}
use Rattle.acceptor_log_form.specs.Text.{block_text, blocks, Fits, StandsBehind}
use Rattle.acceptor_log_form.specs.Reading.{block_size, first_record, in_front, records_behind}
use Rattle.acceptor_log_form.proofs.Bodies.{block_size-text, first_record-text}

-- one record more
pub blocks-push : (rs : List Record) (r : Record) → blocks (rs ++ r ∷ []) ≡ blocks rs ++ (1 ∷ block_text r)
blocks-push [] r = ap (λ (l : List ℕ). 1 ∷ l) (append-nil (block_text r))
blocks-push (x ∷ rs) r = ap (λ (l : List ℕ). 1 ∷ l) (ap (λ (l : List ℕ). block_text x ++ l) (blocks-push rs r) ∙ sym (append_assoc (block_text x) (blocks rs) (1 ∷ block_text r)))

-- and what stands behind it
pub blocks-push_rest : (rs : List Record) (r : Record) (rest : List ℕ) → blocks (rs ++ r ∷ []) ++ rest ≡ blocks rs ++ 1 ∷ (block_text r ++ rest)
blocks-push_rest rs r rest = ap (λ (l : List ℕ). l ++ rest) (blocks-push rs r) ∙ append_assoc (blocks rs) (1 ∷ block_text r) rest

-- bytes that are skipped do not count
pub records_behind-drop : (n : ℕ) (bytes : List ℕ) → records_behind n bytes ≡ records_behind 0 (drop n bytes)
records_behind-drop zero bytes = refl
records_behind-drop (suc n) [] = refl
records_behind-drop (suc n) (b ∷ bytes) = records_behind-drop n bytes

-- a block behind an open gate is its record, and what follows
pub records_behind-block : (r : Record) (rest : List ℕ) → Fits r → records_behind 0 (1 ∷ (block_text r ++ rest)) ≡ in_front (Some r) (records_behind 0 rest)
records_behind-block r rest fits =
    let bytes = block_text r ++ rest in
    let behind : records_behind (block_size bytes) bytes ≡ records_behind 0 rest =
    records_behind-drop (block_size bytes) bytes ∙ ap (λ (l : List ℕ). records_behind 0 l) (drop_at (block_text r) rest (block_size bytes) (sym (block_size-text r rest fits))) in
    ap (λ o. in_front o (records_behind (block_size bytes) bytes)) (first_record-text r rest fits) ∙ ap (λ o. in_front (Some r) o) behind

-- a closed gate ends the list
pub closed_gate : (gate : ℕ) (bytes : List ℕ) → gate ≢ 1 → records_behind 0 (gate ∷ bytes) ≡ Some []
closed_gate gate bytes closed =
    ap (λ t. cond t (in_front (first_record bytes) (records_behind (block_size bytes) bytes)) (Some [])) (ne_eqb gate 1 closed)

some_behind : (rs ys : List Record) (rest : List ℕ) → AllByRecursion Fits rs → records_behind 0 rest ≡ Some ys → records_behind 0 (blocks rs ++ rest) ≡ Some (rs ++ ys)
some_behind [] ys rest fit is = is
some_behind (r ∷ rs) ys rest fit is =
    ap (λ (l : List ℕ). records_behind 0 (1 ∷ l)) (append_assoc (block_text r) (blocks rs) rest)
    ∙ records_behind-block r (blocks rs ++ rest) fit.0
    ∙ ap (λ o. in_front (Some r) o) (some_behind rs ys rest fit.1 is)

-- blocks are their records, and then what stands behind them
pub records_behind-blocks : (rs ys : List Record) (rest : List ℕ) → All Fits rs → records_behind 0 rest ≡ Some ys → records_behind 0 (blocks rs ++ rest) ≡ Some (rs ++ ys)
records_behind-blocks rs ys rest fit is = some_behind rs ys rest (recursion_from_All Fits rs fit) is

-- what bytes stand for is what they are read as
pub records_behind-stands : (rs : List Record) (bytes : List ℕ) → StandsBehind rs bytes → records_behind 0 bytes ≡ Some rs
records_behind-stands rs bytes stands =
    ap (λ (l : List ℕ). records_behind 0 l) stands.text
    ∙ records_behind-blocks rs [] (stands.gate ∷ stands.behind) stands.fits (closed_gate stands.gate stands.behind stands.closed)
    ∙ ap (λ (l : List Record). Some l) (append-nil rs)
