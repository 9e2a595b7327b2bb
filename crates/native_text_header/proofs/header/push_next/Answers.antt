-- Why `push_next` meets its contract, and its loop keeps the invariant.
use Rattle.std.proofs.Common.{◌≡◌, ℕ, zero, suc, ◌+◌, ◌<◌, List, [], ◌∷◌, ◌++◌, length, take, sym, ap, ◌∙◌, arith, codes, append_assoc, append-nil}
use Rattle.std.specs.List.{flat_map}
use Rattle.std.proofs.lemmas.Result.{err_from_is_err_and}
use Rattle.lang_base.proofs.Beginnings.{IsBeginningOf-trans}
use Rattle.locations.specs.declared.location.Location.{Location}
use Rattle.native_text_header.specs.Header.{next_parameter}
use Rattle.native_text_header.proofs.header.push_next.Goals as goal

-- each parameter has the same text
one_more : (xs : List Location) (k : ℕ) → k < length xs → flat_map next_parameter (take k xs) ++ codes ", unsigned" ≡ flat_map next_parameter (take (suc k) xs)
one_more [] k below = absurd (omega (arith, below))
one_more (x ∷ xs) zero below = sym (append-nil (codes ", unsigned"))
one_more (x ∷ xs) (suc k) below =
    append_assoc (codes ", unsigned") (flat_map next_parameter (take k xs)) (codes ", unsigned")
    ∙ ap (λ (l : List ℕ). codes ", unsigned" ++ l) (one_more xs k (omega (arith, below)))

-- what is there so far begins with what was there
pub returns-in_err-push_parameter : goal.returns-in_err-push_parameter
returns-in_err-push_parameter c =
    let p = err_from_is_err_and c.from_residual.result c.from_residual.ensures.1 in
    rw p.1 (IsBeginningOf-trans _ _ _ (_, sym c.loop-parameter.invariant) c.in_err-push_parameter.ensures)

pub loop-parameter-preserved : goal.loop-parameter-preserved
loop-parameter-preserved c =
    let old = c.args.out.now.items in
    let xs = c.args.parameters.now in
    let k = c.loop-parameter.parameter-index in
    let one : suc k ≡ k + 1 = omega arith in
    c.in_ok-push_parameter.ensures ∙ ap (λ (l : List ℕ). l ++ codes ", unsigned") c.loop-parameter.invariant
    ∙ append_assoc old (flat_map next_parameter (take k xs)) (codes ", unsigned")
    ∙ ap (λ (l : List ℕ). old ++ l) (one_more xs k c.loop-parameter-test.true ∙ ap (λ (n : ℕ). flat_map next_parameter (take n xs)) one)
