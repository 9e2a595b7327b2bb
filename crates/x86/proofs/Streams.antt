-- Words drawn over and over.
use Rattle.std.proofs.Common.{◌≡◌, ℕ, ◌+◌, ◌%◌, List, length, ap, ◌∙◌, arith}
use Rattle.std.proofs.Math.Path.{fun_ext}
use Rattle.std.specs.Prelude.{slice_index}
use Rattle.std.proofs.Math.Nat.{mod-add-mod}
use Rattle.x86_state.specs.State.{rest_of}
use Rattle.x86.specs.Runs.{stream_of}

-- behind a word stand those behind it
pub drawn_on : (words : List ℕ) (at : ℕ) → stream_of words (at % length words + 1) ≡ rest_of (stream_of words at)
drawn_on words at = fun_ext (λ k.
    let e : at % length words + 1 + k ≡ at % length words + (k + 1) = omega arith in
    ap (λ n. slice_index words (n % length words)) e ∙ ap (slice_index words) (mod-add-mod at (length words) (k + 1)))
