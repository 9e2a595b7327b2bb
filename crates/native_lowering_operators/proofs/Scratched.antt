-- Registers of which only scratch ones were written.
use Rattle.std.proofs.Common.{◌≡◌, ◌≢◌, ℕ, ◌<◌, ◌≤◌, List, length, Option, refl, ap, ◌∙◌, arith}
use Rattle.std.specs.Prelude.{slice_index, slice_set}
use Rattle.std.proofs.lemmas.List.{get_or-set_other}
use Rattle.linear_language.specs.Function.{FunctionData}
use Rattle.native_lowering_definition.specs.Frames.{frame_of}
use Rattle.native_lowering_relation.specs.Standing.{Held, Holds}
use Rattle.native_lowering_relation.proofs.Kept.{SameOr}
use Rattle.native_lowering_runs.proofs.Held.{scratch_written}
use Rattle.native_lowering_runs.proofs.Saved.{or_same, or_then, or_scratch}

-- the function has its words in these registers as in the first ones, and its caller's are kept
pub record IsScratched (f : FunctionData) (registers slots : List (Option ℕ)) (held : Held) (words words' : List ℕ) : Type 0 where
  pub holds : Holds f registers slots words' held
  pub kept : SameOr (frame_of f).saved words words'
  pub same : (r : ℕ) → r < 8 → slice_index words' r ≡ slice_index words r

module _ (f : FunctionData) (registers slots : List (Option ℕ)) (held : Held) (words : List ℕ) where
  pub not_scratched : Holds f registers slots words held → IsScratched f registers slots held words words
  not_scratched holds = record { holds = holds; kept = or_same (frame_of f).saved words words refl; same = λ r h. refl }

  pub one_scratched : (words' : List ℕ) (n w : ℕ) → 8 ≤ n → IsScratched f registers slots held words words' → IsScratched f registers slots held words (slice_set words' n w)
  one_scratched words' n w high so = record {
    holds = scratch_written f registers slots words' held so.holds n w high;
    kept = or_then (frame_of f).saved words words' (slice_set words' n w) so.kept (or_scratch (frame_of f).saved words' n w high);
    same = λ r h. get_or-set_other words' n r w 0 (λ e. omega (arith, e, h, high)) ∙ so.same r h;
  }
