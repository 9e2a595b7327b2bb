-- Each status of `judge` is at most 7.
use Rattle.std.specs.Prelude.{ℕ, zero, suc, ◌≤◌}
use Rattle.std.proofs.Common.{arith}
use Rattle.lang_base.specs.declared.errors.FormError.{FormError}
use Rattle.lang_base.specs.declared.errors.FormError.TheVariants as form
use Rattle.cfarm_output.specs.Lines.{form_status_of}
use Rattle.farm_nodes_source.specs.Told as source
use Rattle.cfarm_judge.specs.Lines.{status_of, unless_memory}
use Rattle.cfarm_judge.specs.declared.error.JudgeError.{JudgeError}
use Rattle.cfarm_judge.specs.declared.error.JudgeError.TheVariants as judge

unless : (n : ℕ) → unless_memory n 1 ≤ 7
unless zero = omega arith
unless (suc zero) = omega arith
unless (suc (suc n)) = omega arith

form_in_table : (fault : FormError) → form_status_of fault ≤ 7
form_in_table form.NoMemory = omega arith
form_in_table form.Short = omega arith
form_in_table form.BadTag = omega arith
form_in_table form.NotCanonical = omega arith
form_in_table form.TooLarge = omega arith

pub in_table : (fault : JudgeError) → status_of fault ≤ 7
in_table judge.NoMemory = omega arith
in_table (judge.Source fault) = unless (source.number_of fault)
in_table judge.NoFunction = omega arith
in_table (judge.Form fault) = form_in_table fault
in_table judge.Unchained = omega arith
in_table (judge.Refused pass fault) = omega arith
in_table judge.Write = omega arith
