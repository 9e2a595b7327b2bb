-- The baseline of the pass: what is laid out by the nodes that are reached, the entry first and the others rising.
use Rattle.std.specs.Prelude.{ℕ, List}
use Rattle.ltl.specs.Function as ltl
use Rattle.linear_language.specs.Function as linear
use Rattle.linearize_check_layout.specs.Reach.{IsRising}
use Rattle.linearize_check_proof.specs.Rules.{IsLaidOut}

abbrev pub IsBaseline : ltl.FunctionData → linear.FunctionData → List ℕ → Type 0
IsBaseline input output order = IsRising input order × IsLaidOut input output order
