-- Each step is matched, and each end.
use Rattle.std.proofs.Common.{◌≡◌, ℕ, ◌+◌, None, sym, ap, ◌∙◌}
use Rattle.lang_base.specs.Keeps.{Keeps}
use Rattle.lang_base.specs.Machine.{Goes, Ends, Leads, Matches}
use Rattle.lang_base.specs.Machine as machine
use Rattle.lang_base.specs.declared.program.Program.{Program}
use Rattle.lang_base.specs.declared.shown.Shown.TheVariants.{Ended}
use Rattle.lang_base.proofs.Simulation.{keeps-matches}
use Rattle.machine.specs.Frames.{State, printed}
use Rattle.linear_language.specs.Function.{FunctionData, InstructionFits}
use Rattle.linear_language.specs.Meaning.{next}
use Rattle.linear_language.specs.declared.instruction.Instruction.TheVariants.{Return}
use Rattle.x86_state.specs.State.{State as Native}
use Rattle.native_lowering_definition.specs.Lowering.{lowered}
use Rattle.native_lowering_relation.specs.Related.{Related}
use Rattle.native_lowering_walks.specs.Seen.{seen_next, output_of}
use Rattle.native_lowering_walks.proofs.Growing.{grows}
use Rattle.native_lowering_walks.proofs.Seen.{leads_steps, ends_steps}
use Rattle.native_lowering_runs.specs.Reaching.{AreFunctions}
use Rattle.native_lowering_runs.proofs.Lists.{all_at}
use Rattle.native_lowering_calls.proofs.Returning.{return_ends}
use Rattle.native_lowering_ranges.specs.InRange.{InRange}
use Rattle.native_lowering_ranges.proofs.Cased.{ended}
use Rattle.native_lowering_ranges.proofs.Kept.{keeps_range}
use Rattle.native_lowering_keeping.proofs.Stepping.{stepped}

module _ (p : Program FunctionData) (range : AreFunctions p) where
  -- a state stands for one of Linear that is in range
  abbrev pub Stands : State → Native → Type 0
  Stands s t = Related p s t × InRange p.globals s

  abbrev next' : Native → machine.Next Native
  next' = seen_next (lowered p).functions None

  goes : (s s' : State) (t : Native) → Stands s t → next p.functions s ≡ Goes s' → (t' : Native) × Stands s' t' × Leads next' output_of t t'
  goes s s' t stands e =
      let one = stepped p range s t stands.0 stands.1 s' e in
      let named = stands.0.named in (
        one.to,
        (one.related, keeps_range p.globals p.functions named s s' stands.0.there (range s.function named stands.0.there) stands.1 e),
        leads_steps (lowered p).functions None one.more t one.to one.go,
      )

  ends : (s : State) (t : Native) (w : ℕ) → Stands s t → next p.functions s ≡ Ends w → (j : ℕ) × (machine.shows next' output_of j t ≡ record { shown = Ended w; output = printed s })
  ends s t w stands e =
      let related = stands.0 in
      let f = related.named.function in
      let last = ended p.functions related.named s w related.there e in
      let fits = all_at (InstructionFits f.slots) f.code s.place (Return last.value) (range s.function related.named related.there).each last.at in
      let out = return_ends p s t related last.value last.at fits w last.alone last.gives in
      (out.count + 1, ends_steps (lowered p).functions None out.count w t out.to out.go out.ends ∙ ap (λ o. record { shown = Ended w; output = o }) out.output)

  matches : Matches (next p.functions) printed next' output_of Stands
  matches = record {
    goes = goes;
    ends = ends;
    same = λ s t stands. sym stands.0.output;
  }

  pub keeps_stands : (s : State) (t : Native) → Stands s t → Keeps (λ n. machine.shows (next p.functions) printed n s) (λ n. machine.shows next' output_of n t)
  keeps_stands s t stands = keeps-matches (next p.functions) printed next' output_of Stands matches (grows (lowered p).functions None) s t stands
