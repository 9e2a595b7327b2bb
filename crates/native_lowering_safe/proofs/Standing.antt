-- From a state that stands native code comes to one that stands again, or its run is over.
use Rattle.std.proofs.Common.{◌≡◌, ◌⊎◌, ℕ, suc, length, None, refl, sym, ap, ◌∙◌, inl, inr}
use Rattle.lang_base.specs.Machine.{Next, Goes, Ends, Fails}
use Rattle.lang_base.specs.declared.program.Program.{Program}
use Rattle.machine.specs.Frames.{State}
use Rattle.linear_language.specs.Function.{FunctionData, InstructionFits}
use Rattle.linear_language.specs.Meaning.{next}
use Rattle.linear_language.specs.declared.instruction.Instruction.TheVariants.{Return}
use Rattle.x86_state.specs.State.{State as Native}
use Rattle.native_lowering_definition.specs.Lowering.{lowered}
use Rattle.native_lowering_ranges.specs.InRange.{InRange}
use Rattle.native_lowering_ranges.proofs.Cased.{ended}
use Rattle.native_lowering_ranges.proofs.Kept.{keeps_range}
use Rattle.native_lowering_relation.specs.Related.{Related}
use Rattle.native_lowering_runs.specs.Reaching.{AreFunctions}
use Rattle.native_lowering_runs.proofs.Lists.{all_at}
use Rattle.native_lowering_keeping.proofs.Stepping.{stepped}
use Rattle.native_lowering_safe_words.proofs.Functions.{narrow_functions}
use Rattle.native_lowering_safe_words.proofs.Steps.{steps_fit}
use Rattle.native_lowering_safe_stops.specs.Halting.{Halts}
use Rattle.native_lowering_safe_stops.proofs.Ending.{return_halts}
use Rattle.native_lowering_safe.specs.Standing.{Stands, StandsAgain}
use Rattle.native_lowering_safe.proofs.Failing.{fails}
use Rattle.native_lowering_safe.proofs.Filled.{filled_state, filled_related, filled_defined, filled_range}

module _ (p : Program FunctionData) (range : AreFunctions p) (t : Native) (stands : Stands p t) where
  abbrev s : State
  s = filled_state p stands.linear t stands.related

  related : Related p s t
  related = filled_related p stands.linear t stands.related

  in_range : InRange p.globals s
  in_range = filled_range p stands.linear t stands.related (length p.globals) stands.range stands.words

  goes : (s' : State) → next p.functions s ≡ Goes s' → StandsAgain p t
  goes s' e =
      let one = stepped p range s t related in_range s' e in
      record {
        more = one.more;
        to = one.to;
        go = one.go;
        stands = record {
          linear = s';
          related = one.related;
          range = keeps_range p.globals p.functions related.named s s' related.there (range s.function related.named related.there) in_range e;
          words = steps_fit (length p.globals) (lowered p).functions None (narrow_functions p range) (suc one.more) t one.to stands.words one.go;
        };
      }

  ends : (w : ℕ) → next p.functions s ≡ Ends w → Halts (lowered p).functions t
  ends w e =
      let f = related.named.function in
      let last = ended p.functions related.named s w related.there e in
      return_halts p s t related last.value last.at (all_at (InstructionFits f.slots) f.code s.place (Return last.value) (range s.function related.named related.there).each last.at) last.alone

  pub stands_on : StandsAgain p t ⊎ Halts (lowered p).functions t
  stands_on = by (next p.functions s) refl
    where
      by : (x : Next State) → next p.functions s ≡ x → StandsAgain p t ⊎ Halts (lowered p).functions t
      by (Goes s') e = inl (goes s' e)
      by (Ends w) e = inr (ends w e)
      by Fails e =
          inr (fails p range s t related (filled_defined p stands.linear t stands.related) in_range (ap length (sym related.globals) ∙ stands.words.count) e)
