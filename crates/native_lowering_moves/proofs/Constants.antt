-- A constant is one step.
use Rattle.std.proofs.Common.{◌≡◌, ℕ, ◌+◌, ◌<◌, List, [], ◌∷◌, Option, Some, refl, ap, ◌∙◌}
use Rattle.std.specs.Prelude.{slice_get, slice_set}
use Rattle.lang_base.specs.declared.program.Program.{Program}
use Rattle.locations.specs.declared.location.Location.TheVariants.{InRegister}
use Rattle.machine.specs.Data.{Data, put_at}
use Rattle.machine.specs.Frames.{State}
use Rattle.machine.specs.declared.act.Act.TheVariants.{Constant}
use Rattle.linear_language.specs.declared.instruction.Instruction.TheVariants.{Do}
use Rattle.linear_language.specs.Function.{FunctionData}
use Rattle.x86_syntax.specs.declared.instruction.Instruction.TheVariants.{Set}
use Rattle.x86_state.specs.State.{State as Native, Goes}
use Rattle.native_lowering_definition.specs.Frames.{frame_of}
use Rattle.native_lowering_definition.specs.Layout.{facts_in}
use Rattle.native_lowering_definition.specs.Locations.{register_of}
use Rattle.native_lowering_relation.specs.Related.{Related}
use Rattle.native_lowering_relation.proofs.Agreeing.{agrees_itself}
use Rattle.native_lowering_relation.proofs.Knowing.{so_set}
use Rattle.native_lowering_runs.specs.Reaching.{Reaches}
use Rattle.native_lowering_runs.proofs.Below.{goes_below}
use Rattle.native_lowering_runs.proofs.Blocks.{block_runs}
use Rattle.native_lowering_runs.proofs.Held.{register_written}
use Rattle.native_lowering_runs.proofs.Registers.{with_word_at}
use Rattle.native_lowering_runs.proofs.Saved.{or_written, written_saved, target_written}

module _ (p : Program FunctionData) (room : Option ℕ) (s : State) (t : Native) (related : Related p s t) where
  -- the state that a constant leaves
  abbrev set_to : ℕ → ℕ → Native
  set_to target word = record t { place = t.place + 1; registers = slice_set t.registers target word }

  -- and Linear's data
  abbrev set_here : ℕ → ℕ → Data
  set_here target word = put_at (InRegister target) (Some word) s.here

  pub constant_reaches : (target word : ℕ) → slice_get related.named.function.code s.place ≡ Some (Do (Constant target word)) → target < 8
      → Reaches p room (record s { place = s.place + 1; here = set_here target word }) t
  constant_reaches target word at near =
      let f = related.named.function in
      let i = Do (Constant target word) in
      let held = related.held in
      record {
        more = 0;
        to = set_to target word;
        go = block_runs p related.named room s.place i (Set (register_of target) word ∷ []) t (Goes (set_to target word))
            (ap (slice_get p.functions) related.function ∙ related.there) at related.place refl tt
            (ap (λ (ws : List ℕ). Goes (record t { place = t.place + 1; registers = ws })) (with_word_at target word t.registers near));
        related = goes_below p s t related i (Set (register_of target) word ∷ []) (set_here target word) (set_to target word) held (record {
          at = at;
          is_it = refl;
          function = refl;
          place = refl;
          globals = related.globals;
          output = related.output;
          stands = related.stands;
          saved = refl;
          holds = register_written f s.here.registers s.here.slots t.registers held related.holds target word (Some word) (agrees_itself word);
          known = so_set (facts_in f s.place) s.here.registers t.flags t.registers target word (Some word) (Some word) related.known refl;
          kept = or_written (frame_of f).saved t.registers target word (written_saved f target (target_written f s.place target i at refl));
        });
      }
