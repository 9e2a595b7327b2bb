-- A label is one step, and so is a jump.
use Rattle.std.proofs.Common.{◌≡◌, ℕ, ◌+◌, Bool, true, false, [], ◌∷◌, Option, Some, refl, ap, ◌∙◌}
use Rattle.std.specs.Prelude.{slice_get, if◌then◌else◌}
use Rattle.std.specs.Option.{option_map, is_some}
use Rattle.lang_base.specs.declared.program.Program.{Program}
use Rattle.machine.specs.Frames.{State}
use Rattle.linear_language.specs.declared.instruction.Instruction.TheVariants as l
use Rattle.linear_language.specs.Function.{FunctionData}
use Rattle.linear_language.specs.Labels.{place_of as linear_place_of}
use Rattle.x86_syntax.specs.Labels.{place_of}
use Rattle.x86_syntax.specs.declared.condition.Condition.{Condition}
use Rattle.x86_syntax.specs.declared.instruction.Instruction.TheVariants.{Label, Jump, JumpIf, Stop, StopIf}
use Rattle.x86_state.specs.State.{State as Native, Goes, Stops}
use Rattle.x86.specs.Comparing.{asked}
use Rattle.x86.specs.Jumping.{jumps as native_jumps, takes_if}
use Rattle.x86.specs.Meaning.{instruction_step}
use Rattle.native_lowering_definition.specs.Blocks.{has_label, jumps, jumps_if}
use Rattle.native_lowering_definition.specs.Frames.{frame_of}
use Rattle.native_lowering_definition.specs.Layout.{place_in}
use Rattle.native_lowering_definition.specs.Lowering.{around_of, lowered, code_of}
use Rattle.native_lowering_layout.proofs.Labels.{label_in}
use Rattle.native_lowering_relation.specs.Related.{Related}
use Rattle.native_lowering_walks.specs.Walks.{then as onward, walks}
use Rattle.native_lowering_runs.specs.Reaching.{Reaches}
use Rattle.native_lowering_runs.proofs.Below.{goes_below, goes_to_label}
use Rattle.native_lowering_runs.proofs.Blocks.{block_runs}
use Rattle.native_lowering_runs.proofs.Places.{goto_names}
use Rattle.native_lowering_runs.proofs.Saved.{or_same}

module _ (p : Program FunctionData) (room : Option ℕ) (f : FunctionData) where
  there_label : (label m : ℕ) → linear_place_of label f.code ≡ Some m → has_label (around_of p f) label ≡ true
  there_label label m there = ap is_some there

  pub native_label : (label m : ℕ) → linear_place_of label f.code ≡ Some m → place_of label (code_of p f) ≡ Some (place_in p f m)
  native_label label m there = label_in p f label ∙ ap (option_map (place_in p f)) there

  pub jump_goes : (label m : ℕ) (t : Native) → linear_place_of label f.code ≡ Some m
      → instruction_step (lowered p).functions room (code_of p f) t (Some (jumps (around_of p f) label)) ≡ Goes (record t { place = place_in p f m })
  jump_goes label m t there =
      ap (λ b. instruction_step (lowered p).functions room (code_of p f) t (Some (if b then Jump label else Stop))) (there_label label m there)
      ∙ ap (λ o. native_jumps o t) (native_label label m there)

  -- a jump that is taken, since the condition holds of what was compared last
  pub taken_goes : (condition : Condition) (label m : ℕ) (t : Native) → asked condition t ≡ Some true → linear_place_of label f.code ≡ Some m
      → instruction_step (lowered p).functions room (code_of p f) t (Some (jumps_if (around_of p f) condition label)) ≡ Goes (record t { place = place_in p f m })
  taken_goes condition label m t holds there =
      ap (λ b. instruction_step (lowered p).functions room (code_of p f) t (Some (if b then JumpIf condition label else StopIf condition))) (there_label label m there)
      ∙ ap (λ o. takes_if o (native_jumps (place_of label (code_of p f)) t) t) holds
      ∙ ap (λ o. native_jumps o t) (native_label label m there)

  not_taken : (b : Bool) (condition : Condition) (label : ℕ) (t : Native) → asked condition t ≡ Some false
      → instruction_step (lowered p).functions room (code_of p f) t (Some (if b then JumpIf condition label else StopIf condition)) ≡ Goes (record t { place = t.place + 1 })
  not_taken true condition label t fails = ap (λ o. takes_if o (native_jumps (place_of label (code_of p f)) t) t) fails
  not_taken false condition label t fails = ap (λ o. takes_if o Stops t) fails

  -- one that is not taken, whether the label is there or not
  pub below_goes : (condition : Condition) (label : ℕ) (t : Native) → asked condition t ≡ Some false
      → instruction_step (lowered p).functions room (code_of p f) t (Some (jumps_if (around_of p f) condition label)) ≡ Goes (record t { place = t.place + 1 })
  below_goes condition label t fails = not_taken (has_label (around_of p f) label) condition label t fails

module _ (p : Program FunctionData) (room : Option ℕ) (s : State) (t : Native) (related : Related p s t) where
  pub label_reaches : (label : ℕ) → slice_get related.named.function.code s.place ≡ Some (l.Label label) → Reaches p room (record s { place = s.place + 1; here = s.here }) t
  label_reaches label at =
      let f = related.named.function in
      let i = l.Label label in
      let u = record t { place = t.place + 1 } in
      record {
        more = 0;
        to = u;
        go = block_runs p related.named room s.place i (Label label ∷ []) t (Goes u) (ap (slice_get p.functions) related.function ∙ related.there) at related.place refl tt refl;
        related = goes_below p s t related i (Label label ∷ []) s.here u related.held (record {
          at = at;
          is_it = refl;
          function = refl;
          place = refl;
          globals = related.globals;
          output = related.output;
          stands = related.stands;
          saved = refl;
          holds = related.holds;
          known = related.known;
          kept = or_same (frame_of f).saved t.registers t.registers refl;
        });
      }

  pub goto_reaches : (label m : ℕ) → slice_get related.named.function.code s.place ≡ Some (l.Goto label) → linear_place_of label related.named.function.code ≡ Some m
      → Reaches p room (record s { place = m; here = s.here }) t
  goto_reaches label m at there =
      let f = related.named.function in
      let i = l.Goto label in
      let u = record t { place = place_in p f m } in
      record {
        more = 0;
        to = u;
        go = block_runs p related.named room s.place i (jumps (around_of p f) label ∷ []) t (Goes u) (ap (slice_get p.functions) related.function ∙ related.there) at related.place refl tt
            (ap (λ x. onward x (walks (lowered p).functions room (code_of p f) [])) (jump_goes p room f label m t there));
        related = goes_to_label p s t related i label m u at (goto_names label) there refl;
      }
