-- A block that leaves a word in the register that its instruction names, behind which this is known of the flags.
use Rattle.std.proofs.Common.{◌≡◌, ℕ, suc, ◌+◌, ◌<◌, List, [], ◌∷◌, length, Option, Some, None, refl, sym, ap, subst, ◌∙◌, arith}
use Rattle.std.specs.Prelude.{slice_get, slice_index, slice_set}
use Rattle.lang_base.specs.declared.program.Program.{Program}
use Rattle.locations.specs.declared.location.Location.TheVariants.{InRegister}
use Rattle.machine.specs.Data.{Data, value_at, put_at}
use Rattle.machine.specs.Frames.{State}
use Rattle.linear_language.specs.declared.instruction.Instruction.{Instruction}
use Rattle.linear_language.specs.Function.{FunctionData}
use Rattle.x86_syntax.specs.declared.condition.Condition.{Condition}
use Rattle.x86_state.specs.State.{State as Native, Goes}
use Rattle.native_lowering_definition.specs.Blocks.{block}
use Rattle.native_lowering_definition.specs.Facts.{Facts, after, left}
use Rattle.native_lowering_definition.specs.Frames.{frame_of, target_of}
use Rattle.native_lowering_definition.specs.Layout.{facts_in}
use Rattle.native_lowering_definition.specs.Lowering.{around_of, lowered, code_of}
use Rattle.native_lowering_definition.specs.Operating.{Block}
use Rattle.native_lowering_relation.specs.Knowing.{Answers, IsSo}
use Rattle.native_lowering_relation.specs.Related.{Related}
use Rattle.native_lowering_relation.specs.Standing.{Held}
use Rattle.native_lowering_relation.proofs.Agreeing.{agrees_itself}
use Rattle.native_lowering_relation.proofs.Knowing.{so_left}
use Rattle.native_lowering_walks.specs.Walks.{steps, walks, GoStraight}
use Rattle.native_lowering_runs.specs.Reaching.{Reaches}
use Rattle.native_lowering_runs.proofs.Below.{goes_below}
use Rattle.native_lowering_runs.proofs.Blocks.{block_runs}
use Rattle.native_lowering_runs.proofs.Held.{register_written}
use Rattle.native_lowering_runs.proofs.Saved.{or_written, or_then, written_saved, target_written}
use Rattle.native_lowering_operators.proofs.Scratched.{IsScratched}

module _ (p : Program FunctionData) (room : Option ℕ) (s : State) (t : Native) (related : Related p s t) where
  abbrev f : FunctionData
  f = related.named.function

  -- the native state behind it, where these registers were written before
  abbrev pub left_with : ℕ → Option (ℕ × ℕ) → List ℕ → ℕ → ℕ → Native
  left_with count flags words d w = record t { place = t.place + count; registers = slice_set words d w; flags = flags }

  -- Linear's data behind it
  abbrev pub written_here : ℕ → ℕ → Data
  written_here d w = put_at (InRegister d) (Some w) s.here

  -- the registers, of which only scratch ones were written
  abbrev pub Scratch : List ℕ → Type 0
  Scratch words = IsScratched f s.here.registers s.here.slots related.held t.registers words

  pub record Writes (i : Instruction) (b : Block) (more d w : ℕ) (flag : Option (ℕ × Condition)) (flags : Option (ℕ × ℕ)) (words : List ℕ) : Type 0 where
    pub at : slice_get f.code s.place ≡ Some i
    pub is_it : block (around_of p f) (facts_in f s.place) i ≡ b
    pub count : length b ≡ suc more
    pub target : target_of i ≡ Some (InRegister d)
    pub leaves : after i (facts_in f s.place) ≡ left d flag (facts_in f s.place)
    pub straight : GoStraight b
    pub scratch : Scratch words
    pub answers : Answers flag flags (slice_set words d w)
    pub walk : walks (lowered p).functions room (code_of p f) b t ≡ Goes (left_with (suc more) flags words d w)

  pub writes_reaches : (i : Instruction) (b : Block) (more d w : ℕ) (flag : Option (ℕ × Condition)) (flags : Option (ℕ × ℕ)) (words : List ℕ)
      → Writes i b more d w flag flags words → Reaches p room (record s { place = s.place + 1; here = written_here d w }) t
  writes_reaches i b more d w flag flags words writes =
      let u = left_with (suc more) flags words d w in
      record {
        more = more;
        to = u;
        go = subst (λ n. steps (lowered p).functions room n t ≡ Goes u) writes.count
            (block_runs p related.named room s.place i b t (Goes u) (ap (slice_get p.functions) related.function ∙ related.there) writes.at related.place writes.is_it writes.straight writes.walk);
        related = goes_below p s t related i b (written_here d w) u related.held (record {
          at = writes.at;
          is_it = writes.is_it;
          function = refl;
          place = ap (λ n. t.place + n) (sym writes.count);
          globals = related.globals;
          output = related.output;
          stands = related.stands;
          saved = refl;
          holds = register_written f s.here.registers s.here.slots words related.held writes.scratch.holds d w (Some w) (agrees_itself w);
          known = subst (λ facts. IsSo facts (slice_set s.here.registers d (Some w)) flags (slice_set words d w)) (sym writes.leaves)
              (so_left (facts_in f s.place) s.here.registers t.flags flags t.registers (slice_set words d w) d (Some w) flag related.known writes.answers);
          kept = or_then (frame_of f).saved t.registers words (slice_set words d w) writes.scratch.kept
              (or_written (frame_of f).saved words d w (written_saved f d (target_written f s.place d i writes.at writes.target)));
        });
      }
