-- The states that stand for what follows: below an instruction, and at a label.
use Rattle.std.proofs.Common.{◌≡◌, ℕ, ◌+◌, true, length, Some, refl, sym, ap, subst, ◌∙◌}
use Rattle.std.specs.Prelude.{slice_get}
use Rattle.lang_base.specs.declared.program.Program.{Program}
use Rattle.machine.specs.Data.{Data}
use Rattle.machine.specs.Frames.{State}
use Rattle.linear_language.specs.declared.instruction.Instruction.{Instruction}
use Rattle.linear_language.specs.Function.{FunctionData}
use Rattle.linear_language.specs.Labels.{place_of}
use Rattle.x86_state.specs.State.{State as Native}
use Rattle.native_lowering_definition.specs.Blocks.{block}
use Rattle.native_lowering_definition.specs.Facts.{after}
use Rattle.native_lowering_definition.specs.Frames.{frame_of}
use Rattle.native_lowering_definition.specs.Layout.{facts_in, place_in}
use Rattle.native_lowering_definition.specs.Lowering.{names, around_of}
use Rattle.native_lowering_definition.specs.Operating.{Block}
use Rattle.native_lowering_relation.specs.Knowing.{IsSo}
use Rattle.native_lowering_relation.specs.Related.{Related}
use Rattle.native_lowering_relation.specs.Standing.{Held, Holds, laid, put_back}
use Rattle.native_lowering_relation.specs.Waiting.{Wait}
use Rattle.native_lowering_relation.proofs.Kept.{SameOr}
use Rattle.native_lowering_relation.proofs.Knowing.{nothing_so}
use Rattle.native_lowering_runs.proofs.Places.{known_below, place_below, nothing_known}
use Rattle.native_lowering_runs.proofs.Saved.{callers_wait}

module _ (p : Program FunctionData) (s : State) (t : Native) (related : Related p s t) where
  abbrev f : FunctionData
  f = related.named.function

  -- what an instruction that goes on leaves: these data of Linear, this native state, this frame
  pub record Leaves (i : Instruction) (b : Block) (here : Data) (u : Native) (held : Held) : Type 0 where
    pub at : slice_get f.code s.place ≡ Some i
    pub is_it : block (around_of p f) (facts_in f s.place) i ≡ b
    pub function : u.function ≡ t.function
    pub place : u.place ≡ t.place + length b
    pub globals : u.globals ≡ here.globals
    pub output : u.output ≡ here.output
    pub stands : u.stack ≡ laid held related.back related.under
    pub saved : held.saved ≡ related.held.saved
    pub holds : Holds f here.registers here.slots u.registers held
    pub known : IsSo (after i (facts_in f s.place)) here.registers u.flags u.registers
    pub kept : SameOr (frame_of f).saved t.registers u.registers

  pub goes_below : (i : Instruction) (b : Block) (here : Data) (u : Native) (held : Held) → Leaves i b here u held → Related p (record s { place = s.place + 1; here = here }) u
  goes_below i b here u held leaves = record {
    named = related.named;
    held = held;
    back = related.back;
    under = related.under;
    there = related.there;
    function = leaves.function ∙ related.function;
    place = place_below p f s.place (s.place + 1) u.place i b leaves.at refl leaves.is_it (leaves.place ∙ ap (λ n. n + length b) related.place);
    globals = leaves.globals;
    output = leaves.output;
    known = known_below f s.place (s.place + 1) i here.registers u.flags u.registers leaves.at refl leaves.holds.eight leaves.known;
    holds = leaves.holds;
    stands = leaves.stands;
    callers = subst (λ ws. Wait p s.callers related.back (put_back (frame_of f).saved ws u.registers) related.under) (sym leaves.saved)
        (callers_wait p s.callers related.back (frame_of f).saved related.held.saved t.registers u.registers related.under
        related.holds.thirteen leaves.holds.thirteen related.holds.full.saved leaves.kept related.callers);
  }

  -- at a label that an instruction names
  pub goes_to_label : (i : Instruction) (label m : ℕ) (u : Native) → slice_get f.code s.place ≡ Some i → names label i ≡ true → place_of label f.code ≡ Some m
      → u ≡ record t { place = place_in p f m; flags = u.flags } → Related p (record s { place = m; here = s.here }) u
  goes_to_label i label m u at named there is_it = record {
    named = related.named;
    held = related.held;
    back = related.back;
    under = related.under;
    there = related.there;
    function = ap (λ (x : Native). x.function) is_it ∙ related.function;
    place = ap (λ (x : Native). x.place) is_it;
    globals = ap (λ (x : Native). x.globals) is_it ∙ related.globals;
    output = ap (λ (x : Native). x.output) is_it ∙ related.output;
    known = subst (λ facts. IsSo facts s.here.registers u.flags u.registers) (sym (nothing_known f s.place m label i at named there))
        (nothing_so s.here.registers u.flags u.registers related.holds.eight);
    holds = subst (λ ws. Holds f s.here.registers s.here.slots ws related.held) (sym (ap (λ (x : Native). x.registers) is_it)) related.holds;
    stands = ap (λ (x : Native). x.stack) is_it ∙ related.stands;
    callers = subst (λ ws. Wait p s.callers related.back (put_back (frame_of f).saved related.held.saved ws) related.under) (sym (ap (λ (x : Native). x.registers) is_it)) related.callers;
  }
