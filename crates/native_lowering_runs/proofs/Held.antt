-- What a function has in registers and slots, once one is written.
use Rattle.std.proofs.Common.{ℕ, ◌≤◌, List, [], Option, None, ◌∙◌, arith}
use Rattle.std.specs.Prelude.{slice_set}
use Rattle.std.proofs.lemmas.List.{length-set}
use Rattle.linear_language.specs.Function.{FunctionData}
use Rattle.native_lowering_definition.specs.Frames.{frame_of}
use Rattle.native_lowering_relation.specs.Agreeing.{Agrees}
use Rattle.native_lowering_relation.specs.Standing.{Held, Holds}
use Rattle.native_lowering_relation.proofs.Agreeing.{agree_set, agree_past}
use Rattle.native_lowering_relation.proofs.Standing.{full_outs, full_slots}

module _ (f : FunctionData) (registers slots : List (Option ℕ)) (words : List ℕ) (held : Held) (holds : Holds f registers slots words held) where
  -- a register of Linear's, in both
  pub register_written : (r w : ℕ) (v : Option ℕ) → Agrees v w → Holds f (slice_set registers r v) slots (slice_set words r w) held
  register_written r w v agrees = record {
    eight = length-set registers r v ∙ holds.eight;
    thirteen = length-set words r w ∙ holds.thirteen;
    agree = agree_set registers words r w v holds.agree agrees;
    count = holds.count;
    agree_slots = holds.agree_slots;
    full = holds.full;
  }

  -- a scratch register
  pub scratch_written : (r w : ℕ) → 8 ≤ r → Holds f registers slots (slice_set words r w) held
  scratch_written r w high = record {
    eight = holds.eight;
    thirteen = length-set words r w ∙ holds.thirteen;
    agree = agree_past registers words r w holds.agree (omega (arith, holds.eight));
    count = holds.count;
    agree_slots = holds.agree_slots;
    full = holds.full;
  }

  -- a slot
  pub slot_written : (s w : ℕ) (v : Option ℕ) → Agrees v w → Holds f registers (slice_set slots s v) words (record held { slots = slice_set held.slots s w })
  slot_written s w v agrees = record {
    eight = holds.eight;
    thirteen = holds.thirteen;
    agree = holds.agree;
    count = length-set slots s v ∙ holds.count;
    agree_slots = agree_set slots held.slots s w v holds.agree_slots agrees;
    full = full_slots (frame_of f) held None [] holds.full s w;
  }

  -- a cell for an argument
  pub out_written : (k w : ℕ) → Holds f registers slots words (record held { outs = slice_set held.outs k w })
  out_written k w = record {
    eight = holds.eight;
    thirteen = holds.thirteen;
    agree = holds.agree;
    count = holds.count;
    agree_slots = holds.agree_slots;
    full = full_outs (frame_of f) held None [] holds.full k w;
  }
