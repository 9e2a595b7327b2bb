-- A load or store stops where the global is missing, or has no such cell.
use Rattle.std.proofs.Common.{◌≡◌, ℕ, zero, suc, ◌<◌, true, false, List, [], ◌∷◌, length, Option, Some, None, refl, sym, ap, ◌∙◌, arith}
use Rattle.std.specs.Prelude.{slice_get, slice_index, nat_lt, nat_le, if◌then◌else◌}
use Rattle.std.specs.Option.{option_map}
use Rattle.std.proofs.lemmas.Bool.{ltb-false, le-ltb, le-leb}
use Rattle.lang_base.specs.declared.program.Global.{Global}
use Rattle.lang_base.specs.declared.program.Program.{Program}
use Rattle.machine.specs.Acts.{word_in}
use Rattle.machine.specs.Frames.{State}
use Rattle.machine.specs.declared.act.Act.TheVariants.{Load, Store}
use Rattle.linear_language.specs.declared.instruction.Instruction.{Instruction}
use Rattle.linear_language.specs.declared.instruction.Instruction.TheVariants as l
use Rattle.linear_language.specs.Function.{FunctionData}
use Rattle.x86_syntax.specs.declared.condition.Condition.TheVariants.{AboveOrEqual}
use Rattle.x86_syntax.specs.declared.instruction.Instruction.{Instruction as Native}
use Rattle.x86_syntax.specs.declared.instruction.Instruction.TheVariants as n
use Rattle.x86_state.specs.State.{State as NativeState}
use Rattle.native_lowering_definition.specs.Blocks.{block, cells_in}
use Rattle.native_lowering_definition.specs.Facts.{Facts, known}
use Rattle.native_lowering_definition.specs.Layout.{facts_in}
use Rattle.native_lowering_definition.specs.Locations.{register_of}
use Rattle.native_lowering_definition.specs.Lowering.{around_of, lowered}
use Rattle.native_lowering_definition.specs.Operating.{Block}
use Rattle.native_lowering_definition.specs.Reaching.{loads, stores}
use Rattle.native_lowering_numbers.proofs.Shifts.{count_asks}
use Rattle.native_lowering_ranges.specs.Range.{AreDeclared}
use Rattle.native_lowering_relation.specs.Related.{Related}
use Rattle.native_lowering_safe_stops.specs.Halting.{Halts, AreDefined}
use Rattle.native_lowering_safe_stops.proofs.Ending.{past_end}
use Rattle.native_lowering_safe_stops.proofs.Shifting.{known_word}
use Rattle.native_lowering_safe_stops.proofs.Stopping.{stop_stops, test_stops}

no_item : {A B : Type 0} (xs : List A) (ys : List B) (k : ℕ) → length ys ≡ length xs → slice_get xs k ≡ None → slice_get ys k ≡ None
no_item [] [] zero e none = refl
no_item [] [] (suc k) e none = refl
no_item [] (y ∷ ys) k e none = absurd (omega (arith, e))
no_item (x ∷ xs) [] k e none = absurd (omega (arith, e))
no_item (x ∷ xs) (y ∷ ys) zero e none = cc
no_item (x ∷ xs) (y ∷ ys) (suc k) e none = no_item xs ys k (omega (arith, e)) none

not_within : (cells : List ℕ) (i : ℕ) → slice_get cells i ≡ None → nat_lt i (length cells) ≡ false
not_within cells i e = le-ltb i (length cells) (past_end cells i e)

above : (i count : ℕ) → nat_lt i count ≡ false → nat_le count i ≡ true
above i count e = le-leb count i (ltb-false i count e)

module _ (p : Program FunctionData) (s : State) (t : NativeState) (related : Related p s t) (defined : AreDefined s.here t.registers)
    (declared : AreDeclared p.globals s.here.globals) (count : length s.here.globals ≡ length p.globals) where
  abbrev facts : Facts
  facts = facts_in related.named.function s.place

  -- a block that reaches into a global with so many cells, if it is there, at an index that may be known
  pub record Reaches (index : ℕ) (b : Option ℕ → Option ℕ → Block) : Type 0 where
    pub inside : ℕ → Native
    pub last : Native
    pub missing : (w : Option ℕ) → b None w ≡ n.Stop ∷ []
    pub tested : (cells : ℕ) → b (Some cells) None ≡ n.CompareWith (register_of index) cells ∷ n.StopIf AboveOrEqual ∷ last ∷ []
    pub known_there : (cells w : ℕ) → b (Some cells) (Some w) ≡ (if nat_lt w cells then inside w ∷ [] else b (Some cells) None)

  module _ (i : Instruction) (global index : ℕ) (b : Option ℕ → Option ℕ → Block) (reaches : Reaches index b) (near : index < 8) (at : slice_get related.named.function.code s.place ≡ Some i)
      (is_it : block (around_of p related.named.function) facts i ≡ b (cells_in (around_of p related.named.function) global) (known index facts)) where
    missing_stops : slice_get s.here.globals global ≡ None → Halts (lowered p).functions t
    missing_stops none =
        let absent : cells_in (around_of p related.named.function) global ≡ None = ap (option_map (λ (g : Global). g.cells)) (no_item s.here.globals p.globals global (sym count) none) in
        stop_stops p s t related i at (is_it ∙ ap (λ o. b o (known index facts)) absent ∙ reaches.missing (known index facts))

    past_tested : (cells : ℕ) (k : Option ℕ) → nat_lt (slice_index t.registers index) cells ≡ false → known index facts ≡ k → b (Some cells) k ≡ b (Some cells) None
    past_tested cells None out e = refl
    past_tested cells (Some w) out e =
        reaches.known_there cells w
        ∙ ap (λ c. if c then reaches.inside w ∷ [] else b (Some cells) None) (ap (λ k. nat_lt k cells) (sym (known_word p s t related defined index w near e)) ∙ out)

    past_stops : (cells : List ℕ) → slice_get s.here.globals global ≡ Some cells → nat_lt (slice_index t.registers index) (length cells) ≡ false → Halts (lowered p).functions t
    past_stops cells there out =
        let many = length cells in
        test_stops p s t related i index many AboveOrEqual (reaches.last ∷ []) at
        (is_it ∙ ap (λ o. b o (known index facts)) (declared global cells there) ∙ past_tested many (known index facts) out refl ∙ reaches.tested many) near
        (count_asks (slice_index t.registers index) many ∙ above (slice_index t.registers index) many out)

  load_reaches : (target global index : ℕ) → Reaches index (loads target global index)
  load_reaches target global index = record {
    inside = λ w. n.LoadAt (register_of target) global w;
    last = n.Load (register_of target) global (register_of index);
    missing = λ w. refl;
    tested = λ cells. refl;
    known_there = λ cells w. refl;
  }

  store_reaches : (global index source : ℕ) → Reaches index (stores global index source)
  store_reaches global index source = record {
    inside = λ w. n.StoreAt global w (register_of source);
    last = n.Store global (register_of index) (register_of source);
    missing = λ w. refl;
    tested = λ cells. refl;
    known_there = λ cells w. refl;
  }

  pub load_stops : (target global index : ℕ) → slice_get related.named.function.code s.place ≡ Some (l.Do (Load target global index)) → index < 8
      → word_in (slice_get s.here.globals global) (slice_index t.registers index) ≡ None → Halts (lowered p).functions t
  load_stops target global index at near none = by (slice_get s.here.globals global) refl none
    where
      i : Instruction
      i = l.Do (Load target global index)

      by : (o : Option (List ℕ)) → slice_get s.here.globals global ≡ o → word_in o (slice_index t.registers index) ≡ None → Halts (lowered p).functions t
      by None there e = missing_stops i global index (loads target global index) (load_reaches target global index) near at refl there
      by (Some cells) there e = past_stops i global index (loads target global index) (load_reaches target global index) near at refl cells there (not_within cells (slice_index t.registers index) e)

  -- where a store has no cell to change
  pub store_stops : (global index source : ℕ) → slice_get related.named.function.code s.place ≡ Some (l.Do (Store global index source)) → index < 8
      → ((cells : List ℕ) → slice_get s.here.globals global ≡ Some cells → nat_lt (slice_index t.registers index) (length cells) ≡ false) → Halts (lowered p).functions t
  store_stops global index source at near out = by (slice_get s.here.globals global) refl
    where
      i : Instruction
      i = l.Do (Store global index source)

      by : (o : Option (List ℕ)) → slice_get s.here.globals global ≡ o → Halts (lowered p).functions t
      by None there = missing_stops i global index (stores global index source) (store_reaches global index source) near at refl there
      by (Some cells) there = past_stops i global index (stores global index source) (store_reaches global index source) near at refl cells there (out cells there)
