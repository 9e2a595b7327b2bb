-- A cell of a global is read.
use Rattle.std.proofs.Common.{◌≡◌, ℕ, suc, ◌+◌, ◌<◌, Bool, true, false, List, [], ◌∷◌, length, Option, Some, None, refl, sym, ap, ◌∙◌, arith}
use Rattle.std.specs.Prelude.{slice_get, slice_set, nat_lt, if◌then◌else◌, option_and_then}
use Rattle.std.specs.Option.{option_map}
use Rattle.lang_base.specs.declared.program.Program.{Program}
use Rattle.locations.specs.declared.location.Location.TheVariants.{InRegister}
use Rattle.machine.specs.Data.{value_at}
use Rattle.machine.specs.Frames.{State}
use Rattle.machine.specs.declared.act.Act.TheVariants.{Load}
use Rattle.linear_language.specs.declared.instruction.Instruction.TheVariants as l
use Rattle.linear_language.specs.Function.{FunctionData}
use Rattle.x86_syntax.specs.declared.condition.Condition.TheVariants.{AboveOrEqual}
use Rattle.x86_syntax.specs.declared.instruction.Instruction.TheVariants as n
use Rattle.x86_state.specs.State.{State as Native, Goes, does, put}
use Rattle.x86.specs.Reaching.{loaded}
use Rattle.native_lowering_definition.specs.Blocks.{cells_in}
use Rattle.native_lowering_definition.specs.Facts.{Facts, known}
use Rattle.native_lowering_definition.specs.Layout.{facts_in}
use Rattle.native_lowering_definition.specs.Lowering.{around_of, lowered, code_of}
use Rattle.native_lowering_definition.specs.Locations.{register_of}
use Rattle.native_lowering_definition.specs.Operating.{Block}
use Rattle.native_lowering_definition.specs.Reaching.{loads, loads_tested}
use Rattle.native_lowering_relation.specs.Related.{Related}
use Rattle.native_lowering_relation.proofs.Knowing.{knows_at, knows_word}
use Rattle.native_lowering_walks.specs.Walks.{then as onward, walks, GoStraight}
use Rattle.native_lowering_walks.proofs.Straight.{compare_with_below, stop_if_below}
use Rattle.native_lowering_runs.specs.Reaching.{Reaches}
use Rattle.native_lowering_runs.proofs.Registers.{number_is}
use Rattle.native_lowering_moves.proofs.Branches.{defined_word}
use Rattle.native_lowering_operators.proofs.Scratched.{not_scratched}
use Rattle.native_lowering_operators.proofs.Written.{written_here, left_with, writes_reaches}
use Rattle.native_lowering_reaching.proofs.Testing.{same_word, cell_within, passes}

module _ (p : Program FunctionData) (room : Option ℕ) (s : State) (t : Native) (related : Related p s t) where
  abbrev f : FunctionData
  f = related.named.function

  abbrev facts : Facts
  facts = facts_in f s.place

  -- the word in the cell goes to a register
  read_goes : (target global cell w : ℕ) (cells : List ℕ) (v : Native) → target < 8 → v.globals ≡ s.here.globals → slice_get s.here.globals global ≡ Some cells → slice_get cells cell ≡ Some w
      → does (loaded (register_of target) global cell v) ≡ Goes (record v { place = v.place + 1; registers = slice_set v.registers target w })
  read_goes target global cell w cells v near same there at =
      ap (λ gs. does (option_map (λ x. put (register_of target) x v) (option_and_then (λ cs. slice_get cs cell) (slice_get gs global)))) same
      ∙ ap (λ o. does (option_map (λ x. put (register_of target) x v) (option_and_then (λ cs. slice_get cs cell) o))) there
      ∙ ap (λ o. does (option_map (λ x. put (register_of target) x v) o)) at
      ∙ (λ i. Goes (record v { place = v.place + 1; registers = slice_set v.registers (number_is target near i) w }))

  abbrev To : ℕ → ℕ → Type 0
  To target w = Reaches p room (record s { place = s.place + 1; here = written_here p room s t related target w }) t

  read : (target global index w more : ℕ) (b : Block) (flags : Option (ℕ × ℕ)) → slice_get f.code s.place ≡ Some (l.Do (Load target global index))
      → loads target global index (cells_in (around_of p f) global) (known index facts) ≡ b → length b ≡ suc more → GoStraight b
      → walks (lowered p).functions room (code_of p f) b t ≡ Goes (left_with p room s t related (suc more) flags t.registers target w) → To target w
  read target global index w more b flags at is_it count straight walk =
      writes_reaches p room s t related (l.Do (Load target global index)) b more target w None flags t.registers (record {
        at = at;
        is_it = is_it;
        count = count;
        target = refl;
        leaves = refl;
        straight = straight;
        scratch = not_scratched f s.here.registers s.here.slots related.held t.registers related.holds;
        answers = tt;
        walk = walk;
      })

  tested : (target global index i w : ℕ) (cells : List ℕ) → slice_get f.code s.place ≡ Some (l.Do (Load target global index)) → target < 8 → index < 8
      → value_at (InRegister index) s.here ≡ Some i → slice_get s.here.globals global ≡ Some cells → slice_get cells i ≡ Some w
      → loads target global index (cells_in (around_of p f) global) (known index facts) ≡ loads_tested target global index (length cells) → To target w
  tested target global index i w cells at near near' defined there here is_it =
      let count = length cells in
      let index_is = defined_word p room s t related index i near' defined in
      let u = record t { place = t.place + 1; flags = Some (i, count) } in
      let v = record t { place = t.place + 1 + 1; flags = Some (i, count) } in
      let three : t.place + 1 + 1 + 1 ≡ t.place + 3 = omega arith in
      read target global index w 2 (loads_tested target global index count) (Some (i, count)) at is_it refl
      (compare_with_below (register_of index) count, (stop_if_below AboveOrEqual, tt))
      (ap (λ k. walks (lowered p).functions room (code_of p f) (n.StopIf AboveOrEqual ∷ n.Load (register_of target) global (register_of index) ∷ []) (record t { place = t.place + 1; flags = Some (k, count) })) index_is
      ∙ ap (λ z. onward z (walks (lowered p).functions room (code_of p f) (n.Load (register_of target) global (register_of index) ∷ []))) (passes (lowered p).functions room (code_of p f) u i count refl (cell_within cells i w here))
      ∙ ap (λ k. onward (does (loaded (register_of target) global k v)) (walks (lowered p).functions room (code_of p f) [])) index_is
      ∙ ap (λ z. onward z (walks (lowered p).functions room (code_of p f) [])) (read_goes target global i w cells v near related.globals there here)
      ∙ (λ j. Goes (record t { place = three j; flags = Some (i, count); registers = slice_set t.registers target w })))

  with_known : (target global index i w : ℕ) (cells : List ℕ) (k : Option ℕ) → slice_get f.code s.place ≡ Some (l.Do (Load target global index)) → target < 8 → index < 8
      → value_at (InRegister index) s.here ≡ Some i → slice_get s.here.globals global ≡ Some cells → slice_get cells i ≡ Some w
      → cells_in (around_of p f) global ≡ Some (length cells) → known index facts ≡ k → To target w
  with_known target global index i w cells None at near near' defined there here count e =
      tested target global index i w cells at near near' defined there here (λ j. loads target global index (count j) (e j))
  with_known target global index i w cells (Some k) at near near' defined there here count e = by (nat_lt k (length cells)) refl
    where
      so : value_at (InRegister index) s.here ≡ Some k
      so = knows_word (known index facts) (value_at (InRegister index) s.here) k (knows_at facts.words s.here.registers index related.known.known) e

      by : (b : Bool) → nat_lt k (length cells) ≡ b → To target w
      by false out = tested target global index i w cells at near near' defined there here
          ((λ j. loads target global index (count j) (e j)) ∙ ap (λ b. if b then n.LoadAt (register_of target) global k ∷ [] else loads_tested target global index (length cells)) out)
      by true within =
          let same : i ≡ k = same_word (value_at (InRegister index) s.here) i k defined so in
          read target global index w 0 (n.LoadAt (register_of target) global k ∷ []) t.flags at
          ((λ j. loads target global index (count j) (e j)) ∙ ap (λ b. if b then n.LoadAt (register_of target) global k ∷ [] else loads_tested target global index (length cells)) within) refl tt
          (ap (λ z. onward z (walks (lowered p).functions room (code_of p f) [])) (read_goes target global k w cells t near related.globals there (ap (slice_get cells) (sym same) ∙ here)))

  pub load_reaches : (target global index i w : ℕ) (cells : List ℕ) → slice_get f.code s.place ≡ Some (l.Do (Load target global index)) → target < 8 → index < 8
      → value_at (InRegister index) s.here ≡ Some i → slice_get s.here.globals global ≡ Some cells → slice_get cells i ≡ Some w
      → cells_in (around_of p f) global ≡ Some (length cells) → To target w
  load_reaches target global index i w cells at near near' defined there here count =
      with_known target global index i w cells (known index facts) at near near' defined there here count refl
