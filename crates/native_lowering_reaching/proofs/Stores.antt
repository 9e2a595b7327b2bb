-- A cell of a global is written.
use Rattle.std.proofs.Common.{◌≡◌, ℕ, suc, ◌+◌, ◌<◌, Bool, true, false, List, [], ◌∷◌, length, Option, Some, None, refl, sym, ap, subst, ◌∙◌, arith}
use Rattle.std.specs.Prelude.{slice_get, slice_set, nat_lt, if◌then◌else◌, option_and_then}
use Rattle.std.specs.Option.{option_map}
use Rattle.std.proofs.lemmas.Bool.{lt-ltb}
use Rattle.lang_base.specs.declared.program.Program.{Program}
use Rattle.locations.specs.declared.location.Location.TheVariants.{InRegister}
use Rattle.machine.specs.Data.{Data, value_at}
use Rattle.machine.specs.Frames.{State}
use Rattle.machine.specs.declared.act.Act.TheVariants.{Store}
use Rattle.linear_language.specs.declared.instruction.Instruction.TheVariants as l
use Rattle.linear_language.specs.Function.{FunctionData}
use Rattle.x86_syntax.specs.declared.condition.Condition.TheVariants.{AboveOrEqual}
use Rattle.x86_syntax.specs.declared.instruction.Instruction.TheVariants as n
use Rattle.x86_syntax.specs.declared.register.Register.{Register}
use Rattle.x86_state.specs.State.{State as Native, Goes, does, word}
use Rattle.x86.specs.Reaching.{stored, with_cell, with_global}
use Rattle.native_lowering_definition.specs.Blocks.{cells_in}
use Rattle.native_lowering_definition.specs.Facts.{Facts, known}
use Rattle.native_lowering_definition.specs.Frames.{frame_of}
use Rattle.native_lowering_definition.specs.Layout.{facts_in}
use Rattle.native_lowering_definition.specs.Lowering.{around_of, lowered, code_of}
use Rattle.native_lowering_definition.specs.Locations.{register_of}
use Rattle.native_lowering_definition.specs.Operating.{Block}
use Rattle.native_lowering_definition.specs.Reaching.{stores, stores_tested}
use Rattle.native_lowering_relation.specs.Related.{Related}
use Rattle.native_lowering_relation.proofs.Knowing.{knows_at, knows_word, so_without}
use Rattle.native_lowering_walks.specs.Walks.{then as onward, steps, walks, GoStraight}
use Rattle.native_lowering_walks.proofs.Straight.{compare_with_below, stop_if_below}
use Rattle.native_lowering_runs.specs.Reaching.{Reaches}
use Rattle.native_lowering_runs.proofs.Below.{goes_below}
use Rattle.native_lowering_runs.proofs.Blocks.{block_runs}
use Rattle.native_lowering_runs.proofs.Saved.{or_same}
use Rattle.native_lowering_moves.proofs.Branches.{defined_word}
use Rattle.native_lowering_reaching.proofs.Testing.{same_word, passes}

module _ (p : Program FunctionData) (room : Option ℕ) (s : State) (t : Native) (related : Related p s t) where
  abbrev f : FunctionData
  f = related.named.function

  abbrev facts : Facts
  facts = facts_in f s.place

  -- Linear's data where a cell holds this word
  abbrev pub stored_here : ℕ → ℕ → ℕ → List ℕ → Data
  stored_here global i w cells = record s.here { globals = slice_set s.here.globals global (slice_set cells i w) }

  abbrev stored_there : ℕ → Option (ℕ × ℕ) → ℕ → ℕ → ℕ → List ℕ → Native
  stored_there count flags global i w cells = record t { place = t.place + count; flags = flags; globals = slice_set t.globals global (slice_set cells i w) }

  abbrev To : ℕ → ℕ → ℕ → List ℕ → Type 0
  To global i w cells = Reaches p room (record s { place = s.place + 1; here = stored_here global i w cells }) t

  write_goes : (global cell w : ℕ) (source : Register) (cells : List ℕ) (v : Native) → word source v ≡ w → v.globals ≡ s.here.globals → slice_get s.here.globals global ≡ Some cells → cell < length cells
      → does (stored global cell source v) ≡ Goes (record v { place = v.place + 1; globals = slice_set v.globals global (slice_set cells cell w) })
  write_goes global cell w source cells v source_is same there within =
      ap (λ gs. does (option_map (with_global global v) (option_and_then (with_cell cell (word source v)) (slice_get gs global)))) same
      ∙ ap (λ o. does (option_map (with_global global v) (option_and_then (with_cell cell (word source v)) o))) there
      ∙ ap (λ b. does (option_map (with_global global v) (if b then Some (slice_set cells cell (word source v)) else None))) (lt-ltb cell (length cells) within)
      ∙ ap (λ x. Goes (record v { place = v.place + 1; globals = slice_set v.globals global (slice_set cells cell x) })) source_is

  write : (global index source i w more : ℕ) (cells : List ℕ) (b : Block) (flags : Option (ℕ × ℕ)) → slice_get f.code s.place ≡ Some (l.Do (Store global index source))
      → stores global index source (cells_in (around_of p f) global) (known index facts) ≡ b → length b ≡ suc more → GoStraight b
      → walks (lowered p).functions room (code_of p f) b t ≡ Goes (stored_there (suc more) flags global i w cells) → To global i w cells
  write global index source i w more cells b flags at is_it count straight walk =
      let u = stored_there (suc more) flags global i w cells in
      record {
        more = more;
        to = u;
        go = subst (λ k. steps (lowered p).functions room k t ≡ Goes u) count
            (block_runs p related.named room s.place (l.Do (Store global index source)) b t (Goes u) (ap (slice_get p.functions) related.function ∙ related.there) at related.place is_it straight walk);
        related = goes_below p s t related (l.Do (Store global index source)) b (stored_here global i w cells) u related.held (record {
          at = at;
          is_it = is_it;
          function = refl;
          place = ap (λ k. t.place + k) (sym count);
          globals = ap (λ gs. slice_set gs global (slice_set cells i w)) related.globals;
          output = related.output;
          stands = related.stands;
          saved = refl;
          holds = related.holds;
          known = so_without facts s.here.registers t.flags flags t.registers t.registers related.known;
          kept = or_same (frame_of f).saved t.registers t.registers refl;
        });
      }

  tested : (global index source i w : ℕ) (cells : List ℕ) → slice_get f.code s.place ≡ Some (l.Do (Store global index source)) → index < 8 → source < 8
      → value_at (InRegister index) s.here ≡ Some i → value_at (InRegister source) s.here ≡ Some w → slice_get s.here.globals global ≡ Some cells → i < length cells
      → stores global index source (cells_in (around_of p f) global) (known index facts) ≡ stores_tested global index source (length cells) → To global i w cells
  tested global index source i w cells at near near' defined defined' there within is_it =
      let count = length cells in
      let index_is = defined_word p room s t related index i near defined in
      let source_is = defined_word p room s t related source w near' defined' in
      let u = record t { place = t.place + 1; flags = Some (i, count) } in
      let v = record t { place = t.place + 1 + 1; flags = Some (i, count) } in
      let three : t.place + 1 + 1 + 1 ≡ t.place + 3 = omega arith in
      write global index source i w 2 cells (stores_tested global index source count) (Some (i, count)) at is_it refl
      (compare_with_below (register_of index) count, (stop_if_below AboveOrEqual, tt))
      (ap (λ k. walks (lowered p).functions room (code_of p f) (n.StopIf AboveOrEqual ∷ n.Store global (register_of index) (register_of source) ∷ []) (record t { place = t.place + 1; flags = Some (k, count) })) index_is
      ∙ ap (λ z. onward z (walks (lowered p).functions room (code_of p f) (n.Store global (register_of index) (register_of source) ∷ []))) (passes (lowered p).functions room (code_of p f) u i count refl within)
      ∙ ap (λ k. onward (does (stored global k (register_of source) v)) (walks (lowered p).functions room (code_of p f) [])) index_is
      ∙ ap (λ z. onward z (walks (lowered p).functions room (code_of p f) [])) (write_goes global i w (register_of source) cells v source_is related.globals there within)
      ∙ (λ j. Goes (record t { place = three j; flags = Some (i, count); globals = slice_set t.globals global (slice_set cells i w) })))

  with_known : (global index source i w : ℕ) (cells : List ℕ) (k : Option ℕ) → slice_get f.code s.place ≡ Some (l.Do (Store global index source)) → index < 8 → source < 8
      → value_at (InRegister index) s.here ≡ Some i → value_at (InRegister source) s.here ≡ Some w → slice_get s.here.globals global ≡ Some cells → i < length cells
      → cells_in (around_of p f) global ≡ Some (length cells) → known index facts ≡ k → To global i w cells
  with_known global index source i w cells None at near near' defined defined' there within count e =
      tested global index source i w cells at near near' defined defined' there within (λ j. stores global index source (count j) (e j))
  with_known global index source i w cells (Some k) at near near' defined defined' there within count e = by (nat_lt k (length cells)) refl
    where
      so : value_at (InRegister index) s.here ≡ Some k
      so = knows_word (known index facts) (value_at (InRegister index) s.here) k (knows_at facts.words s.here.registers index related.known.known) e

      choice : (b : Bool) → nat_lt k (length cells) ≡ b → stores global index source (cells_in (around_of p f) global) (known index facts)
          ≡ (if b then n.StoreAt global k (register_of source) ∷ [] else stores_tested global index source (length cells))
      choice b told = (λ j. stores global index source (count j) (e j)) ∙ ap (λ c. if c then n.StoreAt global k (register_of source) ∷ [] else stores_tested global index source (length cells)) told

      by : (b : Bool) → nat_lt k (length cells) ≡ b → To global i w cells
      by false out = tested global index source i w cells at near near' defined defined' there within (choice false out)
      by true inside =
          let same : k ≡ i = same_word (value_at (InRegister index) s.here) k i so defined in
          write global index source i w 0 cells (n.StoreAt global k (register_of source) ∷ []) t.flags at (choice true inside) refl tt
          (ap (λ m. walks (lowered p).functions room (code_of p f) (n.StoreAt global m (register_of source) ∷ []) t) same
          ∙ ap (λ z. onward z (walks (lowered p).functions room (code_of p f) []))
          (write_goes global i w (register_of source) cells t (defined_word p room s t related source w near' defined') related.globals there within))

  pub store_reaches : (global index source i w : ℕ) (cells : List ℕ) → slice_get f.code s.place ≡ Some (l.Do (Store global index source)) → index < 8 → source < 8
      → value_at (InRegister index) s.here ≡ Some i → value_at (InRegister source) s.here ≡ Some w → slice_get s.here.globals global ≡ Some cells → i < length cells
      → cells_in (around_of p f) global ≡ Some (length cells) → To global i w cells
  store_reaches global index source i w cells at near near' defined defined' there within count =
      with_known global index source i w cells (known index facts) at near near' defined defined' there within count refl
