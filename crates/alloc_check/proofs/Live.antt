-- The function in slots is accepted with the rows of live registers.
use Rattle.std.proofs.Common.{◌≡◌, ℕ, ◌<◌, ◌≤◌, ◌^◌, List, length, Option, sym, ◌∙◌, subst, arith}
use Rattle.std.specs.Prelude.{map}
use Rattle.rtl_language.specs.Function.{FunctionData, IsFunction}
use Rattle.rtl_passes_marks.specs.Marks.{AreFeeders}
use Rattle.alloc_check_rules.specs.Rules.{baseline_limit, equations_at, IsInOrder}
use Rattle.alloc_check_verdict.specs.Allocated.{IsAllocated}
use Rattle.alloc_check_verdict.proofs.Kept.{kept}
use Rattle.alloc_check_live.specs.Lists.{registers_at, AreLive}
use Rattle.alloc_check.specs.Slots.{own, function_in}
use Rattle.alloc_check.specs.Rows.{rows_from}
use Rattle.alloc_check.specs.Baseline.{IsLiveList, AreLiveRows}
use Rattle.alloc_check.proofs.Accepted.{closed_live, accepted}
use Rattle.alloc_check.proofs.Owns.{own_at, own_in_order, own_live}
use Rattle.alloc_check.proofs.OwnRows.{own_rows_are, marked_row}

module _ (f : FunctionData) (feeders : List (Option ℕ)) (are : AreFeeders f.entry f.nodes feeders) (lists : List (List ℕ)) (few : f.registers ≤ baseline_limit) (fits : IsFunction f) (live : AreLive f.nodes lists) where
  in_order : (k : ℕ) → IsInOrder f.registers f.registers (map own (registers_at lists k))
  in_order k =
      let closed = closed_live f lists fits live in
      own_in_order f.registers (registers_at lists k) (omega (arith, few)) (closed.fit k) (closed.rising k)

  pub live_rows : AreLiveRows f (rows_from feeders 0 lists)
  live_rows = record {
    form = own_rows_are f feeders are lists live.count in_order;
    each = λ n below marked. subst (IsLiveList f.nodes n) (sym (marked_row f feeders are lists n below marked)) (own_live f.nodes lists live n);
  }

  pub live_accepted : IsAllocated f (function_in f) (rows_from feeders 0 lists)
  live_accepted =
      let whole = accepted f lists few (closed_live f lists fits live) in
      kept f (function_in f) (map (map own) lists) (rows_from feeders 0 lists) fits
      (record { parameters = whole.shape.parameters; entry = whole.shape.entry; nodes = whole.shape.nodes })
      whole.nodes
      (record { each = λ n below marked. marked_row f feeders are lists n below marked ∙ sym (own_at lists n) })
      (own_rows_are f feeders are lists live.count in_order)
