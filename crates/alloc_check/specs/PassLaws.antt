-- The laws that the pass owes as one of the pipeline.
use Rattle.std.proofs.Common.{◌≡◌, ℕ, ◌≤◌, List, ◌++◌, length, get_or, arith}
use Rattle.std.specs.Prelude.{All}
use Rattle.std.proofs.lemmas.List.Elements.{recursion_from_All}
use Rattle.lang_base.specs.Keeps.{Keeps}
use Rattle.lang_base.specs.declared.program.Program.{Program}
use Rattle.lang_base.specs.Soundness.{AllFit, Accepted}
use Rattle.lang_base.proofs.Forms.{one_text}
use Rattle.rtl_language.specs.Function as rtl
use Rattle.rtl_language.specs.Meaning as rtl_meaning
use Rattle.ltl.specs.Function as ltl
use Rattle.ltl.specs.Meaning.{run}
use Rattle.alloc_check_verdict.specs.ListForm.{ListFits}
use Rattle.rtl_passes_marks.specs.declared.row.NodeRow.{NodeRow}
use Rattle.rtl_passes_marks.specs.RowForm.{RowFits}
use Rattle.rtl_passes_marks.specs.Rows.{place_of, IsRow}
use Rattle.rtl_passes_marks.proofs.Short.{few_between}
use Rattle.alloc_check_rules.specs.declared.equation.Equation.{Equation}
use Rattle.alloc_check_rules.specs.Rules.{EquationFits, IsInOrder}
use Rattle.alloc_check_verdict.specs.Allocated.{IsAllocated}
use Rattle.alloc_check_verdict.proofs.Passed.{sound, rows_of_equations}
use Rattle.alloc_check_verdict.specs.Text.{CertFits, cert_text}

-- what is accepted keeps the meaning
pub sound_law : (p : Program rtl.FunctionData) (q : Program ltl.FunctionData) → AllFit rtl.IsFunction p → AllFit ltl.IsFunction q → Accepted IsAllocated p q → Keeps (rtl_meaning.run p) (run q)
sound_law p q fits also accepted = sound p q fits also accepted

list_fits : (registers slots : ℕ) (es : List Equation) → IsInOrder registers slots es → ListFits (EquationFits registers slots) es
list_fits registers slots es in_order = record { few = in_order.few; each = recursion_from_All (EquationFits registers slots) es in_order.each }

-- rows that are accepted can be written
pub allocated_fits : (i : rtl.FunctionData) (o : ltl.FunctionData) (c : List (NodeRow Equation)) → rtl.IsFunction i → ltl.IsFunction o → IsAllocated i o c → CertFits i o c
allocated_fits i o c fits also accepted =
    let each = accepted.shape.at_marked.each in
    let few = few_between place_of 0 (length i.nodes) c accepted.shape.at_marked.rising (λ k d below. (each k d below).within) (omega arith) in
    record {
      registers = omega (arith, fits.registers);
      slots = omega (arith, also.slots);
      nodes = omega (arith, fits.nodes);
      each = record {
        few = omega (arith, few, fits.nodes);
        each = recursion_from_All (RowFits (EquationFits i.registers o.slots) (length i.nodes)) c
            (λ k d below. ((each k d below).within, list_fits i.registers o.slots _ (each k d below).in_order));
      };
    }

-- one certificate a spelling
pub one_cert : (i : rtl.FunctionData) (o : ltl.FunctionData) (c d : List (NodeRow Equation)) (x y : List ℕ) → CertFits i o c → CertFits i o d → cert_text c ++ x ≡ cert_text d ++ y → (c ≡ d) × (x ≡ y)
one_cert i o c d x y fits also e = one_text (rows_of_equations i.registers o.slots (length i.nodes) fits.registers fits.slots fits.nodes) c d x y fits.each also.each e
