-- The laws that the pass owes as one of the pipeline.
use Rattle.std.proofs.Common.{◌≡◌, ℕ, ◌<◌, ◌≤◌, ◌^◌, List, ◌++◌, length, arith}
use Rattle.std.proofs.lemmas.List.Elements.{recursion_from_All}
use Rattle.lang_base.specs.Keeps.{Keeps}
use Rattle.lang_base.specs.declared.program.Program.{Program}
use Rattle.lang_base.specs.Soundness.{AllFit, Accepted}
use Rattle.lang_base.proofs.Forms.{one_text}
use Rattle.ltl.specs.Function as ltl
use Rattle.ltl.specs.Meaning as blocks
use Rattle.linear_language.specs.Function as linear
use Rattle.linear_language.specs.Meaning as code
use Rattle.linearize_check_proof.specs.Rules.{IsLaidOut}
use Rattle.linearize_check.specs.OrderForm.{CertFits, cert_text, order_form}
use Rattle.linearize_check_proof.proofs.Sound.{sound}

-- every function has a baseline
abbrev pub never : ltl.FunctionData → Type 0
never f = ⊥

-- what is accepted keeps the meaning, also where every function is in range
pub sound_law : (p : Program ltl.FunctionData) (q : Program linear.FunctionData) → AllFit ltl.IsFunction p → AllFit linear.IsFunction q → Accepted IsLaidOut p q → Keeps (blocks.run p) (code.run q)
sound_law p q fits also accepted = sound p q accepted

-- an order that is accepted can be written
pub laid_out_fits : (i : ltl.FunctionData) (o : linear.FunctionData) (c : List ℕ) → ltl.IsFunction i → linear.IsFunction o → IsLaidOut i o c → CertFits i c
laid_out_fits i o c fits also laid = record {
  few_nodes = fits.nodes;
  each = record { few = laid.allowed.lists.few; each = recursion_from_All (λ n. n < length i.blocks) c laid.allowed.lists.nodes };
}

-- one order a spelling
pub one_order : (i : ltl.FunctionData) (o : linear.FunctionData) (c d : List ℕ) (x y : List ℕ) → CertFits i c → CertFits i d → cert_text c ++ x ≡ cert_text d ++ y → (c ≡ d) × (x ≡ y)
one_order i o c d x y fits also e =
    let few : length i.blocks ≤ 2 ^ 16 = omega (arith, fits.few_nodes) in
    one_text (order_form (length i.blocks) few) c d x y fits.each also.each e
