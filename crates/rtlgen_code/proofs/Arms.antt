-- What the arms of the translation of expressions add, where the last step may want for memory.
use Rattle.std.proofs.Common.{◌≡◌, ℕ, suc, Result, Ok, Err, List, ◌∷◌, subst}
use Rattle.std.specs.Prelude.{IfOk}
use Rattle.ints.specs.declared.operators.Op.{Op}
use Rattle.ints.specs.declared.conditions.Cond.TheVariants.{Nz}
use Rattle.lang_base.specs.declared.errors.NoMemory.{NoMemory}
use Rattle.rtl_acts.specs.declared.arguments.Arguments.TheVariants.{One, Two}
use Rattle.rtl_acts.specs.declared.act.Act.TheVariants.{Load, Operate}
use Rattle.rtl_language.specs.declared.instruction.Instruction.TheVariants.{Do, Branch}
use Rattle.cminor_syntax.specs.Trees.{ExpressionTree}
use Rattle.cminor_syntax.specs.Trees as C
use Rattle.rtlgen_definition.specs.Gen.{expression, operand, operands, operand_register}
use Rattle.rtlgen_definition.specs.Pieces.{Piece, one, both}
use Rattle.rtlgen_code.specs.declared.graph.Graph.{Graph}
use Rattle.rtlgen_code.specs.Adding.{Adds}
use Rattle.rtlgen_code.proofs.Laws.{add_both, add_either}

pub both_if_ok : (first : Piece) (k : Graph) {second : Piece} {next : ℕ} {g h : Graph} {middle : ℕ} (r : Result ℕ NoMemory) → Adds second next g h middle → IfOk r (λ e. Adds first middle h k e) → IfOk r (λ e. Adds (both first second) next g k e)
both_if_ok first k (Ok e) s f = add_both s f
both_if_ok first k (Err e) s f = tt

pub load_added : (target temporary : ℕ) (k : Graph) {next p last : ℕ} {g h : Graph} (global : ℕ) (i : ExpressionTree) (r : Result ℕ NoMemory) → p ≡ operand_register i temporary →
    Adds (one (λ n. Do (Load target global p) n)) next g h last → IfOk r (λ e. Adds (operand i temporary) last h k e) → IfOk r (λ e. Adds (expression (C.Load global i) target temporary) next g k e)
load_added target temporary k {next} {p} {last} {g} {h} global i r at s f =
    both_if_ok (operand i temporary) k r (subst (λ q. Adds (one (λ n. Do (Load target global q) n)) next g h last) at s) f

pub unary_added : (target temporary : ℕ) (k : Graph) {next p last : ℕ} {g h : Graph} (o : Op) (a : ExpressionTree) (r : Result ℕ NoMemory) → p ≡ operand_register a temporary →
    Adds (one (λ n. Do (Operate o target (One p)) n)) next g h last → IfOk r (λ e. Adds (operand a temporary) last h k e) → IfOk r (λ e. Adds (expression (C.Unary o a) target temporary) next g k e)
unary_added target temporary k {next} {p} {last} {g} {h} o a r at s f =
    both_if_ok (operand a temporary) k r (subst (λ q. Adds (one (λ n. Do (Operate o target (One q)) n)) next g h last) at s) f

pub binary_added : (target temporary : ℕ) (l : Graph) {next p q last second : ℕ} {g h k : Graph} (o : Op) (a b : ExpressionTree) (r : Result ℕ NoMemory) → p ≡ operand_register a temporary → q ≡ operand_register b (suc temporary) →
    Adds (one (λ n. Do (Operate o target (Two p q)) n)) next g h last → Adds (operand b (suc temporary)) last h k second → IfOk r (λ e. Adds (operand a temporary) second k l e) →
    IfOk r (λ e. Adds (expression (C.Binary o a b) target temporary) next g l e)
binary_added target temporary l {next} {p} {q} {last} {second} {g} {h} {k} o a b r at bt s m f =
    let placed = subst (λ y. Adds (one (λ n. Do (Operate o target (Two (operand_register a temporary) y)) n)) next g h last) bt (subst (λ x. Adds (one (λ n. Do (Operate o target (Two x q)) n)) next g h last) at s) in
    both_if_ok (operand a temporary) l r (add_both placed m) f

pub choice_added : (target temporary : ℕ) (m : Graph) {next p away there last : ℕ} {g h k l : Graph} (c a b : ExpressionTree) (r : Result ℕ NoMemory) → p ≡ operand_register c temporary →
    Adds (expression b target temporary) next g h away → Adds (expression a target temporary) next h k there →
    Adds (one (λ n. Branch (record { condition = Nz; arguments = One p }) there away)) 0 k l last → IfOk r (λ e. Adds (operand c temporary) last l m e) →
    IfOk r (λ e. Adds (expression (C.Choice c a b) target temporary) next g m e)
choice_added target temporary m {next} {p} {away} {there} {last} {g} {h} {k} {l} c a b r at o t n f =
    both_if_ok (operand c temporary) m r (add_either o t (subst (λ x. Adds (one (λ n. Branch (record { condition = Nz; arguments = One x }) there away)) 0 k l last) at n)) f

pub operands_added : (temporary : ℕ) (k : Graph) {next middle : ℕ} {g h : Graph} (e : ExpressionTree) (es : List ExpressionTree) (r : Result ℕ NoMemory) →
    Adds (operands es (suc temporary)) next g h middle → IfOk r (λ x. Adds (operand e temporary) middle h k x) → IfOk r (λ x. Adds (operands (e ∷ es) temporary) next g k x)
operands_added temporary k e es r s f = both_if_ok (operand e temporary) k r s f
