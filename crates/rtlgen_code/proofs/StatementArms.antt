-- What the arms of the translation of statements add, where the last step may want for memory.
use Rattle.std.proofs.Common.{◌≡◌, ℕ, suc, ◌+◌, ◌<◌, Bool, true, false, Result, List, [], ◌∷◌, ◌++◌, length, Option, Some, refl, sym, ap, subst, add-one, length-append, length-set, ◌∙◌, arith}
use Rattle.std.specs.Prelude.{IfOk, slice_set}
use Rattle.ints.specs.declared.conditions.Cond.TheVariants.{Nz}
use Rattle.lang_base.specs.declared.errors.NoMemory.{NoMemory}
use Rattle.rtl_acts.specs.declared.arguments.Arguments.TheVariants.{One}
use Rattle.rtl_acts.specs.declared.act.Act.TheVariants.{Nop, Put, Store}
use Rattle.rtl_language.specs.declared.instruction.Instruction.{Instruction}
use Rattle.rtl_language.specs.declared.instruction.Instruction.TheVariants.{Do, Branch, Return}
use Rattle.rtl_language.specs.Function.{node_limit}
use Rattle.cminor_syntax.specs.Trees.{ExpressionTree, StatementTree}
use Rattle.cminor_syntax.specs.Trees as C
use Rattle.rtlgen_definition.specs.Gen.{statement, operand, operand_register}
use Rattle.rtlgen_definition.specs.Pieces.{Made, Piece, one, again}
use Rattle.rtlgen_code.specs.declared.graph.Graph.{Graph}
use Rattle.rtlgen_code.specs.Adding.{Adds}
use Rattle.rtlgen_code.proofs.Laws.{add_one, add_both, add_either, more}
use Rattle.rtlgen_code.proofs.Arms.{both_if_ok}

pub store_added : (temporary : ℕ) (l : Graph) {next p q last second : ℕ} {g h k : Graph} (global : ℕ) (i e : ExpressionTree) (r : Result ℕ NoMemory) → p ≡ operand_register i temporary → q ≡ operand_register e (suc temporary) →
    Adds (one (λ n. Do (Store global p q) n)) next g h last → Adds (operand e (suc temporary)) last h k second → IfOk r (λ x. Adds (operand i temporary) second k l x) →
    IfOk r (λ x. Adds (statement (C.Store global i e) temporary []) next g l x)
store_added temporary l {next} {p} {q} {last} {second} {g} {h} {k} global i e r at et s m f =
    let placed = subst (λ y. Adds (one (λ n. Do (Store global (operand_register i temporary) y) n)) next g h last) et (subst (λ x. Adds (one (λ n. Do (Store global x q) n)) next g h last) at s) in
    both_if_ok (operand i temporary) l r (add_both placed m) f

pub put_added : (temporary : ℕ) (k : Graph) {next p last : ℕ} {g h : Graph} (target : Option ℕ) (e : ExpressionTree) (r : Result ℕ NoMemory) → p ≡ operand_register e temporary →
    Adds (one (λ n. Do (Put p target) n)) next g h last → IfOk r (λ x. Adds (operand e temporary) last h k x) → IfOk r (λ x. Adds (statement (C.Put target e) temporary []) next g k x)
put_added temporary k {next} {p} {last} {g} {h} target e r at s f =
    both_if_ok (operand e temporary) k r (subst (λ q. Adds (one (λ n. Do (Put q target) n)) next g h last) at s) f

pub return_added : (temporary next : ℕ) (k : Graph) {p last : ℕ} {g h : Graph} (e : ExpressionTree) (r : Result ℕ NoMemory) → p ≡ operand_register e temporary →
    Adds (one (λ n. Return (Some p))) 0 g h last → IfOk r (λ x. Adds (operand e temporary) last h k x) → IfOk r (λ x. Adds (statement (C.Return (Some e)) temporary []) next g k x)
return_added temporary next k {p} {last} {g} {h} e r at s f =
    let node : ℕ → Instruction = λ n. Return (Some (operand_register e temporary)) in
    let placed : Adds (one node) next g h last = add_one (subst (λ q. Adds (one (λ n. Return (Some q))) 0 g h last) at s) in
    both_if_ok (operand e temporary) k r placed f

pub if_added : (temporary : ℕ) (exits : List ℕ) (m : Graph) {next p away there last : ℕ} {g h k l : Graph} (c : ExpressionTree) (s t : StatementTree) (r : Result ℕ NoMemory) → p ≡ operand_register c temporary →
    Adds (statement t temporary exits) next g h away → Adds (statement s temporary exits) next h k there →
    Adds (one (λ n. Branch (record { condition = Nz; arguments = One p }) there away)) 0 k l last → IfOk r (λ x. Adds (operand c temporary) last l m x) →
    IfOk r (λ x. Adds (statement (C.If c s t) temporary exits) next g m x)
if_added temporary exits m {next} {p} {away} {there} {last} {g} {h} {k} {l} c s t r at other taken n f =
    both_if_ok (operand c temporary) m r (add_either other taken (subst (λ x. Adds (one (λ n. Branch (record { condition = Nz; arguments = One x }) there away)) 0 k l last) at n)) f

-- ---- loops

set_behind : (gs : List Instruction) (x : Instruction) (ys : List Instruction) (y : Instruction) → slice_set ((gs ++ x ∷ []) ++ ys) (length gs) y ≡ gs ++ y ∷ ys
set_behind [] x ys y = refl
set_behind (g ∷ gs) x ys y = ap (λ l. g ∷ l) (set_behind gs x ys y)

-- the body of a loop whose head stands behind so many nodes
abbrev turn_of : Piece → ℕ → Made
turn_of body count = body count (suc count)

loop_count : (gs hs : List Instruction) → hs ≡ gs ++ Do Nop 0 ∷ [] → length hs ≡ suc (length gs)
loop_count gs hs h = ap length h ∙ length-append gs (Do Nop 0 ∷ []) ∙ add-one (length gs)

loop_turn : (body : Piece) (gs hs : List Instruction) (head : ℕ) → hs ≡ gs ++ Do Nop 0 ∷ [] → head ≡ length gs → body head (length hs) ≡ turn_of body (length gs)
loop_turn body gs hs head h at = λ i. body (at i) (loop_count gs hs h i)

loop_nodes : (body : Piece) (gs hs ks : List Instruction) (head turn : ℕ) → hs ≡ gs ++ Do Nop 0 ∷ [] → head ≡ length gs → ks ≡ hs ++ (body head (length hs)).nodes → turn ≡ (body head (length hs)).entry →
    slice_set ks head (Do Nop turn) ≡ gs ++ Do Nop (turn_of body (length gs)).entry ∷ (turn_of body (length gs)).nodes
loop_nodes body gs hs ks head turn h at k t =
    let made = loop_turn body gs hs head h at in
    let whole : ks ≡ (gs ++ Do Nop 0 ∷ []) ++ (turn_of body (length gs)).nodes = k ∙ (λ i. h i ++ (made i).nodes) in
    let begins : turn ≡ (turn_of body (length gs)).entry = t ∙ ap (λ m. m.entry) made in
    (λ i. slice_set (whole i) (at i) (Do Nop (begins i))) ∙ set_behind gs (Do Nop 0) (turn_of body (length gs)).nodes (Do Nop (turn_of body (length gs)).entry)

pub loop_added : {body : Piece} {next head turn : ℕ} {g h k l : Graph} → Adds (one (λ n. Do Nop 0)) 0 g h head → Adds body head h k turn →
    l.nodes.items ≡ slice_set k.nodes.items head (Do Nop turn) → l.is_full ≡ k.is_full → Adds (again body) next g l head
loop_added {body} {next} {head} {turn} {g} {h} {k} {l} o b written same = record {
  had_space = λ space. o.had_space (b.had_space (sym same ∙ space));
  nodes = λ space.
      written
      ∙ loop_nodes body g.nodes.items h.nodes.items k.nodes.items head turn (o.nodes (b.had_space (sym same ∙ space))) (o.entry (b.had_space (sym same ∙ space))) (b.nodes (sym same ∙ space)) (b.entry (sym same ∙ space));
  entry = λ space. o.entry (b.had_space (sym same ∙ space));
  too_many = λ full space. over (sym same ∙ full) space h.is_full refl;
  within = λ few. omega (arith, b.within (o.within few), ap length written, length-set k.nodes.items head (Do Nop turn));
}
  where
    over : k.is_full ≡ true → g.is_full ≡ false → (c : Bool) → h.is_full ≡ c → node_limit < length g.nodes.items + suc (length (turn_of body (length g.nodes.items)).nodes)
    over full space true e = omega (arith, o.too_many e space)
    over full space false e =
        omega (arith, b.too_many full e, more o e, ap (λ m. length m.nodes) (loop_turn body g.nodes.items h.nodes.items head (o.nodes e) (o.entry e)))
