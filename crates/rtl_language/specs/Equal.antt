-- Two functions are equal where their parts are, and then they are one.
use Rattle.std.proofs.Common.{ℕ, Bool, true, Option, refl, ap}
use Rattle.std.specs.Prelude.{◌&&◌, nat_eq}
use Rattle.std.specs.Cmp.{IsEquivalence}
use Rattle.std.specs.Cmp.Lexicographic.{pointwise}
use Rattle.std.proofs.lemmas.Bool.{eqb-true, and_parts, false≢true}
use Rattle.std.proofs.lemmas.Cmp.{nat_eq_equiv, on_equiv, and_equiv, lists_equiv}
use Rattle.lang_helpers.proofs.Equal.{Tells, lists_tell, options_tell, number_tells}
use Rattle.rtl_acts.specs.contracts.act.ActPartialEq.TheImpl as act_eq
use Rattle.rtl_acts.specs.contracts.test.TestPartialEq.TheImpl as test_eq
use Rattle.rtl_acts.proofs.Equal.{act_tells, test_tells}
use Rattle.rtl_language.specs.contracts.instruction.InstructionPartialEq.TheImpl as instruction_eq
use Rattle.rtl_language.specs.contracts.instruction.InstructionEq.TheImpl.Laws as instruction_laws
use Rattle.rtl_language.specs.declared.instruction.Instruction.TheVariants.{Do, Call, Branch, Return}
use Rattle.rtl_language.specs.Function.{FunctionData}

abbrev pub same_function : FunctionData → FunctionData → Bool
same_function f g = ((pointwise nat_eq f.parameters g.parameters && nat_eq f.registers g.registers) && nat_eq f.entry g.entry) && pointwise (instruction_eq.ghosts).eq f.nodes g.nodes

pub same_laws : IsEquivalence same_function
same_laws =
    and_equiv
    (and_equiv
    (and_equiv (on_equiv (λ (f : FunctionData). f.parameters) (lists_equiv nat_eq_equiv)) (on_equiv (λ (f : FunctionData). f.registers) nat_eq_equiv))
    (on_equiv (λ (f : FunctionData). f.entry) nat_eq_equiv))
    (on_equiv (λ (f : FunctionData). f.nodes) (lists_equiv instruction_laws.laws-law))

registers_tell : Tells (pointwise nat_eq)
registers_tell = lists_tell nat_eq number_tells

value_tells : Tells (λ (v w : Option ℕ). (instruction_eq.ghosts).eq (Return v) (Return w))
value_tells = options_tell nat_eq (λ v w. (instruction_eq.ghosts).eq (Return v) (Return w)) number_tells (λ b. refl) (λ a. refl) (λ a b. refl)

pub instruction_tells : Tells (instruction_eq.ghosts).eq
instruction_tells (Do a s) (Do b t) e = let p = and_parts ((act_eq.ghosts).eq a b) (nat_eq s t) e in λ i. Do (act_tells a b p.0 i) (eqb-true s t p.1 i)
instruction_tells (Call f xs t s) (Call g ys u r) e =
    let p = and_parts (nat_eq f g) (pointwise nat_eq xs ys && ((instruction_eq.ghosts).eq (Return t) (Return u) && nat_eq s r)) e in
    let q = and_parts (pointwise nat_eq xs ys) ((instruction_eq.ghosts).eq (Return t) (Return u) && nat_eq s r) p.1 in
    let v = and_parts ((instruction_eq.ghosts).eq (Return t) (Return u)) (nat_eq s r) q.1 in
    λ i. Call (eqb-true f g p.0 i) (registers_tell xs ys q.0 i) (value_tells t u v.0 i) (eqb-true s r v.1 i)
instruction_tells (Branch t a b) (Branch u c d) e =
    let p = and_parts ((test_eq.ghosts).eq t u) (nat_eq a c && nat_eq b d) e in
    let q = and_parts (nat_eq a c) (nat_eq b d) p.1 in
    λ i. Branch (test_tells t u p.0 i) (eqb-true a c q.0 i) (eqb-true b d q.1 i)
instruction_tells (Return v) (Return w) e = ap (λ x. Return x) (value_tells v w e)
instruction_tells _ _ e = absurd (false≢true e)

pub function_tells : Tells same_function
function_tells f g e =
    let p = and_parts ((pointwise nat_eq f.parameters g.parameters && nat_eq f.registers g.registers) && nat_eq f.entry g.entry) (pointwise (instruction_eq.ghosts).eq f.nodes g.nodes) e in
    let q = and_parts (pointwise nat_eq f.parameters g.parameters && nat_eq f.registers g.registers) (nat_eq f.entry g.entry) p.0 in
    let r = and_parts (pointwise nat_eq f.parameters g.parameters) (nat_eq f.registers g.registers) q.0 in
    λ i. record {
      parameters = registers_tell f.parameters g.parameters r.0 i;
      registers = eqb-true f.registers g.registers r.1 i;
      entry = eqb-true f.entry g.entry q.1 i;
      nodes = lists_tell (instruction_eq.ghosts).eq instruction_tells f.nodes g.nodes p.1 i;
    }
