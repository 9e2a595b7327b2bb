-- Two functions are equal where their parts are, and then they are one.
use Rattle.std.proofs.Common.{◌≡◌, ℕ, Bool, true, false, List, Option, Some, None, refl, ap}
use Rattle.std.specs.Prelude.{◌&&◌, nat_eq}
use Rattle.std.specs.Cmp.{IsEquivalence}
use Rattle.std.specs.Cmp.Lexicographic.{pointwise}
use Rattle.std.proofs.lemmas.Bool.{eqb-true, and_parts, false≢true}
use Rattle.std.proofs.lemmas.Cmp.{nat_eq_equiv, on_equiv, and_equiv, lists_equiv}
use Rattle.locations.specs.declared.location.Location.{Location}
use Rattle.locations.specs.contracts.location.LocationPartialEq.TheImpl as location_eq
use Rattle.locations.specs.contracts.location.LocationEq.TheImpl.Laws as location_laws
use Rattle.machine.specs.contracts.test.TestPartialEq.TheImpl as test_eq
use Rattle.lang_helpers.proofs.Equal.{Tells, lists_tell, options_tell, number_tells}
use Rattle.machine.proofs.Equal.{location_tells, move_tells, act_tells, test_tells}
use Rattle.linear_language.specs.contracts.instruction.InstructionPartialEq.TheImpl as instruction_eq
use Rattle.linear_language.specs.contracts.instruction.InstructionEq.TheImpl.Laws as instruction_laws
use Rattle.linear_language.specs.declared.instruction.Instruction.TheVariants.{Do, Copy, Call, Branch, Return, Label, Goto}
use Rattle.linear_language.specs.Function.{FunctionData}

abbrev pub same_function : FunctionData → FunctionData → Bool
same_function f g = (pointwise (location_eq.ghosts).eq f.parameters g.parameters && nat_eq f.slots g.slots) && pointwise (instruction_eq.ghosts).eq f.code g.code

pub same_laws : IsEquivalence same_function
same_laws =
    and_equiv
    (and_equiv (on_equiv (λ (f : FunctionData). f.parameters) (lists_equiv location_laws.laws-law)) (on_equiv (λ (f : FunctionData). f.slots) nat_eq_equiv))
    (on_equiv (λ (f : FunctionData). f.code) (lists_equiv instruction_laws.laws-law))

value_tells : Tells (λ (v w : Option ℕ). (instruction_eq.ghosts).eq (Return v) (Return w))
value_tells = options_tell nat_eq (λ v w. (instruction_eq.ghosts).eq (Return v) (Return w)) number_tells (λ b. refl) (λ a. refl) (λ a b. refl)

locations_tell : Tells (pointwise (location_eq.ghosts).eq)
locations_tell = lists_tell (location_eq.ghosts).eq location_tells

call_tells : (f g : ℕ) (xs ys : List Location) (t u : Option Location) → (instruction_eq.ghosts).eq (Call f xs t) (Call g ys u) ≡ true → Call f xs t ≡ Call g ys u
call_tells f g xs ys None None e =
    let p = and_parts (nat_eq f g) _ e in
    let q = and_parts (pointwise (location_eq.ghosts).eq xs ys) true p.1 in
    λ i. Call (eqb-true f g p.0 i) (locations_tell xs ys q.0 i) None
call_tells f g xs ys None (Some b) e =
    let p = and_parts (nat_eq f g) _ e in
    let no : false ≡ true = (and_parts (pointwise (location_eq.ghosts).eq xs ys) false p.1).1 in
    absurd cc
call_tells f g xs ys (Some a) None e =
    let p = and_parts (nat_eq f g) _ e in
    let no : false ≡ true = (and_parts (pointwise (location_eq.ghosts).eq xs ys) false p.1).1 in
    absurd cc
call_tells f g xs ys (Some a) (Some b) e =
    let p = and_parts (nat_eq f g) _ e in
    let q = and_parts (pointwise (location_eq.ghosts).eq xs ys) ((location_eq.ghosts).eq a b) p.1 in
    λ i. Call (eqb-true f g p.0 i) (locations_tell xs ys q.0 i) (Some (location_tells a b q.1 i))

pub instruction_tells : Tells (instruction_eq.ghosts).eq
instruction_tells (Do a) (Do b) e = ap (λ x. Do x) (act_tells a b e)
instruction_tells (Copy a) (Copy b) e = ap (λ x. Copy x) (move_tells a b e)
instruction_tells (Call f xs t) (Call g ys u) e = call_tells f g xs ys t u e
instruction_tells (Branch t l) (Branch u m) e = let p = and_parts ((test_eq.ghosts).eq t u) (nat_eq l m) e in λ i. Branch (test_tells t u p.0 i) (eqb-true l m p.1 i)
instruction_tells (Return v) (Return w) e = ap (λ x. Return x) (value_tells v w e)
instruction_tells (Label l) (Label m) e = ap (λ x. Label x) (eqb-true l m e)
instruction_tells (Goto l) (Goto m) e = ap (λ x. Goto x) (eqb-true l m e)
instruction_tells _ _ e = absurd (false≢true e)

pub function_tells : Tells same_function
function_tells f g e =
    let p = and_parts (pointwise (location_eq.ghosts).eq f.parameters g.parameters && nat_eq f.slots g.slots) (pointwise (instruction_eq.ghosts).eq f.code g.code) e in
    let q = and_parts (pointwise (location_eq.ghosts).eq f.parameters g.parameters) (nat_eq f.slots g.slots) p.0 in
    λ i. record {
      parameters = locations_tell f.parameters g.parameters q.0 i;
      slots = eqb-true f.slots g.slots q.1 i;
      code = lists_tell (instruction_eq.ghosts).eq instruction_tells f.code g.code p.1 i;
    }
