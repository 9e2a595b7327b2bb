-- Two functions are equal where their parts are, and then they are one.
use Rattle.std.proofs.Common.{◌≡◌, ℕ, Bool, true, false, List, Option, Some, None, refl, ap}
use Rattle.std.specs.Prelude.{◌&&◌, nat_eq}
use Rattle.std.specs.Cmp.{IsEquivalence}
use Rattle.std.specs.Cmp.Lexicographic.{pointwise}
use Rattle.std.proofs.lemmas.Bool.{eqb-true, and_parts, false≢true}
use Rattle.std.proofs.lemmas.Cmp.{nat_eq_equiv, on_equiv, and_equiv, lists_equiv}
use Rattle.machine.specs.Location.{Location}
use Rattle.machine.specs.Move.{Move}
use Rattle.machine.specs.LocationPartialEq.TheImpl as location_eq
use Rattle.machine.specs.LocationEq.TheImpl.Laws as location_laws
use Rattle.machine.specs.MovePartialEq.TheImpl as move_eq
use Rattle.machine.specs.contracts.act.ActPartialEq.TheImpl as act_eq
use Rattle.machine.specs.contracts.test.TestPartialEq.TheImpl as test_eq
use Rattle.lang_helpers.proofs.Equal.{Tells, lists_tell, options_tell, number_tells}
use Rattle.machine.proofs.Equal.{location_tells, move_tells, act_tells, test_tells}
use Rattle.ltl.specs.contracts.block.BodyPartialEq.TheImpl as body_eq
use Rattle.ltl.specs.contracts.block.BlockPartialEq.TheImpl as block_eq
use Rattle.ltl.specs.contracts.block.BlockEq.TheImpl.Laws as block_laws
use Rattle.ltl.specs.declared.block.Body.TheVariants.{Go, Call, Branch, Return}
use Rattle.ltl.specs.Function.{FunctionData}

abbrev pub same_function : FunctionData → FunctionData → Bool
same_function f g = ((pointwise (location_eq.ghosts).eq f.parameters g.parameters && nat_eq f.slots g.slots) && nat_eq f.entry g.entry) && pointwise (block_eq.ghosts).eq f.blocks g.blocks

pub same_laws : IsEquivalence same_function
same_laws =
    and_equiv
    (and_equiv
    (and_equiv (on_equiv (λ (f : FunctionData). f.parameters) (lists_equiv location_laws.laws-law)) (on_equiv (λ (f : FunctionData). f.slots) nat_eq_equiv))
    (on_equiv (λ (f : FunctionData). f.entry) nat_eq_equiv))
    (on_equiv (λ (f : FunctionData). f.blocks) (lists_equiv block_laws.laws-law))

moves_tell : Tells (pointwise (move_eq.ghosts).eq)
moves_tell = lists_tell (move_eq.ghosts).eq move_tells

value_tells : Tells (λ (v w : Option ℕ). (body_eq.ghosts).eq (Return v) (Return w))
value_tells = options_tell nat_eq (λ v w. (body_eq.ghosts).eq (Return v) (Return w)) number_tells (λ b. refl) (λ a. refl) (λ a b. refl)

locations_tell : Tells (pointwise (location_eq.ghosts).eq)
locations_tell = lists_tell (location_eq.ghosts).eq location_tells

call_tells : (f g : ℕ) (xs ys : List Location) (t u : Option Location) (ms ns : List Move) (s r : ℕ) → (body_eq.ghosts).eq (Call f xs t ms s) (Call g ys u ns r) ≡ true → Call f xs t ms s ≡ Call g ys u ns r
call_tells f g xs ys None None ms ns s r e =
    let p = and_parts (nat_eq f g) _ e in
    let q = and_parts (pointwise (location_eq.ghosts).eq xs ys) (pointwise (move_eq.ghosts).eq ms ns && nat_eq s r) p.1 in
    let w = and_parts (pointwise (move_eq.ghosts).eq ms ns) (nat_eq s r) q.1 in
    λ i. Call (eqb-true f g p.0 i) (locations_tell xs ys q.0 i) None (moves_tell ms ns w.0 i) (eqb-true s r w.1 i)
call_tells f g xs ys None (Some b) ms ns s r e =
    let p = and_parts (nat_eq f g) _ e in
    absurd (false≢true (and_parts (pointwise (location_eq.ghosts).eq xs ys) false p.1).1)
call_tells f g xs ys (Some a) None ms ns s r e =
    let p = and_parts (nat_eq f g) _ e in
    absurd (false≢true (and_parts (pointwise (location_eq.ghosts).eq xs ys) false p.1).1)
call_tells f g xs ys (Some a) (Some b) ms ns s r e =
    let p = and_parts (nat_eq f g) _ e in
    let q = and_parts (pointwise (location_eq.ghosts).eq xs ys) ((location_eq.ghosts).eq a b && (pointwise (move_eq.ghosts).eq ms ns && nat_eq s r)) p.1 in
    let v = and_parts ((location_eq.ghosts).eq a b) (pointwise (move_eq.ghosts).eq ms ns && nat_eq s r) q.1 in
    let w = and_parts (pointwise (move_eq.ghosts).eq ms ns) (nat_eq s r) v.1 in
    λ i. Call (eqb-true f g p.0 i) (locations_tell xs ys q.0 i) (Some (location_tells a b v.0 i)) (moves_tell ms ns w.0 i) (eqb-true s r w.1 i)

body_tells : Tells (body_eq.ghosts).eq
body_tells (Go None ms s) (Go None ns t) e = let p = and_parts (pointwise (move_eq.ghosts).eq ms ns) (nat_eq s t) e in λ i. Go None (moves_tell ms ns p.0 i) (eqb-true s t p.1 i)
body_tells (Go None ms s) (Go (Some b) ns t) e = absurd (false≢true e)
body_tells (Go (Some a) ms s) (Go None ns t) e = absurd (false≢true e)
body_tells (Go (Some a) ms s) (Go (Some b) ns t) e =
    let p = and_parts ((act_eq.ghosts).eq a b) (pointwise (move_eq.ghosts).eq ms ns && nat_eq s t) e in
    let q = and_parts (pointwise (move_eq.ghosts).eq ms ns) (nat_eq s t) p.1 in
    λ i. Go (Some (act_tells a b p.0 i)) (moves_tell ms ns q.0 i) (eqb-true s t q.1 i)
body_tells (Call f xs t ms s) (Call g ys u ns r) e = call_tells f g xs ys t u ms ns s r e
body_tells (Branch t a b) (Branch u c d) e =
    let p = and_parts ((test_eq.ghosts).eq t u) (nat_eq a c && nat_eq b d) e in
    let q = and_parts (nat_eq a c) (nat_eq b d) p.1 in
    λ i. Branch (test_tells t u p.0 i) (eqb-true a c q.0 i) (eqb-true b d q.1 i)
body_tells (Return v) (Return w) e = ap (λ x. Return x) (value_tells v w e)
body_tells _ _ e = absurd (false≢true e)

block_tells : Tells (block_eq.ghosts).eq
block_tells a b e =
    let p = and_parts (pointwise (move_eq.ghosts).eq a.before b.before) ((body_eq.ghosts).eq a.body b.body) e in
    λ i. record { before = moves_tell a.before b.before p.0 i; body = body_tells a.body b.body p.1 i }

pub function_tells : Tells same_function
function_tells f g e =
    let p = and_parts ((pointwise (location_eq.ghosts).eq f.parameters g.parameters && nat_eq f.slots g.slots) && nat_eq f.entry g.entry) (pointwise (block_eq.ghosts).eq f.blocks g.blocks) e in
    let q = and_parts (pointwise (location_eq.ghosts).eq f.parameters g.parameters && nat_eq f.slots g.slots) (nat_eq f.entry g.entry) p.0 in
    let r = and_parts (pointwise (location_eq.ghosts).eq f.parameters g.parameters) (nat_eq f.slots g.slots) q.0 in
    λ i. record {
      parameters = locations_tell f.parameters g.parameters r.0 i;
      slots = eqb-true f.slots g.slots r.1 i;
      entry = eqb-true f.entry g.entry q.1 i;
      blocks = lists_tell (block_eq.ghosts).eq block_tells f.blocks g.blocks p.1 i;
    }
