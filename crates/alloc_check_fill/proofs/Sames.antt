-- Whether two equations are one, as a test.
use Rattle.std.proofs.Common.{◌≡◌, Bool, true, false, ◌&&◌, refl, sym, ap, ◌∙◌, subst}
use Rattle.std.specs.Prelude.{nat_eq}
use Rattle.std.specs.Cmp.{IsEquivalence}
use Rattle.std.proofs.lemmas.Bool.{eqb-true, eq-eqb, and_parts, and_from}
use Rattle.locations.specs.Reading.{same_location}
use Rattle.alloc_check_rules.specs.declared.equation.Equation.{Equation}
use Rattle.alloc_check_blocks.proofs.Locations.{is_same, same_itself}

abbrev pub same : Equation → Equation → Bool
same e f = nat_eq e.register f.register && same_location e.location f.location

pub same_is : (e f : Equation) → same e f ≡ true → e ≡ f
same_is e f told =
    let parts = and_parts (nat_eq e.register f.register) (same_location e.location f.location) told in
    let register : e.register ≡ f.register = eqb-true e.register f.register parts.0 in
    let location = is_same e.location f.location parts.1 in
    λ i. record { register = register i; location = location i }

pub same_self : (e : Equation) → same e e ≡ true
same_self e = and_from (nat_eq e.register e.register) (same_location e.location e.location) (eq-eqb e.register e.register refl) (same_itself e.location)

same_both : (x y : Equation) → same x y ≡ true → same y x ≡ true
same_both x y told = let is : x ≡ y = same_is x y told in subst (λ q. same q x ≡ true) is (same_self x)

pub same_equivalence : IsEquivalence same
same_equivalence = record {
  refl = same_self;
  symm = λ x y. at x y (same x y) (same y x) refl refl;
  congr = λ x y z told. ap (λ q. same q z) (same_is x y told);
}
  where
    at : (x y : Equation) (a b : Bool) → same x y ≡ a → same y x ≡ b → a ≡ b
    at x y true true is is' = refl
    at x y true false is is' = absurd (let impossible : false ≡ true = sym is' ∙ same_both x y is in cc)
    at x y false true is is' = absurd (let impossible : false ≡ true = sym is ∙ same_both y x is' in cc)
    at x y false false is is' = refl
