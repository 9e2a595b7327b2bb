-- What offers that are lent beside names link.
use Rattle.std.proofs.Common.{◌≡◌, ℕ, zero, suc, ◌<◌, List, [], ◌∷◌, ◌++◌, length, take, get_or, Option, Some, None, refl, sym, ap, subst, ◌∙◌, arith}
use Rattle.lang_base.specs.declared.program.Named as code
use Rattle.rtl_language.specs.Function.{FunctionData}
use Rattle.linear_language.specs.Function as linear
use Rattle.linker.specs.Chains.{HasChain, AllChained, made_of, all_made_of, names_of, names_beside}
use Rattle.chains.specs.declared.offering.Offers.{Offers}
use Rattle.chains.specs.Lent.{Chain, Named, LendsTo, IsBeside, AreBeside}
use Rattle.chains.specs.Offered.{GoOnFrom, AllGoOn, ends_of}

-- the next function comes behind the first ones
pub beside_next : (functions : List (code.Named FunctionData)) (offers : List Offers) (n : ℕ) (all : List Named) (f : code.Named FunctionData) (o : Offers) (named : Named)
    → n < length functions → n < length offers → f ≡ get_or functions n f → o ≡ get_or offers n o
    → AreBeside (take n functions) (take n offers) all → IsBeside f o named
    → AreBeside (take (suc n) functions) (take (suc n) offers) (all ++ named ∷ [])
beside_next [] offers n all f o named below below' ef eo are is = absurd (omega (arith, below))
beside_next (x ∷ functions) [] n all f o named below below' ef eo are is = absurd (omega (arith, below'))
beside_next (x ∷ functions) (y ∷ offers) zero [] f o named below below' ef eo are is =
    (subst (λ g. IsBeside g y named) ef (subst (λ p. IsBeside f p named) eo is), tt)
beside_next (x ∷ functions) (y ∷ offers) zero (z ∷ all) f o named below below' ef eo are is = absurd are
beside_next (x ∷ functions) (y ∷ offers) (suc n) [] f o named below below' ef eo are is = absurd are
beside_next (x ∷ functions) (y ∷ offers) (suc n) (z ∷ all) f o named below below' ef eo are is =
    (are.0, beside_next functions offers n all f o named (omega (arith, below)) (omega (arith, below')) ef eo are.1 is)

-- the names are the functions'
pub names_are : (functions : List (code.Named FunctionData)) (offers : List Offers) (named : List Named) → AreBeside functions offers named
    → names_beside named ≡ names_of functions
names_are [] [] [] are = refl
names_are [] [] (n ∷ named) are = absurd are
names_are [] (o ∷ offers) named are = absurd are
names_are (f ∷ functions) [] named are = absurd are
names_are (f ∷ functions) (o ∷ offers) [] are = absurd are
names_are (f ∷ functions) (o ∷ offers) (n ∷ named) are = λ i. are.0.name i ∷ names_are functions offers named are.1 i

-- what is lent chains where the offers do
pub has_chain : (f : FunctionData) (o : Offers) (chain : Option Chain) → LendsTo o chain → GoOnFrom f o → HasChain f chain
has_chain f o None lent go = absurd lent
has_chain f o (Some chain) lent go = record {
  first = ap (λ p. p.input) lent.first ∙ go.constants;
  second = ap (λ p. p.input) lent.second ∙ go.expressions ∙ sym (ap (λ p. p.output) lent.first);
  third = ap (λ p. p.input) lent.third ∙ go.allocation ∙ sym (ap (λ p. p.output) lent.second);
  fourth = ap (λ p. p.input) lent.fourth ∙ go.order ∙ sym (ap (λ p. p.output) lent.third);
}

pub chained : (functions : List (code.Named FunctionData)) (offers : List Offers) (named : List Named) → AreBeside functions offers named
    → AllGoOn functions offers → AllChained functions named
chained [] [] [] are go = tt
chained [] [] (n ∷ named) are go = absurd are
chained [] (o ∷ offers) named are go = absurd are
chained (f ∷ functions) [] named are go = absurd are
chained (f ∷ functions) (o ∷ offers) [] are go = absurd are
chained (f ∷ functions) (o ∷ offers) (n ∷ named) are go = (has_chain f.function o n.chain are.0.lends go.0, chained functions offers named are.1 go.1)

-- and nowhere else
pub goes_on : (f : FunctionData) (o : Offers) (chain : Option Chain) → LendsTo o chain → HasChain f chain → GoOnFrom f o
goes_on f o None lent is = absurd lent
goes_on f o (Some chain) lent is = record {
  constants = sym (ap (λ p. p.input) lent.first) ∙ is.first;
  expressions = sym (ap (λ p. p.input) lent.second) ∙ is.second ∙ ap (λ p. p.output) lent.first;
  allocation = sym (ap (λ p. p.input) lent.third) ∙ is.third ∙ ap (λ p. p.output) lent.second;
  order = sym (ap (λ p. p.input) lent.fourth) ∙ is.fourth ∙ ap (λ p. p.output) lent.third;
}

pub all_go_on : (functions : List (code.Named FunctionData)) (offers : List Offers) (named : List Named) → AreBeside functions offers named
    → AllChained functions named → AllGoOn functions offers
all_go_on [] [] [] are all = tt
all_go_on [] [] (n ∷ named) are all = absurd are
all_go_on [] (o ∷ offers) named are all = absurd are
all_go_on (f ∷ functions) [] named are all = absurd are
all_go_on (f ∷ functions) (o ∷ offers) [] are all = absurd are
all_go_on (f ∷ functions) (o ∷ offers) (n ∷ named) are all = (goes_on f.function o n.chain are.0.lends all.0, all_go_on functions offers named are.1 all.1)

-- what is made is the output of the last offer
one_end : (name : List ℕ) (o : Offers) (chain : Option Chain) (rest rest' : List (code.Named linear.FunctionData)) → LendsTo o chain → rest ≡ rest'
    → made_of (λ c. c.fourth.now.output) name chain ++ rest ≡ record { name = name; function = o.order.output } ∷ rest'
one_end name o None rest rest' lent e = absurd lent
one_end name o (Some chain) rest rest' lent e = λ i. record { name = name; function = (lent.fourth i).output } ∷ e i

pub all_ends : (functions : List (code.Named FunctionData)) (offers : List Offers) (named : List Named) → AreBeside functions offers named
    → all_made_of (λ c. c.fourth.now.output) functions named ≡ ends_of functions offers
all_ends [] [] [] are = refl
all_ends [] [] (n ∷ named) are = absurd are
all_ends [] (o ∷ offers) named are = absurd are
all_ends (f ∷ functions) [] named are = absurd are
all_ends (f ∷ functions) (o ∷ offers) [] are = absurd are
all_ends (f ∷ functions) (o ∷ offers) (n ∷ named) are = one_end f.name o n.chain _ _ are.0.lends (all_ends functions offers named are.1)
