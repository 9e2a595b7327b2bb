-- What is made, function by function.
use Rattle.std.proofs.Common.{◌≡◌, ℕ, zero, suc, ◌<◌, List, [], ◌∷◌, ◌++◌, Option, Some, None, length, map, get_or, refl, sym, ap, ◌∙◌, append_assoc, append-nil, arith}
use Rattle.std.specs.Prelude.{IfSome, slice_get}
use Rattle.lang_base.specs.declared.program.Named.{Named}
use Rattle.c_program.specs.declared.function.Function.{Function}
use Rattle.c_program.specs.Views.{function_tree}
use Rattle.cminor_lowering.specs.Programs.{low_named}
use Rattle.rtl_language.specs.Function.{FunctionData}
use Rattle.cfarm_verify_reading.specs.Made.{AreMade, IsMadeAt, made_of}

-- what stands at a place
some_is : {A : Type 0} (x y : A) → Some x ≡ Some y → x ≡ y
some_is x y e = cc

pub got : {A : Type 0} (xs : List A) (i : ℕ) (x d : A) → slice_get xs i ≡ Some x → (i < length xs) × (get_or xs i d ≡ x)
got [] zero x d e = absurd cc
got [] (suc i) x d e = absurd cc
got (y ∷ xs) zero x d e = (omega arith, some_is y x e)
got (y ∷ xs) (suc i) x d e = let rest = got xs i x d e in (omega (arith, rest.0), rest.1)

-- what is made of a function behind others
each_behind : (f : Function) (fs : List Function) (i : ℕ) (one : Option (Named FunctionData)) → IfSome one (IsMadeAt (f ∷ fs) (suc i)) → IfSome one (IsMadeAt fs i)
each_behind f fs i None is = tt
each_behind f fs i (Some made) is = is

-- what is made at each place is made of all
pub all_made : (fs : List Function) (found : List (Option (Named FunctionData))) → length found ≡ length fs
    → ((i : ℕ) (one : Option (Named FunctionData)) → slice_get found i ≡ Some one → IfSome one (IsMadeAt fs i)) → AreMade (made_of fs) found
all_made [] [] many each = tt
all_made [] (one ∷ found) many each = absurd (omega (arith, many))
all_made (f ∷ fs) [] many each = absurd (omega (arith, many))
all_made (f ∷ fs) (None ∷ found) many each = (tt, all_made fs found (omega (arith, many)) (λ i one e. each_behind f fs i one (each (suc i) one e)))
all_made (f ∷ fs) (Some made ∷ found) many each = (each 0 (Some made) refl f refl, all_made fs found (omega (arith, many)) (λ i one e. each_behind f fs i one (each (suc i) one e)))

-- under the names that they have
pub made_names : (fs : List Function) → map (λ f. f.name) (made_of fs) ≡ map (λ f. f.name) (map low_named (map function_tree fs))
made_names [] = refl
made_names (f ∷ fs) = ap (λ names. f.name ∷ names) (made_names fs)

-- so far the first were made, and of the others this is left
pub record Gathered (wanted all : List (Named FunctionData)) (left : List (Option (Named FunctionData))) : Type 0 where
  pub behind : List (Named FunctionData)
  pub split : wanted ≡ all ++ behind
  pub made : AreMade behind left

pub begun : (wanted : List (Named FunctionData)) (found : List (Option (Named FunctionData))) → AreMade wanted found → Gathered wanted [] found
begun wanted found are = record { behind = wanted; split = refl; made = are }

gathers_from : (wanted all behind : List (Named FunctionData)) (made : Named FunctionData) (left : List (Option (Named FunctionData)))
    → wanted ≡ all ++ behind → AreMade behind (Some made ∷ left) → Gathered wanted (all ++ made ∷ []) left
gathers_from wanted all [] made left split are = absurd are
gathers_from wanted all (x ∷ behind) made left split are = record {
  behind = behind;
  split = split ∙ ap (λ y. all ++ y ∷ behind) (sym are.0) ∙ sym (append_assoc all (made ∷ []) behind);
  made = are.1;
}

pub gathers : (wanted all : List (Named FunctionData)) (made : Named FunctionData) (left : List (Option (Named FunctionData)))
    → Gathered wanted all (Some made ∷ left) → Gathered wanted (all ++ made ∷ []) left
gathers wanted all made left so_far = gathers_from wanted all so_far.behind made left so_far.split so_far.made

all_of : (wanted all behind : List (Named FunctionData)) → wanted ≡ all ++ behind → AreMade behind [] → all ≡ wanted
all_of wanted all [] split are = sym (split ∙ append-nil all)
all_of wanted all (x ∷ behind) split are = absurd are

pub all_gathered : (wanted all : List (Named FunctionData)) → Gathered wanted all [] → all ≡ wanted
all_gathered wanted all so_far = all_of wanted all so_far.behind so_far.split so_far.made
