-- Lists compared in order.
use Rattle.std.proofs.Common.{◌≡◌, ◌≢◌, ℕ, zero, suc, ◌<◌, List, [], ◌∷◌, length, take, drop, get_or, sym, ap, ◌∙◌, arith}
use Rattle.std.proofs.lemmas.List.{get_or-map, length-map}
use Rattle.lang_base.specs.declared.program.Named.{Named}
use Rattle.bundle_reading.specs.Chains.{names_of}

-- equal lists of names have equal names at each place
pub same_name_at : {F G : Type 0} (functions : List (Named F)) (others : List (Named G)) (i : ℕ) (f : Named F) (g : Named G)
    → i < length functions → i < length others → names_of others ≡ names_of functions → (get_or functions i f).name ≡ (get_or others i g).name
same_name_at functions others i f g in_functions in_others e =
    sym (get_or-map (λ h. h.name) functions i f [] in_functions)
    ∙ ap (λ names. get_or names i []) (sym e)
    ∙ get_or-map (λ h. h.name) others i g [] in_others

-- and are as many
pub as_many : {F G : Type 0} (functions : List (Named F)) (others : List (Named G)) → names_of others ≡ names_of functions → length others ≡ length functions
as_many functions others e = sym (length-map others (λ h. h.name)) ∙ ap length e ∙ length-map functions (λ h. h.name)

module _ {A : Type 0} where
  -- one more that is the same
  pub same_next : (xs ys : List A) (n : ℕ) (x y : A) → n < length xs → n < length ys → x ≡ get_or xs n x → y ≡ get_or ys n y → y ≡ x → take n ys ≡ take n xs → take (suc n) ys ≡ take (suc n) xs
  same_next [] ys n x y below below' at at' e before = absurd (omega (arith, below))
  same_next (a ∷ xs) [] n x y below below' at at' e before = absurd (omega (arith, below'))
  same_next (a ∷ xs) (b ∷ ys) zero x y below below' at at' e before = λ i. (sym at' ∙ e ∙ at) i ∷ []
  same_next (a ∷ xs) (b ∷ ys) (suc n) x y below below' at at' e before =
      let head : b ≡ a = ap (λ l. get_or l 0 a) before in
      let rest = same_next xs ys n x y (omega (arith, below)) (omega (arith, below')) at at' e (ap (drop 1) before) in
      λ i. head i ∷ rest i

  -- lists that differ at a place differ
  pub differ_at : (xs ys : List A) (n : ℕ) (x y : A) → n < length xs → n < length ys → x ≡ get_or xs n x → y ≡ get_or ys n y → y ≢ x → ys ≢ xs
  differ_at [] ys n x y below below' at at' other e = absurd (omega (arith, below))
  differ_at (a ∷ xs) [] n x y below below' at at' other e = absurd (omega (arith, below'))
  differ_at (a ∷ xs) (b ∷ ys) zero x y below below' at at' other e = other (at' ∙ ap (λ l. get_or l 0 a) e ∙ sym at)
  differ_at (a ∷ xs) (b ∷ ys) (suc n) x y below below' at at' other e = differ_at xs ys n x y (omega (arith, below)) (omega (arith, below')) at at' other (ap (drop 1) e)
