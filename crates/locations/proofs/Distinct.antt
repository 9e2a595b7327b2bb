-- Lists whose keys are distinct, as they are read: each key is none of those before it.
use Rattle.std.proofs.Common.{◌≡◌, ◌≢◌, Bool, true, false, List, [], ◌∷◌, ◌++◌, Option, Some, None, refl, sym, ap, subst, ◌∙◌, append_assoc, append-nil}
use Rattle.std.specs.List.{AllByRecursion, list_any}
use Rattle.std.proofs.lemmas.Bool.{or_from, or_parts}
use Rattle.lang_helpers.specs.Texts.{EachFits}
use Rattle.locations.specs.Fits.{AreDistinct}

-- ---- each of a list

pub all_append : {A : Type 0} (P : A → Type 0) (xs ys : List A) → AllByRecursion P xs → AllByRecursion P ys → AllByRecursion P (xs ++ ys)
all_append P [] ys p q = q
all_append P (x ∷ xs) ys p q = (p.0, all_append P xs ys p.1 q)

pub all_parts : {A : Type 0} (P : A → Type 0) (xs ys : List A) → AllByRecursion P (xs ++ ys) → AllByRecursion P xs × AllByRecursion P ys
all_parts P [] ys p = (tt, p)
all_parts P (x ∷ xs) ys p = let q = all_parts P xs ys p.1 in ((p.0, q.0), q.1)

pub each_both : {A : Type 0} (P Q : List A → A → Type 0) (before xs : List A) → EachFits P before xs → EachFits Q before xs → EachFits (λ b x. P b x × Q b x) before xs
each_both P Q before [] p q = tt
each_both P Q before (x ∷ xs) p q = ((p.0, q.0), each_both P Q (before ++ x ∷ []) xs p.1 q.1)

pub both_each : {A : Type 0} (P Q : List A → A → Type 0) (before xs : List A) → EachFits (λ b x. P b x × Q b x) before xs → EachFits P before xs × EachFits Q before xs
both_each P Q before [] p = (tt, tt)
both_each P Q before (x ∷ xs) p = let q = both_each P Q (before ++ x ∷ []) xs p.1 in ((p.0.0, q.0), (p.0.1, q.1))

-- no item of the list is the same as this one, as a test says
module _ {K : Type 0} (same : K → K → Bool) (tells : (a b : K) → same a b ≡ true → a ≡ b) (itself : (a : K) → same a a ≡ true) where
  pub none_same : (k : K) (ks : List K) → list_any (λ j. same j k) ks ≡ false → AllByRecursion (λ j. j ≢ k) ks
  none_same k [] e = tt
  none_same k (j ∷ ks) e =
      let p = or_parts (same j k) (list_any (λ i. same i k) ks) e in
      ((λ is. let at : same j k ≡ true = subst (λ i. same j i ≡ true) is (itself j) in absurd (let no = p.0 in cc)), none_same k ks p.1)

  differs : (j k : K) (b : Bool) → same j k ≡ b → j ≢ k → b ≡ false
  differs j k true e ne = absurd (ne (tells j k e))
  differs j k false e ne = refl

  pub same_none : (k : K) (ks : List K) → AllByRecursion (λ j. j ≢ k) ks → list_any (λ j. same j k) ks ≡ false
  same_none k [] all = refl
  same_none k (j ∷ ks) all = or_from (same j k) (list_any (λ i. same i k) ks) (differs j k (same j k) refl all.0) (same_none k ks all.1)

-- ---- distinct keys

distinct_push : {K : Type 0} (ks : List K) (k : K) → AreDistinct ks → AllByRecursion (λ j. j ≢ k) ks → AreDistinct (ks ++ k ∷ [])
distinct_push [] k d new = (tt, tt)
distinct_push (j ∷ ks) k d new = (all_append (λ y. j ≢ y) ks (k ∷ []) d.0 (new.0, tt), distinct_push ks k d.1 new.1)

distinct_before : {K : Type 0} (ks : List K) (k : K) (ls : List K) → AreDistinct (ks ++ k ∷ ls) → AllByRecursion (λ j. j ≢ k) ks
distinct_before [] k ls d = tt
distinct_before (j ∷ ks) k ls d = ((all_parts (λ y. j ≢ y) ks (k ∷ ls) d.0).1.0, distinct_before ks k ls d.1)

abbrev pub key_before : {K : Type 0} → Option K → List K → List K
key_before None ks = ks
key_before (Some k) ks = k ∷ ks

-- the keys of the items that have one
abbrev pub keys_of : {A K : Type 0} → (A → Option K) → List A → List K
keys_of key [] = []
keys_of key (x ∷ xs) = key_before (key x) (keys_of key xs)

-- a key is none of these
abbrev pub IsNewKey : {K : Type 0} → List K → Option K → Type 0
IsNewKey ks None = Unit {0}
IsNewKey ks (Some k) = AllByRecursion (λ j. j ≢ k) ks

key_before-append : {K : Type 0} (o : Option K) (ks ls : List K) → key_before o ks ++ ls ≡ key_before o (ks ++ ls)
key_before-append None ks ls = refl
key_before-append (Some k) ks ls = refl

keys_of-append : {A K : Type 0} (key : A → Option K) (xs ys : List A) → keys_of key (xs ++ ys) ≡ keys_of key xs ++ keys_of key ys
keys_of-append key [] ys = refl
keys_of-append key (x ∷ xs) ys = ap (key_before (key x)) (keys_of-append key xs ys) ∙ sym (key_before-append (key x) (keys_of key xs) (keys_of key ys))

push_one : {K : Type 0} (ks : List K) (o : Option K) → AreDistinct ks → IsNewKey ks o → AreDistinct (ks ++ key_before o [])
push_one ks None d new = subst AreDistinct (sym (append-nil ks)) d
push_one ks (Some k) d new = distinct_push ks k d new

new_one : {K : Type 0} (ks : List K) (o : Option K) (ls : List K) → AreDistinct (ks ++ key_before o ls) → IsNewKey ks o
new_one ks None ls d = tt
new_one ks (Some k) ls d = distinct_before ks k ls d

module _ {A K : Type 0} (key : A → Option K) where
  pub each_distinct : (before xs : List A) → AreDistinct (keys_of key before) → EachFits (λ b x. IsNewKey (keys_of key b) (key x)) before xs → AreDistinct (keys_of key (before ++ xs))
  each_distinct before [] d new = subst (λ l. AreDistinct (keys_of key l)) (sym (append-nil before)) d
  each_distinct before (x ∷ xs) d new =
      let one = subst AreDistinct (sym (keys_of-append key before (x ∷ []))) (push_one (keys_of key before) (key x) d new.0) in
      subst (λ l. AreDistinct (keys_of key l)) (append_assoc before (x ∷ []) xs) (each_distinct (before ++ x ∷ []) xs one new.1)

  pub distinct_each : (before xs : List A) → AreDistinct (keys_of key (before ++ xs)) → EachFits (λ b x. IsNewKey (keys_of key b) (key x)) before xs
  distinct_each before [] d = tt
  distinct_each before (x ∷ xs) d = (
    new_one (keys_of key before) (key x) (keys_of key xs) (subst AreDistinct (keys_of-append key before (x ∷ xs)) d),
    distinct_each (before ++ x ∷ []) xs (subst (λ l. AreDistinct (keys_of key l)) (sym (append_assoc before (x ∷ []) xs)) d),
  )
