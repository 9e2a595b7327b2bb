-- Values moved one by one from a list to another, and what is made of them.
use Rattle.std.proofs.Common.{◌≡◌, ℕ, suc, ◌+◌, List, [], ◌∷◌, ◌++◌, length, map, All, refl, sym, ap, subst, ◌∙◌, arith, append_assoc}
use Rattle.std.specs.List.{AllZip}
use Rattle.std.proofs.lemmas.List.{map_push, append-nil, length-map, length_push}
use Rattle.std.proofs.lemmas.List.Elements.{All-nil, All-cons, All-head, All-tail, All-same}
use Rattle.rand_pcg.specs.Lcg.{Lcg}
use Rattle.farm_nodes_open_join.specs.Words.{generator_of, generators}

none_left : {X : Type 0} (xs : List X) → length xs ≡ 0 → xs ≡ []
none_left [] e = refl
none_left (x ∷ xs) e = absurd (omega (arith, e))

-- lists seen through what their items hold
module _ {X Z : Type 0} (f : Z → X) where
  -- nothing was moved yet
  pub begun : (done : List Z) (left all : List X) → done ≡ [] → left ≡ all → map f done ++ left ≡ all
  begun done left all none same = ap (λ zs. map f zs ++ left) none ∙ same

  -- what was moved shows, with what is left, the whole list
  pub moved : (done : List Z) {more : List Z} {z : Z} {left rest all : List X} → map f done ++ left ≡ all → more ≡ done ++ z ∷ [] → left ≡ f z ∷ rest → map f more ++ rest ≡ all
  moved done {more} {z} {left} {rest} {all} before more_is left_is =
      let joined : (map f done ++ f z ∷ []) ++ rest ≡ map f done ++ f z ∷ rest = simp append_assoc in
      ap (λ zs. map f zs ++ rest) more_is ∙ ap (λ ys. ys ++ rest) (map_push f done z) ∙ joined
      ∙ ap (λ l. map f done ++ l) (sym left_is) ∙ before

  -- nothing is left
  pub all_moved : (done : List Z) (left all : List X) → length left ≡ 0 → map f done ++ left ≡ all → map f done ≡ all
  all_moved done left all none before = sym (append-nil (map f done)) ∙ ap (λ l. map f done ++ l) (sym (none_left left none)) ∙ before

  pub as_long : (zs : List Z) (xs : List X) → map f zs ≡ xs → length zs ≡ length xs
  as_long zs xs e = sym (length-map zs f) ∙ ap length e

-- generators
module _ {Z : Type 0} (draws : Z → Lcg) (seed : ℕ) where
  pub no_draws : (done : List Z) → done ≡ [] → map draws done ≡ generators seed (length done)
  no_draws done none = ap (map draws) none ∙ sym (ap (λ zs. generators seed (length zs)) none)

  pub one_draw : (done : List Z) {more : List Z} {z : Z} → map draws done ≡ generators seed (length done) → more ≡ done ++ z ∷ [] → draws z ≡ generator_of seed (length done) → map draws more ≡ generators seed (length more)
  one_draw done {more} {z} before more_is one =
      let size : suc (length done) ≡ length more = omega (arith, ap length more_is, length_push done z) in
      ap (map draws) more_is ∙ map_push draws done z ∙ ap (λ ws. ws ++ draws z ∷ []) before
      ∙ ap (λ w. generators seed (length done) ++ w ∷ []) one ∙ ap (generators seed) size

-- what is made
module _ {A B : Type 0} (R : A → B → Type 0) where
  none_made : (xs : List A) → length xs ≡ 0 → AllZip R xs []
  none_made [] e = tt
  none_made (x ∷ xs) e = absurd (omega (arith, e))

  -- nothing is made yet
  pub made_first : (left all : List A) (made more : List B) → left ≡ all → made ≡ [] → AllZip R left more → AllZip R all (made ++ more)
  made_first left all made more same none are =
      subst (λ (ys : List B). AllZip R all (ys ++ more)) (sym none) (subst (λ (xs : List A). AllZip R xs more) same are)

  -- the next is made
  pub made_next : (left rest all : List A) (made longer more : List B) (x : A) (y : B)
      → ((ys : List B) → AllZip R left ys → AllZip R all (made ++ ys)) → left ≡ x ∷ rest → R x y → longer ≡ made ++ y ∷ [] → AllZip R rest more → AllZip R all (longer ++ more)
  made_next left rest all made longer more x y before next one longer_is are =
      let here : AllZip R (x ∷ rest) (y ∷ more) = (one, are) in
      let there : AllZip R all (made ++ y ∷ more) = before (y ∷ more) (subst (λ (xs : List A). AllZip R xs (y ∷ more)) (sym next) here) in
      let joined : (made ++ y ∷ []) ++ more ≡ made ++ y ∷ more = simp append_assoc in
      subst (λ (ys : List B). AllZip R all ys) (sym (ap (λ (ys : List B). ys ++ more) longer_is ∙ joined)) there

  -- all are made
  pub made_all : (left all : List A) (made : List B) → ((ys : List B) → AllZip R left ys → AllZip R all (made ++ ys)) → length left ≡ 0 → AllZip R all made
  made_all left all made before none =
      subst (λ (ys : List B). AllZip R all ys) (append-nil made) (before [] (none_made left none))

  -- what shows of the values shows of what is made of them
  pub shown : {Z : Type 0} (f : A → Z) (h : B → Z) → ((a : A) (b : B) → R a b → h b ≡ f a) → (xs : List A) (ys : List B) → AllZip R xs ys → map h ys ≡ map f xs
  shown f h same [] [] are = refl
  shown f h same [] (y ∷ ys) are = absurd are
  shown f h same (x ∷ xs) [] are = absurd are
  shown f h same (x ∷ xs) (y ∷ ys) are =
      ap (λ z. z ∷ map h ys) (same x y are.0) ∙ ap (λ zs. f x ∷ zs) (shown f h same xs ys are.1)

  -- and so does what each of them gives
  pub all_so : (P : B → Type 0) → ((a : A) (b : B) → R a b → P b) → (xs : List A) (ys : List B) → AllZip R xs ys → All P ys
  all_so P so [] [] are = All-nil P
  all_so P so [] (y ∷ ys) are = absurd are
  all_so P so (x ∷ xs) [] are = absurd are
  all_so P so (x ∷ xs) (y ∷ ys) are = All-cons P y ys (so x y are.0) (all_so P so xs ys are.1)

pub map-map : {X Y Z : Type 0} (g : Y → Z) (f : X → Y) (xs : List X) → map g (map f xs) ≡ map (λ x. g (f x)) xs
map-map g f [] = refl
map-map g f (x ∷ xs) = ap (λ ys. g (f x) ∷ ys) (map-map g f xs)

-- what is so of all parts is so of each through its parts
pub all_of_part : {X Y : Type 0} (f : X → Y) (Q : Y → Type 0) (xs : List X) → All Q (map f xs) → All (λ x. Q (f x)) xs
all_of_part f Q [] all = All-nil (λ x. Q (f x))
all_of_part f Q (x ∷ xs) all = All-cons (λ y. Q (f y)) x xs (All-head Q (f x) (map f xs) all) (all_of_part f Q xs (All-tail Q (f x) (map f xs) all))

both : {X : Type 0} (Q R P : X → Type 0) → ((x : X) → Q x → R x → P x) → (xs : List X) → All Q xs → All R xs → All P xs
both Q R P so [] q r = All-nil P
both Q R P so (x ∷ xs) q r = All-cons P x xs (so x (All-head Q x xs q) (All-head R x xs r)) (both Q R P so xs (All-tail Q x xs q) (All-tail R x xs r))

pub all_of_both : {X Y Z : Type 0} (f : X → Y) (h : X → Z) (Q : Y → Type 0) (R : Z → Type 0) (P : X → Type 0) → ((x : X) → Q (f x) → R (h x) → P x) → (xs : List X) (ys : List Y) (zs : List Z) → map f xs ≡ ys → map h xs ≡ zs → All Q ys → All R zs → All P xs
all_of_both f h Q R P so xs ys zs is are q r =
    both (λ x. Q (f x)) (λ x. R (h x)) P so xs (all_of_part f Q xs (All-same Q (map f xs) ys is q)) (all_of_part h R xs (All-same R (map h xs) zs are r))

-- one is put behind
pub one_more : {X : Type 0} (done more : List X) (x : X) → more ≡ done ++ x ∷ [] → length more ≡ length done + 1
one_more done more x more_is = omega (arith, ap length more_is, length_push done x)

-- what shows of the values shows of what is made of them
pub made_shown : {A B Y Z : Type 0} {R : A → B → Type 0} {f : A → Y} (xs : List A) (ys : List B) {zs : List Y} (g : Y → Z) (h : B → Z) → map f xs ≡ zs → AllZip R xs ys → ((a : A) (b : B) → R a b → h b ≡ g (f a)) → map h ys ≡ map g zs
made_shown {A} {B} {Y} {Z} {R} {f} xs ys {zs} g h are made same = shown R (λ a. g (f a)) h same xs ys made ∙ sym (map-map g f xs) ∙ ap (map g) are

pub made_same : {A B Y : Type 0} {R : A → B → Type 0} {f : A → Y} (xs : List A) (ys : List B) {zs : List Y} (h : B → Y) → map f xs ≡ zs → AllZip R xs ys → ((a : A) (b : B) → R a b → h b ≡ f a) → map h ys ≡ zs
made_same {A} {B} {Y} {R} {f} xs ys {zs} h are made same = shown R f h same xs ys made ∙ are

-- and what is so of them
pub made_so : {A B : Type 0} {R : A → B → Type 0} (xs : List A) (ys : List B) (P : B → Type 0) → AllZip R xs ys → ((a : A) (b : B) → R a b → P b) → All P ys
made_so {A} {B} {R} xs ys P made so = all_so R P so xs ys made

pub of_parts : {X Y : Type 0} (f : X → Y) (Q : Y → Type 0) (xs : List X) (ys : List Y) → map f xs ≡ ys → All Q ys → All (λ x. Q (f x)) xs
of_parts f Q xs ys are all = all_of_part f Q xs (All-same Q (map f xs) ys are all)
