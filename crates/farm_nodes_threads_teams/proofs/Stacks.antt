-- Nodes that are dealt to teams and come back.
use Rattle.std.proofs.Common.{Option, None, Some, option_to_list, IfSome, ◌≡◌, ℕ, zero, suc, ◌+◌, ◌%◌, ◌<◌, ◌≤◌, List, [], ◌∷◌, ◌++◌, length, map, replicate, take, get_or, set, refl, sym, ap, ◌∙◌, subst, arith, append_assoc, append-nil, length-append}
use Rattle.std.specs.List.{AllByRecursion, AllZip}
use Rattle.farm_nodes_threads_teams.specs.Dealt.{add_at, deal, AreDealt, IsSame, StaysDealt}

-- lists that go together
pub zip_long : {A B : Type 0} (R : A → B → Type 0) (xs : List A) (ys : List B) → AllZip R xs ys → length ys ≡ length xs
zip_long R [] [] z = refl
zip_long R [] (y ∷ ys) z = absurd z
zip_long R (x ∷ xs) [] z = absurd z
zip_long R (x ∷ xs) (y ∷ ys) z = ap suc (zip_long R xs ys z.1)

pub zip_push : {A B : Type 0} (R : A → B → Type 0) (xs : List A) (ys : List B) (x : A) (y : B) → AllZip R xs ys → R x y → AllZip R (xs ++ x ∷ []) (ys ++ y ∷ [])
zip_push R [] [] x y z r = (r, tt)
zip_push R [] (b ∷ ys) x y z r = absurd z
zip_push R (a ∷ xs) [] x y z r = absurd z
zip_push R (a ∷ xs) (b ∷ ys) x y z r = (z.0, zip_push R xs ys x y z.1 r)

-- a list that goes with one that has an end has an end too
pub record Ends {A B : Type 0} (R : A → B → Type 0) (xs : List A) (ys : List B) (y : B) : Type 0 where
  pub before : List A
  pub end : A
  pub whole : xs ≡ before ++ end ∷ []
  pub all : AllZip R before ys
  pub one : R end y

zip_ends : {A B : Type 0} (R : A → B → Type 0) (xs : List A) (ys : List B) (y : B) → AllZip R xs (ys ++ y ∷ []) → Ends R xs ys y
zip_ends R [] [] y z = absurd z
zip_ends R [] (b ∷ ys) y z = absurd z
zip_ends R (x ∷ []) [] y z = record { before = []; end = x; whole = refl; all = tt; one = z.0 }
zip_ends R (x ∷ u ∷ xs) [] y z = absurd z.1
zip_ends R (x ∷ xs) (b ∷ ys) y z =
    let e = zip_ends R xs ys y z.1 in
    record { before = x ∷ e.before; end = e.end; whole = ap (λ l. x ∷ l) e.whole; all = (z.0, e.all); one = e.one }

zip_both_end : {A B : Type 0} (R : A → B → Type 0) (xs : List A) (ys : List B) (x : A) (y : B) → AllZip R (xs ++ x ∷ []) (ys ++ y ∷ []) → AllZip R xs ys × R x y
zip_both_end R [] [] x y z = (tt, z.0)
zip_both_end R [] (b ∷ []) x y z = absurd z.1
zip_both_end R [] (b ∷ c ∷ ys) x y z = absurd z.1
zip_both_end R (a ∷ []) [] x y z = absurd z.1
zip_both_end R (a ∷ c ∷ xs) [] x y z = absurd z.1
zip_both_end R (a ∷ xs) (b ∷ ys) x y z = let e = zip_both_end R xs ys x y z.1 in ((z.0, e.0), e.1)

zip_nil : {A B : Type 0} (R : A → B → Type 0) (xs : List A) (x : A) → AllZip R (xs ++ x ∷ []) [] → ⊥
zip_nil R [] x z = z
zip_nil R (a ∷ xs) x z = z

pub zip_weaken : {A B : Type 0} (R S : A → B → Type 0) (xs : List A) (ys : List B) → ((x : A) (y : B) → R x y → S x y) → AllZip R xs ys → AllZip S xs ys
zip_weaken R S [] [] f z = tt
zip_weaken R S [] (y ∷ ys) f z = absurd z
zip_weaken R S (x ∷ xs) [] f z = absurd z
zip_weaken R S (x ∷ xs) (y ∷ ys) f z = (f x y z.0, zip_weaken R S xs ys f z.1)

pub zip_through : {A B C : Type 0} (R : A → B → Type 0) (S : B → C → Type 0) (T : A → C → Type 0) (xs : List A) (ys : List B) (zs : List C)
    → ((x : A) (y : B) (z : C) → R x y → S y z → T x z) → AllZip R xs ys → AllZip S ys zs → AllZip T xs zs
zip_through R S T [] [] [] f z w = tt
zip_through R S T [] [] (c ∷ zs) f z w = absurd w
zip_through R S T [] (y ∷ ys) zs f z w = absurd z
zip_through R S T (x ∷ xs) [] zs f z w = absurd z
zip_through R S T (x ∷ xs) (y ∷ ys) [] f z w = absurd w
zip_through R S T (x ∷ xs) (y ∷ ys) (c ∷ zs) f z w = (f x y c z.0 w.0, zip_through R S T xs ys zs f z.1 w.1)

pub zip_same : {A : Type 0} (R : A → A → Type 0) (xs : List A) → ((x : A) → R x x) → AllZip R xs xs
zip_same R [] f = tt
zip_same R (x ∷ xs) f = (f x, zip_same R xs f)

-- where one of the second is set
pub zip_set : {A B : Type 0} (R : A → B → Type 0) (xs : List A) (ys : List B) (i : ℕ) (d y : B) → AllZip R xs ys
    → ((x : A) → R x (get_or ys i d) → R x y) → AllZip R xs (set ys i y)
zip_set R [] [] i d y z f = tt
zip_set R [] (b ∷ ys) i d y z f = absurd z
zip_set R (x ∷ xs) [] i d y z f = absurd z
zip_set R (x ∷ xs) (b ∷ ys) zero d y z f = (f x z.0, z.1)
zip_set R (x ∷ xs) (b ∷ ys) (suc i) d y z f = (z.0, zip_set R xs ys i d y z.1 f)

-- a list that is set at one place, in the sight of its lists
pub add_is : {V P : Type 0} (items : V → List P) (vs : List V) (at : ℕ) (d v : V) (x : P) → at < length vs → items v ≡ items (get_or vs at d) ++ x ∷ []
    → map items (set vs at v) ≡ add_at at x (map items vs)
add_is items [] at d v x l e = absurd (omega arith)
add_is items (u ∷ vs) zero d v x l e = ap (λ g. g ∷ map items vs) e
add_is items (u ∷ vs) (suc at) d v x l e = ap (λ g. items u ∷ g) (add_is items vs at d v x (omega arith) e)

pub same_set : {V P : Type 0} (items : V → List P) (vs : List V) (at : ℕ) (d v : V) → items v ≡ items (get_or vs at d) → map items (set vs at v) ≡ map items vs
same_set items [] at d v e = refl
same_set items (u ∷ vs) zero d v e = ap (λ g. g ∷ map items vs) e
same_set items (u ∷ vs) (suc at) d v e = ap (λ g. items u ∷ g) (same_set items vs at d v e)

pub taken_is : {V P : Type 0} (items : V → List P) (vs : List V) (at : ℕ) (d v : V) (x : P) → at < length vs → items (get_or vs at d) ≡ items v ++ x ∷ []
    → map items vs ≡ add_at at x (map items (set vs at v))
taken_is items [] at d v x l e = absurd (omega arith)
taken_is items (u ∷ vs) zero d v x l e = ap (λ g. g ∷ map items vs) e
taken_is items (u ∷ vs) (suc at) d v x l e = ap (λ g. items u ∷ g) (taken_is items vs at d v x (omega arith) e)

-- a slice of all of a list, written back
pub take_all : {A : Type 0} (xs ys : List A) (n : ℕ) → length xs ≡ n → take n (xs ++ ys) ≡ xs
take_all [] [] zero e = refl
take_all [] (y ∷ ys) zero e = refl
take_all [] ys (suc n) e = absurd (omega arith)
take_all (x ∷ xs) ys zero e = absurd (omega arith)
take_all (x ∷ xs) ys (suc n) e = ap (λ l. x ∷ l) (take_all xs ys n (omega arith))

pub map_long : {A B : Type 0} (f : A → B) (xs : List A) → length (map f xs) ≡ length xs
map_long f [] = refl
map_long f (x ∷ xs) = ap suc (map_long f xs)

pub taken_one : {V P : Type 0} (items : V → List P) (vs : List V) (at : ℕ) (d v : V) (r : Option P) → at < length vs
    → items (get_or vs at d) ≡ items v ++ option_to_list r → IfSome r (λ x. map items vs ≡ add_at at x (map items (set vs at v)))
taken_one items vs at d v None l e = tt
taken_one items vs at d v (Some x) l e = taken_is items vs at d v x l e

pub replicate_more : {A : Type 0} (n : ℕ) (a : A) → replicate (suc n) a ≡ replicate n a ++ a ∷ []
replicate_more zero a = refl
replicate_more (suc n) a = ap (λ l. a ∷ l) (replicate_more n a)

module _ {X P : Type 0} (S : X → P → Type 0) where
  zip_added : (at : ℕ) (x : X) (p : P) (gs : List (List X)) (ls : List (List P)) → AllZip (AllZip S) gs ls → S x p
      → AllZip (AllZip S) (add_at at x gs) (add_at at p ls)
  zip_added at x p [] [] z s = tt
  zip_added at x p [] (l ∷ ls) z s = absurd z
  zip_added at x p (g ∷ gs) [] z s = absurd z
  zip_added zero x p (g ∷ gs) (l ∷ ls) z s = (zip_push S g l x p z.0 s, z.1)
  zip_added (suc at) x p (g ∷ gs) (l ∷ ls) z s = (z.0, zip_added at x p gs ls z.1 s)

  zip_taken : (at : ℕ) (x : X) (p : P) (gs : List (List X)) (ls : List (List P)) → at < length gs → AllZip (AllZip S) (add_at at x gs) (add_at at p ls)
      → AllZip (AllZip S) gs ls × S x p
  zip_taken at x p [] ls l z = absurd (omega arith)
  zip_taken zero x p (g ∷ gs) [] l z = absurd z
  zip_taken (suc at) x p (g ∷ gs) [] l z = absurd z
  zip_taken zero x p (g ∷ gs) (t ∷ ls) l z = let e = zip_both_end S g t x p z.0 in ((e.0, z.1), e.1)
  zip_taken (suc at) x p (g ∷ gs) (t ∷ ls) l z = let e = zip_taken at x p gs ls (omega arith) z.1 in ((z.0, e.0), e.1)

  -- where one was added, there is one
  zip_some : (at : ℕ) (x : X) (gs : List (List X)) (ls : List (List P)) → at < length gs → AllZip (AllZip S) (add_at at x gs) ls
      → get_or ls at [] ≡ [] → ⊥
  zip_some at x [] ls l z e = omega arith
  zip_some zero x (g ∷ gs) [] l z e = z
  zip_some (suc at) x (g ∷ gs) [] l z e = z
  zip_some zero x (g ∷ gs) (t ∷ ls) l z e = zip_nil S g x (subst (λ k. AllZip S (g ++ x ∷ []) k) e z.0)
  zip_some (suc at) x (g ∷ gs) (t ∷ ls) l z e = zip_some at x gs ls (omega arith) z.1 e

add_long : {X : Type 0} (at : ℕ) (x : X) (gs : List (List X)) → length (add_at at x gs) ≡ length gs
add_long at x [] = refl
add_long zero x (g ∷ gs) = refl
add_long (suc at) x (g ∷ gs) = ap suc (add_long at x gs)

pub replicate_long : {A : Type 0} (n : ℕ) (a : A) → length (replicate n a) ≡ n
replicate_long zero a = refl
replicate_long (suc n) a = ap suc (replicate_long n a)

deal_long : {X : Type 0} (workers i : ℕ) (xs : List X) → length (deal workers i xs) ≡ workers
deal_long {X} workers i [] = replicate_long workers []
deal_long workers i (x ∷ xs) = add_long (i % workers) x (deal workers (suc i) xs) ∙ deal_long workers (suc i) xs

push_long : {X : Type 0} (xs : List X) (x : X) → length (xs ++ x ∷ []) ≡ suc (length xs)
push_long [] x = refl
push_long (y ∷ xs) x = ap suc (push_long xs x)

zip_empty : {X P : Type 0} (S : X → P → Type 0) (n : ℕ) → AllZip (AllZip S) (replicate n []) (replicate n [])
zip_empty S zero = tt
zip_empty S (suc n) = (tt, zip_empty S n)

module _ {X P : Type 0} (R : X → X → Type 0) (S : X → P → Type 0) (workers : ℕ) (xs : List X) where
  -- one more is dealt
  pub dealt_one : (here : List X) (y : X) (p : P) (at : ℕ) (teams : List (List P)) → ((x : X) → R x y → S x p) → at ≡ length here % workers
      → AreDealt R S workers xs (here ++ y ∷ []) teams → AreDealt R S workers xs here (add_at at p teams)
  dealt_one here y p at teams f same d =
      let e = zip_ends R d.first here y d.back in
      let long : length e.before ≡ length here = sym (zip_long R e.before here e.all) in
      let was : length d.first ≡ suc (length e.before) = ap length e.whole ∙ push_long e.before e.end in
      record {
        first = e.before;
        rest = e.end ∷ d.rest;
        whole = d.whole ∙ (ap (λ l. l ++ d.rest) e.whole ∙ append_assoc e.before (e.end ∷ []) d.rest);
        back = e.all;
        out = subst (λ k. AllZip (AllZip S) (add_at (length e.before % workers) e.end (deal workers (suc (length e.before)) d.rest)) (add_at k p teams))
            (ap (λ k. k % workers) long ∙ sym same)
            (zip_added S (length e.before % workers) e.end p (deal workers (suc (length e.before)) d.rest) teams
            (subst (λ k. AllZip (AllZip S) (deal workers k d.rest) teams) was d.out) (f e.end e.one));
      }

  -- nobody is dealt
  pub dealt_none : ((x : X) → R x x) → AreDealt R S workers xs xs (replicate workers [])
  dealt_none f = record { first = xs; rest = []; whole = sym (append-nil xs); back = zip_same R xs f; out = zip_empty S workers }

  -- one more is back
  gathered : (here : List X) (y : X) (p : P) (at : ℕ) (teams : List (List P)) → ((x : X) → S x p → R x y) → at ≡ length here % workers → at < workers
      → length here < length xs → (first rest : List X) → xs ≡ first ++ rest → AllZip R first here
      → AllZip (AllZip S) (deal workers (length first) rest) (add_at at p teams) → AreDealt R S workers xs (here ++ y ∷ []) teams
  gathered here y p at teams f same low short first [] whole back out =
      let a : length xs ≡ length (first ++ []) = ap length whole in
      let b : length (first ++ []) ≡ length first = ap length (append-nil first) in
      let c : length here ≡ length first = zip_long R first here back in
      absurd (omega arith)
  gathered here y p at teams f same low short first (x ∷ rest) whole back out =
      let long : length here ≡ length first = zip_long R first here back in
      let place : length first % workers ≡ at = ap (λ k. k % workers) (sym long) ∙ sym same in
      let t = zip_taken S at x p (deal workers (suc (length first)) rest) teams (subst (λ k. at < k) (sym (deal_long workers (suc (length first)) rest)) low)
      (subst (λ k. AllZip (AllZip S) (add_at k x (deal workers (suc (length first)) rest)) (add_at at p teams)) place out) in
      record {
        first = first ++ x ∷ [];
        rest = rest;
        whole = whole ∙ sym (append_assoc first (x ∷ []) rest);
        back = zip_push R first here x y back (f x t.1);
        out = subst (λ k. AllZip (AllZip S) (deal workers k rest) teams) (sym (push_long first x)) t.0;
      }

  pub gathered_one : (here : List X) (y : X) (p : P) (at : ℕ) (old teams : List (List P)) → ((x : X) → S x p → R x y) → at ≡ length here % workers → at < workers
      → length here < length xs → old ≡ add_at at p teams → AreDealt R S workers xs here old → AreDealt R S workers xs (here ++ y ∷ []) teams
  gathered_one here y p at old teams f same low short is d =
      gathered here y p at teams f same low short d.first d.rest d.whole d.back (subst (λ l. AllZip (AllZip S) (deal workers (length d.first) d.rest) l) is d.out)

  -- as long as not all are back, the next team has one
  left : (here : List X) (at : ℕ) (teams : List (List P)) → at ≡ length here % workers → at < workers → length here < length xs
      → (first rest : List X) → xs ≡ first ++ rest → AllZip R first here → AllZip (AllZip S) (deal workers (length first) rest) teams → get_or teams at [] ≡ [] → ⊥
  left here at teams same low short first [] whole back out e =
      let a : length xs ≡ length (first ++ []) = ap length whole in
      let b : length (first ++ []) ≡ length first = ap length (append-nil first) in
      let c : length here ≡ length first = zip_long R first here back in
      omega arith
  left here at teams same low short first (x ∷ rest) whole back out e =
      let long : length here ≡ length first = zip_long R first here back in
      let place : length first % workers ≡ at = ap (λ k. k % workers) (sym long) ∙ sym same in
      zip_some S at x (deal workers (suc (length first)) rest) teams (subst (λ k. at < k) (sym (deal_long workers (suc (length first)) rest)) low)
      (subst (λ k. AllZip (AllZip S) (add_at k x (deal workers (suc (length first)) rest)) teams) place out) e

  pub some_left : (here : List X) (at : ℕ) (teams : List (List P)) → at ≡ length here % workers → at < workers → length here < length xs
      → AreDealt R S workers xs here teams → get_or teams at [] ≡ [] → ⊥
  some_left here at teams same low short d = left here at teams same low short d.first d.rest d.whole d.back d.out

  -- there are as many teams as workers
  pub as_many : (here : List X) (teams : List (List P)) → AreDealt R S workers xs here teams → length teams ≡ workers
  as_many here teams d = zip_long (AllZip S) (deal workers (length d.first) d.rest) teams d.out ∙ deal_long workers (length d.first) d.rest

  -- all are back
  came : (here : List X) → length xs ≤ length here → (first rest : List X) → xs ≡ first ++ rest → AllZip R first here → AllZip R xs here
  came here all first [] whole back = subst (λ l. AllZip R l here) (sym (whole ∙ append-nil first)) back
  came here all first (x ∷ rest) whole back =
      let a : length xs ≡ length (first ++ x ∷ rest) = ap length whole in
      let b : length (first ++ x ∷ rest) ≡ length first + suc (length rest) = length-append first (x ∷ rest) in
      let c : length here ≡ length first = zip_long R first here back in
      absurd (omega arith)

  pub all_back : (here : List X) (teams : List (List P)) → length xs ≤ length here → AreDealt R S workers xs here teams → AllZip R xs here
  all_back here teams all d = came here all d.first d.rest d.whole d.back

  -- the teams have gone on
  pub worked : (T : P → P → Type 0) (here : List X) (old teams : List (List P)) → ((x : X) (p q : P) → S x p → T p q → S x q)
      → AllZip (AllZip T) old teams → AreDealt R S workers xs here old → AreDealt R S workers xs here teams
  worked T here old teams f z d = record {
    first = d.first;
    rest = d.rest;
    whole = d.whole;
    back = d.back;
    out = zip_through (AllZip S) (AllZip T) (AllZip S) (deal workers (length d.first) d.rest) old teams
        (λ g k l a b. zip_through S T S g k l f a b) d.out z;
  }

pub stays_through : {X P : Type 0} (R : X → X → Type 0) (S : X → P → Type 0) (workers n : ℕ) (here mid now : List X) (teams among later : List (List P))
    → n ≡ workers → StaysDealt R S workers here teams mid among → StaysDealt R S n mid among now later → StaysDealt R S workers here teams now later
stays_through R S workers n here mid now teams among later same a b =
    let b : StaysDealt R S workers mid among now later = subst (λ k. StaysDealt R S k mid among now later) same b in record { all = λ xs d. b.all xs (a.all xs d) }

-- what is here, and what is with the teams, is seen otherwise
pub weakened : {X P : Type 0} (R Q : X → X → Type 0) (S T : X → P → Type 0) (workers : ℕ) (xs here : List X) (teams : List (List P))
    → ((x y : X) → R x y → Q x y) → ((x : X) (p : P) → S x p → T x p) → AreDealt R S workers xs here teams → AreDealt Q T workers xs here teams
weakened R Q S T workers xs here teams f h d = record {
  first = d.first;
  rest = d.rest;
  whole = d.whole;
  back = zip_weaken R Q d.first here f d.back;
  out = zip_weaken (AllZip S) (AllZip T) (deal workers (length d.first) d.rest) teams (λ g k z. zip_weaken S T g k h z) d.out;
}

pub all_same : {X : Type 0} (xs ys : List X) → AllZip IsSame xs ys → ys ≡ xs
all_same [] [] z = refl
all_same [] (y ∷ ys) z = absurd z
all_same (x ∷ xs) [] z = absurd z
all_same (x ∷ xs) (y ∷ ys) z = ap (λ u. u ∷ ys) z.0 ∙ ap (λ l. x ∷ l) (all_same xs ys z.1)

-- what is so of all
pub all_ends : {X : Type 0} (P : X → Type 0) (xs : List X) (x : X) → AllByRecursion P (xs ++ x ∷ []) → AllByRecursion P xs × P x
all_ends P [] x a = (tt, a.0)
all_ends P (y ∷ xs) x a = let e = all_ends P xs x a.1 in ((a.0, e.0), e.1)

all_push : {X : Type 0} (P : X → Type 0) (xs : List X) (x : X) → AllByRecursion P xs → P x → AllByRecursion P (xs ++ x ∷ [])
all_push P [] x a p = (p, tt)
all_push P (y ∷ xs) x a p = (a.0, all_push P xs x a.1 p)

all_behind : {X : Type 0} (P : X → Type 0) (xs ys : List X) → AllByRecursion P (xs ++ ys) → AllByRecursion P ys
all_behind P [] ys a = a
all_behind P (x ∷ xs) ys a = all_behind P xs ys a.1

all_through : {X Y : Type 0} (P : X → Type 0) (Q : Y → Type 0) (S : X → Y → Type 0) (xs : List X) (ys : List Y)
    → ((x : X) (y : Y) → P x → S x y → Q y) → AllByRecursion P xs → AllZip S xs ys → AllByRecursion Q ys
all_through P Q S [] [] f a z = tt
all_through P Q S [] (y ∷ ys) f a z = absurd z
all_through P Q S (x ∷ xs) [] f a z = absurd z
all_through P Q S (x ∷ xs) (y ∷ ys) f a z = (f x y a.0 z.0, all_through P Q S xs ys f a.1 z.1)

pub all_seen : {V P : Type 0} (Q : P → Type 0) (items : V → List P) (vs : List V) → AllByRecursion (AllByRecursion Q) (map items vs)
    → AllByRecursion (λ v. AllByRecursion Q (items v)) vs
all_seen Q items [] a = tt
all_seen Q items (v ∷ vs) a = (a.0, all_seen Q items vs a.1)

pub zip_seen : {V P : Type 0} (T : P → P → Type 0) (items : V → List P) (vs ws : List V) → AllZip (λ v w. AllZip T (items v) (items w)) vs ws
    → AllZip (AllZip T) (map items vs) (map items ws)
zip_seen T items [] [] z = tt
zip_seen T items [] (w ∷ ws) z = absurd z
zip_seen T items (v ∷ vs) [] z = absurd z
zip_seen T items (v ∷ vs) (w ∷ ws) z = (z.0, zip_seen T items vs ws z.1)

module _ {X : Type 0} (P : X → Type 0) where
  add_all : (at : ℕ) (x : X) (gs : List (List X)) → AllByRecursion (AllByRecursion P) gs → P x → AllByRecursion (AllByRecursion P) (add_at at x gs)
  add_all at x [] a p = tt
  add_all zero x (g ∷ gs) a p = (all_push P g x a.0 p, a.1)
  add_all (suc at) x (g ∷ gs) a p = (a.0, add_all at x gs a.1 p)

  none_all : (n : ℕ) → AllByRecursion (AllByRecursion P) (replicate n [])
  none_all zero = tt
  none_all (suc n) = (tt, none_all n)

  deal_all : (workers i : ℕ) (xs : List X) → AllByRecursion P xs → AllByRecursion (AllByRecursion P) (deal workers i xs)
  deal_all workers i [] a = none_all workers
  deal_all workers i (x ∷ xs) a = add_all (i % workers) x (deal workers (suc i) xs) (deal_all workers (suc i) xs a.1) a.0

-- what is so of all is so of those that are dealt
pub dealt_fit : {X Q : Type 0} (P : X → Type 0) (F : Q → Type 0) (R : X → X → Type 0) (S : X → Q → Type 0) (workers : ℕ) (xs here : List X)
    (teams : List (List Q)) → ((x : X) (q : Q) → P x → S x q → F q) → AllByRecursion P xs → AreDealt R S workers xs here teams
    → AllByRecursion (AllByRecursion F) teams
dealt_fit P F R S workers xs here teams f a d =
    let rest = all_behind P d.first d.rest (subst (λ l. AllByRecursion P l) d.whole a) in
    all_through (AllByRecursion P) (AllByRecursion F) (AllZip S) (deal workers (length d.first) d.rest) teams
    (λ g t b z. all_through P F S g t f b z) (deal_all P workers (length d.first) d.rest rest) d.out
