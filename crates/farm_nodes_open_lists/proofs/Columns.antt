-- Lists that get one value more each, seen place by place; and offers that are taken out of lists.
use Rattle.std.proofs.Common.{◌≡◌, ◌≢◌, ℕ, zero, suc, ◌+◌, ◌<◌, List, [], ◌∷◌, ◌++◌, length, All, Option, Some, None, get_or, set, get_or-set_other, refl, sym, ap, subst, ◌∙◌, arith, append_assoc}
use Rattle.std.specs.Prelude.{slice_get, slice_set}
use Rattle.std.specs.Global.{Vec}
use Rattle.std.specs.List.{cons_option}
use Rattle.std.proofs.lemmas.List.{length_push, append-nil}
use Rattle.std.proofs.lemmas.List.Elements.{All-nil, All-cons, All-head, All-tail}
use Rattle.rooms.specs.Opened.{offer_at}
use Rattle.farm_nodes_open_lists.specs.Rows.{column, grown, offers_of, rows_of}
use Rattle.farm_nodes_open_lists.proofs.Places.{get_front, get_last}

-- the next of a list goes behind those in front of it
pub moved_on : {X : Type 0} (done more : List X) (z : X) (left rest all : List X) → more ≡ done ++ z ∷ [] → left ≡ z ∷ rest → done ++ left ≡ all → more ++ rest ≡ all
moved_on done more z left rest all more_is left_is before =
    let joined : (done ++ z ∷ []) ++ rest ≡ done ++ z ∷ rest = simp append_assoc in
    ap (λ zs. zs ++ rest) more_is ∙ joined ∙ ap (λ l. done ++ l) (sym left_is) ∙ before

-- nothing is left
pub all_there : {X : Type 0} (done left all : List X) → left ≡ [] → done ++ left ≡ all → done ≡ all
all_there done left all none before = sym (append-nil done) ∙ ap (λ l. done ++ l) (sym none) ∙ before

pub none_left : {X : Type 0} (xs : List X) → length xs ≡ 0 → xs ≡ []
none_left [] e = refl
none_left (x ∷ xs) e = absurd (omega (arith, e))

pub grown_count : {X : Type 0} (rows : List (List X)) (xs : List X) → length (grown rows xs) ≡ length rows
grown_count [] xs = refl
grown_count (r ∷ rows) [] = refl
grown_count (r ∷ rows) (x ∷ xs) = ap suc (grown_count rows xs)

module _ {X : Type 0} (n : ℕ) where
  abbrev Long : List X → Type 0
  Long row = length row ≡ n

  abbrev Longer : List X → Type 0
  Longer row = length row ≡ n + 1

  pub grown_long : (rows : List (List X)) (xs : List X) → length xs ≡ length rows → All Long rows → All Longer (grown rows xs)
  grown_long [] xs same all = All-nil Longer
  grown_long (r ∷ rows) [] same all = absurd (omega (arith, same))
  grown_long (r ∷ rows) (x ∷ xs) same all =
      let here : length r ≡ n = All-head Long r rows all in
      All-cons Longer (r ++ x ∷ []) (grown rows xs) (omega (arith, length_push r x, here))
      (grown_long rows xs (omega (arith, same)) (All-tail Long r rows all))

  pub column_front : (rows : List (List X)) (xs : List X) (f : ℕ) → f < n → All Long rows → column (grown rows xs) f ≡ column rows f
  column_front [] xs f low all = refl
  column_front (r ∷ rows) [] f low all = refl
  column_front (r ∷ rows) (x ∷ xs) f low all =
      let here : length r ≡ n = All-head Long r rows all in
      ap (λ o. cons_option o (column (grown rows xs) f)) (get_front r x f (omega (arith, low, here)))
      ∙ ap (λ c. cons_option (slice_get r f) c) (column_front rows xs f low (All-tail Long r rows all))

  pub column_last : (rows : List (List X)) (xs : List X) → length xs ≡ length rows → All Long rows → column (grown rows xs) n ≡ xs
  column_last [] [] same all = refl
  column_last [] (x ∷ xs) same all = absurd (omega (arith, same))
  column_last (r ∷ rows) [] same all = absurd (omega (arith, same))
  column_last (r ∷ rows) (x ∷ xs) same all =
      let here : length r ≡ n = All-head Long r rows all in
      ap (λ o. cons_option o (column (grown rows xs) n)) (subst (λ k. slice_get (r ++ x ∷ []) k ≡ Some x) here (get_last r x))
      ∙ ap (λ ys. x ∷ ys) (column_last rows xs (omega (arith, same)) (All-tail Long r rows all))

-- an offer for one function is no other's
module _ {T : Type 0} (f g : ℕ) (apart : g ≢ f) where
  pub others_stay : (lists : List (Vec (Option T))) (k : ℕ) (d new : Vec (Option T)) → new.items ≡ slice_set (get_or lists k d).items f None → offers_of (rows_of (set lists k new)) g ≡ offers_of (rows_of lists) g
  others_stay [] k d new put = refl
  others_stay (list ∷ lists) zero d new put =
      ap (λ o. o ∷ offers_of (rows_of lists) g)
      (ap (λ row. offer_at row g) put ∙ get_or-set_other list.items f g None None (λ e. apart (omega (arith, e))))
  others_stay (list ∷ lists) (suc k) d new put = ap (λ os. offer_at list.items g ∷ os) (others_stay lists k d new put)
