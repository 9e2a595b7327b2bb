-- A text in two parts, beside a name with something behind.
use Rattle.std.proofs.Common.{◌≡◌, ℕ, List, [], ◌∷◌, ◌++◌, length, take, drop, Bool, true, false, refl, sym, ap, ◌∙◌, arith}
use Rattle.std.specs.Str.{bytes_eq}
use Rattle.std.proofs.lemmas.Bool.{false_from_ne_true}
use Rattle.std.proofs.lemmas.List.{append_cancel_left, length-append, take-append-drop}
use Rattle.std.proofs.lemmas.Slice.Eq.{bytes_eq-Decides}

pub joined : (m : ℕ) (text front behind : List ℕ) → front ≡ take m text → behind ≡ drop m text → text ≡ front ++ behind
joined m text front behind f b = sym (ap (λ l. l ++ behind) f ∙ (ap (λ l. take m text ++ l) b ∙ take-append-drop m text))

same_truth : (a b : Bool) → (a ≡ true → b ≡ true) → (b ≡ true → a ≡ true) → a ≡ b
same_truth true true there back = refl
same_truth true false there back = sym (there refl)
same_truth false true there back = back refl
same_truth false false there back = refl

fronts : (a b n s : List ℕ) → length b ≡ length s → a ++ b ≡ n ++ s → a ≡ n
fronts [] b [] s same e = refl
fronts [] b (y ∷ n) s same e = absurd (omega (arith, same, ap length e, length-append n s))
fronts (x ∷ a) b [] s same e = absurd (omega (arith, same, ap length e, length-append a b))
fronts (x ∷ a) b (y ∷ n) s same e =
    let head : x ≡ y = cc e in
    let tail : a ++ b ≡ n ++ s = cc e in
    ap (λ z. z ∷ a) head ∙ ap (λ l. y ∷ l) (fronts a b n s same tail)

module _ (text name s front behind : List ℕ) (parts : text ≡ front ++ behind) where
  -- where the front is the name, what stands behind decides
  pub by_what_is_behind : bytes_eq front name ≡ true → bytes_eq behind s ≡ bytes_eq text (name ++ s)
  by_what_is_behind named =
      let front_is = (bytes_eq-Decides front name).0 named in
      same_truth _ _
      (λ t. (bytes_eq-Decides text (name ++ s)).1 (parts ∙ (ap (λ f. f ++ behind) front_is ∙ ap (λ b. name ++ b) ((bytes_eq-Decides behind s).0 t))))
      (λ t. (bytes_eq-Decides behind s).1
      (append_cancel_left name behind s (ap (λ f. f ++ behind) (sym front_is) ∙ (sym parts ∙ (bytes_eq-Decides text (name ++ s)).0 t))))

  -- and where it is not, nothing is
  pub by_the_front : length behind ≡ length s → bytes_eq front name ≡ false → bytes_eq text (name ++ s) ≡ false
  by_the_front same other = false_from_ne_true _ (λ t.
      absurd (cc (sym other ∙ (bytes_eq-Decides front name).1 (fronts front behind name s same (sym parts ∙ (bytes_eq-Decides text (name ++ s)).0 t)))))
