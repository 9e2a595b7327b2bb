-- Lines that are printed one behind the other.
use Rattle.std.proofs.Common.{◌≡◌, ℕ, zero, suc, ◌+◌, ◌<◌, ◌≤◌, List, [], ◌∷◌, ◌++◌, Option, Result, Ok, Err, length, take, drop, get_or, refl, sym, ap, ◌∙◌, subst, arith, append_assoc, append-nil}
use Rattle.std.specs.Io.KnownBytes.{Appends}
use Rattle.std.proofs.KnownBytes.{Appends-trans}
use Rattle.std.proofs.lemmas.List.{take_more, take-append-drop, length-take-le}
use Rattle.lang_base.proofs.Beginnings.{IsBeginningOf-trans}
use Rattle.cfarm_output.specs.Begun.{IsBegun}
use Rattle.cfarm_fsck.specs.declared.error.FsckError.{FsckError}
use Rattle.cfarm_fsck.specs.Printed.{Prints}
use Rattle.cfarm_fsck.specs.Telling.{lines_from}

-- a beginning of more, behind what was printed before
begun_behind : (front text : List ℕ) (before mid after : Option (List ℕ)) → Appends before mid front → IsBegun text mid after → IsBegun (front ++ text) before after
begun_behind front text before mid after first begun =
    let rest = begun.1.0 in
    (front ++ begun.0, (rest, append_assoc front begun.0 rest ∙ ap (λ l. front ++ l) begun.1.1), Appends-trans before mid after front begun.0 first begun.2)

-- bytes are printed behind what was
pub prints_behind : {W T : Type 0} (contents : W → Option (List ℕ)) (front text : List ℕ) (r : Result T FsckError) (before mid after : W)
    → Appends (contents before) (contents mid) front → Prints contents text r mid after → Prints contents (front ++ text) r before after
prints_behind contents front text (Ok x) before mid after first more = Appends-trans (contents before) (contents mid) (contents after) front text first more
prints_behind contents front text (Err e) before mid after first begun = begun_behind front text (contents before) (contents mid) (contents after) first begun

-- the same bytes in another form
pub prints_same : {W T : Type 0} (contents : W → Option (List ℕ)) {text other : List ℕ} (r : Result T FsckError) (before after : W)
    → text ≡ other → Prints contents text r before after → Prints contents other r before after
prints_same contents r before after is printed = subst (λ l. Prints contents l r before after) is printed

-- a beginning of a front is one of all
pub begun_longer : (front text : List ℕ) (before after : Option (List ℕ)) → IsBegun front before after → IsBegun (front ++ text) before after
begun_longer front text before after begun =
    (begun.0, IsBeginningOf-trans begun.0 front (front ++ text) begun.1 (text, refl), begun.2)

module _ {A : Type 0} (line : ℕ → A → List ℕ) where
  lines-append : (n : ℕ) (xs ys : List A) → lines_from line n (xs ++ ys) ≡ lines_from line n xs ++ lines_from line (n + length xs) ys
  lines-append n [] ys = ap (λ m. lines_from line m ys) (omega arith)
  lines-append n (x ∷ xs) ys =
      ap (λ m. line n x ++ m) (lines-append (suc n) xs ys ∙ ap (λ m. lines_from line (suc n) xs ++ lines_from line m ys) (omega arith))
      ∙ sym (append_assoc (line n x) (lines_from line (suc n) xs) (lines_from line (n + length (x ∷ xs)) ys))

  -- the next of a list
  lines_next : (xs : List A) (n : ℕ) (x : A) → n < length xs → x ≡ get_or xs n x
      → lines_from line 0 (take (n + 1) xs) ≡ lines_from line 0 (take n xs) ++ line n x
  lines_next xs n x low is =
      let long = length-take-le n xs (omega (arith, low)) in
      let place : 0 + length (take n xs) ≡ n = omega (arith, long) in
      ap (lines_from line 0) (take_more xs n x low ∙ ap (λ (y : A). take n xs ++ y ∷ []) (sym is))
      ∙ lines-append 0 (take n xs) (x ∷ [])
      ∙ ap (λ m. lines_from line 0 (take n xs) ++ m) (append-nil (line (0 + length (take n xs)) x) ∙ ap (λ m. line m x) place)

  pub printed_next : (xs : List A) (n : ℕ) (x : A) (before now after : Option (List ℕ)) → n < length xs → x ≡ get_or xs n x
      → Appends before now (lines_from line 0 (take n xs)) → Appends now after (line n x) → Appends before after (lines_from line 0 (take (n + 1) xs))
  printed_next xs n x before now after low is first more =
      subst (λ l. Appends before after l) (sym (lines_next xs n x low is)) (Appends-trans before now after (lines_from line 0 (take n xs)) (line n x) first more)

  pub begun_next : (xs : List A) (n : ℕ) (x : A) (before now after : Option (List ℕ)) → n < length xs → x ≡ get_or xs n x
      → Appends before now (lines_from line 0 (take n xs)) → IsBegun (line n x) now after → IsBegun (lines_from line 0 xs) before after
  begun_next xs n x before now after low is first more =
      let next = subst (λ l. IsBegun l before after) (sym (lines_next xs n x low is)) (begun_behind (lines_from line 0 (take n xs)) (line n x) before now after first more) in
      let all = begun_longer (lines_from line 0 (take (n + 1) xs)) (lines_from line (0 + length (take (n + 1) xs)) (drop (n + 1) xs)) before after next in
      subst (λ l. IsBegun l before after) (sym (lines-append 0 (take (n + 1) xs) (drop (n + 1) xs)) ∙ ap (lines_from line 0) (take-append-drop (n + 1) xs)) all
