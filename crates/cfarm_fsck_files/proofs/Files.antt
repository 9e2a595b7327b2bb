-- The files of the nodes, one more at a time.
use Rattle.std.proofs.Common.{◌≡◌, ℕ, zero, suc, ◌<◌, List, [], ◌∷◌, ◌++◌, length, Some, refl, sym, ap, subst, arith, inl, inr}
use Rattle.std.specs.Prelude.{slice_get}
use Rattle.std.proofs.lemmas.Bool.{cases_eq}
use Rattle.std.proofs.lemmas.Option.{slice_get_within}
use Rattle.cfarm_files.specs.declared.files.Files as filing
use Rattle.cfarm_fsck_journals.specs.declared.files.NodeFiles.{NodeFiles}
use Rattle.cfarm_fsck_files.specs.Reading.{AreOfNode, AreSome}

front : {A : Type 0} (xs : List A) (x y : A) (k : ℕ) → k < length xs → slice_get (xs ++ x ∷ []) k ≡ Some y → slice_get xs k ≡ Some y
front [] x y k below e = absurd (omega (arith, below))
front (z ∷ xs) x y zero below e = e
front (z ∷ xs) x y (suc k) below e = front xs x y k (omega (arith, below)) e

last : {A : Type 0} (xs : List A) (x y : A) (k : ℕ) → k ≡ length xs → slice_get (xs ++ x ∷ []) k ≡ Some y → x ≡ y
last [] x y zero end e = cc e
last [] x y (suc k) end e = absurd (cc end)
last (z ∷ xs) x y zero end e = absurd (cc end)
last (z ∷ xs) x y (suc k) end e = last xs x y k (omega (arith, end)) e

longer : {A : Type 0} (xs : List A) (x : A) → length (xs ++ x ∷ []) ≡ suc (length xs)
longer [] x = refl
longer (z ∷ xs) x = ap suc (longer xs x)

module _ {F D L : Type 0} (over : filing.Ghosts F D L) (lock : L) (folder : List ℕ) where
  pub none_read : AreSome over lock folder []
  none_read = record { each = λ node files e. absurd (cc e) }

  pub one_more : (found : List NodeFiles) (files : NodeFiles) → AreSome over lock folder found → AreOfNode over lock folder (length found) files
      → AreSome over lock folder (found ++ files ∷ [])
  one_more found files some is = record {
    each = λ node it e. elim (cases_eq node (length found)) [
      | inl at ↦ subst (λ x. AreOfNode over lock folder node x) (last found files it node at e)
          (subst (λ n. AreOfNode over lock folder n files) (sym at) is)
      | inr other ↦
          let within = slice_get_within (found ++ files ∷ []) node it e in
          some.each node it (front found files it node (omega (arith, other, within, longer found files)) e)
    ];
  }
