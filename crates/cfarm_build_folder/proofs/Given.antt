-- Disks of the nodes, one more at a time.
use Rattle.std.proofs.Common.{◌≡◌, ℕ, zero, suc, ◌<◌, List, [], ◌∷◌, ◌++◌, length, Option, Some, refl, sym, ap, subst, arith, inl, inr}
use Rattle.std.specs.Prelude.{String, slice_get}
use Rattle.std.proofs.lemmas.Bool.{cases_eq}
use Rattle.std.proofs.lemmas.Option.{slice_get_within}
use Rattle.cfarm_files.specs.Placing.{GivesNoMore}
use Rattle.cfarm_files.specs.Using.{DiskUse, UsesNone}
use Rattle.cfarm_files.proofs.Uses.{none_uses}
use Rattle.cfarm_build_folder.specs.Disks.{AreGiven, AreSome, HasNoDisk, IsOfNode}
use Rattle.cfarm_build_folder.specs.Named.{AreNamed, ArePathsOf}
use Rattle.cfarm_build_folder.specs.Used.{closings, openings}
use Rattle.cfarm_build_folder.specs.declared.error.BuildingError.{BuildingError}

front : {A : Type 0} (xs : List A) (x y : A) (k : ℕ) → k < length xs → slice_get (xs ++ x ∷ []) k ≡ Some y → slice_get xs k ≡ Some y
front [] x y k below e = absurd (omega (arith, below))
front (z ∷ xs) x y zero below e = e
front (z ∷ xs) x y (suc k) below e = front xs x y k (omega (arith, below)) e

last : {A : Type 0} (xs : List A) (x y : A) (k : ℕ) → k ≡ length xs → slice_get (xs ++ x ∷ []) k ≡ Some y → x ≡ y
last [] x y zero end e = cc e
last [] x y (suc k) end e = absurd (cc end)
last (z ∷ xs) x y zero end e = absurd (cc end)
last (z ∷ xs) x y (suc k) end e = last xs x y k (omega (arith, end)) e

longer : {A : Type 0} (xs : List A) (x : A) → length (xs ++ x ∷ []) ≡ suc (length xs)
longer [] x = refl
longer (z ∷ xs) x = ap suc (longer xs x)

-- the paths of one node more
module _ {Z : Type 0} (folder : List ℕ) where
  pub none_named : AreNamed {Z = Z} folder []
  none_named = λ node paths e. absurd (cc e)

  pub one_named : (nodes : List (String Z × String Z)) (paths : String Z × String Z) → AreNamed folder nodes → ArePathsOf folder (length nodes) paths
      → AreNamed folder (nodes ++ paths ∷ [])
  one_named nodes paths named is = λ node p e. elim (cases_eq node (length nodes)) [
    | inl at ↦ subst (λ x. ArePathsOf folder node x) (last nodes paths p node at e)
        (subst (λ n. ArePathsOf folder n paths) (sym at) is)
    | inr other ↦
        let within = slice_get_within (nodes ++ paths ∷ []) node p e in
        named node p (front nodes paths p node (omega (arith, other, within, longer nodes paths)) e)
  ]

module _ {D : Type 0} (may_give : List ℕ → List ℕ → D → Type 0) (folder : List ℕ) where
  pub none_given : AreSome may_give folder []
  none_given = record { each = λ node disk e. absurd (cc e) }

  pub one_more : (given : List D) (disk : D) → AreSome may_give folder given → IsOfNode may_give folder (length given) disk
      → AreSome may_give folder (given ++ disk ∷ [])
  one_more given disk some gives = record {
    each = λ node d e. elim (cases_eq node (length given)) [
      | inl is ↦ subst (λ x. IsOfNode may_give folder node x) (last given disk d node is e)
          (subst (λ n. IsOfNode may_give folder n disk) (sym is) gives)
      | inr other ↦
          let within = slice_get_within (given ++ disk ∷ []) node d e in
          some.each node d (front given disk d node (omega (arith, other, within, longer given disk)) e)
    ];
  }

-- what was given of files that give no more than before might have been given before
module _ {D : Type 0} (before after : List ℕ → List ℕ → D → Type 0) (no_more : GivesNoMore before after) (folder : List ℕ) where
  some_before : (given : List D) → AreSome after folder given → AreSome before folder given
  some_before given some = record { each = λ node disk at. no_more _ _ disk (some.each node disk at) }

  pub given_before : (count : ℕ) (given : List D) → AreGiven after folder count given → AreGiven before folder count given
  given_before count given are = record { count_is = are.count_is; some = some_before given are.some }

  -- nor was a disk used before
  module _ (used between now_used : Option (List (DiskUse D))) (unused : UsesNone used between) where
    pub refused_before : (count : ℕ) (fault : BuildingError) → HasNoDisk after folder between now_used count fault
        → HasNoDisk before folder used now_used count fault
    refused_before count fault lacks = record {
      given = lacks.given;
      some = some_before lacks.given lacks.some;
      below = lacks.below;
      refused = lacks.refused;
      closed = none_uses used between now_used (openings folder lacks.given ++ closings folder lacks.given) unused lacks.closed;
    }
