-- Demands of equations behind a block, one after the other.
use Rattle.std.proofs.Common.{◌≡◌, ℕ, ◌+◌, ◌<◌, List, [], ◌∷◌, ◌++◌, length, get_or, take, true, false, refl, sym, ap, ◌∙◌, arith}
use Rattle.std.specs.Prelude.{map, ◌||◌}
use Rattle.std.specs.List.{flat_map, list_any}
use Rattle.std.proofs.lemmas.List.{length-map, get_or-map, map-append, append_assoc, append-nil, take_more}
use Rattle.std.proofs.lemmas.List.Concat.{flat_map-append}
use Rattle.std.proofs.lemmas.List.Folds.{list_any-append, list_any_at}
use Rattle.alloc_check_rules.specs.Block.{Block}
use Rattle.alloc_check_rules.specs.declared.equation.Equation.{Equation}
use Rattle.alloc_check_rules.specs.declared.change.Change.{Change}
use Rattle.alloc_check_rules.specs.Equations.{back_equation, demand}
use Rattle.alloc_check_fill.specs.Fill.{is_refused, needs_of, demands}

module _ (b : Block) (change : Change) where
  -- what equations demand before the block
  abbrev pub demanded : List Equation → List Equation
  demanded es = map (back_equation b.before) (flat_map needs_of (demands b change es))

  -- so far: none of the first ones is refused, and what they demand was added
  pub record IsSoFar (es : List Equation) (k : ℕ) (before after : List Equation) : Type 0 where
    pub kept : list_any is_refused (demands b change (take k es)) ≡ false
    pub added : after ≡ before ++ demanded (take k es)

  module _ (es : List Equation) (k : ℕ) (d : Equation) (below : k < length es) where
    abbrev e : Equation
    e = get_or es k d

    demands_more : demands b change (take (k + 1) es) ≡ demands b change (take k es) ++ demand b.body change e ∷ []
    demands_more = ap (demands b change) (take_more es k d below) ∙ map-append (demand b.body change) (take k es) (e ∷ [])

    demanded_more : demanded (take (k + 1) es) ≡ demanded (take k es) ++ map (back_equation b.before) (needs_of (demand b.body change e))
    demanded_more =
        ap (λ ds. map (back_equation b.before) (flat_map needs_of ds)) demands_more
        ∙ ap (map (back_equation b.before)) (flat_map-append needs_of (demands b change (take k es)) (demand b.body change e ∷ []))
        ∙ map-append (back_equation b.before) (flat_map needs_of (demands b change (take k es))) (needs_of (demand b.body change e) ++ [])
        ∙ ap (λ xs. demanded (take k es) ++ map (back_equation b.before) xs) (append-nil (needs_of (demand b.body change e)))

    refused_more : list_any is_refused (demands b change (take (k + 1) es)) ≡ (list_any is_refused (demands b change (take k es)) || (is_refused (demand b.body change e) || false))
    refused_more = ap (list_any is_refused) demands_more ∙ list_any-append is_refused (demands b change (take k es)) (demand b.body change e ∷ [])

    pub so_far_more : (before after next : List Equation) → IsSoFar es k before after → is_refused (demand b.body change e) ≡ false → next ≡ after ++ map (back_equation b.before) (needs_of (demand b.body change e)) → IsSoFar es (k + 1) before next
    so_far_more before after next far not_refused is = record {
      kept = refused_more ∙ ap (λ r. r || (is_refused (demand b.body change e) || false)) far.kept ∙ ap (λ r. r || false) not_refused;
      added =
          is
          ∙ ap (λ xs. xs ++ map (back_equation b.before) (needs_of (demand b.body change e))) far.added
          ∙ append_assoc before (demanded (take k es)) (map (back_equation b.before) (needs_of (demand b.body change e)))
          ∙ ap (λ xs. before ++ xs) (sym demanded_more);
    }

  pub so_far_none : (es before : List Equation) → IsSoFar es 0 before before
  so_far_none es before = record { kept = refl; added = sym (append-nil before) }

  -- one that is refused is so in the whole list
  pub refused_here : (es : List Equation) (k : ℕ) (d : Equation) → k < length es → is_refused (demand b.body change (get_or es k d)) ≡ true → list_any is_refused (demands b change es) ≡ true
  refused_here es k d below refused =
      list_any_at is_refused (demands b change es) k (demand b.body change d) (omega (arith, below, length-map es (demand b.body change)))
      (ap is_refused (get_or-map (demand b.body change) es k d (demand b.body change d) below) ∙ refused)
