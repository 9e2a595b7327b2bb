-- The lowest node with which something is wrong: position by position, and of two tests together.
use Rattle.std.proofs.Common.{ℕ, ◌+◌, List, Option, Some, None, get_or, refl, sym, ap, subst, arith, inl, inr}
use Rattle.std.specs.Prelude.{◌↔◌, slice_index}
use Rattle.std.proofs.lemmas.Bool.{cases_lt, cases_eq}
use Rattle.linearize_check.specs.Faults.{TellsLowest, lesser}

-- one more position at which all is right
pub lowest-right : (Right : ℕ → Type 0) (order : List ℕ) (i : ℕ) (found : Option ℕ) → Right i → TellsLowest Right order i found → TellsLowest Right order (i + 1) found
lowest-right Right order i None right h = λ k below. elim (cases_eq k i) [ inl e ↦ subst Right (sym e) right | inr other ↦ h k (omega arith) ]
lowest-right Right order i (Some n) right h = record {
  position = h.position;
  within = omega (arith, h.within);
  node = h.node;
  wrong = h.wrong;
  lower = λ k below lower. elim (cases_eq k i) [ inl e ↦ subst Right (sym e) right | inr other ↦ h.lower k (omega arith) lower ];
}

-- one more position at which something is wrong
pub lowest-wrong : (Right : ℕ → Type 0) (order : List ℕ) (i : ℕ) (found : Option ℕ) → ¬ Right i → TellsLowest Right order i found → TellsLowest Right order (i + 1) (lesser found (Some (slice_index order i)))
lowest-wrong Right order i None wrong h = record {
  position = i;
  within = omega arith;
  node = refl;
  wrong = wrong;
  lower = λ k below lower. elim (cases_eq k i) [ inl e ↦ absurd (omega (arith, ap (λ j. get_or order j 0) e)) | inr other ↦ h k (omega arith) ];
}
lowest-wrong Right order i (Some n) wrong h =
    elim (cases_lt (slice_index order i) n) [
      | inl less ↦ record {
        position = i;
        within = omega arith;
        node = omega arith;
        wrong = wrong;
        lower = λ k below lower. elim (cases_eq k i) [ inl e ↦ absurd (omega (arith, ap (λ j. get_or order j 0) e)) | inr other ↦ h.lower k (omega arith) (omega arith) ];
      }
      | inr more ↦ record {
        position = h.position;
        within = omega (arith, h.within);
        node = omega (arith, h.node);
        wrong = h.wrong;
        lower = λ k below lower. elim (cases_eq k i) [ inl e ↦ absurd (omega (arith, ap (λ j. get_or order j 0) e)) | inr other ↦ h.lower k (omega arith) (omega arith) ];
      }
    ]

-- a test that says the same
pub lowest-same : (P Q : ℕ → Type 0) (order : List ℕ) (count : ℕ) (found : Option ℕ) → ((i : ℕ) → P i ↔ Q i) → TellsLowest P order count found → TellsLowest Q order count found
lowest-same P Q order count None same h = λ i below. (same i).0 (h i below)
lowest-same P Q order count (Some n) same h = record {
  position = h.position;
  within = h.within;
  node = h.node;
  wrong = λ right. h.wrong ((same h.position).1 right);
  lower = λ i below lower. (same i).0 (h.lower i below lower);
}

-- two tests together
pub lowest-both : (P Q : ℕ → Type 0) (order : List ℕ) (count : ℕ) (a b : Option ℕ) → TellsLowest P order count a → TellsLowest Q order count b → TellsLowest (λ i. P i × Q i) order count (lesser a b)
lowest-both P Q order count None None p q = λ i below. (p i below, q i below)
lowest-both P Q order count None (Some n) p q = record {
  position = q.position;
  within = q.within;
  node = q.node;
  wrong = λ both. q.wrong both.1;
  lower = λ i below lower. (p i below, q.lower i below lower);
}
lowest-both P Q order count (Some m) None p q = record {
  position = p.position;
  within = p.within;
  node = p.node;
  wrong = λ both. p.wrong both.0;
  lower = λ i below lower. (p.lower i below lower, q i below);
}
lowest-both P Q order count (Some m) (Some n) p q =
    elim (cases_lt m n) [
      | inl less ↦ record {
        position = p.position;
        within = p.within;
        node = omega (arith, p.node);
        wrong = λ both. p.wrong both.0;
        lower = λ i below lower. (p.lower i below (omega arith), q.lower i below (omega arith));
      }
      | inr more ↦ record {
        position = q.position;
        within = q.within;
        node = omega (arith, q.node);
        wrong = λ both. q.wrong both.1;
        lower = λ i below lower. (p.lower i below (omega arith), q.lower i below (omega arith));
      }
    ]
