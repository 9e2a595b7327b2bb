-- A cell of a global is updated in Cminor as in C: the spare variable holds its index.
use Rattle.std.proofs.Common.{◌≡◌, ℕ, Option, Some, None, refl, sym, ap, ◌∙◌, subst}
use Rattle.std.specs.Prelude.{option_and_then}
use Rattle.ints.specs.declared.operators.Op.{Op}
use Rattle.c_program.specs.Trees.{TermTree}
use Rattle.c_program.specs.Values.{cell_of, on_two}
use Rattle.c_program.specs.State as S
use Rattle.c_program.specs.Meaning as C
use Rattle.cminor_syntax.specs.Trees.{ExpressionTree, StatementTree, Variable, Load, Binary, Store, Done, First}
use Rattle.cminor_syntax.specs.State as V
use Rattle.cminor_syntax.specs.Evaluation as E
use Rattle.cminor_syntax.specs.Meaning as M
use Rattle.cminor_lowering.specs.Terms.{low_term}
use Rattle.cminor_lowering.specs.Actions.{update}
use Rattle.cminor_lowering.proofs.Sees.{Sees, sees_spare, spare_held}
use Rattle.cminor_lowering.proofs.InitialWords.{Keeps, value_keeps, cell_keeps, binary_keeps}
use Rattle.cminor_lowering.proofs.Follows.{Follows, closed_follows}
use Rattle.cminor_lowering.proofs.Given.{stores_follow}

module _ (spare : ℕ) (lower : M.Level) (s : S.State) (t : V.State) (sees : Sees spare s t) (g : ℕ) (i : TermTree) (o : Op) (e : TermTree) where
  -- the cell's new word
  abbrev new : ExpressionTree
  new = Binary o (Load g (Variable spare)) (low_term e)

  -- the state once the spare variable holds the index
  abbrev held : ℕ → V.State
  held a = V.given (Some spare) (Some a) t

  abbrev stored : StatementTree
  stored = Store g (Variable spare) new

  index_held : (a : ℕ) → V.held spare (held a) ≡ Some a
  index_held a = spare_held spare a t sees.space

  -- the cell has its word in Cminor
  cell_held : (a : ℕ) → Keeps (cell_of s.globals g a) (E.value (Load g (Variable spare)) (held a))
  cell_held a w q =
      subst (λ globals. E.defined (option_and_then (V.cell globals g) (V.held spare (held a))) ≡ Some (Some w)) (sym sees.shares.globals)
      (cell_keeps s.globals g (Some a) (Some (V.held spare (held a))) (λ v r. ap (λ x. Some x) (index_held a ∙ r)) w q)

  new_keeps : (a : ℕ) → Keeps (on_two o (cell_of s.globals g a) (S.word e s)) (E.value new (held a))
  new_keeps a =
      binary_keeps o (cell_of s.globals g a) (S.word e s) (E.value (Load g (Variable spare)) (held a)) (E.value (low_term e) (held a)) (cell_held a)
      (value_keeps spare s (held a) (sees_spare spare a s t sees) e)

  stored_follows : (a : ℕ) (x : Option ℕ) → on_two o (cell_of s.globals g a) (S.word e s) ≡ x → Follows spare (C.stores g s (Some a) x) (M.exec lower stored (held a))
  stored_follows a None q = tt
  stored_follows a (Some w) q =
      let becomes = C.stores g s (Some a) (Some w) in
      subst (λ x. Follows spare becomes (M.stores g (held a) x (E.word new (held a)))) (sym (index_held a))
      (subst (λ x. Follows spare becomes (M.stores g (held a) (Some a) x)) (sym (ap E.word_of (new_keeps a w q))) (stores_follow spare g a w s (held a) (sees_spare spare a s t sees)))

  pub update_follows : Follows spare (C.updates g o s (S.word i s) (S.word e s)) (M.exec lower (update spare g (low_term i) o (low_term e)) t)
  update_follows = at (S.word i s) refl
    where
      at : (x : Option ℕ) → S.word i s ≡ x → Follows spare (C.updates g o s x (S.word e s)) (M.exec lower (update spare g (low_term i) o (low_term e)) t)
      at None q = tt
      at (Some a) q =
          let becomes = C.stores g s (Some a) (on_two o (cell_of s.globals g a) (S.word e s)) in
          subst (λ x. Follows spare becomes (M.goes_on (M.exec_all lower (First stored Done)) (M.assigns spare t x))) (sym (value_keeps spare s t sees i a q))
          (closed_follows spare lower becomes (M.exec lower stored (held a)) (stored_follows a (on_two o (cell_of s.globals g a) (S.word e s)) refl))
