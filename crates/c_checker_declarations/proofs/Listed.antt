-- Initial expressions one behind the other, as a loop reads them.
use Rattle.std.proofs.Common.{◌≡◌, ℕ, suc, ◌+◌, ◌≤◌, ◌<◌, List, [], ◌∷◌, ◌++◌, length, drop, map, sym, ap, ◌∙◌, append_assoc, append-nil, subst, arith}
use Rattle.std.proofs.Math.ListN.{get_or, drop_of_length-le}
use Rattle.c_syntax.specs.declared.declaration.Initial.{Initial}
use Rattle.c_syntax.specs.Views.{initial_tree}
use Rattle.c_checker_rules.specs.declared.errors.CheckError.{CheckError}
use Rattle.c_checker_rules.specs.Told.{Tells}
use Rattle.c_checker_rules.specs.Names.{Scope}
use Rattle.c_checker_rules.specs.Globals.{initial_faults, initials_faults, initial_words, or_zero, constant_of}
use Rattle.c_checker_rules.proofs.Firsts.{tells_front}
use Rattle.c_checker_rules.proofs.Lists.{drop_next}

-- What is left has the faults of the whole, and its words end those of the whole.
pub record IsUnderWay (scope : Scope) (all : List Initial) (words : List ℕ) (rest : List Initial) : Type 0 where
  pub faults : initials_faults scope (map initial_tree all) ≡ initials_faults scope (map initial_tree rest)
  pub values : initial_words scope (map initial_tree all) ≡ words ++ initial_words scope (map initial_tree rest)

module _ (scope : Scope) (all : List Initial) where
  pub goes_on : (words : List ℕ) (i : ℕ) (x : Initial) (w : ℕ) → i < length all → x ≡ get_or all i x → IsUnderWay scope all words (drop i all) →
      initial_faults scope (initial_tree x) ≡ [] → w ≡ or_zero (constant_of scope (initial_tree x).value) →
      IsUnderWay scope all (words ++ w ∷ []) (drop (i + 1) all)
  goes_on words i x w within item so_far none worth =
      let next : drop i all ≡ x ∷ drop (i + 1) all = drop_next all i x within item in
      let behind = map initial_tree (drop (i + 1) all) in
      record {
        faults = so_far.faults ∙ ap (λ l. initials_faults scope (map initial_tree l)) next ∙ ap (λ l. l ++ initials_faults scope behind) none;
        values = so_far.values ∙ ap (λ l. words ++ initial_words scope (map initial_tree l)) next
            ∙ ap (λ v. words ++ v ∷ initial_words scope behind) (sym worth) ∙ sym (append_assoc words (w ∷ []) (initial_words scope behind));
      }

  pub stops : (e : CheckError) (words : List ℕ) (i : ℕ) (x : Initial) → i < length all → x ≡ get_or all i x → IsUnderWay scope all words (drop i all) →
      Tells e (initial_faults scope (initial_tree x)) → Tells e (initials_faults scope (map initial_tree all))
  stops e words i x within item so_far told =
      let next : drop i all ≡ x ∷ drop (i + 1) all = drop_next all i x within item in
      let whole = so_far.faults ∙ ap (λ l. initials_faults scope (map initial_tree l)) next in
      subst (λ l. Tells e l) (sym whole) (tells_front e (initial_faults scope (initial_tree x)) (initials_faults scope (map initial_tree (drop (i + 1) all))) told)

  pub none_left : (words : List ℕ) (i : ℕ) → length all ≤ i → IsUnderWay scope all words (drop i all) → initials_faults scope (map initial_tree all) ≡ []
  none_left words i past so_far = so_far.faults ∙ ap (λ l. initials_faults scope (map initial_tree l)) (drop_of_length-le all past)

  pub all_read : (words : List ℕ) (i : ℕ) → length all ≤ i → IsUnderWay scope all words (drop i all) → words ≡ initial_words scope (map initial_tree all)
  all_read words i past so_far =
      sym (so_far.values ∙ ap (λ l. words ++ initial_words scope (map initial_tree l)) (drop_of_length-le all past) ∙ append-nil words)
