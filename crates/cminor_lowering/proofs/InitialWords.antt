-- A term that has a word in C has that word in Cminor.
use Rattle.std.proofs.Common.{rules, ◌≡◌, ℕ, zero, suc, ◌==◌, false, cond, List, [], ◌∷◌, map, Option, Some, None, Result, Ok, Err, refl, sym, ap, ◌∙◌, subst}
use Rattle.std.specs.Prelude.{option_and_then}
use Rattle.std.specs.Option.{option_map}
use Rattle.ints.specs.declared.operators.Op.{Op}
use Rattle.ints.specs.declared.wrong.CWrong.{CWrong}
use Rattle.ints.specs.CTable.{c_table}
use Rattle.ints.specs.MachineTable.{machine_table}
use Rattle.ints.proofs.Agree.{machine_table-c_table}
use Rattle.cminor_syntax.specs.Acts.{pair_of}
use Rattle.c_program.specs.Trees.{TermTree}
use Rattle.c_program.specs.Trees as T
use Rattle.c_program.specs.Values.{computed, cell_of, on_one, on_two, truth, both, either, chosen}
use Rattle.c_program.specs.State as C
use Rattle.cminor_syntax.specs.State as M
use Rattle.cminor_syntax.specs.Evaluation.{word_of, defined, value}
use Rattle.cminor_syntax.specs.Evaluation as E
use Rattle.cminor_lowering.specs.Terms.{low_term}
use Rattle.cminor_lowering.proofs.Sees.{Sees}

-- what C's table gives is there
is_answer : (o : Op) (ws : List ℕ) (w : ℕ) (r : Result ℕ CWrong) → c_table o ws ≡ r → computed o ws ≡ Some w → c_table o ws ≡ Ok w
is_answer o ws w (Ok v) q e = search
is_answer o ws w (Err f) q e = search

-- C's table answers, and so does the machine's
answered : (o : Op) (ws : List ℕ) (w : ℕ) → computed o ws ≡ Some w → machine_table o ws ≡ Some w
answered o ws w e = machine_table-c_table o ws w (is_answer o ws w (c_table o ws) refl e)

-- the word is there in Cminor where it is in C
abbrev pub Keeps : Option ℕ → Option (Option ℕ) → Type 0
Keeps x v = (w : ℕ) → x ≡ Some w → v ≡ Some (Some w)

pub not_zero : (n : ℕ) → (suc n == 0) ≡ false
not_zero n = search (rules)

pub cell_keeps : (globals : List (List ℕ)) (g : ℕ) (x : Option ℕ) (v : Option (Option ℕ)) → Keeps x v → Keeps (option_and_then (cell_of globals g) x) (defined (option_and_then (M.cell globals g) (word_of v)))
cell_keeps globals g None v keeps w e = absurd cc
cell_keeps globals g (Some i) v keeps w e = rw (keeps i refl) (ap defined e)

unary_keeps : (o : Op) (x : Option ℕ) (v : Option (Option ℕ)) → Keeps x v → Keeps (on_one o x) (defined (option_and_then (λ y. machine_table o (y ∷ [])) (word_of v)))
unary_keeps o None v keeps w e = absurd cc
unary_keeps o (Some y) v keeps w e = rw (keeps y refl) (ap defined (answered o (y ∷ []) w e))

pub binary_keeps : (o : Op) (x y : Option ℕ) (u v : Option (Option ℕ)) → Keeps x u → Keeps y v → Keeps (on_two o x y) (defined (option_and_then (machine_table o) (pair_of (word_of u) (word_of v))))
binary_keeps o None y u v keeps also w e = absurd cc
binary_keeps o (Some a) None u v keeps also w e = absurd cc
binary_keeps o (Some a) (Some b) u v keeps also w e = rw (keeps a refl, also b refl) (ap defined (answered o (a ∷ b ∷ []) w e))

-- the first is chosen where the word is not 0
pub first_chosen : (n : ℕ) (u v : Option (Option ℕ)) → E.chosen (Some (suc n)) u v ≡ u
first_chosen n u v = ap (λ b. cond b v u) (not_zero n)

chosen_keeps : (x a b : Option ℕ) (u v z : Option (Option ℕ)) → Keeps x u → Keeps a v → Keeps b z → Keeps (chosen x a b) (E.chosen (word_of u) v z)
chosen_keeps None a b u v z keeps left right w e = absurd cc
chosen_keeps (Some zero) a b u v z keeps left right w e = rw (keeps zero refl) (right w e)
chosen_keeps (Some (suc n)) a b u v z keeps left right w e = rw (keeps (suc n) refl) (first_chosen n v z ∙ left w e)

truth_keeps : (x : Option ℕ) (v : Option (Option ℕ)) → Keeps x v → Keeps (option_map truth x) (E.chosen (word_of v) (Some (Some 1)) (Some (Some 0)))
truth_keeps None v keeps w e = absurd cc
truth_keeps (Some zero) v keeps w e = rw (keeps zero refl) (ap (λ y. Some y) e)
truth_keeps (Some (suc n)) v keeps w e = rw (keeps (suc n) refl) (first_chosen n (Some (Some 1)) (Some (Some 0)) ∙ ap (λ y. Some y) e)

both_keeps : (x y : Option ℕ) (u v : Option (Option ℕ)) → Keeps x u → Keeps y v → Keeps (both x y) (E.chosen (word_of u) (E.chosen (word_of v) (Some (Some 1)) (Some (Some 0))) (Some (Some 0)))
both_keeps None y u v keeps also w e = absurd cc
both_keeps (Some zero) y u v keeps also w e = rw (keeps zero refl) (ap (λ y. Some y) e)
both_keeps (Some (suc n)) y u v keeps also w e =
    rw (keeps (suc n) refl) (first_chosen n (E.chosen (word_of v) (Some (Some 1)) (Some (Some 0))) (Some (Some 0)) ∙ truth_keeps y v also w e)

either_keeps : (x y : Option ℕ) (u v : Option (Option ℕ)) → Keeps x u → Keeps y v → Keeps (either x y) (E.chosen (word_of u) (Some (Some 1)) (E.chosen (word_of v) (Some (Some 1)) (Some (Some 0))))
either_keeps None y u v keeps also w e = absurd cc
either_keeps (Some zero) y u v keeps also w e = rw (keeps zero refl) (truth_keeps y v also w e)
either_keeps (Some (suc n)) y u v keeps also w e =
    rw (keeps (suc n) refl) (first_chosen n (Some (Some 1)) (E.chosen (word_of v) (Some (Some 1)) (Some (Some 0))) ∙ ap (λ y. Some y) e)

module _ (spare : ℕ) (s : C.State) (t : M.State) (sees : Sees spare s t) where
  pub value_keeps : (e : TermTree) → Keeps (C.word e s) (value (low_term e) t)
  value_keeps (T.Constant n) w e = ap (λ y. Some y) e
  value_keeps (T.Local n) w e = ap (λ y. Some y) (sees.holds n w e)
  value_keeps (T.Cell g i) w e =
      subst (λ globals. defined (option_and_then (M.cell globals g) (word_of (value (low_term i) t))) ≡ Some (Some w)) (sym sees.shares.globals)
      (cell_keeps s.globals g (C.word i s) (value (low_term i) t) (value_keeps i) w e)
  value_keeps (T.Unary o a) w e = unary_keeps o (C.word a s) (value (low_term a) t) (value_keeps a) w e
  value_keeps (T.Binary o a b) w e = binary_keeps o (C.word a s) (C.word b s) (value (low_term a) t) (value (low_term b) t) (value_keeps a) (value_keeps b) w e
  value_keeps (T.Both a b) w e = both_keeps (C.word a s) (C.word b s) (value (low_term a) t) (value (low_term b) t) (value_keeps a) (value_keeps b) w e
  value_keeps (T.Either a b) w e = either_keeps (C.word a s) (C.word b s) (value (low_term a) t) (value (low_term b) t) (value_keeps a) (value_keeps b) w e
  value_keeps (T.Conditional c a b) w e =
      chosen_keeps (C.word c s) (C.word a s) (C.word b s) (value (low_term c) t) (value (low_term a) t) (value (low_term b) t) (value_keeps c) (value_keeps a) (value_keeps b) w e

  pub word_keeps : (e : TermTree) (w : ℕ) → C.word e s ≡ Some w → E.word (low_term e) t ≡ Some w
  word_keeps e w h = ap word_of (value_keeps e w h)

  before_keeps : (x : Option ℕ) (xs : Option (List ℕ)) (v : Option (Option ℕ)) (vs : Option (List (Option ℕ))) → Keeps x v →
      ((ws : List ℕ) → xs ≡ Some ws → vs ≡ Some (map Some ws)) → (ws : List ℕ) → C.before x xs ≡ Some ws → E.before v vs ≡ Some (map Some ws)
  before_keeps None xs v vs keeps also ws e = absurd cc
  before_keeps (Some w) None v vs keeps also ws e = absurd cc
  before_keeps (Some w) (Some us) v vs keeps also ws e = rw (keeps w refl, also us refl) (ap (λ o. option_map (map Some) o) e)

  -- arguments that have words in C have them in Cminor
  pub words_keep : (es : List TermTree) (ws : List ℕ) → C.words es s ≡ Some ws → E.values (map low_term es) t ≡ Some (map Some ws)
  words_keep [] ws e = ap (λ o. option_map (map Some) o) e
  words_keep (e ∷ es) ws h = before_keeps (C.word e s) (C.words es s) (value (low_term e) t) (E.values (map low_term es) t) (value_keeps e) (words_keep es) ws h
