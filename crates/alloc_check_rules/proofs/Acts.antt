-- What an act does, the act that stands for it does with locations that hold the same words.
use Rattle.std.proofs.Common.{◌≡◌, ℕ, ◌%◌, List, [], ◌∷◌, ◌++◌, length, set, Option, Some, None, Bool, true, false, cond, eqb, ◌&&◌, refl, sym, ap, ◌∙◌, subst, arith}
use Rattle.std.specs.Prelude.{All, option_and_then, slice_get, nat_lt}
use Rattle.std.specs.Option.{option_map}
use Rattle.std.proofs.lemmas.Bool.{eqb-true, and_parts}
use Rattle.ints.specs.declared.operators.Op.{Op}
use Rattle.ints.specs.declared.conditions.Cond.{Cond}
use Rattle.ints.specs.Codes.{code_of, op_of_code}
use Rattle.ints.specs.Conditions.{cond_code_of, cond_of_code}
use Rattle.ints.specs.MachineTable.{machine_table}
use Rattle.ints.specs.CondTable.{cond_table}
use Rattle.ints.proofs.Codes.{op_of_code-code_of}
use Rattle.ints.proofs.CondCodes.{cond_of_code-cond_code_of}
use Rattle.locations.specs.declared.location.Location.TheVariants.{InRegister}
use Rattle.rtl_passes.specs.Arguments.{Arguments}
use Rattle.rtl_passes.specs.Arguments.TheVariants.{One, Two}
use Rattle.rtl_passes.specs.Act.{Act}
use Rattle.rtl_passes.specs.Act.TheVariants.{Nop, Constant, Move, Operate, Load, Store, Put}
use Rattle.rtl_passes.specs.Test.{Test}
use Rattle.rtl_passes.specs.Data as rtl_data
use Rattle.rtl_passes.specs.Acts as rtl_acts
use Rattle.ltl.specs.Arguments as machine_arguments
use Rattle.ltl.specs.Arguments.TheVariants as arguments
use Rattle.ltl.specs.Act as machine_act
use Rattle.ltl.specs.Act.TheVariants as act
use Rattle.ltl.specs.Test as machine_test
use Rattle.ltl.specs.Data.{Data, value_at, put_at}
use Rattle.ltl.specs.Acts.{pair_of, words_of, given, word_in, changed, stored, printing, holds}
use Rattle.ltl.specs.Meaning.{does_any}
use Rattle.alloc_check_rules.specs.declared.change.Change.{Change}
use Rattle.alloc_check_rules.specs.declared.change.Change.TheVariants.{Nothing, Defines, Drops, Copies}
use Rattle.alloc_check_rules.specs.Pairs.{same_number, result_change, act_change, same_test, in_register, arguments_used, act_uses}
use Rattle.alloc_check_rules.specs.Holding.{Covers, Holds}
use Rattle.alloc_check_rules.specs.Steps.{IsDone}
use Rattle.alloc_check_rules.proofs.Locations.{covers_itself}
use Rattle.alloc_check_rules.proofs.Changes.{locations_themselves}

-- a test that came out so
pub cond_some : {A : Type 0} (b : Bool) (x : Option A) (c : A) → cond b x None ≡ Some c → (b ≡ true) × (x ≡ Some c)
cond_some true x c e = (refl, e)
cond_some false x c e = cc (e)

-- nothing is not something
none_some : {A B : Type 0} (x : A) → None ≡ Some x → B
none_some x is = absurd cc

-- equal codes are of one operator, and of one condition
op_is : (a b : Op) → code_of a ≡ code_of b → a ≡ b
op_is a b e = let one : Some a ≡ Some b = sym (op_of_code-code_of a) ∙ ap op_of_code e ∙ op_of_code-code_of b in cc

cond_is : (a b : Cond) → cond_code_of a ≡ cond_code_of b → a ≡ b
cond_is a b e = let one : Some a ≡ Some b = sym (cond_of_code-cond_code_of a) ∙ ap cond_of_code e ∙ cond_of_code-cond_code_of b in cc

-- ---- words

pair_covered : (x y x' y' : Option ℕ) → Covers x x' → Covers y y' → (ws : List ℕ) → rtl_acts.pair_of x y ≡ Some ws → pair_of x' y' ≡ Some ws
pair_covered None y x' y' cx cy ws e = cc (e)
pair_covered (Some a) None x' y' cx cy ws e = cc (e)
pair_covered (Some a) (Some b) x' y' cx cy ws e = ap (λ x. pair_of x y') (cx.by a refl) ∙ ap (pair_of (Some a)) (cy.by b refl) ∙ e

one_covered : (x x' : Option ℕ) → Covers x x' → (ws : List ℕ) → option_map (λ w. w ∷ []) x ≡ Some ws → option_map (λ w. w ∷ []) x' ≡ Some ws
one_covered None x' c ws e = cc (e)
one_covered (Some a) x' c ws e = ap (option_map (λ w. w ∷ [])) (c.by a refl) ∙ e

table_covered : {A : Type 0} (f : A → Option ℕ) (o o' : Option A) → ((x : A) → o ≡ Some x → o' ≡ Some x) → Covers (option_and_then f o) (option_and_then f o')
table_covered f None o' same = record { by = λ w e. cc (e) }
table_covered f (Some x) o' same = record { by = λ w e. ap (option_and_then f) (same x refl) ∙ e }

word_same : (c : Option (List ℕ)) (i : ℕ) → word_in c i ≡ rtl_acts.word_in c i
word_same None i = refl
word_same (Some cells) i = refl

cell_covered : (c c' : Option (List ℕ)) → c' ≡ c → (x x' : Option ℕ) → Covers x x' → Covers (option_and_then (rtl_acts.word_in c) x) (option_and_then (word_in c') x')
cell_covered c c' same None x' cx = record { by = λ w e. cc (e) }
cell_covered c c' same (Some i) x' cx = record {
  by = λ w e. ap (option_and_then (word_in c')) (cx.by i refl) ∙ ap (λ o. word_in o i) same ∙ word_same c i ∙ e;
}

module _ (d : rtl_data.Data) (e : Data) where
  pub words_covered : (names : Arguments) (locations : machine_arguments.Arguments) → same_number names locations ≡ true → All (Holds d e) (arguments_used names locations) → (ws : List ℕ) → rtl_acts.words_of names d ≡ Some ws → words_of locations e ≡ Some ws
  words_covered (One a) (arguments.One k) is used ws known =
      one_covered (rtl_data.value_at a d) (value_at (InRegister k) e) (used 0 (in_register a k) (omega arith)) ws known
  words_covered (One a) (arguments.Two k m) is used ws known = cc (is)
  words_covered (Two a b) (arguments.One k) is used ws known = cc (is)
  words_covered (Two a b) (arguments.Two k m) is used ws known =
      pair_covered (rtl_data.value_at a d) (rtl_data.value_at b d) (value_at (InRegister k) e) (value_at (InRegister m) e)
      (used 0 (in_register a k) (omega arith)) (used 1 (in_register b m) (omega arith)) ws known

  -- a test that has an answer has the same
  pub test_covered : (test : Test) (other : machine_test.Test) → same_test test other ≡ true → All (Holds d e) (arguments_used test.arguments other.arguments) → (answer : Bool) → rtl_acts.holds test d ≡ Some answer → holds other e ≡ Some answer
  test_covered test other is used answer known = at (rtl_acts.words_of test.arguments d) refl known
    where
      at : (o : Option (List ℕ)) → rtl_acts.words_of test.arguments d ≡ o → option_map (cond_table test.condition) o ≡ Some answer → holds other e ≡ Some answer
      at None words known = cc (known)
      at (Some ws) words known =
          let both = and_parts (eqb (cond_code_of test.condition) (cond_code_of other.condition)) (same_number test.arguments other.arguments) is in
          let condition : test.condition ≡ other.condition = cond_is test.condition other.condition (eqb-true (cond_code_of test.condition) (cond_code_of other.condition) both.0) in
          ap (option_map (cond_table other.condition)) (words_covered test.arguments other.arguments both.1 used ws words)
          ∙ ap (λ c. option_map (cond_table c) (Some ws)) (sym condition)
          ∙ known

-- ---- acts

module _ (d : rtl_data.Data) (e : Data) (globals : e.globals ≡ d.globals) (output : e.output ≡ d.output) where
  given_done : (target k : ℕ) (x x' : Option ℕ) → Covers x x' → (d' : rtl_data.Data) → rtl_acts.given target d x ≡ Some d' → IsDone (Defines target (InRegister k)) d e d' (given k e x')
  given_done target k None x' c d' done = cc (done)
  given_done target k (Some w) x' c d' done =
      let same : rtl_data.put_at target (Some w) d ≡ d' = cc in
      subst (λ x. IsDone (Defines target (InRegister k)) d e x (given k e x')) same (
      record {
        left = put_at (InRegister k) (Some w) e;
        is = ap (given k e) (c.by w refl);
        defines = record { first = Some w; second = Some w; covers = covers_itself (Some w); registers = refl; locations = locations_themselves (put_at (InRegister k) (Some w) e) };
        globals = globals;
        output = output;
      }
      )

  dropped_done : (target : ℕ) (x : Option ℕ) (d' : rtl_data.Data) → rtl_acts.given target d x ≡ Some d' → IsDone (Drops target) d e d' (Some e)
  dropped_done target None d' done = cc (done)
  dropped_done target (Some w) d' done =
      let same : rtl_data.put_at target (Some w) d ≡ d' = cc in
      subst (λ x. IsDone (Drops target) d e x (Some e)) same
      (record { left = e; is = refl; defines = record { value = Some w; registers = refl; locations = locations_themselves e }; globals = globals; output = output })

  changed_done : (g i w : ℕ) (c c' : Option (List ℕ)) → c' ≡ c → (d' : rtl_data.Data) → rtl_acts.changed d g i w c ≡ Some d' → IsDone Nothing d e d' (changed e g i w c')
  changed_done g i w None c' same d' done = cc (done)
  changed_done g i w (Some cells) c' same d' done =
      subst (λ c. IsDone Nothing d e d' (changed e g i w c)) (sym same) (at (nat_lt i (length cells)) done)
    where
      first : rtl_data.Data
      first = record d { globals = set d.globals g (set cells i w) }

      second : Data
      second = record e { globals = set e.globals g (set cells i w) }

      at : (b : Bool) → cond b (Some first) None ≡ Some d' → IsDone Nothing d e d' (cond b (Some second) None)
      at false done = cc (done)
      at true done =
          let is : first ≡ d' = cc in
          subst (λ x. IsDone Nothing d e x (Some second)) is (
          record {
            left = second;
            is = refl;
            defines = record { registers = refl; locations = record { registers = refl; slots = refl } };
            globals = ap (λ gs. set gs g (set cells i w)) globals;
            output = output;
          }
          )

  stored_done : (g : ℕ) (x y x' y' : Option ℕ) → Covers x x' → Covers y y' → (d' : rtl_data.Data) → rtl_acts.stored d g x y ≡ Some d' → IsDone Nothing d e d' (stored e g x' y')
  stored_done g None y x' y' cx cy d' done = cc (done)
  stored_done g (Some i) None x' y' cx cy d' done = cc (done)
  stored_done g (Some i) (Some w) x' y' cx cy d' done =
      let at : stored e g x' y' ≡ changed e g i w (slice_get e.globals g) = ap (λ x. stored e g x y') (cx.by i refl) ∙ ap (stored e g (Some i)) (cy.by w refl) in
      subst (IsDone Nothing d e d') (sym at)
      (changed_done g i w (slice_get d.globals g) (slice_get e.globals g) (ap (λ gs. slice_get gs g) globals) d' done)

  printed_done : (target location : Option ℕ) (change : Change) → result_change target (option_map (λ r. InRegister r) location) ≡ Some change → (w : ℕ) → IsDone change d e (rtl_acts.printing target d w) (Some (printing location e w))
  printed_done None None change is w =
      let same : Nothing ≡ change = cc in
      subst (λ c. IsDone c d e (rtl_acts.printing None d w) (Some (printing None e w))) same (
      record {
        left = printing None e w;
        is = refl;
        defines = record { registers = refl; locations = record { registers = refl; slots = refl } };
        globals = globals;
        output = ap (λ o. o ++ w % 256 ∷ []) output;
      }
      )
  printed_done None (Some k) change is w = cc (is)
  printed_done (Some r) None change is w = cc (is)
  printed_done (Some r) (Some k) change is w =
      let same : Defines r (InRegister k) ≡ change = cc in
      subst (λ c. IsDone c d e (rtl_acts.printing (Some r) d w) (Some (printing (Some k) e w))) same (
      record {
        left = printing (Some k) e w;
        is = refl;
        defines = record { first = Some (w % 256); second = Some (w % 256); covers = covers_itself (Some (w % 256)); registers = refl; locations = record { registers = refl; slots = refl } };
        globals = globals;
        output = ap (λ o. o ++ w % 256 ∷ []) output;
      }
      )

  put_done : (target location : Option ℕ) (change : Change) → result_change target (option_map (λ r. InRegister r) location) ≡ Some change → (x x' : Option ℕ) → Covers x x' → (d' : rtl_data.Data) → option_map (rtl_acts.printing target d) x ≡ Some d' → IsDone change d e d' (option_map (printing location e) x')
  put_done target location change is None x' c d' done = cc (done)
  put_done target location change is (Some w) x' c d' done =
      let same : rtl_acts.printing target d w ≡ d' = cc in
      subst (λ o. IsDone change d e d' (option_map (printing location e) o)) (sym (c.by w refl))
      (subst (λ x. IsDone change d e x (Some (printing location e w))) same (printed_done target location change is w))

  defined_as : (target k : ℕ) (b : Bool) (change : Change) → cond b (Some (Defines target (InRegister k))) None ≡ Some change → (d' : rtl_data.Data) (o : Option Data) → (b ≡ true → IsDone (Defines target (InRegister k)) d e d' o) → IsDone change d e d' o
  defined_as target k b change is d' o done =
      let parts = cond_some b (Some (Defines target (InRegister k))) change is in
      let same : Defines target (InRegister k) ≡ change = let e = parts.1 in cc in
      subst (λ c. IsDone c d e d' o) same (done parts.0)

  -- an act and the one that stands for it
  pub act_done : (a : Act) (b : Option machine_act.Act) (change : Change) → act_change a b ≡ Some change → All (Holds d e) (act_uses a b) → (d' : rtl_data.Data) → rtl_acts.does a d ≡ Some d' → IsDone change d e d' (does_any b e)
  act_done Nop None change is used d' done =
      let same : Nothing ≡ change = cc in
      let left : d ≡ d' = cc in
      subst (λ c. IsDone c d e d' (Some e)) same
      (subst (λ x. IsDone Nothing d e x (Some e)) left
      (record { left = e; is = refl; defines = record { registers = refl; locations = locations_themselves e }; globals = globals; output = output }))
  act_done (Move target source) None change is used d' done =
      let same : Copies target source ≡ change = cc in
      let left : rtl_data.put_at target (rtl_data.value_at source d) d ≡ d' = cc in
      subst (λ c. IsDone c d e d' (Some e)) same
      (subst (λ x. IsDone (Copies target source) d e x (Some e)) left
      (record { left = e; is = refl; defines = record { registers = refl; locations = locations_themselves e }; globals = globals; output = output }))
  act_done (Constant target word) None change is used d' done =
      let same : Drops target ≡ change = cc in
      subst (λ c. IsDone c d e d' (Some e)) same (dropped_done target (Some word) d' done)
  act_done (Operate op target names) None change is used d' done =
      let same : Drops target ≡ change = cc in
      subst (λ c. IsDone c d e d' (Some e)) same (dropped_done target (option_and_then (machine_table op) (rtl_acts.words_of names d)) d' done)
  act_done (Load target global index) None change is used d' done =
      let same : Drops target ≡ change = cc in
      subst (λ c. IsDone c d e d' (Some e)) same (dropped_done target (option_and_then (rtl_acts.word_in (slice_get d.globals global)) (rtl_data.value_at index d)) d' done)
  act_done (Constant target word) (Some (act.Constant k other)) change is used d' done =
      defined_as target k (eqb word other) change is d' (given k e (Some other))
      (λ equal. given_done target k (Some word) (Some other) (record { by = λ w known. ap (λ x. Some x) (sym (eqb-true word other equal)) ∙ known }) d' done)
  act_done (Operate op target names) (Some (act.Operate other k locations)) change is used d' done =
      defined_as target k (eqb (code_of op) (code_of other) && same_number names locations) change is d' (given k e (option_and_then (machine_table other) (words_of locations e)))
      (λ equal.
      let both = and_parts (eqb (code_of op) (code_of other)) (same_number names locations) equal in
      let operator : op ≡ other = op_is op other (eqb-true (code_of op) (code_of other) both.0) in
      let covered : Covers (option_and_then (machine_table op) (rtl_acts.words_of names d)) (option_and_then (machine_table op) (words_of locations e)) =
      table_covered (machine_table op) (rtl_acts.words_of names d) (words_of locations e) (words_covered d e names locations both.1 used) in
      given_done target k (option_and_then (machine_table op) (rtl_acts.words_of names d)) (option_and_then (machine_table other) (words_of locations e))
      (subst (λ f. Covers (option_and_then (machine_table op) (rtl_acts.words_of names d)) (option_and_then (machine_table f) (words_of locations e))) operator covered) d' done)
  act_done (Load target global index) (Some (act.Load k other j)) change is used d' done =
      defined_as target k (eqb global other) change is d' (given k e (option_and_then (word_in (slice_get e.globals other)) (value_at (InRegister j) e)))
      (λ equal.
      let cells : slice_get e.globals other ≡ slice_get d.globals global = ap (λ gs. slice_get gs other) globals ∙ ap (slice_get d.globals) (sym (eqb-true global other equal)) in
      given_done target k (option_and_then (rtl_acts.word_in (slice_get d.globals global)) (rtl_data.value_at index d)) (option_and_then (word_in (slice_get e.globals other)) (value_at (InRegister j) e))
      (cell_covered (slice_get d.globals global) (slice_get e.globals other) cells (rtl_data.value_at index d) (value_at (InRegister j) e) (used 0 (in_register index j) (omega arith))) d' done)
  act_done (Store global index source) (Some (act.Store other j k)) change is used d' done =
      let parts = cond_some (eqb global other) (Some Nothing) change is in
      let same : Nothing ≡ change = let e = parts.1 in cc in
      let globe : global ≡ other = eqb-true global other parts.0 in
      subst (λ c. IsDone c d e d' (stored e other (value_at (InRegister j) e) (value_at (InRegister k) e))) same
      (subst (λ g. IsDone Nothing d e d' (stored e g (value_at (InRegister j) e) (value_at (InRegister k) e))) globe
      (stored_done global (rtl_data.value_at index d) (rtl_data.value_at source d) (value_at (InRegister j) e) (value_at (InRegister k) e)
      (used 0 (in_register index j) (omega arith)) (used 1 (in_register source k) (omega arith)) d' done))
  act_done (Put source target) (Some (act.Put k location)) change is used d' done =
      put_done target location change is (rtl_data.value_at source d) (value_at (InRegister k) e) (used 0 (in_register source k) (omega arith)) d' done
  act_done _ _ change is used d' done = none_some change is
