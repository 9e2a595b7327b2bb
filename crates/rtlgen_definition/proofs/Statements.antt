-- The code of a statement arrives where the statement's outcome says.
use Rattle.std.proofs.Common.{◌≡◌, ℕ, suc, ◌+◌, ◌%◌, ◌==◌, ◌<◌, ◌≤◌, Bool, true, false, cond, List, [], ◌∷◌, ◌++◌, length, Option, Some, None, refl, ap, ◌∙◌, subst, arith}
use Rattle.std.specs.Prelude.{slice_get, slice_set, slice_index_or, nat_lt, option_and_then}
use Rattle.std.specs.Option.{option_map}
use Rattle.std.proofs.lemmas.Option.{get_or_from_slice_get}
use Rattle.lang_base.specs.declared.program.Named.{Named}
use Rattle.rtl_acts.specs.declared.act.Act.TheVariants.{Nop, Store, Put}
use Rattle.rtl_acts.specs.Data.{Data, value_at, put_at}
use Rattle.rtl_acts.specs.Acts.{with_result, changed, stored, printing}
use Rattle.rtl_language.specs.declared.instruction.Instruction.TheVariants.{Do, Call, Return}
use Rattle.rtl_language.specs.Function.{FunctionData}
use Rattle.rtl_language.specs.Frames.{State, printed, returned, comes_back}
use Rattle.rtl_language.specs.Meaning.{waiting, next}
use Rattle.rtl_language.specs.Meaning as R
use Rattle.cminor_syntax.specs.Trees.{ExpressionTree, StatementTree, StatementsTree}
use Rattle.cminor_syntax.specs.Trees as T
use Rattle.cminor_syntax.specs.State as C
use Rattle.cminor_syntax.specs.Evaluation.{word, value, values}
use Rattle.cminor_syntax.specs.Meaning as M
use Rattle.cminor_syntax.specs.Fits.{ExpressionFits, StatementFits, StatementsFit, TargetFits}
use Rattle.rtlgen_definition.specs.Pieces.{Piece, one, both, either}
use Rattle.rtlgen_definition.specs.Gen.{operand_register, operand, operands, operand_registers, statement, statements, needs, statement_needs, statements_need}
use Rattle.rtlgen_definition.proofs.Stands.{Stands, stands_front, stands_behind}
use Rattle.rtlgen_definition.proofs.Comes.{Comes, comes_nowhere, comes_comes, comes_step}
use Rattle.rtlgen_definition.proofs.Grounds.{Ground, IsThere, at_node, node_step, Sees, kept_same, sees_kept, gives_put, sees_gives}
use Rattle.rtlgen_definition.proofs.Pieces.{Brings, brings_one, brings_both, forks}
use Rattle.rtlgen_definition.proofs.Values.{word_is}
use Rattle.rtlgen_definition.proofs.Expressions.{operand_register_below, expression_gained, operand_held, operands_held}
use Rattle.rtlgen_definition.proofs.Outcomes.{Reaches, Leaves, Arrives, CallArrives, LowerArrives, arrives_comes, arrives_step, arrives_goes_on, arrives_block}

-- a variable, if one is named, gets the same in both
sees_result : (c : Ground) (target x : Option ℕ) (s : C.State) (d : Data) → TargetFits c.variables target → Sees c s d → Sees c (C.given target x s) (with_result target x d)
sees_result c None x s d fits sees = sees
sees_result c (Some v) x s d fits sees =
    let low : v < length d.registers = rw sees.space (omega (arith, fits, sees.within)) in
    sees_gives c s c.variables v x d (put_at v x d) (omega arith) fits sees (gives_put c.variables v x d d low (kept_same c.variables d))

-- a cell of a global becomes a word in both
store_does : (d : Data) (g i w : ℕ) (globals : List (List ℕ)) → C.put_cell d.globals g i w ≡ Some globals → changed d g i w (slice_get d.globals g) ≡ Some (record d { globals = globals })
store_does d g i w globals e = at (slice_get d.globals g) e
  where
    within : (cells : List ℕ) (z : Bool) → option_map (slice_set d.globals g) (cond z (Some (slice_set cells i w)) None) ≡ Some globals →
        cond z (Some (record d { globals = slice_set d.globals g (slice_set cells i w) })) None ≡ Some (record d { globals = globals })
    within cells true e = ap (λ o. option_map (λ globals. record d { globals = globals }) o) e
    within cells false e = absurd cc

    at : (cells : Option (List ℕ)) → option_map (slice_set d.globals g) (option_and_then (C.put_in i w) cells) ≡ Some globals → changed d g i w cells ≡ Some (record d { globals = globals })
    at None e = absurd cc
    at (Some cells) e = within cells (nat_lt i (length cells)) e

returned_word : (p w : ℕ) (d : Data) → value_at p d ≡ Some w → returned (Some p) d ≡ Some (Some w)
returned_word p w d e = rw e refl

module _ (functions : List (Named FunctionData)) (c : Ground) (there : IsThere functions c) (bound : ℕ) where
  abbrev Comes_to : State → State → Type 0
  Comes_to u v = Comes (next functions) printed u v

  -- ---- a callee's outcome, as the caller's

  comes_back_arrives : (target w : Option ℕ) (exits : List ℕ) (following : ℕ) (s s' : C.State) (d : Data) (u : State) → TargetFits c.variables target → Sees c s d →
      Leaves functions (record { function = c.number; place = following; registers = d.registers; target = target } ∷ c.callers) u w s' → Reaches functions c u following (M.resumed target s w s')
  comes_back_arrives target w exits following s s' d u fits sees left =
      let back : Data = record left.last.here { registers = d.registers } in
      let sees' : Sees c (record { variables = s.variables; globals = s'.globals; output = s'.output }) back =
      record { holds = sees.holds; count = sees.count; space = sees.space; within = sees.within; globals = left.globals; output = left.output } in
      (with_result target w back, comes_comes left.comes (comes_step left.step), sees_result c target w (record { variables = s.variables; globals = s'.globals; output = s'.output }) back fits sees')

  call_arrives : (target : Option ℕ) (exits : List ℕ) (following : ℕ) (s : C.State) (d : Data) (u : State) (o : M.Outcome) → TargetFits c.variables target → Sees c s d →
      CallArrives functions (record { function = c.number; place = following; registers = d.registers; target = target } ∷ c.callers) bound u o →
      Arrives functions c bound exits following u (M.comes_back target s o)
  call_arrives target exits following s d u (M.Falls s') fits sees h = comes_back_arrives target None exits following s s' d u fits sees h
  call_arrives target exits following s d u (M.Exits n s') fits sees h = tt
  call_arrives target exits following s d u (M.Returns w s') fits sees h = comes_back_arrives target w exits following s s' d u fits sees h
  call_arrives target exits following s d u (M.RunsOut output) fits sees h = h
  call_arrives target exits following s d u (M.Fails output) fits sees h = tt

  -- ---- statements without parts, where they stand

  store_brings : (exits : List ℕ) (g : ℕ) (i e : ExpressionTree) (a b : ℕ) (globals : List (List ℕ)) (d d' d'' : Data) → operand_register i c.variables < suc c.variables →
      Brings functions c there (operand i c.variables) d d' → value_at (operand_register i c.variables) d' ≡ Some a →
      Brings functions c there (operand e (suc c.variables)) d' d'' → value_at (operand_register e (suc c.variables)) d'' ≡ Some b →
      (operand_register i c.variables < suc c.variables → value_at (operand_register i c.variables) d'' ≡ value_at (operand_register i c.variables) d') → C.put_cell d''.globals g a b ≡ Some globals →
      Brings functions c there (statement (T.Store g i e) c.variables exits) d (record d'' { globals = globals })
  store_brings exits g i e a b globals d d' d'' low leads holds leads' holds' same put =
      let r = c.variables in
      let act = Store g (operand_register i r) (operand_register e (suc r)) in
      let after : Data = record d'' { globals = globals } in
      let first : value_at (operand_register i r) d'' ≡ Some a = same low ∙ holds in
      let does : stored d'' g (value_at (operand_register i r) d'') (value_at (operand_register e (suc r)) d'') ≡ Some after = (λ k. stored d'' g (first k) (holds' k)) ∙ store_does d'' g a b globals put in
      brings_both functions c there (operand i r) (both (operand e (suc r)) (one (Do act))) d d' after leads
      (brings_both functions c there (operand e (suc r)) (one (Do act)) d' d'' after leads' (brings_one functions c there act d'' after does))

  module _ (exits : List ℕ) (following count : ℕ) (s : C.State) (d : Data) (sees : Sees c s d) where
    -- the code of a statement arrives where its outcome says
    abbrev CodeArrives : Piece → M.Outcome → Type 0
    CodeArrives piece o = Stands c.nodes count (piece following count).nodes → Arrives functions c bound exits following (at_node c (piece following count).entry d) o

    assign_arrives : (v : ℕ) (e : ExpressionTree) → StatementFits c.variables (T.Assign v e) → c.variables + needs e ≤ c.registers → (x : Option (Option ℕ)) → value e s ≡ x →
        CodeArrives (statement (T.Assign v e) c.variables exits) (M.assigns v s x)
    assign_arrives v e fits space None q stands = tt
    assign_arrives v e fits space (Some x) q stands =
        let g = expression_gained functions c there s e v c.variables d x fits.1 (omega arith) space (omega (arith, fits.0, sees.within)) sees q in
        (g.0, g.1 following count stands, sees_gives c s c.variables v x d g.0 (omega arith) fits.0 sees g.2)

    store_arrives : (g : ℕ) (i e : ExpressionTree) → StatementFits c.variables (T.Store g i e) → c.variables + statement_needs (T.Store g i e) ≤ c.registers → (x y : Option ℕ) → word i s ≡ x → word e s ≡ y →
        CodeArrives (statement (T.Store g i e) c.variables exits) (M.stores g s x y)
    store_arrives g i e fits space None y p q stands = tt
    store_arrives g i e fits space (Some a) None p q stands = tt
    store_arrives g i e fits space (Some a) (Some b) p q stands = at (C.put_cell s.globals g a b) refl
      where
        at : (globals : Option (List (List ℕ))) → C.put_cell s.globals g a b ≡ globals → Arrives functions c bound exits following (at_node c (statement (T.Store g i e) c.variables exits following count).entry d) (M.with_globals s globals)
        at None is = tt
        at (Some globals) is =
            let r = c.variables in
            let u = operand_held functions c there s i r d (Some a) fits.1.0 (omega arith) (omega (arith, space)) sees (word_is (value i s) a p) in
            let sees' = sees_kept c s r d u.0 (omega arith) sees u.3 in
            let v = operand_held functions c there s e (suc r) u.0 (Some b) fits.1.1 (omega arith) (omega (arith, space)) sees' (word_is (value e s) b q) in
            let sees'' = sees_kept c s (suc r) u.0 v.0 (omega arith) sees' v.3 in
            let globals' = ap (λ l. C.put_cell l g a b) sees''.globals ∙ is in (
              record v.0 { globals = globals },
              store_brings exits g i e a b globals d u.0 v.0 (operand_register_below r r i (omega arith) fits.1.0) u.1 u.2 v.1 v.2 (v.3.below (operand_register i r)) globals' following count stands,
              record { holds = sees''.holds; count = sees''.count; space = sees''.space; within = sees''.within; globals = refl; output = sees''.output },
            )

    put_arrives : (target : Option ℕ) (e : ExpressionTree) → StatementFits c.variables (T.Put target e) → c.variables + needs e ≤ c.registers → (x : Option ℕ) → word e s ≡ x →
        CodeArrives (statement (T.Put target e) c.variables exits) (M.puts target s x)
    put_arrives target e fits space None q stands = tt
    put_arrives target e fits space (Some w) q stands =
        let r = c.variables in
        let p = operand_held functions c there s e r d (Some w) fits.1 (omega arith) space sees (word_is (value e s) w q) in
        let sees' = sees_kept c s r d p.0 (omega arith) sees p.3 in
        let act = Put (operand_register e r) target in
        let brings = brings_both functions c there (operand e r) (one (Do act)) d p.0 (printing target p.0 w) p.1 (brings_one functions c there act p.0 (printing target p.0 w) (ap (option_map (printing target p.0)) p.2)) in
        let base : C.State = record s { output = s.output ++ w % 256 ∷ [] } in
        let printed : Data = record p.0 { output = p.0.output ++ w % 256 ∷ [] } in
        let sees'' : Sees c base printed =
        record { holds = sees'.holds; count = sees'.count; space = sees'.space; within = sees'.within; globals = sees'.globals; output = ap (λ l. l ++ w % 256 ∷ []) sees'.output } in
        (printing target p.0 w, brings following count stands, sees_result c target (Some (w % 256)) base printed fits.0 sees'')

    return_arrives : (e : ExpressionTree) → ExpressionFits c.variables e → c.variables + needs e ≤ c.registers → (x : Option ℕ) → word e s ≡ x →
        CodeArrives (statement (T.Return (Some e)) c.variables exits) (M.returns s x)
    return_arrives e fits space None q stands = tt
    return_arrives e fits space (Some w) q stands =
        let r = c.variables in
        let p = operand_held functions c there s e r d (Some w) fits (omega arith) space sees (word_is (value e s) w q) in
        let sees' = sees_kept c s r d p.0 (omega arith) sees p.3 in
        let last = one (λ n. Return (Some (operand_register e r))) following count in
        let front = operand e r last.entry (count + length last.nodes) in
        record {
          last = at_node c count p.0;
          comes = p.1 last.entry (count + length last.nodes) (stands_behind c.nodes last.nodes front.nodes count stands);
          step = node_step functions c there count p.0 (Return (Some (operand_register e r))) (stands_front c.nodes last.nodes front.nodes count stands).0 ∙ ap (comes_back c.callers p.0) (returned_word (operand_register e r) w p.0 p.2);
          globals = sees'.globals;
          output = sees'.output;
        }

  -- ---- statements that run others

  module _ (less : ℕ) (sooner : bound ≤ suc less) (lower : M.Level) (runs : LowerArrives functions bound less lower) where
    called_arrives : (f : ℕ) (target : Option ℕ) (arguments : List ExpressionTree) (exits : List ℕ) (following count : ℕ) (s : C.State) (d : Data) → StatementFits c.variables (T.Call f target arguments) →
        c.variables + statement_needs (T.Call f target arguments) ≤ c.registers → Sees c s d → (xs : Option (List (Option ℕ))) → values arguments s ≡ xs →
        Stands c.nodes count (statement (T.Call f target arguments) c.variables exits following count).nodes →
        Arrives functions c bound exits following (at_node c (statement (T.Call f target arguments) c.variables exits following count).entry d) (M.calls lower f target s xs)
    called_arrives f target arguments exits following count s d fits space sees None q stands = tt
    called_arrives f target arguments exits following count s d fits space sees (Some xs) q stands =
        let r = c.variables in
        let p = operands_held functions c there s arguments r d xs fits.1.1.1 (omega arith) space sees q in
        let sees' = sees_kept c s r d p.0 (omega arith) sees p.3 in
        let node = Call f (operand_registers arguments r) target following in
        let last = one (Call f (operand_registers arguments r) target) following count in
        let front = operands arguments r last.entry (count + length last.nodes) in
        let u = at_node c count p.0 in
        let caller = waiting u target following in
        let step = node_step functions c there count p.0 node (stands_front c.nodes last.nodes front.nodes count stands).0 ∙ ap (λ l. R.calls u f l caller (slice_get functions f)) p.2 in
        arrives_comes functions c exits following bound (at_node c front.entry d) u (M.comes_back target s (lower (M.Calls f xs) s))
        (p.1 last.entry (count + length last.nodes) (stands_behind c.nodes last.nodes front.nodes count stands))
        (call_arrives target exits following s p.0 u (lower (M.Calls f xs) s) fits.1.0 sees' (runs.calls f xs s u caller sees'.globals sees'.output step))

    -- one of two, which arrives wherever it stands
    branch_arrives : (e : ExpressionTree) (taken other : Piece) (exits : List ℕ) (following count : ℕ) (s : C.State) (d : Data) → ExpressionFits c.variables e → c.variables + needs e ≤ c.registers → Sees c s d → (a b : M.Outcome) →
        ((d' : Data) (n : ℕ) → Sees c s d' → Stands c.nodes n (taken following n).nodes → Arrives functions c bound exits following (at_node c (taken following n).entry d') a) →
        ((d' : Data) (n : ℕ) → Sees c s d' → Stands c.nodes n (other following n).nodes → Arrives functions c bound exits following (at_node c (other following n).entry d') b) →
        (x : Option ℕ) → word e s ≡ x → Stands c.nodes count (both (operand e c.variables) (either (operand_register e c.variables) taken other) following count).nodes →
        Arrives functions c bound exits following (at_node c (both (operand e c.variables) (either (operand_register e c.variables) taken other) following count).entry d) (M.branches s x a b)
    branch_arrives e taken other exits following count s d fits space sees a b first second None q stands = tt
    branch_arrives e taken other exits following count s d fits space sees a b first second (Some w) q stands =
        let r = c.variables in
        let p = operand_held functions c there s e r d (Some w) fits (omega arith) space sees (word_is (value e s) w q) in
        let sees' = sees_kept c s r d p.0 (omega arith) sees p.3 in
        let last = either (operand_register e r) taken other following count in
        let front = operand e r last.entry (count + length last.nodes) in
        let fork = forks functions c there (operand_register e r) taken other following count (stands_front c.nodes last.nodes front.nodes count stands) in
        let goes = p.1 last.entry (count + length last.nodes) (stands_behind c.nodes last.nodes front.nodes count stands) in
        let behind = count + length (other following count).nodes in
        let at : (z : Bool) → (w == 0) ≡ z → Arrives functions c bound exits following (at_node c front.entry d) (cond z b a) = λ z. elim z as (λ z. (w == 0) ≡ z → Arrives functions c bound exits following (at_node c front.entry d) (cond z b a)) [
          | true ↦ λ zero. arrives_comes functions c exits following bound (at_node c front.entry d) (at_node c (other following count).entry p.0) b (comes_comes goes (fork.step w true p.0 p.2 zero)) (second p.0 count sees' fork.other_stands)
          | false ↦ λ zero. arrives_comes functions c exits following bound (at_node c front.entry d) (at_node c (taken following behind).entry p.0) a (comes_comes goes (fork.step w false p.0 p.2 zero)) (first p.0 behind sees' fork.taken_stands)
        ] in
        at (w == 0) refl

    mutual
      pub statement_arrives : (t : StatementTree) (exits : List ℕ) (following count : ℕ) (s : C.State) (d : Data) → StatementFits c.variables t → c.variables + statement_needs t ≤ c.registers →
          Stands c.nodes count (statement t c.variables exits following count).nodes → Sees c s d →
          Arrives functions c bound exits following (at_node c (statement t c.variables exits following count).entry d) (M.exec lower t s)
      statement_arrives T.Skip exits following count s d fits space stands sees = (d, comes_nowhere, sees)
      statement_arrives (T.Assign v e) exits following count s d fits space stands sees = assign_arrives exits following count s d sees v e fits space (value e s) refl stands
      statement_arrives (T.Store g i e) exits following count s d fits space stands sees = store_arrives exits following count s d sees g i e fits space (word i s) (word e s) refl refl stands
      statement_arrives (T.Call f target arguments) exits following count s d fits space stands sees = called_arrives f target arguments exits following count s d fits space sees (values arguments s) refl stands
      statement_arrives (T.Put target e) exits following count s d fits space stands sees = put_arrives exits following count s d sees target e fits space (word e s) refl stands
      statement_arrives (T.Sequence ss) exits following count s d fits space stands sees = statements_arrive ss exits following count s d fits.1 space stands sees
      statement_arrives (T.If e t u) exits following count s d fits space stands sees =
          branch_arrives e (statement t c.variables exits) (statement u c.variables exits) exits following count s d fits.0 (omega (arith, space)) sees (M.exec lower t s) (M.exec lower u s)
          (λ d' n sees' stands'. statement_arrives t exits following n s d' fits.1.0 (omega (arith, space)) stands' sees')
          (λ d' n sees' stands'. statement_arrives u exits following n s d' fits.1.1 (omega (arith, space)) stands' sees')
          (word e s) refl stands
      statement_arrives (T.Loop t) exits following count s d fits space stands sees =
          let turn = statement t c.variables exits count (suc count) in
          arrives_step functions c exits following bound less (at_node c count d) (at_node c turn.entry d) (M.exec lower (T.Loop t) s) sooner
          (node_step functions c there count d (Do Nop turn.entry) stands.0)
          (arrives_goes_on functions c exits following less count (at_node c turn.entry d) (lower (M.Does (T.Loop t))) (lower (M.Does t) s)
          (λ s' d' sees'. runs.does c there (T.Loop t) exits following count s' d' fits space stands sees')
          (runs.does c there t exits count (suc count) s d fits space stands.1 sees))
      statement_arrives (T.Block t) exits following count s d fits space stands sees =
          arrives_block functions c exits following bound (at_node c (statement t c.variables (following ∷ exits) following count).entry d) (M.exec lower t s)
          (statement_arrives t (following ∷ exits) following count s d fits space stands sees)
      statement_arrives (T.Exit n) exits following count s d fits space stands sees =
          λ place e. (d, subst (λ q. Comes_to (at_node c (slice_index_or exits n 0) d) (at_node c q d)) (get_or_from_slice_get exits n place 0 e) comes_nowhere, sees)
      statement_arrives (T.Return None) exits following count s d fits space stands sees =
          record { last = at_node c count d; comes = comes_nowhere; step = node_step functions c there count d (Return None) stands.0; globals = sees.globals; output = sees.output }
      statement_arrives (T.Return (Some e)) exits following count s d fits space stands sees = return_arrives exits following count s d sees e fits space (word e s) refl stands

      statements_arrive : (ss : StatementsTree) (exits : List ℕ) (following count : ℕ) (s : C.State) (d : Data) → StatementsFit c.variables ss → c.variables + statements_need ss ≤ c.registers →
          Stands c.nodes count (statements ss c.variables exits following count).nodes → Sees c s d →
          Arrives functions c bound exits following (at_node c (statements ss c.variables exits following count).entry d) (M.exec_all lower ss s)
      statements_arrive T.Done exits following count s d fits space stands sees = (d, comes_nowhere, sees)
      statements_arrive (T.First t rest) exits following count s d fits space stands sees =
          let last = statements rest c.variables exits following count in
          let front = statement t c.variables exits last.entry (count + length last.nodes) in
          arrives_goes_on functions c exits following bound last.entry (at_node c front.entry d) (M.exec_all lower rest) (M.exec lower t s)
          (λ s' d' sees'. statements_arrive rest exits following count s' d' fits.1 (omega (arith, space)) (stands_front c.nodes last.nodes front.nodes count stands) sees')
          (statement_arrives t exits last.entry (count + length last.nodes) s d fits.0 (omega (arith, space)) (stands_behind c.nodes last.nodes front.nodes count stands) sees)
