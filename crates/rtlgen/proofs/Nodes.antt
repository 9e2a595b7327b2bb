-- Each node that is made is in range, where all the nodes can be numbered.
use Rattle.std.proofs.Common.{◌≡◌, ℕ, zero, suc, ◌+◌, ◌<◌, ◌≤◌, List, [], ◌∷◌, ◌++◌, length, Option, Some, None, refl, subst, arith}
use Rattle.std.specs.Prelude.{slice_index_or}
use Rattle.std.specs.List.{AllByRecursion}
use Rattle.std.proofs.lemmas.List.{length-append}
use Rattle.machine.proofs.Distinct.{all_append}
use Rattle.ints.specs.Conditions.{cond_argument_count_of}
use Rattle.ints.specs.declared.conditions.Cond.TheVariants.{Nz}
use Rattle.rtl_acts.specs.declared.arguments.Arguments.TheVariants.{One, Two}
use Rattle.rtl_acts.specs.declared.act.Act.{Act}
use Rattle.rtl_acts.specs.declared.act.Act.TheVariants.{Constant, Move, Operate, Load, Store, Put}
use Rattle.rtl_acts.specs.Fits.{RegisterFits, TargetFits, ActFits}
use Rattle.rtl_language.specs.declared.instruction.Instruction.{Instruction}
use Rattle.rtl_language.specs.declared.instruction.Instruction.TheVariants.{Do, Call, Branch, Return}
use Rattle.rtl_language.specs.Function.{InstructionFits}
use Rattle.cminor_syntax.specs.Trees.{ExpressionTree, StatementTree, StatementsTree}
use Rattle.cminor_syntax.specs.Trees as T
use Rattle.cminor_syntax.specs.Fits.{ExpressionFits, StatementFits, StatementsFit}
use Rattle.cminor_syntax.specs.Fits as C
use Rattle.rtlgen_definition.specs.Pieces.{Made, Piece, nothing, one, both, either, again}
use Rattle.rtlgen_definition.specs.Gen.{operand_register, unless_variable, expression, operand, operands, operand_registers, statement, statements, needs, operands_need, statement_needs, statements_need}
use Rattle.rtlgen_definition.proofs.Expressions.{needs_some, operand_register_below}

one_argument : cond_argument_count_of Nz ≡ 1
unfolding cond_argument_count_of
one_argument = refl

module _ (registers total : ℕ) where
  -- the entry and all nodes
  pub record MadeFits (made : Made) : Type 0 where
    pub entry : made.entry < total
    pub nodes : AllByRecursion (InstructionFits registers total) made.nodes

  -- what is made is in range, where it goes on at a node, and there is space for its own
  abbrev pub PieceFits : Piece → Type 0
  PieceFits piece = (following count : ℕ) → following < total → count + length (piece following count).nodes ≤ total → MadeFits (piece following count)

  pub nothing_fits : PieceFits nothing
  nothing_fits following count low space = record { entry = low; nodes = tt }

  pub one_fits : (node : ℕ → Instruction) → ((n : ℕ) → n < total → InstructionFits registers total (node n)) → PieceFits (one node)
  one_fits node fits following count low space = record { entry = omega (arith, space); nodes = (fits following low, tt) }

  act_fits : (act : Act) → ActFits registers act → PieceFits (one (Do act))
  act_fits act fits = one_fits (Do act) (λ n low. (fits, low))

  pub both_fits : (first second : Piece) → PieceFits first → PieceFits second → PieceFits (both first second)
  both_fits first second f g following count low space =
      let last = second following count in
      let front = first last.entry (count + length last.nodes) in
      let space' = subst (λ n. count + n ≤ total) (length-append last.nodes front.nodes) space in
      let h = g following count low (omega (arith, space')) in
      let k = f last.entry (count + length last.nodes) h.entry (omega (arith, space')) in
      record { entry = k.entry; nodes = all_append (InstructionFits registers total) last.nodes front.nodes h.nodes k.nodes }

  either_fits : (r : ℕ) (taken other : Piece) → r < registers → PieceFits taken → PieceFits other → PieceFits (either r taken other)
  either_fits r taken other fits f g following count low space =
      let second = other following count in
      let behind = count + length second.nodes in
      let first = taken following behind in
      let branch = Branch (record { condition = Nz; arguments = One r }) first.entry second.entry in
      let space' = subst (λ n. count + n ≤ total) (length-append second.nodes (first.nodes ++ branch ∷ [])) space in
      let space'' = subst (λ n. count + (length second.nodes + n) ≤ total) (length-append first.nodes (branch ∷ [])) space' in
      let h = g following count low (omega (arith, space'')) in
      let k = f following behind low (omega (arith, space'')) in
      let rest = all_append (InstructionFits registers total) first.nodes (branch ∷ []) k.nodes (((one_argument, fits), k.entry, h.entry), tt) in
      record { entry = omega (arith, space''); nodes = all_append (InstructionFits registers total) second.nodes (first.nodes ++ branch ∷ []) h.nodes rest }

  again_fits : (body : Piece) → PieceFits body → PieceFits (again body)
  again_fits body f following count low space =
      let here : count < total = omega (arith, space) in
      let turn = f count (suc count) here (omega (arith, space)) in
      record { entry = here; nodes = ((tt, turn.entry), turn.nodes) }

  module _ (variables : ℕ) where
    operand_register_fits : (e : ExpressionTree) (r : ℕ) → ExpressionFits variables e → variables ≤ r → r + needs e ≤ registers → operand_register e r < registers
    operand_register_fits e r fits le space =
        let some = needs_some e in
        let below = operand_register_below variables r e le fits in
        omega (arith, some, below, space)

    unless_fits : (e : ExpressionTree) (piece : Piece) → PieceFits piece → PieceFits (unless_variable e piece)
    unless_fits (T.Number w) piece f = f
    unless_fits (T.Variable v) piece f = nothing_fits
    unless_fits (T.Load g i) piece f = f
    unless_fits (T.Unary o e) piece f = f
    unless_fits (T.Binary o a b) piece f = f
    unless_fits (T.Choice c a b) piece f = f

    expression_fits : (e : ExpressionTree) (target r : ℕ) → ExpressionFits variables e → variables ≤ r → r + needs e ≤ registers → target < registers → PieceFits (expression e target r)
    expression_fits (T.Number w) target r fits le space low = act_fits (Constant target w) (low, fits)
    expression_fits (T.Variable v) target r fits le space low = act_fits (Move target v) (low, omega (arith, fits, le, space))
    expression_fits (T.Load g i) target r fits le space low =
        let some = needs_some i in
        both_fits (operand i r) (one (Do (Load target g (operand_register i r)))) (unless_fits i (expression i r r) (expression_fits i r r fits.1 le space (omega (arith, some, space))))
        (act_fits (Load target g (operand_register i r)) (low, fits.0, operand_register_fits i r fits.1 le space))
    expression_fits (T.Unary o a) target r fits le space low =
        let some = needs_some a in
        both_fits (operand a r) (one (Do (Operate o target (One (operand_register a r))))) (unless_fits a (expression a r r) (expression_fits a r r fits.1 le space (omega (arith, some, space))))
        (act_fits (Operate o target (One (operand_register a r))) (low, (fits.0, operand_register_fits a r fits.1 le space)))
    expression_fits (T.Binary o a b) target r fits le space low =
        let some = needs_some a in
        let also = needs_some b in
        let act = Operate o target (Two (operand_register a r) (operand_register b (suc r))) in
        both_fits (operand a r) (both (operand b (suc r)) (one (Do act))) (unless_fits a (expression a r r) (expression_fits a r r fits.1.0 le (omega (arith, space)) (omega (arith, some, space))))
        (both_fits (operand b (suc r)) (one (Do act)) (unless_fits b (expression b (suc r) (suc r)) (expression_fits b (suc r) (suc r) fits.1.1 (omega (arith, le)) (omega (arith, space)) (omega (arith, also, space))))
        (act_fits act (low, (fits.0, operand_register_fits a r fits.1.0 le (omega (arith, space)), operand_register_fits b (suc r) fits.1.1 (omega (arith, le)) (omega (arith, space))))))
    expression_fits (T.Choice c a b) target r fits le space low =
        let some = needs_some c in
        both_fits (operand c r) (either (operand_register c r) (expression a target r) (expression b target r)) (unless_fits c (expression c r r) (expression_fits c r r fits.0 le (omega (arith, space)) (omega (arith, some, space))))
        (either_fits (operand_register c r) (expression a target r) (expression b target r) (operand_register_fits c r fits.0 le (omega (arith, space))) (expression_fits a target r fits.1.0 le (omega (arith, space)) low) (expression_fits b target r fits.1.1 le (omega (arith, space)) low))

    operand_fits : (e : ExpressionTree) (r : ℕ) → ExpressionFits variables e → variables ≤ r → r + needs e ≤ registers → PieceFits (operand e r)
    operand_fits e r fits le space =
        let some = needs_some e in
        unless_fits e (expression e r r) (expression_fits e r r fits le space (omega (arith, some, space)))

    operands_fit : (es : List ExpressionTree) (r : ℕ) → AllByRecursion (ExpressionFits variables) es → variables ≤ r → r + operands_need es ≤ registers → PieceFits (operands es r)
    operands_fit [] r fits le space = nothing_fits
    operands_fit (e ∷ es) r fits le space =
        both_fits (operand e r) (operands es (suc r)) (operand_fits e r fits.0 le (omega (arith, space))) (operands_fit es (suc r) fits.1 (omega (arith, le)) (omega (arith, space)))

    operand_registers_fit : (es : List ExpressionTree) (r : ℕ) → AllByRecursion (ExpressionFits variables) es → variables ≤ r → r + operands_need es ≤ registers → AllByRecursion (RegisterFits registers) (operand_registers es r)
    operand_registers_fit [] r fits le space = tt
    operand_registers_fit (e ∷ es) r fits le space = (operand_register_fits e r fits.0 le (omega (arith, space)), operand_registers_fit es (suc r) fits.1 (omega (arith, le)) (omega (arith, space)))

    module _ (within : variables ≤ registers) where
      target_fits : (target : Option ℕ) → C.TargetFits variables target → TargetFits registers target
      target_fits None fits = tt
      target_fits (Some v) fits = omega (arith, fits, within)

      -- the nodes behind the blocks around, and the first node
      abbrev pub AreInside : List ℕ → Type 0
      AreInside exits = (n : ℕ) → slice_index_or exits n 0 < total

      inside_more : (following : ℕ) (exits : List ℕ) → following < total → AreInside exits → AreInside (following ∷ exits)
      inside_more following exits low inside zero = low
      inside_more following exits low inside (suc n) = inside n

      mutual
        pub statement_fits : (t : StatementTree) (exits : List ℕ) → StatementFits variables t → variables + statement_needs t ≤ registers → AreInside exits → PieceFits (statement t variables exits)
        statement_fits T.Skip exits fits space inside = nothing_fits
        statement_fits (T.Assign v e) exits fits space inside = expression_fits e v variables fits.1 (omega arith) space (omega (arith, fits.0, within))
        statement_fits (T.Store g i e) exits fits space inside =
            let r = variables in
            let act = Store g (operand_register i r) (operand_register e (suc r)) in
            both_fits (operand i r) (both (operand e (suc r)) (one (Do act))) (operand_fits i r fits.1.0 (omega arith) (omega (arith, space)))
            (both_fits (operand e (suc r)) (one (Do act)) (operand_fits e (suc r) fits.1.1 (omega arith) (omega (arith, space)))
            (act_fits act (fits.0, operand_register_fits i r fits.1.0 (omega arith) (omega (arith, space)), operand_register_fits e (suc r) fits.1.1 (omega arith) (omega (arith, space)))))
        statement_fits (T.Call f target arguments) exits fits space inside =
            let r = variables in
            both_fits (operands arguments r) (one (Call f (operand_registers arguments r) target)) (operands_fit arguments r fits.1.1.1 (omega arith) space)
            (one_fits (Call f (operand_registers arguments r) target) (λ n low. (
              record { function = fits.0; few = few arguments r fits.1.1.0; arguments = operand_registers_fit arguments r fits.1.1.1 (omega arith) space; target = target_fits target fits.1.0 },
              low,
            )))
          where
            counted : (es : List ExpressionTree) (r : ℕ) → length (operand_registers es r) ≡ length es
            counted [] r = refl
            counted (e ∷ es) r = λ k. suc (counted es (suc r) k)

            few : (es : List ExpressionTree) (r : ℕ) → length es < 256 → length (operand_registers es r) ≤ 255
            few es r h = rw (counted es r) (omega (arith, h))
        statement_fits (T.Put target e) exits fits space inside =
            let r = variables in
            both_fits (operand e r) (one (Do (Put (operand_register e r) target))) (operand_fits e r fits.1 (omega arith) space)
            (act_fits (Put (operand_register e r) target) (operand_register_fits e r fits.1 (omega arith) space, target_fits target fits.0))
        statement_fits (T.Sequence ss) exits fits space inside = statements_fit ss exits fits.1 space inside
        statement_fits (T.If e t u) exits fits space inside =
            let r = variables in
            both_fits (operand e r) (either (operand_register e r) (statement t r exits) (statement u r exits)) (operand_fits e r fits.0 (omega arith) (omega (arith, space)))
            (either_fits (operand_register e r) (statement t r exits) (statement u r exits) (operand_register_fits e r fits.0 (omega arith) (omega (arith, space)))
            (statement_fits t exits fits.1.0 (omega (arith, space)) inside) (statement_fits u exits fits.1.1 (omega (arith, space)) inside))
        statement_fits (T.Loop t) exits fits space inside = again_fits (statement t variables exits) (statement_fits t exits fits space inside)
        statement_fits (T.Block t) exits fits space inside = λ following count low. statement_fits t (following ∷ exits) fits space (inside_more following exits low inside) following count low
        statement_fits (T.Exit n) exits fits space inside = λ following count low few. record { entry = inside n; nodes = tt }
        statement_fits (T.Return None) exits fits space inside = one_fits (λ n. Return None) (λ n low. tt)
        statement_fits (T.Return (Some e)) exits fits space inside =
            let r = variables in
            both_fits (operand e r) (one (λ n. Return (Some (operand_register e r)))) (operand_fits e r fits (omega arith) space) (one_fits (λ n. Return (Some (operand_register e r))) (λ n low. operand_register_fits e r fits (omega arith) space))

        statements_fit : (ss : StatementsTree) (exits : List ℕ) → StatementsFit variables ss → variables + statements_need ss ≤ registers → AreInside exits → PieceFits (statements ss variables exits)
        statements_fit T.Done exits fits space inside = nothing_fits
        statements_fit (T.First t rest) exits fits space inside =
            both_fits (statement t variables exits) (statements rest variables exits) (statement_fits t exits fits.0 (omega (arith, space)) inside) (statements_fit rest exits fits.1 (omega (arith, space)) inside)
