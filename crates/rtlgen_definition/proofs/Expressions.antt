-- The code of an expression gives its value.
use Rattle.std.proofs.Common.{◌≡◌, ℕ, suc, ◌+◌, ◌==◌, ◌<◌, ◌≤◌, Bool, true, false, cond, List, [], ◌∷◌, length, map, Option, Some, refl, sym, ap, ◌∙◌, subst, arith}
use Rattle.std.specs.Prelude.{slice_get, option_and_then}
use Rattle.std.specs.Option.{option_map}
use Rattle.std.specs.List.{AllByRecursion}
use Rattle.lang_base.specs.declared.program.Named.{Named}
use Rattle.ints.specs.declared.operators.Op.{Op}
use Rattle.ints.specs.MachineTable.{machine_table}
use Rattle.rtl_acts.specs.declared.arguments.Arguments.TheVariants.{One, Two}
use Rattle.rtl_acts.specs.declared.act.Act.{Act}
use Rattle.rtl_acts.specs.declared.act.Act.TheVariants.{Constant, Move, Operate, Load}
use Rattle.rtl_acts.specs.Data.{Data, value_at, put_at}
use Rattle.cminor_syntax.specs.Acts as M
use Rattle.rtl_acts.specs.Acts.{pair_of, given, word_in, does}
use Rattle.rtl_language.specs.declared.instruction.Instruction.TheVariants.{Do}
use Rattle.rtl_language.specs.Function.{FunctionData}
use Rattle.cminor_syntax.specs.Trees.{ExpressionTree}
use Rattle.cminor_syntax.specs.Trees as T
use Rattle.cminor_syntax.specs.State as C
use Rattle.cminor_syntax.specs.Evaluation.{word_of, value, values}
use Rattle.cminor_syntax.specs.Fits.{ExpressionFits}
use Rattle.rtlgen_definition.specs.Pieces.{Piece, one, both}
use Rattle.rtlgen_definition.specs.Gen.{operand_register, expression, operand, operands, operand_registers, needs, operands_need}
use Rattle.rtlgen_definition.proofs.Grounds.{Ground, IsThere, Sees, Kept, kept_same, kept_kept, sees_kept, Gives, gives_put, gives_kept, kept_gives}
use Rattle.rtlgen_definition.proofs.Pieces.{Brings, brings_nothing, brings_one, brings_both, brings_first, brings_second}
use Rattle.rtlgen_definition.proofs.Values.{same_value, defined_is, needed_is, pair_needed, choice_needed, both_needed, cell_same}

-- an operand has a temporary at least
pub needs_some : (e : ExpressionTree) → 0 < needs e
needs_some (T.Number w) = omega arith
needs_some (T.Variable v) = omega arith
needs_some (T.Load g i) = needs_some i
needs_some (T.Unary o e) = needs_some e
needs_some (T.Binary o a b) = let h = needs_some a in omega (arith, h)
needs_some (T.Choice c a b) = let h = needs_some c in omega (arith, h)

-- an operand's register is a variable, or the first temporary
pub operand_register_below : (variables r : ℕ) (e : ExpressionTree) → variables ≤ r → ExpressionFits variables e → operand_register e r < suc r
operand_register_below variables r (T.Number w) le fits = omega arith
operand_register_below variables r (T.Variable v) le fits = omega (arith, le, fits)
operand_register_below variables r (T.Load g i) le fits = omega arith
operand_register_below variables r (T.Unary o e) le fits = omega arith
operand_register_below variables r (T.Binary o a b) le fits = omega arith
operand_register_below variables r (T.Choice c a b) le fits = omega arith

module _ (functions : List (Named FunctionData)) (c : Ground) (there : IsThere functions c) (s : C.State) where
  abbrev Leading : Piece → Data → Data → Type 0
  Leading piece d d' = Brings functions c there piece d d'

  -- the code puts a value into the target
  abbrev pub Gained : Piece → (target r : ℕ) (d : Data) (x : Option ℕ) → Type 0
  Gained piece target r d x = (d' : Data) × Leading piece d d' × Gives r target x d d'

  -- the code puts a value into its register
  abbrev pub Held : Piece → (p r : ℕ) (d : Data) (x : Option ℕ) → Type 0
  Held piece p r d x = (d' : Data) × Leading piece d d' × (value_at p d' ≡ x) × Kept r d d'

  abbrev fits_on : ExpressionTree → Type 0
  fits_on e = ExpressionFits c.variables e

  -- an operand that is a variable is there already
  value_held : (e : ExpressionTree) (r : ℕ) (d : Data) (x : Option ℕ) → fits_on e → Sees c s d → value e s ≡ Some x → Gained (expression e r r) r r d x → Held (operand e r) (operand_register e r) r d x
  value_held (T.Number w) r d x fits sees e g = (g.0, g.1, g.2.value, kept_gives r x d g.0 g.2)
  value_held (T.Variable v) r d x fits sees e g = (d, brings_nothing functions c there d, sees.holds v fits ∙ same_value (C.held v s) x e, kept_same r d)
  value_held (T.Load n i) r d x fits sees e g = (g.0, g.1, g.2.value, kept_gives r x d g.0 g.2)
  value_held (T.Unary o a) r d x fits sees e g = (g.0, g.1, g.2.value, kept_gives r x d g.0 g.2)
  value_held (T.Binary o a b) r d x fits sees e g = (g.0, g.1, g.2.value, kept_gives r x d g.0 g.2)
  value_held (T.Choice n a b) r d x fits sees e g = (g.0, g.1, g.2.value, kept_gives r x d g.0 g.2)

  -- an instruction that sets the target, alone and behind other code
  set_gained : (act : Act) (target r : ℕ) (x : Option ℕ) (d : Data) → target < length d.registers → does act d ≡ Some (put_at target x d) → Gained (one (Do act)) target r d x
  set_gained act target r x d space e = (put_at target x d, brings_one functions c there act d (put_at target x d) e, gives_put r target x d d space (kept_same r d))

  then_gained : (front : Piece) (act : Act) (target r : ℕ) (x : Option ℕ) (d d' : Data) → Leading front d d' → Kept r d d' → target < length d.registers → does act d' ≡ Some (put_at target x d') →
      Gained (both front (one (Do act))) target r d x
  then_gained front act target r x d d' leads kept space e =
      (put_at target x d', brings_both functions c there front (one (Do act)) d d' (put_at target x d') leads (brings_one functions c there act d' (put_at target x d') e), gives_put r target x d d' space kept)

  -- ---- each kind of expression, once its operands have words

  load_gained : (g : ℕ) (i : ExpressionTree) (target r u w : ℕ) (d d' : Data) → target < length d.registers → Leading (operand i r) d d' → value_at (operand_register i r) d' ≡ Some u → Kept r d d' → d'.globals ≡ s.globals →
      C.cell s.globals g u ≡ Some w → Gained (expression (T.Load g i) target r) target r d (Some w)
  load_gained g i target r u w d d' space leads holds kept globals e =
      let is : option_and_then (word_in (slice_get d'.globals g)) (value_at (operand_register i r) d') ≡ Some w =
      ap (option_and_then (word_in (slice_get d'.globals g))) holds ∙ ap (λ globals. word_in (slice_get globals g) u) globals ∙ cell_same s.globals g u ∙ e in
      then_gained (operand i r) (Load target g (operand_register i r)) target r (Some w) d d' leads kept space (ap (given target d') is)

  unary_gained : (o : Op) (a : ExpressionTree) (target r u w : ℕ) (d d' : Data) → target < length d.registers → Leading (operand a r) d d' → value_at (operand_register a r) d' ≡ Some u → Kept r d d' →
      machine_table o (u ∷ []) ≡ Some w → Gained (expression (T.Unary o a) target r) target r d (Some w)
  unary_gained o a target r u w d d' space leads holds kept e =
      let is : option_and_then (machine_table o) (option_map (λ x. x ∷ []) (value_at (operand_register a r) d')) ≡ Some w = ap (λ v. option_and_then (machine_table o) (option_map (λ x. x ∷ []) v)) holds ∙ e in
      then_gained (operand a r) (Operate o target (One (operand_register a r))) target r (Some w) d d' leads kept space (ap (given target d') is)

  binary_gained : (o : Op) (a b : ExpressionTree) (target r u v w : ℕ) (d d' d'' : Data) → target < length d.registers → operand_register a r < suc r →
      Leading (operand a r) d d' → value_at (operand_register a r) d' ≡ Some u → Kept r d d' → Leading (operand b (suc r)) d' d'' → value_at (operand_register b (suc r)) d'' ≡ Some v → Kept (suc r) d' d'' →
      machine_table o (u ∷ v ∷ []) ≡ Some w → Gained (expression (T.Binary o a b) target r) target r d (Some w)
  binary_gained o a b target r u v w d d' d'' space low leads holds kept leads' holds' kept' e =
      let act = Operate o target (Two (operand_register a r) (operand_register b (suc r))) in
      let first : value_at (operand_register a r) d'' ≡ Some u = kept'.below (operand_register a r) low ∙ holds in
      let is : option_and_then (machine_table o) (pair_of (value_at (operand_register a r) d'') (value_at (operand_register b (suc r)) d'')) ≡ Some w = (λ k. option_and_then (machine_table o) (pair_of (first k) (holds' k))) ∙ e in
      let g = then_gained (operand b (suc r)) act target r (Some w) d' d'' leads' (kept_kept r (suc r) d' d' d'' (omega arith) (kept_same r d') kept') (rw kept.space space) (ap (given target d'') is) in
      (g.0, brings_both functions c there (operand a r) (both (operand b (suc r)) (one (Do act))) d d' g.0 leads g.1, gives_kept r target (Some w) d d' g.0 kept g.2)

  -- only one part of a choice is evaluated
  choice_gained : (n a b : ExpressionTree) (target r w : ℕ) (x : Option ℕ) (d d' : Data) → Leading (operand n r) d d' → value_at (operand_register n r) d' ≡ Some w → Kept r d d' →
      (z : Bool) → (w == 0) ≡ z → cond z (value b s) (value a s) ≡ Some x → (value a s ≡ Some x → Gained (expression a target r) target r d' x) → (value b s ≡ Some x → Gained (expression b target r) target r d' x) →
      Gained (expression (T.Choice n a b) target r) target r d x
  choice_gained n a b target r w x d d' leads holds kept true zero e first second =
      let g = second e in (
        g.0,
        brings_both functions c there (operand n r) _ d d' g.0 leads (brings_second functions c there (operand_register n r) w (expression a target r) (expression b target r) d' g.0 holds zero g.1),
        gives_kept r target x d d' g.0 kept g.2,
      )
  choice_gained n a b target r w x d d' leads holds kept false zero e first second =
      let g = first e in (
        g.0,
        brings_both functions c there (operand n r) _ d d' g.0 leads (brings_first functions c there (operand_register n r) w (expression a target r) (expression b target r) d' g.0 holds zero g.1),
        gives_kept r target x d d' g.0 kept g.2,
      )

  pub expression_gained : (e : ExpressionTree) (target r : ℕ) (d : Data) (x : Option ℕ) → fits_on e → c.variables ≤ r → r + needs e ≤ c.registers → target < c.registers → Sees c s d → value e s ≡ Some x →
      Gained (expression e target r) target r d x
  expression_gained (T.Number w) target r d x fits le space low sees e =
      subst (Gained (expression (T.Number w) target r) target r d) (same_value (Some w) x e) (set_gained (Constant target w) target r (Some w) d (rw sees.space low) refl)
  expression_gained (T.Variable v) target r d x fits le space low sees e =
      subst (Gained (expression (T.Variable v) target r) target r d) (sees.holds v fits ∙ same_value (C.held v s) x e) (set_gained (Move target v) target r (value_at v d) d (rw sees.space low) refl)
  expression_gained (T.Load g i) target r d x fits le space low sees e =
      let y = defined_is (option_and_then (C.cell s.globals g) (word_of (value i s))) x e in
      let u = needed_is (C.cell s.globals g) (value i s) y.0 y.1 in
      let some = needs_some i in
      let p = value_held i r d (Some u.0) fits.1 sees u.1 (expression_gained i r r d (Some u.0) fits.1 le space (omega (arith, some, space)) sees u.1) in
      subst (Gained (expression (T.Load g i) target r) target r d) (sym y.2)
      (load_gained g i target r u.0 y.0 d p.0 (rw sees.space low) p.1 p.2 p.3 (p.3.globals ∙ sees.globals) u.2)
  expression_gained (T.Unary o a) target r d x fits le space low sees e =
      let y = defined_is (option_and_then (λ x. machine_table o (x ∷ [])) (word_of (value a s))) x e in
      let u = needed_is (λ x. machine_table o (x ∷ [])) (value a s) y.0 y.1 in
      let some = needs_some a in
      let p = value_held a r d (Some u.0) fits.1 sees u.1 (expression_gained a r r d (Some u.0) fits.1 le space (omega (arith, some, space)) sees u.1) in
      subst (Gained (expression (T.Unary o a) target r) target r d) (sym y.2)
      (unary_gained o a target r u.0 y.0 d p.0 (rw sees.space low) p.1 p.2 p.3 u.2)
  expression_gained (T.Binary o a b) target r d x fits le space low sees e =
      let y = defined_is (option_and_then (machine_table o) (M.pair_of (word_of (value a s)) (word_of (value b s)))) x e in
      let u = pair_needed (machine_table o) (value a s) (value b s) y.0 y.1 in
      let some = needs_some a in
      let also = needs_some b in
      let p = value_held a r d (Some u.0) fits.1.0 sees u.2 (expression_gained a r r d (Some u.0) fits.1.0 le (omega (arith, space)) (omega (arith, some, space)) sees u.2) in
      let sees' = sees_kept c s r d p.0 le sees p.3 in
      let q = value_held b (suc r) p.0 (Some u.1) fits.1.1 sees' u.3 (expression_gained b (suc r) (suc r) p.0 (Some u.1) fits.1.1 (omega (arith, le)) (omega (arith, space)) (omega (arith, also, space)) sees' u.3) in
      subst (Gained (expression (T.Binary o a b) target r) target r d) (sym y.2)
      (binary_gained o a b target r u.0 u.1 y.0 d p.0 q.0 (rw sees.space low) (operand_register_below c.variables r a le fits.1.0) p.1 p.2 p.3 q.1 q.2 q.3 u.4)
  expression_gained (T.Choice n a b) target r d x fits le space low sees e =
      let u = choice_needed (value n s) (value a s) (value b s) x e in
      let some = needs_some n in
      let p = value_held n r d (Some u.0) fits.0 sees u.1 (expression_gained n r r d (Some u.0) fits.0 le (omega (arith, space)) (omega (arith, some, space)) sees u.1) in
      let sees' = sees_kept c s r d p.0 le sees p.3 in
      choice_gained n a b target r u.0 x d p.0 p.1 p.2 p.3 (u.0 == 0) refl u.2
      (λ h. expression_gained a target r p.0 x fits.1.0 le (omega (arith, space)) low sees' h)
      (λ h. expression_gained b target r p.0 x fits.1.1 le (omega (arith, space)) low sees' h)

  -- an operand's value is put into its register
  pub operand_held : (e : ExpressionTree) (r : ℕ) (d : Data) (x : Option ℕ) → fits_on e → c.variables ≤ r → r + needs e ≤ c.registers → Sees c s d → value e s ≡ Some x → Held (operand e r) (operand_register e r) r d x
  operand_held e r d x fits le space sees is =
      let some = needs_some e in
      value_held e r d x fits sees is (expression_gained e r r d x fits le space (omega (arith, some, space)) sees is)

  -- the code puts the values of arguments into their registers
  abbrev pub AllHeld : (es : List ExpressionTree) (r : ℕ) (d : Data) (xs : List (Option ℕ)) → Type 0
  AllHeld es r d xs = (d' : Data) × Leading (operands es r) d d' × (map (λ a. value_at a d') (operand_registers es r) ≡ xs) × Kept r d d'

  one_more_held : (e : ExpressionTree) (es : List ExpressionTree) (r : ℕ) (d d' d'' : Data) (x : Option ℕ) (xs : List (Option ℕ)) → operand_register e r < suc r → Leading (operand e r) d d' → value_at (operand_register e r) d' ≡ x → Kept r d d' →
      Leading (operands es (suc r)) d' d'' → map (λ a. value_at a d'') (operand_registers es (suc r)) ≡ xs → Kept (suc r) d' d'' → AllHeld (e ∷ es) r d (x ∷ xs)
  one_more_held e es r d d' d'' x xs low leads holds kept leads' hold kept' =
      let first : value_at (operand_register e r) d'' ≡ x = kept'.below (operand_register e r) low ∙ holds in
      (d'', brings_both functions c there (operand e r) (operands es (suc r)) d d' d'' leads leads', (λ k. first k ∷ hold k), kept_kept r (suc r) d d' d'' (omega arith) kept kept')

  pub operands_held : (es : List ExpressionTree) (r : ℕ) (d : Data) (xs : List (Option ℕ)) → AllByRecursion (ExpressionFits c.variables) es → c.variables ≤ r → r + operands_need es ≤ c.registers → Sees c s d → values es s ≡ Some xs → AllHeld es r d xs
  operands_held [] r d xs fits le space sees e = (d, brings_nothing functions c there d, no_more xs e, kept_same r d)
    where
      no_more : (xs : List (Option ℕ)) → Some [] ≡ Some xs → [] ≡ xs
      no_more xs e = cc
  operands_held (e ∷ es) r d xs fits le space sees is =
      let y = both_needed (value e s) (values es s) xs is in
      let p = operand_held e r d y.0 fits.0 le (omega (arith, space)) sees y.2 in
      let sees' = sees_kept c s r d p.0 le sees p.3 in
      let q = operands_held es (suc r) p.0 y.1 fits.1 (omega (arith, le)) (omega (arith, space)) sees' y.3 in
      subst (AllHeld (e ∷ es) r d) y.4 (one_more_held e es r d p.0 q.0 y.0 y.1 (operand_register_below c.variables r e le fits.0) p.1 p.2 p.3 q.1 q.2 q.3)
