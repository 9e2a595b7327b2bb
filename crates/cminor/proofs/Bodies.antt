-- A function's body: its last action, and statements with one behind them.
use Rattle.std.proofs.Common.{◌≡◌, ◌≤◌, ◌<◌, ◌-◌, ℕ, suc, List, [], ◌∷◌, ◌++◌, length, Option, Some, None, refl, sym, ap, ◌∙◌, arith}
use Rattle.std.specs.Prelude.{Bool, true, false, slice_get}
use Rattle.c_program.specs.declared.action.Action.{Action}
use Rattle.c_program.specs.Views.{action_tree, actions_tree}
use Rattle.cminor_syntax.specs.declared.statement.Statement.{Statement}
use Rattle.cminor_syntax.specs.Trees.{ExpressionTree, StatementTree, StatementsTree, Number, Variable, Load, Unary, Binary, Choice, Skip, Assign, Store, Call, Put, Sequence, If, Loop, Block, Exit, Return, Done, First}
use Rattle.cminor_syntax.specs.Views.{statement_tree, statements_tree}
use Rattle.cminor_syntax.specs.Fits.{MaybeFits, ExpressionFits, StatementFits, StatementsFit}
use Rattle.cminor_lowering.specs.Programs.{is_return, ends_with_return, followed_by}
use Rattle.cminor.specs.Bodies.{zero_or_nothing}
use Rattle.std.specs.List.{AllByRecursion}

-- ---- the last action

abbrev pub returns_there : Option Action → Bool
returns_there None = false
returns_there (Some a) = is_return (action_tree a)

pub last_returns : (actions : List Action) → ends_with_return (actions_tree actions) ≡ returns_there (slice_get actions (length actions - 1))
last_returns [] = refl
last_returns (a ∷ []) = refl
last_returns (a ∷ b ∷ rest) = last_returns (b ∷ rest) ∙ ap (λ n. returns_there (slice_get (a ∷ b ∷ rest) n)) same
  where
    same : suc (length (b ∷ rest) - 1) ≡ length (a ∷ b ∷ rest) - 1
    same = omega arith

-- ---- statements behind others

pub one_behind : (ss : List Statement) (s : Statement) → statements_tree (ss ++ s ∷ []) ≡ followed_by (statements_tree ss) (First (statement_tree s) Done)
one_behind [] s = refl
one_behind (t ∷ ss) s = ap (λ l. First (statement_tree t) l) (one_behind ss s)

pub none_behind : (ss : StatementsTree) → followed_by ss Done ≡ ss
none_behind Done = refl
none_behind (First s rest) = ap (λ l. First s l) (none_behind rest)

pub ends_here : (ss : List Statement) (before last : StatementsTree) (b : Bool) → statements_tree ss ≡ before → last ≡ zero_or_nothing b → b ≡ false →
    statements_tree ss ≡ followed_by before last
ends_here ss before last b e is not = e ∙ sym (none_behind before) ∙ ap (followed_by before) (sym (is ∙ ap zero_or_nothing not))

pub ends_behind : (ss more : List Statement) (s : Statement) (before last : StatementsTree) (b : Bool) → statements_tree ss ≡ before → last ≡ zero_or_nothing b → b ≡ true →
    more ≡ ss ++ s ∷ [] → statement_tree s ≡ Return (Some (Number 0)) → statements_tree more ≡ followed_by before last
ends_behind ss more s before last b e is on pushed returns =
    ap statements_tree pushed ∙ one_behind ss s ∙ ap (λ t. followed_by t (First (statement_tree s) Done)) e
    ∙ ap (λ t. followed_by before (First t Done)) returns ∙ ap (followed_by before) (sym (is ∙ ap zero_or_nothing on))

pub front_fits : (variables : ℕ) (ss last : StatementsTree) → StatementsFit variables (followed_by ss last) → StatementsFit variables ss
front_fits variables Done last fits = tt
front_fits variables (First s rest) last fits = (fits.0, front_fits variables rest last fits.1)

-- ---- what is in range among some variables is in range among more

module _ (few many : ℕ) (more : few ≤ many) where
  wider_expression : (e : ExpressionTree) → ExpressionFits few e → ExpressionFits many e
  wider_expression (Number w) fits = fits
  wider_expression (Variable v) fits = omega arith
  wider_expression (Load g i) fits = (fits.0, wider_expression i fits.1)
  wider_expression (Unary o e) fits = (fits.0, wider_expression e fits.1)
  wider_expression (Binary o a b) fits = (fits.0, (wider_expression a fits.1.0, wider_expression b fits.1.1))
  wider_expression (Choice c a b) fits = (wider_expression c fits.0, (wider_expression a fits.1.0, wider_expression b fits.1.1))

  wider_target : (v : Option ℕ) → MaybeFits (λ v. v < few) v → MaybeFits (λ v. v < many) v
  wider_target None fits = tt
  wider_target (Some v) fits = omega arith

  wider_arguments : (es : List ExpressionTree) → AllByRecursion (ExpressionFits few) es → AllByRecursion (ExpressionFits many) es
  wider_arguments [] fits = tt
  wider_arguments (e ∷ es) fits = (wider_expression e fits.0, wider_arguments es fits.1)

  wider_returned : (e : Option ExpressionTree) → MaybeFits (ExpressionFits few) e → MaybeFits (ExpressionFits many) e
  wider_returned None fits = tt
  wider_returned (Some e) fits = wider_expression e fits

  mutual
    wider_statement : (s : StatementTree) → StatementFits few s → StatementFits many s
    wider_statement Skip fits = tt
    wider_statement (Assign v e) fits = (omega (arith, fits.0), wider_expression e fits.1)
    wider_statement (Store g i e) fits = (fits.0, (wider_expression i fits.1.0, wider_expression e fits.1.1))
    wider_statement (Call f v es) fits = (fits.0, (wider_target v fits.1.0, (fits.1.1.0, wider_arguments es fits.1.1.1)))
    wider_statement (Put v e) fits = (wider_target v fits.0, wider_expression e fits.1)
    wider_statement (Sequence ss) fits = (fits.0, wider_statements ss fits.1)
    wider_statement (If e s t) fits = (wider_expression e fits.0, (wider_statement s fits.1.0, wider_statement t fits.1.1))
    wider_statement (Loop s) fits = wider_statement s fits
    wider_statement (Block s) fits = wider_statement s fits
    wider_statement (Exit n) fits = fits
    wider_statement (Return e) fits = wider_returned e fits

    pub wider_statements : (ss : StatementsTree) → StatementsFit few ss → StatementsFit many ss
    wider_statements Done fits = tt
    wider_statements (First s rest) fits = (wider_statement s fits.0, wider_statements rest fits.1)
