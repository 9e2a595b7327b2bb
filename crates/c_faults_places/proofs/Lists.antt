-- The places of some statements' parts, one statement after the other.
use Rattle.std.proofs.Common.{◌≡◌, ℕ, ◌+◌, ◌<◌, List, [], ◌∷◌, ◌++◌, length, get_or, drop, sym, ap, ◌∙◌, append_assoc}
use Rattle.std.proofs.lemmas.List.{drop_more}
use Rattle.std.specs.Global.{Vec}
use Rattle.c_syntax.specs.declared.statement.Statement.{Statement, Block}
use Rattle.c_syntax.specs.declared.token.Token.{Token}
use Rattle.c_syntax.specs.Views.{statement_tree, statements_tree}
use Rattle.c_program.specs.declared.action.Action.{Action}
use Rattle.c_program.specs.Trees as P
use Rattle.c_program.specs.Views.{action_tree, actions_tree}
use Rattle.c_faults_tokens.specs.Tokens.{next, start, behind_statement}
use Rattle.c_faults_tokens.proofs.Blocks.{view_block}
use Rattle.c_faults_terms.specs.Shapes.{all_of}
use Rattle.c_faults_places.specs.Actions.{action_places, actions_places}

-- the places of the statements from a number on, behind those that are there
abbrev pub places_from : ℕ → List Statement → List Action → List Token → List ℕ
places_from i statements actions ts = actions_places (statements_tree (drop i statements)) (actions_tree actions) ts

pub one_more : (front : List ℕ) (statements : List Statement) (i : ℕ) (x : Statement) (a : Action) (actions : List Action) (ts : List Token) →
    i < length statements → x ≡ get_or statements i x →
    front ++ places_from i statements (a ∷ actions) ts
    ≡ (front ++ action_places (statement_tree x) (action_tree a) ts) ++ places_from (i + 1) statements actions (behind_statement (statement_tree x) ts)
one_more front statements i x a actions ts h e =
    ap (λ l. front ++ actions_places (statements_tree l) (actions_tree (a ∷ actions)) ts) (drop_more statements i x h ∙ ap (λ y. y ∷ drop (i + 1) statements) (sym e))
    ∙ sym (append_assoc front (action_places (statement_tree x) (action_tree a) ts) (places_from (i + 1) statements actions (behind_statement (statement_tree x) ts)))

pub no_more : (statements : List Statement) (i : ℕ) (x : Statement) (ts : List Token) → i < length statements → places_from i statements [] ts ≡ []
no_more statements i x ts h = ap (λ l. actions_places (statements_tree l) P.Done ts) (drop_more statements i x h)

-- a block's place, and those of its statements
pub block_added : (old pushed : List ℕ) (p : ℕ) (v : Vec Statement) (s : Statement) (a : Action) (list : List Statement) (actions : List Action)
    (ts rest : List Token) → s ≡ Block v → list ≡ v.items → pushed ≡ old ++ p ∷ [] → p ≡ start ts →
    actions_tree actions ≡ all_of (action_tree a) → rest ≡ next ts →
    pushed ++ actions_places (statements_tree list) (actions_tree actions) rest ≡ old ++ action_places (statement_tree s) (action_tree a) ts
block_added old pushed p v s a list actions ts rest is items put at all behind =
    let inner = actions_places (statements_tree list) (actions_tree actions) rest in
    ap (λ l. l ++ inner) put
    ∙ append_assoc old (p ∷ []) inner
    ∙ ap (λ k. old ++ k ∷ inner) at
    ∙ ap (λ l. old ++ start ts ∷ actions_places (statements_tree l) (actions_tree actions) rest) items
    ∙ ap (λ u. old ++ start ts ∷ actions_places (statements_tree v.items) u rest) all
    ∙ ap (λ us. old ++ start ts ∷ actions_places (statements_tree v.items) (all_of (action_tree a)) us) behind
    ∙ ap (λ k. old ++ action_places k (action_tree a) ts) (sym (ap statement_tree is ∙ view_block v))
