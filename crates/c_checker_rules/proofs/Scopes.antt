-- What a statement declares stands before what was declared, so that its end is found by the number of names.
use Rattle.std.proofs.Common.{◌≡◌, ℕ, ◌-◌, ◌≤◌, [], ◌∷◌, ◌++◌, length, drop, refl, sym, ap, ◌∙◌, append_assoc, arith}
use Rattle.std.proofs.lemmas.List.{length-append}
use Rattle.std.proofs.Math.Seq.{drop-append_seam}
use Rattle.c_syntax.specs.Trees.{StartTree, StatementTree, StatementsTree}
use Rattle.c_syntax.specs.Trees as T
use Rattle.c_checker_rules.specs.Names.{Scope}
use Rattle.c_checker_rules.specs.Locals.{Here}
use Rattle.c_checker_rules.specs.Statements.{with_start, after, after_all}

-- the longer scope ends with the shorter one
abbrev pub Ends : Scope → Scope → Type 0
Ends longer shorter = (added : Scope) × (longer ≡ added ++ shorter)

pub same : (s : Scope) → Ends s s
same s = ([], refl)

pub further : (r s t : Scope) → Ends t s → Ends s r → Ends t r
further r s t (xs, e) (ys, f) = (xs ++ ys, e ∙ ap (λ l. xs ++ l) f ∙ sym (append_assoc xs ys r))

pub after_ends : (depth : ℕ) (h : Here) (s : StatementTree) → Ends (after depth h s).scope h.scope
after_ends depth h T.Empty = same h.scope
after_ends depth h (T.Local l) = (_ ∷ [], refl)
after_ends depth h (T.Block s) = same h.scope
after_ends depth h (T.Call c) = same h.scope
after_ends depth h (T.Assign x v) = same h.scope
after_ends depth h (T.Store a i e) = same h.scope
after_ends depth h (T.Change c) = same h.scope
after_ends depth h (T.If e s) = same h.scope
after_ends depth h (T.IfElse e s t) = same h.scope
after_ends depth h (T.While e s) = same h.scope
after_ends depth h (T.Do s e) = same h.scope
after_ends depth h (T.For start e step s) = same h.scope
after_ends depth h (T.Break at) = same h.scope
after_ends depth h (T.Continue at) = same h.scope
after_ends depth h (T.Return at v) = same h.scope

pub after_all_ends : (depth : ℕ) (h : Here) (s : StatementsTree) → Ends (after_all depth h s).scope h.scope
after_all_ends depth h T.Done = same h.scope
after_all_ends depth h (T.First s rest) = further h.scope (after depth h s).scope (after_all depth (after depth h s) rest).scope (after_all_ends depth (after depth h s) rest) (after_ends depth h s)

start_ends : (depth : ℕ) (h : Here) (start : StartTree) → Ends (with_start depth h start).scope h.scope
start_ends depth h T.StartNothing = same h.scope
start_ends depth h (T.StartSet s) = same h.scope
start_ends depth h (T.StartLocal t x e) = (_ ∷ [], refl)

pub for_ends : (depth : ℕ) (h : Here) (start : StartTree) (s : StatementTree) → Ends (after depth (with_start depth h start) s).scope h.scope
for_ends depth h start s = further h.scope (with_start depth h start).scope (after depth (with_start depth h start) s).scope (after_ends depth (with_start depth h start) s) (start_ends depth h start)

pub is_longer : (longer shorter : Scope) → Ends longer shorter → length shorter ≤ length longer
is_longer longer shorter (xs, e) = rw (e, length-append xs shorter) (omega arith)

pub shortened : (longer shorter : Scope) → Ends longer shorter → drop (length longer - length shorter) longer ≡ shorter
shortened longer shorter (xs, e) =
    let k : length (xs ++ shorter) - length shorter ≡ length xs = rw (length-append xs shorter) (omega arith) in
    rw (e, k) (drop-append_seam xs shorter)
