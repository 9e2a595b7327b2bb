-- The words of arguments, one after the other.
use Rattle.std.proofs.Common.{◌≡◌, ℕ, suc, ◌+◌, ◌<◌, ◌≤◌, Bool, true, false, List, [], ◌∷◌, ◌++◌, length, get_or, take, drop, map, Option, Some, None, refl, sym, ap, subst, ◌∙◌, append_assoc}
use Rattle.std.specs.Prelude.{replicate}
use Rattle.std.proofs.lemmas.List.{drop_more, length-map, take-append-le, drop-append-le}
use Rattle.c_program.specs.declared.term.Term.{Term}
use Rattle.c_program.specs.Trees.{TermTree}
use Rattle.c_program.specs.Views.{term_tree}
use Rattle.c_program.specs.State.{State, word, words, before}
use Rattle.c_program.specs.Values.{value}
use Rattle.c_meaning_machine.specs.declared.scope.Scope.{Scope}
use Rattle.c_meaning_machine.specs.Scopes.{variables_of}
use Rattle.c_meaning_machine.specs.Arguments.{IsPlaced, AreWorth, ArePutBehind}

-- words, and those behind them
abbrev pub joined : List ℕ → Option (List ℕ) → Option (List ℕ)
joined ws None = None
joined ws (Some vs) = Some (ws ++ vs)

abbrev pub rest_words : List Term → ℕ → State → Option (List ℕ)
rest_words arguments i s = words (map term_tree (drop i arguments)) s

more : (arguments : List Term) (i : ℕ) (x : Term) (s : State) → i < length arguments → x ≡ get_or arguments i x → rest_words arguments i s ≡ before (word (term_tree x) s) (rest_words arguments (i + 1) s)
more arguments i x s h e =
    ap (λ l. words (map term_tree l) s) (drop_more arguments i x h ∙ ap (λ y. y ∷ drop (i + 1) arguments) (sym e))

pub joined_none : (ws : List ℕ) (arguments : List Term) (i : ℕ) (x : Term) (s : State) → i < length arguments → x ≡ get_or arguments i x → None ≡ word (term_tree x) s → joined ws (rest_words arguments i s) ≡ None
joined_none ws arguments i x s h e none =
    ap (joined ws) (more arguments i x s h e ∙ ap (λ w. before w (rest_words arguments (i + 1) s)) (sym none))

pushed : (ws : List ℕ) (w : ℕ) (rest : Option (List ℕ)) → joined ws (before (Some w) rest) ≡ joined (ws ++ w ∷ []) rest
pushed ws w None = refl
pushed ws w (Some vs) = ap Some (sym (append_assoc ws (w ∷ []) vs))

pub joined_more : (ws : List ℕ) (arguments : List Term) (i : ℕ) (x : Term) (s : State) (w : ℕ) → i < length arguments → x ≡ get_or arguments i x → Some w ≡ word (term_tree x) s → joined ws (rest_words arguments i s) ≡ joined (ws ++ w ∷ []) (rest_words arguments (i + 1) s)
joined_more ws arguments i x s w h e some =
    ap (joined ws) (more arguments i x s h e ∙ ap (λ v. before v (rest_words arguments (i + 1) s)) (sym some))
    ∙ pushed ws w (rest_words arguments (i + 1) s)

-- what is printed does not matter to arguments
pub words_output : (es : List TermTree) (s : State) (output : List ℕ) → words es (record s { output = output }) ≡ words es s
words_output [] s output = refl
words_output (e ∷ es) s output = ap (before (word e s)) (words_output es s output)

before_length : (w : Option ℕ) (rest : Option (List ℕ)) (n : ℕ) (ws : List ℕ) → ((vs : List ℕ) → rest ≡ Some vs → length vs ≡ n) → before w rest ≡ Some ws → length ws ≡ suc n
before_length None rest n ws h e = cc
before_length (Some w) None n ws h e = cc
before_length (Some w) (Some vs) n ws h e = let same : w ∷ vs ≡ ws = cc in ap length (sym same) ∙ ap suc (h vs refl)

-- as many words as arguments
pub words_length : (es : List TermTree) (s : State) (ws : List ℕ) → words es s ≡ Some ws → length ws ≡ length es
words_length [] s ws e = let same : [] ≡ ws = cc in ap length (sym same)
words_length (x ∷ es) s ws e = before_length (word x s) (words es s) (length es) ws (words_length es s) e

-- what the answer says of the words
pub placed_none : (o : Option (List ℕ)) (before' after : List (Option ℕ)) → IsPlaced false o before' after → o ≡ None
placed_none None before' after h = refl
placed_none (Some ws) before' after h = absurd h

pub placed_some : (o : Option (List ℕ)) (before' after : List (Option ℕ)) → IsPlaced true o before' after → (ws : List ℕ) × ((o ≡ Some ws) × (after ≡ before' ++ map Some ws))
placed_some None before' after h = absurd h
placed_some (Some ws) before' after h = (ws, (refl, h))

-- the words that arguments are worth, put behind the locals
pub placed_not : (arguments : List Term) (old new : Scope) (ws : List ℕ) → AreWorth arguments old ws false → ArePutBehind arguments old new false
placed_not arguments old new ws h = subst (λ o. IsPlaced false o old.locals.items new.locals.items) (sym h) tt

pub placed_so : (arguments : List Term) (old new : Scope) (ws : List ℕ) → AreWorth arguments old ws true → new.locals.items ≡ old.locals.items ++ map Some ws → ArePutBehind arguments old new true
placed_so arguments old new ws h e = subst (λ o. IsPlaced true o old.locals.items new.locals.items) (sym h) e

-- the only argument's word, put behind the locals
pub placed_none_alone : (argument : Term) (old new : Scope) → None ≡ value (variables_of old) (term_tree argument) → ArePutBehind (argument ∷ []) old new false
placed_none_alone argument old new e = subst (λ o. IsPlaced false (before o (Some [])) old.locals.items new.locals.items) e tt

pub placed_alone : (argument : Term) (old new : Scope) (w : ℕ) → Some w ≡ value (variables_of old) (term_tree argument) → new.locals.items ≡ old.locals.items ++ Some w ∷ [] → ArePutBehind (argument ∷ []) old new true
placed_alone argument old new w e h = subst (λ o. IsPlaced true (before o (Some [])) old.locals.items new.locals.items) e h

-- the arguments' words among these variables, whatever is printed
same_words : (terms terms' : List Term) (locals : List (Option ℕ)) (globals globals' : List (List ℕ)) (output : List ℕ) → terms ≡ terms' → globals ≡ globals' →
    words (map term_tree terms) (record { locals = locals; globals = globals; output = [] }) ≡ words (map term_tree terms') (record { locals = locals; globals = globals'; output = output })
same_words terms terms' locals globals globals' output e g =
    ap (λ l. words (map term_tree l) (record { locals = locals; globals = globals; output = [] })) e
    ∙ ap (λ l. words (map term_tree terms') (record { locals = locals; globals = l; output = [] })) g
    ∙ sym (words_output (map term_tree terms') (record { locals = locals; globals = globals'; output = [] }) output)

pub arguments_fail : (terms terms' : List Term) (locals before' after : List (Option ℕ)) (globals globals' : List (List ℕ)) (output : List ℕ) (done : Bool) → terms ≡ terms' → globals ≡ globals' → done ≡ false →
    IsPlaced done (words (map term_tree terms) (record { locals = locals; globals = globals; output = [] })) before' after →
    words (map term_tree terms') (record { locals = locals; globals = globals'; output = output }) ≡ None
arguments_fail terms terms' locals before' after globals globals' output done e g t placed =
    let told = words (map term_tree terms) (record { locals = locals; globals = globals; output = [] }) in
    sym (same_words terms terms' locals globals globals' output e g)
    ∙ placed_none told before' after (subst (λ d. IsPlaced d told before' after) t placed)

pub arguments_given : (terms terms' : List Term) (locals before' after : List (Option ℕ)) (globals globals' : List (List ℕ)) (output : List ℕ) (done : Bool) → terms ≡ terms' → globals ≡ globals' → done ≡ true →
    IsPlaced done (words (map term_tree terms) (record { locals = locals; globals = globals; output = [] })) before' after →
    (ws : List ℕ) × (words (map term_tree terms') (record { locals = locals; globals = globals'; output = output }) ≡ Some ws) × (after ≡ before' ++ map Some ws) × (length ws ≡ length terms)
arguments_given terms terms' locals before' after globals globals' output done e g t placed =
    let told = words (map term_tree terms) (record { locals = locals; globals = globals; output = [] }) in
    let found = placed_some told before' after (subst (λ d. IsPlaced d told before' after) t placed) in
    let count = words_length (map term_tree terms) (record { locals = locals; globals = globals; output = [] }) found.0 found.1.0 in
    (found.0, sym (same_words terms terms' locals globals globals' output e g) ∙ found.1.0, found.1.1, count ∙ length-map terms term_tree)

-- a function's locals, behind those of its callers
pub locals_behind : {B : Type 0} → (stands : List (Option ℕ) → List (Option ℕ) → B) (end n m : ℕ) (old new : List (Option ℕ)) → end ≤ length old → n ≡ m → new ≡ old ++ replicate n None →
    stands (take end new) (drop end new) ≡ stands (take end old) (drop end old ++ replicate m None)
locals_behind stands end n m old new h e p =
    ap (λ l. stands (take end l) (drop end l)) p
    ∙ ap (λ l. stands l (drop end (old ++ replicate n None))) (take-append-le end old (replicate n None) h)
    ∙ ap (stands (take end old)) (drop-append-le end old (replicate n None) h)
    ∙ ap (λ k. stands (take end old) (drop end old ++ replicate k None)) e
