-- Expressions are read back from their words, from the last word to the first.
use Rattle.std.proofs.Common.{◌≡◌, ℕ, ◌≤◌, ◌^◌, List, [], ◌∷◌, ◌++◌, map, refl, ap, ◌∙◌, arith}
use Rattle.std.specs.List.{AllByRecursion, flat_map}
use Rattle.std.proofs.lemmas.List.{append_assoc}
use Rattle.cminor_syntax.specs.Fits.{ExpressionFits}
use Rattle.cminor_syntax.specs.Trees.{ExpressionTree}
use Rattle.cminor_syntax.specs.Trees as T
use Rattle.text_keys.specs.declared.key.Key.{Key}
use Rattle.text_keys.specs.declared.key.Key.TheVariants as key
use Rattle.text_keys.specs.declared.word.Letter.TheVariants as letter
use Rattle.text_keys.specs.declared.word.Word.{Word}
use Rattle.text_keys.specs.declared.word.Word.TheVariants as word
use Rattle.text_keys.specs.Lines.{spaced, spaced_word}
use Rattle.text_keys.specs.Words.{WordFits}
use Rattle.text_cminor.specs.Shown.{variable_word, shown_key, shown_expression}

-- the words of an expression before others
abbrev pub words : ExpressionTree → List Word → List Word
words (T.Number w) rest = word.Number w ∷ rest
words (T.Variable v) rest = variable_word v ∷ rest
words (T.Load g i) rest = word.Named key.Start ∷ word.Named key.Load ∷ word.Lettered letter.Global g ∷ words i (word.Named key.Stop ∷ rest)
words (T.Unary o e) rest = word.Named key.Start ∷ word.Named (key.Operator o) ∷ words e (word.Named key.Stop ∷ rest)
words (T.Binary o a b) rest = word.Named key.Start ∷ word.Named (key.Operator o) ∷ words a (words b (word.Named key.Stop ∷ rest))
words (T.Choice c a b) rest = word.Named key.Start ∷ word.Named key.Choose ∷ words c (words a (words b (word.Named key.Stop ∷ rest)))

-- ---- the text is that of the words

open_text : (k : Key) (t rest : List ℕ) → (shown_key key.Start ++ (shown_key k ++ t)) ++ rest ≡ shown_key key.Start ++ (shown_key k ++ (t ++ rest))
open_text k t rest = append_assoc (shown_key key.Start) (shown_key k ++ t) rest ∙ ap (λ l. shown_key key.Start ++ l) (append_assoc (shown_key k) t rest)

pub text_is : (e : ExpressionTree) (rest : List Word) → shown_expression e ++ spaced rest ≡ spaced (words e rest)
text_is (T.Number w) rest = refl
text_is (T.Variable v) rest = refl
text_is (T.Load g i) rest =
    let s = shown_key key.Stop in
    open_text key.Load (spaced_word (word.Lettered letter.Global g) ++ (shown_expression i ++ s)) (spaced rest)
    ∙ ap (λ l. shown_key key.Start ++ (shown_key key.Load ++ l)) (append_assoc (spaced_word (word.Lettered letter.Global g)) (shown_expression i ++ s) (spaced rest)
    ∙ ap (λ l. spaced_word (word.Lettered letter.Global g) ++ l) (append_assoc (shown_expression i) s (spaced rest) ∙ text_is i (word.Named key.Stop ∷ rest)))
text_is (T.Unary o e) rest =
    let s = shown_key key.Stop in
    open_text (key.Operator o) (shown_expression e ++ s) (spaced rest)
    ∙ ap (λ l. shown_key key.Start ++ (shown_key (key.Operator o) ++ l)) (append_assoc (shown_expression e) s (spaced rest) ∙ text_is e (word.Named key.Stop ∷ rest))
text_is (T.Binary o a b) rest =
    let s = shown_key key.Stop in
    open_text (key.Operator o) (shown_expression a ++ (shown_expression b ++ s)) (spaced rest)
    ∙ ap (λ l. shown_key key.Start ++ (shown_key (key.Operator o) ++ l)) (append_assoc (shown_expression a) (shown_expression b ++ s) (spaced rest)
    ∙ ap (λ l. shown_expression a ++ l) (append_assoc (shown_expression b) s (spaced rest) ∙ text_is b (word.Named key.Stop ∷ rest))
    ∙ text_is a (words b (word.Named key.Stop ∷ rest)))
text_is (T.Choice c a b) rest =
    let s = shown_key key.Stop in
    open_text key.Choose (shown_expression c ++ (shown_expression a ++ (shown_expression b ++ s))) (spaced rest)
    ∙ ap (λ l. shown_key key.Start ++ (shown_key key.Choose ++ l)) (append_assoc (shown_expression c) (shown_expression a ++ (shown_expression b ++ s)) (spaced rest)
    ∙ ap (λ l. shown_expression c ++ l) (append_assoc (shown_expression a) (shown_expression b ++ s) (spaced rest)
    ∙ ap (λ l. shown_expression a ++ l) (append_assoc (shown_expression b) s (spaced rest) ∙ text_is b (word.Named key.Stop ∷ rest))
    ∙ text_is a (words b (word.Named key.Stop ∷ rest)))
    ∙ text_is c (words a (words b (word.Named key.Stop ∷ rest))))

-- ---- read back

-- what is read and not yet part of another: an expression, a global, the end of an operator's parts
data Item : Type 0 where
  Tree : (e : ExpressionTree) → Item
  OfGlobal : (g : ℕ) → Item
  End : Item

tree_of : Item → ExpressionTree
tree_of (Tree e) = e
tree_of (OfGlobal g) = T.Number 0
tree_of End = T.Number 0

applied : Key → List Item → List Item
applied key.Start k = k
applied key.Stop k = End ∷ k
applied key.Load (OfGlobal g ∷ Tree i ∷ End ∷ k) = Tree (T.Load g i) ∷ k
applied (key.Operator o) (Tree e ∷ End ∷ k) = Tree (T.Unary o e) ∷ k
applied (key.Operator o) (Tree a ∷ Tree b ∷ End ∷ k) = Tree (T.Binary o a b) ∷ k
applied key.Choose (Tree c ∷ Tree a ∷ Tree b ∷ End ∷ k) = Tree (T.Choice c a b) ∷ k
applied _ k = k

step : Word → List Item → List Item
step (word.Number w) k = Tree (T.Number w) ∷ k
step (word.Lettered letter.Global g) k = OfGlobal g ∷ k
step (word.Lettered l v) k = Tree (T.Variable v) ∷ k
step (word.Named n) k = applied n k

eval : List Word → List Item
eval [] = []
eval (w ∷ ws) = step w (eval ws)

back : (e : ExpressionTree) (rest : List Word) → eval (words e rest) ≡ Tree e ∷ eval rest
unfolding applied step eval
back (T.Number w) rest = refl
back (T.Variable v) rest = refl
back (T.Load g i) rest = ap (λ k. applied key.Load (OfGlobal g ∷ k)) (back i (word.Named key.Stop ∷ rest))
back (T.Unary o e) rest = ap (applied (key.Operator o)) (back e (word.Named key.Stop ∷ rest))
back (T.Binary o a b) rest = ap (applied (key.Operator o)) (back a (words b (word.Named key.Stop ∷ rest)) ∙ ap (λ k. Tree a ∷ k) (back b (word.Named key.Stop ∷ rest)))
back (T.Choice c a b) rest =
    ap (applied key.Choose) (back c (words a (words b (word.Named key.Stop ∷ rest)))
    ∙ ap (λ k. Tree c ∷ k) (back a (words b (word.Named key.Stop ∷ rest)) ∙ ap (λ k. Tree a ∷ k) (back b (word.Named key.Stop ∷ rest))))

-- several, one behind the other
abbrev pub words_each : List ExpressionTree → List Word
words_each [] = []
words_each (e ∷ es) = words e (words_each es)

pub read_each : List Word → List ExpressionTree
read_each ws = map tree_of (eval ws)

pub each_again : (es : List ExpressionTree) → read_each (words_each es) ≡ es
unfolding read_each eval tree_of
each_again [] = refl
each_again (e ∷ es) = ap (map tree_of) (back e (words_each es)) ∙ ap (λ l. e ∷ l) (each_again es)

pub text_each : (es : List ExpressionTree) → flat_map shown_expression es ≡ spaced (words_each es)
text_each [] = refl
text_each (e ∷ es) = ap (λ l. shown_expression e ++ l) (text_each es) ∙ text_is e (words_each es)

-- ---- in range

pub words_fit : (variables : ℕ) → variables ≤ 2 ^ 16 → (e : ExpressionTree) (rest : List Word) → ExpressionFits variables e → AllByRecursion WordFits rest → AllByRecursion WordFits (words e rest)
words_fit variables few (T.Number w) rest fits all = (omega (arith, fits), all)
words_fit variables few (T.Variable v) rest fits all = (omega (arith, fits), all)
words_fit variables few (T.Load g i) rest fits all = (tt, (tt, (omega (arith, fits.0), words_fit variables few i (word.Named key.Stop ∷ rest) fits.1 (tt, all))))
words_fit variables few (T.Unary o e) rest fits all = (tt, (tt, words_fit variables few e (word.Named key.Stop ∷ rest) fits.1 (tt, all)))
words_fit variables few (T.Binary o a b) rest fits all =
    (tt, (tt, words_fit variables few a (words b (word.Named key.Stop ∷ rest)) fits.1.0 (words_fit variables few b (word.Named key.Stop ∷ rest) fits.1.1 (tt, all))))
words_fit variables few (T.Choice c a b) rest fits all = (
  tt,
  (
    tt,
    words_fit variables few c (words a (words b (word.Named key.Stop ∷ rest))) fits.0
        (words_fit variables few a (words b (word.Named key.Stop ∷ rest)) fits.1.0 (words_fit variables few b (word.Named key.Stop ∷ rest) fits.1.1 (tt, all))),
  ),
)

pub each_fit : (variables : ℕ) → variables ≤ 2 ^ 16 → (es : List ExpressionTree) → AllByRecursion (ExpressionFits variables) es → AllByRecursion WordFits (words_each es)
each_fit variables few [] fits = tt
each_fit variables few (e ∷ es) fits = words_fit variables few e (words_each es) fits.0 (each_fit variables few es fits.1)
