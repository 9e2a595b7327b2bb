-- Statements are read back from their lines, from the last line to the first.
use Rattle.std.proofs.Common.{◌≡◌, ℕ, ◌≤◌, ◌^◌, List, [], ◌∷◌, ◌++◌, Option, Some, None, codes, refl, sym, ap, ◌∙◌, arith}
use Rattle.std.specs.List.{AllByRecursion, flat_map}
use Rattle.std.proofs.lemmas.List.{append_assoc, append-nil}
use Rattle.cminor_syntax.specs.Fits.{StatementFits, StatementsFit, TargetFits}
use Rattle.cminor_syntax.specs.Trees.{ExpressionTree, StatementTree, StatementsTree}
use Rattle.cminor_syntax.specs.Trees as T
use Rattle.text_keys.specs.declared.key.Key.{Key}
use Rattle.text_keys.specs.declared.key.Key.TheVariants as key
use Rattle.text_keys.specs.declared.word.Letter.TheVariants as letter
use Rattle.text_keys.specs.declared.word.Word.{Word}
use Rattle.text_keys.specs.declared.word.Word.TheVariants as word
use Rattle.text_keys.specs.Lines.{spaced, spaced_word}
use Rattle.text_keys.specs.Words.{WordFits, target_words}
use Rattle.text_keys.proofs.Clear.{Clear, Outside, many_clear}
use Rattle.text_keys.proofs.Lines.{line_clear, spaced-append, all-append}
use Rattle.text_keys.proofs.Reading.{others, at}
use Rattle.text_cminor.specs.Shown.{variable_word, shown_key, shown_expression, shown_returned, shown_target, shown_line, shown_statement, shown_statements}
use Rattle.text_cminor.proofs.Expressions.{words, words_each, text_is, text_each, read_each, each_again, words_fit, each_fit}

abbrev Line : Type 0
Line = List Word

abbrev maybe_words : Option ExpressionTree → List Word
maybe_words None = []
maybe_words (Some e) = words e []

abbrev target_before : Option ℕ → List Word → List Word
target_before target ws = target_words variable_word target ++ ws

-- the lines of a statement before others
abbrev mutual
  lines : StatementTree → List Line → List Line
  lines T.Skip rest = (word.Named key.Skip ∷ []) ∷ rest
  lines (T.Assign v e) rest = target_before (Some v) (words e []) ∷ rest
  lines (T.Store g i e) rest = (word.Named key.Store ∷ word.Lettered letter.Global g ∷ words i (words e [])) ∷ rest
  lines (T.Call f target arguments) rest = target_before target (word.Named key.Call ∷ word.Lettered letter.Function f ∷ words_each arguments) ∷ rest
  lines (T.Put target e) rest = target_before target (word.Named key.Put ∷ words e []) ∷ rest
  lines (T.Sequence ss) rest = (word.Named key.Sequence ∷ []) ∷ lines_each ss rest
  lines (T.If e s t) rest = (word.Named key.If ∷ words e []) ∷ lines s (lines t rest)
  lines (T.Loop s) rest = (word.Named key.Loop ∷ []) ∷ lines s rest
  lines (T.Block s) rest = (word.Named key.Block ∷ []) ∷ lines s rest
  lines (T.Exit n) rest = (word.Named key.Exit ∷ word.Number n ∷ []) ∷ rest
  lines (T.Return e) rest = (word.Named key.Return ∷ maybe_words e) ∷ rest

  lines_each : StatementsTree → List Line → List Line
  lines_each T.Done rest = (word.Named key.End ∷ []) ∷ rest
  lines_each (T.First s more) rest = lines s (lines_each more rest)

-- ---- the text is that of the lines

abbrev line_text : Line → List ℕ
line_text ws = shown_line (spaced ws)

abbrev lines_text : List Line → List ℕ
lines_text ls = flat_map line_text ls

one_text : (e : ExpressionTree) → shown_expression e ≡ spaced (words e [])
one_text e = sym (append-nil (shown_expression e)) ∙ text_is e []

same_line : (text : List ℕ) (ws : Line) (rest : List Line) → text ≡ spaced ws → shown_line text ++ lines_text rest ≡ lines_text (ws ∷ rest)
same_line text ws rest e = ap (λ t. shown_line t ++ lines_text rest) e

behind_target : (target : Option ℕ) (text : List ℕ) (ws : List Word) → text ≡ spaced ws → shown_target target ++ text ≡ spaced (target_before target ws)
behind_target target text ws e = ap (λ t. shown_target target ++ t) e ∙ sym (spaced-append (target_words variable_word target) ws)

key_alone : (k : Key) → shown_key k ≡ spaced (word.Named k ∷ [])
key_alone k = sym (append-nil (shown_key k))

behind_key : (k : Key) (text : List ℕ) (ws : List Word) → text ≡ spaced ws → shown_key k ++ text ≡ spaced (word.Named k ∷ ws)
behind_key k text ws e = ap (λ t. shown_key k ++ t) e

behind_word : (w : Word) (text : List ℕ) (ws : List Word) → text ≡ spaced ws → spaced_word w ++ text ≡ spaced (w ∷ ws)
behind_word w text ws e = ap (λ t. spaced_word w ++ t) e

returned_text : (e : Option ExpressionTree) → shown_returned e ≡ spaced (maybe_words e)
returned_text None = refl
returned_text (Some e) = one_text e

two_text : (i e : ExpressionTree) → shown_expression i ++ shown_expression e ≡ spaced (words i (words e []))
two_text i e = ap (λ t. shown_expression i ++ t) (one_text e) ∙ text_is i (words e [])

mutual
  lines_are : (s : StatementTree) (rest : List Line) → shown_statement s ++ lines_text rest ≡ lines_text (lines s rest)
  lines_are T.Skip rest = same_line (shown_key key.Skip) (word.Named key.Skip ∷ []) rest (key_alone key.Skip)
  lines_are (T.Assign v e) rest = same_line (shown_target (Some v) ++ shown_expression e) (target_before (Some v) (words e [])) rest (behind_target (Some v) (shown_expression e) (words e []) (one_text e))
  lines_are (T.Store g i e) rest =
      let global = word.Lettered letter.Global g in
      same_line (shown_key key.Store ++ (spaced_word global ++ (shown_expression i ++ shown_expression e))) (word.Named key.Store ∷ global ∷ words i (words e [])) rest
      (behind_key key.Store (spaced_word global ++ (shown_expression i ++ shown_expression e)) (global ∷ words i (words e [])) (behind_word global (shown_expression i ++ shown_expression e) (words i (words e [])) (two_text i e)))
  lines_are (T.Call f target arguments) rest =
      let callee = word.Lettered letter.Function f in
      let text = flat_map shown_expression arguments in
      let ws = words_each arguments in
      same_line (shown_target target ++ (shown_key key.Call ++ (spaced_word callee ++ text))) (target_before target (word.Named key.Call ∷ callee ∷ ws)) rest
      (behind_target target (shown_key key.Call ++ (spaced_word callee ++ text)) (word.Named key.Call ∷ callee ∷ ws)
      (behind_key key.Call (spaced_word callee ++ text) (callee ∷ ws) (behind_word callee text ws (text_each arguments))))
  lines_are (T.Put target e) rest =
      same_line (shown_target target ++ (shown_key key.Put ++ shown_expression e)) (target_before target (word.Named key.Put ∷ words e [])) rest
      (behind_target target (shown_key key.Put ++ shown_expression e) (word.Named key.Put ∷ words e []) (behind_key key.Put (shown_expression e) (words e []) (one_text e)))
  lines_are (T.Sequence ss) rest =
      append_assoc (shown_line (shown_key key.Sequence)) (shown_statements ss) (lines_text rest)
      ∙ ap (λ t. shown_line (shown_key key.Sequence) ++ t) (each_are ss rest)
      ∙ same_line (shown_key key.Sequence) (word.Named key.Sequence ∷ []) (lines_each ss rest) (key_alone key.Sequence)
  lines_are (T.If e s t) rest =
      let first = shown_line (shown_key key.If ++ shown_expression e) in
      append_assoc first (shown_statement s ++ shown_statement t) (lines_text rest)
      ∙ ap (λ x. first ++ x) (append_assoc (shown_statement s) (shown_statement t) (lines_text rest) ∙ ap (λ x. shown_statement s ++ x) (lines_are t rest) ∙ lines_are s (lines t rest))
      ∙ same_line (shown_key key.If ++ shown_expression e) (word.Named key.If ∷ words e []) (lines s (lines t rest)) (behind_key key.If (shown_expression e) (words e []) (one_text e))
  lines_are (T.Loop s) rest =
      append_assoc (shown_line (shown_key key.Loop)) (shown_statement s) (lines_text rest)
      ∙ ap (λ t. shown_line (shown_key key.Loop) ++ t) (lines_are s rest)
      ∙ same_line (shown_key key.Loop) (word.Named key.Loop ∷ []) (lines s rest) (key_alone key.Loop)
  lines_are (T.Block s) rest =
      append_assoc (shown_line (shown_key key.Block)) (shown_statement s) (lines_text rest)
      ∙ ap (λ t. shown_line (shown_key key.Block) ++ t) (lines_are s rest)
      ∙ same_line (shown_key key.Block) (word.Named key.Block ∷ []) (lines s rest) (key_alone key.Block)
  lines_are (T.Exit n) rest =
      let number = word.Number n in
      same_line (shown_key key.Exit ++ spaced_word number) (word.Named key.Exit ∷ number ∷ []) rest (behind_key key.Exit (spaced_word number) (number ∷ []) (sym (append-nil (spaced_word number))))
  lines_are (T.Return e) rest = same_line (shown_key key.Return ++ shown_returned e) (word.Named key.Return ∷ maybe_words e) rest (behind_key key.Return (shown_returned e) (maybe_words e) (returned_text e))

  each_are : (ss : StatementsTree) (rest : List Line) → shown_statements ss ++ lines_text rest ≡ lines_text (lines_each ss rest)
  each_are T.Done rest = same_line (shown_key key.End) (word.Named key.End ∷ []) rest (key_alone key.End)
  each_are (T.First s more) rest =
      append_assoc (shown_statement s) (shown_statements more) (lines_text rest)
      ∙ ap (λ t. shown_statement s ++ t) (each_are more rest)
      ∙ lines_are s (lines_each more rest)

-- ---- read back

-- statements that are not yet part of another, and ends of sequences
abbrev Items : Type 0
Items = List (Option StatementTree)

first_of : Items → StatementTree
first_of [] = T.Skip
first_of (None ∷ k) = T.Skip
first_of (Some s ∷ k) = s

below : Items → Items
below [] = []
below (s ∷ k) = k

gathered : Items → StatementsTree
gathered [] = T.Done
gathered (None ∷ k) = T.Done
gathered (Some s ∷ k) = T.First s (gathered k)

behind_gathered : Items → Items
behind_gathered [] = []
behind_gathered (None ∷ k) = k
behind_gathered (Some s ∷ k) = behind_gathered k

first_tree : List ExpressionTree → ExpressionTree
first_tree [] = T.Number 0
first_tree (e ∷ es) = e

second_tree : List ExpressionTree → ExpressionTree
second_tree [] = T.Number 0
second_tree (e ∷ es) = first_tree es

maybe_first : List ExpressionTree → Option ExpressionTree
maybe_first [] = None
maybe_first (e ∷ es) = Some e

keyed : Key → List Word → Items → Items
keyed key.Skip ws k = Some T.Skip ∷ k
keyed key.Store ws k = Some (T.Store (at ws) (first_tree (read_each (others ws))) (second_tree (read_each (others ws)))) ∷ k
keyed key.Call ws k = Some (T.Call (at ws) None (read_each (others ws))) ∷ k
keyed key.Put ws k = Some (T.Put None (first_tree (read_each ws))) ∷ k
keyed key.Sequence ws k = Some (T.Sequence (gathered k)) ∷ behind_gathered k
keyed key.If ws k = Some (T.If (first_tree (read_each ws)) (first_of k) (first_of (below k))) ∷ below (below k)
keyed key.Loop ws k = Some (T.Loop (first_of k)) ∷ below k
keyed key.Block ws k = Some (T.Block (first_of k)) ∷ below k
keyed key.Exit ws k = Some (T.Exit (at ws)) ∷ k
keyed key.Return ws k = Some (T.Return (maybe_first (read_each ws))) ∷ k
keyed key.End ws k = None ∷ k
keyed _ ws k = k

target_keyed : Key → ℕ → List Word → StatementTree
target_keyed key.Call v ws = T.Call (at ws) (Some v) (read_each (others ws))
target_keyed key.Put v ws = T.Put (Some v) (first_tree (read_each ws))
target_keyed n v ws = T.Assign v (first_tree (read_each (word.Named n ∷ ws)))

targeted : ℕ → List Word → StatementTree
targeted v [] = T.Skip
targeted v (word.Named n ∷ ws) = target_keyed n v ws
targeted v (word.Number n ∷ ws) = T.Assign v (first_tree (read_each (word.Number n ∷ ws)))
targeted v (word.Lettered l n ∷ ws) = T.Assign v (first_tree (read_each (word.Lettered l n ∷ ws)))

line_step : Line → Items → Items
line_step [] k = k
line_step (word.Named n ∷ ws) k = keyed n ws k
line_step (word.Number n ∷ ws) k = k
line_step (word.Lettered l v ∷ ws) k = Some (targeted v (others ws)) ∷ k

eval_lines : List Line → Items
eval_lines [] = []
eval_lines (l ∷ ls) = line_step l (eval_lines ls)

one_again : (e : ExpressionTree) → read_each (words e []) ≡ e ∷ []
one_again e = each_again (e ∷ [])

assigned : (v : ℕ) (e : ExpressionTree) → targeted v (words e []) ≡ T.Assign v e
unfolding targeted target_keyed first_tree
assigned v (T.Number w) = ap (λ es. T.Assign v (first_tree es)) (one_again (T.Number w))
assigned v (T.Variable u) = ap (λ es. T.Assign v (first_tree es)) (one_again (T.Variable u))
assigned v (T.Load g i) = ap (λ es. T.Assign v (first_tree es)) (one_again (T.Load g i))
assigned v (T.Unary o e) = ap (λ es. T.Assign v (first_tree es)) (one_again (T.Unary o e))
assigned v (T.Binary o a b) = ap (λ es. T.Assign v (first_tree es)) (one_again (T.Binary o a b))
assigned v (T.Choice c a b) = ap (λ es. T.Assign v (first_tree es)) (one_again (T.Choice c a b))

-- a sequence's statements, and its end
items : StatementsTree → Items → Items
items T.Done k = None ∷ k
items (T.First s more) k = Some s ∷ items more k

gathered_items : (ss : StatementsTree) (k : Items) → gathered (items ss k) ≡ ss
unfolding gathered items
gathered_items T.Done k = refl
gathered_items (T.First s more) k = ap (λ x. T.First s x) (gathered_items more k)

behind_items : (ss : StatementsTree) (k : Items) → behind_gathered (items ss k) ≡ k
unfolding behind_gathered items
behind_items T.Done k = refl
behind_items (T.First s more) k = behind_items more k

called : (f : ℕ) (target : Option ℕ) (es : List ExpressionTree) (k : Items) → line_step (target_before target (word.Named key.Call ∷ word.Lettered letter.Function f ∷ words_each es)) k ≡ Some (T.Call f target es) ∷ k
unfolding line_step keyed targeted target_keyed
called f None es k = ap (λ xs. Some (T.Call f None xs) ∷ k) (each_again es)
called f (Some v) es k = ap (λ xs. Some (T.Call f (Some v) xs) ∷ k) (each_again es)

printed : (target : Option ℕ) (e : ExpressionTree) (k : Items) → line_step (target_before target (word.Named key.Put ∷ words e [])) k ≡ Some (T.Put target e) ∷ k
unfolding line_step keyed targeted target_keyed first_tree
printed None e k = ap (λ xs. Some (T.Put None (first_tree xs)) ∷ k) (one_again e)
printed (Some v) e k = ap (λ xs. Some (T.Put (Some v) (first_tree xs)) ∷ k) (one_again e)

returned : (e : Option ExpressionTree) (k : Items) → line_step (word.Named key.Return ∷ maybe_words e) k ≡ Some (T.Return e) ∷ k
unfolding line_step keyed maybe_first
returned None k = ap (λ xs. Some (T.Return (maybe_first xs)) ∷ k) (each_again [])
returned (Some e) k = ap (λ xs. Some (T.Return (maybe_first xs)) ∷ k) (one_again e)

mutual
  unfolding eval_lines line_step keyed first_tree second_tree first_of below items

  back : (s : StatementTree) (rest : List Line) → eval_lines (lines s rest) ≡ Some s ∷ eval_lines rest
  back T.Skip rest = refl
  back (T.Assign v e) rest = ap (λ s. Some s ∷ eval_lines rest) (assigned v e)
  back (T.Store g i e) rest = ap (λ xs. Some (T.Store g (first_tree xs) (second_tree xs)) ∷ eval_lines rest) (each_again (i ∷ e ∷ []))
  back (T.Call f target arguments) rest = called f target arguments (eval_lines rest)
  back (T.Put target e) rest = printed target e (eval_lines rest)
  back (T.Sequence ss) rest =
      ap (λ k. Some (T.Sequence (gathered k)) ∷ behind_gathered k) (back_each ss rest)
      ∙ (λ i. Some (T.Sequence (gathered_items ss (eval_lines rest) i)) ∷ behind_items ss (eval_lines rest) i)
  back (T.If e s t) rest =
      ap (λ k. Some (T.If (first_tree (read_each (words e []))) (first_of k) (first_of (below k))) ∷ below (below k)) (back s (lines t rest) ∙ ap (λ k. Some s ∷ k) (back t rest))
      ∙ ap (λ xs. Some (T.If (first_tree xs) s t) ∷ eval_lines rest) (one_again e)
  back (T.Loop s) rest = ap (λ k. Some (T.Loop (first_of k)) ∷ below k) (back s rest)
  back (T.Block s) rest = ap (λ k. Some (T.Block (first_of k)) ∷ below k) (back s rest)
  back (T.Exit n) rest = refl
  back (T.Return e) rest = returned e (eval_lines rest)

  back_each : (ss : StatementsTree) (rest : List Line) → eval_lines (lines_each ss rest) ≡ items ss (eval_lines rest)
  back_each T.Done rest = refl
  back_each (T.First s more) rest = back s (lines_each more rest) ∙ ap (λ k. Some s ∷ k) (back_each more rest)

again : (s : StatementTree) → first_of (eval_lines (lines s [])) ≡ s
unfolding first_of
again s = ap first_of (back s [])

-- ---- in range

abbrev LineFits : Line → Type 0
LineFits ws = AllByRecursion WordFits ws

target_fits : (variables : ℕ) → variables ≤ 2 ^ 16 → (target : Option ℕ) → TargetFits variables target → AllByRecursion WordFits (target_words variable_word target)
target_fits variables few None fits = tt
target_fits variables few (Some v) fits = (omega (arith, fits), (tt, tt))

before_fits : (variables : ℕ) → variables ≤ 2 ^ 16 → (target : Option ℕ) (ws : List Word) → TargetFits variables target → AllByRecursion WordFits ws → LineFits (target_before target ws)
before_fits variables few target ws fits all = all-append (target_words variable_word target) ws (target_fits variables few target fits) all

mutual
  lines_fit : (variables : ℕ) → variables ≤ 2 ^ 16 → (s : StatementTree) (rest : List Line) → StatementFits variables s → AllByRecursion LineFits rest → AllByRecursion LineFits (lines s rest)
  lines_fit variables few T.Skip rest fits all = ((tt, tt), all)
  lines_fit variables few (T.Assign v e) rest fits all = (before_fits variables few (Some v) (words e []) fits.0 (words_fit variables few e [] fits.1 tt), all)
  lines_fit variables few (T.Store g i e) rest fits all = ((tt, (omega (arith, fits.0), words_fit variables few i (words e []) fits.1.0 (words_fit variables few e [] fits.1.1 tt))), all)
  lines_fit variables few (T.Call f target arguments) rest fits all =
      (before_fits variables few target (word.Named key.Call ∷ word.Lettered letter.Function f ∷ words_each arguments) fits.1.0 (tt, (omega (arith, fits.0), each_fit variables few arguments fits.1.1.1)), all)
  lines_fit variables few (T.Put target e) rest fits all = (before_fits variables few target (word.Named key.Put ∷ words e []) fits.0 (tt, words_fit variables few e [] fits.1 tt), all)
  lines_fit variables few (T.Sequence ss) rest fits all = ((tt, tt), each_lines_fit variables few ss rest fits.1 all)
  lines_fit variables few (T.If e s t) rest fits all = ((tt, words_fit variables few e [] fits.0 tt), lines_fit variables few s (lines t rest) fits.1.0 (lines_fit variables few t rest fits.1.1 all))
  lines_fit variables few (T.Loop s) rest fits all = ((tt, tt), lines_fit variables few s rest fits all)
  lines_fit variables few (T.Block s) rest fits all = ((tt, tt), lines_fit variables few s rest fits all)
  lines_fit variables few (T.Exit n) rest fits all = ((tt, (omega (arith, fits), tt)), all)
  lines_fit variables few (T.Return None) rest fits all = ((tt, tt), all)
  lines_fit variables few (T.Return (Some e)) rest fits all = ((tt, words_fit variables few e [] fits tt), all)

  each_lines_fit : (variables : ℕ) → variables ≤ 2 ^ 16 → (ss : StatementsTree) (rest : List Line) → StatementsFit variables ss → AllByRecursion LineFits rest → AllByRecursion LineFits (lines_each ss rest)
  each_lines_fit variables few T.Done rest fits all = ((tt, tt), all)
  each_lines_fit variables few (T.First s more) rest fits all = lines_fit variables few s (lines_each more rest) fits.0 (each_lines_fit variables few more rest fits.1 all)

-- ---- told by the text

text_clear : Clear line_text LineFits (λ _. Unit {0})
text_clear = line_clear (λ (ws : Line). ws) (λ _. []) (λ _. []) LineFits (λ ws. ws) (λ ws. append-nil ws) (λ ws fits. fits) (λ ws fits. tt) (λ ws fits. tt) (codes " ")

-- a statement that fits among few variables
pub record Fits (s : StatementTree) : Type 0 where
  pub variables : ℕ
  pub few : variables ≤ 2 ^ 16
  pub is : StatementFits variables s

whole : (s : StatementTree) (r : List ℕ) → shown_statement s ++ r ≡ lines_text (lines s []) ++ r
whole s r = ap (λ t. t ++ r) (sym (append-nil (shown_statement s)) ∙ lines_are s [])

pub statement_clear : Clear shown_statement Fits (Outside 32)
statement_clear s t r u fits fits' ends ends' e =
    let told = many_clear line_text LineFits (λ _. Unit {0}) (Outside 32) 32 (λ ws. (_, refl)) text_clear (λ r ends. tt) (λ r ends. ends) (λ r. tt)
    (lines s []) (lines t []) r u (lines_fit fits.variables fits.few s [] fits.is tt) (lines_fit fits'.variables fits'.few t [] fits'.is tt) ends ends'
    (sym (whole s r) ∙ e ∙ whole t u) in
    (sym (again s) ∙ ap (λ ls. first_of (eval_lines ls)) told.0 ∙ again t, told.1)
