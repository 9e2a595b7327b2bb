-- Why `push_size` meets its contract.
use Rattle.std.proofs.Common.{ℕ, List, [], ◌∷◌, ◌++◌, sym, ap, ◌∙◌, subst}
use Rattle.lang_base.specs.Texts.{Appends}
use Rattle.text_keys.specs.declared.key.Key.{Key}
use Rattle.text_keys.specs.declared.key.Key.TheVariants as key
use Rattle.text_keys.specs.declared.word.Word.{Word}
use Rattle.text_keys.specs.declared.word.Word.TheVariants as word
use Rattle.text_keys.specs.Lines.{spaced}
use Rattle.text_keys.proofs.Appending.{appends_behind}
use Rattle.text_keys.proofs.Lines.{spaced-append}
use Rattle.text_rtl.proofs.function.push_size.Goals as goal

-- a key and its number
abbrev count : Key → ℕ → List Word
count k n = word.Named k ∷ word.Number n ∷ []

pub returns : goal.returns
returns c =
    let f = c.args.function.now in
    let old = c.args.out.now.items in
    let middle = c.push_count.new.out.items in
    let new = c.push_count-2.new.out.items in
    let r = c.push_count-2.result in
    subst (λ (l : List ℕ). Appends r l old new) (sym (spaced-append (count key.Registers f.registers) (count key.Entry f.entry)))
    (appends_behind r (spaced (count key.Registers f.registers)) (spaced (count key.Entry f.entry)) old middle new
    (c.in_ok-push_count.ensures ∙ ap (λ n. old ++ spaced (count key.Registers n)) c.registers.ensures)
    (subst (λ n. Appends r (spaced (count key.Entry n)) middle new) c.entry.ensures c.push_count-2.ensures))
