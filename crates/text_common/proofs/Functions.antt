-- The text of a function tells it, where what stands below its first line does.
use Rattle.std.proofs.Common.{◌≡◌, ℕ, true, List, ◌++◌, refl, sym, ◌∙◌}
use Rattle.std.specs.List.{AllByRecursion, list_all}
use Rattle.std.proofs.lemmas.List.{append_assoc}
use Rattle.lang_base.specs.declared.program.Named.{Named}
use Rattle.text_keys.specs.declared.word.Word.{Word}
use Rattle.text_keys.specs.Words.{WordFits}
use Rattle.text_keys.specs.Lines.{spaced, line_end}
use Rattle.text_keys.specs.Names.{named_head}
use Rattle.text_keys.proofs.Clear.{Clear, Outside, Begins}
use Rattle.text_keys.proofs.Lines.{words_tell}
use Rattle.text_keys.proofs.Names.{is_name_byte, ParameterFits, head_tells}
use Rattle.text_common.specs.Functions.{shown_function}

-- a name without parentheses, and a function that fits
pub record IsNamed {F : Type 0} (Fits : F → Type 0) (f : Named F) : Type 0 where
  pub name : list_all is_name_byte f.name ≡ true
  pub function : Fits f.function

module _ {F A : Type 0} (word : A → Word) (parameters : F → List A) (sizes : F → List Word) (below : F → List ℕ) (Fits : F → Type 0)
    (tells : (x y : A) → word x ≡ word y → x ≡ y)
    (parameters_fit : (f : F) → Fits f → AllByRecursion (ParameterFits word) (parameters f)) (sizes_fit : (f : F) → Fits f → AllByRecursion WordFits (sizes f))
    (parts_tell : (f g : F) (r s : List ℕ) → Fits f → Fits g → Outside 32 r → Outside 32 s → parameters f ≡ parameters g → sizes f ≡ sizes g → below f ++ r ≡ below g ++ s → (f ≡ g) × (r ≡ s)) where
  abbrev text : Named F → List ℕ
  text = shown_function word parameters sizes below

  pub function_begins : (f : Named F) → Begins 102 (text f)
  function_begins f = (_, refl)

  pub function_clear : Clear text (IsNamed Fits) (Outside 32)
  function_clear f g r s fits fits' ends ends' e =
      let rest : F → List ℕ = λ h. spaced (sizes h) ++ (line_end ++ below h) in
      let head = head_tells word tells f.name g.name (parameters f.function) (parameters g.function) (rest f.function ++ r) (rest g.function ++ s) fits.name fits'.name
      (parameters_fit f.function fits.function) (parameters_fit g.function fits'.function)
      (sym (append_assoc (named_head word f.name (parameters f.function)) (rest f.function) r) ∙ e ∙ append_assoc (named_head word g.name (parameters g.function)) (rest g.function) s) in
      let size = words_tell (sizes f.function) (sizes g.function) (below f.function ++ r) (below g.function ++ s) (sizes_fit f.function fits.function) (sizes_fit g.function fits'.function)
      (sym (append_assoc (spaced (sizes f.function)) (line_end ++ below f.function) r) ∙ head.2 ∙ append_assoc (spaced (sizes g.function)) (line_end ++ below g.function) s) in
      let function = parts_tell f.function g.function r s fits.function fits'.function ends ends' head.1 size.0 size.1 in
      (λ i. record { name = head.0 i; function = function.0 i }, function.1)
