-- Programs with one text are one program.
use Rattle.std.proofs.Common.{◌≡◌, ℕ, List, [], ◌∷◌, ◌++◌, refl, sym, ap, ◌∙◌, subst, arith}
use Rattle.std.specs.List.{AllByRecursion, flat_map}
use Rattle.std.proofs.lemmas.List.{append_cancel_left, append-nil}
use Rattle.lang_base.specs.Texts.{EachFits}
use Rattle.lang_base.specs.declared.program.Named.{Named}
use Rattle.lang_base.specs.declared.program.Program.{Program}
use Rattle.lang.specs.Form.{IsProgram, FunctionFits}
use Rattle.text_keys.proofs.Clear.{Clear, Outside, Begins, many_clear}
use Rattle.text_keys.specs.Numbered.{numbered_text}
use Rattle.text_common.specs.Programs.{shown_global, shown_program}
use Rattle.text_common.proofs.Functions.{IsNamed}
use Rattle.text_common.proofs.Globals.{small_globals, globals_clear}
use Rattle.text_common.proofs.NameBytes.{name_bytes}

module _ {F : Type 0} (title : List ℕ) (text : Named F → List ℕ) (Fits : F → Type 0) (begins : (f : Named F) → Begins 102 (text f)) (clear : Clear text (IsNamed Fits) (Outside 32)) where
  are_named : (before fs : List (Named F)) → EachFits (FunctionFits Fits) before fs → AllByRecursion (IsNamed Fits) fs
  are_named before [] fits = tt
  are_named before (f ∷ fs) fits = (record { name = name_bytes f.name fits.0.name; function = fits.0.function }, are_named (before ++ f ∷ []) fs fits.1)

  -- nothing stands behind the functions
  abbrev IsEnd : List ℕ → Type 0
  IsEnd r = r ≡ []

  outside : (c : ℕ) (r : List ℕ) → IsEnd r → Outside c r
  outside c r e = subst (Outside c) (sym e) tt

  no_global : (fs : List (Named F)) → Outside 103 (flat_map text fs ++ [])
  no_global [] = tt
  no_global (f ∷ fs) = subst (Outside 103) (sym (ap (λ t. (t ++ flat_map text fs) ++ []) (begins f).1)) (λ e. omega (arith, e))

  functions_clear : Clear (flat_map text) (AllByRecursion (IsNamed Fits)) IsEnd
  functions_clear = many_clear text (IsNamed Fits) (Outside 32) IsEnd 102 begins clear (outside 32) (outside 102) (λ r e. omega (arith, e))

  pub shown_programs_tell : (p q : Program F) → IsProgram Fits p → IsProgram Fits q → shown_program title text p ≡ shown_program title text q → p ≡ q
  shown_programs_tell p q fits fits' e =
      let below = append_cancel_left title _ _ e in
      let all : (x : Program F) → numbered_text shown_global 0 x.globals ++ (flat_map text x.functions ++ []) ≡ numbered_text shown_global 0 x.globals ++ flat_map text x.functions =
      λ x. ap (λ t. numbered_text shown_global 0 x.globals ++ t) (append-nil (flat_map text x.functions)) in
      let globals = globals_clear 0 p.globals q.globals (flat_map text p.functions ++ []) (flat_map text q.functions ++ []) (small_globals p.globals fits.few_cells fits.globals) (small_globals q.globals fits'.few_cells fits'.globals)
      (no_global p.functions) (no_global q.functions) (all p ∙ below ∙ sym (all q)) in
      let functions = functions_clear p.functions q.functions [] [] (are_named [] p.functions fits.functions) (are_named [] q.functions fits'.functions) refl refl globals.1 in
      λ i. record { globals = globals.0 i; functions = functions.0 i }
