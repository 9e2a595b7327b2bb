-- Whole programs: a head, and as many functions behind it as it says.
use Rattle.std.proofs.Common.{◌≡◌, ℕ, ◌≤◌, true, false, List, ◌++◌, length, take, ◌+◌, ◌-◌, Err, arith, refl, sym, ap, subst, ◌∙◌, append_assoc}
use Rattle.std.proofs.lemmas.List.{length-append, take_at}
use Rattle.lang_base.specs.declared.errors.FormError.{FormError}
use Rattle.lang_base.specs.declared.program.Global.{Global}
use Rattle.lang_base.specs.declared.program.Named.{Named}
use Rattle.lang_base.specs.declared.program.Program.{Program}
use Rattle.lang_base.proofs.Forms.{one_text, no_text}
use Rattle.lang.specs.Form.{IsProgram, has_main, head_text, program_text}
use Rattle.lang.specs.Fronts.{NoFront, OneText, functions_text, FunctionsFit}
use Rattle.lang.specs.Reading.{head}
use Rattle.lang.proofs.Forms.{HeadFits, head_form}
use Rattle.lang.proofs.NamedRows.{one_functions}

module _ {F : Type 0} (tag : ℕ) (spelling : F → List ℕ) (Fits : F → Type 0) where
  abbrev head_of : Program F → List Global × ℕ
  head_of p = (p.globals, length p.functions)

  pub head_fits : (p : Program F) → IsProgram Fits p → HeadFits (head_of p)
  head_fits p fits = (record { few = fits.few_globals; cells = fits.few_cells; each = fits.globals }, fits.few_functions)

  -- a head and functions make a program
  pub whole : (gs : List Global) (fs : List (Named F)) (n : ℕ) → HeadFits (gs, n) → FunctionsFit Fits n fs → has_main fs ≡ true → IsProgram Fits (record { globals = gs; functions = fs })
  whole gs fs n fits fits' main = record {
    few_globals = fits.0.few;
    few_cells = fits.0.cells;
    globals = fits.0.each;
    few_functions = subst (λ k. k ≤ 64) (sym fits'.0) fits.1;
    functions = fits'.1;
    main = main;
  }

  -- and its text is theirs
  pub whole_text : (gs : List Global) (fs : List (Named F)) (n : ℕ) (bytes behind rest : List ℕ) → length fs ≡ n → bytes ≡ head_text tag (gs, n) ++ behind → behind ≡ functions_text spelling fs ++ rest → bytes ≡ program_text tag spelling (record { globals = gs; functions = fs }) ++ rest
  whole_text gs fs n bytes behind rest len e e' =
      e ∙ ap (λ l. head_text tag (gs, n) ++ l) e' ∙ sym (append_assoc (head_text tag (gs, n)) (functions_text spelling fs) rest) ∙ ap (λ k. head_text tag (gs, k) ++ functions_text spelling fs ++ rest) (sym len)

  abbrev IsText : List ℕ → Program F → List ℕ → Type 0
  IsText bytes p rest = bytes ≡ program_text tag spelling p ++ rest

  split_text : (bytes : List ℕ) (p : Program F) (rest : List ℕ) → IsText bytes p rest → bytes ≡ head_text tag (head_of p) ++ (functions_text spelling p.functions ++ rest)
  split_text bytes p rest e = e ∙ append_assoc (head_text tag (head_of p)) (functions_text spelling p.functions) rest

  -- so its text is the front, of so many bytes
  pub front_of : (p : Program F) (bytes rest : List ℕ) → IsText bytes p rest → (length rest ≤ length bytes) × (take (length bytes - length rest) bytes ≡ program_text tag spelling p)
  front_of p bytes rest e =
      let len : length bytes ≡ length (program_text tag spelling p) + length rest = ap length e ∙ length-append (program_text tag spelling p) rest in
      let first : take (length bytes - length rest) (program_text tag spelling p ++ rest) ≡ program_text tag spelling p = take_at (program_text tag spelling p) rest _ (omega arith) in
      (omega arith, ap (take (length bytes - length rest)) e ∙ first)

  -- no head is there
  pub no_head : (bytes : List ℕ) (fault : FormError) → head tag bytes ≡ Err fault → NoFront (program_text tag spelling) (IsProgram Fits) bytes
  no_head bytes fault e p rest fits parts = no_text (head_form tag) bytes fault e (head_of p) (functions_text spelling p.functions ++ rest) (head_fits p fits) (split_text bytes p rest parts)

  heads_agree : (gs : List Global) (n : ℕ) (bytes behind : List ℕ) (p : Program F) (rest : List ℕ) → HeadFits (gs, n) → bytes ≡ head_text tag (gs, n) ++ behind → IsProgram Fits p → IsText bytes p rest → ((gs, n) ≡ head_of p) × (behind ≡ functions_text spelling p.functions ++ rest)
  heads_agree gs n bytes behind p rest fits parts fits' parts' =
      one_text (head_form tag) (gs, n) (head_of p) behind (functions_text spelling p.functions ++ rest) fits (head_fits p fits') (sym parts ∙ split_text bytes p rest parts')

  -- there are not so many functions behind it
  pub no_functions : (gs : List Global) (n : ℕ) (bytes behind : List ℕ) → HeadFits (gs, n) → bytes ≡ head_text tag (gs, n) ++ behind → NoFront (functions_text spelling) (FunctionsFit Fits n) behind → NoFront (program_text tag spelling) (IsProgram Fits) bytes
  no_functions gs n bytes behind fits parts none p rest fits' parts' =
      let same = heads_agree gs n bytes behind p rest fits parts fits' parts' in
      none p.functions rest (sym (ap (λ (h : List Global × ℕ). h.1) same.0), fits'.functions) same.1

  module _ (one : OneText spelling Fits) where
    -- none of the functions is main
    pub no_main : (gs : List Global) (fs : List (Named F)) (n : ℕ) (bytes behind rest : List ℕ) → HeadFits (gs, n) → FunctionsFit Fits n fs → bytes ≡ head_text tag (gs, n) ++ behind → behind ≡ functions_text spelling fs ++ rest → has_main fs ≡ false → NoFront (program_text tag spelling) (IsProgram Fits) bytes
    no_main gs fs n bytes behind rest fits fits'' parts left none p rest' fits' parts' =
        let same = heads_agree gs n bytes behind p rest' fits parts fits' parts' in
        let len = sym (ap (λ (h : List Global × ℕ). h.1) same.0) in
        let all = one_functions spelling Fits one n fs p.functions rest rest' fits'' (len, fits'.functions) (sym left ∙ same.1) in
        let not : has_main p.functions ≡ false = sym (ap has_main all.0) ∙ none in
        let is : has_main p.functions ≡ true = fits'.main in
        let no : true ≡ false = sym is ∙ not in
        absurd cc

    -- no program's text is a beginning of another's, and no two programs share one
    pub one_program : OneText (program_text tag spelling) (IsProgram Fits)
    one_program p q x y fits fits' e =
        let same = heads_agree p.globals (length p.functions) (program_text tag spelling p ++ x) (functions_text spelling p.functions ++ x) q y (head_fits p fits) (split_text (program_text tag spelling p ++ x) p x refl) fits' e in
        let len = sym (ap (λ (h : List Global × ℕ). h.1) same.0) in
        let all = one_functions spelling Fits one (length p.functions) p.functions q.functions x y (refl, fits.functions) (len, fits'.functions) same.1 in
        ((λ i. record { globals = (same.0 i).0; functions = all.0 i }), all.1)
