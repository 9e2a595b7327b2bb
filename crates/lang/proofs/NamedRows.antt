-- Named functions: which texts a reader may take, and what a refusal says.
use Rattle.std.proofs.Common.{◌≡◌, ◌≢◌, ℕ, ◌+◌, ◌<◌, ◌≤◌, Bool, true, false, List, [], ◌∷◌, ◌++◌, length, take, drop, ◌-◌, refl, sym, ap, subst, ◌∙◌, arith, append_assoc, append-nil}
use Rattle.std.specs.Prelude.{◌||◌, Err}
use Rattle.std.specs.List.{AllByRecursion, list_any}
use Rattle.std.specs.Str.{bytes_eq}
use Rattle.std.specs.Cmp.Lexicographic.{same_text, other_text}
use Rattle.std.proofs.lemmas.Bool.{or_parts}
use Rattle.std.proofs.lemmas.List.{length-append, length-drop, take-append-drop, take_all}
use Rattle.lang_base.specs.declared.errors.FormError.{FormError}
use Rattle.lang_base.specs.Texts.{EachFits}
use Rattle.lang_base.specs.declared.program.Named.{Named}
use Rattle.lang_base.proofs.Forms.{one_text, no_text}
use Rattle.lang.specs.Form.{FunctionFits, name_text, named_text}
use Rattle.lang.specs.Fronts.{NoFront, OneText, functions_text, FunctionsFit}
use Rattle.lang.specs.Reading.{name}
use Rattle.lang.proofs.Forms.{NameFits, name_form}

-- one more function behind those before
pub push_fits : {F : Type 0} (Fits : List (Named F) → Named F → Type 0) (before done : List (Named F)) (f : Named F) → EachFits Fits before done → Fits (before ++ done) f → EachFits Fits before (done ++ f ∷ [])
push_fits {F} Fits before [] f fits new = (subst (λ b. Fits b f) (append-nil before) new, tt)
push_fits {F} Fits before (d ∷ done) f fits new = (fits.0, push_fits Fits (before ++ d ∷ []) done f fits.1 (subst (λ b. Fits b f) (sym (append_assoc before (d ∷ []) done)) new))

module _ {F : Type 0} (spelling : F → List ℕ) (Fits : F → Type 0) where
  of_name : (before : List (Named F)) (f : Named F) → FunctionFits Fits before f → NameFits f.name
  of_name before f fits = record { name = fits.name; short = fits.short }

  -- where a name is read, any named function that is spelled there has it
  pub name_agrees : (n : List ℕ) (bytes behind : List ℕ) (before : List (Named F)) (f : Named F) (rest : List ℕ) → NameFits n → bytes ≡ name_text n ++ behind → FunctionFits Fits before f → bytes ≡ named_text spelling f ++ rest → (n ≡ f.name) × (behind ≡ spelling f.function ++ rest)
  name_agrees n bytes behind before f rest fits parts fits' parts' =
      one_text name_form n f.name behind (spelling f.function ++ rest) fits (of_name before f fits') (sym parts ∙ parts' ∙ append_assoc (name_text f.name) (spelling f.function) rest)

  -- no name is there
  pub no_name : (bytes : List ℕ) (fault : FormError) (before : List (Named F)) → name bytes ≡ Err fault → NoFront (named_text spelling) (FunctionFits Fits before) bytes
  no_name bytes fault before e f rest fits parts = no_text name_form bytes fault e f.name (spelling f.function ++ rest) (of_name before f fits) (parts ∙ append_assoc (name_text f.name) (spelling f.function) rest)

  -- the name is one of those before
  pub taken : (n : List ℕ) (bytes behind : List ℕ) (before : List (Named F)) → NameFits n → bytes ≡ name_text n ++ behind → (AllByRecursion (λ g. g.name ≢ n) before → ⊥) → NoFront (named_text spelling) (FunctionFits Fits before) bytes
  taken n bytes behind before fits parts is f rest fits' parts' =
      let same = name_agrees n bytes behind before f rest fits parts fits' parts' in
      is (subst (λ m. AllByRecursion (λ g. g.name ≢ m) before) (sym same.0) fits'.new)

  -- no function is behind the name
  pub no_function : (n : List ℕ) (bytes behind : List ℕ) (before : List (Named F)) → NameFits n → bytes ≡ name_text n ++ behind → NoFront spelling Fits behind → NoFront (named_text spelling) (FunctionFits Fits before) bytes
  no_function n bytes behind before fits parts none f rest fits' parts' =
      let same = name_agrees n bytes behind before f rest fits parts fits' parts' in
      none f.function rest fits'.function same.1

  -- a name, and a function behind it
  pub named_front : (n : List ℕ) (bytes behind : List ℕ) (before : List (Named F)) (f : F) (rest : List ℕ) → NameFits n → bytes ≡ name_text n ++ behind → AllByRecursion (λ g. g.name ≢ n) before → Fits f → behind ≡ spelling f ++ rest → (bytes ≡ named_text spelling (record { name = n; function = f }) ++ rest) × FunctionFits Fits before (record { name = n; function = f })
  named_front n bytes behind before f rest fits parts new fits' left = (
    parts ∙ ap (λ l. name_text n ++ l) left ∙ sym (append_assoc (name_text n) (spelling f) rest),
    record { name = fits.name; short = fits.short; new = new; function = fits' },
  )

  -- so many functions are read, and this is left
  pub record IsUnderWay (bytes : List ℕ) (fs : List (Named F)) (rest : List ℕ) (n : ℕ) : Type 0 where
    pub parts : bytes ≡ functions_text spelling fs ++ rest
    pub fits : EachFits (FunctionFits Fits) [] fs
    pub so_far : length fs ≡ n

  pub under_way : (bytes : List ℕ) (fs : List (Named F)) → fs ≡ [] → IsUnderWay bytes fs bytes 0
  under_way bytes fs e = subst (λ gs. IsUnderWay bytes gs bytes 0) (sym e) (record { parts = refl; fits = tt; so_far = refl })

  text_push : (fs : List (Named F)) (f : Named F) → functions_text spelling (fs ++ f ∷ []) ≡ functions_text spelling fs ++ named_text spelling f
  text_push [] f = append-nil (named_text spelling f)
  text_push (g ∷ fs) f = ap (λ l. named_text spelling g ++ l) (text_push fs f) ∙ sym (append_assoc (named_text spelling g) (functions_text spelling fs) (named_text spelling f))

  pub one_more : (bytes : List ℕ) (fs : List (Named F)) (rest : List ℕ) (n : ℕ) (f : Named F) (rest' : List ℕ) → IsUnderWay bytes fs rest n → rest ≡ named_text spelling f ++ rest' → FunctionFits Fits fs f → IsUnderWay bytes (fs ++ f ∷ []) rest' (n + 1)
  one_more bytes fs rest n f rest' so_far left fits = record {
    parts =
        so_far.parts ∙ ap (λ l. functions_text spelling fs ++ l) left
        ∙ sym (append_assoc (functions_text spelling fs) (named_text spelling f) rest')
        ∙ ap (λ l. l ++ rest') (sym (text_push fs f));
    fits = push_fits (FunctionFits Fits) [] fs f so_far.fits fits;
    so_far = length-append fs (f ∷ []) ∙ ap (λ k. k + 1) so_far.so_far;
  }

  module _ (one : OneText spelling Fits) where
    one_named : (before : List (Named F)) (f g : Named F) (x y : List ℕ) → FunctionFits Fits before f → FunctionFits Fits before g → named_text spelling f ++ x ≡ named_text spelling g ++ y → (f ≡ g) × (x ≡ y)
    one_named before f g x y fits fits' e =
        let same = name_agrees f.name (named_text spelling f ++ x) (spelling f.function ++ x) before g y (of_name before f fits) (append_assoc (name_text f.name) (spelling f.function) x) fits' e in
        let both = one f.function g.function x y fits.function fits'.function same.1 in
        ((λ i. record { name = same.0 i; function = both.0 i }), both.1)

    -- those that were read are the first of any that are spelled there
    record Agree (before done gs : List (Named F)) (rest behind : List ℕ) : Type 0 where
      more : List (Named F)
      all : gs ≡ done ++ more
      left : rest ≡ functions_text spelling more ++ behind
      fits : EachFits (FunctionFits Fits) (before ++ done) more

    agree : (before done gs : List (Named F)) (rest behind : List ℕ) → EachFits (FunctionFits Fits) before done → EachFits (FunctionFits Fits) before gs → length done ≤ length gs → functions_text spelling done ++ rest ≡ functions_text spelling gs ++ behind → Agree before done gs rest behind
    agree before [] gs rest behind fits fits' le e = record { more = gs; all = refl; left = e; fits = subst (λ b. EachFits (FunctionFits Fits) b gs) (sym (append-nil before)) fits' }
    agree before (f ∷ done) [] rest behind fits fits' le e = absurd (omega arith)
    agree before (f ∷ done) (g ∷ gs) rest behind fits fits' le e =
        let here = one_named before f g (functions_text spelling done ++ rest) (functions_text spelling gs ++ behind) fits.0 fits'.0 (sym (append_assoc (named_text spelling f) (functions_text spelling done) rest) ∙ e ∙ append_assoc (named_text spelling g) (functions_text spelling gs) behind) in
        let fits'' : EachFits (FunctionFits Fits) (before ++ f ∷ []) gs = subst (λ h. EachFits (FunctionFits Fits) (before ++ h ∷ []) gs) (sym here.0) fits'.1 in
        let le' : length done ≤ length gs = omega arith in
        let later = agree (before ++ f ∷ []) done gs rest behind fits.1 fits'' le' here.1 in
        record {
          more = later.more;
          all = (λ i. sym here.0 i ∷ later.all i);
          left = later.left;
          fits = subst (λ b. EachFits (FunctionFits Fits) b later.more) (append_assoc before (f ∷ []) done) later.fits;
        }

    none_left : (done gs : List (Named F)) (rest behind : List ℕ) → (a : Agree [] done gs rest behind) → length done < length gs → NoFront (named_text spelling) (FunctionFits Fits done) rest → ⊥
    none_left done gs rest behind a lt none = at a.more a.all a.left a.fits
      where
        at : (more : List (Named F)) → gs ≡ done ++ more → rest ≡ functions_text spelling more ++ behind → EachFits (FunctionFits Fits) done more → ⊥
        at [] all left fits = let same : length gs ≡ length done = ap length (all ∙ append-nil done) in absurd (omega arith)
        at (m ∷ more) all left fits = none m (functions_text spelling more ++ behind) fits.0 (left ∙ append_assoc (named_text spelling m) (functions_text spelling more) behind)

    -- behind functions that were read there is no further one, and so there are not so many
    pub functions_stop : (count : ℕ) (bytes rest : List ℕ) (done : List (Named F)) → bytes ≡ functions_text spelling done ++ rest → EachFits (FunctionFits Fits) [] done → length done < count → NoFront (named_text spelling) (FunctionFits Fits done) rest → NoFront (functions_text spelling) (FunctionsFit Fits count) bytes
    functions_stop count bytes rest done parts fits lt none gs behind fits' parts' =
        let le : length done ≤ length gs = omega (arith, fits'.0) in
        let lt' : length done < length gs = omega (arith, fits'.0) in
        none_left done gs rest behind (agree [] done gs rest behind fits fits'.1 le (sym parts ∙ parts')) lt' none

    none_more : (done gs more : List (Named F)) → length done ≡ length gs → gs ≡ done ++ more → more ≡ []
    none_more done gs [] e all = refl
    none_more done gs (m ∷ more) e all = absurd (omega (arith, ap length all, length-append done (m ∷ more)))

    -- no text of so many functions is a beginning of another, and no two share one
    pub one_functions : (count : ℕ) → OneText (functions_text spelling) (FunctionsFit Fits count)
    one_functions count fs gs x y fits fits' e =
        let le : length fs ≤ length gs = omega (arith, fits.0, fits'.0) in
        let a = agree [] fs gs x y fits.1 fits'.1 le e in
        let same : length fs ≡ length gs = omega (arith, fits.0, fits'.0) in
        let nil = none_more fs gs a.more same a.all in
        (sym (a.all ∙ ap (λ (l : List (Named F)). fs ++ l) nil ∙ append-nil fs), a.left ∙ ap (λ (l : List (Named F)). functions_text spelling l ++ y) nil)

-- what is tested of a name is that no function has it
pub not_taken : {F : Type 0} (n : List ℕ) (fs : List (Named F)) → list_any (λ f. bytes_eq f.name n) fs ≡ false → AllByRecursion (λ g. g.name ≢ n) fs
not_taken n [] e = tt
not_taken n (f ∷ fs) e =
    let p = or_parts (bytes_eq f.name n) (list_any (λ f. bytes_eq f.name n) fs) e in
    (other_text f.name n (sym p.0), not_taken n fs p.1)

taken_at : {F : Type 0} (n : List ℕ) (f : Named F) (fs : List (Named F)) (b : Bool) → bytes_eq f.name n ≡ b → (b || list_any (λ f. bytes_eq f.name n) fs) ≡ true → (f.name ≢ n) → (list_any (λ f. bytes_eq f.name n) fs ≡ true → ⊥) → ⊥
taken_at n f fs true is e ne later = ne (same_text f.name n (sym is))
taken_at n f fs false is e ne later = later e

pub is_among : {F : Type 0} (n : List ℕ) (fs : List (Named F)) → list_any (λ f. bytes_eq f.name n) fs ≡ true → AllByRecursion (λ g. g.name ≢ n) fs → ⊥
is_among n [] e all = absurd cc
is_among n (f ∷ fs) e all = taken_at n f fs (bytes_eq f.name n) refl e all.0 (λ later. is_among n fs later all.1)

-- what is left behind a function's bytes
pub behind_front : (behind text : List ℕ) (n : ℕ) → take n behind ≡ text → behind ≡ text ++ take (length behind - n) (drop n behind)
behind_front behind text n e =
    let all : take (length behind - n) (drop n behind) ≡ drop n behind = take_all (length behind - n) (drop n behind) (omega (arith, length-drop n behind)) in
    sym (take-append-drop n behind) ∙ ap (λ l. l ++ drop n behind) e ∙ ap (λ l. text ++ l) (sym all)
