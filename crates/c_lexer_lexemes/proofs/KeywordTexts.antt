-- Keywords and their spellings.
use Rattle.std.proofs.Common.{◌≡◌, ◌≢◌, ℕ, Bool, true, false, cond, ltb, Option, Some, None, List, [], ◌∷◌, length, refl, sym, ap, ◌∙◌}
use Rattle.std.specs.Prelude.{nat_eq}
use Rattle.std.specs.Cmp.Lexicographic.{pointwise, same_text}
use Rattle.std.specs.List.{list_all}
use Rattle.c_syntax.specs.declared.keyword.Keyword.{Keyword}
use Rattle.c_syntax.specs.declared.keyword.Keyword.TheVariants.{Auto}
use Rattle.c_lexer_lexemes.specs.Bytes.{is_word_byte, begins_with_digit}
use Rattle.c_lexer_lexemes.specs.Keywords.{keyword_text}
use Rattle.c_lexer_lexemes.specs.Lookups.{lookup, keywords_of_length, keyword_of}

module _ {A : Type 0} (text : A → List ℕ) (bytes : List ℕ) (x : A) where
  lookup_at : (y : A) (rest : Option A) (b : Bool) → pointwise nat_eq bytes (text y) ≡ b → (rest ≡ Some x → bytes ≡ text x) → cond b (Some y) rest ≡ Some x → bytes ≡ text x
  lookup_at y rest true is later e =
      let same : y ≡ x = cc in
      same_text bytes (text y) (sym is) ∙ ap text same
  lookup_at y rest false is later e = later e

  -- what is looked up by its text has this text
  pub lookup_text : (xs : List A) → lookup text xs bytes ≡ Some x → bytes ≡ text x
  lookup_text [] e = absurd cc
  lookup_text (y ∷ ys) e = lookup_at y (lookup text ys bytes) (pointwise nat_eq bytes (text y)) refl (lookup_text ys) e

pub keyword_is : (bytes : List ℕ) (k : Keyword) → keyword_of bytes ≡ Some k → bytes ≡ keyword_text k
keyword_is bytes k e = lookup_text keyword_text bytes k (keywords_of_length (length bytes)) e

pub keyword_found : (k : Keyword) → keyword_of (keyword_text k) ≡ Some k
keyword_found Auto = refl
keyword_found _ = refl

pub no_keyword : (bytes : List ℕ) → keyword_of bytes ≡ None → (k : Keyword) → bytes ≢ keyword_text k
no_keyword bytes none k e =
    let found : keyword_of bytes ≡ Some k = ap keyword_of e ∙ keyword_found k in
    absurd cc

pub keyword_bytes : (k : Keyword) → list_all is_word_byte (keyword_text k) ≡ true
keyword_bytes Auto = refl
keyword_bytes _ = refl

pub keyword_some : (k : Keyword) → ltb 0 (length (keyword_text k)) ≡ true
keyword_some Auto = refl
keyword_some _ = refl

pub keyword_no_digit : (k : Keyword) → begins_with_digit (keyword_text k) ≡ false
keyword_no_digit Auto = refl
keyword_no_digit _ = refl
