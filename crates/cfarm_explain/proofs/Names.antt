-- The name that bytes begin with, byte by byte.
use Rattle.std.proofs.Common.{◌≡◌, ℕ, ◌+◌, ◌<◌, ◌≤◌, cond, Bool, true, false, List, [], ◌∷◌, ◌++◌, length, get_or, take, drop, sym, ap, ◌∙◌, append_assoc}
use Rattle.std.proofs.lemmas.List.{drop_more, take_more, append-nil, drop_all, take_all}
use Rattle.cfarm_explain.specs.Causes.{is_name_byte, leading_name}

-- the name from a place on
one : (bytes : List ℕ) (n b : ℕ) → n < length bytes → b ≡ get_or bytes n b →
    leading_name (drop n bytes) ≡ cond (is_name_byte b) (b ∷ leading_name (drop (n + 1) bytes)) []
one bytes n b h e = ap leading_name (drop_more bytes n b h ∙ ap (λ y. y ∷ drop (n + 1) bytes) (sym e))

pub name_ends : (bytes : List ℕ) (n b : ℕ) → n < length bytes → b ≡ get_or bytes n b → is_name_byte b ≡ false →
    leading_name bytes ≡ take n bytes ++ leading_name (drop n bytes) → leading_name bytes ≡ take n bytes
name_ends bytes n b h e off so =
    so ∙ ap (λ l. take n bytes ++ l) (one bytes n b h e ∙ ap (λ t. cond t (b ∷ leading_name (drop (n + 1) bytes)) []) off) ∙ append-nil (take n bytes)

pub name_goes_on : (bytes : List ℕ) (n b : ℕ) → n < length bytes → b ≡ get_or bytes n b → is_name_byte b ≡ true →
    leading_name bytes ≡ take n bytes ++ leading_name (drop n bytes) →
    leading_name bytes ≡ take (n + 1) bytes ++ leading_name (drop (n + 1) bytes)
name_goes_on bytes n b h e on so =
    let rest = leading_name (drop (n + 1) bytes) in
    so
    ∙ ap (λ l. take n bytes ++ l) (one bytes n b h e ∙ ap (λ t. cond t (b ∷ rest) []) on)
    ∙ sym (append_assoc (take n bytes) (b ∷ []) rest)
    ∙ ap (λ l. l ++ rest) (ap (λ y. take n bytes ++ y ∷ []) e ∙ sym (take_more bytes n b h))

pub name_is_all : (bytes : List ℕ) (n : ℕ) → length bytes ≤ n → leading_name bytes ≡ take n bytes ++ leading_name (drop n bytes) → leading_name bytes ≡ bytes
name_is_all bytes n h so =
    so ∙ ap (λ l. take n bytes ++ leading_name l) (drop_all n bytes h) ∙ append-nil (take n bytes) ∙ take_all n bytes h
