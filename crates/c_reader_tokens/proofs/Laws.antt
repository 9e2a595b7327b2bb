-- How readings follow one another.
use Rattle.std.proofs.Common.{◌≡◌, List, ◌++◌, Result, Ok, Err, inl, inr, refl, sym, ap, ◌∙◌, append_assoc}
use Rattle.c_syntax.specs.declared.token.Token.{Token}
use Rattle.c_syntax.specs.Parts.{◌⨾◌}
use Rattle.c_reader_tokens.specs.declared.fault.Fault.{Fault}
use Rattle.c_reader_tokens.specs.Reading.{◌>>=◌, Takes, IsSameOrTooDeep}

abbrev pub done : {A : Type 0} → A → Result A Fault
done x = Ok x

pub ok_is : {A : Type 0} (x y : A) → done x ≡ done y → x ≡ y
ok_is x y e = cc

-- the value of a step that did not fail
pub bind_ok : {A B : Type 0} (r : Result A Fault) (f : A → Result B Fault) (y : B) → (r >>= f) ≡ Ok y → (x : A) × (r ≡ Ok x) × (f x ≡ Ok y)
bind_ok (Ok x) f y e = (x, refl, e)
bind_ok (Err d) f y e = absurd cc

-- what is spelled by two parts behind one another is spelled by both
pub takes_then : {P Q : List Token → Type 0} {ts middle rest : List Token} → Takes P ts middle → Takes Q middle rest → Takes (P ⨾ Q) ts rest
takes_then {rest = rest} p q = record {
  front = p.front ++ q.front;
  spelled = (p.front, q.front, p.spelled, q.spelled, refl);
  parts = p.parts ∙ ap (λ l. p.front ++ l) q.parts ∙ sym (append_assoc p.front q.front rest);
}

-- the tokens of two parts, and more behind them
pub parts_behind : (ts xs ys rest : List Token) → ts ≡ xs ++ ys → ts ++ rest ≡ xs ++ (ys ++ rest)
parts_behind ts xs ys rest e = ap (λ l. l ++ rest) e ∙ append_assoc xs ys rest

pub stays_refl : {A : Type 0} (r : Result A Fault) → IsSameOrTooDeep r r
stays_refl r = inr refl

pub stays_trans : {A : Type 0} (r s t : Result A Fault) → IsSameOrTooDeep r s → IsSameOrTooDeep s t → IsSameOrTooDeep r t
stays_trans r s t (inl deep) q = inl deep
stays_trans r s t (inr same) (inl deep) = inl (same ∙ deep)
stays_trans r s t (inr same) (inr next) = inr (same ∙ next)

stays_bind_ok : {A B : Type 0} (r : Result A Fault) (f g : A → Result B Fault) → ((x : A) → r ≡ Ok x → IsSameOrTooDeep (f x) (g x)) → IsSameOrTooDeep (r >>= f) (r >>= g)
stays_bind_ok (Ok x) f g next = next x refl
stays_bind_ok (Err e) f g next = inr refl

-- Steps that stay make a reading that stays; the second may know what the first read.
pub stays_bind : {A B : Type 0} (r s : Result A Fault) (f g : A → Result B Fault) → IsSameOrTooDeep r s → ((x : A) → r ≡ Ok x → IsSameOrTooDeep (f x) (g x)) → IsSameOrTooDeep (r >>= f) (s >>= g)
stays_bind r s f g (inl deep) next = inl (ap (λ x. x >>= f) deep)
stays_bind r s f g (inr same) next = elim (stays_bind_ok r f g next) [ inl deep ↦ inl deep | inr e ↦ inr (e ∙ ap (λ x. x >>= g) same) ]
