-- What bytes between two lists are read as.
use Rattle.std.proofs.Common.{◌≡◌, ◌⊎◌, ℕ, List, [], ◌∷◌, ◌++◌, length, Some, inl, inr, refl, sym, ap, subst, ◌∙◌, arith, append-nil, append_assoc}
use Rattle.std.proofs.lemmas.List.{append_cancel_left}
use Rattle.acceptor_log_form.specs.declared.header.Header.{Header}
use Rattle.acceptor_log_form.specs.declared.errors.LogError.{LogError}
use Rattle.acceptor_log_form.specs.declared.record.Record.{Record}
use Rattle.acceptor_log_form.specs.Text.{StandsFor}
use Rattle.acceptor_log_form.specs.Fault.{HasFault}
use Rattle.acceptor_log_form.specs.Lists.{Begins, Between}
use Rattle.acceptor_log_form.proofs.Texts.{listed-stands, stands-no_fault}

-- bytes stand for one list
same_list : (h : Header) (xs ys : List Record) (bytes : List ℕ) → StandsFor h xs bytes → StandsFor h ys bytes → xs ≡ ys
same_list h xs ys bytes first second =
    let some : Some xs ≡ Some ys = sym (listed-stands h xs bytes first) ∙ listed-stands h ys bytes second in
    cc

pub between-lists : (h : Header) (low high rs : List Record) (bytes : List ℕ) → Between h low high bytes → StandsFor h rs bytes → Begins low rs × Begins rs high
between-lists h low high rs bytes between stands =
    let same : between.records ≡ rs = same_list h between.records rs bytes between.stands stands in
    (subst (Begins low) same between.all_of_low, subst (λ (l : List Record). Begins l high) same between.none_else)

pub between-no_fault : (h : Header) (low high : List Record) (bytes : List ℕ) (e : LogError) → Between h low high bytes → HasFault h bytes e → ⊥
between-no_fault h low high bytes e between fault = stands-no_fault h between.records bytes e between.stands fault

-- what stands behind a front, before the end of one record more: nothing, or that record
split_one : (a b : List Record) (r : Record) → r ∷ [] ≡ a ++ b → (a ≡ []) ⊎ (a ≡ r ∷ [])
split_one [] b r is = inl refl
split_one (x ∷ []) b r is = inr (let head : r ≡ x = cc in ap (λ (y : Record). y ∷ []) (sym head))
split_one (x ∷ y ∷ a) b r is = let long = ap length is in absurd (omega (arith, long))

pub between-two : (h : Header) (rs : List Record) (r : Record) (bytes : List ℕ) → Between h rs (rs ++ r ∷ []) bytes → StandsFor h rs bytes ⊎ StandsFor h (rs ++ r ∷ []) bytes
between-two h rs r bytes between =
    let more = between.all_of_low.0 in
    let rest = between.none_else.0 in
    let behind : r ∷ [] ≡ more ++ rest = append_cancel_left rs (r ∷ []) (more ++ rest)
    (between.none_else.1 ∙ ap (λ (l : List Record). l ++ rest) between.all_of_low.1 ∙ append_assoc rs more rest) in
    elim (split_one more rest r behind) [
      | inl none ↦ inl (subst (λ (l : List Record). StandsFor h l bytes) (between.all_of_low.1 ∙ ap (λ (l : List Record). rs ++ l) none ∙ append-nil rs) between.stands)
      | inr one ↦ inr (subst (λ (l : List Record). StandsFor h l bytes) (between.all_of_low.1 ∙ ap (λ (l : List Record). rs ++ l) one) between.stands)
    ]
