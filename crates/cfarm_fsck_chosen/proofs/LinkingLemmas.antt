-- Chosen offers, record by record and function by function.
use Rattle.std.proofs.Common.{◌≡◌, ℕ, zero, suc, ◌+◌, ◌*◌, ◌<◌, Bool, true, false, cond, List, [], ◌∷◌, ◌++◌, length, take, get_or, Option, Some, None, Result, IfOk, inl, inr, refl, sym, ap, subst, ◌∙◌, arith}
use Rattle.std.specs.Prelude.{◌==◌, IsTrue, ◌↔◌, slice_get}
use Rattle.std.specs.Global.{Vec}
use Rattle.std.proofs.lemmas.Bool.{cases_eq}
use Rattle.std.proofs.lemmas.List.{take_more}
use Rattle.std.proofs.lemmas.Option.{slice_get_read}
use Rattle.lang_base.specs.declared.program.Named.{Named}
use Rattle.rtl_language.specs.Function.{FunctionData}
use Rattle.rtl_language.specs.declared.function.Function.{Function}
use Rattle.paxos_core_world.specs.KeptPart.{KeptPart}
use Rattle.acceptor_log_form.specs.Leaves.{left_from}
use Rattle.acceptor_log_form.specs.Text.{room_of}
use Rattle.acceptor_log_form.specs.declared.record.Record.{Record}
use Rattle.farm_nodes_open_seats.specs.Written.{last_offer_in, offer_by}
use Rattle.cfarm_fsck_linking.specs.Chained.{AreChained, FourTexts}
use Rattle.cfarm_fsck_chosen.specs.Linking.{AllGoOn, GoesOn, IsFirstUnchained, offer_after}

left_from-append : {A : Type 0} (by : A → Record → A) (before : A) (xs ys : List Record) (room : ℕ)
    → left_from by before (xs ++ ys) room ≡ left_from by (left_from by before xs room) ys room
left_from-append by before [] ys room = refl
left_from-append by before (x ∷ xs) ys room = left_from-append by (cond (room_of x == room) (by before x) before) xs ys room

-- one record more
pub offer_next : (rs : List Record) (n : ℕ) (r : Record) (room : ℕ) → n < length rs → r ≡ get_or rs n r
    → offer_after room (last_offer_in (take n rs) room) r ≡ last_offer_in (take (n + 1) rs) room
offer_next rs n r room low is =
    sym (ap (λ (l : List Record). last_offer_in l room) (take_more rs n r low ∙ ap (λ (y : Record). take n rs ++ y ∷ []) (sym is)) ∙ left_from-append offer_by None (take n rs) (r ∷ []) room)

-- four texts
abbrev pub four : (a b c d : Option (List ℕ)) → FourTexts
four a b c d = record { constants = a; expressions = b; allocation = c; order = d }

-- each what is chosen
pub four_texts : (a b c d w x y z : Option (List ℕ)) → a ≡ w → b ≡ x → c ≡ y → d ≡ z → four a b c d ≡ four w x y z
four_texts a b c d w x y z p q r s = λ i. record { constants = p i; expressions = q i; allocation = r i; order = s i }

-- whether they chain, where they are these
pub chain_of : {E : Type 0} (r : Result Bool E) (function : FunctionData) (texts found : FourTexts) → texts ≡ found
    → IfOk r (λ yes. IsTrue yes ↔ AreChained function texts) → IfOk r (λ yes. IsTrue yes ↔ AreChained function found)
chain_of r function texts found is = subst (λ (t : FourTexts). IfOk r (λ yes. IsTrue yes ↔ AreChained function t)) is

module _ (accept : ℕ) (journals : List (ℕ × Vec Record)) (kept : List (Vec KeptPart)) (functions : List (Named Function)) where
  pub none_go_on : AllGoOn accept journals kept functions 0
  none_go_on f x low there = absurd (omega (arith, low))

  -- one function more
  pub more_go_on : (n : ℕ) (x : Named Function) → n < length functions → x ≡ get_or functions n x → AllGoOn accept journals kept functions n
      → GoesOn accept journals kept n x.function → AllGoOn accept journals kept functions (n + 1)
  more_go_on n x low is all goes f y below there = elim (cases_eq f n) [
    | inl same ↦
        let got = slice_get_read functions (length functions) n x refl low is in
        let found : Some y ≡ Some x = sym there ∙ ap (slice_get functions) same ∙ got in
        let one : y ≡ x = cc found in
        subst (λ (k : ℕ). GoesOn accept journals kept k y.function) (sym same)
        (subst (λ (z : Named Function). GoesOn accept journals kept n z.function) (sym one) goes)
    | inr other ↦ all f y (omega (arith, below, other)) there
  ]

  -- the first that does not
  pub first_unchained : (n : ℕ) (x : Named Function) → n < length functions → x ≡ get_or functions n x → AllGoOn accept journals kept functions n
      → (GoesOn accept journals kept n x.function → ⊥) → IsFirstUnchained accept journals kept functions n
  first_unchained n x low is all broken =
      record { function = x; there = slice_get_read functions (length functions) n x refl low is; broken = broken; front = all }
