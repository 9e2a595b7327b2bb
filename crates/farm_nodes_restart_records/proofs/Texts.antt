-- Whether the texts of the records of offers are those in the node's own cells: record by record, and what becomes of the answer.
use Rattle.std.proofs.Common.{◌≡◌, ◌≢◌, ◌⊎◌, ℕ, ◌+◌, ◌≤◌, ◌↔◌, Bool, true, false, List, length, Some, Result, Ok, Err, IfOk, IfErr, OnOk, IsTrue, refl, sym, ap, ◌∙◌, subst, arith, inl, inr}
use Rattle.std.specs.Prelude.{slice_get}
use Rattle.std.proofs.lemmas.Bool.{cases_eq}
use Rattle.std.proofs.lemmas.Option.{slice_get_within}
use Rattle.lang_base.specs.declared.errors.NoMemory.{NoMemory}
use Rattle.acceptor_log_form.specs.declared.errors.LogError.{LogError}
use Rattle.acceptor_log_form.specs.declared.errors.LogError.TheVariants as log
use Rattle.acceptor_log_form.specs.declared.record.Record.{Record}
use Rattle.farm_nodes_turn_passes.specs.Fours.{Four}
use Rattle.farm_nodes_turn_passes.specs.Texts.{Texts}
use Rattle.farm_nodes_restart_records.specs.declared.finding.Found.{Found}
use Rattle.farm_nodes_restart_records.specs.declared.finding.Found.TheVariants as found
use Rattle.farm_nodes_restart_records.specs.Found.{IsButLast}
use Rattle.farm_nodes_restart_records.specs.Told.{settled_by, AreTold, AreToldTo, IsConfirmed, TellsItsOffer}
use Rattle.farm_nodes_restart_seat.proofs.Places.{some_same}

module _ {X1 X2 X3 X4 : Type 0} (texts : Texts X1 X2 X3 X4) (seats : List (Four X1 X2 X3 X4)) (rs : List Record) where
  pub told_to_none : (told : Type 0) → told → told ↔ AreToldTo texts seats rs 0
  told_to_none told holds = (λ t k r below. absurd (omega (arith, below)), λ all. holds)

  told_more : (n : ℕ) (r : Record) → slice_get rs n ≡ Some r → AreToldTo texts seats rs n → TellsItsOffer texts seats r → AreToldTo texts seats rs (n + 1)
  told_more n r there all own k q below at =
      elim (cases_eq k n) [
        | inl same ↦
            let one : r ≡ q = some_same (slice_get rs n) r q there (ap (λ (j : ℕ). slice_get rs j) (sym same) ∙ at) in
            subst (λ (x : Record). TellsItsOffer texts seats x) one own
        | inr other ↦ all k q (let ne : k ≢ n = other in omega (arith, below, ne)) at
      ]

  pub told_to_more : (n : ℕ) (r : Record) (sofar here told : Type 0) → slice_get rs n ≡ Some r → sofar ↔ AreToldTo texts seats rs n → here ↔ TellsItsOffer texts seats r → told ↔ (sofar × here)
      → told ↔ AreToldTo texts seats rs (n + 1)
  told_to_more n r sofar here told there before own both = (
    λ yes. let parts = both.0 yes in told_more n r there (before.0 parts.0) (own.0 parts.1),
    λ all. both.1 (before.1 (λ k q below at. all k q (omega (arith, below)) at), own.1 (all n r (omega arith) there)),
  )

  pub told_to_all : (n : ℕ) (told : Type 0) → length rs ≤ n → told ↔ AreToldTo texts seats rs n → told ↔ AreTold texts seats rs
  told_to_all n told most iff = (
    λ yes k r at. iff.0 yes k r (omega (arith, most, slice_get_within rs k r at)) at,
    λ all. iff.1 (λ k r below at. all k r at),
  )

-- what becomes of the answer
settled_so : (told : Result Bool NoMemory) (kept : Found) (So : Type 0) → IfOk told (λ yes. IsTrue yes ↔ So)
    → IfOk (settled_by told kept) (λ f. (So × (f ≡ kept)) ⊎ ((So → ⊥) × (f ≡ found.Neither)))
settled_so (Ok true) kept So iff = inl (iff.0 refl, refl)
settled_so (Ok false) kept So iff = inr (λ so. let bad : false ≡ true = iff.1 so in absurd (cc), refl)
settled_so (Err e) kept So iff = tt

settled_err : (told : Result Bool NoMemory) (kept : Found) → IfErr (settled_by told kept) (λ e. e ≡ log.NoMemory)
settled_err (Ok true) kept = tt
settled_err (Ok false) kept = tt
settled_err (Err e) kept = refl

pub ok_as : {A E : Type 0} (told : Result A E) (P Q : A → Type 0) → ((a : A) → P a → Q a) → IfOk told P → IfOk told Q
ok_as (Ok a) P Q f p = f a p
ok_as (Err e) P Q f p = tt

pub on_ok : {A E P : Type 0} (told : Result A E) → P → OnOk told P
on_ok (Ok a) p = p
on_ok (Err e) p = tt

pub err_as : {A E : Type 0} (told : Result A E) (P Q : E → Type 0) → ((e : E) → P e → Q e) → IfErr told P → IfErr told Q
err_as (Ok a) P Q f p = tt
err_as (Err e) P Q f p = f e p

module _ {X1 X2 X3 X4 : Type 0} (texts : Texts X1 X2 X3 X4) (seats : List (Four X1 X2 X3 X4)) (rs : List Record) (told : Result Bool NoMemory) (r : Result Found LogError) where
  pub confirmed_pending : (front : List Record) → r ≡ settled_by told found.Pending → IsButLast rs front → IfOk told (λ yes. IsTrue yes ↔ AreTold texts seats front)
      → IfOk r (IsConfirmed texts seats rs found.Pending)
  confirmed_pending front is last iff =
      subst (λ (x : Result Found LogError). IfOk x (IsConfirmed texts seats rs found.Pending)) (sym is)
      (ok_as (settled_by told found.Pending) (λ f. (AreTold texts seats front × (f ≡ found.Pending)) ⊎ ((AreTold texts seats front → ⊥) × (f ≡ found.Neither)))
      (IsConfirmed texts seats rs found.Pending) (λ f so. (front, last, so)) (settled_so told found.Pending (AreTold texts seats front) iff))

  pub confirmed_whole : r ≡ settled_by told found.Whole → IfOk told (λ yes. IsTrue yes ↔ AreTold texts seats rs) → IfOk r (IsConfirmed texts seats rs found.Whole)
  confirmed_whole is iff =
      subst (λ (x : Result Found LogError). IfOk x (IsConfirmed texts seats rs found.Whole)) (sym is) (settled_so told found.Whole (AreTold texts seats rs) iff)

  pub settled_refused : (kept : Found) → r ≡ settled_by told kept → IfErr r (λ e. e ≡ log.NoMemory)
  settled_refused kept is = subst (λ (x : Result Found LogError). IfErr x (λ e. e ≡ log.NoMemory)) (sym is) (settled_err told kept)
