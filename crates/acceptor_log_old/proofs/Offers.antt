-- The offers of rooms, and that they are the same once the records are migrated.
use Rattle.std.proofs.Common.{◌≡◌, ◌≢◌, inl, inr, ℕ, zero, suc, ◌<◌, ◌≤◌, Bool, true, false, cond, eqb, List, [], ◌∷◌, ◌++◌, Option, Some, None, refl, sym, ◌∙◌, ap, subst, arith}
use Rattle.std.specs.Prelude.{◌==◌, ◌&&◌, ◌^◌}
use Rattle.std.proofs.lemmas.Bool.{eq-eqb, ne_eqb, cases_lt}
use Rattle.paxos_core_world.specs.KeptPart.{KeptPart}
use Rattle.acceptor_log_form.specs.declared.record.Record.{Record}
use Rattle.acceptor_log_form.specs.declared.record.Record.TheVariants.{Offered, Started, Proposed, Promised, Accepted, Summary}
use Rattle.acceptor_log_form.specs.Leaves.{kept_in}
use Rattle.acceptor_log_old.specs.Migrated.{first_offer_in, told, summary_of, offered, of_room, migrated_below, migrated}

abbrev pub or_else : Option (List ℕ) → Option (List ℕ) → Option (List ℕ)
or_else None y = y
or_else (Some x) y = Some x

pub or_none : (x : Option (List ℕ)) → or_else x None ≡ x
or_none None = refl
or_none (Some x) = refl

pub offer_in-append : (xs ys : List Record) (m : ℕ) → first_offer_in (xs ++ ys) m ≡ or_else (first_offer_in xs m) (first_offer_in ys m)
offer_in-append [] ys m = refl
offer_in-append (Offered n o ∷ xs) ys m = by (eqb n m) (offer_in-append xs ys m)
  where
    by : (t : Bool) → first_offer_in (xs ++ ys) m ≡ or_else (first_offer_in xs m) (first_offer_in ys m)
        → cond t (Some o) (first_offer_in (xs ++ ys) m) ≡ or_else (cond t (Some o) (first_offer_in xs m)) (first_offer_in ys m)
    by true later = refl
    by false later = later
offer_in-append (Started n b ∷ xs) ys m = offer_in-append xs ys m
offer_in-append (Proposed n b v ∷ xs) ys m = offer_in-append xs ys m
offer_in-append (Promised n b ∷ xs) ys m = offer_in-append xs ys m
offer_in-append (Accepted n b v ∷ xs) ys m = offer_in-append xs ys m
offer_in-append (Summary n s p x ∷ xs) ys m = offer_in-append xs ys m

summary_no_offer : (m room : ℕ) (k : KeptPart) → first_offer_in (summary_of m k) room ≡ None
summary_no_offer m room k = by (k.started == 0 && k.promised == 0)
  where
    by : (t : Bool) → first_offer_in (cond t [] (Summary m k.started k.promised (told k.accepted) ∷ [])) room ≡ None
    by true = refl
    by false = refl

offered_other : (m room : ℕ) (o : Option (List ℕ)) → m ≢ room → first_offer_in (offered m o) room ≡ None
offered_other m room None other = refl
offered_other m room (Some o) other = ap (λ t. cond t (Some o) None) (ne_eqb m room other)

offered_own : (room : ℕ) (o : Option (List ℕ)) → first_offer_in (offered room o) room ≡ o
offered_own room None = refl
offered_own room (Some o) = ap (λ t. cond t (Some o) None) (eq-eqb room room refl)

of_room-offer : (rs : List Record) (m room : ℕ) → first_offer_in (of_room rs m) room ≡ first_offer_in (offered m (first_offer_in rs m)) room
of_room-offer rs m room =
    offer_in-append (offered m (first_offer_in rs m)) (summary_of m (kept_in rs m)) room
    ∙ ap (or_else (first_offer_in (offered m (first_offer_in rs m)) room)) (summary_no_offer m room (kept_in rs m))
    ∙ or_none (first_offer_in (offered m (first_offer_in rs m)) room)

below : (rs : List Record) (n room : ℕ)
    → ((room < n) → first_offer_in (migrated_below rs n) room ≡ first_offer_in rs room) × ((n ≤ room) → first_offer_in (migrated_below rs n) room ≡ None)
below rs zero room = (λ less. absurd (omega (arith, less)), λ more. refl)
below rs (suc n) room =
    let earlier = below rs n room in
    let step = offer_in-append (migrated_below rs n) (of_room rs n) room ∙ ap (or_else (first_offer_in (migrated_below rs n) room)) (of_room-offer rs n room) in
    let elsewhere = λ (other : n ≢ room). step ∙ ap (or_else (first_offer_in (migrated_below rs n) room)) (offered_other n room (first_offer_in rs n) other)
    ∙ or_none (first_offer_in (migrated_below rs n) room) in (
      λ less. elim (cases_lt room n) [
        | inl lower ↦ elsewhere (λ same. absurd (omega (arith, same, lower))) ∙ earlier.0 lower
        | inr not_lower ↦
            let same : n ≡ room = omega (arith, less, not_lower) in
            step ∙ ap (λ o. or_else o (first_offer_in (offered n (first_offer_in rs n)) room)) (earlier.1 (omega (arith, same)))
            ∙ subst (λ m. first_offer_in (offered m (first_offer_in rs m)) room ≡ first_offer_in rs room) (sym same) (offered_own room (first_offer_in rs room))
      ],
      λ more. elsewhere (λ same. absurd (omega (arith, same, more))) ∙ earlier.1 (omega (arith, more)),
    )

pub offers-migrated : (rs : List Record) (room : ℕ) → room < 2 ^ 16 → first_offer_in (migrated rs) room ≡ first_offer_in rs room
unfolding migrated
offers-migrated rs room less = (below rs (2 ^ 16) room).0 less
