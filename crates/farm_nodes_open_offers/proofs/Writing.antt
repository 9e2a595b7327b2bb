-- What is known of a function's offer is what its room's records say.
use Rattle.std.proofs.Common.{◌≡◌, ◌≢◌, ◌⊎◌, inl, inr, ℕ, ◌+◌, ◌*◌, ◌/◌, ◌%◌, ◌<◌, Bool, true, false, cond, eqb, List, [], ◌∷◌, length, map, get_or, drop, Option, Some, None, refl, sym, ap, ◌∙◌, subst, arith}
use Rattle.std.specs.Prelude.{is_some}
use Rattle.std.specs.List.{cons_option}
use Rattle.std.proofs.lemmas.Bool.{eq-eqb, ne_eqb, cases_eq}
use Rattle.lang_base.specs.declared.language.Language as language
use Rattle.lang_base.specs.declared.pass.Pass as pass
use Rattle.acceptor_log_form.specs.declared.record.Record.{Record}
use Rattle.acceptor_log_form.specs.declared.record.Record.TheVariants.{Offered, Started, Proposed, Promised, Accepted, Summary}
use Rattle.acceptor_log_form.specs.Leaves.{left_from}
use Rattle.offers.specs.declared.parts.Parts.{Parts}
use Rattle.offers.specs.Text.{text_of}
use Rattle.farm_nodes_turn_passes.specs.declared.which.Which.{Which}
use Rattle.farm_nodes_turn_passes.specs.declared.which.Which.TheVariants.{Constants, Expressions, Allocation, Order}
use Rattle.farm_nodes_turn_passes.specs.Numbers.{place_of, room_at}
use Rattle.farm_nodes_open_offers.specs.Written.{all_written, offer_by}
use Rattle.farm_nodes_open_offers.specs.Stored.{IsStoredText}
use Rattle.farm_nodes_open_offers.specs.Known.{last_in}

below_four : (which : Which) → place_of which < 4
below_four Constants = omega (arith)
below_four Expressions = omega (arith)
below_four Allocation = omega (arith)
below_four Order = omega (arith)

-- a room of the pass is that of the function whose number it has
same_room : (room f p : ℕ) → p < 4 → room % 4 ≡ p → eqb room (4 * f + p) ≡ eqb (room / 4) f
same_room room f p below is = on (cases_eq (room / 4) f)
  where
    on : (room / 4 ≡ f) ⊎ (room / 4 ≢ f) → eqb room (4 * f + p) ≡ eqb (room / 4) f
    on (inl e) = eq-eqb room (4 * f + p) (omega (arith, e, is)) ∙ sym (eq-eqb (room / 4) f e)
    on (inr ne) = ne_eqb room (4 * f + p) (λ e. ne (omega (arith, e, below))) ∙ sym (ne_eqb (room / 4) f ne)

-- a room of another pass is none of the pass
other_room : (room f p : ℕ) → p < 4 → room % 4 ≢ p → eqb room (4 * f + p) ≡ false
other_room room f p below other = ne_eqb room (4 * f + p) (λ e. other (omega (arith, e, below)))

kept_choice : {A : Type 0} → (here : Bool) (a : A) → cond here a a ≡ a
kept_choice true a = refl
kept_choice false a = refl

module _ {P A B C I O : Type 0} (from : language.Ghosts A I) (to : language.Ghosts B O) (by : pass.Ghosts P A B C I O) where
  abbrev pub Text : Parts I O C → List ℕ
  Text = text_of from to by

  abbrev pub Is : Option (List ℕ) → Option (Parts I O C) → Type 0
  Is = IsStoredText from to by

  chosen : (here : Bool) (text : List ℕ) (x : Parts I O C) (o : Option (List ℕ)) (p : Option (Parts I O C)) → text ≡ Text x → Is o p → Is (cond here (Some text) o) (cond here (Some x) p)
  chosen true text x o p spelled is = spelled
  chosen false text x o p spelled is = is

  module _ (which : Which) (f : ℕ) where
    abbrev pub room : ℕ
    room = room_at f which

    -- what follows these records goes on so
    abbrev pub GoesOn : List Record → Type 0
    GoesOn rs =
        (o : Option (List ℕ)) (p : Option (Parts I O C)) (rooms : List ℕ) (xs : List (Parts I O C)) → Is o p
        → rooms ≡ map (λ it. it.0) (all_written which rs) → map Text xs ≡ map (λ it. it.1) (all_written which rs)
        → Is (left_from offer_by o rs room) (last_in f p rooms xs)

    -- behind an offer of the pass
    own : (m : ℕ) (text : List ℕ) (rs : List Record) (go : GoesOn rs) (o : Option (List ℕ)) (p : Option (Parts I O C)) (rooms : List ℕ) (xs : List (Parts I O C)) → m % 4 ≡ place_of which → Is o p → rooms ≡ m ∷ map (λ it. it.0) (all_written which rs) → map Text xs ≡ text ∷ map (λ it. it.1) (all_written which rs) → Is (left_from offer_by (cond (eqb m room) (Some text) o) rs room) (last_in f p rooms xs)
    own m text rs go o p [] xs e is rooms_are texts_are = absurd (omega (arith, ap length rooms_are))
    own m text rs go o p (n ∷ rooms) [] e is rooms_are texts_are = absurd (omega (arith, ap length texts_are))
    own m text rs go o p (n ∷ rooms) (x ∷ xs) e is rooms_are texts_are =
        let n_is : n ≡ m = ap (λ l. get_or l 0 m) rooms_are in
        let x_is : text ≡ Text x = sym (ap (λ l. get_or l 0 text) texts_are) in
        let same : eqb m room ≡ eqb (n / 4) f = same_room m f (place_of which) (below_four which) e ∙ ap (λ k. eqb (k / 4) f) (sym n_is) in
        go (cond (eqb m room) (Some text) o) (cond (eqb (n / 4) f) (Some x) p) rooms xs
        (subst (λ b. Is (cond b (Some text) o) (cond (eqb (n / 4) f) (Some x) p)) (sym same) (chosen (eqb (n / 4) f) text x o p x_is is))
        (ap (drop 1) rooms_are)
        (ap (drop 1) texts_are)

    -- behind any offer
    offer : (m : ℕ) (text : List ℕ) (rs : List Record) → GoesOn rs → GoesOn (Offered m text ∷ rs)
    offer m text rs go o p rooms xs is rooms_are texts_are = on (cases_eq (m % 4) (place_of which))
      where
        Added : Bool → List (ℕ × List ℕ)
        Added here = cons_option (cond here (Some (m, text)) None) (all_written which rs)

        on : (m % 4 ≡ place_of which) ⊎ (m % 4 ≢ place_of which) → Is (left_from offer_by (cond (eqb m room) (Some text) o) rs room) (last_in f p rooms xs)
        on (inl e) =
            let here : eqb (m % 4) (place_of which) ≡ true = eq-eqb (m % 4) (place_of which) e in
            own m text rs go o p rooms xs e is
            (rooms_are ∙ ap (λ b. map (λ it. it.0) (Added b)) here)
            (texts_are ∙ ap (λ b. map (λ it. it.1) (Added b)) here)
        on (inr ne) =
            let there : eqb (m % 4) (place_of which) ≡ false = ne_eqb (m % 4) (place_of which) ne in
            subst (λ b. Is (left_from offer_by (cond b (Some text) o) rs room) (last_in f p rooms xs))
            (sym (other_room m f (place_of which) (below_four which) ne))
            (go o p rooms xs is
            (rooms_are ∙ ap (λ b. map (λ it. it.0) (Added b)) there)
            (texts_are ∙ ap (λ b. map (λ it. it.1) (Added b)) there))

    -- behind a record that is none
    none : (here : Bool) (rs : List Record) (go : GoesOn rs) (o : Option (List ℕ)) (p : Option (Parts I O C)) (rooms : List ℕ) (xs : List (Parts I O C)) → Is o p → rooms ≡ map (λ it. it.0) (all_written which rs) → map Text xs ≡ map (λ it. it.1) (all_written which rs) → Is (left_from offer_by (cond here o o) rs room) (last_in f p rooms xs)
    none here rs go o p rooms xs is rooms_are texts_are =
        subst (λ k. Is (left_from offer_by k rs room) (last_in f p rooms xs)) (sym (kept_choice here o)) (go o p rooms xs is rooms_are texts_are)

    pub known_from : (rs : List Record) → GoesOn rs
    known_from [] o p [] xs is rooms_are texts_are = is
    known_from [] o p (m ∷ rooms) xs is rooms_are texts_are = absurd (omega (arith, ap length rooms_are))
    known_from (Offered m text ∷ rs) o p rooms xs is rooms_are texts_are = offer m text rs (known_from rs) o p rooms xs is rooms_are texts_are
    known_from (Started m b ∷ rs) o p rooms xs is rooms_are texts_are = none (eqb m room) rs (known_from rs) o p rooms xs is rooms_are texts_are
    known_from (Proposed m b v ∷ rs) o p rooms xs is rooms_are texts_are = none (eqb m room) rs (known_from rs) o p rooms xs is rooms_are texts_are
    known_from (Promised m b ∷ rs) o p rooms xs is rooms_are texts_are = none (eqb m room) rs (known_from rs) o p rooms xs is rooms_are texts_are
    known_from (Accepted m b v ∷ rs) o p rooms xs is rooms_are texts_are = none (eqb m room) rs (known_from rs) o p rooms xs is rooms_are texts_are
    known_from (Summary m s q x ∷ rs) o p rooms xs is rooms_are texts_are = none (eqb m room) rs (known_from rs) o p rooms xs is rooms_are texts_are

  -- there is an offer exactly where there is a text
  pub both_there : (o : Option (List ℕ)) (p : Option (Parts I O C)) → Is o p → is_some o ≡ is_some p
  both_there None None is = refl
  both_there None (Some x) is = absurd is
  both_there (Some text) None is = absurd is
  both_there (Some text) (Some x) is = refl
