-- What one record more leaves of a room.
use Rattle.std.proofs.Common.{◌≡◌, ◌≢◌, inl, inr, ℕ, ◌+◌, ◌<◌, cond, eqb, List, [], ◌∷◌, ◌++◌, length, get_or, set, Some, refl, sym, ap, subst, ◌∙◌, arith}
use Rattle.std.specs.Prelude.{slice_get}
use Rattle.std.proofs.lemmas.List.{length-set, get_or-set_same, get_or-set_other}
use Rattle.std.proofs.lemmas.Option.{slice_get-get_or, get_or_from_slice_get}
use Rattle.std.proofs.lemmas.Bool.{eq-eqb, ne_eqb, cases_eq, cases_lt}
use Rattle.acceptor_log_form.specs.declared.record.Record.{Record}
use Rattle.acceptor_log_form.specs.Text.{room_of}
use Rattle.acceptor_log_form.specs.Leaves.{left_from}

module _ {A : Type 0} (by : A → Record → A) where
  left_from-push : (before : A) (rs : List Record) (r : Record) (room : ℕ) → left_from by before (rs ++ r ∷ []) room ≡ cond (eqb (room_of r) room) (by (left_from by before rs room) r) (left_from by before rs room)
  left_from-push before [] r room = refl
  left_from-push before (x ∷ rs) r room = left_from-push (cond (eqb (room_of x) room) (by before x) before) rs r room

  -- of its own room
  pub left_from-own : (before : A) (rs more : List Record) (r : Record) (room : ℕ) → more ≡ rs ++ r ∷ [] → room_of r ≡ room → left_from by before more room ≡ by (left_from by before rs room) r
  left_from-own before rs more r room are own =
      ap (λ l. left_from by before l room) are ∙ left_from-push before rs r room
      ∙ ap (λ t. cond t (by (left_from by before rs room) r) (left_from by before rs room)) (eq-eqb (room_of r) room own)

  -- of another room
  pub left_from-other : (before : A) (rs more : List Record) (r : Record) (room : ℕ) → more ≡ rs ++ r ∷ [] → room_of r ≢ room → left_from by before more room ≡ left_from by before rs room
  left_from-other before rs more r room are other =
      ap (λ l. left_from by before l room) are ∙ left_from-push before rs r room
      ∙ ap (λ t. cond t (by (left_from by before rs room) r) (left_from by before rs room)) (ne_eqb (room_of r) room other)

-- a list of what records leave of each room, once one record more is put down
module _ {A : Type 0} (by : A → Record → A) (before : A) (left : List A) (rooms : ℕ) (sizes : length left ≡ rooms) (rs more : List Record) (r : Record) (are : more ≡ rs ++ r ∷ []) (room : ℕ) (room_is : room ≡ room_of r) (below : room < rooms) (x : A) where
  pub shows_more : ((m : ℕ) → m < rooms → slice_get left m ≡ Some (left_from by before rs m)) → x ≡ by (left_from by before rs room) r → (m : ℕ) → m < rooms → slice_get (set left room x) m ≡ Some (left_from by before more m)
  shows_more shows x_is m lt =
      let got : slice_get (set left room x) m ≡ Some (get_or (set left room x) m x) = slice_get-get_or (set left room x) m x (omega (arith, length-set left room x)) in
      elim (cases_eq m room) [
        | inl same ↦
            let value : get_or (set left room x) m x ≡ x = ap (λ k. get_or (set left room x) k x) same ∙ get_or-set_same left room x x (omega arith) in
            let after : left_from by before more m ≡ by (left_from by before rs m) r = left_from-own by before rs more r m are (sym room_is ∙ sym same) in
            got ∙ ap (λ y. Some y) (value ∙ x_is ∙ ap (λ k. by (left_from by before rs k) r) (sym same) ∙ sym after)
        | inr other ↦
            let value : get_or (set left room x) m x ≡ get_or left m x = get_or-set_other left room m x x other in
            let after : left_from by before more m ≡ left_from by before rs m = left_from-other by before rs more r m are (λ e. other (sym e ∙ sym room_is)) in
            got ∙ ap (λ y. Some y) (value ∙ get_or_from_slice_get left m (left_from by before rs m) x (shows m lt) ∙ sym after)
      ]

-- what was read of a list
pub read_is : {A : Type 0} (left : List A) (room : ℕ) (x value : A) → slice_get left room ≡ Some value → x ≡ get_or left room x → x ≡ value
read_is left room x value shows is = is ∙ get_or_from_slice_get left room value x shows

-- what holds of each place below, and here
pub each_more : {X : Type 0} (P : ℕ → X → Type 0) (rs : List X) (i : ℕ) (e : X) → slice_get rs i ≡ Some e → P i e → ((k : ℕ) (r : X) → k < i → slice_get rs k ≡ Some r → P k r) → (k : ℕ) (r : X) → k < i + 1 → slice_get rs k ≡ Some r → P k r
each_more P rs i e at here below k r lt got =
    elim (cases_lt k i) [
      | inl less ↦ below k r less got
      | inr more ↦
          let is : k ≡ i = omega arith in
          let both : Some e ≡ Some r = sym at ∙ ap (λ n. slice_get rs n) (sym is) ∙ got in
          let same : e ≡ r = cc in
          subst (λ x. P k x) same (subst (λ n. P n e) (sym is) here)
    ]
