-- What records in order are migrated to is in order.
use Rattle.std.proofs.Common.{◌≡◌, ◌⊎◌, inl, inr, ℕ, zero, suc, ◌+◌, ◌<◌, ◌≤◌, Bool, true, false, cond, List, [], ◌∷◌, ◌++◌, length, take, Option, Some, None, refl, sym, ◌∙◌, ap, subst, arith, append-nil, append_assoc}
use Rattle.std.specs.Prelude.{◌==◌, ◌&&◌, slice_get}
use Rattle.std.proofs.lemmas.Bool.{eq-eqb}
use Rattle.std.proofs.lemmas.List.{take-append-le, take_at}
use Rattle.std.proofs.lemmas.Option.{none-some, same_Some, slice_get_within}
use Rattle.paxos_core_world.specs.KeptPart.{KeptPart, nothing_kept, with_offer}
use Rattle.acceptor_log_form.specs.declared.record.Record.{Record}
use Rattle.acceptor_log_form.specs.declared.record.Record.TheVariants.{Offered, Summary}
use Rattle.acceptor_log_form.specs.Leaves.{kept_by_record, kept_in, left_from}
use Rattle.acceptor_log_form.specs.Order.{MayFollow, AreInOrder}
use Rattle.acceptor_log_old.specs.Migrated.{told, first_offer_in, summary_of, offered, migrated_below, migrated}
use Rattle.acceptor_log_old.proofs.Well.{IsWell, well-in_order, well-told, well-promised}
use Rattle.acceptor_log_old.proofs.Kept.{left_from-append, below}

-- an element of a list that one was put behind
pub pushed_get : {X : Type 0} (xs : List X) (r x : X) (k : ℕ) → slice_get (xs ++ r ∷ []) k ≡ Some x → (slice_get xs k ≡ Some x) ⊎ ((k ≡ length xs) × (r ≡ x))
pushed_get [] r x zero got = inr (refl, same_Some r x got)
pushed_get [] r x (suc k) got = absurd (none-some x got)
pushed_get (y ∷ xs) r x zero got = inl got
pushed_get (y ∷ xs) r x (suc k) got = elim (pushed_get xs r x k got) [
  | inl earlier ↦ inl earlier
  | inr last ↦ inr (omega (arith, last.0), last.1)
]

module _ (n i rooms : ℕ) where
  in_order-nil : AreInOrder n i rooms []
  in_order-nil k r got = absurd (none-some r got)

  -- one record more
  pub in_order-push : (xs : List Record) (r : Record) → AreInOrder n i rooms xs → MayFollow n i rooms xs r → AreInOrder n i rooms (xs ++ r ∷ [])
  in_order-push xs r order may k x got = elim (pushed_get xs r x k got) [
    | inl earlier ↦ subst (λ l. MayFollow n i rooms l x) (sym (take-append-le k xs (r ∷ []) (omega (arith, slice_get_within xs k x earlier)))) (order k x earlier)
    | inr last ↦ subst (λ y. MayFollow n i rooms (take k (xs ++ r ∷ [])) y) last.1
        (subst (λ l. MayFollow n i rooms l r) (sym (take_at xs (r ∷ []) k (sym last.0))) may)
  ]

  -- a room's offer, where nothing was put down of the room
  with_offered : (xs : List Record) (m : ℕ) (o : Option (List ℕ)) → AreInOrder n i rooms xs → m < rooms → kept_in xs m ≡ nothing_kept → AreInOrder n i rooms (xs ++ offered m o)
  with_offered xs m None order less nothing = subst (AreInOrder n i rooms) (sym (append-nil xs)) order
  with_offered xs m (Some o) order less nothing = in_order-push xs (Offered m o) order (less, ap (λ k. k.offered) nothing)

-- nothing but an offer was put down of the room
module _ (xs : List Record) (m : ℕ) (o : Option (List ℕ)) (nothing : kept_in xs m ≡ nothing_kept) where
  offered_alone : kept_in (xs ++ offered m o) m ≡ left_from kept_by_record nothing_kept (offered m o) m
  offered_alone = left_from-append kept_by_record nothing_kept xs (offered m o) m ∙ ap (λ k. left_from kept_by_record k (offered m o) m) nothing

  nothing_started : (kept_in (xs ++ offered m o) m).started ≡ 0
  nothing_started = ap (λ k. k.started) offered_alone ∙ by o
    where
      by : (x : Option (List ℕ)) → (left_from kept_by_record nothing_kept (offered m x) m).started ≡ 0
      by None = refl
      by (Some x) = ap (λ t. (cond t (with_offer nothing_kept) nothing_kept).started) (eq-eqb m m refl)

  nothing_promised : (kept_in (xs ++ offered m o) m).promised ≡ 0
  nothing_promised = ap (λ k. k.promised) offered_alone ∙ by o
    where
      by : (x : Option (List ℕ)) → (left_from kept_by_record nothing_kept (offered m x) m).promised ≡ 0
      by None = refl
      by (Some x) = ap (λ t. (cond t (with_offer nothing_kept) nothing_kept).promised) (eq-eqb m m refl)

tells_one : (s p : ℕ) → (s == 0 && p == 0) ≡ false → (0 < s) ⊎ (0 < p)
tells_one zero zero is = absurd cc
tells_one zero (suc p) is = inr (omega arith)
tells_one (suc s) p is = inl (omega arith)

module _ (n i rooms : ℕ) where
  -- and its summary
  with_summary : (xs : List Record) (m : ℕ) (k : KeptPart) → AreInOrder n i rooms xs → m < rooms → (kept_in xs m).started ≡ 0 → (kept_in xs m).promised ≡ 0
      → IsWell n i k → AreInOrder n i rooms (xs ++ summary_of m k)
  with_summary xs m k order less started promised well = by (k.started == 0 && k.promised == 0) refl
    where
      one : Record
      one = Summary m k.started k.promised (told k.accepted)

      by : (t : Bool) → (k.started == 0 && k.promised == 0) ≡ t → AreInOrder n i rooms (xs ++ cond t [] (one ∷ []))
      by true none = subst (AreInOrder n i rooms) (sym (append-nil xs)) order
      by false some = in_order-push n i rooms xs one order
          (less, (started, promised, well.0, well-told n k.promised k.accepted well.1, tells_one k.started k.promised some))

  pub below-in_order : (rs : List Record) (m : ℕ) → AreInOrder n i rooms rs → m ≤ rooms → AreInOrder n i rooms (migrated_below rs m)
  below-in_order rs zero order most = in_order-nil n i rooms
  below-in_order rs (suc m) order most =
      let so_far = migrated_below rs m in
      let o = first_offer_in rs m in
      let k = kept_in rs m in
      let well = well-in_order n i rooms rs order m in
      let nothing : kept_in so_far m ≡ nothing_kept = (below rs m m (well-promised n k.promised k.accepted well.1)).1 (omega arith) in
      let less : m < rooms = omega (arith, most) in
      let earlier = below-in_order rs m order (omega (arith, most)) in
      subst (AreInOrder n i rooms) (append_assoc so_far (offered m o) (summary_of m k))
      (with_summary (so_far ++ offered m o) m k (with_offered n i rooms so_far m o earlier less nothing) less
      (nothing_started so_far m o nothing) (nothing_promised so_far m o nothing) well)
