-- What is kept of each room is the same once the records are migrated.
use Rattle.std.proofs.Common.{◌≡◌, ◌≢◌, inl, inr, ℕ, zero, suc, ◌<◌, ◌≤◌, Bool, true, false, cond, eqb, List, [], ◌∷◌, ◌++◌, Option, Some, None, refl, sym, ◌∙◌, ap, subst, arith}
use Rattle.std.specs.Prelude.{◌==◌, ◌&&◌, ◌^◌}
use Rattle.std.specs.Option.{option_map}
use Rattle.std.proofs.lemmas.Bool.{eq-eqb, ne_eqb, eqb-true, cases_lt, and_parts}
use Rattle.paxos_core_world.specs.declared.vote.Vote.{Vote}
use Rattle.paxos_core_world.specs.KeptPart.{KeptPart, nothing_kept, with_offer, with_start, with_promise, with_vote, vote, part, IsWithinPromise}
use Rattle.acceptor_log_form.specs.declared.record.Record.{Record}
use Rattle.acceptor_log_form.specs.declared.record.Record.TheVariants.{Offered, Started, Proposed, Promised, Accepted, Summary}
use Rattle.acceptor_log_form.specs.Text.{room_of}
use Rattle.acceptor_log_form.specs.Leaves.{kept_by_record, kept_in, left_from, vote_told}
use Rattle.acceptor_log_old.specs.Migrated.{first_offer_in, told, summary_of, offered, of_room, migrated_below, migrated}

pub left_from-append : {A : Type 0} (by : A → Record → A) (before : A) (xs ys : List Record) (room : ℕ) → left_from by before (xs ++ ys) room ≡ left_from by (left_from by before xs room) ys room
left_from-append by before [] ys room = refl
left_from-append by before (x ∷ xs) ys room = left_from-append by (cond (eqb (room_of x) room) (by before x) before) xs ys room

-- whether its node has offered
cond-offered : (t : Bool) (x k : KeptPart) (b : Bool) → x.offered ≡ b → k.offered ≡ b → (cond t x k).offered ≡ b
cond-offered true x k b one two = one
cond-offered false x k b one two = two

stays-offered : (rs : List Record) (k : KeptPart) (room : ℕ) → k.offered ≡ true → (left_from kept_by_record k rs room).offered ≡ true
stays-offered [] k room is = is
stays-offered (Offered m o ∷ rs) k room is = stays-offered rs (cond (eqb m room) (with_offer k) k) room (cond-offered (eqb m room) (with_offer k) k true refl is)
stays-offered (Started m b ∷ rs) k room is = stays-offered rs (cond (eqb m room) (with_start b k) k) room (cond-offered (eqb m room) (with_start b k) k true is is)
stays-offered (Proposed m b v ∷ rs) k room is = stays-offered rs (cond (eqb m room) k k) room (cond-offered (eqb m room) k k true is is)
stays-offered (Promised m b ∷ rs) k room is = stays-offered rs (cond (eqb m room) (with_promise b k) k) room (cond-offered (eqb m room) (with_promise b k) k true is is)
stays-offered (Accepted m b v ∷ rs) k room is = stays-offered rs (cond (eqb m room) (with_vote (vote b v) k) k) room (cond-offered (eqb m room) (with_vote (vote b v) k) k true is is)
stays-offered (Summary m s p x ∷ rs) k room is = stays-offered rs (cond (eqb m room) (part k.offered s p (vote_told x)) k) room (cond-offered (eqb m room) (part k.offered s p (vote_told x)) k true is is)

-- an offer of this room, or none of it
none_here : (m room : ℕ) (o : List ℕ) (rest : Option (List ℕ)) → cond (eqb m room) (Some o) rest ≡ None → (eqb m room ≡ false) × (rest ≡ None)
none_here m room o rest is = by (eqb m room) refl is
  where
    by : (t : Bool) → eqb m room ≡ t → cond t (Some o) rest ≡ None → (eqb m room ≡ false) × (rest ≡ None)
    by true same is = absurd cc
    by false other is = (other, is)

pub none-offered : (rs : List Record) (k : KeptPart) (room : ℕ) → first_offer_in rs room ≡ None → (left_from kept_by_record k rs room).offered ≡ k.offered
none-offered [] k room none = refl
none-offered (Offered m o ∷ rs) k room none =
    let p = none_here m room o (first_offer_in rs room) none in
    none-offered rs (cond (eqb m room) (with_offer k) k) room p.1 ∙ ap (λ t. (cond t (with_offer k) k).offered) p.0
none-offered (Started m b ∷ rs) k room none =
    none-offered rs (cond (eqb m room) (with_start b k) k) room none ∙ cond-offered (eqb m room) (with_start b k) k k.offered refl refl
none-offered (Proposed m b v ∷ rs) k room none =
    none-offered rs (cond (eqb m room) k k) room none ∙ cond-offered (eqb m room) k k k.offered refl refl
none-offered (Promised m b ∷ rs) k room none =
    none-offered rs (cond (eqb m room) (with_promise b k) k) room none ∙ cond-offered (eqb m room) (with_promise b k) k k.offered refl refl
none-offered (Accepted m b v ∷ rs) k room none =
    none-offered rs (cond (eqb m room) (with_vote (vote b v) k) k) room none ∙ cond-offered (eqb m room) (with_vote (vote b v) k) k k.offered refl refl
none-offered (Summary m s p x ∷ rs) k room none =
    none-offered rs (cond (eqb m room) (part k.offered s p (vote_told x)) k) room none ∙ cond-offered (eqb m room) (part k.offered s p (vote_told x)) k k.offered refl refl

pub some-offered : (rs : List Record) (k : KeptPart) (room : ℕ) (offer : List ℕ) → first_offer_in rs room ≡ Some offer → (left_from kept_by_record k rs room).offered ≡ true
some-offered [] k room offer some = absurd cc
some-offered (Offered m o ∷ rs) k room offer some = by (eqb m room) refl (some-offered rs (cond (eqb m room) (with_offer k) k) room offer) some
  where
    by : (t : Bool) → eqb m room ≡ t → (first_offer_in rs room ≡ Some offer → (left_from kept_by_record (cond (eqb m room) (with_offer k) k) rs room).offered ≡ true)
        → cond t (Some o) (first_offer_in rs room) ≡ Some offer → (left_from kept_by_record (cond (eqb m room) (with_offer k) k) rs room).offered ≡ true
    by true same later is = stays-offered rs (cond (eqb m room) (with_offer k) k) room (ap (λ t. (cond t (with_offer k) k).offered) same)
    by false other later is = later is
some-offered (Started m b ∷ rs) k room offer some = some-offered rs (cond (eqb m room) (with_start b k) k) room offer some
some-offered (Proposed m b v ∷ rs) k room offer some = some-offered rs (cond (eqb m room) k k) room offer some
some-offered (Promised m b ∷ rs) k room offer some = some-offered rs (cond (eqb m room) (with_promise b k) k) room offer some
some-offered (Accepted m b v ∷ rs) k room offer some = some-offered rs (cond (eqb m room) (with_vote (vote b v) k) k) room offer some
some-offered (Summary m s p x ∷ rs) k room offer some = some-offered rs (cond (eqb m room) (part k.offered s p (vote_told x)) k) room offer some

-- what is put down of a room, and what that leaves of it and of others
after_offered : (room m : ℕ) (x : Option (List ℕ)) (k : KeptPart) → room ≢ m → left_from kept_by_record k (offered room x) m ≡ k
after_offered room m None k other = refl
after_offered room m (Some o) k other = ap (λ t. cond t (with_offer k) k) (ne_eqb room m other)

after_summary : (room m : ℕ) (k j : KeptPart) → room ≢ m → left_from kept_by_record j (summary_of room k) m ≡ j
after_summary room m k j other = by (k.started == 0 && k.promised == 0)
  where
    one : Record
    one = Summary room k.started k.promised (told k.accepted)

    by : (t : Bool) → left_from kept_by_record j (cond t [] (one ∷ [])) m ≡ j
    by true = refl
    by false = ap (λ t. cond t (kept_by_record j one) j) (ne_eqb room m other)

pub elsewhere : (rs : List Record) (room m : ℕ) (k : KeptPart) → room ≢ m → left_from kept_by_record k (of_room rs room) m ≡ k
elsewhere rs room m k other =
    left_from-append kept_by_record k (offered room (first_offer_in rs room)) (summary_of room (kept_in rs room)) m
    ∙ after_summary room m (kept_in rs room) (left_from kept_by_record k (offered room (first_offer_in rs room)) m) other
    ∙ after_offered room m (first_offer_in rs room) k other

-- the vote that a summary tells is the one that is kept
told_back : (accepted : Option Vote) (p : ℕ) → IsWithinPromise p accepted → option_map (λ (x : ℕ × ℕ). vote x.0 x.1) (vote_told (told accepted)) ≡ accepted
told_back None p within = refl
told_back (Some x) p within =
    ap (λ t. option_map (λ (y : ℕ × ℕ). vote y.0 y.1) (cond t None (Some (x.ballot, x.value)))) (ne_eqb x.ballot 0 (λ is. absurd (omega (arith, is, within.0))))

none_kept : (accepted : Option Vote) (p : ℕ) → IsWithinPromise p accepted → p ≡ 0 → accepted ≡ None
none_kept None p within none = refl
none_kept (Some x) p within none = absurd (omega (arith, none, within.0, within.1))

parts_are : (a k : KeptPart) → a.offered ≡ k.offered → a.started ≡ k.started → a.promised ≡ k.promised → a.accepted ≡ k.accepted → a ≡ k
parts_are a k one two three four = λ i. record { offered = one i; started = two i; promised = three i; accepted = four i }

offer_here : (rs : List Record) (room : ℕ) → left_from kept_by_record nothing_kept (offered room (first_offer_in rs room)) room ≡ part (kept_in rs room).offered 0 0 None
offer_here rs room = by (first_offer_in rs room) refl
  where
    by : (x : Option (List ℕ)) → first_offer_in rs room ≡ x → left_from kept_by_record nothing_kept (offered room x) room ≡ part (kept_in rs room).offered 0 0 None
    by None is = ap (λ b. part b 0 0 None) (sym (none-offered rs nothing_kept room is))
    by (Some o) is = ap (λ t. cond t (with_offer nothing_kept) nothing_kept) (eq-eqb room room refl) ∙ ap (λ b. part b 0 0 None) (sym (some-offered rs nothing_kept room o is))

summary_here : (room : ℕ) (k : KeptPart) → IsWithinPromise k.promised k.accepted → left_from kept_by_record (part k.offered 0 0 None) (summary_of room k) room ≡ k
summary_here room k within = by (k.started == 0 && k.promised == 0) refl
  where
    one : Record
    one = Summary room k.started k.promised (told k.accepted)

    by : (t : Bool) → (k.started == 0 && k.promised == 0) ≡ t → left_from kept_by_record (part k.offered 0 0 None) (cond t [] (one ∷ [])) room ≡ k
    by true none =
        let both = and_parts (k.started == 0) (k.promised == 0) none in
        let promised : k.promised ≡ 0 = eqb-true k.promised 0 both.1 in
        parts_are (part k.offered 0 0 None) k refl (sym (eqb-true k.started 0 both.0)) (sym promised) (sym (none_kept k.accepted k.promised within promised))
    by false some =
        ap (λ t. cond t (kept_by_record (part k.offered 0 0 None) one) (part k.offered 0 0 None)) (eq-eqb room room refl)
        ∙ parts_are (part k.offered k.started k.promised (vote_told (told k.accepted))) k refl refl refl (told_back k.accepted k.promised within)

pub here : (rs : List Record) (room : ℕ) → IsWithinPromise (kept_in rs room).promised (kept_in rs room).accepted
    → left_from kept_by_record nothing_kept (of_room rs room) room ≡ kept_in rs room
here rs room within =
    left_from-append kept_by_record nothing_kept (offered room (first_offer_in rs room)) (summary_of room (kept_in rs room)) room
    ∙ ap (λ k. left_from kept_by_record k (summary_of room (kept_in rs room)) room) (offer_here rs room)
    ∙ summary_here room (kept_in rs room) within

-- rooms below n
pub below : (rs : List Record) (n room : ℕ) → IsWithinPromise (kept_in rs room).promised (kept_in rs room).accepted
    → ((room < n) → kept_in (migrated_below rs n) room ≡ kept_in rs room) × ((n ≤ room) → kept_in (migrated_below rs n) room ≡ nothing_kept)
below rs zero room within = (λ less. absurd (omega (arith, less)), λ more. refl)
below rs (suc n) room within =
    let earlier = below rs n room within in
    let step = left_from-append kept_by_record nothing_kept (migrated_below rs n) (of_room rs n) room in (
      λ less. elim (cases_lt room n) [
        | inl lower ↦ step ∙ elsewhere rs n room (kept_in (migrated_below rs n) room) (λ same. absurd (omega (arith, same, lower))) ∙ earlier.0 lower
        | inr not_lower ↦
            let same : n ≡ room = omega (arith, less, not_lower) in
            step ∙ ap (λ k. left_from kept_by_record k (of_room rs n) room) (earlier.1 (omega (arith, same)))
            ∙ subst (λ m. left_from kept_by_record nothing_kept (of_room rs m) room ≡ kept_in rs room) (sym same) (here rs room within)
      ],
      λ more.
          step ∙ elsewhere rs n room (kept_in (migrated_below rs n) room) (λ same. absurd (omega (arith, same, more))) ∙ earlier.1 (omega (arith, more)),
    )

pub kept-migrated : (rs : List Record) (room : ℕ) → room < 2 ^ 16 → IsWithinPromise (kept_in rs room).promised (kept_in rs room).accepted
    → kept_in (migrated rs) room ≡ kept_in rs room
unfolding migrated
kept-migrated rs room less within = (below rs (2 ^ 16) room within).0 less
