-- What records in order leave of a room: a start under an own ballot, and a vote within the promise.
use Rattle.std.proofs.Common.{◌≡◌, ◌⊎◌, inl, inr, ℕ, zero, suc, ◌+◌, ◌<◌, ◌≤◌, Bool, true, false, cond, List, [], ◌∷◌, ◌++◌, length, take, get_or, Option, Some, None, refl, sym, ap, subst, arith}
use Rattle.std.specs.Prelude.{IfSome, ◌==◌}
use Rattle.std.specs.Option.{option_map}
use Rattle.std.proofs.lemmas.Bool.{eq-eqb, cases_eq}
use Rattle.std.proofs.lemmas.List.{take_more}
use Rattle.std.proofs.lemmas.Option.{slice_get-get_or}
use Rattle.paxos_core_world.specs.declared.vote.Vote.{Vote}
use Rattle.paxos_core_world.specs.Ballot.{Owns}
use Rattle.paxos_core_world.specs.KeptPart.{KeptPart, nothing_kept, vote, IsWithinPromise}
use Rattle.acceptor_log_form.specs.declared.record.Record.{Record}
use Rattle.acceptor_log_form.specs.declared.record.Record.TheVariants.{Offered, Started, Proposed, Promised, Accepted, Summary}
use Rattle.acceptor_log_form.specs.Text.{room_of}
use Rattle.acceptor_log_form.specs.Leaves.{kept_by_record, kept_in, proposed_in, vote_told}
use Rattle.acceptor_log_form.specs.Order.{MayComeNext, AreInOrder, IsVoteWithin}
use Rattle.acceptor_log_form.proofs.LeavesLemmas.{left_from-own, left_from-other}
use Rattle.acceptor_log_old.specs.Migrated.{told}

-- a vote for a node's offer, under a ballot up to p
abbrev pub IsVoteUpTo : ℕ → ℕ → Option Vote → Type 0
IsVoteUpTo n p accepted = IfSome accepted (λ x. (1 ≤ x.ballot) × (x.ballot ≤ p) × (x.value < n))

abbrev pub IsWell : ℕ → ℕ → KeptPart → Type 0
IsWell n i k = ((k.started ≡ 0) ⊎ Owns n i k.started) × IsVoteUpTo n k.promised k.accepted

raised : (n p b : ℕ) (accepted : Option Vote) → p < b → IsVoteUpTo n p accepted → IsVoteUpTo n b accepted
raised n p b None less well = tt
raised n p b (Some x) less well = (well.0, omega (arith, well.1, less), well.2)

summed : (n p : ℕ) (x : ℕ × ℕ) → IsVoteWithin n p x → IsVoteUpTo n p (option_map (λ (y : ℕ × ℕ). vote y.0 y.1) (vote_told x))
summed n p x within = by (x.0 == 0) refl
  where
    by : (t : Bool) → (x.0 == 0) ≡ t → IsVoteUpTo n p (option_map (λ (y : ℕ × ℕ). vote y.0 y.1) (cond t None (Some x)))
    by true none = tt
    by false some = elim within [
      | inl none ↦ (let zero : (x.0 == 0) ≡ true = eq-eqb x.0 0 none.0 in absurd cc)
      | inr has ↦ has
    ]

goes-well : (n i : ℕ) (k : KeptPart) (proposed : ℕ) (r : Record) → IsWell n i k → MayComeNext n i k proposed r → IsWell n i (kept_by_record k r)
goes-well n i k proposed (Offered room offer) well goes = well
goes-well n i k proposed (Started room b) well goes = (inr goes.0, well.1)
goes-well n i k proposed (Proposed room b v) well goes = well
goes-well n i k proposed (Promised room b) well goes = (well.0, raised n k.promised b k.accepted goes well.1)
goes-well n i k proposed (Accepted room b v) well goes = (well.0, (goes.0, omega arith, goes.3))
goes-well n i k proposed (Summary room s p x) well goes = (goes.2, summed n p x goes.3)

module _ (n i rooms : ℕ) (rs : List Record) (order : AreInOrder n i rooms rs) (room : ℕ) where
  -- one record more
  more : (k : ℕ) → k < length rs → IsWell n i (kept_in (take k rs) room) → IsWell n i (kept_in (take (k + 1) rs) room)
  more k less well =
      let r : Record = get_or rs k (Started 0 0) in
      let before = take k rs in
      let are : take (k + 1) rs ≡ before ++ r ∷ [] = take_more rs k (Started 0 0) less in
      let may = order k r (slice_get-get_or rs k (Started 0 0) less) in
      elim (cases_eq (room_of r) room) [
        | inl same ↦ subst (IsWell n i) (sym (left_from-own kept_by_record nothing_kept before (take (k + 1) rs) r room are same))
            (goes-well n i (kept_in before room) (proposed_in before room) r well
            (subst (λ m. MayComeNext n i (kept_in before m) (proposed_in before m) r) same may.1))
        | inr other ↦ subst (IsWell n i) (sym (left_from-other kept_by_record nothing_kept before (take (k + 1) rs) r room are other)) well
      ]

  first : (k : ℕ) → k ≤ length rs → IsWell n i (kept_in (take k rs) room)
  first zero least = (inl refl, tt)
  first (suc k) least =
      let next : k + 1 ≡ suc k = omega arith in
      subst (λ (m : ℕ). IsWell n i (kept_in (take m rs) room)) next (more k (omega (arith, least)) (first k (omega (arith, least))))

  pub well-in_order : IsWell n i (kept_in rs room)
  well-in_order = subst (λ l. IsWell n i (kept_in l room)) (all_of rs) (first (length rs) (omega arith))
    where
      all_of : (l : List Record) → take (length l) l ≡ l
      all_of [] = refl
      all_of (x ∷ l) = ap (λ (t : List Record). x ∷ t) (all_of l)

pub well-promised : (n p : ℕ) (accepted : Option Vote) → IsVoteUpTo n p accepted → IsWithinPromise p accepted
well-promised n p None well = tt
well-promised n p (Some x) well = (well.0, well.1)

pub well-told : (n p : ℕ) (accepted : Option Vote) → IsVoteUpTo n p accepted → IsVoteWithin n p (told accepted)
well-told n p None well = inl (refl, refl)
well-told n p (Some x) well = inr well

-- the number of a node has one byte
pub well-byte : (n p : ℕ) (accepted : Option Vote) → n < 256 → IsVoteUpTo n p accepted → IfSome accepted (λ x. x.value < 256)
well-byte n p None few well = tt
well-byte n p (Some x) few well = omega (arith, well.2, few)
