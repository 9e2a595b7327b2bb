-- Whoever has offered has an offer in its cell.
use Rattle.std.proofs.Common.{◌≡◌, ℕ, zero, suc, ◌<◌, ◌⊎◌, false, true, List, [], ◌∷◌, length, set, get_or-set_same, get_or-set_other, Option, Some, None, IsSome, is_some, refl, sym, ap, ◌∙◌, subst, inl, inr}
use native.Mathlib.Decide.{ℕ_discrete}
use Rattle.std.proofs.lemmas.List.{length-map}
use Rattle.paxos_core_node_steps.specs.Would.{kept_by_step}
use Rattle.paxos_core_node_steps.specs.declared.step.Step.{Step}
use Rattle.paxos_core_node_steps.specs.declared.step.Step.TheVariants as step
use Rattle.paxos_core_world.specs.KeptPart.{KeptPart, nothing_kept}
use Rattle.paxos_core_world.specs.Quorum.{Sizes}
use Rattle.paxos_core_world.specs.World.{nodes_of}
use Rattle.rooms_cells.specs.declared.sight.Put.{Put}
use Rattle.rooms_cells.specs.declared.sight.Put.TheVariants as put
use Rattle.rooms_cells.specs.Seen.{SightOf, Read, StaysSeen, nothing_seen, sight_at, unseen, value_at}
use Rattle.rooms_seat.specs.SeatAct.{SeatAct}
use Rattle.rooms_seat.specs.Opening.{Opening}
use Rattle.rooms_seat.specs.RoomAt.{RoomAt}
use Rattle.rooms_seat.specs.SeatState.{SeatState, opening_of}
use Rattle.rooms_seat.specs.Would.{would, Acted}
use Rattle.rooms.specs.Opened.{offer_at, opened, AreFit, AreOffersOf, IsFit}
use Rattle.rooms.specs.SeatValue.{SeatValue, IsFilled, IsOffered, offer_of}

-- a seat with these words and sights
abbrev pub seat_of : {T : Type 0} → SeatState → List (SightOf T) → SeatValue T
seat_of words sights = record { words = words; sights = sights }

-- ---- what leaves the offer that was made

pub filled_still : {T : Type 0} (old new : SeatState) (ss : List (SightOf T)) → new.node.me ≡ old.node.me → new.node.kept.offered ≡ old.node.kept.offered → IsFilled (seat_of old ss) → IsFilled (seat_of new ss)
filled_still {T} old new ss me offered h e = subst (λ (j : ℕ). IsSome (value_at {T = T} ss j)) (sym me) (h (sym offered ∙ e))

pub filled_kept : {T : Type 0} (old new : SeatState) (ss : List (SightOf T)) → new.node.me ≡ old.node.me → new.node.kept ≡ old.node.kept → IsFilled (seat_of old ss) → IsFilled (seat_of new ss)
filled_kept {T} old new ss me kept h = filled_still {T = T} old new ss me (ap (λ (k : KeptPart). k.offered) kept) h

offered_by : (o : Option Step) (k : KeptPart) → (kept_by_step o k).offered ≡ k.offered
offered_by None k = refl
offered_by (Some (step.Start b)) k = refl
offered_by (Some (step.Promise b)) k = refl
offered_by (Some (step.Propose b v)) k = refl
offered_by (Some (step.Accept b v)) k = refl

pub filled_acted : {T : Type 0} (a : SeatAct) (old new : SeatState) (ss : List (SightOf T)) → Acted a old new → IsFilled (seat_of old ss) → IsFilled (seat_of new ss)
filled_acted {T} a old new ss acted h =
    filled_still {T = T} old new ss acted.me (ap (λ (k : KeptPart). k.offered) acted.kept ∙ offered_by (would old a) old.node.kept) h

-- ---- what is seen of a cell

some_stays : {T : Type 0} (a b : Option T) → StaysSeen a b → IsSome a → IsSome b
some_stays {T} None b stays some = absurd (cc)
some_stays {T} (Some x) b stays some = subst (λ (o : Option T). IsSome o) (sym stays) refl

set_value : {T : Type 0} (xs : List (SightOf T)) (j : ℕ) (at : SightOf T) → IsSome (value_at xs j) → IsSome at.value → IsSome (value_at (set xs j at) j)
set_value [] j at some here = some
set_value (x ∷ xs) zero at some here = here
set_value (x ∷ xs) (suc j) at some here = set_value xs j at some here

pub filled_read : {T : Type 0} (words : SeatState) (j : ℕ) (old new : List (SightOf T)) → Read j old new → IsFilled (seat_of words old) → IsFilled (seat_of words new)
filled_read {T} words j old new read h e = subst (λ (ss : List (SightOf T)). IsSome (value_at ss words.node.me)) (sym read.after) (at (ℕ_discrete words.node.me j))
  where
    at : Dec (words.node.me ≡ j) → IsSome (value_at (set old j read.at) words.node.me)
    at (yes same) =
        let had : IsSome (value_at old j) = subst (λ (i : ℕ). IsSome (value_at {T = T} old i)) same (h e) in
        subst (λ (i : ℕ). IsSome (value_at (set old j read.at) i)) (sym same) (set_value old j read.at had (some_stays (value_at old j) read.at.value read.stays had))
    at (no d) = subst (λ (s : SightOf T). IsSome s.value) (sym (get_or-set_other old j words.node.me read.at nothing_seen d)) (h e)

-- ---- an offer

pub filled_offered : {B T : Type 0} (told : Put B) (b : B) (x : T) (old new : SeatValue T) → IsOffered told b x old new → IsFilled old → IsFilled new
filled_offered {B} {T} put.Yes b x old new is h =
    λ _. subst (λ (j : ℕ). IsSome (offer_of new j)) (sym (ap (λ (s : SeatState). s.node.me) is.1)) (subst (λ (o : Option T). IsSome o) (sym is.3) refl)
filled_offered {B} {T} (put.No back) b x old new is h = subst (λ (s : SeatValue T). IsFilled s) (sym is.1) h
filled_offered {B} {T} (put.NoMemory back) b x old new is h = subst (λ (s : SeatValue T). IsFilled s) (sym is.1) h

-- ---- a room that opens

pub filled_opened : {T : Type 0} (table : RoomAt) (cells : List ℕ) (o : Opening) (i : ℕ) (offer : Option T) → length cells ≡ 7 → i < 7 → IsFit o i offer → IsFilled (opened table cells o i offer)
filled_opened {T} table cells o i None size lt fit e = absurd (let bad = fit e in cc)
filled_opened {T} table cells o i (Some x) size lt fit e =
    let many : length (unseen {T = T} cells) ≡ 7 = length-map cells (λ c. record { cell = c; value = None }) ∙ size in
    subst (λ (s : SightOf T). IsSome s.value)
    (sym (get_or-set_same (unseen {T = T} cells) i (record (sight_at (unseen {T = T} cells) i) { value = Some x }) nothing_seen (subst (λ (n : ℕ). i < n) (sym many) lt))) refl

-- what a room opens with is what was kept; beyond seven nodes it is nothing
kept_or_nothing : (q : Sizes) (kept : List KeptPart) (i : ℕ) → (nodes_of (opening_of q kept).kept i ≡ nodes_of kept i) ⊎ (nodes_of (opening_of q kept).kept i ≡ nothing_kept)
kept_or_nothing q kept zero = inl refl
kept_or_nothing q kept (suc zero) = inl refl
kept_or_nothing q kept (suc (suc zero)) = inl refl
kept_or_nothing q kept (suc (suc (suc zero))) = inl refl
kept_or_nothing q kept (suc (suc (suc (suc zero)))) = inl refl
kept_or_nothing q kept (suc (suc (suc (suc (suc zero))))) = inl refl
kept_or_nothing q kept (suc (suc (suc (suc (suc (suc zero)))))) = inl refl
kept_or_nothing q kept (suc (suc (suc (suc (suc (suc (suc i))))))) = inr refl

one_fit : {T : Type 0} (q : Sizes) (kept : List KeptPart) (i : ℕ) (offer : Option T) → (nodes_of kept i).offered ≡ is_some offer
    → (nodes_of (opening_of q kept).kept i ≡ nodes_of kept i) ⊎ (nodes_of (opening_of q kept).kept i ≡ nothing_kept) → IsFit (opening_of q kept) i offer
one_fit q kept i offer made (inl same) e = sym made ∙ (ap (λ (k : KeptPart). k.offered) (sym same) ∙ e)
one_fit q kept i offer made (inr none) e = absurd (let bad : false ≡ true = ap (λ (k : KeptPart). k.offered) (sym none) ∙ e in cc)

pub fit_offers : {T : Type 0} (q : Sizes) (kept : List KeptPart) (offers : List (Option T)) (o : Opening) → length kept ≡ q.nodes → o ≡ opening_of q kept → AreOffersOf kept offers → AreFit o offers
fit_offers {T} q kept offers o size is of =
    subst (λ (p : Opening). AreFit p offers) (sym is)
    (λ i lt. one_fit {T = T} q kept i (offer_at offers i) (of.made i (subst (λ (n : ℕ). i < n) (sym size) lt)) (kept_or_nothing q kept i))
