-- What an offer that the cell takes makes of a seat.
use Rattle.std.proofs.Common.{◌≡◌, ℕ, ◌<◌, false, List, length, get_or-set_same, get_or-set_other, Some, None, sym, ap, ◌∙◌, subst}
use Rattle.paxos_core_node_steps.specs.NodeState.{offered}
use Rattle.rooms_cells.specs.declared.sight.Put.{Put}
use Rattle.rooms_cells.specs.declared.sight.Put.TheVariants as put
use Rattle.rooms_cells.specs.Seen.{SightOf, IsPut, IsPutAt, nothing_seen, sight_at, value_at}
use Rattle.rooms_seat.specs.SeatState.{SeatState}
use Rattle.rooms.specs.SeatValue.{SeatValue, IsOffered, offer_of}

pub stands : {B T : Type 0} (told : Put B) (b : B) (x : T) (j : ℕ) (old : SeatValue T) (words : SeatState) (new : List (SightOf T)) → told ≡ put.Yes → j ≡ old.words.node.me
    → length old.sights ≡ 7 → j < 7 → old.words.node.kept.offered ≡ false → words ≡ record old.words { node = offered old.words.node } → IsPutAt told b x j old.sights new
    → IsOffered told b x old record { words = words; sights = new }
stands {B} {T} told b x j old words new is at size lt unoffered stepped put_at =
    subst (λ (t : Put B). IsOffered t b x old record { words = words; sights = new }) (sym is) (
      unoffered,
      stepped,
      subst (λ (i : ℕ). offer_of old i ≡ None) at outcome.0,
      subst (λ (i : ℕ). value_at new i ≡ Some x) at now,
      λ k d. ap (λ (ss : List (SightOf T)). value_at ss k) put_at.after ∙ ap (λ (s : SightOf T). s.value) (get_or-set_other old.sights j k put_at.at nothing_seen (λ e. d (e ∙ at))),
    )
  where
    outcome : IsPut put.Yes b x (sight_at old.sights j) put_at.at
    outcome = subst (λ (t : Put B). IsPut t b x (sight_at old.sights j) put_at.at) is put_at.outcome

    now : value_at new j ≡ Some x
    now =
        ap (λ (ss : List (SightOf T)). value_at ss j) put_at.after
        ∙ (ap (λ (s : SightOf T). s.value) (get_or-set_same old.sights j put_at.at nothing_seen (subst (λ (n : ℕ). j < n) (sym size) lt)) ∙ ap (λ (s : SightOf T). s.value) outcome.1)
