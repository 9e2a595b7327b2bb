-- Two seats that have met.
use Rattle.std.proofs.Common.{◌≡◌, ◌≢◌, ◌↔◌, ℕ, List, Option, Some, sym, ap, subst, ◌∙◌}
use Rattle.std.specs.Prelude.{IsSome}
use Rattle.rooms_cells.specs.Seen.{SightOf, names_of}
use Rattle.rooms_hall.specs.Claimed.{Claimed}
use Rattle.farm_nodes_turn_passes.specs.Meeting.{Remains, meeting_of}
use Rattle.farm_nodes_turn_passes.specs.RoomsSeatMeeting.{Meeting}
use Rattle.farm_nodes_turn_passes.specs.RoomsSeatMeeting.TheVariants.{Same}
use Rattle.farm_nodes_turn_passes.specs.SeatState.{SeatState}
use Rattle.farm_nodes_turn_passes.specs.SeatValue.{IsOneRoom, SeatValue, offer_of}
use Rattle.farm_nodes_turn_passes.specs.SeatValue as seats
use Rattle.farm_nodes_turn_passes.specs.Met.{Met}
use Rattle.farm_nodes_meet_seats.specs.Held.{Numbered, numbered}
use Rattle.farm_nodes_meet_seats.specs.Learned.{learned_offer}
use Rattle.farm_nodes_meet_seats.specs.Rooms.{LinkIn, MetIn}
use Rattle.farm_nodes_meet_seats.proofs.Seen.{IsLearned, learned_at, one_option}

remains_same : (s t : SeatState) → t ≡ s → Remains s t
remains_same s t e = record {
  opening = ap (λ (x : SeatState). x.view.opening) e;
  table = ap (λ (x : SeatState). x.table) e;
  me = ap (λ (x : SeatState). x.node.me) e;
  quorums = ap (λ (x : SeatState). x.node.quorums) e;
  kept = ap (λ (x : SeatState). x.node.kept) e;
  ballot = ap (λ (x : SeatState). x.node.ballot) e;
  under_it = ap (λ (x : SeatState). x.node.proposed) e;
  proposed = ap (λ (x : SeatState). x.proposed) e;
  learned = λ v is. ap (λ (x : SeatState). x.node.learned) e ∙ is;
}

module _ {T : Type 0} (c d c' d' : Claimed) (a b a' b' : SeatValue T) (ec : c' ≡ c) (ed : d' ≡ d) where
  moved : a'.words.table ≡ a.words.table → b'.words.table ≡ b.words.table → a'.sights ≡ a.sights → b'.sights ≡ b.sights → IsOneRoom a b ↔ IsOneRoom a' b'
  moved ta tb sa sb =
      let na : names_of a'.sights ≡ names_of a.sights = ap (λ (xs : List (SightOf T)). names_of xs) sa in
      let nb : names_of b'.sights ≡ names_of b.sights = ap (λ (xs : List (SightOf T)). names_of xs) sb in (
        λ is. record { table = ta ∙ is.table ∙ sym tb; cells = na ∙ is.cells ∙ sym nb },
        λ is. record { table = sym ta ∙ is.table ∙ tb; cells = sym na ∙ is.cells ∙ nb },
      )

  -- where both have learned and seen, they hold one offer
  one_offer : (m : Meeting) → Met m a b a' b' → IsSome (learned_offer a') → IsSome (learned_offer b') → learned_offer a' ≡ learned_offer b'
  one_offer m met there there' = one_option (learned_offer a') (learned_offer b') there there' (λ x y ex ey.
      let p : IsLearned a' a'.words.node.learned x = learned_at a' a'.words.node.learned x ex in
      let q : IsLearned b' b'.words.node.learned y = learned_at b' b'.words.node.learned y ey in
      let same : p.value ≡ q.value = met.same p.value q.value p.learned q.learned in
      let answer : m ≡ Same p.value = met.answer ∙ ap (λ (l : Option ℕ). meeting_of l b'.words.node.learned) p.learned
      ∙ ap (λ (l : Option ℕ). meeting_of (Some p.value) l) q.learned in
      let holds : seats.HoldSame (Same p.value) a' b' = subst (λ w. seats.HoldSame w a' b') answer met.offer in
      holds x y p.seen (ap (λ (j : ℕ). offer_of b' j) same ∙ q.seen))

  -- seats of two rooms are as they were
  pub met_apart : (¬ IsOneRoom a b) → c.number ≢ d.number → a' ≡ a → b' ≡ b → MetIn (numbered c a) (numbered d b) (numbered c' a') (numbered d' b')
  met_apart away two ea eb =
      let wa : a'.words ≡ a.words = ap (λ (s : SeatValue T). s.words) ea in
      let wb : b'.words ≡ b.words = ap (λ (s : SeatValue T). s.words) eb in
      let sa : a'.sights ≡ a.sights = ap (λ (s : SeatValue T). s.sights) ea in
      let sb : b'.sights ≡ b.sights = ap (λ (s : SeatValue T). s.sights) eb in
      record {
        first_number = ec;
        second_number = ed;
        first_sights = sa;
        second_sights = sb;
        first_remains = remains_same a.words a'.words wa;
        second_remains = remains_same b.words b'.words wb;
        room = moved (ap (λ (s : SeatState). s.table) wa) (ap (λ (s : SeatState). s.table) wb) sa sb;
        number = (λ is. absurd (away is), λ e. absurd (two e));
        apart = λ no. (ea, eb);
        met = λ is. absurd (away is);
        one = λ is. absurd (away is);
      }

  -- those of one room have met
  pub met_there : (m : Meeting) → IsOneRoom a b → c.number ≡ d.number → Met m a b a' b' → MetIn (numbered c a) (numbered d b) (numbered c' a') (numbered d' b')
  met_there m is one met =
      record {
        first_number = ec;
        second_number = ed;
        first_sights = met.first_sights;
        second_sights = met.second_sights;
        first_remains = met.met.first;
        second_remains = met.met.second;
        room = moved met.met.first.table met.met.second.table met.first_sights met.second_sights;
        number = (λ _. one, λ _. is);
        apart = λ no. absurd (no is);
        met = λ _. met.met;
        one = λ _. record { value = met.same; offer = one_offer m met };
      }

-- who links in a room holds one offer there
pub one_held : {T : Type 0} (a b a' b' : Numbered T) → MetIn a b a' b' → LinkIn a' b' → learned_offer a'.seat ≡ learned_offer b'.seat
one_held a b a' b' met link = (met.one (met.room.1 link.room)).offer link.first link.second
