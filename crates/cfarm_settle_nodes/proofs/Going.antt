-- What the calls of a seat leave of its room.
use Rattle.std.proofs.Common.{◌≡◌, ℕ, List, Option, Some, None, IfSome, refl, sym, ap, ◌∙◌, subst}
use Rattle.offers.specs.declared.parts.Parts.{Parts}
use Rattle.paxos_core_node_steps.specs.declared.step.Step.{Step}
use Rattle.rooms_cells.specs.Seen.{SightOf, names_of, value_at}
use Rattle.rooms_words.specs.declared.acceptor.AcceptorWord.{AcceptorWord}
use Rattle.rooms_words.specs.declared.proposer.ProposerWord.{ProposerWord}
use Rattle.rooms_words.specs.declared.view.View.{View}
use Rattle.rooms_seat_state.specs.declared.act.SeatAct.{SeatAct}
use Rattle.rooms_seat_state.specs.Did.{Did, LookedAtAcceptor, LookedAtProposer, NotesOf}
use Rattle.rooms_seat_state.specs.SeatState.{SeatState}
use Rattle.rooms_seat_state.specs.Would.{would, act_of, proposed_by_step, Acted}
use Rattle.rooms_seat.specs.Meeting.{Remains}
use Rattle.rooms.specs.SeatValue.{SeatValue, offer_of}
use Rattle.cfarm_settle_nodes.specs.Goes.{IsSameSeat, OffersFor, SeatGoesOn, SeesNoMore}

-- ---- words

pub same_room : (s : SeatState) → IsSameSeat s s
same_room s = record { table = refl; opening = refl; me = refl; quorums = refl }

pub through_room : (a b c : SeatState) → IsSameSeat a b → IsSameSeat b c → IsSameSeat a c
through_room a b c h k =
    record {
      table = k.table ∙ h.table;
      opening = k.opening ∙ h.opening;
      me = k.me ∙ h.me;
      quorums = k.quorums ∙ h.quorums;
    }

same_if : (a b : SeatState) → b ≡ a → IsSameSeat a b
same_if a b e = subst (λ (s : SeatState). IsSameSeat a s) (sym e) (same_room a)

pub looked_at_proposer : (j : ℕ) (x : ProposerWord) (old new : SeatState) → LookedAtProposer j x old new → IsSameSeat old new
looked_at_proposer j x old new h =
    record {
      table = ap (λ (s : SeatState). s.table) h.after;
      opening = ap (λ (v : View). v.opening) h.advances.stays;
      me = ap (λ (s : SeatState). s.node.me) h.after;
      quorums = ap (λ (s : SeatState). s.node.quorums) h.after;
    }

pub looked_at_acceptor : (j : ℕ) (x : AcceptorWord) (old new : SeatState) → LookedAtAcceptor j x old new → NotesOf j old new → IsSameSeat old new
looked_at_acceptor j x old new h n =
    record { table = n.table; opening = ap (λ (v : View). v.opening) h.advances.stays; me = n.me; quorums = n.quorums }

opening_after : (a : SeatAct) (old new : SeatState) (o : Option Step) → IfSome o (λ s. Did (act_of s) (proposed_by_step s old.proposed) old new) → (o ≡ None → new ≡ old) → new.view.opening ≡ old.view.opening
opening_after a old new (Some s) did idle = ap (λ (v : View). v.opening) did.took.advances.stays
opening_after a old new None did idle = ap (λ (s : SeatState). s.view.opening) (idle refl)

pub acted : (a : SeatAct) (old new : SeatState) → Acted a old new → IsSameSeat old new
acted a old new h =
    record { table = h.table; opening = opening_after a old new (would old a) h.stepped h.idle; me = h.me; quorums = h.quorums }

pub remained : (old new : SeatState) → Remains old new → IsSameSeat old new
remained old new h = record { table = h.table; opening = h.opening; me = h.me; quorums = h.quorums }

-- ---- seats

module _ {T : Type 0} where
  pub stays_still : (s : SeatValue T) → SeesNoMore s s
  stays_still s = record { room = same_room s.words; sights = refl }

  pub stays_if : (a b : SeatValue T) → IsSameSeat a.words b.words → b.sights ≡ a.sights → SeesNoMore a b
  stays_if a b h k = record { room = h; sights = k }

  pub stays_through : (a b c : SeatValue T) → SeesNoMore a b → SeesNoMore b c → SeesNoMore a c
  stays_through a b c h k = record { room = through_room a.words b.words c.words h.room k.room; sights = k.sights ∙ h.sights }

  pub stays_acted : (act : SeatAct) (a b : SeatValue T) → Acted act a.words b.words → b.sights ≡ a.sights → SeesNoMore a b
  stays_acted act a b h k = record { room = acted act a.words b.words h; sights = k }

  pub stays_looked_at_proposer : (j : ℕ) (x : ProposerWord) (a b : SeatValue T) → LookedAtProposer j x a.words b.words → b.sights ≡ a.sights → SeesNoMore a b
  stays_looked_at_proposer j x a b h k = record { room = looked_at_proposer j x a.words b.words h; sights = k }

  pub stays_looked_at_acceptor : (j : ℕ) (x : AcceptorWord) (a b : SeatValue T) → LookedAtAcceptor j x a.words b.words → NotesOf j a.words b.words → b.sights ≡ a.sights → SeesNoMore a b
  stays_looked_at_acceptor j x a b h n k = record { room = looked_at_acceptor j x a.words b.words h n; sights = k }

-- ---- turns

module _ {F G C : Type 0} (f : F) where
  pub goes_nowhere : (s : SeatValue (Parts F G C)) → SeatGoesOn f s s
  goes_nowhere s = record { room = same_room s.words; cells = refl; own = λ o. o }

  pub goes_through : (a b c : SeatValue (Parts F G C)) → SeatGoesOn f a b → SeatGoesOn f b c → SeatGoesOn f a c
  goes_through a b c h k =
      record {
        room = through_room a.words b.words c.words h.room k.room;
        cells = k.cells ∙ h.cells;
        own = λ o. k.own (h.own o);
      }

  -- where the node is the same and what is seen of its own cell
  keeps_own : (a b : SeatValue (Parts F G C)) → offer_of b b.words.node.me ≡ offer_of a a.words.node.me → OffersFor f a → OffersFor f b
  keeps_own a b e o x is = o x (sym e ∙ is)

  pub stays_on : (a b : SeatValue (Parts F G C)) → SeesNoMore a b → SeatGoesOn f a b
  stays_on a b h =
      record {
        room = h.room;
        cells = ap (λ (xs : List (SightOf (Parts F G C))). names_of xs) h.sights;
        own = keeps_own a b (ap (λ (i : ℕ). offer_of b i) h.room.me ∙ ap (λ (xs : List (SightOf (Parts F G C))). value_at xs a.words.node.me) h.sights);
      }

  -- a seat that has read cells, and seen of its own what it had seen
  pub read_on : (a b : SeatValue (Parts F G C)) → b.words ≡ a.words → offer_of b a.words.node.me ≡ offer_of a a.words.node.me → names_of b.sights ≡ names_of a.sights → SeatGoesOn f a b
  read_on a b same own names =
      record {
        room = same_if a.words b.words same;
        cells = names;
        own = keeps_own a b (ap (λ (s : SeatState). offer_of b s.node.me) same ∙ own);
      }
