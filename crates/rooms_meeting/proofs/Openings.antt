-- One room, or four, that can be opened can be opened in a table.
use Rattle.std.proofs.Common.{◌≡◌, ℕ, zero, suc, ◌<◌, ◌≤◌, [], ◌∷◌, length, refl, sym, ap, ◌∙◌, subst, arith}
use Rattle.paxos_core_world.specs.Quorum.{AreQuorums, Sizes}
use Rattle.paxos_core_world.specs.Settled.{Settled}
use Rattle.paxos_core_world.specs.World.{nodes_of}
use Rattle.rooms_rights.specs.Rights.{Held, MayDeal}
use Rattle.rooms_words.specs.Deal.{dealing}
use Rattle.rooms_words.specs.declared.view.Opening.{Opening}
use Rattle.rooms_words.specs.declared.view.View.{View}
use Rattle.rooms_rights.specs.RoomAt.{HasWords}
use Rattle.rooms_seat_state.specs.SeatState.{CanOpen}
use Rattle.rooms_rights.specs.Family.{opening_in}
use Rattle.rooms_rights.specs.Opened.{CanOpenAll}
use Rattle.rooms_rights.specs.Openings.{Openings}

pub some_node : (q : Sizes) → AreQuorums q → 0 < q.nodes
some_node q are = let least : 2 ≤ q.nodes = are.least in omega arith

-- rooms that stand in the row of a table's rooms, and the table's number
abbrev pub openings : ℕ → ℕ → Opening → Opening → Opening → Opening → Openings
openings number rooms a b c d = record { rooms = rooms; each = a ∷ b ∷ c ∷ d ∷ []; number = number }

none : {A : Type 0} (n : ℕ) → suc n < 1 → A
none n lt = absurd (omega arith)

no_fifth : {A : Type 0} (n : ℕ) → suc (suc (suc (suc n))) < 4 → A
no_fifth n lt = absurd (omega arith)

pub one_opens : (number : ℕ) (o : Opening) → CanOpen o → CanOpenAll (openings number 1 o o o o)
one_opens number o can =
    record { some = omega arith; few = omega arith; most = can.sizes.most; row = refl; rows = rows; same = same; sizes = sizes; settled = settled }
  where
    rows : (r : ℕ) → r < 1 → length (opening_in (openings number 1 o o o o) r).kept ≡ 7
    rows zero lt = can.row
    rows (suc r) lt = none r lt

    same : (r : ℕ) → r < 1 → (opening_in (openings number 1 o o o o) r).quorums.nodes ≡ o.quorums.nodes
    same zero lt = refl
    same (suc r) lt = none r lt

    sizes : (r : ℕ) → r < 1 → AreQuorums (opening_in (openings number 1 o o o o) r).quorums
    sizes zero lt = can.sizes
    sizes (suc r) lt = none r lt

    settled : (r : ℕ) → r < 1 → Settled (opening_in (openings number 1 o o o o) r).quorums (nodes_of (opening_in (openings number 1 o o o o) r).kept)
    settled zero lt = can.settled
    settled (suc r) lt = none r lt

pub four_open : (number : ℕ) (a b c d : Opening) → CanOpen a → CanOpen b → CanOpen c → CanOpen d → b.quorums.nodes ≡ a.quorums.nodes → c.quorums.nodes ≡ a.quorums.nodes
    → d.quorums.nodes ≡ a.quorums.nodes → CanOpenAll (openings number 4 a b c d)
four_open number a b c d ka kb kc kd eb ec ed =
    record { some = omega arith; few = omega arith; most = ka.sizes.most; row = refl; rows = rows; same = same; sizes = sizes; settled = settled }
  where
    rows : (r : ℕ) → r < 4 → length (opening_in (openings number 4 a b c d) r).kept ≡ 7
    rows zero lt = ka.row
    rows (suc zero) lt = kb.row
    rows (suc (suc zero)) lt = kc.row
    rows (suc (suc (suc zero))) lt = kd.row
    rows (suc (suc (suc (suc r)))) lt = no_fifth r lt

    same : (r : ℕ) → r < 4 → (opening_in (openings number 4 a b c d) r).quorums.nodes ≡ a.quorums.nodes
    same zero lt = refl
    same (suc zero) lt = eb
    same (suc (suc zero)) lt = ec
    same (suc (suc (suc zero))) lt = ed
    same (suc (suc (suc (suc r)))) lt = no_fifth r lt

    sizes : (r : ℕ) → r < 4 → AreQuorums (opening_in (openings number 4 a b c d) r).quorums
    sizes zero lt = ka.sizes
    sizes (suc zero) lt = kb.sizes
    sizes (suc (suc zero)) lt = kc.sizes
    sizes (suc (suc (suc zero))) lt = kd.sizes
    sizes (suc (suc (suc (suc r)))) lt = no_fifth r lt

    settled : (r : ℕ) → r < 4 → Settled (opening_in (openings number 4 a b c d) r).quorums (nodes_of (opening_in (openings number 4 a b c d) r).kept)
    settled zero lt = ka.settled
    settled (suc zero) lt = kb.settled
    settled (suc (suc zero)) lt = kc.settled
    settled (suc (suc (suc zero))) lt = kd.settled
    settled (suc (suc (suc (suc r)))) lt = no_fifth r lt

-- the next node's part of the rights may be given away
pub may_deal : (h : Held) (o : Opening) (k : ℕ) → HasWords h.at o.quorums.nodes → h.me.0 ≡ dealing o k → k < o.quorums.nodes → MayDeal h k
may_deal h o k words view lt =
    let same : h.me.0.opening ≡ o = ap (λ (v : View). v.opening) view in
    record {
      words = subst (λ (p : Opening). HasWords h.at p.quorums.nodes) (sym same) words;
      view = view ∙ ap (λ (p : Opening). dealing p k) (sym same);
      next = subst (λ (p : Opening). k < p.quorums.nodes) (sym same) lt;
    }
