-- The words of a node are words of its room.
use Rattle.std.proofs.Common.{ℕ, ◌+◌, ◌*◌, ◌<◌, ◌≤◌, mul-le-mul_right, sym, subst, arith}
use Rattle.rooms_meeting.specs.SeatState.{SeatState}
use Rattle.rooms_meeting.specs.Sound.{IsSound}
use Rattle.rooms_meeting.proofs.Moves.{nodes_are, number_below}

pub word_below : (s : SeatState) → IsSound s → (j : ℕ) → j < s.node.quorums.nodes → (2 * j < 2 * s.view.opening.quorums.nodes) × (2 * j + 1 < 2 * s.view.opening.quorums.nodes)
word_below s sound j lt =
    let low : j < s.view.opening.quorums.nodes = subst (λ (n : ℕ). j < n) (nodes_are s sound) lt in (omega arith, omega arith)

-- there is a word
pub some_word : (s : SeatState) → IsSound s → 0 < s.table.table.words
some_word s sound =
    let low : s.view.node.me < s.view.opening.quorums.nodes = number_below _ _ _ sound.belongs in
    subst (λ (n : ℕ). 0 < n) (sym sound.words.words) (positive s.view.opening.quorums.nodes s.table.rooms s.view.node.me low sound.words.some)
  where
    more : (r x : ℕ) → 1 * r ≤ x → 0 < r → 0 < 2 * x
    more r x a p = omega arith

    positive : (n r k : ℕ) → k < n → 0 < r → 0 < 2 * (n * r)
    positive n r k l p =
        let one : 1 ≤ n = omega arith in
        more r (n * r) (mul-le-mul_right r one) p
