-- A word of a room has its place, which no other word of any room has.
use Rattle.std.proofs.Common.{◌≡◌, ℕ, suc, ◌+◌, ◌*◌, ◌/◌, ◌%◌, ◌<◌, ◌≤◌, sym, ap, ◌∙◌, arith, mul-le-mul_right, suc-mul}
use Rattle.std.proofs.Math.Nat.{div-lt_iff_lt-mul}
use Rattle.std.proofs.lemmas.Nat.{div-mul-add, mod-mul-add}
use Rattle.rooms_table.specs.Places.{pair_of, place_of, room_at, word_at}

half : (p b : ℕ) → b < 2 → (2 * p + b) / 2 ≡ p
half p b lt = omega arith

odd : (p b : ℕ) → b < 2 → (2 * p + b) % 2 ≡ b
odd p b lt = omega arith

bit : (k : ℕ) → k % 2 < 2
bit k = omega arith

whole : (k : ℕ) → 2 * (k / 2) + k % 2 ≡ k
whole k = omega arith

-- what stands at its place is this word of the room
pub room_of_place : (rooms room k : ℕ) → room < rooms → room_at rooms (place_of rooms room k) ≡ room
room_of_place rooms room k lt =
    ap (λ (p : ℕ). p % rooms) (half (k / 2 * rooms + room) (k % 2) (bit k)) ∙ mod-mul-add (k / 2) rooms room lt

pub word_of_place : (rooms room k : ℕ) → room < rooms → word_at rooms (place_of rooms room k) ≡ k
word_of_place rooms room k lt =
    ap (λ (p : ℕ). 2 * (p / rooms) + place_of rooms room k % 2) (half (k / 2 * rooms + room) (k % 2) (bit k))
    ∙ (ap (λ (b : ℕ). 2 * ((k / 2 * rooms + room) / rooms) + b) (odd (k / 2 * rooms + room) (k % 2) (bit k))
    ∙ (ap (λ (h : ℕ). 2 * h + k % 2) (div-mul-add (k / 2) rooms room lt) ∙ whole k))

pub same_place : (rooms room k other j : ℕ) → room < rooms → other < rooms → place_of rooms room k ≡ place_of rooms other j → (room ≡ other) × (k ≡ j)
same_place rooms room k other j lt ol e = (
  sym (room_of_place rooms room k lt) ∙ (ap (λ (p : ℕ). room_at rooms p) e ∙ room_of_place rooms other j ol),
  sym (word_of_place rooms room k lt) ∙ (ap (λ (p : ℕ). word_at rooms p) e ∙ word_of_place rooms other j ol),
)

-- a pair of words is one of the table
pub pair_below : (rooms room node count : ℕ) → room < rooms → node < count → pair_of rooms room node < count * rooms
pair_below rooms room node count lt nl =
    let all : suc node * rooms ≤ count * rooms = mul-le-mul_right rooms nl in
    let more : suc node * rooms ≡ node * rooms + rooms = suc-mul node rooms in
    further (suc node * rooms) (node * rooms) (count * rooms) rooms room all more lt
  where
    further : (x y z r q : ℕ) → x ≤ z → x ≡ y + r → q < r → y + q < z
    further x y z r q a e l = omega arith

twice : (p q b : ℕ) → p < q → b < 2 → 2 * p + b < 2 * q
twice p q b l s = omega arith

half_below : (k n : ℕ) → k < 2 * n → k / 2 < n
half_below k n lt = omega arith

pub place_below : (rooms room count k : ℕ) → room < rooms → k < 2 * count → place_of rooms room k < 2 * (count * rooms)
place_below rooms room count k lt kl =
    twice (pair_of rooms room (k / 2)) (count * rooms) (k % 2) (pair_below rooms room (k / 2) count lt (half_below k count kl)) (bit k)

-- the words of a node, by its pair
pub proposer_place : (rooms room node : ℕ) → place_of rooms room (2 * node) ≡ 2 * pair_of rooms room node
proposer_place rooms room node =
    let h : 2 * node / 2 ≡ node = omega arith in
    let b : 2 * node % 2 ≡ 0 = omega arith in
    ap (λ (x : ℕ). 2 * pair_of rooms room x + 2 * node % 2) h ∙ (ap (λ (x : ℕ). 2 * pair_of rooms room node + x) b ∙ plain (2 * pair_of rooms room node))
  where
    plain : (x : ℕ) → x + 0 ≡ x
    plain x = omega arith

pub acceptor_place : (rooms room node : ℕ) → place_of rooms room (2 * node + 1) ≡ 2 * pair_of rooms room node + 1
acceptor_place rooms room node =
    let h : (2 * node + 1) / 2 ≡ node = omega arith in
    let b : (2 * node + 1) % 2 ≡ 1 = omega arith in
    ap (λ (x : ℕ). 2 * pair_of rooms room x + (2 * node + 1) % 2) h ∙ ap (λ (x : ℕ). 2 * pair_of rooms room node + x) b

-- the node of a pair of words is one of the rooms'
pub node_below : (rooms pair count : ℕ) → 0 < rooms → pair < count * rooms → pair / rooms < count
node_below rooms pair count pos lt = (div-lt_iff_lt-mul {k = rooms} {x = pair} {y = count} pos).1 lt
