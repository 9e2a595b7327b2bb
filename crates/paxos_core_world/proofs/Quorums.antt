-- All that is used of the sizes of quorums.
use Rattle.std.proofs.Common.{◌≡◌, ℕ, zero, suc, ◌+◌, ◌<◌, ◌≤◌, Bool, true, false, IsTrue, if◌then◌else◌, refl, arith}
use Rattle.std.proofs.lemmas.Bool.{leb-true, le-leb}
use Rattle.paxos_core_world.specs.Quorum.{Sizes, AreQuorums, count_below, promise_quorum, accept_quorum, IsPromiseQuorum, IsAcceptQuorum}
use Rattle.paxos_core_world.proofs.Counting.{count_grows}

-- more nodes are a quorum too
more_promise : (q : Sizes) (m n : ℕ) → m ≤ n → promise_quorum q m ≡ true → promise_quorum q n ≡ true
unfolding promise_quorum
more_promise q m n l h = let size = leb-true q.promise m h in le-leb q.promise n (omega arith)

more_accept : (q : Sizes) (m n : ℕ) → m ≤ n → accept_quorum q m ≡ true → accept_quorum q n ≡ true
unfolding accept_quorum
more_accept q m n l h = let size = leb-true q.accept m h in le-leb q.accept n (omega arith)

-- no nodes are no quorum
pub some_promise : (q : Sizes) → AreQuorums q → (m : ℕ) → promise_quorum q m ≡ true → 0 < m
unfolding promise_quorum
some_promise q are m h = let size = leb-true q.promise m h in let least : 1 ≤ q.promise = are.some_promise in omega arith

pub some_accept : (q : Sizes) → AreQuorums q → (m : ℕ) → accept_quorum q m ≡ true → 0 < m
unfolding accept_quorum
some_accept q are m h = let size = leb-true q.accept m h in let least : 1 ≤ q.accept = are.some_accept in omega arith

-- a promise quorum and an accept quorum are together more than all nodes
pub overlap : (q : Sizes) → AreQuorums q → (m n : ℕ) → promise_quorum q m ≡ true → accept_quorum q n ≡ true → q.nodes < m + n
unfolding promise_quorum accept_quorum
overlap q are m n h k =
    let left = leb-true q.promise m h in
    let right = leb-true q.accept n k in
    let meet : q.nodes < q.promise + q.accept = are.meet in
    omega arith

-- a set that includes a quorum is one
pub promise_quorum_grows : (q : Sizes) (s t : ℕ → Bool) → ((a : ℕ) → a < q.nodes → IsTrue (s a) → IsTrue (t a))
    → IsPromiseQuorum q s → IsPromiseQuorum q t
promise_quorum_grows q s t h k = more_promise q (count_below q.nodes s) (count_below q.nodes t) (count_grows q.nodes s t h) k

pub accept_quorum_grows : (q : Sizes) (s t : ℕ → Bool) → ((a : ℕ) → a < q.nodes → IsTrue (s a) → IsTrue (t a))
    → IsAcceptQuorum q s → IsAcceptQuorum q t
accept_quorum_grows q s t h k = more_accept q (count_below q.nodes s) (count_below q.nodes t) (count_grows q.nodes s t h) k

-- a node of the set
pub record Member (n : ℕ) (q : ℕ → Bool) : Type 0 where
  pub node : ℕ
  pub below : node < n
  pub member : IsTrue (q node)

member_step : (n : ℕ) (q : ℕ → Bool) → (0 < count_below n q → Member n q) → (x : Bool) → q n ≡ x → 0 < (if x then 1 else 0) + count_below n q → Member (suc n) q
member_step n q rest true e h = record { node = n; below = omega arith; member = e }
member_step n q rest false e h =
    let m = rest (omega arith) in
    let below : m.node < n = m.below in
    record { node = m.node; below = omega arith; member = m.member }

member_below : (n : ℕ) (q : ℕ → Bool) → 0 < count_below n q → Member n q
member_below zero q h = absurd (omega arith)
member_below (suc n) q h = member_step n q (member_below n q) (q n) refl h

-- an accept quorum has a node
pub member_of : (q : Sizes) → AreQuorums q → (s : ℕ → Bool) → IsAcceptQuorum q s → Member q.nodes s
member_of q are s h = member_below q.nodes s (some_accept q are (count_below q.nodes s) h)
