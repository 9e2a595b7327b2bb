-- The rule holds as a room opens, and while its seats are dealt out and tell each other what they have seen.
use Rattle.std.proofs.Common.{◌≡◌, ◌≢◌, ℕ, zero, suc, ◌+◌, ◌*◌, ◌<◌, ◌≤◌, ◌⊎◌, true, List, [], ◌∷◌, ◌++◌, length, set, append-nil, Option, Some, None, refl, sym, ap, ◌∙◌, subst, inl, inr, arith}
use mathlib.Core.Option.{some, some-injective, some-ne-none}
use lib.ListN.{get_elem?}
use Rattle.atomic_table.specs.Table.{State, Splits, Joins}
use Rattle.atomic_table.specs.Table as table
use Rattle.atomic_table.proofs.Lists.{at_set}
use Rattle.paxos_core_world.specs.KeptPart.{KeptPart}
use Rattle.paxos_core_world.specs.Run.{reached}
use Rattle.paxos_core_world.specs.Quorum.{AreQuorums}
use Rattle.paxos_core_world.specs.Settled.{Settled}
use Rattle.paxos_core_world.specs.World.{World, nodes_of, shown, shown_start, shown_vote}
use Rattle.paxos_core_world.specs.declared.msg.Msg.{Msg}
use Rattle.paxos_core_world.specs.declared.vote.Vote.{Vote}
use Rattle.paxos_core.specs.NodeState.{node_with}
use Rattle.paxos_core.proofs.BelongsLemmas.{belongs_with}
use Rattle.paxos_core.specs.LateOffer.{BelongsWithLateOffer}
use Rattle.paxos_core.proofs.LateLemmas.{offers_may_be_late}
use Rattle.rooms_words.specs.Words.{IsProposerWord}
use Rattle.rooms_words.specs.declared.event.Event.{Event}
use Rattle.rooms_words.specs.declared.view.Opening.{Opening}
use Rattle.rooms_words.specs.declared.view.View.{View}
use Rattle.rooms_words.specs.Deal.{dealt_node, dealt_to, dealing, dealt, witness, informed, nobody}
use Rattle.rooms_words.specs.Events.{labels_of}
use Rattle.rooms_words.specs.Rule.{AreApart, RoomRule}
use Rattle.rooms_words.specs.Views.{world_after, IsLegal, IsMine, Fits}
use Rattle.rooms_words.specs.WordsOf.{proposed_under, proposed_by, IsProposerOf, ShowsKept}
use Rattle.rooms_words.proofs.RunLemmas.{world_after-append, legal_reached, others_leave}

-- ---- dealing out

at_end : {A : Type 0} (l : List A) (a b : A) (j : ℕ) → get_elem? (l ++ a ∷ []) j ≡ some b → (get_elem? l j ≡ some b) ⊎ ((a ≡ b) × (j ≡ length l))
at_end [] a b zero e = inr (some-injective a b e, refl)
at_end [] a b (suc j) e = absurd (some-ne-none b (sym e))
at_end (x ∷ xs) a b zero e = inl e
at_end (x ∷ xs) a b (suc j) e = elim (at_end xs a b j e) [ inl h ↦ inl h | inr h ↦ inr (h.0, ap suc h.1) ]

-- a token is cut in two parts that share no node
module _ {S : Type 0} (o : Opening) (id : ℕ) (v left right : View)
    (mine_left : (i : ℕ) → IsMine left i → IsMine v i) (mine_right : (i : ℕ) → IsMine right i → IsMine v i)
    (other : (i : ℕ) → IsMine left i → IsMine right i → ⊥)
    (fits_left : (run : List Event) → IsLegal o run → Fits o run v → Fits o run left) (fits_right : (run : List Event) → IsLegal o run → Fits o run v → Fits o run right) where
  pub cuts : Splits {S = S} (RoomRule o) id v left right
  cuts s rule at =
      record { run = rule.run; legal = rule.legal; words = rule.words; views = views; apart = apart }
    where
      views : (j : ℕ) (u : View) → get_elem? (set s.views id left ++ right ∷ []) j ≡ some u → Fits o rule.run u
      views j u e =
          elim (at_end (set s.views id left) right u j e) [
            | inl h ↦ elim (at_set s.views id j left u h) [
              | inl p ↦ subst (λ (x : View). Fits o rule.run x) p.1 (fits_left rule.run rule.legal (rule.views id v at))
              | inr p ↦ rule.views j u p.1
            ]
            | inr h ↦ subst (λ (x : View). Fits o rule.run x) h.0 (fits_right rule.run rule.legal (rule.views id v at))
          ]

      -- where a view stands: it is the left part, or an old one elsewhere, or the right part
      place : (j : ℕ) (u : View) → get_elem? (set s.views id left ++ right ∷ []) j ≡ some u
          → ((j ≡ id) × (left ≡ u)) ⊎ (((j ≢ id) × (get_elem? s.views j ≡ some u)) ⊎ ((right ≡ u) × (j ≡ length (set s.views id left))))
      place j u e =
          elim (at_end (set s.views id left) right u j e) [
            | inl h ↦ elim (at_set s.views id j left u h) [ inl p ↦ inl p | inr p ↦ inr (inl p) ]
            | inr h ↦ inr (inr h)
          ]

      of_left : (u : View) (i : ℕ) → left ≡ u → IsMine u i → IsMine left i
      of_left u i e m = subst (λ (x : View). IsMine x i) (sym e) m

      of_right : (u : View) (i : ℕ) → right ≡ u → IsMine u i → IsMine right i
      of_right u i e m = subst (λ (x : View). IsMine x i) (sym e) m

      apart : AreApart (set s.views id left ++ right ∷ [])
      apart p q i u w e f mu mw =
          elim (place p u e) [
            | inl a ↦ elim (place q w f) [
              | inl b ↦ a.0 ∙ sym b.0
              | inr y ↦ elim y [
                | inl b ↦ absurd (b.0 (rule.apart q id i w v b.1 at mw (mine_left i (of_left u i a.1 mu))))
                | inr b ↦ absurd (other i (of_left u i a.1 mu) (of_right w i b.0 mw))
              ]
            ]
            | inr x ↦ elim x [
              | inl a ↦ elim (place q w f) [
                | inl b ↦ absurd (a.0 (rule.apart p id i u v a.1 at mu (mine_left i (of_left w i b.1 mw))))
                | inr y ↦ elim y [
                  | inl b ↦ rule.apart p q i u w a.1 b.1 mu mw
                  | inr b ↦ absurd (a.0 (rule.apart p id i u v a.1 at mu (mine_right i (of_right w i b.0 mw))))
                ]
              ]
              | inr a ↦ elim (place q w f) [
                | inl b ↦ absurd (other i (of_left w i b.1 mw) (of_right u i a.0 mu))
                | inr y ↦ elim y [
                  | inl b ↦ absurd (b.0 (rule.apart q id i w v b.1 at mw (mine_right i (of_right u i a.0 mu))))
                  | inr b ↦ a.1 ∙ sym b.1
                ]
              ]
            ]
          ]

-- a node belongs to its room as it opens, and as long as others alone take steps
pub opens_with : (o : Opening) (i : ℕ) → AreQuorums o.quorums → Settled o.quorums (nodes_of o.kept) → i < o.quorums.nodes → BelongsWithLateOffer o.quorums (world_after o []) (dealt_node o i)
opens_with o i sizes settled lt =
    (offers_may_be_late.offer (node_with i o.quorums (nodes_of o.kept i)) o.quorums (world_after o []) (legal_reached o [] record { sizes = sizes; settled = settled; run = tt })
    (inl (belongs_with o.quorums (world_after o []) i (nodes_of o.kept i) lt refl))).belongs

dealt_fits : (o : Opening) (k e i end : ℕ) (run : List Event) → IsLegal o run → Fits o run (dealt_to o k e) → k ≤ i → end ≤ e → end ≤ o.quorums.nodes → Fits o run (dealt_to o i end)
dealt_fits o k e i end run legal h low high most =
    record {
      opening = λ _. refl;
      later = h.later;
      seen = h.seen;
      quiet = λ j mine. h.quiet j (wider j mine);
      told = h.told;
      told_by = λ _. refl;
      belongs = λ mine.
          let here : i < end = mine.1 in
          let world : world_after o run ≡ reached (world_after o []) (labels_of h.later) = ap (λ (r : List Event). world_after o r) h.seen ∙ world_after-append o h.later [] in
          subst (λ (x : World). BelongsWithLateOffer o.quorums x (dealt_node o i)) (sym world)
          (others_leave o.quorums (world_after o []) (dealt_node o i) (labels_of h.later) (h.quiet i (wider i mine)) (opens_with o i legal.sizes legal.settled (omega arith)));
    }
  where
    wider : (j : ℕ) → IsMine (dealt_to o i end) j → IsMine (dealt_to o k e) j
    wider j m = let x : i ≤ j = m.0 in let y : j < end = m.1 in (omega arith, omega arith)

-- the token for the nodes from k on gives node k's seat away
pub deals : {S : Type 0} (o : Opening) (id : ℕ) (p : Opening) (k : ℕ) → k < p.quorums.nodes → Splits {S = S} (RoomRule o) id (dealing p k) (dealing p (k + 1)) (dealt p k)
deals {S} o id p k lt s rule at =
    let e : p ≡ o = (rule.views id (dealing p k) at).opening refl in
    subst (λ (x : Opening). RoomRule x record { words = s.words; homes = s.homes; views = set s.views id (dealing p (k + 1)) ++ dealt p k ∷ [] }) e
    (cuts {S = S} p id (dealing p k) (dealing p (k + 1)) (dealt p k)
    (λ i m. let x : k + 1 ≤ i = m.0 in (omega arith, m.1))
    (λ i m. let x : i < k + 1 = m.1 in (m.0, omega arith))
    (λ i m r. let x : k + 1 ≤ i = m.0 in let y : i < k + 1 = r.1 in omega arith)
    (λ run legal h. dealt_fits p k p.quorums.nodes (k + 1) p.quorums.nodes run legal h (omega arith) (omega arith) (omega arith))
    (λ run legal h. dealt_fits p k p.quorums.nodes k (k + 1) run legal h (omega arith) (omega arith) (omega arith))
    s (subst (λ (x : Opening). RoomRule x s) (sym e) rule) at)

-- ---- telling

-- a seat makes a witness of what it has seen
pub makes_witness : {S : Type 0} (o : Opening) (id : ℕ) (v : View) → Splits {S = S} (RoomRule o) id v v (witness v)
makes_witness {S} o id v =
    cuts {S = S} o id v v (witness v) (λ i m. m) (λ i m. let x : i < 0 = m.1 in absurd (omega arith)) (λ i m r. let x : i < 0 = r.1 in omega arith) (λ run legal h. h)
    (λ run legal h.
    record {
      opening = h.opening;
      later = h.later;
      seen = h.seen;
      quiet = λ i m. let x : i < 0 = m.1 in absurd (omega arith);
      told = h.told;
      told_by = h.told_by;
      belongs = λ m. let x : v.node.me < 0 = m.1 in absurd (omega arith);
    })

-- a seat gives all its rights to a new one, or none
fits_nobody : (o : Opening) (run : List Event) → Fits o run nobody
fits_nobody o run =
    record {
      opening = λ e. absurd (cc);
      later = run;
      seen = sym (append-nil run);
      quiet = λ i m. let x : i < 0 = m.1 in absurd (omega arith);
      told = (run, sym (append-nil run));
      told_by = λ e. absurd (cc);
      belongs = λ m. let x : 0 < 0 = m.1 in absurd (omega arith);
    }

none_mine : (i : ℕ) → IsMine nobody i → ⊥
none_mine i m = let x : i < 0 = m.1 in omega arith

pub gives_all : {S : Type 0} (o : Opening) (id : ℕ) (v : View) → Splits {S = S} (RoomRule o) id v nobody v
gives_all {S} o id v =
    cuts {S = S} o id v nobody v (λ i m. absurd (none_mine i m)) (λ i m. m) (λ i m r. none_mine i m) (λ run legal h. fits_nobody o run) (λ run legal h. h)

pub gives_none : {S : Type 0} (o : Opening) (id : ℕ) (v : View) → Splits {S = S} (RoomRule o) id v v nobody
gives_none {S} o id v =
    cuts {S = S} o id v v nobody (λ i m. m) (λ i m. absurd (none_mine i m)) (λ i m r. none_mine i r) (λ run legal h. h) (λ run legal h. fits_nobody o run)

-- a seat takes in what another one knows, which is spent
module _ {S : Type 0} (o : Opening) (id : ℕ) (v : View) (other : ℕ) (w both : View)
    (mine : (i : ℕ) → IsMine both i → IsMine v i) (fits : (run : List Event) → Fits o run v → Fits o run w → Fits o run both) where
  pub takes_in : Joins {S = S} (RoomRule o) id v other w both nobody
  takes_in s rule at away there =
      record { run = rule.run; legal = rule.legal; words = rule.words; views = views; apart = apart }
    where
      seen_of : Fits o rule.run w
      seen_of =
          elim (at_set s.views id other both w there) [
            | inl p ↦ absurd (away p.0)
            | inr p ↦ rule.views other w p.1
          ]

      views : (j : ℕ) (u : View) → get_elem? (set (set s.views id both) other nobody) j ≡ some u → Fits o rule.run u
      views j u e =
          elim (at_set (set s.views id both) other j nobody u e) [
            | inl p ↦ subst (λ (x : View). Fits o rule.run x) p.1 (fits_nobody o rule.run)
            | inr p ↦ elim (at_set s.views id j both u p.1) [
              | inl q ↦ subst (λ (x : View). Fits o rule.run x) q.1 (fits rule.run (rule.views id v at) seen_of)
              | inr q ↦ rule.views j u q.1
            ]
          ]

      -- a view that owns a node, as the old view with that node
      before : (j : ℕ) (u : View) (i : ℕ) → get_elem? (set (set s.views id both) other nobody) j ≡ some u → IsMine u i
          → (x : View) × (get_elem? s.views j ≡ some x) × IsMine x i
      before j u i e m =
          elim (at_set (set s.views id both) other j nobody u e) [
            | inl p ↦ absurd (none_mine i (subst (λ (x : View). IsMine x i) (sym p.1) m))
            | inr p ↦ elim (at_set s.views id j both u p.1) [
              | inl q ↦ (v, subst (λ (k : ℕ). get_elem? s.views k ≡ some v) (sym q.0) at, mine i (subst (λ (x : View). IsMine x i) (sym q.1) m))
              | inr q ↦ (u, q.1, m)
            ]
          ]

      apart : AreApart (set (set s.views id both) other nobody)
      apart p q i u x e f mu mx =
          let a = before p u i e mu in
          let b = before q x i f mx in
          rule.apart p q i a.0 b.0 a.1 b.1 a.2 b.2

-- what a witness has seen
pub takes_witness : {S : Type 0} (o : Opening) (id : ℕ) (v : View) (other : ℕ) (w : View) → w.live ≡ true → Joins {S = S} (RoomRule o) id v other w (informed v w) nobody
takes_witness {S} o id v other w lives =
    takes_in {S = S} o id v other w (informed v w) (λ i m. m)
    (λ run h k. record { opening = h.opening; later = h.later; seen = h.seen; quiet = h.quiet; told = (k.later, k.seen); told_by = λ _. k.opening lives; belongs = h.belongs })

-- nothing
pub takes_nothing : {S : Type 0} (o : Opening) (id : ℕ) (v : View) (other : ℕ) (w : View) → Joins {S = S} (RoomRule o) id v other w v nobody
takes_nothing {S} o id v other w = takes_in {S = S} o id v other w v (λ i m. m) (λ run h k. h)

-- ---- opening

-- no kept part shows a proposal
shows_none : (b i started : ℕ) (x : Option Vote) (ms : List Msg) → proposed_under b ((shown_start started ++ shown_vote i x) ++ ms) ≡ proposed_under b ms
shows_none b i zero None ms = refl
shows_none b i zero (Some x) ms = refl
shows_none b i (suc s) None ms = refl
shows_none b i (suc s) (Some x) ms = refl

none_proposed : (b n : ℕ) (nodes : ℕ → KeptPart) → proposed_under b (shown n nodes) ≡ None
none_proposed b zero nodes = refl
none_proposed b (suc n) nodes = shows_none b n (nodes n).started (nodes n).accepted (shown n nodes) ∙ none_proposed b n nodes

-- the word of a proposer as the room opens is that without a proposal
pub opening_word : (o : Opening) (i number : ℕ) → IsProposerWord number (nodes_of o.kept i).started None → IsProposerOf (world_after o []) i number
opening_word o i number h =
    subst (λ (p : Option ℕ). IsProposerWord number (nodes_of o.kept i).started p) (sym (none_proposed (nodes_of o.kept i).started o.quorums.nodes (nodes_of o.kept))) h

-- nothing is proposed as the room opens
pub none_proposed_yet : (o : Opening) (i : ℕ) → proposed_by (world_after o []) i ≡ None
none_proposed_yet o i = none_proposed (nodes_of o.kept i).started o.quorums.nodes (nodes_of o.kept)

-- a room of settled kept parts opens with the words that show them
pub opens : (o : Opening) (words : List ℕ) → AreQuorums o.quorums → Settled o.quorums (nodes_of o.kept) → length words ≡ 2 * o.quorums.nodes → ((i : ℕ) → i < o.quorums.nodes → ShowsKept (nodes_of o.kept i) i words)
    → RoomRule o (table.opening {S = Unit {0}} words [] (dealing o 0))
opens o words sizes settled size kept =
    record {
      run = [];
      legal = record { sizes = sizes; settled = settled; run = tt };
      words = record { size = size; proposers = λ i lt. opening_word o i _ (kept i lt).proposer; acceptors = λ i lt. (kept i lt).acceptor };
      views = λ j u e. at_first j u e (λ x. Fits o [] x) fits;
      apart = λ p q i u w e f mu mw. first_only p u e ∙ sym (first_only q w f);
    }
  where
    fits : Fits o [] (dealing o 0)
    fits =
        record {
          opening = λ _. refl;
          later = [];
          seen = refl;
          quiet = λ i m. tt;
          told = ([], refl);
          told_by = λ _. refl;
          belongs = λ m. let x : 0 < o.quorums.nodes = m.1 in opens_with o 0 sizes settled x;
        }

    at_first : (j : ℕ) (u : View) → get_elem? (dealing o 0 ∷ []) j ≡ some u → (P : View → Type 0) → P (dealing o 0) → P u
    at_first zero u e P h = subst P (some-injective (dealing o 0) u e) h
    at_first (suc j) u e P h = absurd (some-ne-none u (sym e))

    first_only : (j : ℕ) (u : View) → get_elem? (dealing o 0 ∷ []) j ≡ some u → j ≡ 0
    first_only zero u e = refl
    first_only (suc j) u e = absurd (some-ne-none u (sym e))
