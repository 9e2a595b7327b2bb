-- The rule holds as a family of rooms opens.
use Rattle.std.proofs.Common.{◌≡◌, ℕ, zero, suc, ◌+◌, ◌*◌, ◌/◌, ◌<◌, ◌≤◌, List, [], ◌∷◌, length, get_or, set, take, min, length-take, length-set, get_or-set_same, get_or-set_other, None, mul-le-mul_right, refl, sym, ap, ◌∙◌, subst, arith}
use Rattle.std.proofs.lemmas.Nat.{div-mul-add, mod-mul-add}
use native.Mathlib.Decide.{ℕ_discrete}
use mathlib.Core.Option.{some, some-injective, some-ne-none}
use lib.ListN.{get_elem?}
use Rattle.atomic_table.specs.Table as table
use Rattle.rooms_words.specs.KeptPart.{KeptPart}
use Rattle.rooms_words.specs.World.{nodes_of}
use Rattle.rooms_words.specs.Deal.{dealing, nobody}
use Rattle.rooms_words.specs.Rule.{RoomRule}
use Rattle.rooms_words.specs.Words.{IsProposerWord, IsAcceptorWord}
use Rattle.rooms_words.specs.WordsOf.{ShowsKept}
use Rattle.rooms_words.specs.declared.view.View.{View}
use Rattle.rooms_words.proofs.Deal.{opens}
use Rattle.rooms_table.specs.Deal.{dealing_all}
use Rattle.rooms_table.specs.Family.{count_of, opening_in, room_in, rooms_in, words_in, FamilyRule}
use Rattle.rooms_table.specs.Opened.{part_at, CanOpenAll, ShowFirst}
use Rattle.rooms_table.specs.Places.{pair_of, place_of}
use Rattle.rooms_table.specs.declared.view.Openings.{Openings}
use Rattle.rooms_table.specs.declared.view.Views.{Views}
use Rattle.rooms_table.proofs.Lifting.{rule_of}
use Rattle.rooms_table.proofs.Places.{acceptor_place, pair_below, proposer_place}
use Rattle.rooms_table.proofs.Tables.{at_tabulated, length-tabulated}

-- ---- the words

-- those of one pair more
pub one_more : (o : Openings) (i : ℕ) (words : List ℕ) (p a : ℕ) → i < 28 → ShowFirst o i words → IsProposerWord p (part_at o i).started None
    → IsAcceptorWord a (part_at o i).promised (part_at o i).accepted → ShowFirst o (i + 1) (set (set words (2 * i) p) (2 * i + 1) a)
one_more o i words p a lt h hp ha =
    record {
      size = length-set (set words (2 * i) p) (2 * i + 1) a ∙ (length-set words (2 * i) p ∙ h.size);
      shown = λ j jl. at j jl (ℕ_discrete j i);
    }
  where
    space : 2 * i < length words
    space = let e : length words ≡ 56 = h.size in omega arith

    space2 : 2 * i + 1 < length (set words (2 * i) p)
    space2 = let e : length (set words (2 * i) p) ≡ 56 = length-set words (2 * i) p ∙ h.size in omega arith

    elsewhere : (k : ℕ) → (k ≡ 2 * i → ⊥) → (k ≡ 2 * i + 1 → ⊥) → get_or (set (set words (2 * i) p) (2 * i + 1) a) k 0 ≡ get_or words k 0
    elsewhere k d e = get_or-set_other (set words (2 * i) p) (2 * i + 1) k a 0 e ∙ get_or-set_other words (2 * i) k p 0 d

    at_i : ShowsKept (part_at o i) i (set (set words (2 * i) p) (2 * i + 1) a)
    at_i =
        record {
          proposer = subst (λ (n : ℕ). IsProposerWord n (part_at o i).started None) (sym (get_or-set_other (set words (2 * i) p) (2 * i + 1) (2 * i) a 0 (λ e. omega arith) ∙ get_or-set_same words (2 * i) p 0 space)) hp;
          acceptor = subst (λ (n : ℕ). IsAcceptorWord n (part_at o i).promised (part_at o i).accepted) (sym (get_or-set_same (set words (2 * i) p) (2 * i + 1) a 0 space2)) ha;
        }

    at : (j : ℕ) → j < i + 1 → Dec (j ≡ i) → ShowsKept (part_at o j) j (set (set words (2 * i) p) (2 * i + 1) a)
    at j jl (yes e) = subst (λ (k : ℕ). ShowsKept (part_at o k) k (set (set words (2 * i) p) (2 * i + 1) a)) (sym e) at_i
    at j jl (no d) =
        let old = h.shown j (let less : j ≡ i → ⊥ = d in omega arith) in
        record {
          proposer = subst (λ (n : ℕ). IsProposerWord n (part_at o j).started None) (sym (elsewhere (2 * j) (λ e. d (omega arith)) (λ e. omega arith))) old.proposer;
          acceptor = subst (λ (n : ℕ). IsAcceptorWord n (part_at o j).promised (part_at o j).accepted) (sym (elsewhere (2 * j + 1) (λ e. omega arith) (λ e. d (omega arith)))) old.acceptor;
        }

at_take : (m k : ℕ) (xs : List ℕ) → k < m → get_or (take m xs) k 0 ≡ get_or xs k 0
at_take zero k xs lt = absurd (omega arith)
at_take (suc m) k [] lt = refl
at_take (suc m) zero (x ∷ xs) lt = refl
at_take (suc m) (suc k) (x ∷ xs) lt = at_take m k xs (omega arith)

-- what the node of a room has kept, by its pair
part_of_node : (o : Openings) (room node : ℕ) → room < o.rooms → part_at o (pair_of o.rooms room node) ≡ nodes_of (opening_in o room).kept node
part_of_node o room node lt =
    ap (λ (r : ℕ). nodes_of (opening_in o r).kept ((node * o.rooms + room) / o.rooms)) (mod-mul-add node o.rooms room lt)
    ∙ ap (λ (i : ℕ). nodes_of (opening_in o room).kept i) (div-mul-add node o.rooms room lt)

pub few_pairs : (o : Openings) → CanOpenAll o → count_of o * o.rooms ≤ 28
few_pairs o can =
    let a : count_of o * o.rooms ≤ 7 * o.rooms = mul-le-mul_right o.rooms can.most in
    let b : o.rooms ≤ 4 = can.few in
    bound o.rooms (count_of o * o.rooms) a b
  where
    bound : (r x : ℕ) → x ≤ 7 * r → r ≤ 4 → x ≤ 28
    bound r x a b = omega arith

module _ (o : Openings) (words : List ℕ) (can : CanOpenAll o) (h : ShowFirst o (count_of o * o.rooms) words) (room : ℕ) (lt : room < o.rooms) where
  abbrev taken : List ℕ
  taken = take (2 * (count_of o * o.rooms)) words

  -- the word at a place of the room
  word_is : (k place : ℕ) → k < 2 * (opening_in o room).quorums.nodes → place_of o.rooms room k ≡ place → place < 2 * (count_of o * o.rooms)
      → get_or (words_in o.rooms room (opening_in o room).quorums.nodes (take (2 * (count_of o * o.rooms)) words)) k 0 ≡ get_or words place 0
  word_is k place kl ep pl =
      at_tabulated (2 * (opening_in o room).quorums.nodes) (λ j. get_or (take (2 * (count_of o * o.rooms)) words) (place_of o.rooms room j) 0) k 0 kl
      ∙ (ap (λ (p : ℕ). get_or (take (2 * (count_of o * o.rooms)) words) p 0) ep ∙ at_take (2 * (count_of o * o.rooms)) place words pl)

  shown : (i : ℕ) → i < (opening_in o room).quorums.nodes
      → ShowsKept (nodes_of (opening_in o room).kept i) i (words_in o.rooms room (opening_in o room).quorums.nodes (take (2 * (count_of o * o.rooms)) words))
  shown i il =
      let below : pair_of o.rooms room i < count_of o * o.rooms = pair_below o.rooms room i (count_of o) lt (subst (λ (n : ℕ). i < n) (can.same room lt) il) in
      let old : ShowsKept (nodes_of (opening_in o room).kept i) (pair_of o.rooms room i) words =
      subst (λ (k : KeptPart). ShowsKept k (pair_of o.rooms room i) words) (part_of_node o room i lt) (h.shown (pair_of o.rooms room i) below) in
      record {
        proposer =
            subst (λ (n : ℕ). IsProposerWord n (nodes_of (opening_in o room).kept i).started None)
            (sym (word_is (2 * i) (2 * pair_of o.rooms room i) (twice i (opening_in o room).quorums.nodes il) (proposer_place o.rooms room i) (twice (pair_of o.rooms room i) (count_of o * o.rooms) below))) old.proposer;
        acceptor =
            subst (λ (n : ℕ). IsAcceptorWord n (nodes_of (opening_in o room).kept i).promised (nodes_of (opening_in o room).kept i).accepted)
            (sym (word_is (2 * i + 1) (2 * pair_of o.rooms room i + 1) (twice_more i (opening_in o room).quorums.nodes il) (acceptor_place o.rooms room i) (twice_more (pair_of o.rooms room i) (count_of o * o.rooms) below))) old.acceptor;
      }
    where
      twice : (x y : ℕ) → x < y → 2 * x < 2 * y
      twice x y l = omega arith

      twice_more : (x y : ℕ) → x < y → 2 * x + 1 < 2 * y
      twice_more x y l = omega arith

  room_opens : RoomRule (opening_in o room) (room_in o room (table.opening {S = Unit {0}} (take (2 * (count_of o * o.rooms)) words) [] (dealing_all o)))
  room_opens =
      rule_of (opening_in o room) (table.opening {S = Unit {0}} (words_in o.rooms room (opening_in o room).quorums.nodes (take (2 * (count_of o * o.rooms)) words)) [] (dealing (opening_in o room) 0)) _ refl
      (ap (λ (v : View). v ∷ []) (at_tabulated o.rooms (λ room. dealing (opening_in o room) 0) room nobody lt))
      (opens (opening_in o room) (words_in o.rooms room (opening_in o room).quorums.nodes (take (2 * (count_of o * o.rooms)) words)) (can.sizes room lt) (can.settled room lt)
      (length-tabulated (2 * (opening_in o room).quorums.nodes) (λ j. get_or (take (2 * (count_of o * o.rooms)) words) (place_of o.rooms room j) 0)) shown)

pub opens_so : (o : Openings) (m : ℕ) (words : List ℕ) → m ≡ count_of o * o.rooms → CanOpenAll o → ShowFirst o (count_of o * o.rooms) words
    → FamilyRule o (table.opening {S = Unit {0}} (take (2 * m) words) [] (dealing_all o))
opens_so o m words e can h =
    subst (λ (n : ℕ). FamilyRule o (table.opening {S = Unit {0}} (take (2 * n) words) [] (dealing_all o))) (sym e)
    record { size = short; same = can.same; sized = sized; each = λ room lt. room_opens o words can h room lt }
  where
    short : length (take (2 * (count_of o * o.rooms)) words) ≡ 2 * (count_of o * o.rooms)
    short = length-take (2 * (count_of o * o.rooms)) words ∙ fits (count_of o * o.rooms) (length words) (few_pairs o can) h.size
      where
        fits : (x l : ℕ) → x ≤ 28 → l ≡ 56 → min (2 * x) l ≡ 2 * x
        fits x l a b = omega arith

    sized : (j : ℕ) (v : Views) → get_elem? (dealing_all o ∷ []) j ≡ some v → 0 < rooms_in v → rooms_in v ≡ o.rooms
    sized zero v e pos = subst (λ (u : Views). rooms_in u ≡ o.rooms) (some-injective (dealing_all o) v e) (length-tabulated o.rooms (λ room. dealing (opening_in o room) 0))
    sized (suc j) v e pos = absurd (some-ne-none v (sym e))
