-- Counting votes, and what it is worth.
use Rattle.std.proofs.Common.{◌≡◌, ℕ, zero, suc, ◌+◌, ◌≤◌, ◌<◌, Bool, true, false, cond, List, [], ◌∷◌, ◌++◌, length, take, get_or, Option, Some, None, refl, sym, ap, ◌∙◌, arith, append_assoc, append-nil}
use Rattle.std.specs.Prelude.{nat_le}
use Rattle.std.proofs.lemmas.Bool.{eqb-true, leb-true, leb-false}
use Rattle.std.proofs.lemmas.List.{take_more, length-take-le}
use Rattle.paxos_core_world.specs.declared.vote.Vote.{Vote}
use Rattle.paxos_core_world.specs.KeptPart.{KeptPart}
use Rattle.cfarm_fsck_chosen.specs.Chosen.{chosen_from, chosen_in, has_quorum, is_under, votes_under}

-- one node more
more_by : (s t : Bool) (votes more : ℕ) → more ≡ cond t (suc votes) votes
    → cond s (suc more) more ≡ cond t (suc (cond s (suc votes) votes)) (cond s (suc votes) votes)
more_by true true votes more is = ap suc is
more_by true false votes more is = ap suc is
more_by false true votes more is = is
more_by false false votes more is = is

votes-more : (b : ℕ) (ks : List KeptPart) (k : KeptPart) → votes_under b (ks ++ k ∷ []) ≡ cond (is_under b k.accepted) (suc (votes_under b ks)) (votes_under b ks)
votes-more b [] k = refl
votes-more b (x ∷ ks) k = more_by (is_under b x.accepted) (is_under b k.accepted) (votes_under b ks) (votes_under b (ks ++ k ∷ [])) (votes-more b ks k)

-- a vote that is told has a quorum
has_by : (accept : ℕ) (all : List KeptPart) (o rest : Option Vote) (x : Vote) (t : Bool) → has_quorum accept all o ≡ t → cond t o rest ≡ Some x
    → (rest ≡ Some x → has_quorum accept all (Some x) ≡ true) → has_quorum accept all (Some x) ≡ true
has_by accept all o rest x true one same later = ap (has_quorum accept all) (sym same) ∙ one
has_by accept all o rest x false one same later = later same

chosen_has : (accept : ℕ) (all ks : List KeptPart) (x : Vote) → chosen_from accept all ks ≡ Some x → has_quorum accept all (Some x) ≡ true
chosen_has accept all [] x is = absurd cc
chosen_has accept all (k ∷ ks) x is =
    has_by accept all k.accepted (chosen_from accept all ks) x (has_quorum accept all k.accepted) refl is (chosen_has accept all ks x)

pub chosen_quorum : (accept : ℕ) (nodes : List KeptPart) (x : Vote) → chosen_in accept nodes ≡ Some x → accept ≤ votes_under x.ballot nodes
chosen_quorum accept nodes x is = leb-true accept (votes_under x.ballot nodes) (chosen_has accept nodes nodes x is)

-- none is told where no ballot has one
under_has : (accept : ℕ) (all : List KeptPart) (b : ℕ) (o : Option Vote) → is_under b o ≡ true → has_quorum accept all o ≡ false → nat_le accept (votes_under b all) ≡ false
under_has accept all b None is none = absurd cc
under_has accept all b (Some x) is none = ap (λ c. nat_le accept (votes_under c all)) (sym (eqb-true x.ballot b is)) ∙ none

some_vote : (accept : ℕ) (all : List KeptPart) (o : Option Vote) → has_quorum accept all o ≡ true → o ≡ None → ⊥
some_vote accept all None has none = absurd cc
some_vote accept all (Some x) has none = absurd cc

none_by : (accept b votes : ℕ) (all : List KeptPart) (o rest : Option Vote) (t s : Bool) → has_quorum accept all o ≡ t → is_under b o ≡ s → cond t o rest ≡ None
    → 0 < cond s (suc votes) votes → (rest ≡ None → 0 < votes → nat_le accept (votes_under b all) ≡ false) → nat_le accept (votes_under b all) ≡ false
none_by accept b votes all o rest true s one under none more later = absurd (some_vote accept all o one none)
none_by accept b votes all o rest false true one under none more later = under_has accept all b o under one
none_by accept b votes all o rest false false one under none more later = later none more

none_has : (accept : ℕ) (all ks : List KeptPart) (b : ℕ) → chosen_from accept all ks ≡ None → 0 < votes_under b ks → nat_le accept (votes_under b all) ≡ false
none_has accept all [] b is some = absurd (omega (arith, some))
none_has accept all (k ∷ ks) b is some =
    none_by accept b (votes_under b ks) all k.accepted (chosen_from accept all ks) (has_quorum accept all k.accepted) (is_under b k.accepted) refl refl is some
    (none_has accept all ks b)

none_few : (accept votes : ℕ) → 0 < accept → (0 < votes → nat_le accept votes ≡ false) → votes < accept
none_few accept zero some less = some
none_few accept (suc votes) some less = leb-false accept (suc votes) (less (omega arith))

pub open_few : (accept : ℕ) (nodes : List KeptPart) → 0 < accept → chosen_in accept nodes ≡ None → (b : ℕ) → votes_under b nodes < accept
open_few accept nodes some none b = none_few accept (votes_under b nodes) some (none_has accept nodes nodes b none)

-- the next node of a list
pub votes_next : (b : ℕ) (ks : List KeptPart) (n : ℕ) (k : KeptPart) (votes : ℕ) → n < length ks → k ≡ get_or ks n k → votes ≡ votes_under b (take n ks)
    → cond (is_under b k.accepted) (suc votes) votes ≡ votes_under b (take (n + 1) ks)
votes_next b ks n k votes low is so =
    ap (λ v. cond (is_under b k.accepted) (suc v) v) so ∙ sym (votes-more b (take n ks) k)
    ∙ ap (votes_under b) (sym (take_more ks n k low ∙ ap (λ (x : KeptPart). take n ks ++ x ∷ []) (sym is)))
