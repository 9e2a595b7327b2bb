-- The numbers of the nodes that voted under a ballot.
use Rattle.std.proofs.Common.{◌≡◌, ℕ, zero, suc, ◌+◌, ◌<◌, List, [], ◌∷◌, ◌++◌, length, take, get_or, sym, ap, ◌∙◌, arith, append_assoc, append-nil}
use Rattle.std.proofs.lemmas.List.{take_more, length-take-le}
use Rattle.paxos_core_world.specs.KeptPart.{KeptPart}
use Rattle.cfarm_fsck.specs.Lines.{voter, voters_from}

voters-more : (b n : ℕ) (ks : List KeptPart) (k : KeptPart) → voters_from b n (ks ++ k ∷ []) ≡ voters_from b n ks ++ voter b (n + length ks) k.accepted
voters-more b n [] k = append-nil (voter b n k.accepted) ∙ ap (λ m. voter b m k.accepted) (omega arith)
voters-more b n (x ∷ ks) k =
    ap (λ l. voter b n x.accepted ++ l) (voters-more b (suc n) ks k ∙ ap (λ m. voters_from b (suc n) ks ++ voter b m k.accepted) (omega arith))
    ∙ sym (append_assoc (voter b n x.accepted) (voters_from b (suc n) ks) (voter b (n + length (x ∷ ks)) k.accepted))

starts : (ks : List KeptPart) (n : ℕ) → n < length ks → n ≡ 0 + length (take n ks)
starts ks n low = let long = length-take-le n ks (omega (arith, low)) in omega (arith, long)

pub voters_next : (b : ℕ) (ks : List KeptPart) (n : ℕ) (k : KeptPart) → n < length ks → k ≡ get_or ks n k
    → voters_from b 0 (take n ks) ++ voter b n k.accepted ≡ voters_from b 0 (take (n + 1) ks)
voters_next b ks n k low is =
    ap (λ m. voters_from b 0 (take n ks) ++ voter b m k.accepted) (starts ks n low) ∙ sym (voters-more b 0 (take n ks) k)
    ∙ ap (voters_from b 0) (sym (take_more ks n k low ∙ ap (λ (x : KeptPart). take n ks ++ x ∷ []) (sym is)))
