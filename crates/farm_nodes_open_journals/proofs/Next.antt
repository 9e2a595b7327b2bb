-- The next disk of those that are left.
use Rattle.std.proofs.Common.{◌≡◌, ◌≢◌, ◌⊎◌, inl, inr, ℕ, zero, suc, ◌+◌, ◌<◌, List, [], ◌∷◌, ◌++◌, length, drop, Some, refl, sym, ap, subst, ◌∙◌, arith}
use Rattle.std.specs.Prelude.{slice_get}
use Rattle.std.specs.Global.{Vec}
use Rattle.std.proofs.lemmas.Bool.{cases_eq}
use Rattle.std.proofs.lemmas.List.{length_push}
use Rattle.std.proofs.lemmas.Option.{slice_get_within}
use Rattle.durable_model.specs.declared.disk.Disk as disks
use Rattle.durable_pair.specs.declared.pair.Pair as pairs
use Rattle.acceptor_log_form.specs.declared.record.Record.{Record}
use Rattle.acceptor_log.specs.declared.log.Log.{Log}
use Rattle.paxos_core_world.specs.Quorum.{Sizes}
use Rattle.farm_nodes_open_journals.specs.Journals.{header_of, AreOpened, IsOpened}

pub next_of : {X : Type 0} (xs : List X) (i : ℕ) (x : X) (rest : List X) → drop i xs ≡ x ∷ rest → slice_get xs i ≡ Some x
next_of [] zero x rest e = absurd (omega (arith, ap length e))
next_of [] (suc i) x rest e = absurd (omega (arith, ap length e))
next_of (y ∷ xs) zero x rest e = ap (λ l. slice_get l 0) e
next_of (y ∷ xs) (suc i) x rest e = next_of xs i x rest e

pub rest_of : {X : Type 0} (xs : List X) (i : ℕ) (x : X) (rest : List X) → drop i xs ≡ x ∷ rest → rest ≡ drop (i + 1) xs
rest_of [] zero x rest e = absurd (omega (arith, ap length e))
rest_of [] (suc i) x rest e = absurd (omega (arith, ap length e))
rest_of (y ∷ xs) zero x rest e = sym (ap (λ l. drop 1 l) e)
rest_of (y ∷ xs) (suc i) x rest e =
    let more : suc (i + 1) ≡ suc i + 1 = omega arith in
    rest_of xs i x rest e ∙ ap (λ n. drop n (y ∷ xs)) more

-- what stands in a list that has one more
pub in_more : {X : Type 0} (xs : List X) (y z : X) (i : ℕ) → slice_get (xs ++ y ∷ []) i ≡ Some z → (i < length xs → ⊥) → (i ≡ length xs) × (y ≡ z)
in_more [] y z zero got beyond = (refl, let same : Some y ≡ Some z = got in cc)
in_more [] y z (suc i) got beyond = absurd (cc)
in_more (x ∷ xs) y z zero got beyond = absurd (beyond (omega arith))
in_more (x ∷ xs) y z (suc i) got beyond =
    let there : (i ≡ length xs) × (y ≡ z) = in_more xs y z i got (λ low. beyond (omega (arith, low))) in
    (ap suc there.0, there.1)

pub in_front : {X : Type 0} (xs : List X) (y : X) (i : ℕ) → i < length xs → slice_get (xs ++ y ∷ []) i ≡ slice_get xs i
in_front [] y i low = absurd (omega (arith, low))
in_front (x ∷ xs) y zero low = refl
in_front (x ∷ xs) y (suc i) low = in_front xs y i (omega (arith, low))

module _ {D : Type 0} (disk : disks.Ghosts D) (pair : pairs.Ghosts D) (q : Sizes) (digest : List ℕ) (given : List D) where
  pub opened_none : (opened : List (Log D × Vec Record)) → opened ≡ [] → AreOpened disk pair q digest given 0 opened
  opened_none opened none = record {
    size = ap length none;
    each = λ i j d got there. let bad : slice_get [] i ≡ Some j = ap (λ l. slice_get l i) (sym none) ∙ got in absurd (omega (arith, slice_get_within [] i j bad));
  }

  module _ (node : ℕ) (opened more : List (Log D × Vec Record)) (j : Log D × Vec Record) (d : D) (front : AreOpened disk pair q digest given node opened) (there : slice_get given node ≡ Some d)
      (now : IsOpened disk pair (header_of q digest node) d j.0 j.1.items) (is : more ≡ opened ++ j ∷ []) where
    one : (i : ℕ) (k : Log D × Vec Record) (e : D) → slice_get (opened ++ j ∷ []) i ≡ Some k → slice_get given i ≡ Some e → IsOpened disk pair (header_of q digest i) e k.0 k.1.items
    one i k e got given_is = on (cases_eq i node)
      where
        on : (i ≡ node) ⊎ (i ≢ node) → IsOpened disk pair (header_of q digest i) e k.0 k.1.items
        on (inl same) =
            let last : (i ≡ length opened) × (j ≡ k) = in_more opened j k i got (λ low. omega (arith, low, same, front.size)) in
            let both : Some d ≡ Some e = sym there ∙ ap (λ n. slice_get given n) (sym same) ∙ given_is in
            let disk_is : d ≡ e = cc in
            let of_k : IsOpened disk pair (header_of q digest node) d k.0 k.1.items = subst (λ (m : Log D × Vec Record). IsOpened disk pair (header_of q digest node) d m.0 m.1.items) last.1 now in
            let of_e : IsOpened disk pair (header_of q digest node) e k.0 k.1.items = subst (λ (f : D). IsOpened disk pair (header_of q digest node) f k.0 k.1.items) disk_is of_k in
            subst (λ (n : ℕ). IsOpened disk pair (header_of q digest n) e k.0 k.1.items) (sym same) of_e
        on (inr other) =
            let within : i < length (opened ++ j ∷ []) = slice_get_within (opened ++ j ∷ []) i k got in
            let low : i < length opened = omega (arith, within, length_push opened j, other, front.size) in
            front.each i k e (sym (in_front opened j i low) ∙ got) given_is

    pub opened_next : AreOpened disk pair q digest given (node + 1) more
    opened_next = record {
      size = omega (arith, ap length is, length_push opened j, front.size);
      each = λ i k e got given_is. one i k e (ap (λ l. slice_get l i) (sym is) ∙ got) given_is;
    }
