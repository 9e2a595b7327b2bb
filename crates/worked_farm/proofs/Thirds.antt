-- The third journal is that of the third node: when a farm of three opens, behind turns, and of the last node.
use Rattle.std.proofs.Common.{◌≡◌, ◌<◌, ℕ, zero, suc, List, [], ◌∷◌, ◌++◌, length, map, slice_get, Some, None, refl, sym, ap, ◌∙◌, subst, arith, length-append}
use Rattle.std.specs.List.{AllByRecursion, AllZip}
use Rattle.durable_model.specs.declared.disk.Disk as disks
use Rattle.durable_pair.specs.declared.pair.Pair as pairs
use Rattle.acceptor_log_form.specs.declared.header.Header.{Header}
use Rattle.acceptor_log.specs.declared.log.Log.{Log}
use Rattle.paxos_core_world.specs.Quorum.{majority_sizes, Sizes}
use Rattle.farm_nodes_open_journals.specs.Journals.{header_of}
use Rattle.farm_nodes.specs.Back.{AreJournalsOn}
use Rattle.worked_farm.specs.Nodes.{IsThird}

third_of : {X : Type 0} (xs : List X) → length xs ≡ 3 → (x : X) × (slice_get xs 2 ≡ Some x)
third_of [] h = absurd (omega (arith, h))
third_of (a ∷ []) h = absurd (omega (arith, h))
third_of (a ∷ b ∷ []) h = absurd (omega (arith, h))
third_of (a ∷ b ∷ x ∷ rest) h = (x, refl)

pub third_opened : {D : Type 0} (disk : disks.Ghosts D) (pair : pairs.Ghosts D) (q : Sizes) (digest : List ℕ) (given : List D) (logs : List (Log D)) → length given ≡ 3 → q ≡ majority_sizes 3
    → AreJournalsOn disk pair q digest given logs → IsThird digest logs
third_opened disk pair q digest given logs three are made = λ log e.
    let it = third_of given three in
    (made.each 2 it.0 log it.1 e).1.header_is ∙ ap (λ (p : Sizes). header_of p digest 2) are

-- behind turns, each of which leaves a node its header
module _ {N D : Type 0} (log : N → Log D) (R : N → N → Type 0) (keeps : (n m : N) → R n m → (log m).header ≡ (log n).header) where
  header_at : (ns ms : List N) → AllZip R ns ms → (i : ℕ) (l : Log D) → slice_get (map log ms) i ≡ Some l
      → (k : Log D) × (slice_get (map log ns) i ≡ Some k) × (l.header ≡ k.header)
  header_at [] [] z i l e = absurd (cc)
  header_at [] (m ∷ ms) z i l e = absurd z
  header_at (n ∷ ns) [] z i l e = absurd z
  header_at (n ∷ ns) (m ∷ ms) z zero l e =
      let same : log m ≡ l = cc in (log n, refl, ap (λ (x : Log D). x.header) (sym same) ∙ keeps n m z.0)
  header_at (n ∷ ns) (m ∷ ms) z (suc i) l e = header_at ns ms z.1 i l e

  pub third_stays : (digest : List ℕ) (ns ms : List N) → AllZip R ns ms → IsThird digest (map log ns) → IsThird digest (map log ms)
  third_stays digest ns ms z third = λ l e. let it = header_at ns ms z 2 l e in it.2 ∙ third it.0 it.1

-- of the last of three
module _ {N D : Type 0} (log : N → Log D) where
  last_is : (rest : List N) (node : N) → length (rest ++ node ∷ []) ≡ 3 → slice_get (map log (rest ++ node ∷ [])) 2 ≡ Some (log node)
  last_is [] node h = absurd (omega (arith, h))
  last_is (a ∷ []) node h = absurd (omega (arith, h))
  last_is (a ∷ b ∷ []) node h = refl
  last_is (a ∷ b ∷ c ∷ rest) node h = absurd (omega (arith, h, length-append rest (node ∷ [])))

  pub third_last : (digest : List ℕ) (all rest : List N) (node : N) → all ≡ rest ++ node ∷ [] → length all ≡ 3
      → IsThird digest (map log all) → (log node).header ≡ header_of (majority_sizes 3) digest 2
  third_last digest all rest node same three third =
      third (log node) (ap (λ (l : List N). slice_get (map log l) 2) same ∙ last_is rest node (ap length (sym same) ∙ three))

-- such a header is of a farm with nodes
pub has_nodes : (h : Header) (digest : List ℕ) → h ≡ header_of (majority_sizes 3) digest 2 → 0 < h.nodes
has_nodes h digest is = subst (λ (g : Header). 0 < g.nodes) (sym is) (omega arith)

-- what holds of all
module _ {X : Type 0} (P : X → Type 0) where
  all_but : (rest : List X) (x : X) → AllByRecursion P (rest ++ x ∷ []) → AllByRecursion P rest × P x
  all_but [] x all = (tt, all.0)
  all_but (y ∷ rest) x all = let it = all_but rest x all.1 in ((all.0, it.0), it.1)

  pub all_apart : (all rest : List X) (x : X) → all ≡ rest ++ x ∷ [] → AllByRecursion P all → AllByRecursion P rest × P x
  all_apart all rest x same held = all_but rest x (subst (λ (l : List X). AllByRecursion P l) same held)
