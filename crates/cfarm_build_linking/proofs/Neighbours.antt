-- What neighbours have learned in common, all nodes have.
use Rattle.std.proofs.Common.{◌≡◌, zero, suc, ◌<◌, List, [], ◌∷◌, map, length, get_or, Option, refl, sym, ap, subst₂, ◌∙◌, arith}
use Rattle.std.specs.List.{AllByRecursion}
use Rattle.lang_base.specs.declared.program.Program.{Program}
use Rattle.rooms_hall.specs.declared.hall.Naming as naming
use Rattle.rtl_language.specs.Function as rtl
use Rattle.linear_language.specs.Function as linear
use Rattle.cfarm_build_result.specs.Alike.{HaveCounted}
use Rattle.cfarm_build_result.specs.Learned.{FourOffers, learned_by}
use Rattle.cfarm_build_result.specs.Offered.{linked_offers}
use Rattle.cfarm_build_result.specs.NumberedSeat.{NumberedSeat}
use Rattle.cfarm_build_result.proofs.Alike.{one_learned}
use Rattle.cfarm_build_result.specs.Neighbours.{EachTwo}

module _ {N H : Type 0} {h : naming.Ghosts H} (seats : N → List (NumberedSeat H h)) where
  abbrev Counted : N → N → Type 0
  Counted n m = HaveCounted (seats n) (seats m)

  all_from : (x : N) (xs : List N) (learned : List (Option FourOffers)) → learned_by (seats x) ≡ learned → EachTwo Counted (x ∷ xs)
      → AllByRecursion (λ n. learned_by (seats n) ≡ learned) (x ∷ xs)
  all_from x [] learned is each = (is, tt)
  all_from x (y ∷ xs) learned is each =
      let next : learned_by (seats y) ≡ learned = sym (one_learned (seats x) (seats y) (each zero x y refl refl)) ∙ is in
      (is, all_from y xs learned next (λ k n m en em. each (suc k) n m en em))

  -- all have learned what the first has
  pub all_same : (xs : List N) (x : N) → 0 < length xs → x ≡ get_or xs 0 x → EachTwo Counted xs
      → AllByRecursion (λ n. learned_by (seats n) ≡ learned_by (seats x)) xs
  all_same [] x some is each = absurd (omega (arith, some))
  all_same (y ∷ xs) x some is each = all_from y xs (learned_by (seats x)) (ap (λ n. learned_by (seats n)) (sym is)) each

  -- so the program that the first links is linked by all
  pub all_link : (program : Program rtl.FunctionData) (made : Program linear.FunctionData) (learned : List (Option FourOffers)) (xs : List N)
      → made ≡ linked_offers program learned → AllByRecursion (λ n. learned_by (seats n) ≡ learned) xs
      → AllByRecursion (λ n. made ≡ linked_offers program (learned_by (seats n))) xs
  all_link program made learned [] is same = tt
  all_link program made learned (x ∷ xs) is same =
      (is ∙ ap (λ l. linked_offers program l) (sym same.0), all_link program made learned xs is same.1)

  -- as the nodes are seen
  pub two_seen : {M : Type 0} (view : N → M) (there : M → List (NumberedSeat H h)) → ((n : N) → there (view n) ≡ seats n) → (xs : List N)
      → EachTwo Counted xs → EachTwo (λ n m. HaveCounted (there n) (there m)) (map view xs)
  two_seen view there same [] each k n m en em = absurd (cc en)
  two_seen view there same (x ∷ []) each zero n m en em = absurd (cc em)
  two_seen view there same (x ∷ []) each (suc k) n m en em = absurd (cc en)
  two_seen view there same (x ∷ y ∷ xs) each zero n m en em =
      let first : view x ≡ n = cc en in
      let second : view y ≡ m = cc em in
      let counted : HaveCounted (seats x) (seats y) = each zero x y refl refl in
      subst₂ (λ u v. HaveCounted u v) (sym (same x) ∙ ap there first) (sym (same y) ∙ ap there second) counted
  two_seen view there same (x ∷ y ∷ xs) each (suc k) n m en em =
      two_seen view there same (y ∷ xs) (λ j u v eu ev. each (suc j) u v eu ev) k n m en em
