-- What a block needs before it is what makes it right: the rules, by members of lists.
use Rattle.std.proofs.Common.{◌≡◌, ℕ, zero, suc, List, [], get_or, Option, Some, None, Bool, true, false, cond, refl, sym, subst, arith, inl, inr}
use Rattle.std.specs.Prelude.{map, Contains}
use Rattle.std.specs.List.{flat_map, list_any}
use Rattle.std.proofs.lemmas.List.Elements.{Contains-get_or, All-contains, Contains-append_left, Contains-append_right, Contains-append_cases}
use Rattle.locations.specs.declared.location.Move.{Move}
use Rattle.alloc_check_rules.specs.Instruction.{Instruction}
use Rattle.alloc_check_rules.specs.Block.{Block}
use Rattle.alloc_check_rules.specs.declared.equation.Equation.{Equation}
use Rattle.alloc_check_rules.specs.declared.change.Change.{Change}
use Rattle.alloc_check_rules.specs.declared.demand.Demand.{Demand}
use Rattle.alloc_check_rules.specs.declared.demand.Demand.TheVariants.{Met, Refused, Needs}
use Rattle.alloc_check_rules.specs.Equations.{back_equation, demand}
use Rattle.alloc_check_rules.specs.Pairs.{uses, successors_of}
use Rattle.alloc_check_rules.specs.Rules.{equations_at, IsGiven, IsAnswered, LeadsTo, IsCarried, StandsFor}
use Rattle.alloc_check_fill.specs.Fill.{is_refused, needs_of, demands, inside, needed_as, behind}
use Rattle.alloc_check_fill.specs.Sets.{Within, SameSet}
use Rattle.alloc_check_fill.proofs.Members.{first_of, none_of, all_members, mapped_has, mapped_from, joined_has, joined_from, none_passes, none_told}

-- ---- more before, less behind

answered_within : (es fs : List Equation) (before : List Move) → Within es fs → (d : Demand) → IsAnswered es before d → IsAnswered fs before d
answered_within es fs before within Met answered = tt
answered_within es fs before within Refused answered = answered
answered_within es fs before within (Needs e) answered = within (back_equation before e) answered

pub carried_within : (lists lists' : List (List Equation)) (es fs : List Equation) (i : Instruction) (b : Block) (change : Change) → Within es fs → ((s : ℕ) → Contains (successors_of i) s → Within (equations_at lists' s) (equations_at lists s)) → IsCarried lists es i b change → IsCarried lists' fs i b change
carried_within lists lists' es fs i b change within less carried = record {
  uses = λ k d below. within (back_equation b.before (get_or (uses i b.body) k d)) (carried.uses k d below);
  leads = λ k d below.
      let s = get_or (successors_of i) k d in
      record {
        answered = all_members (λ e. IsAnswered fs b.before (demand b.body change e)) (equations_at lists' s) (λ e among.
            answered_within es fs b.before within (demand b.body change e)
            (All-contains (λ q. IsAnswered es b.before (demand b.body change q)) (equations_at lists s) e (carried.leads k d below).answered
            (less s (Contains-get_or (successors_of i) k d below) e among)));
      };
}

pub stands_within : (lists lists' : List (List Equation)) (es fs : List Equation) (i : Instruction) (b : Block) (o : Option Change) → Within es fs → ((s : ℕ) → Contains (successors_of i) s → Within (equations_at lists' s) (equations_at lists s)) → StandsFor lists es i b o → StandsFor lists' fs i b o
stands_within lists lists' es fs i b None within less stands = stands
stands_within lists lists' es fs i b (Some change) within less stands = carried_within lists lists' es fs i b change within less stands

-- ---- what is needed, and what is right

refused_not : (d : Demand) (es : List Equation) (before : List Move) → IsAnswered es before d → is_refused d ≡ false
refused_not Met es before answered = refl
refused_not Refused es before answered = absurd answered
refused_not (Needs e) es before answered = refl

module _ (lists : List (List Equation)) (es : List Equation) (i : Instruction) (b : Block) (change : Change) where
  -- the equations behind the block
  abbrev after : List Equation
  after = behind (equations_at lists) i

  -- a block that is right breaks no rule
  pub carried_keeps : IsCarried lists es i b change → list_any is_refused (demands b change after) ≡ false
  carried_keeps carried = none_told is_refused (demands b change after) (λ d among.
      let m = mapped_from (demand b.body change) after d among in
      let j = joined_from (equations_at lists) (successors_of i) m.source m.there in
      let leads = All-contains (LeadsTo lists es b change) (successors_of i) j.source carried.leads j.there in
      subst (λ x. is_refused x ≡ false) m.is
      (refused_not (demand b.body change m.source) es b.before (All-contains (λ q. IsAnswered es b.before (demand b.body change q)) (equations_at lists j.source) m.source leads.answered j.among)))

  needs_given : (q : Equation) (d : Demand) → Contains (needs_of d) q → IsAnswered es b.before d → IsGiven es b.before q
  needs_given q Met h answered = absurd (none_of q h)
  needs_given q Refused h answered = absurd (none_of q h)
  needs_given q (Needs e') (zero, below, is) answered = subst (IsGiven es b.before) is answered
  needs_given q (Needs e') (suc k, below, is) answered = absurd (omega (arith, below))

  demanded_given : IsCarried lists es i b change → (q : Equation) → Contains (flat_map needs_of (demands b change after)) q → IsGiven es b.before q
  demanded_given carried q among =
      let j = joined_from needs_of (demands b change after) q among in
      let d = mapped_from (demand b.body change) after j.source j.there in
      let s = joined_from (equations_at lists) (successors_of i) d.source d.there in
      let leads = All-contains (LeadsTo lists es b change) (successors_of i) s.source carried.leads s.there in
      needs_given q j.source j.among (subst (IsAnswered es b.before) d.is (All-contains (λ x. IsAnswered es b.before (demand b.body change x)) (equations_at lists s.source) d.source leads.answered s.among))

  -- and what it needs is there
  pub carried_has : IsCarried lists es i b change → Within (map (back_equation b.before) (inside i b change after)) es
  carried_has carried e among =
      let m = mapped_from (back_equation b.before) (inside i b change after) e among in
      subst (Contains es) m.is (elim (Contains-append_cases (flat_map needs_of (demands b change after)) (uses i b.body) m.source m.there) [
        | inl demanded ↦ demanded_given carried m.source demanded
        | inr used ↦ All-contains (IsGiven es b.before) (uses i b.body) m.source carried.uses used
      ])

  -- where no rule is broken and what is needed is there, the block is right
  pub carried_from : list_any is_refused (demands b change after) ≡ false → Within (map (back_equation b.before) (inside i b change after)) es → IsCarried lists es i b change
  carried_from keeps has = record {
    uses = all_members (IsGiven es b.before) (uses i b.body) (λ e among.
        has (back_equation b.before e) (mapped_has (back_equation b.before) (inside i b change after) e (Contains-append_right (flat_map needs_of (demands b change after)) (uses i b.body) e among)));
    leads = all_members (LeadsTo lists es b change) (successors_of i) (λ s there. record {
      answered = all_members (λ e. IsAnswered es b.before (demand b.body change e)) (equations_at lists s) (λ e among.
          let behind' = joined_has (equations_at lists) (successors_of i) s e there among in
          let demanded = mapped_has (demand b.body change) after e behind' in
          answers (demand b.body change e) demanded (none_passes is_refused (demands b change after) keeps (demand b.body change e) demanded));
    });
  }
    where
      answers : (d : Demand) → Contains (demands b change after) d → is_refused d ≡ false → IsAnswered es b.before d
      answers Met among not = tt
      answers Refused among not = absurd (let impossible : true ≡ false = not in cc)
      answers (Needs e) among not =
          let needs = joined_has needs_of (demands b change after) (Needs e) e among (first_of e []) in
          has (back_equation b.before e) (mapped_has (back_equation b.before) (inside i b change after) e (Contains-append_left (flat_map needs_of (demands b change after)) (uses i b.body) e needs))

-- ---- what is needed depends on members alone

module _ (i : Instruction) (b : Block) where
  inside_within : (change : Change) (es fs : List Equation) → Within es fs → Within (inside i b change es) (inside i b change fs)
  inside_within change es fs within e among = elim (Contains-append_cases (flat_map needs_of (demands b change es)) (uses i b.body) e among) [
    | inl demanded ↦
        let j = joined_from needs_of (demands b change es) e demanded in
        let d = mapped_from (demand b.body change) es j.source j.there in
        let there = subst (Contains (demands b change fs)) d.is (mapped_has (demand b.body change) fs d.source (within d.source d.there)) in
        Contains-append_left (flat_map needs_of (demands b change fs)) (uses i b.body) e (joined_has needs_of (demands b change fs) j.source e there j.among)
    | inr used ↦ Contains-append_right (flat_map needs_of (demands b change fs)) (uses i b.body) e used
  ]

  pub mapped_within : (change : Change) (es fs : List Equation) → Within es fs → Within (map (back_equation b.before) (inside i b change es)) (map (back_equation b.before) (inside i b change fs))
  mapped_within change es fs within e among =
      let m = mapped_from (back_equation b.before) (inside i b change es) e among in
      subst (Contains (map (back_equation b.before) (inside i b change fs))) m.is
      (mapped_has (back_equation b.before) (inside i b change fs) m.source (inside_within change es fs within m.source m.there))

  pub kept_within : (change : Change) (es fs : List Equation) → Within es fs → list_any is_refused (demands b change fs) ≡ false → list_any is_refused (demands b change es) ≡ false
  kept_within change es fs within keeps = none_told is_refused (demands b change es) (λ d among.
      let m = mapped_from (demand b.body change) es d among in
      none_passes is_refused (demands b change fs) keeps d (subst (Contains (demands b change fs)) m.is (mapped_has (demand b.body change) fs m.source (within m.source m.there))))

  -- less behind, and no rule broken with more: less before
  pub needed_within : (o : Option Change) (es fs : List Equation) → Within es fs → ((change : Change) → o ≡ Some change → list_any is_refused (demands b change es) ≡ false → list_any is_refused (demands b change fs) ≡ false) → Within (needed_as i b o es) (needed_as i b o fs)
  needed_within None es fs within keeps e among = among
  needed_within (Some change) es fs within keeps e among = at (list_any is_refused (demands b change es)) refl among
    where
      at : (r : Bool) → list_any is_refused (demands b change es) ≡ r → Contains (cond r [] (map (back_equation b.before) (inside i b change es))) e → Contains (needed_as i b (Some change) fs) e
      at true is among = absurd (none_of e among)
      at false is among =
          subst (λ r. Contains (cond r [] (map (back_equation b.before) (inside i b change fs))) e) (sym (keeps change refl is))
          (mapped_within change es fs within e among)

  pub needed_same : (o : Option Change) (es fs : List Equation) → SameSet es fs → SameSet (needed_as i b o es) (needed_as i b o fs)
  needed_same o es fs same e = (
    λ among. needed_within o es fs (λ q h. (same q).0 h) (λ change is keeps. kept_within change fs es (λ q h. (same q).1 h) keeps) e among,
    λ among. needed_within o fs es (λ q h. (same q).1 h) (λ change is keeps. kept_within change es fs (λ q h. (same q).0 h) keeps) e among,
  )
