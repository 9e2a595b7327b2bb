-- Filled lists name locations that are there.
use Rattle.std.proofs.Common.{◌≡◌, ℕ, zero, suc, ◌-◌, List, [], ◌∷◌, length, get_or, Option, Some, None, Bool, true, false, cond, refl, sym, ap, ◌∙◌, subst, arith, inl, inr}
use Rattle.std.specs.Prelude.{map, Contains, All, nat_eq}
use Rattle.std.specs.List.{AllByRecursion, flat_map, list_any}
use Rattle.std.proofs.lemmas.Bool.{cases_lt}
use Rattle.std.proofs.lemmas.List.{get_or_past}
use Rattle.std.proofs.lemmas.List.Elements.{All-nil, All-cons, All-map, All-append, All-contains, All-from_recursion}
use Rattle.locations.specs.declared.location.Location.{Location}
use Rattle.locations.specs.Fits.{LocationFits, MoveFits}
use Rattle.locations.specs.Reading.{same_location}
use Rattle.alloc_check_rules.specs.Arguments.{Arguments}
use Rattle.alloc_check_rules.specs.Arguments.TheVariants.{One, Two}
use Rattle.alloc_check_rules.specs.Act.{Act}
use Rattle.alloc_check_rules.specs.Act.TheVariants.{Operate, Load, Store, Put}
use Rattle.alloc_check_rules.specs.Instruction.{Instruction}
use Rattle.alloc_check_rules.specs.Instruction.TheVariants.{Do, Call, Branch, Return}
use Rattle.machine.specs.declared.arguments.Arguments as machine_arguments
use Rattle.machine.specs.declared.arguments.Arguments.TheVariants as arguments
use Rattle.machine.specs.declared.act.Act as machine_act
use Rattle.machine.specs.declared.act.Act.TheVariants as act
use Rattle.machine.specs.Fits as machine_fits
use Rattle.alloc_check_rules.specs.Block.{Block}
use Rattle.alloc_check_rules.specs.Body.{Body}
use Rattle.alloc_check_rules.specs.Body.TheVariants as body
use Rattle.alloc_check_rules.specs.Function as ltl
use Rattle.alloc_check_rules.specs.declared.equation.Equation.{Equation}
use Rattle.alloc_check_rules.specs.declared.change.Change.{Change}
use Rattle.alloc_check_rules.specs.declared.change.Change.TheVariants.{Nothing, Defines, Drops, Copies}
use Rattle.alloc_check_rules.specs.declared.demand.Demand.{Demand}
use Rattle.alloc_check_rules.specs.declared.demand.Demand.TheVariants.{Met, Refused, Needs}
use Rattle.alloc_check_rules.specs.Equations.{back, back_equation, through, is_lost, over_call, through_body, demand}
use Rattle.alloc_check_rules.specs.Pairs.{change_of, equations_of, arguments_used, act_uses, uses, successors_of}
use Rattle.alloc_check_blocks.proofs.Locations.{back_fits}
use Rattle.alloc_check_fill.specs.Fill.{is_refused, needs_of, demands, inside, needed_as, needed, behind, known, fill_from, fill}
use Rattle.alloc_check_fill.specs.Right.{HasPlace}
use Rattle.alloc_check_fill.proofs.Members.{all_members, mapped_from, joined_from}

-- ---- a demand moves no equation to another location

abbrev IsThere : Location → Demand → Type 0
IsThere l Met = Unit {0}
IsThere l Refused = Unit {0}
IsThere l (Needs e) = e.location ≡ l

through_there : (change : Change) (e : Equation) → IsThere e.location (through change e)
through_there Nothing e = refl
through_there (Defines r k) e = at (nat_eq r e.register) (same_location k e.location)
  where
    at : (a c : Bool) → IsThere e.location (cond a (cond c Met Refused) (cond c Refused (Needs e)))
    at true true = tt
    at true false = tt
    at false true = tt
    at false false = refl
through_there (Drops r) e = at (nat_eq r e.register)
  where
    at : (a : Bool) → IsThere e.location (cond a Refused (Needs e))
    at true = tt
    at false = refl
through_there (Copies target source) e = at (nat_eq target e.register)
  where
    at : (a : Bool) → IsThere e.location (cond a (Needs (record e { register = source })) (Needs e))
    at true = refl
    at false = refl

over_there : (l : Location) (d : Demand) → IsThere l d → IsThere l (over_call d)
over_there l Met there = tt
over_there l Refused there = tt
over_there l (Needs e) there = at (is_lost e.location)
  where
    at : (a : Bool) → IsThere l (cond a Refused (Needs e))
    at true = tt
    at false = there

body_there : (b : Body) (change : Change) (e : Equation) → IsThere e.location (through_body b change e)
body_there (body.Go a after s) change e = through_there change e
body_there (body.Call f names target after s) change e = over_there e.location (through change e) (through_there change e)
body_there (body.Branch test s o) change e = through_there change e
body_there (body.Return value) change e = through_there change e

-- ---- what a block uses

module _ (slots : ℕ) where
  abbrev P : Equation → Type 0
  P = HasPlace slots

  arguments_there : (count : ℕ) (names : Arguments) (ks : machine_arguments.Arguments) → machine_fits.ArgumentsFit count ks → AllByRecursion P (arguments_used names ks)
  arguments_there count (One a) (arguments.One k) fits = (record { location = fits.1 }, tt)
  arguments_there count (One a) (arguments.Two k m) fits = tt
  arguments_there count (Two a b) (arguments.One k) fits = tt
  arguments_there count (Two a b) (arguments.Two k m) fits = (record { location = fits.1 }, (record { location = fits.2 }, tt))

  equations_there : (rs : List ℕ) (ls : List Location) → AllByRecursion (LocationFits slots) ls → AllByRecursion P (equations_of rs ls)
  equations_there [] ls fits = tt
  equations_there (r ∷ rs) [] fits = tt
  equations_there (r ∷ rs) (l ∷ ls) fits = (record { location = fits.0 }, equations_there rs ls fits.1)

  act_there : (a : Act) (b : Option machine_act.Act) → ltl.MaybeActFits b → AllByRecursion P (act_uses a b)
  act_there (Operate op target names) (Some (act.Operate other k ks)) fits = arguments_there _ names ks fits.1
  act_there (Load target global index) (Some (act.Load k other j)) fits = (record { location = fits.2 }, tt)
  act_there (Store global index source) (Some (act.Store other j k)) fits = (record { location = fits.1 }, (record { location = fits.2 }, tt))
  act_there (Put source target) (Some (act.Put k location)) fits = (record { location = fits.0 }, tt)
  act_there _ _ fits = tt

  uses_there : (nodes : ℕ) (i : Instruction) (b : Body) → ltl.BodyFits slots nodes b → AllByRecursion P (uses i b)
  uses_there nodes (Do a s) (body.Go b after t) fits = act_there a b fits.0
  uses_there nodes (Call f names target s) (body.Call g ls location after t) fits = equations_there names ls fits.0.arguments
  uses_there nodes (Branch test s o) (body.Branch other t p) fits = arguments_there _ test.arguments other.arguments fits.0
  uses_there nodes (Return (Some r)) (body.Return (Some k)) fits = (record { location = fits }, tt)
  uses_there nodes _ _ fits = tt

  after_fit : (nodes : ℕ) (b : Body) → ltl.BodyFits slots nodes b → AllByRecursion (MoveFits slots) (ltl.after_of b)
  after_fit nodes (body.Go a after s) fits = fits.1.each
  after_fit nodes (body.Call f names target after s) fits = fits.1.each
  after_fit nodes (body.Branch test s o) fits = tt
  after_fit nodes (body.Return value) fits = tt

  -- ---- what a block needs

  module _ (nodes : ℕ) (i : Instruction) (b : Block) (fits : ltl.BlockFits slots nodes b) where
    demanded_there : (change : Change) (q e : Equation) → P q → Contains (needs_of (demand b.body change q)) e → P e
    demanded_there change q e there among = at (demand b.body change q) (body_there b.body change (back_equation (ltl.after_of b.body) q)) among
      where
        at : (d : Demand) → IsThere (back (ltl.after_of b.body) q.location) d → Contains (needs_of d) e → P e
        at Met is among = absurd (omega (arith, among.1))
        at Refused is among = absurd (omega (arith, among.1))
        at (Needs e') is (zero, below, same) =
            record { location = subst (LocationFits slots) (sym is ∙ ap (λ (x : Equation). x.location) same) (back_fits slots (ltl.after_of b.body) q.location (after_fit nodes b.body fits.body) there.location) }
        at (Needs e') is (suc k, below, same) = absurd (omega (arith, below))

    inside_there : (change : Change) (es : List Equation) → All P es → All P (inside i b change es)
    inside_there change es all =
        All-append P (flat_map needs_of (demands b change es)) (uses i b.body)
        (all_members P (flat_map needs_of (demands b change es)) (λ e among.
        let j = joined_from needs_of (demands b change es) e among in
        let d = mapped_from (demand b.body change) es j.source j.there in
        demanded_there change d.source e (All-contains P es d.source all d.there) (subst (λ x. Contains (needs_of x) e) (sym d.is) j.among)))
        (All-from_recursion P (uses i b.body) (uses_there nodes i b.body fits.body))

    pub needed_there : (o : Option Change) (es : List Equation) → All P es → All P (needed_as i b o es)
    needed_there None es all = All-nil P
    needed_there (Some change) es all = at (list_any is_refused (demands b change es))
      where
        at : (r : Bool) → All P (cond r [] (map (back_equation b.before) (inside i b change es)))
        at true = All-nil P
        at false =
            All-map P (back_equation b.before) (inside i b change es) (λ k d below.
            let e = get_or (inside i b change es) k d in
            record { location = back_fits slots b.before e.location fits.before.each (inside_there change es all k d below).location })

  -- ---- the lists of all nodes

  module _ (nodes : ℕ) (marked : ℕ → Bool) (row : ℕ → List Equation) (rows : (n : ℕ) → All P (row n)) where
    above_there : (above : List (List Equation)) (k : ℕ) → All (All P) above → All P (get_or above k [])
    above_there above k all = elim (cases_lt k (length above)) [
      | inl below ↦ all k [] below
      | inr past ↦ subst (All P) (sym (get_or_past above k [] past)) (All-nil P)
    ]

    known_there : (first s : ℕ) (above : List (List Equation)) → All (All P) above → All P (known marked row first above s)
    known_there first s above all = at (marked s)
      where
        at : (m : Bool) → All P (cond m (row s) (get_or above (s - first) []))
        at true = rows s
        at false = above_there above (s - first) all

    behind_there : (first : ℕ) (above : List (List Equation)) (i : Instruction) → All (All P) above → All P (behind (known marked row first above) i)
    behind_there first above i all = all_members P (behind (known marked row first above) i) (λ e among.
        let j = joined_from (known marked row first above) (successors_of i) e among in
        All-contains P (known marked row first above j.source) e (known_there first j.source above all) j.among)

    fill_there : (first : ℕ) (is : List Instruction) (bs : List Block) → AllByRecursion (ltl.BlockFits slots nodes) bs → All (All P) (fill_from marked row first is bs)
    fill_there first [] bs fits = All-nil (All P)
    fill_there first (i ∷ is) [] fits = All-nil (All P)
    fill_there first (i ∷ is) (b ∷ bs) fits =
        let above = fill_from marked row (suc first) is bs in
        let there : All (All P) above = fill_there (suc first) is bs fits.1 in
        All-cons (All P) (cond (marked first) (row first) (needed i b (behind (known marked row (suc first) above) i))) above (at above there (marked first)) there
      where
        at : (above : List (List Equation)) → All (All P) above → (m : Bool) → All P (cond m (row first) (needed i b (behind (known marked row (suc first) above) i)))
        at above there true = rows first
        at above there false = needed_there nodes i b fits.0 (change_of i b.body) (behind (known marked row (suc first) above) i) (behind_there (suc first) above i there)

    -- each filled list names locations that are there, where the rows do
    pub filled_there : (is : List Instruction) (bs : List Block) → AllByRecursion (ltl.BlockFits slots nodes) bs → All (All P) (fill marked row is bs)
    filled_there is bs fits = fill_there 0 is bs fits
