-- What is demanded in front of an instruction and its body is enough for the equations behind them.
use Rattle.std.proofs.Common.{◌≡◌, ◌≢◌, ℕ, ◌≤◌, List, get_or, set, Option, Some, None, Bool, true, false, cond, eqb, refl, sym, ap, ◌∙◌, subst, arith}
use Rattle.std.specs.List.{AllByRecursion}
use Rattle.std.proofs.lemmas.Bool.{eqb-true, eqb-false, ltb-false}
use Rattle.std.proofs.lemmas.List.{get_or-set_other}
use Rattle.locations.specs.declared.location.Location.{Location}
use Rattle.locations.specs.declared.location.Location.TheVariants.{InRegister, InSlot}
use Rattle.locations.specs.declared.location.Move.{Move}
use Rattle.locations.specs.Fits.{LocationFits, MoveFits}
use Rattle.locations.specs.Reading.{same_location}
use Rattle.rtl_passes.specs.Data as rtl_data
use Rattle.rtl_passes.specs.Acts as rtl_acts
use Rattle.ltl.specs.Data.{Data, value_at, put_at, all_moved}
use Rattle.ltl.specs.Frames.{after_call, with_result}
use Rattle.alloc_check_rules.specs.declared.equation.Equation.{Equation}
use Rattle.alloc_check_rules.specs.declared.change.Change.{Change}
use Rattle.alloc_check_rules.specs.declared.change.Change.TheVariants.{Nothing, Defines, Drops, Copies}
use Rattle.alloc_check_rules.specs.declared.demand.Demand.{Demand}
use Rattle.alloc_check_rules.specs.declared.demand.Demand.TheVariants.{Met, Refused, Needs}
use Rattle.alloc_check_rules.specs.Equations.{back_equation, through_result, through, is_lost, over_call}
use Rattle.alloc_check_rules.specs.Pairs.{result_change}
use Rattle.alloc_check_rules.specs.Holding.{Holds, DemandHolds, HasFrame}
use Rattle.alloc_check_rules.specs.Steps.{SameLocations, IsDefined, IsDropped, IsCopied, Changed, IsBack}
use Rattle.alloc_check_rules.proofs.Locations.{covers_itself, covers_same, covers_set, is_same, is_other, value_put_same, value_put_other, value_moves}

-- ---- what was defined

pub locations_themselves : (e : Data) → SameLocations e e
locations_themselves e = record { registers = refl; slots = refl }

pub same_value : (e e' : Data) → SameLocations e e' → (l : Location) → value_at l e' ≡ value_at l e
same_value e e' same (InRegister r) = ap (λ rs. get_or rs r None) same.registers
same_value e e' same (InSlot s) = ap (λ ss. get_or ss s None) same.slots

module _ (slots : ℕ) (d : rtl_data.Data) (e : Data) (d' : rtl_data.Data) (e' : Data) (frame : HasFrame slots e) where
  -- a register that was not written
  other_register : (r : ℕ) (v : Option ℕ) → d'.registers ≡ set d.registers r v → (q : ℕ) → eqb r q ≡ false → rtl_data.value_at q d' ≡ rtl_data.value_at q d
  other_register r v is q differs =
      ap (λ rs. get_or rs q None) is ∙ get_or-set_other d.registers r q v None (λ same. eqb-false r q differs (sym same))

  defined_holds : (r : ℕ) (k : Location) → IsDefined r k d e d' e' → (q : Equation) → LocationFits slots q.location → DemandHolds d e (through_result r k q) → Holds d' e' q
  defined_holds r k c q fits demanded = at (eqb r q.register) (same_location k q.location) refl refl demanded
    where
      at : (a b : Bool) → eqb r q.register ≡ a → same_location k q.location ≡ b → DemandHolds d e (cond a (cond b Met Refused) (cond b Refused (Needs q))) → Holds d' e' q
      at true true same_r same_k demanded =
          let register : r ≡ q.register = eqb-true r q.register same_r in
          let location : k ≡ q.location = is_same k q.location same_k in
          let second : value_at q.location e' ≡ c.second =
          same_value (put_at k c.second e) e' c.locations q.location
          ∙ ap (λ l. value_at q.location (put_at l c.second e)) location
          ∙ value_put_same slots q.location c.second e frame fits in
          let first : rtl_data.value_at q.register d' ≡ get_or (set d.registers r c.first) r None =
          ap (λ rs. get_or rs q.register None) c.registers ∙ ap (λ n. get_or (set d.registers r c.first) n None) (sym register) in
          covers_same first second (covers_set d.registers r c.first c.second c.covers)
      at true false same_r same_k demanded = absurd demanded
      at false true same_r same_k demanded = absurd demanded
      at false false same_r same_k demanded =
          covers_same
          (other_register r c.first c.registers q.register same_r)
          (same_value (put_at k c.second e) e' c.locations q.location ∙ value_put_other k q.location c.second e (is_other k q.location same_k))
          demanded

  dropped_holds : (r : ℕ) → IsDropped r d e d' e' → (q : Equation) → DemandHolds d e (through (Drops r) q) → Holds d' e' q
  dropped_holds r c q demanded = at (eqb r q.register) refl demanded
    where
      at : (a : Bool) → eqb r q.register ≡ a → DemandHolds d e (cond a Refused (Needs q)) → Holds d' e' q
      at true same demanded = absurd demanded
      at false same demanded = covers_same (other_register r c.value c.registers q.register same) (same_value e e' c.locations q.location) demanded

  copied_holds : (target source : ℕ) → IsCopied target source d e d' e' → (q : Equation) → DemandHolds d e (through (Copies target source) q) → Holds d' e' q
  copied_holds target source c q demanded = at (eqb target q.register) refl demanded
    where
      at : (a : Bool) → eqb target q.register ≡ a → DemandHolds d e (cond a (Needs (record q { register = source })) (Needs q)) → Holds d' e' q
      at true same demanded =
          let register : target ≡ q.register = eqb-true target q.register same in
          let first : rtl_data.value_at q.register d' ≡ get_or (set d.registers target (rtl_data.value_at source d)) target None =
          ap (λ rs. get_or rs q.register None) c.registers ∙ ap (λ n. get_or (set d.registers target (rtl_data.value_at source d)) n None) (sym register) in
          covers_same first (same_value e e' c.locations q.location)
          (covers_set d.registers target (rtl_data.value_at source d) (value_at q.location e) demanded)
      at false same demanded =
          covers_same (other_register target (rtl_data.value_at source d) c.registers q.register same) (same_value e e' c.locations q.location) demanded

  pub through_holds : (change : Change) → Changed change d e d' e' → (q : Equation) → LocationFits slots q.location → DemandHolds d e (through change q) → Holds d' e' q
  through_holds Nothing c q fits demanded = covers_same (ap (λ rs. get_or rs q.register None) c.registers) (same_value e e' c.locations q.location) demanded
  through_holds (Defines r k) c q fits demanded = defined_holds r k c q fits demanded
  through_holds (Drops r) c q fits demanded = dropped_holds r c q demanded
  through_holds (Copies target source) c q fits demanded = copied_holds target source c q demanded

-- ---- over a call

survives : (rs : List (Option ℕ)) (r : ℕ) → 4 ≤ r → get_or (after_call rs) r None ≡ get_or rs r None
survives rs r high =
    let n3 : r ≢ 3 = omega arith in
    let n2 : r ≢ 2 = omega arith in
    let n1 : r ≢ 1 = omega arith in
    let n0 : r ≢ 0 = omega arith in
    get_or-set_other (set (set (set rs 0 None) 1 None) 2 None) 3 r None None n3
    ∙ get_or-set_other (set (set rs 0 None) 1 None) 2 r None None n2
    ∙ get_or-set_other (set rs 0 None) 1 r None None n1
    ∙ get_or-set_other rs 0 r None None n0

module _ (d : rtl_data.Data) (e : Data) (d' : rtl_data.Data) (e' : Data) (back : IsBack d e d' e') where
  value_survives : (l : Location) → is_lost l ≡ false → value_at l e' ≡ value_at l e
  value_survives (InRegister r) kept = ap (λ rs. get_or rs r None) back.locations ∙ survives e.registers r (ltb-false r 4 kept)
  value_survives (InSlot s) kept = ap (λ ss. get_or ss s None) back.slots

  -- what is demanded over a call still holds when the caller goes on
  pub over_call_holds : (demand : Demand) → DemandHolds d e (over_call demand) → DemandHolds d' e' demand
  over_call_holds Met demanded = tt
  over_call_holds Refused demanded = demanded
  over_call_holds (Needs q) demanded = at (is_lost q.location) refl demanded
    where
      at : (b : Bool) → is_lost q.location ≡ b → DemandHolds d e (cond b Refused (Needs q)) → Holds d' e' q
      at true lost demanded = absurd demanded
      at false lost demanded = covers_same (ap (λ rs. get_or rs q.register None) back.registers) (value_survives q.location lost) demanded

-- the result of a call goes where both want it
pub result_changed : (target : Option ℕ) (location : Option Location) (change : Change) → result_change target location ≡ Some change → (value : Option ℕ) (d : rtl_data.Data) (e : Data) → Changed change d e (rtl_acts.with_result target value d) (with_result location value e)
result_changed None None change is value d e =
    let same : Nothing ≡ change = cc in
    subst (λ c. Changed c d e d e) same (record { registers = refl; locations = locations_themselves e })
result_changed None (Some l) change is value d e = cc (is)
result_changed (Some r) None change is value d e = cc (is)
result_changed (Some r) (Some l) change is value d e =
    let same : Defines r l ≡ change = cc in
    subst (λ c. Changed c d e (rtl_data.put_at r value d) (put_at l value e)) same
    (record { first = value; second = value; covers = covers_itself value; registers = refl; locations = locations_themselves (put_at l value e) })

-- ---- moves

-- an equation holds behind moves where it held of the origin
pub moves_hold : (slots : ℕ) (ms : List Move) (d : rtl_data.Data) (e : Data) → HasFrame slots e → AllByRecursion (MoveFits slots) ms → (q : Equation) → Holds d e (back_equation ms q) → Holds d (all_moved ms e) q
moves_hold slots ms d e frame fits q holds = covers_same refl (value_moves slots ms q.location e frame fits) holds
