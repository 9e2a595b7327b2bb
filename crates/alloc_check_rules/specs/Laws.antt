-- What each part of the rules is enough for.
use Rattle.std.specs.Prelude.{◌≡◌, ℕ, List, length, Option, Some, None, Bool, true, All, replicate, ◌≤◌, ◌^◌, ◌++◌, ◌↔◌}
use Rattle.std.specs.declared.cmp.Ordering.TheVariants.{Less}
use Rattle.std.specs.Ordering.{nat_cmp}
use Rattle.std.specs.Cmp.Lexicographic.{slice_cmp}
use Rattle.locations.specs.declared.location.Location.{Location}
use Rattle.locations.specs.declared.location.Move.{Move}
use Rattle.locations.specs.Fits.{LocationFits, MovesFit, ParametersFit}
use Rattle.locations.specs.Spelling.{location_text}
use Rattle.rtl_passes.specs.RtlActsSpelling.{register_text}
use Rattle.rtl_passes.specs.Act.{Act}
use Rattle.rtl_passes.specs.Test.{Test}
use Rattle.rtl_passes.specs.Data as rtl_data
use Rattle.rtl_passes.specs.Acts as rtl_acts
use Rattle.rtl_passes.specs.Fits as rtl_fits
use Rattle.rtl_passes.specs.Frames as rtl_frames
use Rattle.ltl.specs.Act as machine_act
use Rattle.ltl.specs.Test as machine_test
use Rattle.ltl.specs.Data.{Data, value_at, all_moved}
use Rattle.ltl.specs.Acts.{holds}
use Rattle.ltl.specs.Calls.{with_arguments}
use Rattle.ltl.specs.Meaning.{does_any}
use Rattle.alloc_check_rules.specs.declared.equation.Equation as equation
use Rattle.alloc_check_rules.specs.declared.change.Change as change
use Rattle.alloc_check_rules.specs.declared.demand.Demand as demand
use Rattle.alloc_check_rules.specs.Equations.{back, through, over_call}
use Rattle.alloc_check_rules.specs.Pairs.{act_change, act_uses, same_test, arguments_used}
use Rattle.alloc_check_rules.specs.Rules.{EquationFits, IsBefore, HoldsAtEntry}
use Rattle.alloc_check_rules.specs.Holding.{AllCover, Holds, DemandHolds, HasFrame}
use Rattle.alloc_check_rules.specs.Steps.{Changed, IsBack, IsDone}

-- what a location holds behind moves, the location that is found by going back through them held before
abbrev pub OriginsHold : Type 0
OriginsHold = (slots : ℕ) (ms : List Move) (l : Location) (e : Data) → HasFrame slots e → MovesFit slots ms → value_at l (all_moved ms e) ≡ value_at (back ms l) e

-- an equation holds behind an instruction and its body if what it demands held before
abbrev pub DemandsSuffice : Type 0
DemandsSuffice = (slots : ℕ) (d : rtl_data.Data) (e : Data) (d' : rtl_data.Data) (e' : Data) → HasFrame slots e → (c : change.Change) → Changed c d e d' e' → (q : equation.Equation) → LocationFits slots q.location → DemandHolds d e (through c q) → Holds d' e' q

-- what is demanded over a call still holds when the caller goes on
abbrev pub CallsKeep : Type 0
CallsKeep = (d : rtl_data.Data) (e : Data) (d' : rtl_data.Data) (e' : Data) → IsBack d e d' e' → (n : demand.Demand) → DemandHolds d e (over_call n) → DemandHolds d' e' n

-- where the words that are used are found, an act that stands for another does what that does
abbrev pub ActsAgree : Type 0
ActsAgree = (d : rtl_data.Data) (e : Data) → e.globals ≡ d.globals → e.output ≡ d.output → (a : Act) (b : Option machine_act.Act) (c : change.Change) → act_change a b ≡ Some c → All (Holds d e) (act_uses a b) → (d' : rtl_data.Data) → rtl_acts.does a d ≡ Some d' → IsDone c d e d' (does_any b e)

-- where the words that are used are found, a test that stands for another has its answer
abbrev pub TestsAgree : Type 0
TestsAgree = (d : rtl_data.Data) (e : Data) (test : Test) (other : machine_test.Test) → same_test test other ≡ true → All (Holds d e) (arguments_used test.arguments other.arguments) → (answer : Bool) → rtl_acts.holds test d ≡ Some answer → holds other e ≡ Some answer

-- an equation that may stand at the entry holds wherever the function is called
abbrev pub EntriesHold : Type 0
EntriesHold = (registers slots : ℕ) (ps : List ℕ) (ls : List Location) → rtl_fits.ParametersFit registers ps → ParametersFit slots ls → (vs ws : List (Option ℕ)) → AllCover vs ws → length vs ≡ length ps → (d : rtl_data.Data) (e : Data) → d.registers ≡ rtl_frames.with_arguments ps vs (replicate registers None) → HasFrame slots e → (q : equation.Equation) → HoldsAtEntry ps ls q → Holds d (with_arguments ls ws e) q

-- the order of a list is that of its equations' written bytes
abbrev pub OrderIsOfBytes : Type 0
OrderIsOfBytes = (registers slots : ℕ) → registers ≤ 2 ^ 16 → slots ≤ 2 ^ 16 → (p q : equation.Equation) → EquationFits registers slots p → EquationFits registers slots q → (IsBefore p q ↔ (slice_cmp nat_cmp (register_text p.register ++ location_text p.location) (register_text q.register ++ location_text q.location) ≡ Less))
