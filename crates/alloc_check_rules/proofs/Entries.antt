-- Where a function begins, its parameters' locations hold the words of its parameters' registers.
use Rattle.std.proofs.Common.{◌≡◌, ◌≢◌, ℕ, zero, suc, ◌<◌, List, [], ◌∷◌, length, get_or, set, Option, None, refl, sym, ap, ◌∙◌, subst, arith, inl, inr}
use Rattle.std.specs.Prelude.{All, map, replicate}
use Rattle.std.specs.List.{AllByRecursion}
use Rattle.std.proofs.lemmas.List.{get_or-set_other}
use Rattle.std.proofs.lemmas.List.Elements.{recursion_from_All, All-tail}
use Rattle.locations.specs.declared.location.Location.{Location}
use Rattle.locations.specs.Fits.{LocationFits, AreDistinct, ParametersFit}
use Rattle.rtl_passes.specs.Data as rtl_data
use Rattle.rtl_passes.specs.Fits as rtl_fits
use Rattle.rtl_passes.specs.Frames as rtl_frames
use Rattle.ltl.specs.Data.{Data, value_at, put_at}
use Rattle.ltl.specs.Calls.{values_of, with_arguments}
use Rattle.ltl.proofs.Outputs.{output-put_at}
use Rattle.alloc_check_rules.specs.declared.equation.Equation.{Equation}
use Rattle.alloc_check_rules.specs.Pairs.{equations_of}
use Rattle.alloc_check_rules.specs.Rules.{HoldsAtEntry}
use Rattle.alloc_check_rules.specs.Holding.{Covers, AllCover, Holds, HasFrame}
use Rattle.alloc_check_rules.proofs.Locations.{covers_none, covers_same, covers_set, value_put_same, value_put_other, frame_put, globals_put}

-- ---- arguments

pub values_covered : (d : rtl_data.Data) (e : Data) (names : List ℕ) (locations : List Location) → length names ≡ length locations → All (Holds d e) (equations_of names locations) → AllCover (map (λ a. rtl_data.value_at a d) names) (values_of locations e)
values_covered d e [] [] same used = tt
values_covered d e [] (l ∷ ls) same used = absurd (omega (arith, same))
values_covered d e (r ∷ rs) [] same used = absurd (omega (arith, same))
values_covered d e (r ∷ rs) (l ∷ ls) same used = (
  used 0 (record { register = r; location = l }) (omega arith),
  values_covered d e rs ls (omega (arith, same)) (All-tail (Holds d e) (record { register = r; location = l }) (equations_of rs ls) used),
)

-- ---- what arguments leave as it was

kept_register : (ps : List ℕ) (vs rs : List (Option ℕ)) (r : ℕ) → AllByRecursion (λ p. r ≢ p) ps → get_or (rtl_frames.with_arguments ps vs rs) r None ≡ get_or rs r None
kept_register [] vs rs r other = refl
kept_register (p ∷ ps) [] rs r other = refl
kept_register (p ∷ ps) (v ∷ vs) rs r other = kept_register ps vs (set rs p v) r other.1 ∙ get_or-set_other rs p r v None other.0

kept_location : (ls : List Location) (vs : List (Option ℕ)) (e : Data) (l : Location) → AllByRecursion (λ k. l ≢ k) ls → value_at l (with_arguments ls vs e) ≡ value_at l e
kept_location [] vs e l other = refl
kept_location (k ∷ ls) [] e l other = refl
kept_location (k ∷ ls) (v ∷ vs) e l other = kept_location ls vs (put_at k v e) l other.1 ∙ value_put_other k l v e other.0

pub frame_arguments : (slots : ℕ) (ls : List Location) (vs : List (Option ℕ)) (e : Data) → HasFrame slots e → HasFrame slots (with_arguments ls vs e)
frame_arguments slots [] vs e frame = frame
frame_arguments slots (l ∷ ls) [] e frame = frame
frame_arguments slots (l ∷ ls) (v ∷ vs) e frame = frame_arguments slots ls vs (put_at l v e) (frame_put slots l v e frame)

pub globals_arguments : (ls : List Location) (vs : List (Option ℕ)) (e : Data) → (with_arguments ls vs e).globals ≡ e.globals
globals_arguments [] vs e = refl
globals_arguments (l ∷ ls) [] e = refl
globals_arguments (l ∷ ls) (v ∷ vs) e = globals_arguments ls vs (put_at l v e) ∙ globals_put l v e

pub output_arguments : (ls : List Location) (vs : List (Option ℕ)) (e : Data) → (with_arguments ls vs e).output ≡ e.output
output_arguments [] vs e = refl
output_arguments (l ∷ ls) [] e = refl
output_arguments (l ∷ ls) (v ∷ vs) e = output_arguments ls vs (put_at l v e) ∙ output-put_at l v e

pub nothing_there : (n r : ℕ) → get_or {A = Option ℕ} (replicate n None) r None ≡ None
nothing_there zero r = refl
nothing_there (suc n) zero = refl
nothing_there (suc n) (suc r) = nothing_there n r

-- ---- parameters

module _ (slots : ℕ) where
  -- the equation with this number in the lists holds
  parameter_holds : (ps : List ℕ) (ls : List Location) (vs ws rs : List (Option ℕ)) (e : Data) → HasFrame slots e → AreDistinct ps → AreDistinct ls → AllByRecursion (LocationFits slots) ls → AllCover vs ws → length vs ≡ length ps → (q : Equation) (k : ℕ) → k < length (equations_of ps ls) → get_or (equations_of ps ls) k q ≡ q → Covers (get_or (rtl_frames.with_arguments ps vs rs) q.register None) (value_at q.location (with_arguments ls ws e))
  parameter_holds [] ls vs ws rs e frame dp dl there cover same q k below is = absurd (omega (arith, below))
  parameter_holds (p ∷ ps) [] vs ws rs e frame dp dl there cover same q k below is = absurd (omega (arith, below))
  parameter_holds (p ∷ ps) (l ∷ ls) [] ws rs e frame dp dl there cover same q k below is = absurd (omega (arith, same))
  parameter_holds (p ∷ ps) (l ∷ ls) (v ∷ vs) [] rs e frame dp dl there cover same q k below is = absurd cover
  parameter_holds (p ∷ ps) (l ∷ ls) (v ∷ vs) (w ∷ ws) rs e frame dp dl there cover same q zero below is =
      subst (λ x. Covers (get_or (rtl_frames.with_arguments ps vs (set rs p v)) x.register None) (value_at x.location (with_arguments ls ws (put_at l w e)))) is
      (covers_same
      (kept_register ps vs (set rs p v) p dp.0)
      (kept_location ls ws (put_at l w e) l dl.0 ∙ value_put_same slots l w e frame there.0)
      (covers_set rs p v w cover.0))
  parameter_holds (p ∷ ps) (l ∷ ls) (v ∷ vs) (w ∷ ws) rs e frame dp dl there cover same q (suc k) below is =
      parameter_holds ps ls vs ws (set rs p v) (put_at l w e) (frame_put slots l w e frame) dp.1 dl.1 there.1 cover.1 (omega (arith, same)) q k (omega (arith, below)) is

-- an equation that may stand at the entry holds there
pub entry_holds : (registers slots : ℕ) (ps : List ℕ) (ls : List Location) → rtl_fits.ParametersFit registers ps → ParametersFit slots ls → (vs ws : List (Option ℕ)) → AllCover vs ws → length vs ≡ length ps → (d : rtl_data.Data) (e : Data) → d.registers ≡ rtl_frames.with_arguments ps vs (replicate registers None) → HasFrame slots e → (q : Equation) → HoldsAtEntry ps ls q → Holds d (with_arguments ls ws e) q
entry_holds registers slots ps ls first second vs ws cover same d e is frame q (inl among) =
    covers_same (ap (λ rs. get_or rs q.register None) is) refl
    (parameter_holds slots ps ls vs ws (replicate registers None) e frame first.distinct second.distinct second.each cover same q among.0 among.1 among.2)
entry_holds registers slots ps ls first second vs ws cover same d e is frame q (inr alone) =
    covers_none _ _ (ap (λ rs. get_or rs q.register None) is ∙ kept_register ps vs (replicate registers None) q.register (recursion_from_All (λ p. q.register ≢ p) ps (λ k p below same'. alone.register k p below (sym same'))) ∙ nothing_there registers q.register)
