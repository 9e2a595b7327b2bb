-- What a location holds after something was put at one, and after moves.
use Rattle.std.proofs.Common.{◌≡◌, ◌≢◌, ℕ, List, [], ◌∷◌, length, get_or, set, Option, None, Bool, true, false, cond, refl, sym, ap, ◌∙◌, subst, arith, inl, inr}
use Rattle.std.specs.List.{AllByRecursion}
use Rattle.std.proofs.lemmas.Bool.{eqb-true, eq-eqb, cases_lt}
use Rattle.std.proofs.lemmas.List.{length-set, get_or-set_same, get_or-set_other, get_or_past}
use Rattle.locations.specs.declared.location.Location.{Location}
use Rattle.locations.specs.declared.location.Location.TheVariants.{InRegister, InSlot}
use Rattle.locations.specs.declared.location.Move.{Move}
use Rattle.locations.specs.Fits.{LocationFits, MoveFits}
use Rattle.locations.specs.Reading.{same_location}
use Rattle.ltl.specs.Data.{Data, value_at, put_at, moved, all_moved}
use Rattle.alloc_check_rules.specs.Equations.{back_move, back}
use Rattle.alloc_check_rules.specs.Holding.{Covers, HasFrame}

-- ---- values

pub covers_itself : (x : Option ℕ) → Covers x x
covers_itself x = record { by = λ w e. e }

pub covers_none : (x y : Option ℕ) → x ≡ None → Covers x y
covers_none x y none = record { by = λ w e. cc }

pub covers_same : {x y x' y' : Option ℕ} → x' ≡ x → y' ≡ y → Covers x y → Covers x' y'
covers_same {x} {y} {x'} {y'} ex ey c = record { by = λ w e. ey ∙ c.by w (sym ex ∙ e) }

-- what was put into a register, if the register is there
pub covers_set : (rs : List (Option ℕ)) (r : ℕ) (v y : Option ℕ) → Covers v y → Covers (get_or (set rs r v) r None) y
covers_set rs r v y c =
    elim (cases_lt r (length rs)) [
      | inl below ↦ covers_same (get_or-set_same rs r v None below) refl c
      | inr past ↦ covers_none _ y (get_or_past (set rs r v) r None (omega (arith, past, length-set rs r v)))
    ]

-- ---- tests of locations

pub is_same : (k l : Location) → same_location k l ≡ true → k ≡ l
is_same (InRegister r) (InRegister q) e = ap (λ n. InRegister n) (eqb-true r q e)
is_same (InRegister r) (InSlot s) e = cc (e)
is_same (InSlot s) (InRegister r) e = cc (e)
is_same (InSlot s) (InSlot t) e = ap (λ n. InSlot n) (eqb-true s t e)

pub same_itself : (k : Location) → same_location k k ≡ true
same_itself (InRegister r) = eq-eqb r r refl
same_itself (InSlot s) = eq-eqb s s refl

pub is_other : (k l : Location) → same_location k l ≡ false → l ≢ k
is_other k l e same = let yes : same_location k k ≡ true = same_itself k in let no : same_location k k ≡ false = subst (λ x. same_location k x ≡ false) same e in cc

-- ---- puts

pub value_put_same : (slots : ℕ) (l : Location) (v : Option ℕ) (e : Data) → HasFrame slots e → LocationFits slots l → value_at l (put_at l v e) ≡ v
value_put_same slots (InRegister r) v e frame fits = get_or-set_same e.registers r v None (omega (arith, fits, frame.registers))
value_put_same slots (InSlot s) v e frame fits = get_or-set_same e.slots s v None (omega (arith, fits, frame.slots))

pub value_put_other : (k l : Location) (v : Option ℕ) (e : Data) → l ≢ k → value_at l (put_at k v e) ≡ value_at l e
value_put_other (InRegister r) (InRegister q) v e other = get_or-set_other e.registers r q v None (λ same. other (ap (λ n. InRegister n) same))
value_put_other (InRegister r) (InSlot s) v e other = refl
value_put_other (InSlot s) (InRegister r) v e other = refl
value_put_other (InSlot s) (InSlot t) v e other = get_or-set_other e.slots s t v None (λ same. other (ap (λ n. InSlot n) same))

pub frame_put : (slots : ℕ) (l : Location) (v : Option ℕ) (e : Data) → HasFrame slots e → HasFrame slots (put_at l v e)
frame_put slots (InRegister r) v e frame = record { registers = length-set e.registers r v ∙ frame.registers; slots = frame.slots }
frame_put slots (InSlot s) v e frame = record { registers = frame.registers; slots = length-set e.slots s v ∙ frame.slots }

pub globals_put : (l : Location) (v : Option ℕ) (e : Data) → (put_at l v e).globals ≡ e.globals
globals_put (InRegister r) v e = refl
globals_put (InSlot s) v e = refl

-- ---- moves

pub frame_moves : (slots : ℕ) (ms : List Move) (e : Data) → HasFrame slots e → HasFrame slots (all_moved ms e)
frame_moves slots [] e frame = frame
frame_moves slots (m ∷ ms) e frame = frame_moves slots ms (moved m e) (frame_put slots m.target (value_at m.source e) e frame)

pub globals_moves : (ms : List Move) (e : Data) → (all_moved ms e).globals ≡ e.globals
globals_moves [] e = refl
globals_moves (m ∷ ms) e = globals_moves ms (moved m e) ∙ globals_put m.target (value_at m.source e) e

value_moved : (slots : ℕ) (m : Move) (l : Location) (e : Data) → HasFrame slots e → LocationFits slots m.target → value_at l (moved m e) ≡ value_at (back_move m l) e
value_moved slots m l e frame fits = at (same_location m.target l) refl
  where
    at : (b : Bool) → same_location m.target l ≡ b → value_at l (moved m e) ≡ value_at (cond b m.source l) e
    at true is =
        let same : m.target ≡ l = is_same m.target l is in
        subst (λ k. value_at k (moved m e) ≡ value_at m.source e) same (value_put_same slots m.target (value_at m.source e) e frame fits)
    at false is = value_put_other m.target l (value_at m.source e) e (is_other m.target l is)

-- what a location holds after moves, its origin held before them
pub value_moves : (slots : ℕ) (ms : List Move) (l : Location) (e : Data) → HasFrame slots e → AllByRecursion (MoveFits slots) ms → value_at l (all_moved ms e) ≡ value_at (back ms l) e
value_moves slots [] l e frame fits = refl
value_moves slots (m ∷ ms) l e frame fits =
    value_moves slots ms l (moved m e) (frame_put slots m.target (value_at m.source e) e frame) fits.1
    ∙ value_moved slots m (back ms l) e frame fits.0.target

back_move_fits : (slots : ℕ) (m : Move) (l : Location) → MoveFits slots m → LocationFits slots l → LocationFits slots (back_move m l)
back_move_fits slots m l fits here = at (same_location m.target l)
  where
    at : (b : Bool) → LocationFits slots (cond b m.source l)
    at true = fits.source
    at false = here

-- the origin of a location that is there is there
pub back_fits : (slots : ℕ) (ms : List Move) (l : Location) → AllByRecursion (MoveFits slots) ms → LocationFits slots l → LocationFits slots (back ms l)
back_fits slots [] l fits here = here
back_fits slots (m ∷ ms) l fits here = back_move_fits slots m (back ms l) fits.0 (back_fits slots ms l fits.1 here)
