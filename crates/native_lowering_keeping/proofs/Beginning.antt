-- Where a run begins: main, its globals, and words in range.
use Rattle.std.proofs.Common.{◌≡◌, ℕ, zero, suc, ◌<◌, ◌^◌, Bool, true, false, ◌&&◌, List, [], ◌∷◌, length, map, Some, refl, sym, ap, subst, ◌∙◌, lit<}
use Rattle.std.specs.Prelude.{◌==◌, slice_get, if◌then◌else◌, codes}
use Rattle.std.specs.List.{AllByRecursion}
use Rattle.std.specs.Option.{option_map}
use Rattle.std.specs.Str.{bytes_eq}
use Rattle.std.proofs.lemmas.Bool.{eqb-true}
use Rattle.lang_base.specs.declared.program.Global.{Global}
use Rattle.lang_base.specs.declared.program.Named.{Named}
use Rattle.lang_base.specs.declared.program.Program.{Program}
use Rattle.locations.specs.declared.location.Location.{Location}
use Rattle.machine.specs.Calls.{with_arguments}
use Rattle.machine.specs.Data.{Data}
use Rattle.machine.specs.Frames.{cells_of, main_number, begins}
use Rattle.linear_language.specs.Function.{FunctionData}
use Rattle.linear_language.specs.Meaning.{takes_none}
use Rattle.x86.specs.Meaning.{takes_none as native_takes_none}
use Rattle.native_lowering_definition.specs.Lowering.{function_of}
use Rattle.native_lowering_ranges.specs.InRange.{InRange}
use Rattle.native_lowering_ranges.proofs.Words.{same_some, none_words}

-- the words that are listed
pub record GlobalInRange (g : Global) : Type 0 where
  pub words : AllByRecursion (λ w. w < 2 ^ 32) g.first_words

count_cells : (n : ℕ) (ws : List ℕ) → length (cells_of (record { cells = n; first_words = ws })) ≡ n
count_cells zero ws = refl
count_cells (suc n) [] = ap suc (count_cells n [])
count_cells (suc n) (w ∷ ws) = ap suc (count_cells n ws)

cell_words : (n : ℕ) (ws : List ℕ) (i x : ℕ) → AllByRecursion (λ w. w < 2 ^ 32) ws → slice_get (cells_of (record { cells = n; first_words = ws })) i ≡ Some x → x < 2 ^ 32
cell_words zero ws i x fits e = cc
cell_words (suc n) [] zero x fits e = subst (λ y. y < 2 ^ 32) (same_some 0 x e) (lit< tt)
cell_words (suc n) [] (suc i) x fits e = cell_words n [] i x tt e
cell_words (suc n) (w ∷ ws) zero x fits e = subst (λ y. y < 2 ^ 32) (same_some w x e) fits.0
cell_words (suc n) (w ∷ ws) (suc i) x fits e = cell_words n ws i x fits.1 e

cells_fit : (globals : List Global) (k i x : ℕ) (cells : List ℕ) → AllByRecursion GlobalInRange globals → slice_get (map cells_of globals) k ≡ Some cells → slice_get cells i ≡ Some x → x < 2 ^ 32
cells_fit [] k i x cells fit at in_it = cc
cells_fit (g ∷ globals) zero i x cells fit at in_it = cell_words g.cells g.first_words i x fit.0.words (ap (λ cs. slice_get cs i) (same_some (cells_of g) cells at) ∙ in_it)
cells_fit (g ∷ globals) (suc k) i x cells fit at in_it = cells_fit globals k i x cells fit.1 at in_it

cells_declared : (globals : List Global) (k : ℕ) (cells : List ℕ) → slice_get (map cells_of globals) k ≡ Some cells → option_map (λ (g : Global). g.cells) (slice_get globals k) ≡ Some (length cells)
cells_declared [] k cells at = cc
cells_declared (g ∷ globals) zero cells at = ap (λ n. Some n) (sym (count_cells g.cells g.first_words) ∙ ap length (same_some (cells_of g) cells at))
cells_declared (g ∷ globals) (suc k) cells at = cells_declared globals k cells at

pub begins_in_range : (globals : List Global) (number slots : ℕ) → AllByRecursion GlobalInRange globals → InRange globals (begins globals number 0 slots)
begins_in_range globals number slots fit = record {
  here = record {
    registers = none_words 8;
    slots = none_words slots;
    globals = λ k i x cells at in_it. cells_fit globals k i x cells fit at in_it;
    declared_so = λ k cells at. cells_declared globals k cells at;
  };
  callers = tt;
}

-- ---- main

module _ (p : Program FunctionData) where
  pub number_same : (fs : List (Named FunctionData))
      → main_number native_takes_none (map (λ (f : Named FunctionData). record { name = f.name; function = function_of p f.function }) fs) ≡ main_number takes_none fs
  number_same [] = refl
  number_same (f ∷ fs) = ap (λ n. if bytes_eq f.name (codes "main") && (length f.function.parameters == 0) then 0 else suc n) (number_same fs)

second : (a b : Bool) → (a && b) ≡ true → b ≡ true
second true b e = e
second false b e = cc

pub main_takes : (fs : List (Named FunctionData)) (main : Named FunctionData) → slice_get fs (main_number takes_none fs) ≡ Some main → length main.function.parameters ≡ 0
main_takes [] main at = cc
main_takes (f ∷ fs) main at = by (bytes_eq f.name (codes "main") && takes_none f.function) refl (main_takes fs main) at
  where
    by : (b : Bool) → (bytes_eq f.name (codes "main") && takes_none f.function) ≡ b → (slice_get fs (main_number takes_none fs) ≡ Some main → length main.function.parameters ≡ 0)
        → slice_get (f ∷ fs) (if b then 0 else suc (main_number takes_none fs)) ≡ Some main → length main.function.parameters ≡ 0
    by true e later at =
        let same : f ≡ main = same_some f main at in
        subst (λ (x : Named FunctionData). length x.function.parameters ≡ 0) same
        (eqb-true (length f.function.parameters) 0 (second (bytes_eq f.name (codes "main")) (takes_none f.function) e))
    by false e later at = later at

pub no_arguments : (ls : List Location) (d : Data) → with_arguments ls [] d ≡ d
no_arguments [] d = refl
no_arguments (l ∷ ls) d = refl
