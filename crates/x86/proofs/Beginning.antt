-- What is shown of a program that has a main.
use Rattle.std.proofs.Common.{◌≡◌, ℕ, zero, suc, ◌<◌, List, [], ◌∷◌, length, Option, Some, refl, sym, ap, ◌∙◌, arith}
use Rattle.std.specs.Prelude.{slice_get}
use Rattle.std.specs.Option.{option_map}
use Rattle.lang_base.specs.declared.program.Global.{Global}
use Rattle.lang_base.specs.declared.program.Named.{Named}
use Rattle.lang_base.specs.declared.program.Program.{Program}
use Rattle.lang_running_cells.specs.Frames.{main_number}
use Rattle.x86_syntax.specs.declared.function.Function.{Function}
use Rattle.x86_state.specs.State.{State}
use Rattle.x86_state.specs.Shows.{Shows, shows}
use Rattle.x86.specs.Meaning.{takes_none, next, begins, shows_from, native}

get_within : {A : Type 0} (xs : List A) (k : ℕ) → k < length xs → (x : A) × (slice_get xs k ≡ Some x)
get_within [] k here = absurd (omega arith)
get_within (x ∷ xs) zero here = (x, refl)
get_within (x ∷ xs) (suc k) here = get_within xs k (omega arith)

module _ (limit : ℕ) (junk : ℕ → ℕ) (room : Option ℕ) where
  -- what is shown where the function of this number begins, if it is there
  abbrev from : List (Named Function) → List Global → ℕ → Shows
  from functions globals number = shows_from functions room limit (option_map (λ (main : Named Function). begins globals junk number) (slice_get functions number))

  pub run_shows : (p : Program Function) (functions : List (Named Function)) (globals : List Global) (number : ℕ) (s : State) (shown : Shows)
      → functions ≡ p.functions → globals ≡ p.globals → number ≡ main_number takes_none functions → number < length functions
      → s ≡ begins globals junk number → shows (next functions room) limit s ≡ shown → shown ≡ native p junk room limit
  run_shows p functions globals number s shown same also main there state shows_so =
      let at = get_within functions number there in
      let first : from functions globals number ≡ shows (next functions room) limit (begins globals junk number) =
      ap (λ o. shows_from functions room limit (option_map (λ (m : Named Function). begins globals junk number) o)) at.1 in
      sym shows_so ∙ ap (shows (next functions room) limit) state ∙ sym first ∙ ap (from functions globals) main
      ∙ ap (λ fs. from fs globals (main_number takes_none fs)) same ∙ ap (λ gs. from p.functions gs (main_number takes_none p.functions)) also
