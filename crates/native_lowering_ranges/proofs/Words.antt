-- Words that are put somewhere keep lists in range.
use Rattle.std.proofs.Common.{◌≡◌, ◌⊎◌, ℕ, zero, suc, ◌<◌, ◌^◌, List, [], ◌∷◌, replicate, Option, Some, None, inl, inr}
use Rattle.std.specs.Prelude.{slice_index_or, slice_set}
use Rattle.std.specs.List.{AllByRecursion}
use Rattle.lang_base.specs.declared.program.Global.{Global}
use Rattle.locations.specs.declared.location.Location.{Location}
use Rattle.locations.specs.declared.location.Location.TheVariants.{InRegister, InSlot}
use Rattle.locations.specs.declared.location.Move.{Move}
use Rattle.machine.specs.Calls.{values_of, with_arguments}
use Rattle.machine.specs.Data.{Data, value_at, put_at, moved, all_moved}
use Rattle.machine.specs.Frames.{after_call}
use Rattle.native_lowering_ranges.specs.Range.{AreWords}
use Rattle.native_lowering_ranges.specs.InRange.{DataInRange}

pub same_some : {A : Type 0} (x y : A) → Some x ≡ Some y → x ≡ y
same_some x y e = cc

pub never : {A : Type 0} (P : Type 0) (x : A) → None ≡ Some x → P
never P x e = absurd (no e)
  where
    no : None ≡ Some x → ⊥
    no e = cc

-- a word, if it is defined, has 32 bits
abbrev pub IsWord : Option ℕ → Type 0
IsWord v = (x : ℕ) → v ≡ Some x → x < 2 ^ 32

either_at : (vs : List (Option ℕ)) (r : ℕ) (v : Option ℕ) (q x : ℕ) → slice_index_or (slice_set vs r v) q None ≡ Some x → (slice_index_or vs q None ≡ Some x) ⊎ (v ≡ Some x)
either_at [] zero v q x e = inl e
either_at [] (suc r) v q x e = inl e
either_at (y ∷ vs) zero v zero x e = inr e
either_at (y ∷ vs) zero v (suc q) x e = inl e
either_at (y ∷ vs) (suc r) v zero x e = inl e
either_at (y ∷ vs) (suc r) v (suc q) x e = either_at vs r v q x e

pub words_set : (vs : List (Option ℕ)) (r : ℕ) (v : Option ℕ) → AreWords vs → IsWord v → AreWords (slice_set vs r v)
words_set vs r v words word = λ q x e. by x (either_at vs r v q x e) (λ h. words q x h)
  where
    by : (x : ℕ) → {A : Type 0} → A ⊎ (v ≡ Some x) → (A → x < 2 ^ 32) → x < 2 ^ 32
    by x (inl h) old = old h
    by x (inr h) old = word x h

no_word : IsWord None
no_word = λ x e. cc

nothing_at : (n r x : ℕ) → slice_index_or (replicate n None) r None ≡ Some x → x < 2 ^ 32
nothing_at zero zero x e = cc
nothing_at zero (suc r) x e = cc
nothing_at (suc n) zero x e = cc
nothing_at (suc n) (suc r) x e = nothing_at n r x e

pub none_words : (n : ℕ) → AreWords (replicate n None)
none_words n = λ r x e. nothing_at n r x e

pub after_words : (registers : List (Option ℕ)) → AreWords registers → AreWords (after_call registers)
after_words registers words = words_set _ 3 None (words_set _ 2 None (words_set _ 1 None (words_set registers 0 None words no_word) no_word) no_word) no_word

module _ (declared : List Global) where
  pub value_word : (l : Location) (d : Data) → DataInRange declared d → IsWord (value_at l d)
  value_word (InRegister r) d range = range.registers r
  value_word (InSlot s) d range = range.slots s

  pub put_range : (l : Location) (v : Option ℕ) (d : Data) → DataInRange declared d → IsWord v → DataInRange declared (put_at l v d)
  put_range (InRegister r) v d range word = record {
    registers = words_set d.registers r v range.registers word;
    slots = range.slots;
    globals = range.globals;
    declared_so = range.declared_so;
  }
  put_range (InSlot s) v d range word = record {
    registers = range.registers;
    slots = words_set d.slots s v range.slots word;
    globals = range.globals;
    declared_so = range.declared_so;
  }

  pub moved_range : (m : Move) (d : Data) → DataInRange declared d → DataInRange declared (moved m d)
  moved_range m d range = put_range m.target (value_at m.source d) d range (value_word m.source d range)

  pub all_moved_range : (ms : List Move) (d : Data) → DataInRange declared d → DataInRange declared (all_moved ms d)
  all_moved_range [] d range = range
  all_moved_range (m ∷ ms) d range = all_moved_range ms (moved m d) (moved_range m d range)

  pub values_words : (ls : List Location) (d : Data) → DataInRange declared d → AllByRecursion IsWord (values_of ls d)
  values_words [] d range = tt
  values_words (l ∷ ls) d range = (value_word l d range, values_words ls d range)

  pub arguments_range : (ls : List Location) (vs : List (Option ℕ)) (d : Data) → DataInRange declared d → AllByRecursion IsWord vs → DataInRange declared (with_arguments ls vs d)
  arguments_range [] vs d range words = range
  arguments_range (l ∷ ls) [] d range words = range
  arguments_range (l ∷ ls) (v ∷ vs) d range words = arguments_range ls vs (put_at l v d) (put_range l v d range words.0) words.1
