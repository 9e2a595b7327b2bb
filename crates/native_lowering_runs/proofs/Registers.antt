-- The native registers of Linear's eight are the first eight, in order; the scratch registers come behind them.
use Rattle.std.proofs.Common.{◌≡◌, ◌≢◌, ℕ, zero, suc, ◌<◌, List, length, refl, ap, arith}
use Rattle.std.specs.Prelude.{slice_index, slice_set}
use Rattle.std.proofs.lemmas.List.{get_or-set_same, get_or-set_other}
use Rattle.x86_syntax.specs.Registers.{number_of}
use Rattle.x86_syntax.specs.declared.register.Register.{Register}
use Rattle.x86_state.specs.Registers.{word_in, with_word}
use Rattle.native_lowering_definition.specs.Locations.{register_of}

pub number_is : (r : ℕ) → r < 8 → number_of (register_of r) ≡ r
unfolding number_of
number_is zero h = refl
number_is (suc zero) h = refl
number_is (suc (suc zero)) h = refl
number_is (suc (suc (suc zero))) h = refl
number_is (suc (suc (suc (suc zero)))) h = refl
number_is (suc (suc (suc (suc (suc zero))))) h = refl
number_is (suc (suc (suc (suc (suc (suc zero)))))) h = refl
number_is (suc (suc (suc (suc (suc (suc (suc zero))))))) h = refl
number_is (suc (suc (suc (suc (suc (suc (suc (suc r)))))))) h = absurd (omega arith)

pub word_is_at : (r : ℕ) (words : List ℕ) → r < 8 → word_in (register_of r) words ≡ slice_index words r
word_is_at r words h = ap (slice_index words) (number_is r h)

pub with_word_at : (r w : ℕ) (words : List ℕ) → r < 8 → with_word (register_of r) w words ≡ slice_set words r w
with_word_at r w words h = ap (λ n. slice_set words n w) (number_is r h)

pub word_put : (r : Register) (w : ℕ) (words : List ℕ) → number_of r < length words → word_in r (with_word r w words) ≡ w
word_put r w words h = get_or-set_same words (number_of r) w 0 h

pub word_other : (q r : Register) (w : ℕ) (words : List ℕ) → number_of q ≢ number_of r → word_in q (with_word r w words) ≡ word_in q words
word_other q r w words apart = get_or-set_other words (number_of r) (number_of q) w 0 apart
