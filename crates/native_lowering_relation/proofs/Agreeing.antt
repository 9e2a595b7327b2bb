-- What agrees word by word.
use Rattle.std.proofs.Common.{◌≡◌, ℕ, zero, suc, ◌<◌, ◌≤◌, List, [], ◌∷◌, length, Option, Some, None, refl, ◌∙◌, arith}
use Rattle.std.specs.Prelude.{slice_index, slice_index_or, slice_set}
use Rattle.native_lowering_relation.specs.Agreeing.{Agrees, AgreeEach}

-- what stands at a place agrees
pub agree_at : (vs : List (Option ℕ)) (ws : List ℕ) (r : ℕ) → AgreeEach vs ws → Agrees (slice_index_or vs r None) (slice_index ws r)
agree_at [] ws zero agree = tt
agree_at [] ws (suc r) agree = tt
agree_at (v ∷ vs) [] r agree = absurd agree
agree_at (v ∷ vs) (w ∷ ws) zero agree = agree.0
agree_at (v ∷ vs) (w ∷ ws) (suc r) agree = agree_at vs ws r agree.1

-- a word that is defined is that
pub word_is : (v : Option ℕ) (w x : ℕ) → Agrees v w → v ≡ Some x → w ≡ x
word_is None w x agrees e = cc
word_is (Some y) w x agrees e = let same : y ≡ x = cc in agrees ∙ same

pub agrees_itself : (x : ℕ) → Agrees (Some x) x
agrees_itself x = refl

-- both changed at a place
pub agree_set : (vs : List (Option ℕ)) (ws : List ℕ) (r w : ℕ) (v : Option ℕ) → AgreeEach vs ws → Agrees v w → AgreeEach (slice_set vs r v) (slice_set ws r w)
agree_set [] ws zero w v agree agrees = tt
agree_set [] ws (suc r) w v agree agrees = tt
agree_set (x ∷ vs) [] r w v agree agrees = absurd agree
agree_set (x ∷ vs) (y ∷ ws) zero w v agree agrees = (agrees, agree.1)
agree_set (x ∷ vs) (y ∷ ws) (suc r) w v agree agrees = (agree.0, agree_set vs ws r w v agree.1 agrees)

-- the second changed past the end of the first
pub agree_past : (vs : List (Option ℕ)) (ws : List ℕ) (n w : ℕ) → AgreeEach vs ws → length vs ≤ n → AgreeEach vs (slice_set ws n w)
agree_past [] ws n w agree past = tt
agree_past (v ∷ vs) [] n w agree past = absurd agree
agree_past (v ∷ vs) (x ∷ ws) zero w agree past = absurd (omega arith)
agree_past (v ∷ vs) (x ∷ ws) (suc n) w agree past = (agree.0, agree_past vs ws n w agree.1 (omega arith))

-- from place to place
pub agree_from : (vs : List (Option ℕ)) (ws : List ℕ) → length vs ≤ length ws → ((r : ℕ) → r < length vs → Agrees (slice_index_or vs r None) (slice_index ws r)) → AgreeEach vs ws
agree_from [] ws few each = tt
agree_from (v ∷ vs) [] few each = absurd (omega arith)
agree_from (v ∷ vs) (w ∷ ws) few each = (each 0 (omega arith), agree_from vs ws (omega arith) (λ r h. each (suc r) (omega arith)))
