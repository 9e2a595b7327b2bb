-- The pieces of a sequence do what the whole does; they are few, in range, and hardly higher.
use Rattle.std.proofs.Common.{◌≡◌, ℕ, zero, suc, ◌+◌, ◌-◌, ◌*◌, ◌^◌, ◌<◌, ◌≤◌, Bool, true, false, cond, refl, sym, ◌∙◌, ◌⊎◌, inl, inr, arith}
use Rattle.std.specs.Prelude.{nat_le}
use Rattle.std.proofs.lemmas.Bool.{leb-true}
use Rattle.cminor_syntax.specs.Trees.{StatementTree, StatementsTree, Sequence, Done, First}
use Rattle.cminor_syntax.specs.State as V
use Rattle.cminor_syntax.specs.Meaning as M
use Rattle.cminor_syntax.specs.Fits.{StatementFits, StatementsFit, statement_count, statement_height, statements_height}
use Rattle.cminor_lowering.specs.Sequences.{most_statements, cut, pieces, gathered, sequence}

-- ---- what they do

-- what goes on with one thing goes on with its two parts in turn
pub goes_on_then : (f g h : V.State → M.Outcome) → ((t : V.State) → f t ≡ M.goes_on g (h t)) → (o : M.Outcome) → M.goes_on f o ≡ M.goes_on g (M.goes_on h o)
goes_on_then f g h then (M.Falls t) = then t
goes_on_then f g h then (M.Exits n t) = refl
goes_on_then f g h then (M.Returns w t) = refl
goes_on_then f g h then (M.RunsOut printed) = refl
goes_on_then f g h then (M.Fails printed) = refl

module _ (lower : M.Level) where
  exec_cut : (left : ℕ) (ss : StatementsTree) (t : V.State) →
      M.exec_all lower ss t ≡ M.goes_on (M.exec_all lower (cut left ss).behind) (M.exec_all lower (cut left ss).piece t)
  exec_cut left Done t = refl
  exec_cut zero (First s rest) t =
      let c = cut (most_statements - 1) rest in
      goes_on_then (M.exec_all lower rest) (M.exec_all lower c.behind) (M.exec_all lower c.piece) (exec_cut (most_statements - 1) rest) (M.exec lower s t)
  exec_cut (suc left) (First s rest) t =
      let c = cut left rest in
      goes_on_then (M.exec_all lower rest) (M.exec_all lower c.behind) (M.exec_all lower c.piece) (exec_cut left rest) (M.exec lower s t)

  exec_gathered : (ss : StatementsTree) (t : V.State) → M.exec_all lower (gathered ss) t ≡ M.exec_all lower ss t
  exec_gathered ss t = at (nat_le (statement_count ss) most_statements)
    where
      at : (few : Bool) → M.exec_all lower (cond few ss (pieces ss)) t ≡ M.exec_all lower ss t
      at true = refl
      at false = sym (exec_cut most_statements ss t)

  pub exec_sequence : (ss : StatementsTree) (t : V.State) → M.exec lower (sequence ss) t ≡ M.exec_all lower ss t
  exec_sequence ss t = exec_gathered (gathered ss) t ∙ exec_gathered ss t

-- ---- how many they are

piece_few : (left : ℕ) (ss : StatementsTree) → statement_count (cut left ss).piece ≤ left
piece_few left Done = omega arith
piece_few zero (First s rest) = omega arith
piece_few (suc left) (First s rest) = let h = piece_few left rest in omega (arith, h)

behind_few : (left : ℕ) (ss : StatementsTree) → left ≤ most_statements → most_statements * statement_count (cut left ss).behind + left ≤ statement_count ss + most_statements
behind_few left Done below = omega (arith, below)
behind_few zero (First s rest) below = let h = behind_few (most_statements - 1) rest (omega arith) in omega (arith, h)
behind_few (suc left) (First s rest) below = let h = behind_few left rest (omega (arith, below)) in omega (arith, h)

gathered_few : (ss : StatementsTree) → (statement_count (gathered ss) ≤ most_statements) ⊎ (most_statements * statement_count (gathered ss) ≤ statement_count ss + most_statements)
gathered_few ss = at (nat_le (statement_count ss) most_statements) refl
  where
    at : (few : Bool) → nat_le (statement_count ss) most_statements ≡ few →
        (statement_count (cond few ss (pieces ss)) ≤ most_statements) ⊎ (most_statements * statement_count (cond few ss (pieces ss)) ≤ statement_count ss + most_statements)
    at true e = inl (leb-true (statement_count ss) most_statements e)
    at false e = let h = behind_few most_statements ss (omega arith) in inr (omega (arith, h))

pub sequence_few : (ss : StatementsTree) → statement_count ss ≤ 2 ^ 64 → statement_count (gathered (gathered ss)) < 2 ^ 32
sequence_few ss few =
    elim (gathered_few (gathered ss)) [
      | inl within ↦ omega (arith, within)
      | inr twice ↦ elim (gathered_few ss) [
        | inl within ↦ omega (arith, within, twice)
        | inr once ↦ omega (arith, few, once, twice)
      ]
    ]

-- ---- that they are in range

module _ (n : ℕ) where
  cut_fits : (left : ℕ) (ss : StatementsTree) → StatementsFit n ss → StatementsFit n (cut left ss).piece × StatementsFit n (cut left ss).behind
  cut_fits left Done fits = (tt, tt)
  cut_fits zero (First s rest) fits =
      let r = cut_fits (most_statements - 1) rest fits.1 in
      let few = piece_few (most_statements - 1) rest in
      (tt, ((omega (arith, few), (fits.0, r.0)), r.1))
  cut_fits (suc left) (First s rest) fits =
      let r = cut_fits left rest fits.1 in
      ((fits.0, r.0), r.1)

  gathered_fit : (ss : StatementsTree) → StatementsFit n ss → StatementsFit n (gathered ss)
  gathered_fit ss fits = at (nat_le (statement_count ss) most_statements)
    where
      at : (few : Bool) → StatementsFit n (cond few ss (pieces ss))
      at true = fits
      at false =
          let r = cut_fits most_statements ss fits in
          let few = piece_few most_statements ss in
          ((omega (arith, few), r.0), r.1)

  pub sequence_fits : (ss : StatementsTree) → statement_count ss ≤ 2 ^ 64 → StatementsFit n ss → StatementFits n (sequence ss)
  sequence_fits ss few fits = (sequence_few ss few, gathered_fit (gathered ss) (gathered_fit ss fits))

  -- and what they are made of is where they are
  cut_fitted : (left : ℕ) (ss : StatementsTree) → StatementsFit n (cut left ss).piece → StatementsFit n (cut left ss).behind → StatementsFit n ss
  cut_fitted left Done piece behind = tt
  cut_fitted zero (First s rest) piece behind = (behind.0.1.0, cut_fitted (most_statements - 1) rest behind.0.1.1 behind.1)
  cut_fitted (suc left) (First s rest) piece behind = (piece.0, cut_fitted left rest piece.1 behind)

  gathered_fitted : (ss : StatementsTree) → StatementsFit n (gathered ss) → StatementsFit n ss
  gathered_fitted ss = at (nat_le (statement_count ss) most_statements)
    where
      at : (few : Bool) → StatementsFit n (cond few ss (pieces ss)) → StatementsFit n ss
      at true fits = fits
      at false fits = cut_fitted most_statements ss fits.0.1 fits.1

  pub sequence_fitted : (ss : StatementsTree) → StatementFits n (sequence ss) → StatementsFit n ss
  sequence_fitted ss fits = gathered_fitted ss (gathered_fitted (gathered ss) fits.1)

-- ---- how high they are

cut_low : (left : ℕ) (ss : StatementsTree) → (statements_height (cut left ss).piece ≤ statements_height ss) × (statements_height (cut left ss).behind ≤ suc (statements_height ss))
cut_low left Done = (omega arith, omega arith)
cut_low zero (First s rest) = let h = cut_low (most_statements - 1) rest in (omega arith, omega (arith, h.0, h.1))
cut_low (suc left) (First s rest) = let h = cut_low left rest in (omega (arith, h.0), omega (arith, h.1))

gathered_low : (ss : StatementsTree) → statements_height (gathered ss) ≤ suc (statements_height ss)
gathered_low ss = at (nat_le (statement_count ss) most_statements)
  where
    at : (few : Bool) → statements_height (cond few ss (pieces ss)) ≤ suc (statements_height ss)
    at true = omega arith
    at false = let h = cut_low most_statements ss in omega (arith, h.0, h.1)

pub sequence_low : (ss : StatementsTree) → statement_height (sequence ss) ≤ 3 + statements_height ss
sequence_low ss = let once = gathered_low ss in let twice = gathered_low (gathered ss) in omega (arith, once, twice)
