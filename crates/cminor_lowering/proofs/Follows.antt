-- How an outcome of Cminor follows one of C. Where C goes wrong nothing is asked.
use Rattle.std.proofs.Common.{◌≡◌, ℕ, Some, None, sym, ap, subst}
use Rattle.std.specs.Prelude.{◌⊎◌}
use Rattle.c_program.specs.Trees.{TermTree, ActionTree}
use Rattle.c_program.specs.State as S
use Rattle.c_program.specs.Meaning as C
use Rattle.cminor_syntax.specs.Trees.{Done}
use Rattle.cminor_syntax.specs.State as V
use Rattle.cminor_syntax.specs.Meaning as M
use Rattle.cminor_lowering.proofs.Sees.{Shares, Sees}

-- of a statement: `break` leaves two blocks, and `continue` one
abbrev pub Follows : ℕ → C.Outcome → M.Outcome → Type 0
Follows spare (C.Falls s) m = (t : V.State) × (m ≡ M.Falls t) × Sees spare s t
Follows spare (C.Breaks s) m = (t : V.State) × (m ≡ M.Exits 1 t) × Sees spare s t
Follows spare (C.Continues s) m = (t : V.State) × (m ≡ M.Exits 0 t) × Sees spare s t
Follows spare (C.Returns w s) m = (t : V.State) × (m ≡ M.Returns w t) × Shares s t
Follows spare (C.RunsOut printed) m = m ≡ M.RunsOut printed
Follows spare (C.Fails printed) m = Unit {0}

-- of a loop, within the block round it, which is left where the loop ends
abbrev pub FollowsLoop : ℕ → C.Outcome → M.Outcome → Type 0
FollowsLoop spare (C.Falls s) m = (t : V.State) × (m ≡ M.Exits 0 t) × Sees spare s t
FollowsLoop spare (C.Breaks s) m = ⊥
FollowsLoop spare (C.Continues s) m = ⊥
FollowsLoop spare (C.Returns w s) m = (t : V.State) × (m ≡ M.Returns w t) × Shares s t
FollowsLoop spare (C.RunsOut printed) m = m ≡ M.RunsOut printed
FollowsLoop spare (C.Fails printed) m = Unit {0}

-- of a function, whose end may be reached where it returns no value
abbrev pub FollowsCall : C.Outcome → M.Outcome → Type 0
FollowsCall (C.Falls s) m = Unit {0}
FollowsCall (C.Breaks s) m = Unit {0}
FollowsCall (C.Continues s) m = Unit {0}
FollowsCall (C.Returns None s) m = (t : V.State) × ((m ≡ M.Falls t) ⊎ (m ≡ M.Returns None t)) × Shares s t
FollowsCall (C.Returns (Some w) s) m = (t : V.State) × (m ≡ M.Returns (Some w) t) × Shares s t
FollowsCall (C.RunsOut printed) m = m ≡ M.RunsOut printed
FollowsCall (C.Fails printed) m = Unit {0}

-- ---- one statement behind another

pub follows_goes_on : (spare : ℕ) (next : S.State → C.Outcome) (next' : V.State → M.Outcome) (o : C.Outcome) (m : M.Outcome) →
    ((s : S.State) (t : V.State) → Sees spare s t → Follows spare (next s) (next' t)) → Follows spare o m → Follows spare (C.goes_on next o) (M.goes_on next' m)
follows_goes_on spare next next' (C.Falls s) m then f = subst (λ x. Follows spare (next s) (M.goes_on next' x)) (sym f.1) (then s f.0 f.2)
follows_goes_on spare next next' (C.Breaks s) m then f = (f.0, ap (M.goes_on next') f.1, f.2)
follows_goes_on spare next next' (C.Continues s) m then f = (f.0, ap (M.goes_on next') f.1, f.2)
follows_goes_on spare next next' (C.Returns w s) m then f = (f.0, ap (M.goes_on next') f.1, f.2)
follows_goes_on spare next next' (C.RunsOut printed) m then f = ap (M.goes_on next') f
follows_goes_on spare next next' (C.Fails printed) m then f = tt

-- nothing behind the last statement
pub closed_follows : (spare : ℕ) (lower : M.Level) (o : C.Outcome) (m : M.Outcome) → Follows spare o m → Follows spare o (M.goes_on (M.exec_all lower Done) m)
closed_follows spare lower (C.Falls u) m f = (f.0, ap (M.goes_on (M.exec_all lower Done)) f.1, f.2)
closed_follows spare lower (C.Breaks u) m f = (f.0, ap (M.goes_on (M.exec_all lower Done)) f.1, f.2)
closed_follows spare lower (C.Continues u) m f = (f.0, ap (M.goes_on (M.exec_all lower Done)) f.1, f.2)
closed_follows spare lower (C.Returns x u) m f = (f.0, ap (M.goes_on (M.exec_all lower Done)) f.1, f.2)
closed_follows spare lower (C.RunsOut printed) m f = ap (M.goes_on (M.exec_all lower Done)) f
closed_follows spare lower (C.Fails printed) m f = tt

-- ---- loops

-- the block round a loop is left where the loop ends
pub follows_loop : (spare : ℕ) (o : C.Outcome) (m : M.Outcome) → FollowsLoop spare o m → Follows spare o (M.leaves_block m)
follows_loop spare (C.Falls s) m f = (f.0, ap M.leaves_block f.1, f.2)
follows_loop spare (C.Breaks s) m f = absurd f
follows_loop spare (C.Continues s) m f = absurd f
follows_loop spare (C.Returns w s) m f = (f.0, ap M.leaves_block f.1, f.2)
follows_loop spare (C.RunsOut printed) m f = ap M.leaves_block f
follows_loop spare (C.Fails printed) m f = tt

module _ (spare : ℕ) (lower : C.Level) (c : TermTree) (body behind : ActionTree) (loop : V.State → M.Outcome)
    (again : (s : S.State) (t : V.State) → Sees spare s t → FollowsLoop spare (lower (C.Turns c body behind) s) (loop t)) where
  -- what stands behind the body is done, and then the next turn
  behind_follows : (o : C.Outcome) (m : M.Outcome) → Follows spare o m → FollowsLoop spare (C.turns_again lower c body behind o) (M.goes_on loop (M.goes_on (λ t. M.Falls t) m))
  behind_follows (C.Falls s) m f = subst (λ x. FollowsLoop spare (lower (C.Turns c body behind) s) (M.goes_on loop (M.goes_on (λ t. M.Falls t) x))) (sym f.1) (again s f.0 f.2)
  behind_follows (C.Breaks s) m f = tt
  behind_follows (C.Continues s) m f = (f.0, ap (λ x. M.goes_on loop (M.goes_on (λ t. M.Falls t) x)) f.1, f.2)
  behind_follows (C.Returns w s) m f = (f.0, ap (λ x. M.goes_on loop (M.goes_on (λ t. M.Falls t) x)) f.1, f.2)
  behind_follows (C.RunsOut printed) m f = ap (λ x. M.goes_on loop (M.goes_on (λ t. M.Falls t) x)) f
  behind_follows (C.Fails printed) m f = tt

  module _ (next : V.State → M.Outcome)
      (stands : (s : S.State) (t : V.State) → Sees spare s t → Follows spare (C.exec lower behind s) (next t)) where
    abbrev after : M.Outcome → M.Outcome
    after m = M.goes_on loop (M.goes_on (λ t. M.goes_on (λ u. M.Falls u) (next t)) (M.leaves_block m))

    -- a body that falls through or continues
    goes_behind : (s : S.State) (t : V.State) (m : M.Outcome) → M.leaves_block m ≡ M.Falls t → Sees spare s t → FollowsLoop spare (C.turns_again lower c body behind (C.exec lower behind s)) (after m)
    goes_behind s t m e sees =
        subst (λ x. FollowsLoop spare (C.turns_again lower c body behind (C.exec lower behind s)) (M.goes_on loop (M.goes_on (λ t. M.goes_on (λ u. M.Falls u) (next t)) x))) (sym e)
        (behind_follows (C.exec lower behind s) (next t) (stands s t sees))

    -- what a loop does after its body
    pub body_follows : (o : C.Outcome) (m : M.Outcome) → Follows spare o m → FollowsLoop spare (C.after_body lower c body behind o) (after m)
    body_follows (C.Falls s) m f = goes_behind s f.0 m (ap M.leaves_block f.1) f.2
    body_follows (C.Breaks s) m f = (f.0, ap after f.1, f.2)
    body_follows (C.Continues s) m f = goes_behind s f.0 m (ap M.leaves_block f.1) f.2
    body_follows (C.Returns w s) m f = (f.0, ap after f.1, f.2)
    body_follows (C.RunsOut printed) m f = ap after f
    body_follows (C.Fails printed) m f = tt
