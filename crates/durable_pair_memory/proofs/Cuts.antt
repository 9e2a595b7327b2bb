-- Time goes on over a call that is noted on both disks.
use Rattle.std.proofs.Common.{◌≡◌, ◌⊎◌, ℕ, ◌≤◌, List, [], ◌∷◌, ◌++◌, length, refl, sym, ap, subst, arith, inl, inr, length-append}
use Rattle.durable_model_writes.specs.declared.call.Call.{Call}
use Rattle.durable_model_writes.specs.History.{MayLeave}
use Rattle.durable_pair.specs.Images.{Images}
use Rattle.durable_pair_memory.specs.Lockstep.{Calls, CutSince}

module _ (first old_first : List ℕ) (x y : Call × List ℕ) (fresh former : Calls) (t : ℕ) (im : Images) where
  -- a moment before the last call, or this one
  split : (later earlier old_later old_earlier : Calls) → x ∷ fresh ≡ later ++ earlier → y ∷ former ≡ old_later ++ old_earlier
      → length fresh ≡ length former → length earlier ≡ length old_earlier → t ≤ length earlier
      → MayLeave earlier first im.0 → MayLeave old_earlier old_first im.1
      → CutSince fresh former first old_first t im ⊎ (MayLeave (x ∷ fresh) first im.0 × MayLeave (y ∷ former) old_first im.1)
  split [] earlier [] old_earlier whole old_whole same one since left old_left =
      inr (subst (λ (h : Calls). MayLeave h first im.0) (sym whole) left, subst (λ (h : Calls). MayLeave h old_first im.1) (sym old_whole) old_left)
  split [] earlier (b ∷ old_later) old_earlier whole old_whole same one since left old_left =
      absurd (omega (arith, ap length whole, ap length old_whole, same, one, length-append old_later old_earlier))
  split (a ∷ later) earlier [] old_earlier whole old_whole same one since left old_left =
      absurd (omega (arith, ap length whole, ap length old_whole, same, one, length-append later earlier))
  split (a ∷ later) earlier (b ∷ old_later) old_earlier whole old_whole same one since left old_left =
      inl (record { later = later; earlier = earlier; old_later = old_later; old_earlier = old_earlier; whole = cc; old_whole = cc; one_moment = one; since = since; left = left; old_left = old_left })

  pub cut_before : CutSince (x ∷ fresh) (y ∷ former) first old_first t im → length fresh ≡ length former
      → CutSince fresh former first old_first t im ⊎ (MayLeave (x ∷ fresh) first im.0 × MayLeave (y ∷ former) old_first im.1)
  cut_before cut same = split cut.later cut.earlier cut.old_later cut.old_earlier cut.whole cut.old_whole same cut.one_moment cut.since cut.left cut.old_left

  pub cut_more : CutSince fresh former first old_first t im → CutSince (x ∷ fresh) (y ∷ former) first old_first t im
  cut_more cut = record {
    later = x ∷ cut.later;
    earlier = cut.earlier;
    old_later = y ∷ cut.old_later;
    old_earlier = cut.old_earlier;
    whole = ap (λ (h : Calls). x ∷ h) cut.whole;
    old_whole = ap (λ (h : Calls). y ∷ h) cut.old_whole;
    one_moment = cut.one_moment;
    since = cut.since;
    left = cut.left;
    old_left = cut.old_left;
  }

-- the same of equal lists
pub cut_of : (h h' g g' : Calls) (f f' d d' : List ℕ) (t : ℕ) (im : Images) → h ≡ h' → g ≡ g' → f ≡ f' → d ≡ d'
    → CutSince h g f d t im → CutSince h' g' f' d' t im
cut_of h h' g g' f f' d d' t im hs gs fs ds cut =
    subst (λ (l : List ℕ). CutSince h' g' f' l t im) ds
    (subst (λ (l : List ℕ). CutSince h' g' l d t im) fs
    (subst (λ (l : Calls). CutSince h' l f d t im) gs
    (subst (λ (l : Calls). CutSince l g f d t im) hs cut)))

pub may_of : (h h' : Calls) (f f' c : List ℕ) → h ≡ h' → f ≡ f' → MayLeave h f c → MayLeave h' f' c
may_of h h' f f' c hs fs left =
    subst (λ (l : List ℕ). MayLeave h' l c) fs (subst (λ (l : Calls). MayLeave l f c) hs left)
