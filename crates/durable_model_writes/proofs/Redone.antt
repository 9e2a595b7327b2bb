-- Calls that are done again, one after another.
use Rattle.std.proofs.Common.{◌≡◌, ℕ, ◌+◌, List, [], ◌∷◌, ◌++◌, take, drop, refl, sym, ◌∙◌, ap, subst, append_assoc, append-nil}
use Rattle.durable_model_writes.specs.declared.call.Call.{Call}
use Rattle.durable_model_writes.specs.History.{size_of, noted, after, seen_after, MayLeave, Redone, RedoneTo}

-- one call more
pub more_redone : (first : List ℕ) (calls : List Call) (k : ℕ) (call : Call) (written : List ℕ) (h : List (Call × List ℕ))
    (rest bytes seen rest' seen' : List ℕ) → take (k + 1) calls ≡ take k calls ++ call ∷ []
    → bytes ≡ take (size_of call) rest → rest' ≡ drop (size_of call) rest → seen' ≡ after call bytes seen
    → Redone first (take k calls) written h rest seen → Redone first (take (k + 1) calls) written h rest' seen'
more_redone first calls k call written h rest bytes seen rest' seen' one own left is so_far = record {
  through = (call, bytes) ∷ so_far.through;
  on = λ more.
      ap (λ (cs : List Call). noted (cs ++ more) written h) one
      ∙ ap (λ (cs : List Call). noted cs written h) (append_assoc (take k calls) (call ∷ []) more)
      ∙ so_far.on (call ∷ more)
      ∙ ap (λ (b : List ℕ). noted more (drop (size_of call) rest) ((call, b) ∷ so_far.through)) (sym own)
      ∙ ap (λ (r : List ℕ). noted more r ((call, bytes) ∷ so_far.through)) (sym left);
  seen_is = is ∙ ap (λ (s : List ℕ). after call bytes s) so_far.seen_is;
}

-- the same with an image
pub more_redone_to : (first : List ℕ) (calls : List Call) (k : ℕ) (call : Call) (written : List ℕ) (h : List (Call × List ℕ))
    (rest bytes seen image rest' seen' image' : List ℕ) → take (k + 1) calls ≡ take k calls ++ call ∷ []
    → bytes ≡ take (size_of call) rest → rest' ≡ drop (size_of call) rest → seen' ≡ after call bytes seen
    → ((g : List (Call × List ℕ)) → seen ≡ seen_after g first → MayLeave g first image → MayLeave ((call, bytes) ∷ g) first image')
    → RedoneTo first (take k calls) written h rest seen image → RedoneTo first (take (k + 1) calls) written h rest' seen' image'
unfolding more_redone
more_redone_to first calls k call written h rest bytes seen image rest' seen' image' one own left is torn so_far = record {
  redone = more_redone first calls k call written h rest bytes seen rest' seen' one own left is so_far.redone;
  left = torn so_far.redone.through so_far.redone.seen_is so_far.left;
}

pub all_redone_to : (first : List ℕ) (calls : List Call) (written : List ℕ) (h : List (Call × List ℕ)) (rest seen image : List ℕ)
    → RedoneTo first calls written h rest seen image → MayLeave (noted calls written h) first image
all_redone_to first calls written h rest seen image all =
    subst (λ g. MayLeave g first image)
    (sym (ap (λ (cs : List Call). noted cs written h) (sym (append-nil calls)) ∙ all.redone.on [])) all.left

pub none_redone_to : (first written : List ℕ) (h : List (Call × List ℕ)) (seen image : List ℕ) → seen ≡ seen_after h first
    → MayLeave h first image → RedoneTo first [] written h written seen image
none_redone_to first written h seen image is left =
    record { redone = record { through = h; on = λ more. refl; seen_is = is }; left = left }
