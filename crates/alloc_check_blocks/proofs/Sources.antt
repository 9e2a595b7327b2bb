-- A move behind others lets its target come from where its source came from.
use Rattle.std.proofs.Common.{◌≡◌, ℕ, suc, ◌+◌, ◌<◌, ◌≤◌, List, length, get_or, take, Bool, true, false, Some, None, refl, sym, ap, ◌∙◌, arith}
use Rattle.std.specs.Prelude.{cond}
use Rattle.std.specs.Option.{unwrap_or}
use Rattle.std.specs.Ordering.{nat_cmp, is_eq}
use Rattle.std.specs.BTreeMap.{BTreeMap, get, Updates}
use Rattle.std.proofs.lemmas.Bool.Decides.{nat_tests}
use Rattle.std.proofs.lemmas.List.{take_all}
use Rattle.locations.specs.declared.location.Location.{Location}
use Rattle.locations.specs.declared.location.Location.TheVariants.{InRegister, InSlot}
use Rattle.locations.specs.declared.location.Move.{Move}
use Rattle.locations.specs.Reading.{same_location}
use Rattle.alloc_check_rules.specs.Equations.{back, back_move}
use Rattle.alloc_check_blocks.specs.Origins.{key, origin, AreOrigins}
use Rattle.alloc_check_blocks.proofs.Moves.{back_last}

-- no two locations have one number
one_key : (t l : Location) → is_eq (nat_cmp (key t) (key l)) ≡ same_location t l
one_key (InRegister r) (InRegister q) = grind (arith, nat_tests)
one_key (InRegister r) (InSlot s) = grind (arith, nat_tests)
one_key (InSlot s) (InRegister r) = grind (arith, nat_tests)
one_key (InSlot s) (InSlot t) = grind (arith, nat_tests)

module _ (m n : BTreeMap ℕ Location) (ms : List Move) (k : ℕ) (d : Move) (below : k < length ms) (so_far : (l : Location) → origin m l ≡ back (take k ms) l) where
  -- what is noted of a move's target is where its source comes from
  pub noted : Updates nat_cmp m n (key (get_or ms k d).target) (Some (origin m (get_or ms k d).source)) → (l : Location) → origin n l ≡ back (take (k + 1) ms) l
  noted updates l =
      ap (λ o. unwrap_or o l) (updates.0 (key l)) ∙ (ap (λ b. unwrap_or (cond b (Some (origin m (get_or ms k d).source)) (get nat_cmp m (key l))) l) (one_key (get_or ms k d).target l) ∙ (either (same_location (get_or ms k d).target l) ∙ (sym (back_last ms k d l below) ∙ ap (λ j. back (take j ms) l) one_more)))
    where
      one_more : suc k ≡ k + 1
      one_more = omega arith

      either : (b : Bool) → unwrap_or (cond b (Some (origin m (get_or ms k d).source)) (get nat_cmp m (key l))) l ≡ back (take k ms) (cond b (get_or ms k d).source l)
      either true = so_far (get_or ms k d).source
      either false = so_far l

-- behind the last of them, all are noted
pub all_noted : (m : BTreeMap ℕ Location) (ms : List Move) (k : ℕ) → length ms ≤ k → ((l : Location) → origin m l ≡ back (take k ms) l) → AreOrigins m ms
all_noted m ms k past so_far = record { each = λ l. so_far l ∙ ap (λ (xs : List Move). back xs l) (take_all k ms past) }
