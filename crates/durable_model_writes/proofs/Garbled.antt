-- A write that left any bytes in its range.
use Rattle.std.proofs.Common.{◌≡◌, ℕ, ◌+◌, ◌<◌, min, List, length, take, drop, sym, ◌∙◌, ap, arith}
use Rattle.std.proofs.lemmas.List.{take-take, take_min}
use Rattle.std.proofs.Math.Nat.{min-le_right, lt_irrefl}
use Rattle.durable_model_writes.specs.Writes.{Torn, Grown}

pub garbled : (at n : ℕ) (old grown new : List ℕ) → 0 < n → Grown (at + n) old grown → length new ≡ length grown
    → take (min at (length old)) new ≡ take (min at (length old)) grown → drop (at + n) new ≡ drop (at + n) grown → Torn at n old new
garbled at n old grown new some grows long before after = record {
  nothing = λ none. absurd (lt_irrefl 0 (omega (arith, some, none)));
  no_shorter = omega (arith, grows.no_shorter, long);
  before =
      before
      ∙ sym (take-take (min at (length old)) (length old) grown (min-le_right at (length old)))
      ∙ ap (take (min at (length old))) grows.front
      ∙ take_min at old;
  after = λ _. after ∙ grows.rest;
}
