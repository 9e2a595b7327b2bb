-- What a start answers is what was told.
use Rattle.std.proofs.Common.{◌≡◌, ℕ, ◌<◌, ◌≤◌, ◌↔◌, Bool, true, false, cond, leb, Some, None, Ok, Err, IfOk, IsErr, Result, option_map, refl, sym, ap, ◌∙◌, arith}
use Rattle.std.proofs.lemmas.Bool.{le-leb, leb-true}
use Rattle.paxos_core_node_steps.specs.Proposer.{next_ballot}
use Rattle.paxos_core_node_steps.specs.declared.step.Step.TheVariants as step
use Rattle.rooms_seat.specs.SeatAct.TheVariants as act
use Rattle.rooms_seat.specs.SeatState.{SeatState}
use Rattle.rooms_seat.specs.Would.{would}

over_if : (b : ℕ) (t : Bool) → 65535 < b → leb b 65535 ≡ t → leb b 65535 ≡ false
over_if b true h e = let low : b ≤ 65535 = leb-true b 65535 e in absurd (omega arith)
over_if b false h e = e

pub start_told : {E : Type 0} (X : ℕ → Type 0) (s : SeatState) (r : Result ℕ E) → IfOk r (λ b. (b ≡ next_ballot s.node) × X b) → (IsErr r ↔ (65535 < next_ballot s.node)) → IfOk r (λ b. would s act.Start ≡ Some (step.Start b))
start_told X s (Err x) h e = tt
start_told X s (Ok b) h e =
    let no : 65535 < next_ballot s.node → ⊥ = λ over. let bad : false ≡ true = e.1 over in cc in
    ap (λ (t : Bool). option_map step.Start (cond t (Some (next_ballot s.node)) None)) (le-leb (next_ballot s.node) 65535 (omega arith)) ∙ ap (λ (c : ℕ). Some (step.Start c)) (sym h.0)

pub spent_told : {E : Type 0} (X : ℕ → Type 0) (s : SeatState) (r : Result ℕ E) → IfOk r (λ b. (b ≡ next_ballot s.node) × X b) → (IsErr r ↔ (65535 < next_ballot s.node)) → (IsErr r ↔ (would s act.Start ≡ None))
spent_told X s (Err x) h e =
    (λ _. ap (λ (t : Bool). option_map step.Start (cond t (Some (next_ballot s.node)) None)) (over_if (next_ballot s.node) (leb (next_ballot s.node) 65535) (e.0 refl) refl), λ _. refl)
spent_told {E} X s (Ok b) h e = (λ bad. absurd (cc), λ none. let both : Some (step.Start b) ≡ None = sym (start_told {E = E} X s (Ok b) h e) ∙ none in absurd (cc))
