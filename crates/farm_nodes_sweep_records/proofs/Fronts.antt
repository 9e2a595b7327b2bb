-- What a front of records of apart rooms leaves of one room.
use Rattle.std.proofs.Common.{◌≡◌, ◌≢◌, inl, inr, ℕ, zero, suc, List, [], ◌∷◌, ◌++◌, take, refl, sym, ap, ◌∙◌, subst, append-nil, append_assoc}
use Rattle.std.proofs.lemmas.Bool.{cases_eq}
use Rattle.std.proofs.lemmas.List.Elements.{All-take}
use Rattle.paxos_core_world.specs.KeptPart.{KeptPart}
use Rattle.acceptor_log_form.specs.declared.record.Record.{Record}
use Rattle.acceptor_log_form.specs.Text.{room_of}
use Rattle.acceptor_log_form.specs.Leaves.{kept_by_record, kept_in}
use Rattle.farm_nodes_turn_order.proofs.Records.{kept_own, kept_other}
use Rattle.farm_nodes_sweep_records.specs.Pending.{NoneOf, AreApart, LeftWith}
use Rattle.farm_nodes_sweep_records.proofs.Taking.{kept_behind}

-- with a record of another room in front
behind_other : (rs ps : List Record) (r : Record) (m : ℕ) (kept : KeptPart) → room_of r ≢ m → LeftWith (rs ++ r ∷ []) ps m kept → LeftWith rs (r ∷ ps) m kept
behind_other rs ps r m kept other (inl is) = inl (is ∙ kept_other rs r m other)
behind_other rs ps r m kept other (inr one) =
    inr (one.0, r ∷ one.1, one.2, one.3, ap (λ (l : List Record). r ∷ l) one.4, one.5 ∙ ap (λ (k : KeptPart). kept_by_record k one.0) (kept_other rs r m other))

pub front-leaves : (rs pending : List Record) (k m : ℕ) → AreApart pending → LeftWith rs pending m (kept_in (rs ++ take k pending) m)
front-leaves rs pending zero m apart = inl (ap (λ (l : List Record). kept_in l m) (append-nil rs))
front-leaves rs [] (suc k) m apart = inl (ap (λ (l : List Record). kept_in l m) (append-nil rs))
front-leaves rs (r ∷ ps) (suc k) m apart =
    let whole : kept_in (rs ++ r ∷ take k ps) m ≡ kept_in ((rs ++ r ∷ []) ++ take k ps) m =
    ap (λ (l : List Record). kept_in l m) (sym (append_assoc rs (r ∷ []) (take k ps))) in
    elim (cases_eq (room_of r) m) [
      | inl own ↦
          let none : NoneOf m (take k ps) = subst (λ (x : ℕ). NoneOf x (take k ps)) own (All-take (λ (q : Record). room_of q ≢ room_of r) k ps apart.0) in
          inr (r, [], ps, own, refl, whole ∙ kept_behind (rs ++ r ∷ []) (take k ps) m none ∙ kept_own rs r m own)
      | inr other ↦
          subst (λ (x : KeptPart). LeftWith rs (r ∷ ps) m x) (sym whole)
          (behind_other rs ps r m (kept_in ((rs ++ r ∷ []) ++ take k ps) m) other (front-leaves (rs ++ r ∷ []) ps k m apart.1))
    ]
