-- What a crash leaves of a node's own journal.
use Rattle.std.proofs.Common.{◌≡◌, ◌⊎◌, ℕ, List, [], ◌∷◌, ◌++◌, append-nil, Option, Some, None, refl, sym, ap, ◌∙◌, subst, inl, inr}
use Rattle.std.specs.Prelude.{slice_get}
use Rattle.acceptor_log_form.specs.declared.header.Header.{Header}
use Rattle.acceptor_log_form.specs.declared.record.Record.{Record}
use Rattle.acceptor_log_writing.specs.OneOf.{Either}
use Rattle.acceptor_log_form.specs.Text.{StandsFor}
use Rattle.acceptor_log_writing.proofs.Either.{either-lists}
use Rattle.paxos_core_node_steps.specs.declared.step.Step.{Step}
use Rattle.farm_nodes_turn_step.specs.Would.{would}
use Rattle.farm_nodes_turn_step.specs.declared.stop.Pending.{Pending}
use Rattle.farm_nodes_turn_step.specs.declared.stop.Pending.TheVariants.{Act, Offer}
use Rattle.farm_nodes_turn_step.specs.Noted.{record_of, records_of}
use Rattle.farm_nodes_turn_passes.specs.Numbers.{function_of, pass_of}
use Rattle.farm_nodes_turn_passes.specs.Fours.{words_of, Four}
use Rattle.farm_nodes_turn_passes.specs.Leaves.{left_in, pending_at, Leave}
use Rattle.farm_nodes_turn_passes.specs.Texts.{Texts}
use Rattle.farm_nodes_restart_records.specs.Found.{AreOther}

-- no record, or one
abbrev IsFew : List Record → Type 0
IsFew rs = (rs ≡ []) ⊎ ((r : Record) × (rs ≡ r ∷ []))

few_told : (room : ℕ) (o : Option Step) → IsFew (records_of room o)
few_told room None = inl refl
few_told room (Some x) = inr (record_of room x, refl)

few_left : {X1 X2 X3 X4 : Type 0} (o : Option (Four X1 X2 X3 X4)) (room : ℕ) (p : Option Pending) → IsFew (left_in o room p)
few_left None room p = inl refl
few_left (Some s) room None = inl refl
few_left (Some s) room (Some (Act a)) = few_told room (would (words_of s (pass_of room)) a)
few_left (Some s) room (Some (Offer r)) = inr (r, refl)

module _ {X1 X2 X3 X4 : Type 0} (texts : Texts X1 X2 X3 X4) (seats : List (Four X1 X2 X3 X4)) (room : ℕ) (p : Option Pending) (h : Header) (upto rs : List Record) (bytes : List ℕ)
    (leave : Leave texts seats upto) (either : Either h upto (upto ++ pending_at seats room p) bytes) (stands : StandsFor h rs bytes) (others : AreOther texts seats room p rs) where
  -- without what is pending
  without : rs ≡ upto → ⊥
  without same = others.whole (subst (λ (l : List Record). Leave texts seats l) (sym same) leave)

  pub own : ⊥
  own =
      elim (either-lists h upto (upto ++ pending_at seats room p) rs bytes either stands) [
        | inl same ↦ without same
        | inr all ↦ elim (few_left (slice_get seats (function_of room)) room p) [
          | inl none ↦ without (all ∙ ap (λ (l : List Record). upto ++ l) none ∙ append-nil upto)
          | inr one ↦
              others.pending record {
                front = upto;
                ends = (one.0, one.1, all ∙ ap (λ (l : List Record). upto ++ l) one.1);
                leave = leave;
              }
        ]
      ]
