-- A node is sound once it came back, and where it was refused.
use Rattle.std.proofs.Common.{◌≡◌, ℕ, ◌*◌, ◌<◌, true, List, [], ◌++◌, length, append-nil, Option, Some, None, inl, refl, sym, ap, ◌∙◌, subst, arith}
use Rattle.std.specs.Prelude.{slice_get}
use Rattle.std.proofs.lemmas.Option.{slice_get_within}
use Rattle.durable_model.specs.declared.disk.Disk as disks
use Rattle.acceptor_log_form.specs.declared.header.Header.{Header}
use Rattle.acceptor_log_form.specs.declared.record.Record.{Record}
use Rattle.acceptor_log_writing.specs.OneOf.{Either}
use Rattle.acceptor_log_form.specs.Order.{AreInOrder}
use Rattle.acceptor_log_form.specs.Text.{StandsFor}
use Rattle.acceptor_log.specs.declared.log.Log.{Log}
use Rattle.acceptor_log.specs.Acknowledged.{acknowledged, IsSound}
use Rattle.farm_nodes_turn_step.specs.JournalAdvances.{AreOf}
use Rattle.farm_nodes_turn_step.proofs.Rooms.{of_rooms}
use Rattle.farm_nodes_turn_step.specs.declared.stop.Pending.{Pending}
use Rattle.farm_nodes_restart_node.specs.Fours.{Four}
use Rattle.farm_nodes_restart_node.specs.Numbers.{function_of}
use Rattle.farm_nodes_restart_node.specs.Leaves.{pending_at, Leave}
use Rattle.farm_nodes_restart_node.specs.Texts.{Texts}
use Rattle.farm_nodes_turn_node.specs.declared.halted.Halted.{Halted}
use Rattle.farm_nodes_turn_node.specs.Held.{pending_in, AreOfRuns, AreSeatsOf, AreUnproposed, IsSoundBy}
use Rattle.farm_nodes_restart_node.specs.Returned.{AreAtRest}
use Rattle.farm_nodes_restart_seat.proofs.Places.{there_is}
use Rattle.farm_nodes_restart_disks.specs.Stopped.{left_by, room_in}
use Rattle.farm_nodes_restart_disks.proofs.Own.{pending_left}

module _ {T1 T2 T3 T4 : Type 0} (old new : List (Four T1 T2 T3 T4)) where
  before_at : (m : ℕ) (t : Four T1 T2 T3 T4) → AreAtRest old new → slice_get new (function_of m) ≡ Some t → (s : Four T1 T2 T3 T4) × (slice_get old (function_of m) ≡ Some s)
  before_at m t rest at =
      let within : function_of m < length new = slice_get_within new (function_of m) t at in
      there_is old (function_of m) (omega (arith, within, rest.count))

  -- seats at rest are their node's as before,
  rested : (h : Header) → AreSeatsOf h old → AreAtRest old new → AreSeatsOf h new
  rested h own rest = record {
    me = λ m t at. let s = before_at m t rest at in (rest.each m s.0 t s.1 at).node.me ∙ own.me m s.0 s.1;
    quorums = λ m t at. let s = before_at m t rest at in (rest.each m s.0 t s.1 at).node.quorums ∙ own.quorums m s.0 s.1;
  }

  -- each of its run as before,
  rested_runs : AreOfRuns old → AreAtRest old new → AreOfRuns new
  rested_runs of rest m t at = let s = before_at m t rest at in (rest.each m s.0 t s.1 at).run.of_run (of m s.0 s.1)

  -- and propose nothing
  rest_unproposed : (rs : List Record) → AreAtRest old new → AreUnproposed new rs
  rest_unproposed rs rest m t at b is none =
      let s = before_at m t rest at in
      let bad : Some b ≡ None = sym is ∙ (rest.each m s.0 t s.1 at).ballot in
      absurd (cc)

module _ {D T1 T2 T3 T4 : Type 0} (texts : Texts T1 T2 T3 T4) (disk : disks.Ghosts D) where
  -- the journal that it opened holds just what it acknowledges, and stands for its seats
  pub sound_back : (log : Log D) (old seats : List (Four T1 T2 T3 T4)) (rooms : ℕ) → IsSound disk log → log.going ≡ true → rooms ≡ 4 * length seats
      → AreSeatsOf log.header old → AreOfRuns old → AreAtRest old seats
      → (disk.is_honest log.disk → Leave texts seats (acknowledged disk.seen log)) → (disk.is_honest log.disk → AreInOrder log.header.nodes log.header.node rooms (acknowledged disk.seen log))
      → ((bytes : List ℕ) → disk.is_honest log.disk → disk.may_leave log.disk bytes → StandsFor log.header (acknowledged disk.seen log) bytes) → IsSoundBy texts disk log seats None
  sound_back log old seats rooms sound going size own of at_rest leave order rest = record {
    journal = sound;
    going = λ none. going;
    own = rested old seats log.header own at_rest;
    of_runs = rested_runs old seats of at_rest;
    upto = λ honest. (
      acknowledged disk.seen log,
      record {
        leave = leave honest;
        named = subst (λ (m : ℕ). AreOf m (acknowledged disk.seen log)) size (of_rooms log.header.nodes log.header.node rooms (acknowledged disk.seen log) (order honest));
        in_order =
            subst (λ (m : ℕ). AreInOrder log.header.nodes log.header.node m (acknowledged disk.seen log ++ [])) size
            (subst (λ (rs : List Record). AreInOrder log.header.nodes log.header.node rooms rs) (sym (append-nil (acknowledged disk.seen log))) (order honest));
        unproposed = rest_unproposed old seats (acknowledged disk.seen log) at_rest;
        left = λ c left. inl (rest c honest left);
      },
      λ none. refl,
    );
  }

  module _ (log : Log D) (old new : List (Four T1 T2 T3 T4)) (halted : Option Halted) (stopped : Halted) (room : stopped.room ≡ room_in halted)
      (pending : stopped.halt.pending ≡ left_by halted) (same : new ≡ old) where
    here : pending_in old halted ≡ pending_in new (Some stopped)
    here =
        pending_left old halted
        ∙ (ap (λ (m : ℕ). pending_at old m (left_by halted)) (sym room)
        ∙ (ap (λ (p : Option Pending). pending_at old stopped.room p) (sym pending)
        ∙ ap (λ (l : List (Four T1 T2 T3 T4)). pending_at l stopped.room stopped.halt.pending) (sym same)))

    -- its journal is as it was, and the same is left to do
    pub sound_refused : IsSoundBy texts disk log old halted → IsSoundBy texts disk log new (Some stopped)
    sound_refused sound = record {
      journal = sound.journal;
      going = λ none. absurd (cc);
      own = subst (λ (l : List (Four T1 T2 T3 T4)). AreSeatsOf log.header l) (sym same) sound.own;
      of_runs = subst (λ (l : List (Four T1 T2 T3 T4)). AreOfRuns l) (sym same) sound.of_runs;
      upto = λ honest.
          let u = sound.upto honest in (
            u.0,
            record {
              leave = subst (λ (l : List (Four T1 T2 T3 T4)). Leave texts l u.0) (sym same) u.1.leave;
              named = subst (λ (l : List (Four T1 T2 T3 T4)). AreOf (4 * length l) u.0) (sym same) u.1.named;
              in_order =
                  subst (λ (l : List (Four T1 T2 T3 T4)). AreInOrder log.header.nodes log.header.node (4 * length l) (u.0 ++ pending_in new (Some stopped))) (sym same)
                  (subst (λ (ps : List Record). AreInOrder log.header.nodes log.header.node (4 * length old) (u.0 ++ ps)) here u.1.in_order);
              unproposed = subst (λ (l : List (Four T1 T2 T3 T4)). AreUnproposed l u.0) (sym same) u.1.unproposed;
              left = λ c left. subst (λ (ps : List Record). Either log.header u.0 (u.0 ++ ps) c) here (u.1.left c left);
            },
            λ none. absurd (cc),
          );
    }
