-- A node that was not asked yet is sound.
use Rattle.std.proofs.Common.{◌≡◌, ◌++◌, ℕ, suc, ◌*◌, length, List, [], ◌∷◌, map, slice_get, All, Option, Some, None, inl, refl, sym, subst}
use Rattle.std.proofs.lemmas.List.{append-nil}
use Rattle.std.proofs.lemmas.List.Elements.{All-nil, All-cons, All-head, All-tail}
use Rattle.durable_model.specs.declared.disk.Disk as disks
use Rattle.acceptor_log_form.specs.declared.record.Record.{Record}
use Rattle.acceptor_log_form.specs.Order.{AreInOrder}
use Rattle.acceptor_log_form.specs.Text.{StandsFor}
use Rattle.acceptor_log.specs.declared.log.Log.{Log}
use Rattle.acceptor_log.specs.Acknowledged.{acknowledged, IsReady}
use Rattle.farm_nodes_turn_node.specs.Fours.{Four}
use Rattle.farm_nodes_turn_node.specs.Texts.{Texts}
use Rattle.farm_nodes_turn_node.specs.declared.halted.Halted.{Halted}
use Rattle.farm_nodes_turn_node.specs.Held.{IsJournalOf, IsSoundBy}
use Rattle.farm_nodes_open_join.specs.Joined.{IsHeld}

module _ {D X1 X2 X3 X4 : Type 0} (texts : Texts X1 X2 X3 X4) (disk : disks.Ghosts D) (log : Log D) (seats : List (Four X1 X2 X3 X4))
    (held : IsHeld texts disk log seats) where
  journal_of : disk.is_honest log.disk → IsJournalOf texts disk log seats None (acknowledged disk.seen log)
  journal_of honest =
      let rs : List Record = acknowledged disk.seen log in
      let ready : IsReady disk log = held.sound honest held.going in
      let whole : rs ++ [] ≡ rs = append-nil rs in
      record {
        leave = held.leave honest;
        named = held.named honest;
        in_order = subst (λ (l : List Record). AreInOrder log.header.nodes log.header.node (4 * length seats) l) (sym whole) (held.in_order honest);
        unproposed = held.unproposed honest;
        left = λ c left. inl (subst (λ (bytes : List ℕ). StandsFor log.header rs bytes) (sym (ready.rests.durable c left)) ready.rests.stands);
      }

  pub sound_of : IsSoundBy texts disk log seats None
  sound_of = record {
    journal = held.sound;
    going = λ none. held.going;
    own = held.own;
    of_runs = held.of_runs;
    upto = λ honest. (acknowledged disk.seen log, journal_of honest, λ none. refl);
  }

-- the nodes of these journals and seats
module _ {N J S D X1 X2 X3 X4 : Type 0} (texts : Texts X1 X2 X3 X4) (disk : disks.Ghosts D)
    (log_of : J → Log D) (fours : S → List (Four X1 X2 X3 X4)) (log : N → Log D) (seats : N → S) (halted : N → Option Halted) where
  abbrev pub IsAsked : N → Type 0
  IsAsked n = IsSoundBy texts disk (log n) (fours (seats n)) (halted n)

  asked : (n : N) (j : J) (s : S) → IsHeld texts disk (log_of j) (fours s) → log n ≡ log_of j → seats n ≡ s → halted n ≡ None → IsAsked n
  asked n j s held of_log of_seats going =
      let before : IsSoundBy texts disk (log_of j) (fours s) None = sound_of texts disk (log_of j) (fours s) held in
      let with_seats : IsSoundBy texts disk (log_of j) (fours (seats n)) None = subst (λ x. IsSoundBy texts disk (log_of j) (fours x) None) (sym of_seats) before in
      let with_log : IsSoundBy texts disk (log n) (fours (seats n)) None = subst (λ x. IsSoundBy texts disk x (fours (seats n)) None) (sym of_log) with_seats in
      subst (λ x. IsSoundBy texts disk (log n) (fours (seats n)) x) (sym going) with_log

  pub all_asked : (ns : List N) (js : List J) (ss : List S) → map log ns ≡ map log_of js → map seats ns ≡ ss → All (λ n. halted n ≡ None) ns
      → ((i : ℕ) (j : J) (s : S) → slice_get js i ≡ Some j → slice_get ss i ≡ Some s → IsHeld texts disk (log_of j) (fours s)) → All IsAsked ns
  all_asked [] js ss logs sets going held = All-nil IsAsked
  all_asked (n ∷ ns) [] ss logs sets going held = absurd (cc)
  all_asked (n ∷ ns) (j ∷ js) [] logs sets going held = absurd (cc)
  all_asked (n ∷ ns) (j ∷ js) (s ∷ ss) logs sets going held =
      let first : log n ∷ map log ns ≡ log_of j ∷ map log_of js = logs in
      let second : seats n ∷ map seats ns ≡ s ∷ ss = sets in
      let log_is : log n ≡ log_of j = cc in
      let seats_are : seats n ≡ s = cc in
      let logs_left : map log ns ≡ map log_of js = cc in
      let seats_left : map seats ns ≡ ss = cc in
      All-cons IsAsked n ns
      (asked n j s (held 0 j s refl refl) log_is seats_are (All-head (λ n. halted n ≡ None) n ns going))
      (all_asked ns js ss logs_left seats_left (All-tail (λ n. halted n ≡ None) n ns going) (λ i x y e h. held (suc i) x y e h))
