-- A journal while its node acts: nothing done, one record, a record that may be missing, and one call after another.
use Rattle.std.proofs.Common.{◌≡◌, ◌≢◌, inl, ℕ, ◌+◌, ◌<◌, ◌≤◌, Bool, true, false, ltb, List, [], ◌∷◌, ◌++◌, length, append-nil, append_assoc, refl, sym, ap, ◌∙◌, subst, arith}
use Rattle.std.proofs.lemmas.List.Elements.{All-push}
use Rattle.paxos_core_world.specs.KeptPart.{KeptPart}
use Rattle.paxos_core_world.specs.Quorum.{Sizes}
use Rattle.durable_model.specs.declared.disk.Disk as disks
use Rattle.durable_model.specs.Moments.{LeavesOnly, started, composed}
use Rattle.acceptor_log_form.specs.declared.header.Header.{Header}
use Rattle.acceptor_log_form.specs.declared.record.Record.{Record}
use Rattle.acceptor_log_form.specs.Text.{room_of, StandsFor}
use Rattle.acceptor_log_form.specs.Leaves.{kept_by_record, kept_in, proposed_in}
use Rattle.acceptor_log_form.specs.Order.{AreInOrder, MayComeNext}
use Rattle.acceptor_log_form.specs.Lists.{Begins, Between}
use Rattle.acceptor_log_writing.specs.OneOf.{Either}
use Rattle.acceptor_log_form.proofs.Between.{between-two}
use Rattle.acceptor_log_writing.proofs.Either.{either-between}
use Rattle.acceptor_log.specs.declared.log.Log.{Log}
use Rattle.acceptor_log.specs.Acknowledged.{acknowledged, IsReady}
use Rattle.acceptor_log.proofs.Runs.{weaker}
use Rattle.rooms_crash.specs.SeatState.{SeatState}
use Rattle.farm_nodes_turn_step.specs.JournalAdvances.{JournalAdvances, AreOf}
use Rattle.farm_nodes_turn_order.specs.Ordered.{AreOrdered, IsUnproposed}
use Rattle.farm_nodes_turn_order.proofs.Orders.{Follows, IsSameNode, in_order_at, more_in_order, more_ordered, ordered_at, same_turned}
use Rattle.farm_nodes_turn_order.proofs.Records.{kept_own, kept_other, proposed_other}

pub begins_same : (xs : List Record) → Begins xs xs
begins_same xs = ([], sym (append-nil xs))

pub begins_through : (xs ys zs : List Record) → Begins xs ys → Begins ys zs → Begins xs zs
begins_through xs ys zs p q = (p.0 ++ q.0, q.1 ∙ (ap (λ (l : List Record). l ++ q.0) p.1 ∙ append_assoc xs p.0 q.0))

pub begins_more : (xs ys more : List Record) → Begins xs ys → Begins xs (ys ++ more)
begins_more xs ys more p = begins_through xs ys (ys ++ more) p (more, refl)

more_of : (rooms : ℕ) (rs : List Record) (r : Record) → room_of r < rooms → AreOf rooms rs → AreOf rooms (rs ++ r ∷ [])
more_of rooms rs r low are = All-push (λ (x : Record). room_of x < rooms) rs r are low

wider : (h g : Header) (low high low2 high2 : List Record) (c : List ℕ) → h ≡ g → Begins low2 low → Begins high high2 → Between h low high c → Between g low2 high2 c
wider h g low high low2 high2 c same p q b = record {
  records = b.records;
  stands = subst (λ (x : Header). StandsFor x b.records c) same b.stands;
  all_of_low = begins_through low2 low b.records p b.all_of_low;
  none_else = begins_through b.records high high2 b.none_else q;
}

nothing_pending : (n i rooms : ℕ) (rs : List Record) → AreInOrder n i rooms rs → AreInOrder n i rooms (rs ++ [])
nothing_pending n i rooms rs order = subst (λ (l : List Record). AreInOrder n i rooms l) (sym (append-nil rs)) order

module _ {D : Type 0} (disk : disks.Ghosts D) where
  abbrev pub Goes : Log D → Log D → ℕ → SeatState → SeatState → List Record → List Record → Type 0
  Goes old new room s t upto pending = JournalAdvances disk old new room s t upto pending

  -- what a crash leaves of a journal at rest
  rest : (log : Log D) → IsReady disk log → (c : List ℕ) → disk.may_leave log.disk c → Either log.header (acknowledged disk.seen log) (acknowledged disk.seen log ++ []) c
  rest log ready c left = inl (subst (λ (b : List ℕ). StandsFor log.header (acknowledged disk.seen log) b) (sym (ready.rests.durable c left)) ready.rests.stands)

  -- nothing was done
  pub none : (log : Log D) (room : ℕ) (s : SeatState) → IsReady disk log
      → ((c : List ℕ) → disk.left_since log.disk (disk.moment log.disk) c → disk.may_leave log.disk c)
      → Goes log log room s s (acknowledged disk.seen log) []
  none log room s ready now = record {
    longer = begins_same (acknowledged disk.seen log);
    kept = λ e. e;
    others = λ m other. refl;
    named = λ rooms low are. are;
    me = refl;
    quorums = refl;
    proposals = λ m other. refl;
    order = λ rooms low ordered. (ordered, nothing_pending s.node.quorums.nodes s.node.me rooms (acknowledged disk.seen log) ordered.in_order);
    any_moment = started disk.moment disk.left_since log.disk (Between log.header (acknowledged disk.seen log) (acknowledged disk.seen log ++ [])) (λ c left. either-between log.header (acknowledged disk.seen log) (acknowledged disk.seen log ++ []) c ([], refl) (rest log ready c (now c left)));
    left = rest log ready;
  }

  -- one record was put down
  pub one : (old new : Log D) (room : ℕ) (s t : SeatState) (r : Record) → Follows room s t r
      → new.header ≡ old.header → IsReady disk new → acknowledged disk.seen new ≡ acknowledged disk.seen old ++ r ∷ []
      → LeavesOnly disk.moment disk.left_since old.disk new.disk (Between old.header (acknowledged disk.seen old) (acknowledged disk.seen old ++ r ∷ []))
      → Goes old new room s t (acknowledged disk.seen new) []
  one old new room s t r follows header ready added run = record {
    longer = (r ∷ [], added);
    kept = λ e. ap (λ (rs : List Record). kept_in rs room) added ∙ (kept_own (acknowledged disk.seen old) r room follows.own ∙ (ap (λ (x : KeptPart). kept_by_record x r) e ∙ follows.step));
    others = λ m other. ap (λ (rs : List Record). kept_in rs m) added ∙ kept_other (acknowledged disk.seen old) r m (λ e. other (sym e ∙ follows.own));
    named = λ rooms low are. subst (λ (rs : List Record). AreOf rooms rs) (sym added) (more_of rooms (acknowledged disk.seen old) r (subst (λ (m : ℕ). m < rooms) (sym follows.own) low) are);
    me = follows.me;
    quorums = follows.quorums;
    proposals = λ m other. ap (λ (rs : List Record). proposed_in rs m) added ∙ proposed_other (acknowledged disk.seen old) r m (λ e. other (sym e ∙ follows.own));
    order = λ rooms low ordered. (
      subst (λ (rs : List Record). AreOrdered rooms room t rs) (sym added) (more_ordered rooms room s t (acknowledged disk.seen old) r low follows ordered),
      nothing_pending s.node.quorums.nodes s.node.me rooms (acknowledged disk.seen new)
          (subst (λ (rs : List Record). AreInOrder s.node.quorums.nodes s.node.me rooms rs) (sym added)
          (more_in_order rooms room s (acknowledged disk.seen old) r low follows.own follows.goes ordered)),
    );
    any_moment = weaker run (λ c b. wider old.header old.header (acknowledged disk.seen old) (acknowledged disk.seen old ++ r ∷ []) (acknowledged disk.seen old) (acknowledged disk.seen new ++ []) c refl (begins_same (acknowledged disk.seen old)) ([], more) b);
    left = λ c left. subst (λ (h : Header). Either h (acknowledged disk.seen new) (acknowledged disk.seen new ++ []) c) header (rest new ready c left);
  }
    where
      more : acknowledged disk.seen new ++ [] ≡ (acknowledged disk.seen old ++ r ∷ []) ++ []
      more = ap (λ (rs : List Record). rs ++ []) added

  -- one record may have been put down
  pub perhaps : (old new : Log D) (room : ℕ) (s : SeatState) (r : Record) → room_of r ≡ room
      → ((last : ℕ) → IsUnproposed last s → MayComeNext s.node.quorums.nodes s.node.me s.node.kept last r)
      → ((c : List ℕ) → disk.may_leave new.disk c → disk.moment old.disk ≤ disk.moment new.disk → disk.left_since new.disk (disk.moment old.disk) c)
      → LeavesOnly disk.moment disk.left_since old.disk new.disk (Between old.header (acknowledged disk.seen old) (acknowledged disk.seen old ++ r ∷ []))
      → Goes old new room s s (acknowledged disk.seen old) (r ∷ [])
  perhaps old new room s r own goes counts run = record {
    longer = begins_same (acknowledged disk.seen old);
    kept = λ e. e;
    others = λ m other. refl;
    named = λ rooms low are. are;
    me = refl;
    quorums = refl;
    proposals = λ m other. refl;
    order = λ rooms low ordered. (ordered, more_in_order rooms room s (acknowledged disk.seen old) r low own goes ordered);
    any_moment = run;
    left = λ c left. between-two old.header (acknowledged disk.seen old) r c (run.each c (counts c left run.later));
  }

  -- one call after another
  pub then : (old mid new : Log D) (room : ℕ) (s m t : SeatState) (upto pending : List Record) → mid.header ≡ old.header
      → Goes old mid room s m (acknowledged disk.seen mid) [] → Goes mid new room m t upto pending → Goes old new room s t upto pending
  then old mid new room s m t upto pending header first second = record {
    longer = begins_through (acknowledged disk.seen old) (acknowledged disk.seen mid) upto first.longer second.longer;
    kept = λ e. second.kept (first.kept e);
    others = λ i other. second.others i other ∙ first.others i other;
    named = λ rooms low are. second.named rooms low (first.named rooms low are);
    me = second.me ∙ first.me;
    quorums = second.quorums ∙ first.quorums;
    proposals = λ i other. second.proposals i other ∙ first.proposals i other;
    order = λ rooms low ordered.
        let both = second.order rooms low (first.order rooms low ordered).0 in (
          both.0,
          subst (λ (n : ℕ). AreInOrder n s.node.me rooms (upto ++ pending)) (ap (λ (q : Sizes). q.nodes) first.quorums)
              (subst (λ (i : ℕ). AreInOrder m.node.quorums.nodes i rooms (upto ++ pending)) first.me both.1),
        );
    any_moment = composed disk.moment disk.left_since old.disk mid.disk new.disk
        (Between old.header (acknowledged disk.seen old) (acknowledged disk.seen mid ++ []))
        (Between mid.header (acknowledged disk.seen mid) (upto ++ pending))
        (Between old.header (acknowledged disk.seen old) (upto ++ pending))
        first.any_moment second.any_moment
        (λ c b. wider old.header old.header (acknowledged disk.seen old) (acknowledged disk.seen mid ++ []) (acknowledged disk.seen old) (upto ++ pending) c refl (begins_same (acknowledged disk.seen old))
        (subst (λ (rs : List Record). Begins rs (upto ++ pending)) (sym (append-nil (acknowledged disk.seen mid))) (begins_more (acknowledged disk.seen mid) upto pending second.longer)) b)
        (λ c b. wider mid.header old.header (acknowledged disk.seen mid) (upto ++ pending) (acknowledged disk.seen old) (upto ++ pending) c header first.longer (begins_same (upto ++ pending)) b);
    left = λ c left. subst (λ (h : Header). Either h upto (upto ++ pending) c) header (second.left c left);
  }

  -- it speaks of what the seat's node is
  pub goes_at : (old new : Log D) (room : ℕ) (s t s2 t2 : SeatState) (upto pending : List Record) → IsSameNode s s2 → IsSameNode t t2 → Goes old new room s t upto pending → Goes old new room s2 t2 upto pending
  goes_at old new room s t s2 t2 upto pending p q goes = record {
    longer = goes.longer;
    kept = λ e. goes.kept (e ∙ p.kept) ∙ sym q.kept;
    others = goes.others;
    named = goes.named;
    me = q.me ∙ (goes.me ∙ sym p.me);
    quorums = q.quorums ∙ (goes.quorums ∙ sym p.quorums);
    proposals = goes.proposals;
    order = λ rooms low ordered.
        let both = goes.order rooms low (ordered_at rooms room s2 s (acknowledged disk.seen old) (same_turned s s2 p) ordered) in
        (ordered_at rooms room t t2 upto q both.0, in_order_at rooms s s2 (upto ++ pending) p both.1);
    any_moment = goes.any_moment;
    left = goes.left;
  }
