-- What a call leaves of the journal that does nothing, that offers, or that halts.
use Rattle.std.proofs.Common.{◌≡◌, ℕ, ◌<◌, Bool, true, false, List, [], ◌∷◌, ◌++◌, Option, Some, sym, ap, ◌∙◌, subst}
use Rattle.paxos_core_world.specs.KeptPart.{KeptPart}
use Rattle.durable_model.specs.declared.disk.Disk as disks
use Rattle.acceptor_log_form.specs.declared.errors.LogError.{LogError}
use Rattle.acceptor_log_form.specs.declared.errors.LogError.TheVariants as log
use Rattle.acceptor_log_form.specs.declared.record.Record.{Record}
use Rattle.acceptor_log_form.specs.declared.record.Record.TheVariants.{Offered}
use Rattle.acceptor_log_form.specs.Text.{room_of}
use Rattle.acceptor_log_form.specs.Leaves.{kept_by_record, proposed_by}
use Rattle.acceptor_log_form.specs.Order.{MayComeNext}
use Rattle.acceptor_log.specs.declared.log.Log.{Log}
use Rattle.acceptor_log.specs.Acknowledged.{acknowledged, IsReady}
use Rattle.farm_nodes_turn_step.specs.SeatState.{SeatState}
use Rattle.rooms.specs.SeatValue.{SeatValue, offer_of}
use Rattle.farm_nodes_turn_step.specs.Cause.{HasCause}
use Rattle.farm_nodes_turn_step.specs.Ordered.{IsUnproposed}
use Rattle.farm_nodes_turn_step.proofs.Orders.{Follows}
use Rattle.farm_nodes_turn_step.proofs.Results.{Grown}
use Rattle.farm_nodes_turn_step.proofs.Runs.{none, then}
use Rattle.farm_nodes_turn_step.proofs.Steps.{no_more}
use Rattle.farm_nodes_turn_step.specs.JournalAdvances.{JournalAdvances}
use Rattle.farm_nodes_turn_step.proofs.Told.{offer_own, offer_stays}
use Rattle.farm_nodes_turn_offer.specs.Halted.{HasLeft, HasHaltCause, fault_by_journal}
use Rattle.farm_nodes_turn_offer.specs.Told.{offer_by, last_offer_in, IsOwnText, TellNew}
use Rattle.farm_nodes_turn_offer.specs.Offered.{PutsOffer}

-- what a node's offer leaves of the room is what its record leaves of it
pub offer_kept : {T : Type 0} (room : ℕ) (text : List ℕ) (x : T) (r : Record) (s t : SeatValue T) → r ≡ Offered room text → PutsOffer x s t → kept_by_record s.words.node.kept r ≡ t.words.node.kept
offer_kept room text x r s t is has =
    ap (λ (q : Record). kept_by_record s.words.node.kept q) is ∙ sym (ap (λ (u : SeatState). u.node.kept) has.words)

-- the offer's record goes on from what the node keeps, and it proposes as before
pub offer_goes : {T : Type 0} (room : ℕ) (text : List ℕ) (r : Record) (s : SeatValue T) → r ≡ Offered room text → s.words.node.kept.offered ≡ false
    → (last : ℕ) → MayComeNext s.words.node.quorums.nodes s.words.node.me s.words.node.kept last r
offer_goes room text r s is first last =
    subst (λ (q : Record). MayComeNext s.words.node.quorums.nodes s.words.node.me s.words.node.kept last q) (sym is) first

pub offer_follows : {T : Type 0} (room : ℕ) (text : List ℕ) (x : T) (r : Record) (s t : SeatValue T) → r ≡ Offered room text → PutsOffer x s t → Follows room s.words t.words r
offer_follows room text x r s t is has = record {
  own = ap room_of is;
  step = offer_kept room text x r s t is has;
  me = ap (λ (u : SeatState). u.node.me) has.words;
  quorums = ap (λ (u : SeatState). u.node.quorums) has.words;
  goes = λ last fresh. offer_goes room text r s is has.first last;
  leaves = λ last fresh low.
      subst (λ (u : SeatState). IsUnproposed (proposed_by last r) u) (sym has.words)
      (subst (λ (q : Record). IsUnproposed (proposed_by last q) s.words) (sym is) fresh);
}

pub same_words : {T : Type 0} (s t : SeatValue T) → t ≡ s → t.words ≡ s.words
same_words s t e = ap (λ u. u.words) e

-- no offer was made
pub tell_same : (Is : List ℕ → Type 0) (room : ℕ) (s t : SeatState) (before upto : List Record) → t ≡ s → TellNew Is room s t before upto
tell_same Is room s t before upto same rooms low ordered first now =
    let bad : true ≡ false = sym now ∙ (ap (λ (u : SeatState). u.node.kept.offered) same ∙ first) in absurd (cc)

pub tell_none : (Is : List ℕ → Type 0) (room : ℕ) (s : SeatState) (before upto : List Record) → TellNew Is room s s before upto
tell_none Is room s before upto rooms low ordered first now = let bad : true ≡ false = sym now ∙ first in absurd (cc)

-- the offer's record tells its text
pub tell_offered : {T : Type 0} (IsText : List ℕ → T → Type 0) (room : ℕ) (text : List ℕ) (x : T) (r : Record) (s t : SeatValue T) (before upto : List Record)
    → r ≡ Offered room text → PutsOffer x s t → IsText text x → upto ≡ before ++ r ∷ [] → TellNew (IsOwnText IsText t) room s.words t.words before upto
tell_offered {T} IsText room text x r s t before upto is has told added rooms low ordered first now = (
  text,
  ap (λ (l : List Record). last_offer_in l room) added ∙ (offer_own before r room (ap room_of is) ∙ ap (λ (q : Record). offer_by (last_offer_in before room) q) is),
  (x, ap (λ (u : SeatState). offer_of t u.node.me) has.words ∙ has.own, told),
)

-- the journal's cause is a cause of the fault that its answer is
pub halt_cause : {D : Type 0} (disk : disks.Ghosts D) (TooLarge : Type 0) (old new : Log D) (pending : List Record) (e : LogError)
    → HasCause disk old new pending e → HasHaltCause disk TooLarge old new pending (fault_by_journal e)
halt_cause disk TooLarge old new pending log.NoMemory cause = tt
halt_cause disk TooLarge old new pending log.Device cause = cause
halt_cause disk TooLarge old new pending log.NotAJournal cause = cause
halt_cause disk TooLarge old new pending log.BadRecord cause = cause
halt_cause disk TooLarge old new pending log.OtherSource cause = cause
halt_cause disk TooLarge old new pending log.Stopped cause = cause
halt_cause disk TooLarge old new pending log.Full cause = cause

module _ {D : Type 0} (disk : disks.Ghosts D) where
  abbrev pub Left : (List ℕ → Type 0) → Log D → Log D → ℕ → SeatState → SeatState → List Record → Type 0
  Left Is old new room s t pending = HasLeft Is disk old new room s t pending

  -- nothing was done
  pub idle_grown : (log : Log D) (room : ℕ) (s : SeatState) → IsReady disk log
      → ((c : List ℕ) → disk.left_since log.disk (disk.moment log.disk) c → disk.may_leave log.disk c)
      → Grown disk log log room s s false
  idle_grown log room s ready now = record {
    ready = ready;
    advances = none disk log room s ready now;
    moved = no_more (acknowledged disk.seen log);
  }

  pub nothing_left : (Is : List ℕ → Type 0) (log : Log D) (room : ℕ) (s : SeatState) → IsReady disk log
      → ((c : List ℕ) → disk.left_since log.disk (disk.moment log.disk) c → disk.may_leave log.disk c)
      → Left Is log log room s s []
  nothing_left Is log room s ready now = (acknowledged disk.seen log, none disk log room s ready now, tell_none Is room s (acknowledged disk.seen log) (acknowledged disk.seen log))

  -- a call that makes no offer leaves what was told of one
  tell_on : (Is Now : List ℕ → Type 0) (old mid new : Log D) (room : ℕ) (s m t : SeatState) (upto pending : List Record)
      → JournalAdvances disk old mid room s m (acknowledged disk.seen mid) [] → JournalAdvances disk mid new room m t upto pending
      → t.node.kept.offered ≡ m.node.kept.offered → ((text : List ℕ) → Is text → Now text) → TellNew Is room s m (acknowledged disk.seen old) (acknowledged disk.seen mid)
      → TellNew Now room s t (acknowledged disk.seen old) upto
  tell_on Is Now old mid new room s m t upto pending first second same stays told rooms low ordered before now =
      let had : m.node.kept.offered ≡ true = sym same ∙ now in
      let is = told rooms low ordered before had in
      let between = (first.order rooms low ordered).0 in
      let after = (second.order rooms low between).0 in (
        is.0,
        offer_stays t.node.quorums.nodes t.node.me rooms room (acknowledged disk.seen mid) upto second.longer after.in_order (ap (λ (k : KeptPart). k.offered) between.kept ∙ had) ∙ is.1,
        stays is.0 is.2,
      )

  -- a call that makes none behind a call that went on
  pub told_after : (Is Now : List ℕ → Type 0) (old mid new : Log D) (room : ℕ) (s m t : SeatState) (a b : Bool)
      → Grown disk old mid room s m a → Grown disk mid new room m t b
      → t.node.kept.offered ≡ m.node.kept.offered → ((text : List ℕ) → Is text → Now text) → TellNew Is room s m (acknowledged disk.seen old) (acknowledged disk.seen mid)
      → TellNew Now room s t (acknowledged disk.seen old) (acknowledged disk.seen new)
  told_after Is Now old mid new room s m t a b first second same stays told =
      tell_on Is Now old mid new room s m t (acknowledged disk.seen new) [] first.advances second.advances same stays told

  -- a halt behind a call that went on
  pub left_after : (Is Now : List ℕ → Type 0) (old mid new : Log D) (room : ℕ) (s m t : SeatState) (a : Bool) (pending : List Record) → mid.header ≡ old.header
      → Grown disk old mid room s m a
      → t.node.kept.offered ≡ m.node.kept.offered → ((text : List ℕ) → Is text → Now text) → TellNew Is room s m (acknowledged disk.seen old) (acknowledged disk.seen mid)
      → (upto : List Record) × JournalAdvances disk mid new room m t upto pending → Left Now old new room s t pending
  left_after Is Now old mid new room s m t a pending header first same stays told second = (
    second.0,
    then disk old mid new room s m t second.0 pending header first.advances second.1,
    tell_on Is Now old mid new room s m t second.0 pending first.advances second.1 same stays told,
  )
