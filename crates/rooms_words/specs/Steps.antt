-- What each kind of word step tells the seat that takes it.
use Rattle.std.specs.Prelude.{◌≡◌, ℕ, ◌<◌, ◌⊎◌, true, List, [], ◌∷◌, ◌++◌, IfSome}
use Rattle.atomic_table.specs.Table.{Step, Me}
use Rattle.paxos_core_world.specs.Step.{Label, Offers}
use Rattle.paxos_core.specs.NodeState.{NodeState, restarted}
use Rattle.paxos_core.specs.Taken.{taken_by_restart}
use Rattle.paxos_core.specs.Takes.{AreStepsOf}
use Rattle.paxos_core.specs.Would.{after_act, taken_by_act}
use Rattle.paxos_core.specs.Act.{Act}
use Rattle.paxos_core.specs.Act.TheVariants as act
use Rattle.paxos_core.specs.LateOffer.{BelongsWithLateOffer, proposes_own}
use Rattle.rooms_words.specs.Words.{promised_in, accepted_in}
use Rattle.rooms_words.specs.declared.event.Event.{Event}
use Rattle.rooms_words.specs.declared.view.View.{View}
use Rattle.rooms_words.specs.Events.{labels_of, events_of}
use Rattle.rooms_words.specs.Heard.{after_hearing, taken_by_hearing}
use Rattle.rooms_words.specs.Views.{world_after, IsLegal, BeginsWith, AreStepsOfOthers}
use Rattle.rooms_words.specs.WordsOf.{proposer_at, acceptor_at, IsProposerOf, IsAcceptorOf}

-- the seat, whose node is t afterwards, took these steps of the protocol: behind what it had seen, and before them, stand
-- steps of other nodes alone
pub record Advances (v : View) (steps : List Label) (t : NodeState) (w : View) : Type 0 where
  pub between : List Event
  pub seen : w.seen ≡ events_of steps ++ (between ++ v.seen)
  pub others : AreStepsOfOthers v.opening.quorums.nodes v.node.me (labels_of between)
  pub own : AreStepsOf v.opening.quorums.nodes v.node.me steps
  pub legal : IsLegal v.opening w.seen
  pub told : BeginsWith w.seen v.told
  pub told_by : v.told_by ≡ v.opening
  pub stays : w ≡ record v { seen = w.seen; node = t }
  pub belongs : BelongsWithLateOffer v.opening.quorums (world_after v.opening w.seen) t

-- those of a proposal of its own number, with its offer before it
abbrev pub AreWithOffer : NodeState → Act → List Label → Type 0
AreWithOffer s a steps = (a ≡ act.Propose) × (proposes_own s ≡ true) × (steps ≡ taken_by_act s a ++ Offers s.me ∷ [])

-- the steps of an act of the node: its own and, with a proposal of its own number, at most its offer before it
abbrev pub AreTakenBy : NodeState → Act → List Label → Type 0
AreTakenBy s a steps = (steps ≡ taken_by_act s a) ⊎ AreWithOffer s a steps

-- the seat did what it was asked
pub record Took (a : Act) (v w : View) : Type 0 where
  pub steps : List Label
  pub taken : AreTakenBy v.node a steps
  pub advances : Advances v steps (after_act v.node a) w

-- a look at the word of node j's proposer: no step, and the number found is that word in the world then seen
pub record LooksAtProposer (j number : ℕ) (v w : View) : Type 0 where
  pub advances : Advances v [] v.node w
  pub shows : IsProposerOf (world_after v.opening w.seen) j number

-- a look at the word of node j's acceptor, from which the node notes and learns
pub record LooksAtAcceptor (j number : ℕ) (v w : View) : Type 0 where
  pub advances :
      Advances v (taken_by_hearing v.node j (promised_in number) (accepted_in number))
      (after_hearing v.node j (promised_in number) (accepted_in number)) w
  pub shows : IsAcceptorOf (world_after v.opening w.seen) j number

-- a store of the own proposer's word by this act
pub record StoresProposer (a : Act) (number : ℕ) (v w : View) : Type 0 where
  pub took : Took a v w
  pub shows : IsProposerOf (world_after v.opening w.seen) v.node.me number

-- a store of the own acceptor's word by this act
pub record StoresAcceptor (a : Act) (number : ℕ) (v w : View) : Type 0 where
  pub took : Took a v w
  pub shows : IsAcceptorOf (world_after v.opening w.seen) v.node.me number

-- a load of an own word, with which the node forgets all but what it keeps, as at a restart
abbrev pub Forgot : View → View → Type 0
Forgot v w = Advances v (taken_by_restart v.node) (restarted v.node v.node.kept) w

-- the same, and the number found at this place is the word that stands there in the world then seen
pub record ForgotAt (place number : ℕ) (v w : View) : Type 0 where
  pub forgot : Forgot v w
  pub proposer : (j : ℕ) → place ≡ proposer_at j → j < v.opening.quorums.nodes → IsProposerOf (world_after v.opening w.seen) j number
  pub acceptor : (j : ℕ) → place ≡ acceptor_at j → j < v.opening.quorums.nodes → IsAcceptorOf (world_after v.opening w.seen) j number

module _ {S : Type 0} where
  -- what the plays tell: of the step, the seat before, the number found or stored, and the seat after
  abbrev pub ProposerLook : Step S → Me S View → ℕ → Me S View → Type 0
  ProposerLook s v n w = (j : ℕ) → s.word ≡ proposer_at j → j < v.0.opening.quorums.nodes → LooksAtProposer j n v.0 w.0

  abbrev pub AcceptorLook : Step S → Me S View → ℕ → Me S View → Type 0
  AcceptorLook s v n w = (j : ℕ) → s.word ≡ acceptor_at j → j < v.0.opening.quorums.nodes → LooksAtAcceptor j n v.0 w.0

  abbrev pub StartStore : Step S → Me S View → ℕ → Me S View → Type 0
  StartStore s v n w = StoresProposer act.Start n v.0 w.0

  abbrev pub ProposeStore : Step S → Me S View → ℕ → Me S View → Type 0
  ProposeStore s v n w = StoresProposer act.Propose n v.0 w.0

  abbrev pub PromiseStore : Step S → Me S View → ℕ → Me S View → Type 0
  PromiseStore s v n w = StoresAcceptor (act.Promise (promised_in n)) n v.0 w.0

  abbrev pub AcceptStore : Step S → Me S View → ℕ → Me S View → Type 0
  AcceptStore s v n w = IfSome (accepted_in n) (λ x. StoresAcceptor (act.Accept x.ballot x.value) n v.0 w.0)

  abbrev pub ForgetLook : Step S → Me S View → ℕ → Me S View → Type 0
  ForgetLook s v n w = ForgotAt s.word n v.0 w.0
