-- The steps of the protocol as views keep them.
use Rattle.std.specs.Prelude.{List, [], ◌∷◌}
use Rattle.paxos_core_world.specs.Step.{Label, Offers, Starts, Promises, Proposes, Accepts, Learns, Restarts}
use Rattle.rooms_words.specs.declared.event.Event.{Event}
use Rattle.rooms_words.specs.declared.event.Event.TheVariants as event

-- the step that is kept
abbrev pub label_of : Event → Label
label_of (event.Offers i) = Offers i
label_of (event.Starts i b) = Starts i b
label_of (event.Promises a b) = Promises a b
label_of (event.Proposes b v) = Proposes b v
label_of (event.Accepts a b v) = Accepts a b v
label_of (event.Learns i v) = Learns i v
label_of (event.Restarts i) = Restarts i

-- how a step is kept
abbrev pub event_of : Label → Event
event_of (Offers i) = event.Offers i
event_of (Starts i b) = event.Starts i b
event_of (Promises a b) = event.Promises a b
event_of (Proposes b v) = event.Proposes b v
event_of (Accepts a b v) = event.Accepts a b v
event_of (Learns i v) = event.Learns i v
event_of (Restarts i) = event.Restarts i

abbrev pub labels_of : List Event → List Label
labels_of [] = []
labels_of (e ∷ es) = label_of e ∷ labels_of es

abbrev pub events_of : List Label → List Event
events_of [] = []
events_of (l ∷ ls) = event_of l ∷ events_of ls
