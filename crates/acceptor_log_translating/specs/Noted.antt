-- What is found of the rooms once records were read.
use Rattle.std.specs.Prelude.{◌≡◌, ℕ, Bool, List, [], ◌∷◌, ◌++◌, None, All, MatchBool}
use Rattle.acceptor_log_form.specs.declared.header.Header.{Header}
use Rattle.acceptor_log_form.specs.declared.record.Record.{Record}
use Rattle.acceptor_log_form.specs.declared.errors.LogError.{LogError}
use Rattle.acceptor_log_form.specs.declared.errors.LogError.TheVariants.{BadRecord}
use Rattle.acceptor_log_form.specs.Text.{StandsBehind, blocks, Fits}
use Rattle.acceptor_log_form.specs.Reading.{records_behind, first_record}
use Rattle.acceptor_log_translating.specs.declared.stepping.Room.{Room}
use Rattle.acceptor_log_translating.specs.declared.finding.Found.{Found}
use Rattle.acceptor_log_translating.specs.Found.{ArePlaced, AreFound, AreBroken, IsFoundIn}

-- the bytes from a gate on stand for records of which this was found
abbrev pub IsFoundOf : Header → List ℕ → Found → Type 0
IsFoundOf h bytes found = (rs : List Record) × StandsBehind rs bytes × IsFoundIn h.nodes h.node bytes rs found

-- they stand for none
abbrev pub AreNoRecords : List ℕ → LogError → Type 0
AreNoRecords bytes e = (e ≡ BadRecord) × (records_behind 0 bytes ≡ None)

-- the block that stands there is of none
abbrev pub IsNoRecord : List ℕ → LogError → Type 0
IsNoRecord behind e = (e ≡ BadRecord) × (first_record behind ≡ None)

-- What was found of the records in front of an open gate is found of one more, which stands in front of what is left.
abbrev pub IsFoundBehind : Header → List ℕ → List ℕ → Found → Found → List ℕ → Type 0
IsFoundBehind h bytes behind old new after =
    (rs : List Record) → bytes ≡ blocks rs ++ 1 ∷ behind → All Fits rs → IsFoundIn h.nodes h.node bytes rs old
    → (xs : List Record) × (bytes ≡ blocks xs ++ after) × All Fits xs × IsFoundIn h.nodes h.node bytes xs new

-- A record more was noted that stands there: what was found of some records is found of those and of it.
abbrev pub IsNoted : Header → Record → ℕ × ℕ → Found → Found → Type 0
IsNoted h r place old new =
    (bytes : List ℕ) (rs : List Record) → ArePlaced bytes (r ∷ []) place → IsFoundIn h.nodes h.node bytes rs old
    → IsFoundIn h.nodes h.node bytes (rs ++ r ∷ []) new

-- the same of the rooms, where an old journal may have the record, and else it may have none of them
abbrev pub IsPutDown : Header → Record → ℕ × ℕ → List Room → List Room → Bool → Type 0
IsPutDown h r place old new goes =
    (bytes : List ℕ) (rs : List Record) → ArePlaced bytes (r ∷ []) place → AreFound h.nodes h.node bytes rs old
    → MatchBool goes (AreFound h.nodes h.node bytes (rs ++ r ∷ []) new) (AreBroken h.nodes h.node (rs ++ r ∷ []))
