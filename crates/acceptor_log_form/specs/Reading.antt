-- Reading the bytes of a journal: the list of records that they stand for, if there is one.
use Rattle.std.specs.Prelude.{ℕ, zero, suc, ◌+◌, nat_le, ◌==◌, if◌then◌else◌, List, [], ◌∷◌, length, take, Option, Some, None}
use Rattle.std.specs.Int.{w16, w32, from_be_bytes}
use Rattle.std.specs.Option.{option_map}
use Rattle.acceptor_log_form.specs.declared.header.Header.{Header}
use Rattle.acceptor_log_form.specs.declared.record.Record.{Record}
use Rattle.acceptor_log_form.specs.declared.record.Record.TheVariants.{Offered, Started, Proposed, Promised, Accepted, Summary}
use Rattle.acceptor_log_form.specs.Text.{header_size}

-- the ballot that these bytes are, all of them
abbrev pub ballot_in : List ℕ → Option ℕ
ballot_in (a ∷ b ∷ []) = Some (from_be_bytes w16 (a ∷ b ∷ []))
ballot_in _ = None

-- the ballot and the value that these bytes are
abbrev pub vote_in : List ℕ → Option (ℕ × ℕ)
vote_in (a ∷ b ∷ v ∷ []) = Some (from_be_bytes w16 (a ∷ b ∷ []), v)
vote_in _ = None

-- the summary of a room that these bytes are, all of them
abbrev pub summary_in : ℕ → List ℕ → Option Record
summary_in room (a ∷ b ∷ c ∷ d ∷ e ∷ f ∷ v ∷ []) = Some (Summary room (from_be_bytes w16 (a ∷ b ∷ []))
    (from_be_bytes w16 (c ∷ d ∷ [])) (from_be_bytes w16 (e ∷ f ∷ []), v))
summary_in room _ = None

-- the record of a room, by its code and the bytes behind the room
abbrev pub record_in : ℕ → ℕ → List ℕ → Option Record
record_in room code rest =
    if code == 1 then Some (Offered room rest)
    else (if code == 2 then option_map (λ b. Started room b) (ballot_in rest)
    else (if code == 3 then option_map (λ (x : ℕ × ℕ). Proposed room x.0 x.1) (vote_in rest)
    else (if code == 4 then option_map (λ b. Promised room b) (ballot_in rest)
    else (if code == 5 then option_map (λ (x : ℕ × ℕ). Accepted room x.0 x.1) (vote_in rest)
    else (if code == 6 then summary_in room rest
    else None)))))

-- the record that a body is, all of it
abbrev pub record_of : List ℕ → Option Record
record_of (code ∷ a ∷ b ∷ rest) = record_in (from_be_bytes w16 (a ∷ b ∷ [])) code rest
record_of _ = None

-- how many bytes a block has: its length, and so many
abbrev pub block_size : List ℕ → ℕ
block_size bytes = 4 + from_be_bytes w32 (take 4 bytes)

-- the record of the block that the bytes begin with
abbrev pub first_record : List ℕ → Option Record
first_record (a ∷ b ∷ c ∷ d ∷ rest) =
    let size = from_be_bytes w32 (a ∷ b ∷ c ∷ d ∷ []) in
    if nat_le size (length rest) then record_of (take size rest) else None
first_record _ = None

-- a record in front of others, where they all are there
abbrev pub in_front : Option Record → Option (List Record) → Option (List Record)
in_front (Some r) (Some rs) = Some (r ∷ rs)
in_front _ _ = None

-- The records from the gate on that stands behind so many bytes. A gate is open exactly if it is 1; the list ends at
-- the first other gate. Behind an open gate, a block that is cut or of no record, or a missing next gate, makes no list.
abbrev pub records_behind : ℕ → List ℕ → Option (List Record)
records_behind n [] = None
records_behind (suc n) (b ∷ bytes) = records_behind n bytes
records_behind zero (gate ∷ bytes) =
    if gate == 1 then in_front (first_record bytes) (records_behind (block_size bytes) bytes) else Some []

-- the records that the bytes of the journal with this header stand for: its first gate stands behind the header
abbrev pub listed : Header → List ℕ → Option (List Record)
listed h bytes = records_behind header_size bytes
