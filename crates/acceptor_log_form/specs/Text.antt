-- The text of a journal: a header, for each record an open gate and a block, and a closed gate.
use Rattle.std.specs.Prelude.{◌≡◌, ◌≢◌, ℕ, ◌<◌, ◌^◌, List, [], ◌∷◌, ◌++◌, length, take, drop, All}
use Rattle.std.specs.Int.{w16, w32, to_be_bytes}
use Rattle.acceptor_log_form.specs.declared.header.Header.{Header}
use Rattle.acceptor_log_form.specs.declared.record.Record.{Record}
use Rattle.acceptor_log_form.specs.declared.record.Record.TheVariants.{Offered, Started, Proposed, Promised, Accepted, Summary}

-- the room of a record
abbrev pub room_of : Record → ℕ
room_of (Offered room offer) = room
room_of (Started room b) = room
room_of (Proposed room b v) = room
room_of (Promised room b) = room
room_of (Accepted room b v) = room
room_of (Summary room s p x) = room

-- the four bytes CFJ2, the number of nodes, the size of a promise quorum, that of an accept quorum, the node, the digest
abbrev pub header_text : Header → List ℕ
header_text h = 0x43 ∷ 0x46 ∷ 0x4a ∷ 0x32 ∷ h.nodes ∷ h.promise ∷ h.accept ∷ h.node ∷ h.digest

-- how many bytes that is, where the digest has 32
abbrev pub header_size : ℕ
header_size = 40

-- a code, the room and a ballot
abbrev pub ballot_text : ℕ → ℕ → ℕ → List ℕ
ballot_text code room b = code ∷ (to_be_bytes w16 room ++ to_be_bytes w16 b)

-- a code, the room, a ballot and a value under it
abbrev pub vote_text : ℕ → ℕ → ℕ → ℕ → List ℕ
vote_text code room b v = code ∷ (to_be_bytes w16 room ++ (to_be_bytes w16 b ++ v ∷ []))

-- a summary's body: code 6, the room, the ballots that were started and promised last, and the vote, a ballot and a value
abbrev pub summary_text : ℕ → ℕ → ℕ → ℕ × ℕ → List ℕ
summary_text room s p x =
    6 ∷ (to_be_bytes w16 room ++ (to_be_bytes w16 s ++ (to_be_bytes w16 p ++ (to_be_bytes w16 x.0 ++ x.1 ∷ []))))

-- a code, the room, and what the record says of it; numbers have their highest byte first
abbrev pub body_text : Record → List ℕ
body_text (Offered room offer) = 1 ∷ (to_be_bytes w16 room ++ offer)
body_text (Started room b) = ballot_text 2 room b
body_text (Proposed room b v) = vote_text 3 room b v
body_text (Promised room b) = ballot_text 4 room b
body_text (Accepted room b v) = vote_text 5 room b v
body_text (Summary room s p x) = summary_text room s p x

-- the length of the body, and the body
abbrev pub block_text : Record → List ℕ
block_text r = to_be_bytes w32 (length (body_text r)) ++ body_text r

-- the records' blocks, each behind an open gate
abbrev pub blocks : List Record → List ℕ
blocks [] = []
blocks (r ∷ rs) = 1 ∷ (block_text r ++ blocks rs)

-- its room and its ballots have two bytes
abbrev pub FitsWidths : Record → Type 0
FitsWidths (Offered room offer) = room < 2 ^ 16
FitsWidths (Started room b) = (room < 2 ^ 16) × (b < 2 ^ 16)
FitsWidths (Proposed room b v) = (room < 2 ^ 16) × (b < 2 ^ 16)
FitsWidths (Promised room b) = (room < 2 ^ 16) × (b < 2 ^ 16)
FitsWidths (Accepted room b v) = (room < 2 ^ 16) × (b < 2 ^ 16)
FitsWidths (Summary room s p x) = (room < 2 ^ 16) × (s < 2 ^ 16) × (p < 2 ^ 16) × (x.0 < 2 ^ 16)

-- the length of its body has four bytes
abbrev pub HasLength : Record → Type 0
HasLength r = length (body_text r) < 2 ^ 32

-- a record that has a text
abbrev pub Fits : Record → Type 0
Fits r = FitsWidths r × HasLength r

-- the whole journal with this header and these records, with nothing behind its closed gate
abbrev pub journal_text : Header → List Record → List ℕ
journal_text h rs = header_text h ++ (blocks rs ++ 0 ∷ [])

-- Bytes stand for these records, from a gate on: each record's block stands whole behind an open gate, and behind the last a
-- gate that is not open. What stands behind that does not count.
pub record StandsBehind (rs : List Record) (bytes : List ℕ) : Type 0 where
  pub gate : ℕ
  pub behind : List ℕ
  pub closed : gate ≢ 1
  pub fits : All Fits rs
  pub text : bytes ≡ blocks rs ++ gate ∷ behind

-- Bytes stand for these records behind a header of so many bytes, which are these.
pub record StandsAs (size : ℕ) (head : List ℕ) (rs : List Record) (bytes : List ℕ) : Type 0 where
  pub header : take size bytes ≡ head
  pub records : StandsBehind rs (drop size bytes)

-- Bytes stand for these records as the journal with this header.
abbrev pub StandsFor : Header → List Record → List ℕ → Type 0
StandsFor h = StandsAs header_size (header_text h)
