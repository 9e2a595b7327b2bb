-- The text of a journal that is to be migrated: as that of a journal, behind one of two other headers, and with no summary.
use Rattle.std.specs.Prelude.{◌≡◌, ℕ, ◌+◌, ◌*◌, List, [], ◌∷◌, ◌++◌, All, Bool, true, false, ◌==◌, ◌&&◌}
use Rattle.std.specs.Prelude.{if◌then◌else◌, Option, Some, None}
use Rattle.acceptor_log_form.specs.declared.header.Header.{Header}
use Rattle.acceptor_log_form.specs.declared.record.Record.{Record}
use Rattle.acceptor_log_form.specs.declared.record.Record.TheVariants.{Offered, Started, Proposed, Promised, Accepted, Summary}
use Rattle.acceptor_log_form.specs.Text.{StandsAs}
use Rattle.acceptor_log_form.specs.Reading.{records_behind}

-- These sizes of quorums of so many nodes belong to the first form of a header: the number of nodes is odd, and both sizes
-- are half of it, rounded up. So it is where twice each size is one more than the number of nodes.
unfoldable pub belong_to_first : ℕ → ℕ → ℕ → Bool
belong_to_first nodes promise accept = 2 * promise == nodes + 1 && 2 * accept == nodes + 1

-- the four bytes CFJ1, the number of nodes, the node, the digest
abbrev pub first_form : Header → List ℕ
first_form h = 0x43 ∷ 0x46 ∷ 0x4a ∷ 0x31 ∷ h.nodes ∷ h.node ∷ h.digest

-- the four bytes CFJF, the number of nodes, the size of a promise quorum, that of an accept quorum, the node, the digest
abbrev pub second_form : Header → List ℕ
second_form h = 0x43 ∷ 0x46 ∷ 0x4a ∷ 0x46 ∷ h.nodes ∷ h.promise ∷ h.accept ∷ h.node ∷ h.digest

-- a header has the first form where its sizes belong to that, and else the second
unfoldable pub old_header_text : Header → List ℕ
old_header_text h = if belong_to_first h.nodes h.promise h.accept then first_form h else second_form h

-- how many bytes that is, where the digest has 32
unfoldable pub old_header_size : Header → ℕ
old_header_size h = if belong_to_first h.nodes h.promise h.accept then 38 else 40

-- an old journal has no summary
abbrev pub is_plain : Record → Bool
is_plain (Offered room offer) = true
is_plain (Started room b) = true
is_plain (Proposed room b v) = true
is_plain (Promised room b) = true
is_plain (Accepted room b v) = true
is_plain (Summary room s p x) = false

abbrev pub are_plain : List Record → Bool
are_plain [] = true
are_plain (r ∷ rs) = is_plain r && are_plain rs

-- bytes stand for these records as the old journal with this header
pub record OldStandsFor (h : Header) (rs : List Record) (bytes : List ℕ) : Type 0 where
  pub stands : StandsAs (old_header_size h) (old_header_text h) rs bytes
  pub plain : are_plain rs ≡ true

-- where one of the records that were read is a summary there is no list
abbrev pub plain_only : Option (List Record) → Option (List Record)
plain_only None = None
plain_only (Some rs) = if are_plain rs then Some rs else None

-- the records that the bytes of the old journal with this header stand for
abbrev pub old_listed : Header → List ℕ → Option (List Record)
old_listed h bytes = plain_only (records_behind (old_header_size h) bytes)
