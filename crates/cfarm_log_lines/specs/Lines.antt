-- The lines of a journal that is listed. Digests are in lower case hex.
use Rattle.std.specs.Prelude.{ℕ, List, [], ◌∷◌, ◌++◌, length, codes}
use Rattle.std.specs.Fmt.{decimal}
use Rattle.hex.specs.Hex.{encode_lower}
use Rattle.sha2.specs.Sha256.{sha256}
use Rattle.acceptor_log_form.specs.declared.header.Header.{Header}
use Rattle.acceptor_log_form.specs.declared.record.Record.{Record}
use Rattle.acceptor_log_form.specs.declared.record.Record.TheVariants.{Offered, Started, Proposed, Promised, Accepted, Summary}

-- a room and what is said of it, to the end of the line
abbrev pub of_room : ℕ → List ℕ → List ℕ
of_room room rest = codes " room " ++ (decimal room ++ rest)

abbrev pub of_ballot : ℕ → List ℕ → List ℕ
of_ballot ballot rest = codes " ballot " ++ (decimal ballot ++ rest)

abbrev pub of_value : ℕ → List ℕ
of_value value = codes " value " ++ (decimal value ++ codes "\n")

-- how many bytes an offer has, and its name, the SHA-256 of its bytes
abbrev pub of_offer : List ℕ → List ℕ
of_offer offer = codes " bytes " ++ (decimal (length offer) ++ (codes " name " ++ (encode_lower (sha256 offer) ++ codes "\n")))

-- the ballots that were started and promised last, and the vote; 0 stands for none
abbrev pub of_summary : ℕ → ℕ → ℕ × ℕ → List ℕ
of_summary s p x =
    codes " started " ++ (decimal s ++ (codes " promised " ++ (decimal p ++ (codes " accepted " ++ (decimal x.0 ++ of_value x.1)))))

-- a record
abbrev pub record_line : Record → List ℕ
record_line (Offered room offer) = codes "offered" ++ of_room room (of_offer offer)
record_line (Started room b) = codes "started" ++ of_room room (of_ballot b (codes "\n"))
record_line (Proposed room b v) = codes "proposed" ++ of_room room (of_ballot b (of_value v))
record_line (Promised room b) = codes "promised" ++ of_room room (of_ballot b (codes "\n"))
record_line (Accepted room b v) = codes "accepted" ++ of_room room (of_ballot b (of_value v))
record_line (Summary room s p x) = codes "summary" ++ of_room room (of_summary s p x)

-- records, one a line
abbrev pub record_lines : List Record → List ℕ
record_lines [] = []
record_lines (r ∷ rs) = record_line r ++ record_lines rs

-- how many nodes there are, and the sizes of both quorums
abbrev pub of_sizes : Header → List ℕ
of_sizes h = codes " nodes " ++ (decimal h.nodes ++ (codes " promise " ++ (decimal h.promise ++ (codes " accept " ++ decimal h.accept))))

-- the node, and the digest of the source
abbrev pub of_owner : Header → List ℕ
of_owner h = codes " node " ++ (decimal h.node ++ (codes " source " ++ (encode_lower h.digest ++ codes "\n")))

-- whose journal it is, of which version
abbrev pub head_line : ℕ → Header → List ℕ
head_line version h = codes "journal " ++ (decimal version ++ (of_sizes h ++ of_owner h))

-- how many records there are, and how many bytes to the closed gate and with it
abbrev pub end_line : ℕ → ℕ → List ℕ
end_line records size = codes "end " ++ (decimal records ++ (codes " records " ++ (decimal size ++ codes " bytes\n")))
