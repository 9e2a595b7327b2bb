-- The text for what was found of an old journal's records, whatever they are.
use Rattle.std.specs.Prelude.{◌≡◌, ℕ, ◌≤◌, ◌^◌, List, Option, All, length}
use Rattle.acceptor_log_form.specs.declared.header.Header.{Header}
use Rattle.acceptor_log_form.specs.declared.record.Record.{Record}
use Rattle.acceptor_log_form.specs.declared.errors.LogError.{LogError}
use Rattle.acceptor_log_form.specs.declared.errors.LogError.TheVariants.{Full}
use Rattle.acceptor_log_form.specs.Text.{Fits, blocks, journal_text}
use Rattle.acceptor_log_translating.specs.declared.stepping.Room.{Room}
use Rattle.acceptor_log_translating.specs.declared.translating.Text.{Text}
use Rattle.acceptor_log_old.specs.Migrated.{of_room, offered, migrated_below, migrated}
use Rattle.acceptor_log_translating.specs.Found.{IsFound, EachIsFound, AreFound}
use Rattle.acceptor_log_translating.specs.Translating.{IsAdded, IsMigratedText}

-- what was found of all rooms makes this text
abbrev pub IsTextOfRooms : Header → List ℕ → List Room → Text → Type 0
IsTextOfRooms h bytes rooms text =
    (rs : List Record) → AreFound h.nodes h.node bytes rs rooms → IsMigratedText h (migrated rs) text

-- it makes one that no journal may have
abbrev pub IsTooLong : Header → List ℕ → List Room → LogError → Type 0
IsTooLong h bytes rooms e =
    (rs : List Record) → AreFound h.nodes h.node bytes rs rooms
    → (e ≡ Full) × (2 ^ 32 ≤ length (journal_text h (migrated rs)))

-- what was found of the first rooms makes this text
abbrev pub IsTextBelow : Header → List ℕ → List Room → Text → Type 0
IsTextBelow h bytes rooms text =
    (rs : List Record) → EachIsFound bytes rs rooms → IsMigratedText h (migrated_below rs (length rooms)) text

-- it was put down, in so many records
abbrev pub AreRoomsAdded : List ℕ → List Room → List ℕ → List ℕ → ℕ → Type 0
AreRoomsAdded bytes rooms before after n =
    (rs : List Record) → EachIsFound bytes rs rooms → IsAdded before after (migrated_below rs (length rooms)) n

-- what was found of a room was put down, in so many records
abbrev pub IsRoomAdded : List ℕ → ℕ → Room → List ℕ → List ℕ → ℕ → Type 0
IsRoomAdded bytes room found before after n =
    (rs : List Record) → IsFound bytes rs room found → IsAdded before after (of_room rs room) n

-- the offer of a room, which has this block, or none where there is none
abbrev pub IsOfferAdded : List ℕ → List ℕ → List ℕ → ℕ → Type 0
IsOfferAdded block before after n =
    (m : ℕ) (o : Option (List ℕ)) → block ≡ blocks (offered m o) → All Fits (offered m o)
    → IsAdded before after (offered m o) n
