-- What is kept of two files stands for.
use Rattle.std.specs.Prelude.{◌≤◌, ◌+◌, ℕ, Bool, if◌then◌else◌, reverse, vec_len, vec_capacity}
use Rattle.durable_pair_held.specs.declared.held.Held.{Held}
use Rattle.durable_pair_held.specs.Past.{Past}

-- the files, and what was done to them
abbrev pub past_of : Held → Past
past_of held = record {
  notes = reverse held.notes.items;
  new = (held.bytes.items, held.lost.items);
  old = (held.old_bytes.items, held.old_lost.items);
}

-- it has space for so many notes more
abbrev pub CanNoteMore : ℕ → Held → Type 0
CanNoteMore n held = vec_len held.notes + n ≤ vec_capacity held.notes

-- it has space for a byte that a write to the new file writes over, or one to the old file
abbrev pub HasByte : Held → Type 0
HasByte held = vec_len held.lost + 1 ≤ vec_capacity held.lost

abbrev pub HasOldByte : Held → Type 0
HasOldByte held = vec_len held.old_lost + 1 ≤ vec_capacity held.old_lost

-- how many syncs are to be noted yet, of two files that are settled or not
abbrev pub syncs_due : Bool → Bool → ℕ
syncs_due settled old_settled = (if settled then 0 else 1) + (if old_settled then 0 else 1)
