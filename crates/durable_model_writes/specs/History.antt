-- What a disk in memory has noted, the last call first, and what a crash then may leave.
use Rattle.std.specs.Prelude.{◌≡◌, ◌≤◌, ℕ, List, [], ◌∷◌, ◌++◌, length, take, drop, refl}
use Rattle.durable_model_writes.specs.declared.call.Call.{Call}
use Rattle.durable_model_writes.specs.declared.call.Call.TheVariants.{Wrote, Tore, Synced, Left}
use Rattle.durable_model_writes.specs.Writes.{overwritten, Torn, torn_overwritten, torn_nothing}

-- how many bytes of those that were written belong to a call
abbrev pub size_of : Call → ℕ
size_of (Wrote at n) = n
size_of (Tore at n) = 0
size_of Synced = 0
size_of Left = 0

-- the calls with the bytes that each wrote, behind (before in time) which stand those of `earlier`
abbrev pub noted : List Call → List ℕ → List (Call × List ℕ) → List (Call × List ℕ)
noted [] written earlier = earlier
noted (call ∷ calls) written earlier =
    noted calls (drop (size_of call) written) ((call, take (size_of call) written) ∷ earlier)

-- what a read gives after a call
abbrev pub after : Call → List ℕ → List ℕ → List ℕ
after (Wrote at n) bytes seen = overwritten seen at bytes
after (Tore at n) bytes seen = seen
after Synced bytes seen = seen
after Left bytes seen = seen

-- what a read gives after these calls, on a disk that held `first`
abbrev pub seen_after : List (Call × List ℕ) → List ℕ → List ℕ
seen_after [] first = first
seen_after (last ∷ earlier) first = after last.0 last.1 (seen_after earlier first)

-- what a crash may leave after a call, where it might have left `before`, and a read gave `seen`
abbrev pub MayLeaveAfter : Call → List ℕ → (List ℕ → Type 0) → List ℕ → List ℕ → Type 0
MayLeaveAfter (Wrote at n) bytes before seen c = (d : List ℕ) × before d × Torn at (length bytes) d c
MayLeaveAfter (Tore at n) bytes before seen c = (d : List ℕ) × before d × Torn at n d c
MayLeaveAfter Synced bytes before seen c = c ≡ seen
MayLeaveAfter Left bytes before seen c = before c

-- what a crash may leave after these calls, on a disk that held `first`, all of it synced
abbrev pub MayLeave : List (Call × List ℕ) → List ℕ → List ℕ → Type 0
MayLeave [] first c = c ≡ first
MayLeave (last ∷ earlier) first c = MayLeaveAfter last.0 last.1 (MayLeave earlier first) (seen_after earlier first) c

-- what a crash might have left at some moment when t calls or more were done
pub record LeftSince (history : List (Call × List ℕ)) (first : List ℕ) (t : ℕ) (c : List ℕ) : Type 0 where
  pub later : List (Call × List ℕ)
  pub earlier : List (Call × List ℕ)
  pub whole : history ≡ later ++ earlier
  pub since : t ≤ length earlier
  pub left : MayLeave earlier first c

-- on top of any calls after which a read gave `seen`, a crash leaves new of what it would have left as old
abbrev pub Tears : Call → List ℕ → List ℕ → List ℕ → List ℕ → Type 0
Tears call bytes seen old new = (first : List ℕ) (h : List (Call × List ℕ)) → seen ≡ seen_after h first
    → MayLeave h first old → MayLeave ((call, bytes) ∷ h) first new

-- the calls were done again behind h: what is left of the written bytes, and what a read gives
pub record Redone (first : List ℕ) (calls : List Call) (written : List ℕ) (h : List (Call × List ℕ))
    (rest seen : List ℕ) : Type 0 where
  pub through : List (Call × List ℕ)
  pub on : (more : List Call) → noted (calls ++ more) written h ≡ noted more rest through
  pub seen_is : seen ≡ seen_after through first

-- the same, where a crash may leave the image
pub record RedoneTo (first : List ℕ) (calls : List Call) (written : List ℕ) (h : List (Call × List ℕ))
    (rest seen image : List ℕ) : Type 0 where
  pub redone : Redone first calls written h rest seen
  pub left : MayLeave redone.through first image

-- on top of any calls after which a read gave old, these were done again: a read gives new, and so much is left to do
abbrev pub RedoesAll : List Call → List ℕ → List ℕ → List ℕ → List ℕ → Type 0
RedoesAll calls written old new rest =
    (first : List ℕ) (h : List (Call × List ℕ)) → old ≡ seen_after h first → Redone first calls written h rest new

-- on top of any calls after which a read gave `seen`, a crash leaves new, with these too, of what it would have left as old
abbrev pub TearsAll : List Call → List ℕ → List ℕ → List ℕ → List ℕ → Type 0
TearsAll calls written seen old new =
    (first : List ℕ) (h : List (Call × List ℕ)) → seen ≡ seen_after h first → MayLeave h first old → MayLeave (noted calls written h) first new

seen_by : (call : Call) (bytes : List ℕ) (before : List ℕ → Type 0) (seen : List ℕ) → before seen
    → MayLeaveAfter call bytes before seen (after call bytes seen)
seen_by (Wrote at n) bytes before seen here = (seen, here, torn_overwritten seen at bytes)
seen_by (Tore at n) bytes before seen here = (seen, here, torn_nothing seen at n)
seen_by Synced bytes before seen here = refl
seen_by Left bytes before seen here = here

-- what a read gives is an image that a crash then may leave
pub seen_left : (history : List (Call × List ℕ)) (first : List ℕ) → MayLeave history first (seen_after history first)
seen_left [] first = refl
seen_left (last ∷ earlier) first =
    seen_by last.0 last.1 (MayLeave earlier first) (seen_after earlier first) (seen_left earlier first)
