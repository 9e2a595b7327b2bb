-- The room of a pass of a function's seat. The passes are numbered from 1 to 4.
use Rattle.std.specs.Prelude.{◌≡◌, ℕ, zero, suc}
use Rattle.paxos_core_world.specs.World.{Has}
use Rattle.rooms.specs.SeatState.{seen_world, SeatState}
use Rattle.rooms_function.specs.declared.seat.FunctionSeat.{FunctionSeat}

-- the words of the room of a pass, as the seat has seen them
abbrev pub words_in : ℕ → FunctionSeat → SeatState
words_in (suc zero) s = s.first.words
words_in (suc (suc zero)) s = s.second.words
words_in (suc (suc (suc zero))) s = s.third.words
words_in other s = s.fourth.words

-- in the world that the seat has seen of the room of a pass its node has learned this value
abbrev pub HasLearned : ℕ → ℕ → FunctionSeat → Type 0
HasLearned pass v s = Has ((words_in pass s).node.me, v) (seen_world (words_in pass s)).learned

-- s, with these words in the room of a pass
abbrev pub with_words : ℕ → SeatState → FunctionSeat → FunctionSeat
with_words (suc zero) w s = record s { first = record s.first { words = w } }
with_words (suc (suc zero)) w s = record s { second = record s.second { words = w } }
with_words (suc (suc (suc zero))) w s = record s { third = record s.third { words = w } }
with_words other w s = record s { fourth = record s.fourth { words = w } }

-- only the words of the room of a pass may have changed: the other rooms are as they were, and so are all sights of cells
abbrev pub IsOnlyIn : ℕ → FunctionSeat → FunctionSeat → Type 0
IsOnlyIn pass old new = new ≡ with_words pass (words_in pass new) old
