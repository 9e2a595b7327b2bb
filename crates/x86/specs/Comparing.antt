-- Comparisons, and what is made of them (Intel 64 and IA-32 Software Developer's Manual, volume 2: CMP, SETcc, MOVZX). The flags tell of
-- the two words that were compared last; where they tell of none, asking is not defined.
use Rattle.std.specs.Prelude.{ℕ, Bool, Option, Some}
use Rattle.std.specs.Option.{option_map}
use Rattle.ints.specs.Words.{flag}
use Rattle.x86_syntax.specs.declared.condition.Condition.{Condition}
use Rattle.x86_syntax.specs.declared.register.Register.{Register}
use Rattle.x86_syntax.specs.declared.register.Register.TheVariants.{Eax}
use Rattle.x86_state.specs.Tables.{condition_table, with_low_byte}
use Rattle.x86_state.specs.State.{State, word, put, with_flags}

abbrev pub compared : ℕ → ℕ → State → State
compared x y s = with_flags (Some (x, y)) s

-- whether the condition holds of what was compared last
abbrev pub asked : Condition → State → Option Bool
asked condition s = option_map (λ (p : ℕ × ℕ). condition_table condition p.0 p.1) s.flags

-- the truth of an answer goes to the low byte of eax, and from there to a register; no flags are changed
abbrev pub with_flag : Register → State → Bool → State
with_flag target s answer = put target (flag answer) (put Eax (with_low_byte (word Eax s) (flag answer)) s)

abbrev pub flagged : Condition → Register → State → Option State
flagged condition target s = option_map (with_flag target s) (asked condition s)
