-- No two keys have one text, and no text of a key is that of another word.
use Rattle.std.proofs.Common.{◌≡◌, ℕ, Bool, true, false, List, [], ◌∷◌, refl, if◌then◌else◌, ◌&&◌}
use Rattle.std.specs.List.{list_all}
use Rattle.std.specs.Str.{bytes_eq}
use Rattle.std.specs.Prelude.{nat_lt}
use Rattle.ints.specs.declared.operators.Op.TheVariants as op
use Rattle.text_keys.specs.declared.key.Key.{Key}
use Rattle.text_keys.specs.declared.key.Key.TheVariants as key
use Rattle.text_keys.specs.Keys.{key_text}
use Rattle.text_keys.specs.Words.{is_printed}

-- every key
abbrev keys : List Key
keys =
    key.Operator op.NegS ∷ key.Operator op.NegU ∷ key.Operator op.Not ∷ key.Operator op.IsZero ∷ key.Operator op.AddS ∷ key.Operator op.AddU ∷ key.Operator op.SubS ∷ key.Operator op.SubU
    ∷ key.Operator op.MulS ∷ key.Operator op.MulU ∷ key.Operator op.DivS ∷ key.Operator op.DivU ∷ key.Operator op.ModS ∷ key.Operator op.ModU ∷ key.Operator op.And ∷ key.Operator op.Or
    ∷ key.Operator op.Xor ∷ key.Operator op.ShlS ∷ key.Operator op.ShlU ∷ key.Operator op.ShrS ∷ key.Operator op.ShrU ∷ key.Operator op.Eq ∷ key.Operator op.Ne ∷ key.Operator op.LtS
    ∷ key.Operator op.LtU ∷ key.Operator op.LeS ∷ key.Operator op.LeU ∷ key.Constant ∷ key.Move ∷ key.Load ∷ key.Store ∷ key.Call
    ∷ key.Put ∷ key.If ∷ key.NonZero ∷ key.Return ∷ key.Label ∷ key.Goto ∷ key.Nothing ∷ key.Slots
    ∷ key.Registers ∷ key.Variables ∷ key.Entry ∷ key.Is ∷ key.Then ∷ key.Opens ∷ key.Closes ∷ key.Choose
    ∷ key.Skip ∷ key.Loop ∷ key.Block ∷ key.Exit ∷ key.Sequence
    ∷ key.Row ∷ key.Start ∷ key.Stop ∷ key.End ∷ []

-- the first of these whose text this is
abbrev key_in : List Key → List ℕ → Key
key_in [] bytes = key.Is
key_in (x ∷ xs) bytes = if bytes_eq (key_text x) bytes then x else key_in xs bytes

abbrev pub key_of : List ℕ → Key
key_of bytes = key_in keys bytes

pub key_again : (x : Key) → key_of (key_text x) ≡ x
key_again (key.Operator op.NegS) = refl
key_again (key.Operator op.NegU) = refl
key_again (key.Operator op.Not) = refl
key_again (key.Operator op.IsZero) = refl
key_again (key.Operator op.AddS) = refl
key_again (key.Operator op.AddU) = refl
key_again (key.Operator op.SubS) = refl
key_again (key.Operator op.SubU) = refl
key_again (key.Operator op.MulS) = refl
key_again (key.Operator op.MulU) = refl
key_again (key.Operator op.DivS) = refl
key_again (key.Operator op.DivU) = refl
key_again (key.Operator op.ModS) = refl
key_again (key.Operator op.ModU) = refl
key_again (key.Operator op.And) = refl
key_again (key.Operator op.Or) = refl
key_again (key.Operator op.Xor) = refl
key_again (key.Operator op.ShlS) = refl
key_again (key.Operator op.ShlU) = refl
key_again (key.Operator op.ShrS) = refl
key_again (key.Operator op.ShrU) = refl
key_again (key.Operator op.Eq) = refl
key_again (key.Operator op.Ne) = refl
key_again (key.Operator op.LtS) = refl
key_again (key.Operator op.LtU) = refl
key_again (key.Operator op.LeS) = refl
key_again (key.Operator op.LeU) = refl
key_again key.Constant = refl
key_again key.Move = refl
key_again key.Load = refl
key_again key.Store = refl
key_again key.Call = refl
key_again key.Put = refl
key_again key.If = refl
key_again key.NonZero = refl
key_again key.Return = refl
key_again key.Label = refl
key_again key.Goto = refl
key_again key.Nothing = refl
key_again key.Slots = refl
key_again key.Registers = refl
key_again key.Variables = refl
key_again key.Entry = refl
key_again key.Is = refl
key_again key.Then = refl
key_again key.Opens = refl
key_again key.Closes = refl
key_again key.Choose = refl
key_again key.Skip = refl
key_again key.Loop = refl
key_again key.Block = refl
key_again key.Exit = refl
key_again key.Sequence = refl
key_again key.Row = refl
key_again key.Start = refl
key_again key.Stop = refl
key_again key.End = refl

-- a word whose first byte is a digit has kind 0, one whose second is has kind 1, others have kind 2
abbrev pub is_digit : ℕ → Bool
is_digit b = nat_lt 47 b && nat_lt b 58

abbrev pub begins_with_number : List ℕ → Bool
begins_with_number [] = false
begins_with_number (b ∷ bs) = is_digit b

abbrev pub kind_of : List ℕ → ℕ
kind_of [] = 2
kind_of (b ∷ bs) = if is_digit b then 0 else (if begins_with_number bs then 1 else 2)

pub key_kind : (x : Key) → kind_of (key_text x) ≡ 2
key_kind (key.Operator op.NegS) = refl
key_kind (key.Operator op.NegU) = refl
key_kind (key.Operator op.Not) = refl
key_kind (key.Operator op.IsZero) = refl
key_kind (key.Operator op.AddS) = refl
key_kind (key.Operator op.AddU) = refl
key_kind (key.Operator op.SubS) = refl
key_kind (key.Operator op.SubU) = refl
key_kind (key.Operator op.MulS) = refl
key_kind (key.Operator op.MulU) = refl
key_kind (key.Operator op.DivS) = refl
key_kind (key.Operator op.DivU) = refl
key_kind (key.Operator op.ModS) = refl
key_kind (key.Operator op.ModU) = refl
key_kind (key.Operator op.And) = refl
key_kind (key.Operator op.Or) = refl
key_kind (key.Operator op.Xor) = refl
key_kind (key.Operator op.ShlS) = refl
key_kind (key.Operator op.ShlU) = refl
key_kind (key.Operator op.ShrS) = refl
key_kind (key.Operator op.ShrU) = refl
key_kind (key.Operator op.Eq) = refl
key_kind (key.Operator op.Ne) = refl
key_kind (key.Operator op.LtS) = refl
key_kind (key.Operator op.LtU) = refl
key_kind (key.Operator op.LeS) = refl
key_kind (key.Operator op.LeU) = refl
key_kind key.Constant = refl
key_kind key.Move = refl
key_kind key.Load = refl
key_kind key.Store = refl
key_kind key.Call = refl
key_kind key.Put = refl
key_kind key.If = refl
key_kind key.NonZero = refl
key_kind key.Return = refl
key_kind key.Label = refl
key_kind key.Goto = refl
key_kind key.Nothing = refl
key_kind key.Slots = refl
key_kind key.Registers = refl
key_kind key.Variables = refl
key_kind key.Entry = refl
key_kind key.Is = refl
key_kind key.Then = refl
key_kind key.Opens = refl
key_kind key.Closes = refl
key_kind key.Choose = refl
key_kind key.Skip = refl
key_kind key.Loop = refl
key_kind key.Block = refl
key_kind key.Exit = refl
key_kind key.Sequence = refl
key_kind key.Row = refl
key_kind key.Start = refl
key_kind key.Stop = refl
key_kind key.End = refl

pub key_printed : (x : Key) → list_all is_printed (key_text x) ≡ true
key_printed (key.Operator op.NegS) = refl
key_printed (key.Operator op.NegU) = refl
key_printed (key.Operator op.Not) = refl
key_printed (key.Operator op.IsZero) = refl
key_printed (key.Operator op.AddS) = refl
key_printed (key.Operator op.AddU) = refl
key_printed (key.Operator op.SubS) = refl
key_printed (key.Operator op.SubU) = refl
key_printed (key.Operator op.MulS) = refl
key_printed (key.Operator op.MulU) = refl
key_printed (key.Operator op.DivS) = refl
key_printed (key.Operator op.DivU) = refl
key_printed (key.Operator op.ModS) = refl
key_printed (key.Operator op.ModU) = refl
key_printed (key.Operator op.And) = refl
key_printed (key.Operator op.Or) = refl
key_printed (key.Operator op.Xor) = refl
key_printed (key.Operator op.ShlS) = refl
key_printed (key.Operator op.ShlU) = refl
key_printed (key.Operator op.ShrS) = refl
key_printed (key.Operator op.ShrU) = refl
key_printed (key.Operator op.Eq) = refl
key_printed (key.Operator op.Ne) = refl
key_printed (key.Operator op.LtS) = refl
key_printed (key.Operator op.LtU) = refl
key_printed (key.Operator op.LeS) = refl
key_printed (key.Operator op.LeU) = refl
key_printed key.Constant = refl
key_printed key.Move = refl
key_printed key.Load = refl
key_printed key.Store = refl
key_printed key.Call = refl
key_printed key.Put = refl
key_printed key.If = refl
key_printed key.NonZero = refl
key_printed key.Return = refl
key_printed key.Label = refl
key_printed key.Goto = refl
key_printed key.Nothing = refl
key_printed key.Slots = refl
key_printed key.Registers = refl
key_printed key.Variables = refl
key_printed key.Entry = refl
key_printed key.Is = refl
key_printed key.Then = refl
key_printed key.Opens = refl
key_printed key.Closes = refl
key_printed key.Choose = refl
key_printed key.Skip = refl
key_printed key.Loop = refl
key_printed key.Block = refl
key_printed key.Exit = refl
key_printed key.Sequence = refl
key_printed key.Row = refl
key_printed key.Start = refl
key_printed key.Stop = refl
key_printed key.End = refl
