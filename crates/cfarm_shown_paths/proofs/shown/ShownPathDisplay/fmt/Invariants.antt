use Rattle.std.proofs.Common.{◌≡◌, ℕ, List, ◌++◌, IsUtf8}
use Rattle.std.specs.Fmt.{HasWritten, IsPlainFormatter}
use Rattle.std.specs.Str.Iter.{chars_rest}
use Rattle.cfarm_shown_paths.specs.Shown.{shown_path}
use Rattle.cfarm_shown_paths.proofs.shown.ShownPathDisplay.fmt.Given as goal

-- what was written, and what is still to be shown
abbrev pub invariant-loop-c : goal.invariant-loop-c
invariant-loop-c g l =
    IsUtf8 (chars_rest l.c-iterator)
    × (IsPlainFormatter l.fn.f → (done : List ℕ) × HasWritten g.W.Write.write_str_gives l.fn.f done l.f
    × (done ++ shown_path (chars_rest l.c-iterator) ≡ shown_path l.fn.self.0.now))
