-- What a writer of blocks leaves.
use Rattle.std.specs.Prelude.{◌≡◌, ◌++◌, Result, Ok, Err}
use Rattle.native_lowering_definition.specs.Operating.{Block}

-- the block behind what was there; nothing is said where there was no memory
abbrev pub Adds : {T E : Type 0} → Result T E → Block → Block → Block → Type 0
Adds (Ok x) block old new = new ≡ old ++ block
Adds (Err e) block old new = Unit {0}
