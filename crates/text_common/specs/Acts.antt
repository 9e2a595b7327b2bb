-- The words of locations, plain instructions and tests.
use Rattle.std.specs.Prelude.{ℕ, List, [], ◌∷◌, Option, Some, None}
use Rattle.ints.specs.declared.operators.Op.{Op}
use Rattle.locations.specs.declared.location.Location.{Location}
use Rattle.locations.specs.declared.location.Location.TheVariants.{InRegister, InSlot}
use Rattle.machine.specs.declared.arguments.Arguments.{Arguments}
use Rattle.machine.specs.declared.arguments.Arguments.TheVariants.{One, Two}
use Rattle.machine.specs.declared.act.Act.{Act}
use Rattle.machine.specs.declared.act.Act.TheVariants as act
use Rattle.machine.specs.declared.test.Test.{Test}
use Rattle.text_keys.specs.declared.key.Key.TheVariants as key
use Rattle.text_keys.specs.declared.word.Letter.TheVariants as letter
use Rattle.text_keys.specs.declared.word.Word.{Word}
use Rattle.text_keys.specs.declared.word.Word.TheVariants.{Lettered, Number, Named}
use Rattle.text_keys.specs.Keys.{condition_key}
use Rattle.text_keys.specs.Words.{target_words}

-- r7
abbrev pub register_word : ℕ → Word
register_word r = Lettered letter.Register r

-- r7 or s3
abbrev pub location_word : Location → Word
location_word (InRegister r) = register_word r
location_word (InSlot s) = Lettered letter.Slot s

abbrev pub global_word : ℕ → Word
global_word g = Lettered letter.Global g

abbrev pub argument_words : Arguments → List Word
argument_words (One a) = register_word a ∷ []
argument_words (Two a b) = register_word a ∷ register_word b ∷ []

-- a condition and its registers
abbrev pub test_words : Test → List Word
test_words test = Named (condition_key test.condition) ∷ argument_words test.arguments

-- a register, or none
abbrev pub value_words : Option ℕ → List Word
value_words None = []
value_words (Some r) = register_word r ∷ []

-- where what a plain instruction gives goes
abbrev pub act_target : Act → Option ℕ
act_target (act.Constant target word) = Some target
act_target (act.Operate op target arguments) = Some target
act_target (act.Load target global index) = Some target
act_target (act.Store global index source) = None
act_target (act.Put source target) = target

-- an operator and its registers
abbrev pub operate_words : Op → Arguments → List Word
operate_words op arguments = Named (key.Operator op) ∷ argument_words arguments

-- a load: a global, and the register of the cell's number
abbrev pub load_words : ℕ → ℕ → List Word
load_words global index = Named key.Load ∷ global_word global ∷ register_word index ∷ []

-- a store: the same, and the source
abbrev pub store_words : ℕ → ℕ → ℕ → List Word
store_words global index source = Named key.Store ∷ global_word global ∷ register_word index ∷ register_word source ∷ []

-- what it does
abbrev pub act_right : Act → List Word
act_right (act.Constant target word) = Named key.Constant ∷ Number word ∷ []
act_right (act.Operate op target arguments) = operate_words op arguments
act_right (act.Load target global index) = load_words global index
act_right (act.Store global index source) = store_words global index source
act_right (act.Put source target) = Named key.Put ∷ register_word source ∷ []

abbrev pub act_left : Act → List Word
act_left a = target_words register_word (act_target a)
