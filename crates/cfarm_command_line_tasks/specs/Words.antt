-- What the words of a command line ask for. How words are read is defined in `clap`: here stand the commands, and what is
-- asked for by what is found.
use Rattle.std.specs.Prelude.{◌≡◌, ◌≢◌, ◌<◌, ◌^◌, ℕ, ℤ, pos, negsuc, FitsSigned, List, [], ◌∷◌, Option, Some, None, Result, IfOk, map, option_map, true, false, codes, if◌then◌else◌}
use Rattle.std.specs.Int.{w32}
use Rattle.std.specs.Borrow.{Bor}
use Rattle.std.specs.Str.{bytes_eq}
use Rattle.std.specs.Str.Parse.{IsNumeral, digits_value, signed_digits_value, without_leading_plus, without_leading_sign}
use Rattle.clap.specs.Words.{App, HasKind, Row, Rule, Text, app_of, fault_of, first_of, kind_of, new_app, new_rule, rule_of, subcommand_of, takes, with_rule, with_subcommand}
use Rattle.clap.specs.declared.builder.action.ArgAction.TheVariants.{SetTrue}
use Rattle.clap.specs.declared.builder.arg.Arg.{Arg}
use Rattle.clap.specs.declared.builder.command.Command.{Command}
use Rattle.clap.specs.declared.builder.command.Command.TheViews.{out-Command as fields_of}
use Rattle.clap.specs.declared.error.Error.{Error}
use Rattle.clap.specs.declared.error.kind.ErrorKind.TheVariants.{OutOfMemory}
use Rattle.clap.specs.Simple.{on_top}
use Rattle.clap.specs.declared.builder.value_parser.ValueParser.TheVariants.{Names, NonEmptyString, Signed, Unsigned}
use Rattle.cfarm_options.specs.declared.emitted.Emitted.{Emitted}
use Rattle.cfarm_options.specs.declared.emitted.Emitted.TheVariants.{Cminor, Rtl, Ltl, Linear, Bundle}
use Rattle.cfarm_options.specs.Sizes.{count_of, size_of}
use Rattle.cfarm_options.specs.declared.options.AskedSizes.{AskedSizes}
use Rattle.cfarm_options.specs.declared.options.BuildOptions.{BuildOptions}
use Rattle.cfarm_options.specs.declared.options.Nodes.{Nodes}
use Rattle.cfarm_options.specs.declared.options.Nodes.TheVariants.{Two, Three, Four, Five, Six, Seven}
use Rattle.cfarm_options.specs.declared.options.Optimise.{Optimise}
use Rattle.cfarm_options.specs.declared.options.Optimise.TheVariants.{Drawn, Speed}
use Rattle.cfarm_command_line_tasks.specs.declared.choices.Bounds.{Bounds}
use Rattle.cfarm_command_line_tasks.specs.declared.choices.Bounds.TheVariants.{Counted, Unbounded}
use Rattle.cfarm_command_line_tasks.specs.declared.choices.Choices.{Choices}
use Rattle.cfarm_command_line_tasks.specs.declared.task.Asked.{Asked}
use Rattle.cfarm_command_line_tasks.specs.declared.task.Explaining.{Explaining}
use Rattle.cfarm_command_line_tasks.specs.declared.task.Explaining.TheVariants.{Seen, Always}
use Rattle.cfarm_command_line_tasks.specs.declared.task.Format.{Format}
use Rattle.cfarm_command_line_tasks.specs.declared.task.Format.TheVariants.{Plain, Gcc, Json}
use Rattle.cfarm_command_line_tasks.specs.declared.task.Showing.{Showing}
use Rattle.cfarm_command_line_tasks.specs.declared.task.Showing.TheVariants.{Lines, Drawing}
use Rattle.cfarm_command_line_tasks.specs.declared.task.Task.{Task}
use Rattle.cfarm_command_line_tasks.specs.declared.task.Task.TheVariants.{Check, Interpret, Build, Exec, Settle, Simulate, Show, Verify, Emit, Judge, Native, Fsck}
use Rattle.cfarm_command_line_tasks.specs.declared.task.Task.TheVariants as task
use Rattle.cfarm_command_line_tasks.specs.declared.task.FsckOptions.{FsckOptions}
use Rattle.cfarm_command_line_tasks.specs.declared.task.NativeOptions.{NativeOptions}
use Rattle.cfarm_command_line_tasks.specs.declared.task.OfferAt.{OfferAt}
use Rattle.cfarm_command_line_tasks.specs.declared.task.VerifyPaths.{VerifyPaths}
use Rattle.cfarm_command_line_tasks.specs.declared.task.Written.{Written}
use Rattle.cfarm_command_line_tasks.specs.declared.task.Written.TheVariants.{Assembly, Header}

-- ---- the commands

-- a file that has to be named
abbrev pub file_rule : Rule
file_rule = record (new_rule (codes "FILE")) { required = true }

-- an option with a name that has to be given and is not empty
abbrev pub needed_rule : Text → Rule
needed_rule name = record (new_rule name) { long = Some name; value_names = 1; parser = Some NonEmptyString; required = true }

-- an option with a number from 0 to `most`
abbrev pub bound_rule : Text → Text → ℕ → Rule
bound_rule name standard most = record (new_rule name) { long = Some name; value_names = 1; parser = Some (Unsigned 0 most); defaults = standard ∷ [] }

-- a number of 32 bits, of which nothing need be said
abbrev pub expect_rule : Rule
expect_rule = record (new_rule (codes "expect")) { long = Some (codes "expect"); value_names = 1; parser = Some (Signed (negsuc 2147483647) (pos 2147483647)) }

-- the words that options offer
abbrev pub AreNames : Bor (List (Bor Text)) → List Text → Type 0
AreNames names texts = map (λ name. name.now) names.now ≡ texts

-- the numbers of nodes are those that a farm can have, optimisers choose in two ways, there are two forms of a refusal beside the plain one,
-- a program is written in five forms, and one word asks for a run without a bound
abbrev pub AreChoices : Choices → Type 0
AreChoices choices = AreNames choices.nodes (codes "2" ∷ codes "3" ∷ codes "4" ∷ codes "5" ∷ codes "6" ∷ codes "7" ∷ [])
    × AreNames choices.optimise (codes "drawn" ∷ codes "speed" ∷ [])
    × AreNames choices.formats (codes "gcc" ∷ codes "json" ∷ [])
    × AreNames choices.forms (codes "cminor" ∷ codes "rtl" ∷ codes "ltl" ∷ codes "linear" ∷ codes "bundle" ∷ [])
    × AreNames choices.unbounded (codes "none" ∷ [])

-- one of these words, of which nothing need be said
abbrev pub choice_rule : Text → Bor (List (Bor Text)) → Rule
choice_rule name names = record (new_rule name) { long = Some name; value_names = 1; parser = Some (Names names) }

-- the word for a run without a bound, which has to be said
abbrev pub unbounded_rule : Text → Choices → Rule
unbounded_rule name choices = record (choice_rule name choices.unbounded) { required = true }

-- the bound of a run: a number, or the word for none
abbrev pub limits_rule : Text → Text → ℕ → Bounds → Choices → Rule
limits_rule name standard most Counted choices = bound_rule name standard most
limits_rule name standard most Unbounded choices = unbounded_rule name choices

abbrev pub depth_rule : Bounds → Choices → Rule
depth_rule bounds choices = limits_rule (codes "depth") (codes "100000") 4294967295 bounds choices

abbrev pub limit_rule : Bounds → Choices → Rule
limit_rule bounds choices = limits_rule (codes "limit") (codes "1000000") 9223372036854775807 bounds choices

abbrev pub format_rule : Choices → Rule
format_rule choices = choice_rule (codes "format") choices.formats

abbrev pub check_app : Choices → App
check_app choices = with_rule (with_rule (new_app (codes "check")) file_rule) (format_rule choices)

-- a word alone, which stands once or not
abbrev pub word_rule : Text → Rule
word_rule name = record (new_rule name) { long = Some name; action = Some SetTrue }

abbrev pub explain_rule : Rule
explain_rule = word_rule (codes "explain")

abbrev pub interpret_app : Bounds → Choices → App
interpret_app bounds choices = with_rule (with_rule (with_rule (new_app (codes "interpret")) file_rule) (depth_rule bounds choices)) explain_rule

abbrev pub nodes_rule : Choices → Rule
nodes_rule choices = record (choice_rule (codes "nodes") choices.nodes) { defaults = codes "3" ∷ [] }

-- the size of a quorum, of which nothing need be said
abbrev pub size_rule : Text → Rule
size_rule name = record (new_rule name) { long = Some name; value_names = 1; parser = Some (Unsigned 0 255) }

abbrev pub promise_rule : Rule
promise_rule = size_rule (codes "promise")

abbrev pub accept_rule : Rule
accept_rule = size_rule (codes "accept")

abbrev pub turns_rule : Rule
turns_rule = bound_rule (codes "turns") (codes "10000") 4294967295

abbrev pub seed_rule : Rule
seed_rule = bound_rule (codes "seed") (codes "1") 9223372036854775807

abbrev pub optimise_rule : Choices → Rule
optimise_rule choices = record (choice_rule (codes "optimise") choices.optimise) { defaults = codes "drawn" ∷ [] }

-- a folder
abbrev pub folder_rule : Rule
folder_rule = needed_rule (codes "dir")

-- an option with a path, which need not be given and is not empty
abbrev pub path_rule : Text → Rule
path_rule name = record (new_rule name) { long = Some name; value_names = 1; parser = Some NonEmptyString }

-- where the bundle of a build is put
abbrev pub bundle_path_rule : Rule
bundle_path_rule = path_rule (codes "bundle")

-- where the offers of others stand
abbrev pub offers_path_rule : Rule
offers_path_rule = path_rule (codes "offers")

abbrev pub build_app : Choices → App
build_app choices = with_rule (with_rule (with_rule (with_rule (with_rule (with_rule (with_rule (with_rule (with_rule (with_rule (new_app (codes "build")) file_rule) (nodes_rule choices))
    promise_rule) accept_rule) turns_rule) seed_rule) (optimise_rule choices)) folder_rule) bundle_path_rule) offers_path_rule

abbrev pub exec_app : Bounds → Choices → App
exec_app bounds choices = with_rule (with_rule (with_rule (with_rule (new_app (codes "exec")) file_rule) (limit_rule bounds choices)) expect_rule) explain_rule

abbrev pub settle_app : App
settle_app = with_rule (new_app (codes "settle")) file_rule

abbrev pub svg_rule : Rule
svg_rule = word_rule (codes "svg")

abbrev pub sim_app : App
sim_app = with_rule (with_rule (new_app (codes "sim")) file_rule) svg_rule

abbrev pub show_app : App
show_app = with_rule (new_app (codes "show")) file_rule

abbrev pub list_app : App
list_app = with_rule (new_app (codes "log")) file_rule

abbrev pub program_rule : Rule
program_rule = needed_rule (codes "program")

abbrev pub bundle_rule : Rule
bundle_rule = needed_rule (codes "bundle")

-- where the text of native code stands
abbrev pub native_path_rule : Rule
native_path_rule = path_rule (codes "native")

abbrev pub verify_app : App
verify_app = with_rule (with_rule (with_rule (with_rule (new_app (codes "verify")) file_rule) program_rule) bundle_rule) native_path_rule

abbrev pub form_rule : Choices → Rule
form_rule choices = record (choice_rule (codes "of") choices.forms) { required = true }

-- a seed, of which nothing need be said
abbrev pub drawn_rule : Rule
drawn_rule = record (new_rule (codes "seed")) { long = Some (codes "seed"); value_names = 1; parser = Some (Unsigned 0 9223372036854775807) }

abbrev pub emit_app : Choices → App
emit_app choices = with_rule (with_rule (with_rule (new_app (codes "emit")) file_rule) (form_rule choices)) drawn_rule

abbrev pub function_rule : Rule
function_rule = needed_rule (codes "function")

abbrev pub offer_rule : Rule
offer_rule = needed_rule (codes "offer")

abbrev pub judge_app : App
judge_app = with_rule (with_rule (with_rule (new_app (codes "judge")) file_rule) function_rule) offer_rule

-- `-o`, with a path
abbrev pub output_rule : Rule
output_rule = record (new_rule (codes "output")) { short = Some 111; value_names = 1; parser = Some NonEmptyString }

-- a prefix of names
abbrev pub export_rule : Rule
export_rule = path_rule (codes "export")

abbrev pub header_rule : Rule
header_rule = word_rule (codes "header")

abbrev pub native_app : App
native_app = with_rule (with_rule (with_rule (with_rule (new_app (codes "native")) file_rule) output_rule) export_rule) header_rule

abbrev pub fsck_app : Choices → App
fsck_app choices = with_rule (with_rule (with_rule (with_rule (with_rule (new_app (codes "fsck")) file_rule) (nodes_rule choices)) promise_rule) accept_rule)
    folder_rule

-- it has help alone
abbrev pub statuses_app : App
statuses_app = on_top (λ s. record s { arg_required_else_help = true }) (new_app (codes "statuses"))

-- the program has to be given a command, and has a version
abbrev pub top_app : App
top_app = on_top (λ s. record s { has_version = true; subcommand_required = true; arg_required_else_help = true }) (new_app (codes "cfarm"))

-- one more command
abbrev pub and : App → App → App
and app inner = with_subcommand app inner.top

-- the program where bounds of runs are said so
abbrev pub farm : Bounds → Choices → App
farm bounds choices = and (and (and (and (and (and (and (and (and (and (and (and (and (and top_app
    (check_app choices)) (interpret_app bounds choices)) (build_app choices)) (exec_app bounds choices)) settle_app) sim_app)
    show_app)
    list_app)
    (fsck_app choices))
    verify_app)
    (emit_app choices))
    judge_app)
    native_app)
    statuses_app

-- a command that the parser reads so, with no argument of all commands
abbrev pub IsCommand : App → Command → Type 0
IsCommand app command = (app_of command ≡ app) × ((fields_of command).has_globals ≡ false)

-- an argument of one command that the parser reads so
abbrev pub IsArgument : Rule → Arg → Type 0
IsArgument rule argument = (rule_of argument ≡ rule) × (argument.global ≡ false)

-- the command takes the argument, and is then read with one rule more, where both are there
abbrev pub AddsArgument : {E : Type 0} → Result Command E → Arg → Result Command E → Type 0
AddsArgument command argument result =
    (app : App) (rule : Rule) → IfOk command (IsCommand app) → IsArgument rule argument → IfOk result (IsCommand (with_rule app rule))

-- it takes another command, and is then read with that in it, where both are there
abbrev pub AddsCommand : {E : Type 0} → (command part result : Result Command E) → Type 0
AddsCommand command part result =
    (app inner : App) → IfOk command (IsCommand app) → IfOk part (IsCommand inner) → IfOk result (IsCommand (with_subcommand app inner.top))

-- ---- what is asked for

-- what was found is none of these words
abbrev pub IsNoWord : {A : Type 0} → (A → Text) → Option Text → Type 0
IsNoWord {A} word_of found = (x : A) → found ≡ Some (word_of x) → ⊥

-- the number that a text spells in decimal, where it spells one of so many bits
abbrev pub Reads : ℕ → Option Text → ℕ → Type 0
Reads bits None number = number ≡ 0
Reads bits (Some text) number = IsNumeral 10 (without_leading_plus text) → digits_value 10 (without_leading_plus text) < 2 ^ bits →
    number ≡ digits_value 10 (without_leading_plus text)

-- the number that a text spells so, if there is a text
abbrev pub ReadsPerhaps : ℕ → Option Text → Option ℕ → Type 0
ReadsPerhaps bits None number = number ≡ None
ReadsPerhaps bits (Some text) number = IsNumeral 10 (without_leading_plus text) → digits_value 10 (without_leading_plus text) < 2 ^ bits →
    number ≡ Some (digits_value 10 (without_leading_plus text))

-- what is read for a run without a bound: the greatest number of 64 bits
abbrev pub no_bound : ℕ
no_bound = 18446744073709551615

-- the bound of a run that a text says: by the word for none, or by a number
abbrev pub SaysBound : Text → ℕ → Type 0
SaysBound text number = (text ≡ codes "none" → number ≡ no_bound) × (text ≢ codes "none" → Reads 64 (Some text) number)

abbrev pub ReadsBound : Option Text → ℕ → Type 0
ReadsBound None number = number ≡ 0
ReadsBound (Some text) number = SaysBound text number

-- the number of 32 bits that a text spells so, which may have a sign
abbrev pub ReadsSigned : Option Text → Option ℤ → Type 0
ReadsSigned None number = number ≡ None
ReadsSigned (Some text) number = IsNumeral 10 (without_leading_sign text) → FitsSigned w32 (signed_digits_value 10 text) →
    number ≡ Some (signed_digits_value 10 text)

-- the word for a form of a refusal
abbrev pub format_word : Format → Option Text
format_word Plain = None
format_word Gcc = Some (codes "gcc")
format_word Json = Some (codes "json")

-- what was found is the word for none
abbrev pub IsNoFormat : Option Text → Type 0
IsNoFormat found = (f : Format) → found ≡ format_word f → ⊥

-- the word for a number of nodes
abbrev pub node_word : Nodes → Text
node_word Two = codes "2"
node_word Three = codes "3"
node_word Four = codes "4"
node_word Five = codes "5"
node_word Six = codes "6"
node_word Seven = codes "7"

-- the word for how optimisers choose
abbrev pub optimise_word : Optimise → Text
optimise_word Drawn = codes "drawn"
optimise_word Speed = codes "speed"

-- the word for whom the end of a run is explained to: whether that is asked for
abbrev pub explaining_word : Explaining → Text
explaining_word Seen = codes "false"
explaining_word Always = codes "true"

-- the word for how a schedule is shown: whether a drawing is asked for
abbrev pub showing_word : Showing → Text
showing_word Lines = codes "false"
showing_word Drawing = codes "true"

-- what the word says is written of native code: the header where that is asked for
abbrev pub written_by : Option Text → Written
written_by None = Assembly
written_by (Some word) = if bytes_eq word (codes "true") then Header else Assembly

-- the sizes that these words say
abbrev pub sizes_among : Nodes → (promise accept : Option ℕ) → AskedSizes
sizes_among nodes promise accept = record {
  nodes = count_of nodes;
  promise = size_of (count_of nodes) promise;
  accept = size_of (count_of nodes) accept;
}

-- what is found of an option with a path
abbrev pub IsPath : List Row → Text → Option (Bor Text) → Type 0
IsPath rows name path = first_of name rows ≡ option_map (λ p. p.now) path

-- what is found of a build's options
pub record AreOptions (rows : List Row) (options : BuildOptions) : Type 0 where
  pub nodes : first_of (codes "nodes") rows ≡ Some (node_word options.nodes)
  pub promise : ReadsPerhaps 8 (first_of (codes "promise") rows) options.promise
  pub accept : ReadsPerhaps 8 (first_of (codes "accept") rows) options.accept
  pub turns : Reads 32 (first_of (codes "turns") rows) options.turns
  pub seed : Reads 64 (first_of (codes "seed") rows) options.seed
  pub optimise : first_of (codes "optimise") rows ≡ Some (optimise_word options.optimise)
  pub folder : first_of (codes "dir") rows ≡ Some options.folder.now
  pub bundle : IsPath rows (codes "bundle") options.bundle
  pub offers : IsPath rows (codes "offers") options.offers

-- the word for a form of a program
abbrev pub form_word : Emitted → Text
form_word Cminor = codes "cminor"
form_word Rtl = codes "rtl"
form_word Ltl = codes "ltl"
form_word Linear = codes "linear"
form_word Bundle = codes "bundle"

-- what is found of the files beside a text
pub record ArePaths (rows : List Row) (paths : VerifyPaths) : Type 0 where
  pub program : first_of (codes "program") rows ≡ Some paths.program.now
  pub bundle : first_of (codes "bundle") rows ≡ Some paths.bundle.now
  pub native : IsPath rows (codes "native") paths.native

-- what is found of an offer
pub record IsOfferAt (rows : List Row) (offer : OfferAt) : Type 0 where
  pub function : first_of (codes "function") rows ≡ Some offer.function.now
  pub path : first_of (codes "offer") rows ≡ Some offer.path.now

-- what is found of how native code is written
pub record AreNativeOptions (rows : List Row) (options : NativeOptions) : Type 0 where
  pub written : options.written ≡ written_by (first_of (codes "header") rows)
  pub output : IsPath rows (codes "output") options.output
  pub prefix : IsPath rows (codes "export") options.prefix

-- what is found of a folder that is looked through
pub record AreFsckOptions (rows : List Row) (options : FsckOptions) : Type 0 where
  pub nodes : Nodes
  pub promise : Option ℕ
  pub accept : Option ℕ
  pub named : first_of (codes "nodes") rows ≡ Some (node_word nodes)
  pub promised : ReadsPerhaps 8 (first_of (codes "promise") rows) promise
  pub accepted : ReadsPerhaps 8 (first_of (codes "accept") rows) accept
  pub sizes : options.sizes ≡ sizes_among nodes promise accept
  pub folder : first_of (codes "dir") rows ≡ Some options.folder.now

-- what is found of the bound of a run of a C program, and of to whom its end is explained
abbrev pub IsBounded : List Row → ℕ → Explaining → Type 0
IsBounded rows depth explaining =
    ReadsBound (first_of (codes "depth") rows) depth × (first_of (codes "explain") rows ≡ Some (explaining_word explaining))

-- what is found of the bound of a run of a linked program, of with what it is to end, and of to whom its end is explained
abbrev pub IsLimited : List Row → ℕ → Option ℤ → Explaining → Type 0
IsLimited rows limit expected explaining =
    ReadsBound (first_of (codes "limit") rows) limit × ReadsSigned (first_of (codes "expect") rows) expected
    × (first_of (codes "explain") rows ≡ Some (explaining_word explaining))

-- the command of this name, with what is found of its arguments, is this task
abbrev pub IsTask : Text → List Row → Task → Type 0
IsTask name rows (Check format) = (name ≡ codes "check") × (first_of (codes "format") rows ≡ format_word format)
IsTask name rows (Interpret depth explaining) = (name ≡ codes "interpret") × IsBounded rows depth explaining
IsTask name rows (Build options) = (name ≡ codes "build") × AreOptions rows options
IsTask name rows (Exec limit expected explaining) = (name ≡ codes "exec") × IsLimited rows limit expected explaining
IsTask name rows Settle = name ≡ codes "settle"
IsTask name rows (Simulate showing) = (name ≡ codes "sim") × (first_of (codes "svg") rows ≡ Some (showing_word showing))
IsTask name rows Show = name ≡ codes "show"
IsTask name rows task.List = name ≡ codes "log"
IsTask name rows (Verify paths) = (name ≡ codes "verify") × ArePaths rows paths
IsTask name rows (Judge offer) = (name ≡ codes "judge") × IsOfferAt rows offer
IsTask name rows (Native options) = (name ≡ codes "native") × AreNativeOptions rows options
IsTask name rows (Fsck options) = (name ≡ codes "fsck") × AreFsckOptions rows options
IsTask name rows (Emit emitted seed) = (name ≡ codes "emit") × (first_of (codes "of") rows ≡ Some (form_word emitted)) × ReadsPerhaps 64 (first_of (codes "seed") rows) seed

-- what is found of a command asks for this task on the file of this path
abbrev pub IsAskedBy : Option (Text × List Row) → Task → Text → Type 0
IsAskedBy None task path = ⊥
IsAskedBy (Some (name, rows)) task path = IsTask name rows task × (first_of (codes "FILE") rows ≡ Some path)

-- the words, where bounds are said so, ask for this task on the file of this path
abbrev pub Asks : Bounds → Choices → List Text → Task → Text → Type 0
Asks bounds choices words task path = IsAskedBy (subcommand_of (farm bounds choices) words) task path

-- they ask for this
abbrev pub AsksFor : Bounds → Choices → List Text → Asked → Type 0
AsksFor bounds choices words asked = Asks bounds choices words asked.task asked.path.now

-- nothing is wrong with the words where bounds are said so
abbrev pub AreRight : Bounds → Choices → List Text → Type 0
AreRight bounds choices words = fault_of (farm bounds choices) words ≡ []

-- what is wrong with the words, where bounds are said in one of the two ways
abbrev pub IsWrong : Choices → List Text → Error → Type 0
IsWrong choices words fault = (bounds : Bounds) × HasKind (fault_of (farm bounds choices) words) fault

-- words that can be taken are refused where memory is, alone
abbrev pub IsRefusedRightly : Bounds → Choices → List Text → Error → Type 0
IsRefusedRightly bounds choices words fault = takes (farm bounds choices) words ≡ true → kind_of fault ≡ OutOfMemory

-- so it is however bounds are said
abbrev pub AreRefusedRightly : Choices → List Text → Error → Type 0
AreRefusedRightly choices words fault = (bounds : Bounds) → IsRefusedRightly bounds choices words fault

-- the words, where bounds are said so, ask for no task on any file
abbrev pub AsksNothing : Bounds → Choices → List Text → Type 0
AsksNothing bounds choices words = (task : Task) (path : Text) → Asks bounds choices words task path → ⊥

-- the words, at which nothing is wrong where bounds are said so, ask for this, or for nothing
abbrev pub AnswersBy : Bounds → Choices → List Text → Option Asked → Type 0
AnswersBy bounds choices words None = AreRight bounds choices words × AsksNothing bounds choices words
AnswersBy bounds choices words (Some asked) = AreRight bounds choices words × AsksFor bounds choices words asked

-- where bounds are said in one of the two ways
abbrev pub Answers : Choices → List Text → Option Asked → Type 0
Answers choices words asked = (bounds : Bounds) × AnswersBy bounds choices words asked

-- what is found asks for no task on any file
abbrev pub AsksNothingBy : Option (Text × List Row) → Type 0
AsksNothingBy found = (task : Task) (path : Text) → IsAskedBy found task path → ⊥
