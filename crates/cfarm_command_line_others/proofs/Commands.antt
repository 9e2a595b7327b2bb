-- The commands, one argument and one command after the other; and what is found of a command.
use Rattle.std.specs.Prelude.{◌≡◌, ◌≢◌, ◌||◌, ℕ, ℤ, List, Option, None, Some, Result, Ok, Err, IfOk, IfSome, false, option_map, codes}
use Rattle.std.specs.Result.{result_ok, result_unwrap_or}
use Rattle.std.specs.Int.{w32}
use Rattle.std.specs.Str.Parse.{ParsesSigned, ParsesUnsigned}
use Rattle.std.proofs.Common.{ap, ap₂, refl, sym, subst, ◌∙◌}
use Rattle.clap.proofs.WalkLemmas.{first_value-rows}
use Rattle.clap.specs.Words.{AddsArg, AddsSubcommand, App, Row, Rule, Text, app_of, first_of, first_value, rows_of, rule_of, with_rule, with_subcommand}
use Rattle.clap.specs.declared.builder.command.Command.TheViews.{out-Command as fields_of}
use Rattle.clap.specs.declared.parser.matches.Found.{Found}
use Rattle.clap.specs.declared.builder.arg.Arg.{Arg}
use Rattle.clap.specs.declared.builder.command.Command.{Command}
use Rattle.cfarm_command_line_tasks.specs.declared.task.Asked.{Asked}
use Rattle.cfarm_command_line_tasks.specs.declared.task.Task.{Task}
use Rattle.cfarm_command_line_tasks.specs.Words.{AsksNothingBy, IsArgument, IsAskedBy, IsCommand, IsTask, Reads, ReadsPerhaps, ReadsSigned, SaysBound}

-- one more argument that is not global
pub with_argument : (old new : Command) (a : Arg) (app : App) (r : Rule) → AddsArg old a new → app_of old ≡ app → (fields_of old).has_globals ≡ false → rule_of a ≡ r → a.global ≡ false → app_of new ≡ with_rule app r
with_argument old new a app r adds e g h l = adds.shape l ∙ ap₂ with_rule e h

pub still_local : (old new : Command) (a : Arg) → AddsArg old a new → (fields_of old).has_globals ≡ false → a.global ≡ false → (fields_of new).has_globals ≡ false
still_local old new a adds g l = adds.globals ∙ ap₂ (λ x y. x || y) g l

-- one more command
pub with_command : (old sub new : Command) (app part : App) → AddsSubcommand old sub new → app_of old ≡ app → app_of sub ≡ part → (fields_of sub).has_globals ≡ false → app_of new ≡ with_subcommand app part.top
with_command old sub new app part adds e h l = adds.shape l ∙ ap₂ with_subcommand e (ap (λ (a : App). a.top) h)

-- a command that a call answered
pub of_ok : {E : Type 0} (answer : Result Command E) (old : Command) (app : App) → answer ≡ Ok old → IfOk answer (IsCommand app) → IsCommand app old
of_ok {E} answer old app e h = subst (λ (r : Result Command E). IfOk r (IsCommand app)) e h

-- the same, of what a call answers
pub takes_argument : {E : Type 0} (old : Command) (a : Arg) (app : App) (r : Rule) (answer : Result Command E) → IfOk answer (AddsArg old a) →
    IsCommand app old → IsArgument r a → IfOk answer (IsCommand (with_rule app r))
takes_argument old a app r (Ok new) adds is argument =
    (with_argument old new a app r adds is.0 is.1 argument.0 argument.1, still_local old new a adds is.1 argument.1)
takes_argument old a app r (Err fault) adds is argument = tt

pub takes_command : {E : Type 0} (old sub : Command) (app part : App) (answer : Result Command E) → IfOk answer (AddsSubcommand old sub) →
    IsCommand app old → IsCommand part sub → IfOk answer (IsCommand (with_subcommand app part.top))
takes_command old sub app part (Ok new) adds is inner =
    (with_command old sub new app part adds is.0 inner.0 inner.1, adds.globals ∙ ap₂ (λ x y. x || y) is.1 inner.1)
takes_command old sub app part (Err fault) adds is inner = tt

-- what is asked for by the parts of what is found
pub asked_by : {A : Type 0} (f : A → Text) (g : A → List Row) (o : Option A) (n : Text) (found : Found) (task : Task) (path : Text) →
    Some n ≡ option_map f o → Some (rows_of found) ≡ option_map (λ (p : Text × List Row). p.1) (option_map (λ b. (f b, g b)) o) →
    IsTask n (rows_of found) task → first_value found (codes "FILE") ≡ Some path → IsAskedBy (option_map (λ b. (f b, g b)) o) task path
asked_by f g None n found task path e h t p = absurd cc
asked_by f g (Some b) n found task path e h t p =
    let name : n ≡ f b = cc in
    let rows : rows_of found ≡ g b = cc in
    (subst (λ x. IsTask x (g b) task) name (subst (λ x. IsTask n x task) rows t), subst (λ x. first_of (codes "FILE") x ≡ Some path) rows (sym (first_value-rows found (codes "FILE")) ∙ p))

pub asked_from : {A : Type 0} (f : A → Text) (g : A → List Row) (o : Option A) (n : Text) (found : Found) (r : Option Asked) →
    Some n ≡ option_map f o → Some (rows_of found) ≡ option_map (λ (p : Text × List Row). p.1) (option_map (λ b. (f b, g b)) o) →
    IfSome r (λ a. IsTask n (rows_of found) a.task) → IfSome r (λ a. first_value found (codes "FILE") ≡ Some a.path.now) →
    IfSome r (λ a. IsAskedBy (option_map (λ b. (f b, g b)) o) a.task a.path.now)
asked_from f g o n found None e h t p = tt
asked_from f g o n found (Some a) e h t p = asked_by f g o n found a.task a.path.now e h t p

-- the number that is read of a text
pub reads_of : {E : Type 0} (bits : ℕ) (text : List ℕ) (r : Result ℕ E) → ParsesUnsigned bits 10 text r → Reads bits (Some text) (result_unwrap_or r 0)
reads_of bits text (Ok x) p = λ numeral below. p.1
reads_of bits text (Err e) p = λ numeral below. absurd (p (numeral, below))

-- the number that is read of a text, if one is
pub reads_some : {E : Type 0} (bits : ℕ) (text : List ℕ) (x : ℕ) (r : Result ℕ E) → r ≡ Ok x → ParsesUnsigned bits 10 text r → ReadsPerhaps bits (Some text) (Some x)
reads_some {E} bits text x r e p = let q : ParsesUnsigned {E = E} bits 10 text (Ok x) = subst (λ (y : Result ℕ E). ParsesUnsigned {E = E} bits 10 text y) e p in λ numeral below. ap Some q.1

pub reads_none : {E : Type 0} (bits : ℕ) (text : List ℕ) (x : E) (r : Result ℕ E) → r ≡ Err x → ParsesUnsigned bits 10 text r → ReadsPerhaps bits (Some text) None
reads_none {E} bits text x r e p = let q : ParsesUnsigned {E = E} bits 10 text (Err x) = subst (λ (y : Result ℕ E). ParsesUnsigned {E = E} bits 10 text y) e p in λ numeral below. absurd (q (numeral, below))

-- the bound that is read: the word for none, and a number
pub says_none : (text : List ℕ) → text ≡ codes "none" → SaysBound text 18446744073709551615
says_none text same = (λ is. refl, λ other. absurd (other same))

pub says_number : {E : Type 0} (text : List ℕ) (r : Result ℕ E) → text ≢ codes "none" → ParsesUnsigned 64 10 text r → SaysBound text (result_unwrap_or r 0)
says_number text r other p = (λ is. absurd (other is), λ no. reads_of 64 text r p)

-- the same of a number with a sign
pub reads_signed : {E : Type 0} (text : List ℕ) (r : Result ℤ E) → ParsesSigned w32 10 text r → ReadsSigned (Some text) (result_ok r)
reads_signed text (Ok x) p = λ numeral fits. ap Some p.1
reads_signed text (Err e) p = λ numeral fits. absurd (p (numeral, fits))

-- no file is named
pub nothing_without_file : (name : Text) (found : Found) → None ≡ first_value found (codes "FILE") → AsksNothingBy (Some (name, rows_of found))
nothing_without_file name found none = λ task path asked.
    let same : first_of (codes "FILE") (rows_of found) ≡ None = sym (none ∙ first_value-rows found (codes "FILE")) in
    let named : first_of (codes "FILE") (rows_of found) ≡ Some path = asked.1 in
    absurd (let no : None ≡ Some path = sym same ∙ named in cc)

-- nothing is found
pub nothing_without : (o : Option (Text × List Row)) → None ≡ option_map (λ (p : Text × List Row). p.1) o → AsksNothingBy o
nothing_without None e = λ task path asked. asked
nothing_without (Some p) e = absurd cc

-- what is found asks for nothing where its parts do
pub nothing_from : {A : Type 0} (f : A → Text) (g : A → List Row) (o : Option A) (n : Text) (found : Found) →
    Some n ≡ option_map f o → Some (rows_of found) ≡ option_map (λ (p : Text × List Row). p.1) (option_map (λ b. (f b, g b)) o) →
    AsksNothingBy (Some (n, rows_of found)) → AsksNothingBy (option_map (λ b. (f b, g b)) o)
nothing_from f g None n found e h none = absurd cc
nothing_from f g (Some b) n found e h none =
    let name : n ≡ f b = cc in
    let rows : rows_of found ≡ g b = cc in
    subst (λ r. AsksNothingBy (Some (f b, r))) rows (subst (λ x. AsksNothingBy (Some (x, rows_of found))) name none)
