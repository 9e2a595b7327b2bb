-- Each plain instruction.
use Rattle.std.proofs.Common.{◌≡◌, ℕ, ◌+◌, ◌<◌, Bool, true, false, List, [], ◌∷◌, length, Option, Some, None, refl, sym, ap, subst, ◌∙◌}
use Rattle.std.specs.Prelude.{slice_get, slice_set, nat_lt, if◌then◌else◌, option_and_then}
use Rattle.std.specs.Option.{option_map}
use Rattle.std.proofs.lemmas.Bool.{ltb-true}
use Rattle.ints.specs.Codes.{argument_count_of}
use Rattle.ints.specs.MachineTable.{machine_table}
use Rattle.ints.specs.declared.operators.Op.{Op}
use Rattle.lang_base.specs.declared.program.Program.{Program}
use Rattle.locations.specs.declared.location.Location.TheVariants.{InRegister}
use Rattle.machine.specs.Acts.{does, given, pair_of, word_in, changed, stored, printing}
use Rattle.machine.specs.Data.{Data, value_at, put_at}
use Rattle.machine.specs.Fits.{ActFits, ArgumentsFit, ValueFits}
use Rattle.machine.specs.Frames.{State}
use Rattle.machine.specs.declared.act.Act.{Act}
use Rattle.machine.specs.declared.act.Act.TheVariants.{Constant, Operate, Load, Store, Put}
use Rattle.machine.specs.declared.arguments.Arguments.{Arguments}
use Rattle.machine.specs.declared.arguments.Arguments.TheVariants.{One, Two}
use Rattle.linear_language.specs.declared.instruction.Instruction.TheVariants as l
use Rattle.linear_language.specs.Function.{FunctionData}
use Rattle.x86_state.specs.State.{State as Native}
use Rattle.native_lowering_relation.specs.Related.{Related}
use Rattle.native_lowering_checked.proofs.Unchecked.{Reaches, constant_reaches}
use Rattle.native_lowering_reaching.proofs.Loads.{load_reaches}
use Rattle.native_lowering_reaching.proofs.Prints.{print_reaches}
use Rattle.native_lowering_reaching.proofs.Stores.{store_reaches}
use Rattle.native_lowering_ranges.specs.Range.{AreWords, AreDeclared}
use Rattle.native_lowering_ranges.proofs.Words.{same_some, never}
use Rattle.native_lowering_acts.proofs.One.{operate_one}
use Rattle.native_lowering_acts.proofs.Two.{operate_two}

module _ (p : Program FunctionData) (room : Option ℕ) (s : State) (t : Native) (related : Related p s t) (words : AreWords s.here.registers) (declared : AreDeclared p.globals s.here.globals) where
  abbrev To : Data → Type 0
  To d = Reaches p room (record s { place = s.place + 1; here = d }) t

  abbrev At : Act → Type 0
  At act = slice_get related.named.function.code s.place ≡ Some (l.Do act)

  -- what was given
  given_it : (target : ℕ) (d : Data) (o : Option ℕ) → given target s.here o ≡ Some d → ((w : ℕ) → o ≡ Some w → To (put_at (InRegister target) (Some w) s.here)) → To d
  given_it target d None e reaches = never (To d) d e
  given_it target d (Some w) e reaches =
      let same : put_at (InRegister target) (Some w) s.here ≡ d = same_some (put_at (InRegister target) (Some w) s.here) d e in
      subst To same (reaches w refl)

  one : (op : Op) (target a : ℕ) (o : Option ℕ) → At (Operate op target (One a)) → target < 8 → a < 8 → argument_count_of op ≡ 1 → value_at (InRegister a) s.here ≡ o
      → (w : ℕ) → option_and_then (machine_table op) (option_map (λ x. x ∷ []) o) ≡ Some w → To (put_at (InRegister target) (Some w) s.here)
  one op target a None at near near' count defined w e = never (To (put_at (InRegister target) (Some w) s.here)) w e
  one op target a (Some x) at near near' count defined w e = operate_one p room s t related op target a x w at near near' defined (words a x defined) count e

  two : (op : Op) (target a b : ℕ) (o q : Option ℕ) → At (Operate op target (Two a b)) → target < 8 → a < 8 → b < 8 → argument_count_of op ≡ 2 → value_at (InRegister a) s.here ≡ o → value_at (InRegister b) s.here ≡ q
      → (w : ℕ) → option_and_then (machine_table op) (pair_of o q) ≡ Some w → To (put_at (InRegister target) (Some w) s.here)
  two op target a b None q at near near' near'' count left_is right_is w e = never (To (put_at (InRegister target) (Some w) s.here)) w e
  two op target a b (Some x) None at near near' near'' count left_is right_is w e = never (To (put_at (InRegister target) (Some w) s.here)) w e
  two op target a b (Some x) (Some y) at near near' near'' count left_is right_is w e =
      operate_two p room s t related target a b x y w near near' near'' left_is right_is (words a x left_is) (words b y right_is) op at count e

  operates : (op : Op) (target : ℕ) (arguments : Arguments) (d : Data) → At (Operate op target arguments) → target < 8 → ArgumentsFit (argument_count_of op) arguments → does (Operate op target arguments) s.here ≡ Some d → To d
  operates op target (One a) d at near fits e =
      given_it target d (option_and_then (machine_table op) (option_map (λ x. x ∷ []) (value_at (InRegister a) s.here))) e
      (one op target a (value_at (InRegister a) s.here) at near fits.1 fits.0 refl)
  operates op target (Two a b) d at near fits e =
      given_it target d (option_and_then (machine_table op) (pair_of (value_at (InRegister a) s.here) (value_at (InRegister b) s.here))) e
      (two op target a b (value_at (InRegister a) s.here) (value_at (InRegister b) s.here) at near fits.1 fits.2 fits.0 refl refl)

  loads : (target global index : ℕ) (o : Option (List ℕ)) (q : Option ℕ) → At (Load target global index) → target < 8 → index < 8 → slice_get s.here.globals global ≡ o → value_at (InRegister index) s.here ≡ q
      → (w : ℕ) → option_and_then (word_in o) q ≡ Some w → To (put_at (InRegister target) (Some w) s.here)
  loads target global index None None at near near' there defined w e = never (To (put_at (InRegister target) (Some w) s.here)) w e
  loads target global index None (Some i) at near near' there defined w e = never (To (put_at (InRegister target) (Some w) s.here)) w e
  loads target global index (Some cells) None at near near' there defined w e = never (To (put_at (InRegister target) (Some w) s.here)) w e
  loads target global index (Some cells) (Some i) at near near' there defined w e =
      load_reaches p room s t related target global index i w cells at near near' defined there e (declared global cells there)

  changes : (global index source i w : ℕ) (d : Data) (cells : List ℕ) (b : Bool) → At (Store global index source) → index < 8 → source < 8 → value_at (InRegister index) s.here ≡ Some i
      → value_at (InRegister source) s.here ≡ Some w → slice_get s.here.globals global ≡ Some cells → nat_lt i (length cells) ≡ b
      → (if b then Some (record s.here { globals = slice_set s.here.globals global (slice_set cells i w) }) else None) ≡ Some d → To d
  changes global index source i w d cells false at near near' left_is right_is there told e = never (To d) d e
  changes global index source i w d cells true at near near' left_is right_is there told e =
      let same : record s.here { globals = slice_set s.here.globals global (slice_set cells i w) } ≡ d = same_some (record s.here { globals = slice_set s.here.globals global (slice_set cells i w) }) d e in
      subst To same
      (store_reaches p room s t related global index source i w cells at near near' left_is right_is there (ltb-true i (length cells) told) (declared global cells there))

  stores : (global index source : ℕ) (d : Data) (o q : Option ℕ) (g : Option (List ℕ)) → At (Store global index source) → index < 8 → source < 8 → value_at (InRegister index) s.here ≡ o
      → value_at (InRegister source) s.here ≡ q → slice_get s.here.globals global ≡ g → stored s.here global o q ≡ Some d → To d
  stores global index source d None q g at near near' left_is right_is there e = never (To d) d e
  stores global index source d (Some i) None g at near near' left_is right_is there e = never (To d) d e
  stores global index source d (Some i) (Some w) None at near near' left_is right_is there e =
      never (To d) d (sym (ap (changed s.here global i w) there) ∙ e)
  stores global index source d (Some i) (Some w) (Some cells) at near near' left_is right_is there e =
      changes global index source i w d cells (nat_lt i (length cells)) at near near' left_is right_is there refl (sym (ap (changed s.here global i w) there) ∙ e)

  prints : (source : ℕ) (target : Option ℕ) (d : Data) (o : Option ℕ) → At (Put source target) → source < 8 → ValueFits target → value_at (InRegister source) s.here ≡ o
      → option_map (printing target s.here) o ≡ Some d → To d
  prints source target d None at near fits defined e = never (To d) d e
  prints source target d (Some x) at near fits defined e =
      let same : printing target s.here x ≡ d = same_some (printing target s.here x) d e in
      subst To same (print_reaches p room s t related source x target at near fits defined)

  pub act_reaches : (act : Act) (d : Data) → At act → ActFits act → does act s.here ≡ Some d → To d
  act_reaches (Constant target word) d at fits e =
      let same : put_at (InRegister target) (Some word) s.here ≡ d = same_some (put_at (InRegister target) (Some word) s.here) d e in
      subst To same (constant_reaches p room s t related target word at fits.0)
  act_reaches (Operate op target arguments) d at fits e = operates op target arguments d at fits.0 fits.1 e
  act_reaches (Load target global index) d at fits e =
      given_it target d (option_and_then (word_in (slice_get s.here.globals global)) (value_at (InRegister index) s.here)) e
      (loads target global index (slice_get s.here.globals global) (value_at (InRegister index) s.here) at fits.0 fits.2 refl refl)
  act_reaches (Store global index source) d at fits e =
      stores global index source d (value_at (InRegister index) s.here) (value_at (InRegister source) s.here) (slice_get s.here.globals global) at fits.1 fits.2 refl refl refl e
  act_reaches (Put source target) d at fits e = prints source target d (value_at (InRegister source) s.here) at fits.0 fits.1 refl e
