-- A bundle that carries the proof of a program.
use Rattle.std.specs.Prelude.{◌≡◌, ℕ, List, Option, option_map}
use Rattle.lang_base.specs.Keeps.{Keeps}
use Rattle.lang_base.specs.declared.program.Program.{Program}
use Rattle.lang.specs.Form.{IsProgram, program_text}
use Rattle.linear_language.specs.Function as linear_function
use Rattle.linear_language.specs.Meaning as linear
use Rattle.linear_language.specs.Spelling.{spelling}
use Rattle.c_program.specs.Meaning.{crun}
use Rattle.c_program.specs.Trees.{ProgramTree}
use Rattle.cminor_lowering.specs.Programs.{low}
use Rattle.rtlgen_definition.specs.Gen.{gen}
use Rattle.cfarm_build_result.specs.Linking.{BundleLinks}
use Rattle.cfarm_build_result.specs.declared.built.Built.{Built}

-- the bytes of the bundle that was made, where one was
abbrev pub bundle_of : Built → Option (List ℕ)
bundle_of built = option_map (λ bytes. bytes.items) built.bundle

-- The bundle's offers go on from the C program's translation, and each is accepted by its pass. The program's bytes are the text of
-- what they link, and that keeps the meaning of the C program.
pub record Carries (tree : ProgramTree) (digest program bundle : List ℕ) : Type 0 where
  pub linked : Program linear_function.FunctionData
  pub bundled : BundleLinks bundle digest (gen (low tree)) linked
  pub keeps : Keeps (crun tree) (linear.run linked)
  pub fits : IsProgram linear_function.IsFunction linked
  pub text : program ≡ program_text 4 spelling linked
