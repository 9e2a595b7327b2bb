-- A function whose chosen offers are never linked is one of the text's, and has a name.
use Rattle.std.proofs.Common.{◌≡◌, ◌<◌, ◌≤◌, ◌++◌, ℕ, List, Option, Some, String, length, map, inl, inr, refl, sym, ap, subst, ◌∙◌, string_bytes}
use Rattle.std.specs.Arc.{arc_value}
use Rattle.std.specs.Global.{Global}
use Rattle.std.proofs.lemmas.List.{length-map}
use Rattle.std.proofs.lemmas.Option.{slice_get_within}
use Rattle.lang_base.specs.declared.program.Program.{Program}
use Rattle.c_checker_rules.specs.Checked.{program_tree}
use Rattle.c_program.specs.declared.function.Function as c
use Rattle.c_program.specs.Views.{function_tree}
use Rattle.cminor_lowering.specs.Programs.{low, low_named}
use Rattle.cminor_program_ranges.specs.Names.{HaveNames}
use Rattle.rtl_language.specs.declared.function.Function.{Function}
use Rattle.rtlgen_definition.specs.Gen.{gen, gen_named}
use Rattle.paxos_core_world.specs.Quorum.{Sizes}
use Rattle.farm_nodes_source.specs.declared.source.Source.{Source}
use Rattle.cfarm_fsck.specs.Told as fsck
use Rattle.cfarm_fsck.specs.declared.error.FsckError.{FsckError}
use Rattle.cfarm_fsck.specs.declared.error.FsckError.TheVariants.{Disks, Unchained, NoMemory, Write}
use Rattle.cfarm_fsck_journals.specs.declared.files.NodeFiles.{NodeFiles}
use Rattle.farm_nodes_source.specs.Refused.{HasNameAt}
use Rattle.linker.specs.declared.errors.LinkError.TheVariants as link
use Rattle.cfarm_build_faults.specs.Lines.{told_line}
use Rattle.cfarm_build_faults.specs.Statuses.{status_of}
use Rattle.cfarm_build_faults.specs.declared.error.BuildError.{BuildError}
use Rattle.cfarm_build_faults.specs.declared.error.BuildError.TheVariants as build
use Rattle.cfarm_output.specs.Errors.{ErrorsHeld}
use Rattle.cfarm_program_status.specs.Telling.{IsLineTold, IsToldAs, no_memory, told, unwritten}
use Rattle.cfarm_fsck_files.specs.Looking.{IsSaidOfFault, build_fault}
use Rattle.cfarm_fsck_files.specs.Lost.{ended}
use Rattle.cfarm_fsck_files.specs.Unlinked.{IsReady, IsSaidOf, IsWithin, behind_lines}

-- a function is translated for each
as_many : (fs : List c.Function) → length (map gen_named (map low_named (map function_tree fs))) ≡ length fs
as_many fs = length-map (map low_named (map function_tree fs)) gen_named ∙ (length-map (map function_tree fs) low_named ∙ length-map fs function_tree)

-- a text that was made ready
pub ready_of : (source : Source) → HaveNames (program_tree source.program) → length (arc_value source.translated).functions ≤ 64
    → arc_value source.translated ≡ gen (low (program_tree source.program)) → IsReady source
ready_of source names few translated =
    record { names = names; few = few; as_many = ap (λ p. length p.functions) translated ∙ as_many source.program.functions }

-- what is told is of a function of it
pub within_of : (q : Sizes) (source : Source) (files : List NodeFiles) (fault : FsckError) (before after : Option (List ℕ)) → IsReady source
    → fsck.IsNotTold q source.digest (arc_value source.translated) files fault before after → IsWithin source fault
within_of q source files (Disks fault) before after ready told = tt
within_of q source files (Unchained f) before after ready told =
    let first = told.3.0 in
    let within = slice_get_within (arc_value source.translated).functions f first.function first.there in
    subst (λ (n : ℕ). f < n) ready.as_many within
within_of q source files NoMemory before after ready told = tt
within_of q source files Write before after ready told = tt

-- what is said on standard error of each fault
module _ (source : Source) (lines : List ℕ) (status : ℕ) (before after : ErrorsHeld) where
  pub said_disks : (fault : _) → IsToldAs (build_fault (build.Disks fault)) status before after
      → IsSaidOfFault source lines (Disks fault) status before after
  said_disks fault said = (build_fault (build.Disks fault), refl, said)

  pub said_no_memory : IsToldAs no_memory status before after → IsSaidOfFault source lines NoMemory status before after
  said_no_memory said = (no_memory, refl, said)

  pub said_unwritten : IsToldAs unwritten status before after → IsSaidOfFault source lines Write status before after
  said_unwritten said = (unwritten, refl, said)

  -- and of a function that is never linked
  pub said_without_memory : (number : ℕ) → IsToldAs no_memory status before after → IsSaidOf source lines number status before after
  said_without_memory number said = (no_memory, inr refl, said)

  pub said_named : (number : ℕ) (name : String Global) (text : List ℕ) (given : ℕ)
      → HasNameAt (map (λ f. f.name) source.program.functions) number (string_bytes name)
      → text ≡ ended lines ++ told_line (build.Unlinked (link.Unchained number) name) → given ≡ status_of (build.Unlinked (link.Unchained number) name)
      → IsLineTold (Some text) given status before after → IsSaidOf source lines number status before after
  said_named number name text given named is status_is said = (
    behind_lines lines (build.Unlinked (link.Unchained number) name),
    inl (name, named, refl),
    subst (λ (line : List ℕ). IsToldAs (told (status_of (build.Unlinked (link.Unchained number) name)) line) status before after) is
        (subst (λ (n : ℕ). IsToldAs (told n text) status before after) status_is (said text refl)),
  )
