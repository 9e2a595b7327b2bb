-- What is told of journals that a farm opens over.
use Rattle.std.proofs.Common.{◌≡◌, ◌⊎◌, inl, inr, ℕ, List, length, Option, None, Some, Result, Ok, Err, IfErr, refl, sym, subst}
use Rattle.std.specs.Global.{Vec}
use Rattle.std.specs.Io.KnownBytes.{Appends, Keeps}
use Rattle.lang_base.specs.declared.program.Named.{Named}
use Rattle.lang_base.specs.declared.program.Program.{Program}
use Rattle.rtl_language.specs.declared.function.Function.{Function}
use Rattle.paxos_core_world.specs.KeptPart.{KeptPart}
use Rattle.paxos_core_world.specs.Quorum.{Sizes}
use Rattle.acceptor_log_form.specs.declared.record.Record.{Record}
use Rattle.cfarm_output.specs.Begun.{IsBegun}
use Rattle.cfarm_fsck_journals.specs.declared.files.NodeFiles.{NodeFiles}
use Rattle.cfarm_fsck.specs.declared.error.FsckError.{FsckError}
use Rattle.cfarm_fsck.specs.declared.error.FsckError.TheVariants.{Disks, Unchained, NoMemory, Write}
use Rattle.cfarm_fsck_chosen.specs.Linking.{IsFirstUnchained}
use Rattle.cfarm_fsck.specs.Opened.{AllChain, IsBegunOf, IsFaultTold, IsToldOfOpened}
use Rattle.cfarm_fsck.specs.Printed.{Prints}
use Rattle.cfarm_fsck.specs.Telling.{folder_lines, front_lines}
use Rattle.cfarm_fsck.specs.Told.{IsToldOrRefused, Opens}

pub kept_bytes : (a : Option (List ℕ)) → Keeps a a
kept_bytes None = tt
kept_bytes (Some x) = refl

module _ (accept : ℕ) (functions : List (Named Function)) (journals : List (ℕ × Vec Record)) (kept : List (Vec KeptPart)) where
  -- memory or the writer failed
  pub in_part : (e : FsckError) (before after : Option (List ℕ)) → (e ≡ NoMemory) ⊎ (e ≡ Write) → IsBegunOf accept functions journals kept before after
      → IsFaultTold accept functions journals kept e before after
  in_part e before after (inl is) part = subst (λ f. IsFaultTold accept functions journals kept f before after) (sym is) part
  in_part e before after (inr is) part = subst (λ f. IsFaultTold accept functions journals kept f before after) (sym is) part

  pub whole : {W : Type 0} (contents : W → Option (List ℕ)) (r : Result (Unit {0}) FsckError) (before after : W) → AllChain accept functions journals kept
      → IfErr r (λ e. (e ≡ NoMemory) ⊎ (e ≡ Write)) → Prints contents (folder_lines accept functions journals kept) r before after
      → IsToldOfOpened accept functions journals kept r (contents before) (contents after)
  whole contents (Ok x) before after chain kinds printed = (chain, printed)
  whole contents (Err e) before after chain kinds printed = in_part e (contents before) (contents after) kinds (inr (inl (chain, printed)))

-- so it is told of a folder
module _ (q : Sizes) (digest : List ℕ) (program : Program Function) (files : List NodeFiles) (journals : List (ℕ × Vec Record)) (kept : List (Vec KeptPart))
    (opens : Opens q digest program files journals kept) (before after : Option (List ℕ)) where
  pub told_or_refused : (r : Result (Unit {0}) FsckError) → IsToldOfOpened q.accept program.functions journals kept r before after
      → IsToldOrRefused q digest program files r before after
  told_or_refused (Ok x) told = (journals, kept, opens, told)
  told_or_refused (Err (Disks fault)) told = absurd told
  told_or_refused (Err (Unchained f)) told = (journals, kept, opens, told)
  told_or_refused (Err NoMemory) told = inr (journals, kept, opens, told)
  told_or_refused (Err Write) told = inr (journals, kept, opens, told)
