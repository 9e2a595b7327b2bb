-- Why `put_built` meets its contract.
use Rattle.std.proofs.Common.{refl, subst, ◌∙◌}
use Rattle.std.specs.Io.KnownBytes.{Appends}
use Rattle.std.specs.String.{string_bytes}
use Rattle.cfarm_files.proofs.Uses.{uses_none}
use Rattle.cfarm_output.specs.Begun.{IsBegun}
use Rattle.cfarm_build_folder.specs.Done.{bundle_bytes}
use Rattle.cfarm_build_folder.specs.Putting.{PlacesBoth, PlacesNotBoth}
use Rattle.cfarm_build_folder.proofs.Stopping.{no_line, stopped}
use Rattle.cfarm_build_folder.proofs.reporting.put_built.Goals as goal

pub returns-in_default-clause-refused : goal.returns-in_default-clause-refused
returns-in_default-clause-refused g c =
    no_line c.args.options (bundle_bytes c.args.bundle) c.args.program.items (string_bytes c.args.report) (g.F.Files.placed c.args.files.now) (g.W.Write.contents c.args.out.now)

pub returns-in_default-clause-unused : goal.returns-in_default-clause-unused
returns-in_default-clause-unused g c = uses_none (g.F.Files.used c.args.files.now)

-- the file of the bundle is refused, or that of the program
pub returns-in-Err-clause-refused : goal.returns-in-Err-clause-refused
returns-in-Err-clause-refused g c =
    let fault = c.in-Err.fault in
    let placed = g.F.Files.placed c.args.files.now in
    let now_placed = g.F.Files.placed c.place_both.new.files in
    let none = subst (λ bytes. PlacesNotBoth c.args.options (bundle_bytes c.args.bundle) placed now_placed bytes fault) c.deref.ensures.value c.in-Err.ensures.refused in
    stopped c.args.options (bundle_bytes c.args.bundle) c.args.program.items _ _ _ _ _ refl fault none

-- the report is printed
pub returns-in-Ok-print_whole-clause-put : goal.returns-in-Ok-print_whole-clause-put
returns-in-Ok-print_whole-clause-put g c = (
  subst (λ bytes. PlacesBoth c.args.options (bundle_bytes c.args.bundle) (g.F.Files.placed c.args.files.now) (g.F.Files.placed c.place_both.new.files) bytes) c.deref.ensures.value c.in-Ok-place_both.ensures.put,
  subst (λ bytes. Appends (g.W.Write.contents c.args.out.now) (g.W.Write.contents c.print_whole.new.out) bytes) (c.as_bytes.ensures.value ∙ c.in-Ok.ensures) c.in-Ok-print_whole.ensures.printed,
)

-- a beginning of it is
pub returns-clause-refused : goal.returns-clause-refused
returns-clause-refused g c = (
  subst (λ bytes. PlacesBoth c.args.options (bundle_bytes c.args.bundle) (g.F.Files.placed c.args.files.now) (g.F.Files.placed c.place_both.new.files) bytes) c.deref.ensures.value c.in-Ok-place_both.ensures.put,
  subst (λ bytes. IsBegun bytes (g.W.Write.contents c.args.out.now) (g.W.Write.contents c.print_whole.new.out)) (c.as_bytes.ensures.value ∙ c.in-Ok.ensures) c.in-Err-print_whole.ensures.begun,
)
