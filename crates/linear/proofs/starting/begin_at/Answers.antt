-- Why `begin_at` meets its contract.
use Rattle.std.proofs.Common.{◌≡◌, ◌+◌, ◌++◌, length, replicate, None, refl, sym, ap, ◌∙◌}
use Rattle.std.proofs.lemmas.Option.{slice_get_read, get_or_from_slice_get}
use Rattle.lang_base.specs.declared.program.Named.{Named}
use Rattle.linear_language.specs.Function.{FunctionData}
use Rattle.linear_run_calls.specs.Places.{start_of}
use Rattle.linear.proofs.Main.{begins_fits, begins_so}
use Rattle.linear.proofs.starting.begin_at.Goals as goal

pub returns : goal.returns
returns c =
    let functions = c.args.functions.now in
    let named = c.index-functions-number.result in
    let size = 8 + c.from-size.result in
    let words = c.push_undefined.new.words.items in
    let found = slice_get_read functions (length functions) c.args.number named refl c.requires.there c.index-functions-number.is in
    let start = c.requires.whole.starts.each c.args.number named found in
    let first : c.index.result.now ≡ start_of functions c.args.number = c.index.ensures ∙ get_or_from_slice_get c.args.whole.now.starts.items c.args.number (start_of functions c.args.number) c.index.result.now start in
    let many = ap (λ n. 8 + n) (c.from-size.ensures ∙ c.slots.ensures ∙ ap (λ (f : Named FunctionData). f.function.slots) (sym c.index-functions-number.is)) in
    let fresh = c.in_ok-push_undefined.ensures ∙ ap (λ ws. ws ++ replicate size None) c.new-words.ensures.items in
    record {
      fits = begins_fits functions c.args.number c.index.result.now size named words c.new.result found first many fresh c.new.ensures;
      state = begins_so functions c.args.number c.index.result.now size named words c.new.result found first many fresh c.new.ensures;
    }
