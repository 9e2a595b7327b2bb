-- What is made of the source is made of the text.
use Rattle.std.proofs.Common.{◌≤◌, length, map, sym, ap, ◌∙◌, subst}
use Rattle.sha2.specs.Sha256.{sha256}
use Rattle.lang.specs.Form.{IsProgram}
use Rattle.lang_base.specs.Keeps.{Keeps}
use Rattle.c_program.specs.Meaning.{crun}
use Rattle.c_checker_rules.specs.Checked.{program_tree}
use Rattle.rtl_language.specs.Function.{IsFunction}
use Rattle.rtl_language.specs.Meaning.{run}
use Rattle.farm_nodes_source.proofs.Numbered.{translated_names}
use Rattle.cfarm_emit.specs.Made.{IsMadeFrom, IsMadeOf}
use Rattle.cfarm_emit.proofs.emitting.emitted.Goals as goal

pub form_text-requires-clause-ready : goal.form_text-requires-clause-ready
form_text-requires-clause-ready c =
    let source = c.in-Ok.source in
    let tree = program_tree source.program in
    let at = c.deref.ensures in
    let same = at ∙ c.in-Ok.ensures.translated in
    record {
      names = c.in-Ok.ensures.names;
      head = record { globals = ap (λ p. p.globals) same; names = ap (λ p. map (λ f. f.name) p.functions) same ∙ translated_names source.program.functions };
      keeps = subst (λ p. Keeps (crun tree) (run p)) (sym at) c.in-Ok.ensures.keeps;
      count = subst (λ p. length p.functions ≤ 64) (sym at) c.in-Ok.ensures.count;
      fits = subst (λ p. IsProgram IsFunction p) (sym at) c.in-Ok.ensures.fits;
    }

pub returns-in-Ok-form_text-clause-emitted : goal.returns-in-Ok-form_text-clause-emitted
returns-in-Ok-form_text-clause-emitted c =
    let is = c.in-Ok.ensures.accepted in
    let source = c.in-Ok.source in
    let of = c.args.of in
    let seed = c.args.seed in
    let bytes = c.in-Ok-form_text.bytes.items in
    let tree = program_tree source.program in
    let from = subst (λ p. IsMadeFrom c.as_slice-hash.result.now tree p of seed bytes) (c.deref.ensures ∙ c.in-Ok.ensures.translated) c.in-Ok-form_text.ensures in
    let of_text = subst (λ h. IsMadeOf h tree of seed bytes) (c.as_slice-hash.ensures ∙ c.in-Ok.ensures.digest) from in
    (is.0, is.1, subst (λ t. IsMadeOf (sha256 c.args.text.now) t of seed bytes) is.2 of_text)
