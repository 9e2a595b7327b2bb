-- Records that are read one behind the other.
use Rattle.std.proofs.Common.{◌≡◌, ◌≢◌, ℕ, ◌-◌, Bool, true, false, List, [], ◌∷◌, ◌++◌, length, refl, sym, ap, ◌∙◌, arith}
use Rattle.std.specs.Prelude.{◌==◌, not}
use Rattle.std.proofs.lemmas.Bool.{eqb-false, eqb-true}
use Rattle.std.proofs.lemmas.List.{length-append, nil_from_length}
use Rattle.acceptor_log_form.specs.declared.record.Record.{Record}
use Rattle.acceptor_log_form.specs.Text.{blocks}
use Rattle.acceptor_log_old.proofs.Plain.{plain-more}
use Rattle.cfarm_log.specs.declared.version.Version.{Version}
use Rattle.cfarm_log.specs.declared.version.Version.TheVariants.{Old, New}
use Rattle.cfarm_log.specs.Forms.{all_had, has_version}
use Rattle.cfarm_log.specs.Fronts.{IsAtEnd}

-- one more
pub had-more : (v : Version) (xs more : List Record) (r : Record) → more ≡ xs ++ r ∷ [] → all_had v xs ≡ true → has_version v r ≡ true → all_had v more ≡ true
had-more Old xs more r are all one = plain-more xs more r are all one
had-more New xs more r are all one = refl

pub at_end : (rest : List ℕ) → ((behind : List ℕ) → rest ≢ 1 ∷ behind) → rest ≢ [] → IsAtEnd rest
at_end [] closed some = absurd (some refl)
at_end (gate ∷ behind) closed some = (gate, behind, refl, λ is. closed behind (ap (λ x. x ∷ behind) is))

not_true : (t : Bool) → not t ≡ true → t ≡ false
not_true true is = absurd cc
not_true false is = refl

not_false : (t : Bool) → not t ≡ false → t ≡ true
not_false true is = refl
not_false false is = absurd cc

-- whether something is left
pub some_left : (rest : List ℕ) (t : Bool) → t ≡ (length rest == 0) → not t ≡ true → rest ≢ []
some_left rest t is ends nothing = eqb-false (length rest) 0 (sym is ∙ not_true t ends) (ap length nothing)

pub none_left : (rest : List ℕ) (t : Bool) → t ≡ (length rest == 0) → not t ≡ false → rest ≡ []
none_left rest t is ends = nil_from_length rest (eqb-true (length rest) 0 (sym is ∙ not_false t ends))

-- how long what was read is
pub gate_is : (bytes rest : List ℕ) (rs : List Record) → bytes ≡ blocks rs ++ rest → length bytes - length rest ≡ length (blocks rs)
gate_is bytes rest rs text = let long = ap length text ∙ length-append (blocks rs) rest in omega (arith, long)
