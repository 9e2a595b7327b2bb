-- An answer that is right where it is one is the only one.
use Rattle.std.proofs.Common.{◌≡◌, ◌≢◌, ℕ, List, Result, Ok, Err, Option, Some, None, refl}
use Rattle.std.specs.Prelude.{IfOk, IfErr, IsErrAnd, MatchResult}
use Rattle.std.specs.Global.{Vec}
use Rattle.c_syntax.specs.declared.token.Token.{Token}
use Rattle.c_lexer.specs.declared.errors.LexError.{LexError}
use Rattle.c_lexer.specs.declared.errors.LexError.TheVariants.{NoMemory, BadByte, OpenComment, LiteralRange, BadChar}
use Rattle.c_lexer.specs.Texts.{HasTokens, HasFault}
use Rattle.c_lexer.proofs.OneReading.{same_tokens, no_fault, one_fault}

pub none_left : {A : Type 0} (o : Option A) → ((x : A) → o ≡ Some x → ⊥) → o ≡ None
none_left None h = refl
none_left (Some x) h = absurd (h x refl)

out_of_memory : (text : List ℕ) (e : LexError) (tokens : List Token) → (e ≢ NoMemory → HasFault text e) → HasTokens text tokens → e ≡ NoMemory
out_of_memory text NoMemory tokens fault has = refl
out_of_memory text (BadByte at) tokens fault has = absurd (no_fault text tokens (BadByte at) has (fault (λ e. cc)))
out_of_memory text (OpenComment at) tokens fault has = absurd (no_fault text tokens (OpenComment at) has (fault (λ e. cc)))
out_of_memory text (LiteralRange at) tokens fault has = absurd (no_fault text tokens (LiteralRange at) has (fault (λ e. cc)))
out_of_memory text (BadChar at) tokens fault has = absurd (no_fault text tokens (BadChar at) has (fault (λ e. cc)))

pub only_tokens : (text : List ℕ) (r : Result (Vec Token) LexError) → IfOk r (λ v. HasTokens text v.items) → IfErr r (λ e. e ≢ NoMemory → HasFault text e) → (tokens : List Token) → HasTokens text tokens → MatchResult r (λ v. v.items ≡ tokens) (λ e. e ≡ NoMemory)
only_tokens text (Ok v) ok err tokens has = same_tokens text v.items tokens ok has
only_tokens text (Err e) ok err tokens has = out_of_memory text e tokens err has

pub first_fault : (text : List ℕ) (r : Result (Vec Token) LexError) → IfOk r (λ v. HasTokens text v.items) → IfErr r (λ e. e ≢ NoMemory → HasFault text e) → (e : LexError) → HasFault text e → IsErrAnd r (λ f. f ≢ NoMemory → f ≡ e)
first_fault text (Ok v) ok err e fault = absurd (no_fault text v.items e ok fault)
first_fault text (Err f) ok err e fault = λ other. one_fault text f e (err other) fault
