-- The parts of a text, one behind the other.
use Rattle.std.proofs.Common.{◌≡◌, ℕ, ◌+◌, ◌-◌, ◌<◌, ◌≤◌, Ok, Option, Some, None, List, [], ◌∷◌, ◌++◌, length, take, drop, refl, sym, ap, ◌∙◌, subst, arith, append_assoc, length-append, length-drop, length-take-le, take-append-drop}
use Rattle.std.proofs.lemmas.List.{append-nil, drop-drop, drop_all, take_rest}
use Rattle.c_syntax.specs.declared.token.Token.{Token}
use Rattle.c_syntax.specs.declared.token.TokenKind.{TokenKind}
use Rattle.c_lexer.specs.declared.found.Found.{Found}
use Rattle.c_lexer.specs.Found.{IsFound}
use Rattle.c_lexer_lexemes.specs.Parts.{IsPart}
use Rattle.c_lexer.specs.Texts.{Part, bytes_of, AreParts, token_of, tokens_of, ReadsTo, HasTokens}
use Rattle.c_lexer.proofs.Unique.{part_some}

bytes_push : (parts : List Part) (p : Part) → bytes_of (parts ++ p ∷ []) ≡ bytes_of parts ++ p.bytes
bytes_push [] p = append-nil p.bytes
bytes_push (q ∷ parts) p = ap (λ (l : List ℕ). q.bytes ++ l) (bytes_push parts p) ∙ sym (append_assoc q.bytes (bytes_of parts) p.bytes)

parts_push : (parts : List Part) (p : Part) (rest : List ℕ) → AreParts parts (p.bytes ++ rest) → IsPart p.kind p.bytes rest → AreParts (parts ++ p ∷ []) rest
parts_push [] p rest are is = (is, tt)
parts_push (q ∷ parts) p rest are is =
    let behind : bytes_of parts ++ (p.bytes ++ rest) ≡ bytes_of (parts ++ p ∷ []) ++ rest = sym (append_assoc (bytes_of parts) p.bytes rest) ∙ ap (λ (l : List ℕ). l ++ rest) (sym (bytes_push parts p)) in
    (subst (IsPart q.kind q.bytes) behind are.0, parts_push parts p rest are.1 is)

tokens_push : (at : ℕ) (parts : List Part) (p : Part) → tokens_of at (parts ++ p ∷ []) ≡ tokens_of at parts ++ token_of (at + length (bytes_of parts)) p.bytes p.kind
tokens_push at [] p = append-nil (token_of at p.bytes p.kind) ∙ (let here : at ≡ at + 0 = omega arith in ap (λ n. token_of n p.bytes p.kind) here)
tokens_push at (q ∷ parts) p =
    let there : at + length q.bytes + length (bytes_of parts) ≡ at + length (q.bytes ++ bytes_of parts) = omega (arith, length-append q.bytes (bytes_of parts)) in
    ap (λ (l : List Token). token_of at q.bytes q.kind ++ l) (tokens_push (at + length q.bytes) parts p ∙ ap (λ n. tokens_of (at + length q.bytes) parts ++ token_of n p.bytes p.kind) there)
    ∙ sym (append_assoc (token_of at q.bytes q.kind) (tokens_of (at + length q.bytes) parts) (token_of (at + length (q.bytes ++ bytes_of parts)) p.bytes p.kind))

pub reads_none : (text : List ℕ) → ReadsTo text [] 0 text
reads_none text = record { parts = []; are_parts = tt; whole = refl; tokens_are = refl; offset_is = refl }

-- a part more
pub reads_more : (text : List ℕ) (tokens : List Token) (at n : ℕ) (kind : Option TokenKind) → ReadsTo text tokens at (drop at text) → n ≤ length (drop at text) → IsPart kind (take n (drop at text)) (drop n (drop at text)) → ReadsTo text (tokens ++ token_of at (take n (drop at text)) kind) (at + n) (drop (at + n) text)
reads_more text tokens at n kind reads fits is =
    let rest = drop at text in
    let p : Part = record { bytes = take n rest; kind = kind } in
    let cut : rest ≡ take n rest ++ drop n rest = sym (take-append-drop n rest) in
    let behind : drop n rest ≡ drop (at + n) text = drop-drop n at text in
    let len : length (take n rest) ≡ n = length-take-le n rest fits in
    let joined : bytes_of (reads.parts ++ p ∷ []) ≡ bytes_of reads.parts ++ take n rest = bytes_push reads.parts p in
    subst (λ (l : List ℕ). ReadsTo text (tokens ++ token_of at (take n rest) kind) (at + n) l) behind (record {
      parts = reads.parts ++ p ∷ [];
      are_parts = parts_push reads.parts p (drop n rest) (subst (AreParts reads.parts) cut reads.are_parts) is;
      whole = reads.whole ∙ ap (λ (l : List ℕ). bytes_of reads.parts ++ l) cut ∙ sym (append_assoc (bytes_of reads.parts) (take n rest) (drop n rest)) ∙ ap (λ (l : List ℕ). l ++ drop n rest) (sym joined);
      tokens_are = (λ i. reads.tokens_are i ++ token_of (reads.offset_is i) (take n rest) kind) ∙ sym (tokens_push 0 reads.parts p ∙ (let here : 0 + length (bytes_of reads.parts) ≡ length (bytes_of reads.parts) = omega arith in ap (λ m. tokens_of 0 reads.parts ++ token_of m (take n rest) kind) here));
      offset_is = let all = ap (λ (l : List ℕ). length l) joined in let sum = length-append (bytes_of reads.parts) (take n rest) in let at_is = reads.offset_is in omega arith;
    })

pub reads_all : (text : List ℕ) (tokens : List Token) (at : ℕ) → ReadsTo text tokens at (drop at text) → at ≤ length text → length text ≤ at → HasTokens text tokens
reads_all text tokens at reads low high =
    let end : at ≡ length text = omega arith in
    subst (ReadsTo text tokens (length text)) (drop_all at text high) (subst (λ n. ReadsTo text tokens n (drop at text)) end reads)

-- what is found at the front of a slice that goes on to the end of the text
found_behind : (text : List ℕ) (at : ℕ) (f : Found) → IsFound at (take (length text - at) (drop at text)) (Ok f) → IsFound at (drop at text) (Ok f)
found_behind text at f is = subst (λ (l : List ℕ). IsFound at l (Ok f)) (take_rest text at) is

module _ (text : List ℕ) (tokens : List Token) (at : ℕ) (f : Found) (reads : ReadsTo text tokens at (drop at text)) (is : IsFound at (take (length text - at) (drop at text)) (Ok f)) where
  pub found_len : at ≤ length text → at + f.len ≤ length text
  found_len fits = let found = found_behind text at f is in let behind = length-drop at text in let len : f.len ≤ length (drop at text) = found.0 in omega arith

  next : (kind : Option TokenKind) → f.kind ≡ kind → ReadsTo text (tokens ++ token_of at (take f.len (drop at text)) kind) (at + f.len) (drop (at + f.len) text)
  next kind e =
      let found = found_behind text at f is in
      reads_more text tokens at f.len kind reads found.0 (subst (λ k. IsPart k (take f.len (drop at text)) (drop f.len (drop at text))) e found.1)

  pub read_token : (kind : TokenKind) → f.kind ≡ Some kind → ReadsTo text (tokens ++ record { kind = kind; start = at; end = at + f.len } ∷ []) (at + f.len) (drop (at + f.len) text)
  read_token kind e =
      let found = found_behind text at f is in
      let len : length (take f.len (drop at text)) ≡ f.len = length-take-le f.len (drop at text) found.0 in
      subst (λ n. ReadsTo text (tokens ++ record { kind = kind; start = at; end = at + n } ∷ []) (at + f.len) (drop (at + f.len) text)) len (next (Some kind) e)

  pub read_gap : f.kind ≡ None → ReadsTo text tokens (at + f.len) (drop (at + f.len) text)
  read_gap e = subst (λ (l : List Token). ReadsTo text l (at + f.len) (drop (at + f.len) text)) (append-nil tokens) (next None e)

  pub found_some : 0 < f.len
  found_some =
      let found = found_behind text at f is in
      let len : length (take f.len (drop at text)) ≡ f.len = length-take-le f.len (drop at text) found.0 in
      let some = part_some f.kind (take f.len (drop at text)) (drop f.len (drop at text)) found.1 in
      omega arith
