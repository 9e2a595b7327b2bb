-- What is read is spelled by the tokens, and low, and no other tree that is low is; and where nothing is read, nothing is.
use Rattle.std.proofs.Common.{◌≡◌, ℕ, ◌≤◌, List, [], Result, Ok, sym, ◌∙◌}
use Rattle.std.specs.List.{AllByRecursion}
use Rattle.c_syntax.specs.declared.token.Token.{Token}
use Rattle.c_syntax.specs.Trees.{DeclarationTree, UnitTree}
use Rattle.c_syntax.specs.Heights.{highest, IsLow}
use Rattle.c_syntax.specs.Declarations.{AreDeclarations, IsUnit, end_of}
use Rattle.c_reader_tokens.specs.declared.fault.Fault.{Fault}
use Rattle.c_reader_tokens.specs.declared.fault.Fault.TheVariants as F
use Rattle.c_reader_statement_laws.specs.Reading.{block_in, statement_at}
use Rattle.c_reader_statement_laws.proofs.Body.{block_takes, block_again, block_stays}
use Rattle.c_reader_declaration_laws.specs.Reading.{declarations}
use Rattle.c_reader_productions.proofs.Combining.{IsReader}
use Rattle.c_reader_productions.proofs.Laws.{Any, Keeps}
use Rattle.c_reader_declaration_laws.proofs.Declaring.{IsBody, FitsBlock}
use Rattle.c_reader_declaration_laws.proofs.Laws.{declarations_takes, declarations_again, declarations_low, low_declarations}
use Rattle.c_reader_declaration_laws.proofs.Refusing.{low_refused, all_refused}
use Rattle.c_reader.specs.declared.errors.ReadError.{ReadError}
use Rattle.c_reader.specs.declared.errors.ReadError.TheVariants as E
use Rattle.c_reader.specs.Telling.{Tells}
use Rattle.c_reader.specs.Refusing.{Refuses}

block_law : (fuel : ℕ) → IsReader (block_in (statement_at fuel)) (FitsBlock fuel) IsBody Any Any
block_law fuel = record {
  takes = λ ts s rest e.
      let t = block_takes fuel ts s rest e in
      record { fits = t.fits; leaves = tt; front = t.front; spelled = t.spelled; parts = t.parts };
  again = λ s xs rest fits p end. block_again fuel s xs rest fits p;
}

block_keeps : (fuel more : ℕ) → fuel ≤ more → Keeps (block_in (statement_at fuel)) (block_in (statement_at more))
block_keeps fuel more le ts = block_stays fuel more ts le

pub spelled_read : (ts : List Token) (ds : List DeclarationTree) (rest : List Token) → declarations highest ts ≡ Ok (ds, rest) → AreDeclarations ds ts
spelled_read ts ds rest e = (declarations_takes block_law highest ts ds rest e).0

pub low_read : (ts : List Token) (ds : List DeclarationTree) (rest : List Token) → declarations highest ts ≡ Ok (ds, rest) → AllByRecursion IsLow ds
low_read ts ds rest e = declarations_low ds (declarations_takes block_law highest ts ds rest e).1

-- the first part of what was read
same_read : (x y : List DeclarationTree × List Token) (r : Result (List DeclarationTree × List Token) Fault) → r ≡ Ok x → r ≡ Ok y → x.0 ≡ y.0
same_read x y r e f = cc

pub one_tree : (ts : List Token) (ds : List DeclarationTree) (rest : List Token) (end : ℕ) → declarations highest ts ≡ Ok (ds, rest) → end ≡ end_of ts →
    (u : UnitTree) → IsUnit u ts → AllByRecursion IsLow u.declarations → record { declarations = ds; end = end } ≡ u
one_tree ts ds rest end e at u s low =
    let again = declarations_again block_law highest ts u.declarations s.0 (low_declarations u.declarations low) in
    λ k. record { declarations = same_read (ds, rest) (u.declarations, []) (declarations highest ts) e again k; end = (at ∙ sym s.1) k }

pub refused : (e : ReadError) (end : ℕ) (ts : List Token) → Tells e end (declarations highest ts) → Refuses e ts
refused E.NoMemory end ts t = tt
refused (E.Syntax at) end ts t = λ u s. all_refused block_law block_keeps ts t.0 t.1 u.declarations s.0
refused (E.TooDeep at) end ts t = λ u s low. low_refused block_law ts F.TooDeep t u.declarations s.0 low
