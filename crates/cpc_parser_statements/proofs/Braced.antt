-- A block whose brace stands there is read as what stands between its braces, with one room less.
use Rattle.std.proofs.Common.{◌≡◌, ℕ, true, List, ◌∷◌, refl}
use Rattle.cpc_tree.specs.declared.token.Punctuator.TheVariants as P
use Rattle.cpc_tree.specs.Tokens.{Placed}
use Rattle.cpc_parser_reading.specs.Reading.{below, made}
use Rattle.cpc_parser_types.specs.Begins.{is_mark}
use Rattle.cpc_parser_statements.specs.StmtReaders.{block_of, block_at}
use Rattle.cpc_parser_statements.specs.CodeViews.{braced_at}
use Rattle.cpc_parser_statements.proofs.Steps.{below_is}

pub braced_is : (d : ℕ) (t : Placed) (rest : List Placed) → is_mark P.LeftBrace t.lexeme ≡ true → braced_at d (t ∷ rest) ≡ made (block_of t.place) (block_at (below d)) rest
braced_is d t rest e = rw (e, below_is d) refl
