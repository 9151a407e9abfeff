-- Single tokens: what a test says of one, and a token of each test.
use Rattle.std.proofs.Common.{◌≡◌, true, Some, refl, sym, ap, subst}
use Rattle.cpc_base.specs.declared.stop.Place.{Place}
use Rattle.cpc_tree.specs.declared.token.Keyword.{Keyword}
use Rattle.cpc_tree.specs.declared.token.Punctuator.{Punctuator}
use Rattle.cpc_tree.specs.Tokens.{Lexeme, Word, Mark, Named, Placed}
use Rattle.cpc_tree.specs.Located.{Ident}
use Rattle.cpc_tree.specs.TypeGrammar.{word, mark, named}
use Rattle.cpc_parser_reading.specs.Exact.{Sample}
use Rattle.cpc_parser_types.specs.Views.{lexeme}
use Rattle.cpc_parser_types.specs.Begins.{is_mark, is_word}
use Rattle.cpc_parser_types.proofs.SameMarks.{mark_self, word_self, mark_equal, word_equal}
use Rattle.cpc_parser_types.specs.TypeReaders.{ident_in, ident_of, is_name}
use Rattle.cpc_parser_types.proofs.Params.{text_is}

-- a place of any token
abbrev pub here : Place
here = record { line = 0; column = 0 }

-- a token is its place and what it is
pub as_lexeme : (t : Placed) (l : Lexeme) → t.lexeme ≡ l → t ≡ record { place = t.place; lexeme = l }
as_lexeme t l e = subst (λ k. t ≡ record { place = t.place; lexeme = k }) e refl

pub as_mark : (t : Placed) (p : Punctuator) → t.lexeme ≡ Mark p → t ≡ mark t.place p
as_mark t p e = as_lexeme t (Mark p) e

pub as_word : (t : Placed) (k : Keyword) → t.lexeme ≡ Word k → t ≡ word t.place k
as_word t k e = as_lexeme t (Word k) e

named_in : (q : Place) (l : Lexeme) (x : Ident) → ident_in q l ≡ Some x → record { place = q; lexeme = l } ≡ named x
named_in q (Named y) x e = let i : record { place = q; text = y } ≡ x = cc in ap named i
named_in q l x e = absurd cc

pub is_named : (t : Placed) (x : Ident) → ident_of t ≡ Some x → is_name t.lexeme ≡ true
is_named t x e = text_is t.place t.lexeme x e

-- what the tests say
pub mark_is : (p : Punctuator) (k : Lexeme) → is_mark p k ≡ true → k ≡ Mark p
mark_is p (Mark q) e = ap Mark (sym (mark_equal p q e))
mark_is p k e = absurd cc

pub word_is : (w : Keyword) (k : Lexeme) → is_word w k ≡ true → k ≡ Word w
word_is w (Word v) e = ap Word (sym (word_equal w v e))
word_is w k e = absurd cc

-- a token of each
pub marks : (p : Punctuator) → Sample lexeme (is_mark p)
marks p = record { token = mark here p; holds = mark_self p }

pub words : (w : Keyword) → Sample lexeme (is_word w)
words w = record { token = word here w; holds = word_self w }
