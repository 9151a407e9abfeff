-- The first part of a `for` and its test, as code goes through them.
use Rattle.std.specs.Prelude.{◌≡◌, ℕ, List}
use Rattle.cpc_tree.specs.Syntax.{Stmts}
use Rattle.cpc_forms.specs.Table.{test_of}
use Rattle.cpc_graph.specs.declared.linking.Header.{Header}

-- the number of the test, that at which the body begins, and what is left of the numbers that were noted
pub record IsHeader (h : Header) (first : Stmts) (n at : ℕ) (more : List ℕ) : Type 0 where
  pub test : h.test ≡ test_of first n
  pub start : h.start ≡ at
  pub left : h.left.now ≡ more
