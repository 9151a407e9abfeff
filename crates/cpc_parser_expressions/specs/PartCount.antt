-- How much a part behind a postfix expression counts itself.
use Rattle.std.specs.Prelude.{ℕ}
use Rattle.cpc_parser_expressions.specs.Shapes.{Apart}
use Rattle.cpc_parser_expressions.specs.ExprReaders.{Behind, Args, call_count}

-- a call counts as its kind does, any other part one
abbrev pub part_count : Apart → Behind → ℕ
part_count a Args = call_count a
part_count a c = 1
