-- The names that one traversal gathers, of each kind.
use Rattle.std.specs.Prelude.{List}
use Rattle.cpc_tree.specs.Located.{Ident, LStmt, LStmts}
use Rattle.cpc_check_rules.specs.FunctionRules.{labels, labels_in, gotos, gotos_in, locals, locals_in}
use Rattle.cpc_check_names.specs.declared.words.Wanted.{Wanted}
use Rattle.cpc_check_names.specs.declared.words.Wanted.TheVariants.{Labels, Jumps, Locals}

abbrev pub words_of : Wanted → LStmt → List Ident
words_of Labels s = labels s
words_of Jumps s = gotos s
words_of Locals s = locals s

abbrev pub words_in : Wanted → LStmts → List Ident
words_in Labels ss = labels_in ss
words_in Jumps ss = gotos_in ss
words_in Locals ss = locals_in ss
