-- The body whose labels these are, as the code has it, and what a table says of one.
use Rattle.cpc_tree.specs.declared.program.Statement.{Statement}
use Rattle.cpc_native_points.specs.declared.labels.Labels.{Labels}
pub use Rattle.cpc_native_points.specs.Tabled.{IsBodyTable}

abbrev pub body_of : Labels → Statement
body_of l = l.body.now
