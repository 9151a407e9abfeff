-- Kinds are a set.
use Rattle.std.proofs.Props.{props}
use Rattle.cpc_num.specs.declared.kinds.Kind.{Kind}

pub kind_set : IsSet Kind
kind_set = hlevel props
