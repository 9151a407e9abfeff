-- Sections that are told together.
use Rattle.std.proofs.Common.{ap}
use Rattle.cpc_store.specs.Store.{Value}
use Rattle.cpc_meaning.specs.Copies as C
use Rattle.cpc_sections.specs.Backs.{CollectsAs}

-- behind the same value
pub and_told : (v : Value) (c d : C.Collected) → CollectsAs c d → CollectsAs (C.and_value v c) (C.and_value v d)
and_told v c (C.AllGave vs s) h = ap (C.and_value v) h
and_told v c (C.OneFailed fault f) h = ap (C.and_value v) h
and_told v c C.NotClear h = tt
