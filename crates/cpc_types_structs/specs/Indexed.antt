-- What an index holds.
use Rattle.cpc_shapes.specs.Indexed.{AreLinked}
use Rattle.cpc_types_structs.specs.declared.index.Index.{Index}

abbrev pub IsIndex : Index → Type 0
IsIndex i = AreLinked i.names.items i.before.items i.last.items i.count
