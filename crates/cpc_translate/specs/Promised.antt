-- What is promised of an event program, in words of the crates that prove it: which program it is, its shape, that it gathers no frames, and
-- how it is printed.
pub use Rattle.cpc_chains_event.specs.Converted.{converted}
pub use Rattle.cpc_chains_laws.specs.Shape.Shape.{Shape}
pub use Rattle.cpc_chains_laws.specs.Leak.Laws.{NoLeak}
pub use Rattle.cpc_printer.specs.Style.{IsPrint}
