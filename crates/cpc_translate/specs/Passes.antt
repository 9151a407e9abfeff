-- What the passes are given of a program, and whose functions theirs are.
use Rattle.std.specs.Prelude.{◌≡◌, All}
use Rattle.cpc_tree.specs.Erase.{program_of}
use Rattle.cpc_tree.specs.declared.program.Program.{Program}
use Rattle.cpc_lifted_laws.specs.Accepted.Names.{HasNames}
use Rattle.cpc_convert_names.specs.Tables.{AreWithin}
use Rattle.cpc_forms_code.specs.Programs.{IsSpeakable}
use Rattle.cpc_forms_code.specs.declared.boxed.Boxed.{Boxed}
use Rattle.cpc_forms_code.specs.declared.boxed.BoxedFunction.{BoxedFunction}
use Rattle.cpc_forms_code.specs.declared.graph.Graph.{Graph}
use Rattle.cpc_forms_code.specs.declared.graph.GraphFunction.{GraphFunction}
use Rattle.cpc_forms_code.specs.declared.split.SplitProgram.{SplitProgram}
use Rattle.cpc_forms_code.specs.declared.split.SplitFunction.{SplitFunction}

-- there are texts that tell its names, all of which are in its table, and they are as in accepted programs
pub record IsGiven (source : Program) : Type 0 where
  pub speakable : IsSpeakable source
  pub within : AreWithin source
  pub names : HasNames (program_of source)

-- each function is one of the program
abbrev pub AreOfBoxed : Boxed → Type 0
AreOfBoxed b = All (λ (f : BoxedFunction). f.source.now ≡ b.source.now) b.functions.items

abbrev pub AreOfGraph : Graph → Type 0
AreOfGraph g = All (λ (f : GraphFunction). f.boxed.now.source.now ≡ g.source.now) g.functions.items

abbrev pub AreOfSplit : SplitProgram → Type 0
AreOfSplit s = All (λ (f : SplitFunction). f.graph.now.boxed.now.source.now ≡ s.source.now) s.functions.items
