use Rattle.std.proofs.Common.{◌≡◌, ◌∙◌, List, sym, subst}
use Rattle.cpc_tree.specs.declared.program.Item.{Item}
use Rattle.cpc_types_structs.specs.Declares.{Declares, AreAllDeclared}
use Rattle.cpc_types_structs.specs.Structs.{AreAllStructs}
use Rattle.cpc_eval_index.specs.Bodies.{AreFunctionTables}
use Rattle.cpc_eval_index.specs.Offsets.{AreOffsets}
use Rattle.cpc_eval_index.specs.Tabled.{AreTables}
use Rattle.cpc_eval_index.proofs.index.ProgramTable.of.Goals as goal

pub of-requires : goal.of-requires
of-requires c = let P : List Item → Type 0 = λ xs. Declares xs c.args.declared in subst P (sym c.deref.ensures.value) c.requires

pub of-requires-2 : goal.of-requires-2
of-requires-2 c =
    let same : c.deref.result.now ≡ c.deref-2.result.now = c.deref.ensures.value ∙ sym c.deref-2.ensures.value in
    let d = c.in_ok-items.ensures.declared in
    let P : List Item → Type 0 = λ xs. AreAllStructs xs c.of.new.declared.structs in
    subst P same record { structs = d.declares.structs; all = d.all }

pub returns : goal.returns
returns c = record {
  items = (let P : List Item → Type 0 = λ xs. AreTables xs c.in_ok-items.items in subst P c.deref.ensures.value c.in_ok-items.ensures.tables);
  declared = (let P : List Item → Type 0 = λ xs. AreAllDeclared xs c.of.new.declared in subst P c.deref.ensures.value c.in_ok-items.ensures.declared);
  offsets = (let P : List Item → Type 0 = λ xs. AreOffsets xs c.in_ok-offsets.offsets in subst P c.deref-2.ensures.value c.in_ok-offsets.ensures);
  functions = (let P : List Item → Type 0 = λ xs. AreFunctionTables xs c.in_ok-functions.functions.items in subst P c.deref-3.ensures.value c.in_ok-functions.ensures);
}
