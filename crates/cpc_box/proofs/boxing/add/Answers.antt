use Rattle.std.proofs.Common.{◌≡◌, ℕ, List, ap, ◌∙◌, Option, Some, None}
use Rattle.std.specs.Prelude.{slice_get}
use Rattle.std.proofs.Math.Logic.{∥∥₁_map}
use Rattle.cpc_eval_locals.specs.Owners.{owner_of}
use Rattle.cpc_eval_index.specs.Bodies.{function_defined}
use Rattle.cpc_eval_index.specs.Indexed.{program_items}
use Rattle.cpc_eval_index.specs.declared.index.Index.{Index}
use Rattle.cpc_tree.specs.declared.program.Function.{Function}
use Rattle.cpc_tree.specs.declared.program.Item.{Item}
use Rattle.cpc_tree.specs.declared.program.Item.TheVariants as I
use Rattle.cpc_box.proofs.boxing.add.Goals as goal

pub boxed_function-requires-clause-told : goal.boxed_function-requires-clause-told
boxed_function-requires-clause-told c = ∥∥₁_map c.requires.told (λ it. (it.0, record { spells = it.1.spells; told = it.1.told c.args.place c.in-Function.function (c.requires.there ∙ ap Some c.in-Function.is) }))

-- the function that the item is
module _ (index : Index) (xs : List Item) (k : ℕ) (x : Item) (f : Function) (o : Option Function) where
  defines : program_items index ≡ xs → slice_get xs k ≡ Some x → x ≡ I.Function f → ((item : Item) → slice_get (program_items index) k ≡ Some item → o ≡ function_defined item) → o ≡ Some f
  defines items there is told = told x (ap (λ ys. slice_get ys k) items ∙ there) ∙ ap function_defined is

pub boxed_function-requires-clause-locals : goal.boxed_function-requires-clause-locals
boxed_function-requires-clause-locals c =
    let f = c.in-Function.function in
    let e : Some (owner_of c.in-Some.locals) ≡ Some f = defines c.args.index.now c.args.source.now.items.items c.args.place c.args.item.now f _ c.requires.index c.requires.there c.in-Function.is c.in-Some.ensures.some in
    cc

pub unreachable-requires : goal.unreachable-requires
unreachable-requires c =
    let f = c.in-Function.function in
    let e : None ≡ Some f = defines c.args.index.now c.args.source.now.items.items c.args.place c.args.item.now f _ c.requires.index c.requires.there c.in-Function.is c.in_default-locals_of.ensures.some in
    cc
