-- The tables of a program are of its items, and those of its functions are where its names lead.
use Rattle.std.proofs.Common.{◌≡◌, ℕ, ◌+◌, ◌<◌, ◌≤◌, inl, inr, List, [], ◌∷◌, ◌++◌, length, take, get_or, Option, Some, None, ap, sym, subst, ◌∙◌, arith, length-append}
use Rattle.std.specs.Prelude.{slice_get}
use Rattle.std.proofs.Math.Logic.{∥∥₁_elim, ∥∥₁_map}
use Rattle.std.proofs.Props.{props}
use Rattle.std.proofs.lemmas.List.{take_more, take_all, get_or_push, get_or_append_left}
use Rattle.std.proofs.lemmas.Option.{slice_get_within}
use Rattle.cpc_tree.specs.declared.program.Item.{Item}
use Rattle.cpc_shapes.proofs.Indexes.{pushed_at}
use Rattle.cpc_eval_locals.specs.declared.locals.FunctionTable.{FunctionTable}
use Rattle.cpc_eval_index.specs.Bodies.{IsItemTable, AreFunctionTables}
use Rattle.cpc_eval_index.specs.Indexed.{program_items}
use Rattle.cpc_eval_index.specs.Offsets.{AreOffsets}
use Rattle.cpc_eval_index.specs.Tabled.{AreTables, IsProgramTable}
use Rattle.cpc_types_structs.specs.Declares.{AreAllDeclared}
use Rattle.cpc_types_structs.specs.Structs.{AreAllStructs}
use Rattle.cpc_eval_index.specs.declared.index.Index.{Index}

-- ---- what an index knows of its table

-- of the places of the items a table says one thing at most, so all of it is known
pub known : (i : Index) → AreTables (program_items i) i.table.now.items
known i = ∥∥₁_elim i.tabled (hlevel props) (λ (d : IsProgramTable (program_items i) i.table.now). d.items)

-- of what they declare likewise
pub declared_known : (i : Index) → AreAllDeclared (program_items i) i.table.now.declared
declared_known i = ∥∥₁_elim i.tabled (hlevel props) (λ (d : IsProgramTable (program_items i) i.table.now). d.declared)

pub structs_known : (i : Index) → AreAllStructs (program_items i) i.table.now.declared.structs
structs_known i = let d = declared_known i in record { structs = d.declares.structs; all = d.all }

-- of the offsets of fields too
pub offsets_known : (i : Index) → AreOffsets (program_items i) i.table.now.offsets
offsets_known i = ∥∥₁_elim i.tabled (hlevel props) (λ (d : IsProgramTable (program_items i) i.table.now). d.offsets)

-- the table of the function that an item defines
pub one_known : (i : Index) (k : ℕ) (x : Item) (o : Option FunctionTable) → Some x ≡ slice_get (program_items i) k → o ≡ get_or i.table.now.functions.items k None → ∥ IsItemTable x o ∥₁
one_known i k x o at is = ∥∥₁_map i.tabled (λ (d : IsProgramTable (program_items i) i.table.now). subst (IsItemTable x) (sym is) (d.functions.each k x (sym at)))

-- ---- the rows of a list of items

rows_pushed : (xs : List Item) (y : Item) (rows : List (Option FunctionTable)) (row : Option FunctionTable) → AreFunctionTables xs rows → IsItemTable y row → AreFunctionTables (xs ++ y ∷ []) (rows ++ row ∷ [])
rows_pushed xs y rows row d one = record {
  even = length-append rows (row ∷ []) ∙ ap (λ n. n + 1) d.even ∙ sym (length-append xs (y ∷ []));
  each = λ k x h. elim (pushed_at xs y k x h) [
    | inl e ↦
        let g : k < length xs = slice_get_within xs k x e in
        let f : length rows ≡ length xs = d.even in
        subst (IsItemTable x) (sym (get_or_append_left rows (row ∷ []) None k (omega arith))) (d.each k x e)
    | inr e ↦
        let f : length rows ≡ k = d.even ∙ sym e.0 in
        subst (λ z. IsItemTable z (get_or (rows ++ row ∷ []) k None)) e.1 (subst (IsItemTable y) (sym (get_or_push rows row None k f)) one)
  ];
}

pub rows_more : (rows more : List (Option FunctionTable)) (row : Option FunctionTable) (xs : List Item) (i : ℕ) (x : Item) → i < length xs → x ≡ get_or xs i x → more ≡ rows ++ row ∷ [] → IsItemTable x row
    → AreFunctionTables (take i xs) rows → AreFunctionTables (take (i + 1) xs) more
rows_more rows more row xs i x h is push one known =
    let next : take (i + 1) xs ≡ take i xs ++ x ∷ [] = take_more xs i x h ∙ ap (λ y. take i xs ++ y ∷ []) (sym is) in
    subst (AreFunctionTables (take (i + 1) xs)) (sym push) (subst (λ ys. AreFunctionTables ys (rows ++ row ∷ [])) (sym next) (rows_pushed (take i xs) x rows row known one))

pub rows_all : (rows : List (Option FunctionTable)) (xs : List Item) (i : ℕ) → length xs ≤ i → AreFunctionTables (take i xs) rows → AreFunctionTables xs rows
rows_all rows xs i h known = subst (λ ys. AreFunctionTables ys rows) (take_all i xs h) known
