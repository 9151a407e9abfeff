use Rattle.std.proofs.Common.{◌≡◌, ◌≤◌, ◌∙◌, ◌+◌, ℕ, List, length, take, map, ap, sym, subst, arith}
use Rattle.std.specs.List.{sum_by}
use Rattle.std.proofs.lemmas.List.{length-take-le}
use Rattle.cpc_shapes.specs.Counted.{tag_of}
use Rattle.cpc_shapes.specs.Indexed.{last_below}
use Rattle.cpc_shapes.proofs.Indexes.{next_item}
use Rattle.cpc_tree.specs.declared.program.Item.{Item}
use Rattle.cpc_eval_index.specs.declared.tables.Tables.{Tables}
use Rattle.cpc_eval_index.specs.Placed.{last_place, globals_in}
use Rattle.cpc_eval_index.specs.Ends.{only_struct, inner_place, end_by}
use Rattle.cpc_eval_index.specs.Tabled.{AreTables}
use Rattle.cpc_eval_index.proofs.Standing.{place_same, last_before}
use Rattle.cpc_eval_index.proofs.Tabled.{appended, globals_few}
use Rattle.cpc_eval_index.proofs.tables.Tables.append.Goals as goal

pub overflow_add-self : goal.overflow_add-self
overflow_add-self c =
    let xs = take c.args.place c.args.list.now in
    let e : length xs ≡ c.args.place = length-take-le c.args.place c.args.list.now (omega arith) in
    let h : sum_by globals_in xs ≤ length xs = globals_few xs in
    let d : c.args.self.now.count ≡ sum_by globals_in xs = c.requires.tables.counted in
    omega arith

pub returns : goal.returns
returns c =
    let old = c.args.self.now in
    let new : Tables = record { globals = c.push.new.self; ends = c.push-2.new.self; count = old.count + c.globals_in.result } in
    let xs = take c.args.place c.args.list.now in
    let y = c.index-list-place.result in
    let d = c.requires.tables in
    let s = c.args.structs.now in
    let e : c.args.place ≡ length xs = sym (length-take-le c.args.place c.args.list.now (omega arith)) in
    let tagged : (x : ℕ) → last_below s.tags.count s.tags.names.items x ≡ last_place x (map tag_of xs) = λ x.
    ap (λ n. last_below n s.tags.names.items x) c.requires.before
    ∙ ap (λ ks. last_below c.args.place ks x) c.requires.structs.tags
    ∙ sym (last_before c.args.list.now c.args.place x) in
    let P : List Item → Type 0 = λ l. AreTables l new in
    subst P (sym (next_item c.args.list.now c.args.place _ c.requires.within c.index-list-place.is))
    (appended xs y old new c.end_of-end.result d record {
      globals = c.in_ok-push.ensures.items;
      ends = c.in_ok-push-2.ensures.items;
      count = ap (λ n. old.count + n) c.globals_in.ensures.count;
      end = c.end_of-end.ensures
          ∙ ap (end_by old.ends.items c.args.place) (place_same (last_below s.tags.count s.tags.names.items) (λ x. last_place x (map tag_of xs)) tagged (only_struct y))
          ∙ ap (λ k. end_by old.ends.items k (inner_place xs y)) e;
    })
