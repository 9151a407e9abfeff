use Rattle.std.proofs.Common.{◌≡◌, ◌∙◌, ◌+◌, ◌++◌, ◌∷◌, [], ap, sym, subst, length, map, take, List, arith}
use Rattle.std.proofs.lemmas.List.{length-take-le}
use Rattle.std.proofs.Math.Seq.{take-length}
use Rattle.cpc_tree.specs.Erase.{item_of}
use Rattle.cpc_tree.specs.declared.program.Item.{Item}
use Rattle.cpc_types.specs.Declaring.{AreDeclared}
use Rattle.cpc_types_structs.specs.Sized.{AreSizes}
use Rattle.cpc_types_structs.proofs.Entering.{tags_even}
use Rattle.cpc_types.specs.declared.items.Items.{Items}
use Rattle.cpc_types.proofs.Declares.{sizes_known}
use Rattle.cpc_types.proofs.Declared.{appended, within_all}
use Rattle.cpc_shapes.proofs.Indexes.{next_item}
use Rattle.cpc_types.specs.Integral.{AreTold, AreIntegral}
use Rattle.cpc_types.proofs.Integrals.{told_more, flags_known}
use Rattle.cpc_types.proofs.items.Items.append.Goals as goal

pub returns-clause-declared : goal.returns-clause-declared
returns-clause-declared c =
    let old = c.args.self.now in
    let new : Items = record { names = c.push.new.self; declared = c.append.new.self; integral = c.push-2.new.self } in
    let xs = take c.args.place c.args.list.now in
    let d = c.requires.declared in
    let P : List Item → Type 0 = λ l. AreDeclared l new in
    subst P (sym (next_item c.args.list.now c.args.place _ c.requires.within c.index-list-place.is))
    (appended xs _ old new d c.in_ok-push.ensures.index
    (c.in_ok-append.ensures.count ∙ ap (λ n. n + 1) d.together ∙ sym c.in_ok-push.ensures.count)
    (c.in_ok-push.ensures.names ∙ ap (λ k. old.names.names.items ++ k ∷ []) c.name_of.ensures)
    (c.in_ok-append.ensures.declares xs (sym (length-take-le c.args.place c.args.list.now (omega arith))) d.declares))

pub append-requires-clause-all : goal.append-requires-clause-all
append-requires-clause-all c =
    let d = c.requires.declared in
    let e : length (take c.args.place c.args.list.now) ≡ c.args.place = length-take-le c.args.place c.args.list.now (omega arith) in
    d.together ∙ c.requires.all ∙ sym (tags_even (take c.args.place c.args.list.now) c.args.self.now.declared.structs d.declares.structs ∙ e)

pub returns-clause-told : goal.returns-clause-told
returns-clause-told c =
    let old = c.args.self.now in
    let new : Items = record { names = c.push.new.self; declared = c.append.new.self; integral = c.push-2.new.self } in
    let xs = take c.args.place c.args.list.now in
    let d = c.requires.declared in
    let e : old.names.count ≡ length xs = c.requires.all ∙ sym (length-take-le c.args.place c.args.list.now (omega arith)) in
    let all : take old.names.count xs ≡ xs = ap (λ n. take n xs) e ∙ take-length xs in
    let P : List Item → Type 0 = λ l. AreTold l new in
    subst P (sym (next_item c.args.list.now c.args.place _ c.requires.within c.index-list-place.is))
    (told_more xs _ old new _ c.requires.told c.in_ok-push-2.ensures.items
    (λ names apart.
    let Q : List Item → Type 0 = λ l. AreSizes old.declared.structs names (map (item_of names) l) in
    let R : List Item → Type 0 = λ l. AreIntegral old names (map (item_of names) l) in
    c.declared_integral-integral.ensures names (map (item_of names) xs) (subst Q all (sizes_known names apart xs old d))
    (subst R all (flags_known names apart xs old d c.requires.told (within_all xs old d)))))
