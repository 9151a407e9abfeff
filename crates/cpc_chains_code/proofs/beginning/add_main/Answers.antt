use Rattle.std.proofs.Common.{◌≡◌, ◌∙◌, ◌++◌, List, Some, None, sym, ap}
use Rattle.std.proofs.lemmas.List.{append-nil}
use Rattle.cpc_tree.specs.Erase.{in_table}
use Rattle.cpc_meaning.specs.Start.{main_name}
use Rattle.cpc_convert_names.specs.Called.{name_in}
use Rattle.cpc_convert_names.specs.Book.{find}
use Rattle.cpc_convert_names.specs.declared.called.Called.{Called}
use Rattle.cpc_chains_items.specs.Listed.{listed}
use Rattle.cpc_chains_code.specs.Given.{routine_by}
use Rattle.cpc_chains_code.proofs.Standing.{stands}
use Rattle.cpc_chains_code.proofs.Firsts.{found_is, main_told, main_called}
use Rattle.cpc_chains_code.proofs.beginning.add_main.Goals as goal

pub returns-in_ok-main-in-Some : goal.returns-in_ok-main-in-Some
returns-in_ok-main-in-Some c = λ from to p g.
    let cs = c.args.book.now.functions.items in
    let it = c.in-Some.called.now in
    let found : find (in_table c.args.texts.now) cs main_name ≡ Some it = ap (λ (l : List Called). find (in_table c.args.texts.now) l main_name) (sym c.deref.ensures.value) ∙ sym c.in-Some.ensures in
    let k = found_is (in_table c.args.texts.now) main_name cs it found in
    let named = main_called c.args.texts.now from to p c.args.book.now g k.0 it k.1 k.2 k.3 in
    c.in_ok-main-in-Some.ensures c.args.texts.now from to p (routine_by from p it) (stands c.args.texts.now from to p c.args.book.now g c.around.result k.0 it c.around.ensures.texts c.around.ensures.book c.around.ensures.called k.1 k.2) (ap (λ (x : Called). name_in to x.lifted.now) c.around.ensures.called ∙ named)
    ∙ ap (λ u. listed to c.args.items.now ++ u) (sym (main_told c.args.texts.now from to p c.args.book.now g (Some it) found))

pub returns-in-None : goal.returns-in-None
returns-in-None c = λ from to p g.
    let cs = c.args.book.now.functions.items in
    let found : find (in_table c.args.texts.now) cs main_name ≡ None = ap (λ (l : List Called). find (in_table c.args.texts.now) l main_name) (sym c.deref.ensures.value) ∙ sym c.in-None.ensures in
    sym (append-nil (listed to c.args.items.now)) ∙ ap (λ u. listed to c.args.items.now ++ u) (sym (main_told c.args.texts.now from to p c.args.book.now g None found))
