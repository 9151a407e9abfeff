use Rattle.std.proofs.Common.{◌≡◌, ◌++◌}
use Rattle.cpc_tree.specs.Locate.{located_stmt, located_list}
use Rattle.cpc_check_names.specs.Words.{words_of, words_in}
use Rattle.std.proofs.lemmas.Result.{on_ok_weaker}
use Rattle.cpc_check_names.proofs.Gathered.{gathered_block, gathered_for, both_added}
use Rattle.cpc_check_names.proofs.words.+gathered.Goals as goal

pub add_words-returns-in-Block : goal.add_words-returns-in-Block
add_words-returns-in-Block t c = on_ok_weaker c.add_row.result (λ h names.
    let k = h names in
    let e = gathered_block names c.args.wanted c.args.s.now _ _ c.in-Block.is in
    let v = c.deref.ensures.value in
    cc) c.add_row.ensures

pub add_words-returns-in_ok-add_row-in-Locals : goal.add_words-returns-in_ok-add_row-in-Locals
add_words-returns-in_ok-add_row-in-Locals t c = on_ok_weaker c.add_words-in-Locals.result (λ h names.
    let k = c.in_ok-add_row-in-Locals.ensures names in
    let m = h names in
    let e = gathered_for names c.args.wanted c.args.s.now _ _ _ _ _ c.in-Locals.is c.in-For.is in
    let v = c.deref-in-Locals.ensures.value in
    let u = c.deref-in-Locals-2.ensures in
    let all : words_of c.args.wanted (located_stmt names c.args.s.now) ≡ words_in c.args.wanted (located_list names c.deref-in-Locals.result.now) ++ words_of c.args.wanted (located_stmt names c.deref-in-Locals-2.result.now) = cc in
    both_added _ _ _ _ _ _ k m all) c.add_words-in-Locals.ensures
