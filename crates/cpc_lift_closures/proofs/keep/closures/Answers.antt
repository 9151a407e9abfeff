use Rattle.std.proofs.Common.{◌≡◌, ◌∙◌, ◌<◌, ap, sym, subst, arith, length, get_or, map, All, [], false}
use Rattle.std.proofs.lemmas.List.{length-map}
use Rattle.cpc_tree.specs.Lists.{holds_number}
use Rattle.cpc_lift_laws.specs.Search as S
use Rattle.cpc_lift_closures.specs.Rows.{links_of, IsNumber}
use Rattle.cpc_lift_closures.specs.Turns.{AreNumbers}
use Rattle.cpc_lift_closures.specs.Added.{with_variable}
use Rattle.cpc_lift_closures.proofs.Keeping as K
use Rattle.cpc_lift_closures.proofs.keep.closures.Goals as goal

pub keepers-requires-clause-sources : goal.keepers-requires-clause-sources
keepers-requires-clause-sources c =
    let rows = map (λ row. row.items) c.in_ok-sources.sources.items in
    let numbers = K.rows_numbers c.args.owners c.args.ways.now rows c.in_ok-sources.ensures.rows c.requires.ways_from in
    subst (λ sources. AreNumbers (length sources) (map (λ row. row.items) sources)) (sym c.deref.ensures.value)
    (subst (λ n. AreNumbers n rows) (sym c.in_ok-sources.ensures.length) numbers)

pub keepers-requires-clause-users : goal.keepers-requires-clause-users
keepers-requires-clause-users c =
    let users = c.in_ok-users.users.items in
    let variable = c.loop-variable.variable in
    let lt : variable < length users = omega (arith, c.in_ok-users.ensures.length) in
    let row : c.deref-in-loop-variable.result.now ≡ S.before (links_of c.args.uses.now) variable =
    c.deref-in-loop-variable.ensures.value ∙ sym (K.row_read (λ row. row.items) users variable c.index.result.now lt c.index.ensures)
    ∙ c.in_ok-users.ensures.rows variable (omega (arith, lt, length-map users (λ row. row.items))) in
    let long : length c.deref.result.now ≡ c.args.owners = ap length c.deref.ensures.value ∙ c.in_ok-sources.ensures.length in
    subst (λ n. All (IsNumber n) c.deref-in-loop-variable.result.now) (sym long)
    (subst (All (IsNumber c.args.owners)) (sym row) (K.before_numbers c.args.owners c.args.uses.now variable c.requires.uses_from))

pub loop-variable-preserved : goal.loop-variable-preserved
loop-variable-preserved c =
    let users = c.in_ok-users.users.items in
    let variable = c.loop-variable.variable in
    let old = c.loop-variable.invariant in
    let ways = links_of c.args.ways.now in
    let uses = links_of c.args.uses.now in
    let lt : variable < length users = omega (arith, c.in_ok-users.ensures.length) in
    let row : c.deref-in-loop-variable.result.now ≡ S.before uses variable =
    c.deref-in-loop-variable.ensures.value ∙ sym (K.row_read (λ row. row.items) users variable c.index.result.now lt c.index.ensures)
    ∙ c.in_ok-users.ensures.rows variable (omega (arith, lt, length-map users (λ row. row.items))) in
    let long : length c.deref.result.now ≡ c.args.owners = ap length c.deref.ensures.value ∙ c.in_ok-sources.ensures.length in
    let marks = K.marks_keepers (length c.deref.result.now) c.args.ways.now uses variable c.deref-in-loop-variable.result.now c.in_ok-marks.marks.items row c.in_ok-marks.ensures in
    record {
      long = c.in_ok-add_kept.ensures.length ∙ old.long;
      rows = λ k below.
          let mark : get_or c.deref-in-loop-variable-2.result.now k false ≡ holds_number (S.keepers ways uses variable) k =
          ap (λ ms. get_or ms k false) c.deref-in-loop-variable-2.ensures.value ∙ marks.set k (omega (arith, below, long)) in
          c.in_ok-add_kept.ensures.rows k (omega (arith, below, old.long))
          ∙ ap (λ b. with_variable b variable (get_or (map (λ row. row.items) c.loop-variable.rows.items) k [])) mark
          ∙ ap (with_variable (holds_number (S.keepers ways uses variable) k) variable) (old.rows k below)
          ∙ sym (K.closure_more ways uses k variable);
    }
