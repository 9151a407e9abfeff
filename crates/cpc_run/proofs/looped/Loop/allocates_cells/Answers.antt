use Rattle.std.proofs.Common.{◌≡◌, false, pos, refl, sym, ap, subst, ◌∙◌, arith}
use Rattle.std.specs.Prelude.{int_lt, unsigned_abs}
use Rattle.std.proofs.lemmas.Int.{ints, to_z-of_z}
use mir.Val.{to_z, of_z}
use mir.Syntax.{w128}
use Rattle.std.proofs.Common.{Some, None}
use Rattle.cpc_meaning.specs.Machine.{replies}
use Rattle.cpc_meaning.specs.Section.{allocated}
use Rattle.cpc_meaning.specs.Trees.{trees}
use Rattle.cpc_store.specs.Store.{At, next_block}
use Rattle.cpc_eval_values.specs.Shown.{value_of}
use Rattle.cpc_run_code.specs.Code.{stack_in}
use Rattle.cpc_run.specs.States.{Came, settles, program_in}
use Rattle.cpc_run.proofs.Asks.{made_on, made_not, room_left}
use Rattle.cpc_run.proofs.Kept.{kept_then}
use Rattle.cpc_run.proofs.looped.Loop.allocates_cells.Goals as goal

pub returns-clause-did : goal.returns-clause-did
returns-clause-did c = λ names fits printed s made acted.
    let l = c.args.self.now in
    let class = c.args.class in
    let z = c.in-Int.count in
    let same : to_z w128 (of_z w128 z) ≡ z = grind (arith, ints, to_z-of_z) in
    let not_below : int_lt z (pos 0) ≡ false = ap (λ x. int_lt x (pos 0)) (sym same) ∙ c.if-count-lt0.false in
    let pointer = ap (λ n. At class n 0) (c.made-number.ensures names ∙ ap (next_block class) (sym acted.store)) in
    subst (λ v. Came names None c.makes.new.self printed s (settles names l s (replies (trees (program_in names l)) (stack_in names l.machine) (allocated class (value_of names v) s.store) s))) (sym c.in-Int.is)
    (made_on names l c.reply.new.self printed s class _ (At class c.made-number.result 0) c.requires.class made acted.going c.in-Int.field-0 z not_below (ap unsigned_abs (sym same)) pointer
    c.makes.new.self (λ t h. c.in_ok-makes.ensures.made names printed t h) c.in_ok-gone.gone (sym c.is_some.ensures ∙ c.if-is_some.false) (c.in_ok-gone.ensures.did names fits printed s s acted))

pub returns-then-is_some-clause-did : goal.returns-then-is_some-clause-did
returns-then-is_some-clause-did c = λ names fits printed s made acted.
    let l = c.args.self.now in
    let class = c.args.class in
    let z = c.in-Int.count in
    let same : to_z w128 (of_z w128 z) ≡ z = grind (arith, ints, to_z-of_z) in
    let not_below : int_lt z (pos 0) ≡ false = ap (λ x. int_lt x (pos 0)) (sym same) ∙ c.if-count-lt0.false in
    let pointer = ap (λ n. At class n 0) (c.made-number.ensures names ∙ ap (next_block class) (sym acted.store)) in
    subst (λ v. Came names c.in_ok-gone.gone c.reply.new.self printed s (settles names l s (replies (trees (program_in names l)) (stack_in names l.machine) (allocated class (value_of names v) s.store) s))) (sym c.in-Int.is)
    (made_not names l c.reply.new.self printed s class (unsigned_abs z) (At class c.made-number.result 0) c.requires.class made acted.going c.in-Int.field-0 z not_below refl pointer
    c.in_ok-gone.gone (sym c.is_some.ensures ∙ c.if-is_some.true) (c.in_ok-gone.ensures.did names fits printed s s acted))

pub makes-requires-clause-room : goal.makes-requires-clause-room
makes-requires-clause-room c =
    let r = c.requires.room in
    let l = c.args.self.now in
    let class = c.args.class in
    let z = c.in-Int.count in
    let same : to_z w128 (of_z w128 z) ≡ z = grind (arith, ints, to_z-of_z) in
    let not_below : int_lt z (pos 0) ≡ false = ap (λ x. int_lt x (pos 0)) (sym same) ∙ c.if-count-lt0.false in
    let pointer = ap (λ n. At class n 0) (c.made-number.ensures r.names ∙ ap (next_block class) (sym r.acted.store)) in
    let goes = subst (λ v. settles r.names l r.state (replies (trees (program_in r.names l)) (stack_in r.names l.machine) (allocated class (value_of r.names v) r.state.store) r.state) ≡ Some r.next) c.in-Int.is r.goes in
    let left = room_left r.names l c.reply.new.self r.printed r.state class _ (At class c.made-number.result 0) c.requires.class r.made r.acted.going c.in-Int.field-0 z not_below (ap unsigned_abs (sym same)) pointer
    c.in_ok-gone.gone (sym c.is_some.ensures ∙ c.if-is_some.false) (c.in_ok-gone.ensures.did r.names r.fits r.printed r.state r.state r.acted) r.next goes in
    let within = r.within in
    (r.names, omega (arith, left, within))

pub returns-in_err-makes-clause-keeps : goal.returns-in_err-makes-clause-keeps
returns-in_err-makes-clause-keeps c = kept_then c.args.self.now c.reply.new.self c.makes.new.self c.reply.ensures.keeps c.makes.ensures.keeps

pub returns-clause-keeps : goal.returns-clause-keeps
returns-clause-keeps c = kept_then c.args.self.now c.reply.new.self c.makes.new.self c.reply.ensures.keeps c.makes.ensures.keeps
