use Rattle.std.proofs.Common.{◌≡◌, [], ◌∷◌, None, option_map, sym, ◌∙◌, ap}
use Rattle.std.specs.Prelude.{Some}
use Rattle.cpc_tree.specs.Erase.{function_of}
use Rattle.cpc_meaning.specs.Plain as P
use Rattle.cpc_meaning.specs.Trees.{trees}
use Rattle.cpc_meaning.proofs.Functions.{found_again}
use Rattle.cpc_eval_values.specs.Shown.{value_of, values_of, store_of}
use Rattle.cpc_eval_index.specs.Indexed.{items_of}
use Rattle.cpc_native.specs.Stacks.{frames_of}
use Rattle.cpc_native.proofs.Machines.{stacks_alike}
use Rattle.cpc_native.proofs.machine.Machine.call.Goals as goal

pub push-requires-clause-own : goal.push-requires-clause-own
push-requires-clause-own c = λ names apart.
    found_again (items_of names c.args.self.now.index) (names c.args.function) (function_of names c.in-Some.function.now) (sym (c.in-Some.ensures names apart))

pub returns-in_ok-push-in-Some-clause-runs : goal.returns-in_ok-push-in-Some-clause-runs
returns-in_ok-push-in-Some-clause-runs c = λ names runs g a named e.
    let old = c.args.self.now in
    let p = items_of names old.index in
    let i : Some (function_of names c.in-Some.function.now) ≡ Some g = c.in-Some.ensures names runs.spells.apart ∙ named in
    let j : function_of names c.in-Some.function.now ≡ g = cc in
    let k = c.in_ok-push-in-Some.ensures.made names runs a (ap (λ f. P.make_frame (trees p) f (values_of names c.args.arguments.now) (store_of names old.store)) j ∙ e) in
    let fs : frames_of names c.push.new.self.calls.frames.items ≡ a.0 ∷ [] = k.0 ∙ ap (λ xs. a.0 ∷ frames_of names xs) c.clear.ensures in
    (stacks_alike (frames_of names c.push.new.self.calls.frames.items) (a.0 ∷ []) (option_map (value_of names) c.push.new.self.arriving) None fs (ap (option_map (value_of names)) c.in_ok-push-in-Some.ensures.arriving), k.1)
