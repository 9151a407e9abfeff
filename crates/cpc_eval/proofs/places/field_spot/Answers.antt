use Rattle.std.proofs.Common.{option_map}
use Rattle.cpc_tree.specs.Erase.{type_of}
use Rattle.cpc_eval_index.specs.Indexed.{items_of}
use Rattle.cpc_eval_values.specs.Shown.{value_of, store_of}
use Rattle.cpc_eval_values.proofs.Meeting.{meets_err}
use Rattle.cpc_eval.specs.Spots.{spot_of}
use Rattle.cpc_eval.specs.declared.results.Located.{Located}
use Rattle.cpc_eval.proofs.Spotting.{field_met, field_fault, field_typed}
use Rattle.cpc_eval.proofs.places.field_spot.Goals as goal

pub returns-in_err-there-in-Some-clause-value : goal.returns-in_err-there-in-Some-clause-value
returns-in_err-there-in-Some-clause-value c = λ names apart.
    meets_err (λ (l : Located). spot_of l.spot) c.from_residual.result _ _ c.from_residual.ensures.1
    (field_fault (items_of names c.args.index.now) (store_of names c.args.store.now) (option_map (λ t. type_of names t.now) c.args.of) (names c.args.name) (value_of names c.args.value) c.in-Some.offset _ _
    (c.in-Some.ensures names apart) (λ m e. c.in_err-there-in-Some.ensures.value names m e))

pub returns-in_ok-there-in-Some-clause-value : goal.returns-in_ok-there-in-Some-clause-value
returns-in_ok-there-in-Some-clause-value c = λ names apart.
    field_met (items_of names c.args.index.now) (store_of names c.args.store.now) (option_map (λ t. type_of names t.now) c.args.of) (names c.args.name) (value_of names c.args.value) (value_of names c.in_ok-there-in-Some.there) c.in-Some.offset _ _
    (c.in-Some.ensures names apart) (λ m e. c.in_ok-there-in-Some.ensures.value names m e) (c.placed.ensures.value _ (c.pointed.ensures.value names))

pub returns-in_ok-there-in-Some-clause-typed : goal.returns-in_ok-there-in-Some-clause-typed
returns-in_ok-there-in-Some-clause-typed c = λ names apart.
    c.placed.ensures.typed names _ (field_typed (items_of names c.args.index.now) (option_map (λ t. type_of names t.now) c.args.of) (names c.args.name) c.in-Some.offset _ (c.in-Some.ensures names apart))
