use Rattle.cpc_eval_index.specs.Indexed.{items_of}
use Rattle.cpc_shapes.specs.Found.{used_of}
use Rattle.cpc_eval.specs.Shapes.{types_of, shape_of}
use Rattle.cpc_eval.proofs.Sizing.{no_type, no_pointer}
use Rattle.cpc_eval.proofs.operands.element_size.Goals as goal

pub returns-in-None : goal.returns-in-None
returns-in-None c = λ names apart n e. no_type (items_of names c.args.index.now) (used_of (types_of names c.args.typed)) n (c.in-None.ensures names) e

pub returns-in-None-pointee : goal.returns-in-None-pointee
returns-in-None-pointee c = λ names apart n e. no_pointer (items_of names c.args.index.now) (used_of (types_of names c.args.typed)) (shape_of names c.in-Some.shape) n (c.in-Some.ensures names) (c.in-None-pointee.ensures names) e
