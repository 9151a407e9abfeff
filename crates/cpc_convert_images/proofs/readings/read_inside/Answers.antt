use Rattle.cpc_convert_images.proofs.Reading.{unread, no_variable, no_local, in_its_local}
use Rattle.cpc_convert_images.proofs.readings.read_inside.Goals as goal

pub returns-in-None : goal.returns-in-None
returns-in-None c = λ from to marks are same. unread from to marks c.args.readings c.args.word.name are (c.in-None.ensures from are.apart are.named) same

pub returns-in-None-get : goal.returns-in-None-get
returns-in-None-get c = λ from to marks are same.
    absurd (no_variable from to marks c.args.readings c.args.word.name are c.in-Some.k (c.in-Some.ensures from are.apart are.named) c.in-None-get.ensures.lookup.0)

pub returns-in-None-get-2 : goal.returns-in-None-get-2
returns-in-None-get-2 c = λ from to marks are same.
    absurd (no_local from to marks c.args.readings c.args.word.name are c.in-Some.k (c.in-Some.ensures from are.apart are.named) c.in-None-get-2.ensures.lookup.0)

pub returns-in_ok-made-in-Some-get-2 : goal.returns-in_ok-made-in-Some-get-2
returns-in_ok-made-in-Some-get-2 c = λ from to marks are same.
    in_its_local from to marks c.args.readings c.args.word.name are c.in-Some.k (c.in-Some.ensures from are.apart are.named) c.in-Some-get.variable.now c.in-Some-get-2.local.now _
    c.in-Some-get.ensures.lookup.0 c.in-Some-get.ensures.lookup.1 c.in-Some-get-2.ensures.lookup.0 c.in-Some-get-2.ensures.lookup.1 same (c.in_ok-made-in-Some-get-2.ensures to)
