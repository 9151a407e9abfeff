use Rattle.cpc_convert_images.proofs.Reading.{bare, either}
use Rattle.cpc_convert_images.proofs.readings.read_name.Goals as goal

pub returns-in-None : goal.returns-in-None
returns-in-None c = λ from to marks reads same. bare from to marks c.args.readings c.args.word.name c.in-None.is same

pub returns-in_ok-made-in-Some : goal.returns-in_ok-made-in-Some
returns-in_ok-made-in-Some c = λ from to marks reads same. either from to marks c.args.readings _ c.in-Some.field-0 reads c.in-Some.is (λ are. c.in_ok-made-in-Some.ensures from to marks are same)
