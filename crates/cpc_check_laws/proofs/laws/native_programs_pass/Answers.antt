use Rattle.cpc_check_laws.proofs.Native.NativeItems.{native_unbroken}
use Rattle.cpc_check_laws.proofs.laws.native_programs_pass.Goals as goal

pub returns : goal.returns
returns c = record { law = native_unbroken }
