-- Lawful values, as a test.
use Rattle.std.proofs.Common.{◌≡◌, true, refl, arith}
use Rattle.std.proofs.lemmas.Bool.Decides.{nat_tests}
use Rattle.cpc_num.proofs.KindLemmas.{IsOf-is_of, is_of-IsOf}
use Rattle.cpc_store.specs.Seen.{IsLawful}
use Rattle.cpc_store.specs.Store.{ValueOf, Unset, Whole, Null, At, Code, Cond}
use Rattle.cpc_run_code.specs.Taken.{is_lawful}

pub lawful_passes : {C : Type 0} (v : ValueOf C) → IsLawful v → is_lawful v ≡ true
lawful_passes Unset h = refl
lawful_passes (Whole kind z) h = is_of-IsOf kind z h
lawful_passes Null h = refl
lawful_passes (At c n k) h = grind (arith, nat_tests)
lawful_passes (Code f) h = refl
lawful_passes (Cond n) h = refl

pub passed_lawful : {C : Type 0} (v : ValueOf C) → is_lawful v ≡ true → IsLawful v
passed_lawful Unset h = tt
passed_lawful (Whole kind z) h = IsOf-is_of kind z h
passed_lawful Null h = tt
passed_lawful (At c n k) h = grind (arith, nat_tests)
passed_lawful (Code f) h = tt
passed_lawful (Cond n) h = tt
