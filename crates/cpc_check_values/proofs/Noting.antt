-- What is noted of operators whose whole has no type.
use Rattle.std.proofs.Common.{◌≡◌, Bool, ◌&&◌, not, Option, Some, None, is_some, refl}
use Rattle.std.specs.Option.{is_none}

pub untyped_is : {A : Type 0} (typed : Bool) (o : Option A) → (typed && not (is_some o)) ≡ (typed && is_none o)
untyped_is typed None = refl
untyped_is typed (Some x) = refl

pub absent_is : {A : Type 0} (o : Option A) → not (is_some o) ≡ is_none o
absent_is None = refl
absent_is (Some x) = refl
