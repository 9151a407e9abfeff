-- With more room a reader that is made of readers answers the same, but for what was too deep.
use Rattle.std.proofs.Common.{◌≡◌, ℕ, List, refl}
use Rattle.cpc_parser_reading.specs.Reading.{Reading, Read, Fault, Deep, ◌>>=◌}
use Rattle.cpc_parser_reading.specs.Exact.{Keeps}

-- what has no room in it keeps
pub keeps_same : {T A : Type 0} (r : Reading T A) → Keeps r r
keeps_same (Read x) = refl
keeps_same (Fault left) = refl
keeps_same (Deep left) = tt

-- a part, and what is read behind it
pub keeps_then : {T A B : Type 0} (r s : Reading T A) (f g : A × ℕ × List T → Reading T B) → Keeps r s → ((x : A × ℕ × List T) → Keeps (f x) (g x)) → Keeps (r >>= f) (s >>= g)
keeps_then (Read x) s f g k h = rw k (h x)
keeps_then (Fault left) s f g k h = rw k refl
keeps_then (Deep left) s f g k h = tt

-- the same, where it matters what the part was
pub keeps_by : {T A B : Type 0} (r s : Reading T A) (f g : A × ℕ × List T → Reading T B) → Keeps r s → ((x : A × ℕ × List T) → r ≡ Read x → Keeps (f x) (g x)) → Keeps (r >>= f) (s >>= g)
keeps_by (Read x) s f g k h = rw k (h x refl)
keeps_by (Fault left) s f g k h = rw k refl
keeps_by (Deep left) s f g k h = tt

-- what is done with a part doesn't depend on the room
pub keeps_on : {T A B : Type 0} (r s : Reading T A) (f : A × ℕ × List T → Reading T B) → Keeps r s → Keeps (r >>= f) (s >>= f)
keeps_on r s f k = keeps_then r s f f k (λ x. keeps_same (f x))
