-- What a file gives that is read.
use Rattle.std.specs.Prelude.{◌≡◌, ℕ, List, drop, Option, Some}

-- a file that holds these bytes stands at the first of them, and from wherever it is taken it gives those from there on
pub record StandsAtFirst {F : Type 0} (position : F → Option ℕ) (all remaining : F → Option (List ℕ)) (bytes : List ℕ) (file : F) : Type 0 where
  pub first : position file ≡ Some 0
  pub holds : all file ≡ Some bytes
  pub gives : (there : F) (offset : ℕ) → position there ≡ Some offset → all there ≡ Some bytes → remaining there ≡ Some (drop offset bytes)
