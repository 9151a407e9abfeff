-- Which of the items in scope declares a name last.
use Rattle.std.specs.Prelude.{◌≡◌, ℕ, ◌<◌, ◌≤◌, Bool, false, ◌==◌, if◌then◌else◌, List, [], ◌∷◌, length, get_or, take, reverse, slice_get, Option, Some, None}
use Rattle.cpc_base.specs.declared.names.Name.{Name}

-- whether a name that may be absent is this one
abbrev pub is_name : ℕ → Option Name → Bool
is_name x None = false
is_name x (Some y) = y.0 == x

-- the number of the last of these items that declares a name, by the names that they declare, the last item first
abbrev pub latest : ℕ → List (Option Name) → Option ℕ
latest x [] = None
latest x (k ∷ ks) = if is_name x k then Some (length ks) else latest x ks

-- the number of the last of the first n items that declares a name
abbrev pub last_below : ℕ → List (Option Name) → ℕ → Option ℕ
last_below n ks x = latest x (reverse (take n ks))

-- By the names that items declare, what each had declared before it, what each name declared last, and how many items
-- are in scope: these are the last ones that do.
pub record AreLinked (names : List (Option Name)) (before last : List (Option ℕ)) (count : ℕ) : Type 0 where
  pub within : count ≤ length names
  pub even : length before ≡ length names
  pub room : (k : ℕ) (x : Name) → slice_get names k ≡ Some (Some x) → x.0 < length last
  pub at : (x : ℕ) → get_or last x None ≡ last_below count names x
  pub earlier : (k : ℕ) (x : Name) → slice_get names k ≡ Some (Some x) → get_or before k None ≡ last_below k names x.0
