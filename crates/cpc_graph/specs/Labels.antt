-- Labels as the definitions have them.
use Rattle.std.specs.Prelude.{◌≡◌, ℕ, List, map, nat_eq, if◌then◌else◌, bytes_eq, [], ◌∷◌, Option, Some}
use Rattle.std.specs.HashMap as hash
use Rattle.cpc_base.specs.Bytes.{Text}
use Rattle.cpc_base.specs.declared.names.Name.{Name}
use Rattle.cpc_tree.specs.Erase.{Names}
use Rattle.cpc_check_rules.specs.Apart.{AreApart}
use Rattle.cpc_forms.specs.Table as T
use Rattle.cpc_graph.specs.declared.marks.Mark.{Mark}
use Rattle.cpc_graph.specs.declared.labels.Labels.{Labels}

-- a label with its number
abbrev pub label_seen : Names → Mark → T.Marked
label_seen names m = (names m.name, m.number)

abbrev pub labels_seen : Names → List Mark → List T.Marked
labels_seen names ms = map (label_seen names) ms

-- the number of a label among these, the first where there are more, or else this one
abbrev pub marked_or : List T.Marked → Text → Option ℕ → Option ℕ
marked_or [] l o = o
marked_or (m ∷ ms) l o = if bytes_eq m.0 l then Some m.1 else marked_or ms l o

-- the number of a name
abbrev pub number_at : Labels → Name → Option ℕ
number_at t x = hash.get nat_eq t.numbers x.0

-- a table of these labels
pub record AreLabels (ms : List Mark) (t : Labels) : Type 0 where
  pub each : (names : Names) → AreApart names → (x : Name) → number_at t x ≡ T.marked (labels_seen names ms) (names x)

-- a table finds what this says of the texts of names
pub record FindsLabels (names : Names) (t : Labels) (label : Text → Option ℕ) : Type 0 where
  pub each : (x : Name) → number_at t x ≡ label (names x)
