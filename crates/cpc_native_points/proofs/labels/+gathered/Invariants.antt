use Rattle.std.proofs.Common.{◌≡◌, ℕ, take}
use Rattle.cpc_tree.specs.Syntax.{Stmt}
use Rattle.cpc_tree.specs.Erase.{Names, list_of}
use Rattle.cpc_tree.specs.Points.{Nth, labelled_in}
use Rattle.cpc_check_rules.specs.Apart.{AreApart}
use Rattle.cpc_native_points.specs.Parts.{child, nth}
use Rattle.cpc_native_points.specs.Tabled.{Gathers, Grows}
use Rattle.cpc_native_points.proofs.labels.+gathered.Given as goal

-- those of the statements so far are there
abbrev pub invariant-gather_row-loop-n : goal.invariant-gather_row-loop-n
invariant-gather_row-loop-n l = record {
  kept : Grows l.initial.table l.table;
  led : (names : Names) (around : Stmt) → AreApart names → ((n : ℕ) → child around (Nth n) ≡ nth (list_of names l.row) n) → Gathers names l.initial.table l.table l.at around (λ x. labelled_in x (list_of names (take l.n l.row)));
}
