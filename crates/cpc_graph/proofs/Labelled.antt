-- Labels in a table, of which the last is put first.
use Rattle.std.proofs.Common.{◌≡◌, ℕ, Bool, true, false, List, [], ◌∷◌, ◌++◌, Option, Some, None, refl, sym, ap, ◌∙◌, if◌then◌else◌, bytes_eq, cond, nat_eq}
use Rattle.std.proofs.lemmas.List.{map-append}
use Rattle.cpc_base.specs.Bytes.{Text}
use Rattle.cpc_base.specs.declared.names.Name.{Name}
use Rattle.cpc_tree.specs.Erase.{Names}
use Rattle.cpc_check_rules.specs.Apart.{AreApart}
use Rattle.cpc_forms.specs.Table as T
use Rattle.cpc_graph.specs.declared.marks.Mark.{Mark}
use Rattle.cpc_graph.specs.Labels.{label_seen, labels_seen, marked_or}

pub none_or : (ms : List T.Marked) (l : Text) → marked_or ms l None ≡ T.marked ms l
none_or [] l = refl
none_or (m ∷ ms) l = ap (λ o. if bytes_eq m.0 l then Some m.1 else o) (none_or ms l)

last_or : (ms : List T.Marked) (m : T.Marked) (l : Text) (o : Option ℕ) → marked_or (ms ++ m ∷ []) l o ≡ marked_or ms l (if bytes_eq m.0 l then Some m.1 else o)
last_or [] m l o = refl
last_or (n ∷ ms) m l o = ap (λ p. if bytes_eq n.0 l then Some n.1 else p) (last_or ms m l o)

by_cond : (b : Bool) (o p : Option ℕ) → (if b then o else p) ≡ cond b o p
by_cond true o p = refl
by_cond false o p = refl

-- where the last one is put into the table, the others count before
pub label_put : (names : Names) → AreApart names → (ms rest : List Mark) (m : Mark) (x : Name) (o p : Option ℕ) → ms ≡ rest ++ m ∷ [] → p ≡ cond (nat_eq m.name.0 x.0) (Some m.number) o
    → marked_or (labels_seen names rest) (names x) p ≡ marked_or (labels_seen names ms) (names x) o
label_put names apart ms rest m x o p e f =
    ap (marked_or (labels_seen names rest) (names x))
    (f ∙ (sym (by_cond (nat_eq m.name.0 x.0) (Some m.number) o) ∙ ap (λ b. if b then Some m.number else o) (sym (apart.told m.name x))))
    ∙ (sym (last_or (labels_seen names rest) (label_seen names m) (names x) o)
    ∙ ap (λ l. marked_or l (names x) o) (sym (map-append (label_seen names) rest (m ∷ [])) ∙ ap (labels_seen names) (sym e)))
