-- Where rows lead, row by row.
use Rattle.std.proofs.Common.{◌≡◌, ℕ, zero, suc, ◌+◌, ◌<◌, ◌||◌, Bool, true, false, List, [], ◌∷◌, ◌++◌, map, length, drop, slice_get, get_or, Option, Some, None, refl, sym, ◌∙◌, ap, arith}
use Rattle.std.proofs.Math.Seq.{drop-cons}
use Rattle.cpc_base.proofs.Truth.{or_regrouped, or_with_false}
use Rattle.cpc_tree.specs.Syntax.{Program}
use Rattle.cpc_forms.specs.Graph.{Node, at_node}
use Rattle.cpc_forms.specs.Flow.{Place, At}
use Rattle.cpc_convert_routines.specs.Routines.{Routine}
use Rattle.cpc_chains_event.specs.Lines.{node_lines, frame_lines, hands_over}
use Rattle.cpc_convert_routines.specs.Names.{to_name}
use Rattle.cpc_convert_routines.specs.Nodes.{is_own}
use Rattle.cpc_chains_event.specs.Rows.{row_of, lines_by, any_leads, is_next, put_lines, put_rows, first_number, is_wanted}
use Rattle.cpc_convert_rows.specs.declared.steps.Step.{Step}
use Rattle.cpc_convert_rows.specs.Ways.{jumps_to, ways_lead}
use Rattle.cpc_convert_rows.specs.Steps.{step_at, no_step, step_of}
use Rattle.cpc_convert_rows.proofs.Led.{node_leads, done_leads}

-- where a row of the piece's own leads
row_leads : (p : Program) (r : Routine) (l : Place) (n k : ℕ) (o : Option ℕ) → is_own r.split l n ≡ true → any_leads k (put_lines o (row_of p r l n).lines) ≡ ways_lead k o (step_at r n).test (step_at r n).falls
row_leads p r l n k o e = ap (λ b. any_leads k (put_lines o (lines_by b p r n))) e ∙ go (slice_get r.split.graph.nodes n)
  where
    go : (x : Option Node) → any_leads k (put_lines o (at_node [] (node_lines p r) x)) ≡ ways_lead k o (at_node no_step (step_of r) x).test (at_node no_step (step_of r) x).falls
    go None = refl
    go (Some node) = node_leads p r node k o

-- marks of an own row
pub own_marked : (p : Program) (r : Routine) (l : Place) (n k : ℕ) (o : Option ℕ) (s : Step) (old mid new own : Bool) → own ≡ is_own r.split l n → own ≡ true → s ≡ step_at r n
    → mid ≡ (old || is_next k s.test) → new ≡ (mid || jumps_to k o s.falls) → new ≡ (old || any_leads k (put_lines o (row_of p r l n).lines))
own_marked p r l n k o s old mid new own is owned e f g =
    g ∙ (ap (λ b. b || jumps_to k o s.falls) f ∙ (sym (or_regrouped old (is_next k s.test) (jumps_to k o s.falls))
    ∙ (ap (λ (x : Step). old || ways_lead k o x.test x.falls) e ∙ ap (λ b. old || b) (sym (row_leads p r l n k o (sym is ∙ owned))))))

-- a row that goes to another leader leads nowhere
pub other_marked : (p : Program) (r : Routine) (l : Place) (n k : ℕ) (o : Option ℕ) (old own : Bool) → own ≡ is_own r.split l n → own ≡ false → old ≡ (old || any_leads k (put_lines o (row_of p r l n).lines))
other_marked p r l n k o old own is absent =
    sym (or_with_false old) ∙ ap (λ b. old || b) (sym (ap (λ b. any_leads k (put_lines o (lines_by b p r n))) (sym is ∙ absent) ∙ done_leads k o (frame_lines r to_name (At n) ++ (hands_over to_name ∷ []))))

pub first_left : (p : Program) (r : Routine) (l : Place) (ns : List ℕ) (j : ℕ) → first_number (map (row_of p r l) (drop j ns)) ≡ slice_get ns j
first_left p r l [] zero = refl
first_left p r l [] (suc j) = refl
first_left p r l (n ∷ ns) zero = refl
first_left p r l (n ∷ ns) (suc j) = first_left p r l ns j

-- the rows that are left, behind one more
pub wanted_left : (p : Program) (r : Routine) (l : Place) (ns : List ℕ) (i k : ℕ) (o : Option ℕ) (old new : Bool) → i < length ns → o ≡ slice_get ns (suc i)
    → new ≡ (old || any_leads k (put_lines o (row_of p r l (get_or ns i 0)).lines))
    → (new || is_wanted k (put_rows (map (row_of p r l) (drop (i + 1) ns)))) ≡ (old || is_wanted k (put_rows (map (row_of p r l) (drop i ns))))
wanted_left p r l ns i k o old new lt next e =
    let n = get_or ns i 0 in
    let step : suc i ≡ i + 1 = omega arith in
    let rest = is_wanted k (put_rows (map (row_of p r l) (drop (suc i) ns))) in
    ap (λ j. new || is_wanted k (put_rows (map (row_of p r l) (drop j ns)))) (sym step)
    ∙ (ap (λ b. b || rest) e ∙ (sym (or_regrouped old (any_leads k (put_lines o (row_of p r l n).lines)) rest)
    ∙ (ap (λ x. old || (any_leads k (put_lines x (row_of p r l n).lines) || rest)) (next ∙ sym (first_left p r l ns (suc i)))
    ∙ ap (λ xs. old || is_wanted k (put_rows (map (row_of p r l) xs))) (sym (drop-cons ns i 0 lt)))))
