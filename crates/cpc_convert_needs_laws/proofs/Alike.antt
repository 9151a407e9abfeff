-- Lifted functions are read alike by texts that tell the names of their program, and by its table.
use Rattle.std.proofs.Common.{◌≡◌, ℕ, suc, List, [], ◌∷◌, map, slice_get, Some, option_map, refl, sym, ap, subst, ◌∙◌}
use Rattle.std.specs.List.{All}
use Rattle.std.proofs.lemmas.List.Elements.{All-nil, All-cons, All-head, All-tail}
use Rattle.std.proofs.lemmas.Option.{slice_get-map}
use Rattle.std.proofs.Math.Logic.{∥∥₁_map}
use Rattle.cpc_base.specs.declared.names.Name.{Name}
use Rattle.cpc_tree.specs.Erase.{Names, in_table, function_of, item_of, program_of}
use Rattle.cpc_tree.specs.Registers as R
use Rattle.cpc_tree.specs.Syntax.{Variable, Function, FunctionItem, Program}
use Rattle.cpc_tree.specs.declared.program.Function as GFunction
use Rattle.cpc_tree.specs.declared.program.Item.TheVariants as I
use Rattle.cpc_tree.specs.declared.program.Program as GProgram
use Rattle.cpc_forms.specs.Graph as G
use Rattle.cpc_forms.specs.Graph.{graph_of}
use Rattle.cpc_forms_code.specs.Graphs.{node_seen, graph_seen}
use Rattle.cpc_forms_code.specs.Points.{Marked, marked_from, marked, variable_seen}
use Rattle.cpc_forms_code.specs.Programs.{program_by, IsSpelled}
use Rattle.cpc_forms_code.specs.Seen.{stood_seen}
use Rattle.cpc_forms_code.specs.declared.boxed.Variable as V
use Rattle.cpc_forms_code.specs.declared.graph.Node.{Node}
use Rattle.cpc_forms_code.specs.declared.lifted.LiftedFunction.{LiftedFunction}
use Rattle.cpc_convert_names.specs.Called.{function_in, variables_in, nodes_in, IsNamed}
use Rattle.cpc_convert_names.specs.Counted.{called_of}
use Rattle.cpc_convert_needs.specs.Known.{plain_seen, IsAlike}
use Rattle.cpc_convert_needs_laws.specs.Laws.{AreTexts, LiftedAreAlike}
use Rattle.cpc_convert_needs_laws.proofs.Gathered.{source_in, Formed, There, Known, gathered, of_each}
use Rattle.cpc_convert_needs_laws.proofs.Reading.{stood_alike, variable_alike}
use Rattle.cpc_convert_needs_laws.proofs.Told.{others, others_differ, others_spell, others_told}

-- ---- items

same_function : (a b : Names) (f : GFunction.Function) → Some (item_of a (I.Function f)) ≡ Some (item_of b (I.Function f)) → function_of a f ≡ function_of b f
same_function a b f e = let h : Some (FunctionItem (function_of a f)) ≡ Some (FunctionItem (function_of b f)) = e in cc

-- a function of items that are read alike is
function_same : (a b : Names) (p : GProgram.Program) (f : GFunction.Function) → program_by a p ≡ program_by b p → There p.items.items f → function_of a f ≡ function_of b f
function_same a b p f e h =
    same_function a b f
    (sym (ap (option_map (item_of a)) h.item) ∙ (sym (slice_get-map (item_of a) p.items.items h.number)
    ∙ (ap (λ (q : Program). slice_get q h.number) e ∙ (slice_get-map (item_of b) p.items.items h.number ∙ ap (option_map (item_of b)) h.item))))

-- ---- rows

nodes_same : (a b : Names) (vs : List V.Variable) (ns : List Node) → map (node_seen a vs) ns ≡ map (node_seen b vs) ns → All (λ (n : Node). stood_seen a n.stood ≡ stood_seen b n.stood) ns
nodes_same a b vs [] e = All-nil (λ (n : Node). stood_seen a n.stood ≡ stood_seen b n.stood)
nodes_same a b vs (n ∷ ns) e =
    let i : node_seen a vs n ≡ node_seen b vs n = cc in
    let j : map (node_seen a vs) ns ≡ map (node_seen b vs) ns = cc in
    All-cons (λ (n : Node). stood_seen a n.stood ≡ stood_seen b n.stood) n ns (ap (λ (m : G.Node). m.stood) i) (nodes_same a b vs ns j)

module _ (a b c : Names) (same : (n : Name) → a n ≡ b n → a n ≡ c n) where
  variables_same : (vs : List V.Variable) → map (variable_seen a) vs ≡ map (variable_seen b) vs → map (plain_seen a) vs ≡ map (plain_seen c) vs
  variables_same [] e = refl
  variables_same (v ∷ vs) e =
      let i : variable_seen a v ≡ variable_seen b v = cc in
      let j : map (variable_seen a) vs ≡ map (variable_seen b) vs = cc in
      rw (variable_alike a b c same v (ap (λ (m : Marked). m.called) i), variables_same vs j) refl

unmarked : (names : Names) (f : Function) (n : ℕ) (vs : List V.Variable) (xs : List Variable) → map (variable_seen names) vs ≡ marked_from f n xs → map (plain_seen names) vs ≡ xs
unmarked names f n [] [] e = refl
unmarked names f n [] (x ∷ xs) e = absurd (cc)
unmarked names f n (v ∷ vs) [] e = absurd (cc)
unmarked names f n (v ∷ vs) (x ∷ xs) e =
    let i : variable_seen names v ≡ record { called = x; register = R.is_register f n x } = cc in
    let j : map (variable_seen names) vs ≡ marked_from f (suc n) xs = cc in
    rw (unmarked names f (suc n) vs xs j) (ap (λ (m : Marked). m.called ∷ xs) i)

called_same : (a b : Names) (vs : List V.Variable) → map (plain_seen a) vs ≡ map (plain_seen b) vs → map (called_of a) vs ≡ map (called_of b) vs
called_same a b [] e = refl
called_same a b (v ∷ vs) e =
    let i : plain_seen a v ≡ plain_seen b v = cc in
    let j : map (plain_seen a) vs ≡ map (plain_seen b) vs = cc in
    rw (called_same a b vs j) (ap (λ (x : Variable). x.called ∷ map (called_of b) vs) i)

-- ---- a lifted function

module _ (l : LiftedFunction) (is : Formed l) (from to : Names) (texts : AreTexts (source_in l) from to) (there : There (source_in l).items.items (function_in l)) where
  abbrev other : Names
  other = others from (source_in l).names

  pub spelled : IsSpelled from (source_in l) (function_in l)
  spelled = record { spells = texts.spelling.spells; told = texts.spelling.told there.number (function_in l) there.item }

  other_spelled : IsSpelled other (source_in l) (function_in l)
  other_spelled = record { spells = others_spell from (source_in l).names spelled.spells; told = others_told from (source_in l).names (function_in l).parameters.items spelled.told }

  -- texts that agree with the table read the program alike
  pub program_is : program_by from (source_in l) ≡ program_of (source_in l)
  program_is = texts.within from (record { spelled = texts.spelling.spells.inside })

  other_is : program_by other (source_in l) ≡ program_of (source_in l)
  other_is = texts.within other (record { spelled = other_spelled.spells.inside })

  to_is : program_by to (source_in l) ≡ program_of (source_in l)
  to_is = texts.within to texts.has

  pub same_to : function_of from (function_in l) ≡ function_of to (function_in l)
  same_to = function_same from to (source_in l) (function_in l) (program_is ∙ sym to_is) there

  same_other : function_of from (function_in l) ≡ function_of other (function_in l)
  same_other = function_same from other (source_in l) (function_in l) (program_is ∙ sym other_is) there

  table_to : function_of (in_table (source_in l).names) (function_in l) ≡ function_of to (function_in l)
  table_to = function_same (in_table (source_in l).names) to (source_in l) (function_in l) (sym to_is) there

  -- a name that these two read alike is in the table
  to_agrees : (n : Name) → from n ≡ other n → from n ≡ to n
  to_agrees n e = let h = others_differ from (source_in l).names spelled.spells.apart n e in spelled.spells.inside n h ∙ sym (texts.has.spelled n h)

  table_agrees : (n : Name) → from n ≡ other n → from n ≡ in_table (source_in l).names n
  table_agrees n e = spelled.spells.inside n (others_differ from (source_in l).names spelled.spells.apart n e)

  -- nodes
  graphs_same : graph_seen from (variables_in l) (nodes_in l) ≡ graph_seen other (variables_in l) (nodes_in l)
  graphs_same =
      is.graph.graph from spelled
      ∙ (ap (λ p. graph_of p (function_of from (function_in l))) (program_is ∙ sym other_is)
      ∙ (ap (graph_of (program_by other (source_in l))) same_other ∙ sym (is.graph.graph other other_spelled)))

  stood_same : All (λ (n : Node). stood_seen from n.stood ≡ stood_seen other n.stood) (nodes_in l)
  stood_same = nodes_same from other (variables_in l) (nodes_in l) (ap (λ (g : G.Graph). g.nodes) graphs_same)

  abbrev pub ReadAlike : Node → Type 0
  ReadAlike n = (stood_seen from n.stood ≡ stood_seen to n.stood) × (stood_seen (in_table (source_in l).names) n.stood ≡ stood_seen to n.stood)

  all_read : (ns : List Node) → All (λ (n : Node). stood_seen from n.stood ≡ stood_seen other n.stood) ns → All ReadAlike ns
  all_read [] all = All-nil ReadAlike
  all_read (n ∷ ns) all =
      let e = All-head (λ (n : Node). stood_seen from n.stood ≡ stood_seen other n.stood) n ns all in
      let t = stood_alike from other to to_agrees n.stood e in
      All-cons ReadAlike n ns (t, sym (stood_alike from other (in_table (source_in l).names) table_agrees n.stood e) ∙ t)
      (all_read ns (All-tail (λ (n : Node). stood_seen from n.stood ≡ stood_seen other n.stood) n ns all))

  pub nodes_read : All ReadAlike (nodes_in l)
  nodes_read = all_read (nodes_in l) stood_same

  -- variables
  pub marks_are : map (variable_seen from) (variables_in l) ≡ marked (function_of from (function_in l))
  marks_are = is.boxed.variables from spelled

  marks_same : map (variable_seen from) (variables_in l) ≡ map (variable_seen other) (variables_in l)
  marks_same = marks_are ∙ (ap marked same_other ∙ sym (is.boxed.variables other other_spelled))

  variables_to : map (plain_seen from) (variables_in l) ≡ map (plain_seen to) (variables_in l)
  variables_to = variables_same from other to to_agrees (variables_in l) marks_same

  variables_table : map (plain_seen from) (variables_in l) ≡ map (plain_seen (in_table (source_in l).names)) (variables_in l)
  variables_table = variables_same from other (in_table (source_in l).names) table_agrees (variables_in l) marks_same

  pub is_alike : IsAlike from to l
  is_alike = record {
    function = same_to;
    variables = variables_to;
    are = unmarked from (function_of from (function_in l)) 0 (variables_in l) (R.variables (function_of from (function_in l))) marks_are;
  }

  pub is_named : IsNamed (source_in l).names to l
  is_named = record {
    function = ap (λ (f : Function). f.called) table_to;
    variables = called_same (in_table (source_in l).names) to (variables_in l) (sym variables_table ∙ variables_to);
  }

-- ---- all of them

module _ (source : GProgram.Program) (from to : Names) (texts : AreTexts source from to) where
  texts_in : (l : LiftedFunction) → Known source l → AreTexts (source_in l) from to
  texts_in l k = subst (λ p. AreTexts p from to) (sym k.of) texts

  there_in : (l : LiftedFunction) (k : Known source l) → There (source_in l).items.items (function_in l)
  there_in l k = subst (λ (p : GProgram.Program). There p.items.items (function_in l)) (sym k.of) k.there

  pub alike_in : (l : LiftedFunction) → Known source l → IsAlike from to l
  alike_in l k = is_alike l k.formed from to (texts_in l k) (there_in l k)

  named_in : (l : LiftedFunction) → Known source l → IsNamed source.names to l
  named_in l k = subst (λ (p : GProgram.Program). IsNamed p.names to l) k.of (is_named l k.formed from to (texts_in l k) (there_in l k))

pub lifted_are_alike : LiftedAreAlike
lifted_are_alike l from to texts are = ∥∥₁_map (gathered l are) (λ g. record {
  named = of_each (Known l.source.now) (IsNamed l.source.now.names to) (named_in l.source.now from to texts) l.functions.items g.each;
  alike = of_each (Known l.source.now) (IsAlike from to) (alike_in l.source.now from to texts) l.functions.items g.each;
})
