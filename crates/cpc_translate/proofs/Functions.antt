-- The functions of each pass are those of the program that the first began with.
use Rattle.std.proofs.Common.{◌≡◌, List, [], ◌∷◌, map, All, sym, subst}
use Rattle.std.proofs.lemmas.List.Elements.{All-nil, All-cons, All-head, All-tail}
use Rattle.cpc_tree.specs.declared.program.Program.{Program}
use Rattle.cpc_chains_code.specs.Laws.{AreOf}
use Rattle.cpc_forms_code.specs.declared.boxed.Boxed.{Boxed}
use Rattle.cpc_forms_code.specs.declared.boxed.BoxedFunction.{BoxedFunction}
use Rattle.cpc_forms_code.specs.declared.graph.Graph.{Graph}
use Rattle.cpc_forms_code.specs.declared.graph.GraphFunction.{GraphFunction}
use Rattle.cpc_forms_code.specs.declared.split.SplitProgram.{SplitProgram}
use Rattle.cpc_forms_code.specs.declared.split.SplitFunction.{SplitFunction}
use Rattle.cpc_forms_code.specs.declared.lifted.LiftedProgram.{LiftedProgram}
use Rattle.cpc_forms_code.specs.declared.lifted.LiftedFunction.{LiftedFunction}
use Rattle.cpc_translate.specs.Passes.{AreOfBoxed, AreOfGraph, AreOfSplit}

-- what holds of the images of all elements holds of these by their images
images_back : {A B : Type 0} (P : B → Type 0) (f : A → B) (xs : List A) → All P (map f xs) → All (λ x. P (f x)) xs
images_back P f [] h = All-nil (λ x. P (f x))
images_back P f (x ∷ xs) h = All-cons (λ x. P (f x)) x xs (All-head P (f x) (map f xs) h) (images_back P f xs (All-tail P (f x) (map f xs) h))

-- where all are of one program, those that stand for them are too
moved : {A B : Type 0} (of : B → Program) (f : A → B) (xs : List A) (ys : List B) (a b : Program) → a ≡ b → map f xs ≡ ys → All (λ y. of y ≡ b) ys → All (λ x. of (f x) ≡ a) xs
moved of f xs ys a b e images all =
    subst (λ p. All (λ x. of (f x) ≡ p) xs) (sym e) (images_back (λ y. of y ≡ b) f xs (subst (All (λ y. of y ≡ b)) (sym images) all))

pub graph_is_of : (b : Boxed) (g : Graph) → g.source.now ≡ b.source.now → map (λ (f : GraphFunction). f.boxed.now) g.functions.items ≡ b.functions.items → AreOfBoxed b → AreOfGraph g
graph_is_of b g source functions all =
    moved (λ (f : BoxedFunction). f.source.now) (λ (f : GraphFunction). f.boxed.now) g.functions.items b.functions.items g.source.now b.source.now source functions all

pub split_is_of : (g : Graph) (s : SplitProgram) → s.source.now ≡ g.source.now → map (λ (f : SplitFunction). f.graph.now) s.functions.items ≡ g.functions.items → AreOfGraph g → AreOfSplit s
split_is_of g s source functions all =
    moved (λ (f : GraphFunction). f.boxed.now.source.now) (λ (f : SplitFunction). f.graph.now) s.functions.items g.functions.items s.source.now g.source.now source functions all

pub lifted_is_of : (s : SplitProgram) (l : LiftedProgram) → l.source.now ≡ s.source.now → map (λ (f : LiftedFunction). f.split.now) l.functions.items ≡ s.functions.items → AreOfSplit s → AreOf l
lifted_is_of s l source functions all =
    moved (λ (f : SplitFunction). f.graph.now.boxed.now.source.now) (λ (f : LiftedFunction). f.split.now) l.functions.items s.functions.items l.source.now s.source.now source functions all
