-- Frames put upon each other, what stands where they are, and their registers.
use Rattle.std.proofs.Common.{◌≡◌, ◌+◌, true, false, bytes_eq, List, [], ◌∷◌, ◌++◌, map, reverse, option_map, cond, Some, refl, sym, ◌∙◌, ap, subst, arith}
use Rattle.std.proofs.lemmas.List.{map-append, reverse-append}
use Rattle.std.proofs.lemmas.List.Sums.{sum_by-cons}
use Rattle.std.proofs.lemmas.List.Elements.{All-append, All-cons, All-nil}
use Rattle.std.proofs.lemmas.Option.{slice_get-map}
use Rattle.cpc_base.specs.declared.names.Name.{Name}
use Rattle.cpc_tree.specs.Erase.{Names, Table, parameter_of, function_of, text_of}
use Rattle.cpc_tree.specs.Points as T
use Rattle.cpc_tree.specs.Syntax.{Program}
use Rattle.cpc_tree.specs.declared.program.Function.{Function}
use Rattle.cpc_tree.specs.declared.program.Word.{Word}
use Rattle.cpc_meaning.specs.Plain as P
use Rattle.cpc_meaning.specs.Trees.{stood_at}
use Rattle.cpc_meaning.specs.Runs.{slots_registers, frames_registers}
use Rattle.cpc_native_points.specs.Seen.{point_at, path_of}
use Rattle.cpc_native_points.specs.declared.parts.Phase.{Phase}
use Rattle.cpc_native_points.specs.declared.parts.Phase.TheVariants as F
use Rattle.cpc_check_rules.specs.Apart.{Spells}
use Rattle.cpc_eval_variables.specs.Told.{IsTold}
use Rattle.cpc_eval_index.specs.declared.index.Index.{Index}
use Rattle.cpc_eval_index.specs.Indexed.{items_of, IsOwn}
use Rattle.cpc_eval.specs.declared.around.Slot.{Slot}
use Rattle.cpc_eval.specs.declared.around.Slot.TheVariants as G
use Rattle.cpc_native_builtins.specs.Served.{is_served_program}
use Rattle.cpc_eval.specs.Numbers.{ProgramNumbers}
use Rattle.cpc_native_frames.specs.declared.frame.Frame.{Frame}
use Rattle.cpc_native_frames.specs.Frames.{frame_of, IsWellFrame}
use Rattle.cpc_native_frames.specs.Made.{slots_of}
use Rattle.cpc_native_acts.specs.Stood.{StoodNumbers, is_served_stood, IsTexts, IsServing}
use Rattle.cpc_native.specs.Stacks.{frames_of}
use Rattle.cpc_native.specs.Runs.{Runs}
use Rattle.cpc_native.specs.Well.{AreWell}
use Rattle.cpc_native.specs.Counts.{is_register, registers_in, frame_count, frames_count}
use Rattle.cpc_native.proofs.Standing.{stands_served, stands_numbers}

-- ---- frames upon each other

-- the last one is the first
pub frames_upon : (names : Names) (frames : List Frame) (top : Frame) → frames_of names (frames ++ top ∷ []) ≡ frame_of names top ∷ frames_of names frames
frames_upon names frames top = ap reverse (map-append (frame_of names) frames (top ∷ [])) ∙ reverse-append (map (frame_of names) frames) (frame_of names top ∷ [])

-- frames stay well with one more
pub well_upon : (index : Index) (frames whole : List Frame) (top : Frame) → whole ≡ frames ++ top ∷ [] → AreWell index frames → IsWellFrame index top → AreWell index whole
well_upon index frames whole top e h k =
    let K : List Frame → Type 0 = AreWell index in
    subst K (sym e) (All-append (IsWellFrame index) frames (top ∷ []) h (All-cons (IsWellFrame index) top [] k (All-nil (IsWellFrame index))))

-- ---- registers

slots_counted : (names : Names) (slots : List Slot) → slots_registers (slots_of names slots) ≡ registers_in slots
slots_counted names [] = refl
slots_counted names (G.Register v ∷ slots) =
    let e = slots_counted names slots in
    let k : registers_in (G.Register v ∷ slots) ≡ 1 + registers_in slots = sum_by-cons (λ x. cond (is_register x) 1 0) (G.Register v) slots in
    omega (arith, e, k)
slots_counted names (G.Boxed n ∷ slots) =
    let e = slots_counted names slots in
    let k : registers_in (G.Boxed n ∷ slots) ≡ 0 + registers_in slots = sum_by-cons (λ x. cond (is_register x) 1 0) (G.Boxed n) slots in
    omega (arith, e, k)

registers_more : (xs : List (P.Frame T.Point)) (x : P.Frame T.Point) → frames_registers (xs ++ x ∷ []) ≡ frames_registers xs + slots_registers x.slots
registers_more [] x = omega arith
registers_more (y ∷ ys) x = let e = registers_more ys x in omega (arith, e)

-- the registers of frames are counted
pub registers_counted : (names : Names) (frames : List Frame) → frames_registers (frames_of names frames) ≡ frames_count frames
registers_counted names [] = refl
registers_counted names (f ∷ fs) =
    let e : frames_registers (frames_of names (f ∷ fs)) ≡ frames_registers (frames_of names fs) + slots_registers (slots_of names f.slots.items) =
    ap frames_registers (reverse-append (frame_of names f ∷ []) (map (frame_of names) fs)) ∙ registers_more (frames_of names fs) (frame_of names f) in
    let i = registers_counted names fs in
    let k = slots_counted names f.slots.items in
    let n : frames_count (f ∷ fs) ≡ frame_count f + frames_count fs = sum_by-cons frame_count f fs in
    omega (arith, e, i, k, n)

-- ---- where a frame stands in a program that runs

module _ (names : Names) (table : Table) (index : Index) (runs : Runs names table (items_of names index)) where
  -- the names of a function are told
  pub told_in : (f : Function) → IsOwn index f → IsTold names f.parameters.items
  told_in f own = record {
    apart = runs.spells.apart;
    unnamed = λ k p e w x.
        (runs.told (names f.word.name) (function_of names f) (own names runs.spells.apart)).each k (parameter_of names p)
        (slice_get-map (parameter_of names) f.parameters.items k ∙ ap (option_map (parameter_of names)) e)
        (ap (option_map (λ (y : Word). text_of names y.name)) w) x;
  }

  numbers_at_phase : (f : Function) → IsOwn index f → (phase : Phase) (path : T.Path) → StoodNumbers (items_of names index) (stood_at (Some (function_of names f)) (point_at phase path))
  numbers_at_phase f own F.Here path = stands_numbers (items_of names index) runs.numbers (names f.word.name) (function_of names f) (own names runs.spells.apart) path
  numbers_at_phase f own F.Arrival path = stands_numbers (items_of names index) runs.numbers (names f.word.name) (function_of names f) (own names runs.spells.apart) path
  numbers_at_phase f own F.End path = tt

  served_at_phase : (f : Function) → IsOwn index f → (phase : Phase) (path : T.Path) → is_served_stood (stood_at (Some (function_of names f)) (point_at phase path)) ≡ true
  served_at_phase f own F.Here path = stands_served (items_of names index) runs.served (names f.word.name) (function_of names f) (own names runs.spells.apart) path
  served_at_phase f own F.Arrival path = refl
  served_at_phase f own F.End path = refl

  pub texts_in : (frame : Frame) → IsOwn index frame.function.now → IsTexts names index table frame
  texts_in frame own = record {
    told = told_in frame.function.now own;
    spells = runs.spells;
    numbers = numbers_at_phase frame.function.now own frame.point.phase (path_of frame.point.path.items);
  }

  pub serving_in : (frame : Frame) → IsOwn index frame.function.now → IsServing names index frame
  serving_in frame own = record {
    program = runs.served;
    stood = served_at_phase frame.function.now own frame.point.phase (path_of frame.point.path.items);
  }

-- where no name has the empty text, a program runs by them
pub runs_by : (names : Names) (table : Table) (p : Program) → Spells table names → ((x : Name) → bytes_eq [] (names x) ≡ false) → is_served_program p ≡ true → ProgramNumbers p → Runs names table p
runs_by names table p spells told served numbers = record {
  spells = spells;
  told = λ x f e. record { each = λ k q i j y. told y };
  served = served;
  numbers = numbers;
}
