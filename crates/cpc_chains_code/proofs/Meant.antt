-- What is written is the event program.
use Rattle.std.proofs.Common.{◌≡◌, List, [], ◌∷◌, ◌++◌, map, get_or, All, append_assoc, refl, sym, ap, subst, ◌∙◌}
use Rattle.std.proofs.lemmas.Simd.{map-map}
use Rattle.std.proofs.Math.ListN.{get_or-append}
use Rattle.std.proofs.Math.Logic.{∥∥₁_elim}
use Rattle.cpc_tree.specs.Erase.{Names, Table, in_table, item_of, program_of}
use Rattle.cpc_tree.specs.Syntax.{Item, FunctionItem, Program}
use Rattle.cpc_convert_common.specs.Converted.{prototype}
use Rattle.cpc_convert_needs_laws.specs.Names.{HasNames}
use Rattle.cpc_chains_store_laws.specs.Driver.{drive_function}
use Rattle.cpc_convert_routines.specs.Routines.{Routine}
use Rattle.cpc_chains_event.specs.Frames.{any_frame}
use Rattle.cpc_chains_event.specs.Converted.{all_structs, all_made, converted_with, converted}
use Rattle.cpc_convert_routines.specs.Kept.{kept_items, routines}
use Rattle.cpc_forms_code.specs.Programs.{IsSpeakable, IsSpelling}
use Rattle.cpc_forms_code.specs.declared.lifted.LiftedFunction.{LiftedFunction}
use Rattle.cpc_forms_code.specs.declared.lifted.LiftedProgram.{LiftedProgram}
use Rattle.cpc_convert_names.specs.Tables.{HasGrown, Spells, AreWithin}
use Rattle.cpc_convert_names.specs.Called.{IsNamed}
use Rattle.cpc_convert_names.specs.Book.{IsBook}
use Rattle.cpc_convert_names.specs.declared.called.Called.{Called}
use Rattle.cpc_convert_names.specs.declared.book.Book.{Book}
use Rattle.cpc_convert_needs_laws.specs.Known.{IsAlike, IsRoutine}
use Rattle.cpc_convert_needs_laws.specs.Whole.{IsComplete}
use Rattle.cpc_convert_needs_laws.specs.Laws.{AreTexts, AreOf, AreAlike, AreRoutines, AreComplete, routine_in}
use Rattle.cpc_convert_needs_laws.proofs.Alike.{lifted_are_alike}
use Rattle.cpc_convert_needs_laws.proofs.Routines.{lifted_are_routines, lifted_are_complete}
use Rattle.cpc_chains_code.specs.Given.{AreGiven, routines_by}
use Rattle.cpc_chains_code.specs.Made.{made_behind, with_made}
use Rattle.cpc_chains_code.proofs.Firsts.{unmapped}
use Rattle.cpc_chains_code.proofs.Sets.{program_set}

-- ---- parts behind one another

pub two_parts : (old a b one two : List Item) → one ≡ old ++ a → two ≡ one ++ b → two ≡ old ++ (a ++ b)
two_parts old a b one two e f = f ∙ (ap (λ u. u ++ b) e ∙ append_assoc old a b)

pub three_parts : (old a b c one two three : List Item) → one ≡ old ++ a → two ≡ one ++ b → three ≡ two ++ c → three ≡ old ++ (a ++ (b ++ c))
three_parts old a b c one two three e f g = two_parts old a (b ++ c) one three e (two_parts one b c two three f g)

pub four_parts : (old a b c d one two three four : List Item) → one ≡ old ++ a → two ≡ one ++ b → three ≡ two ++ c → four ≡ three ++ d → four ≡ old ++ (a ++ (b ++ (c ++ d)))
four_parts old a b c d one two three four e f g h = two_parts old a (b ++ (c ++ d)) one four e (three_parts one b c d two three four f g h)

-- what is written after nothing
pub after_none : (old new a : List Item) → old ≡ [] → new ≡ old ++ a → new ≡ a
after_none old new a e f = f ∙ ap (λ u. u ++ a) e

-- where there are cps functions, the parts are the event program
pub made_is : (p : Program) (rs : List Routine) → (rs ≡ [] → ⊥) → with_made p rs ≡ converted_with p rs
made_is p [] some = absurd (some refl)
made_is p (r ∷ rs) some =
    let structs = all_structs p (r ∷ rs) in
    let prototypes = map prototype (all_made p (r ∷ rs)) in
    let driver = FunctionItem drive_function ∷ [] in
    let rest = kept_items p ++ made_behind p (r ∷ rs) in
    ap (λ u. any_frame ∷ u) (append_assoc structs (prototypes ++ driver) rest ∙ ap (λ u. structs ++ u) (append_assoc prototypes driver rest))

-- ---- what is known of a lifted program

-- what holds of the lifted functions holds of each function of a book of them
over_book : (P : LiftedFunction → Type 0) (cs : List Called) (ls : List LiftedFunction) → map (λ (c : Called). c.lifted.now) cs ≡ ls → All P ls → All (λ (c : Called). P c.lifted.now) cs
over_book P cs ls is all = unmapped P cs (subst (All P) (sym is) all)

module _ (l : LiftedProgram) (from to : Names) (b : Book) (is : map (λ (c : Called). c.lifted.now) b.functions.items ≡ l.functions.items) where
  given : IsSpelling from l.source.now → IsBook l.source.now.names to b → AreAlike l from to → AreRoutines l from to b.functions.items → AreComplete l from b.functions.items
      → AreGiven l.source.now.names from to (program_of l.source.now) b
  given spelling book alike routines complete = record {
    spells = spelling.spells;
    book = book;
    named = subst (All (IsNamed l.source.now.names to)) (sym is) alike.named;
    alike = subst (All (IsAlike from to)) (sym is) alike.alike;
    routines =
        over_book (λ (f : LiftedFunction). IsRoutine l.source.now.names from to (program_of l.source.now) b.functions.items f (routine_in from (program_of l.source.now) f)) b.functions.items l.functions.items is routines.each;
    complete = over_book (λ (f : LiftedFunction). IsComplete from (program_of l.source.now) f (routine_in from (program_of l.source.now) f)) b.functions.items l.functions.items is complete.each;
    entries = complete.entries;
  }

-- ---- names

-- a name of the first table means the same in one that has grown
spells_first : (a b : Table) → HasGrown a b → Spells a (in_table b)
spells_first a b g = record { spelled = λ n lt. ap (λ u. get_or u n.0 []) g.is ∙ get_or-append a g.more [] n.0 lt }

-- ---- the event program

module _ (l : LiftedProgram) (names : Table) (b : Book) (is : map (λ (c : Called). c.lifted.now) b.functions.items ≡ l.functions.items) (grown : HasGrown l.source.now.names names)
    (booked : (to : Names) → Spells names to → All (IsNamed l.source.now.names to) l.functions.items → IsBook l.source.now.names to b) (out : Names → List Item)
    (written : (from to : Names) → AreGiven l.source.now.names from to (program_of l.source.now) b → map (item_of (in_table l.source.now.names)) l.source.now.items.items ≡ map (item_of to) l.source.now.items.items
    → out to ≡ converted_with (program_of l.source.now) (routines_by from (program_of l.source.now) b)) where
  are_routines : (from : Names) → AreRoutines l from (in_table names) b.functions.items → routines_by from (program_of l.source.now) b ≡ routines (program_of l.source.now)
  are_routines from routines =
      sym (map-map (routine_in from (program_of l.source.now)) (λ (c : Called). c.lifted.now) b.functions.items)
      ∙ (ap (map (routine_in from (program_of l.source.now))) is ∙ sym routines.routines)

  -- by texts that tell the names of the source
  converts_by : AreOf l → AreWithin l.source.now → HasNames (program_of l.source.now) → (from : Names) → IsSpelling from l.source.now → out (in_table names) ≡ converted (program_of l.source.now)
  converts_by of within has from spelling =
      let to : Names = in_table names in
      let spells : Spells l.source.now.names to = spells_first l.source.now.names names grown in
      let texts : AreTexts l.source.now from to = record { spelling = spelling; within = within; has = spells } in
      ∥∥₁_elim (lifted_are_alike l from to texts of) (program_set _ _) (λ (alike : AreAlike l from to).
      ∥∥₁_elim (lifted_are_routines l from to b.functions.items texts of has is) (program_set _ _) (λ (routines : AreRoutines l from to b.functions.items).
      ∥∥₁_elim (lifted_are_complete l from to b.functions.items texts of has is) (program_set _ _) (λ (complete : AreComplete l from b.functions.items).
      written from to (given l from to b is spelling (booked to (record { spelled = λ n lt. refl }) alike.named) alike routines complete) (sym (within to spells))
      ∙ ap (converted_with (program_of l.source.now)) (are_routines from routines))))

  pub converts : IsSpeakable l.source.now → AreWithin l.source.now → AreOf l → HasNames (program_of l.source.now) → out (in_table names) ≡ converted (program_of l.source.now)
  converts speakable within of has = ∥∥₁_elim speakable (program_set _ _) (λ (s : (from : Names) × IsSpelling from l.source.now). converts_by of within has s.0 s.1)
