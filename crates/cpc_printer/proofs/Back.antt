-- What is printed of a program that was read is read again as an equal one.
use Rattle.std.proofs.Common.{◌≡◌, ℕ, ◌≤◌, ◌<◌, Bool, true, false, List, [], ◌∷◌, ◌++◌, map, All, IfOk, Result, Ok, Err, Vec, Global, nat_lt, refl, sym, subst, ◌∙◌, arith}
use Rattle.std.proofs.lemmas.List.Elements.{All-map}
use Rattle.cpc_base.specs.Bytes.{Text}
use Rattle.cpc_base.specs.declared.stop.Place.{Place}
use Rattle.cpc_base.specs.declared.stop.Dialect.{Dialect}
use Rattle.cpc_base.specs.declared.stop.Dialect.TheVariants as D
use Rattle.cpc_tree.specs.Tokens.{Lexeme, Placed}
use Rattle.cpc_tree.specs.Cut.{text_start, place_behind, Row, nothing, a_space, a_token}
use Rattle.cpc_tree.specs.Spelling.{IsSpellable, CutsTo}
use Rattle.cpc_tree.specs.Syntax.{Program}
use Rattle.cpc_tree.specs.Located.{LItem, LProgram, bare, bare_item}
use Rattle.cpc_tree.specs.Locate.{located}
use Rattle.cpc_tree.specs.Erase.{program_of}
use Rattle.cpc_tree.specs.Grammar.{nesting_limit, Parses}
use Rattle.cpc_tree.specs.ItemGrammar.{ReadsItems}
use Rattle.cpc_tree.specs.ItemPrint.{Printable, program_row, program_depth, lexemes}
use Rattle.cpc_tree.specs.declared.program.Program as GProgram
use Rattle.cpc_tree.proofs.Known.{AreBytes, row_spellable}
use Rattle.cpc_tree.proofs.Places.{bare_program}
use Rattle.cpc_tree.proofs.Behind.{behind_none}
use Rattle.cpc_printer_layout.specs.Layout.{IsLaidOut}
use Rattle.cpc_printer_laws.proofs.LeastPrograms.{prints_least}
use Rattle.cpc_printer_laws.proofs.FitPrograms.{read_spellable}
use Rattle.cpc_printer_laws.proofs.ProgramsRead.{prints_back}
use Rattle.cpc_printer.specs.Style.{is_tight_for, printed_row, IsPrint, ReadsBack}

behind_both : (v w : Text) (p : Place) → place_behind p (v ++ w) ≡ place_behind (place_behind p v) w
unfolding place_behind
behind_both [] w p = refl
behind_both (b ∷ v) w p = behind_both v w _

-- a row of the whole text ends behind its last byte
pub row_end : {dialect : Dialect} {p q : Place} {t : Text} {list : List Placed} {rest : Text} → Row dialect p t list q rest → rest ≡ [] → q ≡ place_behind p t
row_end (nothing p t) e = rw e (sym (behind_none p))
row_end (a_space v p q u rest list l row) e = row_end row e ∙ sym (behind_both v u p)
row_end (a_token v x p q u rest list l row) e = row_end row e ∙ sym (behind_both v u p)

-- 256 levels are read in each dialect
least_limit : (dialect : Dialect) → 256 ≤ nesting_limit dialect
least_limit D.Cpc = omega arith
least_limit D.Event = omega arith

pub not_above : (n : ℕ) → nat_lt 256 n ≡ false → n ≤ 256
not_above n e = grind arith

-- the style keeps the nesting within the limit
fits : (dialect : Dialect) (program : Program) (h : ℕ) (tight : Bool) → is_tight_for program ≡ tight → program_depth true program ≤ h → h ≤ nesting_limit dialect → program_depth tight program ≤ nesting_limit dialect
fits dialect program h true e a b = omega (arith, a, b)
fits dialect program h false e a b = let l = least_limit dialect in let m = not_above _ e in omega (arith, l, m)

-- a print of a program that was read from a text is read again
module _ (dialect : Dialect) (text : Text) (p : LProgram) (bytes : AreBytes text) (parses : Parses dialect text p) (printed : Text) (print : IsPrint printed (bare p)) where
  spelled : All (λ x. IsSpellable dialect x) (lexemes parses.0)
  spelled = All-map (λ x. IsSpellable dialect x) (λ (t : Placed). t.lexeme) parses.0 (row_spellable parses.1.1 bytes)

  least : Printable (bare p) × (program_depth true (bare p) ≤ parses.2.1)
  least = prints_least parses.0 p.items parses.2.1 parses.2.3

  abbrev tight : Bool
  tight = is_tight_for (bare p)

  cut : (list : List Placed) × (end : Place) × Row dialect text_start printed list end [] × (lexemes list ≡ program_row tight (bare p))
  cut = print.cuts dialect (read_spellable dialect tight parses.0 p.items parses.2.1 spelled parses.2.3) text_start

  end : cut.1 ≡ place_behind text_start printed
  end = row_end cut.2 refl

  back : (xs : List LItem) × (map bare_item xs ≡ bare p) × ReadsItems cut.0 xs (program_depth tight (bare p))
  back = prints_back tight (bare p) cut.0 least.0 cut.3

  pub reads_back : ReadsBack dialect printed (bare p)
  reads_back = (
    record { items = back.0; end = place_behind text_start printed },
    (cut.0, (cut.1, cut.2), (refl, program_depth tight (bare p), fits dialect (bare p) parses.2.1 tight refl least.1 parses.2.2, back.2)),
    back.1,
  )

-- the same of a tree
pub tree_back : (program : GProgram.Program) (printed : Text) → IsPrint printed (program_of program) → (dialect : Dialect) (text : Text) → AreBytes text → Parses dialect text (located program) → ReadsBack dialect printed (program_of program)
tree_back program printed print dialect text bytes parses =
    subst (λ q. ReadsBack dialect printed q) (bare_program program) (reads_back dialect text (located program) bytes parses printed (subst (λ q. IsPrint printed q) (sym (bare_program program)) print))

-- a text of the tokens of a program in its style is a print of it
pub answer_print : {E : Type 0} (program : Program) (xs : List Lexeme) (r : Result (Vec ℕ Global) E) → xs ≡ printed_row program → IfOk r (λ bytes. IsLaidOut xs bytes.items)
    → IfOk r (λ bytes. (dialect : Dialect) → All (IsSpellable dialect) xs → CutsTo dialect bytes.items xs) → IfOk r (λ bytes. IsPrint bytes.items program)
answer_print program xs (Ok v) e laid cuts =
    record { laid = subst (λ ys. IsLaidOut ys v.items) e laid; cuts = subst (λ ys. (dialect : Dialect) → All (IsSpellable dialect) ys → CutsTo dialect v.items ys) e cuts }
answer_print program xs (Err f) e laid cuts = tt

-- the same of an answer that may be want of memory
pub answer_back : {E : Type 0} (program : GProgram.Program) (r : Result (Vec ℕ Global) E) → IfOk r (λ bytes. IsPrint bytes.items (program_of program))
    → IfOk r (λ bytes. (dialect : Dialect) (text : Text) → All (λ b. b < 256) text → Parses dialect text (located program) → ReadsBack dialect bytes.items (program_of program))
answer_back program (Ok v) print = λ dialect text bytes parses. tree_back program v.items print dialect text bytes parses
answer_back program (Err e) print = tt
