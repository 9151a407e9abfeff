-- What is printed of an event program is read back as the event program.
use Rattle.std.proofs.Common.{◌≡◌, ◌≤◌, Bool, true, false, List, [], map, All, refl, arith}
use Rattle.std.proofs.lemmas.List.Elements.{All-map}
use Rattle.cpc_base.specs.Bytes.{Text}
use Rattle.cpc_base.specs.declared.stop.Place.{Place}
use Rattle.cpc_base.specs.declared.stop.Dialect.{Dialect}
use Rattle.cpc_base.specs.declared.stop.Dialect.TheVariants as D
use Rattle.cpc_tree.specs.Tokens.{Placed}
use Rattle.cpc_tree.specs.Cut.{text_start, place_behind, Row}
use Rattle.cpc_tree.specs.Spelling.{IsSpellable}
use Rattle.cpc_tree.specs.Syntax.{Program}
use Rattle.cpc_tree.specs.Located.{LItem, LProgram, bare, bare_item}
use Rattle.cpc_tree.specs.Grammar.{nesting_limit, Parses}
use Rattle.cpc_tree.specs.ItemGrammar.{ReadsItems}
use Rattle.cpc_tree.specs.ItemPrint.{Printable, program_row, program_depth, lexemes}
use Rattle.cpc_tree.proofs.Known.{AreBytes, row_spellable}
use Rattle.cpc_printer_laws.proofs.Fitting.{spelled_all, all_spelled}
use Rattle.cpc_printer_laws.proofs.LeastPrograms.{prints_least}
use Rattle.cpc_printer_laws.proofs.FitPrograms.{read_spellable}
use Rattle.cpc_printer_laws.proofs.ProgramsRead.{prints_back}
use Rattle.cpc_printer.specs.Style.{is_tight_for, printed_row, IsPrint, ReadsBack}
use Rattle.cpc_printer.proofs.Back.{not_above, row_end}
use Rattle.cpc_chains_event.specs.Converted.{converted}
use Rattle.cpc_lifted_laws.proofs.Accepted.Names.{accepted_has_names, accepted_is_named}
use Rattle.cpc_lifted_laws.proofs.Accepted.Points.{accepted_positions_known}
use Rattle.cpc_chains_print_laws.specs.Laws.{ConvertedReadsBack}
use Rattle.cpc_chains_print_laws.proofs.Items.{Prints}
use Rattle.cpc_chains_print_laws.proofs.Programs.{converted_prints}

-- ---- any program

-- a print of a program that can be printed is read as the program, where its tokens can be spelled and it nests no deeper than is read
module _ (dialect : Dialect) (q : Program) (can : Printable q) (spelled : All (λ x. IsSpellable dialect x) (printed_row q)) (deep : program_depth (is_tight_for q) q ≤ nesting_limit dialect) (printed : Text) (print : IsPrint printed q) where
  -- the tokens of the print
  cut : (list : List Placed) × (end : Place) × Row dialect text_start printed list end [] × (lexemes list ≡ printed_row q)
  cut = print.cuts dialect spelled text_start

  -- they end behind its last byte
  end : cut.1 ≡ place_behind text_start printed
  end = row_end cut.2 refl

  -- they are read as the program
  back : (xs : List LItem) × (map bare_item xs ≡ q) × ReadsItems cut.0 xs (program_depth (is_tight_for q) q)
  back = prints_back (is_tight_for q) q cut.0 can cut.3

  -- so the print is
  pub print_reads_back : ReadsBack dialect printed q
  print_reads_back = (record { items = back.0; end = place_behind text_start printed }, (cut.0, (cut.1, cut.2), (refl, program_depth (is_tight_for q) q, deep, back.2)), back.1)

-- ---- event programs

-- What a text is read as can be printed in either style.
read_prints : (tight : Bool) (text : Text) (p : LProgram) → AreBytes text → Parses D.Cpc text p → Prints D.Cpc tight 256 (bare p)
read_prints tight text p bytes parses =
    let least = prints_least parses.0 p.items parses.2.1 parses.2.3 in
    let limit = parses.2.2 in
    let deep = least.1 in
    let spelled = All-map (λ x. IsSpellable D.Cpc x) (λ (t : Placed). t.lexeme) parses.0 (row_spellable parses.1.1 bytes) in
    record {
      printable = least.0;
      spelled = all_spelled D.Cpc (program_row tight (bare p)) (read_spellable D.Cpc tight parses.0 p.items parses.2.1 spelled parses.2.3);
      deep = omega (arith, limit, deep);
    }

-- the style keeps the nesting within the limit
within : (q : Program) (tight : Bool) → is_tight_for q ≡ tight → program_depth true q ≤ 264 → program_depth tight q ≤ nesting_limit D.Event
within q true e a = omega (arith, a)
within q false e a = let m = not_above _ e in omega (arith, m)

-- so a print of an event program that can be printed so is read back
event_reads_back : (q : Program) → Prints D.Event (is_tight_for q) 264 q → (printed : Text) → IsPrint printed q → ReadsBack D.Event printed q
event_reads_back q a printed print = print_reads_back D.Event q a.printable (spelled_all D.Event (printed_row q) a.spelled) (within q (is_tight_for q) refl a.deep) printed print

-- a print of the event program of an accepted text is read back as the event program
pub converted_reads_back : ConvertedReadsBack
converted_reads_back text p bytes parses unbroken printed print =
    let list = parses.0 in
    let end = place_behind text_start text in
    let names = accepted_has_names list end p parses.2 unbroken in
    let named = accepted_is_named list end p parses.2 unbroken in
    let positions = accepted_positions_known list end p parses.2 unbroken in
    let tight = is_tight_for (converted (bare p)) in
    event_reads_back (converted (bare p)) (converted_prints tight (bare p) names named positions (read_prints tight text p bytes parses)) printed print
