-- What is printed of the event program of an accepted program is accepted as an event program that has the same runs.
use Rattle.std.proofs.Common.{◌≡◌, ◌<◌, All, sym, ap, subst, ◌∙◌}
use Rattle.cpc_base.specs.Bytes.{Text}
use Rattle.cpc_base.specs.declared.stop.Dialect.TheVariants as D
use Rattle.cpc_tree.specs.declared.program.Program as GProgram
use Rattle.cpc_tree.specs.Syntax.{Program}
use Rattle.cpc_tree.specs.Located.{LProgram, bare}
use Rattle.cpc_tree.specs.Erase.{program_of}
use Rattle.cpc_tree.specs.Locate.{located}
use Rattle.cpc_tree.proofs.Places.{bare_program}
use Rattle.cpc_printer.specs.Style.{IsPrint}
use Rattle.cpc_meaning.specs.Runs.{SameRuns, Within}
use Rattle.cpc_chains_event.specs.Converted.{converted}
use Rattle.cpc_lifted_laws.specs.Accepted.Accepted.{OfAccepted}
use Rattle.cpc_lifted_laws.specs.Accepted.Names.{HasNames}
use Rattle.cpc_lifted_laws.proofs.Accepted.Names.{accepted_has_names}
use Rattle.cpc_chains_laws.specs.Runs.Laws.{ConvertedHasSameRuns}
use Rattle.cpc_chains_print_laws.proofs.Back.{converted_reads_back}
use Rattle.cpc_chains_laws.specs.Rules.Laws.{Unbroken}
use Rattle.cpc_chains_laws.proofs.RowBodies.Theorem.{converted_unbroken}
use Rattle.cpc_chains_laws.specs.Shape.Shape.{Shape}
use Rattle.cpc_chains_laws.proofs.Shape.Shape.{accepted_shape}
use Rattle.cpc_chains_laws.specs.Leak.Laws.{NoLeak, ConvertedRests}
use Rattle.cpc_check.specs.Accepted.{Accepts, IsWithin}
use Rattle.cpc_forms_code.specs.Programs.{IsSpeakable}
use Rattle.cpc_translate.specs.Passes.{IsGiven}
use Rattle.cpc_translate.proofs.Tables.{are_within}

module _ (text : Text) (program : GProgram.Program) (accepted : Accepts D.Cpc text (located program)) where
  abbrev own : Program
  own = program_of program

  -- what is had of each accepted program is had of this one
  had : (Holds : Program → Type 0) → OfAccepted Holds → Holds own
  had Holds law = let r = accepted.parses in subst Holds (bare_program program) (law r.0 _ (located program) r.2 accepted.unbroken)

  -- the same, where it is said of the event program, of a program that is equal to that
  equals : (Holds : Program → Type 0) (q : Program) → q ≡ converted own → Holds (converted own) → Holds q
  equals Holds q e h = subst Holds (sym e) h

  -- what is printed is read as the event program, which breaks no rule of the dialect Event
  pub print_accepted : All (λ b. b < 256) text → (printed : Text) → IsPrint printed (converted own) → (q : LProgram) × Accepts D.Event printed q × (bare q ≡ converted own)
  print_accepted bytes printed print =
      let is : converted own ≡ converted (bare (located program)) = ap converted (sym (bare_program program)) in
      let r = converted_reads_back text (located program) bytes accepted.parses accepted.unbroken printed (subst (IsPrint printed) is print) in
      let same : bare r.0 ≡ converted own = r.2 ∙ sym is in
      (r.0, record { parses = r.1; unbroken = had Unbroken converted_unbroken r.0 same }, same)

  -- ---- event programs

  -- the names of the program are as those of accepted ones
  has_names : HasNames own
  has_names = had HasNames accepted_has_names

  -- what the passes are given
  pub is_given : IsSpeakable program → IsWithin program → IsGiven program
  is_given speakable within = record { speakable = speakable; within = are_within program within; names = has_names }

  -- a program that is equal to the event program has the same runs
  pub runs_same : ConvertedHasSameRuns → (q : Program) → q ≡ converted own → SameRuns own q
  runs_same law q e = equals (λ u. SameRuns own u) q e (had (λ p. SameRuns p (converted p) × Within p (converted p)) law).0

  -- within the cost
  pub runs_within : ConvertedHasSameRuns → (q : Program) → q ≡ converted own → Within own q
  runs_within law q e = equals (λ u. Within own u) q e (had (λ p. SameRuns p (converted p) × Within p (converted p)) law).1

  -- has the shape of an event program
  pub has_shape : (q : Program) → q ≡ converted own → Shape own q
  has_shape q e = equals (λ u. Shape own u) q e (had (λ p. Shape p (converted p)) accepted_shape)

  -- holds no more frames than the threads need
  pub has_no_leak : ConvertedRests → (q : Program) → q ≡ converted own → NoLeak own q
  has_no_leak law q e = equals (λ u. NoLeak own u) q e (had (λ p. NoLeak p (converted p)) law)
