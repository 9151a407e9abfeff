-- What is known of one function of a book.
use Rattle.std.proofs.Common.{◌≡◌, ℕ, ◌<◌, length, get_or, All, List, sym, subst}
use Rattle.std.proofs.lemmas.List.Elements.{All-get_or}
use Rattle.cpc_tree.specs.Erase.{Names, Table}
use Rattle.cpc_tree.specs.Syntax.{Program}
use Rattle.cpc_convert_names.specs.Called.{AreCalled}
use Rattle.cpc_convert_names.specs.Book.{IsBook}
use Rattle.cpc_convert_names.specs.declared.called.Called.{Called}
use Rattle.cpc_convert_names.specs.declared.book.Book.{Book}
use Rattle.cpc_convert_needs_laws.specs.Known.{IsAlike, IsRoutine}
use Rattle.cpc_convert_needs_laws.specs.Whole.{IsComplete}
use Rattle.cpc_chains_pieces.specs.Around.{Stands}
use Rattle.cpc_chains_pieces.specs.ChainsLinesAround.{Around}
use Rattle.cpc_chains_code.specs.Given.{AreGiven, lifted_by, routine_by}

-- what holds of all functions holds of one of them
pub one_of : (P : Called → Type 0) (cs : List Called) (i : ℕ) (c : Called) → i < length cs → c ≡ get_or cs i c → All P cs → P c
one_of P cs i c lt is all = subst P (sym is) (All-get_or P cs i c lt all)

module _ (source : Table) (from to : Names) (p : Program) (b : Book) (g : AreGiven source from to p b) (a : Around) (i : ℕ) (c : Called) (texts : a.texts.now ≡ source) (book : a.book.now ≡ b) (called : a.called.now ≡ c)
    (lt : i < length b.functions.items) (is : c ≡ get_or b.functions.items i c) where
  -- its lines can be written
  pub stands : Stands source from to p (routine_by from p c) a
  stands = record {
    texts = texts;
    spells = g.spells;
    book = subst (IsBook source to) (sym book) g.book;
    functions = subst (λ (x : Book). All (IsAlike from to) (lifted_by x)) (sym book) g.alike;
    called = subst (AreCalled to) (sym called) (one_of (AreCalled to) b.functions.items i c lt is g.book.functions);
    routine =
        subst (λ (x : Book). IsRoutine source from to p x.functions.items a.called.now.lifted.now (routine_by from p c)) (sym book)
        (subst (λ (x : Called). IsRoutine source from to p b.functions.items x.lifted.now (routine_by from p c)) (sym called)
        (one_of (λ (x : Called). IsRoutine source from to p b.functions.items x.lifted.now (routine_by from p x)) b.functions.items i c lt is g.routines));
  }

  -- and its pieces
  pub complete : IsComplete from p a.called.now.lifted.now (routine_by from p c)
  complete = subst (λ (x : Called). IsComplete from p x.lifted.now (routine_by from p c)) (sym called) (one_of (λ (x : Called). IsComplete from p x.lifted.now (routine_by from p x)) b.functions.items i c lt is g.complete)

  -- and all is known of the functions around it
  pub given : AreGiven source from to p a.book.now
  given = subst (AreGiven source from to p) (sym book) g
