use Rattle.std.proofs.Common.{List, map, reverse, refl, sym, ap, subst, ◌∙◌, arith}
use Rattle.std.proofs.lemmas.List.{length-map}
use Rattle.cpc_tree.specs.Erase.{item_of}
use Rattle.cpc_tree.specs.declared.program.Item as GItem
use Rattle.cpc_history_marks.specs.Views.{told_of}
use Rattle.cpc_run_globals.specs.Layouts.{AreLayouts}
use Rattle.cpc_run_code.specs.declared.items.Item.TheVariants as I
use Rattle.cpc_meaning.specs.Agenda as A
use Rattle.cpc_run_code.proofs.Coded.{runs_given}
use Rattle.cpc_run.proofs.Ends.{main_is, main_ready}
use Rattle.cpc_run_shown.proofs.Marks.{nothing_shown}
use Rattle.cpc_base.proofs.Lists.{none_not_some}
use Rattle.cpc_run.proofs.looped.Loop.open.Goals as goal

pub returns-in-Ok-clause-opened : goal.returns-in-Ok-clause-opened
returns-in-Ok-clause-opened c = λ names given.
    let program = c.args.program.now in
    let apart = given.spelled.spells.apart in
    let P : List GItem.Item → Type 0 = λ xs. AreLayouts c.over-layouts.result names (reverse (map (item_of names) xs)) in
    let are : AreLayouts c.over-layouts.result names (reverse (map (item_of names) program.items.items)) = subst P c.requires.index (c.over-layouts.ensures names apart) in
    record {
      fits = record { runs = c.new-machine.ensures.runs names given; main = main_is names program.names c.in-Some.main given.spelled.spells c.in-Some.ensures.some; serves = c.new-jobs.ensures.serves names (runs_given names program program.names _ refl refl given) are; items = c.new-jobs.ensures.items names ∙ sym (c.new-machine.ensures.items names) };
      items = c.new-machine.ensures.items names;
      stands = record {
        store = sym (c.in_ok-store.ensures names apart are) ∙ sym (c.new-machine.ensures.store names);
        running = refl;
        lists = main_ready names (record { agenda = c.ready.new.self; polls = c.args.polls }) c.new-jobs.result c.args.polls.now c.args.section_steps refl c.new-jobs.ensures.bound (c.new-jobs.ensures.holds names) (c.in-Ok.ensures.ready names ∙ ap (A.ready_one I.Main) (c.new-agenda.ensures.lists names));
        printed_so = nothing_shown c.args.trace;
        going = refl;
      };
      polls = sym (length-map c.args.polls.now told_of);
    }

pub returns-in-Ok-clause-steady : goal.returns-in-Ok-clause-steady
returns-in-Ok-clause-steady c = record { well = c.new-machine.ensures.well; idle = λ e. c.new-machine.ensures.idle; fits = c.requires.polls; counted = omega arith; numbered = omega arith }

pub unreachable-requires : goal.unreachable-requires
unreachable-requires c = let (main, there) = c.requires.main in none_not_some main (sym c.in_default.ensures.none ∙ there)
