-- An accepted program is converted to a program that breaks no rule of the dialect Event.
use Rattle.std.proofs.Common.{◌≡◌, ◌∙◌, List, [], ◌∷◌, map, refl, arith}
use Rattle.std.proofs.lemmas.List.{length-map}
use Rattle.cpc_base.specs.declared.stop.Place.{Place}
use Rattle.cpc_base.specs.declared.stop.Dialect.TheVariants as D
use Rattle.cpc_tree.specs.Grammar.{IsProgram}
use Rattle.cpc_tree.specs.Located as L
use Rattle.cpc_tree.specs.Located.{LStmt, LItem, LStruct, LGlobal, LPrototype, LFunctionItem, LProgram, bare, bare_item, bare_stmt, bare_stmts}
use Rattle.cpc_tree.specs.Syntax.{Stmts, Block, Function, FunctionItem}
use Rattle.cpc_tree.specs.Tokens.{Placed}
use Rattle.cpc_tree.proofs.Options.{named_bare}
use Rattle.cpc_check_rules.specs.Rules.{breaks}
use Rattle.cpc_check_laws.proofs.Sound.Accepted.{accepted_is_typed}
use Rattle.cpc_check_laws.proofs.Sound.Agendas.{Each}
use Rattle.cpc_check_laws.proofs.Sound.Grammar.{items_shape}
use Rattle.cpc_check_laws.proofs.Sound.Paths.{function_typed}
use Rattle.cpc_check_laws.proofs.Sound.Programs.{BodyShape, ItemShape}
use Rattle.cpc_convert_common.specs.Members.{Has, OnTop, Below}
use Rattle.cpc_forms.specs.Graph.{node_of}
use Rattle.cpc_forms.specs.Order.{points}
use Rattle.cpc_convert_routines.specs.Named.{IsCps}
use Rattle.cpc_lifted_laws.proofs.Accepted.Names.{accepted_has_names, accepted_is_named}
use Rattle.cpc_lifted_laws.proofs.Accepted.Pieces.{accepted_suits_pieces}
use Rattle.cpc_lifted_laws.specs.Piece.Known.{CpsKnown}
use Rattle.cpc_chains_laws.proofs.Rules.Theorem.{source_of, bodies_suffice}
use Rattle.cpc_lifted_laws.proofs.Shape.Calls.{CpsTyped}
use Rattle.cpc_chains_laws.proofs.Bodies.Spawners.{spawners_fine}
use Rattle.cpc_chains_laws.specs.RowBodies.Laws.{BodiesAreFine, ConvertedUnbroken}
use Rattle.cpc_chains_laws.proofs.RowBodies.Bodies.{piece_fine}
use Rattle.cpc_chains_laws.proofs.RowBodies.Nodes.{IsFormed}

-- ---- the form of a function

body_block : (s : LStmt) → BodyShape s → (ss : Stmts) × (bare_stmt s ≡ Block ss)
body_block (L.Block q ss) h = (bare_stmts ss, refl)
body_block s h = absurd h

items_formed : (xs : List LItem) → Each ItemShape xs → (f : Function) → Has (FunctionItem f) (map bare_item xs) → IsFormed f
items_formed [] s f h = elim h [ ]
items_formed (LStruct tag fs ∷ xs) s f (Below _ _ _ h) = items_formed xs s.1 f h
items_formed (LGlobal x t o ∷ xs) s f (Below _ _ _ h) = items_formed xs s.1 f h
items_formed (LPrototype q m x r ps ∷ xs) s f (Below _ _ _ h) = items_formed xs s.1 f h
items_formed (LFunctionItem g ∷ xs) s _ (OnTop _ _) = let b = body_block g.body s.0.2 in record { statements = b.0; is_block = b.1; named = named_bare g.parameters ∙ s.0.1 }
items_formed (LFunctionItem g ∷ xs) s f (Below _ _ _ h) = items_formed xs s.1 f h

-- ---- what is known of the cps functions of an accepted program

module _ (list : List Placed) (end : Place) (p : LProgram) (read : IsProgram D.Cpc list end p) (h : breaks D.Cpc p ≡ []) (f : Function) (c : IsCps (bare p) f) where
  known : CpsKnown (bare p) f
  known =
      let names = accepted_has_names list end p read h in
      let found = (names.functions f c.has).found in
      let suits = accepted_suits_pieces list end p read h f c.has in
      record {
        names = accepted_is_named list end p read h;
        found = record { cps = c; named = found };
        few_nodes = let few = names.points f c.has c.mode in let e = length-map (points f.body) (node_of (bare p) f) in omega (arith, few, e);
        few_variables = (names.functions f c.has).few;
        primitives = names.primitives;
        addresses = suits.addresses;
        stays = ((accepted_is_typed D.Cpc list end p read h).functions f.called f found).control;
        results = suits.results;
      }

  typed : CpsTyped (bare p) f
  typed =
      let names = accepted_has_names list end p read h in
      let t = (accepted_is_typed D.Cpc list end p read h).functions f.called f (names.functions f c.has).found in
      record { named = accepted_is_named list end p read h; names = names; cps = c; typed = λ path. function_typed D.Cpc (bare p) f path t.body; stays = t.control }

pub bodies_are_fine : BodiesAreFine
bodies_are_fine list end p read h = record {
  pieces = λ f c l owner items k.
      piece_fine (bare p) (source_of list end p read h) f (known list end p read h f c) (typed list end p read h f c) (items_formed p.items (items_shape list p.items read.1 read.3) f c.has) (accepted_suits_pieces list end p read h f c.has).cells l owner items k;
  spawners = λ f c items k. spawners_fine list end p read h f c items k;
}

pub converted_unbroken : ConvertedUnbroken
converted_unbroken list end p read h = bodies_suffice list end p read h (bodies_are_fine list end p read h)
