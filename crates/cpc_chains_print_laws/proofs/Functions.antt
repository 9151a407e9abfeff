-- Functions and structs that are made can be printed, where what stands in them can.
use Rattle.std.proofs.Common.{◌≡◌, ℕ, ◌+◌, ◌≤◌, Bool, true, false, if◌then◌else◌, List, [], ◌∷◌, ◌++◌, Option, Some, None, codes, refl, sym, subst, arith}
use Rattle.cpc_base.specs.Bytes.{Text}
use Rattle.cpc_base.specs.declared.stop.Dialect.TheVariants as D
use Rattle.cpc_num.specs.declared.kinds.Kind.TheVariants.{Int}
use Rattle.cpc_tree.specs.declared.program.Mode.TheVariants.{Native}
use Rattle.cpc_tree.specs.declared.token.Punctuator.TheVariants as P
use Rattle.cpc_tree.specs.Tokens.{Mark}
use Rattle.cpc_tree.specs.Spelling.{IsName}
use Rattle.cpc_tree.specs.Syntax.{Ty, TyVoid, TyInt, TyCondvar, TyPointer, TyCode, TyStruct, TyArray, NoTy, AndTy, Block, Stmts, Parameter, Variable, StructItem}
use Rattle.cpc_tree.specs.TypeGrammar.{is_void, without}
use Rattle.cpc_tree.specs.ItemGrammar.{all_named}
use Rattle.cpc_tree.specs.TypePrint.{base_row, stars, star_count, param_row, rest_row, list_row, params_row, params_depth, param_depth, types_depth, declarator_row, declarator_depth, IsStarred, PrintableType, PrintableTypes, PrintableVariable, AllPrintable}
use Rattle.cpc_tree.specs.StmtPrint.{block_row}
use Rattle.cpc_tree.specs.ItemPrint.{fields_row, fields_depth, head_row, item_row, item_depth, AllVariables, PrintableItem}
use Rattle.cpc_tree.specs.Typing.{is_scalar}
use Rattle.cpc_printer_laws.proofs.Fitting.{Spelled, spelled_both}
use Rattle.cpc_chains_store_laws.specs.Driver.{any_pointer, piece_type, head_fields}
use Rattle.cpc_chains_event.specs.Pieces.{parameter_of}
use Rattle.cpc_chains_print_laws.proofs.Names as N
use Rattle.cpc_chains_print_laws.proofs.Items.{PrintsItem, PrintsFunction}
use Rattle.cpc_chains_print_laws.proofs.Known.{VariableMade, pointer_typed, pointer_deep}
use Rattle.cpc_chains_print_laws.proofs.Made.{BlockMade}
use Rattle.cpc_chains_print_laws.proofs.Types.{TypeSpelled, stars_spelled, declarator_made, param_made, param_within}

module _ (tight : Bool) (H : ℕ) (room : 8 ≤ H) where
  -- ---- types

  pub record TypeMade (t : Ty) : Type 0 where
    pub printable : PrintableVariable t
    pub typed : TypeSpelled D.Event tight t
    pub deep : declarator_depth true t ≤ H

  pub int_made : TypeMade (TyInt Int)
  unfolding PrintableVariable declarator_row declarator_depth
  int_made = record { printable = tt; typed = record { base = (tt, tt); rest = tt }; deep = omega (arith, room) }

  pub any_made : TypeMade any_pointer
  unfolding PrintableVariable declarator_row declarator_depth
  any_made = record { printable = tt; typed = record { base = (tt, tt); rest = (tt, tt) }; deep = omega (arith, room) }

  pub to_struct_made : (tag : Text) → IsName D.Event tag → TypeMade (TyPointer (TyStruct tag))
  unfolding PrintableVariable
  to_struct_made tag n = record { printable = tt; typed = pointer_typed tight H room tag n; deep = pointer_deep tight H room tag }

  any_list : (b : Bool) → Spelled D.Event (list_row b (AndTy any_pointer NoTy))
  unfolding list_row rest_row param_row
  any_list true = (tt, (tt, (tt, tt)))
  any_list false = (tt, (tt, tt))

  code_made : TypeMade piece_type
  unfolding PrintableVariable PrintableTypes PrintableType declarator_row declarator_depth types_depth param_depth
  code_made = record {
    printable = (tt, (tt, tt));
    typed = record { base = (tt, tt); rest = (tt, (tt, (tt, (tt, (tt, spelled_both D.Event (list_row tight (AndTy any_pointer NoTy)) (Mark P.RightParen ∷ []) (any_list tight) (tt, tt)))))) };
    deep = omega (arith, room);
  }

  pub variable_of_type : (x : Text) (t : Ty) → IsName D.Event x → TypeMade t → VariableMade tight H room (record { called = x; type = t })
  variable_of_type x t n a = record { name = n; printable = a.printable; typed = a.typed; deep = a.deep }

  -- ---- structs

  abbrev pub EachVariable : List Variable → Type 0
  EachVariable [] = Unit {0}
  EachVariable (x ∷ xs) = VariableMade tight H room x × EachVariable xs

  all_printable : (xs : List Variable) → EachVariable xs → AllVariables xs
  all_printable [] a = tt
  all_printable (x ∷ xs) a = (a.0.printable, all_printable xs a.1)

  fields_spelled : (xs : List Variable) → EachVariable xs → Spelled D.Event (fields_row tight xs)
  unfolding fields_row
  fields_spelled [] a = tt
  fields_spelled (x ∷ xs) a =
      let v = a.0 in
      spelled_both D.Event (base_row x.type) _ v.typed.base (spelled_both D.Event (declarator_row tight (Some x.called) x.type) _ (declarator_made D.Event tight x.called x.type v.name v.typed.rest) (tt, fields_spelled xs a.1))

  fields_deep : (xs : List Variable) → EachVariable xs → fields_depth true xs ≤ H
  unfolding fields_depth
  fields_deep [] a = omega (arith, room)
  fields_deep (x ∷ []) a = a.0.deep
  fields_deep (x ∷ (y ∷ xs)) a = let d = a.0.deep in let e = fields_deep (y ∷ xs) a.1 in omega (arith, d, e)

  pub struct_made : (tag : Text) (x : Variable) (xs : List Variable) → IsName D.Event tag → EachVariable (x ∷ xs) → PrintsItem D.Event tight (H + 4) (StructItem tag (x ∷ xs))
  unfolding PrintableItem item_row item_depth
  struct_made tag x xs n a = record {
    printable = all_printable (x ∷ xs) a;
    spelled = (tt, (n, (tt, spelled_both D.Event (fields_row tight (x ∷ xs)) (Mark P.RightBrace ∷ Mark P.Semicolon ∷ []) (fields_spelled (x ∷ xs) a) (tt, (tt, tt)))));
    deep = let d = fields_deep (x ∷ xs) a in omega (arith, d);
  }

  -- a frame
  pub frame_struct_made : (tag : Text) (t : Ty) (xs : List Variable) → IsName D.Event tag → TypeMade t → EachVariable xs → PrintsItem D.Event tight (H + 4) (StructItem tag (head_fields t xs))
  frame_struct_made tag t xs n a b =
      struct_made tag _ _ n
      (variable_of_type (codes "code__") piece_type N.code_field_name code_made, (variable_of_type (codes "next__") any_pointer N.next_is_name any_made, (variable_of_type (codes "value__") t N.value_word_name a, b)))

  -- ---- parameters

  pub record ParameterMade (p : Parameter) : Type 0 where
    pub text : Text
    pub called : p.called ≡ Some text
    pub name : IsName D.Event text
    pub printable : PrintableType p.type
    pub typed : TypeSpelled D.Event tight p.type
    pub deep : declarator_depth true p.type ≤ H

  abbrev pub EachParameter : List Parameter → Type 0
  EachParameter [] = Unit {0}
  EachParameter (p ∷ ps) = ParameterMade p × EachParameter ps

  each_printable : (ps : List Parameter) → EachParameter ps → AllPrintable ps
  each_printable [] a = tt
  each_printable (p ∷ ps) a = (a.0.printable, each_printable ps a.1)

  none_void : (ps : List Parameter) → EachParameter ps → without (λ (p : Parameter). is_void p.called p.type) ps ≡ ps
  none_void [] a = refl
  none_void (p ∷ []) a = go p.called p.type a.0.called
    where
      go : (o : Option Text) (t : Ty) → o ≡ Some a.0.text → (if is_void o t then [] else p ∷ []) ≡ p ∷ []
      go None t e = absurd cc
      go (Some x) TyVoid e = refl
      go (Some x) (TyInt kind) e = refl
      go (Some x) TyCondvar e = refl
      go (Some x) (TyPointer t) e = refl
      go (Some x) (TyCode t ts) e = refl
      go (Some x) (TyStruct tag) e = refl
      go (Some x) (TyArray t n) e = refl
  none_void (p ∷ (q ∷ ps)) a = refl

  each_named : (ps : List Parameter) → EachParameter ps → all_named (λ (p : Parameter). p.called) ps ≡ true
  each_named [] a = refl
  each_named (p ∷ ps) a = go p.called a.0.called (each_named ps a.1)
    where
      go : (o : Option Text) → o ≡ Some a.0.text → all_named (λ (p : Parameter). p.called) ps ≡ true → all_named (λ (p : Parameter). p.called) (record p { called = o } ∷ ps) ≡ true
      go None e d = absurd cc
      go (Some x) e d = d

  one_spelled : (p : Parameter) → ParameterMade p → Spelled D.Event (param_row tight p.called p.type)
  one_spelled p a = subst (λ o. Spelled D.Event (param_row tight o p.type)) (sym a.called) (param_made D.Event tight a.text p.type a.printable a.name a.typed)

  each_spelled : (ps : List Parameter) → EachParameter ps → Spelled D.Event (params_row tight ps)
  unfolding params_row
  each_spelled [] a = (tt, tt)
  each_spelled (p ∷ []) a = one_spelled p a.0
  each_spelled (p ∷ (q ∷ ps)) a = spelled_both D.Event (param_row tight p.called p.type) (Mark P.Comma ∷ params_row tight (q ∷ ps)) (one_spelled p a.0) (tt, each_spelled (q ∷ ps) a.1)

  each_deep : (ps : List Parameter) → EachParameter ps → params_depth true ps ≤ H
  unfolding params_depth
  each_deep [] a = omega (arith, room)
  each_deep (p ∷ []) a = let w = param_within p.type a.0.printable in let d = a.0.deep in omega (arith, w, d)
  each_deep (p ∷ (q ∷ ps)) a = let w = param_within p.type a.0.printable in let d = a.0.deep in let e = each_deep (q ∷ ps) a.1 in omega (arith, w, d, e)

  -- what can be a variable and is scalar can be a parameter
  pub scalar_type : (t : Ty) → is_scalar t ≡ true → PrintableVariable t → PrintableType t
  unfolding PrintableVariable PrintableType
  scalar_type (TyInt kind) e p = tt
  scalar_type TyCondvar e p = tt
  scalar_type (TyPointer t) e p = p
  scalar_type (TyCode t ts) e p = p
  scalar_type TyVoid e p = absurd cc
  scalar_type (TyStruct tag) e p = absurd cc
  scalar_type (TyArray t n) e p = absurd cc

  pub parameter_made : (x : Variable) → is_scalar x.type ≡ true → VariableMade tight H room x → ParameterMade (parameter_of x)
  parameter_made x e a = record { text = x.called; called = refl; name = a.name; printable = scalar_type x.type e a.printable; typed = a.typed; deep = a.deep }

  -- ---- functions

  -- a native function of these parts
  pub function_made : (x : Text) (t : Ty) (ps : List Parameter) (ss : Stmts) → IsName D.Event x → IsStarred t → Spelled D.Event (base_row t) → star_count t ≤ H → EachParameter ps → BlockMade tight H room ss
      → PrintsFunction tight (H + 4) (record { mode = Native; called = x; result = t; parameters = ps; body = Block ss })
  unfolding PrintableItem item_row item_depth
  function_made x t ps ss n starred base few a b =
      let da = each_deep ps a in
      let db = b.deep in
      let end : Spelled D.Event (block_row tight ss ++ Mark P.RightBrace ∷ []) = spelled_both D.Event (block_row tight ss) (Mark P.RightBrace ∷ []) b.spelled (tt, tt) in
      let close : Spelled D.Event (params_row tight ps ++ Mark P.RightParen ∷ []) = spelled_both D.Event (params_row tight ps) (Mark P.RightParen ∷ []) (each_spelled ps a) (tt, tt) in
      let head : Spelled D.Event (head_row tight x t ps) = spelled_both D.Event (base_row t) _ base (spelled_both D.Event (stars t) _ (stars_spelled D.Event t) (n, (tt, close))) in
      record {
        prototypes = record {
          printable = (starred, each_printable ps a, none_void ps a);
          spelled = spelled_both D.Event (head_row tight x t ps) (Mark P.Semicolon ∷ []) head (tt, tt);
          deep = omega (arith, da, few);
        };
        functions = record {
          printable = (tt, (starred, each_printable ps a, none_void ps a), each_named ps a, b.printable);
          spelled = spelled_both D.Event (head_row tight x t ps) (Mark P.LeftBrace ∷ (block_row tight ss ++ Mark P.RightBrace ∷ [])) head (tt, end);
          deep = omega (arith, da, db, few);
        };
      }
