-- What calls want, as the code has it.
use Rattle.std.specs.Prelude.{ℕ, ◌-◌, max, List, [], ◌∷◌, ◌++◌, length, map, replicate, Option, Some, None, option_map}
use Rattle.cpc_num.specs.declared.kinds.Kind.TheVariants.{Int, Long}
use Rattle.cpc_tree.specs.Erase.{Names, type_of, parameter_of}
use Rattle.cpc_tree.specs.Syntax.{TyVoid, TyInt, TyCondvar}
use Rattle.cpc_tree.specs.Typing.{parameter_type, function_type}
use Rattle.cpc_tree.specs.Primitives as P
use Rattle.cpc_tree.specs.PrimitiveNames.{primitive_of}
use Rattle.cpc_check_rules.specs.Calls as C
use Rattle.cpc_tree.specs.declared.program.Parameter.{Parameter}
use Rattle.cpc_tree.specs.declared.primitive.Primitive.{Primitive}
use Rattle.cpc_check_values.specs.declared.wants.Wanted.{Wanted}
use Rattle.cpc_check_values.specs.declared.wants.Wanted.TheVariants as W
use Rattle.cpc_check_values.specs.declared.wants.Callee.{Callee}
use Rattle.cpc_check_values.specs.declared.wants.Callee.TheVariants as V

-- what an argument must be
abbrev pub want_of : Names → Wanted → C.Wanted
want_of names W.AnyInteger = C.Integer
want_of names (W.Of t) = C.Of (type_of names t.now)
want_of names W.Int = C.Of (TyInt Int)
want_of names W.Long = C.Of (TyInt Long)
want_of names W.Condvar = C.Of TyCondvar
want_of names W.Pointer = C.Of P.any_pointer
want_of names W.Callback = C.Callback (function_type TyVoid (P.any_pointer ∷ TyInt Int ∷ []))
want_of names W.Text = C.String
want_of names W.Section = C.ForSection
want_of names W.Anything = C.Anything

-- the types of parameters, as they are wanted of arguments
abbrev pub wants_of : Names → List Parameter → List C.Wanted
wants_of names ps = map (λ t. C.Of t) (map parameter_type (map (parameter_of names) ps))

-- what the arguments for the section's function must be; where there is none, as many as are given, and one at least
abbrev pub section_wants : Names → (given : ℕ) → Option (List Parameter) → List C.Wanted
section_wants names given None = replicate (max (given - 3) 1) C.Anything
section_wants names given (Some ps) = wants_of names ps

-- what the arguments of a primitive must be, in front of those for a section's function
abbrev pub front_wants : P.Primitive → List C.Wanted
front_wants P.Puts = C.String ∷ []
front_wants P.RtDetach = map C.wanted_of (P.takes_first P.RtDetach) ++ C.ForSection ∷ []
front_wants p = map C.wanted_of (P.takes_first p)

-- what the arguments of a primitive must be; those of `rt_detach` go on with the ones for a section's function
abbrev pub primitive_wants : Names → P.Primitive → (given : ℕ) → Option (List Parameter) → List C.Wanted
primitive_wants names P.RtDetach given o = front_wants P.RtDetach ++ section_wants names given o
primitive_wants names p given o = front_wants p

-- what is called
abbrev pub callee_of : Names → Callee → C.Callee
callee_of names (V.Function mode r ps) = C.Takes (wants_of names ps.now) (type_of names r.now)
callee_of names (V.Primitive p o given) = C.Takes (primitive_wants names (primitive_of p) given (option_map (λ ps. ps.now) o)) (C.gives (primitive_of p))
callee_of names (V.Section ps) = C.Takes (wants_of names ps.now) (TyInt Int)
callee_of names (V.Code r ps) = C.Takes (map (λ t. C.Of t) (map (type_of names) ps.items)) (type_of names r.value)
callee_of names V.Unknown = C.NoCallee
callee_of names V.NoCode = C.NoCallee

-- how many arguments are wanted, where a function is called
abbrev pub wants_count : C.Callee → Option ℕ
wants_count C.NoCallee = None
wants_count (C.Takes wants result) = Some (length wants)

-- the function of a section, by its parameters
abbrev pub section_callee_of : Names → Option (List Parameter) → C.Callee
section_callee_of names None = C.NoCallee
section_callee_of names (Some ps) = C.Takes (wants_of names ps) (TyInt Int)
