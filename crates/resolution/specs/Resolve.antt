-- Resolution: a tree, as a text with its heads found and its brackets dropped, each node with the place at which it begins. Each function
-- takes the scope in which the tree stands, and the places of the tokens from the tree's first one on.
use Rattle.std.specs.Prelude.{ℕ, List, [], ◌∷◌}
use Rattle.types.specs.Types.{Name}
use Rattle.reader.specs.declared.scope.Sort.{Sort}
use Rattle.reader.specs.declared.scope.Binder.{Binder}
use Rattle.reader.specs.Scopes.{Scope}
use Rattle.reader.specs.Syntax.{LongName, ModulePath as WrittenPath, TypeTree, TermTree, AtomTree, SignatureTree, SpecTrees, ModuleTree, ItemTrees, UnitTree}
use Rattle.rules.specs.Syntax.{TypeText, path_text, label_text0, label_text1, label_text2, SignatureText, sig_text, functor_text, SpecTexts, no_specs, more_specs, abstract_spec, defined_spec, value_spec, module_spec, Term, variable, component, integer, operation, lambda, no_terms, more_terms, Module, module_path, struct, functor_of, applied, ascribed, Items, no_items, more_items, type_item, let_item, module_item, CompilationUnit}
use Rattle.resolution.specs.Places.{first, behind, beyond}
use Rattle.resolution.specs.Heads.{Location, locate, upper_path, lower_path, module_path_of, tail_path, last_name}
use Rattle.resolution.specs.Behind.{past_path, past_type, past_term, past_atom, past_signature, past_items, past_module}

-- one entry more
abbrev pub entry : Binder → Name → Scope → Scope
entry b x scope = record { binder = b; name = x } ∷ scope

-- a structure or signature itself
abbrev pub itself : Scope → Scope
itself scope = entry Binder.Itself [] scope

-- the path of a type
abbrev pub resolve_type_path : Scope → LongName → ℕ → TypeText
resolve_type_path scope (LongName.plain x) place = path_text place (lower_path scope (locate Sort.«Type» x scope)) x
resolve_type_path scope (LongName.inside m p) place =
    path_text place (tail_path (upper_path m (locate Sort.Module m scope)) p) (last_name p)

-- one-part labels around a type, the innermost first; all begin where the type begins
abbrev pub labelled : ℕ → TypeText → List ℕ → TypeText
labelled place t [] = t
labelled place t (l ∷ ls) = labelled place (label_text1 place l t) ls

-- a type: a label with two parts begins at its bracket, and a bracket around a type is dropped
abbrev pub resolve_type : Scope → TypeTree → List ℕ → TypeText
resolve_type scope (TypeTree.path p ls) ps = labelled (first ps) (resolve_type_path scope p (first ps)) ls
resolve_type scope (TypeTree.constant l ls) ps = labelled (first ps) (label_text0 (first ps) l) ls
resolve_type scope (TypeTree.bracket t ls) ps = labelled (first ps) (resolve_type scope t (behind ps)) ls
resolve_type scope (TypeTree.both t u l ls) ps =
    labelled (first ps)
    (label_text2 (first ps) l (resolve_type scope t (behind ps)) (resolve_type scope u (behind (past_type t (behind ps)))))
    ls

-- a lower name alone, as a value: a variable, or a component
abbrev pub lower_value : Scope → Name → ℕ → Location → Term
lower_value scope x place (Location.component n) = component place (lower_path scope (Location.component n)) x
lower_value scope x place (Location.parameter n) = component place (lower_path scope (Location.parameter n)) x
lower_value scope x place (Location.variable n) = variable place n
lower_value scope x place Location.nowhere = component place (lower_path scope Location.nowhere) x

-- the path of a value
abbrev pub resolve_value_path : Scope → LongName → ℕ → Term
resolve_value_path scope (LongName.plain x) place = lower_value scope x place (locate Sort.Value x scope)
resolve_value_path scope (LongName.inside m p) place =
    component place (tail_path (upper_path m (locate Sort.Module m scope)) p) (last_name p)

abbrev mutual
  -- a term: a function begins at `fun`, and knows its variable in its body; an operation begins at its operator
  pub resolve_term : Scope → TermTree → List ℕ → Term
  resolve_term scope (TermTree.function x t e) ps =
      lambda (first ps) (resolve_type scope t (beyond 4 ps))
      (resolve_term (entry Binder.Variable x scope) e (beyond 2 (past_type t (beyond 4 ps))))
  resolve_term scope (TermTree.one o a) ps = operation (first ps) o (more_terms (resolve_atom scope a (behind ps)) no_terms)
  resolve_term scope (TermTree.two o a b) ps =
      operation (first ps) o
      (more_terms (resolve_atom scope a (behind ps)) (more_terms (resolve_atom scope b (past_atom a (behind ps))) no_terms))
  resolve_term scope (TermTree.three o a b c) ps =
      operation (first ps) o
      (more_terms (resolve_atom scope a (behind ps))
      (more_terms (resolve_atom scope b (past_atom a (behind ps)))
      (more_terms (resolve_atom scope c (past_atom b (past_atom a (behind ps)))) no_terms)))
  resolve_term scope (TermTree.atom a) ps = resolve_atom scope a ps

  -- an atom: a bracket around a term is dropped
  pub resolve_atom : Scope → AtomTree → List ℕ → Term
  resolve_atom scope (AtomTree.literal ds) ps = integer (first ps)
  resolve_atom scope (AtomTree.path p) ps = resolve_value_path scope p (first ps)
  resolve_atom scope (AtomTree.constant o) ps = operation (first ps) o no_terms
  resolve_atom scope (AtomTree.bracket e) ps = resolve_term scope e (behind ps)

abbrev mutual
  -- a signature: a functor's parameter is known in its result, not in its own signature
  pub resolve_signature : Scope → SignatureTree → List ℕ → SignatureText
  resolve_signature scope (SignatureTree.sig_end specs) ps =
      sig_text (first ps) (resolve_specs (itself scope) no_specs specs (behind ps))
  resolve_signature scope (SignatureTree.functor x p r) ps =
      functor_text (first ps) (resolve_signature scope p (beyond 4 ps))
      (resolve_signature (entry Binder.Parameter x scope) r (beyond 2 (past_signature p (beyond 4 ps))))

  -- specs behind those that are resolved already; each is known to those behind it
  pub resolve_specs : Scope → SpecTexts → SpecTrees → List ℕ → SpecTexts
  resolve_specs scope before SpecTrees.done ps = before
  resolve_specs scope before (SpecTrees.abstract_type t more) ps =
      resolve_specs (entry (Binder.Component Sort.«Type») t scope) (more_specs before t abstract_spec) more (beyond 2 ps)
  resolve_specs scope before (SpecTrees.defined_type t u more) ps =
      resolve_specs (entry (Binder.Component Sort.«Type») t scope) (more_specs before t (defined_spec (resolve_type scope u (beyond 3 ps))))
      more (past_type u (beyond 3 ps))
  resolve_specs scope before (SpecTrees.value x t more) ps =
      resolve_specs (entry (Binder.Component Sort.Value) x scope) (more_specs before x (value_spec (resolve_type scope t (beyond 3 ps))))
      more (past_type t (beyond 3 ps))
  resolve_specs scope before (SpecTrees.submodule x s more) ps =
      resolve_specs (entry (Binder.Component Sort.Module) x scope) (more_specs before x (module_spec (resolve_signature scope s (beyond 3 ps))))
      more (past_signature s (beyond 3 ps))

-- a module applied to paths, one after the other; each application begins where the module begins, and each path has a place of its own
abbrev pub applications : Scope → ℕ → Module → List WrittenPath → List ℕ → Module
applications scope place m [] ps = m
applications scope place m (p ∷ args) ps =
    applications scope place (applied place m (first (behind ps)) (module_path_of scope p)) args (behind (past_path p (behind ps)))

abbrev mutual
  -- a module: a bracket around one is dropped, but an application and an ascription of a module in brackets tell the bracket's place
  pub resolve_module : Scope → ModuleTree → List ℕ → Module
  resolve_module scope (ModuleTree.functor x s m) ps =
      functor_of (first ps) (resolve_signature scope s (beyond 4 ps))
      (resolve_module (entry Binder.Parameter x scope) m (beyond 2 (past_signature s (beyond 4 ps))))
  resolve_module scope (ModuleTree.path p args) ps =
      applications scope (first ps) (module_path (first ps) (module_path_of scope p)) args (past_path p ps)
  resolve_module scope (ModuleTree.struct_end is args) ps =
      applications scope (first ps) (struct (first ps) (resolve_items (itself scope) no_items is (behind ps))) args (past_items is (behind ps))
  resolve_module scope (ModuleTree.bracket m args) ps =
      applications scope (first ps) (resolve_module scope m (behind ps)) args (behind (past_module m (behind ps)))
  resolve_module scope (ModuleTree.ascribed m s args) ps =
      applications scope (first ps)
      (ascribed (first ps) (first (behind ps)) (resolve_module scope m (behind ps))
      (resolve_signature scope s (behind (past_module m (behind ps)))))
      args (behind (past_signature s (behind (past_module m (behind ps)))))

  -- items behind those that are resolved already; each is known to those behind it
  pub resolve_items : Scope → Items → ItemTrees → List ℕ → Items
  resolve_items scope before ItemTrees.done ps = before
  resolve_items scope before (ItemTrees.defined_type t u more) ps =
      resolve_items (entry (Binder.Component Sort.«Type») t scope) (more_items before t (type_item (resolve_type scope u (beyond 3 ps))))
      more (past_type u (beyond 3 ps))
  resolve_items scope before (ItemTrees.value x e more) ps =
      resolve_items (entry (Binder.Component Sort.Value) x scope) (more_items before x (let_item (resolve_term scope e (beyond 3 ps))))
      more (past_term e (beyond 3 ps))
  resolve_items scope before (ItemTrees.submodule x m more) ps =
      resolve_items (entry (Binder.Component Sort.Module) x scope) (more_items before x (module_item (resolve_module scope m (beyond 3 ps))))
      more (past_module m (beyond 3 ps))

-- a unit, whose items begin behind `module`, its name, `=` and `struct`; its rank is no part of it
abbrev pub resolve_unit : UnitTree → List ℕ → CompilationUnit
resolve_unit u ps =
    record { name = u.name; body = struct (first (beyond 3 ps)) (resolve_items (itself []) no_items u.items (beyond 4 ps)) }

-- a signature alone
abbrev pub resolve_signature_text : SignatureTree → List ℕ → SignatureText
resolve_signature_text s ps = resolve_signature [] s ps
