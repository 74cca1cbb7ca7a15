-- The places behind each tree. For each printer of the grammar there is one here of the same shape: it takes the places from the tree's
-- first token on, and gives those behind its last one.
use Rattle.std.specs.Prelude.{ℕ, List, [], ◌∷◌}
use Rattle.types.specs.Types.{Name}
use Rattle.reader.specs.Syntax.{LongName, ModulePath, TypeTree, TermTree, AtomTree, SignatureTree, SpecTrees, ModuleTree, ItemTrees}
use Rattle.resolution.specs.Places.{behind, beyond}

-- `x`, or `X.` and more
abbrev pub past_long_name : LongName → List ℕ → List ℕ
past_long_name (LongName.plain x) ps = behind ps
past_long_name (LongName.inside m p) ps = past_long_name p (beyond 2 ps)

-- `.X` for each name
abbrev pub past_names : List Name → List ℕ → List ℕ
past_names [] ps = ps
past_names (m ∷ ms) ps = past_names ms (beyond 2 ps)

-- `X.Y.Z`
abbrev pub past_path : ModulePath → List ℕ → List ℕ
past_path p ps = past_names p.more (behind ps)

-- one-part labels
abbrev pub past_labels : List ℕ → List ℕ → List ℕ
past_labels [] ps = ps
past_labels (l ∷ ls) ps = past_labels ls (behind ps)

-- a type and the labels behind it
abbrev pub past_type : TypeTree → List ℕ → List ℕ
past_type (TypeTree.path p ls) ps = past_labels ls (past_long_name p ps)
past_type (TypeTree.constant l ls) ps = past_labels ls (behind ps)
past_type (TypeTree.bracket t ls) ps = past_labels ls (behind (past_type t (behind ps)))
past_type (TypeTree.both t u l ls) ps = past_labels ls (beyond 2 (past_type u (behind (past_type t (behind ps)))))

abbrev mutual
  -- `fun (x : type) -> term`, an operator and its atoms, or an atom
  pub past_term : TermTree → List ℕ → List ℕ
  past_term (TermTree.function x t e) ps = past_term e (beyond 2 (past_type t (beyond 4 ps)))
  past_term (TermTree.one o a) ps = past_atom a (behind ps)
  past_term (TermTree.two o a b) ps = past_atom b (past_atom a (behind ps))
  past_term (TermTree.three o a b c) ps = past_atom c (past_atom b (past_atom a (behind ps)))
  past_term (TermTree.atom a) ps = past_atom a ps

  pub past_atom : AtomTree → List ℕ → List ℕ
  past_atom (AtomTree.literal ds) ps = behind ps
  past_atom (AtomTree.path p) ps = past_long_name p ps
  past_atom (AtomTree.constant o) ps = behind ps
  past_atom (AtomTree.bracket e) ps = behind (past_term e (behind ps))

abbrev mutual
  -- `sig specs end`, or `functor (X : signature) -> signature`
  pub past_signature : SignatureTree → List ℕ → List ℕ
  past_signature (SignatureTree.sig_end specs) ps = past_specs specs (behind ps)
  past_signature (SignatureTree.functor x p r) ps = past_signature r (beyond 2 (past_signature p (beyond 4 ps)))

  -- specs and their `end`
  pub past_specs : SpecTrees → List ℕ → List ℕ
  past_specs SpecTrees.done ps = behind ps
  past_specs (SpecTrees.abstract_type t more) ps = past_specs more (beyond 2 ps)
  past_specs (SpecTrees.defined_type t u more) ps = past_specs more (past_type u (beyond 3 ps))
  past_specs (SpecTrees.value x t more) ps = past_specs more (past_type t (beyond 3 ps))
  past_specs (SpecTrees.submodule x s more) ps = past_specs more (past_signature s (beyond 3 ps))

-- `(path)` for each application
abbrev pub past_arguments : List ModulePath → List ℕ → List ℕ
past_arguments [] ps = ps
past_arguments (p ∷ args) ps = past_arguments args (behind (past_path p (behind ps)))

abbrev mutual
  -- `functor (X : signature) -> module`; or a path, `struct items end`, `(module)` or `(module : signature)`, and applications
  pub past_module : ModuleTree → List ℕ → List ℕ
  past_module (ModuleTree.functor x s m) ps = past_module m (beyond 2 (past_signature s (beyond 4 ps)))
  past_module (ModuleTree.path p args) ps = past_arguments args (past_path p ps)
  past_module (ModuleTree.struct_end is args) ps = past_arguments args (past_items is (behind ps))
  past_module (ModuleTree.bracket m args) ps = past_arguments args (behind (past_module m (behind ps)))
  past_module (ModuleTree.ascribed m s args) ps =
      past_arguments args (behind (past_signature s (behind (past_module m (behind ps)))))

  -- items and their `end`
  pub past_items : ItemTrees → List ℕ → List ℕ
  past_items ItemTrees.done ps = behind ps
  past_items (ItemTrees.defined_type t u more) ps = past_items more (past_type u (beyond 3 ps))
  past_items (ItemTrees.value x e more) ps = past_items more (past_term e (beyond 3 ps))
  past_items (ItemTrees.submodule x m more) ps = past_items more (past_module m (beyond 3 ps))
