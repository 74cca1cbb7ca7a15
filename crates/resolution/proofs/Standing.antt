-- At the place of each node stands the token with which it begins.
use Rattle.std.proofs.Common.{◌≡◌, ℕ, List, [], ◌∷◌, Some, refl, subst, inl, inr}
use Rattle.types.specs.Types.{Name}
use Rattle.reader.specs.declared.scope.Sort.{Sort}
use Rattle.reader.specs.declared.scope.Binder.{Binder}
use Rattle.reader.specs.Tokens.{Token, text_end, lower, label2}
use Rattle.reader.specs.Syntax.{LongName, ModulePath as WrittenPath, TypeTree, TermTree, AtomTree, SignatureTree, SpecTrees, ModuleTree, ItemTrees}
use Rattle.reader.specs.Print.{print_long_name, print_names, print_labels, print_type, print_term, print_atom, print_signature, print_specs, print_arguments, print_module, print_items, print_rank, print_unit, print_signature_text, close, colon, comma, arrow}
use Rattle.reader.specs.Scopes.{Scope}
use Rattle.reader.specs.Streams.{Stream, finish, broken, next, tokens_in}
use Rattle.rules.specs.Syntax.{TypeText, SpecTexts, no_specs, Module, Items, no_items}
use Rattle.resolution.specs.Places.{places_in, first, behind, beyond}
use Rattle.resolution.specs.Heads.{Location, locate}
use Rattle.resolution.specs.Behind.{past_long_name, past_names, past_labels, past_type, past_term, past_atom, past_signature, past_specs, past_arguments, past_items, past_module}
use Rattle.resolution.specs.Resolve.{entry, itself, resolve_type_path, labelled, resolve_type, lower_value, resolve_value_path, resolve_term, resolve_atom, resolve_signature, resolve_specs, applications, resolve_module, resolve_items}
use Rattle.resolution.specs.Standing.{TokenAt, BeginsAt, type_place, module_place, StandsType, StandsSignature, StandsSpecs, StandsTerm, StandsModule, StandsItems}
use Rattle.resolution.specs.Statements.{PlacesStand}
use Rattle.resolution.proofs.Common.{last_token, no_tokens, next_token}

-- tokens beside places: each stands at its own
abbrev Beside : (Token → ℕ → Type 0) → List Token → List ℕ → Type 0
Beside at [] ps = Unit {0}
Beside at (k ∷ ks) ps = at k (first ps) × Beside at ks (behind ps)

module _ (at : Token → ℕ → Type 0) where
  -- ---- paths and types

  behind_long : (p : LongName) (ks : List Token) (ps : List ℕ) → Beside at (print_long_name p ks) ps → Beside at ks (past_long_name p ps)
  behind_long (LongName.plain x) ks ps b = b.1
  behind_long (LongName.inside m p) ks ps b = behind_long p ks (beyond 2 ps) b.1.1

  behind_names : (ms : List Name) (ks : List Token) (ps : List ℕ) → Beside at (print_names ms ks) ps → Beside at ks (past_names ms ps)
  behind_names [] ks ps b = b
  behind_names (m ∷ ms) ks ps b = behind_names ms ks (beyond 2 ps) b.1.1

  behind_labels : (ls : List ℕ) (ks : List Token) (ps : List ℕ) → Beside at (print_labels ls ks) ps → Beside at ks (past_labels ls ps)
  behind_labels [] ks ps b = b
  behind_labels (l ∷ ls) ks ps b = behind_labels ls ks (behind ps) b.1

  type_path_stands : (scope : Scope) (p : LongName) (ks : List Token) (ps : List ℕ) → Beside at (print_long_name p ks) ps →
      StandsType at (resolve_type_path scope p (first ps))
  type_path_stands scope (LongName.plain x) ks ps b = inl b.0
  type_path_stands scope (LongName.inside m p) ks ps b = inr (m, b.0)

  type_path_place : (scope : Scope) (p : LongName) (place : ℕ) → place ≡ type_place (resolve_type_path scope p place)
  type_path_place scope (LongName.plain x) place = refl
  type_path_place scope (LongName.inside m p) place = refl

  labelled_stands : (place : ℕ) (ls : List ℕ) (t : TypeText) → BeginsAt at (type_place t) place → StandsType at t → StandsType at (labelled place t ls)
  labelled_stands place [] t b h = h
  labelled_stands place (l ∷ ls) t b h = labelled_stands place ls _ (inl refl) (b, h)

  type_stands : (scope : Scope) (t : TypeTree) (ks : List Token) (ps : List ℕ) → Beside at (print_type t ks) ps →
      StandsType at (resolve_type scope t ps) × Beside at ks (past_type t ps)
  type_stands scope (TypeTree.path p ls) ks ps b = (
    labelled_stands (first ps) ls _ (inl (type_path_place scope p (first ps))) (type_path_stands scope p (print_labels ls ks) ps b),
    behind_labels ls ks (past_long_name p ps) (behind_long p (print_labels ls ks) ps b),
  )
  type_stands scope (TypeTree.constant l ls) ks ps b =
      (labelled_stands (first ps) ls _ (inl refl) b.0, behind_labels ls ks (behind ps) b.1)
  type_stands scope (TypeTree.bracket t ls) ks ps b =
      let d = type_stands scope t (close ∷ print_labels ls ks) (behind ps) b.1 in
      (labelled_stands (first ps) ls _ (inr b.0) d.0, behind_labels ls ks (behind (past_type t (behind ps))) d.1.1)
  type_stands scope (TypeTree.both t u l ls) ks ps b =
      let d = type_stands scope t (comma ∷ print_type u (close ∷ label2 l ∷ print_labels ls ks)) (behind ps) b.1 in
      let e = type_stands scope u (close ∷ label2 l ∷ print_labels ls ks) (behind (past_type t (behind ps))) d.1.1 in (
        labelled_stands (first ps) ls _ (inl refl) (b.0, d.0, e.0),
        behind_labels ls ks (beyond 2 (past_type u (behind (past_type t (behind ps))))) e.1.1.1,
      )

  -- ---- terms

  value_stands : (scope : Scope) (x : Name) (place : ℕ) (l : Location) → at (lower x) place → StandsTerm at (lower_value scope x place l)
  value_stands scope x place (Location.component n) b = inl b
  value_stands scope x place (Location.parameter n) b = inl b
  value_stands scope x place (Location.variable n) b = (x, b)
  value_stands scope x place Location.nowhere b = inl b

  value_path_stands : (scope : Scope) (p : LongName) (ks : List Token) (ps : List ℕ) → Beside at (print_long_name p ks) ps →
      StandsTerm at (resolve_value_path scope p (first ps))
  value_path_stands scope (LongName.plain x) ks ps b = value_stands scope x (first ps) (locate Sort.Value x scope) b.0
  value_path_stands scope (LongName.inside m p) ks ps b = inr (m, b.0)

  mutual
    term_stands : (scope : Scope) (e : TermTree) (ks : List Token) (ps : List ℕ) → Beside at (print_term e ks) ps →
        StandsTerm at (resolve_term scope e ps) × Beside at ks (past_term e ps)
    term_stands scope (TermTree.function x t e) ks ps b =
        let d = type_stands scope t (close ∷ arrow ∷ print_term e ks) (beyond 4 ps) b.1.1.1.1 in
        let f = term_stands (entry Binder.Variable x scope) e ks (beyond 2 (past_type t (beyond 4 ps))) d.1.1.1 in
        ((b.0, d.0, f.0), f.1)
    term_stands scope (TermTree.one o a) ks ps b =
        let d = atom_stands scope a ks (behind ps) b.1 in
        ((b.0, (d.0, tt)), d.1)
    term_stands scope (TermTree.two o a c) ks ps b =
        let d = atom_stands scope a (print_atom c ks) (behind ps) b.1 in
        let e = atom_stands scope c ks (past_atom a (behind ps)) d.1 in
        ((b.0, (d.0, (e.0, tt))), e.1)
    term_stands scope (TermTree.three o a c f) ks ps b =
        let d = atom_stands scope a (print_atom c (print_atom f ks)) (behind ps) b.1 in
        let e = atom_stands scope c (print_atom f ks) (past_atom a (behind ps)) d.1 in
        let g = atom_stands scope f ks (past_atom c (past_atom a (behind ps))) e.1 in
        ((b.0, (d.0, (e.0, (g.0, tt)))), g.1)
    term_stands scope (TermTree.atom a) ks ps b = atom_stands scope a ks ps b

    atom_stands : (scope : Scope) (a : AtomTree) (ks : List Token) (ps : List ℕ) → Beside at (print_atom a ks) ps →
        StandsTerm at (resolve_atom scope a ps) × Beside at ks (past_atom a ps)
    atom_stands scope (AtomTree.literal ds) ks ps b = ((ds, b.0), b.1)
    atom_stands scope (AtomTree.path p) ks ps b = (value_path_stands scope p ks ps b, behind_long p ks ps b)
    atom_stands scope (AtomTree.constant o) ks ps b = ((b.0, tt), b.1)
    atom_stands scope (AtomTree.bracket e) ks ps b =
        let d = term_stands scope e (close ∷ ks) (behind ps) b.1 in
        (d.0, d.1.1)

  -- ---- signatures

  mutual
    signature_stands : (scope : Scope) (s : SignatureTree) (ks : List Token) (ps : List ℕ) → Beside at (print_signature s ks) ps →
        StandsSignature at (resolve_signature scope s ps) × Beside at ks (past_signature s ps)
    signature_stands scope (SignatureTree.sig_end specs) ks ps b =
        let d = specs_stand (itself scope) no_specs specs ks (behind ps) tt b.1 in
        ((b.0, d.0), d.1)
    signature_stands scope (SignatureTree.functor x p r) ks ps b =
        let d = signature_stands scope p (close ∷ arrow ∷ print_signature r ks) (beyond 4 ps) b.1.1.1.1 in
        let e = signature_stands (entry Binder.Parameter x scope) r ks (beyond 2 (past_signature p (beyond 4 ps))) d.1.1.1 in
        ((b.0, d.0, e.0), e.1)

    specs_stand : (scope : Scope) (before : SpecTexts) (specs : SpecTrees) (ks : List Token) (ps : List ℕ) → StandsSpecs at before →
        Beside at (print_specs specs ks) ps → StandsSpecs at (resolve_specs scope before specs ps) × Beside at ks (past_specs specs ps)
    specs_stand scope before SpecTrees.done ks ps h b = (h, b.1)
    specs_stand scope before (SpecTrees.abstract_type t more) ks ps h b =
        specs_stand (entry (Binder.Component Sort.«Type») t scope) _ more ks (beyond 2 ps) (h, tt) b.1.1
    specs_stand scope before (SpecTrees.defined_type t u more) ks ps h b =
        let d = type_stands scope u (print_specs more ks) (beyond 3 ps) b.1.1.1 in
        specs_stand (entry (Binder.Component Sort.«Type») t scope) _ more ks (past_type u (beyond 3 ps)) (h, d.0) d.1
    specs_stand scope before (SpecTrees.value x t more) ks ps h b =
        let d = type_stands scope t (print_specs more ks) (beyond 3 ps) b.1.1.1 in
        specs_stand (entry (Binder.Component Sort.Value) x scope) _ more ks (past_type t (beyond 3 ps)) (h, d.0) d.1
    specs_stand scope before (SpecTrees.submodule x s more) ks ps h b =
        let d = signature_stands scope s (print_specs more ks) (beyond 3 ps) b.1.1.1 in
        specs_stand (entry (Binder.Component Sort.Module) x scope) _ more ks (past_signature s (beyond 3 ps)) (h, d.0) d.1

  -- ---- modules

  applied_stand : (scope : Scope) (args : List WrittenPath) (place : ℕ) (m : Module) (ks : List Token) (ps : List ℕ) →
      BeginsAt at (module_place m) place → StandsModule at m → Beside at (print_arguments args ks) ps →
      StandsModule at (applications scope place m args ps) × Beside at ks (past_arguments args ps)
  applied_stand scope [] place m ks ps w h b = (h, b)
  applied_stand scope (p ∷ args) place m ks ps w h b =
      applied_stand scope args place _ ks _ (inl refl) (w, h, (p.first, b.1.0))
      (behind_names p.more (close ∷ print_arguments args ks) (beyond 2 ps) b.1.1).1

  -- an application has the place that it is given
  applied_place : (scope : Scope) (args : List WrittenPath) (place : ℕ) (m : Module) (ps : List ℕ) → BeginsAt at (module_place m) place →
      BeginsAt at (module_place (applications scope place m args ps)) place
  applied_place scope [] place m ps w = w
  applied_place scope (p ∷ args) place m ps w = applied_place scope args place _ _ (inl refl)

  -- a module begins at its own place, or at a bracket
  begins : (scope : Scope) (m : ModuleTree) (ks : List Token) (ps : List ℕ) → Beside at (print_module m ks) ps →
      BeginsAt at (module_place (resolve_module scope m ps)) (first ps)
  begins scope (ModuleTree.functor x s m) ks ps b = inl refl
  begins scope (ModuleTree.path p args) ks ps b = applied_place scope args (first ps) _ _ (inl refl)
  begins scope (ModuleTree.struct_end is args) ks ps b = applied_place scope args (first ps) _ _ (inl refl)
  begins scope (ModuleTree.bracket m args) ks ps b = applied_place scope args (first ps) _ _ (inr b.0)
  begins scope (ModuleTree.ascribed m s args) ks ps b = applied_place scope args (first ps) _ _ (inl refl)

  mutual
    module_stands : (scope : Scope) (m : ModuleTree) (ks : List Token) (ps : List ℕ) → Beside at (print_module m ks) ps →
        StandsModule at (resolve_module scope m ps) × Beside at ks (past_module m ps)
    module_stands scope (ModuleTree.functor x s m) ks ps b =
        let d = signature_stands scope s (close ∷ arrow ∷ print_module m ks) (beyond 4 ps) b.1.1.1.1 in
        let e = module_stands (entry Binder.Parameter x scope) m ks (beyond 2 (past_signature s (beyond 4 ps))) d.1.1.1 in
        ((b.0, d.0, e.0), e.1)
    module_stands scope (ModuleTree.path p args) ks ps b =
        applied_stand scope args (first ps) _ ks _ (inl refl) (p.first, b.0) (behind_names p.more (print_arguments args ks) (behind ps) b.1)
    module_stands scope (ModuleTree.struct_end is args) ks ps b =
        let d = items_stand (itself scope) no_items is (print_arguments args ks) (behind ps) tt b.1 in
        applied_stand scope args (first ps) _ ks _ (inl refl) (b.0, d.0) d.1
    module_stands scope (ModuleTree.bracket m args) ks ps b =
        let d = module_stands scope m (close ∷ print_arguments args ks) (behind ps) b.1 in
        applied_stand scope args (first ps) _ ks _ (inr b.0) d.0 d.1.1
    module_stands scope (ModuleTree.ascribed m s args) ks ps b =
        let d = module_stands scope m (colon ∷ print_signature s (close ∷ print_arguments args ks)) (behind ps) b.1 in
        let e = signature_stands scope s (close ∷ print_arguments args ks) (behind (past_module m (behind ps))) d.1.1 in
        applied_stand scope args (first ps) _ ks _ (inl refl)
        (b.0, begins scope m (colon ∷ print_signature s (close ∷ print_arguments args ks)) (behind ps) b.1, d.0, e.0) e.1.1

    items_stand : (scope : Scope) (before : Items) (is : ItemTrees) (ks : List Token) (ps : List ℕ) → StandsItems at before →
        Beside at (print_items is ks) ps → StandsItems at (resolve_items scope before is ps) × Beside at ks (past_items is ps)
    items_stand scope before ItemTrees.done ks ps h b = (h, b.1)
    items_stand scope before (ItemTrees.defined_type t u more) ks ps h b =
        let d = type_stands scope u (print_items more ks) (beyond 3 ps) b.1.1.1 in
        items_stand (entry (Binder.Component Sort.«Type») t scope) _ more ks (past_type u (beyond 3 ps)) (h, d.0) d.1
    items_stand scope before (ItemTrees.value x e more) ks ps h b =
        let d = term_stands scope e (print_items more ks) (beyond 3 ps) b.1.1.1 in
        items_stand (entry (Binder.Component Sort.Value) x scope) _ more ks (past_term e (beyond 3 ps)) (h, d.0) d.1
    items_stand scope before (ItemTrees.submodule x m more) ks ps h b =
        let d = module_stands scope m (print_items more ks) (beyond 3 ps) b.1.1.1 in
        items_stand (entry (Binder.Component Sort.Module) x scope) _ more ks (past_module m (beyond 3 ps)) (h, d.0) d.1

-- ---- texts

-- what stands in a part of a stream stands in the stream
beside_more : (k : Token) (p : ℕ) (s : Stream) (ks : List Token) (ps : List ℕ) → Beside (TokenAt s) ks ps → Beside (TokenAt (next k p s)) ks ps
beside_more k p s [] ps b = tt
beside_more k p s (j ∷ ks) ps b = ((k ∷ b.0.0, (refl, b.0.1)), beside_more k p s ks (behind ps) b.1)

-- the tokens of a stream stand at its places
stream_beside : (s : Stream) (ks : List Token) → tokens_in s ≡ Some ks → Beside (TokenAt s) ks (places_in s)
stream_beside (finish p) ks e =
    subst (λ (js : List Token). Beside (TokenAt (finish p)) js (p ∷ [])) (last_token p ks e) (([], (refl, refl, refl)), tt)
stream_beside (broken p) ks e = no_tokens p ks e
stream_beside (next k p s) ks e =
    let f = next_token k p s ks e in
    subst (λ (js : List Token). Beside (TokenAt (next k p s)) js (p ∷ places_in s)) f.2
    (([], (refl, refl)), beside_more k p s f.0 (places_in s) (stream_beside s f.0 f.1))

pub places_stand : PlacesStand
places_stand = (
  λ s u e.
      let b = stream_beside s (print_unit u) e in (
        b.1.1.1.0,
        (items_stand (TokenAt s) (itself []) no_items u.items (print_rank u.rank (text_end ∷ [])) (beyond 4 (places_in s)) tt b.1.1.1.1).0,
      ),
  λ s t e. (signature_stands (TokenAt s) [] t (text_end ∷ []) (places_in s) (stream_beside s (print_signature_text t) e)).0,
)
