-- A text in which the reader finds nothing declared again declares each sort and name once.
use Rattle.std.proofs.Common.{◌≡◌, ℕ, Bool, true, false, cond, ◌&&◌, List, [], ◌∷◌, Some, None, Option, sym, refl, ap, ◌∙◌, ap₂}
use Rattle.std.specs.Str.{bytes_eq}
use Rattle.std.proofs.lemmas.Bool.{or_parts}
use Rattle.types.specs.Types.{Name}
use Rattle.reader.specs.declared.scope.Sort.{Sort}
use Rattle.reader.specs.declared.scope.Binder.{Binder}
use Rattle.reader.specs.Tokens.{Token, text_end}
use Rattle.reader.specs.Syntax.{ModulePath as WrittenPath, SignatureTree, SpecTrees, ModuleTree, ItemTrees}
use Rattle.reader.specs.Print.{print_signature, print_specs, print_arguments, print_module, print_items, print_rank, print_unit, print_signature_text, close, colon, arrow}
use Rattle.reader.specs.Scopes.{Scope, same_sort, is_declared}
use Rattle.reader.specs.Notes.{Note, Around, deeper, outermost, plain, notes_signature, notes_specs, notes_arguments, notes_module, notes_items, notes_rank, notes_unit, notes_signature_text}
use Rattle.rules.specs.Signatures.{Sort as RuleSort, a_type, a_value, a_module, same_sort as same_rule_sort, sort_of, first_of, find, Declaration}
use Rattle.rules.specs.Syntax.{SpecTexts, no_specs, more_specs, SpecText, abstract_spec, defined_spec, value_spec, module_spec, components_of, declaration_of, Module, Items, no_items, more_items, Item, type_item, let_item, module_item}
use Rattle.rules.specs.Rules.{item_sort, Undeclared}
use Rattle.rules.proofs.Finding.{same_sort_self, same_bytes_self}
use Rattle.checker.specs.Written.{OnceSig, OnceSpecs, OnceModule, OnceItems}
use Rattle.resolution.specs.Places.{first, behind, beyond}
use Rattle.resolution.specs.Behind.{past_type, past_term, past_signature, past_module}
use Rattle.resolution.specs.Resolve.{entry, resolve_type, resolve_term, resolve_signature, resolve_specs, applications, resolve_module, resolve_items}
use Rattle.resolution.specs.Statements.{DeclaredOnce}
use Rattle.resolution.proofs.Common.{knowing, binding}
use Rattle.resolution.proofs.Clear.{Clear, stream_clear, past_names, past_arguments, past_type_lem, past_term_lem}

-- the rules' sort
abbrev rule_sort : Sort → RuleSort
rule_sort Sort.«Type» = a_type
rule_sort Sort.Value = a_value
rule_sort Sort.Module = a_module

sort_tests : (s t : Sort) → same_sort s t ≡ same_rule_sort (rule_sort s) (rule_sort t)
sort_tests Sort.«Type» Sort.«Type» = refl
sort_tests Sort.«Type» Sort.Value = refl
sort_tests Sort.«Type» Sort.Module = refl
sort_tests Sort.Value Sort.«Type» = refl
sort_tests Sort.Value Sort.Value = refl
sort_tests Sort.Value Sort.Module = refl
sort_tests Sort.Module Sort.«Type» = refl
sort_tests Sort.Module Sort.Value = refl
sort_tests Sort.Module Sort.Module = refl

-- what the scope does not declare in its innermost structure or signature, the specs, or items, before do not declare
abbrev CoversSpecs : Scope → SpecTexts → Type 0
CoversSpecs scope c = (s : Sort) (x : Name) → is_declared s x scope ≡ false → find (rule_sort s) x (components_of c) ≡ None

abbrev CoversItems : Scope → Items → Type 0
CoversItems scope is = (s : Sort) (x : Name) → is_declared s x scope ≡ false → Undeclared (rule_sort s) x is

-- one more of them
specs_cover : (scope : Scope) (c : SpecTexts) (t : Sort) (y : Name) (d : SpecText) → sort_of (declaration_of d) ≡ rule_sort t →
    CoversSpecs scope c → CoversSpecs (entry (Binder.Component t) y scope) (more_specs c y d)
specs_cover scope c t y d e h s x f =
    let n = or_parts (same_sort s t && bytes_eq x y) (is_declared s x scope) f in
    let g : same_rule_sort (rule_sort s) (sort_of (declaration_of d)) && bytes_eq x y ≡ false =
    ap (λ (r : RuleSort). same_rule_sort (rule_sort s) r && bytes_eq x y) e ∙ ap (λ (b : Bool). b && bytes_eq x y) (sym (sort_tests s t)) ∙ n.0 in
    ap₂ (λ (o : Option Declaration) (b : Bool). first_of o (cond b (Some (declaration_of d)) None)) (h s x n.1) g

items_cover : (scope : Scope) (is : Items) (t : Sort) (y : Name) (i : Item) → item_sort i ≡ rule_sort t →
    CoversItems scope is → CoversItems (entry (Binder.Component t) y scope) (more_items is y i)
items_cover scope is t y i e h s x f =
    let n = or_parts (same_sort s t && bytes_eq x y) (is_declared s x scope) f in (
      h s x n.1,
      λ g k.
          let a : same_sort s t ≡ true = sort_tests s t ∙ ap (same_rule_sort (rule_sort s)) (sym e ∙ g) ∙ same_sort_self (rule_sort s) in
          let b : bytes_eq x y ≡ true = ap (bytes_eq x) k ∙ same_bytes_self x in
          cc (ap₂ (λ (p q : Bool). p && q) a b, n.0),
    )

abbrev again : Note → Bool
again n = n.again

-- ---- signatures

mutual
  signature_once : (a : Around Scope) (s : SignatureTree) (ns : List Note) (ks : List Token) (ps : List ℕ) →
      Clear again (notes_signature a s ns) (print_signature s ks) → OnceSig (resolve_signature a.scope s ps) × Clear again ns ks
  signature_once a (SignatureTree.sig_end specs) ns ks ps c =
      specs_once (binding Binder.Itself [] a) no_specs specs ns ks (behind ps) (λ s x e. refl) tt c.1
  signature_once a (SignatureTree.functor x p r) ns ks ps c =
      let d = signature_once (deeper 2 a) p (plain (deeper 2 a) ∷ plain (deeper 1 a) ∷ notes_signature (binding Binder.Parameter x a) r ns)
      (close ∷ arrow ∷ print_signature r ks) (beyond 4 ps) c.1.1.1.1 in
      let e = signature_once (binding Binder.Parameter x a) r ns ks (beyond 2 (past_signature p (beyond 4 ps))) d.1.1.1 in
      ((d.0, e.0), e.1)

  specs_once : (a : Around Scope) (before : SpecTexts) (specs : SpecTrees) (ns : List Note) (ks : List Token) (ps : List ℕ) →
      CoversSpecs a.scope before → OnceSpecs before → Clear again (notes_specs a specs ns) (print_specs specs ks) →
      OnceSpecs (resolve_specs a.scope before specs ps) × Clear again ns ks
  specs_once a before SpecTrees.done ns ks ps h o c = (o, c.1)
  specs_once a before (SpecTrees.abstract_type t more) ns ks ps h o c =
      specs_once (knowing Sort.«Type» t a) (more_specs before t abstract_spec) more ns ks (beyond 2 ps)
      (specs_cover a.scope before Sort.«Type» t abstract_spec refl h) (o, h Sort.«Type» t c.1.0, tt) c.1.1
  specs_once a before (SpecTrees.defined_type t u more) ns ks ps h o c =
      let d = defined_spec (resolve_type a.scope u (beyond 3 ps)) in
      specs_once (knowing Sort.«Type» t a) (more_specs before t d) more ns ks (past_type u (beyond 3 ps))
      (specs_cover a.scope before Sort.«Type» t d refl h) (o, h Sort.«Type» t c.1.0, tt)
      (past_type_lem again a u (notes_specs (knowing Sort.«Type» t a) more ns) (print_specs more ks) c.1.1.1)
  specs_once a before (SpecTrees.value x t more) ns ks ps h o c =
      let d = value_spec (resolve_type a.scope t (beyond 3 ps)) in
      specs_once (knowing Sort.Value x a) (more_specs before x d) more ns ks (past_type t (beyond 3 ps))
      (specs_cover a.scope before Sort.Value x d refl h) (o, h Sort.Value x c.1.0, tt)
      (past_type_lem again a t (notes_specs (knowing Sort.Value x a) more ns) (print_specs more ks) c.1.1.1)
  specs_once a before (SpecTrees.submodule x s more) ns ks ps h o c =
      let d = module_spec (resolve_signature a.scope s (beyond 3 ps)) in
      let e = signature_once a s (notes_specs (knowing Sort.Module x a) more ns) (print_specs more ks) (beyond 3 ps) c.1.1.1 in
      specs_once (knowing Sort.Module x a) (more_specs before x d) more ns ks (past_signature s (beyond 3 ps))
      (specs_cover a.scope before Sort.Module x d refl h) (o, h Sort.Module x c.1.0, e.0) e.1

-- ---- modules

applied_once : (scope : Scope) (args : List WrittenPath) (place : ℕ) (m : Module) (ps : List ℕ) →
    OnceModule m → OnceModule (applications scope place m args ps)
applied_once scope [] place m ps o = o
applied_once scope (p ∷ args) place m ps o =
    applied_once scope args place _ _ o

mutual
  module_once : (a : Around Scope) (m : ModuleTree) (ns : List Note) (ks : List Token) (ps : List ℕ) →
      Clear again (notes_module a m ns) (print_module m ks) → OnceModule (resolve_module a.scope m ps) × Clear again ns ks
  module_once a (ModuleTree.functor x s m) ns ks ps c =
      let d = signature_once (deeper 2 a) s (plain (deeper 2 a) ∷ plain (deeper 1 a) ∷ notes_module (binding Binder.Parameter x a) m ns)
      (close ∷ arrow ∷ print_module m ks) (beyond 4 ps) c.1.1.1.1 in
      let e = module_once (binding Binder.Parameter x a) m ns ks (beyond 2 (past_signature s (beyond 4 ps))) d.1.1.1 in
      ((d.0, e.0), e.1)
  module_once a (ModuleTree.path p args) ns ks ps c = (
    applied_once a.scope args (first ps) _ _ tt,
    past_arguments again a args ns ks (past_names again a p.more (notes_arguments a args ns) (print_arguments args ks) c.1),
  )
  module_once a (ModuleTree.struct_end is args) ns ks ps c =
      let d = items_once (binding Binder.Itself [] a) no_items is (notes_arguments a args ns) (print_arguments args ks) (behind ps) (λ s x e. tt) tt c.1 in (
        applied_once a.scope args (first ps) _ _ d.0,
        past_arguments again a args ns ks d.1,
      )
  module_once a (ModuleTree.bracket m args) ns ks ps c =
      let d = module_once (deeper 1 a) m (plain (deeper 1 a) ∷ notes_arguments a args ns) (close ∷ print_arguments args ks) (behind ps) c.1 in (
        applied_once a.scope args (first ps) _ _ d.0,
        past_arguments again a args ns ks d.1.1,
      )
  module_once a (ModuleTree.ascribed m s args) ns ks ps c =
      let d = module_once (deeper 1 a) m
      (plain (deeper 1 a) ∷ notes_signature (deeper 1 a) s (plain (deeper 1 a) ∷ notes_arguments a args ns))
      (colon ∷ print_signature s (close ∷ print_arguments args ks)) (behind ps) c.1 in
      let e = signature_once (deeper 1 a) s (plain (deeper 1 a) ∷ notes_arguments a args ns) (close ∷ print_arguments args ks)
      (behind (past_module m (behind ps))) d.1.1 in (
        applied_once a.scope args (first ps) _ _ (d.0, e.0),
        past_arguments again a args ns ks e.1.1,
      )

  items_once : (a : Around Scope) (before : Items) (is : ItemTrees) (ns : List Note) (ks : List Token) (ps : List ℕ) →
      CoversItems a.scope before → OnceItems before → Clear again (notes_items a is ns) (print_items is ks) →
      OnceItems (resolve_items a.scope before is ps) × Clear again ns ks
  items_once a before ItemTrees.done ns ks ps h o c = (o, c.1)
  items_once a before (ItemTrees.defined_type t u more) ns ks ps h o c =
      let d = type_item (resolve_type a.scope u (beyond 3 ps)) in
      items_once (knowing Sort.«Type» t a) (more_items before t d) more ns ks (past_type u (beyond 3 ps))
      (items_cover a.scope before Sort.«Type» t d refl h) (o, h Sort.«Type» t c.1.0, tt)
      (past_type_lem again a u (notes_items (knowing Sort.«Type» t a) more ns) (print_items more ks) c.1.1.1)
  items_once a before (ItemTrees.value x e more) ns ks ps h o c =
      let d = let_item (resolve_term a.scope e (beyond 3 ps)) in
      items_once (knowing Sort.Value x a) (more_items before x d) more ns ks (past_term e (beyond 3 ps))
      (items_cover a.scope before Sort.Value x d refl h) (o, h Sort.Value x c.1.0, tt)
      (past_term_lem again a e (notes_items (knowing Sort.Value x a) more ns) (print_items more ks) c.1.1.1)
  items_once a before (ItemTrees.submodule x m more) ns ks ps h o c =
      let d = module_item (resolve_module a.scope m (beyond 3 ps)) in
      let e = module_once a m (notes_items (knowing Sort.Module x a) more ns) (print_items more ks) (beyond 3 ps) c.1.1.1 in
      items_once (knowing Sort.Module x a) (more_items before x d) more ns ks (past_module m (beyond 3 ps))
      (items_cover a.scope before Sort.Module x d refl h) (o, h Sort.Module x c.1.0, e.0) e.1

-- ---- texts

pub declared_once : DeclaredOnce
declared_once = (
  λ s u ps e f.
      let c = stream_clear again (notes_unit u) s (print_unit u) e f in
      (items_once (binding Binder.Itself [] outermost) no_items u.items
      (notes_rank outermost u.rank (plain outermost ∷ [])) (print_rank u.rank (text_end ∷ [])) (beyond 4 ps) (λ t x g. tt) tt c.1.1.1.1).0,
  λ s t ps e f.
      (signature_once outermost t (plain outermost ∷ []) (text_end ∷ []) ps (stream_clear again (notes_signature_text t) s (print_signature_text t) e f)).0,
)
