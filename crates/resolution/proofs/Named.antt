-- The units that a resolved text names are those that the reader finds.
use Rattle.std.proofs.Common.{◌≡◌, ℕ, Bool, true, false, cond, List, [], ◌∷◌, ◌++◌, Some, None, Option, sym, refl, ap, ◌∙◌, subst, append_assoc, append-nil}
use Rattle.types.specs.Types.{Name, ModulePath, dot}
use Rattle.reader.specs.declared.scope.Sort.{Sort}
use Rattle.reader.specs.declared.scope.Binder.{Binder}
use Rattle.reader.specs.Tokens.{Token, text_end, upper, label2}
use Rattle.reader.specs.Syntax.{LongName, ModulePath as WrittenPath, TypeTree, TermTree, AtomTree, SignatureTree, SpecTrees, ModuleTree, ItemTrees, RankTree}
use Rattle.reader.specs.Print.{print_long_name, print_names, print_path, print_labels, print_type, print_term, print_atom, print_signature, print_specs, print_arguments, print_module, print_items, print_rank, print_unit, print_signature_text, close, colon, comma, dot as dotted, arrow}
use Rattle.reader.specs.Scopes.{Scope, Resolution, component, bound, nowhere, seek}
use Rattle.reader.specs.Streams.{Stream, finish, broken, next, tokens_in}
use Rattle.reader.specs.Notes.{Note, Around, deeper, outermost, plain, lower_head, upper_head, upper_note, notes_tail, notes_long_name, notes_names, notes_path, notes_labels, notes_type, notes_term, notes_atom, notes_signature, notes_specs, notes_arguments, notes_module, notes_items, notes_rank, notes_unit, notes_signature_text}
use Rattle.reader.specs.Annotate.{name_of, is_unit}
use Rattle.reader.specs.Mentions.{mentions_in}
use Rattle.rules.specs.Syntax.{TypeText, label_text0, label_text1, SpecTexts, no_specs, Module, Items, no_items}
use Rattle.rules.specs.Naming.{path_names, type_names, signature_names, specs_names, term_names, module_names, items_names, unit_names}
use Rattle.resolution.specs.Places.{places_in, first, behind, beyond}
use Rattle.resolution.specs.Heads.{Location, locate, upper_path, lower_path, dots, module_path_of, tail_path}
use Rattle.resolution.specs.Counting.{is_variable, binders_within, variables_within, counted}
use Rattle.resolution.specs.Behind.{past_long_name, past_names, past_path, past_labels, past_type, past_term, past_atom, past_signature, past_specs, past_arguments, past_items, past_module}
use Rattle.resolution.specs.Resolve.{resolve_type_path, labelled, resolve_type, lower_value, resolve_value_path, resolve_term, resolve_atom, resolve_signature, resolve_specs, applications, resolve_module, resolve_items, resolve_unit, resolve_signature_text}
use Rattle.resolution.specs.Statements.{UnitsNamed, SignaturesNamed}
use Rattle.resolution.proofs.Common.{knowing, binding, last_token, no_tokens, next_token}
use Rattle.resolution.proofs.Heads.{heads_agree}

-- the heads that name units, by notes, tokens and places side by side
abbrev named : List Note → List Token → List ℕ → List (Name × ℕ)
named [] ks ps = []
named (n ∷ ns) [] ps = []
named (n ∷ ns) (k ∷ ks) ps = cond (is_unit n.head) ((name_of k, first ps) ∷ named ns ks (behind ps)) (named ns ks (behind ps))

-- what one part names, and then another
joined : (xs ys rest : List (Name × ℕ)) {whole mid : List (Name × ℕ)} → whole ≡ xs ++ mid → mid ≡ ys ++ rest → whole ≡ (xs ++ ys) ++ rest
joined xs ys rest e f = e ∙ ap (λ (z : List (Name × ℕ)). xs ++ z) f ∙ sym (append_assoc xs ys rest)

-- ---- heads

-- an upper head names a unit where it is found nowhere
upper_names : (x : Name) (place : ℕ) (scope : Scope) (rest : List (Name × ℕ)) →
    cond (is_unit (upper_head (seek Sort.Module x scope))) ((x, place) ∷ rest) rest
    ≡ path_names (upper_path x (locate Sort.Module x scope)) place ++ rest
upper_names x place scope rest =
    at_found (seek Sort.Module x scope)
    ∙ ap (λ (l : Location). path_names (upper_path x l) place ++ rest) (sym (heads_agree Sort.Module x scope))
  where
    at_either : (t : Bool) (m v : ℕ) → rest ≡ path_names (upper_path x (cond t (Location.variable v) (Location.parameter m))) place ++ rest
    at_either true m v = refl
    at_either false m v = refl

    at_found : (r : Resolution) →
        cond (is_unit (upper_head r)) ((x, place) ∷ rest) rest ≡ path_names (upper_path x (counted scope r)) place ++ rest
    at_found (component n) = refl
    at_found (bound n) = at_either (is_variable n scope) (binders_within n scope) (variables_within n scope)
    at_found nowhere = refl

-- a lower head never does
lower_noted : (r : Resolution) (x : Name × ℕ) (rest : List (Name × ℕ)) → cond (is_unit (lower_head r)) (x ∷ rest) rest ≡ rest
lower_noted (component n) x rest = refl
lower_noted (bound n) x rest = refl
lower_noted nowhere x rest = refl

lower_names : (scope : Scope) (l : Location) (place : ℕ) → path_names (lower_path scope l) place ≡ []
lower_names scope (Location.component n) place = refl
lower_names scope (Location.parameter n) place = refl
lower_names scope (Location.variable n) place = refl
lower_names scope Location.nowhere place = refl

value_names : (scope : Scope) (x : Name) (place : ℕ) (l : Location) → term_names (lower_value scope x place l) ≡ []
value_names scope x place (Location.component n) = refl
value_names scope x place (Location.parameter n) = refl
value_names scope x place (Location.variable n) = refl
value_names scope x place Location.nowhere = refl

tail_names : (p : ModulePath) (q : LongName) (place : ℕ) → path_names (tail_path p q) place ≡ path_names p place
tail_names p (LongName.plain x) place = refl
tail_names p (LongName.inside m q) place = tail_names (dot p m) q place

dots_names : (p : ModulePath) (xs : List Name) (place : ℕ) → path_names (dots p xs) place ≡ path_names p place
dots_names p [] place = refl
dots_names p (x ∷ xs) place = dots_names (dot p x) xs place

-- ---- paths and types

module _ (ns : List Note) (ks : List Token) where
  tail_named : (a : Around Scope) (p : LongName) (ps : List ℕ) →
      named (notes_tail a p ns) (print_long_name p ks) ps ≡ named ns ks (past_long_name p ps)
  tail_named a (LongName.plain x) ps = refl
  tail_named a (LongName.inside m p) ps = tail_named a p (beyond 2 ps)

  -- a path that begins with an upper name
  inside_named : (a : Around Scope) (m : Name) (p : LongName) (ps : List ℕ) →
      named (upper_note a m ∷ plain a ∷ notes_tail a p ns) (upper m ∷ dotted ∷ print_long_name p ks) ps
      ≡ path_names (tail_path (upper_path m (locate Sort.Module m a.scope)) p) (first ps) ++ named ns ks (past_long_name p (beyond 2 ps))
  inside_named a m p ps =
      upper_names m (first ps) a.scope (named (notes_tail a p ns) (print_long_name p ks) (beyond 2 ps))
      ∙ cc (tail_names (upper_path m (locate Sort.Module m a.scope)) p (first ps), tail_named a p (beyond 2 ps))

  type_path_named : (a : Around Scope) (p : LongName) (ps : List ℕ) →
      named (notes_long_name Sort.«Type» a p ns) (print_long_name p ks) ps
      ≡ type_names (resolve_type_path a.scope p (first ps)) ++ named ns ks (past_long_name p ps)
  type_path_named a (LongName.plain x) ps =
      lower_noted (seek Sort.«Type» x a.scope) (x, first ps) (named ns ks (behind ps))
      ∙ ap (λ (z : List (Name × ℕ)). z ++ named ns ks (behind ps)) (sym (lower_names a.scope (locate Sort.«Type» x a.scope) (first ps)))
  type_path_named a (LongName.inside m p) ps = inside_named a m p ps

  value_path_named : (a : Around Scope) (p : LongName) (ps : List ℕ) →
      named (notes_long_name Sort.Value a p ns) (print_long_name p ks) ps
      ≡ term_names (resolve_value_path a.scope p (first ps)) ++ named ns ks (past_long_name p ps)
  value_path_named a (LongName.plain x) ps =
      lower_noted (seek Sort.Value x a.scope) (x, first ps) (named ns ks (behind ps))
      ∙ ap (λ (z : List (Name × ℕ)). z ++ named ns ks (behind ps)) (sym (value_names a.scope x (first ps) (locate Sort.Value x a.scope)))
  value_path_named a (LongName.inside m p) ps = inside_named a m p ps

  names_named : (a : Around Scope) (ms : List Name) (ps : List ℕ) →
      named (notes_names a ms ns) (print_names ms ks) ps ≡ named ns ks (past_names ms ps)
  names_named a [] ps = refl
  names_named a (m ∷ ms) ps = names_named a ms (beyond 2 ps)

  path_named : (a : Around Scope) (p : WrittenPath) (ps : List ℕ) →
      named (notes_path a p ns) (print_path p ks) ps ≡ path_names (module_path_of a.scope p) (first ps) ++ named ns ks (past_path p ps)
  path_named a p ps =
      upper_names p.first (first ps) a.scope (named (notes_names a p.more ns) (print_names p.more ks) (behind ps))
      ∙ cc (dots_names (upper_path p.first (locate Sort.Module p.first a.scope)) p.more (first ps), names_named a p.more (behind ps))

  labels_named : (a : Around Scope) (ls : List ℕ) (ps : List ℕ) →
      named (notes_labels a ls ns) (print_labels ls ks) ps ≡ named ns ks (past_labels ls ps)
  labels_named a [] ps = refl
  labels_named a (l ∷ ls) ps = labels_named a ls (behind ps)

labelled_names : (place : ℕ) (t : TypeText) (ls : List ℕ) → type_names (labelled place t ls) ≡ type_names t
labelled_names place t [] = refl
labelled_names place t (l ∷ ls) = labelled_names place (label_text1 place l t) ls

-- labels behind a type name nothing
with_labels : (a : Around Scope) (place : ℕ) (t : TypeText) (ls : List ℕ) (ns : List Note) (ks : List Token) (ps : List ℕ) →
    type_names t ++ named (notes_labels a ls ns) (print_labels ls ks) ps ≡ type_names (labelled place t ls) ++ named ns ks (past_labels ls ps)
with_labels a place t ls ns ks ps = cc (labels_named ns ks a ls ps, labelled_names place t ls)

type_named : (a : Around Scope) (t : TypeTree) (ns : List Note) (ks : List Token) (ps : List ℕ) →
    named (notes_type a t ns) (print_type t ks) ps ≡ type_names (resolve_type a.scope t ps) ++ named ns ks (past_type t ps)
type_named a (TypeTree.path p ls) ns ks ps =
    type_path_named (notes_labels a ls ns) (print_labels ls ks) a p ps
    ∙ with_labels a _ _ ls ns ks _
type_named a (TypeTree.constant l ls) ns ks ps = with_labels a _ (label_text0 (first ps) l) ls ns ks _
type_named a (TypeTree.bracket t ls) ns ks ps =
    type_named (deeper 1 a) t (plain (deeper 1 a) ∷ notes_labels a ls ns) (close ∷ print_labels ls ks) (behind ps)
    ∙ with_labels a _ _ ls ns ks _
type_named a (TypeTree.both t u l ls) ns ks ps =
    joined (type_names (resolve_type a.scope t (behind ps))) (type_names (resolve_type a.scope u (behind (past_type t (behind ps))))) _
    (type_named (deeper 1 a) t
    (plain (deeper 1 a) ∷ notes_type (deeper 1 a) u (plain (deeper 1 a) ∷ plain (deeper 1 a) ∷ notes_labels a ls ns))
    (comma ∷ print_type u (close ∷ label2 l ∷ print_labels ls ks)) (behind ps))
    (type_named (deeper 1 a) u (plain (deeper 1 a) ∷ plain (deeper 1 a) ∷ notes_labels a ls ns) (close ∷ label2 l ∷ print_labels ls ks)
    (behind (past_type t (behind ps))))
    ∙ with_labels a _ _ ls ns ks _

-- ---- terms

mutual
  term_named : (a : Around Scope) (e : TermTree) (ns : List Note) (ks : List Token) (ps : List ℕ) →
      named (notes_term a e ns) (print_term e ks) ps ≡ term_names (resolve_term a.scope e ps) ++ named ns ks (past_term e ps)
  term_named a (TermTree.function x t e) ns ks ps =
      joined (type_names (resolve_type a.scope t (beyond 4 ps))) _ _
      (type_named (deeper 2 a) t (plain (deeper 2 a) ∷ plain (deeper 1 a) ∷ notes_term (binding Binder.Variable x a) e ns) (close ∷ arrow ∷ print_term e ks) (beyond 4 ps))
      (term_named (binding Binder.Variable x a) e ns ks (beyond 2 (past_type t (beyond 4 ps))))
  term_named a (TermTree.one o b) ns ks ps =
      joined (term_names (resolve_atom a.scope b (behind ps))) [] (named ns ks (past_atom b (behind ps))) (atom_named a b ns ks (behind ps)) refl
  term_named a (TermTree.two o b c) ns ks ps =
      joined _ _ _ (atom_named a b (notes_atom a c ns) (print_atom c ks) (behind ps))
      (joined (term_names (resolve_atom a.scope c (past_atom b (behind ps)))) [] (named ns ks (past_atom c (past_atom b (behind ps))))
      (atom_named a c ns ks (past_atom b (behind ps))) refl)
  term_named a (TermTree.three o b c d) ns ks ps =
      joined _ _ _ (atom_named a b (notes_atom a c (notes_atom a d ns)) (print_atom c (print_atom d ks)) (behind ps))
      (joined _ _ _ (atom_named a c (notes_atom a d ns) (print_atom d ks) (past_atom b (behind ps)))
      (joined (term_names (resolve_atom a.scope d (past_atom c (past_atom b (behind ps))))) []
      (named ns ks (past_atom d (past_atom c (past_atom b (behind ps))))) (atom_named a d ns ks (past_atom c (past_atom b (behind ps)))) refl))
  term_named a (TermTree.atom b) ns ks ps = atom_named a b ns ks ps

  atom_named : (a : Around Scope) (b : AtomTree) (ns : List Note) (ks : List Token) (ps : List ℕ) →
      named (notes_atom a b ns) (print_atom b ks) ps ≡ term_names (resolve_atom a.scope b ps) ++ named ns ks (past_atom b ps)
  atom_named a (AtomTree.literal ds) ns ks ps = refl
  atom_named a (AtomTree.path p) ns ks ps = value_path_named ns ks a p ps
  atom_named a (AtomTree.constant o) ns ks ps = refl
  atom_named a (AtomTree.bracket e) ns ks ps = term_named (deeper 1 a) e (plain (deeper 1 a) ∷ ns) (close ∷ ks) (behind ps)

-- ---- signatures

mutual
  signature_named : (a : Around Scope) (s : SignatureTree) (ns : List Note) (ks : List Token) (ps : List ℕ) →
      named (notes_signature a s ns) (print_signature s ks) ps
      ≡ signature_names (resolve_signature a.scope s ps) ++ named ns ks (past_signature s ps)
  signature_named a (SignatureTree.sig_end specs) ns ks ps = specs_named (binding Binder.Itself [] a) no_specs specs ns ks (behind ps)
  signature_named a (SignatureTree.functor x p r) ns ks ps =
      joined _ _ _
      (signature_named (deeper 2 a) p (plain (deeper 2 a) ∷ plain (deeper 1 a) ∷ notes_signature (binding Binder.Parameter x a) r ns)
      (close ∷ arrow ∷ print_signature r ks) (beyond 4 ps))
      (signature_named (binding Binder.Parameter x a) r ns ks (beyond 2 (past_signature p (beyond 4 ps))))

  -- what the specs before name, and then what those behind name
  specs_named : (a : Around Scope) (before : SpecTexts) (specs : SpecTrees) (ns : List Note) (ks : List Token) (ps : List ℕ) →
      specs_names before ++ named (notes_specs a specs ns) (print_specs specs ks) ps
      ≡ specs_names (resolve_specs a.scope before specs ps) ++ named ns ks (past_specs specs ps)
  specs_named a before SpecTrees.done ns ks ps = refl
  specs_named a before (SpecTrees.abstract_type t more) ns ks ps =
      joined (specs_names before) [] _ refl refl
      ∙ specs_named (knowing Sort.«Type» t a) _ more ns ks (beyond 2 ps)
  specs_named a before (SpecTrees.defined_type t u more) ns ks ps =
      joined (specs_names before) (type_names (resolve_type a.scope u (beyond 3 ps))) _ refl
      (type_named a u (notes_specs (knowing Sort.«Type» t a) more ns) (print_specs more ks) (beyond 3 ps))
      ∙ specs_named (knowing Sort.«Type» t a) _ more ns ks
      (past_type u (beyond 3 ps))
  specs_named a before (SpecTrees.value x t more) ns ks ps =
      joined (specs_names before) (type_names (resolve_type a.scope t (beyond 3 ps))) _ refl
      (type_named a t (notes_specs (knowing Sort.Value x a) more ns) (print_specs more ks) (beyond 3 ps))
      ∙ specs_named (knowing Sort.Value x a) _ more ns ks
      (past_type t (beyond 3 ps))
  specs_named a before (SpecTrees.submodule x s more) ns ks ps =
      joined (specs_names before) (signature_names (resolve_signature a.scope s (beyond 3 ps))) _ refl
      (signature_named a s (notes_specs (knowing Sort.Module x a) more ns) (print_specs more ks) (beyond 3 ps))
      ∙ specs_named (knowing Sort.Module x a) _ more
      ns ks (past_signature s (beyond 3 ps))

-- ---- modules

-- what a module names, and then what the arguments behind it name
applied_named : (a : Around Scope) (args : List WrittenPath) (place : ℕ) (m : Module) (ns : List Note) (ks : List Token) (ps : List ℕ) →
    module_names m ++ named (notes_arguments a args ns) (print_arguments args ks) ps
    ≡ module_names (applications a.scope place m args ps) ++ named ns ks (past_arguments args ps)
applied_named a [] place m ns ks ps = refl
applied_named a (p ∷ args) place m ns ks ps =
    joined (module_names m) (path_names (module_path_of a.scope p) (first (behind ps))) _ refl
    (path_named (plain (deeper 1 a) ∷ notes_arguments a args ns) (close ∷ print_arguments args ks) (deeper 1 a) p (behind ps))
    ∙ applied_named a args place _ ns ks _

mutual
  module_named : (a : Around Scope) (m : ModuleTree) (ns : List Note) (ks : List Token) (ps : List ℕ) →
      named (notes_module a m ns) (print_module m ks) ps ≡ module_names (resolve_module a.scope m ps) ++ named ns ks (past_module m ps)
  module_named a (ModuleTree.functor x s m) ns ks ps =
      joined _ _ _
      (signature_named (deeper 2 a) s (plain (deeper 2 a) ∷ plain (deeper 1 a) ∷ notes_module (binding Binder.Parameter x a) m ns)
      (close ∷ arrow ∷ print_module m ks) (beyond 4 ps))
      (module_named (binding Binder.Parameter x a) m ns ks (beyond 2 (past_signature s (beyond 4 ps))))
  module_named a (ModuleTree.path p args) ns ks ps =
      path_named (notes_arguments a args ns) (print_arguments args ks) a p ps
      ∙ applied_named a args (first ps) _ ns ks _
  module_named a (ModuleTree.struct_end is args) ns ks ps =
      items_named (binding Binder.Itself [] a) no_items is (notes_arguments a args ns) (print_arguments args ks) (behind ps)
      ∙ applied_named a args (first ps) _ ns ks _
  module_named a (ModuleTree.bracket m args) ns ks ps =
      module_named (deeper 1 a) m (plain (deeper 1 a) ∷ notes_arguments a args ns) (close ∷ print_arguments args ks) (behind ps)
      ∙ applied_named a args (first ps) _ ns ks _
  module_named a (ModuleTree.ascribed m s args) ns ks ps =
      joined _ _ _
      (module_named (deeper 1 a) m
      (plain (deeper 1 a) ∷ notes_signature (deeper 1 a) s (plain (deeper 1 a) ∷ notes_arguments a args ns))
      (colon ∷ print_signature s (close ∷ print_arguments args ks)) (behind ps))
      (signature_named (deeper 1 a) s (plain (deeper 1 a) ∷ notes_arguments a args ns) (close ∷ print_arguments args ks) (behind (past_module m (behind ps))))
      ∙ applied_named a args (first ps) _ ns ks _

  -- what the items before name, and then what those behind name
  items_named : (a : Around Scope) (before : Items) (is : ItemTrees) (ns : List Note) (ks : List Token) (ps : List ℕ) →
      items_names before ++ named (notes_items a is ns) (print_items is ks) ps
      ≡ items_names (resolve_items a.scope before is ps) ++ named ns ks (past_items is ps)
  items_named a before ItemTrees.done ns ks ps = refl
  items_named a before (ItemTrees.defined_type t u more) ns ks ps =
      joined (items_names before) (type_names (resolve_type a.scope u (beyond 3 ps))) _ refl
      (type_named a u (notes_items (knowing Sort.«Type» t a) more ns) (print_items more ks) (beyond 3 ps))
      ∙ items_named (knowing Sort.«Type» t a) _ more ns ks
      (past_type u (beyond 3 ps))
  items_named a before (ItemTrees.value x e more) ns ks ps =
      joined (items_names before) (term_names (resolve_term a.scope e (beyond 3 ps))) _ refl
      (term_named a e (notes_items (knowing Sort.Value x a) more ns) (print_items more ks) (beyond 3 ps))
      ∙ items_named (knowing Sort.Value x a) _ more ns ks
      (past_term e (beyond 3 ps))
  items_named a before (ItemTrees.submodule x m more) ns ks ps =
      joined (items_names before) (module_names (resolve_module a.scope m (beyond 3 ps))) _ refl
      (module_named a m (notes_items (knowing Sort.Module x a) more ns) (print_items more ks) (beyond 3 ps))
      ∙ items_named (knowing Sort.Module x a) _ more ns ks
      (past_module m (beyond 3 ps))

-- ---- texts

none_named : (ns : List Note) (ps : List ℕ) → named ns [] ps ≡ []
none_named [] ps = refl
none_named (n ∷ ns) ps = refl

-- the notes of a stream's tokens, beside its tokens and its places
mentions_named : (ns : List Note) (s : Stream) (ks : List Token) → tokens_in s ≡ Some ks → mentions_in ns s ≡ named ns ks (places_in s)
mentions_named [] s ks e = refl
mentions_named (n ∷ ns) (finish p) ks e =
    subst (λ (js : List Token). mentions_in (n ∷ ns) (finish p) ≡ named (n ∷ ns) js (p ∷ [])) (last_token p ks e)
    (ap (λ (z : List (Name × ℕ)). cond (is_unit n.head) (([], p) ∷ z) z) (sym (none_named ns [])))
mentions_named (n ∷ ns) (broken p) ks e = no_tokens p ks e
mentions_named (n ∷ ns) (next k p s) ks e =
    let f = next_token k p s ks e in
    subst (λ (js : List Token). mentions_in (n ∷ ns) (next k p s) ≡ named (n ∷ ns) js (p ∷ places_in s)) f.2
    (ap (λ (z : List (Name × ℕ)). cond (is_unit n.head) ((name_of k, p) ∷ z) z) (mentions_named ns s f.0 f.1))

-- a rank and the text's end name nothing
rank_named : (a : Around Scope) (r : Option RankTree) (ps : List ℕ) →
    named (notes_rank a r (plain a ∷ [])) (print_rank r (text_end ∷ [])) ps ≡ []
rank_named a None ps = refl
rank_named a (Some n) ps = refl

pub units_named : UnitsNamed
units_named s u e =
    sym (mentions_named (notes_unit u) s (print_unit u) e
    ∙ items_named (binding Binder.Itself [] outermost) no_items u.items (notes_rank outermost u.rank (plain outermost ∷ []))
    (print_rank u.rank (text_end ∷ [])) (beyond 4 (places_in s))
    ∙ ap (λ (z : List (Name × ℕ)). unit_names (resolve_unit u (places_in s)) ++ z) (rank_named outermost u.rank (past_items u.items (beyond 4 (places_in s))))
    ∙ append-nil (unit_names (resolve_unit u (places_in s))))

pub signatures_named : SignaturesNamed
signatures_named s t e =
    sym (mentions_named (notes_signature_text t) s (print_signature_text t) e
    ∙ signature_named outermost t (plain outermost ∷ []) (text_end ∷ []) (places_in s)
    ∙ append-nil (signature_names (resolve_signature_text t (places_in s))))
