-- Substitutions along which what is known is exactly the same, or a structure with more components behind: weakening.
use Rattle.std.proofs.Common.{◌≡◌, zero, suc, Some, sym, refl, ap, ◌∙◌, subst}
use Rattle.std.proofs.Math.Path.{fun_ext}
use Rattle.types.specs.Types.{Name, Head, unit, binder, ModulePath, at, dot, named, leaf}
use Rattle.rules.specs.Signatures.{Sort, a_type, a_value, a_module, Signature, structure, functor, Components, Declaration, abstract, defined, value, nested, find, on_some}
use Rattle.rules.specs.Substitution.{Substitution, under, outward, innermost, on_path, out, lift, reading, on_type, on_signature, on_components, on_declaration}
use Rattle.rules.specs.Lookup.{Env, extend, At, head, inside, Has, opaque, unfolds}
use Rattle.rules.proofs.Algebra.{signature_reading_on, components_fresh}
use Rattle.rules.proofs.Finding.{find_on_some, find_begins, begins_on, Begins, all}
use Rattle.rules.proofs.Inner.{Gives, g_structure, g_functor, GivesAll, Fits, f_structure, f_functor}
use Rattle.rules.proofs.Along.{Laws, From, under_from, gives_along, fits_along}

-- the same signature, or a structure that begins with the other's components
pub data Longer : Signature → Signature → Type 0 where
  longer : {c g : Components} → Begins c g → Longer (structure g) (structure c)
  alike : {s r : Signature} → Longer (functor s r) (functor s r)

pub longer_self : (s : Signature) → Longer s s
longer_self (structure c) = longer all
longer_self (functor s r) = alike

pub longer_on : (θ : Substitution) {g s : Signature} → Longer g s → Longer (on_signature θ g) (on_signature θ s)
longer_on θ (longer b) = longer (begins_on (lift θ) b)
longer_on θ alike = alike

-- the environment knows this at the path, perhaps with components behind
abbrev pub Exact : Env → ModulePath → Signature → Type 0
Exact Γ q s = (g : Signature) × At Γ q g × Longer g s

pub exact_at : {Γ : Env} {q : ModulePath} {s : Signature} → At Γ q s → Exact Γ q s
exact_at {Γ} {q} {s} a = (s, a, longer_self s)

pub known_outward : (Γ : Env) (g : Signature) (h : Head) (s : Signature) → Γ h ≡ Some s → extend Γ g (outward h) ≡ Some (on_signature out s)
known_outward Γ g (unit u) s e = ap (on_some (on_signature out)) e
known_outward Γ g (binder n) s e = ap (on_some (on_signature out)) e

-- lookup where each head leads to exactly the same
pub at_exactly :
    {Γ' : Env} {p : ModulePath} {s : Signature} → At Γ' p s → (θ : Substitution) (Γ : Env) →
    ((h : Head) (t : Signature) → Γ' h ≡ Some t → At Γ (θ h) (on_signature θ t)) → At Γ (on_path θ p) (on_signature θ s)
at_exactly (head {h = h} {s = s} e) θ Γ k = k h s e
at_exactly (inside {p = p} {x = x} c d a f r) θ Γ k =
    inside (on_components (lift θ) c) (on_signature (lift θ) d) (at_exactly a θ Γ k) (find_on_some (lift θ) a_module x c (nested d) f)
    (sym (signature_reading_on θ p d) ∙ ap (on_signature θ) r)

pub at_weaken : {Γ : Env} (g : Signature) {q : ModulePath} {s : Signature} → At Γ q s → At (extend Γ g) (on_path out q) (on_signature out s)
at_weaken {Γ} g a = at_exactly a out (extend Γ g) (λ h t e. head (known_outward Γ g h t e))

-- what an exact structure has
pub exact_has :
    (Γ : Env) (q : ModulePath) (c : Components) (s : Sort) (x : Name) (d : Declaration) →
    Exact Γ q (structure c) → find s x c ≡ Some d → Has Γ q s x (on_declaration (reading q) d)
exact_has Γ q c s x d (g) f = go g.0 g.1 g.2
  where
    go : (g : Signature) → At Γ q g → Longer g (structure c) → Has Γ q s x (on_declaration (reading q) d)
    go (functor _ _) a l = elim l [ ]
    go (structure g) a (longer b) =
        record { components = g; declared = d; leads = a; found = find_begins b s x d f; reads = refl }

exact_below :
    (Γ : Env) (q : ModulePath) (c : Components) (x : Name) (s : Signature) →
    Exact Γ q (structure c) → find a_module x c ≡ Some (nested s) → Exact Γ (dot q x) (on_signature (reading q) s)
exact_below Γ q c x s k f = go k.0 k.1 k.2
  where
    go : (g : Signature) → At Γ q g → Longer g (structure c) → Exact Γ (dot q x) (on_signature (reading q) s)
    go (functor _ _) a l = elim l [ ]
    go (structure g) a (longer b) = exact_at (inside g s a (find_begins b a_module x (nested s) f) refl)

exact_structure : (Γ : Env) (q : ModulePath) (c : Components) → Exact Γ q (structure c) → (g : Components) × At Γ q (structure g)
exact_structure Γ q c k = go k.0 k.1 k.2
  where
    go : (g : Signature) → At Γ q g → Longer g (structure c) → (g : Components) × At Γ q (structure g)
    go (functor _ _) a l = elim l [ ]
    go (structure g) a (longer b) = (g, a)

exact_functor : (Γ : Env) (q : ModulePath) (f s r : Signature) → Exact Γ q f → Fits Γ f (functor s r) → Gives Γ q (functor s r)
exact_functor Γ q (structure _) s r k m = elim m [ ]
exact_functor Γ q (functor s₁ r₁) s r k m = go k.0 k.1 k.2
  where
    go : (g : Signature) → At Γ q g → Longer g (functor s₁ r₁) → Gives Γ q (functor s r)
    go (structure _) a l = elim l [ ]
    go (functor _ _) a alike = g_functor (functor s₁ r₁) a m

pub exact_laws : Laws Exact
exact_laws = record {
  exact = λ Γ h s e. exact_at (head e);
  below = exact_below;
  is_structure = exact_structure;
  of_abstract = λ Γ q c x k f. (leaf (named q x), opaque (exact_has Γ q c a_type x abstract k f));
  of_defined = λ Γ q c x t n k f m. unfolds (on_type (reading q) t) (exact_has Γ q c a_type x (defined t) k f) m;
  of_value = λ Γ q c x t n k f m. (on_type (reading q) t, exact_has Γ q c a_value x (value t) k f, m);
  of_functor = exact_functor;
  weaken = λ Γ g q s k. (on_signature out k.0, at_weaken g k.1, longer_on out k.2);
}

-- into an environment with one more binder
pub out_from : (K : Env → ModulePath → Signature → Type 0) → Laws K → (Γ : Env) (g : Signature) → From K out Γ (extend Γ g)
out_from K L Γ g h s e = L.exact (extend Γ g) (outward h) (on_signature out s) (known_outward Γ g h s e)

pub gives_weaken : {Γ : Env} (g : Signature) {q : ModulePath} {s : Signature} → Gives Γ q s → Gives (extend Γ g) (on_path out q) (on_signature out s)
gives_weaken {Γ} g m = gives_along Exact exact_laws m out (extend Γ g) (out_from Exact exact_laws Γ g)

pub fits_weaken : {Γ : Env} (g : Signature) {s s' : Signature} → Fits Γ s s' → Fits (extend Γ g) (on_signature out s) (on_signature out s')
fits_weaken {Γ} g m = fits_along Exact exact_laws m out (extend Γ g) (out_from Exact exact_laws Γ g)

-- a fresh module of a signature gives what that signature matches
pub fits_fresh : {Γ : Env} {a b : Signature} → Fits Γ a b → Gives (extend Γ a) innermost (on_signature out b)
fits_fresh (f_structure {Γ = Γ} {g = g} {c = c} m) =
    g_structure (on_components (lift out) g) (head refl) (subst (GivesAll (extend Γ (structure g)) innermost) (sym (components_fresh c)) m)
fits_fresh (f_functor {s = s} {r = r} a b) =
    g_functor (on_signature out (functor s r)) (head refl) (fits_weaken (functor s r) (f_functor a b))

-- the renaming of a fresh binder to a fresh binder
pub under_fresh : under innermost out ≡ at
under_fresh = fun_ext go
  where
    go : (h : Head) → under innermost out h ≡ at h
    go (unit u) = refl
    go (binder zero) = refl
    go (binder (suc n)) = refl

-- one fresh binder for another, of which at least as much is known
pub narrow_from :
    (K : Env → ModulePath → Signature → Type 0) (L : Laws K) (Γ : Env) (a b : Signature) →
    K (extend Γ a) innermost (on_signature out b) → From K at (extend Γ b) (extend Γ a)
narrow_from K L Γ a b k =
    subst (λ θ. From K θ (extend Γ b) (extend Γ a)) under_fresh
    (under_from K L out Γ (extend Γ a) innermost b (out_from K L Γ a) k)
