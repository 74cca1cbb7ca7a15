-- Where a path leads in a scope stands for where it leads in the environment.
use Rattle.std.proofs.Common.{◌≡◌, ℕ, Bool, true, false, cond, ◌&&◌, eqb, ◌⊎◌, Some, None, Option, sym, refl, ap, ◌∙◌, subst, ap₂, subst₂, inl, inr}
use Rattle.std.proofs.Math.Path.{fun_ext}
use Rattle.std.specs.Str.{bytes_eq}
use Rattle.std.proofs.lemmas.Bool.{eqb-true}
use Rattle.types.specs.Types.{Name, Head, ModulePath, at, dot, named, Ty, leaf}
use Rattle.rules.specs.Signatures.{Sort, a_type, a_value, a_module, Signature, structure, functor, Components, empty, more, Declaration, abstract, defined, value, nested, sort_of, same_sort, first_of, find}
use Rattle.rules.specs.Substitution.{Substitution, innermost, on_path, out, reading, on_type, on_declaration}
use Rattle.rules.specs.Lookup.{Env, extend, At, head, Has, Normal, opaque, unfolds}
use Rattle.rules.proofs.Algebra.{signature_id, type_reading_out}
use Rattle.rules.proofs.Finding.{at_unique, Begins, all, onward, last_cases}
use Rattle.rules.proofs.Along.{From, under_from}
use Rattle.rules.proofs.Exact.{Exact, exact_laws, longer}
use Rattle.rules.proofs.Transitive.{knows_exact}
use Rattle.rules.proofs.Knowing.{reading_along}
use Rattle.rules.proofs.Reflexive.{has_at}
use Rattle.rules.proofs.Converse.{at_has}
use Rattle.rules.proofs.Properness.{has_sort}
use Rattle.rules.proofs.Settling.{normal_exactly}
use Rattle.checker.specs.Numbered.{Sig, sig, functor_sig, Parts, no_parts, more_parts, Part, abstract_part, defined_part, value_part, module_part, sort_of_part, find_part}
use Rattle.checker.specs.Meanings.{Meaning, numbered_type}
use Rattle.checker.specs.Scope.{Scope, part_of, module_of, type_of_part, value_of_part, module_at, type_at, value_at}
use Rattle.checker.specs.Standing.{StandsFor, calls, calls_all, calls_one, entered, Like, LikeAll, LikeOne, Called, CalledAll, CalledOne, HeadStands, ScopeStands}
use Rattle.checker.proofs.Carrying.{Carry, like_one_along}
use Rattle.checker.specs.Statements.{ModuleLeads, TypeLeads, ValueLeads}

-- components that others begin with
pub data Starts (c : Parts) : Parts → Type 0 where
  whole : Starts c c
  further : {g : Parts} {y : Name} {e : Part} → Starts c g → Starts c (more_parts g y e)

pub like_sort : (e : Part) (d : Declaration) (Γ : Env) (ρ : Meaning) → LikeOne e d Γ ρ → sort_of_part e ≡ sort_of d
like_sort (abstract_part n) abstract Γ ρ l = refl
like_sort (abstract_part n) (defined u) Γ ρ l = absurd l
like_sort (abstract_part n) (value u) Γ ρ l = absurd l
like_sort (abstract_part n) (nested s) Γ ρ l = absurd l
like_sort (defined_part t) abstract Γ ρ l = absurd l
like_sort (defined_part t) (defined u) Γ ρ l = refl
like_sort (defined_part t) (value u) Γ ρ l = absurd l
like_sort (defined_part t) (nested s) Γ ρ l = absurd l
like_sort (value_part t) abstract Γ ρ l = absurd l
like_sort (value_part t) (defined u) Γ ρ l = absurd l
like_sort (value_part t) (value u) Γ ρ l = refl
like_sort (value_part t) (nested s) Γ ρ l = absurd l
like_sort (module_part n) abstract Γ ρ l = absurd l
like_sort (module_part n) (defined u) Γ ρ l = absurd l
like_sort (module_part n) (value u) Γ ρ l = absurd l
like_sort (module_part n) (nested s) Γ ρ l = refl

-- what is found on both sides: nothing, or components that stand for each other where those before them are known
abbrev pub Both : Parts → Components → Env → Meaning → Option Part → Option Declaration → Type 0
Both c g Γ ρ None None = Unit {0}
Both c g Γ ρ None (Some d) = ⊥
Both c g Γ ρ (Some e) None = ⊥
Both c g Γ ρ (Some e) (Some d) =
    (b : Parts) × (a : Components) × Starts b c × Begins a g × LikeOne e d (extend Γ (structure a)) (entered (sig b) ρ)

pub like_found : (c : Parts) (g : Components) (Γ : Env) (ρ : Meaning) → LikeAll c g Γ ρ → (s : Sort) (x : Name) → Both c g Γ ρ (find_part s x c) (find s x g)
like_found no_parts empty Γ ρ l s x = tt
like_found no_parts (more g z d) Γ ρ l s x = absurd l
like_found (more_parts c y e) empty Γ ρ l s x = absurd l
like_found (more_parts c y e) (more g z d) Γ ρ l s x =
    go (find_part s x c) (find s x g) (like_found c g Γ ρ l.0 s x)
    (same_sort s (sort_of_part e) && bytes_eq x y) (same_sort s (sort_of d) && bytes_eq x z)
    (ap₂ (λ a b. same_sort s a && bytes_eq x b) (like_sort e d (extend Γ (structure g)) (entered (sig c) ρ) l.2) l.1)
  where
    go :
        (o : Option Part) (o' : Option Declaration) → Both c g Γ ρ o o' → (b b' : Bool) → b ≡ b' →
        Both (more_parts c y e) (more g z d) Γ ρ (first_of o (cond b (Some e) None)) (first_of o' (cond b' (Some d) None))
    go None None w true true q = (c, g, further whole, onward all, l.2)
    go None None w true false q = cc
    go None None w false true q = cc
    go None None w false false q = tt
    go None (Some d') w b b' q = absurd w
    go (Some e') None w b b' q = absurd w
    go (Some e') (Some d') w b b' q = (w.0, w.1, further w.2, onward w.3, w.4)

-- what is found was before, or is the last component
pub part_cases :
    (c : Parts) (y : Name) (e : Part) (s : Sort) (x : Name) (d : Part) → find_part s x (more_parts c y e) ≡ Some d →
    (find_part s x c ≡ Some d) ⊎ ((find_part s x c ≡ None) × (e ≡ d) × (sort_of_part e ≡ s) × (y ≡ x))
part_cases c y e s x d = last_cases (find_part s x c) e d s (sort_of_part e) x y

pub called_found : (c : Parts) (p : ModulePath) (ρ : Meaning) → CalledAll p c ρ → (s : Sort) (x : Name) (e : Part) → find_part s x c ≡ Some e → CalledOne p x e ρ
called_found no_parts p ρ k s x e f = cc
called_found (more_parts c y d) p ρ k s x e f = go (called_found c p ρ k.0 s x e) (part_cases c y d s x e f)
  where
    go :
        (find_part s x c ≡ Some e → CalledOne p x e ρ) →
        (find_part s x c ≡ Some e) ⊎ ((find_part s x c ≡ None) × (d ≡ e) × (sort_of_part d ≡ s) × (y ≡ x)) → CalledOne p x e ρ
    go ih (inl g) = ih g
    go ih (inr w) = subst₂ (λ a b. CalledOne p a b ρ) w.3 w.1 k.1

pub called_starts : {b c : Parts} → Starts b c → (p : ModulePath) (ρ : Meaning) → CalledAll p c ρ → CalledAll p b ρ
called_starts whole p ρ k = k
called_starts (further s) p ρ k = called_starts s p ρ k.0

cond_on : (θ : Substitution) (b : Bool) (t u : Ty) → on_type θ (cond b t u) ≡ cond b (on_type θ t) (on_type θ u)
cond_on θ true t u = refl
cond_on θ false t u = refl

bound_same : (j : ℕ) (t : Ty) (ρ : Meaning) → ρ j ≡ t → (n : ℕ) (b : Bool) → eqb n j ≡ b → cond (eqb n j) t (ρ n) ≡ ρ n
bound_same j t ρ k n true e = ap (λ b. cond b t (ρ n)) e ∙ (sym k ∙ ap ρ (sym (eqb-true n j e)))
bound_same j t ρ k n false e = ap (λ b. cond b t (ρ n)) e

-- calling goes along a substitution
mutual
  pub calls_on : (s : Sig) (θ : Substitution) (q : ModulePath) (ρ : Meaning) (n : ℕ) → on_type θ (calls q s ρ n) ≡ calls (on_path θ q) s (λ j. on_type θ (ρ j)) n
  calls_on (sig c) θ q ρ n = calls_all_on c θ q ρ n
  calls_on (functor_sig s r) θ q ρ n = refl

  calls_all_on : (c : Parts) (θ : Substitution) (q : ModulePath) (ρ : Meaning) (n : ℕ) → on_type θ (calls_all q c ρ n) ≡ calls_all (on_path θ q) c (λ j. on_type θ (ρ j)) n
  calls_all_on no_parts θ q ρ n = refl
  calls_all_on (more_parts c x d) θ q ρ n =
      calls_one_on d x θ q (calls_all q c ρ) n
      ∙ ap (λ υ. calls_one (on_path θ q) x d υ n) (fun_ext (λ j. calls_all_on c θ q ρ j))

  calls_one_on : (d : Part) (x : Name) (θ : Substitution) (q : ModulePath) (ρ : Meaning) (n : ℕ) → on_type θ (calls_one q x d ρ n) ≡ calls_one (on_path θ q) x d (λ j. on_type θ (ρ j)) n
  calls_one_on (abstract_part k) x θ q ρ n = cond_on θ (eqb n k) (leaf (named q x)) (ρ n)
  calls_one_on (defined_part t) x θ q ρ n = refl
  calls_one_on (value_part t) x θ q ρ n = refl
  calls_one_on (module_part s) x θ q ρ n = calls_on s θ (dot q x) ρ n

-- calling again what is called so changes nothing
mutual
  pub called_calls : (s : Sig) (p : ModulePath) (ρ : Meaning) → Called p s ρ → (n : ℕ) → calls p s ρ n ≡ ρ n
  called_calls (sig c) p ρ k n = called_all_calls c p ρ k n
  called_calls (functor_sig s r) p ρ k n = refl

  called_all_calls : (c : Parts) (p : ModulePath) (ρ : Meaning) → CalledAll p c ρ → (n : ℕ) → calls_all p c ρ n ≡ ρ n
  called_all_calls no_parts p ρ k n = refl
  called_all_calls (more_parts c x d) p ρ k n =
      ap (λ υ. calls_one p x d υ n) (fun_ext (called_all_calls c p ρ k.0)) ∙ called_one_calls d x p ρ k.1 n

  called_one_calls : (d : Part) (x : Name) (p : ModulePath) (ρ : Meaning) → CalledOne p x d ρ → (n : ℕ) → calls_one p x d ρ n ≡ ρ n
  called_one_calls (abstract_part j) x p ρ k n = bound_same j (leaf (named p x)) ρ k n (eqb n j) refl
  called_one_calls (defined_part t) x p ρ k n = refl
  called_one_calls (value_part t) x p ρ k n = refl
  called_one_calls (module_part s) x p ρ k n = called_calls s (dot p x) ρ k n

pub entered_reading : (s : Sig) (p : ModulePath) (ρ : Meaning) → Called p s ρ → (n : ℕ) → on_type (reading p) (entered s ρ n) ≡ ρ n
entered_reading s p ρ k n =
    calls_on s (reading p) innermost (λ j. on_type out (ρ j)) n
    ∙ (ap (λ υ. calls p s υ n) (fun_ext (λ j. type_reading_out p (ρ j))) ∙ called_calls s p ρ k n)

-- reading at a path that leads to exactly this, or to more
pub exact_reading : (Γ : Env) (p : ModulePath) (s : Signature) → Exact Γ p s → From Exact (reading p) (extend Γ s) Γ
exact_reading Γ p s k =
    under_from Exact exact_laws at Γ Γ p s
    (λ h t e. subst (Exact Γ (at h)) (sym (signature_id t)) (exact_laws.exact Γ h t e))
    (subst (Exact Γ p) (sym (signature_id s)) k)

pub carry_reading :
    (n : Sig) (s : Signature) (Γ : Env) (p : ModulePath) (ρ : Meaning) → Exact Γ p s → Called p n ρ →
    Carry (reading p) (extend Γ s) (entered n ρ) Γ ρ
carry_reading n s Γ p ρ x k i m =
    subst (Normal Γ (on_type (reading p) (entered n ρ i))) (entered_reading n p ρ k i) (normal_exactly m (reading p) Γ (exact_reading Γ p s x))

-- a component, read at its path
pub like_one_at :
    (Γ : Env) (p : ModulePath) (g : Components) (c : Parts) (ρ : Meaning) → At Γ p (structure g) → CalledAll p c ρ →
    (b : Parts) (a : Components) → Starts b c → Begins a g → (e : Part) (d : Declaration) →
    LikeOne e d (extend Γ (structure a)) (entered (sig b) ρ) → LikeOne e (on_declaration (reading p) d) Γ ρ
like_one_at Γ p g c ρ w k b a i j e d l =
    let x : Exact Γ p (structure a) = (structure g, w, longer j) in
    like_one_along e d (reading p) (extend Γ (structure a)) (entered (sig b) ρ) Γ ρ
    (reading_along Γ p (structure a) (knows_exact x))
    (carry_reading (sig b) (structure a) Γ p ρ x (called_starts i p ρ k)) l

-- a component there
abbrev pub PartStands : Option Part → Sort → ModulePath → Name → Env → Meaning → Type 0
PartStands None s p x Γ ρ = (d : Declaration) → Has Γ p s x d → ⊥
PartStands (Some e) s p x Γ ρ = (d : Declaration) × Has Γ p s x d × LikeOne e d Γ ρ × CalledOne p x e ρ

pub look_part : (o : Option Sig) (p : ModulePath) (Γ : Env) (ρ : Meaning) → ModuleLeads o p Γ ρ → (s : Sort) (x : Name) → PartStands (part_of s x o) s p x Γ ρ
look_part None p Γ ρ k s x = λ d h. k (structure h.components) h.leads
look_part (Some (functor_sig n m)) p Γ ρ k s x = λ d h. go k.0 k.1 k.2 d h
  where
    go : (t : Signature) → At Γ p t → Like (functor_sig n m) t Γ ρ → (d : Declaration) → Has Γ p s x d → ⊥
    go (structure g) a l d h = l
    go (functor t r) a l d h = let e = at_unique a h.leads in cc
look_part (Some (sig c)) p Γ ρ k s x = go k.0 k.1 k.2 k.3
  where
    not_found : (g : Components) → At Γ p (structure g) → find s x g ≡ None → (d : Declaration) → Has Γ p s x d → ⊥
    not_found g a e d h =
        let u = at_unique a h.leads in
        let f = h.found in
        let i : g ≡ h.components = cc in
        cc

    found_both :
        (g : Components) → At Γ p (structure g) → CalledAll p c ρ → (o : Option Part) → find_part s x c ≡ o → (o' : Option Declaration) → find s x g ≡ o' →
        Both c g Γ ρ o o' → PartStands o s p x Γ ρ
    found_both g a q None e None e' b = λ d h. not_found g a e' d h
    found_both g a q None e (Some d) e' b = absurd b
    found_both g a q (Some d) e None e' b = absurd b
    found_both g a q (Some d) e (Some d') e' b = (
      on_declaration (reading p) d',
      record { components = g; declared = d'; leads = a; found = e'; reads = refl },
      like_one_at Γ p g c ρ a q b.0 b.1 b.2 b.3 d d' b.4,
      called_found c p ρ q s x d e,
    )

    go : (t : Signature) → At Γ p t → Like (sig c) t Γ ρ → CalledAll p c ρ → PartStands (find_part s x c) s p x Γ ρ
    go (structure g) a l q = found_both g a q (find_part s x c) refl (find s x g) refl (like_found c g Γ ρ l s x)
    go (functor t r) a l q = absurd l

-- a module component's signature
pub part_module : (o : Option Part) (p : ModulePath) (x : Name) (Γ : Env) (ρ : Meaning) → PartStands o a_module p x Γ ρ → ModuleLeads (module_of o) (dot p x) Γ ρ
part_module None p x Γ ρ k = λ s a. k (nested s) (at_has a)
part_module (Some (abstract_part n)) p x Γ ρ k =
    let i = like_sort (abstract_part n) k.0 Γ ρ k.2 in let j = has_sort k.1 in cc
part_module (Some (defined_part t)) p x Γ ρ k =
    let i = like_sort (defined_part t) k.0 Γ ρ k.2 in let j = has_sort k.1 in cc
part_module (Some (value_part t)) p x Γ ρ k =
    let i = like_sort (value_part t) k.0 Γ ρ k.2 in let j = has_sort k.1 in cc
part_module (Some (module_part n)) p x Γ ρ k = go k.0 k.1 k.2
  where
    go : (d : Declaration) → Has Γ p a_module x d → LikeOne (module_part n) d Γ ρ → ModuleLeads (Some n) (dot p x) Γ ρ
    go abstract h l = absurd l
    go (defined u) h l = absurd l
    go (value u) h l = absurd l
    go (nested s) h l = (s, has_at h, l, k.3)

head_look : (o : Option Sig) (o' : Option Signature) (h : Head) (Γ : Env) (ρ : Meaning) → Γ h ≡ o' → HeadStands o o' h Γ ρ → ModuleLeads o (at h) Γ ρ
head_look None None h Γ ρ e k = λ s a. none_at s a
  where
    none_at : (s : Signature) → At Γ (at h) s → ⊥
    none_at s (head f) = cc
head_look None (Some s) h Γ ρ e k = absurd k
head_look (Some n) None h Γ ρ e k = absurd k
head_look (Some n) (Some s) h Γ ρ e k = (s, head e, k.0, k.1)

-- a path leads to a module in the scope exactly when it does in the environment, and what is found stands for it
pub look : (G : Scope) (Γ : Env) (ρ : Meaning) → ScopeStands G Γ ρ → (p : ModulePath) → ModuleLeads (module_at G p) p Γ ρ
look G Γ ρ k (at h) = head_look (G h) (Γ h) h Γ ρ refl (k h)
look G Γ ρ k (dot p x) =
    part_module (part_of a_module x (module_at G p)) p x Γ ρ (look_part (module_at G p) p Γ ρ (look G Γ ρ k p) a_module x)

pub part_type : (o : Option Part) (p : ModulePath) (x : Name) (Γ : Env) (ρ : Meaning) → PartStands o a_type p x Γ ρ → TypeLeads (type_of_part o) p x Γ ρ
part_type None p x Γ ρ k = k
part_type (Some (abstract_part n)) p x Γ ρ k = go k.0 k.1 k.2
  where
    go : (d : Declaration) → Has Γ p a_type x d → LikeOne (abstract_part n) d Γ ρ → StandsFor (numbered_type n) (leaf (named p x)) Γ ρ
    go abstract h l = (tt, subst (Normal Γ (leaf (named p x))) (sym k.3) (opaque h))
    go (defined u) h l = absurd l
    go (value u) h l = absurd l
    go (nested s) h l = absurd l
part_type (Some (defined_part t)) p x Γ ρ k = go k.0 k.1 k.2
  where
    go : (d : Declaration) → Has Γ p a_type x d → LikeOne (defined_part t) d Γ ρ → StandsFor t (leaf (named p x)) Γ ρ
    go abstract h l = absurd l
    go (defined u) h l = (l.0, unfolds u h l.1)
    go (value u) h l = absurd l
    go (nested s) h l = absurd l
part_type (Some (value_part t)) p x Γ ρ k =
    let i = like_sort (value_part t) k.0 Γ ρ k.2 in let j = has_sort k.1 in cc
part_type (Some (module_part t)) p x Γ ρ k =
    let i = like_sort (module_part t) k.0 Γ ρ k.2 in let j = has_sort k.1 in cc

pub look_type : (G : Scope) (Γ : Env) (ρ : Meaning) → ScopeStands G Γ ρ → (p : ModulePath) (x : Name) → TypeLeads (type_at G p x) p x Γ ρ
look_type G Γ ρ k p x =
    part_type (part_of a_type x (module_at G p)) p x Γ ρ (look_part (module_at G p) p Γ ρ (look G Γ ρ k p) a_type x)

pub part_value : (o : Option Part) (p : ModulePath) (x : Name) (Γ : Env) (ρ : Meaning) → PartStands o a_value p x Γ ρ → ValueLeads (value_of_part o) p x Γ ρ
part_value None p x Γ ρ k = λ t h. k (value t) h
part_value (Some (abstract_part n)) p x Γ ρ k =
    let i = like_sort (abstract_part n) k.0 Γ ρ k.2 in let j = has_sort k.1 in cc
part_value (Some (defined_part u)) p x Γ ρ k =
    let i = like_sort (defined_part u) k.0 Γ ρ k.2 in let j = has_sort k.1 in cc
part_value (Some (value_part t)) p x Γ ρ k = go k.0 k.1 k.2
  where
    go : (d : Declaration) → Has Γ p a_value x d → LikeOne (value_part t) d Γ ρ → ValueLeads (Some t) p x Γ ρ
    go abstract h l = absurd l
    go (defined u) h l = absurd l
    go (value u) h l = (u, h, l)
    go (nested s) h l = absurd l
part_value (Some (module_part n)) p x Γ ρ k =
    let i = like_sort (module_part n) k.0 Γ ρ k.2 in let j = has_sort k.1 in cc

pub look_value : (G : Scope) (Γ : Env) (ρ : Meaning) → ScopeStands G Γ ρ → (p : ModulePath) (x : Name) → ValueLeads (value_at G p x) p x Γ ρ
look_value G Γ ρ k p x =
    part_value (part_of a_value x (module_at G p)) p x Γ ρ (look_part (module_at G p) p Γ ρ (look G Γ ρ k p) a_value x)
