-- Lookup, normal forms and matching where what is known at each head is exactly the same or is given.
use Rattle.std.proofs.Common.{sym, subst, subst₂, inl, inr}
use Rattle.types.specs.Types.{ModulePath, at, Ty}
use Rattle.rules.specs.Signatures.{Signature, structure, functor, Components}
use Rattle.rules.specs.Substitution.{Substitution, under, innermost, on_path, out, lift, reading, on_signature, on_components, on_declaration}
use Rattle.rules.specs.Lookup.{Env, extend, At, Normal}
use Rattle.rules.proofs.Algebra.{after, signature_comp, signature_id, components_id, type_id, path_id}
use Rattle.rules.proofs.Inner.{Typed, Gives, g_structure, GivesAll, Fits, f_structure}
use Rattle.rules.proofs.Along.{From, under_from, weaken_from, lift_from, at_along, normal_along, gives_along, gives_all_along, fits_along}
use Rattle.rules.proofs.Finding.{Begins, all, onward}
use Rattle.rules.proofs.Exact.{exact_at, Longer, longer, alike, longer_on, narrow_from, out_from}
use Rattle.rules.proofs.Transitive.{Upto, Knows, knows_laws, knows_gives, knows_exact, gives_last}

abbrev pub Along : Substitution → Env → Env → Type 0
Along θ Γ' Γ = From Knows θ Γ' Γ

pub knows_at : {Γ : Env} {q : ModulePath} {s : Signature} → At Γ q s → Knows Γ q s
knows_at a = knows_exact (exact_at a)

pub id_along : (Γ : Env) → Along at Γ Γ
id_along Γ h s e = subst (Knows Γ (at h)) (sym (signature_id s)) (knows_laws.exact Γ h s e)

pub out_along : (Γ : Env) (g : Signature) → Along out Γ (extend Γ g)
out_along Γ g = out_from Knows knows_laws Γ g

pub weaken_along : (θ : Substitution) (Γ' Γ : Env) (g : Signature) → Along θ Γ' Γ → Along (after out θ) Γ' (extend Γ g)
weaken_along = weaken_from Knows knows_laws

pub under_along : (θ : Substitution) (Γ' Γ : Env) (q : ModulePath) (s : Signature) → Along θ Γ' Γ → Knows Γ q (on_signature θ s) → Along (under q θ) (extend Γ' s) Γ
under_along = under_from Knows knows_laws

pub lift_along : (θ : Substitution) (Γ' Γ : Env) (s : Signature) → Along θ Γ' Γ → Along (lift θ) (extend Γ' s) (extend Γ (on_signature θ s))
lift_along = lift_from Knows knows_laws

pub reading_along : (Γ : Env) (p : ModulePath) (s : Signature) → Knows Γ p s → Along (reading p) (extend Γ s) Γ
reading_along Γ p s k = under_along at Γ Γ p s (id_along Γ) (subst (Knows Γ p) (sym (signature_id s)) k)

pub narrow_along : (Γ : Env) (a b : Signature) → Knows (extend Γ a) innermost (on_signature out b) → Along at (extend Γ b) (extend Γ a)
narrow_along = narrow_from Knows knows_laws

-- a path of which a signature is known gives what that signature matches
pub knows_fits : (Γ : Env) (p : ModulePath) (s s' : Signature) → Knows Γ p s → Fits Γ s s' → Gives Γ p s'
knows_fits Γ p (structure g) (structure c) k (f_structure m) =
    let w = knows_laws.is_structure Γ p g k in
    g_structure w.0 w.1 (gives_all_along Knows knows_laws m (reading p) Γ (reading_along Γ p (structure g) k))
knows_fits Γ p (structure g) (functor s r) k m = elim m [ ]
knows_fits Γ p (functor s r) (structure c) k m = elim m [ ]
knows_fits Γ p (functor s r) (functor s' r') k m = knows_laws.of_functor Γ p (functor s r) s' r' k m

pub gives_fits : {Γ : Env} {p : ModulePath} {s s' : Signature} → Gives Γ p s → Fits Γ s s' → Gives Γ p s'
gives_fits {Γ} {p} {s} {s'} k m = knows_fits Γ p s s' (knows_gives k) m

pub at_fits : {Γ : Env} {p : ModulePath} {s s' : Signature} → At Γ p s → Fits Γ s s' → Gives Γ p s'
at_fits {Γ} {p} {s} {s'} k m = knows_fits Γ p s s' (knows_at k) m

-- along a substitution that leaves heads as they are
pub normal_finer : {Γ' Γ : Env} {t n : Ty} → Along at Γ' Γ → Normal Γ' t n → (m : Ty) × Normal Γ t m × Normal Γ n m
normal_finer {Γ'} {Γ} {t} {n} k a =
    let w = normal_along Knows knows_laws a at Γ k in
    (w.0, subst (λ z. Normal Γ z w.0) (type_id t) w.1, subst (λ z. Normal Γ z w.0) (type_id n) w.2)

pub typed_finer : {Γ' Γ : Env} {t : Ty} → Along at Γ' Γ → Typed Γ' t → Typed Γ t
typed_finer k a = let w = normal_finer k a.1 in (w.0, w.1)

pub knows_finer : {Γ' Γ : Env} {p : ModulePath} {s : Signature} → Along at Γ' Γ → At Γ' p s → Knows Γ p s
knows_finer {Γ'} {Γ} {p} {s} k a = subst₂ (Knows Γ) (path_id p) (signature_id s) (at_along Knows knows_laws a at Γ k)

pub gives_finer : {Γ' Γ : Env} {p : ModulePath} {s : Signature} → Along at Γ' Γ → Gives Γ' p s → Gives Γ p s
gives_finer {Γ'} {Γ} {p} {s} k a = subst₂ (Gives Γ) (path_id p) (signature_id s) (gives_along Knows knows_laws a at Γ k)

pub gives_all_finer : {Γ' Γ : Env} {p : ModulePath} {c : Components} → Along at Γ' Γ → GivesAll Γ' p c → GivesAll Γ p c
gives_all_finer {Γ'} {Γ} {p} {c} k a = subst₂ (GivesAll Γ) (path_id p) (components_id c) (gives_all_along Knows knows_laws a at Γ k)

pub fits_finer : {Γ' Γ : Env} {s s' : Signature} → Along at Γ' Γ → Fits Γ' s s' → Fits Γ s s'
fits_finer {Γ'} {Γ} {s} {s'} k a = subst₂ (Fits Γ) (signature_id s) (signature_id s') (fits_along Knows knows_laws a at Γ k)

-- what is known of a longer structure is known of a shorter one
gives_all_begins : {c g : Components} → Begins c g → (Γ : Env) (q : ModulePath) (θ : Substitution) → GivesAll Γ q (on_components θ g) → GivesAll Γ q (on_components θ c)
gives_all_begins all Γ q θ m = m
gives_all_begins (onward {g = g} {y = y} {e = e} b) Γ q θ m =
    gives_all_begins b Γ q θ (gives_last Γ q (on_components θ g) y (on_declaration θ e) m).0

begins_trans : {a b : Components} → Begins a b → {c : Components} → Begins b c → Begins a c
begins_trans k all = k
begins_trans k (onward l) = onward (begins_trans k l)

longer_trans : {a b : Signature} → Longer a b → {c : Signature} → Longer b c → Longer a c
longer_trans (longer k) (longer l) = longer (begins_trans l k)
longer_trans alike alike = alike

gives_longer : {g s : Signature} → Longer g s → (Γ : Env) (q : ModulePath) → Gives Γ q g → Gives Γ q s
gives_longer (longer b) Γ q (g_structure f a m) = g_structure f a (gives_all_begins b Γ q (reading q) m)
gives_longer alike Γ q m = m

knows_longer : {g s : Signature} → Longer g s → (Γ : Env) (q : ModulePath) → Knows Γ q g → Knows Γ q s
knows_longer {g} {s} l Γ q k = go k.1
  where
    go : Upto k.0 Γ q g → Knows Γ q s
    go (inl e) = knows_exact (e.0, e.1, longer_trans e.2 l)
    go (inr m) = knows_gives (gives_longer l Γ q m.0)

-- what is known goes along
pub knows_along : (Γ' Γ : Env) (σ : Substitution) (p : ModulePath) (s : Signature) → Along σ Γ' Γ → Knows Γ' p s → Knows Γ (on_path σ p) (on_signature σ s)
knows_along Γ' Γ σ p s k w = go w.1
  where
    go : Upto w.0 Γ' p s → Knows Γ (on_path σ p) (on_signature σ s)
    go (inl e) = knows_longer (longer_on σ e.2) Γ (on_path σ p) (at_along Knows knows_laws e.1 σ Γ k)
    go (inr m) = knows_gives (gives_along Knows knows_laws m.0 σ Γ k)

-- one substitution behind another
pub then_along : (Γ'' Γ' Γ : Env) (σ θ : Substitution) → Along θ Γ'' Γ' → Along σ Γ' Γ → Along (after σ θ) Γ'' Γ
then_along Γ'' Γ' Γ σ θ k l h s e =
    subst (Knows Γ (on_path σ (θ h))) (signature_comp σ θ s) (knows_along Γ' Γ σ (θ h) (on_signature θ s) l (k h s e))
