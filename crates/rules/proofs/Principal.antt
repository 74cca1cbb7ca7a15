-- Principality: what is derived with the free rule, some signature derived without it matches, in every finer environment too.
use Rattle.std.proofs.Common.{◌≡◌, ℕ, Bool, false, List, None, refl, subst}
use Rattle.types.specs.Types.{Name, at, Ty}
use Rattle.cores.specs.Meaning.{Outcome, Stable}
use Rattle.cores.specs.declared.interface.Operation.{Operation}
use Rattle.rules.specs.Signatures.{a_type, a_value, a_module, Signature, structure, functor, Components, empty, more, Declaration, defined, value, nested, sort_of, find}
use Rattle.rules.specs.Substitution.{innermost, out, lift, reading, on_signature, on_components, on_declaration}
use Rattle.rules.specs.Lookup.{Env, extend, head, Has, Normal, unfolds}
use Rattle.rules.specs.Strengthening.{strengthen}
use Rattle.rules.specs.Syntax.{Module, Items, signature_of, type_of}
use Rattle.rules.specs.Rules.{Derives, by_path, by_items, by_functor, by_application, by_signature, by_matching, DerivesAll, no_item, type_too, let_too, module_too}
use Rattle.rules.proofs.Algebra.{type_id, declaration_fresh}
use Rattle.rules.proofs.Finding.{find_last, find_on_some, all, onward, normal_normal}
use Rattle.rules.proofs.Inner.{Gives, g_none, Fits, f_structure, f_functor, ProperEnv}
use Rattle.rules.proofs.Along.{same_along, fits_along}
use Rattle.rules.proofs.Exact.{longer, under_fresh, fits_fresh}
use Rattle.rules.proofs.Transitive.{Knows, knows_laws, knows_gives, knows_exact, GivesOne, gives_more, fits_trans}
use Rattle.rules.proofs.Knowing.{Along, weaken_along, under_along, narrow_along, reading_along, knows_at, knows_fits, gives_fits, at_fits, typed_finer, knows_finer, gives_finer, gives_all_finer, fits_finer}
use Rattle.rules.proofs.Properness.{proper_at, proper_extend, proper_finer}
use Rattle.rules.proofs.Reflexive.{fits_self, has_at}
use Rattle.rules.proofs.Strengthened.{gives_strengthen, proper_strengthen}
use Rattle.rules.proofs.Converse.{gives_at, gives_strengthened}
use Rattle.rules.proofs.Wording.{leads_typed, typed_leads, sound_proper, proper_sound, fits_matches, matches_fits}
use Rattle.rules.proofs.Terms.{term_finer}
use Rattle.rules.proofs.Derived.{undeclared_none, argument_gives, derives_proper, derives_all_proper}

-- finer environments under one more binder of which more is known
pub finer_extend : (Γ' Γ : Env) (a b : Signature) → Along at Γ' Γ → Knows (extend Γ b) innermost (on_signature out a) → Along at (extend Γ' a) (extend Γ b)
finer_extend Γ' Γ a b k z =
    subst (λ θ. Along θ (extend Γ' a) (extend Γ b)) under_fresh
    (under_along out Γ' (extend Γ b) innermost a (weaken_along at Γ' Γ b k) z)

-- a structure with one more component
pub longer_extend : (Γ : Env) (c : Components) (x : Name) (d : Declaration) → Along at (extend Γ (structure c)) (extend Γ (structure (more c x d)))
longer_extend Γ c x d =
    narrow_along Γ (structure (more c x d)) (structure c)
    (knows_exact (on_signature out (structure (more c x d)), head refl, longer (onward all)))

-- a fresh structure has its last component
pub last_has : (Γ : Env) (c : Components) (x : Name) (d : Declaration) → find (sort_of d) x c ≡ None → Has (extend Γ (structure (more c x d))) innermost (sort_of d) x d
last_has Γ c x d f = record {
  components = on_components (lift out) (more c x d);
  declared = on_declaration (lift out) d;
  leads = head refl;
  found = find_on_some (lift out) (sort_of d) x (more c x d) d (find_last c x d f);
  reads = declaration_fresh d;
}

pub same_finer : {Γ' Γ : Env} {t u n : Ty} → Along at Γ' Γ → Normal Γ' t n → Normal Γ' u n → (m : Ty) × Normal Γ t m × Normal Γ u m
same_finer {Γ'} {Γ} {t} {u} k a b =
    let w = same_along Knows knows_laws a b at Γ k in
    (w.0, subst (λ z. Normal Γ z w.0) (type_id t) w.1, subst (λ z. Normal Γ z w.0) (type_id u) w.2)

-- the fresh structure's components, and one more
pub fits_more :
    (Γ : Env) (c c' : Components) (x : Name) (d d' : Declaration) → Fits Γ (structure c) (structure c') →
    GivesOne (extend Γ (structure (more c x d))) innermost x d' → Fits Γ (structure (more c x d)) (structure (more c' x d'))
fits_more Γ c c' x d d' (f_structure m) o =
    f_structure (gives_more (extend Γ (structure (more c x d))) innermost c' x d' (gives_all_finer (longer_extend Γ c x d) m) o)

pub fits_functor : (Γ : Env) (f s r : Signature) → Fits Γ f (functor s r) → (a : Signature) × (b : Signature) × (f ≡ functor a b) × Fits Γ s a × Fits (extend Γ s) b r
fits_functor Γ (structure c) s r m = elim m [ ]
fits_functor Γ (functor a b) s r (f_functor p q) = (a, b, refl, p, q)

module _ {C : Type 0} (n : ℕ) (rule : Operation → List Ty → Outcome C) (law : Stable n rule) where
  mutual
    pub principal :
        {free : Bool} {Γ' : Env} {m : Module} {s' : Signature} → Derives rule free Γ' m s' → ProperEnv Γ' → (Γ : Env) → ProperEnv Γ → Along at Γ' Γ →
        (s : Signature) × Derives rule false Γ m s × Fits Γ s s'
    principal (by_path {Γ = Γ'} {p = p} s' a) e' Γ e k =
        let w = proper_finer Γ' Γ s' k (proper_at e' a) in
        let g = knows_fits Γ p s' s' (knows_finer k a) (fits_self Γ s' w) in
        let i = gives_at g in
        let v = proper_finer Γ' Γ (strengthen p s') k (proper_strengthen Γ' p s' (proper_at e' a) a) in
        (strengthen p i.0, by_path i.0 i.1, gives_strengthened i.0 (strengthen p s') Γ p e i.1 v (gives_strengthen g))
    principal (by_items d) e' Γ e k = let w = principal_all d e' Γ e k in (structure w.0, by_items w.1, w.2)
    principal (by_functor {Γ = Γ'} {s = t} w d) e' Γ e k =
        let s = signature_of t in
        let w' = sound_proper s Γ' e' w in
        let v = proper_finer Γ' Γ s k w' in
        let i = principal d (proper_extend Γ' s e' w') (extend Γ s) (proper_extend Γ s e v) (finer_extend Γ' Γ s s k (knows_at (head refl))) in
        (functor s i.0, by_functor (proper_sound s Γ v) i.1, f_functor (fits_self Γ s v) i.2)
    principal (by_application {Γ = Γ'} {argument = place} {m = f₀} {p = p} s' r' a' d' at' m') e' Γ e k =
        let i = principal d' e' Γ e k in
        let f = fits_functor Γ i.0 s' r' i.2 in
        let s = f.0 in
        let r = f.1 in
        let d : Derives rule false Γ f₀ (functor s r) = subst (λ z. Derives rule false Γ f₀ z) f.2 i.1 in
        let w' = derives_proper n rule law d' e' in
        let w = derives_proper n rule law d e in
        let g' : Gives Γ p s' = gives_finer k (argument_gives n rule law Γ' p a' s' e' at' w'.0 m') in
        let g : Gives Γ p s = gives_fits g' f.3 in
        let j = gives_at g in (
          on_signature (reading p) r,
          by_application {argument = place} s r j.0 d j.1 (fits_matches (gives_strengthened j.0 s Γ p e j.1 w.0 g)),
          fits_along Knows knows_laws f.4 (reading p) Γ (reading_along Γ p s' (knows_gives g')),
        )
    principal (by_signature {Γ = Γ'} {s = t} g' d' w m) e' Γ e k =
        let s = signature_of t in
        let i = principal d' e' Γ e k in
        let w' = sound_proper s Γ' e' w in
        let v = proper_finer Γ' Γ s k w' in
        let f = fits_trans i.2 (fits_finer k (matches_fits m e' (derives_proper n rule law d' e') w')) in
        (s, by_signature i.0 i.1 (proper_sound s Γ v) (fits_matches f), fits_self Γ s v)
    principal (by_matching {Γ = Γ'} {s = s} g' _ d' w m) e' Γ e k =
        let i = principal d' e' Γ e k in
        let w' = sound_proper s Γ' e' w in
        (i.0, i.1, fits_trans i.2 (fits_finer k (matches_fits m e' (derives_proper n rule law d' e') w')))

    principal_all :
        {free : Bool} {Γ' : Env} {is : Items} {c' : Components} → DerivesAll rule free Γ' is c' → ProperEnv Γ' → (Γ : Env) → ProperEnv Γ → Along at Γ' Γ →
        (c : Components) × DerivesAll rule false Γ is c × Fits Γ (structure c) (structure c')
    principal_all no_item e' Γ e k = (empty, no_item, f_structure g_none)
    principal_all (type_too {Γ = Γ'} {c = c'} {x = x} {t = t} d' u l) e' Γ e k =
        let i = principal_all d' e' Γ e k in
        let c = i.0 in
        let k+ = finer_extend Γ' Γ (structure c') (structure c) k (knows_gives (fits_fresh i.2)) in
        let w' = proper_extend Γ' (structure c') e' (derives_all_proper n rule law d' e') in
        let o = typed_finer k+ (leads_typed (extend Γ' (structure c')) (type_of t) w' l) in
        let o+ = typed_finer (longer_extend Γ c x (defined (type_of t))) o in
        let h = last_has Γ c x (defined (type_of t)) (undeclared_none i.1 a_type x u) in (
          more c x (defined (type_of t)),
          type_too i.1 u (typed_leads o.1),
          fits_more Γ c c' x (defined (type_of t)) (defined (type_of t)) i.2 (o+.0, unfolds (type_of t) h o+.1, o+.1),
        )
    principal_all (let_too {Γ = Γ'} {c = c'} {x = x} {n = b'} d' u h) e' Γ e k =
        let i = principal_all d' e' Γ e k in
        let c = i.0 in
        let k+ = finer_extend Γ' Γ (structure c') (structure c) k (knows_gives (fits_fresh i.2)) in
        let w = term_finer n rule law h (extend Γ (structure c)) k+ in
        let b = w.0 in
        let o = same_finer (longer_extend Γ c x (value b)) (normal_normal w.2) w.2 in
        let j = last_has Γ c x (value b) (undeclared_none i.1 a_value x u) in
        (more c x (value b), let_too i.1 u w.1, fits_more Γ c c' x (value b) (value b') i.2 (b, o.0, j, o.1, o.2))
    principal_all (module_too {Γ = Γ'} {c = c'} {x = x} {s = s'} d' u m) e' Γ e k =
        let i = principal_all d' e' Γ e k in
        let c = i.0 in
        let k+ = finer_extend Γ' Γ (structure c') (structure c) k (knows_gives (fits_fresh i.2)) in
        let w' = proper_extend Γ' (structure c') e' (derives_all_proper n rule law d' e') in
        let w = proper_extend Γ (structure c) e (derives_all_proper n rule law i.1 e) in
        let j = principal m w' (extend Γ (structure c)) w k+ in
        let s = j.0 in
        let h = last_has Γ c x (nested s) (undeclared_none i.1 a_module x u) in (
          more c x (nested s),
          module_too i.1 u j.1,
          fits_more Γ c c' x (nested s) (nested s') i.2 (at_fits (has_at h) (fits_finer (longer_extend Γ c x (nested s)) j.2)),
        )
