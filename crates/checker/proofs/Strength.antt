-- The strengthened signature of a path stands for what the rules say of the path.
use Rattle.std.proofs.Common.{◌≡◌, ℕ, suc, ◌+◌, ◌⊎◌, Some, sym, refl, ap, ◌∙◌, subst, ap₂, subst₂, inl, inr, arith}
use Rattle.std.proofs.Math.Path.{fun_ext}
use Rattle.types.specs.Types.{Name, ModulePath, at, dot, named, leaf}
use Rattle.rules.specs.Signatures.{a_type, a_module, Signature, structure, functor, Components, empty, more, Declaration, abstract, defined, value, nested, on_some}
use Rattle.rules.specs.Substitution.{Substitution, innermost, on_path, out, lift, reading, on_type, on_signature, on_components, on_declaration}
use Rattle.rules.specs.Lookup.{Env, extend, At, head, inside, Has, Normal, unfolds}
use Rattle.rules.specs.Strengthening.{strengthen, strengthen_all, strengthen_one}
use Rattle.rules.proofs.Algebra.{signature_id, type_id, signature_lift_out, signature_reading_on, type_lift_out, type_reading_out}
use Rattle.rules.proofs.Finding.{find_on_some}
use Rattle.rules.proofs.Inner.{Gives, Proper, ProperAll, ProperOne}
use Rattle.rules.proofs.Along.{was_abstract}
use Rattle.rules.proofs.Knowing.{Along, id_along}
use Rattle.rules.proofs.Reflexive.{at_gives}
use Rattle.rules.proofs.Fresh.{Fresh, fresh_head, fresh_dot}
use Rattle.rules.proofs.Strengthened.{strengthen_on, strengthen_find, path_reading_out, Named, NamedAll, NamedOne, gives_named, named_one_out, strengthened_along}
use Rattle.checker.specs.Numbered.{Sig, sig, functor_sig, Parts, no_parts, more_parts, Part, abstract_part, defined_part, value_part, module_part, size_of_parts, Placed, PlacedAll, PlacedOne}
use Rattle.checker.specs.Meanings.{Meaning, numbered_type, itself}
use Rattle.checker.specs.Copying.{strengthened, strengthened_parts, strengthened_part}
use Rattle.checker.specs.Standing.{calls, calls_all, calls_one, entered, Like, LikeAll, LikeOne, Called, CalledAll, CalledOne}
use Rattle.checker.proofs.Carrying.{normal_abstract, normal_outside, normal_weaken, OwnOr, calls_cases, fresh_lift, Carry, stands_along, like_along}
use Rattle.checker.proofs.Looking.{calls_on, called_calls}
use Rattle.checker.proofs.Entering.{called_one_moved, Blank, Settled}
use Rattle.checker.proofs.Copied.{copy_placed, like_again}

-- a path from the innermost binder leads, in a strengthened structure, to what is strengthened by that path from p
pub fresh_read : {r : ModulePath} → Fresh r → (p : ModulePath) → on_path out (on_path (reading p) r) ≡ on_path (reading (on_path out p)) r
fresh_read fresh_head p = refl
fresh_read (fresh_dot {x = x} f) p = ap (λ z. dot z x) (fresh_read f p)

fresh_strengthen :
    {r : ModulePath} → Fresh r → (θ : Substitution) (Γ' Γ : Env) (p : ModulePath) (s t : Signature) → At (extend Γ' s) r t →
    At (extend Γ (strengthen p (on_signature θ s))) r (strengthen (on_path (reading (on_path out p)) r) (on_signature (lift θ) t))
fresh_strengthen fresh_head θ Γ' Γ p s t (head e) =
    let q : on_signature out s ≡ t = cc in
    head (ap Some (strengthen_on (on_signature θ s) out p ∙ ap (strengthen (on_path out p)) (sym (signature_lift_out θ s) ∙ ap (on_signature (lift θ)) q)))
fresh_strengthen (fresh_dot {p = r} {x = x} f) θ Γ' Γ p s t (inside c d a g e) =
    let c' = on_components (lift (lift θ)) c in
    let d' = on_signature (lift (lift θ)) d in
    let o = on_path (reading (on_path out p)) r in
    inside (strengthen_all (on_path out o) c') (strengthen (dot (on_path out o) x) d') (fresh_strengthen f θ Γ' Γ p s (structure c) a)
    (strengthen_find (on_path out o) a_module x c' ∙ ap (on_some (strengthen_one (on_path out o) x)) (find_on_some (lift (lift θ)) a_module x c (nested d) g))
    (strengthen_on d' (reading r) (dot (on_path out o) x)
    ∙ ap₂ strengthen (ap (λ z. dot z x) (path_reading_out r o))
    (ap (λ z. on_signature (reading z) d') (sym (fresh_lift f θ)) ∙ (sym (signature_reading_on (lift θ) r d) ∙ ap (on_signature (lift θ)) e)))

fresh_defined :
    {r : ModulePath} → Fresh r → (θ : Substitution) (Γ' Γ : Env) (p : ModulePath) (s : Signature) (x : Name) → Has (extend Γ' s) r a_type x abstract →
    Has (extend Γ (strengthen p (on_signature θ s))) r a_type x (defined (leaf (named (on_path (reading (on_path out p)) r) x)))
fresh_defined {r} f θ Γ' Γ p s x h =
    let o = on_path (reading (on_path out p)) r in
    let c = h.components in
    let c' = on_components (lift (lift θ)) c in
    record {
      components = strengthen_all (on_path out o) c';
      declared = defined (leaf (named (on_path out o) x));
      leads = fresh_strengthen f θ Γ' Γ p s (structure c) h.leads;
      found = strengthen_find (on_path out o) a_type x c'
          ∙ ap (on_some (strengthen_one (on_path out o) x))
          (find_on_some (lift (lift θ)) a_type x c abstract (h.found ∙ ap Some (was_abstract (reading r) h.declared h.reads)));
      reads = ap (λ z. defined (leaf (named z x))) (path_reading_out r o);
    }

-- an own number is called by its path
own_called : (n : Sig) (p : ModulePath) (υ : Meaning) → Called p n υ → (i : ℕ) (r : ModulePath) (x : Name) → ((ρ : Meaning) → calls innermost n ρ i ≡ leaf (named r x)) → υ i ≡ leaf (named (on_path (reading p) r) x)
own_called n p υ k i r x e =
    sym (called_calls n p υ k i)
    ∙ (ap (λ z. calls p n z i) (sym (fun_ext (λ j. type_reading_out p (υ j))))
    ∙ (sym (calls_on n (reading p) innermost (λ j. on_type out (υ j)) i) ∙ ap (on_type (reading p)) (e (λ j. on_type out (υ j)))))

strength_carry :
    (n : Sig) (s : Signature) (θ : Substitution) (Γ' : Env) (ρ : Meaning) (Γ : Env) (υ : Meaning) (p : ModulePath) → Carry θ Γ' ρ Γ υ → Called p n υ → Settled Γ υ →
    Carry (lift θ) (extend Γ' s) (entered n ρ) (extend Γ (strengthen p (on_signature θ s))) (λ j. on_type out (υ j))
strength_carry n s θ Γ' ρ Γ υ p k c z i m = go (calls_cases n innermost fresh_head i)
  where
    normal : (r : ModulePath) (x : Name) → υ i ≡ leaf (named r x) → (υ i ≡ numbered_type i) ⊎ Normal Γ (υ i) (υ i) → Normal Γ (υ i) (υ i)
    normal r x e (inl f) = cc
    normal r x e (inr h) = h

    go : OwnOr (calls innermost n) i → Normal (extend Γ (strengthen p (on_signature θ s))) (on_type (lift θ) (entered n ρ i)) (on_type out (υ i))
    go (inl w) =
        let r = w.0 in
        let x = w.1 in
        let e = w.3 (λ j. on_type out (ρ j)) in
        let u = own_called n p υ c i r x w.3 in
        let h = fresh_defined w.2 θ Γ' Γ p s x (normal_abstract m r x e) in
        let o : on_type out (υ i) ≡ leaf (named (on_path (reading (on_path out p)) r) x) =
        ap (on_type out) u ∙ ap (λ y. leaf (named y x)) (fresh_read w.2 p) in
        let v = normal_weaken (strengthen p (on_signature θ s)) (normal (on_path (reading p) r) x u (z i)) in
        subst (λ y. Normal (extend Γ (strengthen p (on_signature θ s))) y (on_type out (υ i)))
        (sym (ap (on_type (lift θ)) e ∙ ap (λ y. leaf (named y x)) (fresh_lift w.2 θ)))
        (unfolds (leaf (named (on_path (reading (on_path out p)) r) x)) h
        (subst (λ y. Normal (extend Γ (strengthen p (on_signature θ s))) y (on_type out (υ i))) o v))
    go (inr w) =
        let e = w (λ j. on_type out (ρ j)) in
        let o = normal_outside (ρ i) Γ' s (subst₂ (Normal (extend Γ' s)) e e m) in
        subst (λ y. Normal (extend Γ (strengthen p (on_signature θ s))) y (on_type out (υ i)))
        (sym (ap (on_type (lift θ)) e ∙ type_lift_out θ (ρ i))) (normal_weaken (strengthen p (on_signature θ s)) (k i o))

-- a strengthened signature has no own numbers outside functors, and its other numbers are its places
mutual
  pub none_own : (n : Sig) (q : ℕ) (p : ModulePath) (ρ : Meaning) → calls p (strengthened q n) ρ ≡ ρ
  none_own (sig c) q p ρ = none_all_own c q p ρ
  none_own (functor_sig s r) q p ρ = refl

  none_all_own : (c : Parts) (q : ℕ) (p : ModulePath) (ρ : Meaning) → calls_all p (strengthened_parts q c) ρ ≡ ρ
  none_all_own no_parts q p ρ = refl
  none_all_own (more_parts c x d) q p ρ =
      none_one_own d x (q + size_of_parts (strengthened_parts q c)) p (calls_all p (strengthened_parts q c) ρ) ∙ none_all_own c q p ρ

  none_one_own : (d : Part) (x : Name) (q : ℕ) (p : ModulePath) (ρ : Meaning) → calls_one p x (strengthened_part q d) ρ ≡ ρ
  none_one_own (abstract_part n) x q p ρ = refl
  none_one_own (defined_part t) x q p ρ = refl
  none_one_own (value_part t) x q p ρ = refl
  none_one_own (module_part s) x q p ρ = none_own s (suc q) (dot p x) ρ

mutual
  pub strengthened_placed : (n : Sig) (q : ℕ) → Placed q (strengthened q n)
  strengthened_placed (sig c) q = strengthened_all_placed c q
  strengthened_placed (functor_sig s r) q = copy_placed (functor_sig s r) q itself

  strengthened_all_placed : (c : Parts) (q : ℕ) → PlacedAll q (strengthened_parts q c)
  strengthened_all_placed no_parts q = tt
  strengthened_all_placed (more_parts c x d) q = (strengthened_all_placed c q, strengthened_one_placed d (q + size_of_parts (strengthened_parts q c)))

  strengthened_one_placed : (d : Part) (q : ℕ) → PlacedOne q (strengthened_part q d)
  strengthened_one_placed (abstract_part n) q = tt
  strengthened_one_placed (defined_part t) q = tt
  strengthened_one_placed (value_part t) q = tt
  strengthened_one_placed (module_part s) q = strengthened_placed s (suc q)

settled_out : (Γ : Env) (υ : Meaning) (g : Signature) → Settled Γ υ → Settled (extend Γ g) (λ j. on_type out (υ j))
settled_out Γ υ g z n = go (z n)
  where
    go : (υ n ≡ numbered_type n) ⊎ Normal Γ (υ n) (υ n) → (on_type out (υ n) ≡ numbered_type n) ⊎ Normal (extend Γ g) (on_type out (υ n)) (on_type out (υ n))
    go (inl e) = inl (ap (on_type out) e)
    go (inr m) = inr (normal_weaken g m)

own_normal : (Γ : Env) (υ : Meaning) (n : ℕ) (p : ModulePath) (x : Name) → υ n ≡ leaf (named p x) → (υ n ≡ numbered_type n) ⊎ Normal Γ (υ n) (υ n) → Normal Γ (leaf (named p x)) (υ n)
own_normal Γ υ n p x e (inl f) = cc
own_normal Γ υ n p x e (inr m) = subst (λ t. Normal Γ t (υ n)) e m

called_under : (e : Part) (x : Name) (p : ModulePath) (υ : Meaning) → CalledOne p x e υ → CalledOne (on_path out p) x e (λ j. on_type out (υ j))
called_under e x p υ k = called_one_moved (on_path out) (λ p x. refl) υ (λ j. on_type out (υ j)) (λ n r y f. ap (on_type out) f) e x p k

mutual
  like_strengthen :
      (n : Sig) (s : Signature) (Γ' Γ : Env) (θ : Substitution) (ρ υ : Meaning) (p : ModulePath) (q : ℕ) → Proper Γ' s → Along θ Γ' Γ → Named Γ p s →
      Carry θ Γ' ρ Γ υ → Blank q υ → Settled Γ υ → Called p n υ → Like n s Γ' ρ → Like (strengthened q n) (strengthen p (on_signature θ s)) Γ υ
  like_strengthen (sig c) (structure g) Γ' Γ θ ρ υ p q w a v k b z d l = like_all_strengthen c g Γ' Γ θ ρ υ p q w a v k b z d l
  like_strengthen (sig c) (functor s r) Γ' Γ θ ρ υ p q w a v k b z d l = absurd l
  like_strengthen (functor_sig n m) (structure g) Γ' Γ θ ρ υ p q w a v k b z d l = absurd l
  like_strengthen (functor_sig n m) (functor s r) Γ' Γ θ ρ υ p q w a v k b z d l =
      like_again (functor_sig n m) (on_signature θ (functor s r)) Γ υ q b (like_along (functor_sig n m) (functor s r) θ Γ' ρ Γ υ a k l)

  like_all_strengthen :
      (c : Parts) (g : Components) (Γ' Γ : Env) (θ : Substitution) (ρ υ : Meaning) (p : ModulePath) (q : ℕ) → ProperAll Γ' g → Along θ Γ' Γ → NamedAll Γ p g →
      Carry θ Γ' ρ Γ υ → Blank q υ → Settled Γ υ → CalledAll p c υ → LikeAll c g Γ' ρ →
      LikeAll (strengthened_parts q c) (strengthen_all (on_path out p) (on_components (lift θ) g)) Γ υ
  like_all_strengthen no_parts empty Γ' Γ θ ρ υ p q w a v k b z d l = tt
  like_all_strengthen no_parts (more g y e) Γ' Γ θ ρ υ p q w a v k b z d l = absurd l
  like_all_strengthen (more_parts c x f) empty Γ' Γ θ ρ υ p q w a v k b z d l = absurd l
  like_all_strengthen (more_parts c x f) (more g y e) Γ' Γ θ ρ υ p q w a v k b z d l =
      let c* = strengthened_parts q c in
      let i = q + size_of_parts c* in
      let G = strengthen p (on_signature θ (structure g)) in (
        like_all_strengthen c g Γ' Γ θ ρ υ p q w.0 a v.0 k b z d.0 l.0,
        l.1,
        subst₂ (λ h o. LikeOne (strengthened_part i f) (strengthen_one (on_path out p) h (on_declaration (lift θ) e)) (extend Γ G) o)
            l.1 (sym (none_own (sig c) q innermost (λ j. on_type out (υ j))))
            (like_one_strengthen f e (extend Γ' (structure g)) (extend Γ G) (lift θ) (entered (sig c) ρ) (λ j. on_type out (υ j)) (on_path out p) x i w.2
            (strengthened_along (structure g) Γ' Γ θ p w.0 a v.0)
            (named_one_out e Γ G p x (subst (λ h. NamedOne Γ p h e) (sym l.1) v.1))
            (strength_carry (sig c) (structure g) θ Γ' ρ Γ υ p k d.0 z)
            (λ j h. ap (on_type out) (b j (omega arith)))
            (settled_out Γ υ G z)
            (called_under f x p υ d.1) l.2),
      )

  like_one_strengthen :
      (f : Part) (e : Declaration) (Γ' Γ : Env) (θ : Substitution) (ρ υ : Meaning) (p : ModulePath) (x : Name) (q : ℕ) → ProperOne Γ' e → Along θ Γ' Γ → NamedOne Γ p x e →
      Carry θ Γ' ρ Γ υ → Blank q υ → Settled Γ υ → CalledOne p x f υ → LikeOne f e Γ' ρ → LikeOne (strengthened_part q f) (strengthen_one p x (on_declaration θ e)) Γ υ
  like_one_strengthen (abstract_part n) abstract Γ' Γ θ ρ υ p x q w a v k b z d l = (tt, own_normal Γ υ n p x d (z n))
  like_one_strengthen (abstract_part n) (defined u) Γ' Γ θ ρ υ p x q w a v k b z d l = absurd l
  like_one_strengthen (abstract_part n) (value u) Γ' Γ θ ρ υ p x q w a v k b z d l = absurd l
  like_one_strengthen (abstract_part n) (nested s) Γ' Γ θ ρ υ p x q w a v k b z d l = absurd l
  like_one_strengthen (defined_part t) abstract Γ' Γ θ ρ υ p x q w a v k b z d l = absurd l
  like_one_strengthen (defined_part t) (defined u) Γ' Γ θ ρ υ p x q w a v k b z d l = stands_along t u θ Γ' ρ Γ υ a k l
  like_one_strengthen (defined_part t) (value u) Γ' Γ θ ρ υ p x q w a v k b z d l = absurd l
  like_one_strengthen (defined_part t) (nested s) Γ' Γ θ ρ υ p x q w a v k b z d l = absurd l
  like_one_strengthen (value_part t) abstract Γ' Γ θ ρ υ p x q w a v k b z d l = absurd l
  like_one_strengthen (value_part t) (defined u) Γ' Γ θ ρ υ p x q w a v k b z d l = absurd l
  like_one_strengthen (value_part t) (value u) Γ' Γ θ ρ υ p x q w a v k b z d l = stands_along t u θ Γ' ρ Γ υ a k l
  like_one_strengthen (value_part t) (nested s) Γ' Γ θ ρ υ p x q w a v k b z d l = absurd l
  like_one_strengthen (module_part n) abstract Γ' Γ θ ρ υ p x q w a v k b z d l = absurd l
  like_one_strengthen (module_part n) (defined u) Γ' Γ θ ρ υ p x q w a v k b z d l = absurd l
  like_one_strengthen (module_part n) (value u) Γ' Γ θ ρ υ p x q w a v k b z d l = absurd l
  like_one_strengthen (module_part n) (nested s) Γ' Γ θ ρ υ p x q w a v k b z d l =
      like_strengthen n s Γ' Γ θ ρ υ (dot p x) (suc q) w a v k (λ j h. b j (omega arith)) z d l

pub strengthened_right :
    (Γ : Env) (ρ : Meaning) (q : ℕ) → Blank q ρ → Settled Γ ρ → (p : ModulePath) (n : Sig) (s : Signature) → Proper Γ s → At Γ p s → Like n s Γ ρ → Called p n ρ →
    Like (strengthened q n) (strengthen p s) Γ ρ
strengthened_right Γ ρ q b z p n s w a l d =
    subst (λ t. Like (strengthened q n) (strengthen p t) Γ ρ) (signature_id s)
    (like_strengthen n s Γ Γ at ρ ρ p q w (id_along Γ)
    (gives_named s Γ at p (subst (Gives Γ p) (sym (signature_id s)) (at_gives Γ p s w a)))
    (λ i m. subst (λ t. Normal Γ t (ρ i)) (sym (type_id (ρ i))) m) b z d l)
