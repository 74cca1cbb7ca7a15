-- Row positions tell abstract types apart.
use Rattle.std.proofs.Common.{◌≡◌, ℕ, suc, ◌+◌, ◌≤◌, ◌⊎◌, List, [], ◌∷◌, ◌++◌, Some, None, Option, sym, refl, ap, ◌∙◌, subst, ap₂, inl, inr, arith}
use Rattle.types.specs.Types.{Name, Head, ModulePath, at, dot, named, numbered, Ty, leaf, label0, label1, label2, size}
use Rattle.rules.specs.Signatures.{Sort, a_type, a_module, Signature, structure, functor, Components, empty, more, Declaration, abstract, defined, value, nested, sort_of, find, on_some}
use Rattle.rules.specs.Substitution.{Substitution, lift, reading, on_type, on_signature, on_components, on_declaration}
use Rattle.rules.specs.Lookup.{Env, At, head, inside, Has}
use Rattle.rules.specs.Checker.{lookup}
use Rattle.rules.specs.Sizes.{signature_size, components_size, declaration_size, found_or, offset, offset_in, stands_at, Laid}
use Rattle.rules.proofs.Algebra.{after, find_on, signature_comp, signature_id}
use Rattle.rules.proofs.Finding.{find_cases, find_off}
use Rattle.rules.proofs.Along.{was_nested}
use Rattle.rules.proofs.Fresh.{was_structure}
use Rattle.rules.proofs.Settling.{at_lookup}

-- a substitution keeps sizes and offsets
pub size_on : (θ : Substitution) (t : Ty) → size (on_type θ t) ≡ size t
size_on θ (leaf (named p x)) = refl
size_on θ (leaf (numbered n)) = refl
size_on θ (label0 l) = refl
size_on θ (label1 l t) = ap suc (size_on θ t)
size_on θ (label2 l t u) = ap₂ (λ a b. suc (a + b)) (size_on θ t) (size_on θ u)

mutual
  pub signature_size_on : (s : Signature) (θ : Substitution) → signature_size (on_signature θ s) ≡ signature_size s
  signature_size_on (structure c) θ = components_size_on c (lift θ)
  signature_size_on (functor s r) θ = ap₂ (λ a b. suc (a + b)) (signature_size_on s θ) (signature_size_on r (lift θ))

  components_size_on : (c : Components) (θ : Substitution) → components_size (on_components θ c) ≡ components_size c
  components_size_on empty θ = refl
  components_size_on (more c x d) θ = ap₂ (λ a b. a + suc b) (components_size_on c θ) (declaration_size_on d θ)

  declaration_size_on : (d : Declaration) (θ : Substitution) → declaration_size (on_declaration θ d) ≡ declaration_size d
  declaration_size_on abstract θ = refl
  declaration_size_on (defined t) θ = size_on θ t
  declaration_size_on (value t) θ = size_on θ t
  declaration_size_on (nested s) θ = signature_size_on s θ

found_or_on : (θ : Substitution) (o : Option Declaration) (m n : ℕ) → found_or (on_some (on_declaration θ) o) m n ≡ found_or o m n
found_or_on θ (Some d) m n = refl
found_or_on θ None m n = refl

offset_on : (c : Components) (θ : Substitution) (s : Sort) (x : Name) → offset s x (on_components θ c) ≡ offset s x c
offset_on empty θ s x = refl
offset_on (more c y d) θ s x =
    ap (λ o. found_or o (offset s x (on_components θ c)) (components_size (on_components θ c))) (find_on θ s x c)
    ∙ (found_or_on θ (find s x c) (offset s x (on_components θ c)) (components_size (on_components θ c))
    ∙ ap₂ (found_or (find s x c)) (offset_on c θ s x) (components_size_on c θ))

offset_before : (c : Components) (y : Name) (e : Declaration) (s : Sort) (x : Name) (d : Declaration) → find s x c ≡ Some d → offset s x (more c y e) ≡ offset s x c
offset_before c y e s x d f = ap (λ o. found_or o (offset s x c) (components_size c)) f

offset_last : (c : Components) (y : Name) (e : Declaration) (s : Sort) (x : Name) → find s x c ≡ None → offset s x (more c y e) ≡ components_size c
offset_last c y e s x f = ap (λ o. found_or o (offset s x c) (components_size c)) f

-- a component stands within its structure
found_bound : (c : Components) (s : Sort) (x : Name) (d : Declaration) → find s x c ≡ Some d → offset s x c + suc (declaration_size d) ≤ components_size c
found_bound empty s x d f = cc
found_bound (more c y e) s x d f = go (found_bound c s x d) (find_cases c y e s x d f)
  where
    go :
        (find s x c ≡ Some d → offset s x c + suc (declaration_size d) ≤ components_size c) →
        (find s x c ≡ Some d) ⊎ ((find s x c ≡ None) × (e ≡ d) × (sort_of e ≡ s) × (y ≡ x)) →
        offset s x (more c y e) + suc (declaration_size d) ≤ components_size c + suc (declaration_size e)
    go ih (inl f') = let h = ih f' in let i = offset_before c y e s x d f' in omega arith
    go ih (inr r) = let h = ap declaration_size r.1 in let i = offset_last c y e s x r.0 in omega arith

-- two components are the same or stand apart
abbrev Apart : Components → Sort → Name → Declaration → Sort → Name → Declaration → Type 0
Apart c s x d t y e =
    ((s ≡ t) × (x ≡ y)) ⊎ ((offset s x c + suc (declaration_size d) ≤ offset t y c) ⊎ (offset t y c + suc (declaration_size e) ≤ offset s x c))

components_apart : (c : Components) (s : Sort) (x : Name) (d : Declaration) (t : Sort) (y : Name) (e : Declaration) → find s x c ≡ Some d → find t y c ≡ Some e → Apart c s x d t y e
components_apart empty s x d t y e f g = cc
components_apart (more c z b) s x d t y e f g = go (components_apart c s x d t y e) (find_cases c z b s x d f) (find_cases c z b t y e g)
  where
    go :
        (find s x c ≡ Some d → find t y c ≡ Some e → Apart c s x d t y e) →
        (find s x c ≡ Some d) ⊎ ((find s x c ≡ None) × (b ≡ d) × (sort_of b ≡ s) × (z ≡ x)) →
        (find t y c ≡ Some e) ⊎ ((find t y c ≡ None) × (b ≡ e) × (sort_of b ≡ t) × (z ≡ y)) → Apart (more c z b) s x d t y e
    go ih (inl f') (inl g') = both (ih f' g')
      where
        both : Apart c s x d t y e → Apart (more c z b) s x d t y e
        both (inl w) = inl w
        both (inr (inl l)) = let i = offset_before c z b s x d f' in let j = offset_before c z b t y e g' in inr (inl (omega arith))
        both (inr (inr l)) = let i = offset_before c z b s x d f' in let j = offset_before c z b t y e g' in inr (inr (omega arith))
    go ih (inl f') (inr r) =
        let i = offset_before c z b s x d f' in
        let j = offset_last c z b t y r.0 in
        let l = found_bound c s x d f' in
        inr (inl (omega arith))
    go ih (inr r) (inl g') =
        let i = offset_last c z b s x r.0 in
        let j = offset_before c z b t y e g' in
        let l = found_bound c t y e g' in
        inr (inr (omega arith))
    go ih (inr r) (inr q) = inl (sym r.2 ∙ q.2, sym r.3 ∙ q.3)

-- from a signature by names of modules to a signature inside, and how far behind
data Walk : Signature → List Name → ℕ → Signature → Type 0 where
  stop : {s : Signature} → Walk s [] 0 s
  step :
      {x : Name} {ns : List Name} {b : ℕ} {t : Signature} (c : Components) (d : Signature) → find a_module x c ≡ Some (nested d) → Walk d ns b t →
      Walk (structure c) (x ∷ ns) (suc (offset a_module x c + b)) t

walk_bound : {s t : Signature} {ns : List Name} {b : ℕ} → Walk s ns b t → b + signature_size t ≤ signature_size s
walk_bound stop = omega arith
walk_bound (step {x = x} {b = b} c d f w) =
    let h = walk_bound w in
    let l = found_bound c a_module x (nested d) f in
    omega arith

walk_more :
    {s t : Signature} {ns : List Name} {b : ℕ} → Walk s ns b t → (c : Components) → t ≡ structure c → (x : Name) (d : Signature) → find a_module x c ≡ Some (nested d) →
    (e : ℕ) × Walk s (ns ++ (x ∷ [])) e d × (e ≡ b + suc (offset a_module x c))
walk_more stop c q x d f =
    (suc (offset a_module x c + 0), subst (λ z. Walk z (x ∷ []) (suc (offset a_module x c + 0)) d) (sym q) (step c d f stop), omega arith)
walk_more (step {x = y} {b = b} c' d' g w) c q x d f =
    let v = walk_more w c q x d f in
    let i = v.2 in
    (suc (offset a_module y c' + v.0), step c' d' g v.1, omega arith)

structure_is : {c c' : Components} → structure c ≡ structure c' → c ≡ c'
structure_is e = cc

-- a type that a walk comes to stands within the signature
walk_spot : {s t : Signature} {ns : List Name} {b : ℕ} → Walk s ns b t → (c : Components) → t ≡ structure c → (x : Name) (d : Declaration) → find a_type x c ≡ Some d → suc (b + offset a_type x c) ≤ signature_size s
walk_spot w c q x d f =
    let h = walk_bound w in
    let i = ap signature_size q in
    let l = found_bound c a_type x d f in
    omega arith

-- a type stands in no module, and a position in one module
type_or_module :
    (a : Components) (x : Name) (d : Declaration) (z : Name) (m : Signature) → find a_type x a ≡ Some d → find a_module z a ≡ Some (nested m) →
    (r : ℕ) → suc r ≤ signature_size m → offset a_type x a ≡ suc (offset a_module z a + r) → ⊥
type_or_module a x d z m f g r l i = go (components_apart a a_type x d a_module z (nested m) f g)
  where
    go : Apart a a_type x d a_module z (nested m) → ⊥
    go (inl v) = let u = v.0 in cc
    go (inr (inl o)) = omega arith
    go (inr (inr o)) = omega arith

one_module :
    (a : Components) (x : Name) (d : Signature) (y : Name) (e : Signature) → find a_module x a ≡ Some (nested d) → find a_module y a ≡ Some (nested e) →
    (r q : ℕ) → suc r ≤ signature_size d → suc q ≤ signature_size e → suc (offset a_module x a + r) ≡ suc (offset a_module y a + q) → x ≡ y
one_module a x d y e f g r q l k i = go (components_apart a a_module x (nested d) a_module y (nested e) f g)
  where
    go : Apart a a_module x (nested d) a_module y (nested e) → x ≡ y
    go (inl v) = v.1
    go (inr (inl o)) = absurd (omega arith)
    go (inr (inr o)) = absurd (omega arith)

one_type : (a : Components) (x : Name) (d : Declaration) (y : Name) (e : Declaration) → find a_type x a ≡ Some d → find a_type y a ≡ Some e → offset a_type x a ≡ offset a_type y a → x ≡ y
one_type a x d y e f g i = go (components_apart a a_type x d a_type y e f g)
  where
    go : Apart a a_type x d a_type y e → x ≡ y
    go (inl v) = v.1
    go (inr (inl o)) = absurd (omega arith)
    go (inr (inr o)) = absurd (omega arith)

-- where a type stands by a walk tells the walk and the name
walk_apart :
    {s : Signature} {ns : List Name} {b : ℕ} {t : Signature} → Walk s ns b t → {ms : List Name} {b' : ℕ} {s' t' : Signature} → Walk s' ms b' t' → s ≡ s' →
    (c c' : Components) → t ≡ structure c → t' ≡ structure c' → (x y : Name) (d e : Declaration) → find a_type x c ≡ Some d → find a_type y c' ≡ Some e →
    b + offset a_type x c ≡ b' + offset a_type y c' → (ns ≡ ms) × (x ≡ y)
walk_apart stop stop o c c' p q x y d e f g i =
    let same : c' ≡ c = structure_is (sym q ∙ (sym o ∙ p)) in
    let g' : find a_type y c ≡ Some e = ap (find a_type y) (sym same) ∙ g in
    let j : offset a_type y c' ≡ offset a_type y c = ap (offset a_type y) same in
    let k : offset a_type x c ≡ offset a_type y c = omega arith in
    (refl, one_type c x d y e f g' k)
walk_apart stop (step {x = z} {b = b} a m h w) o c c' p q x y d e f g i =
    let same : a ≡ c = structure_is (sym o ∙ p) in
    let f' : find a_type x a ≡ Some d = ap (find a_type x) same ∙ f in
    let j : offset a_type x a ≡ offset a_type x c = ap (offset a_type x) same in
    let k : offset a_type x a ≡ suc (offset a_module z a + (b + offset a_type y c')) = omega arith in
    absurd (type_or_module a x d z m f' h (b + offset a_type y c') (walk_spot w c' q y e g) k)
walk_apart (step {x = z} {b = b} a m h w) stop o c c' p q x y d e f g i =
    let same : a ≡ c' = structure_is (o ∙ q) in
    let g' : find a_type y a ≡ Some e = ap (find a_type y) same ∙ g in
    let j : offset a_type y a ≡ offset a_type y c' = ap (offset a_type y) same in
    let k : offset a_type y a ≡ suc (offset a_module z a + (b + offset a_type x c)) = omega arith in
    absurd (type_or_module a y e z m g' h (b + offset a_type x c) (walk_spot w c p x d f) k)
walk_apart (step {x = z} {ns = ns} {b = b} a m h w) (step {x = z'} {ns = ms} {b = b'} a' m' h' w') o c c' p q x y d e f g i =
    let same : a' ≡ a = structure_is (sym o) in
    let h'' : find a_module z' a ≡ Some (nested m') = ap (find a_module z') (sym same) ∙ h' in
    let j : offset a_module z' a' ≡ offset a_module z' a = ap (offset a_module z') same in
    let k : suc (offset a_module z a + (b + offset a_type x c)) ≡ suc (offset a_module z' a + (b' + offset a_type y c')) = omega arith in
    let names : z ≡ z' = one_module a z m z' m' h h'' (b + offset a_type x c) (b' + offset a_type y c') (walk_spot w c p x d f) (walk_spot w' c' q y e g) k in
    let mods : m ≡ m' = nested_is (sym h ∙ (ap (λ n. find a_module n a) names ∙ h'')) in
    let l : offset a_module z a ≡ offset a_module z' a = ap (λ n. offset a_module n a) names in
    let r : b + offset a_type x c ≡ b' + offset a_type y c' = omega arith in
    let v = walk_apart w w' mods c c' p q x y d e f g r in
    (ap₂ (λ n l. n ∷ l) names v.0, v.1)
  where
    nested_is : {d e : Signature} → Some (nested d) ≡ Some (nested e) → d ≡ e
    nested_is q = cc

-- a path as its head and names
abbrev path_from : ModulePath → List Name → ModulePath
path_from p [] = p
path_from p (x ∷ ns) = path_from (dot p x) ns

path_more : (p : ModulePath) (ns : List Name) (x : Name) → path_from p (ns ++ (x ∷ [])) ≡ dot (path_from p ns) x
path_more p [] x = refl
path_more p (y ∷ ns) x = path_more (dot p y) ns x

-- where a path leads, by a walk from its head
record Walked (from : Head → ℕ) (Γ : Env) (p : ModulePath) (s : Signature) : Type 0 where
  start : Head
  root : Signature
  known : Γ start ≡ Some root
  names : List Name
  spelled : path_from (at start) names ≡ p
  behind : ℕ
  raw : Signature
  walk : Walk root names behind raw
  reading' : Substitution
  read : on_signature reading' raw ≡ s
  stands : stands_at from Γ p ≡ from start + behind

at_walked : {Γ : Env} {p : ModulePath} {s : Signature} → At Γ p s → (from : Head → ℕ) → Walked from Γ p s
at_walked (head {h = h} {s = s} e) from = record {
  start = h;
  root = s;
  known = e;
  names = [];
  spelled = refl;
  behind = 0;
  raw = s;
  walk = stop;
  reading' = at;
  read = signature_id s;
  stands = omega arith;
}
at_walked {Γ} {s = s} (inside {p = p} {x = x} c d a f r) from =
    let w = at_walked a from in
    let v = was_structure w.reading' w.raw c w.read in
    let θ = lift w.reading' in
    let f' : find a_module x (on_components θ v.0) ≡ Some (nested d) = ap (find a_module x) v.2 ∙ f in
    let y = find_off θ a_module x v.0 (nested d) f' in
    let z = was_nested θ y.0 d y.2 in
    let k = walk_more w.walk v.0 v.1 x z.0 (y.1 ∙ ap Some z.1) in
    let i : offset_in a_module x (lookup Γ p) ≡ offset a_module x v.0 =
    ap (offset_in a_module x) (at_lookup a) ∙ (ap (offset a_module x) (sym v.2) ∙ offset_on v.0 θ a_module x) in
    let j = w.stands in
    let l = k.2 in
    record {
      start = w.start;
      root = w.root;
      known = w.known;
      names = w.names ++ (x ∷ []);
      spelled = path_more (at w.start) w.names x ∙ ap (λ q. dot q x) w.spelled;
      behind = k.0;
      raw = z.0;
      walk = k.1;
      reading' = after (reading p) θ;
      read = sym (signature_comp (reading p) θ z.0) ∙ (ap (on_signature (reading p)) z.2 ∙ r);
      stands = omega arith;
    }

-- positions tell types apart
abbrev pub position : (Head → ℕ) → Env → ModulePath → Name → ℕ
position from Γ p x = stands_at from Γ p + offset_in a_type x (lookup Γ p)

record Spot (from : Head → ℕ) (Γ : Env) (p : ModulePath) (x : Name) : Type 0 where
  walked : Signature
  way : Walked from Γ p walked
  inner : Components
  shape : way.raw ≡ structure inner
  declaration : Declaration
  found : find a_type x inner ≡ Some declaration
  place : position from Γ p x ≡ from way.start + (way.behind + offset a_type x inner)

has_spot : {Γ : Env} {p : ModulePath} {x : Name} {d : Declaration} → Has Γ p a_type x d → (from : Head → ℕ) → Spot from Γ p x
has_spot {Γ} {p} {x} {d} h from =
    let c = h.components in
    let w = at_walked h.leads from in
    let v = was_structure w.reading' w.raw c w.read in
    let θ = lift w.reading' in
    let f' : find a_type x (on_components θ v.0) ≡ Some h.declared = ap (find a_type x) v.2 ∙ h.found in
    let y = find_off θ a_type x v.0 h.declared f' in
    let i : offset_in a_type x (lookup Γ p) ≡ offset a_type x v.0 =
    ap (offset_in a_type x) (at_lookup h.leads) ∙ (ap (offset a_type x) (sym v.2) ∙ offset_on v.0 θ a_type x) in
    let j = w.stands in
    record { walked = structure c; way = w; inner = v.0; shape = v.1; declaration = y.0; found = y.1; place = omega arith }

pub position_one :
    (from : Head → ℕ) (Γ : Env) (k : ℕ) → Laid from Γ k → (p : ModulePath) (x : Name) (d : Declaration) (q : ModulePath) (y : Name) (e : Declaration) →
    Has Γ p a_type x d → Has Γ q a_type y e → position from Γ p x ≡ position from Γ q y → (p ≡ q) × (x ≡ y)
position_one from Γ k laid p x d q y e h g i =
    go (has_spot h from) (has_spot g from)
  where
    go : Spot from Γ p x → Spot from Γ q y → (p ≡ q) × (x ≡ y)
    go a b = decide (laid.apart a.way.start b.way.start a.way.root b.way.root a.way.known b.way.known)
      where
        la : suc (a.way.behind + offset a_type x a.inner) ≤ signature_size a.way.root
        la = walk_spot a.way.walk a.inner a.shape x a.declaration a.found

        lb : suc (b.way.behind + offset a_type y b.inner) ≤ signature_size b.way.root
        lb = walk_spot b.way.walk b.inner b.shape y b.declaration b.found

        pa : position from Γ p x ≡ from a.way.start + (a.way.behind + offset a_type x a.inner)
        pa = a.place

        pb : position from Γ q y ≡ from b.way.start + (b.way.behind + offset a_type y b.inner)
        pb = b.place

        decide :
            (a.way.start ≡ b.way.start) ⊎
            ((from a.way.start + signature_size a.way.root ≤ from b.way.start) ⊎ (from b.way.start + signature_size b.way.root ≤ from a.way.start)) →
            (p ≡ q) × (x ≡ y)
        decide (inl o) =
            let ka = a.way.known in
            let kb = b.way.known in
            let roots : a.way.root ≡ b.way.root = cc in
            let f = ap from o in
            let la' = la in
            let pa' = pa in
            let pb' = pb in
            let r : a.way.behind + offset a_type x a.inner ≡ b.way.behind + offset a_type y b.inner = omega arith in
            let w = walk_apart a.way.walk b.way.walk roots a.inner b.inner a.shape b.shape x y a.declaration b.declaration a.found b.found r in
            (sym a.way.spelled ∙ (ap₂ (λ h l. path_from (at h) l) o w.0 ∙ b.way.spelled), w.1)
        decide (inr (inl l)) = let la' = la in let pa' = pa in let pb' = pb in absurd (omega arith)
        decide (inr (inr l)) = let lb' = lb in let pa' = pa in let pb' = pb in absurd (omega arith)
