-- Arguments fit a line exactly where types for τ and ρ make its patterns the arguments.
use Rattle.std.specs.Prelude.{◌≡◌, ℕ, suc, ◌+◌, Bool, true, false, cond, List, [], ◌∷◌, map, Some, None, Ok, Err, Option, Result, ◌==◌, refl}
use Rattle.std.proofs.Common.{sym, ap, subst, ◌∙◌}
use Rattle.std.specs.Option.{option_map}
use Rattle.types.specs.Types.{Ty, leaf, label0, label1, label2, same}
use Rattle.cores.specs.Lines.{Pattern, τ, ρ, plain, one, two, fill, Known, settle, after, onward, fit, meets, value}
use Rattle.types.proofs.Same.{mapped_some, eqb_equal, eqb_self, same_equal, same_self}

-- what is known of a variable does not speak against a type
abbrev pub Stands : Option Ty → Ty → Type 0
Stands None t = Unit {0}
Stands (Some u) t = u ≡ t

abbrev pub Agrees : Known → Ty → Ty → Type 0
Agrees k t r = Stands k.tau t × Stands k.rho r

pub agrees_values : (k : Known) → Agrees k (value k.tau) (value k.rho)
agrees_values k = (one_value k.tau, one_value k.rho)
  where
    one_value : (o : Option Ty) → Stands o (value o)
    one_value None = tt
    one_value (Some u) = refl

settle_stands : (o : Option Ty) (t : Ty) → Stands o t → settle o t ≡ Some t
settle_stands None t s = refl
settle_stands (Some u) t s = let e : same u t ≡ true = subst (λ (x : Ty). same u x ≡ true) s (same_self u) in cc

settle_sound : (o : Option Ty) (t u : Ty) → settle o t ≡ Some u → (t ≡ u) × ((x : Ty) → u ≡ x → Stands o x)
settle_sound None t u e = ((cc), λ x q. tt)
settle_sound (Some w) t u e = go (same w t) refl e
  where
    go : (c : Bool) → same w t ≡ c → cond c (Some w) None ≡ Some u → (t ≡ u) × ((x : Ty) → u ≡ x → w ≡ x)
    go true s q = (let h = same_equal w t s in cc, λ x r. let h = same_equal w t s in cc)
    go false s q = absurd (cc)

pub cond_some : {A : Type 0} (c : Bool) (o : Option A) (x : A) → cond c o None ≡ Some x → (c ≡ true) × (o ≡ Some x)
cond_some true o x e = (refl, e)
cond_some false o x e = absurd (cc)

pub after_some : {A B : Type 0} (o : Option A) (f : A → Option B) (y : B) → after o f ≡ Some y → (x : A) × (o ≡ Some x) × (f x ≡ Some y)
after_some None f y e = absurd (cc)
after_some (Some x) f y e = (x, refl, e)

pub fit_fill : (b : ℕ) (p : Pattern) (t r : Ty) (k : Known) → Agrees k t r →
    (k' : Known) × (fit b p (fill b t r p) k ≡ Some k') × Agrees k' t r
fit_fill b τ t r k a =
    (record { tau = Some t; rho = k.rho }, ap (option_map (λ u. record { tau = Some u; rho = k.rho })) (settle_stands k.tau t a.0), (refl, a.1))
fit_fill b ρ t r k a =
    (record { tau = k.tau; rho = Some r }, ap (option_map (λ u. record { tau = k.tau; rho = Some u })) (settle_stands k.rho r a.1), (a.0, refl))
fit_fill b (plain l) t r k a = (k, ap (λ (c : Bool). cond c (Some k) None) (eqb_self (b + l)), a)
fit_fill b (one l p) t r k a =
    let h = fit_fill b p t r k a in
    (h.0, ap (λ (c : Bool). cond c (fit b p (fill b t r p) k) None) (eqb_self (b + l)) ∙ h.1, h.2)
fit_fill b (two l p q) t r k a =
    let h = fit_fill b p t r k a in
    let g = fit_fill b q t r h.0 h.2 in (
      g.0,
      ap (λ (c : Bool). cond c (after (fit b p (fill b t r p) k) (λ k'. fit b q (fill b t r q) k')) None) (eqb_self (b + l))
          ∙ ap (λ (o : Option Known). after o (λ k'. fit b q (fill b t r q) k')) h.1
          ∙ g.1,
      g.2,
    )

none_some : {A P : Type 0} (x : A) → ◌≡◌ {A = Option A} None (Some x) → P
none_some x e = absurd (cc)

pub fit_sound : (b : ℕ) (p : Pattern) (u : Ty) (k k' : Known) → fit b p u k ≡ Some k' → (t r : Ty) → Agrees k' t r →
    Agrees k t r × (fill b t r p ≡ u)
fit_sound b τ u k k' e t r a =
    let m = mapped_some (λ (x : Ty). let y : Known = record { tau = Some x; rho = k.rho } in y) (settle k.tau u) k' e in
    let s = settle_sound k.tau u m.0 m.1 in
    let w = subst (λ (y : Known). Agrees y t r) (sym m.2) a in
    ((s.1 t w.0, w.1), sym w.0 ∙ sym s.0)
fit_sound b ρ u k k' e t r a =
    let m = mapped_some (λ (x : Ty). let y : Known = record { tau = k.tau; rho = Some x } in y) (settle k.rho u) k' e in
    let s = settle_sound k.rho u m.0 m.1 in
    let w = subst (λ (y : Known). Agrees y t r) (sym m.2) a in
    ((w.0, s.1 r w.1), sym w.1 ∙ sym s.0)
fit_sound b (plain l) (leaf x) k k' e t r a = none_some k' e
fit_sound b (plain l) (label0 m) k k' e t r a =
    let c = cond_some (m == b + l) (Some k) k' e in
    let w : k ≡ k' = let h = c.1 in cc in
    (subst (λ (y : Known). Agrees y t r) (sym w) a, ap label0 (sym (eqb_equal m (b + l) c.0)))
fit_sound b (plain l) (label1 m v) k k' e t r a = none_some k' e
fit_sound b (plain l) (label2 m v w) k k' e t r a = none_some k' e
fit_sound b (one l p) (leaf x) k k' e t r a = none_some k' e
fit_sound b (one l p) (label0 m) k k' e t r a = none_some k' e
fit_sound b (one l p) (label1 m v) k k' e t r a =
    let c = cond_some (m == b + l) (fit b p v k) k' e in
    let h = fit_sound b p v k k' c.1 t r a in
    let i = eqb_equal m (b + l) c.0 in
    let j = h.1 in
    (h.0, (cc))
fit_sound b (one l p) (label2 m v w) k k' e t r a = none_some k' e
fit_sound b (two l p q) (leaf x) k k' e t r a = none_some k' e
fit_sound b (two l p q) (label0 m) k k' e t r a = none_some k' e
fit_sound b (two l p q) (label1 m v) k k' e t r a = none_some k' e
fit_sound b (two l p q) (label2 m v w) k k' e t r a =
    let c = cond_some (m == b + l) (after (fit b p v k) (λ k'. fit b q w k')) k' e in
    let d = after_some (fit b p v k) (λ k'. fit b q w k') k' c.1 in
    let g = fit_sound b q w d.0 k' d.2 t r a in
    let h = fit_sound b p v k d.0 d.1 t r g.0 in
    let i = eqb_equal m (b + l) c.0 in
    let j = h.1 in
    let s = g.1 in
    (h.0, (cc))

pub meets_fill : (b n : ℕ) (ps : List Pattern) (t r : Ty) (k : Known) → Agrees k t r →
    (k' : Known) × (meets b n ps (map (fill b t r) ps) k ≡ Ok k') × Agrees k' t r
meets_fill b n [] t r k a = (k, refl, a)
meets_fill b n (p ∷ ps) t r k a =
    let h = fit_fill b p t r k a in
    let g = meets_fill b (suc n) ps t r h.0 h.2 in
    (g.0, ap (λ (o : Option Known). onward n o (λ k'. meets b (suc n) ps (map (fill b t r) ps) k')) h.1 ∙ g.1, g.2)

pub onward_ok : {A B : Type 0} (n : ℕ) (o : Option A) (f : A → Result B ℕ) (y : B) → onward n o f ≡ Ok y → (x : A) × (o ≡ Some x) × (f x ≡ Ok y)
onward_ok n None f y e = absurd (cc)
onward_ok n (Some x) f y e = (x, refl, e)

pub err_ok : {A B P : Type 0} (x : A) (y : B) → ◌≡◌ {A = Result A B} (Err y) (Ok x) → P
err_ok x y e = absurd (cc)

pub meets_sound : (b n : ℕ) (ps : List Pattern) (ts : List Ty) (k k' : Known) → meets b n ps ts k ≡ Ok k' → (t r : Ty) → Agrees k' t r →
    Agrees k t r × (map (fill b t r) ps ≡ ts)
meets_sound b n [] [] k k' e t r a = (let w : k ≡ k' = cc in subst (λ (y : Known). Agrees y t r) (sym w) a, refl)
meets_sound b n [] (u ∷ us) k k' e t r a = err_ok k' n e
meets_sound b n (p ∷ ps) [] k k' e t r a = err_ok k' n e
meets_sound b n (p ∷ ps) (u ∷ us) k k' e t r a =
    let d = onward_ok n (fit b p u k) (λ k'. meets b (suc n) ps us k') k' e in
    let g = meets_sound b (suc n) ps us d.0 k' d.2 t r a in
    let h = fit_sound b p u k d.0 d.1 t r g.0 in
    let i = h.1 in
    let j = g.1 in
    (h.0, (cc))
