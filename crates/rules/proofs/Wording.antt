-- In proper environments the wording of the rules and the wording of the proofs say the same.
use Rattle.std.proofs.Common.{refl, subst}
use Rattle.types.specs.Types.{ModulePath, named, numbered, Ty, leaf, label0, label1, label2}
use Rattle.rules.specs.Signatures.{Signature, structure, functor, Components, empty, more, Declaration, abstract, defined, value, nested}
use Rattle.rules.specs.Substitution.{innermost, out, lift, reading, on_components}
use Rattle.rules.specs.Lookup.{Env, extend, At, head, Normal, opaque, unfolds, bare, part, parts}
use Rattle.rules.specs.Soundness.{Leads, Sound, SoundAll, SoundOne}
use Rattle.rules.specs.Matching.{Offers, structures, functors, OffersAll, none, any_type, same_type, same_value, sub_module, Matches, fresh, crossed}
use Rattle.rules.proofs.Algebra.{components_fresh}
use Rattle.rules.proofs.Inner.{Typed, Gives, g_structure, g_functor, GivesAll, g_none, g_abstract, g_defined, g_value, g_nested, Fits, f_structure, f_functor, Proper, ProperAll, ProperOne, ProperEnv}
use Rattle.rules.proofs.Exact.{fits_fresh}
use Rattle.rules.proofs.Transitive.{knows_gives}
use Rattle.rules.proofs.Knowing.{out_along, reading_along, narrow_along}
use Rattle.rules.proofs.Properness.{proper_along, proper_one_along, proper_at, proper_extend, proper_finer, has_typed}
use Rattle.rules.proofs.Converse.{normal_has}

pub leads_typed : (Γ : Env) (t : Ty) → ProperEnv Γ → Leads Γ t → Typed Γ t
leads_typed Γ (leaf (named p x)) e w = has_typed Γ p x w.0 e w.1
leads_typed Γ (leaf (numbered n)) e w = absurd w
leads_typed Γ (label0 l) e w = (label0 l, bare)
leads_typed Γ (label1 l t) e w = let v = leads_typed Γ t e w in (label1 l v.0, part v.1)
leads_typed Γ (label2 l t u) e w =
    let v = leads_typed Γ t e w.0 in
    let y = leads_typed Γ u e w.1 in
    (label2 l v.0 y.0, parts v.1 y.1)

pub typed_leads : {Γ : Env} {t n : Ty} → Normal Γ t n → Leads Γ t
typed_leads (opaque h) = (abstract, h)
typed_leads (unfolds t h m) = (defined t, h)
typed_leads bare = tt
typed_leads (part m) = typed_leads m
typed_leads (parts m k) = (typed_leads m, typed_leads k)

mutual
  pub sound_proper : (s : Signature) (Γ : Env) → ProperEnv Γ → Sound Γ s → Proper Γ s
  sound_proper (structure c) Γ e w = sound_all_proper c Γ e w
  sound_proper (functor s r) Γ e w =
      let v = sound_proper s Γ e w.0 in (v, sound_proper r (extend Γ s) (proper_extend Γ s e v) w.1)

  sound_all_proper : (c : Components) (Γ : Env) → ProperEnv Γ → SoundAll Γ c → ProperAll Γ c
  sound_all_proper empty Γ e w = tt
  sound_all_proper (more c x d) Γ e w =
      let v = sound_all_proper c Γ e w.0 in
      (v, w.1, sound_one_proper d (extend Γ (structure c)) (proper_extend Γ (structure c) e v) w.2)

  sound_one_proper : (d : Declaration) (Γ : Env) → ProperEnv Γ → SoundOne Γ d → ProperOne Γ d
  sound_one_proper abstract Γ e w = tt
  sound_one_proper (defined t) Γ e w = leads_typed Γ t e w
  sound_one_proper (value t) Γ e w = leads_typed Γ t e w
  sound_one_proper (nested s) Γ e w = sound_proper s Γ e w

mutual
  pub proper_sound : (s : Signature) (Γ : Env) → Proper Γ s → Sound Γ s
  proper_sound (structure c) Γ w = proper_all_sound c Γ w
  proper_sound (functor s r) Γ w = (proper_sound s Γ w.0, proper_sound r (extend Γ s) w.1)

  proper_all_sound : (c : Components) (Γ : Env) → ProperAll Γ c → SoundAll Γ c
  proper_all_sound empty Γ w = tt
  proper_all_sound (more c x d) Γ w = (proper_all_sound c Γ w.0, w.1, proper_one_sound d (extend Γ (structure c)) w.2)

  proper_one_sound : (d : Declaration) (Γ : Env) → ProperOne Γ d → SoundOne Γ d
  proper_one_sound abstract Γ w = tt
  proper_one_sound (defined t) Γ w = typed_leads w.1
  proper_one_sound (value t) Γ w = typed_leads w.1
  proper_one_sound (nested s) Γ w = proper_sound s Γ w

-- from the proofs' wording
mutual
  pub gives_offers : {Γ : Env} {p : ModulePath} {s : Signature} → Gives Γ p s → Offers Γ p s
  gives_offers (g_structure g a m) = structures g a (gives_all_offers m)
  gives_offers (g_functor f a m) = functors f a (fits_matches m)

  pub gives_all_offers : {Γ : Env} {p : ModulePath} {c : Components} → GivesAll Γ p c → OffersAll Γ p c
  gives_all_offers g_none = none
  gives_all_offers (g_abstract {p = p} {x = x} n m a) = let h = normal_has a p x refl in any_type h.0 (gives_all_offers m) h.1
  gives_all_offers (g_defined n m a b) = same_type (gives_all_offers m) (record { form = n; left = a; right = b })
  gives_all_offers (g_value u n m h a b) = same_value u (gives_all_offers m) h (record { form = n; left = a; right = b })
  gives_all_offers (g_nested m s) = sub_module (gives_all_offers m) (gives_offers s)

  pub fits_matches : {Γ : Env} {s s' : Signature} → Fits Γ s s' → Matches Γ s s'
  fits_matches (f_structure m) = fresh (gives_all_offers m)
  fits_matches (f_functor a b) = crossed (fits_matches a) (fits_matches b)

-- components read at a path: each proper once those before it are given
abbrev ReadAll : Env → ModulePath → Components → Type 0
ReadAll Γ p empty = Unit {0}
ReadAll Γ p (more c x d) = ReadAll Γ p c × (GivesAll Γ p c → ProperOne Γ d)

read_all : (c : Components) (Γ : Env) (p : ModulePath) → ProperAll Γ c → (g : Components) × At Γ p (structure g) → ReadAll Γ p (on_components (reading p) c)
read_all empty Γ p w g = tt
read_all (more c x d) Γ p w g = (
  read_all c Γ p w.0 g,
  λ m. proper_one_along d (extend Γ (structure c)) Γ (reading p)
      (reading_along Γ p (structure c) (knows_gives (g_structure g.0 g.1 m))) w.2,
)

-- to the proofs' wording
mutual
  pub offers_gives : {Γ : Env} {p : ModulePath} {s : Signature} → Offers Γ p s → ProperEnv Γ → Proper Γ s → Gives Γ p s
  offers_gives (structures {Γ = Γ} {p = p} {c = c} g a m) e w = g_structure g a (offers_all_gives m e (read_all c Γ p w (g, a)))
  offers_gives (functors f a m) e w = g_functor f a (matches_fits m e (proper_at e a) w)

  offers_all_gives : {Γ : Env} {p : ModulePath} {c : Components} → OffersAll Γ p c → ProperEnv Γ → ReadAll Γ p c → GivesAll Γ p c
  offers_all_gives none e w = g_none
  offers_all_gives (any_type {Γ = Γ} {p = p} {x = x} d m h) e w =
      let n = has_typed Γ p x d e h in g_abstract n.0 (offers_all_gives m e w.0) n.1
  offers_all_gives (same_type m s) e w = g_defined s.form (offers_all_gives m e w.0) s.left s.right
  offers_all_gives (same_value u m h s) e w = g_value u s.form (offers_all_gives m e w.0) h s.left s.right
  offers_all_gives (sub_module m o) e w =
      let before = offers_all_gives m e w.0 in g_nested before (offers_gives o e (w.1 before))

  pub matches_fits : {Γ : Env} {s s' : Signature} → Matches Γ s s' → ProperEnv Γ → Proper Γ s → Proper Γ s' → Fits Γ s s'
  matches_fits (fresh {Γ = Γ} {g = g} {c = c} m) e w w' =
      let Γ+ = extend Γ (structure g) in
      let read = read_all (on_components (lift out) c) Γ+ innermost (proper_along (structure c) Γ Γ+ out (out_along Γ (structure g)) w')
      (on_components (lift out) g, head refl) in
      f_structure (offers_all_gives m (proper_extend Γ (structure g) e w) (subst (ReadAll Γ+ innermost) (components_fresh c) read))
  matches_fits (crossed {Γ = Γ} {s = s} {r = r} {s' = s'} a b) e w w' =
      let f = matches_fits a e w'.0 w.0 in
      f_functor f
      (matches_fits b (proper_extend Γ s' e w'.0)
      (proper_finer (extend Γ s) (extend Γ s') r (narrow_along Γ s' s (knows_gives (fits_fresh f))) w.1) w'.1)
