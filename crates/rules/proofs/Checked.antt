-- Where a signature is derived, in an environment that is coarser, the checker has one that matches it; and so for units.
use Rattle.std.proofs.Common.{◌≡◌, ℕ, Bool, false, cond, List, Some, None, sym, refl, ap, ◌∙◌, subst}
use Rattle.std.proofs.lemmas.Option.{same_Some}
use Rattle.std.proofs.lemmas.Bool.{cond-true}
use Rattle.types.specs.Types.{Name, Head, unit, at, Ty}
use Rattle.cores.specs.Meaning.{Outcome, Stable}
use Rattle.cores.specs.declared.interface.Operation.{Operation}
use Rattle.rules.specs.Signatures.{a_type, a_value, a_module, Signature, structure, functor, Components, empty, more, defined, value, nested, on_some}
use Rattle.rules.specs.Substitution.{reading, on_signature}
use Rattle.rules.specs.Lookup.{Env, extend, head, unfolds}
use Rattle.rules.specs.Strengthening.{strengthen}
use Rattle.rules.specs.Syntax.{type_of, signature_of, Module, Items, type_item, let_item, module_item}
use Rattle.rules.specs.Rules.{Derives, by_path, by_items, by_functor, by_application, by_signature, by_matching, DerivesAll, no_item, type_too, let_too, module_too}
use Rattle.rules.specs.Environments.{unknown, with_unit}
use Rattle.rules.specs.Projects.{Units, no_units, more_units, Loads, start, next}
use Rattle.rules.specs.Checker.{and_then, unless, lookup, normalize, does_match, apply, check, check_all, check_units}
use Rattle.rules.proofs.Finding.{normal_normal}
use Rattle.rules.proofs.Inner.{Gives, Fits, f_structure, f_functor, g_none, ProperEnv}
use Rattle.rules.proofs.Along.{fits_along}
use Rattle.rules.proofs.Exact.{Exact, exact_at, fits_fresh}
use Rattle.rules.proofs.Transitive.{Knows, knows_laws, knows_gives, fits_trans}
use Rattle.rules.proofs.Knowing.{Along, reading_along, knows_fits, gives_fits, at_fits, typed_finer, knows_finer, gives_finer, fits_finer}
use Rattle.rules.proofs.Properness.{proper_at, proper_along, proper_extend, proper_finer}
use Rattle.rules.proofs.Reflexive.{fits_self, has_at}
use Rattle.rules.proofs.Strengthened.{gives_strengthen, proper_strengthen}
use Rattle.rules.proofs.Converse.{gives_at, gives_strengthened}
use Rattle.rules.proofs.Wording.{leads_typed, sound_proper, matches_fits}
use Rattle.rules.proofs.Terms.{term_finer}
use Rattle.rules.proofs.Derived.{argument_gives, derives_proper, derives_all_proper}
use Rattle.rules.proofs.Principal.{finer_extend, longer_extend, last_has, same_finer, fits_more, fits_functor, principal}
use Rattle.rules.proofs.Project.{unit_cases, unit_kept, finer_unit, none_kept, loads_proper}
use Rattle.rules.proofs.Settling.{Settled, SettledAll, SettledEnv, settled_proper, settled_env_proper, settled_extend, settled_finer, at_lookup, type_normal, then_some, then_is, unless_some, unless_is}
use Rattle.rules.proofs.Normalizing.{fits_along_fresh, normalize_is, normalize_proper}
use Rattle.rules.proofs.Deciding.{match_found}
use Rattle.rules.proofs.Checking.{has_type, all_together, undeclared_checked, check_checks}

-- what the checker finds, and that it matches
pub record Finds {C : Type 0} (rule : Operation → List Ty → Outcome C) (Γ : Env) (m : Module) (s : Signature) : Type 0 where
  pub checked : Signature
  pub is : check rule Γ m ≡ Some checked
  pub settled : Settled Γ checked
  pub matches : Fits Γ checked s

pub record FindsAll {C : Type 0} (rule : Operation → List Ty → Outcome C) (Γ : Env) (items : Items) (c : Components) : Type 0 where
  pub checked : Components
  pub is : check_all rule Γ items ≡ Some checked
  pub settled : SettledAll Γ checked
  pub matches : Fits Γ (structure checked) (structure c)

-- a settled environment with one more unit
pub unit_settled : (x : Name) (s : Signature) (Γ : Env) → Γ (unit x) ≡ None → SettledEnv Γ → Settled Γ s → SettledEnv (with_unit x s Γ)
unit_settled x s Γ f e w =
    let k = λ (h : Head) (t : Signature) (q : Γ h ≡ Some t).
    subst (Exact (with_unit x s Γ) (at h)) (sym (Rattle.rules.proofs.Algebra.signature_id t)) (exact_at (head (unit_kept x s Γ f h t q))) in
    unit_cases x s Γ (λ h t. Settled (with_unit x s Γ) t) (settled_finer Γ (with_unit x s Γ) s k w)
    (λ h t i. settled_finer Γ (with_unit x s Γ) t k (e h t i))

pub none_settled : SettledEnv unknown
none_settled h s q = cc

module _ {C : Type 0} (n : ℕ) (rule : Operation → List Ty → Outcome C) (law : Stable n rule) where
  mutual
    pub derives_finds :
        {free : Bool} {Γ' : Env} {m : Module} {s' : Signature} → Derives rule free Γ' m s' → ProperEnv Γ' → (Γ : Env) → SettledEnv Γ → Along at Γ' Γ →
        Finds rule Γ m s'
    derives_finds (by_path {Γ = Γ'} {p = p} s' a) e' Γ e k =
        let ep = settled_env_proper Γ e in
        let w = proper_finer Γ' Γ s' k (proper_at e' a) in
        let g = knows_fits Γ p s' s' (knows_finer k a) (fits_self Γ s' w) in
        let i = gives_at g in
        let v = proper_finer Γ' Γ (strengthen p s') k (proper_strengthen Γ' p s' (proper_at e' a) a) in
        let f = gives_strengthened i.0 (strengthen p s') Γ p ep i.1 v (gives_strengthen g) in
        let q = normalize_proper (strengthen p i.0) Γ e (proper_strengthen Γ p i.0 (proper_at ep i.1) i.1) in
        let j = normalize_is (strengthen p i.0) Γ q.0 e q.1 in
        record {
          checked = q.0;
          is = then_is (lookup Γ p) (λ s. normalize Γ (strengthen p s)) i.0 q.0 (at_lookup i.1) q.1;
          settled = j.settled;
          matches = fits_trans j.back f;
        }
    derives_finds (by_items d) e' Γ e k =
        let w = derives_all_finds d e' Γ e k in
        record { checked = structure w.checked; is = ap (on_some structure) w.is; settled = w.settled; matches = w.matches }
    derives_finds (by_functor {Γ = Γ'} {s = t} {m = m} w d) e' Γ e k =
        let s = signature_of t in
        let w' = sound_proper s Γ' e' w in
        let q = normalize_proper s Γ e (proper_finer Γ' Γ s k w') in
        let a = q.0 in
        let j = normalize_is s Γ a e q.1 in
        let e+ = settled_extend Γ a e j.settled in
        let i = derives_finds d (proper_extend Γ' s e' w') (extend Γ a) e+ (finer_extend Γ' Γ s a k (knows_gives (fits_fresh j.back))) in
        record {
          checked = functor a i.checked;
          is = then_is (normalize Γ s) (λ a. on_some (functor a) (check rule (extend Γ a) m)) a (functor a i.checked) q.1 (ap (on_some (functor a)) i.is);
          settled = (j.settled, i.settled);
          matches = f_functor j.forth (fits_finer (fits_along_fresh Γ s a j.forth) i.matches);
        }
    derives_finds (by_application {Γ = Γ'} {m = m} {p = p} s' r' a' d' at' m') e' Γ e k =
        let ep = settled_env_proper Γ e in
        let i = derives_finds d' e' Γ e k in
        let f = fits_functor Γ i.checked s' r' i.matches in
        let s = f.0 in
        let r = f.1 in
        let found : check rule Γ m ≡ Some (functor s r) = i.is ∙ ap Some f.2 in
        let w : Settled Γ (functor s r) = subst (Settled Γ) f.2 i.settled in
        let pw = settled_proper (functor s r) Γ w in
        let w' = derives_proper n rule law d' e' in
        let g' : Gives Γ p s' = gives_finer k (argument_gives n rule law Γ' p a' s' e' at' w'.0 m') in
        let g : Gives Γ p s = gives_fits g' f.3 in
        let j = gives_at g in
        let a = j.0 in
        let m₁ : Fits Γ (strengthen p a) s = gives_strengthened a s Γ p ep j.1 pw.0 g in
        let q = normalize_proper (strengthen p a) Γ e (proper_strengthen Γ p a (proper_at ep j.1) j.1) in
        let b = q.0 in
        let l = normalize_is (strengthen p a) Γ b e q.1 in
        let m₂ = match_found Γ b s e l.settled pw.0 (fits_trans l.back m₁) in
        let y = normalize_proper (on_signature (reading p) r) Γ e (proper_along r (extend Γ s) Γ (reading p) (reading_along Γ p s (knows_gives g)) pw.1) in
        let t = y.0 in
        let z = normalize_is (on_signature (reading p) r) Γ t e y.1 in
        let steps : apply Γ p (functor s r) ≡ Some t =
        then_is (lookup Γ p) (λ a. and_then (normalize Γ (strengthen p a)) (λ b. cond (does_match Γ b s) (normalize Γ (on_signature (reading p) r)) None)) a t (at_lookup j.1)
        (then_is (normalize Γ (strengthen p a)) (λ b. cond (does_match Γ b s) (normalize Γ (on_signature (reading p) r)) None) b t q.1
        (cond-true _ (normalize Γ (on_signature (reading p) r)) None m₂ ∙ y.1)) in
        record {
          checked = t;
          is = then_is (check rule Γ m) (apply Γ p) (functor s r) t found steps;
          settled = z.settled;
          matches = fits_trans z.back (fits_along Knows knows_laws f.4 (reading p) Γ (reading_along Γ p s' (knows_gives g')));
        }
    derives_finds (by_signature {Γ = Γ'} {m = m} {s = t} g' d' w o) e' Γ e k =
        let s = signature_of t in
        let i = derives_finds d' e' Γ e k in
        let w' = sound_proper s Γ' e' w in
        let q = normalize_proper s Γ e (proper_finer Γ' Γ s k w') in
        let a = q.0 in
        let j = normalize_is s Γ a e q.1 in
        let f = fits_trans (fits_trans i.matches (fits_finer k (matches_fits o e' (derives_proper n rule law d' e') w'))) j.forth in
        let b = match_found Γ i.checked a e i.settled (settled_proper a Γ j.settled) f in
        record {
          checked = a;
          is = then_is (check rule Γ m) (λ g. and_then (normalize Γ s) (λ a. cond (does_match Γ g a) (Some a) None)) i.checked a i.is
              (then_is (normalize Γ s) (λ a. cond (does_match Γ i.checked a) (Some a) None) a a q.1 (cond-true _ (Some a) None b));
          settled = j.settled;
          matches = j.back;
        }
    derives_finds (by_matching {Γ = Γ'} {s = s} g' _ d' w m) e' Γ e k =
        let i = derives_finds d' e' Γ e k in
        record {
          checked = i.checked;
          is = i.is;
          settled = i.settled;
          matches = fits_trans i.matches (fits_finer k (matches_fits m e' (derives_proper n rule law d' e') (sound_proper s Γ' e' w)));
        }

    derives_all_finds :
        {free : Bool} {Γ' : Env} {items : Items} {c' : Components} → DerivesAll rule free Γ' items c' → ProperEnv Γ' → (Γ : Env) → SettledEnv Γ → Along at Γ' Γ →
        FindsAll rule Γ items c'
    derives_all_finds no_item e' Γ e k = record { checked = empty; is = refl; settled = tt; matches = f_structure g_none }
    derives_all_finds (type_too {Γ = Γ'} {is = is'} {c = c'} {x = x} {t = t} d' u l) e' Γ e k =
        let i = derives_all_finds d' e' Γ e k in
        let c = i.checked in
        let k+ = finer_extend Γ' Γ (structure c') (structure c) k (knows_gives (fits_fresh i.matches)) in
        let e+ = settled_extend Γ (structure c) e i.settled in
        let w' = proper_extend Γ' (structure c') e' (derives_all_proper n rule law d' e') in
        let o = typed_finer k+ (leads_typed (extend Γ' (structure c')) (type_of t) w' l) in
        let b = o.0 in
        let f = undeclared_checked rule is' Γ c i.is a_type x u in
        let y = same_finer (longer_extend Γ c x (defined b)) (normal_normal o.1) o.1 in
        record {
          checked = more c x (defined b);
          is = all_together rule is' x (type_item t) Γ c (defined b) i.is f (ap (on_some defined) (type_normal e+ o.1));
          settled = (i.settled, f, normal_normal o.1);
          matches = fits_more Γ c c' x (defined b) (defined (type_of t)) i.matches (y.0, unfolds b (last_has Γ c x (defined b) f) y.1, y.2);
        }
    derives_all_finds (let_too {Γ = Γ'} {is = is'} {c = c'} {x = x} {t = t} {n = b'} d' u h) e' Γ e k =
        let i = derives_all_finds d' e' Γ e k in
        let c = i.checked in
        let k+ = finer_extend Γ' Γ (structure c') (structure c) k (knows_gives (fits_fresh i.matches)) in
        let e+ = settled_extend Γ (structure c) e i.settled in
        let w = term_finer n rule law h (extend Γ (structure c)) k+ in
        let b = w.0 in
        let f = undeclared_checked rule is' Γ c i.is a_value x u in
        let y = same_finer (longer_extend Γ c x (value b)) (normal_normal w.2) w.2 in
        record {
          checked = more c x (value b);
          is = all_together rule is' x (let_item t) Γ c (value b) i.is f (ap (on_some value) (has_type rule w.1 e+));
          settled = (i.settled, f, normal_normal w.2);
          matches = fits_more Γ c c' x (value b) (value b') i.matches (b, y.0, last_has Γ c x (value b) f, y.1, y.2);
        }
    derives_all_finds (module_too {Γ = Γ'} {is = is'} {c = c'} {x = x} {m = m} {s = s'} d' u o) e' Γ e k =
        let i = derives_all_finds d' e' Γ e k in
        let c = i.checked in
        let k+ = finer_extend Γ' Γ (structure c') (structure c) k (knows_gives (fits_fresh i.matches)) in
        let e+ = settled_extend Γ (structure c) e i.settled in
        let w' = proper_extend Γ' (structure c') e' (derives_all_proper n rule law d' e') in
        let j = derives_finds o w' (extend Γ (structure c)) e+ k+ in
        let s = j.checked in
        let f = undeclared_checked rule is' Γ c i.is a_module x u in
        let h = last_has Γ c x (nested s) f in
        record {
          checked = more c x (nested s);
          is = all_together rule is' x (module_item m) Γ c (nested s) i.is f (ap (on_some nested) j.is);
          settled = (i.settled, f, j.settled);
          matches = fits_more Γ c c' x (nested s) (nested s') i.matches (at_fits (has_at h) (fits_finer (longer_extend Γ c x (nested s)) j.matches));
        }

  -- what checked units know, and what loaded units know, which is finer
  pub record Knowing (us : Units) (Γ : Env) : Type 0 where
    pub settled : SettledEnv Γ
    pub own : Env
    pub loads : Loads rule false us own
    pub finer : Along at Γ own
    pub absent : (h : Head) → Γ h ≡ None → own h ≡ None

  pub check_knows : (us : Units) (Γ : Env) → check_units rule us ≡ Some Γ → Knowing us Γ
  check_knows no_units Γ q =
      let i : unknown ≡ Γ = same_Some _ _ q in
      subst (Knowing no_units) i
      (record { settled = none_settled; own = unknown; loads = start; finer = λ h s q. (cc); absent = λ h f. f })
  check_knows (more_units us u) Γ q =
      let x = u.name in
      let w = then_some (check_units rule us) (λ Γ. unless (Γ (unit u.name)) (and_then (check rule Γ u.body) (λ s. Some (with_unit u.name s Γ)))) Γ q in
      let Γ₀ = w.0 in
      let v = unless_some (Γ₀ (unit x)) (and_then (check rule Γ₀ u.body) (λ s. Some (with_unit x s Γ₀))) Γ w.2 in
      let y = then_some (check rule Γ₀ u.body) (λ s. Some (with_unit x s Γ₀)) Γ v.1 in
      let s = y.0 in
      let i = check_knows us Γ₀ w.1 in
      let j = check_checks n rule law u.body Γ₀ s i.settled y.1 in
      let o = principal n rule law j.derives (settled_env_proper Γ₀ i.settled) i.own (loads_proper n rule law i.loads) i.finer in
      let f = i.absent (unit x) v.0 in
      subst (Knowing (more_units us u)) (same_Some _ _ y.2)
      (record {
        settled = unit_settled x s Γ₀ v.0 i.settled j.settled;
        own = with_unit x o.0 i.own;
        loads = next o.0 i.loads f o.1;
        finer = finer_unit x s o.0 Γ₀ i.own f i.finer (fits_trans o.2 (fits_finer i.finer j.matches));
        absent = none_kept x s o.0 Γ₀ i.own i.absent;
      })

  -- where units load, they check, and what is known is finer
  pub record Loaded (us : Units) (Γ' : Env) : Type 0 where
    pub known : Env
    pub is : check_units rule us ≡ Some known
    pub settled : SettledEnv known
    pub finer : Along at Γ' known
    pub absent : (h : Head) → Γ' h ≡ None → known h ≡ None

  pub loads_check : {free : Bool} {us : Units} {Γ' : Env} → Loads rule free us Γ' → Loaded us Γ'
  loads_check start = record { known = unknown; is = refl; settled = none_settled; finer = λ h s q. (cc); absent = λ h f. f }
  loads_check (next {us = us} {u = u} {Γ = Γ'} s' l' f' d') =
      let x = u.name in
      let i = loads_check l' in
      let Γ = i.known in
      let j = derives_finds d' (loads_proper n rule law l') Γ i.settled i.finer in
      let s = j.checked in
      let f = i.absent (unit x) f' in
      record {
        known = with_unit x s Γ;
        is = then_is (check_units rule us) (λ Γ. unless (Γ (unit u.name)) (and_then (check rule Γ u.body) (λ s. Some (with_unit u.name s Γ)))) Γ (with_unit x s Γ) i.is
            (unless_is (Γ (unit x)) (and_then (check rule Γ u.body) (λ s. Some (with_unit x s Γ))) (with_unit x s Γ) f
            (then_is (check rule Γ u.body) (λ s. Some (with_unit x s Γ)) s (with_unit x s Γ) j.is refl));
        settled = unit_settled x s Γ f i.settled j.settled;
        finer = finer_unit x s' s Γ' Γ f i.finer j.matches;
        absent = none_kept x s' s Γ' Γ i.absent;
      }
