-- The theorems, as they are stated.
use Rattle.std.proofs.Common.{◌≡◌, ℕ, ◌+◌, true, false, List, Some, None, Ok, Option, sym, refl, ap, ◌∙◌, subst, subst₂}
use Rattle.std.proofs.lemmas.Option.{same_Some}
use Rattle.std.specs.Option.{is_none}
use Rattle.types.specs.Types.{at, Ty}
use Rattle.cores.specs.Meaning.{Outcome, Stable}
use Rattle.cores.specs.declared.interface.Operation.{Operation}
use Rattle.rules.specs.Signatures.{Signature}
use Rattle.rules.specs.Soundness.{Sound}
use Rattle.rules.specs.Matching.{Matches}
use Rattle.rules.specs.Syntax.{CompilationUnit}
use Rattle.rules.specs.Rules.{Derives, by_matching}
use Rattle.rules.specs.Projects.{Units, DerivedFor, FitsUnit}
use Rattle.rules.specs.Statements.{NormalFormsExist, MatchingReflexive, MatchingTransitive, StrengtheningExact, DerivedIsSound, OneSignature, SixthRuleLast, LoadsAlike, DerivedExactly, OwnIsOne, OwnIsLeast, CheckDecides, FitDecides, CheckedIsOwn, RunDecides, RunFitDecides, MismatchIsFirst, NoMismatchMatches, RefusalsMean, KnownIsTidy, NumbersExact}
use Rattle.rules.specs.Checker.{check, check_units, normalize, does_match, given, fits}
use Rattle.rules.proofs.Finding.{normal_unique}
use Rattle.rules.proofs.Inner.{Fits}
use Rattle.rules.proofs.Settling.{settled_env_proper, settled_proper, given_true, given_is}
use Rattle.rules.proofs.Normalizing.{normalize_is, normalize_proper}
use Rattle.rules.proofs.Deciding.{match_tells, match_found}
use Rattle.rules.proofs.Checking.{check_checks}
use Rattle.rules.specs.Syntax.{signature_of}
use Rattle.rules.specs.Faults.{mismatch, Known, run_units, run_unit}
use Rattle.rules.specs.Signatures.{extent}
use Rattle.rules.proofs.Failing.{tidy_settled, mismatch_first}
use Rattle.rules.proofs.Refusing.{module_told}
use Rattle.rules.proofs.Tidying.{settled_normal, check_tidy, run_laid}
use Rattle.rules.specs.Sizes.{by_number}
use Rattle.rules.proofs.Leaves.{leaf_law}
use Rattle.rules.proofs.Numbering.{numbers_give}
use Rattle.cores.specs.Meaning.{gives}
use Rattle.rules.proofs.Mirror.{mismatch_is, module_agrees, units_agree, accepts_some, some_accepts, ok_some, units_accepted, accepted_units, units_known, fit_agrees, given_some, some_given}
use Rattle.rules.proofs.Checked.{derives_finds, check_knows, loads_check}
use Rattle.rules.proofs.Transitive.{fits_trans}
use Rattle.rules.proofs.Knowing.{Along, id_along, fits_finer}
use Rattle.rules.proofs.Properness.{proper_at, proper_finer}
use Rattle.rules.proofs.Reflexive.{fits_self}
use Rattle.rules.proofs.Strengthened.{proper_strengthen, strengthened_gives}
use Rattle.rules.proofs.Converse.{gives_strengthened}
use Rattle.rules.proofs.Wording.{leads_typed, sound_proper, proper_sound, gives_offers, offers_gives, fits_matches, matches_fits}
use Rattle.rules.proofs.Derived.{derives_proper, derives_unique}
use Rattle.rules.proofs.Principal.{principal}
use Rattle.rules.proofs.Project.{built_proper, derives_freely, loads_freely, loads_unique, loads_proper, loads_principal}

pub normal_forms_exist : NormalFormsExist
normal_forms_exist Γ b t w =
    let v = leads_typed Γ t (built_proper b) w in (v.0, v.1, λ m k. normal_unique k v.1)

pub matching_reflexive : MatchingReflexive
matching_reflexive Γ b s w = fits_matches (fits_self Γ s (sound_proper s Γ (built_proper b) w))

pub matching_transitive : MatchingTransitive
matching_transitive Γ b s t u ws wt wu m k =
    let e = built_proper b in
    let ps = sound_proper s Γ e ws in
    let pt = sound_proper t Γ e wt in
    let pu = sound_proper u Γ e wu in
    fits_matches (fits_trans (matches_fits m e ps pt) (matches_fits k e pt pu))

pub strengthening_exact : StrengtheningExact
strengthening_exact Γ b p s w a v =
    let e = built_proper b in
    let pw = sound_proper w Γ e v in
    let ps = proper_at e a in (
      (λ o. fits_matches (gives_strengthened s w Γ p e a pw (offers_gives o e pw))),
      (λ m. gives_offers (strengthened_gives Γ p s w ps a (matches_fits m e (proper_strengthen Γ p s ps a) pw))),
    )

pub mismatch_is_first : MismatchIsFirst
mismatch_is_first Γ t a b q v m f = mismatch_first Γ t a b q (sound_proper b Γ (settled_env_proper Γ (tidy_settled t)) v) m f

none_of : {A : Type 0} (o : Option A) → is_none o ≡ true → o ≡ None
none_of None e = refl
none_of (Some a) e = cc

pub no_mismatch_matches : NoMismatchMatches
no_mismatch_matches Γ t a b q v =
    let e = tidy_settled t in
    let ep = settled_env_proper Γ e in
    let s = (normalize_is a Γ a e q).settled in
    let p = sound_proper b Γ ep v in
    let is = mismatch_is (extent a + extent b) Γ None a b in (
      (λ f. fits_matches (match_tells Γ a b e s p (sym is ∙ ap is_none f))),
      (λ m. none_of (mismatch Γ a b) (is ∙ match_found Γ a b e s p (matches_fits m ep (settled_proper a Γ s) p))),
    )

module _ {C : Type 0} (n : ℕ) (rule : Operation → List Ty → Outcome C) (law : Stable n rule) where
  pub derived_is_sound : DerivedIsSound rule
  derived_is_sound free Γ b m s d = proper_sound s Γ (derives_proper n rule law d (built_proper b))

  pub one_signature : OneSignature rule
  one_signature Γ m s w d d' = derives_unique rule d d'

  pub sixth_rule_last : SixthRuleLast rule
  sixth_rule_last Γ b m s = (
    (λ d.
        let e = built_proper b in
        let i = principal n rule law d e Γ e (id_along Γ) in
        (i.0, i.1, proper_sound s Γ (derives_proper n rule law d e), fits_matches i.2)),
    (λ w. by_matching w.0 refl (derives_freely w.1) w.2 w.3),
  )

  pub loads_alike : LoadsAlike rule
  loads_alike us = (
    (λ l. let w = loads_principal n rule law l.1 in (w.0, w.1)),
    (λ l. (l.0, loads_freely l.1)),
  )

  to_own : (us : Units) (u : CompilationUnit) (s : Signature) → DerivedFor rule us u s → FitsUnit rule us u s
  to_own us u s d =
      let e' = loads_proper n rule law d.before in
      let w = loads_principal n rule law d.before in
      let Γ = w.0 in
      let e = loads_proper n rule law w.1 in
      let i = principal n rule law d.derived e' Γ e w.2 in
      record {
        known = Γ;
        least = i.0;
        own = record { before = w.1; derived = i.1 };
        sound = proper_sound s Γ (proper_finer d.known Γ s w.2 (derives_proper n rule law d.derived e'));
        matches = fits_matches i.2;
      }

  from_own : (us : Units) (u : CompilationUnit) (s : Signature) → FitsUnit rule us u s → DerivedFor rule us u s
  from_own us u s w = record {
    known = w.known;
    before = loads_freely w.own.before;
    derived = by_matching w.least refl (derives_freely w.own.derived) w.sound w.matches;
  }

  pub derived_exactly : DerivedExactly rule
  derived_exactly us u s = (to_own us u s, from_own us u s)

  pub own_is_one : OwnIsOne rule
  own_is_one us u Γ Δ s w o o' =
      let q = loads_unique o.before o'.before in
      (q, derives_unique rule o.derived (subst (λ z. Derives rule false z u.body w) (sym q) o'.derived))

  pub own_is_least : OwnIsLeast rule
  own_is_least us u Γ g o = (
    record { known = Γ; before = loads_freely o.before; derived = derives_freely o.derived },
    λ s d.
        let w = to_own us u s d in
        let q = own_is_one us u w.known Γ w.least g w.own o in
        (subst (λ z. Sound z s) q.0 w.sound, subst₂ (λ z l. Matches z l s) q.0 q.1 w.matches),
  )

  pub check_decides : CheckDecides rule
  check_decides us = (
    (λ l. let w = loads_check n rule law l.1 in (w.known, w.is)),
    (λ c. let w = check_knows n rule law us c.0 c.1 in (w.own, loads_freely w.loads)),
  )

  to_fit : (us : Units) (u : CompilationUnit) (s : Signature) → DerivedFor rule us u s → fits rule us u s ≡ true
  to_fit us u s d =
      let e' = loads_proper n rule law d.before in
      let l = loads_check n rule law d.before in
      let Γ = l.known in
      let f = derives_finds n rule law d.derived e' Γ l.settled l.finer in
      let p = proper_finer d.known Γ s l.finer (derives_proper n rule law d.derived e') in
      let q = normalize_proper s Γ l.settled p in
      let i = normalize_is s Γ q.0 l.settled q.1 in
      let m = match_found Γ f.checked q.0 l.settled f.settled (settled_proper q.0 Γ i.settled) (fits_trans f.matches i.forth) in
      given_is (check_units rule us) (λ Γ. given (check rule Γ u.body) (λ g. given (normalize Γ s) (λ w. does_match Γ g w))) Γ l.is
      (given_is (check rule Γ u.body) (λ g. given (normalize Γ s) (λ w. does_match Γ g w)) f.checked f.is
      (given_is (normalize Γ s) (λ w. does_match Γ f.checked w) q.0 q.1 m))

  from_fit : (us : Units) (u : CompilationUnit) (s : Signature) → fits rule us u s ≡ true → DerivedFor rule us u s
  from_fit us u s q =
      let x = given_true (check_units rule us) (λ Γ. given (check rule Γ u.body) (λ g. given (normalize Γ s) (λ w. does_match Γ g w))) q in
      let Γ = x.0 in
      let y = given_true (check rule Γ u.body) (λ g. given (normalize Γ s) (λ w. does_match Γ g w)) x.2 in
      let z = given_true (normalize Γ s) (λ w. does_match Γ y.0 w) y.2 in
      let k = check_knows n rule law us Γ x.1 in
      let e = k.settled in
      let j = check_checks n rule law u.body Γ y.0 e y.1 in
      let i = normalize_is s Γ z.0 e z.1 in
      let f = fits_trans j.matches (fits_trans (match_tells Γ y.0 z.0 e j.settled (settled_proper z.0 Γ i.settled) z.2) i.back) in
      let Δ = k.own in
      let o = principal n rule law j.derives (settled_env_proper Γ e) Δ (loads_proper n rule law k.loads) k.finer in
      record {
        known = Δ;
        before = loads_freely k.loads;
        derived = by_matching o.0 refl (derives_freely o.1) (proper_sound s Δ (proper_finer Γ Δ s k.finer i.proper))
            (fits_matches (fits_trans o.2 (fits_finer k.finer f)));
      }

  pub fit_decides : FitDecides rule
  fit_decides us u s = (to_fit us u s, from_fit us u s)

  pub checked_is_own : CheckedIsOwn rule
  checked_is_own us u Γ Δ s g q c o =
      let k = check_knows n rule law us Γ q in
      let same = loads_unique k.loads o.before in
      let forth : Along at Γ Δ = subst (Along at Γ) same k.finer in
      let l = loads_check n rule law o.before in
      let there : l.known ≡ Γ = same_Some _ _ (sym l.is ∙ q) in
      let back : Along at Δ Γ = subst (Along at Δ) there l.finer in
      let j = check_checks n rule law u.body Γ s k.settled c in
      let eΔ = loads_proper n rule law o.before in
      let i = principal n rule law j.derives (settled_env_proper Γ k.settled) Δ eΔ forth in
      let own = derives_unique rule i.1 o.derived in
      let f = derives_finds n rule law o.derived eΔ Γ k.settled back in
      let found : f.checked ≡ s = same_Some _ _ (sym f.is ∙ c) in (
        fits_matches (fits_trans (subst (λ z. Fits Δ z j.own) own i.2) (fits_finer forth j.matches)),
        fits_matches (fits_finer forth (subst (λ z. Fits Γ z g) found f.matches)),
      )

  pub run_decides : RunDecides rule
  run_decides us q = (
    (λ l. let w = (check_decides us).0 l in accepted_units (units_agree rule us) q w.0 w.1),
    (λ e. (check_decides us).1 (units_accepted (units_agree rule us) e)),
  )

  -- fit, where the unit and those before it are accepted
  fits_is :
      (us : Units) (u : CompilationUnit) (w : Known) (g s : Signature) → run_units rule us ≡ Ok w → run_unit rule w u ≡ Ok g →
      fits rule us u s ≡ given (normalize w.signatures s) (λ a. does_match w.signatures g a)
  fits_is us u w g s p q =
      let Γ = w.signatures in
      let a = units_known (units_agree rule us) w p in
      let b = ok_some (module_agrees rule u.body w.stand Γ w.length) g q in
      ap (λ o. given o (λ Γ. given (check rule Γ u.body) (λ g. given (normalize Γ s) (λ a. does_match Γ g a)))) a
      ∙ ap (λ o. given o (λ g. given (normalize Γ s) (λ a. does_match Γ g a))) b

  pub run_fit_decides : RunFitDecides rule
  run_fit_decides us u w g t p q k =
      let Γ = w.signatures in
      let s = signature_of t in
      let is = fits_is us u w g s p q in
      let agrees = fit_agrees {C = C} w g t in (
        (λ d.
            let e = to_fit us u s d in
            let v = given_some (normalize Γ s) (λ a. does_match Γ g a) (sym is ∙ e) in
            some_accepts agrees k v.0 v.1),
        (λ e.
            let v = accepts_some agrees e in
            from_fit us u s (is ∙ some_given (normalize Γ s) (λ a. does_match Γ g a) v.0 v.1)),
      )

  pub refusals_mean : RefusalsMean rule
  refusals_mean from Γ k m f t l q = module_told n rule law m from Γ k f (tidy_settled t) l q

  pub known_is_tidy : KnownIsTidy rule
  known_is_tidy us w q =
      let Γ = w.signatures in
      let t = check_tidy n rule law us Γ (units_known (units_agree rule us) w q) in
      let e = tidy_settled t in
      (t, run_laid rule us w q, λ u g r. settled_normal g Γ e (check_checks n rule law u.body Γ g e (ok_some (module_agrees rule u.body w.stand Γ w.length) g r)).settled)

  pub numbers_exact : NumbersExact rule
  numbers_exact from Γ k l o ns w t = (
    (λ q.
        let v = numbers_give from Γ k l n rule law o ns w t q in
        (v.0, v.1, gives_is (sym (leaf_law n rule law (by_number from Γ) o ns v.0 v.1) ∙ q))),
    (λ v. leaf_law n rule law (by_number from Γ) o ns v.0 v.1 ∙ ap gives v.2),
  )
    where
      gives_is : {a b : Ty} → ◌≡◌ {A = Outcome C} (gives a) (gives b) → a ≡ b
      gives_is e = cc
