-- What heads name, head by head.
use Rattle.std.proofs.Common.{◌≡◌, ℕ, ◌+◌, ◌%◌, ◌^◌, ◌<◌, ◌≤◌, Bool, false, cond, ◌||◌, eqb, List, [], ◌∷◌, ◌++◌, length, get_or, take, Some, None, Option, sym, refl, ap, ◌∙◌, subst, ap₂, arith}
use native.Mathlib.Nat.{zero-div}
use Rattle.std.proofs.Math.Bool.{or_assoc}
use Rattle.std.proofs.lemmas.List.{take_more, take_all}
use Rattle.store.specs.declared.entry.Entry.{Entry}
use Rattle.order.specs.Seen.{bit}
use Rattle.rules.specs.Signatures.{first_of}
use Rattle.project_rules.specs.Project.{some, first_where}
use Rattle.project_rules.proofs.Lists.{first_append}
use Rattle.project.specs.declared.loading.Naming.{Naming as Named}
use Rattle.project.specs.Loading.{head_number}
use Rattle.project.specs.Naming.{seat_of, is_seat, is_none, first_or, NamingOf}

some_last : {A : Type 0} (test : A → Bool) (l : List A) (a : A) → some test (l ++ a ∷ []) ≡ (some test l || test a)
some_last test [] a = grind arith
some_last test (b ∷ l) a = ap (λ (t : Bool). test b || t) (some_last test l a) ∙ sym (or_assoc (test b) (some test l) (test a))

first_or_lem : (o : Option ℕ) (told : Bool) (p : ℕ) → first_of o (cond told (Some p) None) ≡ first_or o told p
first_or_lem None told p = refl
first_or_lem (Some q) told p = refl

-- no heads
pub naming_none : (es : List Entry) (text : List ℕ) → NamingOf es text [] (record { needs = 0; missing = None })
naming_none es text = record { needs = λ j h. zero_bit j; missing = refl }
  where
    zero_bit : (j : ℕ) → bit 0 j ≡ false
    zero_bit j = ap (λ (n : ℕ). eqb (n % 2) 1) (zero-div (2 ^ j))

-- one head more
pub naming_more : (es : List Entry) (text heads : List ℕ) (i : ℕ) (f r : Named) (o : Option ℕ) → i < length heads → NamingOf es text (take i heads) f →
    o ≡ seat_of es (head_number text (get_or heads i 0)) → ((j : ℕ) → j < 16 → bit r.needs j ≡ (bit f.needs j || is_seat o j)) →
    r.missing ≡ first_or f.missing (is_none o) (get_or heads i 0) → NamingOf es text (take (i + 1) heads) r
naming_more es text heads i f r o h n is marks first =
    let front = take i heads in
    let p = get_or heads i 0 in
    let more : take (i + 1) heads ≡ front ++ p ∷ [] = take_more heads i 0 h in
    subst (λ (ps : List ℕ). NamingOf es text ps r) (sym more) (record {
      needs = λ j l.
          marks j l ∙ ap₂ (λ (a b : Bool). a || b) (n.needs j l) (ap (λ (q : Option ℕ). is_seat q j) is)
          ∙ sym (some_last (λ (q : ℕ). is_seat (seat_of es (head_number text q)) j) front p);
      missing =
          first ∙ ap₂ (λ (a : Option ℕ) (b : Bool). first_or a b p) n.missing (ap is_none is)
          ∙ sym (first_or_lem (first_where (λ q. is_none (seat_of es (head_number text q))) front) (is_none (seat_of es (head_number text p))) p)
          ∙ sym (first_append (λ q. is_none (seat_of es (head_number text q))) front (p ∷ []));
    })

-- all of them
pub naming_all : (es : List Entry) (text heads : List ℕ) (i : ℕ) (f : Named) → length heads ≤ i → NamingOf es text (take i heads) f → NamingOf es text heads f
naming_all es text heads i f h n = subst (λ (ps : List ℕ). NamingOf es text ps f) (take_all i heads h) n
