-- Put and drop mean what they should, whatever they are given.
use Rattle.std.proofs.Common.{◌≡◌, ℕ, Bool, true, false, cond, eqb, List, length, is_ok, Some, None, Ok, Err, Option, Result, sym, refl, ap, ◌∙◌, subst}
use Rattle.std.proofs.lemmas.Bool.{eqb-true, and_parts, ltb-true}
use Rattle.cores.specs.Meaning.{Word}
use Rattle.reader.specs.declared.fault.ReadFault.{ReadFault}
use Rattle.reader.specs.Answers.{Heading, unit_answer}
use Rattle.reader.proofs.Means.{unit_so}
use Rattle.store.specs.Names.{name_number, number_of}
use Rattle.store.specs.Units.{StoredUnit, units, seat_in, put_in, taken_out, Replaced, Removed}
use Rattle.store.specs.Calls.{store_after_put, store_after_remove}
use Rattle.store.proofs.Members.{once_units, kept_units, replaced, removed}
use Rattle.project.specs.declared.fault.Question.TheVariants.{Lengths, Full, NotStored}
use Rattle.project.specs.declared.fault.Fault.{Fault}
use Rattle.project.specs.Faults.{about, without, reading_fault}
use Rattle.project.specs.Calls.{right_lengths, unit_for, as_unit, unit_of, stores, has_room, put_among, drop_among, accepted, unless_refused, put_outcome, store_with, put_store, drop_outcome, store_without, drop_store}
use Rattle.project.specs.Laws.{PutMeans, DropMeans}
use Rattle.project.proofs.Headings.{Headed, heading_read}
use Rattle.project.proofs.Changing.{put_taken, put_refused, drop_taken, drop_refused}

-- what a change of the units comes to: the old ones and every byte, or the new ones
pub record Change {E : Type 0} (store left : List ℕ) (o : Result (List StoredUnit) E) : Type 0 where
  pub untouched : is_ok (accepted o) ≡ false → left ≡ store
  pub holds : units left ≡ unless_refused (units store) o
  pub long : length left ≡ length store

-- nothing changed, since it was refused
same : {E : Type 0} (store left : List ℕ) (e : E) → left ≡ store → Change store left (Err e)
same store left e is = record { untouched = λ x. is; holds = ap units is; long = ap length is }

-- the units changed
other : {E : Type 0} (store left : List ℕ) (us : List StoredUnit) → units left ≡ us → length left ≡ length store → Change {E = E} store left (Ok us)
other store left us is long = record { untouched = λ x. cc; holds = is; long = long }

pub long_is : (s : List ℕ) (b : ℕ) → right_lengths (length s) b ≡ true → length s ≡ 65536
long_is s b e = eqb-true (length s) 65536 (and_parts (eqb (length s) 65536) (eqb b 16384) e).0

-- put, where the lengths are right and the text reads
put_read : {K : Type 0} (s text : List ℕ) (k : ℕ) (h : Heading) → Headed text k h → length s ≡ 65536 →
    Change {E = Fault K} s (store_after_put s text h.place (length h.name) h.rank) (put_among (Ok (unit_for text h)) (units s))
put_read {K} s text k h p long = go (has_room (number_of h.name) (units s)) refl
  where
    go : (b : Bool) → has_room (number_of h.name) (units s) ≡ b →
        Change {E = Fault K} s (store_after_put s text h.place (length h.name) h.rank) (cond b (Ok (put_in (unit_for text h) (units s))) (Err (without Full)))
    go true e = other s (store_after_put s text h.place (length h.name) h.rank) (put_in (unit_for text h) (units s)) (put_taken s text k h p long e).1 (put_taken s text k h p long e).2
    go false e = same s (store_after_put s text h.place (length h.name) h.rank) (without Full) (put_refused s text k h p long e).1

pub put_change : {K : Type 0} (ws : List Word) (s : List ℕ) (b k : ℕ) (text : List ℕ) → Change {E = Fault K} s (put_store ws s b k text) (put_outcome ws s b k text)
put_change {K} ws s b k text = go (right_lengths (length s) b) refl
  where
    reading : (a : Result Heading ReadFault) → unit_answer ws text k ≡ a → length s ≡ 65536 → Change {E = Fault K} s (store_with a text s) (put_among (as_unit text a) (units s))
    reading (Ok h) e long = put_read s text k h (heading_read ws text k h e) long
    reading (Err x) e long = same s s (reading_fault x) refl

    go : (t : Bool) → right_lengths (length s) b ≡ t → Change {E = Fault K} s (cond t (store_with (unit_answer ws text k) text s) s) (cond t (put_among (unit_of ws text k) (units s)) (Err (without Lengths)))
    go true e = reading (unit_answer ws text k) refl (long_is s b e)
    go false e = same s s (without Lengths) refl

drop_known : {K : Type 0} (s : List ℕ) (n : ℕ) → length s ≡ 65536 → Change {E = Fault K} s (store_after_remove s n) (drop_among (Some n) (units s))
drop_known {K} s n long = go (stores n (units s)) refl
  where
    go : (t : Bool) → stores n (units s) ≡ t → Change {E = Fault K} s (store_after_remove s n) (cond t (Ok (taken_out n (units s))) (Err (about (Some n) NotStored)))
    go true e = other s (store_after_remove s n) (taken_out n (units s)) (drop_taken s n long e).1 (drop_taken s n long e).2
    go false e = same s (store_after_remove s n) (about (Some n) NotStored) (drop_refused s n long e).1

pub drop_change : {K : Type 0} (s : List ℕ) (b : ℕ) (name : List ℕ) → Change {E = Fault K} s (drop_store s b name) (drop_outcome s b name)
drop_change {K} s b name = go (right_lengths (length s) b) refl
  where
    named : (o : Option ℕ) → length s ≡ 65536 → Change {E = Fault K} s (store_without o s) (drop_among o (units s))
    named None long = same s s (without NotStored) refl
    named (Some n) long = drop_known s n long

    go : (t : Bool) → right_lengths (length s) b ≡ t → Change {E = Fault K} s (cond t (store_without (name_number name) s) s) (cond t (drop_among (name_number name) (units s)) (Err (about (name_number name) Lengths)))
    go true e = named (name_number name) (long_is s b e)
    go false e = same s s (about (name_number name) Lengths) refl

-- an accepted put enters the unit of its text
put_enters : {K : Type 0} (ws : List Word) (s : List ℕ) (b k : ℕ) (text : List ℕ) → is_ok (accepted (put_outcome {K = K} ws s b k text)) ≡ true →
    (u : StoredUnit) × (unit_of {K = K} ws text k ≡ Ok u) × (put_outcome {K = K} ws s b k text ≡ Ok (put_in u (units s)))
put_enters {K} ws s b k text e = go (right_lengths (length s) b) refl (unit_of {K = K} ws text k) refl e
  where
    go : (t : Bool) → right_lengths (length s) b ≡ t → (o : Result StoredUnit (Fault K)) → unit_of {K = K} ws text k ≡ o →
        is_ok (accepted (cond t (put_among o (units s)) (Err (without Lengths)))) ≡ true →
        (u : StoredUnit) × (o ≡ Ok u) × (cond t (put_among o (units s)) (Err (without Lengths)) ≡ Ok (put_in u (units s)))
    go true le (Ok u) oe h = within (has_room u.name (units s)) h
      where
        within : (r : Bool) → is_ok (accepted (cond r (Ok (put_in u (units s))) (Err (without {K = K} Full)))) ≡ true →
            (v : StoredUnit) × (◌≡◌ {A = Result StoredUnit (Fault K)} (Ok u) (Ok v)) × (cond r (Ok (put_in u (units s))) (Err (without {K = K} Full)) ≡ Ok (put_in v (units s)))
        within true h = (u, refl, refl)
        within false h = cc
    go true le (Err x) oe h = cc
    go false le o oe h = cc

-- an accepted drop takes out the unit of the name
drop_takes : {K : Type 0} (s : List ℕ) (b : ℕ) (name : List ℕ) → is_ok (accepted (drop_outcome {K = K} s b name)) ≡ true →
    (n : ℕ) × (name_number name ≡ Some n) × (stores n (units s) ≡ true) × (drop_outcome {K = K} s b name ≡ Ok (taken_out n (units s)))
drop_takes {K} s b name e = go (right_lengths (length s) b) refl (name_number name) refl e
  where
    go : (t : Bool) → right_lengths (length s) b ≡ t → (o : Option ℕ) → name_number name ≡ o →
        is_ok (accepted (cond t (drop_among o (units s)) (Err (about {K = K} o Lengths)))) ≡ true →
        (n : ℕ) × (o ≡ Some n) × (stores n (units s) ≡ true) × (cond t (drop_among o (units s)) (Err (about {K = K} o Lengths)) ≡ Ok (taken_out n (units s)))
    go true le None oe h = cc
    go true le (Some n) oe h = within (stores n (units s)) refl h
      where
        within : (r : Bool) → stores n (units s) ≡ r → is_ok (accepted (cond r (Ok (taken_out n (units s))) (Err (about {K = K} (Some n) NotStored)))) ≡ true →
            (m : ℕ) × (Some n ≡ Some m) × (stores m (units s) ≡ true) × (cond r (Ok (taken_out n (units s))) (Err (about {K = K} (Some n) NotStored)) ≡ Ok (taken_out m (units s)))
        within true is h = (n, refl, is, refl)
        within false is h = cc
    go false le o oe h = cc

pub put_means : {K : Type 0} (ws : List Word) (s : List ℕ) (b k : ℕ) (text : List ℕ) (r : Result (Unit {0}) (Fault K)) (left : List ℕ) →
    r ≡ accepted (put_outcome ws s b k text) → left ≡ put_store ws s b k text → PutMeans ws s b k text r left
put_means {K} ws s b k text r left answer bytes =
    let c = put_change {K = K} ws s b k text in
    record {
      reading = unit_so ws text k (unit_answer ws text k) refl;
      untouched = λ x. bytes ∙ c.untouched (ap is_ok (sym answer) ∙ x);
      entered = λ x.
          let p = put_enters {K = K} ws s b k text (ap is_ok (sym answer) ∙ x) in (
            p.0,
            p.1,
            subst (λ (us : List StoredUnit). Replaced p.0 (units s) us)
                (sym (ap units bytes ∙ c.holds ∙ ap (unless_refused (units s)) p.2)) (replaced p.0 (units s) (once_units s)),
          );
      holds = ap units bytes ∙ c.holds;
      kept = kept_units left;
    }

pub drop_means : {K : Type 0} (s : List ℕ) (b : ℕ) (name : List ℕ) (r : Result (Unit {0}) (Fault K)) (left : List ℕ) →
    r ≡ accepted (drop_outcome s b name) → left ≡ drop_store s b name → DropMeans s b name r left
drop_means {K} s b name r left answer bytes =
    let c = drop_change {K = K} s b name in
    record {
      untouched = λ x. bytes ∙ c.untouched (ap is_ok (sym answer) ∙ x);
      taken = λ x.
          let p = drop_takes {K = K} s b name (ap is_ok (sym answer) ∙ x) in (
            p.0,
            p.1,
            subst (λ (us : List StoredUnit). Removed p.0 (units s) us)
                (sym (ap units bytes ∙ c.holds ∙ ap (unless_refused (units s)) p.3))
                (removed p.0 (units s) (once_units s) (ltb-true (seat_in p.0 (units s)) (length (units s)) p.2)),
          );
      holds = ap units bytes ∙ c.holds;
      kept = kept_units left;
    }
