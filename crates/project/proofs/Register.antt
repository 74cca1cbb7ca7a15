-- After every run the stored units are those of the register.
use Rattle.std.proofs.Common.{◌≡◌, ℕ, Bool, true, false, cond, eqb, List, [], ◌∷◌, length, replicate, Some, None, Ok, Err, Option, Result, sym, refl, ap, ◌∙◌, subst, ⊎_elim, arith}
use Rattle.std.proofs.lemmas.Bool.{eq-eqb, and_from, cond-true, ltb-true}
use Rattle.std.proofs.lemmas.List.{length-replicate}
use Rattle.cores.specs.Meaning.{Word}
use Rattle.reader.specs.declared.fault.ReadFault.{ReadFault}
use Rattle.reader.specs.Answers.{Heading, unit_answer}
use Rattle.store.specs.Numbers.{laid}
use Rattle.store.specs.Layout.{encode, written}
use Rattle.store.specs.Names.{name_number}
use Rattle.store.specs.Units.{StoredUnit, units, seat_in, put_in, taken_out, Kept}
use Rattle.store.proofs.Coding.{length_encode, stored_laid}
use Rattle.store.proofs.Holding.{no_units}
use Rattle.store.proofs.Laid.{length_laid}
use Rattle.store.proofs.Members.{once_units, kept_units, replaced, removed}
use Rattle.project.specs.declared.fault.Question.TheVariants.{Lengths, Full, NotStored}
use Rattle.project.specs.declared.fault.Fault.{Fault}
use Rattle.project.specs.Faults.{about, without}
use Rattle.project.specs.Calls.{right_lengths, unit_for, as_unit, unit_of, stores, has_room, put_among, drop_among, unless_refused, put_outcome, put_store, drop_outcome, drop_store, open_store}
use Rattle.project.specs.Runs.{Call, Memory, opened, step, run, registered, register_from, AllRead, Registered, RegisterLaw}
use Rattle.project.proofs.Headings.{heading_read}
use Rattle.project.proofs.Meaning.{put_change, drop_change}

right_lengths_lem : (s : List ℕ) (b : ℕ) → length s ≡ 65536 → b ≡ 16384 → right_lengths (length s) b ≡ true
right_lengths_lem s b p q = and_from (eqb (length s) 65536) (eqb b 16384) (eq-eqb (length s) 65536 p) (eq-eqb b 16384 q)

-- a unit is read from its own text, with a scratch of the right length
read_again : (K : Type 0) (ws : List Word) (text : List ℕ) (room : ℕ) (u : StoredUnit) → unit_of {K = K} ws text room ≡ Ok u → unit_of {K = K} ws u.text 65536 ≡ Ok u
read_again K ws text room u e = go (unit_answer ws text room) refl e
  where
    go : (a : Result Heading ReadFault) → unit_answer ws text room ≡ a → as_unit {K = K} text a ≡ Ok u → unit_of {K = K} ws u.text 65536 ≡ Ok u
    go (Ok h) is f =
        let same : unit_for text h ≡ u = cc in
        let room-is = (heading_read ws text room h is).scratch in
        subst (λ (v : StoredUnit). unit_of {K = K} ws v.text 65536 ≡ Ok v) same
        (ap (λ (n : ℕ). as_unit {K = K} text (unit_answer ws text n)) (sym room-is) ∙ ap (as_unit text) is)
    go (Err x) is f = cc

-- a call on units that are all read leaves units that are all read
put_reads : (K : Type 0) (ws : List Word) (s text : List ℕ) (room : ℕ) → AllRead K ws (units s) → AllRead K ws (registered K ws (units s) (Call.put text room))
put_reads K ws s text room all = go (unit_of {K = K} ws text room) refl
  where
    go : (o : Result StoredUnit (Fault K)) → unit_of {K = K} ws text room ≡ o → AllRead K ws (unless_refused (units s) (put_among o (units s)))
    go (Err x) is = all
    go (Ok u) is = within (has_room u.name (units s))
      where
        within : (t : Bool) → AllRead K ws (unless_refused (units s) (cond t (Ok (put_in u (units s))) (Err (without {K = K} Full))))
        within true v among =
            ⊎_elim {C = unit_of {K = K} ws v.text 65536 ≡ Ok v}
            (λ same. subst (λ (w : StoredUnit). unit_of {K = K} ws w.text 65536 ≡ Ok w) (sym same) (read_again K ws text room u is))
            (λ old. all v old.0)
            ((replaced u (units s) (once_units s) v).0 among)
        within false v among = all v among

drop_reads : (K : Type 0) (ws : List Word) (s name : List ℕ) → AllRead K ws (units s) → AllRead K ws (registered K ws (units s) (Call.drop name))
drop_reads K ws s name all = go (name_number name)
  where
    go : (o : Option ℕ) → AllRead K ws (unless_refused (units s) (drop_among {K = K} o (units s)))
    go None = all
    go (Some n) = within (stores n (units s)) refl
      where
        within : (t : Bool) → stores n (units s) ≡ t → AllRead K ws (unless_refused (units s) (cond t (Ok (taken_out n (units s))) (Err (about {K = K} (Some n) NotStored))))
        within true is v among = all v ((removed n (units s) (once_units s) (ltb-true (seat_in n (units s)) (length (units s)) is) v).0 among).0
        within false is v among = all v among

-- ---- one call, and all of them

put_registered : (K : Type 0) (ws : List Word) (us : List StoredUnit) (m : Memory) (text : List ℕ) (room : ℕ) → Registered K ws us m →
    Registered K ws (registered K ws us (Call.put text room)) (step ws m (Call.put text room))
put_registered K ws us m text room r =
    let s = m.store in
    let b = length m.book in
    let c = put_change {K = K} ws s b room text in
    let right = right_lengths_lem s b r.long (ap length r.zeros ∙ length-replicate {A = ℕ} 16384 0) in
    let outcome : put_outcome {K = K} ws s b room text ≡ put_among (unit_of {K = K} ws text room) (units s) =
    cond-true (right_lengths (length s) b) (put_among (unit_of {K = K} ws text room) (units s)) (Err (without Lengths)) right in
    let holds : units (put_store ws s b room text) ≡ registered K ws us (Call.put text room) =
    c.holds ∙ ap (unless_refused (units s)) outcome ∙ ap (λ (vs : List StoredUnit). registered K ws vs (Call.put text room)) r.stored in
    record {
      stored = holds;
      kept = subst Kept holds (kept_units (put_store ws s b room text));
      read = subst (λ (vs : List StoredUnit). AllRead K ws (registered K ws vs (Call.put text room))) r.stored
          (put_reads K ws s text room (subst (AllRead K ws) (sym r.stored) r.read));
      long = c.long ∙ r.long;
      zeros = r.zeros;
    }

drop_registered : (K : Type 0) (ws : List Word) (us : List StoredUnit) (m : Memory) (name : List ℕ) → Registered K ws us m →
    Registered K ws (registered K ws us (Call.drop name)) (step ws m (Call.drop name))
drop_registered K ws us m name r =
    let s = m.store in
    let b = length m.book in
    let c = drop_change {K = K} s b name in
    let right = right_lengths_lem s b r.long (ap length r.zeros ∙ length-replicate {A = ℕ} 16384 0) in
    let outcome : drop_outcome {K = K} s b name ≡ drop_among (name_number name) (units s) =
    cond-true (right_lengths (length s) b) (drop_among (name_number name) (units s)) (Err (about (name_number name) Lengths)) right in
    let holds : units (drop_store s b name) ≡ registered K ws us (Call.drop name) =
    c.holds ∙ ap (unless_refused (units s)) outcome ∙ ap (λ (vs : List StoredUnit). registered K ws vs (Call.drop name)) r.stored in
    record {
      stored = holds;
      kept = subst Kept holds (kept_units (drop_store s b name));
      read = subst (λ (vs : List StoredUnit). AllRead K ws (registered K ws vs (Call.drop name))) r.stored
          (drop_reads K ws s name (subst (AllRead K ws) (sym r.stored) r.read));
      long = c.long ∙ r.long;
      zeros = r.zeros;
    }

one_call : (K : Type 0) (ws : List Word) (us : List StoredUnit) (m : Memory) (c : Call) → Registered K ws us m → Registered K ws (registered K ws us c) (step ws m c)
one_call K ws us m (Call.put text room) r = put_registered K ws us m text room r
one_call K ws us m (Call.drop name) r = drop_registered K ws us m name r

all_calls : (K : Type 0) (ws : List Word) (us : List StoredUnit) (m : Memory) (cs : List Call) → Registered K ws us m → Registered K ws (register_from K ws us cs) (run ws m cs)
all_calls K ws us m [] r = r
all_calls K ws us m (c ∷ cs) r = all_calls K ws (registered K ws us c) (step ws m c) cs (one_call K ws us m c r)

-- emptying a store
emptied_long : (s : List ℕ) → length s ≡ 65536 → length (laid 0 (encode []) s) ≡ length s
emptied_long s long = length_laid 0 (encode []) s (omega (arith, length_encode []))

emptied : (s : List ℕ) → length s ≡ 65536 → (units (written [] s) ≡ []) × (length (written [] s) ≡ length s)
emptied s long =
    let is : written [] s ≡ laid 0 (encode []) s = cond-true (eqb (length s) 65536) (laid 0 (encode []) s) s (eq-eqb (length s) 65536 long) in
    (ap units is ∙ no_units (laid 0 (encode []) s) (stored_laid [] s refl (emptied_long s long ∙ long)), ap length is ∙ emptied_long s long)

-- a newly opened project has no units
just_opened : (K : Type 0) (ws : List Word) (s b : List ℕ) → length s ≡ 65536 → length b ≡ 16384 → Registered K ws [] (opened s b)
just_opened K ws s b long words =
    let right = right_lengths_lem s (length b) long words in
    let bytes : open_store s b ≡ written [] s = cond-true (right_lengths (length s) (length b)) (written [] s) s right in
    let empty : units (open_store s b) ≡ [] = ap units bytes ∙ (emptied s long).0 in
    record {
      stored = empty;
      kept = subst Kept empty (kept_units (open_store s b));
      read = λ u among. absurd (omega (arith, among.1));
      long = ap length bytes ∙ (emptied s long).1 ∙ long;
      zeros = cond-true (right_lengths (length s) (length b)) (replicate (length b) 0) b right ∙ ap (λ (n : ℕ). replicate n 0) words;
    }

pub register_law : (K : Type 0) (ws : List Word) → RegisterLaw K ws
register_law K ws store book long words cs = all_calls K ws [] (opened store book) cs (just_opened K ws store book long words)
