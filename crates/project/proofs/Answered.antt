-- What put and drop answer where the store decides.
use Rattle.std.proofs.Common.{◌≡◌, ℕ, Bool, true, false, cond, List, length, is_ok, None, Some, Ok, Err, Option, Result, sym, refl, ap, ◌∙◌}
use Rattle.std.proofs.lemmas.Bool.{cond-true}
use Rattle.cores.specs.Meaning.{Word}
use Rattle.reader.specs.declared.fault.ReadFault.{ReadFault}
use Rattle.reader.specs.Answers.{Heading, unit_answer}
use Rattle.store.specs.declared.units.Refusal.{Refusal}
use Rattle.store.specs.declared.units.Refusal.TheVariants.{Full as FullStore, Missing}
use Rattle.store.specs.Entries.{seat}
use Rattle.store.specs.Layout.{stored}
use Rattle.store.specs.Names.{name_number, number_of}
use Rattle.store.specs.Units.{units, put_in, taken_out}
use Rattle.store.specs.Calls.{put_answer, remove_answer}
use Rattle.project.specs.declared.fault.Question.TheVariants.{Lengths, Full, NotStored}
use Rattle.project.specs.declared.fault.Fault.{Fault}
use Rattle.project.specs.Faults.{about, without}
use Rattle.project.specs.Calls.{right_lengths, lengths_answer, unit_for, as_unit, unit_of, has_room, stores, put_among, drop_among, accepted, put_outcome, drop_outcome}
use Rattle.project.proofs.Headings.{heading_read}
use Rattle.project.proofs.Changing.{last_question, drop_question}
use Rattle.project.proofs.Meaning.{long_is}

-- where the question about the lengths is answered yes, they are right
pub lengths_right : {K : Type 0} (store book : ℕ) (u : Option ℕ) → Ok tt ≡ lengths_answer {K = K} store book u → right_lengths store book ≡ true
lengths_right {K} store book u e = go (right_lengths store book) refl e
  where
    go : (t : Bool) → right_lengths store book ≡ t → ◌≡◌ {A = Result (Unit {0}) (Fault K)} (Ok tt) (cond t (Ok tt) (Err (about u Lengths))) → right_lengths store book ≡ true
    go true is h = is
    go false is h = cc

pub lengths_wrong : {K : Type 0} (store book : ℕ) (u : Option ℕ) (x : Fault K) → Err x ≡ lengths_answer store book u →
    (right_lengths store book ≡ false) × (x ≡ about u Lengths)
lengths_wrong {K} store book u x e = go (right_lengths store book) refl e
  where
    go : (t : Bool) → right_lengths store book ≡ t → ◌≡◌ {A = Result (Unit {0}) (Fault K)} (Err x) (cond t (Ok tt) (Err (about u Lengths))) → (right_lengths store book ≡ false) × (x ≡ about u Lengths)
    go true is h = cc
    go false is h = (is, cc)

-- a put of a text that reads is accepted where the store takes its unit
pub put_told : {K : Type 0} (ws : List Word) (s : List ℕ) (b k : ℕ) (text : List ℕ) {h : Heading} (r : Result ℕ Refusal) →
    Ok tt ≡ lengths_answer {K = K} (length s) b None → Ok h ≡ unit_answer ws text k → r ≡ put_answer s text h.place (length h.name) →
    accepted (put_outcome {K = K} ws s b k text) ≡ cond (is_ok r) (Ok tt) (Err (without Full))
put_told {K} ws s b k text {h} r ok read answer =
    let right = lengths_right {K = K} (length s) b None ok in
    ap accepted (cond-true (right_lengths (length s) b) (put_among (unit_of ws text k) (units s)) (Err (without Lengths)) right)
    ∙ ap (λ (x : Result Heading ReadFault). accepted (put_among {K = K} (as_unit text x) (units s))) (sym read)
    ∙ both (has_room (number_of h.name) (units s))
    ∙ ap (λ (x : Result ℕ Refusal). cond (is_ok x) (Ok tt) (Err (without Full))) (sym (answer ∙ last_question s text k h (heading_read ws text k h (sym read)) (long_is s b right)))
  where
    both : (t : Bool) → accepted (cond t (Ok (put_in (unit_for text h) (units s))) (Err (without {K = K} Full)))
        ≡ cond (is_ok (cond t (Ok (seat (number_of h.name) (stored s))) (Err FullStore))) (Ok tt) (Err (without Full))
    both true = refl
    both false = refl

-- a drop of a name is accepted where the store gives up a unit of that name
pub drop_told : {K : Type 0} (s : List ℕ) (b : ℕ) (name : List ℕ) (o : Option ℕ) (n : ℕ) (r : Result ℕ Refusal) →
    Ok tt ≡ lengths_answer {K = K} (length s) b o → name_number name ≡ Some n → r ≡ remove_answer s n →
    accepted (drop_outcome {K = K} s b name) ≡ cond (is_ok r) (Ok tt) (Err (about (Some n) NotStored))
drop_told {K} s b name o n r ok named answer =
    let right = lengths_right {K = K} (length s) b o ok in
    ap accepted (cond-true (right_lengths (length s) b) (drop_among (name_number name) (units s)) (Err (about (name_number name) Lengths)) right)
    ∙ ap (λ (x : Option ℕ). accepted (drop_among {K = K} x (units s))) named
    ∙ both (stores n (units s))
    ∙ ap (λ (x : Result ℕ Refusal). cond (is_ok x) (Ok tt) (Err (about (Some n) NotStored))) (sym (answer ∙ drop_question s n (long_is s b right)))
  where
    both : (t : Bool) → accepted (cond t (Ok (taken_out n (units s))) (Err (about {K = K} (Some n) NotStored)))
        ≡ cond (is_ok (cond t (Ok (seat n (stored s))) (Err Missing))) (Ok tt) (Err (about (Some n) NotStored))
    both true = refl
    both false = refl
