-- What is kept of an input tells which keytab it is, and what is answered and written.
use Rattle.std.proofs.Common.{◌≡◌, ℕ, suc, ◌≤◌, Bool, true, false, inl, inr, List, []}
use Rattle.std.proofs.Common.{◌∷◌, length, take, refl, sym, ap, subst, ◌∙◌, arith}
use Rattle.std.specs.Prelude.{Option, Some, Result, Ok, Err, IfOk, OnOk, OnErr, nat_lt, ◌||◌, if◌then◌else◌}
use Rattle.std.specs.List.{filter, list_any}
use Rattle.std.proofs.lemmas.List.{length-take, take_all}
use Rattle.kadm_keytabs.specs.Answers.{Answers, IsPartWritten, IsWritten, refusal_answer}
use Rattle.kadm_keytabs.specs.Inputs.{IsBadInput, IsBrokenInput, IsKept, IsKeytabInput, longest_keytab, most_kept}
use Rattle.kadm_keytabs.specs.Removals.{is_asked}
use Rattle.kadm_keytabs.specs.declared.answers.Answer.{Answer}
use Rattle.kdb_base.specs.declared.outcomes.Refusal.TheVariants.{BadKeytab}
use Rattle.kdb_ports.specs.Parts.{SaidPart}
use Rattle.kdb_ports.specs.Told.{after_told}
use Rattle.keytab_out.specs.Removed.{removed}
use Rattle.keytab_out.specs.declared.removing.Which.{Which}
use Rattle.keytab_out.specs.declared.removing.Which.TheVariants.{One}
use Rattle.princ_name.specs.Names.{NameParts}
use Rattle.stash_file.specs.Pieces.{Told}

-- what was kept is all, where that is no longer than a keytab
all_kept : (text : List ℕ) → length (take most_kept text) ≤ longest_keytab → take most_kept text ≡ text
all_kept text within = take_all most_kept text (omega (arith, length-take most_kept text, within))

pub keytab_kept : (text : List ℕ) (entries : List Told) → IsKeytabInput (take most_kept text) entries
    → IsKeytabInput text entries
keytab_kept text entries k = subst (λ (t : List ℕ). IsKeytabInput t entries) (all_kept text k.within) k

pub bad_kept : (text : List ℕ) (place : ℕ) → IsBadInput (take most_kept text) place → IsBadInput text place
bad_kept text place (inl l) =
    inl (record { longer = omega (arith, length-take most_kept text, l.longer); place_is = l.place_is })
bad_kept text place (inr b) = inr (subst (λ (t : List ℕ). IsBrokenInput t place) (all_kept text b.within) b)

answers_kept : (answers_to : List Told → Answer → Type 0) (text : List ℕ) (answer : Answer)
    → Answers answers_to (take most_kept text) answer → Answers answers_to text answer
answers_kept answers_to text answer (inl r) =
    inl (record { entries = r.entries; keytab = keytab_kept text r.entries r.keytab; answered = r.answered })
answers_kept answers_to text answer (inr n) =
    inr (record { place = n.place; bad = bad_kept text n.place n.bad; answer_is = n.answer_is })

-- an answer to what was kept is one to the whole
pub answers_whole : (answers_to : List Told → Answer → Type 0) (told : Option (List ℕ)) (text kept bytes : List ℕ)
    (answer : Answer) → told ≡ Some text → IsKept told kept → bytes ≡ kept
    → Answers answers_to bytes answer → Answers answers_to text answer
answers_whole answers_to told text kept bytes answer is front same answers =
    let all : kept ≡ take most_kept text = subst (λ (t : Option (List ℕ)). IsKept t kept) is front in
    answers_kept answers_to text answer (subst (λ (b : List ℕ). Answers answers_to b answer) (same ∙ all) answers)

-- ---- what is answered to what was kept

pub read_so : {E : Type 0} (result : Result Answer E) (answers_to : List Told → Answer → Type 0) (kept : List ℕ)
    (entries : List Told) → IsKeytabInput kept entries
    → IfOk result (λ answer. answers_to entries answer) → IfOk result (λ answer. Answers answers_to kept answer)
read_so (Ok answer) answers_to kept entries keytab is =
    inl (record { entries = entries; keytab = keytab; answered = is })
read_so (Err e) answers_to kept entries keytab is = tt

pub refused_so : {E : Type 0} (result : Result Answer E) (answers_to : List Told → Answer → Type 0) (kept : List ℕ)
    (place told : ℕ) → IsBadInput kept place → place ≡ told
    → IfOk result (λ answer. answer ≡ refusal_answer (BadKeytab told))
    → IfOk result (λ answer. Answers answers_to kept answer)
refused_so (Ok answer) answers_to kept place told bad same is =
    inr (record { place = told; bad = subst (IsBadInput kept) same bad; answer_is = is })
refused_so (Err e) answers_to kept place told bad same is = tt

-- ---- what is written of it

pub written_so : {E : Type 0} (result : Result Bool E) (answers : Answer → Type 0) (answer : Answer)
    (old new : Option (List ℕ)) → answers answer
    → IfOk result (λ refused. refused ≡ answer.refused) → OnOk result (new ≡ after_told old answer.text)
    → IfOk result (λ refused. IsWritten answers refused old new)
written_so (Ok refused) answers answer old new is told taken =
    record { answer = answer; is = is; refused_is = told; taken_is = taken }
written_so (Err e) answers answer old new is told taken = tt

pub part_so : {T E : Type 0} (result : Result T E) (halt : E) (answers : Answer → Type 0) (answer : Answer)
    (old new : Option (List ℕ)) → answers answer
    → OnErr result (SaidPart answer.text old new) → result ≡ Err halt → IsPartWritten answers old new
part_so result halt answers answer old new is part e = record {
  answer = answer;
  is = is;
  part = subst (λ (r : Result _ _). OnErr r (SaidPart answer.text old new)) e part;
}

-- ---- whether an entry is asked for

positive : (n : ℕ) → nat_lt 0 (suc n) ≡ true
positive n = search (arith)

-- some item passes where one is among those that pass
any_left : {A : Type 0} (p : A → Bool) (xs : List A) → nat_lt 0 (length (filter p xs)) ≡ list_any p xs
any_left p [] = refl
any_left p (x ∷ xs) = one (p x) (any_left p xs)
  where
    one : (b : Bool) → nat_lt 0 (length (filter p xs)) ≡ list_any p xs
        → nat_lt 0 (length (if b then x ∷ filter p xs else filter p xs)) ≡ (b || list_any p xs)
    one true rest = positive (length (filter p xs))
    one false rest = rest

pub asked_by_count : (name : NameParts) (which : Which) (version count : ℕ) (entries : List Told) → which ≡ One version
    → count ≡ length (removed name which entries)
    → nat_lt 0 count ≡ list_any (is_asked name which) entries
asked_by_count name which version count entries is e =
    ap (nat_lt 0) e
    ∙ subst (λ (w : Which). nat_lt 0 (length (removed name w entries)) ≡ list_any (is_asked name w) entries) (sym is)
    (any_left (is_asked name (One version)) entries)
