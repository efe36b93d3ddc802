-- Records that remember no keys, opened: which principals they show does not rest on the history key.
use Rattle.std.proofs.Common.{◌≡◌, ℕ, List, [], ◌∷◌, length, get_or, arith, Option}
use Rattle.std.proofs.Common.{Some, Result, Ok, Err, refl, sym, ap, subst, ◌∙◌}
use Rattle.std.specs.Prelude.{IfOk, MatchResult}
use Rattle.std.specs.List.{AllZip}
use Rattle.kdb_base.specs.Key.{Key}
use Rattle.kdb_base.specs.declared.versions.Activation.{Activation}
use Rattle.kdb_base.specs.declared.versions.Master.{Master}
use Rattle.kdb_plain.specs.States.{master_of}
use Rattle.kdb_plain.specs.declared.princs.PlainPrinc.{PlainPrinc}
use Rattle.master_keys.specs.First.{master_name}
use Rattle.master_keys.specs.declared.faults.Unopened.{Unopened}
use Rattle.master_keys.specs.declared.faults.Unopened.TheVariants as unopened
use Rattle.plan_tests.specs.Opened.{AreActivations, AreAlone, IsAlone}
use Rattle.princ_record.specs.declared.facts.ChainPart.{ChainPart}
use Rattle.princ_record.specs.declared.princs.Princ.{Princ}
use Rattle.row_keys.specs.Lookups.{record_named}
use Rattle.row_keys.specs.Shows.{ShowsChain, ShowsPrinc, ShowsSet, ShowsUnder}

some_key : (a b : Key) → ◌≡◌ {A = Option Key} (Some a) (Some b) → a ≡ b
some_key a b e = cc

some_princ : (a b : Princ) → ◌≡◌ {A = Option Princ} (Some a) (Some b) → a ≡ b
some_princ a b e = cc

some_part : (a b : ChainPart) → ◌≡◌ {A = Option ChainPart} (Some a) (Some b) → a ≡ b
some_part a b e = cc

none_alike : {A B : Type 0} (R S : A → B → Type 0) (plain : List B) → AllZip R [] plain → AllZip S [] plain
none_alike R S [] h = h
none_alike R S (b ∷ bs) h = absurd h

-- under any other history key it shows the same
other_history : (master history other : Key) (p : Princ) (q : PlainPrinc) → p.old ≡ [] → ShowsUnder master history p q
    → ShowsUnder master other p q
other_history master history other p q none f = record {
  fields = f.fields;
  keys = f.keys;
  old = subst (λ old. AllZip (ShowsSet other) old q.old) (sym none)
      (none_alike (ShowsSet history) (ShowsSet other) q.old
      (subst (λ old. AllZip (ShowsSet history) old q.old) none f.old));
}

abbrev IsOnly : Key → Princ → Result PlainPrinc Unopened → Type 0
IsOnly master p found = (q : PlainPrinc) → ShowsUnder master master p q
    → MatchResult found (λ x. x ≡ q) (λ fault. fault ≡ unopened.MemoryOut)

pub opened_alone : (masters : List Master) (key master : Key) (p : Princ) (q : PlainPrinc)
    → master_of masters p.mkvno ≡ Some key → master ≡ key → p.old ≡ []
    → IsOnly master p (Ok q) → IsAlone masters p q
opened_alone masters key master p q named same none only = λ history other shown.
    let is_master : shown.master ≡ master =
    some_key shown.master master (sym shown.named ∙ named ∙ ap Some (sym same)) in
    only other (other_history master history master p other none
    (subst (λ (m : Key). ShowsUnder m history p other) is_master shown.under))

-- three records
three_alone_of : (masters : List Master) (a b c : Princ) (qa qb qc : PlainPrinc) → IsAlone masters a qa
    → IsAlone masters b qb → IsAlone masters c qc
    → (history : Key) (others : List PlainPrinc) → AllZip (ShowsPrinc masters history) (a ∷ b ∷ c ∷ []) others
    → qa ∷ qb ∷ qc ∷ [] ≡ others
three_alone_of masters a b c qa qb qc fa fb fc history [] h = absurd h
three_alone_of masters a b c qa qb qc fa fb fc history (x ∷ []) h = absurd h.1
three_alone_of masters a b c qa qb qc fa fb fc history (x ∷ y ∷ []) h = absurd h.1.1
three_alone_of masters a b c qa qb qc fa fb fc history (x ∷ y ∷ z ∷ []) h =
    let ea = fa history x h.0 in let eb = fb history y h.1.0 in let ec = fc history z h.1.1.0 in cc
three_alone_of masters a b c qa qb qc fa fb fc history (x ∷ y ∷ z ∷ w ∷ more) h = absurd h.1.1.1

pub three_alone : (masters : List Master) (princs : List Princ) (plain : List PlainPrinc) (a b c : Princ)
    (qa qb qc : PlainPrinc)
    → princs ≡ a ∷ b ∷ c ∷ [] → plain ≡ qa ∷ qb ∷ qc ∷ [] → IsAlone masters a qa → IsAlone masters b qb
    → IsAlone masters c qc → AreAlone masters princs plain
three_alone masters princs plain a b c qa qb qc are plain_are fa fb fc = λ history others h.
    plain_are ∙ three_alone_of masters a b c qa qb qc fa fb fc history others
    (subst (λ (ps : List Princ). AllZip (ShowsPrinc masters history) ps others) are h)

pub three_of : (xs : List Princ) (a b c : Princ) → length xs ≡ 3 → a ≡ get_or xs 0 a → b ≡ get_or xs 1 b
    → c ≡ get_or xs 2 c → xs ≡ a ∷ b ∷ c ∷ []
three_of [] a b c len is_a is_b is_c = absurd (omega (arith, len))
three_of (x ∷ []) a b c len is_a is_b is_c = absurd (omega (arith, len))
three_of (x ∷ y ∷ []) a b c len is_a is_b is_c = absurd (omega (arith, len))
three_of (x ∷ y ∷ z ∷ []) a b c len is_a is_b is_c = cc
three_of (x ∷ y ∷ z ∷ w ∷ more) a b c len is_a is_b is_c = absurd (omega (arith, len))

-- the activations of the record that has K/M's name
pub activations_alone : (realm : List ℕ) (princs : List Princ) (p : Princ) (part : ChainPart)
    (activations : List Activation) → record_named (master_name realm) princs ≡ Some p
    → p.chain ≡ Some part → activations ≡ part.activations → AreActivations realm princs activations
activations_alone realm princs p part activations there has are = λ masters others entry found shown.
    let same : entry ≡ p = some_princ entry p (sym found ∙ there) in
    let chain : entry.chain ≡ Some part = ap (λ (e : Princ). e.chain) same ∙ has in
    are ∙ ap (λ (x : ChainPart). x.activations) (some_part part shown.part (sym chain ∙ shown.part_is))
    ∙ shown.activations_are
